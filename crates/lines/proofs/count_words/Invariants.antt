-- `lines::count_words` meets its contract: what is left counts what the whole counts. Assumes nothing.
use Rattle.std.proofs.Common.{◌≡◌, ◌+◌, ◌-◌}
use Rattle.lines.specs.Words.{words_from}
use Rattle.lines.proofs.count_words.Given as goal

abbrev pub invariant-loop-count : goal.invariant-loop-count
invariant-loop-count l = l.count + words_from (1024 - l.count) l.text l.at ≡ words_from 1024 l.text l.from
