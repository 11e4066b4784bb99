-- `lines::next_word` meets its contract: what is left says what the whole says. Assumes nothing.
use Rattle.std.proofs.Common.{◌≡◌, ◌≤◌, length, drop, max}
use Rattle.lines.specs.Words.{word_of, word_at}
use Rattle.lines.proofs.next_word.Given as goal

abbrev pub invariant-loop-end : goal.invariant-loop-end
invariant-loop-end l = record {
  within : l.end ≤ max l.start (length l.text);
  same : word_of (record { start = l.start; end = l.end; shape = l.shape; digits = l.digits }) (drop l.end l.text) ≡ word_at l.text l.from;
}
