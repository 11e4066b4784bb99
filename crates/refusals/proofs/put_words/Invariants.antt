-- `refusals::put_words` meets its contract: what was put and what is left are the whole. Assumes nothing.
use Rattle.std.proofs.Common.{drop}
use Rattle.pages.proofs.Laws.{Running}
use Rattle.refusals.specs.Texts.{words_text}
use Rattle.refusals.proofs.put_words.Given as goal

abbrev pub invariant-loop-word : goal.invariant-loop-word
invariant-loop-word l = Running l.initial.place (words_text l.first) l.initial.page (words_text (drop l.word-index l.first)) l.page l.place
