-- `refusals_build::put_long` meets its contract. Assumes nothing.
use Rattle.pages.specs.Page.{bytes}
use Rattle.pages.proofs.Laws.{puts_both}
use Rattle.refusals_build.specs.Texts.{long_text}
use Rattle.refusals_build.proofs.put_long.Goals as goal

pub returns-then-is_empty : goal.returns-then-is_empty
unfolding long_text bytes
returns-then-is_empty c = rw (← c.is_empty.ensures, c.if-is_empty.true) c.put.ensures

pub returns-then-not-kept : goal.returns-then-not-kept
unfolding long_text bytes
returns-then-not-kept c = rw (← c.is_empty.ensures, c.if-is_empty.false, ← c.kept.ensures, c.if-not-kept.true) c.put_word-first.ensures

pub returns : goal.returns
unfolding long_text bytes
returns c =
    let first = c.put_word-first.ensures in
    rw (← c.is_empty.ensures, c.if-is_empty.false, ← c.kept.ensures, c.if-not-kept.false) (puts_both (puts_both first c.put_number-behind.ensures) c.put-2.ensures)
