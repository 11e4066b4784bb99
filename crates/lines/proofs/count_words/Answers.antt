-- What the search leaves of `lines::count_words`.
use Rattle.std.proofs.Common.{◌≡◌, sym, ◌∙◌, arith, rules}
use Rattle.lines.proofs.Laws.{count_start, count_none, count_turn, count-all}
use Rattle.lines.proofs.count_words.Goals as goal

pub loop-count-init : goal.loop-count-init
loop-count-init c = count_start _ 1024 _

pub returns-then-w : goal.returns-then-w
returns-then-w c =
    sym (count_none _ 1024 _ _ _ c.next_word-w.ensures (search rules) c.if-w.true) ∙ c.loop-count.invariant

pub loop-count-preserved : goal.loop-count-preserved
loop-count-preserved c =
    count_turn _ 1024 _ _ _ c.next_word-w.ensures (search rules) c.if-w.false ∙ c.loop-count.invariant

pub returns : goal.returns
returns c =
    let all : 1024 ≡ c.loop-count.count = omega arith in
    all ∙ (sym (count-all _ 1024 _ _ (search rules)) ∙ c.loop-count.invariant)
