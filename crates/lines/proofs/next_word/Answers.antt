-- What the search leaves of `lines::next_word`.
use Rattle.std.proofs.Common.{◌≡◌, sym, ◌∙◌, arith, rules}
use Rattle.lines.proofs.Laws.{word_start, word_end, word_stop, word_turn}
use Rattle.lines.proofs.next_word.Goals as goal

pub loop-end-init : goal.loop-end-init
loop-end-init c = record { within = omega arith; same = word_start _ _ _ c.find-start.ensures }

pub loop-end-preserved : goal.loop-end-preserved
loop-end-preserved c =
    let l = c.loop-end in
    let on = sym c.stops.ensures ∙ c.if-stops.false in
    record {
      within = omega arith;
      same = word_turn _ l.end _ l.digits _ l.shape _ (search rules) on c.shape_with-shape.ensures c.digits_with-digits.ensures ∙ l.invariant.same;
    }

pub returns : goal.returns
returns c =
    let at_end : c.loop-end.end ≡ c.max.result = omega (arith, c.loop-end.invariant.within) in
    rw (← at_end) (sym (word_end c.args.text.now c.loop-end.end _ (search rules)) ∙ c.loop-end.invariant.same)

pub returns-then-stops : goal.returns-then-stops
returns-then-stops c =
    sym (word_stop c.args.text.now c.loop-end.end _ (search rules) (sym c.stops.ensures ∙ c.if-stops.true)) ∙ c.loop-end.invariant.same
