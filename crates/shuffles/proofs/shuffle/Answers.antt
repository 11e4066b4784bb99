-- What the search leaves of `shuffles::shuffle`.
use mathlib.Core.Path.{◌≡◌, sym, ap, ◌∙◌}
use Prim.Native.Nat.{ℕ, ◌+◌, ◌-◌}
use native.Mathlib.Omega.{arith}
use Rattle.std.proofs.lemmas.List.Edits.{swap_is}
use Rattle.rules.specs.Descent.{drawn}
use Rattle.shuffles.proofs.Laws.{shuffling_none, shuffling_turn, shuffling_end}
use borrow.Author.Rules.{rules}
use Rattle.shuffles.proofs.shuffle.Goals as goal

pub loop-p-init : goal.loop-p-init
loop-p-init c = shuffling_none _ _ _ (search rules)

pub loop-p-preserved : goal.loop-p-preserved
loop-p-preserved c =
    let long = c.loop-p.invariant.long in
    let inside = c.loop-p.invariant.within in
    let small = c.drawn-q.ensures.1 in
    let e : c.loop-p.p - 1 + 1 ≡ c.loop-p.p = omega arith in
    let q = c.drawn-q.ensures.0 ∙ ap (λ (n : ℕ). drawn c.args.draws.now n c.loop-p.next) e in
    rw (c.swap.ensures.after, sym (swap_is c.loop-p.xs (c.loop-p.p - 1) c.drawn-q.result 0 (omega arith) (omega arith)))
    (shuffling_turn c.loop-p.invariant c.loop-p-test.true q)

pub returns : goal.returns
returns c = shuffling_end c.loop-p.invariant (search rules)
