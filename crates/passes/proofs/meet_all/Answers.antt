-- What the search leaves of `passes::meet_all`.
use mathlib.Core.Path.{◌≡◌, ap}
use mathlib.Core.List.{List, [], ◌∷◌}
use Prim.Native.Nat.{ℕ, ◌*◌}
use native.Mathlib.Omega.{arith}
use lib.ListN.{drop}
use Rattle.rules.specs.Loops.{through}
use Rattle.rules.specs.Descent.{meet_all, passes}
use Rattle.rules.specs.DescentPlaces.{context_in}
use Rattle.passes.specs.Passes.{contexts_in}
use Rattle.passes.proofs.Laws.{doing_none, doing_more, doing_end, turns-each, does_pairs}
use Rattle.lists.proofs.Plain.{to_end}
use Rattle.passes.proofs.meet_all.Goals as goal

pub loop-i-init : goal.loop-i-init
loop-i-init c = doing_none _ _ 28672 _ _ _ _

pub loop-i-preserved : goal.loop-i-preserved
loop-i-preserved c =
    doing_more _ _ 28672 _ c.loop-i.invariant (does_pairs _ (ap (λ (l : List ℕ). passes (context_in l)) (to_end (260 * c.loop-i.i) c.args.contexts.now)) c.passes-total.ensures) (omega arith)

pub returns : goal.returns
unfolding contexts_in meet_all through
returns c =
    let i = c.loop-i.i in
    let past = c.loop-i-test.false in
    let e : i ≡ c.args.counters.n = omega arith in
    doing_end _ _ 28672 _ i c.loop-i.invariant (λ m. rw e (turns-each _ (λ (j : ℕ). context_in (drop (260 * j) c.args.contexts.now) ∷ []) _ m)) (rw e (omega arith))
