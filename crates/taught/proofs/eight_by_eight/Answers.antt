-- What the search leaves of `taught::eight_by_eight`.
use Prim.Native.Nat.{ℕ}
use native.Mathlib.Omega.{arith}
use Rattle.rules.specs.Distance.{between}
use Rattle.exact.proofs.Eights.{holds_eight}
use Rattle.taught.proofs.Laws.{ranged_join, eight_read}
use borrow.Author.Rules.{rules}
use Rattle.taught.proofs.eight_by_eight.Goals as goal

pub lists_of-requires : goal.lists_of-requires
lists_of-requires c =
    let rows = c.distances_eight.new.rows in
    let long = c.loop-base.invariant.2.long in
    let p = c.requires in
    let fits = p.le_init_k.2 in
    record { holds_eight = (λ (t : ℕ) h k. holds_eight c.args.counters.lanes.now c.args.counters.dimension c.args.counters.n c.loop-base.base rows t c.distances_eight.ensures h k, search rules, search rules, search rules, search rules, search rules); le_init_k = (search rules, search rules, omega arith) }

pub loop-base-preserved : goal.loop-base-preserved
loop-base-preserved c =
    let args = c.args in
    let rows = c.distances_eight.new.rows in
    let d = between args.counters.lanes.now args.counters.dimension in
    (search rules, search rules, ranged_join c.loop-base.invariant.2 c.lists_of.ensures (λ (q : ℕ) lo hi. eight_read d args.counters.n c.loop-base.base rows c.distances_eight.ensures q lo (omega arith) (omega arith)))
