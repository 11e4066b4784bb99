-- What the search leaves of `taught::one_by_one`.
use mathlib.Core.Path.{◌≡◌}
use Prim.Native.Nat.{◌+◌, ◌-◌, ◌*◌}
use native.Mathlib.Omega.{arith}
use Rattle.taught.proofs.Laws.{teaching_more}
use Rattle.exact.proofs.Laws.{exact_listed}
use borrow.Author.Rules.{rules}
use Rattle.taught.proofs.one_by_one.Goals.{In-loop-q}
use Rattle.taught.proofs.one_by_one.Goals as goal

pub loop-q-preserved : goal.loop-q-preserved
loop-q-preserved c =
    let inv = c.loop-q.invariant in
    let p = c.requires in
    let q = c.loop-q.q in
    let k = c.args.init_k in
    let e : q * k + k - q * k ≡ k = omega arith in
    teaching_more inv e (search rules) c.loop-q-test.true p.within.1 p.le_init_k.1 p.le_init_k.2 (exact_listed c.exact_list.ensures) c.exact_list.ensures.row_long c.exact_list.auto.nodes c.exact_list.auto.dists
