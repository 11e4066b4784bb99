-- What the search leaves of `taught::lists_of`.
use mathlib.Core.Path.{◌≡◌, refl}
use Prim.Native.Nat.{ℕ, ◌+◌, ◌-◌, ◌*◌}
use native.Mathlib.Omega.{arith}
use Rattle.exact.proofs.Laws.{listed_same}
use Rattle.taught.specs.Taught.{eight_in}
use Rattle.taught.proofs.Laws.{teaching_more}
use borrow.Author.Rules.{rules}
use Rattle.taught.proofs.lists_of.Goals as goal

pub loop-p-preserved : goal.loop-p-preserved
loop-p-preserved c =
    let pre = c.requires in
    let p = c.loop-p.p in
    let k = c.args.init_k in
    let e : p * k + k - p * k ≡ k = omega arith in
    let made = c.list_of in
    teaching_more c.loop-p.invariant e (search rules) (search rules) pre.holds_eight.1 pre.le_init_k.1 pre.le_init_k.2 (listed_same {e = eight_in c.args.base c.args.rows.now} (λ (i : ℕ) l. refl) made.ensures) refl made.auto.nodes made.auto.dists
