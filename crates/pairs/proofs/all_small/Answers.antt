-- What the search leaves of `all_small`.
use mathlib.Core.Path.{◌≡◌, sym, ◌∙◌}
use mathlib.Core.Bool.{Bool}
use Prim.Native.Nat.{ℕ, ◌+◌}
use native.Mathlib.Omega.{arith}
use lib.ListN.{length, get_or}
use lib.Ieee.{nan}
use Rattle.zeros.proofs.Laws.{all_none, all-not}
use Rattle.kernels.proofs.Laws.{all-passed}
use Rattle.pairs.specs.Within.{within, all_within}
use borrow.Author.Rules.{rules}
use Rattle.pairs.proofs.all_small.Goals.{else-not-is_small, then-not-is_small}
use Rattle.pairs.proofs.all_small.Goals as goal

pub loop-i-init : goal.loop-i-init
loop-i-init c = (search rules, sym (all_none _))

pub loop-i-preserved : goal.loop-i-preserved
loop-i-preserved c =
    let lanes = c.args.lanes.now in
    let p : ℕ → Bool = λ (j : ℕ). within 30 (get_or lanes j nan) in
    let i = c.loop-i.i in
    (search rules, elim c.if-not-is_small.branch [ then-not-is_small w ↦ w.all-is ∙ sym (all-not p (i + 1) i (omega arith) (sym c.is_small.ensures ∙ w.if-not-is_small.true)) | else-not-is_small w ↦ w.all-is ∙ c.loop-i.invariant.1 ∙ all-passed p i (sym c.is_small.ensures ∙ w.if-not-is_small.false) ])

pub returns : goal.returns
unfolding all_within
returns c =
    let end : c.loop-i.i ≡ length c.args.lanes.now = search rules in
    c.loop-i.invariant.1 ∙ rw end
