-- One turn and the end of the loop over a list's cases. Assumes nothing.
use Rattle.std.proofs.Common.{◌≡◌, ℕ, suc, ◌+◌, ◌-◌, ◌<◌, ◌≤◌, List, Option, Some, None, arith}
use Rattle.cases.specs.declared.Cursor.{Cursor}
use Rattle.cases.specs.declared.Read.{Read}
use Rattle.kinds.specs.declared.Kind.{Kind}
use Rattle.kinds.specs.Kinds.{kind_at}
use Rattle.tallies.specs.declared.Outcome.{Outcome}
use Rattle.tallies.specs.declared.Tally.{Tally}
use Rattle.tallies.specs.Tallies.{counted, closed, tallied}

module _ (came : List ℕ → Kind → Cursor → Option Outcome) (done most : ℕ) (text : List ℕ) (t : Tally) where
  pub tallied_over : most ≤ done → t ≡ tallied came (most - done) text t
  unfolding tallied
  tallied_over h =
      let none : most - done ≡ 0 = omega arith in
      rw none

  module _ (h : done < most) (case : Read (Option Kind)) (e : case ≡ kind_at text t.compared t.cursor) where
    left : most - done ≡ suc (most - (done + 1))
    left = omega arith

    pub tallied_end : case.value ≡ None → closed t case ≡ tallied came (most - done) text t
    unfolding tallied
    tallied_end none = rw (left, ← e, none)

    pub tallied_other : (kind : Kind) → case.value ≡ Some kind → None ≡ came text kind case.cursor → closed t case ≡ tallied came (most - done) text t
    unfolding tallied
    tallied_other kind some none = rw (left, ← e, some, ← none)

    pub tallied_turn :
        (kind : Kind) (o : Outcome) (next : Tally) → case.value ≡ Some kind → Some o ≡ came text kind case.cursor → next ≡ counted t o
        → tallied came (most - (done + 1)) text next ≡ tallied came (most - done) text t
    unfolding tallied
    tallied_turn kind o next some there more = rw (left, ← e, some, ← there, more)
