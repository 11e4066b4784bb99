-- What the search leaves of `renews::gather`.
use mathlib.Core.Path.{ap}
use Prim.Native.Nat.{ℕ}
use mathlib.Core.List.{List}
use native.Mathlib.Omega.{arith}
use lib.ListN.{get_or}
use Rattle.renews.proofs.Laws.{gathering_none, gathering_taken, gathering_passed, gathering_end, part_cut}
use Rattle.meets.proofs.Laws.{where_is}
use Rattle.renews.proofs.gather.Goals.{then-is_taken, else-is_taken}
use Rattle.renews.proofs.gather.Goals as goal

pub loop-v-init : goal.loop-v-init
loop-v-init c = gathering_none _ _ _ _ _ c.requires.2

pub loop-v-preserved : goal.loop-v-preserved
loop-v-preserved c =
    let p = c.requires in
    let s = where_is _ _ _ p.1 p.0.few p.0.narrow in
    let inside = s.inside in
    let words = p.0.words in
    let cut = part_cut c.args.k c.args.i.0 c.args.words.now (omega arith) in
    let below = c.loop-v-test.true in
    let long = cut.1 in
    elim c.if-is_taken.branch [
      | then-is_taken w ↦ rw (w.out-is, w.len-is) (gathering_taken _ _ _ _ _ c.loop-v.invariant (omega arith) (omega arith) (ap (λ (l : List ℕ). get_or l c.loop-v.v-index 0) cut.0) p.0.narrow w.if-is_taken.true c.is_taken.ensures)
      | else-is_taken w ↦ rw (w.out-is, w.len-is) (gathering_passed _ _ _ _ _ c.loop-v.invariant (omega arith) (omega arith) (ap (λ (l : List ℕ). get_or l c.loop-v.v-index 0) cut.0) w.if-is_taken.false c.is_taken.ensures)
    ]

pub returns : goal.returns
returns c =
    let p = c.requires in
    let s = where_is _ _ _ p.1 p.0.few p.0.narrow in
    let inside = s.inside in
    let words = p.0.words in
    let long = (part_cut c.args.k c.args.i.0 c.args.words.now (omega arith)).1 in
    gathering_end _ _ _ _ _ c.loop-v.invariant (omega arith)
