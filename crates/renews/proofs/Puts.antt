-- New and old lists gathered, shuffled and written to their words. Assumes nothing.
use mathlib.Core.Path.{◌≡◌, sym, ap, ◌∙◌}
use mathlib.Core.Bool.{Bool, true, false}
use mathlib.Core.List.{List, ◌++◌}
use Prim.Native.Nat.{ℕ, ◌+◌, ◌-◌, ◌≤◌, ◌<◌}
use native.Mathlib.Omega.{arith}
use lib.ListN.{length, take, drop, length-append, length-drop}
use lib.Seq.{length-take-le, take_at, drop-append-le, take-append-le, take_all}
use Rattle.rules.specs.declared.Neighbor.{Neighbor}
use Rattle.rules.specs.Descent.{list_at, new_of, old_of, drawn_after, kept_new}
use Rattle.rules.specs.DescentPlaces.{member_words}
use Rattle.rules.proofs.Places.{length-member_words}
use Rattle.shuffles.specs.Kept.{KeptNew}
use Rattle.shuffles.proofs.Laws.{drawn-same, drawn-few}
use Rattle.renews.specs.Renews.{Gathered, Source, NewPut, OldPut, chosen}
use Rattle.renews.proofs.Laws.{chosen-new, chosen-old}

module _ {n k i : ℕ} {us found : List ℕ} {len : ℕ} (narrow : k ≤ 64) (below : i < n) where
  gathered_long : {w : Bool} → Gathered n k i w us found len → length (take len found) ≡ len
  gathered_long g = let l = g.long in let m = g.most in length-take-le len found (omega arith)

  gathered_new : Gathered n k i true us found len → (flags : List Bool) (lists : List (List Neighbor)) → Source n k flags lists us → take len found ≡ new_of n i flags (list_at lists i)
  gathered_new g flags lists h =
      g.list flags h.marks (h.below i below) ∙ ap (chosen true n i flags) (sym (h.nodes i below)) ∙ chosen-new n i flags (list_at lists i)

  gathered_old : Gathered n k i false us found len → (flags : List Bool) (lists : List (List Neighbor)) → Source n k flags lists us → take len found ≡ old_of n i flags (list_at lists i)
  gathered_old g flags lists h =
      g.list flags h.marks (h.below i below) ∙ ap (chosen false n i flags) (sym (h.nodes i below)) ∙ chosen-old n i flags (list_at lists i)

  pub old-put : {dst : List ℕ} → Gathered n k i false us found len → dst ≡ member_words (take len found) → OldPut n k i us found dst
  old-put {dst} g e =
      let long = gathered_long g in
      let m = g.most in
      let is : dst ≡ member_words (take len found) = e in
      record {
        list = λ flags lists h. is ∙ ap member_words (gathered_old g flags lists h);
        found_long = g.long;
        dst_long = ap length is ∙ length-member_words (take len found) (omega arith);
      }

  module _ {draws : List ℕ} {s at : ℕ} {ys : List ℕ} {from : ℕ} (g : Gathered n k i true us found len) (kept : KeptNew draws s at (take len found) ys from) where
    ys_long : length ys ≡ len
    ys_long = kept.long ∙ gathered_long g

    abbrev left : List ℕ
    left = ys ++ drop len found

    pub left-long : length left ≡ 64
    left-long =
        let y = ys_long in
        let l = g.long in
        let m = g.most in
        let d = length-drop len found in
        length-append ys (drop len found) ∙ omega arith

    pub shuffled-part : take len left ≡ ys
    shuffled-part = take_at ys (drop len found) len ys_long

    pub from_low : from ≤ len
    from_low = let f = kept.from in let e = gathered_long g in omega arith

    kept-part : take (len - from) (drop from left) ≡ drop from ys
    kept-part =
        let y = ys_long in
        let f = from_low in
        let d = length-drop from ys in
        ap (take (len - from)) (drop-append-le from ys (drop len found) (omega arith))
        ∙ take-append-le (len - from) (drop from ys) (drop len found) (omega arith)
        ∙ take_all (len - from) (drop from ys) (omega arith)

    pub new-put : {dst : List ℕ} {total next : ℕ} → next ≡ drawn_after s at (take len left) → dst ≡ member_words (take (len - from) (drop from left))
        → NewPut draws n k s i us total at left dst (total + len) next
    new-put {dst} {total} {next} after e =
        let y = ys_long in
        let m = g.most in
        let long = gathered_long g in
        let is : dst ≡ member_words (drop from ys) = e ∙ ap member_words kept-part in
        let drew : next ≡ drawn_after s at (take len found) = after ∙ ap (drawn_after s at) shuffled-part ∙ drawn-same s at ys (take len found) (ys_long ∙ sym long) in
        let d = length-drop from ys in
        let high = drawn-few s at (take len found) in
        record {
          list = λ flags lists h. is ∙ ap member_words (kept.list ∙ ap (kept_new draws s at) (gathered_new g flags lists h));
          totalled = λ flags lists h. ap (λ (c : ℕ). total + c) (sym long ∙ ap length (gathered_new g flags lists h));
          drawn = λ flags lists h. drew ∙ ap (drawn_after s at) (gathered_new g flags lists h);
          found_long = left-long;
          dst_long = ap length is ∙ length-member_words (drop from ys) (omega arith);
          most = omega arith;
          last = omega arith;
        }
