-- Each list in its room: the first places written, and zeros behind them. Assumes nothing.
use mathlib.Core.Path.{◌≡◌, refl, sym, ap, ◌∙◌}
use mathlib.Core.List.{List, [], ◌++◌, append-nil}
use Prim.Native.Nat.{ℕ, suc, ◌+◌, ◌-◌, ◌*◌, ◌≤◌, ◌<◌}
use native.Mathlib.Nat.{suc-mul, mul-le-mul, mul-le-mul_right}
use native.Mathlib.Omega.{arith}
use borrow.Rule.Slice.PartMut.{put_mid}
use lib.ListN.{length, take, drop, replicate, length-append, length-take, length-drop, drop_of_length-le}
use lib.Seq.{take_at, length-take-le}
use Rattle.rules.specs.Loops.{each, part}
use Rattle.rules.specs.Places.{padded}
use Rattle.rules.proofs.Loops.{length-each, part-each}
use Rattle.rules.proofs.Places.{length-padded}
use Rattle.relay_close.proofs.Blocks.{Blocks, blocks_none, blocks_turn}

module _ {A : Type 0} (z : A) where
  -- a list over the front of its room, and the m places behind it zeroed
  pub roomed : (m : ℕ) (src dst mid ys : List A) → length src ≤ length dst → mid ≡ src ++ drop (length src) dst → m ≡ length mid - length src → ys ≡ replicate (length (take m (drop (length src) mid))) z
      → put_mid (length src) m mid ys ≡ padded (length dst) z src
  unfolding padded
  roomed m src dst mid ys g e cut f =
      let k = length src in
      let b : length mid ≡ length dst = ap length e ∙ length-append src (drop k dst) ∙ (let c = length-drop k dst in omega arith) in
      let front : take k mid ≡ src = ap (take k) e ∙ take_at src (drop k dst) k refl in
      let n : length (take m (drop k mid)) ≡ length dst - k = length-take-le m (drop k mid) (simp length-drop (omega arith)) ∙ omega arith in
      let behind : drop m (drop k mid) ≡ [] = drop_of_length-le (drop k mid) {i = m} (simp length-drop (omega arith)) in
      rw (front, behind) (ap (λ (l : List A). src ++ l) (append-nil ys ∙ f ∙ ap (λ (i : ℕ). replicate i z) n))

  -- ---- the rooms one behind the other

  module _ (n k : ℕ) (few : n ≤ 1024) (size : k ≤ 64) (src : List A) (long : length src ≡ n * k) where
    abbrev pub rooms : List A
    rooms = each (λ (w : ℕ). padded (k + 64) z (part k w src)) n

    short-part : (w : ℕ) → length (part k w src) ≤ k
    unfolding part
    short-part w = let e = length-take k (drop (w * k) src) in omega arith

    wide : (w : ℕ) → length (padded (k + 64) z (part k w src)) ≡ k + 64
    wide w = length-padded (k + 64) z (part k w src) (let e = short-part w in omega arith)

    pub rooms_long : length rooms ≡ n * (k + 64)
    rooms_long = length-each (λ (w : ℕ). padded (k + 64) z (part k w src)) (k + 64) wide n

    pub record Where (w : ℕ) : Type 0 where
      pub read : w * k + k ≤ n * k
      pub written : w * (k + 64) + (k + 64) ≤ n * (k + 64)
      pub small : n * (k + 64) ≤ 131072
      pub less : n * k ≤ 65536

    pub where_is : (w : ℕ) → w < n → Where w
    where_is w h =
        let s = suc-mul w k in
        let t = suc-mul w (k + 64) in
        let a : suc w * k ≤ n * k = mul-le-mul_right k h in
        let b : suc w * (k + 64) ≤ n * (k + 64) = mul-le-mul_right (k + 64) h in
        let c : n * (k + 64) ≤ 1024 * 128 = mul-le-mul few (let e : k + 64 ≤ 128 = omega arith in e) in
        let d : n * k ≤ 1024 * 64 = mul-le-mul few size in
        record { read = omega arith; written = omega arith; small = omega arith; less = omega arith }

    pub rooms_none : (dst : List A) → length dst ≡ n * (k + 64) → Blocks rooms (k + 64) 0 dst
    rooms_none dst h = blocks_none rooms (k + 64) dst (h ∙ sym rooms_long)

    pub rooms_turn : {w : ℕ} {dst ys : List A} → Blocks rooms (k + 64) w dst → w < n → (m p : ℕ) → m ≡ k → p ≡ k + 64
        → ys ≡ padded (length (take p (drop (w * (k + 64)) dst))) z (take m (drop (w * k) src)) → Blocks rooms (k + 64) (w + 1) (put_mid (w * (k + 64)) p dst ys)
    unfolding part
    rooms_turn {w} {dst} {ys} inv h m p cut wide_p made =
        let x = where_is w h in
        let read = x.read in
        let written = x.written in
        let l = inv.long in
        let g = rooms_long in
        let a : length (take p (drop (w * (k + 64)) dst)) ≡ k + 64 = length-take-le p (drop (w * (k + 64)) dst) (simp length-drop (omega arith)) ∙ wide_p in
        let same : ys ≡ padded (k + 64) z (part k w src) =
        made ∙ ap (λ (i : ℕ). padded i z (take m (drop (w * k) src))) a ∙ ap (λ (i : ℕ). padded (k + 64) z (take i (drop (w * k) src))) cut in
        blocks_turn inv p ys wide_p (omega arith) (ap length same ∙ wide w) (same ∙ sym (part-each (λ (v : ℕ). padded (k + 64) z (part k v src)) (k + 64) wide w n h))
