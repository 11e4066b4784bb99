-- A list shuffled from its last place down, and the draws that are spent. Assumes nothing.
use mathlib.Core.Path.{◌≡◌, refl, sym, ap, ◌∙◌}
use mathlib.Core.Bool.{Bool, true, false, cond}
use mathlib.Core.List.{List}
use Prim.Native.Nat.{ℕ, zero, suc, ◌+◌, ◌-◌, ◌≤◌, ◌<◌}
use native.Mathlib.Numerals.{add-one}
use native.Mathlib.Omega.{arith}
use lib.Dec.{ltb}
use lib.ListN.{length, get_or, set, length-set}
use Rattle.rules.specs.Descent.{drawn, swap, shuffle_from, shuffle, drawn_after}

pub length-swap : (p q : ℕ) (xs : List ℕ) → length (swap p q xs) ≡ length xs
unfolding swap
length-swap p q xs = simp length-set

pub length-shuffle_from : (draws : List ℕ) (at p : ℕ) (xs : List ℕ) → length (shuffle_from draws at p xs) ≡ length xs
unfolding shuffle_from
length-shuffle_from draws at zero xs = refl
length-shuffle_from draws at (suc p) xs =
    length-shuffle_from draws (suc at) p (swap (suc p) (drawn draws (suc (suc p)) at) xs) ∙ length-swap (suc p) (drawn draws (suc (suc p)) at) xs

pub length-shuffle : (draws : List ℕ) (at : ℕ) (xs : List ℕ) → length (shuffle draws at xs) ≡ length xs
unfolding shuffle
length-shuffle draws at xs = length-shuffle_from draws at (length xs - 1) xs

-- the places below count are still to be shuffled, with the draws from next on
pub record Shuffling (draws : List ℕ) (at : ℕ) (xs₀ xs : List ℕ) (next count : ℕ) : Type 0 where
  pub left : shuffle_from draws next (count - 1) xs ≡ shuffle draws at xs₀
  pub long : length xs ≡ length xs₀
  pub within : count ≤ length xs₀
  pub room : next + (count - 1) ≤ length draws

pub shuffling_none : (draws : List ℕ) (at : ℕ) (xs : List ℕ) → at + (length xs - 1) ≤ length draws → Shuffling draws at xs xs at (length xs)
unfolding shuffle
shuffling_none draws at xs h = record { left = refl; long = refl; within = omega arith; room = h }

pub shuffling_turn : {draws : List ℕ} {at : ℕ} {xs₀ xs : List ℕ} {next count q : ℕ} → Shuffling draws at xs₀ xs next count → 1 < count → q ≡ drawn draws count next
    → Shuffling draws at xs₀ (set (set xs (count - 1) (get_or xs q 0)) q (get_or xs (count - 1) 0)) (next + 1) (count - 1)
unfolding shuffle_from swap
shuffling_turn {draws} {at} {xs₀} {xs} {next} {count} {q} inv h drew = go (count - 2) (omega arith)
  where
    go : (p : ℕ) → count ≡ suc (suc p) → Shuffling draws at xs₀ (set (set xs (count - 1) (get_or xs q 0)) q (get_or xs (count - 1) 0)) (next + 1) (count - 1)
    go p e =
        let one : count - 1 ≡ suc p = omega arith in
        let two : count - 1 - 1 ≡ p = omega arith in
        let inside = inv.within in
        let room = inv.room in
        let whole : shuffle_from draws next (suc p) xs ≡ shuffle draws at xs₀ = rw one at inv.left in
        record {
          left = rw (two, one, drew, e, add-one) whole;
          long = length-swap (count - 1) q xs ∙ inv.long;
          within = omega arith;
          room = omega arith;
        }

pub shuffling_end : {draws : List ℕ} {at : ℕ} {xs₀ xs : List ℕ} {next count : ℕ} → Shuffling draws at xs₀ xs next count → count ≤ 1 → xs ≡ shuffle draws at xs₀
unfolding shuffle_from
shuffling_end {draws} {at} {xs₀} {xs} {next} {count} inv h =
    let e : count - 1 ≡ 0 = omega arith in
    sym (ap (λ (p : ℕ). shuffle_from draws next p xs) e) ∙ inv.left

-- ---- the draws that are spent

-- go by the length of a list alone
pub drawn-same : (s at : ℕ) (xs ys : List ℕ) → length xs ≡ length ys → drawn_after s at xs ≡ drawn_after s at ys
unfolding drawn_after
drawn-same s at xs ys e = rw e

pub drawn-few : (s at : ℕ) (xs : List ℕ) → drawn_after s at xs ≤ at + length xs
unfolding drawn_after
drawn-few s at xs = go (ltb s (length xs))
  where
    go : (b : Bool) → cond b (at + (length xs - 1)) at ≤ at + length xs
    go true = omega arith
    go false = omega arith
