-- The lists of a context in lent words. Assumes nothing.
use mathlib.Core.Path.{◌≡◌, sym, ap, ◌∙◌}
use mathlib.Core.List.{List, [], ◌∷◌}
use Prim.Native.Nat.{ℕ, zero, suc, ◌+◌, ◌-◌, ◌≤◌}
use native.Mathlib.Omega.{arith}
use lib.ListN.{length, take, drop, get_or, length-drop}
use lib.Seq.{take-take, drop-drop, get_or-drop}
use Rattle.rules.specs.DescentPlaces.{members_in}
use Rattle.rules.proofs.Places.{length-members}
use Rattle.lists.proofs.Plain.{to_end}
use Rattle.passes.specs.Passes.{Below, Short, Members, MembersOf, Contexted}

pub members-short : {n : ℕ} {us : List ℕ} → Members n us → Short n (members_in us)
members-short {n} {us} h = record { below = h.below; few = length-members us }

-- the part of the words that the code cuts out
pub members_cut : {n : ℕ} (us : List ℕ) (at : ℕ) → Members n (drop at us) → MembersOf n (drop at us) (take (at + 1 + get_or us at 0 - (at + 1)) (drop (at + 1) us))
unfolding members_in
members_cut us at h =
    let w = at + 1 + get_or us at 0 - (at + 1) in
    let none : at + 0 ≡ at = omega arith in
    let cut : get_or us at 0 ≡ w = omega arith in
    let len : get_or (drop at us) 0 0 ≡ w = get_or-drop at us 0 0 ∙ ap (λ (i : ℕ). get_or us i 0) none ∙ cut in
    let few = h.few in
    let same : take w (drop (at + 1) us) ≡ members_in (drop at us) =
    sym (take-take w 64 (drop (at + 1) us) (omega arith)) ∙ ap (λ (l : List ℕ). take w (take 64 l)) (sym (drop-drop 1 at us)) ∙ ap (λ (i : ℕ). take i (take 64 (drop 1 (drop at us)))) (sym len) in
    record { list = same; short = rw same (members-short h) }

-- its length and its places lie within the words
pub record ListIn (us : List ℕ) (at : ℕ) : Type 0 where
  pub room : at + 65 ≤ length us
  pub few : get_or us at 0 ≤ 64

pub members-room : {n : ℕ} (us : List ℕ) (at : ℕ) → Members n (drop at us) → ListIn us at
members-room us at h =
    let none : at + 0 ≡ at = omega arith in
    let len : get_or (drop at us) 0 0 ≡ get_or us at 0 = get_or-drop at us 0 0 ∙ ap (λ (i : ℕ). get_or us i 0) none in
    let few = h.few in
    let room = h.room in
    let e = length-drop at us in
    record { room = omega arith; few = omega arith }

pub short-drop : {n : ℕ} {vs : List ℕ} (i : ℕ) → Short n vs → Short n (drop i vs)
short-drop {n} {vs} i h =
    let few = h.few in
    let e = length-drop i vs in
    record { below = all_drop i vs h.below; few = omega arith }
  where
    all_drop : (i : ℕ) (vs : List ℕ) → Below n vs → Below n (drop i vs)
    all_drop zero vs X = X
    all_drop (suc i) [] X = tt
    all_drop (suc i) (v ∷ vs) X = all_drop i vs X.1

-- the part from a place on, as the code cuts it out
pub contexted_end : {n : ℕ} (us : List ℕ) (i : ℕ) → Contexted n (drop i us) → Contexted n (take (length us - i) (drop i us))
contexted_end us i h = rw (to_end i us) h
