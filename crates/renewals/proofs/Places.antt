-- The lists of renewed contexts in their words: lengths, members, and each node once per member. Assumes nothing.
use mathlib.Core.Path.{◌≡◌, refl, sym, ap, ◌∙◌, subst}
use mathlib.Core.Bool.{Bool}
use mathlib.Core.List.{List, [], append-nil}
use Prim.Native.Nat.{ℕ, ◌+◌, ◌*◌, ◌≤◌, ◌<◌}
use native.Mathlib.Omega.{arith}
use lib.ListN.{length, drop, get_or, replicate, length-drop}
use lib.Seq.{get_or-take, get_or-drop}
use Rattle.rules.specs.Loops.{through}
use Rattle.rules.specs.Descent.{Renewed, unvisit, unvisit_all, members_back}
use Rattle.rules.specs.DescentPlaces.{member_words, members_in}
use Rattle.rules.proofs.Loops.{each-alike}
use Rattle.rules.proofs.Places.{members-front}
use Rattle.buffers.specs.Area.{area}
use Rattle.members.proofs.Laws.{turns-alike}
use Rattle.passes.specs.Passes.{Below}
use Rattle.backs.specs.Backs.{Lengths, backs}
use Rattle.renews.specs.Renews.{RenewedIn}
use Rattle.unvisits.specs.Unvisits.{new_in, unvisit_each, News}
use Rattle.encoded.proofs.Rows.{all_get_d}
use Rattle.descent_kept.proofs.Back.{members-back}
use Rattle.descent_kept.proofs.Contexts.{Good, good_none, Renewing}

-- ---- a list from a place on

module _ (a : ℕ) (xs ys : List ℕ) (e : area a 65 xs ≡ member_words ys) where
  first-here : get_or (drop a xs) 0 0 ≡ length ys
  unfolding member_words
  first-here = sym (get_or-take 65 (drop a xs) 0 0 (omega arith)) ∙ ap (λ (l : List ℕ). get_or l 0 0) e

  first-at : (b : ℕ) → b ≡ a → get_or xs b 0 ≡ length ys
  first-at b h = let z : b ≡ a + 0 = omega arith in ap (λ (i : ℕ). get_or xs i 0) z ∙ sym (get_or-drop a xs 0 0) ∙ first-here

  members-here : length ys ≤ 64 → members_in (drop a xs) ≡ ys
  members-here h = sym (members-front (drop a xs)) ∙ ap members_in (e ∙ sym (append-nil (member_words ys))) ∙ members-back ys [] h

-- ---- the new and old lists of n contexts

module _ {r : Renewed} {xs : List ℕ} {total at n : ℕ} (H : RenewedIn r xs total at n) where
  pub back-new : (w : ℕ) → backs 0 xs n ≡ members_back n r.news w
  unfolding backs members_back
  back-new w =
      each-alike (λ (i : ℕ). replicate (get_or xs (260 * i + 0) 0) i) (λ (i : ℕ). replicate (length (get_or r.news i [])) i) n
      (λ (i : ℕ) (h : i < n). ap (λ (c : ℕ). replicate c i) (first-at (260 * i) xs (get_or r.news i []) (H.new i h) (260 * i + 0) (omega arith)))

  pub back-old : (w : ℕ) → backs 65 xs n ≡ members_back n r.olds w
  unfolding backs members_back
  back-old w =
      each-alike (λ (i : ℕ). replicate (get_or xs (260 * i + 65) 0) i) (λ (i : ℕ). replicate (length (get_or r.olds i [])) i) n
      (λ (i : ℕ) (h : i < n). ap (λ (c : ℕ). replicate c i) (first-at (260 * i + 65) xs (get_or r.olds i []) (H.old i h) (260 * i + 65) refl))

  module _ (G : (some : 0 < n) → Renewing n some r) where
    new_good : (i : ℕ) (h : i < n) → Good n (omega arith) (get_or r.news i [])
    new_good i h = let some : 0 < n = omega arith in all_get_d (Good n some) r.news i [] (G some).news (good_none n some)

    old_good : (i : ℕ) (h : i < n) → Good n (omega arith) (get_or r.olds i [])
    old_good i h = let some : 0 < n = omega arith in all_get_d (Good n some) r.olds i [] (G some).olds (good_none n some)

    pub lengths-new : Lengths n 0 xs
    lengths-new i h = let f = (new_good i h).few in let e = first-at (260 * i) xs (get_or r.news i []) (H.new i h) (260 * i + 0) (omega arith) in omega arith

    pub lengths-old : Lengths n 65 xs
    lengths-old i h = let f = (old_good i h).few in let e = first-at (260 * i + 65) xs (get_or r.olds i []) (H.old i h) (260 * i + 65) refl in omega arith

    news-here : (i : ℕ) → i < n → new_in xs i ≡ get_or r.news i []
    news-here i h = members-here (260 * i) xs (get_or r.news i []) (H.new i h) (new_good i h).few

    pub news_walkable : 260 * n ≤ length xs → News n xs
    news_walkable room =
        record {
          each = λ (i : ℕ) (h : i < n).
              let l = length-drop (260 * i) xs in
              let f = (new_good i h).few in
              let e = first-here (260 * i) xs (get_or r.news i []) (H.new i h) in
              record { room = omega arith; few = omega arith; below = subst (Below n) (sym (news-here i h)) (new_good i h).below };
          room = room;
        }

    pub unvisited : (flags : List Bool) → unvisit_each n xs n flags ≡ unvisit_all n r.news flags
    unfolding unvisit_each unvisit_all
    unvisited flags =
        turns-alike (λ (j : ℕ) (v : List Bool). through (unvisit n j) (new_in xs j) v) (λ (j : ℕ) (v : List Bool). through (unvisit n j) (get_or r.news j []) v) n
        (λ (i : ℕ) (h : i < n) (v : List Bool). ap (λ (l : List ℕ). through (unvisit n i) l v) (news-here i h)) flags

-- the same lists in other words
pub renewed_as : {r : Renewed} {xs ys : List ℕ} {total at n : ℕ} → ((i : ℕ) → i < n → area (260 * i) 65 ys ≡ area (260 * i) 65 xs) → ((i : ℕ) → i < n → area (260 * i + 65) 65 ys ≡ area (260 * i + 65) 65 xs)
    → RenewedIn r xs total at n → RenewedIn r ys total at n
renewed_as e f H = record { totalled = H.totalled; drawn = H.drawn; new = λ j h. e j h ∙ H.new j h; old = λ j h. f j h ∙ H.old j h }
