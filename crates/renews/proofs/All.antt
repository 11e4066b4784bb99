-- The new and old lists of all nodes, one context after the other. Assumes nothing.
use mathlib.Core.Path.{◌≡◌, refl, sym, ap, ◌∙◌}
use mathlib.Core.Bool.{Bool, true, false}
use mathlib.Core.List.{List, [], ◌∷◌, ◌++◌}
use Prim.Native.Nat.{ℕ, zero, suc, ◌+◌, ◌*◌, ◌≤◌, ◌<◌}
use native.Mathlib.Nat.{suc-mul}
use native.Mathlib.Numerals.{add-one}
use native.Mathlib.Omega.{arith}
use borrow.Author.Tests.{ltb-true, ltb-false}
use borrow.Rule.Slice.PartMut.{put_mid}
use lib.Dec.{ltb}
use lib.ListN.{length, get_or, length-append, get_or-append}
use lib.Seq.{get_or_at}
use Rattle.rules.specs.declared.Neighbor.{Neighbor}
use Rattle.rules.specs.Loops.{turns}
use Rattle.rules.specs.Descent.{Renewed, renew, list_at, new_of, old_of, drawn_after, kept_new}
use Rattle.rules.specs.DescentPlaces.{member_words}
use Rattle.rules.proofs.Loops.{turns_turn}
use Rattle.buffers.specs.Area.{area}
use Rattle.buffers.proofs.Places.{put-length, put-area, put_low}
use Rattle.renews.specs.Renews.{Source, NewPut, OldPut, renewed_to, RenewedIn, Renews}

-- ---- a list that grows at its end

module _ (xs : List (List ℕ)) (i : ℕ) (long : length xs ≡ i) (y : List ℕ) where
  pub grown_low : (j : ℕ) → j < i → get_or (xs ++ (y ∷ [])) j [] ≡ get_or xs j []
  grown_low j h = get_or-append xs (y ∷ []) [] j (omega arith)

  pub grown_last : get_or (xs ++ (y ∷ [])) i [] ≡ y
  grown_last = get_or_at xs y [] [] i long

  grown_long : length (xs ++ (y ∷ [])) ≡ suc i
  grown_long = length-append xs (y ∷ []) ∙ omega arith

-- each node has a new and an old list
pub record Longs (r : Renewed) (i : ℕ) : Type 0 where
  pub news : length r.news ≡ i
  pub olds : length r.olds ≡ i

pub renewed-long : (draws : List ℕ) (n s : ℕ) (flags : List Bool) (lists : List (List Neighbor)) (i : ℕ) → Longs (renewed_to draws n s flags lists i) i
unfolding turns renew
renewed-long draws n s flags lists zero = record { news = refl; olds = refl }
renewed-long draws n s flags lists (suc i) =
    let l = renewed-long draws n s flags lists i in
    let r = renewed_to draws n s flags lists i in
    record {
      news = grown_long r.news i l.news (kept_new draws s r.at (new_of n i flags (list_at lists i)));
      olds = grown_long r.olds i l.olds (old_of n i flags (list_at lists i));
    }

-- ---- one more node

module _ (r : Renewed) (i : ℕ) (l : Longs r i) (draws : List ℕ) (n s : ℕ) (flags : List Bool) (lists : List (List Neighbor)) where
  renewed-step : {xs xs' : List ℕ} {total at total' at' : ℕ} → RenewedIn r xs total at i
      → ((j : ℕ) → j < i → area (260 * j) 65 xs' ≡ area (260 * j) 65 xs) → ((j : ℕ) → j < i → area (260 * j + 65) 65 xs' ≡ area (260 * j + 65) 65 xs)
      → area (260 * i) 65 xs' ≡ member_words (kept_new draws s at (new_of n i flags (list_at lists i))) → area (260 * i + 65) 65 xs' ≡ member_words (old_of n i flags (list_at lists i))
      → total' ≡ total + length (new_of n i flags (list_at lists i)) → at' ≡ drawn_after s at (new_of n i flags (list_at lists i))
      → RenewedIn (renew draws n s flags lists i r) xs' total' at' (suc i)
  unfolding renew
  renewed-step {xs} {xs'} {total} {at} {total'} {at'} h low low' new old sum drew =
      record {
        totalled = sum ∙ ap (λ (c : ℕ). c + length found) h.totalled;
        drawn = drew ∙ ap (λ (a : ℕ). drawn_after s a found) h.drawn;
        new = λ j b. pick j b (area (260 * j) 65 xs') r.news l.news (kept_new draws s r.at found)
            (λ c. low j c ∙ h.new j c) (λ e. rw e (new ∙ ap (λ (a : ℕ). member_words (kept_new draws s a found)) h.drawn));
        old = λ j b. pick j b (area (260 * j + 65) 65 xs') r.olds l.olds (old_of n i flags (list_at lists i))
            (λ c. low' j c ∙ h.old j c) (λ e. rw e old);
      }
    where
      found : List ℕ
      found = new_of n i flags (list_at lists i)

      pick : (j : ℕ) → j < suc i → (ws : List ℕ) (ls : List (List ℕ)) → length ls ≡ i → (y : List ℕ) → (j < i → ws ≡ member_words (get_or ls j [])) → (j ≡ i → ws ≡ member_words y)
          → ws ≡ member_words (get_or (ls ++ (y ∷ [])) j [])
      pick j b ws ls long y before at_end = go (ltb j i) refl
        where
          go : (t : Bool) → ltb j i ≡ t → ws ≡ member_words (get_or (ls ++ (y ∷ [])) j [])
          go true t = let c = ltb-true j i t in before c ∙ ap member_words (sym (grown_low ls i long y j c))
          go false t =
              let c = ltb-false j i t in
              let e : j ≡ i = omega arith in
              at_end e ∙ ap member_words (sym (rw e (grown_last ls i long y)))

module _ {draws : List ℕ} {n k s : ℕ} {us : List ℕ} where
  pub renews_none : (xs : List ℕ) → Renews draws n k s us xs xs 0 0 0
  unfolding turns
  renews_none xs =
      record {
        held = λ flags lists h. record { totalled = refl; drawn = refl; new = λ j b. absurd (omega arith); old = λ j b. absurd (omega arith) };
        long = refl;
        most = omega arith;
        last = omega arith;
      }

  pub renews_more : {xs₀ xs dst dst' found found' : List ℕ} {total at total' at' i : ℕ} {w w' : ℕ} → Renews draws n k s us xs₀ xs total at i → i < n → 260 * n ≤ length xs₀ → w ≡ 65 → w' ≡ 65
      → NewPut draws n k s i us total at found dst total' at' → OldPut n k i us found' dst'
      → Renews draws n k s us xs₀ (put_mid (260 * i + 65) w' (put_mid (260 * i) w xs dst) dst') total' at' (i + 1)
  renews_more {xs₀} {xs} {dst} {dst'} {found} {found'} {total} {at} {total'} {at'} {i} {w} {w'} inv h room e e' a b =
      let long = inv.long in
      let fits : 260 * i + 65 ≤ length xs = omega arith in
      let step = suc-mul i k in
      let most = inv.most in
      let last = inv.last in
      let more = a.most in
      let further = a.last in
      let one = add-one i in
      let mid_long = put-length (260 * i) 65 xs dst fits a.dst_long in
      let fits' : 260 * i + 65 + 65 ≤ length (put_mid (260 * i) 65 xs dst) = omega arith in
      rw (e, e')
      (record {
        held = λ flags lists src. rw one (rw (← turns_turn_at flags lists) (stepped flags lists src fits fits'));
        long = put-length (260 * i + 65) 65 (put_mid (260 * i) 65 xs dst) dst' fits' b.dst_long ∙ mid_long ∙ inv.long;
        most = rw one (omega arith);
        last = rw one (omega arith);
      })
    where
      xs' : List ℕ
      xs' = put_mid (260 * i + 65) 65 (put_mid (260 * i) 65 xs dst) dst'

      turns_turn_at : (flags : List Bool) (lists : List (List Neighbor)) → renew draws n s flags lists i (renewed_to draws n s flags lists i) ≡ renewed_to draws n s flags lists (suc i)
      turns_turn_at flags lists = turns_turn (renew draws n s flags lists) i (record { news = []; olds = []; total = 0; at = 0 }) ∙ ap (renewed_to draws n s flags lists) (add-one i)

      stepped : (flags : List Bool) (lists : List (List Neighbor)) → Source n k flags lists us → 260 * i + 65 ≤ length xs → 260 * i + 65 + 65 ≤ length (put_mid (260 * i) 65 xs dst)
          → RenewedIn (renew draws n s flags lists i (renewed_to draws n s flags lists i)) xs' total' at' (suc i)
      stepped flags lists src fits fits' =
          let mid = put_mid (260 * i) 65 xs dst in
          renewed-step (renewed_to draws n s flags lists i) i (renewed-long draws n s flags lists i) draws n s flags lists (inv.held flags lists src)
          (λ j c. put_low (260 * i + 65) 65 mid dst' fits' b.dst_long (260 * j) 65 (omega arith) ∙ put_low (260 * i) 65 xs dst fits a.dst_long (260 * j) 65 (omega arith))
          (λ j c. put_low (260 * i + 65) 65 mid dst' fits' b.dst_long (260 * j + 65) 65 (omega arith) ∙ put_low (260 * i) 65 xs dst fits a.dst_long (260 * j + 65) 65 (omega arith))
          (put_low (260 * i + 65) 65 mid dst' fits' b.dst_long (260 * i) 65 (omega arith) ∙ put-area (260 * i) 65 xs dst fits a.dst_long ∙ a.list flags lists src)
          (put-area (260 * i + 65) 65 mid dst' fits' b.dst_long ∙ b.list flags lists src)
          (a.totalled flags lists src)
          (a.drawn flags lists src)
