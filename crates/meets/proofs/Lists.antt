-- One of n lists of k entries in two slices changed. Assumes nothing.
use mathlib.Core.Path.{◌≡◌, refl, sym, ap, ap₂, ◌∙◌}
use mathlib.Core.Bool.{Bool, true, false, cond}
use mathlib.Core.List.{List, [], ◌∷◌, ◌++◌}
use Prim.Native.Nat.{ℕ, zero, suc, ◌+◌, ◌-◌, ◌*◌, ◌≤◌, ◌<◌}
use native.Mathlib.Omega.{arith}
use borrow.Author.Tests.{eqb-true, eqb-false, ltb-true, ltb-false}
use borrow.Rule.Slice.PartMut.{put_mid, drop_put}
use lib.Arith.{lt_of_le-ne}
use lib.Dec.{eqb, ltb}
use lib.ListN.{length, take, drop, get_or, set, length-set}
use lib.Seq.{ext_get_or, take-add, drop_at, length-take-le, take-take}
use lib.Ieee.{Float}
use Rattle.rules.specs.Loops.{each, part}
use Rattle.rules.specs.Lists.{entries}
use Rattle.rules.specs.Places.{lists_in}
use Rattle.rules.proofs.Loops.{length-ones, get_d_ones, ones, row_in}
use Rattle.lists.proofs.Plain.{drop-later}
use Rattle.buffers.proofs.Places.{put-area, put_low, put_high}
use Rattle.visits.proofs.Flags.{get_d_changed}

-- functions that are the same below n give the same entries
pub ones-same : {A : Type 0} (f g : ℕ → A) (n : ℕ) → ((i : ℕ) → i < n → f i ≡ g i) → ones f n ≡ ones g n
unfolding each
ones-same f g zero h = refl
ones-same {A} f g (suc n) h =
    ap₂ (λ (xs ys : List A). xs ++ ys) (ones-same f g n (λ i l. h i (omega arith))) (ap (λ (x : A). x ∷ []) (h n (omega arith)))

-- a part of a list that begins as another does
pub part-front : {A : Type 0} (m w i : ℕ) (xs ys : List A) → i * w + w ≤ m → m ≤ length xs → take m xs ≡ take m ys → m ≤ length ys → part w i xs ≡ part w i ys
unfolding part
part-front {A} m w i xs ys h l e l' = sym (cut xs l) ∙ ap (λ (zs : List A). drop (i * w) (take (i * w + w) zs)) e ∙ cut ys l'
  where
    cut : (zs : List A) → m ≤ length zs → drop (i * w) (take (i * w + w) (take m zs)) ≡ take w (drop (i * w) zs)
    cut zs b =
        ap (drop (i * w)) (take-take (i * w + w) m zs h) ∙ ap (drop (i * w)) (take-add (i * w) w zs)
        ∙ drop_at (take (i * w) zs) (take w (drop (i * w) zs)) (i * w) (length-take-le (i * w) zs (omega arith))

module _ (n k : ℕ) where
  pub length-lists : (us : List ℕ) (fs : List Float) → length (lists_in n k us fs) ≡ n
  unfolding lists_in
  length-lists us fs = length-ones (λ (i : ℕ). entries k (part k i us) (part k i fs)) n

  pub list_in_lem : (us : List ℕ) (fs : List Float) (i : ℕ) → i < n → get_or (lists_in n k us fs) i [] ≡ entries k (part k i us) (part k i fs)
  unfolding lists_in
  list_in_lem us fs i h = get_d_ones (λ (j : ℕ). entries k (part k j us) (part k j fs)) n i [] h

  -- words that begin the same hold the same lists
  pub lists-front : (m : ℕ) (us us' : List ℕ) (fs : List Float) → n * k ≤ m → m ≤ length us → length us' ≡ length us → take m us' ≡ take m us → lists_in n k us' fs ≡ lists_in n k us fs
  unfolding lists_in
  lists-front m us us' fs h l long e =
      ones-same (λ (i : ℕ). entries k (part k i us') (part k i fs)) (λ (i : ℕ). entries k (part k i us) (part k i fs)) n
      (λ i b. let w = row_in n k i b in ap (λ (p : List ℕ). entries k p (part k i fs)) (part-front m k i us' us (omega arith) (omega arith) e l))

  module _ (us ys : List ℕ) (fs zs : List Float) (u : ℕ) (below : u < n) (room : n * k ≤ length us) (space : n * k ≤ length fs) (ys_long : length ys ≡ k) (zs_long : length zs ≡ k) where
    -- a list is lent, and comes back as ys and zs
    pub lists-put : lists_in n k (put_mid (u * k) k us ys) (put_mid (u * k) k fs zs) ≡ set (lists_in n k us fs) u (entries k ys zs)
    unfolding part
    lists-put =
        ext_get_or [] (lists_in n k us' fs') (set (lists_in n k us fs) u (entries k ys zs))
        (length-lists us' fs' ∙ sym (length-set (lists_in n k us fs) u (entries k ys zs) ∙ length-lists us fs))
        (λ i b. at i (let e = length-lists us' fs' in omega arith))
      where
        us' : List ℕ
        us' = put_mid (u * k) k us ys

        fs' : List Float
        fs' = put_mid (u * k) k fs zs

        fits : u * k + k ≤ length us
        fits = let w = row_in n k u below in omega arith

        fits' : u * k + k ≤ length fs
        fits' = let w = row_in n k u below in omega arith

        other : (i : ℕ) → (u ≡ i → ⊥) → i < n → entries k (part k i us') (part k i fs') ≡ entries k (part k i us) (part k i fs)
        other i e b = go (ltb i u) refl
          where
            go : (t : Bool) → ltb i u ≡ t → entries k (part k i us') (part k i fs') ≡ entries k (part k i us) (part k i fs)
            go true t =
                let l = row_in u k i (ltb-true i u t) in
                ap₂ (entries k) (put_low (u * k) k us ys fits ys_long (i * k) k l) (put_low (u * k) k fs zs fits' zs_long (i * k) k l)
            go false t =
                let ge = ltb-false i u t in
                let l = row_in i k u (lt_of_le-ne ge e) in
                ap₂ (entries k) (put_high (u * k) k us ys fits ys_long (i * k) k l) (put_high (u * k) k fs zs fits' zs_long (i * k) k l)

        at : (i : ℕ) → i < n → get_or (lists_in n k us' fs') i [] ≡ get_or (set (lists_in n k us fs) u (entries k ys zs)) i []
        at i b =
            list_in_lem us' fs' i b ∙ go (eqb u i) refl
            ∙ sym (get_d_changed (lists_in n k us fs) u i (entries k ys zs) [] (let e = length-lists us fs in omega arith))
          where
            go : (t : Bool) → eqb u i ≡ t → entries k (part k i us') (part k i fs') ≡ cond t (entries k ys zs) (get_or (lists_in n k us fs) i [])
            go true t =
                let same = eqb-true u i t in
                ap (λ (j : ℕ). entries k (part k j us') (part k j fs')) (sym same)
                ∙ ap₂ (entries k) (put-area (u * k) k us ys fits ys_long) (put-area (u * k) k fs zs fits' zs_long)
            go false t = other i (eqb-false u i t) b ∙ sym (list_in_lem us fs i b)

-- what lies behind a part that is lent stays
pub put-behind : {A : Type 0} (a w : ℕ) (xs ys : List A) (m : ℕ) → a + w ≤ m → m ≤ length xs → length ys ≡ w → drop m (put_mid a w xs ys) ≡ drop m xs
put-behind {A} a w xs ys m h l long =
    drop-later (a + w) m (put_mid a w xs ys) xs h
    (ap (λ (v : ℕ). drop (a + w) (put_mid a v xs ys)) (let e : w ≡ a + w - a = omega arith in e)
    ∙ drop_put a (a + w) xs ys (omega arith) (omega arith) (long ∙ (let e : w ≡ a + w - a = omega arith in e)))
