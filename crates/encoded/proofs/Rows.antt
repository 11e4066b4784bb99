-- Rows one behind the other: where each stands, and a row put in another's place. Assumes nothing.
use mathlib.Core.Path.{◌≡◌, refl, sym, ap, ◌∙◌}
use mathlib.Core.List.{List, [], ◌∷◌, ◌++◌, append_assoc, map}
use Prim.Native.Nat.{ℕ, zero, suc, ◌+◌, ◌*◌, ◌≤◌, ◌<◌}
use native.Mathlib.Nat.{suc-mul, zero-mul, le_of_suc-le-suc, not-suc-le-zero, le_refl, mul-le-mul_right}
use native.Mathlib.Omega.{arith}
use lib.ListN.{length, take, drop, get_or, set, length-append, length-drop}
use lib.Seq.{length-take-le, take_at, drop_at, drop-drop, get_or-drop, take-suc, take_all, drop-append-add, take-append-add}
use Rattle.rules.specs.Loops.{each, part, put_part}
use Rattle.lists.specs.All.{All}
use Rattle.lists.proofs.Plain.{all_append, all_take}
use Rattle.encoded.specs.Words.{joined, Rows}

module _ {A : Type 0} where
  -- ---- what stands further on

  pub drop_more : (us xs ys : List A) (p q m : ℕ) → drop p us ≡ xs ++ ys → length xs ≡ m → q ≡ p + m → drop q us ≡ ys
  drop_more us xs ys p q m h l e = ap (λ (i : ℕ). drop i us) e ∙ sym (drop-drop m p us) ∙ ap (drop m) h ∙ drop_at xs ys m l

  pub get_d_head : (us ys : List A) (x z : A) (p : ℕ) → drop p us ≡ x ∷ ys → get_or us p z ≡ x
  get_d_head us ys x z p h =
      let e : p ≡ p + 0 = omega arith in
      ap (λ (i : ℕ). get_or us i z) e ∙ sym (get_or-drop p us 0 z) ∙ ap (λ (l : List A). get_or l 0 z) h

  -- ---- one for each place of a list: the list

  each_take : (f : ℕ → A) (xs : List A) (z : A) → ((i : ℕ) → i < length xs → f i ≡ get_or xs i z) → (m : ℕ) → m ≤ length xs → each (λ (i : ℕ). f i ∷ []) m ≡ take m xs
  unfolding each
  each_take f xs z h zero l = refl
  each_take f xs z h (suc m) l =
      ap (λ (ys : List A). ys ++ (f m ∷ [])) (each_take f xs z h m (omega arith))
      ∙ ap (λ (y : A). take m xs ++ (y ∷ [])) (h m l) ∙ sym (take-suc xs m z l)

  pub each_back : (f : ℕ → A) (xs : List A) (z : A) (m : ℕ) → m ≡ length xs → ((i : ℕ) → i < length xs → f i ≡ get_or xs i z) → each (λ (i : ℕ). f i ∷ []) m ≡ xs
  each_back f xs z m e h = each_take f xs z h m (omega arith) ∙ take_all m xs (omega arith)

  -- ---- one for each of the places below m

  module _ (f : ℕ → A) where
    pub all_ones : (P : A → Type 0) (m : ℕ) → ((i : ℕ) → i < m → P (f i)) → All P (each (λ (i : ℕ). f i ∷ []) m)
    unfolding each
    all_ones P zero h = tt
    all_ones P (suc m) h =
        all_append P (each (λ (i : ℕ). f i ∷ []) m) (f m ∷ []) (all_ones P m (λ (i : ℕ) (l : i < m). h i (omega arith))) (h m (le_refl (suc m)), tt)

  -- ---- a part of a list

  pub length-part_of : (w n q : ℕ) (xs : List A) → n * w ≤ length xs → q < n → length (part w q xs) ≡ w
  unfolding part
  length-part_of w n q xs e h =
      let a = mul-le-mul_right w h in
      let b = suc-mul q w in
      length-take-le w (drop (q * w) xs) (simp length-drop (omega arith))

  pub length_part : (w n q : ℕ) (xs : List A) → length xs ≡ n * w → q < n → length (part w q xs) ≡ w
  length_part w n q xs e h = length-part_of w n q xs (omega arith) h

  pub all_drop : (P : A → Type 0) (m : ℕ) (xs : List A) → All P xs → All P (drop m xs)
  all_drop P zero xs X = X
  all_drop P (suc m) [] X = tt
  all_drop P (suc m) (x ∷ xs) X = all_drop P m xs X.1

  pub all-part : (P : A → Type 0) (w q : ℕ) (xs : List A) → All P xs → All P (part w q xs)
  unfolding part
  all-part P w q xs X = all_take P w (drop (q * w) xs) (all_drop P (q * w) xs X)

  pub all_get_d : (P : A → Type 0) (xs : List A) (i : ℕ) (z : A) → All P xs → P z → P (get_or xs i z)
  all_get_d P [] i z X Z = Z
  all_get_d P (x ∷ xs) zero z X Z = X.0
  all_get_d P (x ∷ xs) (suc i) z X Z = all_get_d P xs i z X.1 Z

  -- ---- rows of w places

  pub length-joined : (w : ℕ) (rs : List (List A)) → Rows w rs → length (joined rs) ≡ length rs * w
  unfolding joined
  length-joined w [] R = sym (zero-mul w)
  length-joined w (r ∷ rs) R =
      let a = length-joined w rs R.1 in
      let b = suc-mul (length rs) w in
      let c = R.0 in
      length-append r (joined rs) ∙ omega arith

  -- from row q on
  pub drop-joined : (w : ℕ) (rs : List (List A)) (xs : List A) (q : ℕ) → Rows w rs → q < length rs
      → drop (q * w) (joined rs ++ xs) ≡ get_or rs q [] ++ (joined (drop (suc q) rs) ++ xs)
  unfolding joined
  drop-joined w [] xs q R h = absurd (not-suc-le-zero h)
  drop-joined w (r ∷ rs) xs zero R h = let e = zero-mul w in rw e (append_assoc r (joined rs) xs)
  drop-joined w (r ∷ rs) xs (suc q) R h =
      let a = suc-mul q w in
      let b = R.0 in
      let e : suc q * w ≡ length r + q * w = omega arith in
      ap (drop (suc q * w)) (append_assoc r (joined rs) xs) ∙ ap (λ (i : ℕ). drop i (r ++ (joined rs ++ xs))) e
      ∙ drop-append-add r (joined rs ++ xs) (q * w) ∙ drop-joined w rs xs q R.1 (le_of_suc-le-suc h)

  pub row_long : (w : ℕ) (rs : List (List A)) (q : ℕ) → Rows w rs → q < length rs → length (get_or rs q []) ≡ w
  row_long w [] q R h = absurd (not-suc-le-zero h)
  row_long w (r ∷ rs) zero R h = R.0
  row_long w (r ∷ rs) (suc q) R h = row_long w rs q R.1 (le_of_suc-le-suc h)

  -- row q
  pub part-joined : (w : ℕ) (rs : List (List A)) (xs : List A) (q : ℕ) → Rows w rs → q < length rs → part w q (joined rs ++ xs) ≡ get_or rs q []
  unfolding part
  part-joined w rs xs q R h = ap (take w) (drop-joined w rs xs q R h) ∙ take_at (get_or rs q []) (joined (drop (suc q) rs) ++ xs) w (row_long w rs q R h)

  -- another row in its place
  pub joined-set : (w : ℕ) (rs : List (List A)) (q : ℕ) (r' : List A) → Rows w rs → q < length rs → joined (set rs q r') ≡ put_part w q r' (joined rs)
  unfolding joined put_part
  joined-set w [] q r' R h = absurd (not-suc-le-zero h)
  joined-set w (r ∷ rs) zero r' R h =
      let e = zero-mul w in
      let b = R.0 in
      rw e (ap (λ (l : List A). r' ++ l) (sym (drop_at r (joined rs) (0 + w) (omega arith))))
  joined-set w (r ∷ rs) (suc q) r' R h =
      let a = suc-mul q w in
      let b = R.0 in
      let e : suc q * w ≡ length r + q * w = omega arith in
      let e' : suc q * w + w ≡ length r + (q * w + w) = omega arith in
      let ih = joined-set w rs q r' R.1 (le_of_suc-le-suc h) in
      let t = ap (λ (i : ℕ). take i (r ++ joined rs)) e ∙ take-append-add r (joined rs) (q * w) in
      let d = ap (λ (i : ℕ). drop i (r ++ joined rs)) e' ∙ drop-append-add r (joined rs) (q * w + w) in
      ap (λ (l : List A). r ++ l) ih
      ∙ sym (append_assoc r (take (q * w) (joined rs)) (r' ++ drop (q * w + w) (joined rs)))
      ∙ ap (λ (l : List A). l ++ (r' ++ drop (q * w + w) (joined rs))) (sym t)
      ∙ ap (λ (l : List A). take (suc q * w) (r ++ joined rs) ++ (r' ++ l)) (sym d)

-- rows that a function makes
pub rows-map : {A B : Type 0} (w : ℕ) (f : A → List B) (P : A → Type 0) → ((x : A) → P x → length (f x) ≡ w) → (xs : List A) → All P xs → Rows w (map f xs)
rows-map w f P h [] X = tt
rows-map w f P h (x ∷ xs) X = (h x X.0, rows-map w f P h xs X.1)

pub get_d_mapped : {A B : Type 0} (f : A → B) (xs : List A) (i : ℕ) (y : B) (x : A) → i < length xs → get_or (map f xs) i y ≡ f (get_or xs i x)
get_d_mapped f [] i y x h = absurd (not-suc-le-zero h)
get_d_mapped f (a ∷ xs) zero y x h = refl
get_d_mapped f (a ∷ xs) (suc i) y x h = get_d_mapped f xs i y x (le_of_suc-le-suc h)
