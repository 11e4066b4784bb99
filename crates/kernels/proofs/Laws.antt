-- Laws of the block of eight, and of pairs that are fit. Assumes nothing.
use mathlib.Core.Path.{◌≡◌, refl, sym, ap, ◌∙◌}
use mathlib.Core.Bool.{Bool, true, false, ◌&&◌}
use mathlib.Core.List.{List}
use Prim.Native.Nat.{ℕ, zero, suc, ◌+◌, ◌*◌, ◌≤◌, ◌<◌}
use native.Mathlib.Numerals.{add-one}
use native.Mathlib.Omega.{arith}
use lib.ListN.{length, drop, get_or}
use lib.Seq.{ext_get_or}
use lib.Ieee.{Float, nan, inf, fin, is_nan, to_bits}
use borrow.Author.Tests.{lt-ltb}
use Rattle.rules.specs.Distance.{lane, total_of, fit, zero32}
use Rattle.rules.proofs.Loops.{length-ones, get_d_ones}
use Rattle.zeros.specs.Zeros.{all_below}
use Rattle.metrics.proofs.Steps.{turn, ended}
use Rattle.kernels.specs.Eight.{column, held, PutRow, Laned, Totals}

-- ---- a column

pub length-column : (t d : ℕ) (block : List Float) → length (column t d block) ≡ d
unfolding column
length-column t d block = length-ones (λ (l : ℕ). get_or block (l * 8 + t) nan) d

pub get_d_column : (t d : ℕ) (block : List Float) (l : ℕ) → l < d → get_or (column t d block) l nan ≡ get_or block (l * 8 + t) nan
unfolding column
get_d_column t d block l h = get_d_ones (λ (l : ℕ). get_or block (l * 8 + t) nan) d l nan h

-- a column is what stands at its places
pub column-is : (t d : ℕ) (block x : List Float) → length x ≡ d → ((l : ℕ) → l < d → get_or block (l * 8 + t) nan ≡ get_or x l nan) → column t d block ≡ x
column-is t d block x e h =
    let long = length-column t d block in
    ext_get_or nan (column t d block) x (long ∙ sym e)
    (λ (l : ℕ) (m : l < length (column t d block)). let n : l < d = omega arith in get_d_column t d block l n ∙ h l n)

-- ---- the nodes of a block

pub held_below : (n v : ℕ) → v < n → held n v ≡ v
unfolding held
held_below n v h = rw (lt-ltb v n h)

-- ---- a node's lanes, put into a column: the first l of them

pub record Putting (block x : List Float) (t : ℕ) (now : List Float) (l : ℕ) : Type 0 where
  pub own : (m : ℕ) → m < l → get_or now (m * 8 + t) nan ≡ get_or x m nan
  pub other : (m u : ℕ) → u < 8 → (u ≡ t → ⊥) → get_or now (m * 8 + u) nan ≡ get_or block (m * 8 + u) nan
  pub long : length now ≡ length block

pub put : {block x : List Float} {t : ℕ} {now : List Float} {l : ℕ} → Putting block x t now l → length x ≤ l → PutRow block x t now
put {block} {x} {t} {now} {l} inv h =
    record {
      own = column-is t (length x) now x refl (λ (m : ℕ) (k : m < length x). inv.own m (omega arith));
      other = λ (u : ℕ) (k : u < 8) (n : u ≡ t → ⊥).
          column-is u (length x) now (column u (length x) block) (length-column u (length x) block)
          (λ (m : ℕ) (j : m < length x). inv.other m u k n ∙ sym (get_d_column u (length x) block m j));
    }

-- ---- one lane, added to the first c totals

pub record Laning (totals block : List Float) (from : ℕ) (x : Float) (now : List Float) (c : ℕ) : Type 0 where
  pub done : Laned totals block from x c now
  pub left : (t : ℕ) → c ≤ t → get_or now t nan ≡ get_or totals t nan
  pub long : length now ≡ 8

-- ---- a test of every place

pub all-passed : (p : ℕ → Bool) (i : ℕ) → p i ≡ true → all_below p i ≡ all_below p (i + 1)
unfolding all_below
all-passed p i e = rw (add-one, e) (go (all_below p i))
  where
    go : (b : Bool) → b ≡ (b && true)
    go true = refl
    go false = refl

pub all_same : (p q : ℕ → Bool) (n : ℕ) → ((i : ℕ) → i < n → p i ≡ q i) → all_below p n ≡ all_below q n
unfolding all_below
all_same p q zero e = refl
all_same p q (suc n) e = rw (all_same p q n (λ (i : ℕ) (h : i < n). e i (omega arith)), e n (omega arith))

-- ---- a NaN

pub nan_unfit : (x : Float) → is_nan x ≡ true → fit x ≡ false
unfolding is_nan fit to_bits
nan_unfit nan e = refl
nan_unfit (inf s) e = cc
nan_unfit (fin s m d) e = cc

-- ---- the totals: what is left to add, added to the totals so far, is the whole

pub record Summing (x block totals : List Float) (l : ℕ) : Type 0 where
  pub left : (t : ℕ) → t < 8
      → total_of (get_or totals t nan) (drop l x) (drop l (column t (length x) block)) ≡ total_of zero32 x (column t (length x) block)

pub summing_more : {x block totals : List Float} {l : ℕ} {totals' : List Float} → Summing x block totals l → l < length x
    → Laned totals block (l * 8) (get_or x l nan) 8 totals' → Summing x block totals' (l + 1)
summing_more {x} {block} {totals} {l} {totals'} inv h made =
    record {
      left = λ (t : ℕ) (k : t < 8).
          let col = column t (length x) block in
          let long = length-column t (length x) block in
          ap (λ (s : Float). total_of s (drop (l + 1) x) (drop (l + 1) col))
          (made t k ∙ ap (lane (get_or totals t nan) (get_or x l nan)) (sym (get_d_column t (length x) block l h)))
          ∙ turn (get_or totals t nan) x col l h (omega arith) ∙ inv.left t k;
    }

pub summed : {x block totals : List Float} {l : ℕ} → Summing x block totals l → l ≡ length x → Totals x block totals
summed {x} {block} {totals} {l} inv e t k = sym (ended (get_or totals t nan) x (drop l (column t (length x) block)) l e) ∙ inv.left t k
