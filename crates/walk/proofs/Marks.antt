-- As many flags are set as there are roots, since no root repeats an earlier one. Assumes nothing.
use mathlib.Core.Path.{◌≡◌, refl, sym, ap, ◌∙◌}
use mathlib.Core.Bool.{Bool, true, false, ◌||◌}
use mathlib.Core.List.{List, [], ◌∷◌}
use Prim.Native.Nat.{ℕ, zero, suc, ◌+◌, ◌≤◌, ◌<◌}
use native.Mathlib.Omega.{arith}
use borrow.Author.Tests.{eqb-true, eqb-false}
use lib.Dec.{eqb}
use lib.ListN.{length, take, get_or, set, replicate, length-replicate, get_or-replicate}
use lib.Seq.{take-suc, take-length, get_or-set_same, get_or-set_other}
use Rattle.rules.specs.Answers.{Distance}
use Rattle.rules.specs.declared.Neighbor.{Neighbor}
use Rattle.rules.specs.Loops.{through, has}
use Rattle.rules.specs.Lists.{nodes_of}
use Rattle.rules.specs.Search.{Going, on, unfit_at, works_out, mark, is_seen, roots_found}
use Rattle.rules.proofs.Loops.{through-append}
use Rattle.expand.specs.Queue.{ones, AllBelow}
use Rattle.expand.proofs.Sound.{ones-most, ones-mark, mark-long, Whenever, whenever_then, pushes_below, pushes_both}
use Rattle.walk.specs.Walks.{Roots}

pub seen-mark : (v w : ℕ) (xs : List ℕ) → v < length xs → is_seen v (mark w xs) ≡ (eqb v w || is_seen v xs)
unfolding is_seen mark
seen-mark v w xs h = go (eqb v w) refl
  where
    go : (b : Bool) → eqb v w ≡ b → eqb (get_or (set xs w 1) v 0) 1 ≡ (b || eqb (get_or xs v 0) 1)
    go true e =
        let same = eqb-true v w e in
        ap (λ (k : ℕ). eqb (get_or (set xs k 1) v 0) 1) (sym same) ∙ ap (λ (x : ℕ). eqb x 1) (get_or-set_same xs v 1 0 h)
    go false e = ap (λ (x : ℕ). eqb x 1) (get_or-set_other xs w v 1 0 (eqb-false v w e))

pub marks-long : (vs xs : List ℕ) → length (through mark vs xs) ≡ length xs
unfolding through
marks-long [] xs = refl
marks-long (v ∷ vs) xs = marks-long vs (mark v xs) ∙ mark-long v xs

-- what is seen is what was marked
seen-marks : (v : ℕ) (vs xs : List ℕ) → v < length xs → is_seen v (through mark vs xs) ≡ (has v vs || is_seen v xs)
unfolding through has
seen-marks v [] xs h = refl
seen-marks v (w ∷ vs) xs h =
    let long = mark-long w xs in
    seen-marks v vs (mark w xs) (omega arith) ∙ ap (λ (b : Bool). has v vs || b) (seen-mark v w xs h) ∙ turn (has v vs) (eqb v w) (is_seen v xs)
  where
    turn : (a b c : Bool) → (a || (b || c)) ≡ ((b || a) || c)
    turn true true c = refl
    turn true false c = refl
    turn false true c = refl
    turn false false c = refl

unseen_at-first : (n v : ℕ) → v < n → is_seen v (replicate n 0) ≡ false
unfolding is_seen
unseen_at-first n v h = ap (λ (x : ℕ). eqb x 1) (get_or-replicate n v 0 0 h)

none_at-first : (n : ℕ) → ones (replicate n 0) ≡ 0
unfolding ones
none_at-first zero = refl
none_at-first (suc n) = let ih = none_at-first n in omega arith

module _ (n : ℕ) (roots : List ℕ) (fine : Roots n roots) where
  counted : (i : ℕ) → i ≤ length roots → ones (through mark (take i roots) (replicate n 0)) ≡ i
  unfolding through
  counted zero h = none_at-first n
  counted (suc i) h =
      let v = get_or roots i 0 in
      let below = fine.below i h in
      let zeros : length (replicate {A = ℕ} n 0) ≡ n = length-replicate n 0 in
      let long = marks-long (take i roots) (replicate n 0) in
      let unseen : is_seen v (through mark (take i roots) (replicate n 0)) ≡ false =
      seen-marks v (take i roots) (replicate n 0) (omega arith)
      ∙ ap (λ (b : Bool). b || is_seen v (replicate n 0)) (fine.different i h)
      ∙ unseen_at-first n v below in
      ap (λ (l : List ℕ). ones (through mark l (replicate n 0))) (take-suc roots i 0 h)
      ∙ ap ones (through-append mark (take i roots) (v ∷ []) (replicate n 0))
      ∙ ones-mark v (through mark (take i roots) (replicate n 0)) (omega arith) unseen
      ∙ ap suc (counted i (omega arith))

  pub marks-count : ones (through mark roots (replicate n 0)) ≡ length roots
  marks-count = ap (λ (l : List ℕ). ones (through mark l (replicate n 0))) (sym (take-length roots)) ∙ counted (length roots) (omega arith)

  pub roots-fit : length roots ≤ n
  roots-fit =
      let count = marks-count in
      let most = ones-most (through mark roots (replicate n 0)) in
      let long = marks-long roots (replicate n 0) in
      let zeros : length (replicate {A = ℕ} n 0) ≡ n = length-replicate n 0 in
      omega arith

weaken : (g : Going (List Neighbor)) (a b c n : ℕ) → b ≡ suc c → Whenever (λ (gs : List Neighbor). AllBelow n (nodes_of gs) × (length gs ≡ a + b)) g
    → Whenever (λ (gs : List Neighbor). AllBelow n (nodes_of gs) × (length gs ≡ suc a + c)) g
unfolding Whenever
weaken (on gs) a b c n e w = (w.0, let f = w.1 in omega arith)
weaken (unfit_at v) a b c n e w = tt

-- the roots found are below n
pub found_below : (apart : ℕ → Distance) (n : ℕ) (vs : List ℕ) (es : List Neighbor) → AllBelow n vs → AllBelow n (nodes_of es) → Whenever (λ (fs : List Neighbor). AllBelow n (nodes_of fs)) (roots_found apart vs es)
unfolding roots_found AllBelow Whenever
found_below apart n [] es b c = c
found_below apart n (v ∷ vs) es b c =
    whenever_then (λ (fs : List Neighbor). AllBelow n (nodes_of fs)) (λ (fs : List Neighbor). AllBelow n (nodes_of fs)) (works_out apart v es (apart v)) (roots_found apart vs)
    (pushes_below apart n v es (apart v) b.0 c)
    (λ (fs : List Neighbor) h. found_below apart n vs fs b.1 h)

-- and as many as there are roots
pub found_long : (apart : ℕ → Distance) (n : ℕ) (vs : List ℕ) (es : List Neighbor) → AllBelow n vs → AllBelow n (nodes_of es)
    → Whenever (λ (fs : List Neighbor). AllBelow n (nodes_of fs) × (length fs ≡ length vs + length es)) (roots_found apart vs es)
unfolding roots_found AllBelow Whenever
found_long apart n [] es b c = (c, omega arith)
found_long apart n (v ∷ vs) es b c =
    whenever_then (λ (fs : List Neighbor). AllBelow n (nodes_of fs) × (length fs ≡ suc (length es))) (λ (fs : List Neighbor). AllBelow n (nodes_of fs) × (length fs ≡ suc (length vs) + length es))
    (works_out apart v es (apart v)) (roots_found apart vs) (pushes_both apart n v es (apart v) b.0 c)
    (λ (fs : List Neighbor) h. more fs h (found_long apart n vs fs b.1 h.0))
  where
    more : (fs : List Neighbor) → AllBelow n (nodes_of fs) × (length fs ≡ suc (length es))
        → Whenever (λ (gs : List Neighbor). AllBelow n (nodes_of gs) × (length gs ≡ length vs + length fs)) (roots_found apart vs fs)
        → Whenever (λ (gs : List Neighbor). AllBelow n (nodes_of gs) × (length gs ≡ suc (length vs) + length es)) (roots_found apart vs fs)
    more fs h w = weaken (roots_found apart vs fs) (length vs) (length fs) (length es) n h.1 w

pub all-below : (n : ℕ) (vs : List ℕ) → ((i : ℕ) → i < length vs → get_or vs i 0 < n) → AllBelow n vs
unfolding AllBelow
all-below n [] h = tt
all-below n (v ∷ vs) h = (h 0 (omega arith), all-below n vs (λ (i : ℕ) l. h (suc i) (omega arith)))
