-- What the passes count on of the lists of a context in a lent slice. Assumes nothing.
use Rattle.std.specs.Prelude.{◌≡◌, Bool, true, cond, List, [], ◌∷◌, ◌++◌, map, ℕ, suc, ◌*◌, ◌≤◌, ◌<◌, ltb, length, drop, get_or}
use Rattle.rules.specs.Loops.{each}
use Rattle.rules.specs.Descent.{Context, Pair, pair, cross, own_pairs, rising_with, rising_pairs}
use Rattle.rules.specs.DescentPlaces.{members_in, context_in}
use Rattle.lists.specs.All.{All}

-- nodes below n
abbrev pub Below : ℕ → List ℕ → Type 0
Below n vs = All (λ (v : ℕ). v < n) vs

-- at most 64 of them
pub record Short (n : ℕ) (vs : List ℕ) : Type 0 where
  pub below : Below n vs
  pub few : length vs ≤ 64

-- every pair meets, or only where its smaller node comes first
unfoldable pub joins : Bool → ℕ → ℕ → Bool
joins rising u v = cond rising (ltb u v) true

unfoldable pub one_pair : Bool → ℕ → ℕ → List Pair
one_pair rising u v = cond (joins rising u v) (pair u v ∷ []) []

-- a node with each of a list, or with each that is greater
unfoldable pub row_pairs : Bool → ℕ → List ℕ → List Pair
row_pairs rising u vs = cond rising (rising_with u vs) (map (pair u) vs)

-- the place of the first partner of the node at place i: the first of all, or where it meets those behind it its own, or where only rising pairs meet the next
unfoldable pub first_of : Bool → Bool → ℕ → ℕ
first_of behind rising i = cond behind (cond rising (suc i) i) 0

pub record Within (behind rising : Bool) (us vs : List ℕ) : Type 0 where
  pub each : (i : ℕ) → i < length us → first_of behind rising i ≤ length vs

-- each of us with its partners among vs
unfoldable pub pass_pairs : Bool → Bool → List ℕ → List ℕ → List Pair
pass_pairs behind rising us vs = each (λ (i : ℕ). row_pairs rising (get_or us i 0) (drop (first_of behind rising i) vs)) (length us)

-- the first three of the seven passes, and the last four
unfoldable pub early_pairs : List ℕ → List ℕ → List ℕ → List Pair
early_pairs new old reversed_new = own_pairs new ++ (cross new old ++ rising_pairs reversed_new)

unfoldable pub late_pairs : List ℕ → List ℕ → List ℕ → List ℕ → List Pair
late_pairs new old reversed_new reversed_old =
    cross reversed_new reversed_old ++ (cross new reversed_old ++ (cross new reversed_new ++ cross old reversed_new))

-- a context list at the front of words: its length, and room for 64
pub record Members (n : ℕ) (us : List ℕ) : Type 0 where
  pub room : 65 ≤ length us
  pub few : get_or us 0 0 ≤ 64
  pub below : Below n (members_in us)

-- the four lists of a context
pub record Contexted (n : ℕ) (us : List ℕ) : Type 0 where
  pub new : Members n us
  pub old : Members n (drop 65 us)
  pub reversed_new : Members n (drop 130 us)
  pub reversed_old : Members n (drop 195 us)

-- the contexts of all nodes, 260 words each
unfoldable pub contexts_in : ℕ → List ℕ → List Context
contexts_in n us = each (λ (i : ℕ). context_in (drop (260 * i) us) ∷ []) n

pub record ManyContexted (n : ℕ) (us : List ℕ) : Type 0 where
  pub each : (i : ℕ) → i < n → Contexted n (drop (260 * i) us)
  pub room : 260 * n ≤ length us

-- the members as a part of the words
pub record MembersOf (n : ℕ) (us : List ℕ) (vs : List ℕ) : Type 0 where
  pub list : vs ≡ members_in us
  pub short : Short n vs
