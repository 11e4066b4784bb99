-- Places inside lent state in general, and lists of k entries in nk u32 and nk f32. Assumes nothing.
use Rattle.std.specs.Prelude.{Bool, true, false, ◌&&◌, List, [], ◌∷◌, ◌++◌, map, ℕ, ◌-◌, eqb, length, replicate, Float}
use Rattle.std.specs.Float.{binary32}
use Rattle.std.specs.Float.Ieee.{to_bits}
use Rattle.rules.specs.declared.Neighbor.{Neighbor}
use Rattle.rules.specs.Loops.{each, part}
use Rattle.rules.specs.Lists.{entries, nodes_of, distances_of}

module _ {A : Type 0} where
  -- "unused places .. zero": xs, then z up to n places
  unfoldable pub padded : ℕ → A → List A → List A
  padded n z xs = xs ++ replicate (n - length xs) z

unfoldable pub same_words : List ℕ → List ℕ → Bool
same_words [] [] = true
same_words [] (y ∷ ys) = false
same_words (x ∷ xs) [] = false
same_words (x ∷ xs) (y ∷ ys) = eqb x y && same_words xs ys

-- distances are judged by their bits
unfoldable pub same_floats : List Float → List Float → Bool
same_floats xs ys = same_words (map (to_bits binary32) xs) (map (to_bits binary32) ys)

-- ---- lists of k entries: nk u32 and nk f32

unfoldable pub list_words : List (List Neighbor) → List ℕ
list_words [] = []
list_words (l ∷ ls) = nodes_of l ++ list_words ls

unfoldable pub list_floats : List (List Neighbor) → List Float
list_floats [] = []
list_floats (l ∷ ls) = distances_of l ++ list_floats ls

unfoldable pub lists_in : ℕ → ℕ → List ℕ → List Float → List (List Neighbor)
lists_in n k us fs = each (λ (i : ℕ). entries k (part k i us) (part k i fs) ∷ []) n
