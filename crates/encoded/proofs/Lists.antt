-- Lists of entries in lent words and floats, with room to spare or exactly k each, are read back. Assumes nothing.
use mathlib.Core.Path.{◌≡◌, refl, sym, ap, ◌∙◌}
use mathlib.Core.List.{List, [], ◌∷◌, ◌++◌, append-nil, map}
use Prim.Native.Nat.{ℕ, zero, suc, ◌-◌, ◌*◌, ◌≤◌, ◌<◌}
use native.Mathlib.Nat.{le_of_suc-le-suc, not-suc-le-zero}
use native.Mathlib.Omega.{arith}
use lib.ListN.{length, get_or, replicate, length-map}
use lib.Ieee.{Float}
use Rattle.rules.specs.declared.Neighbor.{Neighbor}
use Rattle.rules.specs.Loops.{part}
use Rattle.rules.specs.Distance.{zero32}
use Rattle.rules.specs.Lists.{entries, nodes_of, distances_of}
use Rattle.rules.specs.Places.{padded, list_words, list_floats, lists_in}
use Rattle.rules.specs.RelayPlaces.{room_words, room_floats, lengths_of}
use Rattle.rules.proofs.Places.{length-padded}
use Rattle.lists.proofs.Plain.{all-at, length-nodes, length-distances}
use Rattle.lists.proofs.Slices.{entries_of}
use Rattle.encoded.specs.Words.{joined, Rows, Short}
use Rattle.encoded.proofs.Rows.{each_back, length-joined, part-joined, rows-map, get_d_mapped}

-- ---- one list

-- whatever stands behind it
pub entries-back : (l : List Neighbor) (xs : List ℕ) (ys : List Float) → entries (length l) (nodes_of l ++ xs) (distances_of l ++ ys) ≡ l
unfolding entries nodes_of distances_of
entries-back [] xs ys = refl
entries-back (x ∷ l) xs ys = ap (λ (r : List Neighbor). x ∷ r) (entries-back l xs ys)

pub entries-padded : (m : ℕ) (l : List Neighbor) → entries (length l) (padded m 0 (nodes_of l)) (padded m zero32 (distances_of l)) ≡ l
unfolding padded
entries-padded m l = entries-back l (replicate (m - length (nodes_of l)) 0) (replicate (m - length (distances_of l)) zero32)

-- ---- lists with room for m entries each

module _ (m : ℕ) where
  -- a list as a row of words, and of floats
  abbrev pub word_row : List Neighbor → List ℕ
  word_row l = padded m 0 (nodes_of l)

  abbrev pub float_row : List Neighbor → List Float
  float_row l = padded m zero32 (distances_of l)

  pub room-words : (ls : List (List Neighbor)) → room_words m ls ≡ joined (map word_row ls)
  unfolding room_words joined
  room-words [] = refl
  room-words (l ∷ ls) = ap (λ (r : List ℕ). word_row l ++ r) (room-words ls)

  pub room_floats_lem : (ls : List (List Neighbor)) → room_floats m ls ≡ joined (map float_row ls)
  unfolding room_floats joined
  room_floats_lem [] = refl
  room_floats_lem (l ∷ ls) = ap (λ (r : List Float). float_row l ++ r) (room_floats_lem ls)

  module _ (ls : List (List Neighbor)) (S : Short m ls) where
    pub word_rows : Rows m (map word_row ls)
    word_rows =
        rows-map m word_row (λ (l : List Neighbor). length l ≤ m)
        (λ (l : List Neighbor) (h : length l ≤ m). length-padded m 0 (nodes_of l) (let e = length-nodes l in omega arith)) ls S

    pub float_rows : Rows m (map float_row ls)
    float_rows =
        rows-map m float_row (λ (l : List Neighbor). length l ≤ m)
        (λ (l : List Neighbor) (h : length l ≤ m). length-padded m zero32 (distances_of l) (let e = length-distances l in omega arith)) ls S

    pub length-room-words : length (room_words m ls) ≡ length ls * m
    length-room-words =
        ap length (room-words ls) ∙ length-joined m (map word_row ls) word_rows ∙ ap (λ (i : ℕ). i * m) (length-map ls word_row)

    pub length-room-floats : length (room_floats m ls) ≡ length ls * m
    length-room-floats =
        ap length (room_floats_lem ls) ∙ length-joined m (map float_row ls) float_rows ∙ ap (λ (i : ℕ). i * m) (length-map ls float_row)

    -- node w's places
    module _ (w : ℕ) (h : w < length ls) where
      pub part-words : (xs : List ℕ) → part m w (room_words m ls ++ xs) ≡ word_row (get_or ls w [])
      part-words xs =
          rw (room-words ls)
          (part-joined m (map word_row ls) xs w word_rows (let e = length-map ls word_row in omega arith)
          ∙ get_d_mapped word_row ls w [] [] h)

      pub part-floats : (xs : List Float) → part m w (room_floats m ls ++ xs) ≡ float_row (get_or ls w [])
      part-floats xs =
          rw (room_floats_lem ls)
          (part-joined m (map float_row ls) xs w float_rows (let e = length-map ls float_row in omega arith)
          ∙ get_d_mapped float_row ls w [] [] h)

-- ---- their lengths

pub length-lengths : (ls : List (List Neighbor)) → length (lengths_of ls) ≡ length ls
unfolding lengths_of
length-lengths [] = refl
length-lengths (l ∷ ls) = ap suc (length-lengths ls)

pub length_at : (ls : List (List Neighbor)) (w : ℕ) → w < length ls → get_or (lengths_of ls) w 0 ≡ length (get_or ls w [])
unfolding lengths_of
length_at [] w h = absurd (not-suc-le-zero h)
length_at (l ∷ ls) zero h = refl
length_at (l ∷ ls) (suc w) h = length_at ls w (le_of_suc-le-suc h)

-- ---- lists of k entries each, with no room to spare

pub list-words : (ls : List (List Neighbor)) → list_words ls ≡ joined (map nodes_of ls)
unfolding list_words joined
list-words [] = refl
list-words (l ∷ ls) = ap (λ (r : List ℕ). nodes_of l ++ r) (list-words ls)

pub list-floats : (ls : List (List Neighbor)) → list_floats ls ≡ joined (map distances_of ls)
unfolding list_floats joined
list-floats [] = refl
list-floats (l ∷ ls) = ap (λ (r : List Float). distances_of l ++ r) (list-floats ls)

module _ (k : ℕ) (ls : List (List Neighbor)) (K : Rows k ls) where
  pub node_rows : Rows k (map nodes_of ls)
  node_rows =
      rows-map k nodes_of (λ (l : List Neighbor). length l ≡ k) (λ (l : List Neighbor) (h : length l ≡ k). length-nodes l ∙ h) ls K

  pub distance-rows : Rows k (map distances_of ls)
  distance-rows =
      rows-map k distances_of (λ (l : List Neighbor). length l ≡ k) (λ (l : List Neighbor) (h : length l ≡ k). length-distances l ∙ h) ls K

  pub length-list-words : length (list_words ls) ≡ length ls * k
  length-list-words = ap length (list-words ls) ∙ length-joined k (map nodes_of ls) node_rows ∙ ap (λ (i : ℕ). i * k) (length-map ls nodes_of)

  pub length-list-floats : length (list_floats ls) ≡ length ls * k
  length-list-floats =
      ap length (list-floats ls) ∙ length-joined k (map distances_of ls) distance-rows ∙ ap (λ (i : ℕ). i * k) (length-map ls distances_of)

  module _ (w : ℕ) (h : w < length ls) where
    pub part-nodes : (xs : List ℕ) → part k w (list_words ls ++ xs) ≡ nodes_of (get_or ls w [])
    part-nodes xs =
        rw (list-words ls)
        (part-joined k (map nodes_of ls) xs w node_rows (let e = length-map ls nodes_of in omega arith)
        ∙ get_d_mapped nodes_of ls w [] [] h)

    pub part-distances : (xs : List Float) → part k w (list_floats ls ++ xs) ≡ distances_of (get_or ls w [])
    part-distances xs =
        rw (list-floats ls)
        (part-joined k (map distances_of ls) xs w distance-rows (let e = length-map ls distances_of in omega arith)
        ∙ get_d_mapped distances_of ls w [] [] h)

  -- whatever stands behind them
  pub lists_back : (n : ℕ) (xs : List ℕ) (ys : List Float) → n ≡ length ls → lists_in n k (list_words ls ++ xs) (list_floats ls ++ ys) ≡ ls
  unfolding lists_in
  lists_back n xs ys e =
      each_back (λ (i : ℕ). entries k (part k i (list_words ls ++ xs)) (part k i (list_floats ls ++ ys))) ls [] n e (λ (i : ℕ) (h : i < length ls).
      let l = get_or ls i [] in
      let m : length l ≡ k = all-at (λ (r : List Neighbor). length r ≡ k) ls i [] K h in
      rw (part-nodes i h xs, part-distances i h ys) (ap (λ (j : ℕ). entries j (nodes_of l) (distances_of l)) (sym m) ∙ entries_of l))

  pub lists-whole : (n : ℕ) → n ≡ length ls → lists_in n k (list_words ls) (list_floats ls) ≡ ls
  lists-whole n e = rw (← append-nil (list_words ls), ← append-nil (list_floats ls)) (lists_back n [] [] e)
