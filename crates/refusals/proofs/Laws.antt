-- One turn and the end of each loop over junk, over lanes and over what is put on a page, and a run that is read. Assumes nothing.
use Rattle.std.proofs.Common.{◌≡◌, ℕ, suc, ◌+◌, ◌-◌, ◌<◌, ◌≤◌, Bool, true, false, List, [], ◌++◌, length, get_or, take, drop, set, sym, refl, ap, ◌∙◌, append_assoc, append-nil, add-one, arith, length-set, drop_of_length-le, length-take-le, take_all, drop-cons, take-suc-set, le-ltb, lt-ltb}
use Rattle.cases.specs.declared.Cursor.{Cursor}
use Rattle.cases.specs.declared.Read.{Read}
use Rattle.cases.specs.Text.{size_at, behind}
use Rattle.refusals.specs.Given.{run_at, run_in}
use Rattle.refusals.specs.Junk.{rising, stands}
use Rattle.refusals.specs.Texts.{before_place, next_column, places_text, words_text}
use Rattle.pages.specs.Page.{bytes, labelled}

module _ {A : Type 0} (next : A → A) where
  -- the first i places are filled, and v is for the next
  pub record Filling (first : A) (xs₀ xs : List A) (i : ℕ) (v : A) : Type 0 where
    pub list : take i xs ++ rising next v (length xs₀ - i) ≡ rising next first (length xs₀)
    pub long : length xs ≡ length xs₀

  pub filling_none : (first : A) (xs : List A) → Filling first xs xs 0 first
  filling_none first xs = record { list = ap (rising next first) (omega arith); long = refl }

  pub filling_turn : {first v : A} {xs₀ xs : List A} {i : ℕ} → Filling first xs₀ xs i v → i < length xs₀ → Filling first xs₀ (set xs i v) (i + 1) (next v)
  unfolding rising
  filling_turn {first} {v} {xs₀} {xs} {i} inv h =
      let long = inv.long in
      let left : suc (length xs₀ - suc i) ≡ length xs₀ - i = omega arith in
      record {
        list = rw (add-one i, take-suc-set xs i v (omega arith), append_assoc) (ap (λ (n : ℕ). take i xs ++ rising next v n) left ∙ inv.list);
        long = simp length-set long;
      }

  pub filling_end : {first v : A} {xs₀ xs : List A} {i : ℕ} → Filling first xs₀ xs i v → length xs₀ ≤ i → xs ≡ rising next first (length xs₀)
  unfolding rising
  filling_end {first} {v} {xs₀} {xs} {i} inv h =
      let long = inv.long in
      let none : 0 ≡ length xs₀ - i = omega arith in
      sym (append-nil xs) ∙ ap (λ (l : List A). l ++ []) (sym (take_all i xs (omega arith))) ∙ ap (λ (n : ℕ). take i xs ++ rising next v n) none ∙ inv.list

  module _ (same : A → A → Bool) (from : ℕ) (v : A) (xs : List A) (d : A) (i : ℕ) where
    pub stands-end : length xs ≤ i → stands next same from i v (drop i xs) ≡ true
    unfolding stands
    stands-end h = rw (drop_of_length-le xs h)

    module _ (h : i < length xs) where
      pub stands_skip : i < from → stands next same from (i + 1) (next v) (drop (i + 1) xs) ≡ stands next same from i v (drop i xs)
      unfolding stands
      stands_skip s = rw (drop-cons xs i d h, lt-ltb i from s, add-one i)

      pub stands_same : from ≤ i → same (get_or xs i d) v ≡ true → stands next same from (i + 1) (next v) (drop (i + 1) xs) ≡ stands next same from i v (drop i xs)
      unfolding stands
      stands_same f e = rw (drop-cons xs i d h, le-ltb i from f, e, add-one i)

      pub stands-not : from ≤ i → same (get_or xs i d) v ≡ false → stands next same from i v (drop i xs) ≡ false
      unfolding stands
      stands-not f e = rw (drop-cons xs i d h, le-ltb i from f, e)

-- A run is read after its length.
module _ {A : Type 0} (text : List ℕ) (c : Cursor) (out : List A) (s : Read ℕ) (read : s ≡ size_at (length out) text c) (fits : s.value ≤ length out) where
  pub run_behind : (next : Cursor) → next ≡ behind (length (take s.value out)) text s.cursor → record { value = s.value; cursor = next } ≡ run_at (length out) text c
  unfolding run_at
  run_behind next there = let long = length-take-le s.value out fits in rw (← read, there, long)

  pub run_made :
      (listed : ℕ → List ℕ → Cursor → List A) (part : List A) → part ≡ listed (length (take s.value out)) text s.cursor
      → part ++ drop s.value out ≡ run_in listed text c out
  unfolding run_in
  run_made listed part made = let long = length-take-le s.value out fits in rw (← read, made, long)

-- the words, and the places of a graph, from one on: the first, and the rest
module _ (ws : List ℕ) (i : ℕ) where
  pub words-here : i < length ws → words_text (drop i ws) ≡ labelled (bytes " ") (get_or ws i 0) ++ words_text (drop (i + 1) ws)
  unfolding words_text
  words-here h = rw (drop-cons ws i 0 h, add-one i)

  pub words-over : length ws ≤ i → words_text (drop i ws) ≡ []
  unfolding words_text
  words-over h = rw (drop_of_length-le ws h)

  module _ (size column : ℕ) where
    pub places_here :
        i < length ws
        → places_text size i column (drop i ws) ≡ labelled (before_place i column) (get_or ws i 0) ++ places_text size (i + 1) (next_column size column) (drop (i + 1) ws)
    unfolding places_text
    places_here h = rw (drop-cons ws i 0 h, add-one i)

    pub places_over : length ws ≤ i → places_text size i column (drop i ws) ≡ []
    unfolding places_text
    places_over h = rw (drop_of_length-le ws h)

-- the turns and the ends of filling, and of looking at what stands
pub ruleset filling = (filling_none, filling_turn, filling_end)

pub ruleset standing = (stands-end, stands_skip, stands_same, stands-not)
