-- The whole state that a begin writes: unfilled lists, contexts, zeros. Assumes nothing.
use mathlib.Core.Path.{◌≡◌, refl, sym, ap, ◌∙◌}
use mathlib.Core.Bool.{false}
use mathlib.Core.List.{List, [], ◌∷◌, ◌++◌, append_assoc}
use Prim.Native.Nat.{ℕ, zero, suc, ◌+◌, ◌-◌, ◌*◌}
use native.Mathlib.Nat.{suc-mul, zero-mul, zero-add}
use native.Mathlib.Omega.{arith}
use borrow.Rule.Slice.PartMut.{mid_of, put_mid}
use lib.ListN.{length, take, drop, replicate, length-replicate, replicate-append-replicate}
use lib.Seq.{take_all}
use lib.Ieee.{Float}
use Rattle.rules.specs.Loops.{each}
use Rattle.rules.specs.Rows.{empty_distance, empty_slot}
use Rattle.rules.specs.Build.{row_of}
use Rattle.rules.specs.Lists.{entries, nodes_of, distances_of}
use Rattle.rules.specs.Calls.{descent_words}
use Rattle.rules.specs.Offers.{unfilled}
use Rattle.rules.specs.Descent.{begun, begin_context}
use Rattle.rules.specs.Places.{list_words, list_floats}
use Rattle.rules.specs.DescentPlaces.{context_words, word_of, pair_words, descent_state}
use Rattle.buffers.proofs.Places.{length-area, put-length}
use Rattle.lists.proofs.Slices.{nodes_of-entries, distances_of-entries}
use Rattle.visits.specs.Marks.{marks}
use Rattle.begins.specs.Begins.{Begun}
use Rattle.begins.proofs.Laws.{put_next}

-- ---- unfilled lists

nodes_empty : (n k : ℕ) → nodes_of (replicate k (empty_slot n)) ≡ replicate k n
unfolding nodes_of
nodes_empty n zero = refl
nodes_empty n (suc k) = ap (λ (l : List ℕ). n ∷ l) (nodes_empty n k)

distances_empty : (n k : ℕ) → distances_of (replicate k (empty_slot n)) ≡ replicate k empty_distance
unfolding distances_of
distances_empty n zero = refl
distances_empty n (suc k) = ap (λ (l : List Float). empty_distance ∷ l) (distances_empty n k)

module _ (n k : ℕ) where
  unfilled-words : (m : ℕ) → list_words (replicate m (unfilled n k)) ≡ replicate (m * k) n
  unfolding list_words unfilled
  unfilled-words zero = rw (zero-mul k)
  unfilled-words (suc m) =
      let e : suc m * k ≡ k + m * k = suc-mul m k ∙ omega arith in
      ap (λ (l : List ℕ). l ++ list_words (replicate m (unfilled n k))) (nodes_empty n k)
      ∙ ap (λ (l : List ℕ). replicate k n ++ l) (unfilled-words m) ∙ replicate-append-replicate k (m * k) n ∙ ap (λ (j : ℕ). replicate j n) (sym e)

  unfilled-floats : (m : ℕ) → list_floats (replicate m (unfilled n k)) ≡ replicate (m * k) empty_distance
  unfolding list_floats unfilled
  unfilled-floats zero = rw (zero-mul k)
  unfilled-floats (suc m) =
      let e : suc m * k ≡ k + m * k = suc-mul m k ∙ omega arith in
      ap (λ (l : List Float). l ++ list_floats (replicate m (unfilled n k))) (distances_empty n k)
      ∙ ap (λ (l : List Float). replicate k empty_distance ++ l) (unfilled-floats m) ∙ replicate-append-replicate k (m * k) empty_distance ∙ ap (λ (j : ℕ). replicate j empty_distance) (sym e)

-- a row that keeps nothing is all empty
module _ (n m : ℕ) (ls ns : List ℕ) (fs ds : List Float) (e : entries m ls fs ≡ row_of n m (entries 0 ns ds)) (l : length ls ≡ m) (f : length fs ≡ m) where
  empty_row : entries m ls fs ≡ replicate m (empty_slot n)
  unfolding row_of entries
  empty_row = let z : m - 0 ≡ m = omega arith in e ∙ ap (λ (j : ℕ). replicate j (empty_slot n)) z

  pub nodes_are : ls ≡ replicate m n
  nodes_are = sym (take_all m ls (omega arith)) ∙ sym (nodes_of-entries m ls fs (omega arith)) ∙ ap nodes_of empty_row ∙ nodes_empty n m

  pub distances_are : fs ≡ replicate m empty_distance
  distances_are = sym (take_all m fs (omega arith)) ∙ sym (distances_of-entries m ls fs (omega arith)) ∙ ap distances_of empty_row ∙ distances_empty n m

-- ---- no pair visited

no_bits : (a b m : ℕ) → word_of (take a (drop b (replicate m false))) ≡ 0
unfolding word_of
no_bits zero b m = refl
no_bits (suc a) zero zero = refl
no_bits (suc a) zero (suc m) = let h = no_bits a zero m in rw h
no_bits (suc a) (suc b) zero = refl
no_bits (suc a) (suc b) (suc m) = no_bits (suc a) b m

no_pairs : (m c : ℕ) → pair_words c (replicate m false) ≡ replicate c 0
unfolding pair_words each
no_pairs m zero = refl
no_pairs m (suc c) =
    let e : c + 1 ≡ suc c = omega arith in
    ap (λ (l : List ℕ). l ++ (word_of (take 32 (drop (32 * c) (replicate m false))) ∷ [])) (no_pairs m c)
    ∙ ap (λ (w : ℕ). replicate c 0 ++ (w ∷ [])) (no_bits 32 (32 * c) m) ∙ replicate-append-replicate c 1 0 ∙ ap (λ (j : ℕ). replicate j 0) e

-- ---- the whole

module _ (n k s : ℕ) (draws us₀ : List ℕ) (long : length us₀ ≡ descent_words n k) where
  abbrev base : ℕ
  base = n * k

  abbrev end : ℕ
  end = n * k + 260 * n

  abbrev drawn_contexts : List ℕ
  drawn_contexts = context_words (each (λ (i : ℕ). begin_context draws n s i ∷ []) n)

  pub begun-is : {ls cs zs : List ℕ} {fs : List Float} {a b m : ℕ} → a ≡ base → b ≡ 260 * n → m ≡ length (put_mid base b (put_mid 0 a us₀ ls) cs) - end
      → ls ≡ replicate base n → fs ≡ replicate base empty_distance → cs ≡ drawn_contexts → length cs ≡ length (mid_of base b (put_mid 0 a us₀ ls)) → zs ≡ replicate (length (mid_of end m (put_mid base b (put_mid 0 a us₀ ls) cs))) 0
      → Begun n k s draws (put_mid end m (put_mid base b (put_mid 0 a us₀ ls) cs) zs) fs
  unfolding begun descent_state
  begun-is {ls} {cs} {zs} {fs} {a} {b} {m} ea eb em el ef ec cl ez =
      let us₁ = put_mid 0 base us₀ ls in
      let us₂ = put_mid base (260 * n) us₁ cs in
      let ll : length ls ≡ base = ap length el ∙ length-replicate base n in
      let l₁ : length us₁ ≡ descent_words n k = put-length 0 base us₀ ls (omega arith) ll ∙ long in
      let cl' : length cs ≡ 260 * n = cl ∙ rw (ea, eb) (length-area base (260 * n) us₁ (omega arith)) in
      let l₂ : length us₂ ≡ descent_words n k = put-length base (260 * n) us₁ cs (omega arith) cl' ∙ l₁ in
      let em' : m ≡ marks n = em ∙ rw (ea, eb) (rw l₂ (omega arith)) in
      let ez' : zs ≡ replicate (marks n) 0 = ez ∙ rw (ea, eb, em') (ap (λ (j : ℕ). replicate j 0) (length-area end (marks n) us₂ (omega arith))) in
      let zl : length zs ≡ marks n = ap length ez' ∙ length-replicate {A = ℕ} (marks n) 0 in
      let l₃ : length (put_mid end (marks n) us₂ zs) ≡ descent_words n k = put-length end (marks n) us₂ zs (omega arith) zl ∙ l₂ in
      let t₁ : take base us₁ ≡ ls = ap (λ (j : ℕ). take j us₁) (sym (zero-add base)) ∙ put_next 0 base us₀ ls (omega arith) ll in
      let t₂ : take end us₂ ≡ ls ++ cs = put_next base (260 * n) us₁ cs (omega arith) cl' ∙ ap (λ (l : List ℕ). l ++ cs) t₁ in
      let whole : put_mid end (marks n) us₂ zs ≡ ls ++ (cs ++ zs) =
      sym (take_all (end + marks n) (put_mid end (marks n) us₂ zs) (omega arith)) ∙ put_next end (marks n) us₂ zs (omega arith) zl ∙ ap (λ (l : List ℕ). l ++ zs) t₂ ∙ append_assoc ls cs zs in
      rw (ea, eb, em')
      (record {
        words =
            whole
            ∙ ap (λ (l : List ℕ). l ++ (cs ++ zs)) (el ∙ sym (unfilled-words n k n))
            ∙ ap (λ (l : List ℕ). list_words (replicate n (unfilled n k)) ++ (l ++ zs)) ec
            ∙ ap (λ (l : List ℕ). list_words (replicate n (unfilled n k)) ++ (drawn_contexts ++ l)) (ez' ∙ sym (no_pairs (n * n) (marks n)));
        floats = ef ∙ sym (unfilled-floats n k n);
      })
