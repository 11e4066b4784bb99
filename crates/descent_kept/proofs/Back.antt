-- The encoding of a descent has the lengths that row 6 asks for, and is read back as that descent. Assumes nothing.
use mathlib.Core.Path.{◌≡◌, refl, sym, ap, ◌∙◌}
use mathlib.Core.Bool.{false}
use mathlib.Core.List.{List, [], ◌∷◌, ◌++◌, map, append_assoc, append-nil}
use Prim.Native.Nat.{ℕ, suc, ◌+◌, ◌-◌, ◌*◌, ◌/◌, ◌≤◌, ◌<◌}
use native.Mathlib.Nat.{mul_comm}
use native.Mathlib.Omega.{arith}
use lib.ListN.{length, take, drop, get_or, replicate, length-append, length-map}
use lib.Seq.{take_at, drop_at, drop-drop}
use lib.Ieee.{Float}
use Rattle.rules.specs.Loops.{each}
use Rattle.rules.specs.Calls.{descent_words}
use Rattle.rules.specs.Descent.{Context, Descent}
use Rattle.rules.specs.Places.{padded, list_words, list_floats, lists_in}
use Rattle.rules.specs.DescentPlaces.{member_words, context_words, pair_words, descent_state, members_in, context_in, bit_at, descent_in}
use Rattle.rules.proofs.Places.{length-padded, length-member_words}
use Rattle.lists.specs.All.{All}
use Rattle.visits.proofs.Flags.{length_pairs, pairs-bit}
use Rattle.encoded.specs.Words.{joined, Rows}
use Rattle.encoded.proofs.Rows.{drop_more, each_back, length-joined, drop-joined, rows-map, get_d_mapped}
use Rattle.encoded.proofs.Lists.{length-list-words, length-list-floats, lists_back}
use Rattle.lists.proofs.Plain.{all-at}
use Rattle.descent_kept.specs.Formed.{Each, Few, Fitting}

-- ---- one list of a context

pub members-back : (xs ys : List ℕ) → length xs ≤ 64 → members_in (member_words xs ++ ys) ≡ xs
unfolding member_words members_in padded
members-back xs ys h =
    ap (take (length xs)) (take_at (xs ++ replicate (64 - length xs) 0) ys 64 (long xs h))
    ∙ take_at xs (replicate (64 - length xs) 0) (length xs) refl
  where
    long : (xs : List ℕ) → length xs ≤ 64 → length (xs ++ replicate (64 - length xs) 0) ≡ 64
    long xs h = length-padded 64 0 xs h

-- ---- one context

abbrev pub context_row : Context → List ℕ
context_row c = member_words c.new ++ (member_words c.old ++ (member_words c.reversed_new ++ member_words c.reversed_old))

module _ (c : Context) (F : Each Few c) where
  abbrev a : List ℕ
  a = member_words c.new

  abbrev b : List ℕ
  b = member_words c.old

  abbrev r : List ℕ
  r = member_words c.reversed_new

  abbrev s : List ℕ
  s = member_words c.reversed_old

  pub length-row : length (context_row c) ≡ 260
  length-row =
      let la = length-member_words c.new F.new in
      let lb = length-member_words c.old F.old in
      let lr = length-member_words c.reversed_new F.reversed_new in
      let ls = length-member_words c.reversed_old F.reversed_old in
      let e = length-append r s in
      let f = length-append b (r ++ s) in
      length-append a (b ++ (r ++ s)) ∙ omega arith

  pub context_back : (ys : List ℕ) → context_in (context_row c ++ ys) ≡ c
  unfolding context_in
  context_back ys =
      λ i. record {
        new = (ap members_in h0 ∙ members-back c.new (b ++ (r ++ (s ++ ys))) F.new) i;
        old = (ap members_in h1 ∙ members-back c.old (r ++ (s ++ ys)) F.old) i;
        reversed_new = (ap members_in h2 ∙ members-back c.reversed_new (s ++ ys) F.reversed_new) i;
        reversed_old = (ap members_in h3 ∙ members-back c.reversed_old ys F.reversed_old) i;
      }
    where
      h0 : context_row c ++ ys ≡ a ++ (b ++ (r ++ (s ++ ys)))
      h0 = simp append_assoc

      h1 : drop 65 (context_row c ++ ys) ≡ b ++ (r ++ (s ++ ys))
      h1 = ap (drop 65) h0 ∙ drop_at a (b ++ (r ++ (s ++ ys))) 65 (length-member_words c.new F.new)

      h2 : drop 130 (context_row c ++ ys) ≡ r ++ (s ++ ys)
      h2 = drop_more (context_row c ++ ys) b (r ++ (s ++ ys)) 65 130 65 h1 (length-member_words c.old F.old) refl

      h3 : drop 195 (context_row c ++ ys) ≡ s ++ ys
      h3 = drop_more (context_row c ++ ys) r (s ++ ys) 130 195 65 h2 (length-member_words c.reversed_new F.reversed_new) refl

-- ---- all contexts

pub contexts-joined : (cs : List Context) → context_words cs ≡ joined (map context_row cs)
unfolding context_words joined
contexts-joined [] = refl
contexts-joined (c ∷ cs) =
    ap (λ (z : List ℕ). member_words c.new ++ (member_words c.old ++ (member_words c.reversed_new ++ (member_words c.reversed_old ++ z)))) (contexts-joined cs)
    ∙ simp append_assoc

pub context_rows : (cs : List Context) → All (Each Few) cs → Rows 260 (map context_row cs)
context_rows cs F = rows-map 260 context_row (Each Few) length-row cs F

pub length-contexts : (cs : List Context) → All (Each Few) cs → length (context_words cs) ≡ length cs * 260
length-contexts cs F =
    ap length (contexts-joined cs) ∙ length-joined 260 (map context_row cs) (context_rows cs F) ∙ ap (λ (i : ℕ). i * 260) (length-map cs context_row)

abbrev no_context : Context
no_context = record { new = []; old = []; reversed_new = []; reversed_old = [] }

module _ (n k : ℕ) (x : Descent) (F : Fitting n k x) where
  abbrev pairs : List ℕ
  pairs = pair_words ((n * n + 31) / 32) x.visited

  lists-long : length (list_words x.lists) ≡ n * k
  lists-long = length-list-words k x.lists F.rows ∙ ap (λ (m : ℕ). m * k) F.nodes

  contexts-long : length (context_words x.contexts) ≡ 260 * n
  contexts-long = length-contexts x.contexts F.few ∙ ap (λ (m : ℕ). m * 260) F.contexts ∙ mul_comm n 260

  pub state-long : length (descent_state n x) ≡ descent_words n k
  unfolding descent_state
  state-long =
      let a = lists-long in
      let b = contexts-long in
      let c = length_pairs ((n * n + 31) / 32) x.visited in
      let e = length-append (context_words x.contexts) pairs in
      length-append (list_words x.lists) (context_words x.contexts ++ pairs) ∙ omega arith

  pub floats_long : length (list_floats x.lists) ≡ n * k
  floats_long = length-list-floats k x.lists F.rows ∙ ap (λ (m : ℕ). m * k) F.nodes

  -- ---- what stands where

  pub contexts_in_lem : drop (n * k) (descent_state n x) ≡ context_words x.contexts ++ pair_words ((n * n + 31) / 32) x.visited
  unfolding descent_state
  contexts_in_lem = drop_at (list_words x.lists) (context_words x.contexts ++ pairs) (n * k) lists-long

  pub pairs_in : drop (n * k + 260 * n) (descent_state n x) ≡ pair_words ((n * n + 31) / 32) x.visited
  pairs_in =
      drop_more (descent_state n x) (context_words x.contexts) pairs (n * k) (n * k + 260 * n) (260 * n) contexts_in_lem contexts-long refl

  pub context_at_lem : (i : ℕ) → i < n → context_in (drop (n * k + 260 * i) (descent_state n x)) ≡ get_or x.contexts i no_context
  context_at_lem i h =
      let cs = x.contexts in
      let ic : i < length cs = (let e = F.contexts in omega arith) in
      let im : i < length (map context_row cs) = (let e = length-map cs context_row in omega arith) in
      let rest = joined (drop (suc i) (map context_row cs)) ++ pairs in
      let d : drop (n * k + 260 * i) (descent_state n x) ≡ context_row (get_or cs i no_context) ++ rest =
      ap (λ (m : ℕ). drop (n * k + m) (descent_state n x)) (mul_comm 260 i)
      ∙ sym (drop-drop (i * 260) (n * k) (descent_state n x)) ∙ ap (drop (i * 260)) contexts_in_lem
      ∙ ap (λ (z : List ℕ). drop (i * 260) (z ++ pairs)) (contexts-joined cs)
      ∙ drop-joined 260 (map context_row cs) pairs i (context_rows cs F.few) im
      ∙ ap (λ (z : List ℕ). z ++ rest) (get_d_mapped context_row cs i [] no_context ic) in
      ap context_in d ∙ context_back (get_or cs i no_context) (all-at (Each Few) cs i no_context F.few ic) rest

  pub pair-at : (p : ℕ) → p < n * n → bit_at (drop (n * k + 260 * n) (descent_state n x)) p ≡ get_or x.visited p false
  pair-at p h = ap (λ (us : List ℕ). bit_at us p) pairs_in ∙ pairs-bit ((n * n + 31) / 32) x.visited p (omega arith)

  -- ---- the whole

  lists-read : lists_in n k (descent_state n x) (list_floats x.lists) ≡ x.lists
  unfolding descent_state
  lists-read =
      ap (λ (fs : List Float). lists_in n k (list_words x.lists ++ (context_words x.contexts ++ pairs)) fs) (sym (append-nil (list_floats x.lists)))
      ∙ lists_back k x.lists F.rows n (context_words x.contexts ++ pairs) [] (sym F.nodes)

  pub descent-back : descent_in n k (descent_state n x) (list_floats x.lists) ≡ x
  unfolding descent_in
  descent-back =
      let us = descent_state n x in
      let ls : lists_in n k us (list_floats x.lists) ≡ x.lists = lists-read in
      let cs : each (λ (i : ℕ). context_in (drop (n * k + 260 * i) us) ∷ []) n ≡ x.contexts =
      each_back (λ (i : ℕ). context_in (drop (n * k + 260 * i) us)) x.contexts no_context n (sym F.contexts) (λ (i : ℕ) (h : i < length x.contexts). context_at_lem i (let e = F.contexts in omega arith)) in
      let vs : each (λ (p : ℕ). bit_at (drop (n * k + 260 * n) us) p ∷ []) (n * n) ≡ x.visited =
      each_back (λ (p : ℕ). bit_at (drop (n * k + 260 * n) us) p) x.visited false (n * n) (sym F.pairs) (λ (p : ℕ) (h : p < length x.visited). pair-at p (let e = F.pairs in omega arith)) in
      λ i. record { lists = ls i; contexts = cs i; visited = vs i }
