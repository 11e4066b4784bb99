-- The test of a lent state holds exactly of the encodings of well-formed descents. Assumes nothing.
use mathlib.Core.Path.{◌≡◌, refl}
use mathlib.Core.Bool.{true, ◌&&◌}
use mathlib.Core.List.{List, [], ◌∷◌}
use Prim.Native.Nat.{ℕ, ◌+◌, ◌*◌, ◌<◌}
use native.Mathlib.Omega.{arith}
use lib.Dec.{T, ltb}
use lib.ListN.{length, drop}
use lib.Ieee.{Float, binary32, fits}
use borrow.Author.Tests.{ltb-true, lt-ltb}
use Rattle.rules.specs.declared.Neighbor.{Neighbor}
use Rattle.rules.specs.Loops.{part}
use Rattle.rules.specs.Lists.{entries, distances_of}
use Rattle.rules.specs.Calls.{descent_words}
use Rattle.rules.specs.Offers.{lists_formed}
use Rattle.rules.specs.Descent.{Context, Descent, list_at}
use Rattle.rules.specs.Places.{same_words, same_floats, list_floats, lists_in}
use Rattle.rules.specs.DescentPlaces.{descent_state, context_in, bit_at, descent_in, members_formed, contexts_formed, descent_formed}
use Rattle.rules.proofs.Tests.{both, together}
use Rattle.rules.proofs.Loops.{length-ones}
use Rattle.rules.proofs.Places.{length-members}
use Rattle.lists.specs.All.{All}
use Rattle.lists.proofs.Plain.{all_append}
use Rattle.lists.proofs.Slices.{length-entries}
use Rattle.steps.proofs.Formed.{kept_of}
use Rattle.encoded.specs.Words.{Binary32}
use Rattle.encoded.proofs.Same.{same-words, words_same, same-floats, floats_same}
use Rattle.encoded.proofs.Rows.{all_ones, length-part_of, all-part, all_get_d}
use Rattle.encoded.proofs.Binary.{binary-entries}
use Rattle.relay_kept.proofs.Lists.{binary-each, lists-formed, formed-lists}
use Rattle.descent_kept.specs.Formed.{Each, Few, Below, Fitting, Formed}
use Rattle.descent_kept.proofs.Back.{descent-back}

-- ---- "with nodes below n"

module _ (n : ℕ) where
  pub members-below : (xs : List ℕ) → members_formed n xs ≡ true → Below n xs
  unfolding members_formed
  members-below [] h = tt
  members-below (x ∷ xs) h =
      let b = both (ltb x n) (members_formed n xs) h in
      let l = ltb-true x n b.0 in
      (omega arith, members-below xs b.1)

  below-members : (xs : List ℕ) → Below n xs → members_formed n xs ≡ true
  unfolding members_formed
  below-members [] B = refl
  below-members (x ∷ xs) B = together (ltb x n) (members_formed n xs) (let b = B.0 in lt-ltb x n (omega arith)) (below-members xs B.1)

  contexts-below : (cs : List Context) → contexts_formed n cs ≡ true → All (Each (Below n)) cs
  unfolding contexts_formed
  contexts-below [] h = tt
  contexts-below (c ∷ cs) h =
      let f = members_formed n in
      let b = both (f c.new && (f c.old && (f c.reversed_new && f c.reversed_old))) (contexts_formed n cs) h in
      let p = both (f c.new) (f c.old && (f c.reversed_new && f c.reversed_old)) b.0 in
      let q = both (f c.old) (f c.reversed_new && f c.reversed_old) p.1 in
      let r = both (f c.reversed_new) (f c.reversed_old) q.1 in (
        record {
          new = members-below c.new p.0;
          old = members-below c.old q.0;
          reversed_new = members-below c.reversed_new r.0;
          reversed_old = members-below c.reversed_old r.1;
        },
        contexts-below cs b.1,
      )

  below-contexts : (cs : List Context) → All (Each (Below n)) cs → contexts_formed n cs ≡ true
  unfolding contexts_formed
  below-contexts [] B = refl
  below-contexts (c ∷ cs) B =
      let f = members_formed n in
      let e = B.0 in
      together (f c.new && (f c.old && (f c.reversed_new && f c.reversed_old))) (contexts_formed n cs)
      (together (f c.new) (f c.old && (f c.reversed_new && f c.reversed_old)) (below-members c.new e.new)
      (together (f c.old) (f c.reversed_new && f c.reversed_old) (below-members c.old e.old)
      (together (f c.reversed_new) (f c.reversed_old) (below-members c.reversed_new e.reversed_new) (below-members c.reversed_old e.reversed_old))))
      (below-contexts cs B.1)

-- ---- the encoding of a well-formed descent is well formed

pub formed_encoded : {n k : ℕ} (x : Descent) → Formed n k x → descent_formed n k (descent_state n x) (list_floats x.lists) ≡ true
unfolding descent_formed
formed_encoded {n} {k} x F =
    let e = descent-back n k x F.fitting in
    let sz = F.fitting.nodes in
    rw e
    (together (same_words (descent_state n x) (descent_state n x)) (same_floats (list_floats x.lists) (list_floats x.lists) && (lists_formed n x.lists && contexts_formed n x.contexts))
    (same-words (descent_state n x) (descent_state n x) refl)
    (together (same_floats (list_floats x.lists) (list_floats x.lists)) (lists_formed n x.lists && contexts_formed n x.contexts) (same-floats (list_floats x.lists) (list_floats x.lists) refl)
    (together (lists_formed n x.lists) (contexts_formed n x.contexts)
    (formed-lists n x.lists (λ (w : ℕ) (h : w < length x.lists). (F.lists w (omega arith)).formed)) (below-contexts n x.contexts F.members))))

-- ---- and what is well formed is the encoding of a well-formed descent

few_context : (us : List ℕ) → Each Few (context_in us)
unfolding context_in
few_context us =
    record {
      new = length-members us;
      old = length-members (drop 65 us);
      reversed_new = length-members (drop 130 us);
      reversed_old = length-members (drop 195 us);
    }

module _ (n k : ℕ) (us : List ℕ) (fs : List Float) (B : Binary32 fs) (long-us : length us ≡ descent_words n k) (long_fs : length fs ≡ n * k) where
  abbrev x : Descent
  x = descent_in n k us fs

  abbrev BinaryList : List Neighbor → Type 0
  BinaryList l = Binary32 (distances_of l)

  binary-lists : All BinaryList (descent_in n k us fs).lists
  unfolding descent_in lists_in
  binary-lists =
      all_ones (λ (i : ℕ). entries k (part k i us) (part k i fs)) BinaryList n (λ (i : ℕ) (h : i < n).
      binary-entries k (part k i us) (part k i fs) (all-part (λ (f : Float). T (fits binary32 f)) k i fs B))

  pub fitting_in : Fitting n k (descent_in n k us fs)
  unfolding descent_in lists_in
  fitting_in =
      record {
        nodes = length-ones (λ (i : ℕ). entries k (part k i us) (part k i fs)) n;
        rows = all_ones (λ (i : ℕ). entries k (part k i us) (part k i fs)) (λ (l : List Neighbor). length l ≡ k) n (λ (i : ℕ) (h : i < n).
            let a = length-part_of k n i us (omega arith) h in
            let b = length-part_of k n i fs (omega arith) h in
            length-entries k (part k i us) (part k i fs) (omega arith) (omega arith));
        contexts = length-ones (λ (i : ℕ). context_in (drop (n * k + 260 * i) us)) n;
        few = all_ones (λ (i : ℕ). context_in (drop (n * k + 260 * i) us)) (Each Few) n (λ (i : ℕ) (h : i < n). few_context (drop (n * k + 260 * i) us));
        pairs = length-ones (λ (p : ℕ). bit_at (drop (n * k + 260 * n) us) p) (n * n);
      }

  binary-floats : (ls : List (List Neighbor)) → All BinaryList ls → Binary32 (list_floats ls)
  unfolding list_floats
  binary-floats [] L = tt
  binary-floats (l ∷ ls) L = all_append (λ (f : Float). T (fits binary32 f)) (distances_of l) (list_floats ls) L.0 (binary-floats ls L.1)

  pub record Tested : Type 0 where
    pub words : us ≡ descent_state n (descent_in n k us fs)
    pub floats : fs ≡ list_floats (descent_in n k us fs).lists
    pub formed : Formed n k (descent_in n k us fs)

  pub tested : descent_formed n k us fs ≡ true → Tested
  unfolding descent_formed distances_of
  tested h =
      let a = both (same_words us (descent_state n x)) (same_floats fs (list_floats x.lists) && (lists_formed n x.lists && contexts_formed n x.contexts)) h in
      let b = both (same_floats fs (list_floats x.lists)) (lists_formed n x.lists && contexts_formed n x.contexts) a.1 in
      let c = both (lists_formed n x.lists) (contexts_formed n x.contexts) b.1 in
      let F = fitting_in in
      let sz = F.nodes in
      record {
        words = words_same us (descent_state n x) a.0;
        floats = floats_same fs (list_floats x.lists) B (binary-floats x.lists binary-lists) b.0;
        formed =
            record {
              fitting = F;
              lists = λ (w : ℕ) (wn : w < n).
                  kept_of n (list_at x.lists w) (binary-each n (list_at x.lists w) (all_get_d BinaryList x.lists w [] binary-lists tt)) (lists-formed n x.lists w c.0 (omega arith));
              members = contexts-below n x.contexts c.1;
            };
      }
