-- The test of a lent state holds exactly of the encodings of well-formed relays. Assumes nothing.
use mathlib.Core.Path.{◌≡◌, refl, ap, ◌∙◌}
use mathlib.Core.Bool.{Bool, true, not, ◌&&◌}
use mathlib.Core.List.{List, [], ◌∷◌}
use Prim.Native.Nat.{ℕ, zero, suc, ◌+◌, ◌*◌, ◌≤◌, ◌<◌, min, zero-le, suc-le-suc}
use native.Mathlib.Nat.{le_of_suc-le-suc, not-suc-le-zero}
use native.Mathlib.Omega.{arith}
use lib.Dec.{T, eqb}
use lib.ListN.{length, drop, get_or}
use lib.Ieee.{Float, binary32, fits}
use borrow.Author.Tests.{eqb-true, eq-eqb, not-true}
use Rattle.rules.specs.declared.Neighbor.{Neighbor}
use Rattle.rules.specs.Loops.{part}
use Rattle.rules.specs.Numbers.{most, outside}
use Rattle.rules.specs.Distance.{zero32}
use Rattle.rules.specs.Lists.{entries, distances_of}
use Rattle.rules.specs.Offers.{lists_formed}
use Rattle.rules.specs.Descent.{list_at}
use Rattle.rules.specs.Relay.{Job, Relay}
use Rattle.rules.specs.Places.{same_words, same_floats, padded}
use Rattle.rules.specs.RelayPlaces.{room_floats, jobs_floats, relay_state, relay_state_floats, job_in, relay_in, job_formed, jobs_formed, pending_at, lengths_formed, relay_formed}
use Rattle.rules.proofs.Tables.{within, inside}
use Rattle.rules.proofs.Tests.{both, together}
use Rattle.rules.proofs.Loops.{length-ones}
use Rattle.lists.specs.All.{All}
use Rattle.lists.proofs.Plain.{all_append, all_of}
use Rattle.encoded.specs.Words.{Binary32, Readable, Fitting}
use Rattle.encoded.proofs.Same.{same-words, words_same, same-floats, floats_same}
use Rattle.encoded.proofs.Rows.{all_ones, all-part, all_get_d}
use Rattle.encoded.proofs.Jobs.{job-readable}
use Rattle.encoded.proofs.Back.{relay_back}
use Rattle.encoded.proofs.Binary.{binary-zero, binary-entries, binary-padded, binary_rooms, jobs-binary}
use Rattle.relay_kept.specs.Formed.{JobFormed, Formed}
use Rattle.relay_kept.proofs.Lists.{list-formed, formed-list, lists-formed, formed-lists}
use Rattle.relay_kept.proofs.Jobs.{parts, holdable_job, jobs-formed, formed-jobs, pending-le}

-- ---- lengths

pub lengths-formed : (k : ℕ) (js : List Job) (w : ℕ) (ls : List (List Neighbor)) (i : ℕ) → lengths_formed k js w ls ≡ true → i < length ls
    → length (get_or ls i []) ≡ k + pending_at (w + i) js
unfolding lengths_formed
lengths-formed k js w [] i h l = absurd (not-suc-le-zero l)
lengths-formed k js w (x ∷ ls) zero h l =
    let b = both (eqb (length x) (k + pending_at w js)) (lengths_formed k js (suc w) ls) h in
    let e : w ≡ w + 0 = omega arith in
    eqb-true (length x) (k + pending_at w js) b.0 ∙ ap (λ (v : ℕ). k + pending_at v js) e
lengths-formed k js w (x ∷ ls) (suc i) h l =
    let b = both (eqb (length x) (k + pending_at w js)) (lengths_formed k js (suc w) ls) h in
    let e : suc w + i ≡ w + suc i = omega arith in
    lengths-formed k js (suc w) ls i b.1 (le_of_suc-le-suc l) ∙ ap (λ (v : ℕ). k + pending_at v js) e

pub formed-lengths : (k : ℕ) (js : List Job) (w : ℕ) (ls : List (List Neighbor)) → ((i : ℕ) → i < length ls → length (get_or ls i []) ≡ k + pending_at (w + i) js)
    → lengths_formed k js w ls ≡ true
unfolding lengths_formed
formed-lengths k js w [] f = refl
formed-lengths k js w (x ∷ ls) f =
    let e : w + 0 ≡ w = omega arith in
    together (eqb (length x) (k + pending_at w js)) (lengths_formed k js (suc w) ls)
    (eq-eqb (length x) (k + pending_at w js) (f 0 (suc-le-suc zero-le) ∙ ap (λ (v : ℕ). k + pending_at v js) e))
    (formed-lengths k js (suc w) ls (λ (i : ℕ) (h : i < length ls).
    let g : w + suc i ≡ suc w + i = omega arith in
    f (suc i) (suc-le-suc h) ∙ ap (λ (v : ℕ). k + pending_at v js) g))

-- ---- the encoding of a well-formed relay is well formed

module _ {n k : ℕ} (r : Relay) (F : Formed n k r) where
  -- it has room
  pub fitting : Fitting n k r
  fitting =
      let sz = F.nodes in
      record {
        nodes = F.nodes;
        short = all_of (λ (l : List Neighbor). length l ≤ k + 64) r.lists [] (λ (w : ℕ) (h : w < length r.lists).
            let a = F.lengths w (omega arith) in
            let b = pending-le n w r.jobs F.jobs in
            let c = F.few in
            omega arith);
        few = F.few;
        readable = readables r.jobs F.jobs;
      }
    where
      readables : (js : List Job) → All (JobFormed n) js → All Readable js
      readables [] J = tt
      readables (j ∷ js) J = (J.0.readable, readables js J.1)

  pub formed_encoded : relay_formed n k (relay_state k r) (relay_state_floats k r) ≡ true
  unfolding relay_formed
  formed_encoded =
      let e = relay_back n k r fitting in
      let sz = F.nodes in
      rw e
      (together (same_words (relay_state k r) (relay_state k r)) rest₁ (same-words (relay_state k r) (relay_state k r) refl)
      (together (same_floats (relay_state_floats k r) (relay_state_floats k r)) rest₂ (same-floats (relay_state_floats k r) (relay_state_floats k r) refl)
      (together (lists_formed n r.lists) rest₃ (formed-lists n r.lists (λ (w : ℕ) (h : w < length r.lists). formed-list n (list_at r.lists w) (F.lists w (omega arith))))
      (together (lengths_formed k r.jobs 0 r.lists) rest₄ (formed-lengths k r.jobs 0 r.lists (λ (w : ℕ) (h : w < length r.lists). let z : w ≡ 0 + w = omega arith in F.lengths w (omega arith) ∙ ap (λ (v : ℕ). k + pending_at v r.jobs) z))
      (together (not (outside 1 most (length r.jobs))) (jobs_formed n r.jobs) (rw (inside 1 most (length r.jobs) F.some F.few)) (formed-jobs n r.jobs F.jobs))))))
    where
      rest₄ : Bool
      rest₄ = not (outside 1 most (length r.jobs)) && jobs_formed n r.jobs

      rest₃ : Bool
      rest₃ = lengths_formed k r.jobs 0 r.lists && rest₄

      rest₂ : Bool
      rest₂ = lists_formed n r.lists && rest₃

      rest₁ : Bool
      rest₁ = same_floats (relay_state_floats k r) (relay_state_floats k r) && rest₂

-- ---- and what is well formed is the encoding of a well-formed relay

abbrev BinaryList : List Neighbor → Type 0
BinaryList l = Binary32 (distances_of l)

abbrev BinaryJob : Job → Type 0
BinaryJob j = T (fits binary32 j.distance)

jobs_of_lem : (n : ℕ) (js : List Job) → All (λ (j : Job). job_formed n j ≡ true) js → All BinaryJob js → All Readable js → All (JobFormed n) js
jobs_of_lem n [] A B C = tt
jobs_of_lem n (j ∷ js) A B C =
    (record { formed = A.0; held = holdable_job n j B.0 (parts n j A.0); readable = C.0 }, jobs_of_lem n js A.1 B.1 C.1)

module _ (n k : ℕ) (us : List ℕ) (fs : List Float) (B : Binary32 fs) where
  abbrev r : Relay
  r = relay_in n k us fs

  abbrev P : Float → Type 0
  P x = T (fits binary32 x)

  binary-lists : All BinaryList (relay_in n k us fs).lists
  unfolding relay_in
  binary-lists =
      all_ones (λ (w : ℕ). entries (get_or us (n * (k + 64) + w) 0) (part (k + 64) w us) (part (k + 64) w fs)) BinaryList n (λ (w : ℕ) (h : w < n).
      binary-entries (get_or us (n * (k + 64) + w) 0) (part (k + 64) w us) (part (k + 64) w fs) (all-part P (k + 64) w fs B))

  binary_in : All BinaryJob (relay_in n k us fs).jobs
  unfolding relay_in job_in
  binary_in =
      all_ones (λ (i : ℕ). job_in (drop (n * (k + 65) + 1 + 15 * i) us) (get_or fs (n * (k + 64) + i) zero32)) BinaryJob (min most (get_or us (n * (k + 65)) 0))
      (λ (i : ℕ) (h : i < min most (get_or us (n * (k + 65)) 0)). all_get_d P fs (n * (k + 64) + i) zero32 B binary-zero)

  readable_in : All Readable (relay_in n k us fs).jobs
  unfolding relay_in
  readable_in =
      all_ones (λ (i : ℕ). job_in (drop (n * (k + 65) + 1 + 15 * i) us) (get_or fs (n * (k + 64) + i) zero32)) Readable (min most (get_or us (n * (k + 65)) 0))
      (λ (i : ℕ) (h : i < min most (get_or us (n * (k + 65)) 0)). job-readable (drop (n * (k + 65) + 1 + 15 * i) us) (get_or fs (n * (k + 64) + i) zero32))

  lists_in_lem : length (relay_in n k us fs).lists ≡ n
  unfolding relay_in
  lists_in_lem = length-ones (λ (w : ℕ). entries (get_or us (n * (k + 64) + w) 0) (part (k + 64) w us) (part (k + 64) w fs)) n

  binary-state : Binary32 (relay_state_floats k (relay_in n k us fs))
  unfolding relay_state_floats
  binary-state =
      all_append P (room_floats (k + 64) r.lists) (padded 64 zero32 (jobs_floats r.jobs)) (binary_rooms (k + 64) r.lists binary-lists)
      (binary-padded 64 (jobs_floats r.jobs) (jobs-binary r.jobs binary_in))

  pub record Tested : Type 0 where
    pub words : us ≡ relay_state k (relay_in n k us fs)
    pub floats : fs ≡ relay_state_floats k (relay_in n k us fs)
    pub formed : Formed n k (relay_in n k us fs)

  pub tested : relay_formed n k us fs ≡ true → Tested
  unfolding relay_formed distances_of
  tested h =
      let a = both (same_words us (relay_state k r)) (same_floats fs (relay_state_floats k r) && (lists_formed n r.lists && (lengths_formed k r.jobs 0 r.lists && (not (outside 1 most (length r.jobs)) && jobs_formed n r.jobs)))) h in
      let b = both (same_floats fs (relay_state_floats k r)) (lists_formed n r.lists && (lengths_formed k r.jobs 0 r.lists && (not (outside 1 most (length r.jobs)) && jobs_formed n r.jobs))) a.1 in
      let c = both (lists_formed n r.lists) (lengths_formed k r.jobs 0 r.lists && (not (outside 1 most (length r.jobs)) && jobs_formed n r.jobs)) b.1 in
      let d = both (lengths_formed k r.jobs 0 r.lists) (not (outside 1 most (length r.jobs)) && jobs_formed n r.jobs) c.1 in
      let e = both (not (outside 1 most (length r.jobs))) (jobs_formed n r.jobs) d.1 in
      let m = within 1 most (length r.jobs) (not-true (outside 1 most (length r.jobs)) e.0) in
      let sz = lists_in_lem in
      record {
        words = words_same us (relay_state k r) a.0;
        floats = floats_same fs (relay_state_floats k r) B binary-state b.0;
        formed =
            record {
              nodes = lists_in_lem;
              lists = λ (w : ℕ) (wn : w < n).
                  list-formed n (list_at r.lists w) (all_get_d BinaryList r.lists w [] binary-lists tt) (lists-formed n r.lists w c.0 (omega arith));
              lengths = λ (w : ℕ) (wn : w < n).
                  let z : 0 + w ≡ w = omega arith in
                  lengths-formed k r.jobs 0 r.lists w d.0 (omega arith) ∙ ap (λ (v : ℕ). k + pending_at v r.jobs) z;
              some = m.from;
              few = m.to;
              jobs = jobs_of_lem n r.jobs (jobs-formed n r.jobs e.1) binary_in readable_in;
            };
      }
