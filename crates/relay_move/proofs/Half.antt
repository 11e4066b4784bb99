-- One step of a job in the state: what stands where, that the step is ready, and what it leaves. Assumes nothing.
use mathlib.Core.Path.{◌≡◌, refl, sym, ap, ◌∙◌}
use mathlib.Core.Bool.{Bool, true, false, cond, not, ◌&&◌}
use mathlib.Core.List.{List, ◌++◌, map}
use Prim.Native.Nat.{ℕ, suc, ◌+◌, ◌-◌, ◌*◌, ◌≤◌, ◌<◌}
use native.Mathlib.Omega.{arith}
use borrow.Author.Tests.{eq-eqb, ne_eqb}
use borrow.Rule.Slice.PartMut.{put_mid}
use lib.Dec.{eqb}
use lib.ListN.{length, take, drop, get_or, set, replicate, length-drop, length-set}
use lib.Seq.{take_at, get_or-take, get_or-drop, length-take-le}
use lib.Ieee.{Float, nan}
use Rattle.rules.specs.declared.Neighbor.{Neighbor}
use Rattle.rules.specs.Loops.{part}
use Rattle.rules.specs.Distance.{zero32}
use Rattle.rules.specs.Lists.{neighbor, nodes_of, distances_of}
use Rattle.rules.specs.Relay.{Stage, looked, steps_of, is_popped, taken_of, longer_of, bit, Job, Relay, job_at, equal_nodes, is_finished, next_stage, next_list, moved}
use Rattle.rules.specs.Places.{padded}
use Rattle.rules.specs.RelayPlaces.{job_words, jobs_words, stage_in, relay_in, relay_state, relay_state_floats, relay_formed}
use Rattle.lists.proofs.Laws.{length-insert}
use Rattle.encoded.specs.Words.{Binary32, joined}
use Rattle.encoded.proofs.Jobs.{length-job_words}
use Rattle.encoded.proofs.Back.{job-words-at, job_float_at}
use Rattle.jobs.specs.Jobs.{kept_words}
use Rattle.relay_state.specs.State.{Sized}
use Rattle.relay_state.proofs.Parts.{get_d_any, sizes, inside}
use Rattle.relay_state.proofs.Reading.{list_at_lem, short, fitting}
use Rattle.relay_state.proofs.Whole.{Facts, facts, len_is, words_are, floats_as}
use Rattle.relay_kept.specs.Formed.{Formed}
use Rattle.relay_kept.specs.Halves.{target, entry_of, stage_of, with_stage, found, relay_after}
use Rattle.relay_kept.proofs.Jobs.{pending-le}
use Rattle.relay_kept.proofs.Kept.{moved-is, job-formed, target_below, list-after, after-formed}
use Rattle.relay_kept.proofs.Tested.{tested}
use Rattle.relay_kept.proofs.Stages.{steps_most, steps_popped, steps_next}
use Rattle.relay_move.specs.Moves.{list_in, Room, words_with, floats_with, job_place, half_stage, HalfReady, offered, words_after, HalfMoved, Stepped}
use Rattle.relay_move.proofs.Stages.{half_of, stage_back, steps_few, bit-few, eqb_turned, kept-words, word-u, word-v, word_steps, word-taken, word-longer}
use Rattle.relay_move.proofs.Parts.{drop_with}
use Rattle.relay_move.proofs.Encoding.{short-set, list_set, list-set-floats, job-set, job-set-floats}

module _ {n k : ℕ} {us : List ℕ} {fs : List Float} (z : Sized n k us fs) (B : Binary32 fs) (good : relay_formed n k us fs ≡ true) (i : ℕ) (below : i < length (relay_in n k us fs).jobs) where
  abbrev r : Relay
  r = relay_in n k us fs

  abbrev j : Job
  j = job_at r i

  abbrev P : ℕ
  P = job_place n k i

  F : Formed n k r
  F = (tested n k us fs B good).formed

  T : Facts n k us fs
  T = facts n k us fs B good

  -- job i's words
  job-words : take 15 (drop P us) ≡ job_words j
  job-words =
      let s = sizes z in
      let t = s.jobs in
      let e : P ≡ n * (k + 65) + 1 + 15 * i = omega arith in
      let rest : List ℕ = joined (drop (suc i) (map job_words r.jobs)) ++ replicate (1024 - suc (length (jobs_words r.jobs))) 0 in
      ap (take 15) (ap (λ (m : ℕ). drop m us) e ∙ ap (drop (n * (k + 65) + 1 + 15 * i)) T.words ∙ job-words-at n k r (fitting n k us fs) i below)
      ∙ take_at (job_words j) rest 15 (length-job_words j)

  word : (c : ℕ) → c < 15 → get_or us (P + c) 0 ≡ get_or (job_words j) c 0
  word c h = sym (get_or-take 15 (drop P us) c 0 h ∙ get_or-drop P us c 0) ∙ ap (λ (ws : List ℕ). get_or ws c 0) job-words

  pub u-is : get_or us P 0 ≡ j.u
  u-is = ap (λ (m : ℕ). get_or us m 0) (let e : P ≡ P + 0 = omega arith in e) ∙ word 0 (omega arith) ∙ word-u j

  pub v-is : get_or us (P + 1) 0 ≡ j.v
  v-is = word 1 (omega arith) ∙ word-v j

  pub steps_are : get_or us (P + 2) 0 ≡ steps_of j.first + steps_of j.second
  steps_are = word 2 (omega arith) ∙ word_steps j

  -- the report of a half
  pub taken_is : (b : Bool) → get_or us (P + half_of b) 0 ≡ bit (taken_of (stage_of b j))
  taken_is true = word 5 (omega arith) ∙ word-taken j true
  taken_is false = word 3 (omega arith) ∙ word-taken j false

  few-jobs : i < 64
  few-jobs = let f = F.few in omega arith

  float_is : get_or fs (n * (k + 64) + i) nan ≡ j.distance
  float_is =
      let s = sizes z in
      let f = s.all_floats in
      let g = few-jobs in
      get_d_any fs (n * (k + 64) + i) nan zero32 (omega arith) ∙ ap (λ (xs : List Float). get_or xs (n * (k + 64) + i) zero32) T.floats
      ∙ job_float_at n k r (fitting n k us fs) i below

  -- the half that is at its turn is not done
  module _ (b : Bool) (half : is_popped j.first ≡ b) (unfinished : is_finished j ≡ false) where
    abbrev w : ℕ
    w = target b j

    abbrev st : Stage
    st = stage_of b j

    half_few : half_of b ≤ 5
    half_few = go b
      where
        go : (c : Bool) → half_of c ≤ 5
        go true = omega arith
        go false = omega arith

    not_done : is_popped st ≡ false
    not_done = go b half
      where
        go : (c : Bool) → is_popped j.first ≡ c → is_popped (stage_of c j) ≡ false
        go true h = (rw h at unfinished)
        go false h = h

    pub steps_half : (c : Bool) → c ≡ b → get_or us (P + 2) 0 - cond c 4 0 ≡ steps_of st
    unfolding steps_of
    steps_half c e = rw e (go b half)
      where
        go : (c : Bool) → is_popped j.first ≡ c → get_or us (P + 2) 0 - cond c 4 0 ≡ steps_of (stage_of c j)
        go true h = let a = steps_are in let d = steps_popped j.first h in omega arith
        go false h =
            let a = steps_are in
            let d : steps_of j.second ≡ 0 = ap steps_of ((job-formed r F i below false h).readable h) in
            omega arith

    stage_is : (steps : ℕ) → steps ≡ steps_of st → half_stage n k us i (half_of b) steps ≡ st
    stage_is steps e =
        let a : P + half_of b + 1 ≡ P + (half_of b + 1) = omega arith in
        let h = half_few in
        rw (e, a, word (half_of b) (omega arith), word (half_of b + 1) (omega arith), word-taken j b, word-longer j b) (stage_back st)

    list-is : list_in n k us fs w ≡ found r i b
    list-is = sym (list_at_lem n k us fs w (target_below r F i below b half))

    few-after : length (next_list (entry_of b j) (found r i b) st) ≤ k + 64
    few-after =
        let A = after-formed r F i below b half in
        let t = target_below r F i below b half in
        let a = A.lengths w t in
        let c = ap length (list-after r F i below b half) in
        let d = pending-le n w (relay_after k r i b).jobs A.jobs in
        let e = A.few in
        omega arith

    room : Room n k us fs w
    unfolding part
    room =
        let t = target_below r F i below b half in
        let x = inside w z t in
        let s = x.sizes in
        let words = s.all_words in
        let floats = s.all_floats in
        let to = x.to in
        let l = list_in n k us fs w in
        let len = len_is z T w t in
        let more = T.lengths w t in
        let some = z.some in
        let few = short n k us fs w in
        let a : length (part (k + 64) w us) ≡ k + 64 = length-take-le (k + 64) (drop (w * (k + 64)) us) (simp length-drop (omega arith)) in
        let c : length (part (k + 64) w fs) ≡ k + 64 = length-take-le (k + 64) (drop (w * (k + 64)) fs) (simp length-drop (omega arith)) in
        record {
          below = t;
          some = omega arith;
          room =
              record {
                long = omega arith;
                wide = c ∙ sym a;
                nodes = words_are z T w t ∙ ap (λ (m : ℕ). padded m 0 (nodes_of l)) (sym a);
                dists = floats_as z T w t ∙ ap (λ (m : ℕ). padded m zero32 (distances_of l)) (sym a);
              };
        }

    free : (steps : ℕ) → steps ≡ steps_of st → steps ≡ 1 → get_or us (P + half_of b) 0 ≡ 1 → get_or us (n * (k + 64) + w) 0 < k + 64
    unfolding next_list stage_in
    free steps e one up =
        let t = target_below r F i below b half in
        let len = len_is z T w t in
        let same = ap length list-is in
        let h = half_few in
        let a : half_stage n k us i (half_of b) steps ≡ looked true = rw (one, up) in
        let c : looked true ≡ st = sym a ∙ stage_is steps e in
        let d = ap (λ (s : Stage). length (next_list (entry_of b j) (found r i b) s)) c in
        let f = few-after in
        let g = length-insert (entry_of b j) (found r i b) in
        omega arith

    pub ready : (steps : ℕ) → steps ≡ steps_of st → HalfReady n k us fs i w (half_of b) steps
    ready steps e =
        let h = half_few in
        let a : P + half_of b + 1 ≡ P + (half_of b + 1) = omega arith in
        let f = steps_few st not_done in
        record {
          sized = z;
          room = room;
          few = few-jobs;
          place = omega arith;
          within = omega arith;
          taken = rw (word (half_of b) (omega arith), word-taken j b) (bit-few (taken_of st));
          longer = rw (a, word (half_of b + 1) (omega arith), word-longer j b) (bit-few (longer_of st));
          done = all_done;
          free = λ one up. free steps e one up;
        }
      where
        all_done : get_or us (P + 2) 0 ≤ 7
        all_done =
            let a = steps_half b refl in
            let f = steps_few st not_done in
            go b a f
          where
            go : (c : Bool) → get_or us (P + 2) 0 - cond c 4 0 ≡ steps_of st → steps_of st ≤ 3 → get_or us (P + 2) 0 ≤ 7
            go true a f = omega arith
            go false a f = omega arith

    -- ---- what the step leaves

    offered-is : offered n k fs i (target (not b) j) ≡ entry_of b j
    offered-is = go b
      where
        go : (c : Bool) → offered n k fs i (target (not c) j) ≡ entry_of c j
        go true = ap (neighbor j.u) float_is
        go false = ap (neighbor j.v) float_is

    equal_is : eqb w (target (not b) j) ≡ equal_nodes j
    equal_is = go b
      where
        go : (c : Bool) → eqb (target c j) (target (not c) j) ≡ equal_nodes j
        go true = eqb_turned j.v j.u
        go false = refl

    abbrev l' : List Neighbor
    l' = next_list (entry_of b j) (found r i b) st

    abbrev s' : Stage
    s' = next_stage k (equal_nodes j) (entry_of b j) (found r i b) st

    same-distance : (with_stage b j s').distance ≡ j.distance
    same-distance = go b
      where
        go : (c : Bool) → (with_stage c j s').distance ≡ j.distance
        go true = refl
        go false = refl

    kept-is : kept_words (take 15 (drop P (words_with n k w l' us))) (half_of b) (bit (taken_of s')) (bit (longer_of s')) ≡ job_words (with_stage b j s')
    kept-is =
        let t = target_below r F i below b half in
        rw (drop_with z t l' few-after P (omega arith), job-words)
        (kept-words b j s' (steps_next k (equal_nodes j) (entry_of b j) (found r i b) st not_done))

    state-after : words_after n k us i w (half_of b) l' s' ≡ relay_state k (relay_after k r i b)
    state-after =
        let t = target_below r F i below b half in
        let Z = fitting n k us fs in
        ap (put_mid P 15 (words_with n k w l' us)) kept-is
        ∙ ap (λ (xs : List ℕ). put_mid P 15 (words_with n k w l' xs) (job_words (with_stage b j s'))) T.words
        ∙ ap (λ (xs : List ℕ). put_mid P 15 xs (job_words (with_stage b j s'))) (sym (list_set n k r.lists r.jobs Z.nodes Z.short w t l' few-after))
        ∙ sym (job-set n k (set r.lists w l') r.jobs (length-set r.lists w l' ∙ Z.nodes) (short-set (k + 64) r.lists w l' Z.short few-after) i below (with_stage b j s'))

    floats-after : floats_with k w l' fs ≡ relay_state_floats k (relay_after k r i b)
    floats-after =
        let t = target_below r F i below b half in
        let Z = fitting n k us fs in
        ap (floats_with k w l') T.floats
        ∙ sym (list-set-floats n k r.lists r.jobs Z.nodes Z.short w t l' few-after)
        ∙ sym (job-set-floats n k (set r.lists w l') r.jobs (length-set r.lists w l' ∙ Z.nodes) (short-set (k + 64) r.lists w l' Z.short few-after) i below (with_stage b j s') same-distance)

    pub stepped : (steps : ℕ) {us' : List ℕ} {fs' : List Float} → steps ≡ steps_of st → HalfMoved n k us fs i w (target (not b) j) (half_of b) steps us' fs' → Stepped n k us fs i us' fs'
    stepped steps {us'} {fs'} e made =
        let x : us' ≡ words_after n k us i w (half_of b) l' s' = (rw (offered-is, list-is, stage_is steps e, equal_is) at made.words) in
        let y : fs' ≡ floats_with k w l' fs = (rw (offered-is, list-is, stage_is steps e) at made.floats) in
        let m : moved k r i ≡ relay_after k r i b = moved-is k r i ∙ ap (relay_after k r i) half in
        record { words = x ∙ state-after ∙ ap (relay_state k) (sym m); floats = y ∙ floats-after ∙ ap (relay_state_floats k) (sym m) }

  -- ---- which half is at its turn, by the steps done

  at_first : get_or us (P + 2) 0 < 4 → is_popped j.first ≡ false
  at_first h = go (is_popped j.first) refl
    where
      go : (b : Bool) → is_popped j.first ≡ b → b ≡ false
      go true e = let a = steps_are in let d = steps_popped j.first e in absurd (omega arith)
      go false e = refl

  at_second : 4 ≤ get_or us (P + 2) 0 → is_popped j.first ≡ true
  unfolding steps_of
  at_second h = go (is_popped j.first) refl
    where
      go : (b : Bool) → is_popped j.first ≡ b → b ≡ true
      go true e = refl
      go false e =
          let a = steps_are in
          let f = steps_few j.first e in
          let d : steps_of j.second ≡ 0 = ap steps_of ((job-formed r F i below false e).readable e) in
          absurd (omega arith)

  module _ (unfinished : is_finished j ≡ false) where
    pub ready-first : get_or us (P + 2) 0 < 4 → HalfReady n k us fs i (get_or us P 0) 3 (get_or us (P + 2) 0)
    ready-first h =
        let half = at_first h in
        let e : get_or us (P + 2) 0 ≡ steps_of j.first = (let a = steps_half false half unfinished false refl in omega arith) in
        rw u-is (ready false half unfinished (get_or us (P + 2) 0) e)

    pub first_stepped : {us' : List ℕ} {fs' : List Float} → get_or us (P + 2) 0 < 4 → HalfMoved n k us fs i (get_or us P 0) (get_or us (P + 1) 0) 3 (get_or us (P + 2) 0) us' fs' → Stepped n k us fs i us' fs'
    first_stepped h made =
        let half = at_first h in
        let e : get_or us (P + 2) 0 ≡ steps_of j.first = (let a = steps_half false half unfinished false refl in omega arith) in
        stepped false half unfinished (get_or us (P + 2) 0) e (rw (u-is, v-is) at made)

    pub ready-second : 4 ≤ get_or us (P + 2) 0 → HalfReady n k us fs i (get_or us (P + 1) 0) 5 (get_or us (P + 2) 0 - 4)
    ready-second h =
        let half = at_second h in
        rw v-is (ready true half unfinished (get_or us (P + 2) 0 - 4) (steps_half true half unfinished true refl))

    pub second_stepped : {us' : List ℕ} {fs' : List Float} → 4 ≤ get_or us (P + 2) 0 → HalfMoved n k us fs i (get_or us (P + 1) 0) (get_or us P 0) 5 (get_or us (P + 2) 0 - 4) us' fs' → Stepped n k us fs i us' fs'
    second_stepped h made =
        let half = at_second h in
        stepped true half unfinished (get_or us (P + 2) 0 - 4) (steps_half true half unfinished true refl) (rw (v-is, u-is) at made)

  -- ---- a finished job has eight steps done

  pub finished-is : is_finished j ≡ eqb (get_or us (P + 2) 0) 8
  finished-is = sym (ap (λ (s : ℕ). eqb s 8) steps_are ∙ go (is_popped j.first) (is_popped j.second) refl refl)
    where
      go : (a b : Bool) → is_popped j.first ≡ a → is_popped j.second ≡ b → eqb (steps_of j.first + steps_of j.second) 8 ≡ (a && b)
      go true true e f = let x = steps_popped j.first e in let y = steps_popped j.second f in eq-eqb (steps_of j.first + steps_of j.second) 8 (omega arith)
      go true false e f = let x = steps_popped j.first e in let y = steps_few j.second f in ne_eqb (steps_of j.first + steps_of j.second) 8 (λ q. omega arith)
      go false b e f = let x = steps_few j.first e in let y = steps_most j.second in ne_eqb (steps_of j.first + steps_of j.second) 8 (λ q. omega arith)
