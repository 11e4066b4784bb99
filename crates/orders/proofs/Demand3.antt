-- Demand 3 holds of every opening (`specs/Demand3.antt` states it). Assumes nothing.
use mathlib.Core.Path.{◌≡◌, refl, sym, ap, ◌∙◌, subst}
use mathlib.Core.Bool.{Bool, true, false, not, ◌||◌, cond, true≢false}
use mathlib.Core.List.{List, [], ◌++◌}
use Prim.Native.Nat.{ℕ, ◌+◌, ◌*◌, ◌≤◌, ◌<◌}
use native.Mathlib.Omega.{arith}
use lib.Dec.{eqb, leb}
use lib.ListN.{length, drop, get_or, get_or-append, length-append}
use lib.Seq.{take_all, ext_get_or}
use borrow.Author.Tests.{leb-true, leb-false}
use Rattle.rules.specs.declared.Neighbor.{Neighbor}
use Rattle.rules.specs.Loops.{over, first_from}
use Rattle.rules.specs.Distance.{zero32}
use Rattle.rules.specs.Lists.{neighbor, least}
use Rattle.rules.specs.Refusals.{Code, no_refusal, code}
use Rattle.rules.specs.Descent.{list_at}
use Rattle.rules.specs.Relay.{taken_of, Job, Relay, equal_nodes, is_finished, no_job, job_at, lowest_unfinished, job_of, bit, reports_of}
use Rattle.rules.specs.Places.{list_words, list_floats, lists_in}
use Rattle.rules.specs.RelayCall.{OpenLent, opened_on, MoveOutcome, CloseOutcome, close_rule}
use Rattle.rules.proofs.Loops.{first-before}
use Rattle.lists.specs.Ascending.{AllHoldable}
use Rattle.lists.specs.All.{All}
use Rattle.lists.proofs.Laws.{holdable_append}
use Rattle.lists.proofs.Plain.{all_of}
use Rattle.encoded.specs.Words.{Rows}
use Rattle.encoded.proofs.Lists.{lists-whole}
use Rattle.relay_kept.specs.Formed.{Formed}
use Rattle.relay_kept.specs.Halves.{target, entry_of, stage_of}
use Rattle.relay_kept.proofs.Calls.{move_leaves, move_refused, close_gives, close_refused}
use Rattle.relay_kept.proofs.Opening.{passed_open}
use Rattle.relay_kept.proofs.Stages.{report_first, report_second, length-reports}
use Rattle.orders.specs.Runs.{ran, count}
use Rattle.orders.specs.Least.{IsLeast}
use Rattle.orders.specs.Demand3.{Asked, pairs, u, v, apart, held, offered, State, move_of, after, Finishes, Room, closed, listed, StandsIn, Finished, Demand3}
use Rattle.orders.proofs.Waiting.{held-left}
use Rattle.orders.proofs.Runs.{ran-formed, none_unfinished}
use Rattle.orders.proofs.Least.{least-is}
use Rattle.orders.proofs.Reports.{Told, refused_at, ran_told, taken-up}
use Rattle.orders.proofs.Asked.{asked_opens}
use Rattle.orders.proofs.Called.{Opens, opens-passed, sizes, opening-formed, state_of, after_is}
use Rattle.orders.proofs.Ends.{left-opened, goal_opened, end-long, end_list}
use Rattle.orders.proofs.Counts.{in_turn_lem, opened-length, opened-job, run_length, is-finished, is_unfinished, Alike, run_alike}

over-at : (src dst : List ℕ) (x : ℕ) → x < length src → get_or (over (length src) src dst) x 0 ≡ get_or src x 0
unfolding over
over-at src dst x h =
    let e = take_all (length src) src (omega arith) in
    ap (λ (s : List ℕ). get_or (s ++ drop (length src) dst) x 0) e ∙ get_or-append src (drop (length src) dst) 0 x h

module _ (l : OpenLent) (O : Opens l) where
  -- what w's list is to be
  abbrev goal : ℕ → List Neighbor
  goal w = least l.k (held l w ++ offered l w)

  -- ---- at opening

  told_opened : Told l.n l.k goal (opened_on l)
  unfolding job_of refused_at
  told_opened =
      record {
        aims = record { formed = opening-formed l O; aims = goal_opened l (opening-formed l O) };
        refused = λ (i : ℕ) (b : Bool) (h : i < length (opened_on l).jobs) (q : equal_nodes (job_at (opened_on l) i) ≡ false) (f : refused_at (stage_of b (job_at (opened_on l) i)) ≡ true).
            absurd (true≢false (sym f ∙ idle_half b i (let e = opened-length l in omega arith)));
      }
    where
      idle_half : (b : Bool) (i : ℕ) → i < pairs l → refused_at (stage_of b (job_at (opened_on l) i)) ≡ false
      idle_half false i h = ap (λ (j : Job). refused_at j.first) (opened-job l i h)
      idle_half true i h = ap (λ (j : Job). refused_at j.second) (opened-job l i h)

  -- ---- after any moves

  module _ (order : List ℕ) where
    abbrev R : Relay
    R = ran l.k order (opened_on l)

    F : Formed l.n l.k R
    F = ran-formed (opened_on l) order (opening-formed l O)

    move_of_lem : (i : ℕ) → move_of l i (after l order) ≡ move_of l i (state_of l O R)
    move_of_lem i = ap (move_of l i) (after_is l O order)

    move_succeeds : (i : ℕ) → i < pairs l → count i order < 8 → (move_of l i (after l order)).said ≡ no_refusal
    move_succeeds i h c =
        let e = run_length l order in
        ap (λ (o : MoveOutcome). o.said) (move_of_lem i ∙ move_leaves (sizes l O) R F i (omega arith) (is_unfinished l order i h c))

    move_over : (i : ℕ) → i < pairs l → 8 ≤ count i order → (move_of l i (after l order)).said ≡ code 13 i 0
    move_over i h c =
        ap (λ (o : MoveOutcome). o.said) (move_of_lem i ∙ move_refused (sizes l O) R F i (or-true (leb (length R.jobs) i) (is_finished (job_at R i)) (is-finished l order i h c)))
      where
        or-true : (a b : Bool) → b ≡ true → (a || b) ≡ true
        or-true true b e = refl
        or-true false b e = e

    -- a close that answers has found all finished
    unfinished_lowest : (i : ℕ) → i < pairs l → count i order < 8 → lowest_unfinished R < length R.jobs
    unfolding lowest_unfinished
    unfinished_lowest i h c = go (leb (length R.jobs) (first_from p 0 (length R.jobs))) refl
      where
        p : ℕ → Bool
        p x = not (is_finished (job_at R x))

        go : (b : Bool) → leb (length R.jobs) (first_from p 0 (length R.jobs)) ≡ b → first_from p 0 (length R.jobs) < length R.jobs
        go true e =
            let g = leb-true (length R.jobs) (first_from p 0 (length R.jobs)) e in
            let n = run_length l order in
            let f = first-before p 0 (length R.jobs) i (omega arith) (omega arith) in
            absurd (true≢false (sym (ap not (is_unfinished l order i h c)) ∙ f))
        go false e = leb-false (length R.jobs) (first_from p 0 (length R.jobs)) e

    closed-finishes : (c : Room l) → (closed l order c).said ≡ no_refusal → Finishes l order
    closed-finishes c a i h = let e = go (leb 8 (count i order)) refl in omega arith
      where
        go : (b : Bool) → leb 8 (count i order) ≡ b → 8 ≤ count i order
        go true e = leb-true 8 (count i order) e
        go false e =
            let u = unfinished_lowest i h (leb-false 8 (count i order) e) in
            let s =
            ap (λ (s : State). (close_rule (record { n = l.n; k = l.k; state_u = s.words; state_f = s.floats; nodes = c.nodes; distances = c.distances; reports = c.reports })).said) (after_is l O order)
            ∙ close_refused (sizes l O) R F c.nodes c.distances c.reports c.nodes_long c.distances_long c.reports_long u in
            let z : ◌≡◌ {A = ℕ} 13 0 = ap (λ (x : Code). x.number) (sym s ∙ a) in
            absurd (omega arith)

    -- ---- when all are finished

    module _ (D : Finishes l order) where
      done : (i : ℕ) → i < length R.jobs → is_finished (job_at R i) ≡ true
      done i h = let e = run_length l order in let b : i < pairs l = omega arith in is-finished l order i b (D i b)

      all_done : All (λ (j : Job). is_finished j ≡ true) R.jobs
      all_done = all_of (λ (j : Job). is_finished j ≡ true) R.jobs no_job done

      told : Told l.n l.k goal R
      told = ran_told (opened_on l) order told_opened

      list-is : (w : ℕ) → w < l.n → list_at R.lists w ≡ goal w
      list-is w wn = end_list R F all_done w wn ∙ told.aims.aims w wn

      rows : Rows l.k R.lists
      rows =
          let e = F.nodes in
          all_of (λ (x : List Neighbor). length x ≡ l.k) R.lists [] (λ (w : ℕ) (h : w < length R.lists). end-long R F all_done w (omega arith))

      abbrev given : Room l → CloseOutcome
      given c =
          record {
            said = no_refusal;
            nodes = list_words R.lists;
            distances = list_floats R.lists;
            reports = over (length (reports_of R.jobs)) (reports_of R.jobs) c.reports;
          }

      module _ (c : Room l) where
        closed_is : closed l order c ≡ given c
        closed_is =
            ap (λ (s : State). close_rule (record { n = l.n; k = l.k; state_u = s.words; state_f = s.floats; nodes = c.nodes; distances = c.distances; reports = c.reports })) (after_is l O order)
            ∙ close_gives (sizes l O) R F c.nodes c.distances c.reports c.nodes_long c.distances_long c.reports_long (none_unfinished R done)

        listed-is : (w : ℕ) → w < l.n → listed l order c w ≡ goal w
        listed-is w wn =
            ap (λ (o : CloseOutcome). list_at (lists_in l.n l.k o.nodes o.distances) w) closed_is
            ∙ ap (λ (ls : List (List Neighbor)). list_at ls w) (lists-whole l.k R.lists rows l.n (sym F.nodes))
            ∙ list-is w wn

        held_given : (w : ℕ) → w < l.n → AllHoldable (held l w ++ offered l w)
        held_given w wn =
            holdable_append (held l w) (offered l w) ((passed_open l O.floats (opens-passed l O)).openable.lists w wn).held
            (subst AllHoldable (left-opened l w) (held-left l.n w (opened_on l).jobs (opening-formed l O).jobs))

        exactly-is : (w : ℕ) → w < l.n → IsLeast l.k (held l w ++ offered l w) (listed l order c w)
        exactly-is w wn =
            let m = (passed_open l O.floats (opens-passed l O)).openable.lengths w wn in
            let e = length-append (held l w) (offered l w) in
            subst (IsLeast l.k (held l w ++ offered l w)) (sym (listed-is w wn)) (least-is l.k (held l w ++ offered l w) (held_given w wn) (omega arith))

        -- the reports, of pair i
        module _ (i : ℕ) (h : i < pairs l) (q : eqb (u l i) (v l i) ≡ false) where
          inside : i < length R.jobs
          inside = let e = run_length l order in omega arith

          abbrev A : Alike (job_at (opened_on l) i) (job_at R i)
          A = run_alike l.k (opened_on l) order i

          job-u : (job_at R i).u ≡ u l i
          unfolding job_of
          job-u = A.u ∙ ap (λ (j : Job). j.u) (opened-job l i h)

          job-v : (job_at R i).v ≡ v l i
          unfolding job_of
          job-v = A.v ∙ ap (λ (j : Job). j.v) (opened-job l i h)

          job-distance : (job_at R i).distance ≡ apart l i
          unfolding job_of
          job-distance = A.distance ∙ ap (λ (j : Job). j.distance) (opened-job l i h) ∙ ap (λ (b : Bool). cond b zero32 (apart l i)) q

          unequal : equal_nodes (job_at R i) ≡ false
          unequal = rw (job-u, job-v) q

          abbrev node_at : Bool → ℕ
          node_at false = u l i
          node_at true = v l i

          abbrev entry_at : Bool → Neighbor
          entry_at false = neighbor (v l i) (apart l i)
          entry_at true = neighbor (u l i) (apart l i)

          target_is : (b : Bool) → target b (job_at R i) ≡ node_at b
          target_is false = job-u
          target_is true = job-v

          entry-is : (b : Bool) → entry_of b (job_at R i) ≡ entry_at b
          entry-is false = rw (job-v, job-distance)
          entry-is true = rw (job-u, job-distance)

          below : (b : Bool) → node_at b < l.n
          below false = (passed_open l O.floats (opens-passed l O)).openable.us i h
          below true = (passed_open l O.floats (opens-passed l O)).openable.vs i h

          -- an offer that stands in its list was taken up
          taken : (b : Bool) (p : ℕ) → StandsIn (listed l order c (node_at b)) p (entry_at b) → taken_of (stage_of b (job_at R i)) ≡ true
          taken b p s =
              let e : listed l order c (node_at b) ≡ goal (target b (job_at R i)) = listed-is (node_at b) (below b) ∙ ap goal (sym (target_is b)) in
              taken-up R told i b p (neighbor 0 zero32) inside unequal (done i inside)
              (subst (λ (x : List Neighbor). p < length x) e s.0)
              (subst (λ (x : List Neighbor). get_or x p (neighbor 0 zero32) ≡ entry_at b) e s.1 ∙ sym (entry-is b))

          report_at : (x : ℕ) → x < 2 * length R.jobs → get_or (closed l order c).reports x 0 ≡ get_or (reports_of R.jobs) x 0
          report_at x xl =
              let e = length-reports R.jobs in
              ap (λ (o : CloseOutcome). get_or o.reports x 0) closed_is ∙ over-at (reports_of R.jobs) c.reports x (omega arith)

          reports-first : (p : ℕ) → StandsIn (listed l order c (u l i)) p (neighbor (v l i) (apart l i)) → get_or (closed l order c).reports (2 * i) 0 ≡ 1
          reports-first p s =
              let n = inside in
              report_at (2 * i) (omega arith) ∙ report_first R.jobs i inside ∙ ap bit (taken false p s)

          reports-second : (p : ℕ) → StandsIn (listed l order c (v l i)) p (neighbor (u l i) (apart l i)) → get_or (closed l order c).reports (2 * i + 1) 0 ≡ 1
          reports-second p s =
              let n = inside in
              report_at (2 * i + 1) (omega arith) ∙ report_second R.jobs i inside ∙ ap bit (taken true p s)

        finished-is : Finished l order c
        finished-is =
            record {
              answers = ap (λ (o : CloseOutcome). o.said) closed_is;
              lists = listed-is;
              exactly = exactly-is;
              reported_first = λ (i p : ℕ) (h : i < pairs l) (q : eqb (u l i) (v l i) ≡ false) (s : StandsIn (listed l order c (u l i)) p (neighbor (v l i) (apart l i))). reports-first i h q p s;
              reported_second = λ (i p : ℕ) (h : i < pairs l) (q : eqb (u l i) (v l i) ≡ false) (s : StandsIn (listed l order c (v l i)) p (neighbor (u l i) (apart l i))). reports-second i h q p s;
            }

  -- ---- two orders

  same_lists : (order other : List ℕ) → Finishes l order → Finishes l other → (ran l.k order (opened_on l)).lists ≡ (ran l.k other (opened_on l)).lists
  same_lists order other D E =
      let a = (F order).nodes in
      let b = (F other).nodes in
      ext_get_or [] (R order).lists (R other).lists (a ∙ sym b) (λ (w : ℕ) (h : w < length (R order).lists).
      let wn : w < l.n = omega arith in
      list-is order D w wn ∙ sym (list-is other E w wn))

  demands : Demand3 l
  demands =
      record {
        opens = O.answers;
        succeeds = move_succeeds;
        is_over = move_over;
        exists = in_turn_lem l;
        finishes = closed-finishes;
        finished = finished-is;
        same_nodes = λ (order other : List ℕ) (D : Finishes l order) (E : Finishes l other) (c e : Room l).
            ap (λ (o : CloseOutcome). o.nodes) (closed_is order D c) ∙ ap list_words (same_lists order other D E) ∙ sym (ap (λ (o : CloseOutcome). o.nodes) (closed_is other E e));
        same_distances = λ (order other : List ℕ) (D : Finishes l order) (E : Finishes l other) (c e : Room l).
            ap (λ (o : CloseOutcome). o.distances) (closed_is order D c) ∙ ap list_floats (same_lists order other D E) ∙ sym (ap (λ (o : CloseOutcome). o.distances) (closed_is other E e));
      }

pub demand3 : (l : OpenLent) → Asked l → Demand3 l
demand3 l A = demands l (asked_opens l A)
