-- What open leaves, on well-formed lists and jobs that row 9 passes, is well formed. Assumes nothing.
use mathlib.Core.Path.{◌≡◌, refl, ap, ◌∙◌}
use mathlib.Core.Bool.{Bool, true, false, cond}
use mathlib.Core.List.{List, [], ◌∷◌}
use Prim.Native.Nat.{ℕ, ◌*◌, ◌≤◌, ◌<◌}
use native.Mathlib.Omega.{arith}
use lib.Dec.{T, eqb, leb, ltb}
use lib.ListN.{length}
use lib.Ieee.{Float, binary32, to_bits, of_bits, fits}
use borrow.Author.Tests.{ltb-false, leb-false, not-false}
use Rattle.rules.specs.declared.Neighbor.{Neighbor}
use Rattle.rules.specs.Loops.{each, part, first_from}
use Rattle.rules.specs.Numbers.{most, outside}
use Rattle.rules.specs.Distance.{zero32, fit, between}
use Rattle.rules.specs.Lists.{entries}
use Rattle.rules.specs.Refusals.{passed, decide, job_count, job_u, job_v, bad_job, first_bad_job, row2, row4, row6, row9, row12}
use Rattle.rules.specs.Calls.{open_rows}
use Rattle.rules.specs.Offers.{lists_formed}
use Rattle.rules.specs.Build.{Between}
use Rattle.rules.specs.Descent.{list_at}
use Rattle.rules.specs.Relay.{fresh, Job, job_of, opened}
use Rattle.rules.specs.Places.{lists_in}
use Rattle.rules.specs.RelayPlaces.{stage_formed, pending_at}
use Rattle.rules.specs.RelayCall.{OpenLent, open_table, opened_on}
use Rattle.rules.proofs.Loops.{first-before, length-ones, get_d_ones}
use Rattle.rules.proofs.Tables.{within, all_fail, none_hold, exactly}
use Rattle.rules.proofs.Tests.{neither}
use Rattle.neighbor.specs.Holdable.{Holdable}
use Rattle.neighbor.proofs.Bits.{holdable_zero, holdable_between}
use Rattle.metrics.proofs.Fitness.{between-fit}
use Rattle.lists.specs.All.{All}
use Rattle.lists.proofs.Slices.{length-entries}
use Rattle.encoded.specs.Words.{Binary32}
use Rattle.encoded.proofs.Rows.{all_ones, length_part, all-part}
use Rattle.encoded.proofs.Binary.{binary-entries}
use Rattle.relay_kept.specs.Formed.{ListFormed, JobFormed, Formed}
use Rattle.relay_kept.specs.Calls.{Sizes}
use Rattle.relay_kept.proofs.Lists.{list-formed, lists-formed}
use Rattle.relay_kept.proofs.Jobs.{whole, pending-fresh}

-- ---- one job, and all

zero_bits : eqb (to_bits binary32 zero32) 0 ≡ true
unfolding of_bits to_bits
zero_bits = refl

module _ (n : ℕ) (d : Between) (held : (u v : ℕ) → Holdable (d u v)) (near : (u v : ℕ) → fit (d u v) ≡ true) (jobs : List ℕ) where
  pub job-opened : (i : ℕ) → job_u jobs i < n → job_v jobs i < n → JobFormed n (job_of d jobs i)
  unfolding job_of stage_formed
  job-opened i u v =
      record {
        formed = whole n (job_of d jobs i) (record { u_in = u; v_in = v; near = at (eqb (job_u jobs i) (job_v jobs i)); first = refl; second = refl });
        held = held_at (eqb (job_u jobs i) (job_v jobs i));
        readable = λ (h : _). refl;
      }
    where
      at : (b : Bool) → cond b (eqb (to_bits binary32 (cond b zero32 (d (job_u jobs i) (job_v jobs i)))) 0) (fit (cond b zero32 (d (job_u jobs i) (job_v jobs i)))) ≡ true
      at true = zero_bits
      at false = near (job_u jobs i) (job_v jobs i)

      held_at : (b : Bool) → Holdable (cond b zero32 (d (job_u jobs i) (job_v jobs i)))
      held_at true = holdable_zero
      held_at false = held (job_u jobs i) (job_v jobs i)

-- jobs that have not begun have nothing to pop
pub pending_none : (w : ℕ) (js : List Job) → All (λ (j : Job). (j.first ≡ fresh) × (j.second ≡ fresh)) js → pending_at w js ≡ 0
unfolding pending_at
pending_none w [] J = refl
pending_none w (j ∷ js) J =
    let a = pending-fresh (eqb j.u w) j.first J.0.0 in
    let b = pending-fresh (eqb j.v w) j.second J.0.1 in
    let c = pending_none w js J.1 in
    omega arith

-- ---- lists and jobs that the rows of open pass

pub record Openable (n k : ℕ) (ls : List (List Neighbor)) (jobs : List ℕ) : Type 0 where
  pub nodes : length ls ≡ n
  pub lists : (w : ℕ) → w < n → ListFormed n (list_at ls w)
  pub lengths : (w : ℕ) → w < n → length (list_at ls w) ≡ k
  pub some : 1 ≤ job_count jobs
  pub few : job_count jobs ≤ 64
  pub us : (i : ℕ) → i < job_count jobs → job_u jobs i < n
  pub vs : (i : ℕ) → i < job_count jobs → job_v jobs i < n

pub opened-formed : (n k : ℕ) (d : Between) (held : (u v : ℕ) → Holdable (d u v)) (near : (u v : ℕ) → fit (d u v) ≡ true) (lists : List (List Neighbor)) (jobs : List ℕ)
    → Openable n k lists jobs → Formed n k (opened d lists jobs)
unfolding opened job_of
opened-formed n k d held near lists jobs O =
    let js = each (λ (i : ℕ). job_of d jobs i ∷ []) (job_count jobs) in
    let count = length-ones (job_of d jobs) (job_count jobs) in
    record {
      nodes = O.nodes;
      lists = O.lists;
      lengths = λ (w : ℕ) (h : w < n). let a = O.lengths w h in let b = pending_none w js idle in omega arith;
      some = (let a = O.some in omega arith);
      few = (let a = O.few in omega arith);
      jobs = all_ones (job_of d jobs) (JobFormed n) (job_count jobs) (λ (i : ℕ) (h : i < job_count jobs). job-opened n d held near jobs i (O.us i h) (O.vs i h));
    }
  where
    idle : All (λ (j : Job). (j.first ≡ fresh) × (j.second ≡ fresh)) (each (λ (i : ℕ). job_of d jobs i ∷ []) (job_count jobs))
    idle = all_ones (job_of d jobs) (λ (j : Job). (j.first ≡ fresh) × (j.second ≡ fresh)) (job_count jobs) (λ (i : ℕ) (h : i < job_count jobs). (refl, refl))

-- ---- what the rows of open say once they have passed

pub record Passed (l : OpenLent) : Type 0 where
  pub sizes : Sizes l.n l.k
  pub openable : Openable l.n l.k (lists_in l.n l.k l.nodes l.distances) l.jobs

-- "jobs row 9 passes"
pub job-passes : (n : ℕ) (jobs : List ℕ) → (row9 n jobs).test ≡ false → (i : ℕ) → i < job_count jobs → bad_job n jobs i ≡ false
unfolding row9 first_bad_job
job-passes n jobs h i l =
    let p = neither (outside 1 most (job_count jobs)) (ltb (first_from (bad_job n jobs) 0 (job_count jobs)) (job_count jobs)) h in
    let m = ltb-false (first_from (bad_job n jobs) 0 (job_count jobs)) (job_count jobs) p.1 in
    first-before (bad_job n jobs) 0 (job_count jobs) i (omega arith) (omega arith)

module _ (n k : ℕ) (us : List ℕ) (fs : List Float) (B : Binary32 fs) (long-us : length us ≡ n * k) (long_fs : length fs ≡ n * k) where
  pub lent-lists : length (lists_in n k us fs) ≡ n
  unfolding lists_in
  lent-lists = length-ones (λ (i : ℕ). entries k (part k i us) (part k i fs)) n

  pub lent-list : (w : ℕ) → w < n → list_at (lists_in n k us fs) w ≡ entries k (part k w us) (part k w fs)
  unfolding lists_in
  lent-list w h = get_d_ones (λ (i : ℕ). entries k (part k i us) (part k i fs)) n w [] h

  pub lent-long : (w : ℕ) → w < n → length (list_at (lists_in n k us fs) w) ≡ k
  lent-long w h =
      let a = length_part k n w us long-us h in
      let b = length_part k n w fs long_fs h in
      ap length (lent-list w h) ∙ length-entries k (part k w us) (part k w fs) (omega arith) (omega arith)

  pub lent-formed : lists_formed n (lists_in n k us fs) ≡ true → (w : ℕ) → w < n → ListFormed n (list_at (lists_in n k us fs) w)
  lent-formed f w h =
      let e = lent-list w h in
      let sz = lent-lists in
      list-formed n (list_at (lists_in n k us fs) w)
      (rw e (binary-entries k (part k w us) (part k w fs) (all-part (λ (x : Float). T (fits binary32 x)) k w fs B)))
      (lists-formed n (lists_in n k us fs) w f (omega arith))

pub passed_open : (l : OpenLent) → Binary32 l.distances → decide (open_table l) ≡ passed → Passed l
unfolding open_table open_rows row2 row4 row6 row9 row12 bad_job
passed_open l B h =
    let F = all_fail (open_table l) h in
    let k_in = (none_hold _ F.1.1.1.0).0 in
    let lent = none_hold _ F.1.1.1.1.0 in
    let us = exactly (l.n * l.k) (length l.nodes) lent.0 in
    let fs = exactly (l.n * l.k) (length l.distances) lent.1.0 in
    let nine = F.1.1.1.1.1.0 in
    let count = within 1 most (job_count l.jobs) (neither _ _ nine).0 in
    record {
      sizes = record { nodes = F.1.0; size = k_in };
      openable =
          record {
            nodes = lent-lists l.n l.k l.nodes l.distances B us fs;
            lists = lent-formed l.n l.k l.nodes l.distances B us fs (not-false (lists_formed l.n (lists_in l.n l.k l.nodes l.distances)) F.1.1.1.1.1.1.1.0);
            lengths = lent-long l.n l.k l.nodes l.distances B us fs;
            some = count.from;
            few = count.to;
            us = λ (i : ℕ) (b : i < job_count l.jobs).
                leb-false l.n (job_u l.jobs i) (neither (leb l.n (job_u l.jobs i)) (leb l.n (job_v l.jobs i)) (job-passes l.n l.jobs nine i b)).0;
            vs = λ (i : ℕ) (b : i < job_count l.jobs).
                leb-false l.n (job_v l.jobs i) (neither (leb l.n (job_u l.jobs i)) (leb l.n (job_v l.jobs i)) (job-passes l.n l.jobs nine i b)).1;
          };
    }

-- "What open leaves is well formed"
pub open_formed : (l : OpenLent) → Binary32 l.distances → decide (open_table l) ≡ passed → Formed l.n l.k (opened_on l)
unfolding opened_on
open_formed l B h =
    opened-formed l.n l.k (between l.lanes l.dimension) (holdable_between l.lanes l.dimension) (between-fit l.lanes l.dimension)
    (lists_in l.n l.k l.nodes l.distances) l.jobs (passed_open l B h).openable
