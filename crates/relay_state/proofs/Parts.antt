-- The tests of the parts of a relay's state, one after another. Assumes nothing.
use mathlib.Core.Path.{◌≡◌, refl, sym, ap, ◌∙◌}
use mathlib.Core.Bool.{Bool, true, false}
use mathlib.Core.List.{List, [], ◌∷◌, ◌++◌}
use Prim.Native.Nat.{ℕ, zero, suc, ◌+◌, ◌-◌, ◌*◌, ◌≤◌, ◌<◌, min}
use native.Mathlib.Nat.{not-suc-le-zero, le_of_suc-le-suc, mul-suc, suc-mul, mul-le-mul, mul-le-mul_right}
use native.Mathlib.Numerals.{add-one}
use native.Mathlib.Omega.{arith}
use lib.ListN.{length, take, drop, get_or}
use lib.Seq.{drop-drop}
use lib.Ieee.{Float, nan}
use Rattle.rules.specs.Loops.{each, part}
use Rattle.rules.specs.Distance.{zero32}
use Rattle.rules.specs.Relay.{Job}
use Rattle.rules.specs.RelayPlaces.{job_in, relay_in, pending_at}
use Rattle.lists.proofs.Plain.{to_end}
use Rattle.zeros.specs.Zeros.{all_below}
use Rattle.zeros.proofs.Laws.{all_turn, all-not}
use Rattle.jobs.specs.Jobs.{job_test, PendingJob}
use Rattle.relay_state.specs.State.{Sized, jobs_of, PendingAll, room_test, room_at}

module _ {A : Type 0} where
  -- a place that is there is read, whatever would stand for an absent one
  pub get_d_any : (xs : List A) (i : ℕ) (a b : A) → i < length xs → get_or xs i a ≡ get_or xs i b
  get_d_any [] i a b h = absurd (not-suc-le-zero h)
  get_d_any (x ∷ xs) zero a b h = refl
  get_d_any (x ∷ xs) (suc i) a b h = get_d_any xs i a b (le_of_suc-le-suc h)

-- loops whose turns give the same give the same
pub each_same : {A : Type 0} (f g : ℕ → List A) → ((i : ℕ) → f i ≡ g i) → (m : ℕ) → each f m ≡ each g m
unfolding each
each_same f g e zero = refl
each_same {A} f g e (suc m) = ap (λ (l : List A). l ++ f m) (each_same f g e m) ∙ ap (λ (l : List A). each g m ++ l) (e m)

-- ---- the jobs

module _ (n : ℕ) (js : List ℕ) (xs : List Float) where
  abbrev pub job_ok : ℕ → Bool
  job_ok i = job_test n (drop (1 + 15 * i) js) (get_or xs i zero32)

  -- the words that are lent, and the distance that is read
  lent-job : (i : ℕ) → i < length xs → job_test n (take (length js - (1 + 15 * i)) (drop (1 + 15 * i) js)) (get_or xs i nan) ≡ job_ok i
  lent-job i h = ap (λ (ws : List ℕ). job_test n ws (get_or xs i nan)) (to_end (1 + 15 * i) js) ∙ ap (job_test n (drop (1 + 15 * i) js)) (get_d_any xs i nan zero32 h)

  module _ (count i : ℕ) (few : count ≤ 64) (long : length xs ≡ 64) where
    pub job-not : i < count → job_test n (take (length js - (1 + 15 * i)) (drop (1 + 15 * i) js)) (get_or xs i nan) ≡ false → false ≡ all_below job_ok count
    job-not h e = sym (all-not job_ok count i h (sym (lent-job i (omega arith)) ∙ e))

    pub job_turn : i < count → all_below job_ok i ≡ true → job_test n (take (length js - (1 + 15 * i)) (drop (1 + 15 * i) js)) (get_or xs i nan) ≡ true → all_below job_ok (i + 1) ≡ true
    job_turn h inv e = all_turn job_ok i inv (sym (lent-job i (omega arith)) ∙ e)

-- ---- what is pending

pending-append : (w : ℕ) (a b : List Job) → pending_at w (a ++ b) ≡ pending_at w a + pending_at w b
unfolding pending_at
pending-append w [] b = omega arith
pending-append w (j ∷ a) b = let h = pending-append w a b in omega arith

pub pending_start : (js : List ℕ) (w : ℕ) → PendingAll js 0 w 0
unfolding pending_at each
pending_start js w = record { is = λ (x : ℕ → Float). refl; few = omega arith }

pub pending_turn : {js : List ℕ} {i w r s : ℕ} → PendingAll js i w r → PendingJob (take (length js - (1 + 15 * i)) (drop (1 + 15 * i) js)) w s → PendingAll js (i + 1) w (r + s)
unfolding pending_at each
pending_turn {js} {i} {w} {r} {s} inv made =
    let m : PendingJob (drop (1 + 15 * i) js) w s = rw (to_end (1 + 15 * i) js) at made in
    let f = inv.few in
    let g = made.few in
    record {
      is = λ (x : ℕ → Float).
          let p = inv.is x in
          let q = m.is (x i) in
          rw add-one (sym (pending-append w (jobs_of js x i) (job_in (drop (1 + 15 * i) js) (x i) ∷ []) ∙ omega arith));
      few = omega arith;
    }

-- ---- where things lie

pub record Sizes (n k words floats : ℕ) : Type 0 where
  pub room : k + 64 ≤ 128
  pub lists : n * (k + 64) ≤ 131072
  pub nodes : n ≤ 1024
  pub jobs : n * (k + 65) ≡ n * (k + 64) + n
  pub all_words : words ≡ n * (k + 64) + n + 1024
  pub all_floats : floats ≡ n * (k + 64) + 64

pub sizes : {n k : ℕ} {us : List ℕ} {fs : List Float} → Sized n k us fs → Sizes n k (length us) (length fs)
sizes {n} {k} {us} {fs} z =
    let few = z.few in
    let room : k + 64 ≤ 128 = omega arith in
    let one : n * (k + 65) ≡ n * (k + 64) + n = ap (λ (m : ℕ). n * m) (let g : k + 65 ≡ suc (k + 64) = omega arith in g) ∙ mul-suc n (k + 64) in
    let product : n * (k + 64) ≤ 1024 * 128 = mul-le-mul z.nodes room in
    let w = z.words in
    let f = z.floats in
    record { room = room; lists = omega arith; nodes = z.nodes; jobs = one; all_words = omega arith; all_floats = f }

-- job i's words, from the number of jobs on
pub from-jobs : {n k words floats : ℕ} → Sizes n k words floats → (us : List ℕ) (i : ℕ) → drop (n * (k + 65) + 1 + 15 * i) us ≡ drop (1 + 15 * i) (drop (n * (k + 64) + n) us)
from-jobs {n} {k} s us i =
    let j = s.jobs in
    let e : n * (k + 65) + 1 + 15 * i ≡ n * (k + 64) + n + (1 + 15 * i) = omega arith in
    ap (λ (m : ℕ). drop m us) e ∙ sym (drop-drop (1 + 15 * i) (n * (k + 64) + n) us)

pub record Inside (n k w words floats : ℕ) : Type 0 where
  pub sizes : Sizes n k words floats
  pub below : w < n
  pub to : w * (k + 64) + (k + 64) ≤ n * (k + 64)

pub inside : {n k : ℕ} {us : List ℕ} {fs : List Float} (w : ℕ) → Sized n k us fs → w < n → Inside n k w (length us) (length fs)
inside {n} {k} {us} {fs} w z h =
    let step = suc-mul w (k + 64) in
    let within : suc w * (k + 64) ≤ n * (k + 64) = mul-le-mul_right (k + 64) h in
    record { sizes = sizes z; below = h; to = omega arith }

-- ---- the room of every list

module _ {n k : ℕ} {us : List ℕ} {fs : List Float} (z : Sized n k us fs) (count : ℕ) (few : count ≤ 64) (is : count ≡ get_or us (n * (k + 65)) 0) where
  -- the jobs that the relay is read with
  read-jobs : (relay_in n k us fs).jobs ≡ jobs_of (drop (n * (k + 64) + n) us) (λ (i : ℕ). get_or fs (n * (k + 64) + i) zero32) count
  unfolding relay_in
  read-jobs =
      let m : min 64 (get_or us (n * (k + 65)) 0) ≡ count = omega arith in
      ap (each (λ (i : ℕ). job_in (drop (n * (k + 65) + 1 + 15 * i) us) (get_or fs (n * (k + 64) + i) zero32) ∷ [])) m
      ∙ each_same _ _ (λ (i : ℕ). ap (λ (ws : List ℕ). job_in ws (get_or fs (n * (k + 64) + i) zero32) ∷ []) (from-jobs (sizes z) us i)) count

  module _ (w m p : ℕ) (below : w < n) (cut : m ≡ k + 64) (asked : PendingAll (take (length us - (n * (k + 64) + n)) (drop (n * (k + 64) + n) us)) count w p) where
    lent-room : room_test n (k + p) (get_or us (n * (k + 64) + w) 0) (take m (drop (w * (k + 64)) us)) (take m (drop (w * (k + 64)) fs)) ≡ room_at n k us fs w
    unfolding room_at part
    lent-room =
        let a : PendingAll (drop (n * (k + 64) + n) us) count w p = rw (to_end (n * (k + 64) + n) us) at asked in
        let same : p ≡ pending_at w (relay_in n k us fs).jobs = a.is (λ (i : ℕ). get_or fs (n * (k + 64) + i) zero32) ∙ ap (pending_at w) (sym read-jobs) in
        rw (cut, same)

    pub room-not : room_test n (k + p) (get_or us (n * (k + 64) + w) 0) (take m (drop (w * (k + 64)) us)) (take m (drop (w * (k + 64)) fs)) ≡ false → false ≡ all_below (room_at n k us fs) n
    room-not e = sym (all-not (room_at n k us fs) n w below (sym lent-room ∙ e))

    pub room_turn : all_below (room_at n k us fs) w ≡ true → room_test n (k + p) (get_or us (n * (k + 64) + w) 0) (take m (drop (w * (k + 64)) us)) (take m (drop (w * (k + 64)) fs)) ≡ true
        → all_below (room_at n k us fs) (w + 1) ≡ true
    room_turn inv e = all_turn (room_at n k us fs) w inv (sym lent-room ∙ e)
