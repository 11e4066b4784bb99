-- What a relay is read from: its lists and jobs one by one, and that its encoding has room for it. Assumes nothing.
use mathlib.Core.Path.{◌≡◌, refl, sym, ap, ◌∙◌}
use mathlib.Core.List.{List, [], ◌∷◌, ◌++◌, map, append_assoc, append-nil, map-append}
use Prim.Native.Nat.{ℕ, zero, suc, ◌+◌, ◌*◌, ◌≤◌, ◌<◌, min, zero-le, suc-le-suc}
use native.Mathlib.Nat.{suc-mul, zero-mul}
use native.Mathlib.Omega.{arith}
use lib.Dec.{T}
use lib.ListN.{length, take, drop, get_or, length-take}
use lib.Seq.{take-add}
use lib.Ieee.{Float, binary32, fits}
use lib.Ieee.Bits.{of_bits-fits}
use Rattle.rules.specs.declared.Neighbor.{Neighbor}
use Rattle.rules.specs.Loops.{each, part}
use Rattle.rules.specs.Distance.{zero32}
use Rattle.rules.specs.Numbers.{most}
use Rattle.rules.specs.Lists.{entries, distances_of}
use Rattle.rules.specs.Relay.{Job, no_job}
use Rattle.rules.specs.Places.{padded}
use Rattle.rules.specs.RelayPlaces.{room_floats, jobs_floats, job_in, relay_in, relay_state_floats}
use Rattle.rules.proofs.Loops.{length-ones, get_d_ones, ones}
use Rattle.lists.proofs.Plain.{all_take, all_append}
use Rattle.encoded.specs.Words.{Binary32, joined, Readable, Fitting}
use Rattle.encoded.proofs.Jobs.{job-readable}
use Rattle.encoded.proofs.Rows.{all_ones, all_drop}
use Rattle.encoded.proofs.Binary.{binary-entries, binary_rooms}
use Rattle.relay_state.proofs.Zeroed.{binary-jobs}

-- ---- one for each place

-- rows that are made of the ones, one behind the other
joined-append : {A : Type 0} (a b : List (List A)) → joined (a ++ b) ≡ joined a ++ joined b
unfolding joined
joined-append [] b = refl
joined-append {A} (r ∷ a) b = ap (λ (l : List A). r ++ l) (joined-append a b) ∙ sym (append_assoc r (joined a) (joined b))

pub joined-ones : {A B : Type 0} (f : A → List B) (g : ℕ → A) (m : ℕ) → joined (map f (ones g m)) ≡ each (λ (i : ℕ). f (g i)) m
unfolding each joined
joined-ones f g zero = refl
joined-ones {A} {B} f g (suc m) =
    ap joined (map-append f (ones g m) (g m ∷ []))
    ∙ joined-append (map f (ones g m)) (f (g m) ∷ [])
    ∙ ap (λ (l : List B). l ++ (f (g m) ++ [])) (joined-ones f g m) ∙ ap (λ (l : List B). each (λ (i : ℕ). f (g i)) m ++ l) (append-nil (f (g m)))

-- parts one behind the other are the front
pub parts_front : {A : Type 0} (h : ℕ → List A) (w : ℕ) (xs : List A) (m : ℕ) → ((i : ℕ) → i < m → h i ≡ part w i xs) → each h m ≡ take (m * w) xs
unfolding each part
parts_front h w xs zero e = let z = zero-mul w in rw z
parts_front {A} h w xs (suc m) e =
    let s = suc-mul m w in
    ap (λ (l : List A). l ++ h m) (parts_front h w xs m (λ (i : ℕ) (l : i < m). e i (omega arith)))
    ∙ ap (λ (l : List A). take (m * w) xs ++ l) (e m (omega arith))
    ∙ sym (ap (λ (i : ℕ). take i xs) s ∙ take-add (m * w) w xs)

entries-short : (m : ℕ) (ns : List ℕ) (ds : List Float) → length (entries m ns ds) ≤ length ns
unfolding entries
entries-short zero ns ds = zero-le
entries-short (suc m) [] ds = zero-le
entries-short (suc m) (n ∷ ns) [] = zero-le
entries-short (suc m) (n ∷ ns) (d ∷ ds) = suc-le-suc (entries-short m ns ds)

-- ---- the relay in a state

module _ (n k : ℕ) (us : List ℕ) (fs : List Float) where
  abbrev pub list_of : ℕ → List Neighbor
  list_of w = entries (get_or us (n * (k + 64) + w) 0) (part (k + 64) w us) (part (k + 64) w fs)

  abbrev pub job_of : ℕ → Job
  job_of i = job_in (drop (n * (k + 65) + 1 + 15 * i) us) (get_or fs (n * (k + 64) + i) zero32)

  abbrev pub jobs_long : ℕ
  jobs_long = min most (get_or us (n * (k + 65)) 0)

  pub lists-long : length (relay_in n k us fs).lists ≡ n
  unfolding relay_in
  lists-long = length-ones list_of n

  pub jobs-long : length (relay_in n k us fs).jobs ≡ jobs_long
  unfolding relay_in
  jobs-long = length-ones job_of jobs_long

  pub list_at_lem : (w : ℕ) → w < n → get_or (relay_in n k us fs).lists w [] ≡ list_of w
  unfolding relay_in
  list_at_lem w h = get_d_ones list_of n w [] h

  pub job-at : (i : ℕ) → i < jobs_long → get_or (relay_in n k us fs).jobs i no_job ≡ job_of i
  unfolding relay_in
  job-at i h = get_d_ones job_of jobs_long i no_job h

  pub short : (w : ℕ) → length (list_of w) ≤ k + 64
  unfolding part
  short w =
      let a = entries-short (get_or us (n * (k + 64) + w) 0) (part (k + 64) w us) (part (k + 64) w fs) in
      let b = length-take (k + 64) (drop (w * (k + 64)) us) in
      omega arith

  pub fitting : Fitting n k (relay_in n k us fs)
  unfolding relay_in
  fitting =
      record {
        nodes = length-ones list_of n;
        short = all_ones list_of (λ (l : List Neighbor). length l ≤ k + 64) n (λ (w : ℕ) (h : w < n). short w);
        few = (let e = length-ones job_of jobs_long in omega arith);
        readable =
            all_ones job_of Readable jobs_long (λ (i : ℕ) (h : i < jobs_long). job-readable (drop (n * (k + 65) + 1 + 15 * i) us) (get_or fs (n * (k + 64) + i) zero32));
      }

  module _ (B : Binary32 fs) where
    abbrev Value : Float → Type 0
    Value x = T (fits binary32 x)

    value-at : (xs : List Float) → Binary32 xs → (i : ℕ) → Value (get_or xs i zero32)
    value-at [] X i = of_bits-fits binary32 0
    value-at (x ∷ xs) X zero = X.0
    value-at (x ∷ xs) X (suc i) = value-at xs X.1 i

    -- each float of its encoding is a value of binary32
    pub binary : Binary32 (relay_state_floats k (relay_in n k us fs))
    unfolding relay_state_floats relay_in part job_in
    binary =
        all_append Value (room_floats (k + 64) (ones list_of n)) (padded 64 zero32 (jobs_floats (ones job_of jobs_long)))
        (binary_rooms (k + 64) (ones list_of n)
        (all_ones list_of (λ (l : List Neighbor). Binary32 (distances_of l)) n (λ (w : ℕ) (h : w < n).
        binary-entries (get_or us (n * (k + 64) + w) 0) (part (k + 64) w us) (part (k + 64) w fs)
        (all_take Value (k + 64) (drop (w * (k + 64)) fs) (all_drop Value (w * (k + 64)) fs B)))))
        (binary-jobs 64 (ones job_of jobs_long)
        (all_ones job_of (λ (j : Job). Value j.distance) jobs_long (λ (i : ℕ) (h : i < jobs_long). distance-at i)))
      where
        distance-at : (i : ℕ) → Value (job_of i).distance
        distance-at i = value-at fs B (n * (k + 64) + i)
