-- A list in its room of the state: lent, and put back. Assumes nothing.
use mathlib.Core.Path.{◌≡◌, sym, ap, ◌∙◌}
use mathlib.Core.Bool.{Bool}
use mathlib.Core.List.{List}
use Prim.Native.Nat.{ℕ, ◌+◌, ◌*◌, ◌≤◌, ◌<◌}
use native.Mathlib.Omega.{arith}
use borrow.Rule.Slice.PartMut.{put_mid}
use lib.Dec.{eqb}
use lib.ListN.{length, take, drop, get_or, set, length-drop}
use lib.Seq.{length-take-le, take_all, drop-set-lt, get_or-take, get_or-drop}
use lib.Ieee.{Float}
use Rattle.rules.specs.declared.Neighbor.{Neighbor}
use Rattle.rules.specs.Loops.{part}
use Rattle.rules.specs.Distance.{zero32}
use Rattle.rules.specs.Lists.{entries, nodes_of, distances_of}
use Rattle.rules.specs.Relay.{Stage, bit, next_list}
use Rattle.rules.specs.Places.{padded}
use Rattle.relay_state.specs.State.{Sized}
use Rattle.rules.specs.RelayPlaces.{relay_in}
use Rattle.rules.proofs.Places.{length-padded}
use Rattle.relay_state.proofs.Parts.{sizes, Inside, inside}
use Rattle.relay_state.proofs.Reading.{jobs-long}
use Rattle.halves.specs.declared.Flags.{Flags}
use Rattle.halves.specs.Halves.{NextFlags, Roomed, NextList}
use Rattle.buffers.proofs.Places.{put-length, put_high}
use Rattle.lists.proofs.Plain.{length-nodes}
use Rattle.jobs.specs.Jobs.{kept_words}
use Rattle.relay_move.specs.Moves.{list_in, Room, words_with, ListStepped, job_place, half_stage, HalfReady, offered, HalfMoved}

module _ {n k : ℕ} {us : List ℕ} {fs : List Float} {w : ℕ} (z : Sized n k us fs) (r : Room n k us fs w) where
  pub top : Inside n k w (length us) (length fs)
  top = inside w z r.below

  -- m places are lent, from w times k + 64 on
  module _ (m : ℕ) (cut : m ≡ k + 64) where
    pub lent_roomed : Roomed (take m (drop (w * (k + 64)) us)) (take m (drop (w * (k + 64)) fs)) (get_or us (n * (k + 64) + w) 0)
    unfolding part
    lent_roomed = rw cut r.room

    pub lent-long : length (take m (drop (w * (k + 64)) us)) ≡ k + 64
    lent-long =
        let b = top in
        let to = b.to in
        let words = b.sizes.all_words in
        length-take-le m (drop (w * (k + 64)) us) (simp length-drop (omega arith)) ∙ cut

    pub lent-flags : (equal : Bool) (e : Neighbor) (s : Stage) {f : Flags}
        → NextFlags k equal e (entries (get_or us (n * (k + 64) + w) 0) (take m (drop (w * (k + 64)) us)) (take m (drop (w * (k + 64)) fs))) s f → NextFlags k equal e (list_in n k us fs w) s f
    unfolding part
    lent-flags equal e s x = rw cut at x

    pub list_stepped : (e : Neighbor) (s : Stage) {ns' : List ℕ} {ds' : List Float} {len : ℕ}
        → NextList (take m (drop (w * (k + 64)) us)) (take m (drop (w * (k + 64)) fs)) (get_or us (n * (k + 64) + w) 0) e s ns' ds' len
        → ListStepped n k us fs w e s (set (put_mid (w * (k + 64)) m us ns') (n * (k + 64) + w) len) (put_mid (w * (k + 64)) m fs ds')
    unfolding part
    list_stepped e s {ns'} {ds'} {len} x =
        let l = next_list e (list_in n k us fs w) s in
        let long = lent-long in
        let y : NextList (take (k + 64) (drop (w * (k + 64)) us)) (take (k + 64) (drop (w * (k + 64)) fs)) (get_or us (n * (k + 64) + w) 0) e s ns' ds' len = rw cut at x in
        let wide : length (take (k + 64) (drop (w * (k + 64)) us)) ≡ k + 64 = rw cut at lent-long in
        let a : ns' ≡ padded (k + 64) 0 (nodes_of l) = y.nodes ∙ ap (λ (i : ℕ). padded i 0 (nodes_of l)) wide in
        let b : ds' ≡ padded (k + 64) zero32 (distances_of l) = y.dists ∙ ap (λ (i : ℕ). padded i zero32 (distances_of l)) wide in
        let c = y.count in
        let d = y.few in
        record { few = omega arith; words = rw (cut, a, y.count); floats = rw (cut, b) }

-- ---- what lies behind the lists and their lengths stays

module _ {A : Type 0} (p v : ℕ) (xs ys : List A) (fits : p + v ≤ length xs) (long : length ys ≡ v) where
  pub drop-put : (a : ℕ) → p + v ≤ a → drop a (put_mid p v xs ys) ≡ drop a xs
  drop-put a h =
      let e = put-length p v xs ys fits long in
      sym (take_all (length xs) (drop a (put_mid p v xs ys)) (simp length-drop (omega arith))) ∙ put_high p v xs ys fits long a (length xs) h
      ∙ take_all (length xs) (drop a xs) (simp length-drop (omega arith))

module _ {n k : ℕ} {us : List ℕ} {fs : List Float} {w : ℕ} (z : Sized n k us fs) (below : w < n) (l : List Neighbor) (short : length l ≤ k + 64) where
  abbrev row : List ℕ
  row = padded (k + 64) 0 (nodes_of l)

  wide_row : length row ≡ k + 64
  wide_row = length-padded (k + 64) 0 (nodes_of l) (let e = length-nodes l in omega arith)

  pub drop_with : (a : ℕ) → n * (k + 64) + n ≤ a → drop a (words_with n k w l us) ≡ drop a us
  drop_with a h =
      let b = inside w z below in
      let to = b.to in
      let words = b.sizes.all_words in
      drop-set-lt a (put_mid (w * (k + 64)) (k + 64) us row) (n * (k + 64) + w) (length l) (omega arith)
      ∙ drop-put (w * (k + 64)) (k + 64) us row (omega arith) wide_row a (omega arith)

-- ---- the step of one half

module _ {n k : ℕ} {us : List ℕ} {fs : List Float} {i w half steps : ℕ} (ready : HalfReady n k us fs i w half steps) (other : ℕ) where
  abbrev e : Neighbor
  e = offered n k fs i other

  abbrev s : Stage
  s = half_stage n k us i half steps

  abbrev l : List Neighbor
  l = list_in n k us fs w

  module _ {us' : List ℕ} {fs' : List Float} (listed : ListStepped n k us fs w e s us' fs') where
    pub keep-ready : (m : ℕ) → m ≡ 15 → (15 ≤ length (take m (drop (job_place n k i) us'))) × (half ≤ 5) × (get_or (take m (drop (job_place n k i) us')) 2 0 ≤ 7)
    keep-ready m cut =
        let z = ready.sized in
        let below = ready.room.below in
        let b = inside w z below in
        let words = b.sizes.all_words in
        let j = ready.few in
        let same : drop (job_place n k i) us' ≡ drop (job_place n k i) us = ap (drop (job_place n k i)) listed.words ∙ drop_with z below (next_list e l s) listed.few (job_place n k i) (omega arith) in
        let long : length (take m (drop (job_place n k i) us')) ≡ 15 = rw same (length-take-le m (drop (job_place n k i) us) (simp length-drop (omega arith)) ∙ cut) in
        let two : get_or (take m (drop (job_place n k i) us')) 2 0 ≡ get_or us (job_place n k i + 2) 0 =
        get_or-take m (drop (job_place n k i) us') 2 0 (omega arith) ∙ ap (λ (xs : List ℕ). get_or xs 2 0) same ∙ get_or-drop (job_place n k i) us 2 0 in
        let done = ready.done in
        (omega arith, ready.place, omega arith)

    pub half_moved : (m : ℕ) {f : Flags} {ws : List ℕ} → m ≡ 15 → NextFlags k (eqb w other) e l s f → ws ≡ kept_words (take m (drop (job_place n k i) us')) half (bit f.taken) (bit f.longer)
        → HalfMoved n k us fs i w other half steps (put_mid (job_place n k i) m us' ws) fs'
    half_moved m {f} {ws} cut flags made =
        record { few = listed.few; words = rw (made, flags.taken, flags.longer, listed.words, cut); floats = listed.floats }

-- ---- where job i lies

pub record Placed (n k i words floats : ℕ) : Type 0 where
  pub few : i < 64
  pub inside : job_place n k i + 15 ≤ words
  pub small : job_place n k i + 15 ≤ 133120
  pub float : n * (k + 64) + i < floats

pub placed : {n k : ℕ} {us : List ℕ} {fs : List Float} (i : ℕ) → Sized n k us fs → i < length (relay_in n k us fs).jobs → Placed n k i (length us) (length fs)
placed {n} {k} {us} {fs} i z h =
    let s = sizes z in
    let a = s.all_words in
    let b = s.all_floats in
    let c = jobs-long n k us fs in
    record { few = omega arith; inside = omega arith; small = omega arith; float = omega arith }
