-- What a move and a close left, beside the list's. Assumes nothing.
use Rattle.std.specs.Prelude.{ℕ, ◌+◌, min, false, cond, List, length, get_or, take, drop, ◌==◌, nat_le, slice_index_or, is_none, Float}
use Rattle.cases.specs.Text.{size_at, area_of, words_at, behind}
use Rattle.replays.specs.Compare.{apart, holds_only}
use Rattle.tallies.specs.declared.Difference.TheVariants.{Length, Nodes, Bits, Count, Beyond}
use Rattle.tallies.specs.declared.Outcome.{Outcome}
use Rattle.tallies.specs.Tallies.{junk, moved_to, joined}
use Rattle.relays.specs.Places.{sum, list_at, length_at, job_at}
use Rattle.relays.specs.Bits.{agreeing}
use Rattle.replay_relay.specs.declared.shape.Shape.{Shape}

module _ (text : List ℕ) where
  -- Nodes, and distances by their bits
  unfoldable pub beside_at : Outcome → List ℕ → List Float → Outcome
  beside_at o nodes dists =
      let c = behind (length nodes) text o.cursor in
      let p = moved_to o (behind (length dists) text c) in
      let q = joined p (is_none (apart nodes (words_at (length nodes) text o.cursor))) Nodes in
      joined q (agreeing dists (words_at (length dists) text c) == length dists) Bits

  -- Entries that our places have no room for: a length
  unfoldable pub outside_at : Outcome → ℕ → Outcome
  outside_at o long = joined (moved_to o (behind (area_of 2 long) text o.cursor)) false Length

  -- Entries from a place on
  unfoldable pub room_at : Outcome → ℕ → ℕ → List ℕ → List Float → Outcome
  room_at o from long words floats =
      cond (nat_le (from + long) (min (length words) (length floats)))
      (beside_at o (take long (drop from words)) (take long (drop from floats)))
      (outside_at o long)

  -- A node's list: its length, then its entries
  unfoldable pub left_at : Outcome → Shape → ℕ → List ℕ → List Float → Outcome
  left_at o s node words floats =
      let long = size_at 128 text o.cursor in
      let ours = get_or words (length_at s.n s.k node) junk in
      let p = joined (moved_to o long.cursor) (ours == long.value) Length in
      room_at p (list_at s.k node) long.value words floats

  -- The reports, behind which nothing has changed
  unfoldable pub reported_at : Outcome → ℕ → List ℕ → Outcome
  reported_at o count reports =
      let long = min count (length reports) in
      let p = moved_to o (behind long text o.cursor) in
      let q = joined p (is_none (apart (take long reports) (words_at long text o.cursor))) Count in
      joined q (holds_only junk (drop long reports)) Beyond

-- The node that a job's last step concerned: "of u in a job's first four steps, of v in its last four"
unfoldable pub concerned_in : Shape → ℕ → List ℕ → List ℕ → ℕ
concerned_in s job jobs words =
    let steps = get_or words (sum (job_at s.n s.k job) 2) junk in
    let u = area_of 2 job in
    cond (nat_le steps 4) (slice_index_or jobs u junk) (slice_index_or jobs (sum u 1) junk)
