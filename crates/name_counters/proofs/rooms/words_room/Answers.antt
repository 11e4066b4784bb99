-- `name_counters::rooms::words_room` is safe, and its array is as long as it says: by a law, since counting the places one by one is slow. Assumes nothing.
use Rattle.std.proofs.Common.{ℕ, sym}
use lib.ListN.{length-replicate}
use Rattle.name_counters.proofs.rooms.words_room.Goals as goal

pub returns : goal.returns
returns c = sym (length-replicate {A = ℕ} 167936 0)
