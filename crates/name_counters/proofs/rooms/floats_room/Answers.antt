-- `name_counters::rooms::floats_room` is safe, and its array is as long as it says: by a law, since counting the places one by one is slow. Assumes nothing.
use Rattle.std.proofs.Common.{sym}
use lib.ListN.{length-replicate}
use lib.Ieee.{Float, binary32, of_bits}
use Rattle.name_counters.proofs.rooms.floats_room.Goals as goal

pub returns : goal.returns
returns c = sym (length-replicate {A = Float} 167936 (of_bits binary32 0))
