-- `relay_open::put_rooms` meets its contract: the rooms before the w-th are written. Assumes nothing.
use Prim.Native.Nat.{ℕ, ◌+◌}
use Rattle.relay_close.proofs.Blocks.{Blocks}
use Rattle.rules.specs.Loops.{each, part}
use Rattle.rules.specs.Places.{padded}
use Rattle.relay_open.proofs.put_rooms.Given as goal

abbrev pub invariant-loop-w : goal.invariant-loop-w
invariant-loop-w g l = Blocks (each (λ (v : ℕ). padded (l.k + 64) l.zero (part l.k v l.lists)) l.n) (l.k + 64) l.w l.rooms
