-- `relay_state::rooms_formed` meets its contract: the rooms before the w-th are well formed. Assumes nothing.
use mathlib.Core.Path.{◌≡◌}
use mathlib.Core.Bool.{true}
use Rattle.zeros.specs.Zeros.{all_below}
use Rattle.relay_state.specs.State.{room_at}
use Rattle.relay_state.proofs.rooms_formed.Given as goal

abbrev pub invariant-loop-w : goal.invariant-loop-w
invariant-loop-w l = all_below (room_at l.n l.k l.words l.floats) l.w ≡ true
