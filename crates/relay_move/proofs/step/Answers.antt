-- `relay_move::step` meets its contract: the first half, or the second. Assumes nothing.
use Prim.Native.Nat.{ℕ}
use lib.Dec.{T}
use lib.Ieee.{Float, nan, binary32, fits}
use Rattle.lists.proofs.Plain.{all_of}
use Rattle.encoded.specs.Words.{Binary32}
use Rattle.relay_move.proofs.Half.{ready-first, first_stepped, ready-second, second_stepped}
use Rattle.relay_move.proofs.step.Goals.{After-slice_known-2-1, Start}
use Rattle.relay_move.proofs.step.Goals as goal

-- what an f32 slice holds are values of binary32
values : (c : After-slice_known-2-1) → Binary32 c.args.floats.now
values c = all_of (λ (x : Float). T (fits binary32 x)) c.args.floats.now nan (λ (i : ℕ) h. c.type_inv.floats i)

pub move_half-requires : goal.move_half-requires
move_half-requires c =
    let p = c.requires in
    ready-first p.sized.0 (values (goal.at.move_half-requires c).After-slice_known-2-1) p.sized.1 _ p.job_in_bounds.1 p.job_in_bounds.2 c.if-steps-lt4.true

pub move_half-requires-else-steps-lt4 : goal.move_half-requires-else-steps-lt4
move_half-requires-else-steps-lt4 c =
    let p = c.requires in
    ready-second p.sized.0 (values (goal.at.move_half-requires-else-steps-lt4 c).After-slice_known-2-1) p.sized.1 _ p.job_in_bounds.1 p.job_in_bounds.2 c.if-steps-lt4.false

pub returns-then-steps-lt4 : goal.returns-then-steps-lt4
returns-then-steps-lt4 c =
    let p = c.requires in
    first_stepped p.sized.0 (values (goal.at.returns-then-steps-lt4 c).After-slice_known-2-1) p.sized.1 _ p.job_in_bounds.1 p.job_in_bounds.2 c.if-steps-lt4.true c.move_half.ensures

pub returns-else-steps-lt4 : goal.returns-else-steps-lt4
returns-else-steps-lt4 c =
    let p = c.requires in
    second_stepped p.sized.0 (values (goal.at.returns-else-steps-lt4 c).After-slice_known-2-1) p.sized.1 _ p.job_in_bounds.1 p.job_in_bounds.2 c.if-steps-lt4.false c.move_half-else-steps-lt4.ensures
