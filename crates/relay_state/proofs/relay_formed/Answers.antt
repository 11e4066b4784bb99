-- `relay_state::relay_formed` meets its contract: the jobs, and then the room of every list. Assumes nothing.
use mathlib.Core.Path.{sym, ap, ◌∙◌}
use Prim.Native.Nat.{ℕ}
use lib.Dec.{T}
use lib.ListN.{get_or}
use lib.Ieee.{Float, nan, binary32, fits}
use Rattle.lists.proofs.Plain.{all_of}
use Rattle.encoded.specs.Words.{Binary32}
use Rattle.relay_state.proofs.Parts.{sizes}
use Rattle.relay_state.proofs.Tested.{by_jobs, few-jobs, by_rooms}
use Rattle.relay_state.proofs.relay_formed.Goals.{After-shared_slice_known-2-1}
use Rattle.relay_state.proofs.relay_formed.Goals as goal

-- what an f32 slice holds are values of binary32
values : (c : After-shared_slice_known-2-1) → Binary32 c.args.floats.now
values c = all_of (λ (x : Float). T (fits binary32 x)) c.args.floats.now nan (λ (i : ℕ) h. c.type_inv.floats i)

pub rooms_formed-requires : goal.rooms_formed-requires
rooms_formed-requires c =
    let z = c.requires in
    let s = sizes z in
    (z, few-jobs z (values (goal.at.rooms_formed-requires c).After-shared_slice_known-2-1) (sym c.jobs_formed.ensures ∙ c.if-jobs_formed.true), ap (λ (i : ℕ). get_or c.args.words.now i 0) (sym s.jobs))

pub returns-then-jobs_formed : goal.returns-then-jobs_formed
returns-then-jobs_formed c = c.rooms_formed.ensures ∙ by_rooms c.requires (values (goal.at.returns-then-jobs_formed c).After-shared_slice_known-2-1) (sym c.jobs_formed.ensures ∙ c.if-jobs_formed.true)

pub returns-else-jobs_formed : goal.returns-else-jobs_formed
returns-else-jobs_formed c = c.if-jobs_formed.false ∙ by_jobs c.requires (values (goal.at.returns-else-jobs_formed c).After-shared_slice_known-2-1) (sym c.jobs_formed.ensures ∙ c.if-jobs_formed.false)
