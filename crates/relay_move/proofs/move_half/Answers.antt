-- `relay_move::move_half` meets its contract: the look and the measure, the list, and what the job keeps. Assumes nothing.
use mathlib.Core.Path.{◌≡◌, ◌∙◌}
use Prim.Native.Nat.{◌+◌, ◌-◌}
use native.Mathlib.Omega.{arith}
use Rattle.rules.specs.Relay.{bit}
use Rattle.relay_move.specs.Moves.{job_place}
use Rattle.relay_move.proofs.Parts.{keep-ready, half_moved}
use Rattle.relay_move.proofs.Stages.{bit-from}
use Rattle.relay_move.proofs.move_half.Goals as goal

pub keep-requires : goal.keep-requires
keep-requires c =
    let a = c.args in
    let at = job_place a.n a.k a.job in
    let m : at + 15 - at ≡ 15 = omega arith in
    keep-ready c.requires _ c.list_step-next.ensures.listed _ m

pub returns : goal.returns
returns c =
    let a = c.args in
    let at = job_place a.n a.k a.job in
    let m : at + 15 - at ≡ 15 = omega arith in
    let next = c.list_step-next.result in
    let t : c.from.result ≡ bit next.taken = c.from.ensures ∙ bit-from next.taken in
    let l : c.from-2.result ≡ bit next.longer = c.from-2.ensures ∙ bit-from next.longer in
    half_moved c.requires _ c.list_step-next.ensures.listed _ m c.list_step-next.ensures.flags (rw (← t, ← l) c.keep.ensures)
