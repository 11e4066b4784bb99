-- `hops::candidates` meets its contract, from what its three parts ensure. Assumes nothing.
use native.Mathlib.Omega.{arith}
use Rattle.hops.proofs.Laws.{took_flagged, both, below_both, candidates-found, flagged_none}
use Rattle.hops.proofs.candidates.Goals as goal

pub two_hops-hopped-requires : goal.two_hops-hopped-requires
two_hops-hopped-requires c =
    let pre = c.requires in
    record { linked = pre.linked; flagged = (flagged_none _ pre.flags_value.0, omega arith) }

pub clear-requires : goal.clear-requires
clear-requires c =
    let pre = c.requires in
    let took = both _ _ _ _ c.two_hops-hopped.ensures c.own_members-taken.ensures in
    let within = took.within in
    let v = took.out_long in
    let below = below_both _ _ _ _ c.two_hops-hopped.ensures c.own_members-taken.ensures pre.linked.0.below pre.linked.1 in
    (took_flagged took, rw took.flags_long below, omega arith)

pub returns : goal.returns
returns c =
    let pre = c.requires in
    let took = both _ _ _ _ c.two_hops-hopped.ensures c.own_members-taken.ensures in
    let within = took.within in
    let v = took.out_long in
    candidates-found _ _ _ _ c.two_hops-hopped.ensures c.own_members-taken.ensures pre.flags_value.0 (omega arith) c.clear.ensures
