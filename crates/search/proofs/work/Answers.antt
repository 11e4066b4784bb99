-- `search::work` meets its contract. Assumes nothing.
use native.Mathlib.Omega.{arith}
use Rattle.expand.proofs.Areas.{room-kept}
use Rattle.search.proofs.Outcomes.{ready-room, best-numbers, worked-unfit, worked-found}
use Rattle.search.proofs.work.Goals as goal

pub walk-r-requires : goal.walk-r-requires
walk-r-requires c =
    let ready = c.requires in
    record { few = ready.few_nodes; rows = record { long = ready.graph_long; narrow = ready.narrow }; roots = ready.roots; room = ready-room _ ready; le_k = ready.some }

pub give-requires : goal.give-requires
give-requires c =
    let ready = c.requires in
    let w = c.walk-r.ensures in
    let least = c.fewer-m.ensures in
    let few = ready.few in
    let nodes = ready.nodes_room in
    let bits = ready.bits_room in
    let room = room-kept (ready-room _ ready) w.words w.floats in
    record { room = room; m_bound = (omega arith, omega arith, omega arith); by_index = best-numbers _ _ _ _ _ _ _ c.in-Ok.is w least room (omega arith) }

pub returns-in-Err : goal.returns-in-Err
returns-in-Err c =
    worked-unfit _ c.in-Err.is c.walk-r.ensures c.zero_words.ensures c.zero_floats.ensures

pub returns-in-Ok : goal.returns-in-Ok
returns-in-Ok c =
    worked-found _ c.in-Ok.is c.walk-r.ensures c.fewer-m.ensures c.give.ensures.result_nodes_after c.give.ensures.result_bits_after c.zero_words-in-Ok.ensures c.zero_floats-in-Ok.ensures
