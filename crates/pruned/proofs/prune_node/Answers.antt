-- `pruned::prune_node` meets its contract: each step by its own. Assumes nothing.
use mathlib.Core.Path.{sym, subst}
use Prim.Native.Nat.{ℕ, ◌<◌}
use native.Mathlib.Omega.{arith}
use Rattle.lists.specs.All.{All}
use Rattle.hops.specs.Hops.{Linked}
use Rattle.pruned.proofs.Laws.{linked, candidates-below, room_for, ready, row_is}
use Rattle.pruned.proofs.prune_node.Goals as goal

pub candidates-len-requires : goal.candidates-len-requires
candidates-len-requires c =
    let p = c.requires in
    let given = p.given in
    let room = p.room in
    let fewest = given.fewest in
    let hops = given.hops in
    let most = given.most in
    let nodes = room.nodes_long in
    record { linked = (subst (Linked _ _ _) (sym room.long) (linked _ _ _ _ _ _ given), subst (λ (m : ℕ). c.args.q.0 < m) (sym room.long) p.within); flags_value = (room.clear, omega arith) }

pub distances_to-requires : goal.distances_to-requires
distances_to-requires c =
    let p = c.requires in
    let r = c.candidates-len.ensures in
    record { within = (p.within, subst (All (λ (v : ℕ). v < _)) (sym r.list) (candidates-below _ _ _ _ _ _ p.given _ p.within)); len_in_bounds = room_for p.given p.room r }

pub choose-kept-requires : goal.choose-kept-requires
choose-kept-requires c =
    let p = c.requires in
    let r = c.candidates-len.ensures in
    let fits = room_for p.given p.room r in
    let measured = c.distances_to in
    let s = c.sort.ensures in
    record { within = (ready p.given p.within p.room r measured.ensures s); len_in_bounds = (omega (arith, fits.0, s.nodes_long), omega (arith, fits.1, measured.auto.dists, s.dists_long)); index_size_in_bounds = (omega arith, omega arith) }

pub returns : goal.returns
returns c =
    let p = c.requires in
    let measured = c.distances_to in
    row_is _ _ _ _ _ _ p.given _ p.within _ _ p.room c.candidates-len.ensures measured.ensures measured.auto.dists
    c.sort.ensures c.choose-kept.ensures c.fill_row.ensures
