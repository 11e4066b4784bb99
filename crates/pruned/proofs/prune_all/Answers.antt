-- What the search leaves of `pruned::prune_all`.
use mathlib.Core.Path.{◌≡◌, refl}
use Prim.Native.Nat.{◌+◌, ◌-◌, ◌*◌}
use native.Mathlib.Omega.{arith}
use Rattle.pruned.proofs.All.{pruning_none, pruning_turn, pruning_end}
use Rattle.pruned.proofs.prune_all.Goals as goal

pub loop-q-init : goal.loop-q-init
loop-q-init c = pruning_none _ _ _ _ _ _ _ _ refl refl refl c.requires.given.few

pub loop-q-preserved : goal.loop-q-preserved
loop-q-preserved c =
    let inv = c.loop-q.invariant in
    let p = c.requires in
    let q = c.loop-q.q in
    let w = c.args.index_size in
    let f : q * w + w - q * w ≡ w = omega arith in
    pruning_turn inv f c.loop-q-test.true p.given.few p.index_size_in_bounds.0 p.index_size_in_bounds.1 c.prune_node.ensures c.prune_node.auto.row_nodes c.prune_node.auto.row_dists

pub returns : goal.returns
returns c = pruning_end c.loop-q.invariant (omega arith) (omega arith)
