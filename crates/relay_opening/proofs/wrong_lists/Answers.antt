-- `relay_opening::wrong_lists` meets its contract. Assumes nothing.
use native.Mathlib.Omega.{arith}
use Rattle.relay_opening.proofs.Table.{sizes-most, wrong_nodes, wrong_distances, wrong_jobs}
use Rattle.relay_opening.proofs.wrong_lists.Goals as goal

pub overflow_mul-n : goal.overflow_mul-n
overflow_mul-n c = let p = sizes-most _ _ c.requires.0 c.requires.1 in omega arith

pub returns-then-nodes-n : goal.returns-then-nodes-n
returns-then-nodes-n c = wrong_nodes _ _ _ _ c.args.jobs c.if-nodes-n.true

pub returns-then-distances-n : goal.returns-then-distances-n
returns-then-distances-n c = wrong_distances _ _ _ _ c.args.jobs c.if-nodes-n.false c.if-distances-n.true

pub returns : goal.returns
returns c = wrong_jobs _ _ _ _ c.args.jobs c.if-nodes-n.false c.if-distances-n.false
