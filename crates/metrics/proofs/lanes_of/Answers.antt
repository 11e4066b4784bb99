-- `lanes_of` meets its contract.
use Rattle.metrics.proofs.Steps.{part_of}
use Rattle.metrics.proofs.lanes_of.Goals as goal

pub returns : goal.returns
returns c = part_of c.args.lanes.now c.args.dimension c.args.node.0 c.requires
