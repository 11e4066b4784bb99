-- What the search leaves of `links::link_node`.
use Rattle.rules.specs.Distance.{between}
use Rattle.links.proofs.Slots.{turning_none, turning_turn, links_of_lem}
use borrow.Author.Rules.{rules}
use Rattle.links.proofs.link_node.Goals as goal

pub loop-i-init : goal.loop-i-init
loop-i-init c = turning_none c.requires.within.1

pub loop-i-preserved : goal.loop-i-preserved
loop-i-preserved c = turning_turn c.loop-i.invariant (search rules) c.link.ensures (search rules) (search rules) (search rules) (search rules)

pub returns : goal.returns
returns c =
    links_of_lem (between c.args.counters.lanes.now c.args.counters.dimension) c.args.threshold c.args.v.0 c.loop-i.invariant (search rules)
