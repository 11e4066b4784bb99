-- What the search leaves of `links::link_all`.
use Rattle.rules.specs.Distance.{between}
use Rattle.links.proofs.Slots.{turning_none, turning_turn, links_all_lem}
use borrow.Author.Rules.{rules}
use Rattle.links.proofs.link_all.Goals as goal

pub loop-v-init : goal.loop-v-init
loop-v-init c = turning_none c.requires.within

pub loop-v-preserved : goal.loop-v-preserved
loop-v-preserved c = turning_turn c.loop-v.invariant (search rules) c.link_node.ensures (search rules) (search rules) (search rules) (search rules)

pub returns : goal.returns
returns c =
    links_all_lem (between c.args.counters.lanes.now c.args.counters.dimension) c.args.threshold c.loop-v.invariant (search rules)
