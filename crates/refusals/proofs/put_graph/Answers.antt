-- What the search leaves of `refusals::put_graph`.
use Rattle.std.proofs.Common.{rules}
use Rattle.pages.proofs.Laws.{puts_both, running_start, running_turn, running_rest, running_end}
use Rattle.refusals.proofs.Laws.{places_here, places_over}
use Rattle.refusals.proofs.put_graph.Goals as goal

pub loop-i-init : goal.loop-i-init
loop-i-init c = running_start c.put-place.ensures

pub loop-i-preserved : goal.loop-i-preserved
loop-i-preserved c = rw c.next_column-column.ensures (running_turn (running_rest (rw c.before_place.ensures (places_here _ _ _ _ (search rules))) c.loop-i.invariant) c.put_word-place.ensures)

pub returns : goal.returns
returns c = puts_both c.put-place.ensures (running_end (running_rest (places_over _ _ _ _ (search rules)) c.loop-i.invariant))
