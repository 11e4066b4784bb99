-- `refusals::put_graph` meets its contract: what was put and what is left are the whole. Assumes nothing.
use Rattle.std.proofs.Common.{drop}
use Rattle.pages.proofs.Laws.{Running}
use Rattle.refusals.specs.Texts.{graph_text, places_text}
use Rattle.refusals.proofs.put_graph.Given as goal

abbrev pub invariant-loop-i : goal.invariant-loop-i
invariant-loop-i l = Running l.initial.place (graph_text l.index_size l.graph) l.initial.page (places_text l.index_size l.i l.column (drop l.i l.graph)) l.page l.place
