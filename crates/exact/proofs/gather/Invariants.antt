-- `exact::gather` meets its contract. The loop's invariant: the least of the nodes below `i` are held, and the bound is the farthest of them. Assumes nothing.
use mathlib.Core.Path.{◌≡◌}
use Rattle.exact.specs.Exact.{apart_in, farthest, Gathered}
use Rattle.exact.proofs.gather.Given as goal

abbrev pub invariant-loop-i : goal.invariant-loop-i
invariant-loop-i l = Gathered (apart_in l.step l.at l.row) l.i l.init_k l.q.0 l.initial.nodes l.initial.dists l.nodes l.dists l.len × (l.bound ≡ farthest l.dists l.len l.init_k)
