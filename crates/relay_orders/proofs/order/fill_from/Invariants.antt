-- `relay_orders::order::fill_from` meets its contract: the first `i` places are filled. Assumes nothing.
use Rattle.std.proofs.Common.{ℕ, ◌-◌, length}
use Rattle.relay_orders.specs.Order.{drawn, Gives}
use Rattle.relay_orders.proofs.Laws.{Filling}
use Rattle.relay_orders.proofs.order.fill_from.Given as goal

abbrev pub invariant-loop-i : goal.invariant-loop-i
invariant-loop-i g l =
    (made : ℕ → _) → Gives (goal.F-post g l.of) made
    → Filling (drawn made (length l.initial.xs) l.initial.x) l.initial.xs l.xs l.i (drawn made (length l.initial.xs - l.i) l.x)
