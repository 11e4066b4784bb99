-- `relay_orders::run::moved` meets its contract: what is left of the order leads to what the whole leads to. Assumes nothing.
use Rattle.std.proofs.Common.{◌≡◌, drop}
use Rattle.relay_orders.specs.Run.{ran, moved_by}
use Rattle.relay_orders.proofs.run.moved.Given as goal

abbrev pub invariant-loop-job : goal.invariant-loop-job
invariant-loop-job l =
    moved_by l.n l.k (drop l.job-index l.order) (ran l.words l.floats l.count)
    ≡ moved_by l.n l.k l.order (ran l.initial.words l.initial.floats l.initial.count)
