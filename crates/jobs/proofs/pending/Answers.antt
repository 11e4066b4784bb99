-- `jobs::pending` meets its contract: both halves. Assumes nothing.
use mathlib.Core.Path.{◌≡◌}
use native.Mathlib.Omega.{arith}
use Rattle.rules.specs.Relay.{bit}
use Rattle.jobs.proofs.Laws.{pending_both}
use Rattle.jobs.proofs.pending.Goals as goal

pub returns : goal.returns
returns c =
    let first : c.from.result ≡ bit c.pends-first.result = grind arith in
    let later : c.from-2.result ≡ bit c.pends-later.result = grind arith in
    rw (first, later) (pending_both _ _ _ c.saturating_sub.ensures c.pends-first.ensures c.pends-later.ensures)
