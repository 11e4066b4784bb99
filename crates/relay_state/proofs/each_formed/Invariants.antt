-- `relay_state::each_formed` meets its contract: the jobs before the i-th are well formed. Assumes nothing.
use mathlib.Core.Path.{◌≡◌}
use mathlib.Core.Bool.{true}
use Rattle.zeros.specs.Zeros.{all_below}
use Rattle.relay_state.proofs.Parts.{job_ok}
use Rattle.relay_state.proofs.each_formed.Given as goal

abbrev pub invariant-loop-i : goal.invariant-loop-i
invariant-loop-i l = all_below (job_ok l.n l.jobs l.dists) l.i ≡ true
