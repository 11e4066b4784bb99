-- `refusals_descent::given::fill_run` meets its contract: what is left to fill leads to what the whole leads to. Assumes nothing.
use Rattle.std.proofs.Common.{◌≡◌, ◌+◌, ◌-◌}
use Rattle.refusals_descent.specs.Given.{filled}
use Rattle.refusals_descent.proofs.given.fill_run.Given as goal

abbrev pub invariant-loop-at : goal.invariant-loop-at
invariant-loop-at l =
    filled l.at (l.fn.from + l.fn.count - l.at) l.word l.words ≡ filled l.fn.from l.fn.count l.word l.initial.words
