-- The line is written behind the call: the slices are as the call left them, whether it could be written or not.
use Rattle.refusals_descent.proofs.Calls.{called_made}
use Rattle.refusals_descent.proofs.call.called.Goals as goal

pub returns : goal.returns
returns g c =
    called_made _ _ _ _ _ _ _ _ _ _ _ _ _ _ c.fill_scratch.ensures.words_after c.fill_scratch.ensures.floats_after c.asked-answer.ensures
