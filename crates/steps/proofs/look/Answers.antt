-- `steps::look` meets its contract: a look at the last. Assumes nothing.
use mathlib.Core.Path.{sym}
use lib.Ieee.{nan}
use Rattle.steps.proofs.Slices.{look_is}
use Rattle.steps.proofs.look.Goals as goal

pub returns : goal.returns
returns c =
    let pre = c.requires in
    sym (look_is _ _ _ pre.0 pre.1 pre.2 nan _)
