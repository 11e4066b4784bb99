-- `passes::early_passes` meets its contract: one pass after another. Assumes nothing.
use mathlib.Core.Bool.{true, false}
use native.Mathlib.Omega.{arith}
use Rattle.passes.specs.Passes.{early_pairs}
use Rattle.passes.proofs.Laws.{own_is, rising-is, does_then, does_pairs, does_append, game-kept, within-behind}
use Rattle.passes.proofs.early_passes.Goals as goal

pub pass-a-requires : goal.pass-a-requires
pass-a-requires c = let p = c.requires in let low = p.4 in (p.0, p.1, p.1, within-behind false _, omega arith)

pub pass-requires : goal.pass-requires
pass-requires c =
    let p = c.requires in
    let d = does_then c.pass-a.ensures c.cross-b.ensures in
    let most = d.most in
    let low = p.4 in
    (game-kept p.0 d.words_long d.floats_long, p.3, p.3, within-behind true _, omega arith)

pub returns : goal.returns
unfolding early_pairs
returns c =
    does_append _ _ _ (does_pairs _ (own_is _) c.pass-a.ensures) (does_append _ _ _ c.cross-b.ensures (does_pairs _ (rising-is _) c.pass.ensures))
