-- What the search leaves of `relay_close::write_lists`.
use mathlib.Core.Path.{◌≡◌, sym, ◌∙◌}
use Prim.Native.Nat.{◌+◌, ◌-◌, ◌*◌}
use native.Mathlib.Omega.{arith}
use Rattle.relay_close.proofs.Blocks.{blocks_none}
use Rattle.relay_close.proofs.Closing.{words_long, floats_long, nodes_turn, floats_turn}
use Rattle.relay_close.proofs.write_lists.Goals as goal

pub loop-w-init : goal.loop-w-init
loop-w-init c =
    let p = c.requires in
    (blocks_none _ _ _ (p.1 ∙ sym (words_long p.0)), blocks_none _ _ _ (p.2 ∙ sym (floats_long p.0)))

pub loop-w-preserved : goal.loop-w-preserved
loop-w-preserved c =
    let d = c.requires.0 in
    let inv = c.loop-w.invariant in
    let w = c.loop-w.w in
    let k = c.args.k in
    let test = c.loop-w-test.true in
    let e : w * (k + 64) + k - w * (k + 64) ≡ k = omega arith in
    let f : w * k + k - w * k ≡ k = omega arith in
    (nodes_turn d inv.0 test _ _ e f c.copy_all.ensures.after, floats_turn d inv.1 test _ _ e f c.copy_all-in-loop-w.ensures.after)
