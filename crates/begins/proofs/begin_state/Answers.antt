-- `begins::begin_state` meets its contract: the lists, the contexts, the bits. Assumes nothing.
use mathlib.Core.Path.{◌≡◌, refl, ◌∙◌}
use Prim.Native.Nat.{◌+◌, ◌-◌, ◌*◌}
use native.Mathlib.Omega.{arith}
use borrow.Rule.Slice.PartMut.{mid_of}
use lib.ListN.{length, length-take}
use Rattle.begins.proofs.Whole.{nodes_are, distances_are, begun-is}
use Rattle.begins.proofs.begin_state.Goals as goal

pub returns : goal.returns
returns c =
    let p = c.requires in
    let n = c.args.n in
    let k = c.args.k in
    let filled = c.fill_row in
    let a : n * k - 0 ≡ n * k = omega arith in
    let b : n * k + 260 * n - n * k ≡ 260 * n = omega arith in
    let long = p.words_len.0 in
    let l : length (mid_of 0 (n * k - 0) c.args.words.now) ≡ n * k = simp length-take (omega arith) in
    let drawn = c.begin_contexts in
    begun-is _ _ _ _ c.args.words.now p.words_len.0 a b refl (nodes_are _ _ _ _ _ _ filled.ensures (filled.auto.nodes ∙ l) (filled.auto.dists ∙ p.words_len.1)) (distances_are _ _ _ _ _ _ filled.ensures (filled.auto.nodes ∙ l) (filled.auto.dists ∙ p.words_len.1)) drawn.ensures drawn.auto.words (c.fill.ensures.after (λ y e. e))
