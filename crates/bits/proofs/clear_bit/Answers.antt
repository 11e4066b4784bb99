-- `bits::clear_bit` meets its contract. Assumes nothing.
use mathlib.Core.Path.{ap, ◌∙◌}
use Prim.Native.Nat.{ℕ, ◌-◌, ◌/◌, ◌%◌, ◌^◌}
use native.Mathlib.Nat.{mod-lt, zero-lt-suc}
use borrow.Author.Rules.{rules}
use lib.Bits.{bit_and}
use lib.ListN.{get_or, set}
use lib.Pow.{pow-lt}
use Rattle.bits.specs.Bits.{clear_bit, without_bit, with_bit}
use Rattle.bits.proofs.Laws.{shifted_one, and_not_is}
use Rattle.bits.proofs.clear_bit.Goals as goal

pub returns : goal.returns
unfolding clear_bit without_bit with_bit
returns c =
    let us = c.args.words.now in
    let i = c.args.i in
    let w = get_or us (i / 32) 0 in
    ap (λ (b : ℕ). set us (i / 32) (bit_and w (2 ^ 32 - 1 - b))) (shifted_one i)
    ∙ ap (set us (i / 32)) (and_not_is (2 ^ (i % 32)) w (pow-lt (mod-lt i (zero-lt-suc 31))) (search rules))
