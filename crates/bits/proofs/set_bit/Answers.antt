-- `bits::set_bit` meets its contract. Assumes nothing.
use mathlib.Core.Path.{ap}
use Prim.Native.Nat.{ℕ, ◌/◌}
use lib.Bits.{bit_or}
use lib.ListN.{get_or, set}
use Rattle.bits.specs.Bits.{set_bit, with_bit}
use Rattle.bits.proofs.Laws.{shifted_one}
use Rattle.bits.proofs.set_bit.Goals as goal

pub returns : goal.returns
unfolding set_bit with_bit
returns c =
    let us = c.args.words.now in
    let i = c.args.i in
    let w = get_or us (i / 32) 0 in
    ap (λ (b : ℕ). set us (i / 32) (bit_or w b)) (shifted_one i)
