-- `cases::float` meets its contract: the bits read are no NaN's. Assumes nothing.
use Rattle.std.proofs.Common.{Bool, not, T, sym, ◌∙◌, subst, le-ltb}
use lib.Ieee.{binary32}
use lib.Ieee.Bits.{nan_bits_above}
use Rattle.cases.proofs.float.Goals as goal

pub float_from_bits-result : goal.float_from_bits-result
float_from_bits-result c = subst (λ (b : Bool). T (not b)) (sym (nan_bits_above binary32 _ ∙ le-ltb _ _ c.if-bits-gt2139095040.false)) tt
