-- What a list can hold. Assumes nothing.
use Rattle.std.specs.Prelude.{◌≤◌, T, Float}
use Rattle.std.specs.Float.{binary32}
use Rattle.std.specs.Float.Ieee.{fits, to_bits}

-- a distance that a list can hold: a binary32 value whose bits are at most those of the mark of an empty slot
pub record Holdable (x : Float) : Type 0 where
  pub held : T (fits binary32 x)
  pub low : to_bits binary32 x ≤ 0x7F7FFFFF
