-- `buffers::copy_bits` meets its contract: the first `i` places are copied. Assumes nothing.
use mathlib.Core.List.{map}
use Prim.Native.Nat.{◌≤◌}
use lib.Ieee.{binary32, to_bits}
use Rattle.buffers.proofs.Laws.{Written}
use Rattle.buffers.proofs.copy_bits.Given as goal

abbrev pub invariant-loop-j : goal.invariant-loop-j
invariant-loop-j l = (l.j ≤ l.m) × Written (map (to_bits binary32) l.floats) l.initial.bits l.bits l.j
