-- What the search leaves of `buffers::copy_bits`.
use native.Mathlib.Omega.{arith}
use lib.ListN.{length-map, get_or-map}
use lib.Ieee.{nan, binary32, to_bits}
use Rattle.buffers.proofs.Laws.{written_none, written-more}
use borrow.Author.Rules.{rules}
use Rattle.buffers.proofs.copy_bits.Goals as goal

pub loop-j-init : goal.loop-j-init
loop-j-init c = (search rules, written_none _ _)

pub loop-j-preserved : goal.loop-j-preserved
loop-j-preserved c =
    let inv = c.loop-j.invariant.1 in
    let long = length-map c.args.floats.now (to_bits binary32) in
    (search rules, written-more _ (to_bits binary32 nan) inv (omega arith) (omega arith) (get_or-map (to_bits binary32) c.args.floats.now c.loop-j.j nan))
