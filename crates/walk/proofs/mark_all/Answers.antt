-- `walk::mark_all` meets its contract. Assumes nothing.
use mathlib.Core.Path.{sym}
use native.Mathlib.Omega.{arith}
use lib.Seq.{length-take-le}
use Rattle.walk.proofs.Walking.{front_long, cleared_long, marked}
use Rattle.walk.proofs.mark_all.Goals as goal

pub slice_bounds-zero_words-end-2 : goal.slice_bounds-zero_words-end-2
slice_bounds-zero_words-end-2 c = sym (length-take-le _ _ (omega arith))

pub slice_bounds-mark_roots-end-2 : goal.slice_bounds-mark_roots-end-2
slice_bounds-mark_roots-end-2 c =
    sym (front_long c.args.n c.zero_words.new.words c.args.words.now (cleared_long c.args.n _ c.args.words.now (omega arith) c.zero_words.ensures))

pub mark_roots-requires : goal.mark_roots-requires
mark_roots-requires c =
    λ i h.
    let below = c.requires.roots.below i h in
    let long = front_long c.args.n c.zero_words.new.words c.args.words.now (cleared_long c.args.n _ c.args.words.now (omega arith) c.zero_words.ensures) in
    omega arith

pub shape_of-words : goal.shape_of-words
shape_of-words c =
    (marked c.args.n _ c.args.words.now _ _ (omega arith) c.zero_words.ensures c.mark_roots.ensures).words

pub returns : goal.returns
returns c =
    marked c.args.n _ c.args.words.now _ _ (omega arith) c.zero_words.ensures c.mark_roots.ensures
