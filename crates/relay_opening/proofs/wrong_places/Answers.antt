-- `relay_opening::wrong_places` meets its contract. Assumes nothing.
use native.Mathlib.Omega.{arith}
use Rattle.relay_opening.proofs.Table.{sizes-most, wrong_words, wrong_floats, wrong_scratch, wrong_last}
use Rattle.relay_opening.proofs.wrong_places.Goals as goal

pub overflow_mul-n : goal.overflow_mul-n
overflow_mul-n c = let p = sizes-most _ _ c.requires.0 c.requires.1 in omega arith

pub overflow_add-n : goal.overflow_add-n
overflow_add-n c = let p = sizes-most _ _ c.requires.0 c.requires.1 in omega arith

pub returns-then-words-n : goal.returns-then-words-n
returns-then-words-n c = wrong_words _ _ _ _ _ _ c.if-words-n.true

pub returns-then-floats-n : goal.returns-then-floats-n
returns-then-floats-n c = wrong_floats _ _ _ _ _ _ c.if-words-n.false c.if-floats-n.true

pub returns-then-su-least : goal.returns-then-su-least
returns-then-su-least c = wrong_scratch _ _ _ _ _ _ c.if-words-n.false c.if-floats-n.false c.if-su-least.true

pub returns : goal.returns
returns c = wrong_last _ _ _ _ _ _ c.if-words-n.false c.if-floats-n.false c.if-su-least.false
