-- `search::wrong_buffers` meets its contract. Assumes nothing.
use Prim.Native.Nat.{◌*◌, ◌≤◌}
use native.Mathlib.Nat.{mul-le-mul}
use native.Mathlib.Omega.{arith}
use Rattle.search.proofs.Table.{wrong_graph, wrong_results, wrong_bits, wrong_words, wrong_floats}
use Rattle.search.proofs.wrong_buffers.Goals as goal

pub overflow_mul-n : goal.overflow_mul-n
overflow_mul-n c = let p : c.args.n * c.args.index_size ≤ 4096 * 64 = mul-le-mul c.requires.0 c.requires.1 in omega arith

pub returns-then-graph-n : goal.returns-then-graph-n
returns-then-graph-n c =
    let a = c.args in
    wrong_graph a.n a.graph a.index_size a.k a.results a.bits a.words a.floats c.if-graph-n.true

pub returns-then-results-k : goal.returns-then-results-k
returns-then-results-k c = wrong_results _ _ _ _ _ _ _ _ c.if-graph-n.false c.if-results-k.true

pub returns-then-bits-k : goal.returns-then-bits-k
returns-then-bits-k c = wrong_bits _ _ _ _ _ _ _ _ c.if-graph-n.false c.if-results-k.false c.if-bits-k.true

pub returns-then-words-least : goal.returns-then-words-least
returns-then-words-least c = wrong_words _ _ _ _ _ _ _ _ c.if-graph-n.false c.if-results-k.false c.if-bits-k.false c.if-words-least.true

pub returns : goal.returns
returns c = wrong_floats _ _ _ _ _ _ _ _ c.if-graph-n.false c.if-results-k.false c.if-bits-k.false c.if-words-least.false
