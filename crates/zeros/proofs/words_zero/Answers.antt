-- `zeros::words_zero` meets its contract: what is read stands from `from` on. Assumes nothing.
use mathlib.Core.Path.{◌∙◌}
use Prim.Native.Nat.{ℕ}
use lib.Dec.{eqb}
use lib.ListN.{drop}
use Rattle.std.proofs.Common.{rules, tests}
use Rattle.std.proofs.lemmas.Iterator.{YieldsList-from_slice}
use Rattle.std.proofs.lemmas.Iterator.Search.{all_from_yields_List}
use Rattle.zeros.specs.Zeros.{zeros}
use Rattle.zeros.proofs.Laws.{from_within}
use Rattle.zeros.proofs.words_zero.Goals as goal

pub returns : goal.returns
unfolding zeros
returns c =
    all_from_yields_List (λ (x : ℕ). eqb x 0) _ _ _ c.all.ensures.ran
    (YieldsList-from_slice (drop c.args.from c.args.words.now) (c.iter.ensures.rest ∙ from_within c.args.words.now c.args.from c.min.result c.min.ensures)) (λ x b q k. search (rules, tests))
