-- `zeros::floats_zero` meets its contract: the floats pass the test that their bits do. Assumes nothing.
use mathlib.Core.Path.{sym, ◌∙◌}
use lib.Dec.{eqb}
use lib.Ieee.{Float, binary32, to_bits}
use lib.ListN.{drop}
use Rattle.std.proofs.Common.{rules, tests}
use Rattle.std.proofs.lemmas.List.Folds.{list_all-map}
use Rattle.std.proofs.lemmas.Iterator.{YieldsList-from_slice}
use Rattle.std.proofs.lemmas.Iterator.Search.{all_from_yields_List}
use Rattle.zeros.specs.Zeros.{zeros}
use Rattle.zeros.proofs.Laws.{from_within}
use Rattle.zeros.proofs.floats_zero.Goals as goal

pub returns : goal.returns
unfolding zeros
returns c =
    all_from_yields_List (λ (x : Float). eqb (to_bits binary32 x) 0) _ _ _ c.all.ensures.ran
    (YieldsList-from_slice (drop c.args.from c.args.floats.now) (c.iter.ensures.rest ∙ from_within c.args.floats.now c.args.from c.min.result c.min.ensures)) (λ x b q k. search (rules, tests))
    ∙ sym (list_all-map (λ x. eqb x 0) (to_bits binary32) (drop c.args.from c.args.floats.now))
