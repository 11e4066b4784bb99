-- `formed::entries_formed` meets its contract: the chain tests the pairs of the two slices. Assumes nothing.
use mathlib.Core.Path.{◌∙◌}
use Prim.Native.Nat.{ℕ}
use lib.ListN.{take}
use lib.Ieee.{Float}
use Rattle.std.proofs.Common.{rules, tests}
use Rattle.std.proofs.lemmas.Iterator.{YieldsList-from_slice, YieldsList-from_zip}
use Rattle.std.proofs.lemmas.Iterator.Search.{all_from_yields_List}
use Rattle.rules.specs.Lists.{neighbor}
use Rattle.rules.specs.Offers.{entry_formed}
use Rattle.formed.proofs.Laws.{entries_all}
use Rattle.formed.proofs.entries_formed.Goals as goal

pub returns : goal.returns
returns c =
    all_from_yields_List (λ (p : ℕ × Float). entry_formed c.args.n (neighbor p.0 p.1)) c.all.new.self _ c.all.result c.all.ensures.ran
    (YieldsList-from_zip (YieldsList-from_slice (take c.args.len c.args.nodes.now) cc) (YieldsList-from_slice (take c.args.len c.args.dists.now) cc)) (λ x b q k. search (rules, tests))
    ∙ entries_all _ _ _ _
