-- `descent_state::members_below` meets its contract. Assumes nothing.
use mathlib.Core.Path.{sym, ◌∙◌}
use Prim.Native.Nat.{ℕ}
use lib.Dec.{ltb}
use Rattle.std.proofs.lemmas.Iterator.{YieldsList-from_slice}
use Rattle.std.proofs.lemmas.Iterator.Search.{all_from_yields_List}
use Rattle.descent_state.proofs.Members.{formed-all}
use borrow.Author.Rules.{rules}
use Rattle.descent_state.proofs.members_below.Goals as goal

pub returns : goal.returns
returns c =
    all_from_yields_List (λ (v : ℕ). ltb v c.args.n) _ _ _ c.all.ensures.ran (YieldsList-from_slice c.args.members.now cc) (λ x b q k. search rules)
    ∙ sym (formed-all c.args.n c.args.members.now)
