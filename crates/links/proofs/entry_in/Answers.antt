-- `links::entry_in` meets its contract. Assumes nothing.
use mathlib.Core.Path.{sym, ◌∙◌}
use Prim.Native.Nat.{◌*◌}
use lib.Ieee.{nan}
use Rattle.rules.specs.Rows.{empty_slot}
use Rattle.lists.proofs.Slices.{get_d_entries}
use Rattle.links.proofs.entry_in.Goals as goal

pub returns : goal.returns
returns c =
    c.entry_at.ensures ∙ sym (get_d_entries (c.args.n * c.args.index_size) c.args.slot.0 c.args.nodes.now c.args.dists.now 0 nan (empty_slot 0) c.requires.0 c.requires.1 c.requires.2)
