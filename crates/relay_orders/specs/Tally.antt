-- How the orders of the sets came out. Assumes nothing.
use Rattle.std.specs.Prelude.{ℕ, cond, replicate, nat_eq}
use Rattle.rules.specs.Rows.{empty_distance}
use Rattle.states.specs.Same.{alike, same_bits}
use Rattle.relay_orders.specs.Run.{sum}
use Rattle.relay_orders.specs.declared.tally.Lists.{Lists}
use Rattle.relay_orders.specs.declared.tally.Outcome.{Outcome}
use Rattle.relay_orders.specs.declared.tally.Tally.{Tally}

-- Unfilled entries hold n and the distance of none
unfoldable pub unfilled_lists : ℕ → Lists
unfilled_lists n = record { nodes = replicate 24 n; dists = replicate 24 empty_distance }

abbrev pub no_order : Tally
no_order = record { sets = 0; orders = 0; differ = 0; refused = 0 }

-- 1 where the lists differ, and 0 where they are the same
unfoldable pub apart_by : Lists → Lists → ℕ
apart_by a b = cond (alike nat_eq a.nodes b.nodes) (cond (alike same_bits a.dists b.dists) 0 1) 1

unfoldable pub with_set : Tally → Tally
with_set t = record { sets = sum t.sets 1; orders = t.orders; differ = t.differ; refused = t.refused }

unfoldable pub with_order : Tally → Lists → Outcome → Tally
with_order t first e =
    record {
      sets = t.sets;
      orders = sum t.orders 1;
      differ = sum t.differ (apart_by first e.lists);
      refused = sum t.refused e.refused;
    }
