-- What is hoped of the rows of a build: no row holds a node twice, from step 4 on to the finished graph. Assumes nothing.
use Rattle.std.specs.Prelude.{◌≡◌, true, List, ◌++◌, ℕ, ◌-◌, ◌*◌, ◌<◌, length, replicate}
use Rattle.rules.specs.declared.Neighbor.{Neighbor}
use Rattle.rules.specs.Loops.{turns, part}
use Rattle.rules.specs.Lists.{nodes_of}
use Rattle.rules.specs.Rows.{live, graph_row}
use Rattle.rules.specs.Refusals.{no_refusal}
use Rattle.rules.specs.Calls.{BuildSizes}
use Rattle.rules.specs.BuildCall.{BuildLent, build_rule}
use Rattle.rules.specs.Build.{Between, pruned_slots, link, linked_slots, graph_of}
use Rattle.lists.specs.All.{All}
use Rattle.offers.specs.Sound.{Sound}
use Rattle.facts.specs.Different.{different}

-- n rows of index-size slots, during a build. Step 5 reads "slot i + v", live or not, so that every slot counts for its nodes.
pub record SlotRows (n index_size : ℕ) (slots : List Neighbor) : Type 0 where
  pub long : length slots ≡ n * index_size
  pub sound : Sound n slots
  pub below : (q : ℕ) → q < n → All (λ (v : ℕ). v < n) (nodes_of (live (part index_size q slots)))
  pub once : (q : ℕ) → q < n → different (nodes_of (live (part index_size q slots))) ≡ true

-- n rows of a finished graph. "Each graph row is the live nodes, then n in every slot left": what is read of a row is all there is.
pub record GraphRows (n index_size : ℕ) (graph : List ℕ) : Type 0 where
  pub long : length graph ≡ n * index_size
  pub below : (q : ℕ) → q < n → All (λ (v : ℕ). v < n) (graph_row n index_size graph q)
  pub once : (q : ℕ) → q < n → different (graph_row n index_size graph q) ≡ true
  pub rest : (q : ℕ) → q < n → part index_size q graph ≡ graph_row n index_size graph q ++ replicate (index_size - length (graph_row n index_size graph q)) n

-- a build, whatever its distance and its sizes
pub record BuildRows (d : Between) (n : ℕ) (p : BuildSizes) : Type 0 where
  pub after_step_4 : SlotRows n p.index_size (pruned_slots d n p)
  -- one reverse link of any node, on any slots
  pub one_link : (v i : ℕ) (slots : List Neighbor) → v < n → SlotRows n p.index_size slots → SlotRows n p.index_size (link d p.threshold p.index_size v i slots)
  -- once the nodes below v, and v itself for its first i slots, have linked
  pub each_link : (v i : ℕ) → v < n → SlotRows n p.index_size (turns (link d p.threshold p.index_size v) i (linked_slots d v p (pruned_slots d n p)))
  pub after_step_5 : SlotRows n p.index_size (linked_slots d n p (pruned_slots d n p))
  pub finished : GraphRows n p.index_size (graph_of d n p)

-- a call of build that refuses nothing leaves such a graph
abbrev pub CallRows : BuildLent → Type 0
CallRows l = (build_rule l).said ≡ no_refusal → GraphRows l.n l.sizes.index_size (build_rule l).graph
