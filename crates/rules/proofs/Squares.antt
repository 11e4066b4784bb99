-- "Settled squares": A to I, computed from the lanes on. Assumes nothing.
use mathlib.Core.Path.{◌≡◌, refl, ap}
use mathlib.Core.Bool.{false}
use mathlib.Core.List.{List, [], ◌∷◌, map}
use Prim.Native.Nat.{ℕ}
use lib.ListN.{take, drop, replicate}
use lib.Ieee.{Float, of_bits, to_bits, add, sub, mul, div, lt, le, eq}
use Rattle.rules.specs.declared.Neighbor.{Neighbor}
use Rattle.rules.specs.Loops.{turns, through, each, first_from, any_of, has, part, put_part, over}
use Rattle.rules.specs.Numbers.{outside}
use Rattle.rules.specs.Distance.{lane, total_of, fit, answer, distance_of, unfit, carried, lanes_of, nodes_apart, query_apart, between, before}
use Rattle.rules.specs.Lists.{neighbor, insert, insert_all, sort, least, nodes_of, bits_of}
use Rattle.rules.specs.Refusals.{no_refusal, decide, row1, row2, row3, row4, row6, row7, row8, bad_root, first_bad_root}
use Rattle.rules.specs.Calls.{BuildSizes, search_rows}
use Rattle.rules.specs.Rows.{live_nodes, graph_row, is_empty, live, finished}
use Rattle.rules.specs.Build.{entry, others, exact_list, taking, hop, two_hops, candidates, cosine, occludes, keep, choose, row_of, pruned, pruned_slots, mark_next, rewritten, at_full, offered, link_back, link, linked_slots, graph_from, graph_of}
use Rattle.rules.specs.Search.{and_then, works_out, roots_found, mark, is_seen, started, visit, visits, farthest, joins, take_these, row_ended, expand, walk, search_of}
use Rattle.rules.specs.SearchCall.{SearchOutcome, search_table, search_zeroed, search_ends, search_work, search_obeys, search_rule}
use Rattle.rules.specs.Descent.{list_at}
use Rattle.rules.proofs.Cosines.{under_nan}
use Rattle.rules.proofs.SquareI.{f0, f1, f2, f7, f9, f49, half, lanes, d, lists_i, ends}

-- "`init_k` 2; `index_size` 2; `neighbor_neighbor_size` 10; threshold 0.5", and with another `index_size`
abbrev sized : ℕ → BuildSizes
sized index_size = record { init_k = 2; index_size = index_size; neighbor_neighbor_size = 10; threshold = half }

abbrev graph_c : List ℕ
graph_c = 1 ∷ 2 ∷ 0 ∷ 2 ∷ 1 ∷ 2 ∷ 2 ∷ 4 ∷ []

-- a search on C's graph, with two places for results that hold 9
abbrev asked : List ℕ → ℕ → Float → SearchOutcome
asked roots k query =
    search_rule
    (record {
      dimension = 1;
      n = 4;
      lanes = lanes;
      graph = graph_c;
      index_size = 2;
      roots = roots;
      query = query ∷ [];
      k = k;
      result_nodes = 9 ∷ 9 ∷ [];
      result_bits = 9 ∷ 9 ∷ [];
      scratch_u = replicate 1040 0;
      scratch_f = replicate 1040 f0;
    })

-- m, the takings, the result slices
abbrev gives : SearchOutcome → ℕ → ℕ → List ℕ → List ℕ → Type 0
gives o m takings nodes bits =
    (o.said ≡ record { code = no_refusal; m = m; takings = takings }) × (o.result_nodes ≡ nodes) × (o.result_bits ≡ bits)

abbrev b0 : ℕ
b0 = 0

abbrev b1 : ℕ
b1 = 0x3F800000

abbrev b16 : ℕ
b16 = 0x41800000

pub record Settled : Type 0 where
  -- "A: exact lists 2,1 / 2,0 / 0,1 / 1,2."
  pub a : map (exact_list d 4 2) (0 ∷ 1 ∷ 2 ∷ 3 ∷ []) ≡ (2 ∷ 1 ∷ []) ∷ (2 ∷ 0 ∷ []) ∷ (0 ∷ 1 ∷ []) ∷ (1 ∷ 2 ∷ []) ∷ []
  -- "B: after step 4: 1,4 / 0,2 / 1,4 / 2,4."
  pub b : nodes_of (pruned_slots d 4 (sized 2)) ≡ 1 ∷ 4 ∷ 0 ∷ 2 ∷ 1 ∷ 4 ∷ 2 ∷ 4 ∷ []
  -- "C: graph 1,2 / 0,2 / 1,2 / 2,4. With `index_size` 3: 1,4,4 / 0,2,4 / 1,4,4 / 2,4,4."
  pub c : graph_of d 4 (sized 2) ≡ graph_c
  pub c3 : graph_of d 4 (sized 3) ≡ 1 ∷ 4 ∷ 4 ∷ 0 ∷ 2 ∷ 4 ∷ 1 ∷ 4 ∷ 4 ∷ 2 ∷ 4 ∷ 4 ∷ []
  -- "D: on C, root 0, query 7, k 2: node 2 at 16, m 1, 2 expanded."
  pub d : gives (asked (0 ∷ []) 2 f7) 1 2 (2 ∷ 9 ∷ []) (b16 ∷ 9 ∷ [])
  -- "E: roots 0,3, k 2, query 7: 3 at 0, 2 at 16; 3 expanded."
  pub e : gives (asked (0 ∷ 3 ∷ []) 2 f7) 2 3 (3 ∷ 2 ∷ []) (b0 ∷ b16 ∷ [])
  -- "F: roots 0,3, k 1, query 7: 3 at 0; 1 expanded."
  pub f : gives (asked (0 ∷ 3 ∷ []) 1 f7) 1 1 (3 ∷ 9 ∷ []) (b0 ∷ 9 ∷ [])
  -- "G: root 1, k 1, query 2: node 2 at 1 replaces node 1 at 1; 2 expanded."
  pub g : gives (asked (1 ∷ []) 1 f2) 1 2 (2 ∷ 9 ∷ []) (b1 ∷ 9 ∷ [])
  -- "H: two equal points, dp = dr = djk = 0: no occlusion.", at any threshold
  pub h : (threshold : Float) → occludes (between (f0 ∷ f0 ∷ f0 ∷ []) 1) threshold false (entry (between (f0 ∷ f0 ∷ f0 ∷ []) 1) 0 1) (entry (between (f0 ∷ f0 ∷ f0 ∷ []) 1) 0 2) ≡ false
  -- "I: .. list 0 is 1 at 1, 2 at 9; lists 1, 2, 3 begin with 0 at 1, 9, 49."
  pub i : list_at lists_i 0 ≡ neighbor 1 f1 ∷ neighbor 2 f9 ∷ []
  pub i_begin : map (take 1) (drop 1 lists_i) ≡ (neighbor 0 f1 ∷ []) ∷ (neighbor 0 f9 ∷ []) ∷ (neighbor 0 f49 ∷ []) ∷ []

pub settled : Settled
unfolding turns through each first_from any_of has part put_part over outside lane total_of fit answer distance_of unfit carried lanes_of nodes_apart query_apart between before insert insert_all sort least nodes_of bits_of decide row1 row2 row3 row4 row6 row7 row8 bad_root first_bad_root search_rows live_nodes graph_row is_empty live finished others exact_list taking hop two_hops candidates cosine occludes keep choose row_of pruned pruned_slots mark_next rewritten at_full offered link_back link linked_slots graph_from graph_of and_then works_out roots_found mark is_seen started visit visits farthest joins take_these row_ended expand walk search_of search_table search_zeroed search_ends search_work search_obeys search_rule of_bits to_bits add sub mul div lt le eq
settled =
    record {
      a = refl;
      b = refl;
      c = refl;
      c3 = refl;
      d = (refl, refl, refl);
      e = (refl, refl, refl);
      f = (refl, refl, refl);
      g = (refl, refl, refl);
      h = λ (threshold : Float). under_nan threshold;
      i = ap (λ (ls : List (List Neighbor)). list_at ls 0) ends;
      i_begin = ap (λ (ls : List (List Neighbor)). map (take 1) (drop 1 ls)) ends;
    }
