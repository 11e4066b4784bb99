-- What a search that answers Found leaves in the results, whatever it was lent. Assumes nothing.
use mathlib.Core.Path.{◌≡◌, refl, sym, ap, ◌∙◌, subst}
use mathlib.Core.Bool.{Bool, true, false, cond}
use mathlib.Core.List.{List, [], ◌∷◌}
use Prim.Native.Nat.{ℕ, ◌≤◌, min}
use native.Mathlib.Omega.{arith}
use lib.ListN.{length, take, drop, length-map}
use lib.Seq.{take_all, take_at, drop_at}
use lib.Ieee.{Float, binary32, to_bits}
use Rattle.std.specs.Prelude.{Ok, Err}
use Rattle.rules.specs.declared.Neighbor.{Neighbor}
use Rattle.rules.specs.Loops.{over}
use Rattle.rules.specs.Lists.{node_of, nodes_of, bits_of}
use Rattle.rules.specs.Rows.{graph_row}
use Rattle.rules.specs.Refusals.{Row, Code, Decision, passed, refused, decide, row1, row2, row3, row4, row6, row7, row8}
use Rattle.rules.specs.Calls.{search_rows}
use Rattle.rules.specs.Search.{Walk, Going, on, unfit_at, search_of}
use Rattle.rules.specs.SearchCall.{SearchLent, SearchSaid, SearchOutcome, search_said, search_table, search_zeroed, search_ends, search_work, search_obeys, search_rule, search_left}
use Rattle.lists.specs.All.{All}
use Rattle.search.specs.Search.{Ready, Searched}
use Rattle.search.proofs.Table.{ready}
use Rattle.facts.specs.WalksCall.{to_query, FoundAnswer}
use Rattle.facts.proofs.Walks.{query-answers-fit, walked_graph}

-- ---- a refusal has a number

numbered : (rs : List Row) → All (λ (r : Row). 1 ≤ r.gives.number) rs → (c : Code) → decide rs ≡ refused c → 1 ≤ c.number
unfolding decide
numbered [] A c e = let z : ◌≡◌ {A = ℕ} 0 1 = cc in absurd (omega arith)
numbered (r ∷ rs) A c e = go r.test (numbered rs A.1 c) e
  where
    go : (b : Bool) → (decide rs ≡ refused c → 1 ≤ c.number) → cond b (refused r.gives) (decide rs) ≡ refused c → 1 ≤ c.number
    go true more e = let same : r.gives ≡ c = cc in subst (λ (d : Code). 1 ≤ d.number) same A.0
    go false more e = more e

table_numbered : (l : SearchLent) → All (λ (r : Row). 1 ≤ r.gives.number) (search_table l)
unfolding search_table search_rows row1 row2 row3 row4 row6 row7 row8
table_numbered l = (omega arith, (omega arith, (omega arith, (omega arith, (omega arith, (omega arith, (omega arith, tt)))))))

-- ---- the first m of a list, over another

module _ (m : ℕ) (src dst : List ℕ) (long : length src ≡ m) where
  over_first : take m (over m src dst) ≡ src
  unfolding over
  over_first = take_at (take m src) (drop m dst) m (ap length whole ∙ long) ∙ whole
    where
      whole : take m src ≡ src
      whole = take_all m src (omega arith)

  over-rest : drop m (over m src dst) ≡ drop m dst
  unfolding over
  over-rest = drop_at (take m src) (drop m dst) m (ap length (take_all m src (omega arith)) ∙ long)

-- ---- the whole call

module _ (l : SearchLent) where
  abbrev walking : Going Walk
  walking = search_of (to_query l) (graph_row l.n l.index_size l.graph) l.n l.k l.roots

  found-on : (s : Walk) → Ready l → walking ≡ on s → FoundAnswer l (min l.k (length l.roots)) s.takings (search_ends l (on s))
  unfolding search_ends search_zeroed nodes_of bits_of
  found-on s R e =
      let m = min l.k (length l.roots) in
      let W = walked_graph (to_query l) l.n (query-answers-fit l.lanes l.dimension l.query) l.index_size l.graph l.k l.roots R.some R.roots s e in
      let some = R.some in
      let root = R.roots.some in
      let nodes_long : length (nodes_of s.best) ≡ m = length-map s.best node_of ∙ W.answer.long in
      let bits_long : length (bits_of s.best) ≡ m = length-map s.best (λ (e : Neighbor). to_bits binary32 e.distance) ∙ W.answer.long in
      record {
        count = refl;
        some = omega arith;
        few = W.takings;
        best = s.best;
        set = W.answer;
        nodes = over_first m (nodes_of s.best) l.result_nodes nodes_long;
        bits = over_first m (bits_of s.best) l.result_bits bits_long;
        nodes_rest = over-rest m (nodes_of s.best) l.result_nodes nodes_long;
        bits_rest = over-rest m (bits_of s.best) l.result_bits bits_long;
        roots = λ (i : ℕ) x h q near. W.nearest _ x (R.roots.below i h) (W.roots_seen i h) q near;
      }

  module _ (m takings : ℕ) where
    found-walk : (g : Going Walk) → Ready l → walking ≡ g → search_said (Ok (record { m = m; takings = takings })) ≡ (search_ends l g).said → FoundAnswer l m takings (search_ends l g)
    unfolding search_said search_ends search_zeroed
    found-walk (on s) R e h =
        subst (λ (i : ℕ). FoundAnswer l i takings (search_ends l (on s))) (sym (ap (λ (x : SearchSaid). x.m) h))
        (subst (λ (i : ℕ). FoundAnswer l (min l.k (length l.roots)) i (search_ends l (on s))) (sym (ap (λ (x : SearchSaid). x.takings) h)) (found-on s R e))
    found-walk (unfit_at v) R e h = let z : ◌≡◌ {A = ℕ} 0 10 = ap (λ (x : SearchSaid). x.code.number) h in absurd (omega arith)

    -- only a walk that ended answers Found
    pub found : search_said (Ok (record { m = m; takings = takings })) ≡ (search_rule l).said → FoundAnswer l m takings (search_rule l)
    unfolding search_rule search_obeys search_work search_said
    found h = go (decide (search_table l)) refl h
      where
        go : (d : Decision) → decide (search_table l) ≡ d → search_said (Ok (record { m = m; takings = takings })) ≡ (search_obeys l d).said → FoundAnswer l m takings (search_obeys l d)
        go passed e h = found-walk walking (ready l e) refl h
        go (refused c) e h =
            let some = numbered (search_table l) (table_numbered l) c e in
            let none : 0 ≡ c.number = ap (λ (x : SearchSaid). x.code.number) h in
            absurd (omega arith)

    -- the same of what the entry answers and leaves
    pub entry_found : (nodes bits su : List ℕ) (sf : List Float) → Searched l (Ok (record { m = m; takings = takings })) nodes bits su sf → FoundAnswer l m takings (search_left (Ok (record { m = m; takings = takings })) nodes bits su sf)
    entry_found nodes bits su sf S =
        subst (FoundAnswer l m takings) (sym S.whole) (found (ap (λ (o : SearchOutcome). o.said) S.whole))
