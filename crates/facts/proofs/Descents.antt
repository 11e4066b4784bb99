-- What the lists of a descent hold, and what an iteration costs. Assumes nothing.
use mathlib.Core.Path.{◌≡◌, refl, sym, ap, ◌∙◌, subst}
use mathlib.Core.Logic.{inl, inr}
use mathlib.Core.Bool.{Bool, true, false, cond}
use mathlib.Core.List.{List, [], ◌∷◌}
use Prim.Native.Nat.{ℕ, suc, ◌+◌, ◌-◌, ◌≤◌, ◌<◌}
use native.Mathlib.Omega.{arith}
use lib.Dec.{eqb}
use lib.ListN.{length, set, replicate, length-set, length-replicate, get_or-replicate}
use lib.Seq.{get_or-set_same, get_or-set_other}
use lib.Ieee.{Float}
use borrow.Author.Tests.{eqb-true, eqb-false}
use Rattle.rules.specs.declared.Neighbor.{Neighbor}
use Rattle.rules.specs.Loops.{through}
use Rattle.rules.specs.Lists.{neighbor, insert}
use Rattle.rules.specs.Build.{Between}
use Rattle.rules.specs.Rows.{empty_slot}
use Rattle.rules.specs.Offers.{unfilled, look, push, measure, pop, offer}
use Rattle.rules.specs.Descent.{Context, Descent, list_at, Pair, begun, passes, offer_to, update, Met, meet, meet_all, renewed, iterated}
use Rattle.rules.specs.Numbers.{most, outside}
use Rattle.rules.specs.Refusals.{Decision, passed, refused, decide, row4}
use Rattle.rules.specs.Calls.{descent_rows, iterate_rows}
use Rattle.rules.specs.Distance.{between}
use Rattle.rules.specs.Places.{list_floats, lists_in}
use Rattle.rules.specs.DescentPlaces.{descent_state, descent_in}
use Rattle.rules.specs.DescentCall.{DescentLent, descent_kept, descent_written, begin_obeys, begin_rule, iterate_table, iterate_ends, iterate_obeys, iterate_rule}
use Rattle.rules.proofs.Tables.{within}
use Rattle.rules.proofs.Tables.{all_fail, none_hold}
use Rattle.neighbor.specs.Holdable.{Holdable}
use Rattle.neighbor.proofs.Bits.{holdable_fit}
use Rattle.lists.specs.All.{All}
use Rattle.lists.proofs.Laws.{insert-is_perm}
use Rattle.lists.proofs.Plain.{all_take, all_perm, all_of, all_weaker}
use Rattle.encoded.specs.Words.{Binary32}
use Rattle.descent_kept.specs.Formed.{Each, Below}
use Rattle.descent_kept.proofs.Lists.{through_keeps, Inside, passes-inside}
use Rattle.descent_kept.proofs.Kept.{begun-formed, iterated-formed}
use Rattle.descent_kept.proofs.Back.{descent-back}
use Rattle.descent_kept.proofs.Calls.{begin_sizes, read-formed, iterate_formed}
use Rattle.facts.proofs.Distances.{between-symmetric-fit}
use Rattle.facts.specs.Distances.{SymmetricFit}
use Rattle.facts.specs.Descents.{In, here, later, Paired, Legal, Added, pairs_passed, Iteration, Reached, first, again, Known, Standing, DescentFacts, lent_descent, IterateFacts, Game, lent, Called, began, iterates, CalledFacts}

-- ---- a fact of the entries of each list, that holds of what is offered

offer-all : (P : Neighbor → Type 0) (k : ℕ) (e : Neighbor) (l : List Neighbor) → P e → All P l → All P (offer k e l)
unfolding offer pop
offer-all P k e l p L = go (look e l) (measure k (push e l))
  where
    pushed : All P (insert e l)
    pushed = all_perm P (insert-is_perm e l) (p, L)

    go : (a b : Bool) → All P (cond a (cond b (pop (push e l)) (push e l)) l)
    go true true = all_take P (length (insert e l) - 1) (insert e l) pushed
    go true false = pushed
    go false b = L

module _ (n : ℕ) (P : ℕ → Neighbor → Type 0) where
  record Hold (ls : List (List Neighbor)) : Type 0 where
    nodes : length ls ≡ n
    each : (u : ℕ) → u < n → All (P u) (list_at ls u)

  hold_offer : (k u v : ℕ) (x : Float) (ls : List (List Neighbor)) → u < n → P u (neighbor v x) → Hold ls → Hold (offer_to k u v x ls)
  unfolding offer_to
  hold_offer k u v x ls un p H =
      record { nodes = length-set ls u l' ∙ H.nodes; each = λ (w : ℕ) (wn : w < n). at w wn (eqb u w) refl }
    where
      l' : List Neighbor
      l' = offer k (neighbor v x) (list_at ls u)

      at : (w : ℕ) → w < n → (b : Bool) → eqb u w ≡ b → All (P w) (list_at (set ls u l') w)
      at w wn true h =
          let sz = H.nodes in
          subst (λ (z : ℕ). All (P z) (list_at (set ls u l') z)) (eqb-true u w h)
          (subst (All (P u)) (sym (get_or-set_same ls u l' [] (omega arith))) (offer-all (P u) k (neighbor v x) (list_at ls u) p (H.each u un)))
      at w wn false h = subst (All (P w)) (sym (get_or-set_other ls u w l' [] (λ (z : w ≡ u). eqb-false u w h (sym z)))) (H.each w wn)

  module _ (d : Between) (k : ℕ) (S : SymmetricFit d) (brings : (u : ℕ) (e : Neighbor) → Paired d n u e → P u e) where
    hold_update : (p : Pair) (ls : List (List Neighbor)) → Inside n p → Hold ls → Hold (update d k p ls)
    unfolding update
    hold_update p ls I H = go (eqb p.u p.v) refl
      where
        x : Float
        x = d p.u p.v

        go : (b : Bool) → eqb p.u p.v ≡ b → Hold (cond b ls (offer_to k p.v p.u x (offer_to k p.u p.v x ls)))
        go true q = H
        go false q =
            let ne = eqb-false p.u p.v q in
            hold_offer k p.v p.u x (offer_to k p.u p.v x ls) I.1
            (brings p.v (neighbor p.u x) (record { other = (I.0, ne); distance = S.symmetric p.u p.v }))
            (hold_offer k p.u p.v x ls I.0
            (brings p.u (neighbor p.v x) (record { other = (I.1, λ (z : p.v ≡ p.u). ne (sym z)); distance = refl })) H)

    hold_meet : (p : Pair) (m : Met) → Inside n p → Hold m.lists → Hold (meet d n k p m).lists
    unfolding meet
    hold_meet p m I H = hold_update p m.lists I H

    hold_all : (cs : List Context) (m : Met) → All (Each (Below n)) cs → Hold m.lists → Hold (meet_all d n k cs m).lists
    unfolding meet_all
    hold_all cs m C H =
        through_keeps (λ (s : Met). Hold s.lists) (Each (Below n)) (λ (c : Context) (s : Met). through (meet d n k) (passes c) s)
        (λ (c : Context) (s : Met) (B : Each (Below n) c) (N : Hold s.lists).
        through_keeps (λ (t : Met). Hold t.lists) (Inside n) (meet d n k) hold_meet (passes c) s (passes-inside n c B) N) cs m C H

    hold_iterated : (draws : List ℕ) (s : ℕ) (x : Descent) → All (Each (Below n)) x.contexts → Hold x.lists → Hold (iterated d draws n k s x).descent.lists
    unfolding iterated renewed
    hold_iterated draws s x C H = hold_all x.contexts (record { lists = x.lists; visited = x.visited; cost = 0 }) C H

-- ---- the cost

met-cost : (d : Between) (n k : ℕ) (ps : List Pair) (m : Met) → (through (meet d n k) ps m).cost ≤ length ps + m.cost
unfolding through meet
met-cost d n k [] m = omega arith
met-cost d n k (p ∷ ps) m = go (eqb p.u p.v) (meet d n k p m).cost refl (met-cost d n k ps (meet d n k p m))
  where
    go : (b : Bool) (c : ℕ) → c ≡ cond b m.cost (suc m.cost) → (through (meet d n k) ps (meet d n k p m)).cost ≤ length ps + c
        → (through (meet d n k) ps (meet d n k p m)).cost ≤ length (p ∷ ps) + m.cost
    go true c e h = omega arith
    go false c e h = omega arith

all-cost : (d : Between) (n k : ℕ) (cs : List Context) (m : Met) → (meet_all d n k cs m).cost ≤ pairs_passed cs + m.cost
unfolding meet_all through pairs_passed
all-cost d n k [] m = omega arith
all-cost d n k (c ∷ cs) m =
    let a = all-cost d n k cs (through (meet d n k) (passes c) m) in
    let b = met-cost d n k (passes c) m in
    omega arith

-- ---- the facts

all_in : (l : List Neighbor) → All (λ (e : Neighbor). In e l) l
all_in [] = tt
all_in (x ∷ xs) =
    (here, all_weaker (λ (e : Neighbor). In e xs) (λ (e : Neighbor). In e (x ∷ xs)) (λ (e : Neighbor) (i : In e xs). later i) xs (all_in xs))

all_same : (P : Neighbor → Type 0) (k : ℕ) (e : Neighbor) → P e → All P (replicate k e)
all_same P k e p =
    let long = length-replicate k e in
    all_of P (replicate k e) e (λ (i : ℕ) (h : i < length (replicate k e)). subst P (sym (get_or-replicate k i e e (omega arith))) p)

module _ (d : Between) (S : SymmetricFit d) where
  an_iteration : (draws : List ℕ) (n k s : ℕ) (x : Descent) → Legal n x → Iteration d draws n k s x
  unfolding iterated renewed
  an_iteration draws n k s x L =
      let before : Hold n (Added d n x) x.lists =
      record {
        nodes = L.nodes;
        each = λ (u : ℕ) (un : u < n).
            all_weaker (λ (e : Neighbor). In e (list_at x.lists u)) (Added d n x u) (λ (e : Neighbor) (i : In e (list_at x.lists u)). inl i) (list_at x.lists u) (all_in (list_at x.lists u));
      } in
      let c = all-cost d n k x.contexts (record { lists = x.lists; visited = x.visited; cost = 0 }) in
      record {
        added = (hold_iterated n (Added d n x) d k S (λ (u : ℕ) (e : Neighbor) (p : Paired d n u e). inr p) draws s x L.members before).each;
        cost = omega arith;
      }

  holdable : (u v : ℕ) → Holdable (d u v)
  holdable u v = holdable_fit (d u v) (S.single u v) (S.fits u v)

  standing : (n k : ℕ) (x : Descent) → 0 < n → 1 ≤ k → k ≤ 64 → Reached d n k x → Standing d n k x
  unfolding begun unfilled
  standing n k x nodes some top (first draws s few) =
      record {
        formed = begun-formed draws n k s nodes few;
        known = λ (u : ℕ) (un : u < n).
            subst (All (Known d n u)) (sym (get_or-replicate n u (replicate k (empty_slot n)) [] un)) (all_same (Known d n u) k (empty_slot n) (inl refl));
      }
  standing n k x nodes some top (again draws s {x = y} few R) =
      let Y = standing n k y nodes some top R in
      let H : Hold n (Known d n) y.lists = record { nodes = Y.formed.fitting.nodes; each = Y.known } in
      record {
        formed = iterated-formed d n k s nodes some top few holdable S.fits draws y Y.formed;
        known = (hold_iterated n (Known d n) d k S (λ (u : ℕ) (e : Neighbor) (p : Paired d n u e). inr p) draws s y Y.formed.members H).each;
      }

  pub descent_facts : DescentFacts d
  descent_facts = record { iteration = an_iteration; reached = standing }

-- ---- the calls

pub iterate_facts : (l : DescentLent) → Binary32 l.state_f → decide (iterate_table l) ≡ passed → IterateFacts l
unfolding iterate_rule iterate_obeys iterate_ends descent_written descent_in
iterate_facts l B h =
    let far = between l.lanes l.dimension in
    let x = lent_descent l in
    let F = read-formed l B h in
    let y = (iterated far l.draws l.n l.k l.s x).descent in
    let back : lists_in l.n l.k (descent_state l.n y) (list_floats y.lists) ≡ y.lists = ap (λ (z : Descent). z.lists) (descent-back l.n l.k y (iterate_formed l B h).fitting) in
    let I : Iteration far l.draws l.n l.k l.s x =
    an_iteration far (between-symmetric-fit l.lanes l.dimension) l.draws l.n l.k l.s x (record { nodes = F.fitting.nodes; members = F.members }) in
    record { added = λ (u : ℕ) (un : u < l.n). rw (h, back) (I.added u un); cost = rw h I.cost }

few-drawn : (l : DescentLent) → decide (iterate_table l) ≡ passed → l.s ≤ l.k
unfolding iterate_table iterate_rows descent_rows row4
few-drawn l h =
    let four = none_hold (outside 1 most l.k ∷ outside 1 l.k l.s ∷ []) (all_fail (iterate_table l) h).1.1.1.0 in
    (within 1 l.k l.s four.1.0).to

module _ (g : Game) where
  abbrev far : Between
  far = between g.lanes g.dimension

  -- a state encodes a descent that is reached
  record Encoded (us : List ℕ) (fs : List Float) : Type 0 where
    x : Descent
    reached : Reached far g.n g.k x
    words : us ≡ descent_state g.n x
    floats : fs ≡ list_floats x.lists
    nodes : 0 < g.n
    some : 1 ≤ g.k
    most : g.k ≤ 64

  stands : {us : List ℕ} {fs : List Float} (E : Encoded us fs) → Standing far g.n g.k E.x
  stands E = (descent_facts far (between-symmetric-fit g.lanes g.dimension)).reached g.n g.k E.x E.nodes E.some E.most E.reached

  read_back : {us : List ℕ} {fs : List Float} (E : Encoded us fs) → descent_in g.n g.k us fs ≡ E.x
  read_back {us} {fs} E = rw (E.words, E.floats) (descent-back g.n g.k E.x (stands E).formed.fitting)

  after : (s : ℕ) (draws us : List ℕ) (fs : List Float) (ws : List ℕ) (gs : List Float) → Encoded us fs
      → Encoded (iterate_rule (lent g s draws us fs ws gs)).left.state_u (iterate_rule (lent g s draws us fs ws gs)).left.state_f
  unfolding iterate_rule iterate_obeys iterate_ends descent_written descent_kept
  after s draws us fs ws gs E = go (decide (iterate_table l)) refl
    where
      l : DescentLent
      l = lent g s draws us fs ws gs

      go : (c : Decision) → decide (iterate_table l) ≡ c → Encoded (iterate_obeys l c).left.state_u (iterate_obeys l c).left.state_f
      go passed h =
          let few = few-drawn l h in
          let most = E.most in
          let y = iterated far draws g.n g.k s in
          record {
            x = (y E.x).descent;
            reached = again draws s (omega arith) E.reached;
            words = ap (λ (z : Descent). descent_state g.n (y z).descent) (read_back E);
            floats = ap (λ (z : Descent). list_floats (y z).descent.lists) (read_back E);
            nodes = E.nodes;
            some = E.some;
            most = E.most;
          }
      go (refused c) h = E

  encoded : {us : List ℕ} {fs : List Float} → Called g us fs → Encoded us fs
  unfolding begin_rule begin_obeys descent_written
  encoded (began s draws us fs ws gs h) =
      let z = begin_sizes (lent g s draws us fs ws gs) h in
      record {
        x = begun draws g.n g.k s;
        reached = first draws s z.few;
        words = rw h;
        floats = rw h;
        nodes = z.nodes;
        some = z.some;
        most = z.most;
      }
  encoded (iterates s draws {us = us} {fs = fs} ws gs C) = after s draws us fs ws gs (encoded C)

  pub called_facts : CalledFacts g
  unfolding descent_in
  called_facts us fs C u un =
      let E = encoded C in
      let back : lists_in g.n g.k us fs ≡ E.x.lists = ap (λ (x : Descent). x.lists) (read_back E) in
      rw back ((stands E).known u un)
