-- "no node joins the queue twice": every node that joined was seen for the first time just before, so that n takings are enough. Assumes nothing.
use mathlib.Core.Path.{◌≡◌, refl, ◌∙◌}
use mathlib.Core.Bool.{Bool, true, false, cond}
use mathlib.Core.List.{List, [], ◌∷◌, ◌++◌, map}
use Prim.Native.Nat.{ℕ, zero, suc, ◌+◌, ◌≤◌, ◌<◌}
use native.Mathlib.Nat.{le_of_suc-le-suc, not-suc-le-zero}
use native.Mathlib.Omega.{arith}
use borrow.Author.Tests.{ltb-true}
use lib.Dec.{eqb, ltb}
use lib.ListN.{length, get_or, length-set, length-append}
use Rattle.std.specs.Prelude.{Some, None}
use Rattle.rules.specs.Answers.{Distance}
use Rattle.rules.specs.declared.Neighbor.{Neighbor}
use Rattle.rules.specs.Distance.{before}
use Rattle.rules.specs.Lists.{neighbor, node_of, nodes_of, insert}
use Rattle.rules.specs.Rows.{live_nodes}
use Rattle.rules.specs.Search.{Going, on, unfit_at, Found, Taken, and_then, works_out, mark, is_seen, visit, visits, joins, too_far, take_these}
use Rattle.lists.proofs.Laws.{length-insert}
use Rattle.expand.specs.Queue.{ones, AllBelow}

-- ---- flags that are set

pub ones-most : (xs : List ℕ) → ones xs ≤ length xs
unfolding ones
ones-most [] = omega arith
ones-most (x ∷ xs) = go (eqb x 1) (ones-most xs)
  where
    go : (b : Bool) → ones xs ≤ length xs → cond b 1 0 + ones xs ≤ suc (length xs)
    go true h = omega arith
    go false h = omega arith

pub ones-mark : (v : ℕ) (xs : List ℕ) → v < length xs → is_seen v xs ≡ false → ones (mark v xs) ≡ suc (ones xs)
unfolding ones mark is_seen
ones-mark v [] h e = absurd (not-suc-le-zero h)
ones-mark zero (x ∷ xs) h e = rw e (omega arith)
ones-mark (suc v) (x ∷ xs) h e = let ih = ones-mark v xs (le_of_suc-le-suc h) e in omega arith

pub mark-long : (v : ℕ) (xs : List ℕ) → length (mark v xs) ≡ length xs
unfolding mark
mark-long v xs = length-set xs v 1

-- ---- node numbers below n

pub below_at : (n : ℕ) (vs : List ℕ) (i : ℕ) → AllBelow n vs → i < length vs → get_or vs i 0 < n
unfolding AllBelow
below_at n [] i b h = absurd (not-suc-le-zero h)
below_at n (v ∷ vs) zero b h = b.0
below_at n (v ∷ vs) (suc i) b h = below_at n vs i b.1 (le_of_suc-le-suc h)

pub below_end : (n : ℕ) (vs : List ℕ) (v : ℕ) → AllBelow n vs → v < n → AllBelow n (vs ++ (v ∷ []))
unfolding AllBelow
below_end n [] v b h = (h, tt)
below_end n (x ∷ vs) v b h = (b.0, below_end n vs v b.1 h)

pub below-live : (n : ℕ) (vs : List ℕ) → AllBelow n (live_nodes n vs)
unfolding AllBelow live_nodes
below-live n [] = tt
below-live n (v ∷ vs) = go (ltb v n) refl (below-live n vs)
  where
    go : (b : Bool) → ltb v n ≡ b → AllBelow n (live_nodes n vs) → AllBelow n (cond b (v ∷ live_nodes n vs) [])
    go true e h = (ltb-true v n e, h)
    go false e h = tt

pub below-insert : (n : ℕ) (e : Neighbor) (xs : List Neighbor) → node_of e < n → AllBelow n (nodes_of xs) → AllBelow n (nodes_of (insert e xs))
unfolding AllBelow nodes_of insert
below-insert n e [] h b = (h, tt)
below-insert n e (x ∷ xs) h b = go (before e x) (below-insert n e xs h b.1)
  where
    go : (t : Bool) → AllBelow n (map node_of (insert e xs)) → AllBelow n (map node_of (cond t (e ∷ x ∷ xs) (x ∷ insert e xs)))
    go true c = (h, b)
    go false c = (b.0, c)

-- ---- what holds where no distance is unfit

unfoldable pub Whenever : {A : Type 0} → (A → Type 0) → Going A → Type 0
Whenever P (on a) = P a
Whenever P (unfit_at v) = Unit

pub whenever_then : {A B : Type 0} (P : A → Type 0) (Q : B → Type 0) (g : Going A) (f : A → Going B) → Whenever P g → ((a : A) → P a → Whenever Q (f a)) → Whenever Q (and_then g f)
unfolding Whenever and_then
whenever_then P Q (on a) f h k = k a h
whenever_then P Q (unfit_at v) f h k = tt

-- ---- a row is visited

-- as many are found as flags are set
pub record Grown (n : ℕ) (f₀ f : Found) : Type 0 where
  pub long : length f.seen ≡ n
  pub count : ones f₀.seen + length f.entries ≡ ones f.seen + length f₀.entries
  pub below : AllBelow n (nodes_of f.entries)

abbrev Pushed : ℕ → ℕ → List Neighbor → List Neighbor → Type 0
Pushed n v es fs = (length fs ≡ suc (length es)) × (AllBelow n (nodes_of es) → AllBelow n (nodes_of fs))

pushes : (apart : ℕ → Distance) (n v : ℕ) (es : List Neighbor) (d : Distance) → v < n → Whenever (Pushed n v es) (works_out apart v es d)
unfolding Whenever works_out
pushes apart n v es (Some x) h = (length-insert (neighbor v x) es, below-insert n (neighbor v x) es h)
pushes apart n v es None h = tt

pub pushes_both : (apart : ℕ → Distance) (n v : ℕ) (es : List Neighbor) (d : Distance) → v < n → AllBelow n (nodes_of es)
    → Whenever (λ (fs : List Neighbor). AllBelow n (nodes_of fs) × (length fs ≡ suc (length es))) (works_out apart v es d)
unfolding Whenever works_out
pushes_both apart n v es (Some x) h b = (below-insert n (neighbor v x) es h b, length-insert (neighbor v x) es)
pushes_both apart n v es None h b = tt

pub pushes_below : (apart : ℕ → Distance) (n v : ℕ) (es : List Neighbor) (d : Distance) → v < n → AllBelow n (nodes_of es) → Whenever (λ (fs : List Neighbor). AllBelow n (nodes_of fs)) (works_out apart v es d)
unfolding Whenever works_out
pushes_below apart n v es (Some x) h b = below-insert n (neighbor v x) es h b
pushes_below apart n v es None h b = tt

grown_visit : (apart : ℕ → Distance) (n v : ℕ) (f₀ f : Found) → v < n → Grown n f₀ f → Whenever (Grown n f₀) (visit apart v f)
unfolding visit Whenever
grown_visit apart n v f₀ f h g = go (is_seen v f.seen) refl
  where
    go : (b : Bool) → is_seen v f.seen ≡ b
        → Whenever (Grown n f₀) (cond b (on f) (and_then (works_out apart v f.entries (apart v)) (λ (es : List Neighbor). on (record { seen = mark v f.seen; entries = es; worked = suc f.worked }))))
    go true e = g
    go false e =
        whenever_then (Pushed n v f.entries) (Grown n f₀) (works_out apart v f.entries (apart v)) (λ (es : List Neighbor). on (record { seen = mark v f.seen; entries = es; worked = suc f.worked }))
        (pushes apart n v f.entries (apart v) h)
        (λ (es : List Neighbor) p. marked es p e)
      where
        marked : (es : List Neighbor) → Pushed n v f.entries es → is_seen v f.seen ≡ false → Grown n f₀ (record { seen = mark v f.seen; entries = es; worked = suc f.worked })
        marked es p e =
            let long = g.long in
            let count = g.count in
            let more = ones-mark v f.seen (omega arith) e in
            let grew = p.0 in
            record { long = mark-long v f.seen ∙ long; count = omega arith; below = p.1 g.below }

pub grown_visits : (apart : ℕ → Distance) (n : ℕ) (f₀ : Found) (vs : List ℕ) (f : Found) → AllBelow n vs → Grown n f₀ f → Whenever (Grown n f₀) (visits apart vs f)
unfolding visits AllBelow Whenever
grown_visits apart n f₀ [] f b g = g
grown_visits apart n f₀ (v ∷ vs) f b g =
    whenever_then (Grown n f₀) (Grown n f₀) (visit apart v f) (visits apart vs) (grown_visit apart n v f₀ f b.0 g) (λ (a : Found) h. grown_visits apart n f₀ vs a b.1 h)

-- ---- what was found is taken

-- the queue grows by what is taken at most, and stays below n
pub record Queued (n : ℕ) (q₀ q : List ℕ) (more : ℕ) : Type 0 where
  pub most : length q ≤ length q₀ + more
  pub below : AllBelow n q

pub joined-long : (e : Neighbor) (t : Taken) → length (joins e t).queue ≡ suc (length t.queue)
unfolding joins
joined-long e t = length-append t.queue (node_of e ∷ []) ∙ omega arith

joined-below : (n : ℕ) (e : Neighbor) (t : Taken) → node_of e < n → AllBelow n t.queue → AllBelow n (joins e t).queue
unfolding joins
joined-below n e t h b = below_end n t.queue (node_of e) b h

pub queued_these : (n : ℕ) (es : List Neighbor) (t : Taken) → AllBelow n (nodes_of es) → AllBelow n t.queue → Queued n t.queue (take_these es t).queue (length es)
unfolding take_these AllBelow nodes_of
queued_these n [] t b c = record { most = omega arith; below = c }
queued_these n (e ∷ es) t b c = go (too_far e t.best) (queued_these n es (joins e t) b.1 (joined-below n e t b.0 c))
  where
    go : (far : Bool) → Queued n (joins e t).queue (take_these es (joins e t)).queue (length es)
        → Queued n t.queue (cond far t (take_these es (joins e t))).queue (suc (length es))
    go true q = record { most = omega arith; below = c }
    go false q = let most = q.most in let one_more = joined-long e t in record { most = omega arith; below = q.below }
