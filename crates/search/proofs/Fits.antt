-- Every distance of the best set was worked out, so what holds of a fit distance holds of each. Assumes nothing.
use mathlib.Core.Path.{◌≡◌, refl}
use mathlib.Core.Bool.{Bool, true, false, cond}
use mathlib.Core.List.{List, [], ◌∷◌}
use Prim.Native.Nat.{ℕ, zero, suc, ◌-◌, ◌<◌}
use native.Mathlib.Nat.{le_of_suc-le-suc, not-suc-le-zero}
use lib.Dec.{ltb}
use lib.ListN.{length, take, get_or}
use lib.Ieee.{Float}
use Rattle.std.specs.Prelude.{Some, None}
use Rattle.rules.specs.Answers.{Distance}
use Rattle.rules.specs.declared.Neighbor.{Neighbor}
use Rattle.rules.specs.Distance.{before}
use Rattle.rules.specs.Lists.{neighbor, insert}
use Rattle.rules.specs.Search.{Walk, on, Found, Taken, and_then, works_out, is_seen, mark, visit, visits, roots_found, started, joins, too_far, take_these, row_ended, expand, walk, search_of}
use Rattle.expand.proofs.Sound.{Whenever, whenever_then}

module _ (P : Float → Type 0) where
  unfoldable pub AllOf : List Neighbor → Type 0
  AllOf [] = Unit
  AllOf (e ∷ es) = P e.distance × AllOf es

  pub of_at : (es : List Neighbor) (i : ℕ) (z : Neighbor) → AllOf es → i < length es → P (get_or es i z).distance
  unfolding AllOf
  of_at [] i z a h = absurd (not-suc-le-zero h)
  of_at (e ∷ es) zero z a h = a.0
  of_at (e ∷ es) (suc i) z a h = of_at es i z a.1 (le_of_suc-le-suc h)

  of_insert : (e : Neighbor) (xs : List Neighbor) → P e.distance → AllOf xs → AllOf (insert e xs)
  unfolding AllOf insert
  of_insert e [] p a = (p, tt)
  of_insert e (x ∷ xs) p a = go (before e x) (of_insert e xs p a.1)
    where
      go : (b : Bool) → AllOf (insert e xs) → AllOf (cond b (e ∷ x ∷ xs) (x ∷ insert e xs))
      go true c = (p, a)
      go false c = (a.0, c)

  of_take : (k : ℕ) (xs : List Neighbor) → AllOf xs → AllOf (take k xs)
  unfolding AllOf
  of_take zero xs a = tt
  of_take (suc k) [] a = tt
  of_take (suc k) (x ∷ xs) a = (a.0, of_take k xs a.1)

  of_join : (e : Neighbor) (t : Taken) → P e.distance → AllOf t.best → AllOf (joins e t).best
  unfolding joins
  of_join e t p b = of_insert e (take (length t.best - 1) t.best) p (of_take (length t.best - 1) t.best b)

  of_these : (es : List Neighbor) (t : Taken) → AllOf es → AllOf t.best → AllOf (take_these es t).best
  unfolding AllOf take_these
  of_these [] t a b = b
  of_these (e ∷ es) t a b = go (too_far e t.best) (of_these es (joins e t) a.1 (of_join e t a.0 b))
    where
      go : (far : Bool) → AllOf (take_these es (joins e t)).best → AllOf (cond far t (take_these es (joins e t))).best
      go true c = b
      go false c = c

module _ (P : Float → Type 0) (apart : ℕ → Distance) (each : (v : ℕ) (x : Float) → apart v ≡ Some x → P x) where
  of_works : (v : ℕ) (es : List Neighbor) → AllOf P es → Whenever (AllOf P) (works_out apart v es (apart v))
  unfolding works_out Whenever
  of_works v es a = go (apart v) refl
    where
      go : (d : Distance) → apart v ≡ d → Whenever (AllOf P) (works_out apart v es d)
      go (Some x) e = of_insert P (neighbor v x) es (each v x e) a
      go None e = tt

  of_roots : (vs : List ℕ) (es : List Neighbor) → AllOf P es → Whenever (AllOf P) (roots_found apart vs es)
  unfolding roots_found Whenever
  of_roots [] es a = a
  of_roots (v ∷ vs) es a =
      whenever_then (AllOf P) (AllOf P) (works_out apart v es (apart v)) (roots_found apart vs) (of_works v es a) (λ (fs : List Neighbor) b. of_roots vs fs b)

  abbrev FoundOf : Found → Type 0
  FoundOf f = AllOf P f.entries

  of_visit : (v : ℕ) (f : Found) → FoundOf f → Whenever FoundOf (visit apart v f)
  unfolding visit Whenever
  of_visit v f a = go (is_seen v f.seen)
    where
      go : (b : Bool)
          → Whenever FoundOf (cond b (on f) (and_then (works_out apart v f.entries (apart v)) (λ (es : List Neighbor). on (record { seen = mark v f.seen; entries = es; worked = suc f.worked }))))
      go true = a
      go false =
          whenever_then (AllOf P) FoundOf (works_out apart v f.entries (apart v)) (λ (es : List Neighbor). on (record { seen = mark v f.seen; entries = es; worked = suc f.worked }))
          (of_works v f.entries a) (λ (es : List Neighbor) b. b)

  of_visits : (vs : List ℕ) (f : Found) → FoundOf f → Whenever FoundOf (visits apart vs f)
  unfolding visits Whenever
  of_visits [] f a = a
  of_visits (v ∷ vs) f a = whenever_then FoundOf FoundOf (visit apart v f) (visits apart vs) (of_visit v f a) (λ (g : Found) b. of_visits vs g b)

  abbrev pub BestOf : Walk → Type 0
  BestOf s = AllOf P s.best

  of_expand : (rows : ℕ → List ℕ) (s : Walk) → BestOf s → Whenever BestOf (expand apart rows s)
  unfolding expand Whenever row_ended AllOf
  of_expand rows s a =
      whenever_then FoundOf BestOf (visits apart (rows (get_or s.queue s.takings 0)) (record { seen = s.seen; entries = []; worked = s.worked })) (λ (f : Found). on (row_ended s f))
      (of_visits (rows (get_or s.queue s.takings 0)) (record { seen = s.seen; entries = []; worked = s.worked }) tt)
      (λ (f : Found) b. of_these P f.entries (record { best = s.best; queue = s.queue }) b a)

  of_walk : (rows : ℕ → List ℕ) (limit : ℕ) (s : Walk) → BestOf s → Whenever BestOf (walk apart rows limit s)
  unfolding walk Whenever
  of_walk rows zero s a = a
  of_walk rows (suc limit) s a = go (ltb s.takings (length s.queue)) (λ (t : Walk) b. of_walk rows limit t b)
    where
      go : (b : Bool) → ((t : Walk) → BestOf t → Whenever BestOf (walk apart rows limit t)) → Whenever BestOf (cond b (and_then (expand apart rows s) (walk apart rows limit)) (on s))
      go true more = whenever_then BestOf BestOf (expand apart rows s) (walk apart rows limit) (of_expand rows s a) more
      go false more = a

  pub of_search : (rows : ℕ → List ℕ) (n k : ℕ) (roots : List ℕ) → Whenever BestOf (search_of apart rows n k roots)
  unfolding search_of started Whenever AllOf
  of_search rows n k roots =
      whenever_then (AllOf P) BestOf (roots_found apart roots []) (λ (sorted : List Neighbor). walk apart rows n (started n k roots sorted)) (of_roots roots [] tt)
      (λ (sorted : List Neighbor) b. of_walk rows n (started n k roots sorted) (of_take P k sorted b))
