-- An entry beyond the farthest best can be passed over: it would end its row, and so would all that stand behind it. Assumes nothing.
use mathlib.Core.Path.{◌≡◌, refl, sym, ap, ◌∙◌, subst}
use mathlib.Core.Bool.{Bool, true, false, cond, ◌||◌}
use mathlib.Core.List.{List, [], ◌∷◌, ◌++◌}
use Prim.Native.Nat.{ℕ, suc, ◌-◌, ◌≤◌, ◌<◌}
use native.Mathlib.Omega.{arith}
use borrow.Author.Tests.{lt-ltb, le-ltb, ltb-true, ltb-false, ne_eqb}
use lib.ListN.{length, take, get_or}
use lib.Ieee.{Float, binary32, to_bits, lt}
use Rattle.std.specs.Prelude.{Some, None}
use Rattle.rules.specs.Answers.{Distance}
use Rattle.rules.specs.declared.Neighbor.{Neighbor}
use Rattle.rules.specs.Distance.{before, zero32, lanes_of, query_apart}
use Rattle.rules.specs.Lists.{neighbor, insert}
use Rattle.rules.specs.Search.{Going, on, unfit_at, Found, Taken, and_then, works_out, mark, is_seen, visit, visits, farthest, too_far, joins, take_these}
use Rattle.neighbor.specs.Holdable.{Holdable}
use Rattle.neighbor.proofs.Bits.{bits-lt, bits-eq, holdable_distance}
use Rattle.neighbor.proofs.Order.{irreflexive}
use Rattle.lists.specs.All.{All}
use Rattle.lists.specs.Ascending.{AllHoldable, Ascending}
use Rattle.lists.proofs.Laws.{length-insert, insert-is_perm, holdable_at, holdable_insert, holdable_take, ascending-insert, ascending-take, none_at}
use Rattle.lists.proofs.Plain.{all-at, all_take, all_perm}
use Rattle.expand.specs.Steps.{works_near, visit_near, visits_near}

-- ---- near and beyond

abbrev pub Near : Float → Neighbor → Type 0
Near far e = Holdable e.distance × (lt far e.distance ≡ false)

abbrev pub Beyond : Float → Neighbor → Type 0
Beyond far e = Holdable e.distance × (lt far e.distance ≡ true)

module _ (far : Float) (held : Holdable far) (e g : Neighbor) (near : Near far e) (beyond : Beyond far g) where
  below : to_bits binary32 e.distance < to_bits binary32 g.distance
  below =
      let F = to_bits binary32 far in
      let a = ltb-false F (to_bits binary32 e.distance) (sym (bits-lt far e.distance held near.0) ∙ near.1) in
      let b = ltb-true F (to_bits binary32 g.distance) (sym (bits-lt far g.distance held beyond.0) ∙ beyond.1) in
      omega arith

  less : lt e.distance g.distance ≡ true
  less = bits-lt e.distance g.distance near.0 beyond.0 ∙ lt-ltb (to_bits binary32 e.distance) (to_bits binary32 g.distance) below

  goes_before : before e g ≡ true
  unfolding before
  goes_before = rw less

  not-before : before g e ≡ false
  unfolding before
  not-before =
      let b = below in
      rw (
        bits-lt g.distance e.distance beyond.0 near.0 ∙ le-ltb (to_bits binary32 g.distance) (to_bits binary32 e.distance) (omega arith),
        bits-eq g.distance e.distance beyond.0 near.0 ∙ ne_eqb (to_bits binary32 g.distance) (to_bits binary32 e.distance) (λ q. omega arith),
      )

module _ (far : Float) (held : Holdable far) where
  -- a near entry goes among the near ones, and one beyond among those beyond
  insert_near : (e : Neighbor) (fs gs : List Neighbor) → Near far e → All (Beyond far) gs → insert e (fs ++ gs) ≡ insert e fs ++ gs
  unfolding insert
  insert_near e [] [] n G = refl
  insert_near e [] (g ∷ gs) n G = rw (goes_before far held e g n G.0)
  insert_near e (f ∷ fs) gs n G = go (before e f) (insert_near e fs gs n G)
    where
      go : (b : Bool) → insert e (fs ++ gs) ≡ insert e fs ++ gs → cond b (e ∷ f ∷ (fs ++ gs)) (f ∷ insert e (fs ++ gs)) ≡ cond b (e ∷ f ∷ fs) (f ∷ insert e fs) ++ gs
      go true ih = refl
      go false ih = ap (λ (l : List Neighbor). f ∷ l) ih

  insert-beyond : (e : Neighbor) (fs gs : List Neighbor) → Beyond far e → All (Near far) fs → insert e (fs ++ gs) ≡ fs ++ insert e gs
  unfolding insert
  insert-beyond e [] gs b F = refl
  insert-beyond e (f ∷ fs) gs b F = rw (not-before far held f e F.0 b) (ap (λ (l : List Neighbor). f ∷ l) (insert-beyond e fs gs b F.1))

  all_insert : (P : Neighbor → Type 0) (e : Neighbor) (xs : List Neighbor) → P e → All P xs → All P (insert e xs)
  all_insert P e xs h X = all_perm P (insert-is_perm e xs) (h, X)

  -- ---- what is near is taken, and the first beyond ends the row

  pub take_near : (fs gs : List Neighbor) (t : Taken) → All (Near far) fs → All (Beyond far) gs → All (Near far) t.best → 1 ≤ length t.best → take_these (fs ++ gs) t ≡ take_these fs t
  unfolding take_these farthest joins
  take_near [] [] t F G B h = refl
  take_near [] (g ∷ gs) t F G B h = rw (too_far_lem g t G.0 B h)
    where
      too_far_lem : (g : Neighbor) (t : Taken) → Beyond far g → All (Near far) t.best → 1 ≤ length t.best → too_far g t.best ≡ true
      too_far_lem g t b B h =
          less far held (get_or t.best (length t.best - 1) (neighbor 0 zero32)) g
          (all-at (Near far) t.best (length t.best - 1) (neighbor 0 zero32) B (omega arith)) b
  take_near (f ∷ fs) gs t F G B h = ap (cond (too_far f t.best) t) (take_near fs gs (joins f t) F.1 G (nearer f t F.0 B) (some f t))
    where
      nearer : (f : Neighbor) (t : Taken) → Near far f → All (Near far) t.best → All (Near far) (joins f t).best
      nearer f t n B = all_insert (Near far) f (take (length t.best - 1) t.best) n (all_take (Near far) (length t.best - 1) t.best B)

      some : (f : Neighbor) (t : Taken) → 1 ≤ length (joins f t).best
      some f t = let l = length-insert f (take (length t.best - 1) t.best) in omega arith

-- ---- what is found by the rule, and without those beyond

pub record Related (far : Float) (f g : Found) : Type 0 where
  pub beyond : List Neighbor
  pub seen : f.seen ≡ g.seen
  pub whole : f.entries ≡ g.entries ++ beyond
  pub near : All (Near far) g.entries
  pub out : All (Beyond far) beyond

unfoldable pub RelatedGoing : Float → Going Found → Going Found → Type 0
RelatedGoing far (on f) (on g) = Related far f g
RelatedGoing far (on f) (unfit_at v) = ⊥
RelatedGoing far (unfit_at u) (on g) = ⊥
RelatedGoing far (unfit_at u) (unfit_at v) = u ≡ v

pub related_on : (far : Float) (x : Going Found) (g : Found) → RelatedGoing far x (on g) → (f : Found) × (x ≡ on f) × Related far f g
unfolding RelatedGoing
related_on far (on f) g r = (f, refl, r)
related_on far (unfit_at u) g r = absurd r

pub related_unfit : (far : Float) (x : Going Found) (v : ℕ) → RelatedGoing far x (unfit_at v) → x ≡ unfit_at v
unfolding RelatedGoing
related_unfit far (on f) v r = absurd r
related_unfit far (unfit_at u) v r = ap unfit_at r

-- an answer that a distance can give
abbrev pub Answers : (ℕ → Distance) → Type 0
Answers apart = (v : ℕ) (x : Float) → apart v ≡ Some x → Holdable x

pub query-answers : (lanes : List Float) (dimension : ℕ) (query : List Float) → Answers (query_apart lanes dimension query)
unfolding query_apart
query-answers lanes dimension query v x e = holdable_distance (lanes_of lanes dimension v) query x e

module _ (far : Float) (held : Holdable far) (apart : ℕ → Distance) (fine : Answers apart) where
  related_more : (v : ℕ) (x : Float) (b : Bool) (f g : Found) → lt far x ≡ b → Holdable x → Related far f g
      → Related far (record { seen = mark v f.seen; entries = insert (neighbor v x) f.entries; worked = suc f.worked })
      (record { seen = mark v g.seen; entries = cond b g.entries (insert (neighbor v x) g.entries); worked = 0 })
  related_more v x true f g e h r =
      record {
        beyond = insert (neighbor v x) r.beyond;
        seen = ap (mark v) r.seen;
        whole = ap (insert (neighbor v x)) r.whole ∙ insert-beyond far held (neighbor v x) g.entries r.beyond (h, e) r.near;
        near = r.near;
        out = all_insert far held (Beyond far) (neighbor v x) r.beyond (h, e) r.out;
      }
  related_more v x false f g e h r =
      record {
        beyond = r.beyond;
        seen = ap (mark v) r.seen;
        whole = ap (insert (neighbor v x)) r.whole ∙ insert_near far held (neighbor v x) g.entries r.beyond (h, e) r.out;
        near = all_insert far held (Near far) (neighbor v x) g.entries (h, e) r.near;
        out = r.out;
      }

  related_visit : (v : ℕ) (f g : Found) → Related far f g → RelatedGoing far (visit apart v f) (visit_near far apart v g)
  unfolding visit visit_near works_out works_near and_then RelatedGoing
  related_visit v f g r = subst (λ (l : List ℕ). RelatedGoing far (visit apart v f) (cond (is_seen v l) (on g) (rest g))) r.seen (go (is_seen v f.seen) (apart v) refl)
    where
      rest : Found → Going Found
      rest g = and_then (works_near far v g.entries (apart v)) (λ (es : List Neighbor). on (record { seen = mark v g.seen; entries = es; worked = 0 }))

      go : (b : Bool) (d : Distance) → apart v ≡ d
          → RelatedGoing far (cond b (on f) (and_then (works_out apart v f.entries d) (λ (es : List Neighbor). on (record { seen = mark v f.seen; entries = es; worked = suc f.worked }))))
          (cond b (on g) (and_then (works_near far v g.entries d) (λ (es : List Neighbor). on (record { seen = mark v g.seen; entries = es; worked = 0 }))))
      go true d e = r
      go false (Some x) e = related_more v x (lt far x) f g refl (fine v x e) r
      go false None e = refl

  pub related_visits : (vs : List ℕ) (f g : Found) → Related far f g → RelatedGoing far (visits apart vs f) (visits_near far apart vs g)
  unfolding visits visits_near and_then RelatedGoing
  related_visits [] f g r = r
  related_visits (v ∷ vs) f g r = go (visit apart v f) (visit_near far apart v g) (related_visit v f g r) (λ (a b : Found) (s : Related far a b). related_visits vs a b s)
    where
      go : (x y : Going Found) → RelatedGoing far x y → ((a b : Found) → Related far a b → RelatedGoing far (visits apart vs a) (visits_near far apart vs b))
          → RelatedGoing far (and_then x (visits apart vs)) (and_then y (visits_near far apart vs))
      go (on a) (on b) s ih = ih a b s
      go (on a) (unfit_at u) s ih = absurd s
      go (unfit_at u) (on b) s ih = absurd s
      go (unfit_at u) (unfit_at w) s ih = s

-- ---- the best set: ascending, so that none is beyond the last, and it stays so

or_left : (a b : Bool) → (a || b) ≡ false → a ≡ false
or_left true b e = e
or_left false b e = refl

not_beyond : (y : Neighbor) (xs : List Neighbor) → AllHoldable xs → All (λ (x : Neighbor). before y x ≡ false) xs → All (Near y.distance) xs
unfolding before
not_beyond y [] H B = tt
not_beyond y (x ∷ xs) H B = ((H.0, or_left (lt y.distance x.distance) _ B.0), not_beyond y xs H.1 B.1)

behind-last : (x : Neighbor) (xs : List Neighbor) (z : Neighbor) → AllHoldable (x ∷ xs) → Ascending (x ∷ xs) → All (λ (w : Neighbor). before (get_or (x ∷ xs) (length xs) z) w ≡ false) (x ∷ xs)
behind-last x [] z H S = (irreflexive x H.0, tt)
behind-last x (y ∷ ys) z H S = (none_at x (y ∷ ys) (length ys) z S.0 (omega arith), behind-last y ys z H.1 S.1)

pub best_near : (xs : List Neighbor) → 1 ≤ length xs → AllHoldable xs → Ascending xs → All (Near (farthest xs)) xs
unfolding farthest
best_near [] h H S = absurd (omega arith)
best_near (x ∷ xs) h H S =
    let e : suc (length xs) - 1 ≡ length xs = omega arith in
    subst (λ (k : ℕ). All (Near (get_or (x ∷ xs) k (neighbor 0 zero32)).distance) (x ∷ xs)) (sym e)
    (not_beyond (get_or (x ∷ xs) (length xs) (neighbor 0 zero32)) (x ∷ xs) H (behind-last x xs (neighbor 0 zero32) H S))

pub farthest-held : (xs : List Neighbor) → 1 ≤ length xs → AllHoldable xs → Holdable (farthest xs)
unfolding farthest
farthest-held xs h H = holdable_at xs (length xs - 1) (neighbor 0 zero32) H (omega arith)

pub record Rising (xs : List Neighbor) : Type 0 where
  pub held : AllHoldable xs
  pub rising : Ascending xs

pub rising_these : (far : Float) (es : List Neighbor) (t : Taken) → All (Near far) es → Rising t.best → Rising (take_these es t).best
unfolding take_these joins
rising_these far [] t E r = r
rising_these far (e ∷ es) t E r = go (too_far e t.best) (rising_these far es (joins e t) E.1 (joined e t E.0.0 r))
  where
    joined : (e : Neighbor) (t : Taken) → Holdable e.distance → Rising t.best → Rising (joins e t).best
    joined e t h r =
        let xs = take (length t.best - 1) t.best in
        let H = holdable_take (length t.best - 1) t.best r.held in
        record { held = holdable_insert e xs h H; rising = ascending-insert e xs h H (ascending-take (length t.best - 1) t.best r.rising) }

    go : (b : Bool) → Rising (take_these es (joins e t)).best → Rising (cond b t (take_these es (joins e t))).best
    go true q = r
    go false q = q
