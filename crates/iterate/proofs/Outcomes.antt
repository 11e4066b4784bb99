-- What an iteration leaves: refused, or iterated, and then well formed. Assumes nothing.
use mathlib.Core.Path.{◌≡◌, refl, sym, ap, ◌∙◌}
use mathlib.Core.Bool.{Bool, true, false, cond}
use mathlib.Core.List.{List, [], ◌∷◌}
use Prim.Native.Nat.{ℕ}
use native.Mathlib.Omega.{arith}
use borrow.Author.Tests.{not-true}
use lib.ListN.{length, replicate}
use lib.Ieee.{Float}
use Rattle.std.specs.Prelude.{Ok, Err}
use Rattle.rules.specs.Answers.{Answer, IterateAnswer}
use Rattle.rules.specs.declared.Refusal.{Refusal}
use Rattle.rules.specs.declared.Refusal.TheVariants.{State}
use Rattle.rules.specs.Distance.{between, zero32}
use Rattle.rules.specs.Refusals.{Code, Row, Decision, passed, refused, code_of, said_of, decide, decision_of, row1, row2, row3, row4, row6, row10, row11, row12}
use Rattle.rules.specs.Calls.{descent_rows, begin_rows, iterate_rows}
use Rattle.rules.specs.DescentPlaces.{descent_formed}
use Rattle.rules.specs.DescentCall.{DescentLent, descent_kept, descent_written, BeginOutcome, begin_table, begin_obeys, begin_rule, IterateOutcome, iterate_table, iterate_said, iterate_ends, iterate_obeys, iterate_rule}
use Rattle.rules.proofs.Answers.{same_iterate}
use Rattle.lists.specs.All.{All}
use Rattle.encoded.specs.Words.{Binary32}
use Rattle.descent_kept.proofs.Calls.{begin_leaves, iterate_leaves}
use Rattle.descent.specs.Descent.{BegunAll}
use Rattle.descent.proofs.Outcomes.{Same}
use Rattle.iterates.specs.Iterates.{IteratedIn}
use Rattle.iterate.specs.Iterate.{iterate_left, IteratedAll}

module _ (l : DescentLent) where
  pub iterate_refused : {a : Answer} {r : Refusal} → decision_of a ≡ decide (iterate_table l) → a ≡ Err r → IteratedAll l (Err r) l.state_u l.state_f l.scratch_u l.scratch_f
  unfolding iterate_rule iterate_obeys descent_kept iterate_said decision_of
  iterate_refused {a} {r} e f = record { whole = ap (iterate_obeys l) (sym (ap decision_of f) ∙ e) }

  pub no_row : {a : Answer} → decision_of a ≡ decide (iterate_table l) → a ≡ (Ok tt) → decide (iterate_table l) ≡ passed
  unfolding decision_of
  no_row e f = sym e ∙ ap decision_of f

  pub iterate_done : {us ws su : List ℕ} {fs sf : List Float} {cost new : ℕ} → decide (iterate_table l) ≡ passed
      → IteratedIn (between l.lanes l.dimension) l.draws l.n l.k l.s l.state_u l.state_f l.scratch_u us fs ws cost new
      → su ≡ replicate (length ws) 0 → sf ≡ replicate (length l.scratch_f) zero32 → IteratedAll l (Ok (record { cost = cost; new = new })) us fs su sf
  unfolding iterate_rule iterate_obeys iterate_ends descent_written iterate_said
  iterate_done e i p q =
      let a = i.words in
      let b = i.floats in
      let c = i.counted in
      let t = i.totalled in
      let w = i.scratch_long in
      record { whole = rw (e, a, b, c, t, p, w, q) }

-- ---- "show that any two outcomes it allows are equal"

pub two_outcomes : (l : DescentLent) (a b : IterateAnswer) (us us' : List ℕ) (fs fs' : List Float) (su su' : List ℕ) (sf sf' : List Float)
    → IteratedAll l a us fs su sf → IteratedAll l b us' fs' su' sf' → Same IterateAnswer a b us us' fs fs' su su' sf sf'
two_outcomes l a b us us' fs fs' su su' sf sf' p q =
    let e : iterate_left a us fs su sf ≡ iterate_left b us' fs' su' sf' = p.whole ∙ sym q.whole in
    record {
      answer = same_iterate a b (ap (λ (o : IterateOutcome). o.said) e);
      state_u = ap (λ (o : IterateOutcome). o.left.state_u) e;
      state_f = ap (λ (o : IterateOutcome). o.left.state_f) e;
      scratch_u = ap (λ (o : IterateOutcome). o.left.scratch_u) e;
      scratch_f = ap (λ (o : IterateOutcome). o.left.scratch_f) e;
    }

-- ---- what a begin or an iteration leaves, the next iteration does not refuse with 12

-- a row that does not refuse with number m
abbrev Other : ℕ → Row → Type 0
Other m r = r.test ≡ true → r.gives.number ≡ m → ⊥

number_of : Decision → ℕ
number_of passed = 0
number_of (refused c) = c.number

other : (m : ℕ) (rs : List Row) → All (Other m) rs → (c : Code) → decide rs ≡ refused c → c.number ≡ m → ⊥
unfolding decide number_of
other m [] F c h k = let z : ◌≡◌ {A = ℕ} 0 1 = cc in absurd (omega arith)
other m (r ∷ rs) F c h k = go (other m rs F.1 c) r.test refl h
  where
    go : (decide rs ≡ refused c → c.number ≡ m → ⊥) → (b : Bool) → r.test ≡ b → cond b (refused r.gives) (decide rs) ≡ refused c → ⊥
    go more true e g = F.0 e (ap number_of g ∙ k)
    go more false e g = more g k

-- no row gives number 0, so what says 0 has passed
all-passed : (rs : List Row) → All (Other 0) rs → number_of (decide rs) ≡ 0 → decide rs ≡ passed
unfolding number_of
all-passed rs F h = go (decide rs) refl h
  where
    go : (d : Decision) → decide rs ≡ d → number_of d ≡ 0 → d ≡ passed
    go passed e k = refl
    go (refused c) e k = absurd (other 0 rs F c e k)

iterate_number : (l : DescentLent) (d : Decision) → (iterate_obeys l d).said.code.number ≡ number_of d
unfolding iterate_obeys iterate_ends number_of
iterate_number l passed = refl
iterate_number l (refused c) = refl

begin_number : (l : DescentLent) (d : Decision) → (begin_obeys l d).said.number ≡ number_of d
unfolding begin_obeys number_of
begin_number l passed = refl
begin_number l (refused c) = refl

module _ (l : DescentLent) where
  begin_others : All (Other 0) (begin_table l)
  unfolding begin_table begin_rows descent_rows row1 row2 row3 row4 row6 row10 row11
  begin_others = (λ t h. omega arith, (λ t h. omega arith, (λ t h. omega arith, (λ t h. omega arith, (λ t h. omega arith, (λ t h. omega arith, (λ t h. omega arith, tt)))))))

  iterate_others : All (Other 0) (iterate_table l)
  unfolding iterate_table iterate_rows descent_rows row1 row2 row3 row4 row6 row10 row11 row12
  iterate_others = (λ t h. omega arith, (λ t h. omega arith, (λ t h. omega arith, (λ t h. omega arith, (λ t h. omega arith, (λ t h. omega arith, (λ t h. omega arith, (λ t h. omega arith, tt))))))))

  state-others : descent_formed l.n l.k l.state_u l.state_f ≡ true → All (Other 12) (iterate_table l)
  unfolding iterate_table iterate_rows descent_rows row1 row2 row3 row4 row6 row10 row11 row12
  state-others w =
      (λ t h. omega arith, (λ t h. omega arith, (λ t h. omega arith, (λ t h. omega arith, (λ t h. omega arith, (λ t h. omega arith, (λ t h. omega arith, (λ t h. let e = sym w ∙ not-true _ t in let z : ◌≡◌ {A = ℕ} 0 1 = cc in omega arith, tt))))))))

  begun-passed : {us su : List ℕ} {fs sf : List Float} → BegunAll l (Ok tt) us fs su sf → decide (begin_table l) ≡ passed
  unfolding begin_rule said_of
  begun-passed b = all-passed (begin_table l) begin_others (sym (ap (λ (o : BeginOutcome). o.said.number) b.whole ∙ begin_number l (decide (begin_table l))))

  iterated-passed : {us su : List ℕ} {fs sf : List Float} {cost new : ℕ} → IteratedAll l (Ok (record { cost = cost; new = new })) us fs su sf → decide (iterate_table l) ≡ passed
  unfolding iterate_rule iterate_said
  iterated-passed i = all-passed (iterate_table l) iterate_others (sym (ap (λ (o : IterateOutcome). o.said.code.number) i.whole ∙ iterate_number l (decide (iterate_table l))))

  -- a well-formed state is not refused with 12
  pub not-state : descent_formed l.n l.k l.state_u l.state_f ≡ true → {us su : List ℕ} {fs sf : List Float} → IteratedAll l (Err State) us fs su sf → ⊥
  unfolding iterate_rule iterate_said code_of number_of
  not-state w i = go (decide (iterate_table l)) refl (ap (λ (o : IterateOutcome). o.said.code.number) i.whole ∙ iterate_number l (decide (iterate_table l)))
    where
      go : (d : Decision) → decide (iterate_table l) ≡ d → 12 ≡ number_of d → ⊥
      go passed e h = omega arith
      go (refused c) e h = other 12 (iterate_table l) (state-others w) c e (sym h)

-- the same sizes, on the state as it was left
pub record Follows (l next : DescentLent) (us : List ℕ) (fs : List Float) : Type 0 where
  pub nodes : next.n ≡ l.n
  pub places : next.k ≡ l.k
  pub words : next.state_u ≡ us
  pub floats : next.state_f ≡ fs

module _ (l next : DescentLent) {us : List ℕ} {fs : List Float} (f : Follows l next us fs) where
  follows_formed : descent_formed l.n l.k us fs ≡ true → descent_formed next.n next.k next.state_u next.state_f ≡ true
  follows_formed h = let a = f.nodes in let b = f.places in let c = f.words in let d = f.floats in rw (a, b, c, d) h

  pub after_begin : {su us' su' : List ℕ} {sf fs' sf' : List Float} → BegunAll l (Ok tt) us fs su sf → IteratedAll next (Err State) us' fs' su' sf' → ⊥
  after_begin b i =
      let p = ap (λ (o : BeginOutcome). o.left.state_u) b.whole in
      let q = ap (λ (o : BeginOutcome). o.left.state_f) b.whole in
      not-state next (follows_formed (rw (p, q) (begin_leaves l (begun-passed l b)))) i

  -- what an f32 slice holds are values of binary32
  pub after_iterate : {cost new : ℕ} {su us' su' : List ℕ} {sf fs' sf' : List Float} → Binary32 l.state_f → IteratedAll l (Ok (record { cost = cost; new = new })) us fs su sf → IteratedAll next (Err State) us' fs' su' sf' → ⊥
  after_iterate B b i =
      let p = ap (λ (o : IterateOutcome). o.left.state_u) b.whole in
      let q = ap (λ (o : IterateOutcome). o.left.state_f) b.whole in
      not-state next (follows_formed (rw (p, q) (iterate_leaves l B (iterated-passed l b)))) i
