-- The state that the calls leave is the encoding of the relay that the moves leave. Assumes nothing.
use mathlib.Core.Path.{◌≡◌, refl, ap, ◌∙◌, subst}
use mathlib.Core.Bool.{Bool, true, false, cond}
use mathlib.Core.List.{List, [], ◌∷◌}
use Prim.Native.Nat.{ℕ, ◌≤◌}
use native.Mathlib.Omega.{arith}
use Rattle.rules.specs.Loops.{through}
use Rattle.rules.specs.Refusals.{Code, no_refusal, Row, Decision, passed, refused, decide, row1, row2, row3, row4, row6, row9, row10_of_jobs, row12}
use Rattle.rules.specs.Calls.{open_rows}
use Rattle.rules.specs.Relay.{Relay, moved}
use Rattle.rules.specs.RelayPlaces.{relay_state, relay_state_floats}
use Rattle.rules.specs.RelayCall.{OpenLent, open_table, opened_on, open_obeys, open_rule, MoveOutcome}
use Rattle.lists.specs.All.{All}
use Rattle.encoded.specs.Words.{Binary32}
use Rattle.relay_kept.specs.Formed.{Formed}
use Rattle.relay_kept.specs.Calls.{Sizes}
use Rattle.relay_kept.proofs.Calls.{move_leaves, move_refused}
use Rattle.relay_kept.proofs.Opening.{open_formed, passed_open}
use Rattle.orders.specs.Runs.{idle, moved_if, ran}
use Rattle.orders.specs.Demand3.{State, at_opening, move_of, after_move, after}
use Rattle.orders.proofs.Runs.{idle-false, if_formed}

-- ---- open answers exactly when its rows pass

pub record Opens (l : OpenLent) : Type 0 where
  pub answers : (open_rule l).said ≡ no_refusal
  pub floats : Binary32 l.distances

numbered : (rs : List Row) (c : Code) → All (λ (r : Row). 1 ≤ r.gives.number) rs → decide rs ≡ refused c → 1 ≤ c.number
unfolding decide
numbered [] c N h = let z : ◌≡◌ {A = ℕ} 0 1 = cc in absurd (omega arith)
numbered (r ∷ rs) c N h = go r.test h (numbered rs c N.1)
  where
    go : (b : Bool) → cond b (refused r.gives) (decide rs) ≡ refused c → (decide rs ≡ refused c → 1 ≤ c.number) → 1 ≤ c.number
    go true h ih = let e : r.gives ≡ c = (cc) in subst (λ (x : Code). 1 ≤ x.number) e N.0
    go false h ih = ih h

module _ (l : OpenLent) (O : Opens l) where
  pub opens-passed : decide (open_table l) ≡ passed
  unfolding open_rule open_obeys open_table open_rows row1 row2 row3 row4 row6 row9 row10_of_jobs row12
  opens-passed = go (decide (open_table l)) refl O.answers
    where
      go : (d : Decision) → decide (open_table l) ≡ d → (open_obeys l d).said ≡ no_refusal → d ≡ passed
      go passed e h = refl
      go (refused c) e h =
          let m = numbered (open_table l) c (omega arith, (omega arith, (omega arith, (omega arith, (omega arith, (omega arith, (omega arith, (omega arith, tt)))))))) e in
          let z : c.number ≡ 0 = ap (λ (x : Code). x.number) h in
          absurd (omega arith)

  pub sizes : Sizes l.n l.k
  sizes = (passed_open l O.floats opens-passed).sizes

  pub opening-formed : Formed l.n l.k (opened_on l)
  opening-formed = open_formed l O.floats opens-passed

  -- ---- the state of a relay

  abbrev pub state_of : Relay → State
  state_of r = record { words = relay_state l.k r; floats = relay_state_floats l.k r }

  at-opening : at_opening l ≡ state_of (opened_on l)
  unfolding open_rule open_obeys
  at-opening = rw opens-passed

  -- one move
  after_move_lem : (r : Relay) (i : ℕ) → Formed l.n l.k r → after_move l i (state_of r) ≡ state_of (moved_if l.k r i)
  unfolding after_move moved_if
  after_move_lem r i F = go (idle r i) refl
    where
      state : MoveOutcome → State
      state o = record { words = o.state_u; floats = o.state_f }

      go : (b : Bool) → idle r i ≡ b → state (move_of l i (state_of r)) ≡ state_of (cond b r (moved l.k r i))
      go true e = ap state (move_refused sizes r F i e)
      go false e = let x = idle-false r i e in ap state (move_leaves sizes r F i x.0 x.1)

  after-all : (order : List ℕ) (r : Relay) → Formed l.n l.k r → through (after_move l) order (state_of r) ≡ state_of (ran l.k order r)
  unfolding through ran
  after-all [] r F = refl
  after-all (i ∷ order) r F =
      ap (through (after_move l) order) (after_move_lem r i F) ∙ after-all order (moved_if l.k r i) (if_formed r i F)

  pub after_is : (order : List ℕ) → after l order ≡ state_of (ran l.k order (opened_on l))
  unfolding after
  after_is order = ap (through (after_move l) order) at-opening ∙ after-all order (opened_on l) opening-formed
