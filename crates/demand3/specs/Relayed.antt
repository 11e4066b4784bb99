-- Demand 3 of the calls: a relay opened, moved and closed by calls of which each meets its entry's contract and nothing else is known, and what the
-- request says of the bytes that were handed back. The sentences are quoted in crates/orders/specs/Demand3.antt, which says the same of the rules. Assumes nothing.
use Rattle.std.specs.Prelude.{Ok, Err, ◌≡◌, false, List, [], ◌∷◌, ◌++◌, ℕ, ◌+◌, ◌*◌, ◌≤◌, ◌<◌, eqb, get_or, Float}
use Rattle.rules.specs.declared.Neighbor.{Neighbor}
use Rattle.rules.specs.Answers.{Answer}
use Rattle.rules.specs.declared.Refusal.TheVariants as refusal
use Rattle.rules.specs.Lists.{neighbor, least}
use Rattle.rules.specs.Descent.{list_at}
use Rattle.rules.specs.Places.{lists_in}
use Rattle.rules.specs.RelayCall.{OpenLent}
use Rattle.orders.specs.Runs.{count}
use Rattle.orders.specs.Least.{IsLeast}
use Rattle.orders.specs.Demand3.{State, Room, Finishes, pairs, u, v, apart, held, offered, StandsIn}
use Rattle.relay_opening.specs.Opening.{Opened}
use Rattle.relay_move.specs.Move.{Moved}
use Rattle.relay_move.specs.Move as move
use Rattle.relay_close.specs.Close.{Closed}
use Rattle.relay_close.specs.Close as close

-- a call of `move_job`: the pair that it names, what it answered, and the state as it left it
pub record Move : Type 0 where
  pub job : ℕ
  pub answer : Answer
  pub left : State

-- "the state lent to each call as the last one left it": each call meets the contract of `move_job`
abbrev pub Made : ℕ → ℕ → State → List Move → Type 0
Made n k s [] = Unit {0}
Made n k s (m ∷ ms) = Moved (move.lent n k m.job s.words s.floats) m.answer m.left.words m.left.floats × Made n k m.left ms

-- the state as the last call left it
abbrev pub last : State → List Move → State
last s [] = s
last s (m ∷ ms) = last m.left ms

-- the order: the pair that each call named
abbrev pub order : List Move → List ℕ
order [] = []
order (m ∷ ms) = m.job ∷ order ms

-- calls of open, of `move_job`, and of close, which is lent `room` to write to; each meets its contract
pub record Relayed (l : OpenLent) (ms : List Move) (room : Room l) : Type 0 where
  pub opening : Answer
  pub opened : State
  pub scratch_u : List ℕ
  pub scratch_f : List Float
  pub open_meets : Opened l opening opened.words opened.floats scratch_u scratch_f
  pub moves_meet : Made l.n l.k opened ms
  pub closing : Answer
  pub nodes : List ℕ
  pub distances : List Float
  pub reports : List ℕ
  pub close_meets :
      Closed
      (close.lent l.n l.k (last opened ms).words (last opened ms).floats room.nodes room.distances room.reports)
      closing nodes distances reports

-- w's list as it was handed back
abbrev pub list_of : (l : OpenLent) → List ℕ → List Float → ℕ → List Neighbor
list_of l nodes distances w = list_at (lists_in l.n l.k nodes distances) w

-- "When all are finished, every list holds exactly the least k, by distance and then number, of what it held and what was offered to it, repeats counted."
pub record HandedBack (l : OpenLent) (nodes : List ℕ) (distances : List Float) (reports : List ℕ) : Type 0 where
  pub lists : (w : ℕ) → w < l.n → list_of l nodes distances w ≡ least l.k (held l w ++ offered l w)
  pub exactly : (w : ℕ) → w < l.n → IsLeast l.k (held l w ++ offered l w) (list_of l nodes distances w)
  -- "Which offers were taken up may depend on the order, and is reported": one that ends in its list is
  pub reported_first : (i p : ℕ) → i < pairs l → eqb (u l i) (v l i) ≡ false → StandsIn (list_of l nodes distances (u l i)) p (neighbor (v l i) (apart l i)) → get_or reports (2 * i) 0 ≡ 1
  pub reported_second : (i p : ℕ) → i < pairs l → eqb (u l i) (v l i) ≡ false → StandsIn (list_of l nodes distances (v l i)) p (neighbor (u l i) (apart l i)) → get_or reports (2 * i + 1) 0 ≡ 1

pub record Demand3Calls (l : OpenLent) : Type 0 where
  -- "Open .."
  pub opens : (ms : List Move) (room : Room l) (r : Relayed l ms room) → r.opening ≡ Ok tt
  -- "Let the pairs take their eight locked steps in any order, each pair's own steps in sequence": whatever was called before, a move of a pair is answered
  -- eight times, and refused from then on
  pub moves : (before : List Move) (m : Move) (behind : List Move) (room : Room l) → Relayed l (before ++ (m ∷ behind)) room → m.job < pairs l → count m.job (order before) < 8
      → m.answer ≡ Ok tt
  pub is_over : (before : List Move) (m : Move) (behind : List Move) (room : Room l) → Relayed l (before ++ (m ∷ behind)) room → m.job < pairs l → 8 ≤ count m.job (order before)
      → m.answer ≡ Err (refusal.Step m.job)
  -- "When all are finished", and no sooner, close answers
  pub closes : (ms : List Move) (room : Room l) (r : Relayed l ms room) → Finishes l (order ms) → r.closing ≡ Ok tt
  pub no_sooner : (ms : List Move) (room : Room l) (r : Relayed l ms room) → r.closing ≡ Ok tt → Finishes l (order ms)
  pub handed_back : (ms : List Move) (room : Room l) (r : Relayed l ms room) → Finishes l (order ms) → HandedBack l r.nodes r.distances r.reports
  -- "So no order of the heads changes a list."
  pub same_nodes : (ms others : List Move) (room other : Room l) (r : Relayed l ms room) (s : Relayed l others other) → Finishes l (order ms) → Finishes l (order others) → r.nodes ≡ s.nodes
  pub same_distances : (ms others : List Move) (room other : Room l) (r : Relayed l ms room) (s : Relayed l others other) → Finishes l (order ms) → Finishes l (order others) → r.distances ≡ s.distances
