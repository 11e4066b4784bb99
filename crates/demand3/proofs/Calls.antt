-- What a call's contract says of the rules: the states that calls leave are those that the rules leave. Assumes nothing.
use mathlib.Core.Path.{◌≡◌, refl, ap, ◌∙◌}
use mathlib.Core.List.{List, [], ◌∷◌, ◌++◌}
use Rattle.std.specs.Prelude.{Ok, Err}
use Rattle.rules.specs.Answers.{Answer}
use Rattle.rules.specs.declared.Refusal.{Refusal}
use Rattle.rules.specs.Loops.{through}
use Rattle.rules.specs.Refusals.{code_of, no_refusal, said_of}
use Rattle.rules.specs.RelayCall.{OpenLent, OpenOutcome, open_rule, MoveOutcome, close_rule}
use Rattle.rules.proofs.Answers.{same_answer}
use Rattle.orders.specs.Demand3.{State, at_opening, move_of, after_move, after, Room, closed}
use Rattle.relay_move.specs.Move.{Moved}
use Rattle.relay_move.specs.Move as move
use Rattle.relay_close.specs.Close.{close_left}
use Rattle.relay_close.specs.Close as close
use Rattle.demand3.specs.Relayed.{Move, Made, last, order, Relayed}

-- an answer is known by what it says
pub is-done : (a : Answer) → said_of a ≡ no_refusal → a ≡ (Ok tt)
unfolding said_of
is-done a h = same_answer a (Ok tt) h

pub is-refused : (a : Answer) (r : Refusal) → said_of a ≡ code_of r → a ≡ Err r
unfolding said_of
is-refused a r h = same_answer a (Err r) h

-- a call lent the state s meets its contract
abbrev pub Meets : OpenLent → State → Move → Type 0
Meets l s m = Moved (move.lent l.n l.k m.job s.words s.floats) m.answer m.left.words m.left.floats

module _ (l : OpenLent) where
  pub said_by : (s : State) (m : Move) → Meets l s m → said_of m.answer ≡ (move_of l m.job s).said
  said_by s m h = ap (λ (o : MoveOutcome). o.said) h.whole

  pub left_by : (s : State) (m : Move) → Meets l s m → m.left ≡ after_move l m.job s
  unfolding after_move
  left_by s m h = ap (λ (o : MoveOutcome). record { words = o.state_u; floats = o.state_f }) h.whole

  -- calls leave what the moves of their order leave
  pub last-is : (s : State) (ms : List Move) → Made l.n l.k s ms → last s ms ≡ through (after_move l) (order ms) s
  unfolding through
  last-is s [] h = refl
  last-is s (m ∷ ms) h = last-is m.left ms h.1 ∙ ap (through (after_move l) (order ms)) (left_by s m h.0)

  -- the calls before one, and that one
  pub made_before : (s : State) (ms : List Move) (m : Move) (behind : List Move) → Made l.n l.k s (ms ++ (m ∷ behind)) → Made l.n l.k s ms
  made_before s [] m behind h = tt
  made_before s (x ∷ ms) m behind h = (h.0, made_before x.left ms m behind h.1)

  pub made_at : (s : State) (ms : List Move) (m : Move) (behind : List Move) → Made l.n l.k s (ms ++ (m ∷ behind)) → Meets l (last s ms) m
  made_at s [] m behind h = h.0
  made_at s (x ∷ ms) m behind h = made_at x.left ms m behind h.1

  module _ (ms : List Move) (room : Room l) (r : Relayed l ms room) where
    pub opened-is : r.opened ≡ at_opening l
    opened-is = ap (λ (o : OpenOutcome). record { words = o.state_u; floats = o.state_f }) r.open_meets.whole

    pub opening-said : said_of r.opening ≡ (open_rule l).said
    opening-said = ap (λ (o : OpenOutcome). o.said) r.open_meets.whole

    -- the state that close is lent, and what it hands back
    pub end_is : last r.opened ms ≡ after l (order ms)
    unfolding after
    end_is = last-is r.opened ms r.moves_meet ∙ ap (through (after_move l) (order ms)) opened-is

    pub closed_is : close_left r.closing r.nodes r.distances r.reports ≡ closed l (order ms) room
    closed_is = r.close_meets.whole ∙ ap (λ (s : State). close_rule (close.lent l.n l.k s.words s.floats room.nodes room.distances room.reports)) end_is

  -- a call in the midst of others is lent the state that the moves before it left
  pub said_at : (before : List Move) (m : Move) (behind : List Move) (room : Room l) → Relayed l (before ++ (m ∷ behind)) room
      → said_of m.answer ≡ (move_of l m.job (after l (order before))).said
  unfolding after
  said_at before m behind room r =
      let made = r.moves_meet in
      let s = r.opened in
      said_by (last s before) m (made_at s before m behind made)
      ∙ ap (λ (x : State). (move_of l m.job x).said)
      (last-is s before (made_before s before m behind made) ∙ ap (through (after_move l) (order before)) (opened-is (before ++ (m ∷ behind)) room r))
