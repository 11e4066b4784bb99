-- Demand 3 of the calls (`specs/Relayed.antt` states it), from demand 3 of the rules and the calls' contracts. Assumes nothing.
use mathlib.Core.Path.{◌≡◌, sym, ap, ◌∙◌, subst}
use mathlib.Core.List.{List}
use Rattle.rules.specs.declared.Refusal.TheVariants as refusal
use Rattle.rules.specs.Refusals.{code_of, said_of}
use Rattle.rules.specs.RelayCall.{OpenLent, CloseOutcome}
use Rattle.orders.specs.Demand3.{Asked, Room, closed, Finished, Demand3}
use Rattle.orders.proofs.Demand3.{demand3}
use Rattle.demand3.specs.Relayed.{Move, order, Relayed, HandedBack, Demand3Calls}
use Rattle.demand3.proofs.Calls.{is-done, is-refused, opening-said, closed_is, said_at}

-- what close is said to write is what was handed back
handed : (l : OpenLent) (ms : List Move) (room : Room l) (r : Relayed l ms room) → Finished l (order ms) room → HandedBack l r.nodes r.distances r.reports
handed l ms room r f = subst (λ (o : CloseOutcome). HandedBack l o.nodes o.distances o.reports) (sym (closed_is l ms room r)) written
  where
    written : HandedBack l (closed l (order ms) room).nodes (closed l (order ms) room).distances (closed l (order ms) room).reports
    written = record { lists = f.lists; exactly = f.exactly; reported_first = f.reported_first; reported_second = f.reported_second }

module _ (l : OpenLent) (D : Demand3 l) where
  closing-said : (ms : List Move) (room : Room l) (r : Relayed l ms room) → said_of r.closing ≡ (closed l (order ms) room).said
  closing-said ms room r = ap (λ (o : CloseOutcome). o.said) (closed_is l ms room r)

  of_calls : Demand3Calls l
  unfolding said_of code_of
  of_calls =
      record {
        opens = λ (ms : List Move) (room : Room l) (r : Relayed l ms room). is-done r.opening (opening-said l ms room r ∙ D.opens);
        moves = λ before m behind room r inside few. is-done m.answer (said_at l before m behind room r ∙ D.succeeds (order before) m.job inside few);
        is_over = λ before m behind room r inside many. is-refused m.answer (refusal.Step m.job) (said_at l before m behind room r ∙ D.is_over (order before) m.job inside many);
        closes = λ ms room r fin. is-done r.closing (closing-said ms room r ∙ (D.finished (order ms) fin room).answers);
        no_sooner = λ ms room r done. D.finishes (order ms) room (sym (closing-said ms room r) ∙ ap said_of done);
        handed_back = λ ms room r fin. handed l ms room r (D.finished (order ms) fin room);
        same_nodes = λ ms others room other r s f g.
            ap (λ (o : CloseOutcome). o.nodes) (closed_is l ms room r) ∙ D.same_nodes (order ms) (order others) f g room other
            ∙ sym (ap (λ (o : CloseOutcome). o.nodes) (closed_is l others other s));
        same_distances = λ ms others room other r s f g.
            ap (λ (o : CloseOutcome). o.distances) (closed_is l ms room r) ∙ D.same_distances (order ms) (order others) f g room other
            ∙ sym (ap (λ (o : CloseOutcome). o.distances) (closed_is l others other s));
      }

-- the request's demand 3, of the calls
pub demand3_calls : (l : OpenLent) → Asked l → Demand3Calls l
demand3_calls l A = of_calls l (demand3 l A)
