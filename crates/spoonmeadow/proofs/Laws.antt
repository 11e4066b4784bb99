-- An answer over the C boundary says what the entry's answer says, so the entry's equation holds of it. Assumes nothing.
use mathlib.Core.Path.{◌≡◌, ap, ◌∙◌}
use mathlib.Core.List.{List}
use Prim.Native.Nat.{ℕ}
use lib.Ieee.{Float}
use Rattle.rules.specs.Answers.{Answer, SearchAnswer, IterateAnswer}
use Rattle.rules.specs.Refusals.{Code, said_of}
use Rattle.rules.specs.BuildCall.{BuildLent}
use Rattle.rules.specs.SearchCall.{SearchLent, SearchSaid, search_said}
use Rattle.rules.specs.DescentCall.{DescentLent, IterateSaid, iterate_said}
use Rattle.rules.specs.RelayCall.{OpenLent, MoveLent, CloseLent}
use Rattle.build.specs.Build as build
use Rattle.search.specs.Search as search
use Rattle.descent.specs.Descent as descent
use Rattle.iterate.specs.Iterate as iterate
use Rattle.relay_opening.specs.Opening as opening
use Rattle.relay_move.specs.Move as move_job
use Rattle.relay_close.specs.Close as close
use Rattle.answers.specs.declared.Said.{Said}
use Rattle.answers.specs.declared.Found.{Found}
use Rattle.answers.specs.declared.Iterated.{Iterated}
use Rattle.answers.specs.Answers.{code_in, found_in, iterated_in}
use Rattle.spoonmeadow.specs.Across.{Built, Searched, Begun, IteratedOnce, Opened, Moved, Closed}

pub built : {l : BuildLent} {a : Answer} {s : Said} {graph su : List ℕ} {sf : List Float} → code_in s ≡ said_of a
    → build.Built l a graph su sf → Built l s graph su sf
built {l} {a} {s} {graph} {su} {sf} e b =
    record { whole = ap (λ (said : Code). record { said = said; graph = graph; scratch_u = su; scratch_f = sf }) e ∙ b.whole }

pub searched : {l : SearchLent} {a : SearchAnswer} {f : Found} {nodes bits su : List ℕ} {sf : List Float} → found_in f ≡ search_said a
    → search.Searched l a nodes bits su sf → Searched l f nodes bits su sf
searched {l} {a} {f} {nodes} {bits} {su} {sf} e s =
    record {
      whole =
          ap (λ (said : SearchSaid). record { said = said; result_nodes = nodes; result_bits = bits; scratch_u = su; scratch_f = sf }) e
          ∙ s.whole;
    }

pub begun : {l : DescentLent} {a : Answer} {s : Said} {us : List ℕ} {fs : List Float} {su : List ℕ} {sf : List Float} → code_in s ≡ said_of a
    → descent.BegunAll l a us fs su sf → Begun l s us fs su sf
begun {l} {a} {s} {us} {fs} {su} {sf} e b =
    record { whole = ap (λ (said : Code). record { said = said; left = descent.left us fs su sf }) e ∙ b.whole }

pub iterated : {l : DescentLent} {a : IterateAnswer} {i : Iterated} {us : List ℕ} {fs : List Float} {su : List ℕ} {sf : List Float} → iterated_in i ≡ iterate_said a
    → iterate.IteratedAll l a us fs su sf → IteratedOnce l i us fs su sf
iterated {l} {a} {i} {us} {fs} {su} {sf} e b =
    record { whole = ap (λ (said : IterateSaid). record { said = said; left = descent.left us fs su sf }) e ∙ b.whole }

pub opened : {l : OpenLent} {a : Answer} {s : Said} {us : List ℕ} {fs : List Float} {su : List ℕ} {sf : List Float} → code_in s ≡ said_of a
    → opening.Opened l a us fs su sf → Opened l s us fs su sf
opened {l} {a} {s} {us} {fs} {su} {sf} e o =
    record { whole = ap (λ (said : Code). record { said = said; state_u = us; state_f = fs; scratch_u = su; scratch_f = sf }) e ∙ o.whole }

pub moved : {l : MoveLent} {a : Answer} {s : Said} {us : List ℕ} {fs : List Float} → code_in s ≡ said_of a
    → move_job.Moved l a us fs → Moved l s us fs
moved {l} {a} {s} {us} {fs} e m =
    record { whole = ap (λ (said : Code). record { said = said; state_u = us; state_f = fs }) e ∙ m.whole }

pub closed : {l : CloseLent} {a : Answer} {s : Said} {nodes : List ℕ} {distances : List Float} {reports : List ℕ} → code_in s ≡ said_of a
    → close.Closed l a nodes distances reports → Closed l s nodes distances reports
closed {l} {a} {s} {nodes} {distances} {reports} e b =
    record { whole = ap (λ (said : Code). record { said = said; nodes = nodes; distances = distances; reports = reports }) e ∙ b.whole }
