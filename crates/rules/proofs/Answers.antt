-- What an answer says determines the answer. Assumes nothing.
use mathlib.Core.Path.{◌≡◌, refl, sym, ap, ◌∙◌}
use mathlib.Core.Bool.{false, cond}
use lib.Dec.{eqb}
use Rattle.std.specs.Prelude.{Ok, Err}
use Rattle.rules.specs.declared.Refusal.{Refusal}
use Rattle.rules.specs.declared.Refusal.TheVariants.{Dimension, Nodes, Lanes, Parameter, Threshold, Buffer, Root, Query, Job, Pair, Draws, State, Step}
use Rattle.rules.specs.Answers.{Answer, SearchAnswer, IterateAnswer}
use Rattle.rules.specs.Refusals.{Code, code_of, said_of}
use Rattle.rules.specs.SearchCall.{SearchSaid, search_said}
use Rattle.rules.specs.DescentCall.{IterateSaid, iterate_said}

-- the refusal of a number and its places
refusal_of : Code → Refusal
refusal_of c =
    cond (eqb c.number 1) Dimension
    (cond (eqb c.number 2) Nodes
    (cond (eqb c.number 3) Lanes
    (cond (eqb c.number 4) Parameter
    (cond (eqb c.number 5) Threshold
    (cond (eqb c.number 6) Buffer
    (cond (eqb c.number 7) (Root c.first)
    (cond (eqb c.number 8) Query
    (cond (eqb c.number 9) (Job c.first)
    (cond (eqb c.number 10) (Pair (record { 0 = c.first }) (record { 0 = c.second }))
    (cond (eqb c.number 11) Draws (cond (eqb c.number 12) State (Step c.first))))))))))))

-- a refusal is told by its number and places, and none has number 0
known : (r : Refusal) → (refusal_of (code_of r) ≡ r) × (eqb (code_of r).number 0 ≡ false)
unfolding code_of refusal_of
known Dimension = (refl, refl)
known Nodes = (refl, refl)
known Lanes = (refl, refl)
known Parameter = (refl, refl)
known Threshold = (refl, refl)
known Buffer = (refl, refl)
known (Root at) = (refl, refl)
known Query = (refl, refl)
known (Job at) = (refl, refl)
known (Pair i j) = (refl, refl)
known Draws = (refl, refl)
known State = (refl, refl)
known (Step job) = (refl, refl)

answer_of : Code → Answer
answer_of c = cond (eqb c.number 0) (Ok tt) (Err (refusal_of c))

answer_back : (a : Answer) → answer_of (said_of a) ≡ a
unfolding said_of answer_of
answer_back (Ok _) = refl
answer_back (Err r) = rw (known r).1 (ap Err (known r).0)

pub same_answer : (a b : Answer) → said_of a ≡ said_of b → a ≡ b
same_answer a b e = sym (answer_back a) ∙ ap answer_of e ∙ answer_back b

search_of : SearchSaid → SearchAnswer
search_of s = cond (eqb s.code.number 0) (Ok (record { m = s.m; takings = s.takings })) (Err (refusal_of s.code))

search_back : (a : SearchAnswer) → search_of (search_said a) ≡ a
unfolding search_said search_of
search_back (Ok c) = refl
search_back (Err r) = rw (known r).1 (ap Err (known r).0)

pub same_search : (a b : SearchAnswer) → search_said a ≡ search_said b → a ≡ b
same_search a b e = sym (search_back a) ∙ ap search_of e ∙ search_back b

iterate_of : IterateSaid → IterateAnswer
iterate_of s = cond (eqb s.code.number 0) (Ok (record { cost = s.cost; new = s.new })) (Err (refusal_of s.code))

iterate_back : (a : IterateAnswer) → iterate_of (iterate_said a) ≡ a
unfolding iterate_said iterate_of
iterate_back (Ok c) = refl
iterate_back (Err r) = rw (known r).1 (ap Err (known r).0)

pub same_iterate : (a b : IterateAnswer) → iterate_said a ≡ iterate_said b → a ≡ b
same_iterate a b e = sym (iterate_back a) ∙ ap iterate_of e ∙ iterate_back b
