-- What an answer over the C boundary says. Assumes nothing.
use Rattle.rules.specs.Refusals.{Code, code}
use Rattle.rules.specs.SearchCall.{SearchSaid}
use Rattle.rules.specs.DescentCall.{IterateSaid}
use Rattle.answers.specs.declared.Said.{Said}
use Rattle.answers.specs.declared.Found.{Found}
use Rattle.answers.specs.declared.Iterated.{Iterated}

-- the number and the two places
abbrev pub code_in : Said → Code
code_in s = code s.refusal s.first s.second

abbrev pub found_in : Found → SearchSaid
found_in f = record { code = code f.refusal f.first f.second; m = f.m; takings = f.takings }

abbrev pub iterated_in : Iterated → IterateSaid
iterated_in i = record { code = code i.refusal i.first i.second; cost = i.cost; new = i.total }
