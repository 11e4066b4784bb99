-- `cases::read_words` meets its contract. Assumes nothing.
use Rattle.std.proofs.Common.{◌∙◌, rules}
use Rattle.std.proofs.lemmas.List.{map-id}
use Rattle.cases.proofs.read_words.Goals as goal

pub returns-clause-out_after : goal.returns-clause-out_after
returns-clause-out_after c = c.read_all.ensures.out_after (λ x. x) (λ x r fits e. search rules) ∙ map-id _
