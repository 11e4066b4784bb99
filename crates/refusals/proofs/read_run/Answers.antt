-- `refusals::read_run` meets its contract. Assumes nothing.
use Rattle.std.proofs.Common.{ℕ, List, ◌++◌, length, drop, ap, ◌∙◌, rules}
use Rattle.cases.specs.Text.{size_at}
use Rattle.std.proofs.lemmas.List.{map-id}
use Rattle.refusals.specs.Given.{run_in}
use Rattle.refusals.proofs.read_run.Goals as goal

pub returns-clause-out_after : goal.returns-clause-out_after
unfolding run_in
returns-clause-out_after c =
    let s = size_at (length c.args.out.now) c.args.text.now c.args.c in
    c.read_run_of.ensures.out_after (λ x. x) (λ x r fits e. search rules) ∙ ap (λ (ws : List ℕ). ws ++ drop s.value c.args.out.now) (map-id _)
