-- `relay_orders::run::whole` meets its contract. Assumes nothing.
use Rattle.std.proofs.Common.{ℕ, min, ap, ◌∙◌}
use Rattle.relay_orders.proofs.Runs.{whole_made}
use Rattle.relay_orders.proofs.run.whole.Goals as goal

pub returns : goal.returns
returns c =
    c.in_state.ensures
    ∙ whole_made _ _ _ _ _ _ _ _ _ _ (c.min.ensures ∙ ap (λ (x : ℕ). min x 2048) c.words_long.ensures) (c.min-2.ensures ∙ ap (λ (x : ℕ). min x 1024) c.floats_long.ensures)
