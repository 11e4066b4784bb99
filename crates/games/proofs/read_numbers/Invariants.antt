-- `games::read_numbers` meets its contract: what is left says what the whole says. Assumes nothing.
use Rattle.std.proofs.Common.{◌≡◌, ◌-◌}
use Rattle.games.specs.Games.{filled, numbers_put}
use Rattle.games.proofs.read_numbers.Given as goal

abbrev pub invariant-loop-i : goal.invariant-loop-i
invariant-loop-i g l =
    filled (g.T.Number.number l.text) l.text l.g (l.end - l.i) l.at l.i l.xs
    ≡ numbers_put (g.T.Number.number l.text) l.text l.g l.first l.end l.initial.xs
