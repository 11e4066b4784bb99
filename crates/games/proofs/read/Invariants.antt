-- `games::read` meets its contract: what is left says what the whole says. Assumes nothing.
use Rattle.std.proofs.Common.{◌≡◌, ◌-◌}
use Rattle.games.specs.Games.{lines_read, file_read}
use Rattle.games.proofs.read.Given as goal

abbrev pub invariant-loop-line : goal.invariant-loop-line
invariant-loop-line l = lines_read (65536 - l._line) l.text l.g l.wholes l.values ≡ file_read l.text l.initial.wholes l.initial.values
