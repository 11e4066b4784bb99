-- `kinds::moves` meets its contract. Assumes nothing.
use Rattle.std.proofs.Common.{rules}
use Rattle.kinds.specs.Kinds.{behind_move}
use Rattle.kinds.proofs.Laws.{move_fault}
use Rattle.kinds.proofs.moves.Goals as goal

pub returns : goal.returns
unfolding behind_move
returns c = c.times.ensures (behind_move c.args.text.now) (record { goes = λ x r e. search rules; stays = move_fault _ })
