-- `replays::compare` meets its contract: what is left says what the whole says. Assumes nothing.
use Rattle.std.proofs.Common.{◌≡◌, ◌-◌, length, drop}
use Rattle.cases.specs.Text.{words_at, behind}
use Rattle.replays.specs.Compare.{apart}
use Rattle.replays.proofs.Laws.{behind_place}
use Rattle.replays.proofs.compare.Given as goal

abbrev pub invariant-loop-i : goal.invariant-loop-i
invariant-loop-i l = record {
  at : behind_place l.i (apart (drop l.i l.ours) (words_at (length l.ours - l.i) l.text l.cursor)) ≡ apart l.ours (words_at (length l.ours) l.text l.initial.cursor);
  place : behind (length l.ours - l.i) l.text l.cursor ≡ behind (length l.ours) l.text l.initial.cursor;
}
