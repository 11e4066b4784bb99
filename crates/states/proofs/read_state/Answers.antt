-- `states::read_state` meets its contract. Assumes nothing.
use Rattle.std.proofs.Common.{◌≡◌, ◌+◌, ◌-◌, ◌++◌, length, ap, arith, le-ltb, lt-ltb}
use Rattle.cases.specs.Text.{words_at, behind}
use Rattle.states.specs.Read.{State, state, state_at}
use Rattle.states.proofs.read_state.Goals as goal

pub returns-then-words-marks : goal.returns-then-words-marks
unfolding state_at
returns-then-words-marks c =
    rw (← c.area-lists.ensures.value, ← c.area.ensures.value, lt-ltb _ _ c.if-words-marks.true, c.faulted.ensures)

pub returns : goal.returns
unfolding state_at
returns c =
    let text = c.args.text.now in
    let marks = c.area-lists.result + c.area.result in
    let s = c.split_at_mut-front.ensures in
    let w = c.read_words.ensures in
    let pairs = length c.args.words.now - marks in
    let long : length c.split_at_mut-front.result.1.now ≡ pairs = omega (arith, s.back_len) in
    let front = rw s.front at c.read_lists-cursor.ensures in
    rw (← c.area-lists.ensures.value, ← c.area.ensures.value, le-ltb _ _ c.if-words-marks.false, w.out_after, w.value, long)
    (ap (λ (r : State). state (r.words ++ words_at pairs text r.cursor) r.floats (behind pairs text r.cursor)) front)
