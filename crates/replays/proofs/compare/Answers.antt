-- What the search leaves of `replays::compare`.
use Rattle.std.proofs.Common.{◌≡◌, ℕ, ◌+◌, ◌-◌, length, sym, ap, ◌∙◌, arith, rules}
use Rattle.cases.specs.Text.{words_at, behind}
use Rattle.cases.proofs.Laws.{behind_turn, behind_none}
use Rattle.replays.proofs.Laws.{from_start, apart-end, apart-here, apart_turn}
use Rattle.replays.specs.Compare.{apart}
use Rattle.replays.proofs.compare.Goals as goal

pub loop-i-init : goal.loop-i-init
loop-i-init c =
    let a = c.args in
    let all : length a.ours.now - 0 ≡ length a.ours.now = omega arith in
    record {
      at = from_start _ ∙ ap (λ (n : ℕ). apart a.ours.now (words_at n a.text.now a.c)) all;
      place = ap (λ (n : ℕ). behind n a.text.now a.c) all;
    }

pub returns-then-w-x : goal.returns-then-w-x
returns-then-w-x c =
    let w = c.read_word-w in
    let next : length c.args.ours.now - c.loop-i.i - 1 ≡ length c.args.ours.now - (c.loop-i.i + 1) = omega arith in
    record {
      at_value = sym (apart-here _ _ _ _ w.result w.ensures (search rules) c.if-w-x.true) ∙ c.loop-i.invariant.at;
      cursor_value = c.pass.ensures ∙ ap (λ (n : ℕ). behind n c.args.text.now w.result.cursor) next ∙ behind_turn _ _ _ _ w.result w.ensures (search rules) ∙ c.loop-i.invariant.place;
    }

pub loop-i-preserved : goal.loop-i-preserved
loop-i-preserved c =
    let w = c.read_word-w in
    record {
      at = apart_turn c.args.ours.now c.loop-i.i _ _ w.result w.ensures (search rules) c.if-w-x.false ∙ c.loop-i.invariant.at;
      place = behind_turn (length c.args.ours.now) c.loop-i.i _ _ w.result w.ensures (search rules) ∙ c.loop-i.invariant.place;
    }

pub returns : goal.returns
returns c =
    record {
      at_value = sym (apart-end c.args.ours.now c.loop-i.i c.args.text.now c.loop-i.cursor (search rules)) ∙ c.loop-i.invariant.at;
      cursor_value = behind_none _ _ _ (omega arith) ∙ c.loop-i.invariant.place;
    }
