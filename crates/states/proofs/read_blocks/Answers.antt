-- What the search leaves of `states::read_blocks`.
use Rattle.std.proofs.Common.{◌≡◌, ◌+◌, ◌-◌, ◌*◌, ℕ, length, set, ap, ◌∙◌, arith, length-set, length-take, length-drop, rules}
use borrow.Rule.Slice.PartMut.{mid_of}
use Rattle.cases.specs.Text.{words_at, behind}
use Rattle.states.proofs.Reading.{blocks_none, blocks_turn, blocks_end, blocks-short}
use Rattle.states.specs.Read.{filled}
use Rattle.states.proofs.read_blocks.Goals as goal

pub loop-i-init : goal.loop-i-init
loop-i-init c = blocks_none _ _ _

pub loop-i-preserved : goal.loop-i-preserved
loop-i-preserved c =
    let s = c.read_size-length in
    let r = c.read_words-cursor in
    let v = s.result.value in
    let few = s.ensures.value_le_most in
    let at = 65 * c.loop-i.i in
    let out = set c.loop-i.out at v in
    let part : at + 1 + v - (at + 1) ≡ v = omega arith in
    let room : length (mid_of (at + 1) (at + 1 + v - (at + 1)) out) ≡ v = simp (length-take, length-drop, length-set) (omega arith) in
    let ws = r.ensures.out_after ∙ ap (λ (n : ℕ). words_at n c.args.text.now s.result.cursor) room in
    let there = r.ensures.value ∙ ap (λ (n : ℕ). behind n c.args.text.now s.result.cursor) room in
    rw part (blocks_turn _ _ _ _ _ _ c.loop-i.invariant s.result s.ensures.value few (search rules) r.new.out r.result ws there)

pub returns-then-out-ne0 : goal.returns-then-out-ne0
returns-then-out-ne0 c = ap (filled _) c.faulted.ensures ∙ blocks-short _ _ _ _ _ _ c.loop-i.invariant (search rules) c.if-out-ne0.true

pub returns : goal.returns
returns c = blocks_end _ _ _ _ _ _ c.loop-i.invariant (search rules) c.if-out-ne0.false
