-- What the search leaves of `relays::compare_bits`.
use Rattle.relays.proofs.Laws.{counting_end, counting_same, counting_other}
use Rattle.relays.proofs.compare_bits.Goals.{then-w-bits_of, else-w-bits_of}
use Rattle.relays.proofs.compare_bits.Goals as goal

pub loop-x-preserved : goal.loop-x-preserved
loop-x-preserved c =
    let text = c.args.text.now in
    let l = c.loop-x in
    let w = c.read_word-w in
    elim c.if-w-bits_of.branch [
      | then-w-bits_of b ↦ rw b.value-is (counting_same text c.args.ours.now c.args.c l.x-index l.value l.cursor l.invariant w.result w.ensures c.loop-x-test.true c.bits_of.result c.bits_of.ensures b.if-w-bits_of.true)
      | else-w-bits_of b ↦ rw b.value-is (counting_other text c.args.ours.now c.args.c l.x-index l.value l.cursor l.invariant w.result w.ensures c.loop-x-test.true c.bits_of.result c.bits_of.ensures b.if-w-bits_of.false)
    ]

pub returns : goal.returns
returns c =
    let l = c.loop-x in
    let both = counting_end c.args.text.now c.args.ours.now c.args.c l.x-index l.value l.cursor l.invariant c.loop-x-test.false in
    record { at_value = both.0; cursor_value = both.1 }
