-- What the search leaves of `refusals::put_words`.
use Rattle.std.proofs.Common.{ℕ, take, ap, ◌∙◌}
use Rattle.pages.specs.Page.{bytes}
use Rattle.pages.proofs.Laws.{take_clipped, puts_text, puts_both, running_start, running_turn, running_rest, running_end}
use Rattle.refusals.specs.Texts.{words_text}
use Rattle.refusals.proofs.Laws.{words-here, words-over}
use Rattle.refusals.proofs.put_words.Goals as goal

pub loop-word-init : goal.loop-word-init
loop-word-init c = running_start c.put-place.ensures

pub loop-word-preserved : goal.loop-word-preserved
unfolding bytes
loop-word-preserved c = running_turn (running_rest (words-here (take c.min.result c.args.words.now) c.loop-word.word-index c.loop-word-test.true) c.loop-word.invariant) c.put_word-place.ensures

pub returns : goal.returns
returns c =
    let words = c.args.words.now in
    let cut = ap (λ (n : ℕ). take n words) c.min.ensures ∙ take_clipped c.args.count words in
    puts_text (ap words_text cut) (puts_both c.put-place.ensures (running_end (running_rest (words-over (take c.min.result words) c.loop-word.word-index c.loop-word-test.false) c.loop-word.invariant)))
