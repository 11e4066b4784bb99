-- `refusals_search::put_results` meets its contract. Assumes nothing.
use Rattle.pages.specs.Page.{bytes}
use Rattle.pages.proofs.Laws.{puts_both}
use Rattle.refusals_search.specs.Texts.{results_text}
use Rattle.refusals_search.proofs.put_results.Goals as goal

pub returns : goal.returns
unfolding results_text bytes
returns c =
    let counts = puts_both c.put_number-found.ensures c.put_number-taken.ensures in
    let nodes = puts_both (puts_both counts c.put-named.ensures) c.put_words-listed.ensures in
    puts_both (puts_both nodes c.put-away.ensures) c.put_words.ensures
