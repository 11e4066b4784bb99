-- The line of a call. Assumes nothing.
use Rattle.std.specs.Prelude.{Ok, Err, ℕ, List, ◌++◌, Float}
use Rattle.rules.specs.Answers.{Answer}
use Rattle.pages.specs.Page.{bytes}
use Rattle.refusals.specs.Junk.{left_of}
use Rattle.refusals.specs.Texts.{refusal_text, left_text}
use Rattle.refusals_open.specs.Left.{refused_left}

-- Behind the case's number: what was answered, and what became of the lent places, where the call is done of scratch alone
unfoldable pub rest_text : Answer → List ℕ → List Float → List ℕ → List Float → List ℕ
rest_text (Ok _) words floats us fs = bytes ": done" ++ left_text (left_of us fs)
rest_text (Err r) words floats us fs = refusal_text r ++ left_text (refused_left words floats us fs)
