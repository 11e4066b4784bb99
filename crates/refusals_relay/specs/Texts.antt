-- The lines of a move and of a close. Assumes nothing.
use Rattle.std.specs.Prelude.{Ok, Err, ℕ, List, ◌++◌, take, Float}
use Rattle.rules.specs.Answers.{Answer}
use Rattle.pages.specs.Page.{bytes}
use Rattle.refusals.specs.Texts.{refusal_text, left_text, words_text}
use Rattle.refusals_relay.specs.Left.{refused_left, done_left}

-- What a move answered
unfoldable pub moved_text : Answer → List ℕ
moved_text (Ok _) = bytes ": moved"
moved_text (Err r) = refusal_text r

-- What a close answered, with the two reports of each of the four jobs, and what became of the lent places
unfoldable pub closed_text : Answer → List ℕ → List Float → List ℕ → List ℕ
closed_text (Ok _) nodes dists reports = bytes ": reports" ++ words_text (take 8 reports) ++ left_text (done_left reports)
closed_text (Err r) nodes dists reports = refusal_text r ++ left_text (refused_left nodes dists reports)
