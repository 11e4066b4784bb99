-- One turn and the end of each loop over the file of a game. Assumes nothing.
use Rattle.std.proofs.Common.{◌≡◌, ℕ, suc, ◌+◌, ◌-◌, ◌<◌, ◌≤◌, List, length, set, Ok, Err, Result, add-one, arith, le-leb}
use lib.Ieee.{Float}
use borrow.Author.Tests.{lt-leb}
use Rattle.lines.specs.declared.Word.{Word}
use Rattle.lines.specs.Words.{word_at}
use Rattle.games.specs.declared.Fault.{Fault}
use Rattle.games.specs.declared.Fault.TheVariants.{Room}
use Rattle.games.specs.declared.Game.{Game}
use Rattle.games.specs.declared.Wrong.{Wrong}
use Rattle.games.specs.Games.{read_to, wrong, put, filled, read, line_read, next_line, lines_read}

-- Words are put in the places from i up to `end`, and the next stands at `at` or behind.
module _ {A : Type 0} (of : Word → Result A Fault) (text : List ℕ) (g : Game) (end at i : ℕ) (xs : List A) where
  pub filled_none : end ≤ i → filled of text g (end - i) at i xs ≡ put (Ok (read_to g at)) xs
  unfolding filled
  filled_none h =
      let none : end - i ≡ 0 = omega arith in
      rw none

  module _ (h : i < end) where
    more : end - i ≡ suc (end - (i + 1))
    more = omega arith

    pub filled_full : length xs ≤ i → filled of text g (end - i) at i xs ≡ put (Err (wrong g at Room)) xs
    unfolding filled
    filled_full full = rw (more, le-leb (length xs) i full)

    module _ (w : Word) (e : w ≡ word_at text at) (room : i < length xs) where
      pub filled_wrong : (unfit : Fault) → of w ≡ Err unfit → filled of text g (end - i) at i xs ≡ put (Err (wrong g w.start unfit)) xs
      unfolding filled
      filled_wrong unfit bad = rw (more, lt-leb (length xs) i room, ← e, bad)

      pub filled_turn :
          (x : A) → of w ≡ Ok x → filled of text g (end - (i + 1)) w.end (i + 1) (set xs i x) ≡ filled of text g (end - i) at i xs
      unfolding filled
      filled_turn x fits = rw (more, lt-leb (length xs) i room, ← e, fits, add-one)

module _ (text : List ℕ) (done most : ℕ) (g : Game) (wholes : List ℕ) (values : List Float) where
  -- Line `done` is read of `most` at most.
  module _ (h : done < most) where
    left : most - done ≡ suc (most - (done + 1))
    left = omega arith

    pub lines_end : length text ≤ g.place → lines_read (most - done) text g wholes values ≡ read (Ok g) wholes values
    unfolding lines_read
    lines_end end = rw (left, le-leb (length text) g.place end)

    module _ (inside : g.place < length text) where
      pub lines_stop :
          (w : Wrong) (ws : List ℕ) (vs : List Float) → read (Err w) ws vs ≡ line_read text g wholes values
          → lines_read (most - done) text g wholes values ≡ read (Err w) ws vs
      unfolding lines_read
      lines_stop w ws vs e = rw (left, lt-leb (length text) g.place inside, ← e)

      pub lines_turn :
          (r : Game) (ws : List ℕ) (vs : List Float) → read (Ok r) ws vs ≡ line_read text g wholes values
          → lines_read (most - (done + 1)) text (next_line text r) ws vs ≡ lines_read (most - done) text g wholes values
      unfolding lines_read
      lines_turn r ws vs e = rw (left, lt-leb (length text) g.place inside, ← e)

  pub lines_all : most ≤ done → lines_read (most - done) text g wholes values ≡ read (Ok g) wholes values
  unfolding lines_read
  lines_all h =
      let none : most - done ≡ 0 = omega arith in
      rw none

-- the turns and the ends of reading the numbers of a line, and of reading a file
pub ruleset numbers = (filled_none, filled_full, filled_wrong, filled_turn)

pub ruleset file = (lines_end, lines_stop, lines_turn, lines_all)
