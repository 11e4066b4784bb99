-- A file in which nothing is wrong is read to its end. Assumes nothing.
use Rattle.std.proofs.Common.{◌≡◌, ℕ, zero, suc, ◌+◌, ◌-◌, ◌^◌, ◌<◌, ◌≤◌, ◌&&◌, eqb, leb, List, [], ◌∷◌, length, set, Option, Some, None, Ok, Result, mod-eq_of_lt, arith, leb-false, leb-true}
use Rattle.std.specs.Result.{IfOk}
use lib.Ieee.{Float, binary32, of_bits}
use Rattle.lines.proofs.Choice.{either, both}
use Rattle.lines.proofs.Places.{end-within, word_within}
use Rattle.lines.specs.declared.Part.TheVariants.{Line}
use Rattle.lines.specs.declared.Word.{Word}
use Rattle.lines.specs.Words.{end_from, word_at, words_from, spelt}
use Rattle.cases.specs.Text.{area_of}
use Rattle.games.proofs.Results.{then-kept, changed-kept, on-kept, on-kept_both}
use Rattle.games.specs.declared.Fault.{Fault}
use Rattle.games.specs.declared.Keyword.{Keyword}
use Rattle.games.specs.declared.Keyword.TheVariants as keyword
use Rattle.games.specs.declared.Game.{Game}
use Rattle.games.specs.declared.Wrong.{Wrong}
use Rattle.games.specs.Games.{wide, read_to, ◌>>=◌, Put, filled, wholes_put, values_put, whole_of, number_of, ended, lanes_line, changed, with_params, taught, teach_line, names_line, with_roots, roots_line, Read, read, point_line, with_counter, with_query, keyword_of, said, line_read, next_line, nothing, lines_read, file_read}

-- the place up to which it is read, between one that was there and the end of the text
record At (text : List ℕ) (from : ℕ) (g : Game) : Type 0 where
  below : from ≤ g.place
  above : g.place ≤ length text

module _ (text : List ℕ) (from : ℕ) where
  -- .. where nothing is wrong
  abbrev All : Result Game Wrong → Type 0
  All r = IfOk r (At text from)

  on-at : (r : Result Game Wrong) (f : Game → Result Game Wrong) → All r → ((g : Game) → At text from g → All (f g)) → All (r >>= f)
  on-at r f a b = then-kept (At text from) (At text from) (λ _. Unit {0}) r f a b

  changed_at : (r : Result Game Wrong) (f : Game → Game) → All r → ((g : Game) → At text from g → At text from (f g)) → All (changed f r)
  changed_at r f a b = changed-kept (At text from) (At text from) (λ _. Unit {0}) (λ _. Unit {0}) f r a b (λ _ _. tt)

  filled_at :
      {A : Type 0} (of : Word → Result A Fault) (g : Game) (left at i : ℕ) (xs : List A) → from ≤ at → at ≤ length text
      → All (filled of text g left at i xs).game
  unfolding filled
  filled_at of g zero at i xs f h = record { below = f; above = h }
  filled_at of g (suc left) at i xs f h =
      let w = word_at text at in
      let k = word_within text at h in
      both (λ (q : Put _). All q.game) (leb (length xs) i) _ _ tt
      (on-kept (λ (q : Put _). All q.game) (of w) _ _ (λ x. filled_at of g left w.end (suc i) (set xs i x) (omega (arith, f, k.0, k.1)) k.2) (λ _. tt))

  ended_at : (g : Game) → At text from g → All (ended text g)
  unfolding ended
  ended_at g a =
      let w = word_at text g.place in
      both All (eqb w.start w.end) _ _ a tt

  lanes_at : (g : Game) → At text from g → All (lanes_line text g)
  unfolding lanes_line
  lanes_at g a =
      let count = words_from 1024 text g.place in
      both All (eqb g.dimension 0 && (leb 1 count && leb count 16)) _ _ (record { below = a.below; above = a.above }) tt

  counter_at : (place : ℕ) (g : Game) → At text from g → All (with_counter place g)
  unfolding with_counter
  counter_at place g a = both All (eqb g.asked 0) _ _ (record { below = a.below; above = a.above }) tt

  query_at : (g : Game) → At text from g → At text from (with_query g)
  query_at g a = record { below = a.below; above = a.above }

  module _ (g : Game) (a : At text from g) (wholes : List ℕ) where
    wholes-at : (first end : ℕ) → All (wholes_put text g first end wholes).game
    wholes-at first end = filled_at (λ w. whole_of w.shape w.digits) g (end - first) g.place first wholes a.below a.above

    teach-at : All (teach_line text g wholes).game
    unfolding teach_line taught with_params
    teach-at =
        let sizes = wholes_put text g 64 67 wholes in
        on-at sizes.game (taught text sizes.list) (wholes-at 64 67) (λ h k.
        let threshold = values_put text h 0 1 (of_bits binary32 0 ∷ []) in
        let t = filled_at (number_of text) h 1 h.place 0 (of_bits binary32 0 ∷ []) k.below k.above in
        changed_at (threshold.game >>= ended text) _ (on-at threshold.game (ended text) t ended_at) (λ _ e. record { below = e.below; above = e.above }))

    names_at : All (names_line text g wholes).game
    unfolding names_line
    names_at =
        let number = wholes_put text g 67 68 wholes in
        changed_at (number.game >>= ended text) _ (on-at number.game (ended text) (wholes-at 67 68) ended_at) (λ _ e. record { below = e.below; above = e.above })

    roots-at : All (roots_line text g wholes).game
    unfolding roots_line
    roots-at =
        let count = words_from 1024 text g.place in
        both (λ (q : Put ℕ). All q.game) (leb count 64) _ _
        (filled_at (λ w. whole_of w.shape w.digits) (with_roots count g) (count - 0) g.place 0 wholes a.below a.above) tt

    module _ (values : List Float) where
      point_at : All (point_line text g wholes values).game
      unfolding point_line
      point_at =
          let name = word_at text g.place in
          let k = word_within text g.place a.above in
          let h = read_to g name.end in
          let i = wide (g.n + g.asked) in
          let first = area_of i g.dimension in
          let point = values_put text h first (wide (first + g.dimension)) values in
          let p = filled_at (number_of text) h (wide (first + g.dimension) - first) name.end first values (omega (arith, a.below, k.0, k.1)) k.2 in
          both (λ (s : Read). All s.game) (eqb g.dimension 0) _ _ tt
          (both (λ (s : Read). All s.game) (leb (length wholes) (wide (68 + i))) _ _ tt
          (on-at point.game (ended text) p ended_at))

      said_at : (start : ℕ) (k : Option Keyword) → All (said text g start wholes values k).game
      unfolding said
      said_at start None = tt
      said_at start (Some keyword.Lanes) = lanes_at g a
      said_at start (Some keyword.Teach) = teach-at
      said_at start (Some keyword.Names) = names_at
      said_at start (Some keyword.Roots) = roots-at
      said_at start (Some keyword.Counter) =
          on-at (point_line text g wholes values).game (with_counter g.place) point_at (counter_at g.place)
      said_at start (Some keyword.Query) = on-at (point_line text g wholes values).game _ point_at query_at

module _ (text : List ℕ) where
  line_at : (g : Game) (wholes : List ℕ) (values : List Float) → g.place ≤ length text → All text g.place (line_read text g wholes values).game
  unfolding line_read
  line_at g wholes values h =
      let w = word_at text g.place in
      let k = word_within text g.place h in
      both (λ (s : Read). All text g.place s.game) (eqb w.start w.end) _ _ (record { below = omega arith; above = h })
      (said_at text g.place (read_to g w.end) (record { below = omega (arith, k.0, k.1); above = k.2 }) wholes values w.start (keyword_of (spelt text w)))

  module _ (small : length text + 1 < 2 ^ 64) where
    next-behind : (from : ℕ) (g : Game) → At text from g → from + 1 ≤ (next_line text g).place
    next-behind from g a =
        let k = end-within Line text g.place a.above in
        let here : wide (end_from Line text g.place + 1) ≡ end_from Line text g.place + 1 = mod-eq_of_lt (omega (arith, small, k.1)) in
        omega (arith, here, k.0, a.below)

    lines_ended :
        (most : ℕ) (g : Game) (wholes : List ℕ) (values : List Float) → length text ≤ g.place + most
        → IfOk (lines_read most text g wholes values).game (λ r. length text ≤ r.place)
    unfolding lines_read
    lines_ended zero g wholes values h = omega (arith, h)
    lines_ended (suc most) g wholes values h =
        let t = line_read text g wholes values in
        let Ended : Read → Type 0 = λ s. IfOk s.game (λ r. length text ≤ r.place) in
        either Ended (leb (length text) g.place) (read (Ok g) wholes values) _
        (λ e. leb-true (length text) g.place e)
        (λ e. let inside = leb-false (length text) g.place e in
        on-kept_both (At text g.place) (λ _. Unit {0}) Ended t.game _ _ (line_at g wholes values (omega (arith, inside)))
        (λ r a. let on = next-behind g.place r a in lines_ended most (next_line text r) t.wholes t.values (omega (arith, h, on)))
        (λ _ _. tt))

pub file_ended :
    (text wholes : List ℕ) (values : List Float) → length text ≤ 65535
    → IfOk (file_read text wholes values).game (λ g. length text ≤ g.place)
file_ended text wholes values small = lines_ended text (omega (arith, small)) 65536 nothing wholes values (omega (arith, small))
