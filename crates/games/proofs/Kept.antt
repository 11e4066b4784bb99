-- What holds of every game that is read, also up to what is wrong: how many lanes, roots, counters and queries there can be, and that their lanes were read. Assumes nothing.
use Rattle.std.proofs.Common.{◌≡◌, ℕ, zero, suc, ◌+◌, ◌-◌, ◌*◌, ◌%◌, ◌<◌, ◌≤◌, ◌&&◌, eqb, leb, List, [], ◌∷◌, length, set, Option, Some, None, Ok, Result, sym, refl, ◌∙◌, subst, mod-eq_of_lt, suc-mul, mul-le-mul, zero-mul, add-one, arith, length-set, eqb-true, le-leb, leb-false, leb-true}
use Rattle.std.specs.Result.{IfOk, MatchResult}
use Rattle.std.proofs.lemmas.Result.{IfOk-weaker}
use lib.Ieee.{Float, binary32, of_bits}
use borrow.Author.Tests.{eqb-false}
use Rattle.rules.proofs.Tests as tests
use Rattle.cases.specs.Text.{area_of}
use Rattle.lines.proofs.Choice.{either, both}
use Rattle.lines.specs.declared.Word.{Word}
use Rattle.lines.specs.Words.{word_at, words_from, spelt}
use Rattle.games.proofs.Results.{then-kept, changed-kept, on-kept, on-kept_both, kept-with}
use Rattle.games.specs.declared.Fault.{Fault}
use Rattle.games.specs.declared.Keyword.{Keyword}
use Rattle.games.specs.declared.Keyword.TheVariants as keyword
use Rattle.games.specs.declared.Game.{Game}
use Rattle.games.specs.declared.Wrong.{Wrong}
use Rattle.games.specs.Games.{wide, read_to, ◌>>=◌, Put, filled, wholes_put, values_put, whole_of, number_of, ended, lanes_line, changed, with_params, taught, teach_line, names_line, with_roots, roots_line, Read, read, point_line, with_counter, with_query, keyword_of, said, line_read, next_line, nothing, lines_read, file_read}

-- the lanes, the counters, the queries and the roots
abbrev Counts : Type 0
Counts = ℕ × ℕ × ℕ × ℕ

abbrev counts : Game → Counts
counts g = (g.dimension, g.n, g.asked, g.roots)

-- Where there is room for so many whole numbers and lanes: at most 16 lanes and 64 roots; lanes where there are counters or queries, and places for each one's
-- name and lanes
pub record Within (room long : ℕ) (c : Counts) : Type 0 where
  pub lanes : c.0 ≤ 16
  pub named : c.0 ≡ 0 → c.1 + c.2 ≡ 0
  pub roots : c.3 ≤ 64
  pub places : c.1 + c.2 ≤ room - 68
  pub points : (c.1 + c.2) * c.0 ≤ long

-- What holds of the game that is read, and of that where something is wrong
abbrev Falls : (P R : Counts → Type 0) → Result Game Wrong → Type 0
Falls P R r = MatchResult r (λ g. P (counts g)) (λ w. R (counts w.game))

-- .. the same of both
abbrev Whole : (Counts → Type 0) → Result Game Wrong → Type 0
Whole P r = Falls P P r

module _ {A : Type 0} (of : Word → Result A Fault) (text : List ℕ) (g : Game) where
  filled-kept :
      (P : Counts → Type 0) → P (counts g) → (long left at i : ℕ) (xs : List A) → length xs ≡ long
      → Whole P (filled of text g left at i xs).game × (length (filled of text g left at i xs).list ≡ long)
  unfolding filled
  filled-kept P p long zero at i xs l = (p, l)
  filled-kept P p long (suc left) at i xs l =
      let w = word_at text at in
      let Stays : Put A → Type 0 = λ q. Whole P q.game × (length q.list ≡ long) in
      both Stays (leb (length xs) i) _ _ (p, l)
      (on-kept Stays (of w) _ _ (λ x. filled-kept P p long left w.end (suc i) (set xs i x) (length-set xs i x ∙ l)) (λ _. (p, l)))

  -- All places that are filled are there.
  room_step :
      (left at i : ℕ) (xs : List A)
      → (i < length xs → (x : A) → IfOk (filled of text g left (word_at text at).end (suc i) (set xs i x)).game (λ _. i + suc left ≤ length xs))
      → IfOk (filled of text g (suc left) at i xs).game (λ _. i + suc left ≤ length xs)
  unfolding filled
  room_step left at i xs next =
      let Fits : Put A → Type 0 = λ q. IfOk q.game (λ _. i + suc left ≤ length xs) in
      either Fits (leb (length xs) i) _ _ (λ _. tt)
      (λ f. on-kept Fits (of (word_at text at)) _ _ (next (leb-false (length xs) i f)) (λ _. tt))

  filled-room : (left at i : ℕ) (xs : List A) → IfOk (filled of text g (suc left) at i xs).game (λ _. i + suc left ≤ length xs)
  unfolding filled
  filled-room zero at i xs = room_step zero at i xs (λ here x. omega (arith, here))
  filled-room (suc left) at i xs =
      let w = word_at text at in
      room_step (suc left) at i xs
      (λ here x. IfOk-weaker (filled of text g (suc left) w.end (suc i) (set xs i x)).game _ _
      (λ _ h. omega (arith, h, length-set xs i x)) (filled-room left w.end (suc i) (set xs i x)))

ended-kept : (text : List ℕ) (P R : Counts → Type 0) (g : Game) → P (counts g) → R (counts g) → Falls P R (ended text g)
unfolding ended
ended-kept text P R g p q =
    let w = word_at text g.place in
    both (Falls P R) (eqb w.start w.end) _ _ p q

module _ (room long : ℕ) (small : room ≤ 65604) (text : List ℕ) where
  abbrev Bounded : Game → Type 0
  Bounded g = Within room long (counts g)

  abbrev Inside : Result Game Wrong → Type 0
  Inside r = Whole (Within room long) r

  abbrev Fine : Put ℕ → Type 0
  Fine q = Inside q.game × (length q.list ≡ room)

  abbrev Good : Read → Type 0
  Good s = Inside s.game × (length s.wholes ≡ room) × (length s.values ≡ long)

  -- on with a game that is within
  on-inside : (r : Result Game Wrong) (f : Game → Result Game Wrong) → Inside r → ((g : Game) → Bounded g → Inside (f g)) → Inside (r >>= f)
  on-inside r f p q = then-kept Bounded Bounded (λ w. Bounded w.game) r f p q

  changed_inside : (r : Result Game Wrong) (f : Game → Game) → Inside r → ((g : Game) → Bounded g → Bounded (f g)) → Inside (changed f r)
  changed_inside r f p q = changed-kept Bounded Bounded (λ w. Bounded w.game) (λ w. Bounded w.game) f r p q (λ w. q w.game)

  ended_inside : (g : Game) → Bounded g → Inside (ended text g)
  ended_inside g b = ended-kept text (Within room long) (Within room long) g b b

  lanes-kept : (g : Game) → Bounded g → Inside (lanes_line text g)
  unfolding lanes_line
  lanes-kept g b =
      let count = words_from 1024 text g.place in
      either Inside (eqb g.dimension 0 && (leb 1 count && leb count 16)) _ _
      (λ t.
      let u = tests.both (eqb g.dimension 0) (leb 1 count && leb count 16) t in
      let none : g.n + g.asked ≡ 0 = b.named (eqb-true g.dimension 0 u.0) in
      record {
        lanes = leb-true count 16 (tests.both (leb 1 count) (leb count 16) u.1).1;
        named = λ _. none;
        roots = b.roots;
        places = b.places;
        points = rw (none, zero-mul count) (omega arith);
      })
      (λ _. b)

  module _ (g : Game) (wholes : List ℕ) (b : Bounded g) (l : length wholes ≡ room) where
    wholes-kept : (first end : ℕ) → Fine (wholes_put text g first end wholes)
    wholes-kept first end = filled-kept (λ w. whole_of w.shape w.digits) text g (Within room long) b room (end - first) g.place first wholes l

    teach-kept : Fine (teach_line text g wholes)
    unfolding teach_line taught with_params
    teach-kept =
        let sizes = wholes_put text g 64 67 wholes in
        let kept = wholes-kept 64 67 in (
          on-inside sizes.game (taught text sizes.list) kept.0 (λ a p.
              let threshold = values_put text a 0 1 (of_bits binary32 0 ∷ []) in
              let t = filled-kept (number_of text) text a (Within room long) p 1 1 a.place 0 (of_bits binary32 0 ∷ []) refl in
              changed_inside (threshold.game >>= ended text) _ (on-inside threshold.game (ended text) t.0 ended_inside) (λ _ q. q)),
          kept.1,
        )

    names-kept : Fine (names_line text g wholes)
    unfolding names_line
    names-kept =
        let number = wholes_put text g 67 68 wholes in
        let kept = wholes-kept 67 68 in
        (changed_inside (number.game >>= ended text) _ (on-inside number.game (ended text) kept.0 ended_inside) (λ _ q. q), kept.1)

    roots_kept : Fine (roots_line text g wholes)
    unfolding roots_line
    roots_kept =
        let count = words_from 1024 text g.place in
        either Fine (leb count 64) _ _
        (λ t.
        let c : Bounded (with_roots count g) = record { lanes = b.lanes; named = b.named; roots = leb-true count 64 t; places = b.places; points = b.points } in
        filled-kept (λ w. whole_of w.shape w.digits) text (with_roots count g) (Within room long) c room (count - 0) g.place 0 wholes l)
        (λ _. (b, l))

  -- a game with room for one counter or query more, whose lanes are read
  record Open (c : Counts) : Type 0 where
    within : Within room long c
    more : c.1 + c.2 < room - 68
    some : c.0 ≡ 0 → ⊥
    fits : (c.1 + c.2 + 1) * c.0 ≤ long

  abbrev Ready : Game → Type 0
  Ready g = Open (counts g)

  -- the same, or a game within where something is wrong
  abbrev Opened : Result Game Wrong → Type 0
  Opened r = Falls Open (Within room long) r

  counter_added : (place : ℕ) (g : Game) → Ready g → Inside (with_counter place g)
  unfolding with_counter
  counter_added place g o =
      let b = o.within in
      let n : wide (g.n + 1) ≡ g.n + 1 = mod-eq_of_lt (omega (arith, small, o.more)) in
      let n' : wide (g.n + 1) + g.asked ≡ g.n + g.asked + 1 = omega (arith, n) in
      both Inside (eqb g.asked 0) _ _
      (record { lanes = b.lanes; named = λ z. absurd (o.some z); roots = b.roots; places = rw n' (omega (arith, o.more)); points = rw n' o.fits }) b

  query_added : (g : Game) → Ready g → Bounded (with_query g)
  query_added g o =
      let b = o.within in
      let asked : wide (g.asked + 1) ≡ g.asked + 1 = mod-eq_of_lt (omega (arith, small, o.more)) in
      let asked' : g.n + wide (g.asked + 1) ≡ g.n + g.asked + 1 = omega (arith, asked) in
      record { lanes = b.lanes; named = λ z. absurd (o.some z); roots = b.roots; places = rw asked' (omega (arith, o.more)); points = rw asked' o.fits }

  -- what a counter's or query's lanes take up
  module _ (m d : ℕ) (few : m ≤ 65536) (some : d ≡ 0 → ⊥) (lanes : d ≤ 16) where
    area-is : area_of m d ≡ m * d
    unfolding area_of
    area-is = rw (le-leb m 65536 few, le-leb d 65536 (omega (arith, lanes)))

    left_is : wide (area_of m d + d) - area_of m d ≡ suc (d - 1)
    left_is =
        let most = mul-le-mul few lanes in
        let whole : wide (m * d + d) ≡ m * d + d = mod-eq_of_lt (omega (arith, most, lanes)) in
        let one : 1 ≤ d = omega (arith, some) in
        rw (area-is, whole) (omega (arith, one))

  module _ (g : Game) (wholes : List ℕ) (values : List Float) (b : Bounded g) (l : length wholes ≡ room) (v : length values ≡ long) where
    point_kept :
        Opened (point_line text g wholes values).game × (length (point_line text g wholes values).wholes ≡ room)
        × (length (point_line text g wholes values).values ≡ long)
    unfolding point_line
    point_kept =
        let m = g.n + g.asked in
        let d = g.dimension in
        let few : m ≤ 65536 = omega (arith, small, b.places) in
        let i : wide m ≡ m = mod-eq_of_lt (omega (arith, few)) in
        let slot : wide (68 + wide m) ≡ 68 + m = rw i (mod-eq_of_lt (omega (arith, few))) in
        let Left : Read → Type 0 = λ s. Opened s.game × (length s.wholes ≡ room) × (length s.values ≡ long) in
        either Left (eqb d 0) _ _ (λ _. (b, l, v))
        (λ z. either Left (leb (length wholes) (wide (68 + wide m))) _ _ (λ _. (b, l, v))
        (λ f.
        let inside : wide (68 + wide m) < length wholes = leb-false (length wholes) (wide (68 + wide m)) f in
        let some = eqb-false d 0 z in
        let at = (word_at text g.place).end in
        let h = read_to g at in
        let first = area_of (wide m) d in
        let left = wide (first + d) - first in
        let point = filled (number_of text) text h left at first values in
        let kept = filled-kept (number_of text) text h (λ (c : Counts). c ≡ counts g) refl long left at first values v in
        let first_is : first ≡ m * d = rw i (area-is m d few some b.lanes) in
        let left_as : left ≡ suc (d - 1) = rw i (left_is m d few some b.lanes) in
        let full : IfOk point.game (λ _. first + suc (d - 1) ≤ length values) =
        subst (λ (k : ℕ). IfOk (filled (number_of text) text h k at first values).game (λ _. first + suc (d - 1) ≤ length values)) (sym left_as)
        (filled-room (number_of text) text h (d - 1) at first values) in
        let made : first + suc (d - 1) ≤ length values → Ready g =
        λ fits. record {
          within = b;
          more = omega (arith, inside, slot, l);
          some = some;
          fits = rw (add-one m, suc-mul m d) (omega (arith, fits, first_is, v, some));
        } in
        let opened = kept-with (λ r. counts r ≡ counts g) _ Ready (λ w. counts w.game ≡ counts g) (λ w. Bounded w.game) point.game kept.0 full
        (λ _ same fits. subst Open (sym same) (made fits)) (λ _ same. subst (Within room long) (sym same) b) in (
          then-kept Ready Ready (λ w. Bounded w.game) point.game (ended text) opened (λ a o. ended-kept text Open (Within room long) a o o.within),
          length-set wholes (wide (68 + wide m)) ((word_at text g.place).start % 65536) ∙ l,
          kept.1,
        )))

    said_kept : (start : ℕ) (k : Option Keyword) → Good (said text g start wholes values k)
    unfolding said
    said_kept start None = (b, l, v)
    said_kept start (Some keyword.Lanes) = (lanes-kept g b, l, v)
    said_kept start (Some keyword.Teach) = let k = teach-kept g wholes b l in (k.0, k.1, v)
    said_kept start (Some keyword.Names) = let k = names-kept g wholes b l in (k.0, k.1, v)
    said_kept start (Some keyword.Roots) = let k = roots_kept g wholes b l in (k.0, k.1, v)
    said_kept start (Some keyword.Counter) =
        let k = point_kept in
        (then-kept Ready Bounded (λ w. Bounded w.game) (point_line text g wholes values).game (with_counter g.place) k.0 (counter_added g.place), k.1, k.2)
    said_kept start (Some keyword.Query) =
        let k = point_kept in
        (then-kept Ready Bounded (λ w. Bounded w.game) (point_line text g wholes values).game _ k.0 query_added, k.1, k.2)

  line_kept :
      (g : Game) (wholes : List ℕ) (values : List Float) → Bounded g → length wholes ≡ room → length values ≡ long
      → Good (line_read text g wholes values)
  unfolding line_read
  line_kept g wholes values b l v =
      let w = word_at text g.place in
      both Good (eqb w.start w.end) (read (Ok g) wholes values) _ (b, l, v)
      (said_kept (read_to g w.end) wholes values b l v w.start (keyword_of (spelt text w)))

  lines_kept :
      (most : ℕ) (g : Game) (wholes : List ℕ) (values : List Float) → Bounded g → length wholes ≡ room → length values ≡ long
      → Good (lines_read most text g wholes values)
  unfolding lines_read
  lines_kept zero g wholes values b l v = (b, l, v)
  lines_kept (suc most) g wholes values b l v =
      let t = line_read text g wholes values in
      let kept = line_kept g wholes values b l v in
      both Good (leb (length text) g.place) (read (Ok g) wholes values) _ (b, l, v)
      (on-kept_both Bounded (λ w. Bounded w.game) Good t.game _ _ kept.0 (λ h p. lines_kept most (next_line text h) t.wholes t.values p kept.1 kept.2)
      (λ _ p. (p, kept.1, kept.2)))

pub file_kept :
    (text wholes : List ℕ) (values : List Float) → length wholes ≤ 65604
    → let kept = Within (length wholes) (length values) in
    MatchResult (file_read text wholes values).game (λ g. kept (counts g)) (λ w. kept (counts w.game))
file_kept text wholes values small =
    (lines_kept (length wholes) (length values) small text 65536 nothing wholes values
    (record { lanes = omega arith; named = λ _. refl; roots = omega arith; places = omega arith; points = omega arith }) refl refl).0
