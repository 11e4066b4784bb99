-- What the file of a game says, line by line, as games/README.md gives it. Assumes nothing.
use Rattle.std.specs.Prelude.{ℕ, zero, suc, ◌+◌, ◌-◌, ◌%◌, ◌^◌, cond, if◌then◌else◌, ◌&&◌, List, [], ◌∷◌, length, codes, ◌==◌, from_bits, nat_le, slice_index, slice_index_or, slice_set, Option, Some, None, Result, Ok, Err, Float}
use Rattle.std.specs.Str.{bytes_eq}
use Rattle.std.specs.Float.{binary32, nan}
use Rattle.cases.specs.Text.{area_of}
use Rattle.params.specs.declared.SsgParams.{SsgParams}
use Rattle.params.specs.Params.{params, defaults}
use Rattle.lines.specs.declared.Part.TheVariants.{Line, Blanks}
use Rattle.lines.specs.declared.Shape.{Shape}
use Rattle.lines.specs.declared.Shape.TheVariants.{Whole}
use Rattle.lines.specs.declared.Word.{Word}
use Rattle.lines.specs.Words.{end_from, word_at, words_from, spelt, is_number, value_of}
use Rattle.games.specs.declared.Fault.{Fault}
use Rattle.games.specs.declared.Fault.TheVariants as fault
use Rattle.games.specs.declared.Keyword.{Keyword}
use Rattle.games.specs.declared.Keyword.TheVariants as keyword
use Rattle.games.specs.declared.Game.{Game}
use Rattle.games.specs.declared.Wrong.{Wrong}

-- A sum of places, which wraps
abbrev pub wide : ℕ → ℕ
wide x = x % 2 ^ 64

-- The fields in their order: how much of all there is, the parameters, the place of the lanes' names; the line and the place up to which it is read
abbrev pub game : ℕ → ℕ → ℕ → ℕ → ℕ → SsgParams → ℕ → ℕ → ℕ → Game
game dimension n asked roots k params title line place =
    record { dimension = dimension; n = n; asked = asked; roots = roots; k = k; params = params; title = title; line = line; place = place }

-- A file that says nothing: "the parameters of the build (64 64 100 0.5)", "how many counters an answer names (1)"
abbrev pub nothing : Game
nothing = game 0 0 0 0 1 defaults 0 1 0

abbrev pub read_to : Game → ℕ → Game
read_to g place = game g.dimension g.n g.asked g.roots g.k g.params g.title g.line place

-- What is wrong at a place of the line that is read
abbrev pub wrong : Game → ℕ → Fault → Wrong
wrong g place f = record { game = read_to g place; fault = f }

-- A change of the game that is read, also where something is wrong
abbrev pub changed : (Game → Game) → Result Game Wrong → Result Game Wrong
changed change (Ok g) = Ok (change g)
changed change (Err w) = Err (record { game = change w.game; fault = w.fault })

-- "What should stand there", for each thing that can be wrong
unfoldable pub message : Fault → List ℕ
message fault.Unknown = codes "a line starts with lanes, teach, names, roots, counter or query"
message fault.NoNumber = codes "a number of at most three places behind the point, or nan, should stand"
message fault.NotWhole = codes "a whole number should stand"
message fault.More = codes "the line should end"
message fault.Lanes = codes "1 to 16 lanes are named once, before everything that has lanes"
message fault.Late = codes "counters stand before queries"
message fault.Room = codes "there is no room for more: 320 counters and queries, 64 roots"

-- On with the game that is read, where nothing is wrong
infixl 10 ◌>>=◌
abbrev pub ◌>>=◌ : Result Game Wrong → (Game → Result Game Wrong) → Result Game Wrong
Ok g >>= f = f g
Err w >>= f = Err w

-- A game or what is wrong, and a slice that words of its lines were put in
pub record Put (A : Type 0) : Type 0 where
  pub game : Result Game Wrong
  pub list : List A

abbrev pub put : {A : Type 0} → Result Game Wrong → List A → Put A
put g xs = record { game = g; list = xs }

-- On with what is read, or with what is wrong
abbrev pub on : {A E B : Type 0} → Result A E → (A → B) → (E → B) → B
on (Ok x) f h = f x
on (Err e) f h = h e

-- The next words of a line, put in the places from the i-th on; the first that is no such number is wrong, and so is one that has no place.
module _ {A : Type 0} (of : Word → Result A Fault) (text : List ℕ) (g : Game) where
  unfoldable pub filled : ℕ → ℕ → ℕ → List A → Put A
  filled zero at i xs = put (Ok (read_to g at)) xs
  filled (suc left) at i xs =
      let w = word_at text at in
      cond (nat_le (length xs) i) (put (Err (wrong g at fault.Room)) xs)
      (on (of w) (λ x. filled left w.end (suc i) (slice_set xs i x)) (λ unfit. put (Err (wrong g w.start unfit)) xs))

abbrev pub numbers_put : {A : Type 0} → (Word → Result A Fault) → List ℕ → Game → ℕ → ℕ → List A → Put A
numbers_put of text g first end xs = filled of text g (end - first) g.place first xs

-- The whole number that a word is
unfoldable pub whole_of : Shape → ℕ → Result ℕ Fault
whole_of Whole digits = Ok digits
whole_of _ digits = Err fault.NotWhole

-- The number that a word is
unfoldable pub number_of : List ℕ → Word → Result Float Fault
number_of text w = if is_number text w then Ok (value_of text w) else Err fault.NoNumber

-- The whole numbers and the numbers that stand next, in the places from `first` up to `end`
abbrev pub wholes_put : List ℕ → Game → ℕ → ℕ → List ℕ → Put ℕ
wholes_put text g first end wholes = numbers_put (λ w. whole_of w.shape w.digits) text g first end wholes

abbrev pub values_put : List ℕ → Game → ℕ → ℕ → List Float → Put Float
values_put text g first end values = numbers_put (number_of text) text g first end values

-- A word that is left over behind the numbers of a line is wrong.
unfoldable pub ended : List ℕ → Game → Result Game Wrong
ended text g =
    let w = word_at text g.place in
    cond (w.start == w.end) (Ok g) (Err (wrong g w.start fault.More))

-- Where the name of a counter or query stands: behind 64 roots, the three sizes of `teach` and the number of `names`
abbrev pub name_of : List ℕ → ℕ → ℕ
name_of wholes node = slice_index wholes (wide (68 + node))

-- "the lanes of a counter, 1 to 16; once"
unfoldable pub lanes_line : List ℕ → Game → Result Game Wrong
lanes_line text g =
    let count = words_from 1024 text g.place in
    cond (g.dimension == 0 && (nat_le 1 count && nat_le count 16))
    (Ok (game count g.n g.asked g.roots g.k g.params (end_from Blanks text g.place) g.line g.place))
    (Err (wrong g g.place fault.Lanes))

unfoldable pub with_params : Game → List ℕ → Float → Game
with_params g wholes threshold =
    let p = params threshold (slice_index wholes 64) (slice_index wholes 65) (slice_index wholes 66) in
    game g.dimension g.n g.asked g.roots g.k p g.title g.line g.place

-- `teach INIT_K INDEX_SIZE NEIGHBOR_NEIGHBOR_SIZE THRESHOLD`: behind the sizes, the threshold and no more
unfoldable pub taught : List ℕ → List ℕ → Game → Result Game Wrong
taught text wholes g =
    let threshold = values_put text g 0 1 (from_bits binary32 0 ∷ []) in
    changed (λ h. with_params h wholes (slice_index_or threshold.list 0 nan)) (threshold.game >>= ended text)

unfoldable pub teach_line : List ℕ → Game → List ℕ → Put ℕ
teach_line text g wholes =
    let sizes = wholes_put text g 64 67 wholes in
    put (sizes.game >>= taught text sizes.list) sizes.list

-- "how many counters an answer names"
abbrev pub with_k : List ℕ → Game → Game
with_k wholes g = game g.dimension g.n g.asked g.roots (slice_index wholes 67) g.params g.title g.line g.place

unfoldable pub names_line : List ℕ → Game → List ℕ → Put ℕ
names_line text g wholes =
    let number = wholes_put text g 67 68 wholes in
    put (changed (with_k number.list) (number.game >>= ended text)) number.list

-- "where every search starts, at most 64"
abbrev pub with_roots : ℕ → Game → Game
with_roots count g = game g.dimension g.n g.asked count g.k g.params g.title g.line g.place

unfoldable pub roots_line : List ℕ → Game → List ℕ → Put ℕ
roots_line text g wholes =
    let count = words_from 1024 text g.place in
    let nodes = wholes_put text (with_roots count g) 0 count wholes in
    cond (nat_le count 64) nodes (put (Err (wrong g g.place fault.Room)) wholes)

-- A game as far as it is read or what is wrong, its whole numbers, and the lanes of its counters and queries
pub record Read : Type 0 where
  pub game : Result Game Wrong
  pub wholes : List ℕ
  pub values : List Float

abbrev pub read : Result Game Wrong → List ℕ → List Float → Read
read g wholes values = record { game = g; wholes = wholes; values = values }

-- `counter NAME LANE..` and `query NAME LANE..`: the name's place and the lanes, behind all that are there
unfoldable pub point_line : List ℕ → Game → List ℕ → List Float → Read
point_line text g wholes values =
    let i = wide (g.n + g.asked) in
    let name = word_at text g.place in
    let first = area_of i g.dimension in
    let point = values_put text (read_to g name.end) first (wide (first + g.dimension)) values in
    cond (g.dimension == 0) (read (Err (wrong g g.place fault.Lanes)) wholes values)
    (cond (nat_le (length wholes) (wide (68 + i))) (read (Err (wrong g g.place fault.Room)) wholes values)
    (read (point.game >>= ended text) (slice_set wholes (wide (68 + i)) (name.start % 65536)) point.list))

-- One counter more. "queries stand behind all counters"
unfoldable pub with_counter : ℕ → Game → Result Game Wrong
with_counter place g =
    cond (g.asked == 0) (Ok (game g.dimension (wide (g.n + 1)) g.asked g.roots g.k g.params g.title g.line g.place))
    (Err (wrong g place fault.Late))

-- One query more
abbrev pub with_query : Game → Game
with_query g = game g.dimension g.n (wide (g.asked + 1)) g.roots g.k g.params g.title g.line g.place

-- The first words of lines
unfoldable pub keyword_of : List ℕ → Option Keyword
keyword_of word =
    cond (bytes_eq word (codes "lanes")) (Some keyword.Lanes)
    (cond (bytes_eq word (codes "teach")) (Some keyword.Teach)
    (cond (bytes_eq word (codes "names")) (Some keyword.Names)
    (cond (bytes_eq word (codes "roots")) (Some keyword.Roots)
    (cond (bytes_eq word (codes "counter")) (Some keyword.Counter)
    (cond (bytes_eq word (codes "query")) (Some keyword.Query) None)))))

abbrev pub of_put : Put ℕ → List Float → Read
of_put p values = read p.game p.list values

-- What a line says that starts with such a word, which starts at a place; the game is read up to the place behind it.
unfoldable pub said : List ℕ → Game → ℕ → List ℕ → List Float → Option Keyword → Read
said text g start wholes values None = read (Err (wrong g start fault.Unknown)) wholes values
said text g start wholes values (Some keyword.Lanes) = read (lanes_line text g) wholes values
said text g start wholes values (Some keyword.Teach) = of_put (teach_line text g wholes) values
said text g start wholes values (Some keyword.Names) = of_put (names_line text g wholes) values
said text g start wholes values (Some keyword.Roots) = of_put (roots_line text g wholes) values
said text g start wholes values (Some keyword.Counter) =
    let point = point_line text g wholes values in
    read (point.game >>= with_counter g.place) point.wholes point.values
said text g start wholes values (Some keyword.Query) =
    let point = point_line text g wholes values in
    read (point.game >>= (λ h. Ok (with_query h))) point.wholes point.values

-- "A line is a word and what belongs to it."; a line may be empty.
unfoldable pub line_read : List ℕ → Game → List ℕ → List Float → Read
line_read text g wholes values =
    let w = word_at text g.place in
    cond (w.start == w.end) (read (Ok g) wholes values)
    (said text (read_to g w.end) w.start wholes values (keyword_of (spelt text w)))

-- At the start of the next line
abbrev pub next_line : List ℕ → Game → Game
next_line text g =
    game g.dimension g.n g.asked g.roots g.k g.params g.title (wide (g.line + 1)) (wide (end_from Line text g.place + 1))

-- The lines of a text up to its end or the first thing that is wrong; the first argument is the most lines that are read.
unfoldable pub lines_read : ℕ → List ℕ → Game → List ℕ → List Float → Read
lines_read zero text g wholes values = read (Ok g) wholes values
lines_read (suc most) text g wholes values =
    let t = line_read text g wholes values in
    cond (nat_le (length text) g.place) (read (Ok g) wholes values)
    (on t.game (λ h. lines_read most text (next_line text h) t.wholes t.values) (λ w. read (Err w) t.wholes t.values))

-- A whole file. A line takes a byte at least, and a file has at most 65,535, so the lines suffice.
abbrev pub file_read : List ℕ → List ℕ → List Float → Read
file_read text wholes values = lines_read 65536 text nothing wholes values
