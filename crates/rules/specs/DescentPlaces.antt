-- docs/LAYOUT.md, descent state: the encoding of a descent, and its reading back. Assumes nothing.
use Rattle.std.specs.Prelude.{Bool, true, ◌&&◌, List, [], ◌∷◌, ◌++◌, ℕ, ◌+◌, ◌*◌, ◌/◌, ◌%◌, ◌^◌, eqb, ltb, length, take, drop, get_or, Float}
use Rattle.rules.specs.Loops.{each}
use Rattle.rules.specs.Numbers.{most}
use Rattle.rules.specs.Offers.{lists_formed}
use Rattle.rules.specs.Descent.{Context, Descent}
use Rattle.rules.specs.Relay.{bit}
use Rattle.rules.specs.Places.{padded, same_words, same_floats, list_words, list_floats, lists_in}

-- ---- descent state: nk nodes; 260 words a node; a bit for each pair

-- a context list: its length, and 64 places
unfoldable pub member_words : List ℕ → List ℕ
member_words xs = length xs ∷ padded most 0 xs

unfoldable pub context_words : List Context → List ℕ
context_words [] = []
context_words (c ∷ cs) =
    member_words c.new ++ (member_words c.old ++ (member_words c.reversed_new ++ (member_words c.reversed_old ++ context_words cs)))

-- 32 flags as one number, the first lowest
unfoldable pub word_of : List Bool → ℕ
word_of [] = 0
word_of (b ∷ bs) = bit b + 2 * word_of bs

unfoldable pub pair_words : ℕ → List Bool → List ℕ
pair_words count flags = each (λ (w : ℕ). word_of (take 32 (drop (32 * w) flags)) ∷ []) count

unfoldable pub descent_state : ℕ → Descent → List ℕ
descent_state n x = list_words x.lists ++ (context_words x.contexts ++ pair_words ((n * n + 31) / 32) x.visited)

unfoldable pub members_in : List ℕ → List ℕ
members_in us = take (get_or us 0 0) (take most (drop 1 us))

unfoldable pub context_in : List ℕ → Context
context_in us =
    record {
      new = members_in us;
      old = members_in (drop 65 us);
      reversed_new = members_in (drop 130 us);
      reversed_old = members_in (drop 195 us);
    }

-- bit p of a list of words
unfoldable pub bit_at : List ℕ → ℕ → Bool
bit_at us p = eqb (get_or us (p / 32) 0 / 2 ^ (p % 32) % 2) 1

unfoldable pub descent_in : ℕ → ℕ → List ℕ → List Float → Descent
descent_in n k us fs =
    record {
      lists = lists_in n k us fs;
      contexts = each (λ (i : ℕ). context_in (drop (n * k + 260 * i) us) ∷ []) n;
      visited = each (λ (p : ℕ). bit_at (drop (n * k + 260 * n) us) p ∷ []) (n * n);
    }

-- "each of a node's four context lists at most 64 long with nodes below n": the encoding has no room for more than 64
unfoldable pub members_formed : ℕ → List ℕ → Bool
members_formed n [] = true
members_formed n (x ∷ xs) = ltb x n && members_formed n xs

unfoldable pub contexts_formed : ℕ → List Context → Bool
contexts_formed n [] = true
contexts_formed n (c ∷ cs) =
    (members_formed n c.new && (members_formed n c.old && (members_formed n c.reversed_new && members_formed n c.reversed_old)))
    && contexts_formed n cs

-- what is lent is well formed when it is the encoding of a well-formed model
unfoldable pub descent_formed : ℕ → ℕ → List ℕ → List Float → Bool
descent_formed n k us fs =
    let x = descent_in n k us fs in
    same_words us (descent_state n x) && (same_floats fs (list_floats x.lists) && (lists_formed n x.lists && contexts_formed n x.contexts))
