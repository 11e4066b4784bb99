-- Small texts, worked by computation. Assumes nothing.
use Rattle.std.proofs.Common.{◌≡◌, [], ◌∷◌, refl, None}
use Rattle.cases.specs.declared.Token.TheVariants.{End, TooLarge, Strange}
use Rattle.cases.specs.Text.{within, separates, after, skipped, digit_of, digits_of, counted, ended, token_of, token_from, token_at, preceded, continued, numbers_from, numbers_in}

-- "roots 12 0 # 7", a line end and "3": labels and comments are passed, and 12, 0 and 3 are counted and summed.
passed :
    numbers_in (114 ∷ 111 ∷ 111 ∷ 116 ∷ 115 ∷ 32 ∷ 49 ∷ 50 ∷ 32 ∷ 48 ∷ 32 ∷ 35 ∷ 32 ∷ 55 ∷ 10 ∷ 51 ∷ [])
    ≡ record { numbers = 12 ∷ 0 ∷ 3 ∷ []; end = End (record { at = 16; count = 3; sum = 15; fault = None }) }
unfolding within separates after skipped digit_of digits_of counted ended token_of token_from token_at preceded continued numbers_from numbers_in
passed = refl

-- "4294967295 1 4294967296": the largest number, the sum modulo 2^32, and a number that is too large.
large :
    numbers_in
    (52 ∷ 50 ∷ 57 ∷ 52 ∷ 57 ∷ 54 ∷ 55 ∷ 50 ∷ 57 ∷ 53 ∷ 32 ∷ 49 ∷ 32 ∷ 52 ∷ 50 ∷ 57 ∷ 52 ∷ 57 ∷ 54 ∷ 55 ∷ 50 ∷ 57 ∷ 54 ∷ [])
    ≡ record { numbers = 4294967295 ∷ 1 ∷ []; end = TooLarge 13 }
unfolding within separates after skipped digit_of digits_of counted ended token_of token_from token_at preceded continued numbers_from numbers_in
large = refl

-- "7 1.5": a point is of no list.
point : numbers_in (55 ∷ 32 ∷ 49 ∷ 46 ∷ 53 ∷ []) ≡ record { numbers = 7 ∷ 1 ∷ []; end = Strange 3 }
unfolding within separates after skipped digit_of digits_of counted ended token_of token_from token_at preceded continued numbers_from numbers_in
point = refl
