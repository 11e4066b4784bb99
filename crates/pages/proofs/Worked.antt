-- Small texts, worked by computation. Assumes nothing.
use mathlib.Core.Path.{◌≡◌, refl}
use Rattle.pages.specs.Page.{bytes, decimal_in, decimal, written_over}

-- 0, 10 and the largest u64
numbers : (decimal 0 ≡ bytes "0") × (decimal 10 ≡ bytes "10") × (decimal 0xFFFFFFFFFFFFFFFF ≡ bytes "18446744073709551615")
unfolding bytes decimal_in
numbers = (refl, refl, refl)

-- A text over a page, behind a place, and as far as there is room
pages : (written_over 1 (bytes "xy") (bytes "abcd") ≡ bytes "axyd") × (written_over 3 (bytes "xy") (bytes "abcd") ≡ bytes "abcx") × (written_over 4 (bytes "xy") (bytes "abcd") ≡ bytes "abcd")
unfolding bytes written_over
pages = (refl, refl, refl)
