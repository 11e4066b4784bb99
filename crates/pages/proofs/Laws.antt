-- A page stays as long as it is, and a text behind a text is the two as one. Assumes nothing.
use mathlib.Core.Path.{◌≡◌, refl, sym, ap, subst, ◌∙◌}
use mathlib.Core.Bool.{Bool, true, false, not}
use mathlib.Core.List.{List, [], ◌∷◌, ◌++◌, append_assoc, append-nil}
use Prim.Native.Nat.{ℕ, zero, suc, ◌+◌, ◌-◌, ◌≤◌, ◌<◌, min}
use native.Mathlib.Omega.{arith}
use lib.Dec.{T, ltb, ltb→lt, nltb→le}
use lib.ListN.{length, take, drop, set, length-append, drop_of_length-le}
use Rattle.std.proofs.Common.{take-append-drop}
use lib.Seq.{length-take-le}
use borrow.Rule.Slice.PartMut.{put_mid}
use Rattle.pages.specs.Page.{written_over, Puts}

over-length : (at : ℕ) (text page : List ℕ) → length (written_over at text page) ≡ length page
unfolding written_over
over-length at text [] = refl
over-length zero [] (x ∷ xs) = refl
over-length zero (b ∷ bs) (x ∷ xs) = ap suc (over-length zero bs xs)
over-length (suc at) text (x ∷ xs) = ap suc (over-length at text xs)

over_none : (at : ℕ) (page : List ℕ) → written_over at [] page ≡ page
unfolding written_over
over_none at [] = refl
over_none zero (x ∷ xs) = refl
over_none (suc at) (x ∷ xs) = ap (λ (l : List ℕ). x ∷ l) (over_none at xs)

over_full : (at : ℕ) (text page : List ℕ) → length page ≤ at → written_over at text page ≡ page
unfolding written_over
over_full at text [] h = refl
over_full zero text (x ∷ xs) h = absurd (omega (arith, h))
over_full (suc at) text (x ∷ xs) h = ap (λ (l : List ℕ). x ∷ l) (over_full at text xs (omega (arith, h)))

over-one : (at b : ℕ) (bs page : List ℕ) → written_over (suc at) bs (set page at b) ≡ written_over at (b ∷ bs) page
unfolding written_over
over-one at b bs [] = refl
over-one zero b bs (x ∷ xs) = refl
over-one (suc at) b bs (x ∷ xs) = ap (λ (l : List ℕ). x ∷ l) (over-one at b bs xs)

over-append : (at : ℕ) (a b page : List ℕ) → written_over (at + length a) b (written_over at a page) ≡ written_over at (a ++ b) page
over-append at [] b page = rw (over_none at page) (ap (λ (n : ℕ). written_over n b page) (omega arith))
over-append at (x ∷ a) b page =
    ap (λ (n : ℕ). written_over n b (written_over at (x ∷ a) page)) (omega arith) ∙ ap (written_over (suc at + length a) b) (sym (over-one at x a page))
    ∙ over-append (suc at) a b (set page at x) ∙ over-one at x (a ++ b) page

module _ (text page : List ℕ) where
  -- a place behind the page is as its end
  over_clipped : (at : ℕ) → written_over (min at (length page)) text page ≡ written_over at text page
  over_clipped at = go (ltb at (length page)) (ltb→lt at (length page)) (nltb→le at (length page))
    where
      go : (b : Bool) → (T b → at < length page) → (T (not b) → length page ≤ at) → written_over (min at (length page)) text page ≡ written_over at text page
      go true lt le = let h = lt tt in ap (λ (n : ℕ). written_over n text page) (omega (arith, h))
      go false lt le = let h = le tt in over_full (min at (length page)) text page (omega (arith, h)) ∙ sym (over_full at text page h)

pub puts_long : {at r : ℕ} {text page left : List ℕ} → Puts at text page r left → length left ≡ length page
puts_long {at} {text} {page} p = ap length p.written ∙ over-length at text page

pub take_clipped : (n : ℕ) (page : List ℕ) → take (min n (length page)) page ≡ take n page
take_clipped zero page = (let none : min 0 (length page) ≡ 0 = omega arith in rw none)
take_clipped (suc n) [] = (let none : min (suc n) 0 ≡ 0 = omega arith in rw none)
take_clipped (suc n) (x ∷ page) = (let less : min (suc n) (suc (length page)) ≡ suc (min n (length page)) = omega arith in rw less (ap (λ (l : List ℕ). x ∷ l) (take_clipped n page)))

-- an equal text
pub puts_text : {at r : ℕ} {a b page left : List ℕ} → a ≡ b → Puts at a page r left → Puts at b page r left
puts_text {at} {r} {a} {b} {page} {left} e = subst (λ (t : List ℕ). Puts at t page r left) e

-- a text put behind a text
pub puts_both : {at q r : ℕ} {a b page left last : List ℕ} → Puts at a page q left → Puts q b left r last → Puts at (a ++ b) page r last
puts_both {at} {q} {r} {a} {b} {page} {left} {last} x y =
    let long = puts_long x in
    let both = length-append a b in
    let q≡ = x.place in
    let r≡ = y.place in
    record {
      place = omega arith;
      written =
          y.written ∙ ap (λ (l : List ℕ). written_over q b l) x.written ∙ ap (λ (n : ℕ). written_over n b (written_over at a page)) (x.place ∙ ap (min (at + length a)) (sym (over-length at a page)))
          ∙ over_clipped b (written_over at a page) (at + length a) ∙ over-append at a b page;
    }

-- in a loop that puts one text behind another: what was put, and what is left of the whole
pub record Running (at : ℕ) (whole page₀ : List ℕ) (rest page : List ℕ) (place : ℕ) : Type 0 where
  pub done : List ℕ
  pub put : Puts at done page₀ place page
  pub all : done ++ rest ≡ whole

-- .. from a place that a text was put up to
pub running_start : {at place : ℕ} {whole text page₀ page : List ℕ} → Puts at text page₀ place page → Running place whole page whole page place
running_start {place} {page} p =
    let behind = p.place in
    let long = puts_long p in
    record { done = []; put = record { place = omega arith; written = sym (over_none place page) }; all = refl }

pub running_turn :
    {at place next : ℕ} {whole page₀ page left text rest : List ℕ} → Running at whole page₀ (text ++ rest) page place → Puts place text page next left
    → Running at whole page₀ rest left next
running_turn {text} {rest} r p =
    record { done = r.done ++ text; put = puts_both r.put p; all = append_assoc r.done text rest ∙ r.all }

pub running_rest : {at place : ℕ} {whole page₀ page rest same : List ℕ} → rest ≡ same → Running at whole page₀ rest page place → Running at whole page₀ same page place
running_rest {at} {place} {whole} {page₀} {page} e = subst (λ (l : List ℕ). Running at whole page₀ l page place) e

pub running_long : {at place : ℕ} {whole page₀ page rest : List ℕ} → Running at whole page₀ rest page place → length page ≡ length page₀
running_long r = puts_long r.put

pub running_end : {at place : ℕ} {whole page₀ page : List ℕ} → Running at whole page₀ [] page place → Puts at whole page₀ place page
running_end r = puts_text (sym (append-nil r.done) ∙ r.all) r.put

-- a text that fits, put in the place of what the page holds there
over_fits : (at : ℕ) (text page : List ℕ) → at + length text ≤ length page → put_mid at (length text) page text ≡ written_over at text page
unfolding written_over
over_fits zero [] [] h = refl
over_fits zero [] (x ∷ xs) h = refl
over_fits zero (b ∷ bs) [] h = absurd (omega (arith, h))
over_fits zero (b ∷ bs) (x ∷ xs) h = ap (λ (l : List ℕ). b ∷ l) (over_fits zero bs xs (omega (arith, h)))
over_fits (suc at) text [] h = absurd (omega (arith, h))
over_fits (suc at) text (x ∷ xs) h = ap (λ (l : List ℕ). x ∷ l) (over_fits at text xs (omega (arith, h)))

module _ (at start long : ℕ) (text page : List ℕ) (s : start ≡ min at (length page)) (l : long ≡ min (length text) (length page - start)) where
  -- what there is no room for is left away
  over_room : written_over start (take long text) page ≡ written_over start text page
  over_room =
      sym (go (ltb long (length text)) (ltb→lt long (length text)) (nltb→le long (length text))) ∙ over-append start (take long text) (drop long text) page
      ∙ ap (λ (t : List ℕ). written_over start t page) (take-append-drop long text)
    where
      go : (b : Bool) → (T b → long < length text) → (T (not b) → length text ≤ long) → written_over (start + length (take long text)) (drop long text) (written_over start (take long text) page) ≡ written_over start (take long text) page
      go true lt le =
          let h = lt tt in
          let taken = length-take-le long text (omega arith) in
          let same = over-length start (take long text) page in
          over_full _ _ _ (omega arith)
      go false lt le = rw (drop_of_length-le text (le tt)) (over_none _ _)

  pub puts_part : Puts at text page (start + long) (put_mid start (start + long - start) page (take long text))
  puts_part =
      let taken = length-take-le long text (omega arith) in
      let part : start + long - start ≡ length (take long text) = omega arith in
      record {
        place = omega arith;
        written = rw part (over_fits start (take long text) page (omega arith)) ∙ over_room ∙ ap (λ (n : ℕ). written_over n text page) s ∙ over_clipped text page at;
      }
