-- Laws of four totals at once: what is left to add, added to each so far, is the whole. Assumes nothing.
use mathlib.Core.Path.{◌≡◌, refl, sym, ap, ◌∙◌}
use mathlib.Core.List.{List}
use Prim.Native.Nat.{ℕ, ◌+◌, ◌<◌}
use native.Mathlib.Omega.{arith}
use lib.ListN.{length, drop, get_or}
use lib.Ieee.{Float, nan}
use Rattle.rules.specs.Distance.{lane, total_of, zero32, answer, carried, distance_of, lanes_of, nodes_apart, between}
use Rattle.metrics.specs.Measured.{Lanes}
use Rattle.metrics.proofs.Steps.{turn, ended}

-- ---- one of the four

pub record Left (x y : List Float) (total : Float) (l : ℕ) : Type 0 where
  pub is : total_of total (drop l x) (drop l y) ≡ total_of zero32 x y

pub left_none : (x y : List Float) → Left x y zero32 0
left_none x y = record { is = refl }

pub left-more : {x y : List Float} {t t' : Float} {l : ℕ} → Left x y t l → length y ≡ length x → l < length x → t' ≡ lane t (get_or x l nan) (get_or y l nan) → Left x y t' (l + 1)
left-more {x} {y} {t} {t'} {l} inv same h e = record { is = ap (λ (s : Float). total_of s (drop (l + 1) x) (drop (l + 1) y)) e ∙ turn t x y l h (omega arith) ∙ inv.is }

pub left_end : {x y : List Float} {t : Float} {l : ℕ} → Left x y t l → l ≡ length x → t ≡ total_of zero32 x y
left_end {x} {y} {t} {l} inv e = sym (ended t x (drop l y) l e) ∙ inv.is

-- ---- a distance of two nodes

pub apart_of : {lanes : List Float} {dimension p a : ℕ} {x y : List Float} {t r : Float} → Lanes lanes dimension p x → Lanes lanes dimension a y → t ≡ total_of zero32 x y
    → r ≡ carried (answer t) → r ≡ between lanes dimension p a
unfolding between nodes_apart distance_of
apart_of {lanes} {dimension} {p} {a} {x} {y} X Y e f =
    f ∙ ap (λ (s : Float). carried (answer s)) (e ∙ ap (λ (z : List Float). total_of zero32 z y) X.contents ∙ ap (total_of zero32 (lanes_of lanes dimension p)) Y.contents)
