-- The distances of eight nodes to all, eight to a node: one more node's written, and one node's read. Assumes nothing.
use mathlib.Core.Path.{◌≡◌, refl, ap, ◌∙◌}
use mathlib.Core.Bool.{Bool, true, false}
use mathlib.Core.List.{List}
use Prim.Native.Nat.{ℕ, ◌+◌, ◌*◌, ◌<◌}
use native.Mathlib.Omega.{arith}
use lib.Dec.{eqb}
use lib.ListN.{length, get_or}
use lib.Ieee.{Float, nan}
use borrow.Author.Tests.{eqb-true, eqb-false}
use Rattle.rules.specs.Distance.{total_of, zero32, answer, carried, distance_of, nodes_apart, between, lanes_of}
use Rattle.metrics.proofs.Symmetry.{between-symmetric}
use Rattle.neighbor.proofs.Bits.{holdable_between}
use Rattle.kernels.specs.Eight.{Holds, Totals}
use Rattle.kernels.proofs.Pairs.{total-is}
use Rattle.exact.specs.Exact.{HoldsRow, PutEight, Eight}

pub eight_more : (lanes : List Float) (dimension n base : ℕ) (block y totals rows rows' : List Float) (i : ℕ) → Holds lanes dimension n base 8 block → y ≡ lanes_of lanes dimension i
    → length y ≡ dimension → Totals y block totals → PutEight rows (i * 8) totals 8 rows' → Eight (between lanes dimension) n base i rows
    → Eight (between lanes dimension) n base (i + 1) rows'
unfolding between nodes_apart distance_of
eight_more lanes dimension n base block y totals rows rows' i holds e long made put inv t j h k l = go (eqb j i) refl
  where
    go : (b : Bool) → eqb j i ≡ b → get_or rows' (j * 8 + t) nan ≡ between lanes dimension (base + t) j
    go true f =
        rw (eqb-true j i f)
        (put.put t h
        ∙ ap (λ (x : Float). carried (answer x)) (total-is lanes dimension n base block y totals t holds long made h k)
        ∙ ap (λ (x : List Float). carried (answer (total_of zero32 x (lanes_of lanes dimension (base + t))))) e
        ∙ between-symmetric lanes dimension i (base + t))
    go false f =
        let other = eqb-false j i f in
        put.low (j * 8 + t) (omega arith) ∙ inv t j h k (omega arith)

-- the row of one of the eight can be held
pub holds_eight : (lanes : List Float) (dimension n base : ℕ) (rows : List Float) (t : ℕ) → Eight (between lanes dimension) n base n rows → t < 8 → base + t < n → HoldsRow 8 t rows n
holds_eight lanes dimension n base rows t all h k i l = rw (all t i h k l) (holdable_between lanes dimension (base + t) i)
