-- The exact lists written one behind the other: those before the q-th stand. Assumes nothing.
use mathlib.Core.Path.{◌≡◌, refl, sym, ap, ◌∙◌}
use mathlib.Core.Bool.{Bool, true, false}
use mathlib.Core.List.{List}
use Prim.Native.Nat.{ℕ, suc, ◌+◌, ◌-◌, ◌*◌, ◌≤◌, ◌<◌, min}
use native.Mathlib.Nat.{suc-mul, mul-le-mul_right, mul-le-mul}
use native.Mathlib.Omega.{arith}
use borrow.Author.Tests.{ltb-true, ltb-false}
use borrow.Rule.Slice.PartMut.{put_mid}
use lib.Dec.{ltb}
use lib.ListN.{length, take, drop}
use lib.Seq.{take-take}
use lib.Ieee.{Float}
use Rattle.rules.specs.Build.{Between, exact_list}
use Rattle.buffers.specs.Area.{area}
use Rattle.buffers.proofs.Places.{length-area, put-length, put-area, put_low}
use Rattle.exact.specs.Exact.{Eight, Listed}
use Rattle.exact.proofs.Laws.{exact_same}
use Rattle.hops.specs.Hops.{list_of}
use Rattle.taught.specs.Taught.{members, Taught, eight_in, Ranged}

-- where the q-th list lies
pub record Where (n k q room : ℕ) : Type 0 where
  pub inside : q * k + k ≤ room
  pub small : q * k ≤ 262144

pub where_is : (n k q room : ℕ) → q < n → n ≤ 4096 → k ≤ 64 → n * k ≤ room → Where n k q room
where_is n k q room h few wide fits =
    let step = suc-mul q k in
    let within : suc q * k ≤ n * k = mul-le-mul_right k h in
    let product : n * k ≤ 4096 * 64 = mul-le-mul few wide in
    record { inside = omega arith; small = omega arith }

-- the lists from lo before the q-th stand, and the slices of the work are as long as they were
pub record Teaching (d : Between) (n k lo : ℕ) (lists₀ : List ℕ) (row₀ : List Float) (lists : List ℕ) (row : List Float) (nodes : List ℕ) (dists : List Float) (q : ℕ) : Type 0 where
  pub ranged : Ranged d n k lo q lists₀ lists
  pub row_long : length row ≡ length row₀
  pub nodes_long : length nodes ≡ 64
  pub dists_long : length dists ≡ 64

pub ranged_none : (d : Between) (n k lo : ℕ) (lists : List ℕ) → Ranged d n k lo lo lists lists
ranged_none d n k lo lists = record { each = λ (p : ℕ) h l. absurd (omega arith); low = λ (p : ℕ) l. refl; long = refl }

-- the q-th list written
ranged_more : {d : Between} {n k lo q : ℕ} {lists₀ lists : List ℕ} (out : List ℕ) (r : ℕ) → Ranged d n k lo q lists₀ lists → lo ≤ q → q * k + k ≤ length lists → length out ≡ k
    → take r out ≡ exact_list d n k q → r ≡ min k (n - 1) → Ranged d n k lo (q + 1) lists₀ (put_mid (q * k) k lists out)
unfolding list_of
ranged_more {d} {n} {k} {lo} {q} {lists₀} {lists} out r inv start inside out_long list fewest =
    record {
      each = λ (p : ℕ) (h : lo ≤ p) (l : p < q + 1). at p h l (ltb p q) refl;
      low = λ (p : ℕ) (l : p < lo). before p (omega arith) ∙ inv.low p l;
      long = put-length (q * k) k lists out inside out_long ∙ inv.long;
    }
  where
    before : (p : ℕ) → p < q → take (members k n) (drop (p * k) (put_mid (q * k) k lists out)) ≡ take (members k n) (drop (p * k) lists)
    before p l =
        let step = suc-mul p k in
        let within : suc p * k ≤ q * k = mul-le-mul_right k l in
        put_low (q * k) k lists out inside out_long (p * k) (members k n) (omega arith)

    at : (p : ℕ) → lo ≤ p → p < q + 1 → (b : Bool) → ltb p q ≡ b → take (members k n) (drop (p * k) (put_mid (q * k) k lists out)) ≡ exact_list d n k p
    at p h l true f = before p (ltb-true p q f) ∙ inv.each p h (ltb-true p q f)
    at p h l false f =
        let after = ltb-false p q f in
        let same : p ≡ q = omega arith in
        rw same
        (sym (take-take (members k n) k (drop (q * k) (put_mid (q * k) k lists out)) (omega arith))
        ∙ ap (take (members k n)) (put-area (q * k) k lists out inside out_long)
        ∙ ap (λ (m : ℕ). take m out) (sym fewest)
        ∙ list)

module _ {d : Between} {n k lo : ℕ} {lists₀ : List ℕ} {row₀ : List Float} {lists : List ℕ} {row : List Float} {nodes : List ℕ} {dists : List Float} {q : ℕ} (inv : Teaching d n k lo lists₀ row₀ lists row nodes dists q) where
  pub teaching_more : {w : ℕ} {row' : List Float} {nodes' : List ℕ} {dists' : List Float} {out : List ℕ} {r : ℕ} → w ≡ k → lo ≤ q → q < n → n ≤ 4096 → k ≤ 64 → n * k ≤ length lists₀
      → Listed d n k q nodes dists (area (q * k) w lists) nodes' dists' out r → length row' ≡ length row → length nodes' ≡ length nodes → length dists' ≡ length dists
      → Teaching d n k lo lists₀ row₀ (put_mid (q * k) w lists out) row' nodes' dists' (q + 1)
  teaching_more {w} {row'} {nodes'} {dists'} {out} {r} e start h few wide fits x rl nl dl =
      let y : Listed d n k q nodes dists (area (q * k) k lists) nodes' dists' out r = rw e at x in
      let long = inv.ranged.long in
      let room = where_is n k q (length lists) h few wide (omega arith) in
      let inside = room.inside in
      rw e
      (record {
        ranged = ranged_more out r inv.ranged start inside (y.out_long ∙ length-area (q * k) k lists inside) y.list y.fewest;
        row_long = rl ∙ inv.row_long;
        nodes_long = nl ∙ inv.nodes_long;
        dists_long = dl ∙ inv.dists_long;
      })

-- eight more, by distances that are the same
pub ranged_join : {d e : Between} {n k lo hi : ℕ} {lists₀ lists lists' : List ℕ} → Ranged d n k 0 lo lists₀ lists → Ranged e n k lo hi lists lists'
    → ((q : ℕ) → lo ≤ q → q < hi → (i : ℕ) → i < n → e q i ≡ d q i) → Ranged d n k 0 hi lists₀ lists'
ranged_join {d} {e} {n} {k} {lo} {hi} {lists₀} {lists} {lists'} first more same =
    record {
      each = λ (p : ℕ) h (l : p < hi). at p l (ltb p lo) refl;
      low = λ (p : ℕ) l. absurd (omega arith);
      long = more.long ∙ first.long;
    }
  where
    at : (p : ℕ) → p < hi → (b : Bool) → ltb p lo ≡ b → list_of lists' k (members k n) p ≡ exact_list d n k p
    at p l true f = more.low p (ltb-true p lo f) ∙ first.each p (omega arith) (ltb-true p lo f)
    at p l false f = let h = ltb-false p lo f in more.each p h l ∙ exact_same e d n k p (same p h l)

pub taught : {d : Between} {n k q : ℕ} {lists₀ : List ℕ} {row₀ : List Float} {lists : List ℕ} {row : List Float} → Ranged d n k 0 q lists₀ lists → length row ≡ length row₀ → n ≤ q
    → Taught d n k lists₀ row₀ lists row
taught inv row_long h = record { each = λ (p : ℕ) l. inv.each p (omega arith) (omega arith); long = inv.long; row_long = row_long }

-- what is read of the eight is their distance
pub eight_read : (d : Between) (n base : ℕ) (rows : List Float) → Eight d n base n rows → (q : ℕ) → base ≤ q → q < base + 8 → q < n → (i : ℕ) → i < n → eight_in base rows q i ≡ d q i
eight_read d n base rows all q lo hi below i l =
    let e : base + (q - base) ≡ q = omega arith in
    all (q - base) i (omega arith) (omega arith) l ∙ ap (λ (p : ℕ). d p i) e
