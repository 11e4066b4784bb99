-- The rows of all nodes: those before the q-th stand, and the flags are clear. Assumes nothing.
use mathlib.Core.Path.{◌≡◌, refl, sym, ap, ◌∙◌, subst}
use mathlib.Core.List.{List, ◌∷◌, ◌++◌}
use Prim.Native.Nat.{ℕ, zero, suc, ◌+◌, ◌*◌, ◌≤◌, ◌<◌}
use native.Mathlib.Nat.{suc-mul, zero-mul, le_of_suc-le-suc, not-suc-le-zero}
use native.Mathlib.Numerals.{add-one}
use native.Mathlib.Omega.{arith}
use borrow.Rule.Slice.PartMut.{mid_of, put_mid}
use lib.ListN.{length, take, drop, replicate, length-replicate, length-append, length-drop}
use lib.Seq.{length-take-le, take_all, take_at}
use lib.Ieee.{Float}
use Rattle.rules.specs.declared.Neighbor.{Neighbor}
use Rattle.rules.specs.Loops.{each}
use Rattle.rules.specs.Lists.{entries}
use Rattle.rules.specs.Calls.{BuildSizes}
use Rattle.rules.specs.Build.{Between, pruned, pruned_slots}
use Rattle.rules.proofs.Loops.{each_turn, row_in}
use Rattle.buffers.proofs.Places.{length-area, put-length}
use Rattle.lists.proofs.Slices.{entries-take, entries-same}
use Rattle.rows.proofs.Laws.{entries-append}
use Rattle.pruned.specs.Pruned.{PrunedRow, PrunedAll}

pub record Pruning (d : Between) (n : ℕ) (p : BuildSizes) (ns₀ : List ℕ) (ds₀ : List Float) (ns : List ℕ) (ds : List Float) (flags pool : List ℕ) (pools : List Float) (q : ℕ) : Type 0 where
  pub rows : entries (q * p.index_size) ns ds ≡ each (pruned d n p) q
  pub nodes_long : length ns ≡ length ns₀
  pub dists_long : length ds ≡ length ds₀
  pub flags_long : length flags ≡ 4096
  pub clear : take n flags ≡ replicate n 0
  pub pool_nodes : length pool ≡ 320
  pub pool_dists : length pools ≡ 320

pub pruning_none : (d : Between) (n : ℕ) (p : BuildSizes) (ns : List ℕ) (ds : List Float) (flags pool : List ℕ) (pools : List Float) → flags ≡ replicate 4096 0 → length pool ≡ 320 → length pools ≡ 320 → n ≤ 4096
    → Pruning d n p ns ds ns ds flags pool pools 0
unfolding each entries
pruning_none d n p ns ds flags pool pools e f g few =
    record {
      rows = rw (zero-mul p.index_size);
      nodes_long = refl;
      dists_long = refl;
      flags_long = ap length e ∙ length-replicate {A = ℕ} 4096 0;
      clear = ap (take n) e ∙ take-replicate n 4096 few;
      pool_nodes = f;
      pool_dists = g;
    }
  where
    take-replicate : (k m : ℕ) → k ≤ m → take {A = ℕ} k (replicate m 0) ≡ replicate k 0
    take-replicate zero m h = refl
    take-replicate (suc k) zero h = absurd (not-suc-le-zero h)
    take-replicate (suc k) (suc m) h = ap (λ (l : List ℕ). 0 ∷ l) (take-replicate k m (le_of_suc-le-suc h))

-- a row put behind the first q
row-behind : (w q : ℕ) (ns ys : List ℕ) (ds zs : List Float) → q * w + w ≤ length ns → q * w + w ≤ length ds → length ys ≡ w → length zs ≡ w
    → entries ((q + 1) * w) (put_mid (q * w) w ns ys) (put_mid (q * w) w ds zs) ≡ entries (q * w) ns ds ++ entries w ys zs
row-behind w q ns ys ds zs h g y z =
    let a = q * w in
    let step : (q + 1) * w ≡ a + w = rw add-one (suc-mul q w) in
    ap (λ (m : ℕ). entries m (put_mid a w ns ys) (put_mid a w ds zs)) step
    ∙ entries-append a w (take a ns) (ys ++ drop w (drop a ns)) (take a ds) (zs ++ drop w (drop a ds)) (length-take-le a ns (omega arith)) (length-take-le a ds (omega arith))
    ∙ ap (λ (l : List Neighbor). l ++ entries w (ys ++ drop w (drop a ns)) (zs ++ drop w (drop a ds))) (entries-take a ns ds)
    ∙ ap (λ (l : List Neighbor). entries a ns ds ++ l)
    (entries-same w (ys ++ drop w (drop a ns)) ys (zs ++ drop w (drop a ds)) zs (take_at ys (drop w (drop a ns)) w y ∙ sym (take_all w ys (omega arith))) (take_at zs (drop w (drop a ds)) w z ∙ sym (take_all w zs (omega arith))))

module _ {d : Between} {n : ℕ} {p : BuildSizes} {ns₀ : List ℕ} {ds₀ : List Float} {ns : List ℕ} {ds : List Float} {flags pool : List ℕ} {pools : List Float} {q : ℕ} (inv : Pruning d n p ns₀ ds₀ ns ds flags pool pools q) where
  pub pruning_turn : {w : ℕ} {seen ns' pool' : List ℕ} {ds' pools' : List Float} → w ≡ p.index_size → q < n → n ≤ 4096
      → n * p.index_size ≤ length ns₀ → n * p.index_size ≤ length ds₀
      → PrunedRow d n p q (take n flags) seen pool' pools' ns' ds' → length ns' ≡ length (mid_of (q * p.index_size) w ns) → length ds' ≡ length (mid_of (q * p.index_size) w ds)
      → Pruning d n p ns₀ ds₀ (put_mid (q * p.index_size) w ns ns') (put_mid (q * p.index_size) w ds ds') (seen ++ drop n flags) pool' pools' (q + 1)
  pruning_turn {w} {seen} {ns'} {pool'} {ds'} {pools'} f h few nodes dists made nl dl =
      let v = p.index_size in
      let nodes_now = inv.nodes_long in
      let dists_now = inv.dists_long in
      let flags_now = inv.flags_long in
      let inside = row_in n v q h in
      let y : length ns' ≡ v = nl ∙ ap (λ (m : ℕ). length (mid_of (q * v) m ns)) f ∙ length-area (q * v) v ns (omega arith) in
      let z : length ds' ≡ v = dl ∙ ap (λ (m : ℕ). length (mid_of (q * v) m ds)) f ∙ length-area (q * v) v ds (omega arith) in
      let seen-long : length seen ≡ n = ap length made.flags ∙ length-take-le n flags (omega arith) in
      rw f
      (record {
        rows = row-behind v q ns ns' ds ds' (omega arith) (omega arith) y z ∙ ap (λ (l : List Neighbor). l ++ entries v ns' ds') inv.rows ∙ ap (λ (l : List Neighbor). each (pruned d n p) q ++ l) made.row ∙ each_turn (pruned d n p) q;
        nodes_long = put-length (q * v) v ns ns' (omega arith) y ∙ inv.nodes_long;
        dists_long = put-length (q * v) v ds ds' (omega arith) z ∙ inv.dists_long;
        flags_long = simp (length-append, length-drop) (omega arith);
        clear = take_at seen (drop n flags) n seen-long ∙ made.flags ∙ inv.clear;
        pool_nodes = made.nodes_long;
        pool_dists = made.dists_long;
      })

pub pruning_end : {d : Between} {n : ℕ} {p : BuildSizes} {ns₀ : List ℕ} {ds₀ : List Float} {ns : List ℕ} {ds : List Float} {flags pool : List ℕ} {pools : List Float} {q : ℕ}
    → Pruning d n p ns₀ ds₀ ns ds flags pool pools q → q ≤ n → n ≤ q → PrunedAll d n p ns₀ ds₀ ns ds
unfolding pruned_slots
pruning_end {d} {n} {p} {ns₀} {ds₀} {ns} {ds} {flags} {pool} {pools} {q} inv h g =
    let same : q ≡ n = omega arith in
    record { slots = subst (λ (m : ℕ). entries (m * p.index_size) ns ds ≡ each (pruned d n p) m) same inv.rows; nodes_long = inv.nodes_long; dists_long = inv.dists_long }
