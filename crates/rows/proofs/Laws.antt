-- Laws of rows in two slices over plain lists: their entries, their live part, rows filled up, and the finished rows. Assumes nothing.
use mathlib.Core.Path.{◌≡◌, refl, sym, ap, ◌∙◌}
use mathlib.Core.Bool.{Bool, true, false, cond, not}
use mathlib.Core.List.{List, [], ◌∷◌, ◌++◌, append-nil, append_assoc}
use Prim.Native.Nat.{ℕ, zero, suc, ◌+◌, ◌-◌, ◌*◌, ◌≤◌, ◌<◌, zero-le, suc-le-suc}
use native.Mathlib.Nat.{le_of_suc-le-suc, not-suc-le-zero, suc_inj, zero-add, suc-add, suc-mul, zero-mul, mul-le-mul_right}
use native.Mathlib.Numerals.{add-one}
use native.Mathlib.Omega.{arith}
use borrow.Author.Tests.{ltb-false}
use Rattle.std.proofs.Common.{Option, Some, None}
use Rattle.std.specs.Option.{unwrap_or}
use Rattle.std.specs.List.{position, position_or_len}
use Rattle.std.proofs.lemmas.List.Sums.{prefix_len-le-length}
use lib.Dec.{ltb}
use lib.ListN.{length, take, drop, replicate, length-append, length-take, length-drop, length-replicate, drop_of_length-le}
use lib.Seq.{length-take-le, take_at, drop_at, drop-drop}
use lib.Ieee.{Float, eq}
use borrow.Rule.Slice.PartMut.{mid_of, put_mid, same_len_mid}
use Rattle.rules.specs.declared.Neighbor.{Neighbor}
use Rattle.rules.specs.Loops.{each, part}
use Rattle.rules.specs.Lists.{neighbor, nodes_of, entries}
use Rattle.rules.specs.Rows.{empty_distance, is_empty, live, finished}
use Rattle.rules.specs.Build.{row_of, graph_from}
use Rattle.rules.proofs.Loops.{length-each, row_in}
use Rattle.lists.proofs.Slices.{length-entries, entries-take, take-entries, nodes_of-entries}
use Rattle.lists.proofs.Plain.{length-nodes}
use Rattle.rows.specs.Live.{LiveIn, filled}

-- ---- where a row stands

-- "n 2 to 4,096", "`index_size` 1 to 64"
pub slots-most : (n w : ℕ) → n ≤ 4096 → w ≤ 64 → n * w ≤ 262144
slots-most n w h g =
    let a : n * w ≤ 4096 * w = mul-le-mul_right w h in
    omega arith

-- row q lies within the slots, and they within what a number holds
pub record RowIn (n w q : ℕ) : Type 0 where
  pub room : q * w + w ≤ n * w
  pub most : n * w ≤ 262144

pub row-at : {n w q : ℕ} → n ≤ 4096 → w ≤ 64 → q < n → RowIn n w q
row-at {n} {w} {q} h g l = record { room = row_in n w q l; most = slots-most n w h g }

-- ---- entries of lists one behind the other, and of a part

pub entries-append : (k m : ℕ) (ns ns' : List ℕ) (ds ds' : List Float) → length ns ≡ k → length ds ≡ k
    → entries (k + m) (ns ++ ns') (ds ++ ds') ≡ entries k ns ds ++ entries m ns' ds'
unfolding entries
entries-append zero m [] ns' [] ds' h g = rw (zero-add m)
entries-append zero m (n ∷ ns) ns' ds ds' h g = absurd (omega arith)
entries-append zero m [] ns' (d ∷ ds) ds' h g = absurd (omega arith)
entries-append (suc k) m [] ns' ds ds' h g = absurd (omega arith)
entries-append (suc k) m (n ∷ ns) ns' [] ds' h g = absurd (omega arith)
entries-append (suc k) m (n ∷ ns) ns' (d ∷ ds) ds' h g =
    rw (suc-add k m) (ap (λ (l : List Neighbor). neighbor n d ∷ l) (entries-append k m ns ns' ds ds' (suc_inj h) (suc_inj g)))

entries-replicate : (m n : ℕ) (d : Float) → entries m (replicate m n) (replicate m d) ≡ replicate m (neighbor n d)
unfolding entries
entries-replicate zero n d = refl
entries-replicate (suc m) n d = ap (λ (l : List Neighbor). neighbor n d ∷ l) (entries-replicate m n d)

-- from place a on
pub entries_from : (a m : ℕ) (ns : List ℕ) (ds : List Float) → a ≤ length ns → a ≤ length ds → drop a (entries (a + m) ns ds) ≡ entries m (drop a ns) (drop a ds)
unfolding entries
entries_from zero m ns ds h g = rw (zero-add m)
entries_from (suc a) m [] ds h g = absurd (not-suc-le-zero h)
entries_from (suc a) m (n ∷ ns) [] h g = absurd (not-suc-le-zero g)
entries_from (suc a) m (n ∷ ns) (d ∷ ds) h g = rw (suc-add a m) (entries_from a m ns ds (le_of_suc-le-suc h) (le_of_suc-le-suc g))

-- the entries of part q are those of the parts
pub part-entries : (w q m : ℕ) (ns : List ℕ) (ds : List Float) → q * w + w ≤ m → m ≤ length ns → m ≤ length ds
    → part w q (entries m ns ds) ≡ entries w (part w q ns) (part w q ds)
unfolding part
part-entries w q m ns ds h k g =
    let e : m ≡ q * w + (m - q * w) = omega arith in
    ap (λ (x : ℕ). take w (drop (q * w) (entries x ns ds))) e
    ∙ ap (take w) (entries_from (q * w) (m - q * w) ns ds (omega arith) (omega arith))
    ∙ take-entries w (m - q * w) (drop (q * w) ns) (drop (q * w) ds) (omega arith)
    ∙ sym (entries-take w (drop (q * w) ns) (drop (q * w) ds))

-- ---- a slice filled up from place k on

pub filled_by : {A : Type 0} (k : ℕ) (a : A) (xs ys : List A) → k ≤ length xs → ys ≡ replicate (length (mid_of k (length xs - k) xs)) a
    → put_mid k (length xs - k) xs ys ≡ filled k a xs
unfolding filled
filled_by k a xs ys h e =
    let m = length xs - k in
    let left : length (drop k xs) ≡ m = length-drop k xs in
    let long : length (mid_of k m xs) ≡ m = length-take-le m (drop k xs) (omega arith) in
    ap (λ (l : List _). take k xs ++ (l ++ drop m (drop k xs))) (e ∙ ap (λ (n : ℕ). replicate n a) long)
    ∙ ap (λ (l : List _). take k xs ++ (replicate m a ++ l)) (drop_of_length-le (drop k xs) {i = m} (omega arith))
    ∙ ap (λ (l : List _). take k xs ++ l) (append-nil (replicate m a))

-- "Empty slots hold node n and distance 0x7F7FFFFF": the row written
pub row-filled : (n w k : ℕ) (ns : List ℕ) (ds : List Float) → length ns ≡ w → length ds ≡ w → k ≤ w
    → entries w (filled k n ns) (filled k empty_distance ds) ≡ row_of n w (entries k ns ds)
unfolding filled row_of
row-filled n w k ns ds h g l =
    let e : w ≡ k + (w - k) = omega arith in
    rw (h, g, length-entries k ns ds (omega arith) (omega arith))
    (ap (λ (x : ℕ). entries x (take k ns ++ replicate (w - k) n) (take k ds ++ replicate (w - k) empty_distance)) e
    ∙ entries-append k (w - k) (take k ns) (replicate (w - k) n) (take k ds) (replicate (w - k) empty_distance)
    (length-take-le k ns (omega arith)) (length-take-le k ds (omega arith))
    ∙ ap (λ (l : List Neighbor). l ++ entries (w - k) (replicate (w - k) n) (replicate (w - k) empty_distance)) (entries-take k ns ds)
    ∙ ap (λ (l : List Neighbor). entries k ns ds ++ l) (entries-replicate (w - k) n empty_distance))

-- ---- the live part: what stands before the first empty distance

abbrev first_empty : ℕ → List Float → ℕ
first_empty w ds = position_or_len (λ (d : Float). eq d empty_distance) (take w ds)

live_first : (w : ℕ) (ns : List ℕ) (ds : List Float) → w ≤ length ns → w ≤ length ds → live (entries w ns ds) ≡ entries (first_empty w ds) ns ds
unfolding live entries is_empty
live_first zero ns ds h g = refl
live_first (suc w) [] ds h g = absurd (not-suc-le-zero h)
live_first (suc w) (n ∷ ns) [] h g = absurd (not-suc-le-zero g)
live_first (suc w) (n ∷ ns) (d ∷ ds) h g = go (eq d empty_distance) (live_first w ns ds (le_of_suc-le-suc h) (le_of_suc-le-suc g))
  where
    go : (b : Bool) → live (entries w ns ds) ≡ entries (first_empty w ds) ns ds
        → cond b [] (neighbor n d ∷ live (entries w ns ds)) ≡ entries (cond (not b) (1 + first_empty w ds) 0) (n ∷ ns) (d ∷ ds)
    go true q = refl
    go false q =
        let e : 1 + first_empty w ds ≡ suc (first_empty w ds) = omega arith in
        rw (e, q)

-- the place of the first empty distance, or w where there is none
pub live_in : {w : ℕ} {ds : List Float} {o : Option ℕ} → w ≤ length ds → o ≡ position (λ (d : Float). eq d empty_distance) (take w ds) → LiveIn w ds (unwrap_or o w)
live_in {w} {ds} {o} h e =
    let some = prefix_len-le-length (λ (d : Float). not (eq d empty_distance)) (take w ds) in
    let all = length-take-le w ds h in
    let at : unwrap_or o w ≡ first_empty w ds = rw e (go (ltb (first_empty w ds) (length (take w ds))) refl some all) in
    record {
      within = omega arith;
      list = λ (ns : List ℕ) (g : w ≤ length ns). live_first w ns ds g h ∙ ap (λ (r : ℕ). entries r ns ds) (sym at);
    }
  where
    go : (b : Bool) → ltb (first_empty w ds) (length (take w ds)) ≡ b → first_empty w ds ≤ length (take w ds) → length (take w ds) ≡ w
        → unwrap_or (cond b (Some (first_empty w ds)) None) w ≡ first_empty w ds
    go true f h g = refl
    go false f h g = let l = ltb-false (first_empty w ds) (length (take w ds)) f in omega arith

pub length-live : (es : List Neighbor) → length (live es) ≤ length es
unfolding live
length-live [] = zero-le
length-live (e ∷ es) = go (is_empty e) (length-live es)
  where
    go : (b : Bool) → length (live es) ≤ length es → length (cond b [] (e ∷ live es)) ≤ suc (length es)
    go true h = zero-le
    go false h = suc-le-suc h

-- ---- "Each graph row is the live nodes, then n in every slot left."

length-finished : (n w : ℕ) (es : List Neighbor) → length es ≤ w → length (finished n w es) ≡ w
unfolding finished
length-finished n w es h =
    let l = length-live es in
    length-append (nodes_of (live es)) (replicate (w - length (live es)) n)
    ∙ rw (length-nodes (live es), length-replicate (w - length (live es)) n) (omega arith)

pub row-finished : (n : ℕ) (ns : List ℕ) {w : ℕ} {ds : List Float} {r : ℕ} → length ns ≡ w → w ≤ length ds → LiveIn w ds r
    → filled r n ns ≡ finished n w (entries w ns ds)
unfolding filled finished
row-finished n ns {w} {ds} {r} h g made =
    let in_row = made.within in
    rw (made.list ns (omega arith), nodes_of-entries r ns ds (omega arith), length-entries r ns ds (omega arith) (omega arith), h)

-- row q of the graph
abbrev row_at : ℕ → ℕ → List ℕ → List Float → ℕ → List ℕ
row_at n w ns ds = λ (q : ℕ). finished n w (part w q (entries (n * w) ns ds))

length-row : (n w : ℕ) (ns : List ℕ) (ds : List Float) (q : ℕ) → length (row_at n w ns ds q) ≡ w
unfolding part
length-row n w ns ds q =
    let e = length-take w (drop (q * w) (entries (n * w) ns ds)) in
    length-finished n w (part w q (entries (n * w) ns ds)) (omega arith)

-- the first q rows are finished
pub record Finishing (n w : ℕ) (ns₀ : List ℕ) (ds : List Float) (ns : List ℕ) (q : ℕ) : Type 0 where
  pub within : q ≤ n
  pub long : length ns ≡ length ns₀
  pub list : ns ≡ each (row_at n w ns₀ ds) q ++ drop (q * w) ns₀

pub finishing_none : (n w : ℕ) (ns : List ℕ) (ds : List Float) → Finishing n w ns ds ns 0
unfolding each
finishing_none n w ns ds = record { within = zero-le; long = refl; list = rw (zero-mul w) }

-- row q is lent, k places from q * w on, and comes back finished
pub finishing_turn : {n w : ℕ} {ns₀ : List ℕ} {ds : List Float} {ns : List ℕ} {q : ℕ} → Finishing n w ns₀ ds ns q → length ns₀ ≡ n * w → n * w ≤ length ds → q < n
    → (k : ℕ) → k ≡ w → {ys : List ℕ} → ys ≡ finished n w (entries w (mid_of (q * w) k ns) (mid_of (q * w) k ds))
    → Finishing n w ns₀ ds (put_mid (q * w) k ns ys) (q + 1)
unfolding part each
finishing_turn {n} {w} {ns₀} {ds} {ns} {q} inv h g l k e {ys} made =
    let f = row_at n w ns₀ ds in
    let a = q * w in
    let m = row_in n w q l in
    let u = suc-mul q w in
    let v = inv.long in
    let front = length-each f w (length-row n w ns₀ ds) q in
    let rest : drop a ns ≡ drop a ns₀ = ap (drop a) inv.list ∙ drop_at (each f q) (drop a ns₀) a front in
    let row : ys ≡ f q =
    made ∙ ap (λ (x : ℕ). finished n w (entries w (mid_of a x ns) (mid_of a x ds))) e
    ∙ ap (λ (l : List ℕ). finished n w (entries w (take w l) (mid_of a w ds))) rest
    ∙ ap (finished n w) (sym (part-entries w q (n * w) ns₀ ds (omega arith) (omega arith) g)) in
    let long = length-row n w ns₀ ds q in
    let mid = length-take-le w (drop a ns) (rw (length-drop a ns) (omega arith)) in
    record {
      within = omega arith;
      long = rw e (same_len_mid a w ns ys (ap length row ∙ long ∙ sym mid) ∙ v);
      list =
          rw (e, add-one, u)
          (ap (λ (l : List ℕ). take a l ++ (ys ++ drop w (drop a ns))) inv.list
          ∙ ap (λ (l : List ℕ). l ++ (ys ++ drop w (drop a ns))) (take_at (each f q) (drop a ns₀) a front)
          ∙ ap (λ (l : List ℕ). each f q ++ (ys ++ drop w l)) rest
          ∙ ap (λ (l : List ℕ). each f q ++ (l ++ drop w (drop a ns₀))) row
          ∙ ap (λ (l : List ℕ). each f q ++ (f q ++ l)) (drop-drop w a ns₀)
          ∙ sym (append_assoc (each f q) (f q) (drop (a + w) ns₀)));
    }

pub finishing_end : {n w : ℕ} {ns₀ : List ℕ} {ds : List Float} {ns : List ℕ} {q : ℕ} → Finishing n w ns₀ ds ns q → length ns₀ ≡ n * w → n ≤ q
    → ns ≡ graph_from n w (entries (n * w) ns₀ ds)
unfolding graph_from
finishing_end {n} {w} {ns₀} {ds} {ns} {q} inv h l =
    let i = inv.within in
    let same : q ≡ n = omega arith in
    let f = row_at n w ns₀ ds in
    inv.list ∙ ap (λ (x : ℕ). each f x ++ drop (x * w) ns₀) same
    ∙ ap (λ (l : List ℕ). each f n ++ l) (drop_of_length-le ns₀ {i = n * w} (omega arith)) ∙ append-nil (each f n)
