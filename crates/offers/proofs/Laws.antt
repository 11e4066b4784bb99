-- Laws of an offer at a row, over plain lists: what becomes of it, and that slots stay sound. Assumes nothing.
use mathlib.Core.Path.{◌≡◌, refl, sym, ap, ◌∙◌}
use mathlib.Core.Bool.{Bool, true, false, cond, true≢false}
use mathlib.Core.List.{List, [], ◌∷◌, ◌++◌, append-nil}
use Prim.Native.Nat.{ℕ, zero, suc, ◌+◌, ◌-◌, ◌*◌, ◌≤◌, ◌<◌}
use native.Mathlib.Nat.{le_of_suc-le-suc, not-suc-le-zero, add-zero}
use native.Mathlib.Omega.{arith}
use lib.Dec.{ltb, eqb}
use lib.ListN.{length, take, drop, get_or, set, replicate, length-append, length-set, take-append-drop, drop_of_length-le}
use lib.Seq.{take-set-le, drop-set-add, get_or-set_same, length-take-le, take_at}
use lib.Ieee.{Float, eq, of_bits}
use borrow.Author.Tests.{ltb-false, lt-ltb, le-ltb, eq-eqb, ne_eqb}
use Rattle.rules.specs.declared.Neighbor.{Neighbor}
use Rattle.rules.specs.Loops.{each, over, part, put_part}
use Rattle.rules.specs.Lists.{neighbor, node_of, entries, sort}
use Rattle.rules.specs.Rows.{empty_distance, is_empty, empty_slot, live}
use Rattle.rules.specs.Build.{Between, occludes, choose, mark_next, rewritten, at_full, offered, row_of}
use Rattle.lists.specs.Lists.{SortedIn}
use Rattle.lists.proofs.Slices.{length-entries, take-entries, entries-suc, entries-same}
use Rattle.lists.proofs.Plain.{all_append, all_take, all_weaker}
use Rattle.prune.specs.Chosen.{AllBelow, Chosen}
use Rattle.prune.proofs.Laws.{below-append, below-sort, below-choose}
use Rattle.rows.specs.Live.{LiveIn}
use Rattle.rows.proofs.Laws.{entries_from}
use Rattle.offers.specs.Sound.{Sound}

-- an entry written behind the first k
pub entries-put : (k : ℕ) (ns : List ℕ) (ds : List Float) (v : ℕ) (x : Float) → k < length ns → k < length ds
    → entries (suc k) (set ns k v) (set ds k x) ≡ entries k ns ds ++ (neighbor v x ∷ [])
entries-put k ns ds v x h g =
    let u : k < length (set ns k v) = simp length-set h in
    let y : k < length (set ds k x) = simp length-set g in
    entries-suc k (set ns k v) (set ds k x) 0 x u y
    ∙ ap (λ (a : ℕ). entries k (set ns k v) (set ds k x) ++ (neighbor a (get_or (set ds k x) k x) ∷ [])) (get_or-set_same ns k v 0 h)
    ∙ ap (λ (a : Float). entries k (set ns k v) (set ds k x) ++ (neighbor v a ∷ [])) (get_or-set_same ds k x x g)
    ∙ ap (λ (es : List Neighbor). es ++ (neighbor v x ∷ [])) (entries-same k (set ns k v) ns (set ds k x) ds (take-set-le k ns k v (omega arith)) (take-set-le k ds k x (omega arith)))

-- ---- the pool: the row's entries and the offer, sorted

length_over : {A : Type 0} (m : ℕ) (src dst : List A) → m ≤ length src → m ≤ length dst → length (over m src dst) ≡ length dst
unfolding over
length_over m src dst h g =
    length-append (take m src) (drop m dst) ∙ ap (λ (x : ℕ). x + length (drop m dst)) (length-take-le m src h ∙ sym (length-take-le m dst g))
    ∙ sym (length-append (take m dst) (drop m dst)) ∙ ap length (take-append-drop m dst)

take-over : {A : Type 0} (m : ℕ) (src dst : List A) → m ≤ length src → take m (over m src dst) ≡ take m src
unfolding over
take-over m src dst h = take_at (take m src) (drop m dst) m (length-take-le m src h)

pub gathered_long : {A : Type 0} (w : ℕ) (src dst : List A) (a : A) {xs : List A} → w ≤ length src → w ≤ length dst → xs ≡ over w src dst → length (set xs w a) ≡ length dst
gathered_long w src dst a {xs} h g e = length-set xs w a ∙ ap length e ∙ length_over w src dst h g

pub gathered : (w : ℕ) (ns : List ℕ) (ds : List Float) (ps : List ℕ) (qs : List Float) (e : Neighbor) {ps₁ : List ℕ} {qs₁ : List Float} {ps' : List ℕ} {qs' : List Float}
    → length ns ≡ w → length ds ≡ w → w < length ps → w < length qs → ps₁ ≡ over w ns ps → qs₁ ≡ over w ds qs
    → SortedIn (set ps₁ w (node_of e)) (set qs₁ w e.distance) (w + 1) ps' qs'
    → entries (w + 1) ps' qs' ≡ sort (entries w ns ds ++ (e ∷ []))
gathered w ns ds ps qs e {ps₁} {qs₁} {ps'} {qs'} h g i j pe qe made =
    let u : length ps₁ ≡ length ps = ap length pe ∙ length_over w ns ps (omega arith) (omega arith) in
    let v : length qs₁ ≡ length qs = ap length qe ∙ length_over w ds qs (omega arith) (omega arith) in
    let next : w + 1 ≡ suc w = omega arith in
    made.list
    ∙ ap sort
    (ap (λ (k : ℕ). entries k (set ps₁ w (node_of e)) (set qs₁ w e.distance)) next
    ∙ entries-put w ps₁ qs₁ (node_of e) e.distance (omega arith) (omega arith)
    ∙ ap (λ (es : List Neighbor). es ++ (e ∷ []))
    (entries-same w ps₁ ns qs₁ ds (ap (take w) pe ∙ take-over w ns ps (omega arith)) (ap (take w) qe ∙ take-over w ds qs (omega arith))))

-- ---- "write the chosen from the row's start, and mark the next slot, if any, empty in distance only"

mark-entries : (m : ℕ) (ns : List ℕ) (ds : List Float) → entries m ns (set ds 0 empty_distance) ≡ mark_next (entries m ns ds)
unfolding entries mark_next
mark-entries zero ns ds = refl
mark-entries (suc m) [] ds = refl
mark-entries (suc m) (n ∷ ns) [] = refl
mark-entries (suc m) (n ∷ ns) (d ∷ ds) = refl

mark-nil : mark_next [] ≡ []
unfolding mark_next
mark-nil = refl

-- no slot is left behind the chosen
rewritten-all : (chosen row : List Neighbor) → length row ≤ length chosen → rewritten chosen row ≡ chosen
unfolding rewritten
rewritten-all chosen row h =
    ap (λ (l : List Neighbor). chosen ++ mark_next l) (drop_of_length-le row {i = length chosen} h)
    ∙ ap (λ (l : List Neighbor). chosen ++ l) mark-nil ∙ append-nil chosen

module _ {f : Neighbor → Neighbor → Bool} {w : ℕ} {es : List Neighbor} {ns : List ℕ} {ds : List Float} {ns' : List ℕ} {ds' : List Float} {r : ℕ} (made : Chosen f w es ns ds ns' ds' r) where
  pub chosen-all : length ns ≡ w → length ds ≡ w → w ≤ r → entries w ns' ds' ≡ rewritten (choose f w es) (entries w ns ds)
  chosen-all h g l =
      let i = made.within in
      let e : w ≡ r = omega arith in
      let long = length-entries w ns ds (omega arith) (omega arith) in
      let count = made.count in
      ap (λ (k : ℕ). entries k ns' ds') e ∙ made.list ∙ sym (rewritten-all (choose f w es) (entries w ns ds) (omega arith))

  pub chosen-some : length ns ≡ w → length ds ≡ w → r < w → entries w ns' (set ds' r empty_distance) ≡ rewritten (choose f w es) (entries w ns ds)
  unfolding rewritten
  chosen-some h g l =
      let u = made.nodes_long in
      let v = made.dists_long in
      let e : w ≡ r + (w - r) = omega arith in
      let ds'' = set ds' r empty_distance in
      let v' : length ds'' ≡ length ds' = length-set ds' r empty_distance in
      let row = entries w ns' ds'' in
      let front : take r row ≡ choose f w es =
      take-entries r w ns' ds'' (omega arith)
      ∙ entries-same r ns' ns' ds'' ds' refl (take-set-le r ds' r empty_distance (omega arith)) ∙ made.list in
      let marked : drop r ds'' ≡ set (drop r ds) 0 empty_distance =
      ap (λ (k : ℕ). drop r (set ds' k empty_distance)) (sym (add-zero r)) ∙ drop-set-add r ds' 0 empty_distance
      ∙ ap (λ (l : List Float). set l 0 empty_distance) made.dists_rest in
      let rest : drop r row ≡ mark_next (drop r (entries w ns ds)) =
      ap (λ (k : ℕ). drop r (entries k ns' ds'')) e
      ∙ entries_from r (w - r) ns' ds'' (omega arith) (omega arith)
      ∙ ap (λ (l : List ℕ). entries (w - r) l (drop r ds'')) made.nodes_rest
      ∙ ap (entries (w - r) (drop r ns)) marked
      ∙ mark-entries (w - r) (drop r ns) (drop r ds)
      ∙ ap mark_next (sym (ap (λ (k : ℕ). drop r (entries k ns ds)) e ∙ entries_from r (w - r) ns ds (omega arith) (omega arith))) in
      sym (take-append-drop r row)
      ∙ ap (λ (l : List Neighbor). l ++ drop r row) front
      ∙ ap (λ (l : List Neighbor). choose f w es ++ l) rest
      ∙ ap (λ (k : ℕ). choose f w es ++ mark_next (drop k (entries w ns ds))) made.count

-- the pool's entries are those of the row and the offer
module _ (w : ℕ) (ns : List ℕ) (ds : List Float) (e : Neighbor) {es : List Neighbor} (pool : es ≡ sort (entries w ns ds ++ (e ∷ []))) where
  pub pool_below : (n : ℕ) → AllBelow n (entries w ns ds) → node_of e < n → AllBelow n es
  pool_below n B l = rw pool (below-sort n (entries w ns ds ++ (e ∷ [])) (below-append n (entries w ns ds) (e ∷ []) B (l, tt)))

  module _ (d : Between) (t : Float) {ns' : List ℕ} {ds' : List Float} {r : ℕ} (made : Chosen (occludes d t true) w es ns ds ns' ds' r) (h : length ns ≡ w) (g : length ds ≡ w) where
    pub full_all : w ≤ r → entries w ns' ds' ≡ at_full d t w e (entries w ns ds)
    unfolding at_full
    full_all l = chosen-all made h g l ∙ ap (λ (x : List Neighbor). rewritten (choose (occludes d t true) w x) (entries w ns ds)) pool

    pub full_some : r < w → entries w ns' (set ds' r empty_distance) ≡ at_full d t w e (entries w ns ds)
    unfolding at_full
    full_some l = chosen-some made h g l ∙ ap (λ (x : List Neighbor). rewritten (choose (occludes d t true) w x) (entries w ns ds)) pool

-- ---- an offer at a row whose first r slots are live

module _ {w : ℕ} {ds : List Float} {r : ℕ} (made : LiveIn w ds r) (ns : List ℕ) (h : length ns ≡ w) (g : length ds ≡ w) where
  live-count : length (live (entries w ns ds)) ≡ r
  live-count =
      let i = made.within in
      ap length (made.list ns (omega arith)) ∙ length-entries r ns ds (omega arith) (omega arith)

  pub offered_full : (d : Between) (t : Float) (e : Neighbor) → w ≤ r → at_full d t w e (entries w ns ds) ≡ offered d t w e (entries w ns ds)
  unfolding offered
  offered_full d t e l = rw (live-count, le-ltb r w l)

  pub offered_lost : (d : Between) (t : Float) (e : Neighbor) → r < w → (r + 1 ≡ w → ⊥) → entries w ns ds ≡ offered d t w e (entries w ns ds)
  unfolding offered
  offered_lost d t e l ne = rw (live-count, lt-ltb r w l, ne_eqb (suc r) w (λ (q : suc r ≡ w). ne (omega arith)))

  pub offered-last : (d : Between) (t : Float) (e : Neighbor) → r + 1 ≡ w
      → entries w (set ns r (node_of e)) (set ds r e.distance) ≡ offered d t w e (entries w ns ds)
  unfolding offered
  offered-last d t e q =
      let s : suc r ≡ w = omega arith in
      let row = entries w ns ds in
      let new = entries r ns ds ++ (e ∷ []) in
      let long = length-entries w ns ds (omega arith) (omega arith) in
      let count = length-entries r ns ds (omega arith) (omega arith) in
      let more = length-append (entries r ns ds) (e ∷ []) in
      rw (live-count, lt-ltb r w (omega arith), eq-eqb (suc r) w s, made.list ns (omega arith))
      (ap (λ (k : ℕ). entries k (set ns r (node_of e)) (set ds r e.distance)) (sym s)
      ∙ entries-put r ns ds (node_of e) e.distance (omega arith) (omega arith)
      ∙ sym (rewritten-all new row (rw (more, count, long) (omega arith))))

-- ---- slots stay sound

pub live_full : (es : List Neighbor) → length es ≤ length (live es) → live es ≡ es
unfolding live
live_full [] h = refl
live_full (e ∷ es) h = go (is_empty e) (live_full es) h
  where
    go : (b : Bool) → (length es ≤ length (live es) → live es ≡ es) → suc (length es) ≤ length (cond b [] (e ∷ live es)) → cond b [] (e ∷ live es) ≡ e ∷ es
    go true ih h = absurd (not-suc-le-zero h)
    go false ih h = ap (λ (l : List Neighbor). e ∷ l) (ih (le_of_suc-le-suc h))

pub is_empty_lem : (v : ℕ) → is_empty (neighbor v empty_distance) ≡ true
unfolding is_empty eq of_bits
is_empty_lem v = refl

module _ (n : ℕ) where
  pub sound-live : (es : List Neighbor) → Sound n es → AllBelow n (live es)
  unfolding live
  sound-live [] S = tt
  sound-live (e ∷ es) S = go (is_empty e) refl (sound-live es S.1)
    where
      go : (b : Bool) → is_empty e ≡ b → AllBelow n (live es) → AllBelow n (cond b [] (e ∷ live es))
      go true q T = tt
      go false q T = (S.0 q, T)

  -- a full row
  sound_full : (es : List Neighbor) → Sound n es → length es ≤ length (live es) → AllBelow n es
  sound_full es S h = rw (← live_full es h) (sound-live es S)

  pub sound-row : {w : ℕ} {ds : List Float} {r : ℕ} → LiveIn w ds r → (ns : List ℕ) → length ns ≡ w → length ds ≡ w → w ≤ r → Sound n (entries w ns ds) → AllBelow n (entries w ns ds)
  sound-row {w} {ds} {r} made ns h g l S =
      let count = live-count made ns h g in
      let long = length-entries w ns ds (omega arith) (omega arith) in
      sound_full (entries w ns ds) S (omega arith)

  below-sound : (es : List Neighbor) → AllBelow n es → Sound n es
  below-sound es B = all_weaker (λ (e : Neighbor). node_of e < n) (λ (e : Neighbor). is_empty e ≡ false → node_of e < n) (λ (e : Neighbor) (l : node_of e < n) (q : is_empty e ≡ false). l) es B

  sound-drop : (k : ℕ) (es : List Neighbor) → Sound n es → Sound n (drop k es)
  sound-drop zero es S = S
  sound-drop (suc k) [] S = tt
  sound-drop (suc k) (e ∷ es) S = sound-drop k es S.1

  sound-take : (k : ℕ) (es : List Neighbor) → Sound n es → Sound n (take k es)
  sound-take k es S = all_take (λ (e : Neighbor). is_empty e ≡ false → node_of e < n) k es S

  sound-append : (xs ys : List Neighbor) → Sound n xs → Sound n ys → Sound n (xs ++ ys)
  sound-append xs ys X Y = all_append (λ (e : Neighbor). is_empty e ≡ false → node_of e < n) xs ys X Y

  sound-mark : (es : List Neighbor) → Sound n es → Sound n (mark_next es)
  unfolding mark_next
  sound-mark [] S = tt
  sound-mark (e ∷ es) S = (λ (q : is_empty (neighbor (node_of e) empty_distance) ≡ false). absurd (true≢false (sym (is_empty_lem (node_of e)) ∙ q)), S.1)

  sound-rewritten : (chosen row : List Neighbor) → AllBelow n chosen → Sound n row → Sound n (rewritten chosen row)
  unfolding rewritten
  sound-rewritten chosen row C R =
      sound-append chosen (mark_next (drop (length chosen) row)) (below-sound chosen C) (sound-mark (drop (length chosen) row) (sound-drop (length chosen) row R))

  pub sound-offered : (d : Between) (t : Float) (w : ℕ) (e : Neighbor) (row : List Neighbor) → length row ≡ w → node_of e < n → Sound n row → Sound n (offered d t w e row)
  unfolding offered at_full
  sound-offered d t w e row h l S = go (ltb (length (live row)) w) refl (eqb (suc (length (live row))) w)
    where
      go : (b : Bool) → ltb (length (live row)) w ≡ b → (c : Bool)
          → Sound n (cond b (cond c (rewritten (live row ++ (e ∷ [])) row) row) (rewritten (choose (occludes d t true) w (sort (row ++ (e ∷ [])))) row))
      go true q true = sound-rewritten (live row ++ (e ∷ [])) row (below-append n (live row) (e ∷ []) (sound-live row S) (l, tt)) S
      go true q false = S
      go false q c =
          let f = ltb-false (length (live row)) w q in
          let B = sound_full row S (omega arith) in
          sound-rewritten (choose (occludes d t true) w (sort (row ++ (e ∷ [])))) row
          (below-choose (occludes d t true) w n (sort (row ++ (e ∷ []))) (below-sort n (row ++ (e ∷ [])) (below-append n row (e ∷ []) B (l, tt)))) S

  -- the rows that step 4 writes: their kept entries are below n, and the rest is empty
  sound_empty : (m : ℕ) → Sound n (replicate m (empty_slot n))
  sound_empty zero = tt
  sound_empty (suc m) = (λ (q : is_empty (empty_slot n) ≡ false). absurd (true≢false (sym (is_empty_lem n) ∙ q)), sound_empty m)

  pub sound-row_of : (w : ℕ) (kept : List Neighbor) → AllBelow n kept → Sound n (row_of n w kept)
  unfolding row_of
  sound-row_of w kept K = sound-append kept (replicate (w - length kept) (empty_slot n)) (below-sound kept K) (sound_empty (w - length kept))

  pub sound-each : (f : ℕ → List Neighbor) (m : ℕ) → ((q : ℕ) → q < m → Sound n (f q)) → Sound n (each f m)
  unfolding each
  sound-each f zero F = tt
  sound-each f (suc m) F = sound-append (each f m) (f m) (sound-each f m (λ (q : ℕ) (l : q < m). F q (omega arith))) (F m (omega arith))

  pub sound-part : (w q : ℕ) (es : List Neighbor) → Sound n es → Sound n (part w q es)
  unfolding part
  sound-part w q es S = sound-take w (drop (q * w) es) (sound-drop (q * w) es S)

  pub sound-put : (w q : ℕ) (ys es : List Neighbor) → Sound n ys → Sound n es → Sound n (put_part w q ys es)
  unfolding put_part
  sound-put w q ys es Y S =
      sound-append (take (q * w) es) (ys ++ drop (q * w + w) es) (sound-take (q * w) es S) (sound-append ys (drop (q * w + w) es) Y (sound-drop (q * w + w) es S))
