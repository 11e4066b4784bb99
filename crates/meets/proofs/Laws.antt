-- An offer, an update, and a pair that meets, in a descent's state. Assumes nothing.
use mathlib.Core.Path.{◌≡◌, refl, sym, ap, ap₂, ◌∙◌}
use mathlib.Core.Bool.{Bool, true, false, cond}
use mathlib.Core.List.{List}
use Prim.Native.Nat.{ℕ, suc, ◌+◌, ◌*◌, ◌≤◌, ◌<◌}
use native.Mathlib.Nat.{mul-le-mul_right, mul-le-mul}
use native.Mathlib.Omega.{arith}
use borrow.Author.Tests.{eq-eqb, ne_eqb}
use borrow.Rule.Slice.PartMut.{put_mid}
use lib.Dec.{eqb}
use lib.ListN.{length, set}
use lib.Ieee.{Float}
use Rattle.rules.specs.declared.Neighbor.{Neighbor}
use Rattle.rules.specs.Build.{Between}
use Rattle.rules.specs.Loops.{part}
use Rattle.rules.specs.Lists.{neighbor}
use Rattle.rules.specs.Offers.{offer}
use Rattle.rules.specs.Descent.{pair, offer_to, update, visit, meet}
use Rattle.rules.specs.Places.{lists_in}
use Rattle.rules.proofs.Loops.{row_in}
use Rattle.buffers.specs.Area.{area}
use Rattle.buffers.proofs.Places.{length-area, put-length}
use Rattle.lists.proofs.Plain.{drop-later}
use Rattle.steps.specs.Steps.{OfferedTo}
use Rattle.visits.specs.Marks as visits
use Rattle.meets.specs.Meets.{OfferedIn, Updated, Does, marks_at}
use Rattle.meets.proofs.Lists.{list_in_lem, lists-front, lists-put, put-behind}

-- ---- where node u's list lies

pub record Where (n k u : ℕ) : Type 0 where
  pub inside : u * k + k ≤ n * k
  pub small : n * k ≤ 65536

pub where_is : (n k u : ℕ) → u < n → n ≤ 1024 → k ≤ 64 → Where n k u
where_is n k u h few narrow = let m : n * k ≤ 1024 * 64 = mul-le-mul few narrow in record { inside = row_in n k u h; small = omega arith }

-- ---- one offer

module _ (n k u : ℕ) (us : List ℕ) (fs : List Float) (below : u < n) (few : n ≤ 1024) (narrow : k ≤ 64) (room : n * k ≤ length us) (space : n * k ≤ length fs) where
  pub offered_in : {w : ℕ} {e : Neighbor} {ys : List ℕ} {zs : List Float} → w ≡ k → OfferedTo (area (u * k) w us) (area (u * k) w fs) k e ys zs
      → OfferedIn n k u e us fs (put_mid (u * k) w us ys) (put_mid (u * k) w fs zs)
  unfolding part
  offered_in {w} {e} {ys} {zs} same o' =
      let o : OfferedTo (area (u * k) k us) (area (u * k) k fs) k e ys zs = rw same at o' in
      let at = where_is n k u below few narrow in
      let fits = at.inside in
      let ys_long : length ys ≡ k = o.nodes_long ∙ length-area (u * k) k us (omega arith) in
      let zs_long : length zs ≡ k = o.dists_long ∙ length-area (u * k) k fs (omega arith) in
      rw same
      (record {
        lists =
            lists-put n k us ys fs zs u below room space ys_long zs_long
            ∙ ap (set (lists_in n k us fs) u) (o.list ∙ ap (offer k e) (sym (list_in_lem n k us fs u below)));
        rest = put-behind (u * k) k us ys (n * k) fits room ys_long;
        words_long = put-length (u * k) k us ys (omega arith) ys_long;
        floats_long = put-length (u * k) k fs zs (omega arith) zs_long;
      })

-- ---- an update

module _ (d : Between) (n k u v : ℕ) where
  pub updated_not : (us : List ℕ) (fs : List Float) → u ≡ v → Updated d n k u v us fs us fs 0
  unfolding update
  updated_not us fs e =
      let same = eq-eqb u v e in
      record { lists = rw same; rest = refl; words_long = refl; floats_long = refl; counted = rw same; one = omega arith }

  pub updated_both : {us us' us'' : List ℕ} {fs fs' fs'' : List Float} {x : Float} → (u ≡ v → ⊥) → x ≡ d u v
      → OfferedIn n k u (neighbor v x) us fs us' fs' → OfferedIn n k v (neighbor u x) us' fs' us'' fs'' → Updated d n k u v us fs us'' fs'' 1
  unfolding update offer_to
  updated_both {us} {us'} {us''} {fs} {fs'} {fs''} {x} e f a b =
      let apart = ne_eqb u v e in
      let step : lists_in n k us'' fs'' ≡ offer_to k v u x (offer_to k u v x (lists_in n k us fs)) = b.lists ∙ ap (offer_to k v u x) a.lists in
      record {
        lists = rw (apart, ← f) step;
        rest = b.rest ∙ a.rest;
        words_long = b.words_long ∙ a.words_long;
        floats_long = b.floats_long ∙ a.floats_long;
        counted = rw apart;
        one = omega arith;
      }

  -- ---- marks both ways

  pub met_both : {us us' us'' us''' : List ℕ} {fs fs' : List Float} {r cost : ℕ} → length us ≡ marks_at n k + visits.marks n
      → Updated d n k u v us fs us' fs' r → visits.Marked (marks_at n k) n (visit n u v) us' us'' → visits.Marked (marks_at n k) n (visit n v u) us'' us'''
      → Does n k 1 (meet d n k (pair u v)) us fs cost us''' fs' (cost + r)
  unfolding meet
  met_both {us} {us'} {us''} {us'''} {fs} {fs'} {r} {cost} long up a b =
      let l = up.words_long in
      let l' = a.long in
      record {
        held = λ m h.
            record {
              lists =
                  lists-front n k (marks_at n k) us' us''' fs' (omega arith) (omega arith) (b.long ∙ a.long) (b.front ∙ a.front)
                  ∙ up.lists ∙ ap (update d k (pair u v)) h.lists;
              marks =
                  b.marked (visit n u v m.visited) (a.marked m.visited
                  (record { words = drop-later (n * k) (marks_at n k) us' us (omega arith) up.rest ∙ h.marks.words; long = h.marks.long }));
              counted = ap₂ ◌+◌ h.counted up.counted ∙ added (eqb u v) m.cost;
            };
        words_long = b.long ∙ a.long ∙ up.words_long;
        floats_long = up.floats_long;
        most = let one = up.one in omega arith;
      }
    where
      added : (b : Bool) (c : ℕ) → c + cond b 0 1 ≡ cond b c (suc c)
      added true c = omega arith
      added false c = omega arith

-- the lanes of a node below n
pub lanes_in : (n dimension i room : ℕ) → i < n → room ≡ n * dimension → (i + 1) * dimension ≤ room
lanes_in n dimension i room h e =
    let one : i + 1 ≡ suc i = omega arith in
    let within : suc i * dimension ≤ n * dimension = mul-le-mul_right dimension h in
    rw (one, e) within
