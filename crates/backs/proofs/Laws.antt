-- Reversed lists, loop by loop. Assumes nothing.
use mathlib.Core.Path.{◌≡◌, refl, sym, ap, ◌∙◌, subst}
use mathlib.Core.Bool.{Bool, true, false}
use mathlib.Core.List.{List, ◌++◌}
use Prim.Native.Nat.{ℕ, ◌+◌, ◌*◌, ◌≤◌, ◌<◌, zero-le}
use native.Mathlib.Omega.{arith}
use borrow.Author.Tests.{ltb-true, ltb-false}
use borrow.Rule.Slice.PartMut.{mid_of, put_mid}
use lib.Dec.{ltb}
use Rattle.std.proofs.lemmas.Slice.{take-put_mid}
use lib.ListN.{length-drop, drop, length, take, get_or, replicate, length-append, length-replicate}
use lib.Seq.{take-take, take_at, length-take-le}
use Rattle.rules.specs.Loops.{each}
use Rattle.rules.specs.Descent.{drawn_after, kept_back}
use Rattle.rules.specs.DescentPlaces.{member_words}
use Rattle.rules.proofs.Loops.{each_turn}
use Rattle.buffers.specs.Area.{area}
use Rattle.buffers.proofs.Places.{length-area, put-length, put-area, put_low, put_high}
use Rattle.shuffles.specs.Kept.{KeptBack}
use Rattle.shuffles.proofs.Laws.{drawn-same}
use Rattle.backs.specs.Backs.{FilledFrom, backs, GatheredBack, PutBack, Reversed}

-- ---- one number, some times

-- from place len on
pub filled_from : {v count len : ℕ} {out ys : List ℕ} → len + count ≤ length out → {k : ℕ} → k ≡ count → ys ≡ replicate (length (mid_of len k out)) v → FilledFrom v count len out (put_mid len k out ys)
filled_from {v} {count} {len} {out} {ys} fits {k} e f =
    let room : length (mid_of len count out) ≡ count = length-area len count out fits in
    let g : ys ≡ replicate count v = f ∙ ap (λ (m : ℕ). replicate (length (mid_of len m out)) v) e ∙ ap (λ (m : ℕ). replicate m v) room in
    let l : length ys ≡ count = ap length g ∙ length-replicate count v in
    rw e
    (record {
      list = take-put_mid len count out ys (len + count) (omega arith) (omega arith) ∙ ap (λ (zs : List ℕ). take len out ++ zs) g;
      long = put-length len count out ys fits l;
    })

-- ---- each node's number

pub record Backing (n at : ℕ) (us out now : List ℕ) (len i : ℕ) : Type 0 where
  pub within : i ≤ n
  pub list : take len now ≡ backs at us i
  pub exactly : len ≡ length (backs at us i)
  pub most : len ≤ 64 * i
  pub long : length now ≡ length out

pub backing_none : {n at : ℕ} {us out : List ℕ} → Backing n at us out out 0 0
unfolding backs each
backing_none = record { within = zero-le; list = refl; exactly = refl; most = zero-le; long = refl }

module _ {n at : ℕ} {us out now : List ℕ} {len i : ℕ} (inv : Backing n at us out now len i) where
  pub backing_turn : {count : ℕ} {now' : List ℕ} → i < n → count ≡ get_or us (260 * i + at) 0 → count ≤ 64 → FilledFrom i count len now now' → Backing n at us out now' (len + count) (i + 1)
  unfolding backs
  backing_turn {count} {now'} h e few made =
      let most = inv.most in
      let exactly = inv.exactly in
      let f = each_turn (λ (j : ℕ). replicate (get_or us (260 * j + at) 0) j) i in
      let rows = each (λ (j : ℕ). replicate (get_or us (260 * j + at) 0) j) i in
      record {
        within = omega arith;
        list = made.list ∙ ap (λ (l : List ℕ). l ++ replicate count i) inv.list ∙ ap (λ (m : ℕ). rows ++ replicate m i) e ∙ f;
        exactly = sym (ap length (sym f) ∙ length-append rows (replicate (get_or us (260 * i + at) 0) i) ∙ rw (length-replicate (get_or us (260 * i + at) 0) i) (omega arith));
        most = omega arith;
        long = made.long ∙ inv.long;
      }

-- ---- a list to every context

pub record Putting (n at : ℕ) (src us₀ us : List ℕ) (i : ℕ) : Type 0 where
  pub within : i ≤ n
  pub list : (p : ℕ) → p < i → area (260 * p + at) 65 us ≡ member_words src
  pub other : (p a w : ℕ) → a + w ≤ at → p < n → area (260 * p + a) w us ≡ area (260 * p + a) w us₀
  pub behind : (p a w : ℕ) → at + 65 ≤ a → a + w ≤ 260 → p < n → area (260 * p + a) w us ≡ area (260 * p + a) w us₀
  pub rest : (a w : ℕ) → 260 * n ≤ a → area a w us ≡ area a w us₀
  pub long : length us ≡ length us₀

module _ {n at : ℕ} {src us₀ us : List ℕ} {i : ℕ} (inv : Putting n at src us₀ us i) where
  pub putting_turn : {v : ℕ} {ys : List ℕ} → v ≡ 65 → i < n → at + 65 ≤ 260 → 260 * n ≤ length us₀ → length ys ≡ length (mid_of (260 * i + at) v us) → ys ≡ member_words src
      → Putting n at src us₀ (put_mid (260 * i + at) v us ys) (i + 1)
  putting_turn {v} {ys} e h room fits yl made =
      let long = inv.long in
      let A = 260 * i + at in
      let inside : A + 65 ≤ length us = omega arith in
      let l : length ys ≡ 65 = yl ∙ ap (λ (m : ℕ). length (mid_of A m us)) e ∙ length-area A 65 us inside in
      rw e
      (record {
        within = omega arith;
        list = λ (p : ℕ) q. listed p q inside l (ltb p i) refl;
        other = λ (p a w : ℕ) x y. others p a w x y inside l (ltb i p) refl;
        behind = λ (p a w : ℕ) x y z. behinds p a w x y z inside l (ltb p i) refl;
        rest = λ (a w : ℕ) x. put_high A 65 us ys inside l a w (omega arith) ∙ inv.rest a w x;
        long = put-length A 65 us ys inside l ∙ inv.long;
      })
    where
      listed : (p : ℕ) → p < i + 1 → 260 * i + at + 65 ≤ length us → length ys ≡ 65 → (b : Bool) → ltb p i ≡ b → area (260 * p + at) 65 (put_mid (260 * i + at) 65 us ys) ≡ member_words src
      listed p q inside l true f = let g = ltb-true p i f in put_low (260 * i + at) 65 us ys inside l (260 * p + at) 65 (omega arith) ∙ inv.list p g
      listed p q inside l false f = let g = ltb-false p i f in let same : p ≡ i = omega arith in rw same (put-area (260 * i + at) 65 us ys inside l ∙ made)

      others : (p a w : ℕ) → a + w ≤ at → p < n → 260 * i + at + 65 ≤ length us → length ys ≡ 65 → (b : Bool) → ltb i p ≡ b → area (260 * p + a) w (put_mid (260 * i + at) 65 us ys) ≡ area (260 * p + a) w us₀
      others p a w x y inside l true f = let g = ltb-true i p f in put_high (260 * i + at) 65 us ys inside l (260 * p + a) w (omega arith) ∙ inv.other p a w x y
      others p a w x y inside l false f = let g = ltb-false i p f in put_low (260 * i + at) 65 us ys inside l (260 * p + a) w (omega arith) ∙ inv.other p a w x y

      behinds : (p a w : ℕ) → at + 65 ≤ a → a + w ≤ 260 → p < n → 260 * i + at + 65 ≤ length us → length ys ≡ 65 → (b : Bool) → ltb p i ≡ b → area (260 * p + a) w (put_mid (260 * i + at) 65 us ys) ≡ area (260 * p + a) w us₀
      behinds p a w x y z inside l true f = let g = ltb-true p i f in put_low (260 * i + at) 65 us ys inside l (260 * p + a) w (omega arith) ∙ inv.behind p a w x y z
      behinds p a w x y z inside l false f = let g = ltb-false p i f in put_high (260 * i + at) 65 us ys inside l (260 * p + a) w (omega arith) ∙ inv.behind p a w x y z

-- ---- the reversed list, cut and copied

pub reversed : {n s from to : ℕ} {draws : List ℕ} {at len kept r : ℕ} {us ws us' ws₁ ys : List ℕ} → GatheredBack n from us ws ws₁ len → len ≤ length ws₁
    → KeptBack draws s at (take len ws₁) ys kept → r ≡ drawn_after s at (take len (ys ++ drop len ws₁)) → PutBack n to (take kept (ys ++ drop len ws₁)) us us'
    → Reversed n s from to draws at us ws us' (ys ++ drop len ws₁) r
reversed {n} {s} {from} {to} {draws} {at} {len} {kept} {r} {us} {ws} {us'} {ws₁} {ys} made fits k d p =
    let whole : length (take len ws₁) ≡ len = length-take-le len ws₁ fits in
    let yl : length ys ≡ len = k.long ∙ whole in
    let short = k.to in
    let all : take len (ys ++ drop len ws₁) ≡ ys = take_at ys (drop len ws₁) len yl in
    let front : take kept (ys ++ drop len ws₁) ≡ take kept ys = sym (take-take kept len (ys ++ drop len ws₁) (omega arith)) ∙ ap (take kept) all in
    let list : take kept (ys ++ drop len ws₁) ≡ kept_back draws s at (backs from us n) = front ∙ k.list ∙ ap (kept_back draws s at) made.list in
    record {
      put = subst (λ (xs : List ℕ). PutBack n to xs us us') list p;
      next = d ∙ drawn-same s at (take len (ys ++ drop len ws₁)) (backs from us n) (ap length all ∙ yl ∙ made.exactly);
      scratch_long = simp (length-append, length-drop) (omega (arith, made.long));
    }
