-- Laws of `insert`, `sort` and `least`, over plain lists. Assumes nothing.
use mathlib.Core.Path.{◌≡◌, refl, sym, ap, ◌∙◌, subst}
use mathlib.Core.Bool.{Bool, true, false, cond, true≢false}
use mathlib.Core.List.{List, [], ◌∷◌, ◌++◌, append-nil}
use Prim.Native.Nat.{ℕ, zero, suc, ◌+◌, ◌≤◌, ◌<◌, zero-le, suc-le-suc, min}
use native.Mathlib.Nat.{le_of_suc-le-suc, not-suc-le-zero, le_refl, zero-add, add-zero}
use native.Mathlib.Omega.{arith}
use lib.Dec.{leb}
use lib.ListN.{length, take, drop, get_or, length-take}
use lib.Seq.{take_all, take-take}
use borrow.Author.Tests.{leb-true, leb-false}
use Rattle.rules.specs.declared.Neighbor.{Neighbor}
use Rattle.rules.specs.Loops.{through}
use Rattle.rules.specs.Distance.{before}
use Rattle.rules.specs.Lists.{insert, place, insert_all, sort, least}
use Rattle.neighbor.specs.Holdable.{Holdable}
use Rattle.neighbor.proofs.Order.{asymmetric, transitive, total}
use Rattle.lists.specs.Ascending.{AllHoldable, NoneBefore, Ascending, Perm, same, next, exchange, chain}
use Rattle.rules.proofs.Loops.{through-append}
use Rattle.lists.proofs.Perm.{perm_first, perm_front}

-- ---- where an entry goes

pub place_here : (e x : Neighbor) (xs : List Neighbor) → before e x ≡ true → place e (x ∷ xs) ≡ 0
unfolding place
place_here e x xs h = simp h

pub place-later : (e x : Neighbor) (xs : List Neighbor) → before e x ≡ false → place e (x ∷ xs) ≡ suc (place e xs)
unfolding place
place-later e x xs h = simp h

pub place-nil : (e : Neighbor) → place e [] ≡ 0
unfolding place
place-nil e = refl

pub place-le : (e : Neighbor) (xs : List Neighbor) → place e xs ≤ length xs
unfolding place
place-le e [] = zero-le
place-le e (x ∷ xs) = go (before e x) (place-le e xs)
  where
    go : (b : Bool) → place e xs ≤ length xs → cond b zero (suc (place e xs)) ≤ suc (length xs)
    go true h = zero-le
    go false h = suc-le-suc h

pub insert-place : (e : Neighbor) (xs : List Neighbor) → take (place e xs) xs ++ e ∷ drop (place e xs) xs ≡ insert e xs
unfolding insert place
insert-place e [] = refl
insert-place e (x ∷ xs) = go (before e x) (insert-place e xs)
  where
    go : (b : Bool) → take (place e xs) xs ++ e ∷ drop (place e xs) xs ≡ insert e xs
        → take (cond b zero (suc (place e xs))) (x ∷ xs) ++ e ∷ drop (cond b zero (suc (place e xs))) (x ∷ xs) ≡ cond b (e ∷ x ∷ xs) (x ∷ insert e xs)
    go true h = refl
    go false h = ap (λ (l : List Neighbor). x ∷ l) h

pub length-insert : (e : Neighbor) (xs : List Neighbor) → length (insert e xs) ≡ suc (length xs)
unfolding insert
length-insert e [] = refl
length-insert e (x ∷ xs) = go (before e x) (length-insert e xs)
  where
    go : (b : Bool) → length (insert e xs) ≡ suc (length xs) → length (cond b (e ∷ x ∷ xs) (x ∷ insert e xs)) ≡ suc (suc (length xs))
    go true h = refl
    go false h = ap suc h

-- ---- insert and cut

module _ {A : Type 0} where
  -- an element put at p, and then a cut behind it: the cut may go first
  pub put_cut : (p m : ℕ) (a : A) (xs : List A) → p ≤ m → take (suc m) (take p xs ++ a ∷ drop p xs) ≡ take p (take m xs) ++ a ∷ drop p (take m xs)
  put_cut zero m a xs h = refl
  put_cut (suc p) zero a xs h = absurd (not-suc-le-zero h)
  put_cut (suc p) (suc m) a [] h = ap (λ (l : List A). a ∷ l) (take_all (suc m) [] zero-le)
  put_cut (suc p) (suc m) a (x ∷ xs) h = ap (λ (l : List A). x ∷ l) (put_cut p m a xs (le_of_suc-le-suc h))

  pub take_min : (n k : ℕ) (xs : List A) → n ≡ min k (length xs) → take n xs ≡ take k xs
  take_min n k xs h = go (leb k (length xs)) refl
    where
      go : (b : Bool) → leb k (length xs) ≡ b → take n xs ≡ take k xs
      go true e = let l = leb-true k (length xs) e in let c : n ≡ k = omega arith in rw c
      go false e = let l = leb-false k (length xs) e in take_all n xs (omega arith) ∙ sym (take_all k xs (omega arith))

-- a cut in front of where an entry goes does not see it
pub take-before : (k : ℕ) (e : Neighbor) (xs : List Neighbor) → k ≤ place e xs → take k (insert e xs) ≡ take k xs
unfolding insert place
take-before zero e xs h = refl
take-before (suc k) e [] h = absurd (not-suc-le-zero h)
take-before (suc k) e (x ∷ xs) h = go (before e x) (take-before k e xs) h
  where
    go : (b : Bool) → (k ≤ place e xs → take k (insert e xs) ≡ take k xs) → suc k ≤ cond b zero (suc (place e xs))
        → take (suc k) (cond b (e ∷ x ∷ xs) (x ∷ insert e xs)) ≡ x ∷ take k xs
    go true f h = absurd (not-suc-le-zero h)
    go false f h = ap (λ (l : List Neighbor). x ∷ l) (f (le_of_suc-le-suc h))

-- ---- pushes one after another, with a cut to k at each: no list need be ascending

take-cons : (k : ℕ) (x : Neighbor) (xs : List Neighbor) → take k (x ∷ take k xs) ≡ take k (x ∷ xs)
take-cons zero x xs = refl
take-cons (suc k) x xs = ap (λ (l : List Neighbor). x ∷ l) (take-take k (suc k) xs (omega arith))

pub take-insert : (k : ℕ) (e : Neighbor) (xs : List Neighbor) → take k (insert e (take k xs)) ≡ take k (insert e xs)
unfolding insert
take-insert zero e xs = refl
take-insert (suc k) e [] = refl
take-insert (suc k) e (x ∷ xs) = go (before e x) (take-insert k e xs)
  where
    go : (b : Bool) → take k (insert e (take k xs)) ≡ take k (insert e xs)
        → take (suc k) (cond b (e ∷ x ∷ take k xs) (x ∷ insert e (take k xs))) ≡ take (suc k) (cond b (e ∷ x ∷ xs) (x ∷ insert e xs))
    go true h = ap (λ (l : List Neighbor). e ∷ l) (take-cons k x xs)
    go false h = ap (λ (l : List Neighbor). x ∷ l) h

module _ (k : ℕ) where
  pub take-insert_all : (es xs : List Neighbor) → take k (insert_all es (take k xs)) ≡ take k (insert_all es xs)
  unfolding insert_all through
  take-insert_all [] xs = take-take k k xs (le_refl k)
  take-insert_all (e ∷ es) xs =
      sym (take-insert_all es (insert e (take k xs)))
      ∙ ap (λ (l : List Neighbor). take k (insert_all es l)) (take-insert k e xs) ∙ take-insert_all es (insert e xs)

  -- the first k are all that the first k of more hang on
  pub same-insert_all : (es xs ys : List Neighbor) → take k xs ≡ take k ys → take k (insert_all es xs) ≡ take k (insert_all es ys)
  same-insert_all es xs ys h =
      sym (take-insert_all es xs) ∙ ap (λ (l : List Neighbor). take k (insert_all es l)) h ∙ take-insert_all es ys

-- ---- all of a list

pub insert_all-append : (es fs xs : List Neighbor) → insert_all (es ++ fs) xs ≡ insert_all fs (insert_all es xs)
unfolding insert_all
insert_all-append es fs xs = through-append insert es fs xs

pub sort-append : (es fs : List Neighbor) → sort (es ++ fs) ≡ insert_all fs (sort es)
unfolding sort
sort-append es fs = insert_all-append es fs []

pub length-insert_all : (es xs : List Neighbor) → length (insert_all es xs) ≡ length es + length xs
unfolding insert_all through
length-insert_all [] xs = sym (zero-add (length xs))
length-insert_all (e ∷ es) xs =
    let h = length-insert_all es (insert e xs) in
    let g = length-insert e xs in
    omega arith

pub length-sort : (es : List Neighbor) → length (sort es) ≡ length es
unfolding sort
length-sort es = length-insert_all es [] ∙ add-zero (length es)

pub length-least : (k : ℕ) (es : List Neighbor) → length (least k es) ≡ min k (length es)
unfolding least
length-least k es = length-take k (sort es) ∙ ap (min k) (length-sort es)

-- ---- lists that can be held

pub holdable_insert : (e : Neighbor) (xs : List Neighbor) → Holdable e.distance → AllHoldable xs → AllHoldable (insert e xs)
unfolding insert
holdable_insert e [] E X = (E, tt)
holdable_insert e (x ∷ xs) E X = go (before e x) (holdable_insert e xs E X.1)
  where
    go : (b : Bool) → AllHoldable (insert e xs) → AllHoldable (cond b (e ∷ x ∷ xs) (x ∷ insert e xs))
    go true r = (E, X)
    go false r = (X.0, r)

pub holdable_insert_all : (es xs : List Neighbor) → AllHoldable es → AllHoldable xs → AllHoldable (insert_all es xs)
unfolding insert_all through
holdable_insert_all [] xs E X = X
holdable_insert_all (e ∷ es) xs E X = holdable_insert_all es (insert e xs) E.1 (holdable_insert e xs E.0 X)

pub holdable_sort : (es : List Neighbor) → AllHoldable es → AllHoldable (sort es)
unfolding sort
holdable_sort es E = holdable_insert_all es [] E tt

pub holdable_append : (xs ys : List Neighbor) → AllHoldable xs → AllHoldable ys → AllHoldable (xs ++ ys)
holdable_append [] ys X Y = Y
holdable_append (x ∷ xs) ys X Y = (X.0, holdable_append xs ys X.1 Y)

pub holdable_take : (k : ℕ) (xs : List Neighbor) → AllHoldable xs → AllHoldable (take k xs)
holdable_take zero xs X = tt
holdable_take (suc k) [] X = tt
holdable_take (suc k) (x ∷ xs) X = (X.0, holdable_take k xs X.1)

pub holdable_perm : {xs ys : List Neighbor} → Perm xs ys → AllHoldable xs → AllHoldable ys
holdable_perm same X = X
holdable_perm (next p) X = (X.0, holdable_perm p X.1)
holdable_perm exchange X = (X.1.0, (X.0, X.1.1))
holdable_perm (chain p q) X = holdable_perm q (holdable_perm p X)

-- ---- the order of pushes does not matter

-- a precedes b
swap-lt : (a b : Neighbor) (xs : List Neighbor) → Holdable a.distance → Holdable b.distance → AllHoldable xs → before a b ≡ true
    → insert a (insert b xs) ≡ insert b (insert a xs)
unfolding insert
swap-lt a b [] A B X h = simp (h, asymmetric a b A B h)
swap-lt a b (x ∷ xs) A B X h = go (before a x) (before b x) refl refl (swap-lt a b xs A B X.1 h)
  where
    go : (s t : Bool) → before a x ≡ s → before b x ≡ t → insert a (insert b xs) ≡ insert b (insert a xs)
        → insert a (insert b (x ∷ xs)) ≡ insert b (insert a (x ∷ xs))
    go true true p q ih = simp (p, q, h, asymmetric a b A B h)
    go true false p q ih = simp (p, q, asymmetric a b A B h)
    go false true p q ih = absurd (true≢false (sym (transitive a b x A B X.0 h q) ∙ p))
    go false false p q ih = simp (p, q) (ap (λ (l : List Neighbor). x ∷ l) ih)

pub swap : (a b : Neighbor) (xs : List Neighbor) → Holdable a.distance → Holdable b.distance → AllHoldable xs → insert a (insert b xs) ≡ insert b (insert a xs)
swap a b xs A B X = go (before a b) (before b a) refl refl
  where
    go : (s t : Bool) → before a b ≡ s → before b a ≡ t → insert a (insert b xs) ≡ insert b (insert a xs)
    go true t p q = swap-lt a b xs A B X p
    go false true p q = sym (swap-lt b a xs B A X q)
    go false false p q = rw (total a b A B p q)

-- an entry may be pushed last
pub insert_all-insert : (es : List Neighbor) (e : Neighbor) (xs : List Neighbor) → AllHoldable es → Holdable e.distance → AllHoldable xs
    → insert_all es (insert e xs) ≡ insert e (insert_all es xs)
unfolding insert_all through
insert_all-insert [] e xs F E X = refl
insert_all-insert (f ∷ fs) e xs F E X =
    ap (insert_all fs) (swap f e xs F.0 E X) ∙ insert_all-insert fs e (insert f xs) F.1 E (holdable_insert f xs F.0 X)

pub insert_all_perm : {es fs : List Neighbor} → Perm es fs → (xs : List Neighbor) → AllHoldable es → AllHoldable xs → insert_all es xs ≡ insert_all fs xs
unfolding insert_all through
insert_all_perm same xs E X = refl
insert_all_perm (next {x = e} p) xs E X = insert_all_perm p (insert e xs) E.1 (holdable_insert e xs E.0 X)
insert_all_perm (exchange {x = e} {y = f} {xs = es}) xs E X = ap (insert_all es) (swap f e xs E.1.0 E.0 X)
insert_all_perm (chain p q) xs E X = insert_all_perm p xs E X ∙ insert_all_perm q xs (holdable_perm p E) X

pub sort_perm : {es fs : List Neighbor} → Perm es fs → AllHoldable es → sort es ≡ sort fs
unfolding sort
sort_perm p E = insert_all_perm p [] E tt

pub least_perm : (k : ℕ) {es fs : List Neighbor} → Perm es fs → AllHoldable es → least k es ≡ least k fs
unfolding least
least_perm k p E = ap (take k) (sort_perm p E)

-- a sort rearranges
pub insert-is_perm : (e : Neighbor) (xs : List Neighbor) → Perm (e ∷ xs) (insert e xs)
unfolding insert
insert-is_perm e [] = same
insert-is_perm e (x ∷ xs) = go (before e x) (insert-is_perm e xs)
  where
    go : (b : Bool) → Perm (e ∷ xs) (insert e xs) → Perm (e ∷ x ∷ xs) (cond b (e ∷ x ∷ xs) (x ∷ insert e xs))
    go true p = same
    go false p = chain exchange (next p)

pub insert_all-is_perm : (es xs : List Neighbor) → Perm (es ++ xs) (insert_all es xs)
unfolding insert_all through
insert_all-is_perm [] xs = same
insert_all-is_perm (e ∷ es) xs = chain (perm_first e es xs) (chain (perm_front es (insert-is_perm e xs)) (insert_all-is_perm es (insert e xs)))

pub sort-is_perm : (es : List Neighbor) → Perm es (sort es)
unfolding sort
sort-is_perm es = subst (λ (l : List Neighbor). Perm l (insert_all es [])) (append-nil es) (insert_all-is_perm es [])

-- ---- ascending lists

-- where e precedes x, nothing that does not precede x precedes e
earlier : (e x y : Neighbor) → Holdable e.distance → Holdable x.distance → Holdable y.distance → before e x ≡ true → before y x ≡ false → before y e ≡ false
earlier e x y E X Y p q = go (before y e) refl
  where
    go : (b : Bool) → before y e ≡ b → b ≡ false
    go true h = absurd (true≢false (sym (transitive y e x Y E X h p) ∙ q))
    go false h = refl

none_earlier : (e x : Neighbor) (ys : List Neighbor) → Holdable e.distance → Holdable x.distance → AllHoldable ys → before e x ≡ true → NoneBefore x ys → NoneBefore e ys
none_earlier e x [] E X Y p n = tt
none_earlier e x (y ∷ ys) E X Y p n = (earlier e x y E X Y.0 p n.0, none_earlier e x ys E X Y.1 p n.1)

none_insert : (x e : Neighbor) (ys : List Neighbor) → before e x ≡ false → NoneBefore x ys → NoneBefore x (insert e ys)
unfolding insert
none_insert x e [] h n = (h, tt)
none_insert x e (y ∷ ys) h n = go (before e y) (none_insert x e ys h n.1)
  where
    go : (b : Bool) → NoneBefore x (insert e ys) → NoneBefore x (cond b (e ∷ y ∷ ys) (y ∷ insert e ys))
    go true r = (h, n)
    go false r = (n.0, r)

pub ascending-insert : (e : Neighbor) (xs : List Neighbor) → Holdable e.distance → AllHoldable xs → Ascending xs → Ascending (insert e xs)
unfolding insert
ascending-insert e [] E X s = (tt, tt)
ascending-insert e (x ∷ xs) E X s = go (before e x) refl (ascending-insert e xs E X.1 s.1)
  where
    go : (b : Bool) → before e x ≡ b → Ascending (insert e xs) → Ascending (cond b (e ∷ x ∷ xs) (x ∷ insert e xs))
    go true h r = ((asymmetric e x E X.0 h, none_earlier e x xs E X.0 X.1 h s.0), s)
    go false h r = (none_insert x e xs h s.0, r)

pub ascending-insert_all : (es xs : List Neighbor) → AllHoldable es → AllHoldable xs → Ascending xs → Ascending (insert_all es xs)
unfolding insert_all through
ascending-insert_all [] xs E X s = s
ascending-insert_all (e ∷ es) xs E X s =
    ascending-insert_all es (insert e xs) E.1 (holdable_insert e xs E.0 X) (ascending-insert e xs E.0 X s)

pub ascending-sort : (es : List Neighbor) → AllHoldable es → Ascending (sort es)
unfolding sort
ascending-sort es E = ascending-insert_all es [] E tt tt

none_take : (k : ℕ) (x : Neighbor) (ys : List Neighbor) → NoneBefore x ys → NoneBefore x (take k ys)
none_take zero x ys n = tt
none_take (suc k) x [] n = tt
none_take (suc k) x (y ∷ ys) n = (n.0, none_take k x ys n.1)

pub ascending-take : (k : ℕ) (xs : List Neighbor) → Ascending xs → Ascending (take k xs)
ascending-take zero xs s = tt
ascending-take (suc k) [] s = tt
ascending-take (suc k) (x ∷ xs) s = (none_take k x xs s.0, ascending-take k xs s.1)

-- what none precedes goes first
insert-first : (e : Neighbor) (xs : List Neighbor) → Holdable e.distance → AllHoldable xs → NoneBefore e xs → insert e xs ≡ e ∷ xs
unfolding insert
insert-first e [] E X n = refl
insert-first e (x ∷ xs) E X n = go (before e x) refl (insert-first e xs E X.1 n.1)
  where
    go : (b : Bool) → before e x ≡ b → insert e xs ≡ e ∷ xs → cond b (e ∷ x ∷ xs) (x ∷ insert e xs) ≡ e ∷ x ∷ xs
    go true h ih = refl
    go false h ih = let one = total e x E X.0 h n.0 in rw ih (cc)

pub sort-ascending : (xs : List Neighbor) → AllHoldable xs → Ascending xs → sort xs ≡ xs
unfolding sort insert_all through insert
sort-ascending [] X s = refl
sort-ascending (x ∷ xs) X s =
    insert_all-insert xs x [] X.1 X.0 tt ∙ ap (insert x) (sort-ascending xs X.1 s.1) ∙ insert-first x xs X.0 X.1 s.0

-- to insert into an ascending list is to sort
pub insert_all-ascending : (es xs : List Neighbor) → AllHoldable xs → Ascending xs → insert_all es xs ≡ sort (xs ++ es)
insert_all-ascending es xs X s = ap (insert_all es) (sym (sort-ascending xs X s)) ∙ sym (sort-append xs es)

-- ---- an entry that does not precede the last of the first k of an ascending list is not among the least k

pub none_at : (x : Neighbor) (ys : List Neighbor) (i : ℕ) (z : Neighbor) → NoneBefore x ys → i < length ys → before (get_or ys i z) x ≡ false
none_at x [] i z n h = absurd (not-suc-le-zero h)
none_at x (y ∷ ys) zero z n h = n.0
none_at x (y ∷ ys) (suc i) z n h = none_at x ys i z n.1 (le_of_suc-le-suc h)

pub holdable_at : (xs : List Neighbor) (i : ℕ) (z : Neighbor) → AllHoldable xs → i < length xs → Holdable (get_or xs i z).distance
holdable_at [] i z X h = absurd (not-suc-le-zero h)
holdable_at (x ∷ xs) zero z X h = X.0
holdable_at (x ∷ xs) (suc i) z X h = holdable_at xs i z X.1 (le_of_suc-le-suc h)

-- not before y, and y not before x: not before x
pub later : (e x y : Neighbor) → Holdable e.distance → Holdable x.distance → Holdable y.distance → before e y ≡ false → before y x ≡ false → before e x ≡ false
later e x y E X Y p q = go (before e x) refl
  where
    go : (b : Bool) → before e x ≡ b → b ≡ false
    go true h =
        let one = total e y E Y p (earlier e x y E X Y h q) in
        absurd (true≢false (sym h ∙ ap (λ (w : Neighbor). before w x) one ∙ q))
    go false h = refl

pub place-behind : (e : Neighbor) (xs : List Neighbor) (i : ℕ) (z : Neighbor) → Holdable e.distance → AllHoldable xs → Ascending xs → i < length xs
    → before e (get_or xs i z) ≡ false → i < place e xs
place-behind e [] i z E X s h b = absurd (not-suc-le-zero h)
place-behind e (x ∷ xs) zero z E X s h b = rw (place-later e x xs b) (suc-le-suc zero-le)
place-behind e (x ∷ xs) (suc i) z E X s h b =
    let l : i < length xs = le_of_suc-le-suc h in
    let y = get_or xs i z in
    let c : before e x ≡ false = later e x y E X.0 (holdable_at xs i z X.1 l) b (none_at x xs i z s.0 l) in
    rw (place-later e x xs c) (suc-le-suc (place-behind e xs i z E X.1 s.1 l b))

pub take_behind : (e : Neighbor) (xs : List Neighbor) (i : ℕ) (z : Neighbor) → Holdable e.distance → AllHoldable xs → Ascending xs → i < length xs
    → before e (get_or xs i z) ≡ false → take (suc i) (insert e xs) ≡ take (suc i) xs
take_behind e xs i z E X s h b = take-before (suc i) e xs (place-behind e xs i z E X s h b)
