-- What the renewal of lists leaves, what the reversed lists count on, and what both leave. Assumes nothing.
use mathlib.Core.Path.{◌≡◌, sym, ap, ◌∙◌, subst}
use mathlib.Core.List.{List, [], ◌∷◌}
use Prim.Native.Nat.{ℕ, ◌+◌, ◌-◌, ◌*◌, ◌≤◌, ◌<◌}
use native.Mathlib.Nat.{mul-le-mul, mul_assoc}
use native.Mathlib.Omega.{arith}
use borrow.Rule.Slice.PartMut.{mid_of, put_mid}
use lib.ListN.{length, take, drop, length-drop}
use lib.Seq.{length-take-le, take-take, take_all}
use Rattle.rules.specs.Loops.{each}
use Rattle.rules.specs.Descent.{Context, Met, renew_all, members_back, drawn_after, kept_back, reversed_old_of, reversed_new_of, context_of, renewed}
use Rattle.rules.specs.DescentPlaces.{member_words, context_words, pair_words}
use Rattle.rules.proofs.Loops.{length-ones, get_d_ones}
use Rattle.buffers.specs.Area.{area}
use Rattle.buffers.proofs.Places.{length-area, put-length, put-area, put_front, put_high}
use Rattle.shuffles.proofs.Laws.{drawn-few}
use Rattle.visits.specs.Marks as visits
use Rattle.meets.specs.Meets.{marks_at}
use Rattle.members.proofs.Laws.{area_in}
use Rattle.members.proofs.Contexts.{no_context, Four, contexts_told}
use Rattle.backs.specs.Backs.{Lengths, backs, Reversed}
use Rattle.renews.specs.Renews.{Lists, RenewedIn, Renews}
use Rattle.unvisits.specs.Unvisits.{unvisit_each, News}
use Rattle.descent_kept.proofs.Contexts.{Renewing, all-renewed}
use Rattle.renewals.specs.Renewals.{Ready, Held, renewed_of, ListsRenewed, StateRenewed}
use Rattle.renewals.proofs.Counts.{olds-few, news-few}
use Rattle.renewals.proofs.Places.{back-new, back-old, lengths-new, lengths-old, news_walkable, unvisited, renewed_as}

-- a part of a slice comes back: what lies behind it
behind : (a w : ℕ) (xs ys : List ℕ) → a + w ≤ length xs → length ys ≡ w → drop (a + w) (put_mid a w xs ys) ≡ drop (a + w) xs
behind a w xs ys fits long =
    let m = length xs in
    let p = put-length a w xs ys fits long in
    let l = length-drop (a + w) (put_mid a w xs ys) in
    let l' = length-drop (a + w) xs in
    sym (take_all m (drop (a + w) (put_mid a w xs ys)) (omega arith)) ∙ put_high a w xs ys fits long (a + w) m (omega arith) ∙ take_all m (drop (a + w) xs) (omega arith)

module _ (draws : List ℕ) (n k s : ℕ) {us : List ℕ} (L : Lists n k us) where
  good_of : (m : Met) → Ready n k m us → (some : 0 < n) → Renewing n some (renewed_of draws n s m)
  good_of m Q some = all-renewed n some draws k s m.visited m.lists L.narrow Q.lists

  -- ---- the new and old lists in scratch, and their copy

  module _ {ws ws1 : List ℕ} {total at : ℕ} (R : Renews draws n k s us ws ws1 total at n) (room : 260 * n ≤ length ws1) where
    in_scratch : (m : Met) → Ready n k m us → RenewedIn (renewed_of draws n s m) ws1 total at n
    unfolding renew_all
    in_scratch m Q = R.held m.visited m.lists Q.source

    pub walkable : Held n k us → News n ws1
    walkable H = news_walkable (in_scratch H.met H.ready) (good_of H.met H.ready) room

    module _ {us1 cs : List ℕ} {a : ℕ} (M : visits.Marked (marks_at n k) n (unvisit_each n ws1 n) us us1) (ea : a ≡ 260 * n) (copied : cs ≡ take (260 * n) ws1) where
      fits : n * k + 260 * n ≤ length us1
      fits = let w = L.words in let l = M.long in omega arith

      cs_long : length cs ≡ 260 * n
      cs_long = ap length copied ∙ length-take-le (260 * n) ws1 room

      pub lists-renewed : ListsRenewed draws n k s us (put_mid (n * k) a us1 cs) ws ws1 total at
      lists-renewed =
          rw ea
          (record {
            contexts = λ m Q.
                subst (λ (xs : List ℕ). RenewedIn (renewed_of draws n s m) xs total at n) (sym (put-area (n * k) (260 * n) us1 cs fits cs_long ∙ copied))
                (renewed_as (λ i h. area_in (260 * i) 65 (260 * n) ws1 (omega arith)) (λ i h. area_in (260 * i + 65) 65 (260 * n) ws1 (omega arith)) (in_scratch m Q));
            marks = λ m Q.
                let H = M.marked m.visited Q.source.marks in
                let e = unvisited (in_scratch m Q) (good_of m Q) m.visited in
                record {
                  words = behind (n * k) (260 * n) us1 cs fits cs_long ∙ H.words ∙ ap (pair_words (visits.marks n)) e;
                  long = ap length (sym e) ∙ H.long;
                };
            front =
                put_front (n * k) (260 * n) us1 cs fits cs_long (n * k) (omega arith) ∙ sym (take-take (n * k) (marks_at n k) us1 (omega arith))
                ∙ ap (take (n * k)) M.front ∙ take-take (n * k) (marks_at n k) us (omega arith);
            last = R.last;
            long = put-length (n * k) (260 * n) us1 cs fits cs_long ∙ M.long;
            scratch_long = R.long;
          })

  -- ---- the reversed lists

  module _ {us1 ws ws1 : List ℕ} {total at : ℕ} (A : ListsRenewed draws n k s us us1 ws ws1 total at) {a : ℕ} (ea : a ≡ 260 * n) where
    abbrev cs1 : List ℕ
    cs1 = mid_of (n * k) a us1

    held : (m : Met) → Ready n k m us → RenewedIn (renewed_of draws n s m) cs1 total at n
    held m Q = rw ea (A.contexts m Q)

    room1 : n * k + 260 * n ≤ length us1
    room1 = let w = L.words in let l = A.long in omega arith

    pub old-room : 260 * n ≤ length cs1
    old-room = let l = length-area (n * k) (260 * n) us1 room1 in rw ea (omega arith)

    most : n * k ≤ 65536
    most = mul-le-mul L.few L.narrow

    old-count : (m : Met) → Ready n k m us → at + length (backs 65 cs1 n) ≤ n * k
    old-count m Q =
        let f = olds-few draws n k s m.visited m.lists Q.lists 0 in
        let e = ap length (back-old (held m Q) 0) in
        let d = (held m Q).drawn in
        omega arith

    twice : 2 * n * k ≡ 2 * (n * k)
    twice = mul_assoc 2 n k

    module _ (H : Held n k us) (enough : 2 * n * k ≤ length draws) where
      pub old-lengths : Lengths n 65 cs1
      old-lengths = lengths-old (held H.met H.ready) (good_of H.met H.ready)

      pub old-draws : (at ≤ 131072) × (at + (length (backs 65 cs1 n) - 1) ≤ length draws)
      old-draws =
          let c = old-count H.met H.ready in
          let p = most in
          let e = twice in
          (omega arith, omega arith)

    module _ {cs2 ws2 : List ℕ} {next b : ℕ} (B : Reversed n s 65 195 draws at cs1 ws1 cs2 ws2 next) (eb : b ≡ 260 * n) where
      cs2_long : length cs2 ≡ 260 * n
      cs2_long = B.put.long ∙ rw ea (length-area (n * k) (260 * n) us1 room1)

      abbrev us2 : List ℕ
      us2 = put_mid (n * k) a us1 cs2

      us2_long : length us2 ≡ length us1
      us2_long = rw ea (put-length (n * k) (260 * n) us1 cs2 room1 cs2_long)

      -- the part that is lent again
      again : mid_of (n * k) b us2 ≡ cs2
      again = rw (eb, ea) (put-area (n * k) (260 * n) us1 cs2 room1 cs2_long)

      held2 : (m : Met) → Ready n k m us → RenewedIn (renewed_of draws n s m) (mid_of (n * k) b us2) total at n
      held2 m Q =
          rw again
          (renewed_as
          (λ i h. let z : 260 * i ≡ 260 * i + 0 = omega arith in rw z (B.put.other i 0 65 (omega arith) h))
          (λ i h. B.put.other i 65 65 (omega arith) h) (held m Q))

      pub new-room : 260 * n ≤ length (mid_of (n * k) b us2)
      new-room = let l = ap length again in let l' = cs2_long in omega arith

      next-is : (m : Met) → Ready n k m us → (w : ℕ) → next ≡ drawn_after s (renewed_of draws n s m).at (members_back n (renewed_of draws n s m).olds w)
      next-is m Q w = B.next ∙ ap (drawn_after s at) (back-old (held m Q) w) ∙ ap (λ (c : ℕ). drawn_after s c (members_back n (renewed_of draws n s m).olds w)) (held m Q).drawn

      module _ (H : Held n k us) (enough : 2 * n * k ≤ length draws) where
        pub new-lengths : Lengths n 0 (mid_of (n * k) b us2)
        new-lengths = lengths-new (held2 H.met H.ready) (good_of H.met H.ready)

        pub new-draws : (next ≤ 131072) × (next + (length (backs 0 (mid_of (n * k) b us2) n) - 1) ≤ length draws)
        new-draws =
            let m = H.met in
            let Q = H.ready in
            let c = old-count m Q in
            let d = drawn-few s at (backs 65 cs1 n) in
            let x = B.next in
            let f = news-few draws n k s m.visited m.lists Q.lists 0 in
            let g = ap length (back-new (held2 m Q) 0) in
            let p = most in
            let e = twice in
            (omega arith, omega arith)

      module _ {cs3 ws3 : List ℕ} {last : ℕ} (C : Reversed n s 0 130 draws next (mid_of (n * k) b us2) ws2 cs3 ws3 last) where
        cs3_long : length cs3 ≡ 260 * n
        cs3_long = C.put.long ∙ ap length again ∙ cs2_long

        room2 : n * k + 260 * n ≤ length us2
        room2 = let r = room1 in let l = us2_long in omega arith

        abbrev us3 : List ℕ
        us3 = put_mid (n * k) b us2 cs3

        four : (m : Met) → Ready n k m us → (i : ℕ) → i < n → Four (260 * i) (context_of draws n s (renewed_of draws n s m) i) cs3
        unfolding context_of reversed_old_of reversed_new_of
        four m Q i h =
            let r = renewed_of draws n s m in
            let z : 260 * i ≡ 260 * i + 0 = omega arith in
            record {
              new = rw z (C.put.other i 0 65 (omega arith) h) ∙ (held2 m Q).new i h;
              old = C.put.other i 65 65 (omega arith) h ∙ (held2 m Q).old i h;
              reversed_new =
                  C.put.list i h
                  ∙ ap (λ (l : List ℕ). member_words (kept_back draws s next l)) (back-new (held2 m Q) i)
                  ∙ ap (λ (c : ℕ). member_words (kept_back draws s c (members_back n r.news i))) (next-is m Q i);
              reversed_old =
                  C.put.behind i 195 65 (omega arith) (omega arith) h
                  ∙ ap (area (260 * i + 195) 65) again
                  ∙ B.put.list i h
                  ∙ ap (λ (l : List ℕ). member_words (kept_back draws s at l)) (back-old (held m Q) i)
                  ∙ ap (λ (c : ℕ). member_words (kept_back draws s c (members_back n r.olds i))) (held m Q).drawn;
            }

        contexts_are : (m : Met) → Ready n k m us → cs3 ≡ context_words (renewed draws n s m).descent.contexts
        unfolding renewed
        contexts_are m Q =
            let f : ℕ → Context = context_of draws n s (renewed_of draws n s m) in
            let l = length-ones f n in
            contexts_told (each (λ (w : ℕ). f w ∷ []) n) cs3 (cs3_long ∙ ap (λ (c : ℕ). 260 * c) (sym l))
            (λ i h. let b : i < n = omega arith in subst (λ (c : Context). Four (260 * i) c cs3) (sym (get_d_ones f n i no_context b)) (four m Q i b))

        marks_are : (m : Met) → Ready n k m us → drop (marks_at n k) us3 ≡ pair_words (visits.marks n) (renewed draws n s m).descent.visited
        unfolding renewed
        marks_are m Q =
            let x : drop (marks_at n k) us3 ≡ drop (marks_at n k) us2 = rw eb (behind (n * k) (260 * n) us2 cs3 room2 cs3_long) in
            let y : drop (marks_at n k) us2 ≡ drop (marks_at n k) us1 = rw ea (behind (n * k) (260 * n) us1 cs2 room1 cs2_long) in
            x ∙ y ∙ (A.marks m Q).words

        pub state-renewed : StateRenewed draws n k s us us3 ws ws3 total
        unfolding renewed
        state-renewed =
            let c : area (n * k) (260 * n) us3 ≡ cs3 = rw eb (put-area (n * k) (260 * n) us2 cs3 room2 cs3_long) in
            let x : take (n * k) us3 ≡ take (n * k) us2 = rw eb (put_front (n * k) (260 * n) us2 cs3 room2 cs3_long (n * k) (omega arith)) in
            let y : take (n * k) us2 ≡ take (n * k) us1 = rw ea (put_front (n * k) (260 * n) us1 cs2 room1 cs2_long (n * k) (omega arith)) in
            let l : length us3 ≡ length us2 = rw eb (put-length (n * k) (260 * n) us2 cs3 room2 cs3_long) in
            record {
              contexts = λ m Q. c ∙ contexts_are m Q;
              marks = marks_are;
              totalled = λ m Q. (held m Q).totalled;
              front = x ∙ y ∙ A.front;
              long = l ∙ us2_long ∙ A.long;
              scratch_long = C.scratch_long ∙ B.scratch_long ∙ A.scratch_long;
            }
