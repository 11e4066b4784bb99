-- Laws of step 2 over plain lists: flags, what is taken, the walk over a list, the members of candidates. Assumes nothing.
use mathlib.Core.Path.{◌≡◌, refl, sym, ap, ◌∙◌}
use mathlib.Core.Bool.{Bool, true, false, cond, ◌||◌}
use mathlib.Core.List.{List, [], ◌∷◌, ◌++◌}
use Prim.Native.Nat.{ℕ, suc, ◌+◌, ◌*◌, ◌≤◌, ◌<◌}
use native.Mathlib.Nat.{le_refl, mul-le-mul_right, suc-mul}
use native.Mathlib.Numerals.{add-one}
use native.Mathlib.Omega.{arith}
use lib.Dec.{eqb, leb}
use lib.ListN.{length, take, drop, get_or, set, replicate, length-set, length-replicate, length-drop, get_or-replicate}
use lib.Seq.{take-suc, length-take-le, get_or-set_same, get_or-set_other, take-suc-set, drop-set-lt, ext_get_or}
use borrow.Author.Tests.{eqb-true, eqb-false, eq-eqb, ne_eqb, le-leb, lt-leb}
use Rattle.rules.specs.Loops.{through, has}
use Rattle.rules.specs.Search.{mark, is_seen}
use Rattle.rules.specs.Build.{taking, hop, two_hops, candidates}
use Rattle.rules.proofs.Loops.{through-append, through_turn, through-end}
use Rattle.lists.specs.All.{All}
use Rattle.lists.proofs.Plain.{drop-later, all_append, all-at, all_weaker}
use Rattle.hops.specs.Hops.{list_of, Linked, flags_of, Flagged, Took, Candidates}

-- ---- flags: a value put at each of a list of places

abbrev puts : ℕ → ℕ → List ℕ → List ℕ
puts a v flags = set flags v a

length_puts : (a : ℕ) (vs flags : List ℕ) → length (through (puts a) vs flags) ≡ length flags
unfolding through
length_puts a [] flags = refl
length_puts a (v ∷ vs) flags = length_puts a vs (set flags v a) ∙ length-set flags v a

get_d_puts : (a : ℕ) (vs flags : List ℕ) (v z : ℕ) → v < length flags → get_or (through (puts a) vs flags) v z ≡ cond (has v vs) a (get_or flags v z)
unfolding through has
get_d_puts a [] flags v z h = refl
get_d_puts a (x ∷ vs) flags v z h =
    get_d_puts a vs (set flags x a) v z (rw (length-set flags x a) h) ∙ go (eqb v x) (has v vs) refl
  where
    go : (b t : Bool) → eqb v x ≡ b → cond t a (get_or (set flags x a) v z) ≡ cond (b || t) a (get_or flags v z)
    go true true e = refl
    go true false e = let same = eqb-true v x e in rw same (get_or-set_same flags x a z (rw same at h))
    go false true e = refl
    go false false e = get_or-set_other flags x v a z (eqb-false v x e)

get_d_flags : (n : ℕ) (taken : List ℕ) (v : ℕ) → v < n → get_or (flags_of n taken) v 0 ≡ cond (has v taken) 1 0
unfolding flags_of mark
get_d_flags n taken v h =
    get_d_puts 1 taken (replicate n 0) v 0 (rw (length-replicate {A = ℕ} n 0) h)
    ∙ ap (λ (x : ℕ). cond (has v taken) 1 x) (get_or-replicate n v 0 0 h)

-- a flag says whether its node was taken
pub seen-taken : (flags taken : List ℕ) (v : ℕ) → Flagged flags taken → v < length flags → is_seen v flags ≡ has v taken
unfolding is_seen
seen-taken flags taken v f h =
    ap (λ (l : List ℕ). eqb (get_or l v 0) 1) f ∙ ap (λ (x : ℕ). eqb x 1) (get_d_flags (length flags) taken v h) ∙ go (has v taken)
  where
    go : (b : Bool) → eqb (cond b 1 0) 1 ≡ b
    go true = refl
    go false = refl

pub flagged_none : (flags : List ℕ) → flags ≡ replicate (length flags) 0 → Flagged flags []
unfolding flags_of through
flagged_none flags e = e

flagged-more : (flags taken : List ℕ) (v : ℕ) → Flagged flags taken → Flagged (mark v flags) (taken ++ (v ∷ []))
unfolding flags_of mark through
flagged-more flags taken v f =
    rw (length-set flags v 1) (ap (λ (l : List ℕ). set l v 1) f ∙ sym (through-append (puts 1) taken (v ∷ []) (replicate (length flags) 0)))

-- ---- the clearing

abbrev pub clears : ℕ → List ℕ → List ℕ
clears v flags = set flags v 0

-- once all taken are cleared, all flags are
pub cleared_all : (flags taken : List ℕ) → Flagged flags taken → through clears taken flags ≡ replicate (length flags) 0
cleared_all flags taken f =
    ext_get_or 0 (through clears taken flags) (replicate (length flags) 0) (long ∙ sym (length-replicate (length flags) 0))
    (λ (v : ℕ) (h : v < length (through clears taken flags)). at v (rw long at h))
  where
    long : length (through clears taken flags) ≡ length flags
    long = length_puts 0 taken flags

    at : (v : ℕ) → v < length flags → get_or (through clears taken flags) v 0 ≡ get_or (replicate (length flags) 0) v 0
    at v h =
        get_d_puts 0 taken flags v 0 h
        ∙ ap (λ (l : List ℕ). cond (has v taken) 0 (get_or l v 0)) f
        ∙ ap (λ (x : ℕ). cond (has v taken) 0 x) (get_d_flags (length flags) taken v h)
        ∙ go (has v taken) ∙ sym (get_or-replicate (length flags) v 0 0 h)
      where
        go : (b : Bool) → ◌≡◌ {A = ℕ} (cond b 0 (cond b 1 0)) 0
        go true = refl
        go false = refl

-- the flags of the first i are cleared
pub record Cleared (flags₀ out flags : List ℕ) (i : ℕ) : Type 0 where
  pub long : length flags ≡ length flags₀
  pub list : flags ≡ through clears (take i out) flags₀

pub cleared_none : {flags out : List ℕ} → Cleared flags out flags 0
unfolding through
cleared_none = record { long = refl; list = refl }

pub cleared_more : {flags₀ out flags : List ℕ} {i : ℕ} → Cleared flags₀ out flags i → i < length out → Cleared flags₀ out (set flags (get_or out i 0) 0) (i + 1)
unfolding through
cleared_more {flags₀} {out} {flags} {i} inv h =
    record {
      long = simp length-set inv.long;
      list =
          rw (add-one, take-suc out i 0)
          (ap (clears (get_or out i 0)) inv.list ∙ sym (through-append clears (take i out) (get_or out i 0 ∷ []) flags₀));
    }

-- ---- what is taken

module _ (m : ℕ) (taken : List ℕ) where
  taking-before : has m taken ≡ true → taking m taken ≡ taken
  unfolding taking
  taking-before e = rw e

  taking-new : has m taken ≡ false → taking m taken ≡ taken ++ (m ∷ [])
  unfolding taking
  taking-new e = rw e

  module _ (limit q : ℕ) where
    hop_self : m ≡ q → hop limit q m taken ≡ taken
    unfolding hop
    hop_self e = rw (eq-eqb m q e) (go (leb limit (length taken)))
      where
        go : (b : Bool) → cond (b || true) taken (taking m taken) ≡ taken
        go true = refl
        go false = refl

    hop-other : length taken < limit → (m ≡ q → ⊥) → hop limit q m taken ≡ taking m taken
    unfolding hop
    hop-other h e = rw (lt-leb limit (length taken) h, ne_eqb m q e)

    hop_full : limit ≤ length taken → hop limit q m taken ≡ taken
    unfolding hop
    hop_full h = rw (le-leb limit (length taken) h)

hops_full : (limit q : ℕ) (ms taken : List ℕ) → limit ≤ length taken → through (hop limit q) ms taken ≡ taken
unfolding through
hops_full limit q [] taken h = refl
hops_full limit q (m ∷ ms) taken h = ap (through (hop limit q) ms) (hop_full m taken limit q h) ∙ hops_full limit q ms taken h

-- ---- in the slices

pub took_none : {most : ℕ} {flags out : List ℕ} {len : ℕ} → Flagged flags (take len out) → len ≤ most → Took (take len out) most flags out len flags out len
took_none {most} {flags} {out} {len} f h =
    record { list = refl; flagged = f; more = le_refl len; within = h; rest = refl; flags_long = refl; out_long = refl }

-- another name of what was taken, and a later bound
pub took_as : {goal goal' : List ℕ} {most most' : ℕ} {flags out : List ℕ} {len : ℕ} {flags' out' : List ℕ} {r : ℕ} → goal ≡ goal' → r ≤ most'
    → Took goal most flags out len flags' out' r → Took goal' most' flags out len flags' out' r
took_as {flags' = flags'} e h made =
    record {
      list = made.list ∙ e;
      flagged = made.flagged ∙ ap (flags_of (length flags')) e;
      more = made.more;
      within = h;
      rest = made.rest;
      flags_long = made.flags_long;
      out_long = made.out_long;
    }

pub took_flagged : {goal : List ℕ} {most : ℕ} {flags out : List ℕ} {len : ℕ} {flags' out' : List ℕ} {r : ℕ} → Took goal most flags out len flags' out' r → Flagged flags' (take r out')
took_flagged {flags' = flags'} made = made.flagged ∙ ap (flags_of (length flags')) (sym made.list)

-- one taking after another
took_then : {goal goal' : List ℕ} {most most' : ℕ} {flags out : List ℕ} {len : ℕ} {flags' out' : List ℕ} {r : ℕ} {flags'' out'' : List ℕ} {r' : ℕ}
    → Took goal most flags out len flags' out' r → Took goal' most' flags' out' r flags'' out'' r' → Took goal' most' flags out len flags'' out'' r'
took_then {out = out} {out' = out'} {r = r} {r' = r'} first second =
    let u = first.more in
    let v = second.more in
    record {
      list = second.list;
      flagged = second.flagged;
      more = omega arith;
      within = second.within;
      rest = second.rest ∙ drop-later r r' out' out v first.rest;
      flags_long = second.flags_long ∙ first.flags_long;
      out_long = second.out_long ∙ first.out_long;
    }

module _ {flags out : List ℕ} {len : ℕ} {v : ℕ} (f : Flagged flags (take len out)) (h : v < length flags) (k : len < length out) where
  pub took_before : is_seen v flags ≡ true → Took (taking v (take len out)) (len + 1) flags out len flags out len
  took_before e =
      took_as (sym (taking-before v (take len out) (sym (seen-taken flags (take len out) v f h) ∙ e))) (omega arith) (took_none {most = len} f (le_refl len))

  pub took_new : {flags' : List ℕ} → is_seen v flags ≡ false → flags' ≡ mark v flags → Took (taking v (take len out)) (len + 1) flags out len flags' (set out len v) (len + 1)
  unfolding mark
  took_new e g =
      let goal = sym (taking-new v (take len out) (sym (seen-taken flags (take len out) v f h) ∙ e)) in
      rw g
      (record {
        list = rw add-one (take-suc-set out len v k) ∙ goal;
        flagged = flagged-more flags (take len out) v f ∙ ap (flags_of (length (set flags v 1))) goal;
        more = omega arith;
        within = le_refl (len + 1);
        rest = drop-set-lt (len + 1) out len v (omega arith);
        flags_long = length-set flags v 1;
        out_long = length-set out len v;
      })

module _ {flags out : List ℕ} {len limit : ℕ} {q v : ℕ} (f : Flagged flags (take len out)) (l : len < limit) (k : limit ≤ length out) where
  pub hopped_self : v ≡ q → Took (hop limit q v (take len out)) limit flags out len flags out len
  hopped_self e = took_as (sym (hop_self v (take len out) limit q e)) (omega arith) (took_none {most = len} f (le_refl len))

  pub hopped_other : {flags' out' : List ℕ} {r : ℕ} → (v ≡ q → ⊥) → Took (taking v (take len out)) (len + 1) flags out len flags' out' r → Took (hop limit q v (take len out)) limit flags out len flags' out' r
  hopped_other e made =
      let long = length-take-le len out (omega arith) in
      let within = made.within in
      took_as (sym (hop-other v (take len out) limit q (omega arith) e)) (omega arith) made

-- ---- a walk over a list: to go on with the members that are left gives the whole walk

pub record Walked (f : ℕ → List ℕ → List ℕ) (ms : List ℕ) (most : ℕ) (flags₀ out₀ : List ℕ) (len₀ : ℕ) (flags out : List ℕ) (len i : ℕ) : Type 0 where
  pub held : Took (take len out) most flags₀ out₀ len₀ flags out len
  pub left : through f (drop i ms) (take len out) ≡ through f ms (take len₀ out₀)

pub walked_none : {f : ℕ → List ℕ → List ℕ} {ms : List ℕ} {most : ℕ} {flags out : List ℕ} {len : ℕ} → Flagged flags (take len out) → len ≤ most → Walked f ms most flags out len flags out len 0
walked_none f h = record { held = took_none f h; left = refl }

module _ {f : ℕ → List ℕ → List ℕ} {ms : List ℕ} {most : ℕ} {flags₀ out₀ : List ℕ} {len₀ : ℕ} {flags out : List ℕ} {len i : ℕ} (inv : Walked f ms most flags₀ out₀ len₀ flags out len i) where
  pub walked_turn : {most' most'' : ℕ} {m : ℕ} {flags' out' : List ℕ} {r : ℕ} → i < length ms → get_or ms i 0 ≡ m → r ≤ most'' → Took (f m (take len out)) most' flags out len flags' out' r
      → Walked f ms most'' flags₀ out₀ len₀ flags' out' r (i + 1)
  walked_turn {m = m} l e h made =
      record {
        held = took_as (sym made.list) h (took_then inv.held made);
        left =
            ap (through f (drop (i + 1) ms)) (made.list ∙ ap (λ (x : ℕ). f x (take len out)) (sym e))
            ∙ through_turn f ms i 0 (take len out) l ∙ inv.left;
      }

  pub walked_end : length ms ≤ i → Took (through f ms (take len₀ out₀)) most flags₀ out₀ len₀ flags out len
  walked_end l = took_as (sym (through-end f ms i (take len out) l) ∙ inv.left) inv.held.within inv.held

-- "Stop as soon as `neighbor_neighbor_size` are taken."
pub walked_full : (limit q : ℕ) {ms : List ℕ} {most : ℕ} {flags₀ out₀ : List ℕ} {len₀ : ℕ} {flags out : List ℕ} {len i : ℕ}
    → Walked (hop limit q) ms most flags₀ out₀ len₀ flags out len i → len ≤ length out → limit ≤ len → Took (through (hop limit q) ms (take len₀ out₀)) most flags₀ out₀ len₀ flags out len
walked_full limit q {ms} {out = out} {len = len} {i = i} inv k l =
    let long = length-take-le len out k in
    took_as (sym (hops_full limit q (drop i ms) (take len out) (omega arith)) ∙ inv.left) inv.held.within inv.held

-- ---- the list of a node

module _ {lists : List ℕ} {init_k count n : ℕ} (linked : Linked lists init_k count n) (v : ℕ) (h : v < n) where
  pub from-room : v * init_k + init_k ≤ length lists
  from-room =
      let room = linked.room in
      let m : suc v * init_k ≤ n * init_k = mul-le-mul_right init_k h in
      let s = suc-mul v init_k in
      omega arith

  pub length-list : length (list_of lists init_k count v) ≡ count
  unfolding list_of
  length-list =
      let room = from-room in
      let fewer = linked.fewer in
      length-take-le count (drop (v * init_k) lists) (simp length-drop (omega arith))

  -- each member of that list, lent as ms, is below n
  pub member_in : {ms : List ℕ} → ms ≡ list_of lists init_k count v → (i : ℕ) → i < length ms → get_or ms i 0 < n
  member_in {ms} e i l = all-at (λ (x : ℕ). x < n) ms i 0 (rw e (linked.below v h)) l

-- ---- the members of candidates

module _ (P : ℕ → Type 0) where
  all-through : (f : ℕ → List ℕ → List ℕ) → ((m : ℕ) (taken : List ℕ) → P m → All P taken → All P (f m taken)) → (ms taken : List ℕ) → All P ms → All P taken → All P (through f ms taken)
  unfolding through
  all-through f g [] taken M X = X
  all-through f g (m ∷ ms) taken M X = all-through f g ms (f m taken) M.1 (g m taken M.0 X)

  all-taking : (m : ℕ) (taken : List ℕ) → P m → All P taken → All P (taking m taken)
  unfolding taking
  all-taking m taken M X = go (has m taken)
    where
      go : (b : Bool) → All P (cond b taken (taken ++ (m ∷ [])))
      go true = X
      go false = all_append P taken (m ∷ []) X (M, tt)

  all-hop : (limit q m : ℕ) (taken : List ℕ) → P m → All P taken → All P (hop limit q m taken)
  unfolding hop
  all-hop limit q m taken M X = go (leb limit (length taken) || eqb m q)
    where
      go : (b : Bool) → All P (cond b taken (taking m taken))
      go true = X
      go false = all-taking m taken M X

  -- what holds of q and is handed on to the members of a list holds of every candidate
  pub all-candidates : (lists : ℕ → List ℕ) (limit q : ℕ) → ((v : ℕ) → P v → All P (lists v)) → P q → All P (candidates lists limit q)
  unfolding candidates two_hops
  all-candidates lists limit q g Q =
      all-through taking all-taking (lists q)
      (through (λ (member : ℕ) (taken : List ℕ). through (hop limit q) (lists member) taken) (lists q) []) (g q Q)
      (all-through (λ (member : ℕ) (taken : List ℕ). through (hop limit q) (lists member) taken)
      (λ (m : ℕ) (taken : List ℕ) (M : P m) (X : All P taken). all-through (hop limit q) (all-hop limit q) (lists m) taken (g m M) X)
      (lists q) [] (g q Q) tt)

-- ---- lists that are the same of the nodes below n have the same candidates

through-each : (f g : ℕ → List ℕ → List ℕ) (ms taken : List ℕ) → All (λ (m : ℕ). (s : List ℕ) → f m s ≡ g m s) ms → through f ms taken ≡ through g ms taken
unfolding through
through-each f g [] taken M = refl
through-each f g (m ∷ ms) taken M = ap (through f ms) (M.0 taken) ∙ through-each f g ms (g m taken) M.1

pub candidates-same : (f g : ℕ → List ℕ) (n limit q : ℕ) → ((v : ℕ) → v < n → f v ≡ g v) → All (λ (v : ℕ). v < n) (f q) → q < n → candidates f limit q ≡ candidates g limit q
unfolding candidates two_hops
candidates-same f g n limit q same below h =
    let walk : (ℕ → List ℕ) → ℕ → List ℕ → List ℕ = λ (lists : ℕ → List ℕ) (member : ℕ) (taken : List ℕ). through (hop limit q) (lists member) taken in
    ap (through taking (f q))
    (through-each (walk f) (walk g) (f q) []
    (all_weaker (λ (v : ℕ). v < n) (λ (m : ℕ). (s : List ℕ) → walk f m s ≡ walk g m s)
    (λ (m : ℕ) (l : m < n) (s : List ℕ). ap (λ (ms : List ℕ). through (hop limit q) ms s) (same m l)) (f q) below))
    ∙ ap (λ (ms : List ℕ). through taking ms (through (walk g) ms [])) (same q h)

-- ---- the whole

module _ (lists : ℕ → List ℕ) (count limit q : ℕ) {flags out flags₁ out₁ : List ℕ} {hopped : ℕ} {flags₂ out₂ : List ℕ} {r : ℕ}
    (first : Took (two_hops lists limit q) limit flags out 0 flags₁ out₁ hopped)
    (second : Took (through taking (lists q) (take hopped out₁)) (hopped + count) flags₁ out₁ hopped flags₂ out₂ r) where
  -- the candidates, still flagged
  pub both : Took (candidates lists limit q) (limit + count) flags out 0 flags₂ out₂ r
  unfolding candidates
  both =
      let u = first.within in
      let v = second.within in
      took_as (ap (through taking (lists q)) first.list) (omega arith) (took_then first second)

  pub below_both : ((v : ℕ) → v < length flags → All (λ (i : ℕ). i < length flags) (lists v)) → q < length flags → All (λ (v : ℕ). v < length flags) (take r out₂)
  below_both below h =
      rw both.list (all-candidates (λ (v : ℕ). v < length flags) lists limit q below h)

  pub candidates-found : {flags₃ : List ℕ} → flags ≡ replicate (length flags) 0 → r ≤ length out₂ → flags₃ ≡ replicate (length flags₂) 0 → Candidates lists count limit q flags out flags₃ out₂ r
  candidates-found zeros k e =
      record {
        list = both.list;
        exactly = sym (length-take-le r out₂ k) ∙ ap length both.list;
        within = both.within;
        same = e ∙ ap (λ (n : ℕ). replicate n 0) both.flags_long ∙ sym zeros;
        rest = both.rest;
        long = both.out_long;
      }
