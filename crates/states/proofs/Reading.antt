-- One turn and the end of the loop that reads context lists, and the parts of a state one behind the other. Assumes nothing.
use Rattle.std.proofs.Common.{◌≡◌, ℕ, zero, suc, ◌+◌, ◌-◌, ◌*◌, ◌/◌, ◌%◌, ◌<◌, ◌≤◌, List, [], ◌∷◌, ◌++◌, length, take, drop, set, refl, sym, ap, subst, ◌∙◌, append_assoc, append-nil, add-one, arith, length-set, length-append, length-drop, length-take, length-take-le, take_all, take-append-drop, drop_of_length-le, take-suc-set, ne_eqb}
use lib.Ieee.{Float}
use lib.Seq.{drop-set-lt, drop-drop, take-append-add, drop-append-add}
use borrow.Rule.Slice.PartMut.{put_mid, post_of}
use Rattle.cases.specs.declared.Cursor.{Cursor}
use Rattle.cases.specs.declared.Read.{Read}
use Rattle.cases.specs.declared.Fault.TheVariants.{Unexpected}
use Rattle.cases.specs.Text.{faulted, word_at, size_at, words_at, floats_at, behind}
use Rattle.states.specs.Read.{Filled, filled, after, state, block, blocks, blocks_at, lists_at}

module _ (text : List ℕ) where
  after-after : (xs ys : List ℕ) (f : Filled) → after (xs ++ ys) f ≡ after xs (after ys f)
  unfolding after
  after-after xs ys f = ap (λ (ws : List ℕ). filled ws f.cursor) (append_assoc xs ys f.words)

  pub words_long : (n : ℕ) (c : Cursor) → length (words_at n text c) ≡ n
  unfolding words_at
  words_long zero c = refl
  words_long (suc n) c = ap suc (words_long n (word_at text c).cursor)

  -- The places of the first i context lists are read; what is left says what the whole says.
  pub record Blocks (out₀ : List ℕ) (c₀ : Cursor) (out : List ℕ) (i : ℕ) (c : Cursor) : Type 0 where
    pub long : length out ≡ length out₀
    pub within : 65 * i ≤ length out
    pub list : after (take (65 * i) out) (blocks text ((length out - 65 * i) / 65) c (drop (65 * i) out)) ≡ blocks_at text c₀ out₀

  module _ (out₀ : List ℕ) (c₀ : Cursor) where
    pub blocks_none : Blocks out₀ c₀ out₀ 0 c₀
    unfolding after
    blocks_none =
        let all : length out₀ - 0 ≡ length out₀ = omega arith in
        record { long = refl; within = omega arith; list = ap (λ (n : ℕ). blocks text (n / 65) c₀ out₀) all }

    module _ (out : List ℕ) (i : ℕ) (c : Cursor) (inv : Blocks out₀ c₀ out i c) where
      module _ (h : length out₀ / 65 ≤ i) where
        none : (length out - 65 * i) / 65 ≡ 0
        none = let long = inv.long in let within = inv.within in omega arith

        pub blocks_end : length out % 65 ≡ 0 → filled out c ≡ blocks_at text c₀ out₀
        unfolding after blocks
        blocks_end whole =
            let within = inv.within in
            let last : length out ≤ 65 * i = omega (arith, none, whole) in
            let list : filled (take (65 * i) out ++ []) c ≡ blocks_at text c₀ out₀ = rw (none, drop_of_length-le out last) at inv.list in
            ap (λ (ws : List ℕ). filled ws c) (sym (take_all (65 * i) out last) ∙ sym (append-nil (take (65 * i) out))) ∙ list

        pub blocks-short : (length out % 65 ≡ 0 → ⊥) → filled out (faulted c Unexpected) ≡ blocks_at text c₀ out₀
        unfolding after blocks
        blocks-short part =
            let within = inv.within in
            let more : length (drop (65 * i) out) ≡ 0 → ⊥ = λ e. part (omega (arith, e, length-drop (65 * i) out)) in
            let list : filled (take (65 * i) out ++ drop (65 * i) out) (faulted c Unexpected) ≡ blocks_at text c₀ out₀ =
            rw (none, ne_eqb (length (drop (65 * i) out)) 0 more) at inv.list in
            ap (λ (ws : List ℕ). filled ws (faulted c Unexpected)) (sym (take-append-drop (65 * i) out)) ∙ list

      module _ (s : Read ℕ) (read : s ≡ size_at 64 text c) (few : s.value ≤ 64) (h : i < length out₀ / 65) where
        pub blocks_turn :
            (ws : List ℕ) (c' : Cursor) → ws ≡ words_at s.value text s.cursor → c' ≡ behind s.value text s.cursor
            → Blocks out₀ c₀ (put_mid (65 * i + 1) s.value (set out (65 * i) s.value) ws) (i + 1) c'
        unfolding blocks block
        blocks_turn ws c' made there =
            let at = 65 * i in
            let v = s.value in
            let front = take at out in
            let b = block text s (drop at out) in
            let out' = put_mid (at + 1) v (set out at v) ws in
            let long = inv.long in
            let size : length front ≡ at = length-take-le at out inv.within in
            let first : take (at + 1) (set out at v) ≡ front ++ (v ∷ []) = rw (add-one, take-suc-set out at v (omega arith)) in
            let deep : at + 1 + v ≡ at + (1 + v) = omega arith in
            let rest : post_of (at + 1) v (set out at v) ≡ drop (1 + v) (drop at out) =
            drop-drop v (at + 1) (set out at v) ∙ drop-set-lt (at + 1 + v) out at v (omega arith) ∙ ap (λ (n : ℕ). drop n out) deep ∙ sym (drop-drop (1 + v) at out) in
            let whole : out' ≡ front ++ b = rw (first, rest, append_assoc, made) in
            let wide : length out' ≡ length out = simp (length-append, length-take, length-set, length-drop) (omega (arith, ap length made, words_long v s.cursor)) in
            let next : 65 * (i + 1) ≡ at + 65 = omega arith in
            let long_front : take (65 * (i + 1)) out' ≡ front ++ take 65 b =
            rw next (ap (take (at + 65)) whole ∙ subst (λ (n : ℕ). take (n + 65) (front ++ b) ≡ front ++ take 65 b) size (take-append-add front b 65)) in
            let far : drop (65 * (i + 1)) out' ≡ drop 65 b =
            rw next (ap (drop (at + 65)) whole ∙ subst (λ (n : ℕ). drop (n + 65) (front ++ b) ≡ drop 65 b) size (drop-append-add front b 65)) in
            let n = (length out' - 65 * (i + 1)) / 65 in
            let less : (length out - at) / 65 ≡ suc n = omega (arith, wide, h, long) in
            let step : after front (after (take 65 b) (blocks text n (behind v text s.cursor) (drop 65 b))) ≡ blocks_at text c₀ out₀ =
            rw (less, ← read) at inv.list in
            record {
              long = wide ∙ inv.long;
              within = omega (arith, wide, h, long);
              list = rw (long_front, far, there) (after-after front (take 65 b) (blocks text n (behind v text s.cursor) (drop 65 b)) ∙ step);
            }

  -- a state's lists, read part by part
  pub lists_made :
      (lists : ℕ) (c nodes bits next : Cursor) (words p q : List ℕ) (floats fs : List Float) → p ≡ words_at lists text c → nodes ≡ behind lists text c
      → fs ≡ floats_at (length floats) text nodes → bits ≡ behind (length floats) text nodes → filled q next ≡ blocks_at text bits (drop lists words)
      → state (p ++ q) fs next ≡ lists_at text lists c words floats
  unfolding lists_at
  lists_made lists c nodes bits next words p q floats fs first there second beyond third =
      rw (first, second, there)
      (ap (λ (f : Filled). state (words_at lists text c ++ f.words) (floats_at (length floats) text (behind lists text c)) f.cursor) (rw (beyond, there) at third))
