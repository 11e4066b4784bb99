-- One turn and the end of each loop that fills a slice. Assumes nothing.
use Rattle.std.proofs.Common.{◌≡◌, ℕ, suc, ◌+◌, ◌-◌, ◌<◌, ◌≤◌, List, [], ◌∷◌, ◌++◌, length, take, set, sym, refl, ap, ◌∙◌, append_assoc, append-nil, add-one, arith, length-set, take_all, take-suc-set, le-leb}
use Rattle.rules.specs.Descent.{shuffle}
use Rattle.relay_orders.specs.Order.{job_of, next, previous, ruled, after, drawn, below, shuffled}

-- the first i places of the whole are written, and the rest is still to be
pub record Filling {A : Type 0} (whole xs₀ xs : List A) (i : ℕ) (rest : List A) : Type 0 where
  pub list : take i xs ++ rest ≡ whole
  pub long : length xs ≡ length xs₀

module _ {A : Type 0} {whole xs₀ : List A} where
  pub filling_none : {rest : List A} → rest ≡ whole → Filling whole xs₀ xs₀ 0 rest
  filling_none e = record { list = e; long = refl }

  module _ {xs rest : List A} {i : ℕ} (inv : Filling whole xs₀ xs i rest) where
    pub filling_turn : {left : List A} {x : A} → rest ≡ x ∷ left → i < length xs₀ → Filling whole xs₀ (set xs i x) (i + 1) left
    filling_turn {left} {x} e h =
        let long = inv.long in
        record {
          list = rw (add-one i, take-suc-set xs i x (omega arith), append_assoc) (ap (λ (l : List A). take i xs ++ l) (sym e) ∙ inv.list);
          long = simp length-set long;
        }

    pub filling_end : rest ≡ [] → length xs₀ ≤ i → xs ≡ whole
    filling_end e h =
        let long = inv.long in
        sym (take_all i xs (omega arith)) ∙ sym (append-nil (take i xs)) ∙ ap (λ (l : List A). take i xs ++ l) (sym e) ∙ inv.list

module _ (kind count n : ℕ) where
  pub ruled_none : (up down : ℕ) → ruled kind count (n - 0) up down ≡ ruled kind count n up down
  ruled_none up down = ap (λ (k : ℕ). ruled kind count k up down) (omega arith)

  module _ (i up down : ℕ) where
    pub ruled_turn :
        {x : ℕ} → x ≡ job_of kind up (previous down) count → i < n
        → ruled kind count (n - i) up down ≡ x ∷ ruled kind count (n - (i + 1)) (next up) (previous down)
    unfolding ruled
    ruled_turn {x} g h =
        let less : n - i ≡ suc (n - (i + 1)) = omega arith in
        ap (λ (k : ℕ). ruled kind count k up down) less ∙ rw (← g)

    pub ruled-end : n ≤ i → ruled kind count (n - i) up down ≡ []
    unfolding ruled
    ruled-end h =
        let none : n - i ≡ 0 = omega arith in
        ap (λ (k : ℕ). ruled kind count k up down) none

module _ {A : Type 0} (of : ℕ → A) (n : ℕ) where
  pub drawn_none : (x : ℕ) → drawn of (n - 0) x ≡ drawn of n x
  drawn_none x = ap (λ (k : ℕ). drawn of k x) (omega arith)

  module _ (i x : ℕ) where
    pub drawn_turn : {x' : ℕ} {v : A} → x' ≡ after x → v ≡ of x' → i < n → drawn of (n - i) x ≡ v ∷ drawn of (n - (i + 1)) x'
    unfolding drawn
    drawn_turn {x'} {v} e f h =
        let less : n - i ≡ suc (n - (i + 1)) = omega arith in
        ap (λ (k : ℕ). drawn of k x) less ∙ rw (← e, ← f)

    pub drawn-end : n ≤ i → drawn of (n - i) x ≡ []
    unfolding drawn
    drawn-end h =
        let none : n - i ≡ 0 = omega arith in
        ap (λ (k : ℕ). drawn of k x) none

pub shuffled_by :
    (seed : ℕ) (xs draws out : List ℕ) → length xs ≤ 512 → draws ≡ drawn (below 65536) 512 (after seed) → out ≡ shuffle draws 0 xs
    → out ≡ shuffled seed xs
unfolding shuffled
shuffled_by seed xs draws out h e f = rw (le-leb (length xs) 512 h) (f ∙ ap (λ (d : List ℕ). shuffle d 0 xs) e)
