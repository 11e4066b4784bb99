-- The words of a job. Assumes nothing.
use mathlib.Core.Path.{◌≡◌, refl, sym, ◌∙◌}
use mathlib.Core.Bool.{Bool, true, false, ◌&&◌}
use mathlib.Core.List.{List, [], ◌∷◌}
use Prim.Native.Nat.{ℕ, zero, suc, ◌+◌, ◌-◌, ◌≤◌}
use native.Mathlib.Omega.{arith}
use borrow.Author.Tests.{eq-eqb, ne_eqb, lt-leb}
use lib.Dec.{eqb, leb, ltb}
use lib.ListN.{length, take, drop, get_or}
use lib.Ieee.{Float, nan, inf, fin, is_nan, to_bits}
use Rattle.rules.specs.Distance.{fit}
use Rattle.rules.specs.Relay.{steps_of, taken_of, longer_of, bit}
use Rattle.rules.specs.Places.{padded, same_words}
use Rattle.rules.specs.RelayPlaces.{job_words, job_in, stage_in, stage_formed, job_formed}
use Rattle.rules.proofs.Tests.{both, same_truth}
use Rattle.zeros.specs.Zeros.{zeros}
use Rattle.jobs.specs.Jobs.{half_formed, distance_formed, job_test, PendingHalf, PendingJob}

-- ---- the steps done of both halves add up to those of the job, where those are at most 8

steps_test : (s : ℕ) (a b c d : Bool) → eqb s (steps_of (stage_in s a b) + steps_of (stage_in (s - 4) c d)) ≡ leb s 8
unfolding steps_of stage_in
steps_test zero a b c d = refl
steps_test (suc zero) a b c d = refl
steps_test (suc (suc zero)) a b c d = refl
steps_test (suc (suc (suc zero))) a b c d = refl
steps_test (suc (suc (suc (suc zero)))) a b c d = refl
steps_test (suc (suc (suc (suc (suc zero))))) a b c d = refl
steps_test (suc (suc (suc (suc (suc (suc zero)))))) a b c d = refl
steps_test (suc (suc (suc (suc (suc (suc (suc zero))))))) a b c d = refl
steps_test (suc (suc (suc (suc (suc (suc (suc (suc zero)))))))) a b c d = refl
steps_test (suc (suc (suc (suc (suc (suc (suc (suc (suc s))))))))) a b c d =
    let many = suc (suc (suc (suc (suc (suc (suc (suc (suc s)))))))) in
    let m : many - 4 ≡ suc (suc (suc (suc (suc s)))) = omega arith in
    rw m (ne_eqb many 8 (λ q. omega arith) ∙ sym (lt-leb many 8 (omega arith)))

-- ---- what the code tests, in its order

abbrev pub tested : ℕ → List ℕ → Float → Bool
tested n ws x =
    let e = eqb (get_or ws 0 0) (get_or ws 1 0) in
    let s = get_or ws 2 0 in
    leb s 8
    && (half_formed e s (get_or ws 3 0) (get_or ws 4 0)
    && (half_formed e (s - 4) (get_or ws 5 0) (get_or ws 6 0)
    && (zeros (take 8 (drop 7 ws)) && ((ltb (get_or ws 0 0) n && ltb (get_or ws 1 0) n) && distance_formed e x))))

-- the same tests, as the rulebook has them
module _ (s8 t l t' l' z b d f f' : Bool) where
  abbrev ruled : Bool
  ruled = (s8 && (t && (l && (t' && (l' && z))))) && (b && (d && (f && f')))

  abbrev coded : Bool
  coded = s8 && ((t && (l && f)) && ((t' && (l' && f')) && (z && (b && d))))

  to : ruled ≡ true → coded ≡ true
  to h =
      let p = both (s8 && (t && (l && (t' && (l' && z))))) (b && (d && (f && f'))) h in
      let a1 = both s8 (t && (l && (t' && (l' && z)))) p.0 in
      let a2 = both t (l && (t' && (l' && z))) a1.1 in
      let a3 = both l (t' && (l' && z)) a2.1 in
      let a4 = both t' (l' && z) a3.1 in
      let a5 = both l' z a4.1 in
      let b1 = both b (d && (f && f')) p.1 in
      let b2 = both d (f && f') b1.1 in
      let b3 = both f f' b2.1 in
      rw (a1.0, a2.0, a3.0, a4.0, a5.0, a5.1, b1.0, b2.0, b3.0, b3.1)

  from : coded ≡ true → ruled ≡ true
  from h =
      let p1 = both s8 ((t && (l && f)) && ((t' && (l' && f')) && (z && (b && d)))) h in
      let p2 = both (t && (l && f)) ((t' && (l' && f')) && (z && (b && d))) p1.1 in
      let q = both t (l && f) p2.0 in
      let q2 = both l f q.1 in
      let p3 = both (t' && (l' && f')) (z && (b && d)) p2.1 in
      let r = both t' (l' && f') p3.0 in
      let r2 = both l' f' r.1 in
      let p4 = both z (b && d) p3.1 in
      let p5 = both b d p4.1 in
      rw (p1.0, q.0, q2.0, q2.1, r.0, r2.0, r2.1, p4.0, p5.0, p5.1)

  regroup : ruled ≡ coded
  regroup = same_truth ruled coded to from

-- 15 words, and those behind them
fifteen : (n : ℕ) (x : Float) (u v s t l t' l' z0 z1 z2 z3 z4 z5 z6 z7 : ℕ) (ws : List ℕ)
    → let all = u ∷ v ∷ s ∷ t ∷ l ∷ t' ∷ l' ∷ z0 ∷ z1 ∷ z2 ∷ z3 ∷ z4 ∷ z5 ∷ z6 ∷ z7 ∷ ws in job_test n all x ≡ tested n all x
unfolding job_test job_words job_in job_formed padded same_words half_formed distance_formed zeros
fifteen n x u v s t l t' l' z0 z1 z2 z3 z4 z5 z6 z7 ws =
    let first = stage_in s (eqb t 1) (eqb l 1) in
    let second = stage_in (s - 4) (eqb t' 1) (eqb l' 1) in
    rw (eq-eqb u u refl, eq-eqb v v refl, steps_test s (eqb t 1) (eqb l 1) (eqb t' 1) (eqb l' 1))
    (regroup (leb s 8) (eqb t (bit (taken_of first))) (eqb l (bit (longer_of first))) (eqb t' (bit (taken_of second))) (eqb l' (bit (longer_of second)))
    (zeros (z0 ∷ z1 ∷ z2 ∷ z3 ∷ z4 ∷ z5 ∷ z6 ∷ z7 ∷ [])) (ltb u n && ltb v n) (distance_formed (eqb u v) x) (stage_formed (eqb u v) first) (stage_formed (eqb u v) second))

-- a list of m and more begins with m
pub job_is : (n : ℕ) (ws : List ℕ) (x : Float) → 15 ≤ length ws → job_test n ws x ≡ tested n ws x
job_is n (u ∷ v ∷ s ∷ t ∷ l ∷ t' ∷ l' ∷ z0 ∷ z1 ∷ z2 ∷ z3 ∷ z4 ∷ z5 ∷ z6 ∷ z7 ∷ ws) x h = fifteen n x u v s t l t' l' z0 z1 z2 z3 z4 z5 z6 z7 ws
job_is n [] x h = absurd (omega arith)
job_is n (u ∷ []) x h = absurd (omega arith)
job_is n (u ∷ v ∷ []) x h = absurd (omega arith)
job_is n (u ∷ v ∷ s ∷ []) x h = absurd (omega arith)
job_is n (u ∷ v ∷ s ∷ t ∷ []) x h = absurd (omega arith)
job_is n (u ∷ v ∷ s ∷ t ∷ l ∷ []) x h = absurd (omega arith)
job_is n (u ∷ v ∷ s ∷ t ∷ l ∷ t' ∷ []) x h = absurd (omega arith)
job_is n (u ∷ v ∷ s ∷ t ∷ l ∷ t' ∷ l' ∷ []) x h = absurd (omega arith)
job_is n (u ∷ v ∷ s ∷ t ∷ l ∷ t' ∷ l' ∷ z0 ∷ []) x h = absurd (omega arith)
job_is n (u ∷ v ∷ s ∷ t ∷ l ∷ t' ∷ l' ∷ z0 ∷ z1 ∷ []) x h = absurd (omega arith)
job_is n (u ∷ v ∷ s ∷ t ∷ l ∷ t' ∷ l' ∷ z0 ∷ z1 ∷ z2 ∷ []) x h = absurd (omega arith)
job_is n (u ∷ v ∷ s ∷ t ∷ l ∷ t' ∷ l' ∷ z0 ∷ z1 ∷ z2 ∷ z3 ∷ []) x h = absurd (omega arith)
job_is n (u ∷ v ∷ s ∷ t ∷ l ∷ t' ∷ l' ∷ z0 ∷ z1 ∷ z2 ∷ z3 ∷ z4 ∷ []) x h = absurd (omega arith)
job_is n (u ∷ v ∷ s ∷ t ∷ l ∷ t' ∷ l' ∷ z0 ∷ z1 ∷ z2 ∷ z3 ∷ z4 ∷ z5 ∷ []) x h = absurd (omega arith)
job_is n (u ∷ v ∷ s ∷ t ∷ l ∷ t' ∷ l' ∷ z0 ∷ z1 ∷ z2 ∷ z3 ∷ z4 ∷ z5 ∷ z6 ∷ []) x h = absurd (omega arith)

-- ---- the stored distance

pub distance_nan : (x : Float) → is_nan x ≡ true → distance_formed false x ≡ false
unfolding distance_formed fit to_bits is_nan
distance_nan nan e = refl
distance_nan (inf s) e = cc
distance_nan (fin s m d) e = cc

-- ---- both halves

pub pending_both : (ws : List ℕ) (w m : ℕ) {a b : ℕ} → m ≡ get_or ws 2 0 - 4 → PendingHalf (get_or ws 0 0) w (get_or ws 2 0) (get_or ws 3 0) a
    → PendingHalf (get_or ws 1 0) w m (get_or ws 5 0) b → PendingJob ws w (a + b)
unfolding job_in
pending_both ws w m {a} {b} e p r =
    let q : PendingHalf (get_or ws 1 0) w (get_or ws 2 0 - 4) (get_or ws 5 0) b = rw e at r in
    let f = p.few in
    let g = q.few in
    record { is = λ (x : Float). rw (p.is (eqb (get_or ws 4 0) 1), q.is (eqb (get_or ws 6 0) 1)); few = omega arith }
