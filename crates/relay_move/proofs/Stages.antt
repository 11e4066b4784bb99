-- The stages of half a job, and the words of a job. Assumes nothing.
use mathlib.Core.Path.{◌≡◌, refl, sym}
use mathlib.Core.Bool.{Bool, true, false, cond}
use Prim.Native.Nat.{ℕ, suc, ◌+◌, ◌≤◌}
use native.Mathlib.Omega.{arith}
use borrow.Author.Tests.{eqb-true, eqb-false, eq-eqb, ne_eqb}
use lib.Dec.{eqb}
use lib.ListN.{get_or}
use Rattle.std.specs.Int.{from_bool}
use Rattle.rules.specs.Relay.{Stage, fresh, looked, pushed, measured, popped, steps_of, is_popped, taken_of, longer_of, bit, Job}
use Rattle.rules.specs.Places.{padded}
use Rattle.rules.specs.RelayPlaces.{job_words, stage_in}
use Rattle.jobs.specs.Jobs.{kept_words}
use Rattle.relay_kept.specs.Halves.{stage_of, with_stage}

-- ---- a stage and its words

pub stage_back : (s : Stage) → stage_in (steps_of s) (eqb (bit (taken_of s)) 1) (eqb (bit (longer_of s)) 1) ≡ s
unfolding stage_in steps_of taken_of longer_of
stage_back fresh = refl
stage_back (looked true) = refl
stage_back (looked false) = refl
stage_back (pushed true) = refl
stage_back (pushed false) = refl
stage_back (measured true true) = refl
stage_back (measured true false) = refl
stage_back (measured false true) = refl
stage_back (measured false false) = refl
stage_back (popped true true) = refl
stage_back (popped true false) = refl
stage_back (popped false true) = refl
stage_back (popped false false) = refl

pub steps_few : (s : Stage) → is_popped s ≡ false → steps_of s ≤ 3
unfolding steps_of is_popped
steps_few fresh h = omega arith
steps_few (looked t) h = omega arith
steps_few (pushed t) h = omega arith
steps_few (measured t m) h = omega arith
steps_few (popped t m) h = let z : ◌≡◌ {A = ℕ} 0 1 = cc in absurd (omega arith)

pub bit-few : (b : Bool) → bit b ≤ 1
bit-few true = omega arith
bit-few false = omega arith

-- a flag as the number that it becomes
pub bit-from : (b : Bool) → from_bool b ≡ bit b
bit-from true = refl
bit-from false = refl

pub eqb_turned : (a b : ℕ) → eqb a b ≡ eqb b a
eqb_turned a b = go (eqb a b) refl
  where
    go : (c : Bool) → eqb a b ≡ c → c ≡ eqb b a
    go true e = sym (eq-eqb b a (sym (eqb-true a b e)))
    go false e = sym (ne_eqb b a (λ q. eqb-false a b e (sym q)))

-- ---- the words of a job with one half a step further

-- where the words of a half stand
abbrev pub half_of : Bool → ℕ
half_of b = cond b 5 3

pub kept-words : (b : Bool) (j : Job) (s : Stage) → steps_of s ≡ suc (steps_of (stage_of b j)) → kept_words (job_words j) (half_of b) (bit (taken_of s)) (bit (longer_of s)) ≡ job_words (with_stage b j s)
unfolding job_words padded
kept-words false j s h = let e : steps_of j.first + steps_of j.second + 1 ≡ steps_of s + steps_of j.second = omega arith in rw e
kept-words true j s h = let e : steps_of j.first + steps_of j.second + 1 ≡ steps_of j.first + steps_of s = omega arith in rw e

module _ (j : Job) where
  pub word-u : get_or (job_words j) 0 0 ≡ j.u
  unfolding job_words padded
  word-u = refl

  pub word-v : get_or (job_words j) 1 0 ≡ j.v
  unfolding job_words padded
  word-v = refl

  pub word_steps : get_or (job_words j) 2 0 ≡ steps_of j.first + steps_of j.second
  unfolding job_words padded
  word_steps = refl

  pub word-taken : (b : Bool) → get_or (job_words j) (half_of b) 0 ≡ bit (taken_of (stage_of b j))
  unfolding job_words padded
  word-taken true = refl
  word-taken false = refl

  pub word-longer : (b : Bool) → get_or (job_words j) (half_of b + 1) 0 ≡ bit (longer_of (stage_of b j))
  unfolding job_words padded
  word-longer true = refl
  word-longer false = refl
