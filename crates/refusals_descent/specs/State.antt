-- The state that a call is lent before it is changed. Assumes nothing.
use Rattle.std.specs.Prelude.{Bool, cond, ◌&&◌, List, ℕ, ◌+◌, leb, ltb, eqb, set, replicate, Float}
use Rattle.std.specs.Float.{binary32}
use Rattle.std.specs.Float.Ieee.{of_bits}
use Rattle.rules.specs.Rows.{empty_distance}
use Rattle.cases.specs.Text.{area_of}
use Rattle.refusals.specs.Junk.{rising, next_word, next_float}
use Rattle.refusals_descent.specs.declared.call.Call.{Call}
use Rattle.refusals_descent.specs.Given.{filled}

-- The context of node 0 behind the lists: a new and a reversed-new member
unfoldable pub with_context : ℕ → ℕ → List ℕ → List ℕ
with_context lists n words =
    let one = set (set (set words lists 1) (lists + 1) 1) (lists + 130) 1 in
    cond (ltb 2 n) (set one (lists + 131) 2) one

-- Unfilled lists and the context, zeros behind; all zero where the nodes are too many
unfoldable pub formed_words : ℕ → ℕ → ℕ → List ℕ
formed_words n k long =
    let zeros : List ℕ = replicate long 0 in
    cond (leb n 1024) (with_context (area_of n k) n (filled 0 (area_of n k) n zeros)) zeros

-- Lists 0 and 3 of the usual state: nodes 1 and 2 at 1.0 and 9.0, and node 2 at 16.0
unfoldable pub usual_words : List ℕ → List ℕ
usual_words words = set (set (set words 0 1) 1 2) 6 2

unfoldable pub usual_floats : List Float → List Float
usual_floats floats =
    set (set (set floats 0 (of_bits binary32 0x3F800000)) 1 (of_bits binary32 0x41100000)) 6 (of_bits binary32 0x41800000)

unfoldable pub is_usual : Call → Bool
is_usual c = eqb c.n 4 && eqb c.k 2

-- Junk for a begin: each place holds one more than the last. An iteration's state is formed.
unfoldable pub words_given : Call → ℕ → List ℕ
words_given c long =
    let formed = formed_words c.n c.k long in
    cond c.begins (rising next_word 0xCD000000 long) (cond (is_usual c) (usual_words formed) formed)

unfoldable pub floats_given : Call → ℕ → List Float
floats_given c long =
    let unfilled = replicate long empty_distance in
    cond c.begins (rising next_float (of_bits binary32 0x40200000) long) (cond (is_usual c) (usual_floats unfilled) unfilled)
