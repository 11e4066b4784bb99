-- `search::give` meets its contract. Assumes nothing.
use mathlib.Core.Path.{sym, ◌∙◌, subst}
use mathlib.Core.Bool.{not}
use Prim.Native.Nat.{ℕ, ◌+◌}
use native.Mathlib.Omega.{arith}
use lib.Dec.{T}
use lib.ListN.{take, drop, get_or, length-take, length-drop}
use lib.Ieee.{nan, is_nan}
use Rattle.search.proofs.Outcomes.{cut, nodes_given, bits_given}
use Rattle.search.proofs.give.Goals as goal

pub copy_bits-requires : goal.copy_bits-requires
copy_bits-requires c =
    let n = c.args.n in
    let e = cut n _ _ _ c.requires.room c.requires.m_bound.0 in
    let floats = c.requires.room.floats in
    let few = c.requires.m_bound.0 in
    let fits = c.requires.m_bound.2 in
    record { m_in_bounds = (simp (length-take, length-drop) (omega arith), fits); by_index = λ i h. subst (λ (w : ℕ). T (not (is_nan (get_or (take w (drop (n + n) c.args.floats.now)) i nan)))) (sym e) (c.requires.by_index i h) }

pub returns : goal.returns
returns c =
    record { result_nodes_after = c.copy_words.ensures ∙ nodes_given _ _ _ _ c.requires.room c.requires.m_bound.0 _; result_bits_after = c.copy_bits.ensures ∙ bits_given _ _ _ _ c.requires.room c.requires.m_bound.0 _ }
