-- `descent_state::descent_formed` meets its contract: the lists, the contexts, the bits. Assumes nothing.
use mathlib.Core.Path.{◌≡◌, refl, sym, ◌∙◌}
use mathlib.Core.Bool.{true≢false}
use Prim.Native.Nat.{ℕ, ◌+◌, ◌-◌, ◌*◌}
use native.Mathlib.Omega.{arith}
use Rattle.descent_state.proofs.Whole.{by_lists, by_contexts, by_bits}
use Rattle.descent_state.proofs.descent_formed.Goals.{then-lists_formed, else-lists_formed}
use Rattle.descent_state.proofs.descent_formed.Goals as goal

pub returns-then-contexts_formed : goal.returns-then-contexts_formed
returns-then-contexts_formed c =
    let a = c.args in
    let e : a.n * a.k + 260 * a.n - a.n * a.k ≡ 260 * a.n = omega arith in
    let t = c.if-contexts_formed.true in
    elim c.if-lists_formed.branch [
      | then-lists_formed w ↦
          by_bits c.requires (λ (q : ℕ). (c.type_inv.words q).fits) _ _ e refl (sym c.lists_formed.ensures ∙ w.if-lists_formed.true) w.contexts_formed.ensures (sym w.value-is ∙ t) c.spare_clear.ensures
      | else-lists_formed w ↦ absurd (true≢false (sym t ∙ w.value-is ∙ w.if-lists_formed.false))
    ]

pub returns-else-contexts_formed : goal.returns-else-contexts_formed
returns-else-contexts_formed c =
    let a = c.args in
    let e : a.n * a.k + 260 * a.n - a.n * a.k ≡ 260 * a.n = omega arith in
    elim c.if-lists_formed.branch [
      | then-lists_formed w ↦
          c.if-contexts_formed.false ∙ by_contexts c.requires (λ (q : ℕ). (c.type_inv.words q).fits) _ e (sym c.lists_formed.ensures ∙ w.if-lists_formed.true) w.contexts_formed.ensures (sym w.value-is ∙ c.if-contexts_formed.false)
      | else-lists_formed w ↦ c.if-contexts_formed.false ∙ by_lists c.requires (λ (q : ℕ). (c.type_inv.words q).fits) (sym c.lists_formed.ensures ∙ w.if-lists_formed.false)
    ]
