-- `relay_move::list_step` meets its contract: the list's part is lent, and comes back. Assumes nothing.
use mathlib.Core.Path.{◌≡◌, ap, ◌∙◌}
use Prim.Native.Nat.{ℕ, ◌+◌, ◌-◌, ◌*◌}
use native.Mathlib.Omega.{arith}
use lib.Dec.{eqb}
use Rattle.rules.proofs.Places.{bit_is}
use Rattle.relay_move.proofs.Parts.{lent_roomed, lent-flags, list_stepped}
use Rattle.relay_move.proofs.Stages.{bit-from}
use Rattle.relay_move.proofs.list_step.Goals as goal

pub next_flags-next-requires-clause-le_k : goal.next_flags-next-requires-clause-le_k
next_flags-next-requires-clause-le_k c =
    let p = c.requires in
    let w = c.args.node.0 in
    let k = c.args.k in
    let e : w * (k + 64) + (k + 64) - w * (k + 64) ≡ k + 64 = omega arith in
    let r = lent_roomed p.sized.0 p.sized.1 _ e in
    let long = r.long in
    let wide = r.wide in
    (p.sized.0.some, p.sized.1.some, long, omega arith)

pub next_list-m-requires-clause-le_len : goal.next_list-m-requires-clause-le_len
next_list-m-requires-clause-le_len c =
    let p = c.requires in
    let w = c.args.node.0 in
    let k = c.args.k in
    let e : w * (k + 64) + (k + 64) - w * (k + 64) ≡ k + 64 = omega arith in
    (omega arith, omega arith, lent_roomed p.sized.0 p.sized.1 _ e)

pub returns-clause-flags : goal.returns-clause-flags
returns-clause-flags c =
    let p = c.requires in
    let w = c.args.node.0 in
    let k = c.args.k in
    let e : w * (k + 64) + (k + 64) - w * (k + 64) ≡ k + 64 = omega arith in
    lent-flags p.sized.0 p.sized.1 _ e _ _ _ c.next_flags-next.ensures

pub returns-clause-listed : goal.returns-clause-listed
returns-clause-listed c =
    let p = c.requires in
    let w = c.args.node.0 in
    let k = c.args.k in
    let e : w * (k + 64) + (k + 64) - w * (k + 64) ≡ k + 64 = omega arith in
    let t : eqb c.from-taken.result 1 ≡ c.args.flags.taken = ap (λ (i : ℕ). eqb i 1) (c.from-taken.ensures ∙ bit-from c.args.flags.taken) ∙ bit_is c.args.flags.taken in
    let l : eqb c.from-longer.result 1 ≡ c.args.flags.longer = ap (λ (i : ℕ). eqb i 1) (c.from-longer.ensures ∙ bit-from c.args.flags.longer) ∙ bit_is c.args.flags.longer in
    rw (← t, ← l) (list_stepped p.sized.0 p.sized.1 _ e _ _ c.next_list-m.ensures)
