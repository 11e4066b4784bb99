-- `hops::two_hops` meets its contract. The loop's invariant: to go on with the members that are left gives the whole walk. Assumes nothing.
use Prim.Native.Nat.{ℕ}
use mathlib.Core.List.{List}
use Rattle.rules.specs.Loops.{through}
use Rattle.rules.specs.Build.{hop}
use Rattle.hops.specs.Hops.{list_of}
use Rattle.hops.proofs.Laws.{Walked}
use Rattle.hops.proofs.two_hops.Given as goal

abbrev pub invariant-loop-v : goal.invariant-loop-v
invariant-loop-v l = Walked (λ (member : ℕ) (taken : List ℕ). through (hop l.limit l.q.0) (list_of l.lists l.init_k l.count member) taken) l.v-items l.limit l.initial.flags l.initial.out 0 l.flags l.out l.taken l.v-index
