-- `hops::own_members` meets its contract. The loop's invariant: to go on with the members that are left gives the whole walk. Assumes nothing.
use Prim.Native.Nat.{◌+◌}
use Rattle.rules.specs.Build.{taking}
use Rattle.hops.proofs.Laws.{Walked}
use Rattle.hops.proofs.own_members.Given as goal

abbrev pub invariant-loop-v : goal.invariant-loop-v
invariant-loop-v l = Walked taking l.v-items (l.len + l.v-index) l.initial.flags l.initial.out l.len l.flags l.out l.taken l.v-index
