-- `hops::member_hops` meets its contract. The loop's invariant: to go on with the members that are left gives the whole walk. Assumes nothing.
use Rattle.rules.specs.Build.{hop}
use Rattle.hops.proofs.Laws.{Walked}
use Rattle.hops.proofs.member_hops.Given as goal

abbrev pub invariant-loop-v : goal.invariant-loop-v
invariant-loop-v l = Walked (hop l.limit l.q.0) l.v-items l.limit l.initial.flags l.initial.out l.len l.flags l.out l.taken l.v-index
