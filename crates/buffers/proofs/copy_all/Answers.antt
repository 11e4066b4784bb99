-- What the search leaves of `buffers::copy_all`.
use Rattle.buffers.proofs.Laws.{written_none, written-more, copied-all}
use Rattle.std.proofs.Common.{sym, rules}
use Rattle.buffers.proofs.copy_all.Goals as goal

pub loop-i-init : goal.loop-i-init
loop-i-init g c = written_none _ _

pub loop-i-preserved : goal.loop-i-preserved
loop-i-preserved g c = written-more _ c.index-src-i.result c.loop-i.invariant (search rules) (search rules) (sym c.index-src-i.is)

pub returns-clause-after : goal.returns-clause-after
returns-clause-after g c = copied-all c.loop-i.invariant c.requires (search rules)
