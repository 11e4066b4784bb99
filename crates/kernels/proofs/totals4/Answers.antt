-- What the search leaves of `totals4`.
use native.Mathlib.Omega.{arith}
use borrow.Author.Rules.{rules}
use Rattle.kernels.proofs.Fours.{left-more, left_end}
use Rattle.kernels.proofs.totals4.Goals as goal

pub loop-l-preserved : goal.loop-l-preserved
loop-l-preserved c =
    let inv = c.loop-l.invariant in
    let same = c.requires in (
      search rules,
      left-more inv.1 same.0 (search rules) c.lane-ta.ensures,
      left-more inv.2 same.1 (search rules) c.lane-tb.ensures,
      left-more inv.3 same.2 (search rules) c.lane-tc.ensures,
      left-more inv.4 same.3 (search rules) c.lane-td.ensures,
    )

pub returns : goal.returns
returns c =
    let inv = c.loop-l.invariant in
    record {
      first = left_end inv.1 (omega arith);
      second = left_end inv.2 (omega arith);
      third = left_end inv.3 (omega arith);
      fourth = left_end inv.4 (omega arith);
    }
