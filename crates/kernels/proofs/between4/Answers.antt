-- `between4` meets its contract.
use Rattle.kernels.proofs.Fours.{apart_of}
use Rattle.kernels.proofs.between4.Goals as goal

pub returns : goal.returns
returns c =
    let x = c.lanes_of-x.ensures in
    let t = c.totals4-t.ensures in
    record {
      first = apart_of x c.lanes_of-xa.ensures t.first c.carried.ensures;
      second = apart_of x c.lanes_of-xb.ensures t.second c.carried-2.ensures;
      third = apart_of x c.lanes_of-xc.ensures t.third c.carried-3.ensures;
      fourth = apart_of x c.lanes_of-xd.ensures t.fourth c.carried-4.ensures;
    }
