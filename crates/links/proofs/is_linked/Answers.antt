-- `links::is_linked` meets its contract. Assumes nothing.
use mathlib.Core.Path.{◌≡◌, ◌∙◌}
use Prim.Native.Nat.{◌+◌, ◌-◌, ◌*◌}
use native.Mathlib.Omega.{arith}
use Rattle.links.proofs.Slots.{known}
use Rattle.links.proofs.is_linked.Goals.{Start}
use Rattle.links.proofs.is_linked.Goals as goal

pub returns : goal.returns
returns c =
    let pre = c.requires in
    let w = c.args.index_size in
    let q = c.args.q.0 in
    let wide : q * w + w - q * w ≡ w = omega arith in
    c.has.ensures ∙ known c.args.n w c.args.nodes.now c.args.dists.now q pre.index_size_in_bounds.0 pre.index_size_in_bounds.1 pre.q_lt_n.0 c.args.v.0 _ wide c.live_len-len.ensures
