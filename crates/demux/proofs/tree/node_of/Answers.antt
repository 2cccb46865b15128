use Rattle.std.proofs.Common.{◌*◌, ◌<◌, ◌≤◌, length, arith}
use Rattle.demux.proofs.Finding.{along_first, along_more, along_last}
use Rattle.demux.proofs.tree.node_of.Goals as goal

pub loop-i-init : goal.loop-i-init
loop-i-init c = along_first _ _ _ _ c.in_ok-first.ensures

pub loop-i-preserved : goal.loop-i-preserved
loop-i-preserved c =
    let within : 4 * c.loop-i.i < length c.args.name.now = omega arith in
    along_more _ _ _ _ _ _ _ _ within c.word_in.ensures c.loop-i.invariant c.in_ok-next.ensures

pub returns : goal.returns
returns c =
    let all : length c.args.name.now ≤ 4 * c.loop-i.i = omega arith in
    along_last _ _ _ _ _ all c.loop-i.invariant
