use Rattle.cast_stub.specs.Block.{code_seen}
use Rattle.stub_flat.specs.Leaves.{leaves}
use Rattle.stub_compare.proofs.CompareLinear.{leaves_linear}
use Rattle.stub_compare.proofs.CompareTables.{table_led}
use Rattle.stub_compare.proofs.compare_leaves.turn_of.Goals as goal

pub returns : goal.returns
returns c =
    let block = code_seen c.args.ops.now in
    table_led (leaves c.args.mint.now c.args.spot block) (leaves_linear c.args.mint.now c.args.spot block) _ _ c.start.ensures
    c.lead_ops.ensures
