use Rattle.std.proofs.Common.{◌≡◌, subst}
use Rattle.std.specs.Prelude.{OnOk}
use Rattle.cast_stub.specs.RecvBlock.{Recv, code_seen}
use Rattle.copy_inline.proofs.RecvRowEmitting.{tested_more}
use Rattle.copy_inline.proofs.recv_arrays.put_tested.Goals as goal

pub returns : goal.returns
returns c =
    subst (λ (b : Recv). OnOk c.add-2.result (code_seen c.add-2.new.out ≡ b))
    (tested_more (code_seen c.args.out.now) (code_seen c.add.new.out) c.args.path.now _ c.args.width c.args.row c.in_ok-add.ensures
    c.in_ok-copy_path.ensures) c.add-2.ensures
