use Rattle.std.proofs.Common.{sym}
use Rattle.flick_texts.proofs.Naming.{parts_put}
use Rattle.flick_texts.proofs.types.put_type_name.Goals as goal

pub returns : goal.returns
returns c =
    parts_put c.put-2.result c.args.out.now _ c.put-2.new.out c.type_name.result.0.now c.type_name.result.1.now _
    (sym c.type_name.ensures) c.in_ok-put.ensures c.put-2.ensures
