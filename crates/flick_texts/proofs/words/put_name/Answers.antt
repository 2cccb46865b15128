use Rattle.flick_texts.proofs.Naming.{parts_put}
use Rattle.flick_texts.proofs.words.put_name.Goals as goal

pub returns : goal.returns
returns c =
    parts_put c.put-2.result c.args.out.now _ c.put-2.new.out c.parts.result.0.now c.parts.result.1.now c.args.name.now
    c.parts.ensures c.in_ok-put.ensures c.put-2.ensures
