use Rattle.std.proofs.Common.{rules, ◌∙◌, FitsSigned}
use Rattle.std.specs.Int.{w128}
use Rattle.std.proofs.lemmas.Int.{to_z-of_z}
use Rattle.pres.proofs.Tabled.{text_put}
use Rattle.pres.proofs.items.put_text.Goals as goal

pub returns : goal.returns
returns c =
    let fits : FitsSigned w128 c.wide.result = search rules in
    text_put c.args.texts.now c.insert.new.self _ c.in_ok-text_of.field-0 _ c.in_ok-text_of.ensures c.in_ok-insert.ensures.updates
    c.args.n.now (to_z-of_z w128 c.wide.result fits ∙ c.wide.ensures)
