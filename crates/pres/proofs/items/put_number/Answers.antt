use Rattle.std.proofs.Common.{string_bytes, rules, ◌∙◌, FitsSigned}
use Rattle.std.specs.Int.{w128}
use Rattle.std.proofs.lemmas.Int.{to_z-of_z}
use Rattle.std.proofs.lemmas.Map.Text.{btree_map_updates_text}
use Rattle.pres.proofs.Tabled.{number_put}
use Rattle.pres.proofs.items.put_number.Goals as goal

pub returns : goal.returns
returns c =
    let fits : FitsSigned w128 c.wide.result = search rules in
    number_put c.args.numbers.now c.insert.new.self (string_bytes c.in_ok-text_of.field-0) c.args.name.now _ c.args.n.now
    c.in_ok-text_of.ensures (to_z-of_z w128 c.wide.result fits ∙ c.wide.ensures)
    (btree_map_updates_text (string_bytes c.in_ok-text_of.field-0) c.args.numbers.now c.insert.new.self _ c.in_ok-insert.ensures.updates)
