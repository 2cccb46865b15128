use Rattle.std.proofs.Common.{string_bytes, refl, ap, ◌∙◌}
use Rattle.std.proofs.lemmas.Map.Text.{btree_map_updates_text}
use Rattle.pres.specs.Tables.{text_of}
use Rattle.pres.proofs.Tabled.{number_put}
use Rattle.pres.proofs.raise_table.put_name.Goals as goal

pub returns : goal.returns
returns c =
    number_put c.args.table.now c.insert.new.self (string_bytes c.in_ok-text_of.field-0) c.args.name.now c.args.number c.args.number
    (c.in_ok-text_of.ensures ∙ ap text_of (c.as_slice.ensures ∙ c.in_ok-whole.ensures)) refl
    (btree_map_updates_text (string_bytes c.in_ok-text_of.field-0) c.args.table.now c.insert.new.self _ c.in_ok-insert.ensures.updates)
