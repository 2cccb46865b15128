use Rattle.std.proofs.Common.{◌∙◌, ap}
use Rattle.pres.specs.declared.held.NamesAndTexts.{NamesAndTexts}
use Rattle.pres.specs.Fielded.{names_held}
use Rattle.pres.proofs.Fielded.{ascii_members, ascii_name, ascii_ordered, ascii_own, text_held}
use Rattle.pres.proofs.fields.held_text.Goals as goal

pub returns-in-Texted : goal.returns-in-Texted
returns-in-Texted c =
    c.as_str.ensures.value
    ∙ text_held c.args.held.now c.in-Texted.both c.as_slice.result.now c.args.i c.index-as_slice-i.result c.in-Texted.is
    c.requires.texts (c.as_slice.ensures ∙ ap (λ (b : NamesAndTexts). b.texts) c.deref.ensures) c.requires.place
    c.index-as_slice-i.is

pub as_text-requires : goal.as_text-requires
as_text-requires c =
    ascii_name (names_held c.args.held.now) c.args.i c.held_name.result.now
    (ascii_own c.args.held.now _ c.in-Own.is c.requires.texts) c.requires.place c.held_name.ensures

pub as_text-requires-in-Members : goal.as_text-requires-in-Members
as_text-requires-in-Members c =
    ascii_name (names_held c.args.held.now) c.args.i c.held_name-in-Members.result.now
    (ascii_members c.args.held.now _ c.in-Members.is c.requires.texts) c.requires.place c.held_name-in-Members.ensures

pub as_text-requires-in-Ordered : goal.as_text-requires-in-Ordered
as_text-requires-in-Ordered c =
    ascii_name (names_held c.args.held.now) c.args.i c.held_name-in-Ordered.result.now
    (ascii_ordered c.args.held.now _ c.in-Ordered.is c.requires.texts) c.requires.place c.held_name-in-Ordered.ensures
