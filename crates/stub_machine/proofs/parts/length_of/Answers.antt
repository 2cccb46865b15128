use Rattle.std.proofs.Common.{Some, ap, sym, ◌∙◌}
use Rattle.mint.specs.Values.{seen}
use Rattle.cast_stub.specs.Parts.{length_in}
use Rattle.mint.proofs.Fitting.{count-all_seen}
use Rattle.stub_machine.proofs.PartLaws.{seen-Items}
use Rattle.stub_machine.proofs.parts.length_of.Goals as goal

pub returns-in-Items : goal.returns-in-Items
returns-in-Items c =
    ap Some (c.len.ensures ∙ sym (count-all_seen c.in-Items.values))
    ∙ ap length_in (sym (ap seen c.in-Items.is ∙ seen-Items c.in-Items.values))
