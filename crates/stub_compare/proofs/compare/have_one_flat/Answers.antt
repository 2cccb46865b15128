use Rattle.std.proofs.Common.{sym, ◌∙◌}
use Rattle.stub_compare.proofs.ComparePuts.{kept_none, code_none, flats_told}
use Rattle.stub_compare.proofs.compare.have_one_flat.Goals as goal

pub returns-in_default : goal.returns-in_default
returns-in_default c =
    kept_none c.args.mint.now c.args.id c.args.kept.now c.args.code.now (sym c.in_default.is ∙ c.in_ok-kept_text.ensures)

pub returns-in_default-code_text : goal.returns-in_default-code_text
returns-in_default-code_text c =
    code_none c.args.mint.now c.args.id c.args.kept.now c.args.code.now
    (sym c.in_default-code_text.is ∙ c.in_ok-code_text.ensures)

pub returns : goal.returns
returns c =
    flats_told c.args.mint.now c.args.id c.args.kept.now c.args.code.now c.are_same.result c.in-Some.ours c.in-Some-code_text.theirs
    (sym c.in-Some.is ∙ c.in_ok-kept_text.ensures) (sym c.in-Some-code_text.is ∙ c.in_ok-code_text.ensures) c.are_same.ensures
