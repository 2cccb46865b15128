use Rattle.stub_compare.proofs.CompareTables.{agree_each}
use Rattle.stub_compare.proofs.CompareRows.{told_call}
use Rattle.stub_flat.specs.Residues.{every}
use Rattle.stub_compare.specs.CompareText.{path_text}
use Rattle.std.proofs.Common.{◌∙◌, ◌∷◌}
use Rattle.stub_compare.proofs.compare_items.put_call.Goals as goal

pub returns : goal.returns
returns c = λ N s S. told_call N s c.args.k c.args.path.now S _ _ _ (agree_each every c.every.result c.every.ensures)
    (λ rest. c.in_ok-put_number.ensures (c.args.k ∷ path_text c.args.path.now rest) ∙ c.in_ok-put_over.ensures rest)
