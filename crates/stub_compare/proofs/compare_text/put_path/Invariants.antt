use Rattle.std.proofs.Common.{drop}
use Rattle.stub_compare.proofs.CompareTexts.{IsLeft}
use Rattle.stub_compare.proofs.compare_text.put_path.Given as goal

-- what is put, and what is left
abbrev pub invariant-loop-field : goal.invariant-loop-field
invariant-loop-field l = IsLeft l.field-items (drop l.field-index l.field-items) l.fn.out l.out
