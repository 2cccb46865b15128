use Rattle.std.proofs.Common.{drop}
use Rattle.stub_flat.specs.Items.{all_put}
use Rattle.stub_compare.specs.CompareCells.{seen}
use Rattle.stub_compare.specs.CompareText.{cells_text}
use Rattle.stub_compare.specs.CompareTold.{IsLed}
use Rattle.stub_compare.proofs.compare_octets.put_places.Given as goal

-- what is put, and what is left
abbrev pub invariant-loop-place : goal.invariant-loop-place
invariant-loop-place l = IsLed cells_text (all_put (seen l.puts l.places))
    (all_put (seen l.puts (drop l.place-index l.places))) l.fn.out l.out
