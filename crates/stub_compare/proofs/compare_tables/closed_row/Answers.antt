use Rattle.std.proofs.Common.{ap, ◌∙◌, List, Bool}
use Rattle.stub_flat.specs.Residues.{closed}
use Rattle.stub_compare.specs.CompareSets.{applied}
use Rattle.stub_places.specs.Sets.{each_of, set_of}
use Rattle.stub_compare.proofs.compare_tables.closed_row.Goals as goal

pub returns : goal.returns
returns c = c.closed.ensures ∙ ap (λ (l : List Bool). each_of (closed (applied 8 c.args.turn.now) (set_of l))) c.row.ensures
