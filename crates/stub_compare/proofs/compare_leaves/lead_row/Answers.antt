use Rattle.std.proofs.Common.{ℕ, List, ap, ◌∙◌}
use Rattle.stub_flat.specs.Places.{Spot, node_of, spot_at, row_kind}
use Rattle.stub_flat.specs.Residues.{closed, moved}
use Rattle.stub_flat.specs.Leaves.{width_of}
use Rattle.stub_compare.proofs.CompareLeads.{led_at}
use Rattle.stub_compare.proofs.compare_leaves.lead_row.Goals as goal

pub returns : goal.returns
returns c =
    let N = c.args.mint.now in
    led_at (λ (w : ℕ). closed (moved w)) _ _ c.args.table.now c.close_by.result
    (c.width_of-width.ensures ∙ ap width_of (c.row_kind_at.ensures ∙ ap (λ (s : Spot). row_kind (node_of N s))
    (c.spot_at-place.ensures ∙ ap (λ (p : List ℕ). spot_at N p c.args.spot) c.as_slice.ensures)))
    c.close_by.ensures
