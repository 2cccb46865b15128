use Rattle.std.proofs.Common.{sym, ◌∙◌}
use Rattle.cast_stub.specs.Steps.{is_width}
use Rattle.stub_compare.proofs.CompareTables.{aligned_led, unaligned_led}
use Rattle.stub_compare.proofs.compare_tables.align_where.Goals as goal

pub returns-then-is_width : goal.returns-then-is_width
returns-then-is_width c = aligned_led c.args.a (is_width c.args.a) _ _ (sym c.is_width.ensures ∙ c.if-is_width.true) c.align_each.ensures

pub returns-else-is_width : goal.returns-else-is_width
returns-else-is_width c = unaligned_led c.args.a (is_width c.args.a) _ (sym c.is_width.ensures ∙ c.if-is_width.false)
