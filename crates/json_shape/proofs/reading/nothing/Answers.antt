use Rattle.std.proofs.Common.{Some, ◌∙◌, sym, ap}
use Rattle.json_shape.proofs.Shown.{null_read, null_missed}
use Rattle.json_shape.proofs.Seen.{seen-Void}
use Rattle.json_shape.proofs.reading.nothing.Goals as goal

pub returns-then-is_null : goal.returns-then-is_null
returns-then-is_null c = null_read _ (c.if-is_null.ensures) ∙ ap Some (sym seen-Void)

pub returns-else-is_null : goal.returns-else-is_null
returns-else-is_null c = null_missed _ (c.if-is_null.ensures)
