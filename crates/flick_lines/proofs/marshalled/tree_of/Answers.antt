use Rattle.std.proofs.Common.{sym}
use Rattle.serde_json.specs.View.{view}
use Rattle.flick_lines.proofs.Trees.{tree-some}
use Rattle.flick_lines.proofs.marshalled.tree_of.Goals as goal

pub returns-in-Ok-from_str-clause-value : goal.returns-in-Ok-from_str-clause-value
returns-in-Ok-from_str-clause-value c =
    sym (tree-some c.args.line.now c.in-Ok.text.now (view c.in-Ok-from_str.json) c.in-Ok.ensures.cases c.in-Ok-from_str.ensures.ok)
