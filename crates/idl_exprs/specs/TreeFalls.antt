-- The operands of an expression are less high than it.
use Rattle.std.specs.Prelude.{◌≤◌, max}
use Rattle.std.proofs.Common.{arith}
use Rattle.idl_exprs.specs.declared.tree.Node.{Node}
use Rattle.idl_exprs.specs.declared.tree.Node.TheVariants as N
use Rattle.idl_exprs.specs.declared.tree.Expr.TheDeep.{deep-Node}
use Rattle.idl_exprs.specs.Trees.{height}
use Rattle.idl_exprs.specs.Levels.{level}

-- no operand is deeper than the expression is high
pub deep_le-height : (n : Node) → max (deep-Node n) 0 ≤ height (level n)
deep_le-height (N.Leaf l) = omega arith
deep_le-height (N.Unary op a) = omega arith
deep_le-height (N.Binary op a b) = omega arith
