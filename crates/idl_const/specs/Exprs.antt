-- Expressions as plain trees.
use Rattle.std.specs.Prelude.{ℕ, ℤ, List}
use Rattle.idl_const.specs.declared.tree.UnaryOp.{UnaryOp}
use Rattle.idl_const.specs.declared.tree.BinaryOp.{BinaryOp}
use Rattle.idl_const.specs.declared.tree.Expr.{Expr, fold-Expr}
use Rattle.idl_const.specs.declared.tree.Expr.TheOpen.{Expr-F}

-- an expression as a plain tree
pub data Tree : Type 0 where
  number : ℤ → Tree
  named : List ℕ → Tree
  unary : UnaryOp → Tree → Tree
  binary : BinaryOp → Tree → Tree → Tree

-- one level of an expression, over the trees of its operands
abbrev pub seen_level : Expr-F Tree → Tree
seen_level (Expr-F.Num n) = number n
seen_level (Expr-F.Name w) = named w
seen_level (Expr-F.Unary op a) = unary op a.value
seen_level (Expr-F.Binary op a b) = binary op a.value b.value

-- the plain tree of an expression
abbrev pub seen : Expr → Tree
seen = fold-Expr Tree seen_level
