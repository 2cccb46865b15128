-- Expressions as plain trees.
use Rattle.std.specs.Prelude.{ℕ, suc, max}
use Rattle.idl_const.specs.declared.tree.UnaryOp.{UnaryOp}
use Rattle.idl_const.specs.declared.tree.BinaryOp.{BinaryOp}
use Rattle.idl_exprs.specs.declared.tree.Leaf.{Leaf}

-- an expression as a plain tree
pub data Tree : Type 0 where
  leaf : Leaf → Tree
  unary : UnaryOp → Tree → Tree
  binary : BinaryOp → Tree → Tree → Tree

-- how many operators are nested
abbrev pub height : Tree → ℕ
height (leaf l) = 0
height (unary op a) = suc (height a)
height (binary op a b) = suc (max (height a) (height b))
