-- One level of an expression.
use Rattle.idl_exprs.specs.declared.tree.Node.{Node}
use Rattle.idl_exprs.specs.declared.tree.Node.TheVariants as N
use Rattle.idl_exprs.specs.Trees.{Tree, leaf, unary, binary}

-- one level of an expression, over the trees of its operands
abbrev pub level : Node → Tree
level (N.Leaf l) = leaf l
level (N.Unary op a) = unary op a.value
level (N.Binary op a b) = binary op a.value b.value
