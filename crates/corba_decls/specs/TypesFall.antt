-- The elements of a sequence have fewer sequences than it.
use Rattle.std.specs.Prelude.{◌≤◌, max, length}
use Rattle.std.proofs.Common.{arith}
use Rattle.corba_decls.specs.declared.type_tree.TypeNode.{TypeNode}
use Rattle.corba_decls.specs.declared.type_tree.TypeNode.TheVariants as N
use Rattle.corba_decls.specs.declared.type_tree.TypeName.TheDeep.{deep-TypeNode}
use Rattle.corba_decls.specs.Levels.{level}

-- no element is deeper than the type has sequences
pub deep_le-length : (n : TypeNode) → max (deep-TypeNode n) 0 ≤ length (level n).0
deep_le-length (N.Base b) = omega arith
deep_le-length (N.Sequence t bound) = omega arith
