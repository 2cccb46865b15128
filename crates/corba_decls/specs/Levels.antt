-- One level of a type.
use Rattle.std.specs.Prelude.{List, [], ◌∷◌, Option}
use Rattle.idl_exprs.specs.Trees.{Tree}
use Rattle.corba_decls.specs.declared.type_tree.Base.{Base}
use Rattle.corba_decls.specs.declared.type_tree.TypeNode.{TypeNode}
use Rattle.corba_decls.specs.declared.type_tree.TypeNode.TheVariants as N

-- a type as the bounds of its sequences, the outermost first, and what they hold
abbrev pub level : TypeNode → List (Option Tree) × Base
level (N.Base b) = ([], b)
level (N.Sequence t bound) = (bound ∷ t.value.0, t.value.1)
