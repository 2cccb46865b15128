-- What a declaration declares.
use Rattle.std.specs.Prelude.{Bool, true, false, ℕ, List, [], ◌∷◌}
use Rattle.idl_names.specs.Answers.{Answer}
use Rattle.idl_names.specs.Lists.{is_some_list}
use Rattle.corba_decls.specs.declared.member_tree.Member.{Member}
use Rattle.corba_decls.specs.declared.decl_tree.Aliased.{Aliased}
use Rattle.corba_decls.specs.declared.decl_tree.Aliased.TheVariants as A
use Rattle.corba_decls.specs.declared.decl_tree.Declaration.{Declaration}
use Rattle.corba_decls.specs.declared.decl_tree.Declaration.TheVariants as D
use Rattle.corba_shapes.specs.State.{State}
use Rattle.corba_shapes.specs.Structs.{struct_on, exception_on}
use Rattle.corba_shapes.specs.Enums.{enum_on}
use Rattle.corba_shapes.specs.Unions.{union_on}
use Rattle.corba_shapes.specs.Aliases.{typedef_on}
use Rattle.corba_shapes.specs.Constants.{constant_on}

-- what is declared after a declaration, by its number
abbrev pub declaration_on : ℕ → State → Declaration → Answer State
declaration_on d s (D.Typedef t) = typedef_on d s t
declaration_on d s (D.Struct t) = struct_on d s t
declaration_on d s (D.Union u) = union_on d s u
declaration_on d s (D.Enum e) = enum_on d s e
declaration_on d s (D.Constant c) = constant_on d s c
declaration_on d s (D.Exception e) = exception_on d s e

-- ---- what the grammar sees to

-- members of which the first has a declarator
abbrev pub has_field : List Member → Bool
has_field [] = false
has_field (m ∷ ms) = is_some_list m.declarators

-- a struct has a field, and an enum an item
abbrev pub is_whole_aliased : Aliased → Bool
is_whole_aliased (A.Struct t) = has_field t.members
is_whole_aliased (A.Enum e) = is_some_list e.items
is_whole_aliased _ = true

-- the same of a declaration
abbrev pub is_whole : Declaration → Bool
is_whole (D.Typedef t) = is_whole_aliased t.of
is_whole (D.Struct t) = has_field t.members
is_whole (D.Enum e) = is_some_list e.items
is_whole _ = true
