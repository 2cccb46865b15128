-- What each function of the parser reads: a tool beside Derivation, tied to it in proofs/.
use Rattle.std.specs.Prelude.{◌⊎◌, ℕ, zero, suc, List, None, codes}
use Rattle.std.proofs.Common.{inl, inr}
use Rattle.idl_read.specs.Reading.{Reader, word_is, word_at, mark_at, begins_with, both, mapped, either, after, before, many}
use Rattle.idl_exprs.specs.Readers.{identifier_at, is_open}
use Rattle.corba_decls.specs.DeclReaders.{declaration_at}
use Rattle.corba_syntax.specs.InterfaceReaders.{interface_at}
use Rattle.idl_exprs.specs.declared.tree.Identifier.{Identifier}
use Rattle.corba_decls.specs.declared.decl_tree.Declaration.{Declaration}
use Rattle.corba_syntax.specs.declared.interface_tree.Interface.{Interface}
use Rattle.corba_syntax.specs.declared.definition_tree.Definition.{Definition}
use Rattle.corba_syntax.specs.declared.definition_tree.Definition.TheVariants as V
use Rattle.corba_syntax.specs.declared.definition_tree.Module.{Module, roll-Module}

-- a declaration, and its end
abbrev pub declared_at : ℕ → Reader Declaration
declared_at n = before (declaration_at n) (mark_at (codes ";"))

abbrev pub module_of : Identifier × List Definition → Module
module_of x = roll-Module (record { name = x.0; definitions = x.1 })

-- a module, over the reader of a definition in it
abbrev pub module_at : Reader Definition → Reader Module
module_at inner = mapped module_of (after (word_at (codes "module")) (both identifier_at
    (after (mark_at (codes "{")) (before (many is_open inner) (after (mark_at (codes "}")) (mark_at (codes ";")))))))

abbrev pub definition_of : Module ⊎ Interface ⊎ Declaration → Definition
definition_of (inl m) = V.Module m
definition_of (inr (inl i)) = V.Interface i
definition_of (inr (inr d)) = V.Declaration d

-- a definition, over the reader of a definition in it
abbrev pub definition_by : Reader Definition → ℕ → Reader Definition
definition_by inner n = mapped definition_of (either (begins_with (word_is (codes "module"))) (module_at inner)
    (either (begins_with (word_is (codes "interface"))) (interface_at n) (declared_at n)))

-- a definition within so many levels
abbrev pub definition_at : ℕ → Reader Definition
definition_at zero ts = None
definition_at (suc n) ts = definition_by (definition_at n) (suc n) ts

-- a definition of the file
unfoldable pub outermost_at : Reader Definition
outermost_at = definition_at 32
