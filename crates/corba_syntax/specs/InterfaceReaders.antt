-- What each function of the parser reads: a tool beside Spelling, tied to it in proofs/.
use Rattle.std.specs.Prelude.{◌⊎◌, ℕ, List, codes}
use Rattle.std.proofs.Common.{inl, inr}
use Rattle.idl_read.specs.Reading.{Reader, mark_is, word_at, mark_at, begins_with, both, mapped, either, after, before, many, joined_at}
use Rattle.idl_exprs.specs.declared.tree.Identifier.{Identifier}
use Rattle.idl_exprs.specs.Readers.{identifier_at, is_open}
use Rattle.corba_decls.specs.declared.decl_tree.Declaration.{Declaration}
use Rattle.corba_decls.specs.DeclReaders.{is_declaration, declaration_at}
use Rattle.corba_syntax.specs.declared.operation_tree.Reference.{Reference}
use Rattle.corba_syntax.specs.declared.operation_tree.Attribute.{Attribute}
use Rattle.corba_syntax.specs.declared.operation_tree.Operation.{Operation}
use Rattle.corba_syntax.specs.OperationReaders.{any_at, reference_at, is_attribute, attribute_at, operation_at}
use Rattle.corba_syntax.specs.declared.interface_tree.Export.{Export}
use Rattle.corba_syntax.specs.declared.interface_tree.Export.TheVariants as E
use Rattle.corba_syntax.specs.declared.interface_tree.Interface.{Interface}

abbrev pub exported_of : Declaration ⊎ Attribute ⊎ Operation → Export
exported_of (inl d) = E.Declaration d
exported_of (inr (inl a)) = E.Attribute a
exported_of (inr (inr o)) = E.Operation o

-- what is declared
unfoldable pub exported_at : ℕ → Reader Export
exported_at n = mapped exported_of
    (either (begins_with is_declaration) (declaration_at n) (either (begins_with is_attribute) (attribute_at n) (operation_at n)))

-- what is declared, and its end
unfoldable pub export_at : ℕ → Reader Export
export_at n = before (exported_at n) (mark_at (codes ";"))

-- the interfaces that are inherited from; none where no `:` comes first
unfoldable pub bases_at : ℕ → Reader (List Reference)
bases_at n = any_at (begins_with (mark_is (codes ":"))) (after (mark_at (codes ":")) (joined_at (codes ",") (reference_at n)))

abbrev pub interface_of : Identifier × (List Reference × List Export) → Interface
interface_of x = record { name = x.0; bases = x.1.0; exports = x.1.1 }

-- an interface
unfoldable pub interface_at : ℕ → Reader Interface
interface_at n = mapped interface_of (after (word_at (codes "interface")) (both identifier_at (both (bases_at n)
    (after (mark_at (codes "{")) (before (many is_open (export_at n)) (after (mark_at (codes "}")) (mark_at (codes ";"))))))))
