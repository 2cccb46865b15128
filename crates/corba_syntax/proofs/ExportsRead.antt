-- What an interface declares: what is read is what is spelled.
use Rattle.std.proofs.Common.{◌≡◌, ◌⊎◌, inl, inr, ℕ, List, Bool, false, ◌||◌, refl}
use Rattle.std.specs.Prelude.{codes}
use Rattle.idl_lex.specs.declared.kinds.Token.{Token}
use Rattle.idl_lex.specs.declared.kinds.TokenKind.{TokenKind}
use Rattle.idl_read.specs.Reading.{mark_is, word_is, begins_with, many}
use Rattle.idl_read.specs.Grammar.{Text, mark, one_of, each, IsGrammar, Leads, Any}
use Rattle.idl_read.proofs.Grammars.{mapped_is, either_is}
use Rattle.idl_read.proofs.Leaves.{mark_reads, leads_mark, Apart, apart_or, apart_word, apart_mark, leads_both, leads_either, begins_so, begins_not}
use Rattle.idl_read.proofs.Productions.{weaker, before_is, leads_by}
use Rattle.idl_read.proofs.Lists.{turns, until_is}
use Rattle.idl_exprs.specs.Readers.{is_joint, is_open}
use Rattle.corba_decls.specs.declared.decl_tree.Declaration.{Declaration}
use Rattle.corba_decls.specs.DeclSpelling.{declaration}
use Rattle.corba_decls.specs.DeclReaders.{is_declaration}
use Rattle.corba_decls.proofs.DeclarationsRead.{Ended, declaration_is, leads_declaration}
use Rattle.corba_syntax.specs.declared.operation_tree.Attribute.{Attribute}
use Rattle.corba_syntax.specs.declared.operation_tree.Operation.{Operation}
use Rattle.corba_syntax.specs.OperationSpelling.{attribute, operation}
use Rattle.corba_syntax.specs.OperationReaders.{is_attribute}
use Rattle.corba_syntax.proofs.AttributesRead.{AttributeMay, attribute_is, leads_attribute}
use Rattle.corba_syntax.proofs.OperationsRead.{OperationMay, operation_is, is_operation, leads_operation}
use Rattle.corba_syntax.specs.declared.interface_tree.Export.{Export}
use Rattle.corba_syntax.specs.declared.interface_tree.Export.TheVariants as E
use Rattle.corba_syntax.specs.InterfaceSpelling.{exported, export}
use Rattle.corba_syntax.specs.InterfaceReaders.{exported_of, exported_at, export_at}
use Rattle.corba_decls.proofs.MembersRead.{apart_semicolon}

attribute_ended : (rest : List Token) → Ended rest → AttributeMay rest
attribute_ended rest may = (
  turns (mark_is (codes ";")) (mark_is (codes ",")) (apart_mark (mark_is (codes ";")) (codes ",") refl) rest may,
  turns (mark_is (codes ";")) is_joint apart_semicolon rest may,
)

operation_ended : (rest : List Token) → Ended rest → OperationMay rest
operation_ended rest may = turns (mark_is (codes ";")) (word_is (codes "raises")) (apart_word (mark_is (codes ";")) (codes "raises") refl)
    rest may

-- ---- what each begins with

abbrev pub is_member : TokenKind → Bool
is_member k = is_attribute k || is_operation k

apart_attribute : Apart is_operation is_attribute
apart_attribute = apart_or is_operation (word_is (codes "readonly")) (word_is (codes "attribute"))
    (apart_word is_operation (codes "readonly") refl) (apart_word is_operation (codes "attribute") refl)

apart_words_of : (g : TokenKind → Bool) → Apart g (word_is (codes "typedef")) → Apart g (word_is (codes "struct"))
    → Apart g (word_is (codes "union")) → Apart g (word_is (codes "enum")) → Apart g (word_is (codes "const"))
    → Apart g (word_is (codes "exception"))
    → Apart g is_declaration
apart_words_of g a b c d e f k h = let p = a k h in let q = b k h in let r = c k h in let s = d k h in let t = e k h in let u =
    f k h in rw (p, q, r, s, t, u) refl

apart_declaration : Apart is_member is_declaration
apart_declaration = apart_words_of is_member (apart_word is_member (codes "typedef") refl) (apart_word is_member (codes "struct") refl)
    (apart_word is_member (codes "union") refl)
    (apart_word is_member (codes "enum") refl) (apart_word is_member (codes "const") refl) (apart_word is_member (codes "exception") refl)

-- whether a token begins what an interface declares
abbrev pub is_export : TokenKind → Bool
is_export k = is_declaration k || is_member k

module _ (n : ℕ) where
  abbrev member_text : Attribute ⊎ Operation → Text
  member_text = one_of (attribute n) (operation n)

  abbrev exported_text : Declaration ⊎ Attribute ⊎ Operation → Text
  exported_text = one_of (declaration n) member_text

  exported_forth : (x : Declaration ⊎ Attribute ⊎ Operation) (ks : List TokenKind) → exported_text x ks → exported n (exported_of x) ks
  exported_forth (inl d) ks s = s
  exported_forth (inr (inl a)) ks s = s
  exported_forth (inr (inr o)) ks s = s

  exported_back : (e : Export) (ks : List TokenKind) → exported n e ks
      → (x : Declaration ⊎ Attribute ⊎ Operation) × (exported_of x ≡ e) × exported_text x ks
  exported_back (E.Declaration d) ks s = (inl d, refl, s)
  exported_back (E.Attribute a) ks s = (inr (inl a), refl, s)
  exported_back (E.Operation o) ks s = (inr (inr o), refl, s)

  leads_members : Leads member_text is_member
  leads_members = leads_either (leads_attribute n) (leads_operation n)

  exported_is : IsGrammar (exported_at n) (exported n) Ended
  unfolding exported_at
  exported_is = mapped_is exported_of (exported n)
      (either_is {May = Ended} (begins_with is_declaration) (declaration_is n)
      (either_is {May = Ended} (begins_with is_attribute) (weaker (attribute_is n) attribute_ended)
      (weaker (operation_is n) operation_ended)
      (λ a front rest s may. begins_so (leads_attribute n) a front rest s)
      (λ o front rest s may. begins_not is_attribute (leads_operation n) apart_attribute o front rest s))
      (λ d front rest s may. begins_so (leads_declaration n) d front rest s)
      (λ m front rest s may. begins_not is_declaration leads_members apart_declaration m front rest s))
      exported_forth exported_back

  leads_exported : Leads (exported n) is_export
  leads_exported = leads_by exported_of exported_back (leads_either (leads_declaration n) leads_members)

  export_is : IsGrammar (export_at n) (export n) Any
  unfolding export_at
  export_is = before_is exported_is (mark_reads (codes ";")) (λ front rest s. begins_so (leads_mark (codes ";")) tt front rest s)

  leads_export : Leads (export n) is_export
  leads_export e ks s = leads_both (λ (_ : Unit {0}). mark (codes ";")) leads_exported (e, tt) ks s

  pub exports_is : IsGrammar (many is_open (export_at n)) (each (export n)) (λ rest. is_open rest ≡ false)
  exports_is = until_is (codes "}") export_is leads_export (apart_mark is_export (codes "}") refl)
