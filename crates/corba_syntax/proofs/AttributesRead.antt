-- Attributes: what is read is what is spelled.
use Rattle.std.proofs.Common.{◌≡◌, ℕ, List, [], ◌∷◌, ◌++◌, Option, false, refl, sym, ap, subst, ◌∙◌, append_assoc}
use Rattle.std.specs.Prelude.{codes}
use Rattle.idl_lex.specs.declared.kinds.Token.{Token}
use Rattle.idl_read.specs.Reading.{mark_is, word_is, begins_with}
use Rattle.idl_read.specs.Grammar.{Text, mark, word, ◌&◌, each, joined, kinds, IsGrammar, Leads}
use Rattle.idl_read.proofs.Grammars.{mapped_is, both_is, parted, one_tree}
use Rattle.idl_read.proofs.Leaves.{word_reads, leads_word, apart_word, leads_mark, leads_both, begins_not}
use Rattle.idl_read.proofs.Productions.{weaker, after_is, leads_after, leads_when, word_flag_reads}
use Rattle.idl_read.proofs.Lists.{joined_is}
use Rattle.idl_exprs.specs.Trees.{Tree}
use Rattle.idl_exprs.specs.declared.tree.Identifier.{Identifier}
use Rattle.idl_exprs.specs.Spelling.{identifier}
use Rattle.idl_exprs.specs.Readers.{is_joint}
use Rattle.idl_exprs.proofs.LeavesRead.{identifier_is}
use Rattle.corba_decls.specs.declared.type_tree.Base.{Base}
use Rattle.corba_decls.proofs.BasesRead.{Closes}
use Rattle.corba_decls.proofs.SequencesRead.{type_is}
use Rattle.corba_syntax.specs.declared.operation_tree.Attribute.{Attribute}
use Rattle.corba_syntax.specs.OperationSpelling.{type_text, attribute}
use Rattle.corba_syntax.specs.OperationReaders.{is_attribute, attribute_of, attribute_at}
use Rattle.corba_decls.proofs.MembersRead.{after_name, apart_comma}

-- ---- attributes

abbrev next_name : Identifier → Text
next_name i = mark (codes ",") & identifier i

names_end : (is : List Identifier) (f rest : List Token) → each next_name is (kinds f) → begins_with is_joint rest ≡ false
    → begins_with is_joint (f ++ rest) ≡ false
names_end [] [] rest s j = j
names_end [] (t ∷ f) rest s j = absurd cc
names_end (i ∷ is) f rest s j = begins_not is_joint (leads_both (each next_name) (leads_after identifier (leads_mark (codes ","))))
    apart_comma (i, is) f rest s

names_close : (is : List Identifier) (front rest : List Token) → joined (codes ",") identifier is (kinds front)
    → begins_with is_joint rest ≡ false
    → Closes (front ++ rest)
names_close [] front rest s j = absurd s
names_close (i ∷ is) front rest s j =
    let p = parted front s.0 s.1 s.2 in
    let others = names_end is p.1 rest (subst (each next_name is) (sym p.4) s.4) j in
    let here = after_name i p.0 (p.1 ++ rest) (subst (identifier i) (sym p.3) s.3) others in
    subst Closes (sym (ap (λ z. z ++ rest) p.2 ∙ append_assoc p.0 p.1 rest)) here

-- no further name follows attributes, and nothing that goes on with an expression
abbrev pub AttributeMay : List Token → Type 0
AttributeMay rest = (begins_with (mark_is (codes ",")) rest ≡ false) × (begins_with is_joint rest ≡ false)

module _ (n : ℕ) where
  abbrev typed_names : (List (Option Tree) × Base) × List Identifier → Text
  typed_names x = type_text n x.0 & joined (codes ",") identifier x.1

  pub attribute_is : IsGrammar (attribute_at n) (attribute n) AttributeMay
  unfolding attribute_at
  attribute_is = mapped_is attribute_of (attribute n)
      (both_is (word_flag_reads (codes "readonly"))
      (after_is (word_reads (codes "attribute"))
      (both_is (type_is n)
      (weaker {May' = AttributeMay} (joined_is (codes ",") identifier_is (λ ts h. tt)) (λ rest may.
      (may.0, tt))) (λ is front rest s may. names_close is front rest s may.1)))
      (λ x front rest s may.
      begins_not (word_is (codes "readonly")) (leads_after typed_names (leads_word (codes "attribute")))
      (apart_word (word_is (codes "attribute")) (codes "readonly") refl) x front rest s))
      (λ x ks s. s) (λ a ks s. ((a.readonly, (a.of, a.names)), refl, s))

  pub leads_attribute : Leads (attribute n) is_attribute
  leads_attribute a ks s =
      leads_when {P = word (codes "readonly")} (leads_word (codes "readonly")) (leads_after typed_names (leads_word (codes "attribute")))
      (a.readonly, (a.of, a.names)) ks s

pub one_attribute_only : (n : ℕ) (a b : Attribute) (ts : List Token) → attribute n a (kinds ts) → attribute n b (kinds ts) → a ≡ b
one_attribute_only n = one_tree (attribute_is n) (refl, refl)
