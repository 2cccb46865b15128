-- Interfaces: what is read is what is spelled.
use Rattle.std.proofs.Common.{◌≡◌, ℕ, List, ◌++◌, false, refl}
use Rattle.std.specs.Prelude.{codes}
use Rattle.idl_lex.specs.declared.kinds.Token.{Token}
use Rattle.idl_read.specs.Reading.{mark_is, word_is, begins_with}
use Rattle.idl_read.specs.Grammar.{Text, mark, ◌&◌, each, joined, kinds, IsGrammar, Leads, Any}
use Rattle.idl_read.proofs.Grammars.{mapped_is, both_is, one_tree}
use Rattle.idl_read.proofs.Leaves.{word_reads, mark_reads, leads_word, leads_mark, apart_mark, begins_so, begins_not}
use Rattle.idl_read.proofs.Productions.{weaker, after_is, before_is, leads_after, not_other}
use Rattle.idl_read.proofs.Lists.{turns, joined_is}
use Rattle.idl_exprs.specs.declared.tree.Identifier.{Identifier}
use Rattle.idl_exprs.specs.Spelling.{identifier}
use Rattle.idl_exprs.proofs.LeavesRead.{NameMay, identifier_is}
use Rattle.corba_syntax.specs.declared.operation_tree.Reference.{Reference}
use Rattle.corba_syntax.specs.OperationSpelling.{if_any, reference}
use Rattle.corba_syntax.proofs.PartsRead.{any_is, reference_is}
use Rattle.corba_syntax.specs.declared.interface_tree.Export.{Export}
use Rattle.corba_syntax.specs.declared.interface_tree.Interface.{Interface}
use Rattle.corba_syntax.specs.InterfaceSpelling.{export, bases, interface}
use Rattle.idl_exprs.specs.Readers.{is_open}
use Rattle.corba_syntax.specs.InterfaceReaders.{bases_at, interface_of, interface_at}
use Rattle.corba_syntax.proofs.ExportsRead.{exports_is}

-- a `{`, and so no base
abbrev BasesMay : List Token → Type 0
BasesMay rest = (begins_with (mark_is (codes ":")) rest ≡ false) × ((begins_with (mark_is (codes ",")) rest ≡ false) × NameMay rest)

abbrev pub end_text : Text
end_text = mark (codes "}") & mark (codes ";")

pub closed : (front rest : List Token) → end_text (kinds front) → is_open (front ++ rest) ≡ false
closed front rest s =
    not_other (mark_is (codes "}")) (front ++ rest)
    (begins_so (leads_after (λ (_ : Unit {0}). mark (codes ";")) (leads_mark (codes "}"))) tt front rest s)

module _ (n : ℕ) where
  bases_is : IsGrammar (bases_at n) (if_any (bases n)) BasesMay
  unfolding bases_at
  bases_is = any_is {May = BasesMay} (begins_with (mark_is (codes ":")))
      (weaker
      (after_is (mark_reads (codes ":"))
      (joined_is (codes ",") (reference_is n)
      (λ ts h. turns (mark_is (codes ",")) (mark_is (codes "::")) (apart_mark (mark_is (codes ",")) (codes "::") refl) ts h)))
      (λ rest may. may.1))
      (λ ks s. s.4)
      (λ rs front rest s may. begins_so (leads_after (joined (codes ",") (reference n)) (leads_mark (codes ":"))) rs front rest s)
      (λ rest may. may.0)

  abbrev body_text : List Export → Text
  body_text es = mark (codes "{") & (each (export n) es & end_text)

  leads_body : Leads body_text (mark_is (codes "{"))
  leads_body = leads_after (λ es. each (export n) es & end_text) (leads_mark (codes "{"))

  before_body : (es : List Export) (front rest : List Token) → body_text es (kinds front) → BasesMay (front ++ rest)
  before_body es front rest s = (
    begins_not (mark_is (codes ":")) leads_body (apart_mark (mark_is (codes "{")) (codes ":") refl) es front rest s,
    (
      begins_not (mark_is (codes ",")) leads_body (apart_mark (mark_is (codes "{")) (codes ",") refl) es front rest s,
      begins_not (mark_is (codes "::")) leads_body (apart_mark (mark_is (codes "{")) (codes "::") refl) es front rest s,
    ),
  )

  pub interface_is : IsGrammar (interface_at n) (interface n) Any
  unfolding interface_at
  interface_is = mapped_is interface_of (interface n)
      (after_is (word_reads (codes "interface")) (both_is identifier_is
      (both_is bases_is
      (after_is (mark_reads (codes "{"))
      (before_is (exports_is n) (after_is (mark_reads (codes "}")) (mark_reads (codes ";"))) closed))
      (λ es front rest s may. before_body es front rest s))
      (λ b front rest t may. tt)))
      (λ x ks s. s) (λ i ks s. ((i.name, (i.bases, i.exports)), refl, s))

  abbrev head_text : Identifier × (List Reference × List Export) → Text
  head_text x = identifier x.0 & (if_any (bases n) x.1.0 & body_text x.1.1)

  pub leads_interface : Leads (interface n) (word_is (codes "interface"))
  leads_interface i ks s = leads_after head_text (leads_word (codes "interface")) (i.name, (i.bases, i.exports)) ks s

pub one_interface_only : (n : ℕ) (a b : Interface) (ts : List Token) → interface n a (kinds ts) → interface n b (kinds ts) → a ≡ b
one_interface_only n = one_tree (interface_is n) tt
