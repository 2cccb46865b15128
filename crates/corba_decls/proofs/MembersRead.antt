-- Declarators, members, and what is made of them: what is read is what is spelled.
use Rattle.std.proofs.Common.{◌≡◌, ℕ, zero, suc, List, [], ◌∷◌, ◌++◌, Option, Bool, true, false, ◌||◌, refl, sym, ap, subst, ◌∙◌, append_assoc}
use Rattle.std.specs.Prelude.{codes}
use Rattle.idl_lex.specs.declared.kinds.Token.{Token}
use Rattle.idl_lex.specs.declared.kinds.TokenKind.{TokenKind}
use Rattle.idl_lex.specs.declared.kinds.TokenKind.TheVariants as K
use Rattle.idl_read.specs.Reading.{mark_is, word_is, mark_at, begins_with, many, before, joined_at}
use Rattle.idl_read.specs.Grammar.{Text, mark, ◌&◌, each, some, joined, kinds, IsGrammar, Leads, Any}
use Rattle.idl_read.proofs.Grammars.{mapped_is, both_is, many_is, parted, one_tree}
use Rattle.idl_read.proofs.Leaves.{word_reads, mark_reads, mark_named, leads_word, one_kind, Apart, apart_mark, leads_mark, leads_both, begins_so, begins_not}
use Rattle.idl_read.proofs.Productions.{weaker, after_is, before_is, leads_after, not_other}
use Rattle.idl_read.proofs.Lists.{turns, joined_is, until_is, some_is}
use Rattle.idl_exprs.specs.Trees.{Tree}
use Rattle.idl_exprs.specs.declared.tree.Identifier.{Identifier}
use Rattle.idl_exprs.specs.Spelling.{identifier, expression}
use Rattle.idl_exprs.specs.Readers.{is_identifier, is_joint, is_open}
use Rattle.idl_exprs.proofs.LeavesRead.{identifier_is, leads_identifier}
use Rattle.idl_exprs.specs.declared.languages.Language.TheVariants.{Corba}
use Rattle.idl_exprs.proofs.Ending.{before_mark}
use Rattle.idl_exprs.proofs.ExpressionsRead.{expression_is}
use Rattle.corba_decls.specs.declared.type_tree.Base.{Base}
use Rattle.corba_decls.specs.TypeSpelling.{type}
use Rattle.corba_decls.proofs.BasesRead.{Closes, is_plain, leads_base}
use Rattle.corba_decls.proofs.SequencesRead.{whole, type_is}
use Rattle.corba_decls.specs.declared.member_tree.Dimension.{Dimension}
use Rattle.corba_decls.specs.declared.member_tree.Declarator.{Declarator}
use Rattle.corba_decls.specs.declared.member_tree.Struct.{Struct}
use Rattle.corba_decls.specs.declared.member_tree.Exception.{Exception}
use Rattle.corba_decls.specs.declared.member_tree.Enum.{Enum}
use Rattle.corba_decls.specs.MemberSpelling.{dimension, declarator, member, structure, exception, enumeration}
use Rattle.corba_decls.specs.MemberReaders.{dimension_of, dimension_at, has_dimension, declarator_of, declarator_at, member_of, member_at, structure_of, structure_at, exception_of, exception_at, enumeration_of, enumeration_at}
use Rattle.std.proofs.lemmas.Bool.{or_right, or_left}

-- a mark after which no expression goes on
apart_bracket : Apart (mark_is (codes "[")) is_joint
apart_bracket k e = let is = mark_named (codes "[") k e in rw is refl

pub apart_comma : Apart (mark_is (codes ",")) is_joint
apart_comma k e = let is = mark_named (codes ",") k e in rw is refl

pub apart_semicolon : Apart (mark_is (codes ";")) is_joint
apart_semicolon k e = let is = mark_named (codes ";") k e in rw is refl

leads_type_of : (n : ℕ) (bounds : List (Option Tree)) (b : Base) (ks : List TokenKind) → type n bounds b false ks
    → (k : TokenKind) × (more : List TokenKind) × (ks ≡ k ∷ more)
    × ((word_is (codes "sequence") k || (word_is (codes "string") k || is_plain 0 k)) ≡ true)
leads_type_of zero bounds b ks s = absurd s
leads_type_of (suc n) [] b ks s = let x =
    leads_base (suc n) (([], b), false) ks (refl, s) in (x.0, x.1, x.2, or_right (word_is (codes "sequence") x.0) _ x.3)
leads_type_of (suc n) (c ∷ cs) b ks s = let x =
    leads_word (codes "sequence") tt s.0 s.3 in (x.0, x.1 ++ s.1, s.2 ∙ ap (λ z. z ++ s.1) x.2, or_left _ _ x.3)

pub leads_type : (n : ℕ) → Leads (whole n) (λ k. word_is (codes "sequence") k || (word_is (codes "string") k || is_plain 0 k))
leads_type n v ks s = leads_type_of n v.0 v.1 ks s

-- a type may come before an identifier that no expression goes on with
pub after_name : (i : Identifier) (f g : List Token) → identifier i (kinds f) → begins_with is_joint g ≡ false → Closes (f ++ g)
after_name i f g s j = let t = one_kind f (K.Name s.0) s.2.0 in let name = s.2.1 in rw (t.1, t.2, name, j) refl

module _ (n : ℕ) where
  pub dimension_is : IsGrammar (dimension_at n) (dimension n) Any
  unfolding dimension_at
  dimension_is =
      mapped_is dimension_of (dimension n)
      (after_is (mark_reads (codes "["))
      (before_is (expression_is n false) (mark_reads (codes "]")) (before_mark Corba (codes "]") refl refl)))
      (λ x ks s. s) (λ d ks s. (d.length, refl, s))

  leads_dimension : Leads (dimension n) (mark_is (codes "["))
  leads_dimension d ks s = leads_after (λ e. expression n e & mark (codes "]")) (leads_mark (codes "[")) d.length ks s

  -- no further dimension follows it
  abbrev pub DeclaratorMay : List Token → Type 0
  DeclaratorMay rest = has_dimension rest ≡ false

  dimensions_is : IsGrammar (many has_dimension (dimension_at n)) (each (dimension n)) DeclaratorMay
  dimensions_is =
      weaker
      (many_is has_dimension dimension_is
      (record { ends = refl; begins = λ d front rest s. begins_so leads_dimension d front rest s; goes_on = λ ts h. tt })) (λ rest may.
      (may, tt))

  pub declarator_is : IsGrammar (declarator_at n) (declarator n) DeclaratorMay
  unfolding declarator_at
  declarator_is =
      mapped_is declarator_of (declarator n)
      (both_is identifier_is dimensions_is (λ b front rest t may. tt)) (λ x ks s. s) (λ d ks s. ((d.name, d.dimensions), refl, s))

  pub leads_declarator : Leads (declarator n) is_identifier
  leads_declarator d ks s = leads_both (each (dimension n)) leads_identifier (d.name, d.dimensions) ks s

  -- ---- what follows a type

  dimensions_end : (ds : List Dimension) (f rest : List Token) → each (dimension n) ds (kinds f) → begins_with is_joint rest ≡ false
      → begins_with is_joint (f ++ rest) ≡ false
  dimensions_end [] [] rest s j = j
  dimensions_end [] (t ∷ f) rest s j = absurd cc
  dimensions_end (d ∷ ds) f rest s j = begins_not is_joint (leads_both (each (dimension n)) leads_dimension) apart_bracket (d, ds) f rest s

  abbrev next_text : Declarator → Text
  next_text d = mark (codes ",") & declarator n d

  leads_next : Leads next_text (mark_is (codes ","))
  leads_next = leads_after (declarator n) (leads_mark (codes ","))

  declarators_end : (ds : List Declarator) (f rest : List Token) → each next_text ds (kinds f) → begins_with is_joint rest ≡ false
      → begins_with is_joint (f ++ rest) ≡ false
  declarators_end [] [] rest s j = j
  declarators_end [] (t ∷ f) rest s j = absurd cc
  declarators_end (d ∷ ds) f rest s j = begins_not is_joint (leads_both (each next_text) leads_next) apart_comma (d, ds) f rest s

  -- declarators, where no expression goes on after them
  pub declarators_close : (ds : List Declarator) (front rest : List Token)
      → joined (codes ",") (declarator n) ds (kinds front) → begins_with is_joint rest ≡ false
      → Closes (front ++ rest)
  declarators_close [] front rest s j = absurd s
  declarators_close (d ∷ ds) front rest s j =
      let q = parted front s.0 s.1 s.2 in
      let r = parted q.0 s.3.0 s.3.1 (q.3 ∙ s.3.2) in
      let others = declarators_end ds q.1 rest (subst (each next_text ds) (sym q.4) s.4) j in
      let sizes = dimensions_end d.dimensions r.1 (q.1 ++ rest) (subst (each (dimension n) d.dimensions) (sym r.4) s.3.4) others in
      let here = after_name d.name r.0 (r.1 ++ (q.1 ++ rest)) (subst (identifier d.name) (sym r.3) s.3.3) sizes in
      let parts : front ++ rest ≡ r.0 ++ (r.1 ++ (q.1 ++ rest)) =
      ap (λ z. z ++ rest) (q.2 ∙ ap (λ z. z ++ q.1) r.2) ∙ append_assoc (r.0 ++ r.1) q.1 rest ∙ append_assoc r.0 r.1 (q.1 ++ rest) in
      subst Closes (sym parts) here

  abbrev declared : List Declarator → Text
  declared ds = joined (codes ",") (declarator n) ds & mark (codes ";")

  pub declared_closes : (ds : List Declarator) (front rest : List Token) → declared ds (kinds front) → Closes (front ++ rest)
  declared_closes ds front rest s =
      let p = parted front s.0 s.1 s.2 in
      let end_ = begins_not is_joint (leads_mark (codes ";")) apart_semicolon tt p.1 rest (p.4 ∙ s.4) in
      let here = declarators_close ds p.0 (p.1 ++ rest) (subst (joined (codes ",") (declarator n) ds) (sym p.3) s.3) end_ in
      subst Closes (sym (ap (λ z. z ++ rest) p.2 ∙ append_assoc p.0 p.1 rest)) here

  -- ---- members

  declared_is : IsGrammar (before (joined_at (codes ",") (declarator_at n)) (mark_at (codes ";"))) declared Any
  declared_is = before_is
      (joined_is (codes ",") declarator_is
      (λ ts h. turns (mark_is (codes ",")) (mark_is (codes "[")) (apart_mark (mark_is (codes ",")) (codes "[") refl) ts h))
      (mark_reads (codes ";"))
      (λ front rest s. (
        begins_not (mark_is (codes ",")) (leads_mark (codes ";")) (apart_mark (mark_is (codes ";")) (codes ",") refl) tt front rest s,
        begins_not (mark_is (codes "[")) (leads_mark (codes ";")) (apart_mark (mark_is (codes ";")) (codes "[") refl) tt front rest s,
      ))

  pub member_is : IsGrammar (member_at n) (member n) Any
  unfolding member_at
  member_is =
      mapped_is member_of (member n) (both_is (type_is n) declared_is (λ ds front rest s may. declared_closes ds front rest s)) (λ x ks s.
      s) (λ m ks s. ((m.of, m.declarators), refl, s))

  abbrev is_member : TokenKind → Bool
  is_member k = word_is (codes "sequence") k || (word_is (codes "string") k || is_plain 0 k)

  leads_member : Leads (member n) is_member
  leads_member m ks s = leads_both declared (leads_type n) (m.of, m.declarators) ks s

  members_is : IsGrammar (many is_open (member_at n)) (each (member n)) (λ rest. is_open rest ≡ false)
  members_is = until_is (codes "}") member_is leads_member (apart_mark is_member (codes "}") refl)

  pub closed : (front rest : List Token) → mark (codes "}") (kinds front) → is_open (front ++ rest) ≡ false
  closed front rest s = not_other (mark_is (codes "}")) (front ++ rest) (begins_so (leads_mark (codes "}")) tt front rest s)

  pub structure_is : IsGrammar (structure_at n) (structure n) Any
  unfolding structure_at
  structure_is = mapped_is structure_of (structure n)
      (after_is (word_reads (codes "struct"))
      (both_is identifier_is (after_is (mark_reads (codes "{")) (before_is (some_is members_is) (mark_reads (codes "}")) closed))
      (λ b front rest t may. tt)))
      (λ x ks s. s) (λ d ks s. ((d.name, d.members), refl, s))

  pub leads_structure : Leads (structure n) (word_is (codes "struct"))
  leads_structure d ks s =
      leads_after
      (λ (x : Struct).
      identifier x.name & (mark (codes "{") & (some (member n) x.members & mark (codes "}")))) (leads_word (codes "struct")) d ks s

  pub exception_is : IsGrammar (exception_at n) (exception n) Any
  unfolding exception_at
  exception_is = mapped_is exception_of (exception n)
      (after_is (word_reads (codes "exception"))
      (both_is identifier_is (after_is (mark_reads (codes "{")) (before_is members_is (mark_reads (codes "}")) closed))
      (λ b front rest t may. tt)))
      (λ x ks s. s) (λ d ks s. ((d.name, d.members), refl, s))

  pub leads_exception : Leads (exception n) (word_is (codes "exception"))
  leads_exception d ks s =
      leads_after
      (λ (x : Exception).
      identifier x.name & (mark (codes "{") & (each (member n) x.members & mark (codes "}")))) (leads_word (codes "exception")) d ks s

pub enumeration_is : IsGrammar enumeration_at enumeration Any
unfolding enumeration_at
enumeration_is = mapped_is enumeration_of enumeration
    (after_is (word_reads (codes "enum"))
    (both_is identifier_is
    (after_is (mark_reads (codes "{")) (before_is (joined_is (codes ",") identifier_is (λ ts h. tt)) (mark_reads (codes "}"))
    (λ front rest s. (
      begins_not (mark_is (codes ",")) (leads_mark (codes "}")) (apart_mark (mark_is (codes "}")) (codes ",") refl) tt front rest s,
      tt,
    )))) (λ b front rest t may. tt)))
    (λ x ks s. s) (λ d ks s. ((d.name, d.items), refl, s))

pub leads_enumeration : Leads enumeration (word_is (codes "enum"))
leads_enumeration d ks s =
    leads_after
    (λ (x : Enum).
    identifier x.name & (mark (codes "{") & (joined (codes ",") identifier x.items & mark (codes "}")))) (leads_word (codes "enum")) d ks
    s

-- ---- one tree

pub one_structure_only : (n : ℕ) (a b : Struct) (ts : List Token) → structure n a (kinds ts) → structure n b (kinds ts) → a ≡ b
one_structure_only n = one_tree (structure_is n) tt

pub one_exception_only : (n : ℕ) (a b : Exception) (ts : List Token) → exception n a (kinds ts) → exception n b (kinds ts) → a ≡ b
one_exception_only n = one_tree (exception_is n) tt

pub one_enumeration_only : (a b : Enum) (ts : List Token) → enumeration a (kinds ts) → enumeration b (kinds ts) → a ≡ b
one_enumeration_only = one_tree enumeration_is tt
