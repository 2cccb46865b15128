-- Unions: what is read is what is spelled.
use Rattle.std.proofs.Common.{◌≡◌, ◌⊎◌, inl, inr, ℕ, ◌-◌, List, ◌++◌, Option, false, refl}
use Rattle.std.specs.Prelude.{codes, [], ◌∷◌}
use Rattle.idl_lex.specs.declared.kinds.Token.{Token}
use Rattle.idl_lex.specs.declared.kinds.TokenKind.{TokenKind}
use Rattle.idl_read.specs.Reading.{mark_is, word_is, many}
use Rattle.idl_read.specs.Grammar.{Text, word, mark, ◌&◌, each, some, one_of, kinds, IsGrammar, Leads, Any}
use Rattle.idl_read.proofs.Grammars.{mapped_is, both_is, many_is}
use Rattle.idl_read.proofs.Leaves.{word_reads, mark_reads, apart_or, apart_word, apart_mark, leads_word, leads_mark, leads_both, leads_either, begins_so, begins_not}
use Rattle.idl_read.proofs.Productions.{weaker, after_is, before_is, leads_after, leads_by, unit_right_back}
use Rattle.idl_read.proofs.Lists.{until_is, some_is, leads_some}
use Rattle.idl_exprs.specs.Trees.{Tree}
use Rattle.idl_exprs.specs.Spelling.{identifier, expression}
use Rattle.idl_exprs.proofs.LeavesRead.{identifier_is}
use Rattle.idl_exprs.specs.declared.languages.Language.TheVariants.{Corba}
use Rattle.idl_exprs.proofs.Ending.{before_mark}
use Rattle.idl_exprs.proofs.ExpressionsRead.{expression_is}
use Rattle.corba_decls.specs.declared.type_tree.Base.{Base}
use Rattle.corba_decls.proofs.BasesRead.{Closes}
use Rattle.corba_decls.proofs.SequencesRead.{whole, type_is, is_type}
use Rattle.corba_decls.specs.declared.member_tree.Declarator.{Declarator}
use Rattle.corba_decls.specs.MemberSpelling.{declarator}
use Rattle.idl_exprs.specs.Readers.{is_open}
use Rattle.corba_decls.specs.MemberReaders.{has_dimension}
use Rattle.corba_decls.proofs.MembersRead.{leads_type, declarator_is, declared_closes, closed}
use Rattle.corba_decls.specs.declared.decl_tree.Label.{Label}
use Rattle.corba_decls.specs.declared.decl_tree.Label.TheVariants as L
use Rattle.corba_decls.specs.declared.decl_tree.Case.{Case}
use Rattle.corba_decls.specs.declared.decl_tree.Union.{Union as UnionDef}
use Rattle.corba_decls.specs.DeclSpelling.{tag, label, case, union}
use Rattle.corba_decls.specs.DeclReaders.{label_of, label_at, is_label, has_label, case_of, case_at, union_of, union_at}
use Rattle.corba_decls.proofs.TagsRead.{led_or_is, NumberMay, tag_is}

module _ (n : ℕ) where
  -- ---- labels

  abbrev case_label : Tree → Text
  case_label e = word (codes "case") & (expression n e & mark (codes ":"))

  abbrev default_label : Unit {0} → Text
  default_label _ = word (codes "default") & mark (codes ":")

  leads_case_label : Leads case_label (word_is (codes "case"))
  leads_case_label = leads_after (λ e. expression n e & mark (codes ":")) (leads_word (codes "case"))

  leads_default_label : Leads default_label (word_is (codes "default"))
  leads_default_label = leads_after (λ _. mark (codes ":")) (leads_word (codes "default"))

  abbrev label_text : Tree ⊎ Unit {0} → Text
  label_text = one_of case_label default_label

  label_forth : (x : Tree ⊎ Unit {0}) (ks : List TokenKind) → label_text x ks → label n (label_of x) ks
  label_forth (inl e) ks s = s
  label_forth (inr _) ks s = s

  label_back : (l : Label) (ks : List TokenKind) → label n l ks → (x : Tree ⊎ Unit {0}) × (label_of x ≡ l) × label_text x ks
  label_back (L.Case e) ks s = (inl e, refl, s)
  label_back L.Default ks s = (inr tt, refl, s)

  label_is : IsGrammar (label_at n) (label n) Any
  unfolding label_at
  label_is = mapped_is label_of (label n)
      (led_or_is (codes "case")
      (after_is (word_reads (codes "case"))
      (before_is (expression_is n false) (mark_reads (codes ":")) (before_mark Corba (codes ":") refl refl)))
      (after_is (word_reads (codes "default")) (mark_reads (codes ":"))) leads_case_label leads_default_label refl)
      label_forth label_back

  leads_label : Leads (label n) is_label
  leads_label = leads_by label_of label_back (leads_either leads_case_label leads_default_label)

  labels_is : IsGrammar (many has_label (label_at n)) (each (label n)) (λ rest. has_label rest ≡ false)
  labels_is = weaker
      (many_is has_label label_is
      (record { ends = refl; begins = λ l front rest s. begins_so leads_label l front rest s; goes_on = λ ts h. tt }))
      (λ rest may. (may, tt))

  -- ---- cases

  abbrev named : Declarator → Text
  named d = declarator n d & mark (codes ";")

  abbrev element : (List (Option Tree) × Base) × Declarator → Text
  element x = whole n x.0 & named x.1

  no_dimension : (front rest : List Token) → mark (codes ";") (kinds front) → has_dimension (front ++ rest) ≡ false
  no_dimension front rest s = begins_not (mark_is (codes "[")) (leads_mark (codes ";"))
      (apart_mark (mark_is (codes ";")) (codes "[") refl) tt front rest s

  -- one declarator is a list of them
  named_closes : (d : Declarator) (front rest : List Token) → named d (kinds front) → Closes (front ++ rest)
  named_closes d front rest s = declared_closes n (d ∷ []) front rest (s.0, s.1, s.2, unit_right_back (declarator n d) s.0 s.3, s.4)

  no_label : (x : (List (Option Tree) × Base) × Declarator) (front rest : List Token) → element x (kinds front)
      → has_label (front ++ rest) ≡ false
  no_label x front rest s = begins_not is_label (leads_both named (leads_type n))
      (apart_or is_type (word_is (codes "case")) (word_is (codes "default")) (apart_word is_type (codes "case") refl)
      (apart_word is_type (codes "default") refl)) x front rest s

  case_is : IsGrammar (case_at n) (case n) Any
  unfolding case_at
  case_is = mapped_is case_of (case n)
      (both_is (some_is labels_is) (both_is (type_is n) (before_is (declarator_is n) (mark_reads (codes ";")) no_dimension)
      (λ d front rest s may. named_closes d front rest s)) (λ x front rest s may. no_label x front rest s))
      (λ x ks s. s) (λ c ks s. ((c.labels, (c.of, c.declarator)), refl, s))

  leads_case : Leads (case n) is_label
  leads_case c ks s = leads_both element (leads_some leads_label) (c.labels, (c.of, c.declarator)) ks s

  cases_is : IsGrammar (many is_open (case_at n)) (each (case n)) (λ rest. is_open rest ≡ false)
  cases_is = until_is (codes "}") case_is leads_case (apart_mark is_label (codes "}") refl)

  -- ---- unions

  abbrev body : List Case → Text
  body cs = mark (codes ")") & (mark (codes "{") & (some (case n) cs & mark (codes "}")))

  leads_body : Leads body (mark_is (codes ")"))
  leads_body = leads_after (λ cs. mark (codes "{") & (some (case n) cs & mark (codes "}"))) (leads_mark (codes ")"))

  after_tag : (cs : List Case) (front rest : List Token) → body cs (kinds front) → NumberMay (front ++ rest)
  after_tag cs front rest s = (
    begins_not (word_is (codes "long")) leads_body (apart_word (mark_is (codes ")")) (codes "long") refl) cs front rest s,
    begins_not (mark_is (codes "::")) leads_body (apart_mark (mark_is (codes ")")) (codes "::") refl) cs front rest s,
  )

  pub union_is : IsGrammar (union_at n) (union n) Any
  unfolding union_at
  union_is = mapped_is union_of (union n)
      (after_is (word_reads (codes "union"))
      (both_is identifier_is (after_is (word_reads (codes "switch")) (after_is (mark_reads (codes "("))
      (both_is (tag_is (n - 1))
      (after_is (mark_reads (codes ")"))
      (after_is (mark_reads (codes "{")) (before_is (some_is cases_is) (mark_reads (codes "}")) (closed n))))
      (λ cs front rest s may. after_tag cs front rest s)))) (λ b front rest t may. tt)))
      (λ x ks s. s) (λ u ks s. ((u.name, (u.tag, u.cases)), refl, s))

  pub leads_union : Leads (union n) (word_is (codes "union"))
  leads_union u ks s = leads_after
      (λ (x : UnionDef).
      identifier x.name & (word (codes "switch") & (mark (codes "(") & (tag (n - 1) x.tag & body x.cases))))
      (leads_word (codes "union")) u ks s
