-- Operations: what is read is what is spelled.
use Rattle.std.proofs.Common.{◌≡◌, ◌⊎◌, inl, inr, ℕ, ◌-◌, List, ◌++◌, Option, Some, None, Bool, false, ◌||◌, refl, sym, ap, subst, ◌∙◌, append_assoc}
use Rattle.std.specs.Prelude.{codes}
use Rattle.idl_lex.specs.declared.kinds.Token.{Token}
use Rattle.idl_lex.specs.declared.kinds.TokenKind.{TokenKind}
use Rattle.idl_lex.specs.declared.kinds.TokenKind.TheVariants as K
use Rattle.idl_read.specs.Reading.{mark_is, word_is, token_at, word_in, begins_with, begins_other}
use Rattle.idl_read.specs.Grammar.{Text, mark, word, ◌&◌, one_of, joined, kinds, IsGrammar, Leads, Any}
use Rattle.idl_read.proofs.Grammars.{mapped_is, both_is, either_is, parted, one_tree}
use Rattle.idl_read.proofs.Leaves.{word_reads, mark_reads, mark_named, leads_word, leads_mark, Apart, apart_word, apart_mark, leads_both, leads_either, begins_so, begins_not, begins_else}
use Rattle.idl_read.proofs.Productions.{weaker, after_is, before_is, leads_after, leads_when, leads_by, words_are, leads_words, not_other, word_flag_reads}
use Rattle.idl_read.proofs.Lists.{turns, joined_is, leads_joined}
use Rattle.idl_exprs.specs.Trees.{Tree}
use Rattle.idl_exprs.specs.declared.tree.Identifier.{Identifier}
use Rattle.idl_exprs.specs.Spelling.{identifier}
use Rattle.idl_exprs.specs.Readers.{is_joint}
use Rattle.idl_exprs.proofs.LeavesRead.{NameMay, identifier_is}
use Rattle.corba_decls.specs.declared.type_tree.Base.{Base}
use Rattle.corba_decls.proofs.BasesRead.{Closes}
use Rattle.corba_decls.proofs.SequencesRead.{type_is, is_type}
use Rattle.corba_syntax.specs.declared.operation_tree.Reference.{Reference}
use Rattle.corba_syntax.specs.declared.operation_tree.Direction.{Direction}
use Rattle.corba_syntax.specs.declared.operation_tree.Direction.TheVariants as D
use Rattle.corba_syntax.specs.declared.operation_tree.Parameter.{Parameter}
use Rattle.corba_syntax.specs.declared.operation_tree.Operation.{Operation}
use Rattle.corba_syntax.specs.OperationSpelling.{if_any, type_text, reference, direction_spell, parameter, result, parameters, raises, operation}
use Rattle.corba_syntax.specs.OperationReaders.{direction_words, direction_in, is_direction, parameter_of, parameter_at, parameters_at, raises_at, result_of, result_at, operation_of, operation_at}
use Rattle.corba_syntax.proofs.PartsRead.{any_is, reference_is}
use Rattle.corba_decls.proofs.MembersRead.{leads_type, after_name, apart_comma}

-- ---- parameters

direction_back : (d : Direction) → word_in direction_words (K.Name (direction_spell d)) ≡ Some d
direction_back D.In = refl
direction_back D.Out = refl
direction_back D.InOut = refl

direction_is : IsGrammar (token_at direction_in) (λ d. word (direction_spell d)) Any
direction_is = words_are direction_words direction_spell (refl, (refl, (refl, tt))) direction_back

apart_open : Apart (mark_is (codes "(")) is_joint
apart_open k e = let is = mark_named (codes "(") k e in rw is refl

apart_close : Apart (mark_is (codes ")")) is_joint
apart_close k e = let is = mark_named (codes ")") k e in rw is refl

-- nothing that goes on with an expression
abbrev ParameterMay : List Token → Type 0
ParameterMay rest = begins_with is_joint rest ≡ false

-- a `)`, and so no parameter
abbrev ClosedMay : List Token → Type 0
ClosedMay rest = (begins_other (mark_is (codes ")")) rest ≡ false) × ((begins_with (mark_is (codes ",")) rest ≡ false) × ParameterMay rest)

closing_bracket : (front rest : List Token) → mark (codes ")") (kinds front) → ClosedMay (front ++ rest)
closing_bracket front rest s = (
  not_other (mark_is (codes ")")) (front ++ rest) (begins_so (leads_mark (codes ")")) tt front rest s),
  (
    begins_not (mark_is (codes ",")) (leads_mark (codes ")")) (apart_mark (mark_is (codes ")")) (codes ",") refl) tt front rest s,
    begins_not is_joint (leads_mark (codes ")")) apart_close tt front rest s,
  ),
)

closing_names : (front rest : List Token) → mark (codes ")") (kinds front)
    → (begins_with (mark_is (codes ",")) (front ++ rest) ≡ false) × NameMay (front ++ rest)
closing_names front rest s = (
  begins_not (mark_is (codes ",")) (leads_mark (codes ")")) (apart_mark (mark_is (codes ")")) (codes ",") refl) tt front rest s,
  begins_not (mark_is (codes "::")) (leads_mark (codes ")")) (apart_mark (mark_is (codes ")")) (codes "::") refl) tt front rest s,
)

-- no exceptions follow an operation
abbrev pub OperationMay : List Token → Type 0
OperationMay rest = begins_with (word_is (codes "raises")) rest ≡ false

module _ (n : ℕ) where
  abbrev typed_name : (List (Option Tree) × Base) × Identifier → Text
  typed_name x = type_text n x.0 & identifier x.1

  parameter_is : IsGrammar (parameter_at n) (parameter n) ParameterMay
  unfolding parameter_at
  parameter_is = mapped_is parameter_of (parameter n)
      (both_is direction_is
      (both_is (type_is n) (weaker {May' = ParameterMay} identifier_is (λ rest may. tt)) (λ i front rest s may.
      after_name i front rest s may)) (λ b front rest t may. tt))
      (λ x ks s. s) (λ p ks s. ((p.direction, (p.of, p.name)), refl, s))

  leads_parameter : Leads (parameter n) is_direction
  leads_parameter p ks s = leads_both typed_name (leads_words direction_words direction_spell direction_back)
      (p.direction, (p.of, p.name)) ks s

  parameters_is : IsGrammar (parameters_at n) (parameters n) Any
  unfolding parameters_at
  parameters_is = after_is (mark_reads (codes "(")) (before_is
      (any_is {May = ClosedMay} (begins_other (mark_is (codes ")")))
      (weaker (joined_is (codes ",") parameter_is (λ ts h. turns (mark_is (codes ",")) is_joint apart_comma ts h)) (λ rest may. may.1))
      (λ ks s. s)
      (λ ps front rest s may.
      begins_else (mark_is (codes ")")) (leads_joined (codes ",") leads_parameter) (apart_mark is_direction (codes ")") refl) ps front
      rest s)
      (λ rest may. may.0))
      (mark_reads (codes ")")) closing_bracket)

  -- ---- exceptions

  abbrev names_text : List Reference → Text
  names_text rs = mark (codes "(") & joined (codes ",") (reference n) rs & mark (codes ")")

  raises_is : IsGrammar (raises_at n) (if_any (raises n)) OperationMay
  unfolding raises_at
  raises_is = any_is {May = OperationMay} (begins_with (word_is (codes "raises")))
      (weaker
      (after_is (word_reads (codes "raises")) (after_is (mark_reads (codes "(")) (before_is
      (joined_is (codes ",") (reference_is n)
      (λ ts h. turns (mark_is (codes ",")) (mark_is (codes "::")) (apart_mark (mark_is (codes ",")) (codes "::") refl) ts h))
      (mark_reads (codes ")")) closing_names)))
      (λ rest may. tt))
      (λ ks s. s.4.4.3)
      (λ rs front rest s may. begins_so (leads_after names_text (leads_word (codes "raises"))) rs front rest s)
      (λ rest may. may)

  -- ---- results

  abbrev result_text : Unit {0} ⊎ (List (Option Tree) × Base) → Text
  result_text = one_of (λ _. word (codes "void")) (type_text n)

  result_forth : (x : Unit {0} ⊎ (List (Option Tree) × Base)) (ks : List TokenKind) → result_text x ks → result n (result_of x) ks
  result_forth (inl _) ks s = s
  result_forth (inr t) ks s = s

  result_back : (r : Option (List (Option Tree) × Base)) (ks : List TokenKind) → result n r ks
      → (x : Unit {0} ⊎ (List (Option Tree) × Base)) × (result_of x ≡ r) × result_text x ks
  result_back None ks s = (inl tt, refl, s)
  result_back (Some t) ks s = (inr t, refl, s)

  result_is : IsGrammar (result_at n) (result n) Closes
  unfolding result_at
  result_is = mapped_is result_of (result n)
      (either_is (begins_with (word_is (codes "void"))) (weaker (word_reads (codes "void")) (λ rest may. tt)) (type_is n)
      (λ a front rest s may. begins_so (leads_word (codes "void")) a front rest s)
      (λ t front rest s may. begins_not (word_is (codes "void")) (leads_type n) (apart_word is_type (codes "void") refl) t front rest s))
      result_forth result_back

  abbrev is_result : TokenKind → Bool
  is_result k = word_is (codes "void") k || is_type k

  leads_result : Leads (result n) is_result
  leads_result = leads_by result_of result_back (leads_either (leads_word (codes "void")) (leads_type n))

-- whether a token begins an operation
abbrev pub is_operation : TokenKind → Bool
is_operation k = word_is (codes "oneway") k || (word_is (codes "void") k || is_type k)

module _ (n : ℕ) where
  abbrev tail_text : List Parameter × List Reference → Text
  tail_text x = parameters (n - 1) x.0 & if_any (raises (n - 1)) x.1

  leads_tail : Leads tail_text (mark_is (codes "("))
  leads_tail =
      leads_both (if_any (raises (n - 1)))
      (leads_after (λ ps. if_any (joined (codes ",") (parameter (n - 1))) ps & mark (codes ")")) (leads_mark (codes "(")))

  abbrev named_text : Identifier × (List Parameter × List Reference) → Text
  named_text x = identifier x.0 & tail_text x.1

  named_closes : (x : Identifier × (List Parameter × List Reference)) (front rest : List Token) → named_text x (kinds front)
      → Closes (front ++ rest)
  named_closes x front rest s =
      let p = parted front s.0 s.1 s.2 in
      let others = begins_not is_joint leads_tail apart_open x.1 p.1 rest (subst (tail_text x.1) (sym p.4) s.4) in
      let here = after_name x.0 p.0 (p.1 ++ rest) (subst (identifier x.0) (sym p.3) s.3) others in
      subst Closes (sym (ap (λ z. z ++ rest) p.2 ∙ append_assoc p.0 p.1 rest)) here

  abbrev result_named : Option (List (Option Tree) × Base) × (Identifier × (List Parameter × List Reference)) → Text
  result_named x = result n x.0 & named_text x.1

  leads_result_named : Leads result_named (is_result n)
  leads_result_named = leads_both named_text (leads_result n)

  pub operation_is : IsGrammar (operation_at n) (operation n) OperationMay
  unfolding operation_at
  operation_is = mapped_is operation_of (operation n)
      (both_is (word_flag_reads (codes "oneway"))
      (both_is (result_is n)
      (both_is identifier_is (both_is (parameters_is (n - 1)) (raises_is (n - 1)) (λ b front rest t may. tt)) (λ b front rest t may. tt))
      (λ x front rest s may. named_closes x front rest s))
      (λ x front rest s may.
      begins_not (word_is (codes "oneway")) leads_result_named (apart_word (is_result n) (codes "oneway") refl) x front rest s))
      (λ x ks s. s) (λ o ks s. ((o.oneway, (o.result, (o.name, (o.parameters, o.raises)))), refl, s))

  pub leads_operation : Leads (operation n) is_operation
  leads_operation o ks s =
      leads_when {P = word (codes "oneway")} (leads_word (codes "oneway")) leads_result_named
      (o.oneway, (o.result, (o.name, (o.parameters, o.raises)))) ks s

pub one_operation_only : (n : ℕ) (a b : Operation) (ts : List Token) → operation n a (kinds ts) → operation n b (kinds ts) → a ≡ b
one_operation_only n = one_tree (operation_is n) refl
