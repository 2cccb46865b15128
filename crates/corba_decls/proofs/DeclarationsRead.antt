-- Typedefs, constants and declarations: what is read is what is spelled.
use Rattle.std.proofs.Common.{◌≡◌, ◌⊎◌, inl, inr, ℕ, zero, suc, List, [], ◌∷◌, ◌++◌, Option, Bool, true, false, ◌||◌, refl, sym, subst, ◌∙◌}
use Rattle.std.specs.Prelude.{codes}
use Rattle.idl_lex.specs.declared.kinds.Token.{Token}
use Rattle.idl_lex.specs.declared.kinds.TokenKind.{TokenKind}
use Rattle.idl_lex.specs.declared.kinds.TokenKind.TheVariants as K
use Rattle.idl_read.specs.Reading.{mark_is, word_is, begins_with, joined_at}
use Rattle.idl_read.specs.Grammar.{Text, mark, ◌&◌, joined, one_of, kinds, IsGrammar, Leads}
use Rattle.idl_read.proofs.Grammars.{read_is, mapped_is, both_is}
use Rattle.idl_read.proofs.Leaves.{word_reads, mark_reads, mark_named, apart_word, apart_mark, leads_word, leads_both, leads_either, begins_not}
use Rattle.idl_read.proofs.Productions.{weaker, after_is, leads_after, leads_by}
use Rattle.idl_read.proofs.Lists.{turns, joined_is}
use Rattle.idl_exprs.specs.Trees.{Tree}
use Rattle.idl_exprs.specs.declared.tree.Identifier.{Identifier}
use Rattle.idl_exprs.specs.Spelling.{identifier, expression}
use Rattle.idl_exprs.specs.Readers.{is_identifier, is_joint}
use Rattle.idl_exprs.proofs.LeavesRead.{identifier_is, leads_identifier}
use Rattle.idl_exprs.proofs.Again.{May}
use Rattle.idl_exprs.proofs.ExpressionsRead.{expression_is, with_lines}
use Rattle.corba_decls.specs.declared.type_tree.Base.{Base}
use Rattle.corba_decls.proofs.BasesRead.{Closes}
use Rattle.corba_decls.proofs.SequencesRead.{whole, type_is, is_type}
use Rattle.corba_decls.specs.declared.member_tree.Struct.{Struct}
use Rattle.corba_decls.specs.declared.member_tree.Exception.{Exception}
use Rattle.corba_decls.specs.declared.member_tree.Enum.{Enum}
use Rattle.corba_decls.specs.MemberSpelling.{declarator, structure, exception, enumeration}
use Rattle.corba_decls.specs.MemberReaders.{declarator_at}
use Rattle.corba_decls.proofs.MembersRead.{apart_semicolon, leads_type, declarator_is, declarators_close, structure_is, leads_structure, exception_is, leads_exception, enumeration_is, leads_enumeration}
use Rattle.corba_decls.specs.declared.decl_tree.Union.{Union as UnionDef}
use Rattle.corba_decls.specs.declared.decl_tree.Aliased.{Aliased}
use Rattle.corba_decls.specs.declared.decl_tree.Aliased.TheVariants as A
use Rattle.corba_decls.specs.declared.decl_tree.Typedef.{Typedef}
use Rattle.corba_decls.specs.declared.decl_tree.Constant.{Constant}
use Rattle.corba_decls.specs.declared.decl_tree.Declaration.{Declaration}
use Rattle.corba_decls.specs.declared.decl_tree.Declaration.TheVariants as D
use Rattle.corba_decls.specs.DeclSpelling.{union, aliased, typedef, constant_type, constant, declared, declaration}
use Rattle.corba_decls.specs.DeclReaders.{aliased_of, aliased_at, typedef_of, typedef_at, constant_of, constant_at, declared_of, declared_at, declaration_at, is_declaration}
use Rattle.corba_decls.proofs.TagsRead.{led_or_is, NumberMay, constant_type_is}
use Rattle.corba_decls.proofs.UnionsRead.{union_is, leads_union}

-- a `;` follows it
abbrev pub Ended : List Token → Type 0
Ended rest = begins_with (mark_is (codes ";")) rest ≡ true

-- an expression ends before `;`
before_end : (rest : List Token) → Ended rest → May false 6 rest
before_end [] e = absurd cc
before_end (t ∷ ts) e = let is =
    mark_named (codes ";") t.kind e in record { name = rw is refl; no_operator = λ d lt. rw is refl; joint = λ yes. absurd cc }

module _ (n : ℕ) where
  -- ---- typedefs

  abbrev Written : Type 0
  Written = List (Option Tree) × Base

  abbrev enum_or : Enum ⊎ Written → Text
  enum_or = one_of enumeration (whole n)

  abbrev is_enum_or : TokenKind → Bool
  is_enum_or k = word_is (codes "enum") k || is_type k

  leads_enum_or : Leads enum_or is_enum_or
  leads_enum_or = leads_either leads_enumeration (leads_type n)

  abbrev union_or : UnionDef ⊎ Enum ⊎ Written → Text
  union_or = one_of (union n) enum_or

  leads_union_or : Leads union_or (λ k. word_is (codes "union") k || is_enum_or k)
  leads_union_or = leads_either (leads_union n) leads_enum_or

  abbrev aliased_text : Struct ⊎ UnionDef ⊎ Enum ⊎ Written → Text
  aliased_text = one_of (structure n) union_or

  aliased_forth : (x : Struct ⊎ UnionDef ⊎ Enum ⊎ Written) (ks : List TokenKind) → aliased_text x ks → aliased n (aliased_of x) ks
  aliased_forth (inl _) ks s = s
  aliased_forth (inr (inl _)) ks s = s
  aliased_forth (inr (inr (inl _))) ks s = s
  aliased_forth (inr (inr (inr _))) ks s = s

  aliased_back : (a : Aliased) (ks : List TokenKind) → aliased n a ks
      → (x : Struct ⊎ UnionDef ⊎ Enum ⊎ Written) × (aliased_of x ≡ a) × aliased_text x ks
  aliased_back (A.Struct d) ks s = (inl d, refl, s)
  aliased_back (A.Union u) ks s = (inr (inl u), refl, s)
  aliased_back (A.Enum e) ks s = (inr (inr (inl e)), refl, s)
  aliased_back (A.Type t) ks s = (inr (inr (inr t)), refl, s)

  aliased_is : IsGrammar (aliased_at n) (aliased n) Closes
  unfolding aliased_at
  aliased_is = mapped_is aliased_of (aliased n)
      (led_or_is (codes "struct") (weaker (structure_is n) (λ rest may. tt))
      (led_or_is (codes "union") (weaker (union_is n) (λ rest may. tt))
      (led_or_is (codes "enum") (weaker enumeration_is (λ rest may. tt)) (type_is n) leads_enumeration (leads_type n) refl)
      (leads_union n) leads_enum_or refl)
      (leads_structure n) leads_union_or refl)
      aliased_forth aliased_back

  joint_ended : (rest : List Token) → Ended rest → begins_with is_joint rest ≡ false
  joint_ended rest e = turns (mark_is (codes ";")) is_joint apart_semicolon rest e

  declarators_is : IsGrammar (joined_at (codes ",") (declarator_at n)) (joined (codes ",") (declarator n)) Ended
  declarators_is = weaker
      (joined_is (codes ",") (declarator_is n)
      (λ ts h. turns (mark_is (codes ",")) (mark_is (codes "[")) (apart_mark (mark_is (codes ",")) (codes "[") refl) ts h))
      (λ rest e. (
        turns (mark_is (codes ";")) (mark_is (codes ",")) (apart_mark (mark_is (codes ";")) (codes ",") refl) rest e,
        turns (mark_is (codes ";")) (mark_is (codes "[")) (apart_mark (mark_is (codes ";")) (codes "[") refl) rest e,
      ))

  typedef_is : IsGrammar (typedef_at n) (typedef n) Ended
  unfolding typedef_at
  typedef_is = mapped_is typedef_of (typedef n)
      (after_is (word_reads (codes "typedef"))
      (both_is aliased_is declarators_is (λ ds front rest s e. declarators_close n ds front rest s (joint_ended rest e))))
      (λ x ks s. s) (λ t ks s. ((t.of, t.declarators), refl, s))

  leads_typedef : Leads (typedef n) (word_is (codes "typedef"))
  leads_typedef t ks s =
      leads_after
      (λ (x : Typedef). aliased n x.of & joined (codes ",") (declarator n) x.declarators) (leads_word (codes "typedef")) t ks s

  -- ---- constants

  abbrev valued : Identifier × Tree → Text
  valued x = identifier x.0 & (mark (codes "=") & expression n x.1)

  leads_valued : Leads valued is_identifier
  leads_valued = leads_both (λ e. mark (codes "=") & expression n e) leads_identifier

  after_constant_type : (x : Identifier × Tree) (front rest : List Token) → valued x (kinds front) → NumberMay (front ++ rest)
  after_constant_type x front rest s = (
    begins_not (word_is (codes "long")) leads_valued (apart_word is_identifier (codes "long") refl) x front rest s,
    begins_not (mark_is (codes "::")) leads_valued (apart_mark is_identifier (codes "::") refl) x front rest s,
  )

  constant_is : IsGrammar (constant_at n) (constant n) Ended
  unfolding constant_at
  constant_is = mapped_is constant_of (constant n)
      (after_is (word_reads (codes "const")) (both_is constant_type_is
      (both_is identifier_is (after_is (mark_reads (codes "=")) (weaker (expression_is n false) before_end)) (λ e front rest s may. tt))
      (λ x front rest s may. after_constant_type x front rest s)))
      (λ x ks s. s) (λ c ks s. ((c.of, (c.name, c.value)), refl, s))

  leads_constant : Leads (constant n) (word_is (codes "const"))
  leads_constant c ks s = leads_after (λ (x : Constant). constant_type x.of & valued (x.name, x.value)) (leads_word (codes "const")) c ks s

  -- ---- declarations

  abbrev const_or : Constant ⊎ Exception → Text
  const_or = one_of (constant n) (exception n)

  abbrev is_const_or : TokenKind → Bool
  is_const_or k = word_is (codes "const") k || word_is (codes "exception") k

  leads_const_or : Leads const_or is_const_or
  leads_const_or = leads_either leads_constant (leads_exception n)

  abbrev enumeration_or : Enum ⊎ Constant ⊎ Exception → Text
  enumeration_or = one_of enumeration const_or

  abbrev is_enumeration_or : TokenKind → Bool
  is_enumeration_or k = word_is (codes "enum") k || is_const_or k

  leads_enumeration_or : Leads enumeration_or is_enumeration_or
  leads_enumeration_or = leads_either leads_enumeration leads_const_or

  abbrev united_or : UnionDef ⊎ Enum ⊎ Constant ⊎ Exception → Text
  united_or = one_of (union n) enumeration_or

  abbrev is_united_or : TokenKind → Bool
  is_united_or k = word_is (codes "union") k || is_enumeration_or k

  leads_united_or : Leads united_or is_united_or
  leads_united_or = leads_either (leads_union n) leads_enumeration_or

  abbrev struct_or : Struct ⊎ UnionDef ⊎ Enum ⊎ Constant ⊎ Exception → Text
  struct_or = one_of (structure n) united_or

  abbrev is_struct_or : TokenKind → Bool
  is_struct_or k = word_is (codes "struct") k || is_united_or k

  leads_struct_or : Leads struct_or is_struct_or
  leads_struct_or = leads_either (leads_structure n) leads_united_or

  abbrev declared_text : Typedef ⊎ Struct ⊎ UnionDef ⊎ Enum ⊎ Constant ⊎ Exception → Text
  declared_text = one_of (typedef n) struct_or

  declared_forth : (x : Typedef ⊎ Struct ⊎ UnionDef ⊎ Enum ⊎ Constant ⊎ Exception) (ks : List TokenKind) → declared_text x ks
      → declared n (declared_of x) ks
  declared_forth (inl _) ks s = s
  declared_forth (inr (inl _)) ks s = s
  declared_forth (inr (inr (inl _))) ks s = s
  declared_forth (inr (inr (inr (inl _)))) ks s = s
  declared_forth (inr (inr (inr (inr (inl _))))) ks s = s
  declared_forth (inr (inr (inr (inr (inr _))))) ks s = s

  declared_back : (d : Declaration) (ks : List TokenKind) → declared n d ks
      → (x : Typedef ⊎ Struct ⊎ UnionDef ⊎ Enum ⊎ Constant ⊎ Exception) × (declared_of x ≡ d) × declared_text x ks
  declared_back (D.Typedef t) ks s = (inl t, refl, s)
  declared_back (D.Struct d) ks s = (inr (inl d), refl, s)
  declared_back (D.Union u) ks s = (inr (inr (inl u)), refl, s)
  declared_back (D.Enum e) ks s = (inr (inr (inr (inl e))), refl, s)
  declared_back (D.Constant c) ks s = (inr (inr (inr (inr (inl c)))), refl, s)
  declared_back (D.Exception e) ks s = (inr (inr (inr (inr (inr e)))), refl, s)

  declared_is : IsGrammar (declared_at n) (declared n) Ended
  unfolding declared_at
  declared_is = mapped_is declared_of (declared n)
      (led_or_is (codes "typedef") typedef_is
      (led_or_is (codes "struct") (weaker (structure_is n) (λ rest may. tt))
      (led_or_is (codes "union") (weaker (union_is n) (λ rest may. tt))
      (led_or_is (codes "enum") (weaker enumeration_is (λ rest may. tt))
      (led_or_is (codes "const") constant_is (weaker (exception_is n) (λ rest may. tt)) leads_constant (leads_exception n) refl)
      leads_enumeration leads_const_or refl)
      (leads_union n) leads_enumeration_or refl)
      (leads_structure n) leads_united_or refl)
      leads_typedef leads_struct_or refl)
      declared_forth declared_back

  leads_declared : Leads (declared n) is_declaration
  leads_declared = leads_by declared_of declared_back (leads_either leads_typedef leads_struct_or)

pub declaration_is : (n : ℕ) → IsGrammar (declaration_at n) (declaration n) Ended
declaration_is zero = record { found = λ ts x rest e. absurd cc; again = λ x front rest s may. absurd s }
declaration_is (suc n) =
    record {
      found = λ ts x rest e. (declared_is (suc n)).found ts x rest e;
      again = λ x front rest s may.
          (declared_is (suc n)).again x front rest s may;
    }

pub leads_declaration : (n : ℕ) → Leads (declaration n) is_declaration
leads_declaration zero d ks s = absurd s
leads_declaration (suc n) d ks s = leads_declared (suc n) d ks s

-- ---- one declaration

pub one_only : (n : ℕ) (a b : Declaration) (ks : List TokenKind) → declaration n a ks → declaration n b ks → a ≡ b
one_only n a b ks s t =
    let w = with_lines ks in
    let x = (declaration_is n).again a w.0 (record { kind = K.Mark (codes ";"); line = 1 } ∷ []) (subst (declaration n a) (sym w.1) s)
    refl in
    let y = (declaration_is n).again b w.0 (record { kind = K.Mark (codes ";"); line = 1 } ∷ []) (subst (declaration n b) (sym w.1) t)
    refl in
    (read_is a b _ _ (sym x ∙ y)).0
