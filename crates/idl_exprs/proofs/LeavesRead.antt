-- Identifiers, scoped names, literals and operators: what is read is what is spelled.
use Rattle.std.proofs.Common.{◌≡◌, ◌⊎◌, inl, inr, ℕ, ℤ, List, [], ◌∷◌, Some, None, Bool, true, false, ◌||◌, cond, refl, sym, ap, subst, ◌∙◌}
use Rattle.std.specs.Prelude.{codes, is_some}
use Rattle.std.specs.Str.{bytes_eq}
use Rattle.idl_lex.specs.declared.kinds.Token.{Token}
use Rattle.idl_lex.specs.declared.kinds.TokenKind.{TokenKind}
use Rattle.idl_lex.specs.declared.kinds.TokenKind.TheVariants as K
use Rattle.idl_read.specs.Reading.{mark_is, begins_with, token_at}
use Rattle.idl_read.specs.Grammar.{Text, mark, number, ◌&◌, one_of, when, joined, id, IsGrammar, Leads, Any}
use Rattle.idl_read.proofs.Grammars.{mapped_is, both_is, either_is}
use Rattle.idl_read.proofs.Leaves.{token_is, number_reads, same_bytes, id_reads, leads_id, leads_mark, leads_either, begins_so, begins_not, Apart, apart_mark}
use Rattle.idl_read.proofs.Productions.{weaker, flag_reads, leads_when, leads_by}
use Rattle.idl_read.proofs.Lists.{joined_is, leads_joined}
use Rattle.idl_const.specs.declared.tree.UnaryOp.{UnaryOp}
use Rattle.idl_const.specs.declared.tree.UnaryOp.TheVariants as U
use Rattle.idl_exprs.specs.declared.languages.Language.{Language}
use Rattle.idl_exprs.specs.declared.languages.Language.TheVariants.{Corba, Mig}
use Rattle.idl_exprs.specs.declared.tree.Identifier.{Identifier}
use Rattle.idl_exprs.specs.declared.tree.ScopedName.{ScopedName}
use Rattle.idl_exprs.specs.declared.tree.Leaf.{Leaf}
use Rattle.idl_exprs.specs.declared.tree.Leaf.TheVariants as L
use Rattle.idl_exprs.specs.Words.{corba_words}
use Rattle.idl_exprs.specs.Spelling.{identifier, scoped, leaf_text, number_text, leaf_in, unary_spell}
use Rattle.idl_exprs.specs.Readers.{is_identifier, identifier_of, identifier_at, scoped_of, scoped_at, truth_in, literal_in, is_literal, leaf_of, leaf_at, leaf_by, unary_of, unary_in, is_unary}

-- ---- names

identifier_back : (i : Identifier) (ks : List TokenKind) → identifier i ks → (n : List ℕ) × (identifier_of n ≡ i) × id corba_words n ks
identifier_back i ks s = (s.0, ap (λ z. record { name = z }) s.1, s.2)

pub identifier_is : IsGrammar identifier_at identifier Any
unfolding identifier_at
identifier_is = mapped_is identifier_of identifier (id_reads corba_words) (λ n ks s. (n, refl, s)) identifier_back

pub leads_identifier : Leads identifier is_identifier
leads_identifier = leads_by identifier_of identifier_back (leads_id corba_words)

-- no further `::` follows it
abbrev pub NameMay : List Token → Type 0
NameMay rest = begins_with (mark_is (codes "::")) rest ≡ false

abbrev scoped_text : Bool × List Identifier → Text
scoped_text x = when (mark (codes "::")) x.0 & joined (codes "::") identifier x.1

leads_parts : Leads (joined (codes "::") identifier) is_identifier
leads_parts = leads_joined (codes "::") leads_identifier

pub scoped_is : IsGrammar scoped_at scoped NameMay
unfolding scoped_at
scoped_is = mapped_is scoped_of scoped
    (both_is (flag_reads (codes "::")) (weaker (joined_is (codes "::") identifier_is (λ ts h. tt)) (λ rest may. (may, tt)))
    (λ parts front rest s may.
    begins_not (mark_is (codes "::")) leads_parts (apart_mark is_identifier (codes "::") refl) parts front rest s))
    (λ x ks s. s) (λ n ks s. ((n.absolute, n.parts), refl, s))

-- whether a token begins a scoped name
abbrev pub is_name : TokenKind → Bool
is_name k = mark_is (codes "::") k || is_identifier k

pub leads_scoped : Leads scoped is_name
leads_scoped =
    leads_by scoped_of
    (λ n ks s. ((n.absolute, n.parts), refl, s)) (leads_when {P = mark (codes "::")} (leads_mark (codes "::")) leads_parts)

-- ---- literals

-- the text of a literal: no name is one
abbrev pub literal_text : Leaf → Text
literal_text (L.Name n) ks = ⊥
literal_text l ks = leaf_text l ks

truth_forth : (n : List ℕ) (l : Leaf) → truth_in n ≡ Some l → literal_text l (K.Name n ∷ [])
truth_forth n l e = go (bytes_eq n (codes "TRUE")) (bytes_eq n (codes "FALSE")) refl refl e where
  go : (a b : Bool) → bytes_eq n (codes "TRUE") ≡ a → bytes_eq n (codes "FALSE") ≡ b
      → cond a (Some (L.Truth true)) (cond b (Some (L.Truth false)) None) ≡ Some l → literal_text l (K.Name n ∷ [])
  go true b h g q = let is : L.Truth true
      ≡ l = cc in subst (λ z. literal_text z (K.Name n ∷ [])) is (ap (λ z. K.Name z ∷ []) (same_bytes n (codes "TRUE") h))
  go false true h g q = let is : L.Truth false
      ≡ l = cc in subst (λ z. literal_text z (K.Name n ∷ [])) is (ap (λ z. K.Name z ∷ []) (same_bytes n (codes "FALSE") g))
  go false false h g q = absurd cc

literal_forth : (k : TokenKind) (l : Leaf) → literal_in k ≡ Some l → literal_text l (k ∷ [])
literal_forth (K.Number n) l e = let is : L.Number n ≡ l = cc in subst (λ z. literal_text z (K.Number n ∷ [])) is refl
literal_forth (K.Char c) l e = let is : L.Character c ≡ l = cc in subst (λ z. literal_text z (K.Char c ∷ [])) is refl
literal_forth (K.Text t) l e = let is : L.Text t ≡ l = cc in subst (λ z. literal_text z (K.Text t ∷ [])) is refl
literal_forth (K.Name n) l e = truth_forth n l e
literal_forth (K.FileName n) l e = absurd cc
literal_forth (K.Mark n) l e = absurd cc

literal_back : (l : Leaf) (ks : List TokenKind) → literal_text l ks → (k : TokenKind) × (ks ≡ k ∷ []) × (literal_in k ≡ Some l)
literal_back (L.Number n) ks s = (K.Number n, s, refl)
literal_back (L.Character c) ks s = (K.Char c, s, refl)
literal_back (L.Text t) ks s = (K.Text t, s, refl)
literal_back (L.Truth true) ks s = (K.Name (codes "TRUE"), s, refl)
literal_back (L.Truth false) ks s = (K.Name (codes "FALSE"), s, refl)
literal_back (L.Name n) ks s = absurd s

leads_literal : Leads literal_text is_literal
leads_literal l ks s = let b = literal_back l ks s in (b.0, [], b.1, ap is_some b.2)

apart_literal : Apart is_name is_literal
apart_literal (K.Number n) e = absurd cc
apart_literal (K.Char n) e = absurd cc
apart_literal (K.Text n) e = absurd cc
apart_literal (K.FileName n) e = refl
apart_literal (K.Mark n) e = refl
apart_literal (K.Name n) e = go (bytes_eq n (codes "TRUE")) (bytes_eq n (codes "FALSE")) refl refl where
  go : (a b : Bool) → bytes_eq n (codes "TRUE") ≡ a → bytes_eq n (codes "FALSE") ≡ b → is_some (truth_in n) ≡ false
  go true b h g =
      let no : true ≡ false = sym e ∙ ap (λ z. is_name (K.Name z)) (same_bytes n (codes "TRUE") h) in absurd cc
  go false true h g =
      let no : true ≡ false = sym e ∙ ap (λ z. is_name (K.Name z)) (same_bytes n (codes "FALSE") g) in absurd cc
  go false false h g = rw (h, g) refl

abbrev leaf_shape : Leaf ⊎ ScopedName → Text
leaf_shape = one_of literal_text scoped

leaf_forth : (x : Leaf ⊎ ScopedName) (ks : List TokenKind) → leaf_shape x ks → leaf_text (leaf_of x) ks
leaf_forth (inl (L.Number n)) ks s = s
leaf_forth (inl (L.Character n)) ks s = s
leaf_forth (inl (L.Text n)) ks s = s
leaf_forth (inl (L.Truth n)) ks s = s
leaf_forth (inl (L.Name n)) ks s = absurd s
leaf_forth (inr n) ks s = s

leaf_back : (l : Leaf) (ks : List TokenKind) → leaf_text l ks → (x : Leaf ⊎ ScopedName) × (leaf_of x ≡ l) × leaf_shape x ks
leaf_back (L.Number n) ks s = (inl (L.Number n), refl, s)
leaf_back (L.Character n) ks s = (inl (L.Character n), refl, s)
leaf_back (L.Text n) ks s = (inl (L.Text n), refl, s)
leaf_back (L.Truth n) ks s = (inl (L.Truth n), refl, s)
leaf_back (L.Name n) ks s = (inr n, refl, s)

pub leaf_is : IsGrammar leaf_at leaf_text NameMay
unfolding leaf_at
leaf_is = mapped_is leaf_of leaf_text
    (either_is (begins_with is_literal) (weaker (token_is literal_in literal_text literal_forth literal_back) (λ rest may. tt)) scoped_is
    (λ l front rest s may. begins_so leads_literal l front rest s)
    (λ n front rest s may. begins_not is_literal leads_scoped apart_literal n front rest s))
    leaf_forth leaf_back

-- whether a token begins a literal or a name
abbrev pub is_leaf : TokenKind → Bool
is_leaf k = is_literal k || is_name k

pub leads_leaf : Leads leaf_text is_leaf
leads_leaf = leads_by leaf_of leaf_back (leads_either leads_literal leads_scoped)

-- ---- the leaves of a language

number_back : (l : Leaf) (ks : List TokenKind) → number_text l ks → (n : ℤ) × (L.Number n ≡ l) × number n ks
number_back (L.Number n) ks s = (n, refl, s)
number_back (L.Character n) ks s = absurd s
number_back (L.Text n) ks s = absurd s
number_back (L.Truth n) ks s = absurd s
number_back (L.Name n) ks s = absurd s

pub leaf_by_is : (lang : Language) → IsGrammar (leaf_by lang) (leaf_in lang) NameMay
leaf_by_is Corba = leaf_is
leaf_by_is Mig = weaker (mapped_is L.Number number_text number_reads (λ n ks s. s) number_back) (λ rest may. tt)

pub leads_leaf_in : (lang : Language) → Leads (leaf_in lang) is_leaf
leads_leaf_in Corba = leads_leaf
leads_leaf_in Mig = λ l ks s. let b = number_back l ks s in (K.Number b.0, [], b.2, refl)

-- ---- operators before an operand

unary_named : (m : List ℕ) (op : UnaryOp) → unary_of m ≡ Some op → K.Mark m ∷ [] ≡ K.Mark (unary_spell op) ∷ []
unary_named m op e = go (bytes_eq m (codes "-")) (bytes_eq m (codes "+")) refl refl e where
  go : (a b : Bool) → bytes_eq m (codes "-") ≡ a → bytes_eq m (codes "+") ≡ b → cond a (Some U.Minus) (cond b (Some U.Plus) None)
      ≡ Some op → K.Mark m ∷ [] ≡ K.Mark (unary_spell op) ∷ []
  go true b h g q = let is : U.Minus ≡ op =
      cc in subst (λ z. K.Mark m ∷ [] ≡ K.Mark (unary_spell z) ∷ []) is (ap (λ z. K.Mark z ∷ []) (same_bytes m (codes "-") h))
  go false true h g q = let is : U.Plus ≡ op =
      cc in subst (λ z. K.Mark m ∷ [] ≡ K.Mark (unary_spell z) ∷ []) is (ap (λ z. K.Mark z ∷ []) (same_bytes m (codes "+") g))
  go false false h g q = absurd cc

unary_forth : (k : TokenKind) (op : UnaryOp) → unary_in k ≡ Some op → mark (unary_spell op) (k ∷ [])
unary_forth (K.Mark m) op e = unary_named m op e
unary_forth (K.Number n) op e = absurd cc
unary_forth (K.Char n) op e = absurd cc
unary_forth (K.Text n) op e = absurd cc
unary_forth (K.FileName n) op e = absurd cc
unary_forth (K.Name n) op e = absurd cc

unary_back : (op : UnaryOp) → unary_in (K.Mark (unary_spell op)) ≡ Some op
unary_back U.Minus = refl
unary_back U.Plus = refl

pub unary_is : IsGrammar (token_at unary_in) (λ op. mark (unary_spell op)) Any
unary_is = token_is unary_in (λ op. mark (unary_spell op)) unary_forth (λ op ks s. (K.Mark (unary_spell op), s, unary_back op))

pub leads_unary : Leads (λ op. mark (unary_spell op)) is_unary
leads_unary op ks s = (K.Mark (unary_spell op), [], s, ap is_some (unary_back op))
