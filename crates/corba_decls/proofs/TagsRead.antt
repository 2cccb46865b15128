-- The types of discriminators and of constants: what is read is what is spelled.
use Rattle.std.proofs.Common.{◌≡◌, ◌⊎◌, inl, inr, ℕ, zero, suc, List, Bool, false, ◌||◌, refl}
use Rattle.std.specs.Prelude.{codes}
use Rattle.idl_lex.specs.declared.kinds.Token.{Token}
use Rattle.idl_lex.specs.declared.kinds.TokenKind.{TokenKind}
use Rattle.idl_lex.specs.declared.kinds.TokenKind.TheVariants as K
use Rattle.idl_read.specs.Reading.{Reader, mark_is, word_is, begins_with}
use Rattle.idl_read.specs.Grammar.{Text, word, one_of, IsGrammar, Leads}
use Rattle.idl_read.proofs.Grammars.{mapped_is, either_is}
use Rattle.idl_read.proofs.Leaves.{word_reads, apart_or, apart_word, leads_word, leads_either, begins_so, begins_not}
use Rattle.idl_read.proofs.Productions.{weaker}
use Rattle.idl_exprs.specs.declared.tree.ScopedName.{ScopedName}
use Rattle.idl_exprs.specs.Spelling.{scoped}
use Rattle.idl_exprs.proofs.LeavesRead.{is_name, scoped_is, leads_scoped}
use Rattle.corba_decls.specs.declared.type_tree.Int.{Int}
use Rattle.corba_decls.specs.TypeSpelling.{int}
use Rattle.corba_decls.specs.TypeReaders.{is_int}
use Rattle.corba_decls.proofs.BasesRead.{int_is, leads_int}
use Rattle.corba_decls.specs.declared.decl_tree.Tag.{Tag}
use Rattle.corba_decls.specs.declared.decl_tree.Tag.TheVariants as T
use Rattle.corba_decls.specs.declared.decl_tree.ConstantType.{ConstantType}
use Rattle.corba_decls.specs.declared.decl_tree.ConstantType.TheVariants as C
use Rattle.corba_decls.specs.DeclSpelling.{tag_type, tag, constant_type}
use Rattle.corba_decls.specs.DeclReaders.{word_or, led_or, number_at, tag_of, tag_type_at, tag_at, constant_type_of, constant_type_at}

-- ---- what begins with a word, or does not

pub led_or_is : {A B : Type 0} {r : Reader A} {s : Reader B} {S : A → Text} {T : B → Text} {May : List Token → Type 0}
    {g : TokenKind → Bool} (w : List ℕ)
    → IsGrammar r S May → IsGrammar s T May → Leads S (word_is w) → Leads T g → g (K.Name w) ≡ false
    → IsGrammar (led_or w r s) (one_of S T) May
led_or_is {g = g} w p q l m apart = either_is (begins_with (word_is w)) p q
    (λ a front rest s may. begins_so l a front rest s)
    (λ b front rest s may. begins_not (word_is w) m (apart_word g w apart) b front rest s)

pub word_or_is : {A : Type 0} {r : Reader A} {S : A → Text} {May : List Token → Type 0} {g : TokenKind → Bool} (w : List ℕ)
    → IsGrammar r S May → Leads S g → g (K.Name w) ≡ false → IsGrammar (word_or w r) (one_of (λ _. word w) S) May
word_or_is w p l apart = led_or_is w (weaker (word_reads w) (λ rest may. tt)) p (leads_word w) l apart

-- ---- an integer type or a name

-- no further `long` follows it, and no `::`
abbrev pub NumberMay : List Token → Type 0
NumberMay rest = (begins_with (word_is (codes "long")) rest ≡ false) × (begins_with (mark_is (codes "::")) rest ≡ false)

abbrev number_text : Int ⊎ ScopedName → Text
number_text = one_of int scoped

abbrev is_size : TokenKind → Bool
is_size k = word_is (codes "short") k || word_is (codes "long") k

number_is : IsGrammar number_at number_text NumberMay
number_is = either_is (begins_with is_int) (weaker int_is (λ rest may. may.0)) (weaker scoped_is (λ rest may. may.1))
    (λ i front rest s may. begins_so leads_int i front rest s)
    (λ n front rest s may. begins_not is_int leads_scoped
    (apart_or is_name (word_is (codes "unsigned")) is_size (apart_word is_name (codes "unsigned") refl)
    (apart_or is_name (word_is (codes "short")) (word_is (codes "long")) (apart_word is_name (codes "short") refl)
    (apart_word is_name (codes "long") refl))) n front rest s)

abbrev is_number : TokenKind → Bool
is_number k = is_int k || is_name k

leads_number : Leads number_text is_number
leads_number = leads_either leads_int leads_scoped

abbrev boolean_or : Unit {0} ⊎ Int ⊎ ScopedName → Text
boolean_or = one_of (λ _. word (codes "boolean")) number_text

abbrev is_boolean_or : TokenKind → Bool
is_boolean_or k = word_is (codes "boolean") k || is_number k

leads_boolean_or : Leads boolean_or is_boolean_or
leads_boolean_or = leads_either (leads_word (codes "boolean")) leads_number

-- ---- discriminators

abbrev tag_text : Unit {0} ⊎ Unit {0} ⊎ Int ⊎ ScopedName → Text
tag_text = one_of (λ _. word (codes "char")) boolean_or

tag_forth : (x : Unit {0} ⊎ Unit {0} ⊎ Int ⊎ ScopedName) (ks : List TokenKind) → tag_text x ks → tag_type (tag_of x) ks
tag_forth (inl _) ks s = s
tag_forth (inr (inl _)) ks s = s
tag_forth (inr (inr (inl i))) ks s = s
tag_forth (inr (inr (inr n))) ks s = s

tag_back : (t : Tag) (ks : List TokenKind) → tag_type t ks → (x : Unit {0} ⊎ Unit {0} ⊎ Int ⊎ ScopedName) × (tag_of x ≡ t) × tag_text x ks
tag_back T.Char ks s = (inl tt, refl, s)
tag_back T.Boolean ks s = (inr (inl tt), refl, s)
tag_back (T.Int i) ks s = (inr (inr (inl i)), refl, s)
tag_back (T.Named n) ks s = (inr (inr (inr n)), refl, s)

tag_type_is : IsGrammar tag_type_at tag_type NumberMay
unfolding tag_type_at
tag_type_is =
    mapped_is tag_of tag_type (word_or_is (codes "char") (word_or_is (codes "boolean") number_is leads_number refl) leads_boolean_or refl)
    tag_forth tag_back

pub tag_is : (n : ℕ) → IsGrammar (tag_at n) (tag n) NumberMay
tag_is zero = record { found = λ ts x rest e. absurd cc; again = λ x front rest s may. absurd s }
tag_is (suc n) =
    record { found = λ ts x rest e. tag_type_is.found ts x rest e; again = λ x front rest s may. tag_type_is.again x front rest s may }

-- ---- constants

abbrev string_or : Unit {0} ⊎ Int ⊎ ScopedName → Text
string_or = one_of (λ _. word (codes "string")) number_text

leads_string_or : Leads string_or (λ k. word_is (codes "string") k || is_number k)
leads_string_or = leads_either (leads_word (codes "string")) leads_number

abbrev octet_or : Unit {0} ⊎ Unit {0} ⊎ Int ⊎ ScopedName → Text
octet_or = one_of (λ _. word (codes "octet")) string_or

leads_octet_or : Leads octet_or (λ k. word_is (codes "octet") k || (word_is (codes "string") k || is_number k))
leads_octet_or = leads_either (leads_word (codes "octet")) leads_string_or

abbrev truth_or : Unit {0} ⊎ Unit {0} ⊎ Unit {0} ⊎ Int ⊎ ScopedName → Text
truth_or = one_of (λ _. word (codes "boolean")) octet_or

leads_truth_or : Leads truth_or
    (λ k. word_is (codes "boolean") k || (word_is (codes "octet") k || (word_is (codes "string") k || is_number k)))
leads_truth_or = leads_either (leads_word (codes "boolean")) leads_octet_or

abbrev constant_text : Unit {0} ⊎ Unit {0} ⊎ Unit {0} ⊎ Unit {0} ⊎ Int ⊎ ScopedName → Text
constant_text = one_of (λ _. word (codes "char")) truth_or

constant_forth : (x : Unit {0} ⊎ Unit {0} ⊎ Unit {0} ⊎ Unit {0} ⊎ Int ⊎ ScopedName) (ks : List TokenKind) → constant_text x ks
    → constant_type (constant_type_of x) ks
constant_forth (inl _) ks s = s
constant_forth (inr (inl _)) ks s = s
constant_forth (inr (inr (inl _))) ks s = s
constant_forth (inr (inr (inr (inl _)))) ks s = s
constant_forth (inr (inr (inr (inr (inl i))))) ks s = s
constant_forth (inr (inr (inr (inr (inr n))))) ks s = s

constant_back : (c : ConstantType) (ks : List TokenKind) → constant_type c ks
    → (x : Unit {0} ⊎ Unit {0} ⊎ Unit {0} ⊎ Unit {0} ⊎ Int ⊎ ScopedName) × (constant_type_of x ≡ c) × constant_text x ks
constant_back C.Char ks s = (inl tt, refl, s)
constant_back C.Boolean ks s = (inr (inl tt), refl, s)
constant_back C.Octet ks s = (inr (inr (inl tt)), refl, s)
constant_back C.Text ks s = (inr (inr (inr (inl tt))), refl, s)
constant_back (C.Int i) ks s = (inr (inr (inr (inr (inl i)))), refl, s)
constant_back (C.Named n) ks s = (inr (inr (inr (inr (inr n)))), refl, s)

pub constant_type_is : IsGrammar constant_type_at constant_type NumberMay
unfolding constant_type_at
constant_type_is = mapped_is constant_type_of constant_type
    (word_or_is (codes "char")
    (word_or_is (codes "boolean") (word_or_is (codes "octet") (word_or_is (codes "string") number_is leads_number refl)
    leads_string_or refl) leads_octet_or refl) leads_truth_or refl)
    constant_forth constant_back
