-- Names, values and types: what is read is what is spelled.
use Rattle.std.proofs.Common.{◌≡◌, ◌⊎◌, inl, inr, ℕ, ℤ, List, Option, Some, None, Bool, true, false, ◌||◌, refl}
use Rattle.std.specs.Prelude.{codes}
use Rattle.idl_lex.specs.declared.kinds.Token.{Token}
use Rattle.idl_lex.specs.declared.kinds.TokenKind.{TokenKind}
use Rattle.idl_lex.specs.declared.kinds.TokenKind.TheVariants.{Name}
use Rattle.idl_read.specs.Reading.{mark_is, word_is, word_in, begins_with, both, option}
use Rattle.idl_read.specs.Grammar.{Text, word, mark, number, ◌&◌, one_of, maybe, when, IsGrammar, Leads, Any}
use Rattle.idl_read.proofs.Grammars.{mapped_is, both_is, either_is, option_is}
use Rattle.idl_read.proofs.Leaves.{id_reads, number_reads, word_reads, apart_word, apart_mark, leads_word, leads_mark, leads_number, is_number, leads_id, leads_either, begins_so, begins_not}
use Rattle.idl_read.proofs.Productions.{weaker, led_is, leads_after, leads_maybe, leads_when, flag_reads, words_are, leads_words, apart_words, apart_id, unit_right, unit_right_back, unit_left, unit_left_back, leads_by}
use Rattle.onc_syntax.specs.declared.tree.Value.{Value}
use Rattle.onc_syntax.specs.declared.tree.Value.TheVariants as V
use Rattle.onc_syntax.specs.declared.tree.IntWord.{IntWord}
use Rattle.onc_syntax.specs.declared.tree.IntWord.TheVariants.{Int, Long, Short, Char, Hyper}
use Rattle.onc_syntax.specs.declared.tree.Prefix.{Prefix}
use Rattle.onc_syntax.specs.declared.tree.Prefix.TheVariants.{Struct, Union, Enum}
use Rattle.onc_syntax.specs.declared.tree.TypeName.{TypeName as Ty}
use Rattle.onc_syntax.specs.declared.tree.TypeName.TheVariants as T
use Rattle.onc_syntax.specs.Words.{onc_words}
use Rattle.onc_syntax.specs.Derivation.{name, value, int_spell, int_word, prefix_spell, prefix, type}
use Rattle.onc_syntax.specs.Readers.{name_at, is_name, value_of, value_at, int_words, int_in, is_int, int_at, prefix_words, is_prefix, prefix_at, type_of, type_at}

pub is_name_grammar : IsGrammar name_at name Any
is_name_grammar = id_reads onc_words

abbrev pub leads_signed : TokenKind → Bool
leads_signed k = mark_is (codes "-") k || is_number k

abbrev value_text : List ℕ ⊎ (Bool × ℤ) → Text
value_text = one_of name (λ y. when (mark (codes "-")) y.0 & number y.1)

value_forth : (x : List ℕ ⊎ (Bool × ℤ)) (ks : List TokenKind) → value_text x ks → value (value_of x) ks
value_forth (inl n) ks s = s
value_forth (inr x) ks s = s

value_back : (v : Value) (ks : List TokenKind) → value v ks → (x : List ℕ ⊎ (Bool × ℤ)) × (value_of x ≡ v) × value_text x ks
value_back (V.Name n) ks s = (inl n, refl, s)
value_back (V.Number m n) ks s = (inr (m, n), refl, s)

pub value_is : IsGrammar value_at value Any
unfolding value_at
value_is = mapped_is value_of value
    (either_is (begins_with is_name) (id_reads onc_words)
    (both_is (flag_reads (codes "-")) number_reads
    (λ n front rest t may. begins_not (mark_is (codes "-")) leads_number (apart_mark is_number (codes "-") refl) n front rest t))
    (λ n front rest s may. begins_so (leads_id onc_words) n front rest s)
    (λ x front rest s may.
    begins_not is_name (leads_when (leads_mark (codes "-")) leads_number)
    (apart_id onc_words leads_signed (λ n. refl)) x front rest s))
    value_forth value_back

pub leads_value : Leads value (λ k. is_name k || leads_signed k)
leads_value = leads_by value_of value_back (leads_either (leads_id onc_words) (leads_when (leads_mark (codes "-")) leads_number))

int_back : (w : IntWord) → int_in (Name (int_spell w)) ≡ Some w
int_back Int = refl
int_back Long = refl
int_back Short = refl
int_back Char = refl
int_back Hyper = refl

int_is : IsGrammar int_at int_word Any
int_is = words_are int_words int_spell (refl, (refl, (refl, (refl, (refl, tt))))) int_back

leads_int : Leads int_word is_int
leads_int = leads_words int_words int_spell int_back

prefix_back : (p : Prefix) → word_in prefix_words (Name (prefix_spell p)) ≡ Some p
prefix_back Struct = refl
prefix_back Union = refl
prefix_back Enum = refl

prefix_is : IsGrammar prefix_at prefix Any
prefix_is = words_are prefix_words prefix_spell (refl, (refl, (refl, tt))) prefix_back

leads_prefix : Leads prefix is_prefix
leads_prefix = leads_words prefix_words prefix_spell prefix_back

abbrev named_text : Option Prefix × List ℕ → Text
named_text x = maybe prefix x.0 & name x.1

named_is : IsGrammar (both (option (begins_with is_prefix) prefix_at) name_at) (λ x. maybe prefix x.0 & name x.1) Any
named_is = both_is
    (option_is {May =
    λ rest. begins_with is_prefix rest ≡ false} (begins_with is_prefix) (weaker prefix_is (λ rest may. tt)) (λ a front rest s may.
    begins_so leads_prefix a front rest s) (λ rest may. may))
    is_name_grammar
    (λ n front rest t may.
    begins_not is_prefix (leads_id onc_words) (apart_words is_name prefix_words (refl, (refl, (refl, tt)))) n front rest t)

abbrev is_named : TokenKind → Bool
is_named k = is_prefix k || is_name k

leads_named : Leads named_text is_named
leads_named = leads_maybe leads_prefix (leads_id onc_words)

abbrev is_boolean : TokenKind → Bool
is_boolean k = word_is (codes "bool") k || is_named k

abbrev is_signed : TokenKind → Bool
is_signed k = is_int k || is_boolean k

abbrev pub is_type : TokenKind → Bool
is_type k = word_is (codes "unsigned") k || is_signed k

abbrev pub TypeMay : List Token → Type 0
TypeMay rest = begins_with is_int rest ≡ false

abbrev type_text : Option IntWord ⊎ IntWord ⊎ Unit {0} ⊎ (Option Prefix × List ℕ) → Text
type_text = one_of (λ o. word (codes "unsigned") & maybe int_word o)
    (one_of int_word (one_of (λ (_ : Unit {0}). word (codes "bool")) named_text))

type_forth : (x : Option IntWord ⊎ IntWord ⊎ Unit {0} ⊎ (Option Prefix × List ℕ)) (ks : List TokenKind) → type_text x ks
    → type (type_of x) ks
type_forth (inl (Some w)) ks s = s
type_forth (inl None) ks s = unit_right (word (codes "unsigned")) ks s
type_forth (inr (inl w)) ks s = unit_left_back (int_word w) ks s
type_forth (inr (inr (inl _))) ks s = s
type_forth (inr (inr (inr x))) ks s = s

type_back : (t : Ty) (ks : List TokenKind) → type t ks
    → (x : Option IntWord ⊎ IntWord ⊎ Unit {0} ⊎ (Option Prefix × List ℕ)) × (type_of x ≡ t) × type_text x ks
type_back (T.Int true w) ks s = (inl (Some w), refl, s)
type_back (T.Int false w) ks s = (inr (inl w), refl, unit_left (int_word w) ks s)
type_back T.Unsigned ks s = (inl None, refl, unit_right_back (word (codes "unsigned")) ks s)
type_back T.Bool ks s = (inr (inr (inl tt)), refl, s)
type_back (T.Named p n) ks s = (inr (inr (inr (p, n))), refl, s)

leads_signed_type : Leads (one_of int_word (one_of (λ (_ : Unit {0}). word (codes "bool")) named_text)) is_signed
leads_signed_type = leads_either leads_int (leads_either (leads_word (codes "bool")) leads_named)

pub type_is : IsGrammar type_at type TypeMay
unfolding type_at
type_is = mapped_is type_of type
    (led_is (codes "unsigned")
    (option_is (begins_with is_int)
    (weaker int_is (λ rest may. tt)) (λ a front rest s may. begins_so leads_int a front rest s) (λ rest may. may))
    (weaker
    (either_is (begins_with is_int) int_is
    (either_is (begins_with (word_is (codes "bool"))) (word_reads (codes "bool")) named_is
    (λ a front rest s may. begins_so (leads_word (codes "bool")) a front rest s)
    (λ x front rest s may. begins_not (word_is (codes "bool")) leads_named (apart_word is_named (codes "bool") refl) x front rest s))
    (λ a front rest s may. begins_so leads_int a front rest s)
    (λ x front rest s may.
    begins_not is_int (leads_either (leads_word (codes "bool")) leads_named)
    (apart_words is_boolean int_words (refl, (refl, (refl, (refl, (refl, tt)))))) x front rest s))
    (λ rest may. tt))
    leads_signed_type refl)
    type_forth type_back

pub leads_type : Leads type is_type
leads_type = leads_by type_of type_back (leads_either (leads_after (maybe int_word) (leads_word (codes "unsigned"))) leads_signed_type)
