-- Declarations: what is read is what is spelled.
use Rattle.std.proofs.Common.{◌≡◌, ◌⊎◌, inl, inr, ℕ, List, ◌++◌, Option, Some, None, Bool, false, ◌||◌, refl}
use Rattle.std.specs.Prelude.{codes}
use Rattle.idl_lex.specs.declared.kinds.Token.{Token}
use Rattle.idl_lex.specs.declared.kinds.TokenKind.{TokenKind}
use Rattle.idl_lex.specs.declared.kinds.TokenKind.TheVariants.{Mark}
use Rattle.idl_read.specs.Reading.{mark_is, word_is, begins_with, begins_other, either, option}
use Rattle.idl_read.specs.Grammar.{Text, empty, word, mark, ◌&◌, one_of, maybe, kinds, IsGrammar, Leads, Any}
use Rattle.idl_read.proofs.Grammars.{mapped_is, both_is, either_is, option_is}
use Rattle.idl_read.proofs.Leaves.{mark_reads, apart_mark, leads_word, leads_mark, leads_id, leads_both, leads_either, begins_so, begins_not, begins_else}
use Rattle.idl_read.proofs.Productions.{weaker, after_is, before_is, led_is, marked_is, leads_after, apart_words, unit_right, unit_right_back, leads_by, maybe_not, not_other}
use Rattle.onc_syntax.specs.declared.tree.Value.{Value}
use Rattle.onc_syntax.specs.declared.tree.TypeName.{TypeName as Ty}
use Rattle.onc_syntax.specs.declared.tree.Decl.{Decl}
use Rattle.onc_syntax.specs.declared.tree.Decl.TheVariants as D
use Rattle.onc_syntax.specs.Words.{onc_words}
use Rattle.onc_syntax.specs.Derivation.{name, exactly, at_most, decl, value, type}
use Rattle.onc_syntax.specs.Readers.{is_name, int_words, is_int, exactly_at, is_close, at_most_at, decl_of, decl_at}
use Rattle.onc_syntax.proofs.TypesRead.{is_name_grammar, is_type, leads_signed, leads_type, leads_value, type_is, value_is}

exactly_is : IsGrammar exactly_at exactly Any
unfolding exactly_at
exactly_is = after_is (mark_reads (codes "[")) (before_is value_is (mark_reads (codes "]")) (λ front rest p. tt))

leads_exactly : Leads exactly (mark_is (codes "["))
leads_exactly = leads_after (λ v. value v & mark (codes "]")) (leads_mark (codes "["))

at_most_is : IsGrammar at_most_at at_most Any
unfolding at_most_at
at_most_is = after_is (mark_reads (codes "<"))
    (before_is
    (option_is {May = λ rest. begins_other is_close rest ≡ false} (begins_other is_close) (weaker value_is (λ rest may. tt))
    (λ a front rest s may.
    begins_else is_close leads_value (apart_mark (λ k. is_name k || leads_signed k) (codes ">") refl) a front rest s) (λ rest may.
    may))
    (mark_reads (codes ">"))
    (λ front rest p. not_other is_close (front ++ rest) (begins_so (leads_mark (codes ">")) tt front rest p)))

leads_at_most : Leads at_most (mark_is (codes "<"))
leads_at_most = leads_after (λ v. maybe value v & mark (codes ">")) (leads_mark (codes "<"))

sized_is : IsGrammar (either (begins_with (mark_is (codes "["))) exactly_at at_most_at) (one_of exactly at_most) Any
sized_is = either_is (begins_with (mark_is (codes "["))) exactly_is at_most_is
    (λ a front rest s may. begins_so leads_exactly a front rest s)
    (λ a front rest s may.
    begins_not (mark_is (codes "[")) leads_at_most (apart_mark (mark_is (codes "<")) (codes "[") refl) a front rest s)

-- no size follows it
abbrev pub DeclMay : List Token → Type 0
DeclMay rest = (begins_with (mark_is (codes "[")) rest ≡ false) × (begins_with (mark_is (codes "<")) rest ≡ false)

tail_is : IsGrammar (either (begins_with (mark_is (codes "["))) exactly_at (option (begins_with (mark_is (codes "<"))) at_most_at))
    (one_of exactly (maybe at_most)) DeclMay
tail_is = either_is (begins_with (mark_is (codes "["))) (weaker exactly_is (λ rest may. tt))
    (option_is (begins_with (mark_is (codes "<")))
    (weaker at_most_is (λ rest may. tt)) (λ a front rest s may. begins_so leads_at_most a front rest s) (λ rest may. may.1))
    (λ a front rest s may. begins_so leads_exactly a front rest s)
    (λ a front rest s may.
    maybe_not (mark_is (codes "[")) leads_at_most (apart_mark (mark_is (codes "<")) (codes "[") refl) a front rest s may.0)

abbrev DeclShape : Type 0
DeclShape = (List ℕ × (Value ⊎ Option Value)) ⊎ (List ℕ × Option Value) ⊎ (Ty × (List ℕ ⊎ (List ℕ × (Value ⊎ Option (Option Value)))))

abbrev after_type : List ℕ ⊎ (List ℕ × (Value ⊎ Option (Option Value))) → Text
after_type = one_of (λ n. mark (codes "*") & name n) (λ x. name x.0 & one_of exactly (maybe at_most) x.1)

abbrev decl_text : DeclShape → Text
decl_text = one_of (λ x. word (codes "opaque") & (name x.0 & one_of exactly at_most x.1))
    (one_of (λ x. word (codes "string") & (name x.0 & at_most x.1)) (λ x. type x.0 & after_type x.1))

-- a part at the end may be missing
drop_end : (P Q : Text) (ks : List TokenKind) → (P & (Q & empty)) ks → (P & Q) ks
drop_end P Q ks s = (s.0, s.1, s.2, s.3, unit_right Q s.1 s.4)

add_end : (P Q : Text) (ks : List TokenKind) → (P & Q) ks → (P & (Q & empty)) ks
add_end P Q ks s = (s.0, s.1, s.2, s.3, unit_right_back Q s.1 s.4)

decl_forth : (x : DeclShape) (ks : List TokenKind) → decl_text x ks → decl (decl_of x) ks
decl_forth (inl (n, inl v)) ks s = s
decl_forth (inl (n, inr v)) ks s = s
decl_forth (inr (inl (n, v))) ks s = s
decl_forth (inr (inr (t, inl n))) ks s = s
decl_forth (inr (inr (t, inr (n, inl v)))) ks s = s
decl_forth (inr (inr (t, inr (n, inr None)))) ks s = drop_end (type t) (name n) ks s
decl_forth (inr (inr (t, inr (n, inr (Some v))))) ks s = s

decl_back : (d : Decl) (ks : List TokenKind) → decl d ks → (x : DeclShape) × (decl_of x ≡ d) × decl_text x ks
decl_back (D.Plain t n) ks s = (inr (inr (t, inr (n, inr None))), refl, add_end (type t) (name n) ks s)
decl_back (D.Array t n v) ks s = (inr (inr (t, inr (n, inl v))), refl, s)
decl_back (D.List t n v) ks s = (inr (inr (t, inr (n, inr (Some v)))), refl, s)
decl_back (D.Pointer t n) ks s = (inr (inr (t, inl n)), refl, s)
decl_back (D.OpaqueArray n v) ks s = (inl (n, inl v), refl, s)
decl_back (D.OpaqueList n v) ks s = (inl (n, inr v), refl, s)
decl_back (D.Text n v) ks s = (inr (inl (n, v)), refl, s)

abbrev is_after_type : TokenKind → Bool
is_after_type k = mark_is (codes "*") k || is_name k

leads_after_type : Leads after_type is_after_type
leads_after_type = leads_either (leads_after name (leads_mark (codes "*")))
    (leads_both (one_of exactly (maybe at_most)) (leads_id onc_words))

abbrev plain_text : Ty × (List ℕ ⊎ (List ℕ × (Value ⊎ Option (Option Value)))) → Text
plain_text x = type x.0 & after_type x.1

leads_plain : Leads (λ (x : Ty × (List ℕ ⊎ (List ℕ × (Value ⊎ Option (Option Value))))). type x.0 & after_type x.1) is_type
leads_plain = leads_both after_type leads_type

leads_string : Leads (one_of (λ (x : List ℕ × Option Value). word (codes "string") & (name x.0 & at_most x.1)) plain_text)
    (λ k. word_is (codes "string") k || is_type k)
leads_string = leads_either (leads_after (λ x. name x.0 & at_most x.1) (leads_word (codes "string"))) leads_plain

pub decl_is : IsGrammar decl_at decl DeclMay
unfolding decl_at
decl_is = mapped_is decl_of decl
    (led_is (codes "opaque")
    (weaker (both_is is_name_grammar sized_is (λ b front rest t may. tt)) (λ rest may. tt))
    (led_is (codes "string")
    (weaker (both_is is_name_grammar at_most_is (λ b front rest t may. tt)) (λ rest may. tt))
    (both_is type_is
    (marked_is (codes "*")
    (weaker is_name_grammar (λ rest may. tt)) (both_is is_name_grammar tail_is (λ b front rest t may.
    tt)) (leads_both (one_of exactly (maybe at_most)) (leads_id onc_words)) refl)
    (λ b front rest t may.
    begins_not is_int leads_after_type (apart_words is_after_type int_words (refl, (refl, (refl, (refl, (refl, tt)))))) b front rest
    t))
    leads_plain refl)
    leads_string refl)
    decl_forth decl_back

pub leads_decl : Leads decl (λ k. word_is (codes "opaque") k || (word_is (codes "string") k || is_type k))
leads_decl =
    leads_by decl_of decl_back
    (leads_either (leads_after (λ x. name x.0 & one_of exactly at_most x.1) (leads_word (codes "opaque"))) leads_string)

pub decl_stops : (front rest : List Token) → mark (codes ";") (kinds front) → DeclMay (front ++ rest)
decl_stops front rest s =
    let at = λ (m : List ℕ) (h : mark_is (codes ";") (Mark m) ≡ false).
    begins_not (mark_is m) (leads_mark (codes ";")) (apart_mark (mark_is (codes ";")) m h) tt front rest s in
    (at (codes "[") refl, at (codes "<") refl)

abbrev pub is_decl : TokenKind → Bool
is_decl k = word_is (codes "opaque") k || (word_is (codes "string") k || is_type k)
