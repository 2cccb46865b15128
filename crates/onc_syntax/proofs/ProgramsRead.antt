-- Programs: what is read is what is spelled.
use Rattle.std.proofs.Common.{◌≡◌, ◌⊎◌, inl, inr, ℕ, List, ◌++◌, Bool, false, ◌||◌, refl, ap, ◌∙◌}
use Rattle.std.specs.List.{AllByRecursion}
use Rattle.std.specs.Prelude.{codes}
use Rattle.idl_lex.specs.declared.kinds.TokenKind.{TokenKind}
use Rattle.idl_lex.specs.declared.kinds.TokenKind.TheVariants.{Name}
use Rattle.idl_read.specs.Reading.{mark_is, word_is, begins_with, begins_other, both, after, before, mark_at, joined_at, until_at, some_at}
use Rattle.idl_read.specs.Grammar.{Text, some, joined, word, mark, ◌&◌, one_of, IsGrammar, Leads, Any}
use Rattle.idl_read.proofs.Grammars.{mapped_is, both_is, either_is}
use Rattle.idl_read.proofs.Leaves.{word_reads, mark_reads, apart_word, apart_mark, leads_word, leads_mark, leads_id, leads_both, leads_either, begins_so, begins_not}
use Rattle.idl_read.proofs.Productions.{weaker, after_is, before_is, leads_after, apart_words, leads_by, stopped}
use Rattle.idl_read.proofs.Lists.{turns, joined_is, until_is, some_is}
use Rattle.onc_syntax.specs.declared.tree.Value.{Value}
use Rattle.onc_syntax.specs.declared.tree.IntWord.{IntWord}
use Rattle.onc_syntax.specs.declared.tree.TypeName.{TypeName as Ty}
use Rattle.onc_syntax.specs.declared.tree.ProcType.{ProcType}
use Rattle.onc_syntax.specs.declared.tree.ProcType.TheVariants as P
use Rattle.onc_syntax.specs.declared.tree.Version.{Version}
use Rattle.onc_syntax.specs.Words.{onc_words}
use Rattle.onc_syntax.specs.Derivation.{name, proc_type, procedure, version, value, type}
use Rattle.onc_syntax.specs.Readers.{is_name, value_at, int_words, is_int, proc_type_of, proc_type_at, procedure_of, procedure_at, version_of, version_at, program_at}
use Rattle.onc_syntax.proofs.TypesRead.{TypeMay, is_name_grammar, is_type, leads_type, type_is, value_is}

abbrev proc_type_text : Unit {0} ⊎ Unit {0} ⊎ Ty → Text
proc_type_text = one_of (λ _. word (codes "void")) (one_of (λ _. word (codes "string")) type)

proc_type_forth : (x : Unit {0} ⊎ Unit {0} ⊎ Ty) (ks : List TokenKind) → proc_type_text x ks → proc_type (proc_type_of x) ks
proc_type_forth (inl _) ks s = s
proc_type_forth (inr (inl _)) ks s = s
proc_type_forth (inr (inr t)) ks s = s

proc_type_back : (p : ProcType) (ks : List TokenKind) → proc_type p ks
    → (x : Unit {0} ⊎ Unit {0} ⊎ Ty) × (proc_type_of x ≡ p) × proc_type_text x ks
proc_type_back P.Void ks s = (inl tt, refl, s)
proc_type_back P.Text ks s = (inr (inl tt), refl, s)
proc_type_back (P.Plain t) ks s = (inr (inr t), refl, s)

proc_type_is : IsGrammar proc_type_at proc_type TypeMay
unfolding proc_type_at
proc_type_is = mapped_is proc_type_of proc_type
    (either_is (begins_with (word_is (codes "void"))) (weaker (word_reads (codes "void")) (λ rest may. tt))
    (either_is (begins_with (word_is (codes "string"))) (weaker (word_reads (codes "string")) (λ rest may. tt)) type_is
    (λ a front rest s may. begins_so (leads_word (codes "string")) a front rest s)
    (λ d front rest s may. begins_not (word_is (codes "string")) leads_type (apart_word is_type (codes "string") refl) d front rest s))
    (λ a front rest s may. begins_so (leads_word (codes "void")) a front rest s)
    (λ d front rest s may.
    begins_not (word_is (codes "void")) (leads_either (leads_word (codes "string")) leads_type)
    (apart_word (λ k. word_is (codes "string") k || is_type k) (codes "void") refl) d front rest s))
    proc_type_forth proc_type_back

abbrev is_proc_type : TokenKind → Bool
is_proc_type k = word_is (codes "void") k || (word_is (codes "string") k || is_type k)

leads_proc_type : Leads proc_type is_proc_type
leads_proc_type =
    leads_by proc_type_of proc_type_back
    (leads_either (leads_word (codes "void")) (leads_either (leads_word (codes "string")) leads_type))

abbrev no_int : (g : TokenKind → Bool) → Type 0
no_int g = AllByRecursion (λ (e : List ℕ × IntWord). g (Name e.0) ≡ false) int_words

-- after the parameters
abbrev closed : Value → Text
closed v = mark (codes ")") & (mark (codes "=") & (value v & mark (codes ";")))

closed_is : IsGrammar (after (mark_at (codes ")")) (after (mark_at (codes "=")) (before value_at (mark_at (codes ";"))))) closed Any
closed_is =
    after_is (mark_reads (codes ")"))
    (after_is (mark_reads (codes "=")) (before_is value_is (mark_reads (codes ";")) (λ front rest p. tt)))

leads_closed : Leads closed (mark_is (codes ")"))
leads_closed = leads_after (λ v. mark (codes "=") & (value v & mark (codes ";"))) (leads_mark (codes ")"))

abbrev listed : List ProcType × Value → Text
listed x = joined (codes ",") proc_type x.0 & closed x.1

listed_is : IsGrammar
    (both (joined_at (codes ",") proc_type_at)
    (after (mark_at (codes ")")) (after (mark_at (codes "=")) (before value_at (mark_at (codes ";"))))))
    listed Any
listed_is = both_is
    (joined_is (codes ",") proc_type_is
    (λ ts h.
    turns (mark_is (codes ",")) is_int (apart_words (mark_is (codes ",")) int_words (refl, (refl, (refl, (refl, (refl, tt)))))) ts h))
    closed_is
    (λ v front rest s may. (
      begins_not (mark_is (codes ",")) leads_closed (apart_mark (mark_is (codes ")")) (codes ",") refl) v front rest s,
      begins_not is_int leads_closed (apart_words (mark_is (codes ")")) int_words (refl, (refl, (refl, (refl, (refl, tt)))))) v front rest
          s,
    ))

abbrev named_list : List ℕ × (List ProcType × Value) → Text
named_list x = name x.0 & (mark (codes "(") & listed x.1)

leads_named_list : Leads named_list is_name
leads_named_list = leads_both (λ x. mark (codes "(") & listed x) (leads_id onc_words)

procedure_is : IsGrammar procedure_at procedure Any
unfolding procedure_at
procedure_is = mapped_is procedure_of procedure
    (both_is proc_type_is (both_is is_name_grammar (after_is (mark_reads (codes "(")) listed_is) (λ b front rest t may. tt))
    (λ x front rest s may.
    begins_not is_int leads_named_list (apart_words is_name int_words (refl, (refl, (refl, (refl, (refl, tt)))))) x front rest s))
    (λ x ks s. s) (λ p ks s. ((p.result, (p.name, (p.parameters, p.number))), refl, s))

leads_procedure : Leads procedure is_proc_type
leads_procedure p ks s = leads_both named_list leads_proc_type (p.result, (p.name, (p.parameters, p.number))) ks s

procedures_is : IsGrammar (some_at (until_at (codes "}") procedure_at)) (some procedure)
    (λ rest. begins_other (mark_is (codes "}")) rest ≡ false)
procedures_is = some_is (until_is (codes "}") procedure_is leads_procedure (apart_mark is_proc_type (codes "}") refl))

version_is : IsGrammar version_at version Any
unfolding version_at
version_is = mapped_is version_of version
    (after_is (word_reads (codes "version")) (both_is is_name_grammar (after_is (mark_reads (codes "{"))
    (both_is procedures_is
    (after_is (mark_reads (codes "}"))
    (after_is (mark_reads (codes "=")) (before_is value_is (mark_reads (codes ";")) (λ front rest p. tt))))
    (λ v front rest s may.
    stopped (codes "}")
    (leads_after (λ v. mark (codes "=") & (value v & mark (codes ";"))) (leads_mark (codes "}"))) v front rest s)))
    (λ b front rest t may. tt)))
    (λ x ks s. s) (λ v ks s. ((v.name, (v.procedures, v.number)), refl, s))

leads_version : Leads version (word_is (codes "version"))
leads_version v ks s = (Name (codes "version"), s.1, s.2 ∙ ap (λ z. z ++ s.1) s.3, refl)

abbrev pub program_text : List ℕ × (List Version × Value) → Text
program_text x = name x.0 & (mark (codes "{") & (some version x.1.0 & (mark (codes "}") & (mark (codes "=") & value x.1.1))))

pub program_is : IsGrammar program_at program_text Any
unfolding program_at
program_is = both_is is_name_grammar (after_is (mark_reads (codes "{"))
    (both_is (some_is (until_is (codes "}") version_is leads_version (apart_mark (word_is (codes "version")) (codes "}") refl)))
    (after_is (mark_reads (codes "}")) (after_is (mark_reads (codes "=")) value_is))
    (λ v front rest s may. stopped (codes "}") (leads_after (λ v. mark (codes "=") & value v) (leads_mark (codes "}"))) v front rest s)))
    (λ b front rest t may. tt)
