-- Unions: what is read is what is spelled.
use Rattle.std.proofs.Common.{◌≡◌, ◌⊎◌, inl, inr, List, Option, Bool, false, ◌||◌, refl}
use Rattle.std.specs.Prelude.{codes}
use Rattle.idl_lex.specs.declared.kinds.TokenKind.{TokenKind}
use Rattle.idl_read.specs.Reading.{mark_is, word_is, begins_with, both, option, before, mark_at, while_at, some_at}
use Rattle.idl_read.specs.Grammar.{Text, some, word, mark, ◌&◌, one_of, maybe, IsGrammar, Leads, Any}
use Rattle.idl_read.proofs.Grammars.{mapped_is, both_is, either_is, option_is}
use Rattle.idl_read.proofs.Leaves.{word_reads, mark_reads, apart_word, leads_word, leads_mark, leads_id, leads_both, leads_either, begins_so, begins_not}
use Rattle.idl_read.proofs.Productions.{weaker, after_is, before_is, leads_after, leads_maybe, apart_words, leads_by}
use Rattle.idl_read.proofs.Lists.{while_is, some_is, leads_some}
use Rattle.onc_syntax.specs.declared.tree.Decl.{Decl}
use Rattle.onc_syntax.specs.declared.tree.Arm.{Arm}
use Rattle.onc_syntax.specs.declared.tree.Arm.TheVariants as A
use Rattle.onc_syntax.specs.declared.tree.Case.{Case}
use Rattle.onc_syntax.specs.declared.tree.Union.{Union as UnionDef}
use Rattle.onc_syntax.specs.Words.{onc_words}
use Rattle.onc_syntax.specs.Derivation.{name, decl, arm, label, case, default, value, type}
use Rattle.onc_syntax.specs.Readers.{is_name, int_words, is_int, arm_of, arm_at, label_at, case_at, default_at, union_of, union_at}
use Rattle.onc_syntax.proofs.TypesRead.{is_name_grammar, type_is, value_is}
use Rattle.onc_syntax.proofs.DeclarationsRead.{DeclMay, decl_is, decl_stops, is_decl, leads_decl}

abbrev arm_text : Unit {0} ⊎ Decl → Text
arm_text = one_of (λ _. word (codes "void")) decl

arm_forth : (x : Unit {0} ⊎ Decl) (ks : List TokenKind) → arm_text x ks → arm (arm_of x) ks
arm_forth (inl _) ks s = s
arm_forth (inr d) ks s = s

arm_back : (a : Arm) (ks : List TokenKind) → arm a ks → (x : Unit {0} ⊎ Decl) × (arm_of x ≡ a) × arm_text x ks
arm_back A.Void ks s = (inl tt, refl, s)
arm_back (A.Decl d) ks s = (inr d, refl, s)

arm_is : IsGrammar arm_at arm DeclMay
unfolding arm_at
arm_is = mapped_is arm_of arm
    (either_is (begins_with (word_is (codes "void"))) (weaker (word_reads (codes "void")) (λ rest may. tt)) decl_is
    (λ a front rest s may. begins_so (leads_word (codes "void")) a front rest s)
    (λ d front rest s may. begins_not (word_is (codes "void")) leads_decl (apart_word is_decl (codes "void") refl) d front rest s))
    arm_forth arm_back

abbrev is_arm : TokenKind → Bool
is_arm k = word_is (codes "void") k || is_decl k

leads_arm : Leads arm is_arm
leads_arm = leads_by arm_of arm_back (leads_either (leads_word (codes "void")) leads_decl)

label_is : IsGrammar label_at label Any
unfolding label_at
label_is =
    mapped_is
    (λ v.
    record { value = v }) label
    (after_is (word_reads (codes "case")) (before_is value_is (mark_reads (codes ":")) (λ front rest p. tt))) (λ x ks s. s) (λ l ks s.
    (l.value, refl, s))

leads_label : Leads label (word_is (codes "case"))
leads_label l ks s = leads_after (λ v. value v & mark (codes ":")) (leads_word (codes "case")) l.value ks s

abbrev arm_ended : Arm → Text
arm_ended a = arm a & mark (codes ";")

leads_arm_ended : Leads arm_ended is_arm
leads_arm_ended a ks s = leads_both (λ (_ : Unit {0}). mark (codes ";")) leads_arm (a, tt) ks s

case_is : IsGrammar case_at case Any
unfolding case_at
case_is = mapped_is (λ x. record { labels = x.0; arm = x.1 }) case
    (both_is (some_is (while_is (codes "case") label_is leads_label)) (before_is arm_is (mark_reads (codes ";")) decl_stops)
    (λ a front rest s may. begins_not (word_is (codes "case")) leads_arm_ended (apart_word is_arm (codes "case") refl) a front rest s))
    (λ x ks s. s) (λ c ks s. ((c.labels, c.arm), refl, s))

leads_case : Leads case (word_is (codes "case"))
leads_case c ks s = leads_both arm_ended (leads_some leads_label) (c.labels, c.arm) ks s

default_is : IsGrammar default_at default Any
unfolding default_at
default_is =
    after_is (word_reads (codes "default")) (after_is (mark_reads (codes ":")) (before_is arm_is (mark_reads (codes ";")) decl_stops))

leads_default : Leads default (word_is (codes "default"))
leads_default = leads_after (λ a. mark (codes ":") & arm a & mark (codes ";")) (leads_word (codes "default"))

abbrev cases_text : List Case × Option Arm → Text
cases_text x = some case x.0 & (maybe default x.1 & mark (codes "}"))

cases_is : IsGrammar
    (both (some_at (while_at (codes "case") case_at))
    (before (option (begins_with (word_is (codes "default"))) default_at) (mark_at (codes "}"))))
    cases_text Any
cases_is = both_is (some_is (while_is (codes "case") case_is leads_case))
    (before_is
    (option_is {May =
    λ rest.
    begins_with (word_is (codes "default")) rest ≡ false} (begins_with (word_is (codes "default")))
    (weaker default_is (λ rest may. tt)) (λ a front rest s may. begins_so leads_default a front rest s) (λ rest may. may))
    (mark_reads (codes "}"))
    (λ front rest s.
    begins_not (word_is (codes "default")) (leads_mark (codes "}")) (apart_word (mark_is (codes "}")) (codes "default") refl) tt front
    rest s))
    (λ a front rest s may.
    begins_not (word_is (codes "case")) (leads_maybe leads_default (leads_mark (codes "}")))
    (apart_word (λ k. word_is (codes "default") k || mark_is (codes "}") k) (codes "case") refl) (a, tt) front rest s)

abbrev pub union_text : UnionDef → Text
union_text u = name u.name & (word (codes "switch") & (mark (codes "(") & (type u.tag & (name u.tag_name & (mark (codes ")")
    & (mark (codes "{") & (some case u.cases & (maybe default u.default & mark (codes "}")))))))))

pub union_is : IsGrammar union_at union_text Any
unfolding union_at
union_is = mapped_is union_of union_text
    (both_is is_name_grammar (after_is (word_reads (codes "switch")) (after_is (mark_reads (codes "("))
    (both_is type_is (both_is is_name_grammar (after_is (mark_reads (codes ")")) (after_is (mark_reads (codes "{")) cases_is))
    (λ b front rest t may. tt))
    (λ x front rest s may.
    begins_not is_int
    (leads_both
    (λ y.
    mark (codes ")") & (mark (codes "{") & cases_text y)) (leads_id onc_words))
    (apart_words is_name int_words (refl, (refl, (refl, (refl, (refl, tt)))))) x front rest s))))
    (λ b front rest t may. tt))
    (λ x ks s. s) (λ u ks s. ((u.name, (u.tag, (u.tag_name, (u.cases, u.default)))), refl, s))

pub leads_union : Leads (λ x. word (codes "union") & union_text x) (word_is (codes "union"))
leads_union = leads_after union_text (leads_word (codes "union"))
