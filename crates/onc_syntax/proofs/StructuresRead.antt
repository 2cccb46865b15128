-- Enums and structs: what is read is what is spelled.
use Rattle.std.proofs.Common.{◌≡◌, ℕ, List, false, refl}
use Rattle.std.specs.Prelude.{codes}
use Rattle.idl_lex.specs.declared.kinds.Token.{Token}
use Rattle.idl_read.specs.Reading.{mark_is, begins_with}
use Rattle.idl_read.specs.Grammar.{Text, some, joined, mark, ◌&◌, maybe, IsGrammar, Leads, Any}
use Rattle.idl_read.proofs.Grammars.{mapped_is, both_is, option_is}
use Rattle.idl_read.proofs.Leaves.{mark_reads, apart_mark, leads_mark, leads_id, leads_both, begins_so, begins_not}
use Rattle.idl_read.proofs.Productions.{weaker, after_is, before_is, leads_after, stopped}
use Rattle.idl_read.proofs.Lists.{turns, joined_is, until_is, some_is}
use Rattle.onc_syntax.specs.declared.tree.Item.{Item}
use Rattle.onc_syntax.specs.declared.tree.Member.{Member}
use Rattle.onc_syntax.specs.Words.{onc_words}
use Rattle.onc_syntax.specs.Derivation.{name, item, member, value}
use Rattle.onc_syntax.specs.Readers.{is_name, item_of, item_at, member_at, enum_at, struct_at}
use Rattle.onc_syntax.proofs.TypesRead.{is_name_grammar, value_is}
use Rattle.onc_syntax.proofs.DeclarationsRead.{decl_is, decl_stops, is_decl, leads_decl}

abbrev ItemMay : List Token → Type 0
ItemMay rest = begins_with (mark_is (codes "=")) rest ≡ false

item_is : IsGrammar item_at item ItemMay
unfolding item_at
item_is = mapped_is item_of item
    (both_is is_name_grammar
    (option_is (begins_with (mark_is (codes "=")))
    (weaker (after_is (mark_reads (codes "=")) value_is) (λ rest may. tt)) (λ a front rest s may.
    begins_so (leads_after value (leads_mark (codes "="))) a front rest s) (λ rest may. may))
    (λ b front rest t may. tt))
    (λ x ks s. s) (λ i ks s. ((i.name, i.value), refl, s))

leads_item : Leads item is_name
leads_item i ks s = leads_both (maybe (λ v. mark (codes "=") & value v)) (leads_id onc_words) (i.name, i.value) ks s

member_is : IsGrammar member_at member Any
unfolding member_at
member_is =
    mapped_is (λ d. record { decl = d }) member (before_is decl_is (mark_reads (codes ";")) decl_stops) (λ x ks s. s) (λ m ks s.
    (m.decl, refl, s))

leads_member : Leads member is_decl
leads_member m ks s = leads_both (λ (_ : Unit {0}). mark (codes ";")) leads_decl (m.decl, tt) ks s

abbrev pub enum_text : List ℕ × List Item → Text
enum_text x = name x.0 & (mark (codes "{") & (joined (codes ",") item x.1 & mark (codes "}")))

pub enum_is : IsGrammar enum_at enum_text Any
unfolding enum_at
enum_is = both_is is_name_grammar (after_is (mark_reads (codes "{"))
    (before_is
    (joined_is (codes ",") item_is
    (λ ts h.
    turns (mark_is (codes ",")) (mark_is (codes "=")) (apart_mark (mark_is (codes ",")) (codes "=") refl) ts h))
    (mark_reads (codes "}"))
    (λ front rest s. (
      begins_not (mark_is (codes ",")) (leads_mark (codes "}")) (apart_mark (mark_is (codes "}")) (codes ",") refl) tt front rest s,
      begins_not (mark_is (codes "=")) (leads_mark (codes "}")) (apart_mark (mark_is (codes "}")) (codes "=") refl) tt front rest s,
    ))))
    (λ b front rest t may. tt)

abbrev pub struct_text : List ℕ × List Member → Text
struct_text x = name x.0 & (mark (codes "{") & (some member x.1 & mark (codes "}")))

pub struct_is : IsGrammar struct_at struct_text Any
unfolding struct_at
struct_is = both_is is_name_grammar (after_is (mark_reads (codes "{"))
    (before_is (some_is (until_is (codes "}") member_is leads_member (apart_mark is_decl (codes "}") refl))) (mark_reads (codes "}"))
    (λ front rest s. stopped (codes "}") (leads_mark (codes "}")) tt front rest s)))
    (λ b front rest t may. tt)
