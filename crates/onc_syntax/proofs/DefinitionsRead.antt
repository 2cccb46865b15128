-- Definitions: what is read is what is spelled.
use Rattle.std.proofs.Common.{◌≡◌, ◌⊎◌, inl, inr, ℕ, List, Bool, ◌||◌, refl}
use Rattle.std.specs.Prelude.{codes}
use Rattle.idl_lex.specs.declared.kinds.TokenKind.{TokenKind}
use Rattle.idl_read.specs.Reading.{word_is}
use Rattle.idl_read.specs.Grammar.{Text, word, mark, ◌&◌, one_of, IsGrammar, Leads, Any}
use Rattle.idl_read.proofs.Grammars.{mapped_is, both_is}
use Rattle.idl_read.proofs.Leaves.{word_reads, mark_reads, leads_word, leads_either}
use Rattle.idl_read.proofs.Productions.{weaker, after_is, before_is, led_is, leads_after, leads_by}
use Rattle.onc_syntax.specs.declared.tree.Value.{Value}
use Rattle.onc_syntax.specs.declared.tree.Decl.{Decl}
use Rattle.onc_syntax.specs.declared.tree.Item.{Item}
use Rattle.onc_syntax.specs.declared.tree.Member.{Member}
use Rattle.onc_syntax.specs.declared.tree.Version.{Version}
use Rattle.onc_syntax.specs.declared.tree.Union.{Union as UnionDef}
use Rattle.onc_syntax.specs.declared.tree.Def.{Def}
use Rattle.onc_syntax.specs.declared.tree.Def.TheVariants as F
use Rattle.onc_syntax.specs.Derivation.{name, decl, def, value}
use Rattle.onc_syntax.specs.Readers.{const_at, def_of, def_at, ended_at}
use Rattle.onc_syntax.proofs.TypesRead.{is_name_grammar, value_is}
use Rattle.onc_syntax.proofs.DeclarationsRead.{DeclMay, decl_is, decl_stops}
use Rattle.onc_syntax.proofs.StructuresRead.{enum_is, enum_text, struct_is, struct_text}
use Rattle.onc_syntax.proofs.UnionsRead.{leads_union, union_is, union_text}
use Rattle.onc_syntax.proofs.ProgramsRead.{program_is, program_text}

abbrev const_text : List ℕ × Value → Text
const_text x = name x.0 & (mark (codes "=") & value x.1)

const_is : IsGrammar const_at const_text Any
unfolding const_at
const_is = both_is is_name_grammar (after_is (mark_reads (codes "=")) value_is) (λ b front rest t may. tt)

abbrev DefShape : Type 0
DefShape = Decl ⊎ (List ℕ × Value) ⊎ (List ℕ × (List Version × Value)) ⊎ (List ℕ × List Item) ⊎ (List ℕ × List Member) ⊎ UnionDef

abbrev text_5 : (List ℕ × List Member) ⊎ UnionDef → Text
text_5 = one_of (λ x. word (codes "struct") & struct_text x) (λ x. word (codes "union") & union_text x)

abbrev text_4 : (List ℕ × List Item) ⊎ (List ℕ × List Member) ⊎ UnionDef → Text
text_4 = one_of (λ x. word (codes "enum") & enum_text x) text_5

abbrev text_3 : (List ℕ × (List Version × Value)) ⊎ (List ℕ × List Item) ⊎ (List ℕ × List Member) ⊎ UnionDef → Text
text_3 = one_of (λ x. word (codes "program") & program_text x) text_4

abbrev text_2 : (List ℕ × Value) ⊎ (List ℕ × (List Version × Value)) ⊎ (List ℕ × List Item) ⊎ (List ℕ × List Member) ⊎ UnionDef → Text
text_2 = one_of (λ x. word (codes "const") & const_text x) text_3

abbrev def_text : DefShape → Text
def_text = one_of (λ x. word (codes "typedef") & decl x) text_2

def_forth : (x : DefShape) (ks : List TokenKind) → def_text x ks → def (def_of x) ks
def_forth (inl d) ks s = s
def_forth (inr (inl x)) ks s = s
def_forth (inr (inr (inl x))) ks s = s
def_forth (inr (inr (inr (inl x)))) ks s = s
def_forth (inr (inr (inr (inr (inl x))))) ks s = s
def_forth (inr (inr (inr (inr (inr u))))) ks s = s

def_back : (d : Def) (ks : List TokenKind) → def d ks → (x : DefShape) × (def_of x ≡ d) × def_text x ks
def_back (F.Typedef d) ks s = (inl d, refl, s)
def_back (F.Const n v) ks s = (inr (inl (n, v)), refl, s)
def_back (F.Program n vs v) ks s = (inr (inr (inl (n, (vs, v)))), refl, s)
def_back (F.Enum n is) ks s = (inr (inr (inr (inl (n, is)))), refl, s)
def_back (F.Struct n ms) ks s = (inr (inr (inr (inr (inl (n, ms))))), refl, s)
def_back (F.Union u) ks s = (inr (inr (inr (inr (inr u)))), refl, s)

leads_5 : Leads text_5 (λ k. word_is (codes "struct") k || word_is (codes "union") k)
leads_5 = leads_either (leads_after struct_text (leads_word (codes "struct"))) leads_union

leads_4 : Leads text_4 (λ k. word_is (codes "enum") k || (word_is (codes "struct") k || word_is (codes "union") k))
leads_4 = leads_either (leads_after enum_text (leads_word (codes "enum"))) leads_5

leads_3 : Leads text_3
    (λ k. word_is (codes "program") k || (word_is (codes "enum") k || (word_is (codes "struct") k || word_is (codes "union") k)))
leads_3 = leads_either (leads_after program_text (leads_word (codes "program"))) leads_4

leads_2 : Leads text_2 (λ k. word_is (codes "const") k
    || (word_is (codes "program") k || (word_is (codes "enum") k || (word_is (codes "struct") k || word_is (codes "union") k))))
leads_2 = leads_either (leads_after const_text (leads_word (codes "const"))) leads_3

def_is : IsGrammar def_at def DeclMay
unfolding def_at
def_is = mapped_is def_of def
    (led_is (codes "typedef") decl_is
    (weaker
    (led_is (codes "const") const_is
    (led_is (codes "program") program_is
    (led_is (codes "enum") enum_is
    (led_is (codes "struct") struct_is (after_is (word_reads (codes "union")) union_is) leads_union refl)
    leads_5 refl)
    leads_4 refl)
    leads_3 refl)
    (λ rest may. tt))
    leads_2 refl)
    def_forth def_back

pub ended_is : IsGrammar ended_at (λ d. def d & mark (codes ";")) Any
unfolding ended_at
ended_is = before_is def_is (mark_reads (codes ";")) decl_stops

abbrev pub is_def : TokenKind → Bool
is_def k = word_is (codes "typedef") k || (word_is (codes "const") k
    || (word_is (codes "program") k || (word_is (codes "enum") k || (word_is (codes "struct") k || word_is (codes "union") k))))

pub leads_def : Leads def is_def
leads_def = leads_by def_of def_back (leads_either (leads_after decl (leads_word (codes "typedef"))) leads_2)
