-- Types: what is read is what is spelled.
use Rattle.std.proofs.Common.{◌≡◌, ◌⊎◌, inl, inr, ℕ, zero, suc, List, Bool, true, false, ◌||◌, refl}
use Rattle.std.specs.Prelude.{codes}
use Rattle.idl_lex.specs.declared.kinds.TokenKind.{TokenKind}
use Rattle.idl_read.specs.Reading.{mark_is, mark_at, word_is, begins_with, after}
use Rattle.idl_read.specs.Grammar.{Text, mark, ◌&◌, one_of, IsGrammar, Leads, Any}
use Rattle.idl_read.proofs.Grammars.{mapped_is, both_is, either_is}
use Rattle.idl_read.proofs.Leaves.{mark_reads, leads_mark, leads_both, leads_either, begins_so, begins_not, Apart, apart_mark}
use Rattle.idl_read.proofs.Productions.{after_is, before_is, leads_after}
use Rattle.idl_exprs.specs.declared.languages.Language.TheVariants.{Mig}
use Rattle.idl_exprs.specs.Trees.{Tree, leaf, unary, binary}
use Rattle.idl_exprs.specs.Spelling.{binary_spell, looseness, within, mig_expression}
use Rattle.idl_exprs.proofs.LeavesRead.{is_leaf, leads_leaf_in}
use Rattle.idl_exprs.proofs.Ending.{closed_by, before_mark}
use Rattle.idl_exprs.proofs.ExpressionsRead.{mig_expression_is}
use Rattle.mig_syntax.specs.Words.{like, identifier, like_is, like_at, is_identifier}
use Rattle.mig_syntax.specs.Derivation.{row, type_form}
use Rattle.mig_syntax.specs.StatementReaders.{Row, row_at, sized_at, array_at, type_of, type_at}
use Rattle.mig_syntax.specs.declared.tree.TypeForm.{TypeForm}
use Rattle.mig_syntax.specs.declared.tree.TypeForm.TheVariants as T
use Rattle.mig_syntax.proofs.WordsRead.{like_reads, leads_like, identifier_reads, leads_identifier, apart_like, apart_identifier, either_apart}

-- ---- parts

abbrev row_text : Row → Text
row_text x = row x.0 x.1

abbrev row_end : List ℕ → Text
row_end n = mark (codes "]") & (like (codes "of") & identifier n)

row_is : IsGrammar row_at row_text Any
unfolding row_at
row_is = both_is (mig_expression_is 32) (after_is (mark_reads (codes "]")) (after_is (like_reads (codes "of")) identifier_reads))
    (λ n front rest s may.
    closed_by {S = row_end} Mig (codes "]") refl refl
    (leads_after (λ n. like (codes "of") & identifier n) (leads_mark (codes "]"))) n front rest s)

abbrev sized_text : List ℕ × Tree → Text
sized_text x = mark (codes "(") & (identifier x.0 & (mark (codes ",") & (mig_expression 31 x.1 & mark (codes ")"))))

sized_is : IsGrammar sized_at sized_text Any
unfolding sized_at
sized_is = after_is (mark_reads (codes "(")) (both_is identifier_reads
    (after_is (mark_reads (codes ","))
    (before_is (mig_expression_is 31) (mark_reads (codes ")"))
    (before_mark Mig (codes ")") refl refl)))
    (λ b front rest t may. tt))

abbrev starred_text : Row → Text
starred_text x = mark (codes "*") & (mark (codes ":") & row_text x)

abbrev length_text : Row ⊎ Row → Text
length_text = one_of starred_text row_text

abbrev array_text : Row ⊎ Row → Text
array_text x = like (codes "array") & (mark (codes "[") & length_text x)

-- an expression begins with a leaf or a `(`
abbrev is_operand : TokenKind → Bool
is_operand k = mark_is (codes "(") k || is_leaf k

leads_within : (n loose : ℕ) → Leads (within Mig n loose) is_operand
leads_within = leads where
  or_first : (a b : Bool) → a ≡ true → (a || b) ≡ true
  or_first true b e = refl
  or_first false b e = absurd cc

  or_last : (a b : Bool) → b ≡ true → (a || b) ≡ true
  or_last true b e = refl
  or_last false b e = e

  leads : (n loose : ℕ) → Leads (within Mig n loose) is_operand
  leads zero loose t ks s = absurd s
  leads (suc n) loose t ks (inr p) = let x =
      leads_after {P = mark (codes "(")}
      (λ (t : Tree).
      within Mig n 6 t & mark (codes ")")) (leads_mark (codes "(")) t ks p
      in (x.0, x.1, x.2, or_first (mark_is (codes "(") x.0) (is_leaf x.0) x.3)
  leads (suc n) loose (leaf l) ks (inl s) =
      let x = leads_leaf_in Mig l ks s in (x.0, x.1, x.2, or_last (mark_is (codes "(") x.0) (is_leaf x.0) x.3)
  leads (suc n) loose (unary op a) ks (inl s) = let no : false ≡ true = s.0 in absurd cc
  leads (suc n) loose (binary op a b) ks (inl s) =
      leads_both (λ (t : Tree). mark (binary_spell op) & within Mig n (looseness op) t) (leads n (suc (looseness op))) (a, b) ks s.1

leads_row : Leads row_text is_operand
leads_row x ks s = leads_both row_end (leads_within 32 6) x ks s

array_is : IsGrammar array_at array_text Any
unfolding array_at
array_is = after_is (like_reads (codes "array")) (after_is (mark_reads (codes "["))
    (either_is (begins_with (mark_is (codes "*"))) (after_is (mark_reads (codes "*")) (after_is (mark_reads (codes ":")) row_is)) row_is
    (λ x front rest s may. begins_so (leads_after (λ (x : Row). mark (codes ":") & row_text x) (leads_mark (codes "*"))) x front rest s)
    (λ x front rest s may. begins_not (mark_is (codes "*")) leads_row (apart_mark is_operand (codes "*") refl) x front rest s)))

abbrev struct_text : Row → Text
struct_text x = like (codes "struct") & (mark (codes "[") & row_text x)

struct_is : IsGrammar (after (like_at (codes "struct")) (after (mark_at (codes "[")) row_at)) struct_text Any
struct_is = after_is (like_reads (codes "struct")) (after_is (mark_reads (codes "[")) row_is)

-- ---- types

abbrev Shape : Type 0
Shape = (List ℕ × Tree) ⊎ (Row ⊎ Row) ⊎ Row ⊎ List ℕ

abbrev text_3 : Row ⊎ List ℕ → Text
text_3 = one_of struct_text identifier

abbrev text_2 : (Row ⊎ Row) ⊎ Row ⊎ List ℕ → Text
text_2 = one_of array_text text_3

abbrev shape_text : Shape → Text
shape_text = one_of sized_text text_2

forth : (x : Shape) (ks : List TokenKind) → shape_text x ks → type_form (type_of x) ks
forth (inl x) ks s = s
forth (inr (inl (inl x))) ks s = s
forth (inr (inl (inr x))) ks s = s
forth (inr (inr (inl x))) ks s = s
forth (inr (inr (inr n))) ks s = s

back : (t : TypeForm) (ks : List TokenKind) → type_form t ks → (x : Shape) × (type_of x ≡ t) × shape_text x ks
back (T.Named n) ks s = (inr (inr (inr n)), refl, s)
back (T.Sized n e) ks s = (inl (n, e), refl, s)
back (T.Array e n) ks s = (inr (inl (inr (e, n))), refl, s)
back (T.VariableArray e n) ks s = (inr (inl (inl (e, n))), refl, s)
back (T.Struct e n) ks s = (inr (inr (inl (e, n))), refl, s)

abbrev is_3 : TokenKind → Bool
is_3 k = like_is (codes "struct") k || is_identifier k

abbrev is_2 : TokenKind → Bool
is_2 k = like_is (codes "array") k || is_3 k

leads_struct : Leads struct_text (like_is (codes "struct"))
leads_struct = leads_after (λ (x : Row). mark (codes "[") & row_text x) (leads_like (codes "struct"))

leads_array : Leads array_text (like_is (codes "array"))
leads_array = leads_after (λ (x : Row ⊎ Row). mark (codes "[") & length_text x) (leads_like (codes "array"))

leads_3 : Leads text_3 is_3
leads_3 = leads_either leads_struct leads_identifier

leads_2 : Leads text_2 is_2
leads_2 = leads_either leads_array leads_3

apart_3 : Apart is_3 (like_is (codes "array"))
apart_3 = either_apart (like_is (codes "struct")) is_identifier (like_is (codes "array"))
    (apart_like (word_is (codes "struct")) (codes "array") refl) (apart_identifier (codes "array") refl)

pub type_is : IsGrammar type_at type_form Any
unfolding type_at
type_is = mapped_is type_of type_form
    (either_is (begins_with (mark_is (codes "("))) sized_is
    (either_is (begins_with (like_is (codes "array"))) array_is
    (either_is (begins_with (like_is (codes "struct"))) struct_is identifier_reads
    (λ x front rest s may. begins_so leads_struct x front rest s)
    (λ n front rest s may. begins_not (like_is (codes "struct")) leads_identifier (apart_identifier (codes "struct") refl) n front rest s))
    (λ x front rest s may. begins_so leads_array x front rest s)
    (λ x front rest s may. begins_not (like_is (codes "array")) leads_3 apart_3 x front rest s))
    (λ x front rest s may.
    begins_so
    (leads_after
    (λ (x : List ℕ × Tree).
    identifier x.0 & (mark (codes ",") & (mig_expression 31 x.1 & mark (codes ")")))) (leads_mark (codes "("))) x front rest s)
    (λ x front rest s may. begins_not (mark_is (codes "(")) leads_2 (apart_mark is_2 (codes "(") refl) x front rest s))
    forth back
