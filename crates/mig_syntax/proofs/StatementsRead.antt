-- Statements, and the heading of a file: what is read is what is spelled.
use Rattle.std.proofs.Common.{◌≡◌, ◌⊎◌, inl, inr, ℕ, List, [], ◌∷◌, Some, Bool, ◌||◌, refl, ap}
use Rattle.std.specs.Prelude.{codes, is_some}
use Rattle.std.specs.Str.{str_to_ascii_lowercase as lower}
use Rattle.idl_lex.specs.declared.kinds.TokenKind.{TokenKind}
use Rattle.idl_lex.specs.declared.kinds.TokenKind.TheVariants as K
use Rattle.idl_read.specs.Reading.{word_is, begins_with}
use Rattle.idl_read.specs.Grammar.{Text, one, mark, ◌&◌, one_of, IsGrammar, Leads, Any}
use Rattle.idl_read.proofs.Grammars.{mapped_is, both_is, either_is}
use Rattle.idl_read.proofs.Leaves.{token_is, mark_reads, leads_both, leads_either, begins_so, begins_not}
use Rattle.idl_read.proofs.Productions.{after_is, before_is, leads_after, leads_by}
use Rattle.idl_exprs.specs.Trees.{Tree}
use Rattle.mig_syntax.specs.Words.{like, identifier, like_is, lower_in, has_like}
use Rattle.mig_syntax.specs.Derivation.{type_form, routine, side_spell, importer_spell, body, statement, heading}
use Rattle.mig_syntax.specs.StatementReaders.{routine_words, side_words, importer_words, file_in, definition_at, prefix_at, import_at, body_of, body_at, statement_at, heading_at}
use Rattle.mig_syntax.specs.declared.tree.TypeForm.{TypeForm}
use Rattle.mig_syntax.specs.declared.tree.Routine.{Routine}
use Rattle.mig_syntax.specs.declared.tree.Side.{Side}
use Rattle.mig_syntax.specs.declared.tree.Side.TheVariants as S
use Rattle.mig_syntax.specs.declared.tree.Importer.{Importer}
use Rattle.mig_syntax.specs.declared.tree.Importer.TheVariants as I
use Rattle.mig_syntax.specs.declared.tree.Statement.{Statement}
use Rattle.mig_syntax.specs.declared.tree.Statement.TheVariants as V
use Rattle.idl_exprs.specs.declared.languages.Language.TheVariants.{Mig}
use Rattle.idl_exprs.proofs.Ending.{before_mark}
use Rattle.idl_exprs.proofs.ExpressionsRead.{mig_expression_is}
use Rattle.mig_syntax.proofs.WordsRead.{like_reads, leads_like, likes_are, leads_likes, identifier_reads, apart_like, apart_likes}
use Rattle.mig_syntax.proofs.TypesRead.{type_is}
use Rattle.mig_syntax.proofs.RoutinesRead.{routine_is, leads_routine}

-- ---- parts

abbrev definition_text : List ℕ × TypeForm → Text
definition_text x = like (codes "type") & (identifier x.0 & (mark (codes "=") & type_form x.1))

definition_is : IsGrammar definition_at definition_text Any
unfolding definition_at
definition_is =
    after_is (like_reads (codes "type"))
    (both_is identifier_reads (after_is (mark_reads (codes "=")) type_is) (λ b front rest t may. tt))

leads_definition : Leads definition_text (like_is (codes "type"))
leads_definition = leads_after (λ (x : List ℕ × TypeForm). identifier x.0 & (mark (codes "=") & type_form x.1)) (leads_like (codes "type"))

side_back : (s : Side) → lower_in side_words (K.Name (lower (side_spell s))) ≡ Some s
side_back S.User = refl
side_back S.Server = refl

abbrev prefix_text : Side × List ℕ → Text
prefix_text x = like (side_spell x.0) & identifier x.1

prefix_is : IsGrammar prefix_at prefix_text Any
unfolding prefix_at
prefix_is = both_is (likes_are side_words side_spell side_back (refl, (refl, tt))) identifier_reads (λ b front rest t may. tt)

leads_prefix : Leads prefix_text (has_like side_words)
leads_prefix = leads_both identifier (leads_likes side_words side_spell side_back)

importer_back : (i : Importer) → lower_in importer_words (K.Name (lower (importer_spell i))) ≡ Some i
importer_back I.Both = refl
importer_back I.User = refl
importer_back I.Server = refl

abbrev file_text : List ℕ → Text
file_text f = one (K.FileName f)

file_named : (k : TokenKind) (f : List ℕ) → file_in k ≡ Some f → file_text f (k ∷ [])
file_named (K.FileName g) f e = let is : g ≡ f = cc in ap (λ z. K.FileName z ∷ []) is
file_named (K.Number n) f e = absurd cc
file_named (K.Char n) f e = absurd cc
file_named (K.Text n) f e = absurd cc
file_named (K.Name n) f e = absurd cc
file_named (K.Mark n) f e = absurd cc

abbrev import_text : Importer × List ℕ → Text
import_text x = like (importer_spell x.0) & file_text x.1

import_is : IsGrammar import_at import_text Any
unfolding import_at
import_is = both_is (likes_are importer_words importer_spell importer_back (refl, (refl, (refl, tt))))
    (token_is file_in file_text file_named (λ f ks s. (K.FileName f, s, refl))) (λ b front rest t may. tt)

leads_import : Leads import_text (has_like importer_words)
leads_import = leads_both file_text (leads_likes importer_words importer_spell importer_back)

-- ---- statements

abbrev Shape : Type 0
Shape = (List ℕ × TypeForm) ⊎ Routine ⊎ (Side × List ℕ) ⊎ (Importer × List ℕ) ⊎ Unit {0}

abbrev skip_text : Unit {0} → Text
skip_text _ = like (codes "skip")

abbrev text_4 : (Importer × List ℕ) ⊎ Unit {0} → Text
text_4 = one_of import_text skip_text

abbrev text_3 : (Side × List ℕ) ⊎ (Importer × List ℕ) ⊎ Unit {0} → Text
text_3 = one_of prefix_text text_4

abbrev text_2 : Routine ⊎ (Side × List ℕ) ⊎ (Importer × List ℕ) ⊎ Unit {0} → Text
text_2 = one_of routine text_3

abbrev shape_text : Shape → Text
shape_text = one_of definition_text text_2

forth : (x : Shape) (ks : List TokenKind) → shape_text x ks → body (body_of x) ks
forth (inl x) ks s = s
forth (inr (inl r)) ks s = s
forth (inr (inr (inl x))) ks s = s
forth (inr (inr (inr (inl x)))) ks s = s
forth (inr (inr (inr (inr x)))) ks s = s

back : (b : Statement) (ks : List TokenKind) → body b ks → (x : Shape) × (body_of x ≡ b) × shape_text x ks
back (V.Type n t) ks s = (inl (n, t), refl, s)
back (V.Routine r) ks s = (inr (inl r), refl, s)
back (V.Prefix side n) ks s = (inr (inr (inl (side, n))), refl, s)
back (V.Import i f) ks s = (inr (inr (inr (inl (i, f)))), refl, s)
back V.Skip ks s = (inr (inr (inr (inr tt))), refl, s)

-- what each begins with, in lower case
abbrev low_5 : TokenKind → Bool
low_5 k = word_is (lower (codes "skip")) k

abbrev low_4 : TokenKind → Bool
low_4 k = is_some (lower_in importer_words k) || low_5 k

abbrev low_3 : TokenKind → Bool
low_3 k = is_some (lower_in side_words k) || low_4 k

abbrev low_2 : TokenKind → Bool
low_2 k = is_some (lower_in routine_words k) || low_3 k

abbrev is_4 : TokenKind → Bool
is_4 k = has_like importer_words k || like_is (codes "skip") k

abbrev is_3 : TokenKind → Bool
is_3 k = has_like side_words k || is_4 k

abbrev is_2 : TokenKind → Bool
is_2 k = has_like routine_words k || is_3 k

-- whether a token begins a statement
abbrev pub is_statement : TokenKind → Bool
is_statement k = like_is (codes "type") k || is_2 k

leads_4 : Leads text_4 is_4
leads_4 = leads_either leads_import (leads_like (codes "skip"))

leads_3 : Leads text_3 is_3
leads_3 = leads_either leads_prefix leads_4

leads_2 : Leads text_2 is_2
leads_2 = leads_either leads_routine leads_3

body_is : IsGrammar body_at body Any
unfolding body_at
body_is = mapped_is body_of body
    (either_is (begins_with (like_is (codes "type"))) definition_is
    (either_is (begins_with (has_like routine_words)) routine_is
    (either_is (begins_with (has_like side_words)) prefix_is
    (either_is (begins_with (has_like importer_words)) import_is (like_reads (codes "skip"))
    (λ x front rest s may. begins_so leads_import x front rest s)
    (λ x front rest s may.
    begins_not (has_like importer_words) (leads_like (codes "skip")) (apart_likes low_5 importer_words (refl, (refl, (refl, tt)))) x
    front rest s))
    (λ x front rest s may. begins_so leads_prefix x front rest s)
    (λ x front rest s may. begins_not (has_like side_words) leads_4 (apart_likes low_4 side_words (refl, (refl, tt))) x front rest s))
    (λ x front rest s may. begins_so leads_routine x front rest s)
    (λ x front rest s may. begins_not (has_like routine_words) leads_3 (apart_likes low_3 routine_words (refl, (refl, tt))) x front rest s))
    (λ x front rest s may. begins_so leads_definition x front rest s)
    (λ x front rest s may. begins_not (like_is (codes "type")) leads_2 (apart_like low_2 (codes "type") refl) x front rest s))
    forth back

leads_body : Leads body is_statement
leads_body = leads_by body_of back (leads_either leads_definition leads_2)

pub statement_is : IsGrammar statement_at statement Any
unfolding statement_at
statement_is = before_is body_is (mark_reads (codes ";")) (λ front rest s. tt)

pub leads_statement : Leads statement is_statement
leads_statement b ks s = leads_both (λ (_ : Unit {0}). mark (codes ";")) leads_body (b, tt) ks s

-- ---- the heading

abbrev pub heading_text : List ℕ × Tree → Text
heading_text x = heading x.0 x.1

pub heading_is : IsGrammar heading_at heading_text Any
unfolding heading_at
heading_is = after_is (like_reads (codes "subsystem")) (both_is identifier_reads
    (before_is (mig_expression_is 32) (mark_reads (codes ";"))
    (before_mark Mig (codes ";") refl refl))
    (λ b front rest t may. tt))
