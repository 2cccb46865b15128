-- What each function of the parser of statements reads: a tool beside Derivation, tied to it in proofs/.
use Rattle.std.specs.Prelude.{Bool, true, false, ◌⊎◌, ℕ, List, [], ◌∷◌, Option, Some, None, codes}
use Rattle.std.proofs.Common.{inl, inr}
use Rattle.idl_lex.specs.declared.kinds.TokenKind.{TokenKind}
use Rattle.idl_lex.specs.declared.kinds.TokenKind.TheVariants.{FileName}
use Rattle.idl_read.specs.Reading.{Reader, mark_is, mark_at, token_at, begins_with, both, mapped, either, option, after, before, joined_at}
use Rattle.idl_exprs.specs.Trees.{Tree}
use Rattle.mig_syntax.specs.Words.{like_is, like_at, like_in, has_like, identifier_at}
use Rattle.idl_exprs.specs.Readers.{mig_expression_at}
use Rattle.mig_syntax.specs.declared.tree.TypeForm.{TypeForm}
use Rattle.mig_syntax.specs.declared.tree.TypeForm.TheVariants as T
use Rattle.mig_syntax.specs.declared.tree.Direction.{Direction}
use Rattle.mig_syntax.specs.declared.tree.Direction.TheVariants as D
use Rattle.mig_syntax.specs.declared.tree.Parameter.{Parameter}
use Rattle.mig_syntax.specs.declared.tree.Routine.{Routine}
use Rattle.mig_syntax.specs.declared.tree.Side.{Side}
use Rattle.mig_syntax.specs.declared.tree.Side.TheVariants as S
use Rattle.mig_syntax.specs.declared.tree.Importer.{Importer}
use Rattle.mig_syntax.specs.declared.tree.Importer.TheVariants as I
use Rattle.mig_syntax.specs.declared.tree.Statement.{Statement}
use Rattle.mig_syntax.specs.declared.tree.Statement.TheVariants as V

-- ---- types

-- a length and what has it
abbrev pub Row : Type 0
Row = Tree × List ℕ

-- a length, and the elements' type
unfoldable pub row_at : Reader Row
row_at = both (mig_expression_at 32) (after (mark_at (codes "]")) (after (like_at (codes "of")) identifier_at))

-- a type with its size
unfoldable pub sized_at : Reader (List ℕ × Tree)
sized_at = after (mark_at (codes "("))
    (both identifier_at (after (mark_at (codes ",")) (before (mig_expression_at 31) (mark_at (codes ")")))))

-- an array, of a greatest length or of a fixed one
unfoldable pub array_at : Reader (Row ⊎ Row)
array_at = after (like_at (codes "array")) (after (mark_at (codes "["))
    (either (begins_with (mark_is (codes "*"))) (after (mark_at (codes "*")) (after (mark_at (codes ":")) row_at)) row_at))

abbrev pub type_of : (List ℕ × Tree) ⊎ (Row ⊎ Row) ⊎ Row ⊎ List ℕ → TypeForm
type_of (inl x) = T.Sized x.0 x.1
type_of (inr (inl (inl x))) = T.VariableArray x.0 x.1
type_of (inr (inl (inr x))) = T.Array x.0 x.1
type_of (inr (inr (inl x))) = T.Struct x.0 x.1
type_of (inr (inr (inr n))) = T.Named n

-- a type
unfoldable pub type_at : Reader TypeForm
type_at = mapped type_of (either (begins_with (mark_is (codes "("))) sized_at
    (either (begins_with (like_is (codes "array"))) array_at (either (begins_with (like_is (codes "struct")))
    (after (like_at (codes "struct")) (after (mark_at (codes "[")) row_at)) identifier_at)))

-- ---- routines

-- the words of the directions
abbrev pub direction_words : List (List ℕ × Direction)
direction_words = (codes "requestport", D.RequestPort) ∷ (codes "in", D.In) ∷ (codes "out", D.Out) ∷ (codes "inout", D.InOut) ∷ []

abbrev pub parameter_of : Option Direction × (List ℕ × List ℕ) → Parameter
parameter_of x = record { direction = x.0; name = x.1.0; of = x.1.1 }

-- a parameter
unfoldable pub parameter_at : Reader Parameter
parameter_at = mapped parameter_of (both (option (begins_with (has_like direction_words)) (token_at (like_in direction_words)))
    (both identifier_at (after (mark_at (codes ":")) identifier_at)))

-- the words of the routines
abbrev pub routine_words : List (List ℕ × Bool)
routine_words = (codes "routine", false) ∷ (codes "simpleroutine", true) ∷ []

abbrev pub routine_of : Bool × (List ℕ × List Parameter) → Routine
routine_of x = record { simple = x.0; name = x.1.0; parameters = x.1.1 }

-- a routine
unfoldable pub routine_at : Reader Routine
routine_at = mapped routine_of (both (token_at (like_in routine_words))
    (both identifier_at (after (mark_at (codes "(")) (before (joined_at (codes ";") parameter_at) (mark_at (codes ")"))))))

-- ---- statements

-- the words of the prefixes
abbrev pub side_words : List (List ℕ × Side)
side_words = (codes "userprefix", S.User) ∷ (codes "serverprefix", S.Server) ∷ []

-- the words of the imports
abbrev pub importer_words : List (List ℕ × Importer)
importer_words = (codes "import", I.Both) ∷ (codes "uimport", I.User) ∷ (codes "simport", I.Server) ∷ []

-- the file that a token names
abbrev pub file_in : TokenKind → Option (List ℕ)
file_in (FileName f) = Some f
file_in _ = None

-- a definition of a type
unfoldable pub definition_at : Reader (List ℕ × TypeForm)
definition_at = after (like_at (codes "type")) (both identifier_at (after (mark_at (codes "=")) type_at))

-- a prefix
unfoldable pub prefix_at : Reader (Side × List ℕ)
prefix_at = both (token_at (like_in side_words)) identifier_at

-- an import
unfoldable pub import_at : Reader (Importer × List ℕ)
import_at = both (token_at (like_in importer_words)) (token_at file_in)

abbrev pub body_of : (List ℕ × TypeForm) ⊎ Routine ⊎ (Side × List ℕ) ⊎ (Importer × List ℕ) ⊎ Unit {0} → Statement
body_of (inl x) = V.Type x.0 x.1
body_of (inr (inl r)) = V.Routine r
body_of (inr (inr (inl x))) = V.Prefix x.0 x.1
body_of (inr (inr (inr (inl x)))) = V.Import x.0 x.1
body_of (inr (inr (inr (inr _)))) = V.Skip

-- a statement without its end
unfoldable pub body_at : Reader Statement
body_at = mapped body_of (either (begins_with (like_is (codes "type"))) definition_at
    (either (begins_with (has_like routine_words)) routine_at (either (begins_with (has_like side_words)) prefix_at
    (either (begins_with (has_like importer_words)) import_at (like_at (codes "skip"))))))

-- a statement
unfoldable pub statement_at : Reader Statement
statement_at = before body_at (mark_at (codes ";"))

-- a heading
unfoldable pub heading_at : Reader (List ℕ × Tree)
heading_at = after (like_at (codes "subsystem")) (both identifier_at (before (mig_expression_at 32) (mark_at (codes ";"))))
