-- What each function of the parser reads: a tool beside Spelling, tied to it in proofs/.
use Rattle.std.specs.Prelude.{Bool, true, false, ◌&&◌, ◌||◌, ◌⊎◌, ℕ, zero, suc, List, [], ◌∷◌, drop, Option, Some, None, codes, if◌then◌else◌}
use Rattle.std.proofs.Common.{inl, inr}
use Rattle.idl_lex.specs.declared.kinds.Token.{Token}
use Rattle.idl_lex.specs.declared.kinds.TokenKind.{TokenKind}
use Rattle.idl_read.specs.Reading.{Reader, then_on, map_read, word_is, mark_is, word_at, mark_at, token_at, word_in, has_word, begins_with, both, mapped, either, option, after}
use Rattle.idl_exprs.specs.Trees.{Tree}
use Rattle.idl_exprs.specs.declared.tree.ScopedName.{ScopedName}
use Rattle.idl_exprs.specs.Readers.{scoped_at, expression_at}
use Rattle.corba_decls.specs.declared.type_tree.IntSize.{IntSize}
use Rattle.corba_decls.specs.declared.type_tree.IntSize.TheVariants.{Short, Long, LongLong}
use Rattle.corba_decls.specs.declared.type_tree.Int.{Int}
use Rattle.corba_decls.specs.declared.type_tree.Simple.{Simple}
use Rattle.corba_decls.specs.declared.type_tree.Simple.TheVariants as S
use Rattle.corba_decls.specs.declared.type_tree.Base.{Base}
use Rattle.corba_decls.specs.declared.type_tree.Base.TheVariants as B

-- ---- integer types

abbrev pub size_of : Unit {0} ⊎ Option (Unit {0}) → IntSize
size_of (inl _) = Short
size_of (inr None) = Long
size_of (inr (Some _)) = LongLong

-- the size of an integer type
abbrev pub size_at : Reader IntSize
size_at = mapped size_of (either (begins_with (word_is (codes "short"))) (word_at (codes "short"))
    (after (word_at (codes "long")) (option (begins_with (word_is (codes "long"))) (word_at (codes "long")))))

abbrev pub int_of : IntSize ⊎ IntSize → Int
int_of (inl s) = record { unsigned = true; size = s }
int_of (inr s) = record { unsigned = false; size = s }

-- an integer type
unfoldable pub int_at : Reader Int
int_at = mapped int_of (either (begins_with (word_is (codes "unsigned"))) (after (word_at (codes "unsigned")) size_at) size_at)

-- whether a token begins an integer type
abbrev pub is_int : TokenKind → Bool
is_int k = word_is (codes "unsigned") k || (word_is (codes "short") k || word_is (codes "long") k)

-- ---- types that are not sequences

-- the types of one word
abbrev pub simple_words : List (List ℕ × Simple)
simple_words =
    (codes "char", S.Char) ∷ (codes "boolean", S.Boolean) ∷ (codes "octet", S.Octet) ∷ (codes "float", S.Float) ∷ (codes "double", S.Double)
    ∷ (codes "wchar", S.Wchar) ∷ (codes "wstring", S.Wstring) ∷ (codes "any", S.Any) ∷ (codes "Object", S.Object) ∷ []

-- the type of one word that a token is
abbrev pub simple_in : TokenKind → Option Simple
simple_in = word_in simple_words

abbrev pub is_simple : TokenKind → Bool
is_simple = has_word simple_words

-- whether `long double` comes first
abbrev pub is_long_double : List Token → Bool
is_long_double ts = begins_with (word_is (codes "long")) ts && begins_with (word_is (codes "double")) (drop 1 ts)

abbrev pub plain_of : Simple ⊎ Unit {0} ⊎ Int ⊎ ScopedName → Base
plain_of (inl s) = B.Simple s
plain_of (inr (inl _)) = B.LongDouble
plain_of (inr (inr (inl i))) = B.Int i
plain_of (inr (inr (inr n))) = B.Name n

-- a type that is not a sequence or a string
unfoldable pub plain_at : Reader Base
plain_at = mapped plain_of (
    either (begins_with is_simple) (token_at simple_in)
    (either is_long_double (after (word_at (codes "long")) (word_at (codes "double")))
    (either (begins_with is_int) int_at scoped_at)))

-- the mark that ends a string or a sequence, and whether it ends the sequence around it too
abbrev pub close_in : TokenKind → Option Bool
close_in k = if mark_is (codes ">") k then Some false else if mark_is (codes ">>") k then Some true else None

abbrev pub string_of : Option (Tree × Bool) → Base × Bool
string_of None = (B.Text None, false)
string_of (Some x) = (B.Text (Some x.0), x.1)

-- what follows `string`, and whether its last mark ends the sequence around it too
unfoldable pub string_at : ℕ → Reader (Base × Bool)
string_at n = mapped string_of
    (option (begins_with (mark_is (codes "<"))) (after (mark_at (codes "<")) (both (expression_at n true) (token_at close_in))))

-- ---- types

-- a type, and whether its last mark ends the sequence around it too
abbrev pub Typed : Type 0
Typed = (List (Option Tree) × Base) × Bool

abbrev pub base_of : (Base × Bool) ⊎ Base → Typed
base_of (inl x) = (([], x.0), x.1)
base_of (inr b) = (([], b), false)

-- a type that is not a sequence
unfoldable pub base_at : ℕ → Reader Typed
base_at n = mapped base_of (either (begins_with (word_is (codes "string"))) (after (word_at (codes "string")) (string_at n)) plain_at)

-- the bound of a sequence, and whether the mark that ends it ends the sequence around it too
unfoldable pub bound_at : ℕ → Reader (Option Tree × Bool)
bound_at n = both (option (begins_with (mark_is (codes ","))) (after (mark_at (codes ",")) (expression_at n true))) (token_at close_in)

-- a sequence of such elements
abbrev pub sequence_of : Typed → Option Tree × Bool → Typed
sequence_of t b = ((b.0 ∷ t.0.0, t.0.1), b.1)

-- what follows an element: nothing where it shares its end with the sequence
abbrev pub ended_at : ℕ → Typed → Reader Typed
ended_at n t ts = if t.1 then Some (sequence_of t (None, false), ts) else map_read (sequence_of t) (bound_at n ts)

-- a sequence, or a type that is not one
abbrev pub type_by : Reader Typed → ℕ → Reader Typed
type_by element n ts =
    if begins_with (word_is (codes "sequence")) ts
    then after (word_at (codes "sequence")) (after (mark_at (codes "<")) (λ us. then_on (element us) (ended_at n))) ts
    else base_at n ts

-- a type within so many levels, and whether its last mark ends the sequence around it too
abbrev pub shared_at : ℕ → Reader Typed
shared_at zero ts = None
shared_at (suc n) ts = type_by (shared_at n) (suc n) ts

-- a type that has its own end
unfoldable pub type_at : ℕ → Reader (List (Option Tree) × Base)
type_at n ts = then_on (shared_at n ts) (λ t us. if t.1 then None else Some (t.0, us))
