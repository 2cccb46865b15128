-- The words of the grammar, which are taken in any letter case.
use Rattle.std.specs.Prelude.{◌≡◌, Bool, false, ◌||◌, List, [], ◌∷◌, ℕ, Option, Some, None, is_some, codes, if◌then◌else◌}
use Rattle.std.specs.Str.{bytes_eq, str_to_ascii_lowercase as lower}
use Rattle.idl_lex.specs.declared.kinds.TokenKind.{TokenKind}
use Rattle.idl_lex.specs.declared.kinds.TokenKind.TheVariants.{Name}
use Rattle.idl_read.specs.Reading.{Reader, word_is, token_at, only_if}
use Rattle.idl_read.specs.Grammar.{Text}

-- the words that the grammar quotes
abbrev pub mig_words : List (List ℕ)
mig_words = codes "subsystem" ∷ codes "type" ∷ codes "array" ∷ codes "of" ∷ codes "struct" ∷ codes "routine"
    ∷ codes "simpleroutine" ∷ codes "skip" ∷ codes "requestport" ∷ codes "in" ∷ codes "out" ∷ codes "inout"
    ∷ codes "userprefix" ∷ codes "serverprefix" ∷ codes "import" ∷ codes "uimport" ∷ codes "simport" ∷ []

-- whether a name in lower case is one of the words
abbrev pub is_one_of : List ℕ → List (List ℕ) → Bool
is_one_of m [] = false
is_one_of m (w ∷ ws) = bytes_eq m (lower w) || is_one_of m ws

-- ---- texts

-- a word in any letter case
abbrev pub like : List ℕ → Text
like w ks = (n : List ℕ) × (ks ≡ Name n ∷ []) × (lower n ≡ lower w)

-- identifier = a name that is a word in no letter case; it keeps its own
abbrev pub identifier : List ℕ → Text
identifier n ks = (ks ≡ Name n ∷ []) × (is_one_of (lower n) mig_words ≡ false)

-- ---- readers

-- a token with its name in lower case
abbrev pub folded : TokenKind → TokenKind
folded (Name n) = Name (lower n)
folded k = k

-- whether a token is this word
abbrev pub like_is : List ℕ → TokenKind → Bool
like_is w k = word_is (lower w) (folded k)

-- this word
abbrev pub like_at : List ℕ → Reader (Unit {0})
like_at w = token_at (only_if (like_is w))

-- what a word in lower case stands for in a table
abbrev pub lower_in : {A : Type 0} → List (List ℕ × A) → TokenKind → Option A
lower_in [] k = None
lower_in (e ∷ es) k = if word_is (lower e.0) k then Some e.1 else lower_in es k

-- what a word stands for in a table
abbrev pub like_in : {A : Type 0} → List (List ℕ × A) → TokenKind → Option A
like_in es k = lower_in es (folded k)

-- whether a token is a word of a table
abbrev pub has_like : {A : Type 0} → List (List ℕ × A) → TokenKind → Bool
has_like es k = is_some (lower_in es (folded k))

-- the name that a token is, if that is none of the words
abbrev pub named_in : List (List ℕ) → TokenKind → Option (List ℕ)
named_in ws (Name n) = if is_one_of (lower n) ws then None else Some n
named_in ws _ = None

-- the identifier that a token is
abbrev pub identifier_in : TokenKind → Option (List ℕ)
identifier_in = named_in mig_words

-- whether a token is an identifier
abbrev pub is_identifier : TokenKind → Bool
is_identifier k = is_some (identifier_in k)

-- an identifier
abbrev pub identifier_at : Reader (List ℕ)
identifier_at = token_at identifier_in
