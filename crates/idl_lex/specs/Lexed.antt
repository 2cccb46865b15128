-- The tokens of a text, or its first fault.
use Rattle.std.specs.Prelude.{◌≡◌, ◌≢◌, ◌⊎◌, ◌&&◌, ℕ, List, [], ◌∷◌, ◌++◌, length, take, Option, Some, None, if◌then◌else◌}
use Rattle.idl_lex.specs.Classes.{is_digit, begins}
use Rattle.idl_lex.specs.Numbers.{digit_count, is_number}
use Rattle.idl_lex.specs.Lines.{line_after, is_hash_line}
use Rattle.idl_lex.specs.Pieces.{Piece, octets_of, all_octets, kind_of, opens_comment, Stands, AllStand}
use Rattle.idl_lex.specs.declared.kinds.Front.{Front}
use Rattle.idl_lex.specs.declared.kinds.Token.{Token}
use Rattle.idl_lex.specs.declared.kinds.TokenKind.{TokenKind}
use Rattle.idl_lex.specs.declared.lexing.LexErr.{LexErr}
use Rattle.idl_lex.specs.declared.lexing.LexErr.TheVariants.{BadOctet, OpenComment, Wide, Directive, NoMemory}

-- the token of a kind on a line, where there is one
abbrev pub token_on : ℕ → Option TokenKind → List Token
token_on line None = []
token_on line (Some kind) = record { kind = kind; line = line } ∷ []

-- the tokens of pieces that follow other pieces
abbrev pub tokens_after : List Piece → List Piece → List Token
tokens_after before [] = []
tokens_after before (p ∷ ps) = token_on (line_after (all_octets before)) (kind_of p) ++ tokens_after (before ++ p ∷ []) ps

-- pieces are those of a whole text
abbrev pub ArePieces : Front → List ℕ → List Piece → Type 0
ArePieces front text pieces = (text ≡ all_octets pieces) × AllStand front [] pieces []

-- the fault of a place at which no piece begins: `/*` that is not closed, a number that is too large, a `#` line that is not a line marker, or any other octet
abbrev pub fault_at : List ℕ → List ℕ → LexErr
fault_at before text =
    let at = length before in
    if opens_comment text then OpenComment at
    else if begins is_digit text && is_number (take (digit_count text) text) then Wide at
    else if is_hash_line before text then Directive at
    else BadOctet at

-- the first fault of a text: there are pieces up to its place, and none begins there
pub record IsFirstFault (front : Front) (text : List ℕ) (fault : LexErr) : Type 0 where
  pub pieces : List Piece
  pub rest : List ℕ
  pub parts : text ≡ all_octets pieces ++ rest
  pub stand : AllStand front [] pieces rest
  pub more : rest ≢ []
  pub none : (p : Piece) (after : List ℕ) → rest ≡ octets_of p ++ after → Stands front pieces p after → ⊥
  pub cause : fault ≡ fault_at (all_octets pieces) rest

-- tokens are those of a whole text
abbrev pub AreTokens : Front → List ℕ → List Token → Type 0
AreTokens front text tokens = (pieces : List Piece) × ArePieces front text pieces × (tokens ≡ tokens_after [] pieces)

-- each text has tokens, or a first fault
abbrev pub TextsAreDecided : Front → Type 0
TextsAreDecided front = (text : List ℕ)
    → ((tokens : List Token) × AreTokens front text tokens) ⊎ ((fault : LexErr) × IsFirstFault front text fault)

-- why a text has no tokens; being out of memory says nothing of it
abbrev pub Explains : Front → List ℕ → LexErr → Type 0
Explains front text NoMemory = Unit {0}
Explains front text fault = IsFirstFault front text fault
