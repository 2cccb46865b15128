-- What each function of the lexer reads.
use Rattle.std.specs.Prelude.{◌≡◌, ◌==◌, false, nat_lt, ℕ, ◌+◌, ◌-◌, ◌^◌, List, Bool, length, take, drop, Option, Some, None, Result, Ok, Err, if◌then◌else◌}
use Rattle.std.specs.List.{prefix_len}
use Rattle.idl_lex.specs.Classes.{is_blank, is_in_line, is_letter, is_digit, is_word_octet, begins}
use Rattle.idl_lex.specs.Numbers.{digit_count, is_number, value_of}
use Rattle.idl_lex.specs.Lines.{is_hash_line, is_skipped}
use Rattle.idl_lex.specs.Quotes.{is_single, opens_quote, character_at, string_count, spelled}
use Rattle.idl_lex.specs.Files.{file_count}
use Rattle.idl_lex.specs.Pieces.{Piece, blanks, comment, skipped_line, name, number, character, string, file_name, mark, octets_of, kind_of, opens_comment, count_to_close, mark_count}
use Rattle.idl_lex.specs.declared.kinds.Front.{Front}
use Rattle.idl_lex.specs.declared.kinds.TokenKind.{TokenKind}
use Rattle.idl_lex.specs.declared.lexing.LexErr.{LexErr}
use Rattle.idl_lex.specs.declared.lexing.LexErr.TheVariants.{BadOctet, OpenComment, Wide, Directive, NoMemory}

-- what is answered is this, unless memory ran out
abbrev pub Gives : {X : Type 0} → Result X LexErr → Result X LexErr → Type 0
Gives (Err NoMemory) read = Unit {0}
Gives answer read = read ≡ answer

-- a piece, or a fault
abbrev pub Read : Type 0
Read = Result Piece LexErr

-- the kind of the token that a piece is, and how many octets the piece has
abbrev pub shown : Read → Result (Option TokenKind × ℕ) LexErr
shown (Ok p) = Ok (kind_of p, length (octets_of p))
shown (Err e) = Err e

abbrev pub comment_of : ℕ → List ℕ → Option ℕ → Read
comment_of at text None = Err (OpenComment at)
comment_of at text (Some n) = Ok (comment (take (2 + n) text))

abbrev pub number_of : ℕ → List ℕ → Read
number_of at os = if is_number os then if nat_lt (value_of os) (2 ^ 127) then Ok (number os) else Err (Wide at) else Err (BadOctet at)

abbrev pub character_of : ℕ → List ℕ → Option (ℕ × ℕ) → Read
character_of at text None = Err (BadOctet at)
character_of at text (Some x) = Ok (character x.0 (take x.1 text))

abbrev pub string_of : ℕ → List ℕ → Option ℕ → Read
string_of at text None = Err (BadOctet at)
string_of at text (Some n) = Ok (string (spelled false (take (n - 1) (drop 1 text))) (take (1 + n) text))

-- a character or a string
abbrev pub quoted_of : ℕ → List ℕ → Read
quoted_of at text = if begins is_single text then character_of at text (character_at text)
    else string_of at text (string_count false (drop 1 text))

abbrev pub mark_of : List ℕ → List ℕ → ℕ → Read
mark_of before text n =
    if n == 0 then if is_hash_line before text then Err (Directive (length before)) else Err (BadOctet (length before))
    else Ok (mark (take n text))

-- a file name, or a mark where none comes first
abbrev pub file_of : List ℕ → List ℕ → Option ℕ → Read
file_of before text None = mark_of before text (mark_count text)
file_of before text (Some n) = Ok (file_name (take n (drop 1 text)) (take (2 + n) text))

-- the piece that comes first in a text; `imports`: whether the last token before it imports
abbrev pub piece_at : Front → Bool → List ℕ → List ℕ → Read
piece_at front imports before text =
    if begins is_blank text then Ok (blanks (take (prefix_len is_blank text) text))
    else if opens_comment text then comment_of (length before) text (count_to_close (drop 2 text))
    else if begins is_letter text then Ok (name (take (prefix_len is_word_octet text) text))
    else if begins is_digit text then number_of (length before) (take (digit_count text) text)
    else if is_skipped front before text then Ok (skipped_line (take (prefix_len is_in_line text) text))
    else if opens_quote front text then quoted_of (length before) text
    else file_of before text (file_count front imports text)
