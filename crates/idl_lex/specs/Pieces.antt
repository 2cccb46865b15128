-- The pieces of a text, and when octets are one.
use Rattle.std.specs.Prelude.{◌≡◌, Bool, true, false, ◌&&◌, ◌==◌, ℕ, suc, ◌+◌, ◌-◌, ◌^◌, ◌<◌, pos, List, [], ◌∷◌, ◌++◌, take, drop, Option, Some, None, codes, nat_eq, if◌then◌else◌}
use Rattle.std.specs.List.{list_any, take_while, starts_with}
use Rattle.std.specs.Option.{option_map}
use Rattle.idl_lex.specs.Classes.{is_blank, is_in_line, is_letter, is_digit, is_word_octet, begins}
use Rattle.idl_lex.specs.Numbers.{digit_count, is_number, value_of}
use Rattle.idl_lex.specs.Lines.{is_skipped}
use Rattle.idl_lex.specs.Quotes.{is_single, opens_quote, character_at, string_count, spelled}
use Rattle.idl_lex.specs.Files.{is_import, file_count}
use Rattle.idl_lex.specs.declared.kinds.Front.{Front}
use Rattle.idl_lex.specs.declared.kinds.TokenKind.{TokenKind}
use Rattle.idl_lex.specs.declared.kinds.TokenKind.TheVariants.{Name, Number, Char, Text, FileName, Mark}

-- a text that begins a comment
abbrev pub opens_comment : List ℕ → Bool
opens_comment text = starts_with nat_eq text (codes "/*")

-- how many octets there are up to the first `*/` and with it, where there is one
abbrev pub count_to_close : List ℕ → Option ℕ
count_to_close [] = None
count_to_close (o ∷ os) = if starts_with nat_eq (o ∷ os) (codes "*/") then Some 2 else option_map suc (count_to_close os)

-- an octet that is a mark
abbrev pub is_mark_octet : ℕ → Bool
is_mark_octet o = list_any (λ m. o == m) (codes "{}[]()<>;:,=*+-/%|^&")

-- an octet that is a mark twice, too
abbrev pub is_twin_octet : ℕ → Bool
is_twin_octet o = list_any (λ m. o == m) (codes ":<>")

-- a text that begins with a mark of two octets
abbrev pub begins_twin : List ℕ → Bool
begins_twin [] = false
begins_twin (o ∷ os) = is_twin_octet o && begins (λ p. p == o) os

-- how many octets the longest mark has that comes first in a text; 0 where none does
abbrev pub mark_count : List ℕ → ℕ
mark_count text = if begins_twin text then 2 else if begins is_mark_octet text then 1 else 0

-- a piece of a text, with its octets
pub data Piece : Type 0 where
  blanks : List ℕ → Piece
  comment : List ℕ → Piece
  skipped_line : List ℕ → Piece
  name : List ℕ → Piece
  number : List ℕ → Piece
  -- a character by its code, and a string by its characters' codes, each with its octets and quotes
  character : ℕ → List ℕ → Piece
  string : List ℕ → List ℕ → Piece
  -- a file name by its octets, and these with what encloses them
  file_name : List ℕ → List ℕ → Piece
  mark : List ℕ → Piece

-- the octets of a piece
abbrev pub octets_of : Piece → List ℕ
octets_of (blanks os) = os
octets_of (comment os) = os
octets_of (skipped_line os) = os
octets_of (name os) = os
octets_of (number os) = os
octets_of (character code os) = os
octets_of (string codes os) = os
octets_of (file_name path os) = os
octets_of (mark os) = os

-- the octets of pieces, one after the other
abbrev pub all_octets : List Piece → List ℕ
all_octets [] = []
all_octets (p ∷ ps) = octets_of p ++ all_octets ps

-- the kind of the token that a piece is, where it is one
abbrev pub kind_of : Piece → Option TokenKind
kind_of (blanks os) = None
kind_of (comment os) = None
kind_of (skipped_line os) = None
kind_of (name os) = Some (Name os)
kind_of (number os) = Some (Number (pos (value_of os)))
kind_of (character code os) = Some (Char code)
kind_of (string codes os) = Some (Text codes)
kind_of (file_name path os) = Some (FileName path)
kind_of (mark os) = Some (Mark os)

-- whether the last token imports, after one piece more; `imports`: whether the last before it does
abbrev pub imports_on : Bool → Option TokenKind → Bool
imports_on imports None = imports
imports_on imports (Some (Name os)) = is_import os
imports_on imports (Some _) = false

-- whether the last token of pieces is a word that imports; `imports`: whether the last before them is
abbrev pub imports_after : Bool → List Piece → Bool
imports_after imports [] = imports
imports_after imports (p ∷ ps) = imports_after (imports_on imports (kind_of p)) ps

-- octets are a piece at a place: `imports` says whether the last token imports, `before` is what comes before the place, `text` is the octets
-- and all that follows them, and of its sort the piece is the longest that comes first there
abbrev pub IsPieceOf : Front → Bool → List ℕ → Piece → List ℕ → Type 0
IsPieceOf front imports before (blanks os) text = (begins is_blank text ≡ true) × (os ≡ take_while is_blank text)
IsPieceOf front imports before (comment os) text =
    (opens_comment text ≡ true) × ((n : ℕ) × (count_to_close (drop 2 text) ≡ Some n) × (os ≡ take (2 + n) text))
IsPieceOf front imports before (skipped_line os) text = (is_skipped front before text ≡ true) × (os ≡ take_while is_in_line text)
IsPieceOf front imports before (name os) text = (begins is_letter text ≡ true) × (os ≡ take_while is_word_octet text)
IsPieceOf front imports before (number os) text =
    (begins is_digit text ≡ true) × (os ≡ take (digit_count text) text) × (is_number os ≡ true) × (value_of os < 2 ^ 127)
IsPieceOf front imports before (character code os) text =
    (opens_quote front text ≡ true) × (begins is_single text ≡ true)
    × ((n : ℕ) × (character_at text ≡ Some (code, n)) × (os ≡ take n text))
IsPieceOf front imports before (string codes os) text =
    (opens_quote front text ≡ true) × (begins is_single text ≡ false)
    × ((n : ℕ) × (string_count false (drop 1 text) ≡ Some n)
    × (codes ≡ spelled false (take (n - 1) (drop 1 text))) × (os ≡ take (1 + n) text))
IsPieceOf front imports before (file_name path os) text =
    (n : ℕ) × (file_count front imports text ≡ Some n) × (path ≡ take n (drop 1 text)) × (os ≡ take (2 + n) text)
IsPieceOf front imports before (mark os) text =
    (0 < mark_count text) × (os ≡ take (mark_count text) text) × (opens_comment text ≡ false)
    × (is_skipped front before text ≡ false) × (file_count front imports text ≡ None)

-- a piece after pieces and before octets
abbrev pub Stands : Front → List Piece → Piece → List ℕ → Type 0
Stands front before p after = IsPieceOf front (imports_after false before) (all_octets before) p (octets_of p ++ after)

-- pieces that come one after the other, after pieces and before octets
abbrev pub AllStand : Front → List Piece → List Piece → List ℕ → Type 0
AllStand front before [] after = Unit {0}
AllStand front before (p ∷ ps) after = Stands front before p (all_octets ps ++ after) × AllStand front (before ++ p ∷ []) ps after
