-- Characters and strings between quotes, as CORBA has them.
use Rattle.std.specs.Prelude.{Bool, true, false, not, ◌&&◌, ◌||◌, ◌==◌, nat_le, ℕ, suc, List, [], ◌∷◌, Option, Some, None, is_some, if◌then◌else◌}
use Rattle.std.specs.Option.{option_map}
use Rattle.idl_lex.specs.Classes.{begins}
use Rattle.idl_lex.specs.declared.kinds.Front.{Front}
use Rattle.idl_lex.specs.declared.kinds.Front.TheVariants.{Corba}

-- the octet of `'`
abbrev pub is_single : ℕ → Bool
is_single o = o == 39

-- the octet of `"`
abbrev pub is_double : ℕ → Bool
is_double o = o == 34

-- the octet of `\`
abbrev pub is_backslash : ℕ → Bool
is_backslash o = o == 92

-- an octet that is a quote
abbrev pub is_quote : ℕ → Bool
is_quote o = is_single o || is_double o

-- a text that begins with a quote, where the front end has characters and strings
abbrev pub opens_quote : Front → List ℕ → Bool
opens_quote Corba text = begins is_quote text
opens_quote _ text = false

-- an octet that stands for itself between quotes: 20 to 7e but `\`
abbrev pub is_plain : ℕ → Bool
is_plain o = nat_le 32 o && nat_le o 126 && not (is_backslash o)

-- the code of the character that an octet stands for after a `\`: `\n \t \v \b \r \f \a \\ \? \' \"`
abbrev pub escape_of : ℕ → Option ℕ
escape_of o =
    if o == 110 then Some 10
    else if o == 116 then Some 9
    else if o == 118 then Some 11
    else if o == 98 then Some 8
    else if o == 114 then Some 13
    else if o == 102 then Some 12
    else if o == 97 then Some 7
    else if o == 92 then Some 92
    else if o == 63 then Some 63
    else if o == 39 then Some 39
    else if o == 34 then Some 34
    else None

-- a code that is found, with the length of its literal
abbrev pub of_length : ℕ → Option ℕ → Option (ℕ × ℕ)
of_length n None = None
of_length n (Some code) = Some (code, n)

-- a character after `'\`, and its `'`
abbrev pub escaped_at : List ℕ → Option (ℕ × ℕ)
escaped_at [] = None
escaped_at (o ∷ os) = if begins is_single os then of_length 4 (escape_of o) else None

-- a character that stands for itself, and its `'`
abbrev pub plain_at : ℕ → List ℕ → Option (ℕ × ℕ)
plain_at o os = if is_plain o && begins is_single os then Some (o, 3) else None

-- the character that comes first in a text, between quotes: its code, and how many octets it has with them
abbrev pub character_at : List ℕ → Option (ℕ × ℕ)
character_at [] = None
character_at (q ∷ []) = None
character_at (q ∷ o ∷ os) = if is_backslash o then escaped_at os else plain_at o os

-- how many octets there are up to the `"` that ends a string, and with it, where there is one and characters alone come before it; after a `\` or not
abbrev pub string_count : Bool → List ℕ → Option ℕ
string_count escaped [] = None
string_count true (o ∷ os) = if is_some (escape_of o) then option_map suc (string_count false os) else None
string_count false (o ∷ os) =
    if is_double o then Some 1
    else if is_backslash o then option_map suc (string_count true os)
    else if is_plain o then option_map suc (string_count false os)
    else None

-- the code of an escape, where it is one
abbrev pub code_or : ℕ → Option ℕ → ℕ
code_or o None = o
code_or o (Some code) = code

-- the codes of the characters that octets of a string spell, after a `\` or not
abbrev pub spelled : Bool → List ℕ → List ℕ
spelled escaped [] = []
spelled true (o ∷ os) = code_or o (escape_of o) ∷ spelled false os
spelled false (o ∷ os) = if is_backslash o then spelled true os else o ∷ spelled false os
