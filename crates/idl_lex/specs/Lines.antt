-- Places in a text: their lines, and what comes before them on these.
use Rattle.std.specs.Prelude.{Bool, false, ◌&&◌, ◌||◌, ◌==◌, ℕ, ◌+◌, ◌-◌, ◌^◌, min, List, length, drop, reverse, codes, nat_eq}
use Rattle.std.specs.List.{list_all, count_by, prefix_len, take_while, starts_with}
use Rattle.idl_lex.specs.Classes.{is_blank, is_in_line, is_line_blank, is_digit, begins}
use Rattle.idl_lex.specs.declared.kinds.Front.{Front}
use Rattle.idl_lex.specs.declared.kinds.Front.TheVariants.{Onc, Corba}

-- how many line feeds there are
abbrev pub line_feeds : List ℕ → ℕ
line_feeds os = count_by (λ o. o == 10) os

-- the line of the place after some octets: one more than the line feeds before it, and 2^32 - 1 at most
abbrev pub line_after : List ℕ → ℕ
line_after before = min (1 + line_feeds before) (2 ^ 32 - 1)

-- what comes before a place on its line, the nearest octet first
abbrev pub line_before : List ℕ → List ℕ
line_before before = take_while is_in_line (reverse before)

-- a place with nothing but blanks before it on its line
abbrev pub is_at_start : List ℕ → Bool
is_at_start before = list_all is_blank (line_before before)

-- what follows the `#` of a line marker: blanks of the line, then a digit or `line`
abbrev pub is_marker : List ℕ → Bool
is_marker text = let rest = drop (prefix_len is_line_blank text) text in begins is_digit rest || starts_with nat_eq rest (codes "line")

-- a text that is skipped to its line's end by the rules of one front end: in onc a line whose very first octet is `%`, in corba a comment that begins with `//`
abbrev pub is_skipped_by : Front → List ℕ → List ℕ → Bool
is_skipped_by Onc before text = begins (λ o. o == 37) text && length (line_before before) == 0
is_skipped_by Corba before text = starts_with nat_eq text (codes "//")
is_skipped_by _ before text = false

-- a text that begins with a `#` which has nothing but blanks before it on its line
abbrev pub is_hash_line : List ℕ → List ℕ → Bool
is_hash_line before text = begins (λ o. o == 35) text && is_at_start before

-- a text that is skipped to its line's end: a line marker, or what the front end skips
abbrev pub is_skipped : Front → List ℕ → List ℕ → Bool
is_skipped front before text = (is_hash_line before text && is_marker (drop 1 text)) || is_skipped_by front before text
