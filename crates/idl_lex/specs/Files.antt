-- File names after words that import files, as MIG has them.
use Rattle.std.specs.Prelude.{Bool, true, not, ◌&&◌, ◌||◌, ◌==◌, ℕ, List, [], ◌∷◌, drop, Option, Some, None, codes, if◌then◌else◌}
use Rattle.std.specs.List.{prefix_len}
use Rattle.std.specs.Str.{str_eq_ignore_ascii_case}
use Rattle.idl_lex.specs.Classes.{is_in_line, begins}
use Rattle.idl_lex.specs.declared.kinds.Front.{Front}
use Rattle.idl_lex.specs.declared.kinds.Front.TheVariants.{Mig}

-- a word that imports: `import`, `uimport` or `simport`, in any letter case
abbrev pub is_import : List ℕ → Bool
is_import word =
    str_eq_ignore_ascii_case word (codes "import") || str_eq_ignore_ascii_case word (codes "uimport")
    || str_eq_ignore_ascii_case word (codes "simport")

-- an octet that opens a file name: `<` or `"`
abbrev pub opens_file : ℕ → Bool
opens_file o = o == 60 || o == 34

-- the octet that closes what an octet opens: `>` for `<`, and else the same octet
abbrev pub closer_of : ℕ → ℕ
closer_of o = if o == 60 then 62 else o

-- how many octets come before an octet, where it is on the line
abbrev pub count_before : ℕ → List ℕ → Option ℕ
count_before closer text =
    let n = prefix_len (λ o. not (o == closer) && is_in_line o) text in
    if begins (λ o. o == closer) (drop n text) then Some n else None

-- how many octets are between the octet that opens a file name and comes first in a text, and the octet that closes it on that line
abbrev pub enclosed_count : List ℕ → Option ℕ
enclosed_count [] = None
enclosed_count (o ∷ os) = if opens_file o then count_before (closer_of o) os else None

-- how many octets the file name has that comes first in a text, without what encloses it; one comes only in mig, where the last token imports
abbrev pub file_count : Front → Bool → List ℕ → Option ℕ
file_count Mig true text = enclosed_count text
file_count _ imports text = None
