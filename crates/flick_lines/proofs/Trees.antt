-- The tree of a line that is text.
use Rattle.std.proofs.Common.{◌≡◌, ℕ, true, List, length, ap, arith, ◌∙◌, sym}
use Rattle.std.proofs.lemmas.Bool.Decides.{nat_tests}
use Rattle.std.proofs.lemmas.Str.{utf8_valid_len-IsUtf8}
use Rattle.std.specs.Prelude.{Some, IsUtf8, ◌==◌}
use Rattle.std.specs.Str.Lossy.{utf8_valid_len}
use Rattle.serde_json.specs.Data.{Data}
use Rattle.serde_json.specs.Read.{read}
use Rattle.flick_lines.specs.Marshalled.{tree_of}

pub tree-some : (line text : List ℕ) (d : Data) → (text ≡ line) × IsUtf8 line → read text ≡ Some d → tree_of line ≡ Some d
tree-some line text d (same, utf8) e =
    let test : (utf8_valid_len line == length line) ≡ true = grind (arith, nat_tests, utf8_valid_len-IsUtf8 line utf8) in
    rw test (ap read (sym same) ∙ e)
