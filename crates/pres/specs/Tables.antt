-- Names as text, and what finds them.
use Rattle.std.specs.Prelude.{◌≡◌, ℕ, ℤ, List, [], ◌∷◌, map, Option, Some, None, String, if◌then◌else◌, option_map, string_bytes}
use Rattle.std.specs.BTreeMap.{BTreeMap, get, get_by_text}
use Rattle.std.specs.Ordering.{int_cmp, int_eq}
use Rattle.std.specs.Str.{bytes_eq, encode_utf8_all}
pub use Rattle.aoi.specs.Names.{AreAscii}

-- the items of an enum, each with its number
abbrev pub ItemList : Type 0
ItemList = List (List ℕ × ℤ)

-- the string of octets: each as the character of that code
abbrev pub text_of : List ℕ → List ℕ
text_of octets = encode_utf8_all octets

-- the number of the first item whose name a string is
abbrev pub number_named : ItemList → List ℕ → Option ℤ
number_named [] s = None
number_named (i ∷ items) s = if bytes_eq (text_of i.0) s then Some i.1 else number_named items s

-- the name of the first item with a number, as a string
abbrev pub text_numbered : ItemList → ℤ → Option (List ℕ)
text_numbered [] n = None
text_numbered (i ∷ items) n = if int_eq i.1 n then Some (text_of i.0) else text_numbered items n

-- the strings of names
abbrev pub texts_of : List (List ℕ) → List (List ℕ)
texts_of names = map text_of names

module _ {Y : Type 0} where
  -- a map that finds the number of each name
  abbrev pub FindsNumbers : ItemList → BTreeMap (String Y) ℤ → Type 0
  FindsNumbers items numbers = (s : List ℕ) → get_by_text numbers s ≡ number_named items s

  -- a map that finds the name of each number
  abbrev pub FindsTexts : ItemList → BTreeMap ℤ (String Y) → Type 0
  FindsTexts items texts = (n : ℤ) → option_map string_bytes (get int_cmp texts n) ≡ text_numbered items n

  -- what is kept beside items
  pub record AreFound (items : ItemList) (numbers : BTreeMap (String Y) ℤ) (texts : BTreeMap ℤ (String Y)) : Type 0 where
    pub numbers_are : FindsNumbers items numbers
    pub texts_are : FindsTexts items texts
