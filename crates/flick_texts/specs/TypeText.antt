-- The texts of types, each before what follows it. A mark is what is written before an item of a list: nothing before the first.
use Rattle.std.specs.Prelude.{ℕ, ℤ, List, [], ◌∷◌, ◌++◌, map, slice_index_or, codes, decimal}
use Rattle.std.specs.Fmt.{signed_decimal}
use Rattle.mint.specs.declared.kind.Kind.{Kind}
use Rattle.mint.specs.declared.kind.Kind.TheVariants as kind
use Rattle.mint.specs.declared.kind.Count.{Count}
use Rattle.mint.specs.declared.kind.Count.TheVariants.{Exactly, AtMost, Any}
use Rattle.aoi.specs.declared.types.Ty.{Ty}
use Rattle.aoi.specs.Shapes.{Shape, void, number, enumeration, text, array, structure, choice, optional, named, Members, no_more, member, Arms, no_default, default, arm, seen}

-- the word of a kind of numbers
abbrev pub kind_word : Kind → List ℕ
kind_word kind.Octet = codes "octet"
kind_word kind.I8 = codes "i8"
kind_word kind.U8 = codes "u8"
kind_word kind.Char = codes "char"
kind_word kind.I16 = codes "i16"
kind_word kind.U16 = codes "u16"
kind_word kind.I32 = codes "i32"
kind_word kind.U32 = codes "u32"
kind_word kind.I64 = codes "i64"
kind_word kind.U64 = codes "u64"
kind_word kind.Bool = codes "bool"

-- octets and a number in decimal
abbrev pub numbered : List ℕ → ℕ → List ℕ → List ℕ
numbered octets n rest = octets ++ (decimal n ++ rest)

-- a string, with its greatest length where it has one
abbrev pub string_text : Count → List ℕ → List ℕ
string_text (Exactly n) rest = numbered (codes "text ") n rest
string_text (AtMost n) rest = numbered (codes "text ") n rest
string_text Any rest = codes "text" ++ rest

-- how many elements there are, before the text of their type
abbrev pub elements_text : Count → List ℕ → List ℕ
elements_text (Exactly n) rest = numbered (codes "array ") n (codes " of " ++ rest)
elements_text (AtMost n) rest = numbered (codes "list ") n (codes " of " ++ rest)
elements_text Any rest = codes "list of " ++ rest

-- the items of an enum, each with its number
abbrev pub items_text : List ℕ → List (List ℕ × ℤ) → List ℕ → List ℕ
items_text mark [] rest = rest
items_text mark (i ∷ items) rest = mark ++ (i.0 ++ (codes "=" ++ (signed_decimal i.1 ++ items_text (codes ",") items rest)))

abbrev mutual
  -- the text of a type, over the names of the types that it may name
  pub type_text : List (List ℕ) → Shape → List ℕ → List ℕ
  type_text names void rest = codes "void" ++ rest
  type_text names (number k) rest = kind_word k ++ rest
  type_text names (enumeration items) rest = codes "enum{" ++ items_text [] items (codes "}" ++ rest)
  type_text names (text c) rest = string_text c rest
  type_text names (array s c) rest = elements_text c (type_text names s rest)
  type_text names (structure ms) rest = codes "struct{" ++ fields_text names [] ms (codes "}" ++ rest)
  type_text names (choice tag arms) rest =
      codes "union " ++ type_text names tag (codes "{" ++ arms_text names [] arms (codes "}" ++ rest))
  type_text names (optional s) rest = codes "maybe " ++ type_text names s rest
  type_text names (named k) rest = slice_index_or names k [] ++ rest

  -- those of fields, each after the field's name
  pub fields_text : List (List ℕ) → List ℕ → Members → List ℕ → List ℕ
  fields_text names mark no_more rest = rest
  fields_text names mark (member n s ms) rest =
      mark ++ (n ++ (codes ":" ++ type_text names s (fields_text names (codes ";") ms rest)))

  -- those of arms, each after its number, the default's the last
  pub arms_text : List (List ℕ) → List ℕ → Arms → List ℕ → List ℕ
  arms_text names mark no_default rest = rest
  arms_text names mark (default s) rest = mark ++ (codes "default:" ++ type_text names s rest)
  arms_text names mark (arm n s arms) rest =
      mark ++ (signed_decimal n ++ (codes ":" ++ type_text names s (arms_text names (codes ";") arms rest)))

-- the mark after arms, which follow a mark
abbrev pub mark_after : List ℕ → List (ℤ × Ty) → List ℕ
mark_after mark [] = mark
mark_after mark (a ∷ arms) = codes ";"

-- those of parameters
abbrev pub parameters_text : List (List ℕ) → List ℕ → Members → List ℕ → List ℕ
parameters_text names mark no_more rest = rest
parameters_text names mark (member n s ms) rest = mark ++ type_text names s (parameters_text names (codes ", ") ms rest)

-- types as plain trees, each with its name
abbrev pub trees_of : List (List ℕ × Ty) → List (List ℕ × Shape)
trees_of types = map (λ t. (t.0, seen t.1)) types

-- the names of types
abbrev pub names_of : List (List ℕ × Shape) → List (List ℕ)
names_of types = map (λ t. t.0) types
