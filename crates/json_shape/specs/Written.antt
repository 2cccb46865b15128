-- The tree that is written for a value.
use Rattle.std.specs.Prelude.{ℕ, ℤ, pos, not, List, [], ◌∷◌, map, nat_abs, if◌then◌else◌, codes}
use Rattle.std.specs.Ordering.{int_eq}
use Rattle.hex.specs.Hex.{encode_lower}
use Rattle.mint.specs.declared.kind.Kind.{Kind}
use Rattle.mint.specs.declared.kind.Kind.TheVariants as kind
use Rattle.mint.specs.Kinds.{in_range}
use Rattle.mint.specs.Values.{Val, num, row, group, items, arm, absent, present, Vals, no_more, val}
use Rattle.pres.specs.Faces.{Face, Parts, no_parts, part, Arms, ItemList, Sign}
use Rattle.pres.specs.Faces as face
use Rattle.serde_json.specs.Data.{Data, null, boolean, number, string, array, object, Items, no_items, item, Members, no_members, put}
use Rattle.serde_json.specs.Find.{of_integer}
use Rattle.json_shape.specs.Texts.{text_of}

-- a string with a character for each number
abbrev pub letters : List ℤ → Data
letters ns = string (text_of (map nat_abs ns))

-- false or true, a string of one character, or a whole number
abbrev pub number_tree : Kind → ℤ → Data
number_tree kind.Bool n = boolean (not (int_eq n (pos 0)))
number_tree kind.Char n = letters (n ∷ [])
number_tree k n = number (of_integer n)

-- a number of a kind; null where it is out of range
abbrev pub number_json : Kind → ℤ → Data
number_json k n = if in_range k n then number_tree k n else null

-- the first name with a number
abbrev pub name_of : ItemList → ℤ → List ℕ
name_of [] n = []
name_of (i ∷ is) n = if int_eq i.1 n then i.0 else name_of is n

-- a number of a kind, or the name of an item
abbrev pub sign_json : Sign → ℤ → Data
sign_json (face.number k) n = number_json k n
sign_json (face.item is) n = string (text_of (name_of is n))

-- numbers as the items of an array
abbrev pub each_json : Kind → List ℤ → Items
each_json k [] = no_items
each_json k (n ∷ ns) = item (number_json k n) (each_json k ns)

-- a row: hexadecimal digits in lower case for octets, a string for characters, else an array
abbrev pub row_json : Kind → List ℤ → Data
row_json kind.Octet ns = string (encode_lower (map nat_abs ns))
row_json kind.Char ns = letters ns
row_json k ns = array (each_json k ns)

-- the values of a list as the items of an array
abbrev pub items_json : (Val → Data) → Vals → Items
items_json f no_more = no_items
items_json f (val v vs) = item (f v) (items_json f vs)

-- the object of a tag and its value
abbrev pub arm_json : Data → Data → Data
arm_json tag after = object (put (codes "tag") tag (put (codes "value") after no_members))

-- the tree of a value; null where the value is none of the face's
abbrev mutual
  pub json_of : Face → Val → Data
  json_of (face.scalar s) (num n) = sign_json s n
  json_of (face.numbers a) (row k ns) = row_json k ns
  json_of (face.values ps) (group vs) = array (in_order_json ps vs)
  json_of (face.members ps) (group vs) = object (by_name_json ps vs)
  json_of (face.list c f) (items vs) = array (items_json (json_of f) vs)
  json_of (face.choice s arms) (arm n v) = arm_json (sign_json s n) (after_json arms n v)
  json_of (face.maybe f) absent = array no_items
  json_of (face.maybe f) (present v) = array (item (json_of f v) no_items)
  json_of _ _ = null

  -- the parts in order
  pub in_order_json : Parts → Vals → Items
  in_order_json (part n f ps) (val v vs) = item (json_of f v) (in_order_json ps vs)
  in_order_json _ _ = no_items

  -- the parts by their names, each where the order of keys has it
  pub by_name_json : Parts → Vals → Members
  by_name_json (part n f ps) (val v vs) = put (text_of n) (json_of f v) (by_name_json ps vs)
  by_name_json _ _ = no_members

  -- the value of the number's arm
  pub after_json : Arms → ℤ → Val → Data
  after_json face.no_other n v = null
  after_json (face.other f) n v = json_of f v
  after_json (face.arm m f arms) n v = if int_eq n m then json_of f v else after_json arms n v
