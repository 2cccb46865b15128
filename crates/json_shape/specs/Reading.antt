-- Reading a value from JSON.
use Rattle.std.specs.Prelude.{ℕ, ℤ, ◌==◌, Option, Some, None, if◌then◌else◌, option_and_then, option_map}
use Rattle.std.specs.Ordering.{int_eq}
use Rattle.mint.specs.Values.{Val, void, num, row, group, items, arm, absent, present, Vals, no_more, val}
use Rattle.pres.specs.Faces.{Face, Parts, no_parts, part, Arms}
use Rattle.pres.specs.Faces as face
use Rattle.serde_json.specs.Data.{Data, Items, no_items, item, Members}
use Rattle.serde_json.specs.Find.{as_null, as_array, as_object}
use Rattle.wire_def.specs.Arrays.{kind_of}
use Rattle.json_shape.specs.Scalars.{sign_in, array_in}
use Rattle.json_shape.specs.Presents.{size, count, is_arm, member_of, tag_in, after_tag}

-- one value before others
abbrev pub before : Option Val → Option Vals → Option Vals
before v vs = option_and_then (λ w. option_map (val w) vs) v

-- what each tree of an array is
abbrev pub each : (Data → Option Val) → Items → Option Vals
each f no_items = Some no_more
each f (item j js) = before (f j) (each f js)

-- the value that may be there
abbrev pub maybe_in : (Data → Option Val) → Items → Option Val
maybe_in f no_items = Some absent
maybe_in f (item j no_items) = option_map present (f j)
maybe_in f _ = None

-- what is read of an array
abbrev pub in_array : (Items → Option Vals) → Data → Option Vals
in_array f j = option_and_then f (as_array j)

-- what is read of an object with so many members
abbrev pub in_object : ℕ → (Members → Option Vals) → Data → Option Vals
in_object n f j = option_and_then (λ ms. if size ms == n then f ms else None) (as_object j)

-- the value that a tree shows
unfoldable mutual
  pub value_of : Face → Data → Option Val
  value_of face.nothing j = option_map (λ _. void) (as_null j)
  value_of (face.scalar s) j = option_map num (sign_in s j)
  value_of (face.numbers a) j = option_map (row (kind_of a)) (array_in a j)
  value_of (face.values ps) j = option_map group (in_array (in_order ps) j)
  value_of (face.members ps) j = option_map group (in_object (count ps) (by_name ps) j)
  value_of (face.list c f) j = option_map items (in_array (each (value_of f)) j)
  value_of (face.choice s arms) j =
      option_and_then
      (λ ms. if is_arm ms then option_and_then (λ n. option_map (arm n) (after arms n (after_tag ms))) (tag_in s ms) else None)
      (as_object j)
  value_of (face.maybe f) j = option_and_then (maybe_in (value_of f)) (as_array j)

  -- the parts in order
  pub in_order : Parts → Items → Option Vals
  in_order no_parts no_items = Some no_more
  in_order (part n f ps) (item j js) = before (value_of f j) (in_order ps js)
  in_order _ _ = None

  -- the parts by their names
  pub by_name : Parts → Members → Option Vals
  by_name no_parts ms = Some no_more
  by_name (part n f ps) ms = before (option_and_then (value_of f) (member_of n ms)) (by_name ps ms)

  -- the value of the number's arm
  pub after : Arms → ℤ → Data → Option Val
  after face.no_other n j = None
  after (face.other f) n j = value_of f j
  after (face.arm m f arms) n j = if int_eq n m then value_of f j else after arms n j
