-- When JSON presents a value.
use Rattle.std.specs.Prelude.{◌≡◌, ◌+◌, ◌||◌, ◌&&◌, ℕ, ℤ, Bool, true, List, IsTrue, Option, Some, option_and_then, unwrap_or, codes, MatchBool}
use Rattle.std.specs.Option.{IsSomeAnd}
use Rattle.std.specs.Ordering.{int_eq}
use Rattle.std.specs.Str.{bytes_eq}
use Rattle.mint.specs.Values.{Val, void, num, row, group, items, arm, absent, present, Vals, no_more, val}
use Rattle.mint.specs.Typed.{IsWellTyped}
use Rattle.pres.specs.Faces.{Face, Parts, no_parts, part, Arms, Sign, type_of}
use Rattle.pres.specs.Faces as face
use Rattle.serde_json.specs.Data.{Data, Items, no_items, item, Members, no_members, member}
use Rattle.serde_json.specs.Data as json
use Rattle.serde_json.specs.Find.{get_member}
use Rattle.json_shape.specs.Texts.{text_of}
use Rattle.wire_def.specs.Arrays.{kind_of}
use Rattle.json_shape.specs.Scalars.{sign_in, array_in}

-- how many members an object has
abbrev pub size : Members → ℕ
size no_members = 0
size (member k j ms) = size ms + 1

-- how many parts there are
abbrev pub count : Parts → ℕ
count no_parts = 0
count (part n f ps) = count ps + 1

-- the members of a tree that is an object
abbrev pub members_in : Data → Members
members_in (json.object ms) = ms
members_in _ = no_members

-- the members of a choice
abbrev pub is_arm_key : List ℕ → Bool
is_arm_key k = bytes_eq k (codes "tag") || bytes_eq k (codes "value")

-- no members besides these
abbrev pub is_arm : Members → Bool
is_arm no_members = true
is_arm (member k j ms) = is_arm_key k && is_arm ms

-- the member of a name
abbrev pub member_of : List ℕ → Members → Option Data
member_of name ms = get_member (text_of name) ms

-- the number of the tag
abbrev pub tag_in : Sign → Members → Option ℤ
tag_in s ms = option_and_then (sign_in s) (get_member (codes "tag") ms)

-- what follows a tag: null where the member is absent
abbrev pub after_tag : Members → Data
after_tag ms = unwrap_or (get_member (codes "value") ms) json.null

-- the trees of an array show the values, one each
abbrev pub ShowEach : (Data → Val → Type 0) → Items → Vals → Type 0
ShowEach P no_items no_more = Unit {0}
ShowEach P (item j js) (val v vs) = P j v × ShowEach P js vs
ShowEach P _ _ = ⊥

-- a tree shows a value: what stands in JSON, whatever the type's counts and labels allow
abbrev mutual
  pub Shows : Face → Data → Val → Type 0
  Shows face.nothing json.null void = Unit {0}
  Shows (face.scalar s) j (num n) = sign_in s j ≡ Some n
  Shows (face.numbers a) j (row k ns) = (k ≡ kind_of a) × (array_in a j ≡ Some ns)
  Shows (face.values ps) (json.array js) (group vs) = ShowInOrder ps js vs
  Shows (face.members ps) (json.object ms) (group vs) = (size ms ≡ count ps) × ShowByName ps ms vs
  Shows (face.list c f) (json.array js) (items vs) = ShowEach (Shows f) js vs
  Shows (face.choice s arms) (json.object ms) (arm n v) =
      IsTrue (is_arm ms) × (tag_in s ms ≡ Some n) × ShowsArm arms n (after_tag ms) v
  Shows (face.maybe f) (json.array no_items) absent = Unit {0}
  Shows (face.maybe f) (json.array (item j no_items)) (present v) = Shows f j v
  Shows _ _ _ = ⊥

  -- the trees of an array show the parts in order
  pub ShowInOrder : Parts → Items → Vals → Type 0
  ShowInOrder no_parts no_items no_more = Unit {0}
  ShowInOrder (part n f ps) (item j js) (val v vs) = Shows f j v × ShowInOrder ps js vs
  ShowInOrder _ _ _ = ⊥

  -- the members of an object show the parts by their names
  pub ShowByName : Parts → Members → Vals → Type 0
  ShowByName no_parts ms no_more = Unit {0}
  ShowByName (part n f ps) ms (val v vs) = IsSomeAnd (member_of n ms) (λ j. Shows f j v) × ShowByName ps ms vs
  ShowByName _ _ _ = ⊥

  -- the tree shows the value of the number's arm
  pub ShowsArm : Arms → ℤ → Data → Val → Type 0
  ShowsArm face.no_other n j v = ⊥
  ShowsArm (face.other f) n j v = Shows f j v
  ShowsArm (face.arm m f arms) n j v = MatchBool (int_eq n m) (Shows f j v) (ShowsArm arms n j v)

-- a tree presents a value: it shows it, and the value is well typed
pub record Presents (f : Face) (j : Data) (v : Val) : Type 0 where
  pub shows : Shows f j v
  pub typed : IsWellTyped (type_of f) v
