-- The members of records.
use Rattle.std.specs.Prelude.{Bool, true, false, ◌&&◌, ℕ, ◌^◌, nat_lt, List, Option, Some, None, option_and_then, unwrap_or, is_some, if◌then◌else◌, codes}
use Rattle.std.specs.Option.{option_map_or}
use Rattle.wire_def.specs.declared.encoding.Back.{Back}
use Rattle.wire_def.specs.declared.head.Head.{Head}
use Rattle.wire_def.specs.declared.encoding.Back.TheVariants as back
use Rattle.serde_json.specs.Data.{Data, array, no_items, object, no_members, Members, member}
use Rattle.serde_json.specs.Data as json
use Rattle.serde_json.specs.Find.{get, as_str, as_number, as_u64, as_array, as_object}

-- each member has a key of these
abbrev pub each_key : (List ℕ → Bool) → Members → Bool
each_key p no_members = true
each_key p (member k j ms) = p k && each_key p ms

-- an object whose members have keys of these
abbrev pub has_only : (List ℕ → Bool) → Data → Bool
has_only p j = option_map_or (each_key p) (as_object j) false

-- messages of Mach
abbrev pub is_mach : Back → Bool
is_mach back.Mach = true
is_mach _ = false

-- the key of the first head number
abbrev pub head_key : Back → List ℕ
head_key back.Xdr = codes "xid"
head_key back.Mach = codes "remote"
head_key _ = codes "id"

-- the first head number of a head
abbrev pub head_word : Back → Head → ℕ
head_word back.Mach h = h.remote
head_word _ h = h.id

-- a whole number from 0 to 2^32 - 1
abbrev pub word_in : Data → Option ℕ
word_in j = option_and_then (λ n. if nat_lt n (2 ^ 32) then Some n else None) (option_and_then as_u64 (as_number j))

-- a head number, which is 0 where the member is absent
abbrev pub head_number : Option Data → Option ℕ
head_number None = Some 0
head_number (Some j) = word_in j

-- ---- the tests of members

-- a string
abbrev pub is_text : Option Data → Bool
is_text None = false
is_text (Some j) = is_some (as_str j)

-- an array, or nothing
abbrev pub is_list : Option Data → Bool
is_list None = true
is_list (Some j) = is_some (as_array j)

-- an object, or nothing
abbrev pub is_table : Option Data → Bool
is_table None = true
is_table (Some j) = is_some (as_object j)

-- ---- what members are, by their keys

-- the text of a member; empty where it is none
abbrev pub text_at : List ℕ → Data → List ℕ
text_at k j = unwrap_or (option_and_then as_str (get k j)) (codes "")

-- the head number of a member; 0 where it is none
abbrev pub number_at : List ℕ → Data → ℕ
number_at k j = unwrap_or (head_number (get k j)) 0

-- a member; the empty array where it is absent
abbrev pub list_at : List ℕ → Data → Data
list_at k j = unwrap_or (get k j) (array no_items)

-- a member; the object without members where it is absent
abbrev pub table_at : List ℕ → Data → Data
table_at k j = unwrap_or (get k j) (object no_members)

-- a member; null where it is absent
abbrev pub any_at : List ℕ → Data → Data
any_at k j = unwrap_or (get k j) json.null
