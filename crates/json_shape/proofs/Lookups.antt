-- Members of JSON trees, as the lists that the program walks, by induction on the members.
use Rattle.std.proofs.Common.{◌≡◌, ℕ, ◌≤◌, Bool, true, false, ◌==◌, ◌&&◌, List, [], ◌∷◌, length, map, Some, None, refl, ap, arith}
use Rattle.std.proofs.lemmas.Bool.Decides.{nat_tests}
use Rattle.std.specs.Prelude.{String, string_bytes}
use Rattle.std.specs.declared.alloc.Global.{Global}
use Rattle.std.specs.List.{list_all}
use Rattle.std.specs.BTreeMap.{keys, BTreeMap}
use Rattle.serde_json.specs.declared.value.Value.{Value}
use Rattle.pres.specs.Faces.{Face, Parts, maybe}
use Rattle.serde_json.specs.Data.{Data, Members}
use Rattle.serde_json.specs.Data as json
use Rattle.serde_json.specs.Find.{get, get_member, as_array, as_object}
use Rattle.serde_json.specs.View.{members_view, items_view}
use Rattle.json_shape.specs.Presents.{size, count, is_arm, is_arm_key, members_in}
use Rattle.json_shape.specs.Reading.{value_of, in_object, by_name}
use Rattle.json_shape.specs.Members.{each_key}

pub size-members : (ms : List (String Global × Value)) → size (members_view ms) ≡ length ms
size-members [] = refl
size-members (m ∷ ms) = omega (arith, size-members ms)

known_entries : (ms : List (String Global × Value))
    → list_all (λ k. is_arm_key (string_bytes k)) (map (λ (e : String Global × Value). e.0) ms) ≡ is_arm (members_view ms)
known_entries [] = refl
known_entries (m ∷ ms) = ap (λ (b : Bool). is_arm_key (string_bytes m.0) && b) (known_entries ms)

pub known_members : (m : BTreeMap (String Global) Value)
    → list_all (λ k. is_arm_key (string_bytes k)) (keys m) ≡ is_arm (members_view m.entries)
known_members m = known_entries m.entries

-- a look-up sees the members alone
pub get-members : (k : List ℕ) (j : Data) → get k j ≡ get_member k (members_in j)
get-members k json.null = refl
get-members k (json.boolean b) = refl
get-members k (json.number n) = refl
get-members k (json.string s) = refl
get-members k (json.array js) = refl
get-members k (json.object ms) = refl

-- an object of as many members as there are parts
pub object_alike : (ps : Parts) (ms : Members) (j : Data) → Some ms ≡ as_object j → size ms ≡ count ps
    → in_object (count ps) (by_name ps) j ≡ by_name ps (members_in j)
object_alike ps ms (json.object ls) is same =
    let e : ms ≡ ls = cc in
    let test : (size ms == count ps) ≡ true = grind (arith, nat_tests, same) in
    rw (← e, test) refl
object_alike ps ms _ is same = absurd cc

pub object_unlike : (ps : Parts) (ms : Members) (j : Data) → Some ms ≡ as_object j → (size ms ≡ count ps → ⊥)
    → in_object (count ps) (by_name ps) j ≡ None
object_unlike ps ms (json.object ls) is other =
    let e : ms ≡ ls = cc in
    let test : (size ms == count ps) ≡ false = grind (arith, nat_tests, other) in
    rw (← e, test) refl
object_unlike ps ms _ is other = absurd cc

-- an array of two items or more
pub maybe_many : (f : Face) (vs : List Value) (j : Data) → Some (items_view vs) ≡ as_array j → 2 ≤ length vs → value_of (maybe f) j ≡ None
unfolding value_of
maybe_many f [] j is h = absurd (omega (arith, h))
maybe_many f (v ∷ []) j is h = absurd (omega (arith, h))
maybe_many f (v ∷ w ∷ vs) j is h = rw (← is) refl

keyed_entries : (p : List ℕ → Bool) (ms : List (String Global × Value))
    → list_all (λ k. p (string_bytes k)) (map (λ (e : String Global × Value). e.0) ms) ≡ each_key p (members_view ms)
keyed_entries p [] = refl
keyed_entries p (m ∷ ms) = ap (λ (b : Bool). p (string_bytes m.0) && b) (keyed_entries p ms)

pub keyed : (p : List ℕ → Bool) (m : BTreeMap (String Global) Value)
    → list_all (λ k. p (string_bytes k)) (keys m) ≡ each_key p (members_view m.entries)
keyed p m = keyed_entries p m.entries
