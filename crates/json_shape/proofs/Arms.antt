-- The arm that is found among the arms of a choice, by induction on the arms.
use Rattle.std.proofs.Common.{◌≡◌, ℕ, ℤ, List, [], ◌∷◌, Option, None, Some, refl, int_eq, Bool, true, false, cond, option_map, option_and_then, sym}
use Rattle.std.specs.Option.{option_map_or}
use Rattle.mint.specs.Arms.{arm_found}
use Rattle.mint.specs.Values.{Val, arm}
use Rattle.mint.proofs.Arms.{arm_below}
use Rattle.pres.specs.Faces.{Face, Arms, Sign, at, arms_at, choice}
use Rattle.serde_json.specs.Data.{Data}
use Rattle.serde_json.specs.Data as json
use Rattle.serde_json.specs.Find.{as_object}
use Rattle.json_shape.specs.Presents.{is_arm, members_in, tag_in, after_tag}
use Rattle.json_shape.specs.Reading.{value_of, after}
use Rattle.json_shape.specs.Written.{json_of, after_json}

read_at : (fs : List Face) (b : Bool) (i : ℕ) (rest : Option ℕ) (k : ℕ) (x : Option Val) (j : Data) → cond b (Some i) rest ≡ Some k
    → (rest ≡ Some k → x ≡ value_of (at fs k) j)
    → cond b (value_of (at fs i) j) x ≡ value_of (at fs k) j
read_at fs true i rest k x j is more =
    let same : i ≡ k = cc in
    rw same refl
read_at fs false i rest k x j is more = more is

pub arm_read : (fs : List Face) (arms : List (ℤ × ℕ)) (o : Option ℕ) (n : ℤ) (k : ℕ) (j : Data) → arm_found arms o n ≡ Some k
    → after (arms_at fs arms o) n j ≡ value_of (at fs k) j
unfolding value_of
arm_read fs [] None n k j is = absurd cc
arm_read fs [] (Some i) n k j is =
    let same : i ≡ k = cc in
    rw same refl
arm_read fs (a ∷ arms) o n k j is =
    read_at fs (int_eq n a.0) a.1 (arm_found arms o n) k (after (arms_at fs arms o) n j) j is (λ f. arm_read fs arms o n k j f)

none_at : (fs : List Face) (b : Bool) (i : ℕ) (rest : Option ℕ) (x : Option Val) (j : Data) → cond b (Some i) rest ≡ None
    → (rest ≡ None → x ≡ None)
    → cond b (value_of (at fs i) j) x ≡ None
none_at fs true i rest x j is more = absurd cc
none_at fs false i rest x j is more = more is

pub arm_missed : (fs : List Face) (arms : List (ℤ × ℕ)) (o : Option ℕ) (n : ℤ) (j : Data) → arm_found arms o n ≡ None
    → after (arms_at fs arms o) n j ≡ None
unfolding value_of
arm_missed fs [] None n j is = refl
arm_missed fs [] (Some i) n j is = absurd cc
arm_missed fs (a ∷ arms) o n j is =
    none_at fs (int_eq n a.0) a.1 (arm_found arms o n) (after (arms_at fs arms o) n j) j is (λ f. arm_missed fs arms o n j f)

pub ruleset arms = (arm_read, arm_missed, arm_below)

-- an object with the members of a choice
pub choice_read : (s : Sign) (arms : Arms) (j : Data) → true ≡ option_map_or is_arm (as_object j) false
    → value_of (choice s arms) j ≡ option_and_then (λ (n : ℤ). option_map (arm n) (after arms n (after_tag (members_in j))))
    (tag_in s (members_in j))
unfolding value_of
choice_read s arms (json.object ms) h = rw (sym h) refl
choice_read s arms _ h = absurd cc

json_at : (fs : List Face) (b : Bool) (i : ℕ) (rest : Option ℕ) (k : ℕ) (x : Data) (v : Val) → cond b (Some i) rest ≡ Some k
    → (rest ≡ Some k → x ≡ json_of (at fs k) v)
    → cond b (json_of (at fs i) v) x ≡ json_of (at fs k) v
json_at fs true i rest k x v is more =
    let same : i ≡ k = cc in
    rw same refl
json_at fs false i rest k x v is more = more is

pub arm_written : (fs : List Face) (arms : List (ℤ × ℕ)) (o : Option ℕ) (n : ℤ) (k : ℕ) (v : Val) → arm_found arms o n ≡ Some k
    → after_json (arms_at fs arms o) n v ≡ json_of (at fs k) v
arm_written fs [] None n k v is = absurd cc
arm_written fs [] (Some i) n k v is =
    let same : i ≡ k = cc in
    rw same refl
arm_written fs (a ∷ arms) o n k v is =
    json_at fs (int_eq n a.0) a.1 (arm_found arms o n) k (after_json (arms_at fs arms o) n v) v is (λ f. arm_written fs arms o n k v f)

null_at : (fs : List Face) (b : Bool) (i : ℕ) (rest : Option ℕ) (x : Data) (v : Val) → cond b (Some i) rest ≡ None
    → (rest ≡ None → x ≡ json.null)
    → cond b (json_of (at fs i) v) x ≡ json.null
null_at fs true i rest x v is more = absurd cc
null_at fs false i rest x v is more = more is

pub arm_null : (fs : List Face) (arms : List (ℤ × ℕ)) (o : Option ℕ) (n : ℤ) (v : Val) → arm_found arms o n ≡ None
    → after_json (arms_at fs arms o) n v ≡ json.null
arm_null fs [] None n v is = refl
arm_null fs [] (Some i) n v is = absurd cc
arm_null fs (a ∷ arms) o n v is =
    null_at fs (int_eq n a.0) a.1 (arm_found arms o n) (after_json (arms_at fs arms o) n v) v is (λ f. arm_null fs arms o n v f)

pub ruleset arms_written = (arm_written, arm_null, arm_below)
