-- Unions and optional values that are read of tokens in the usual form, by cases on what is there.
use Rattle.std.proofs.Common.{◌≡◌, ◌<◌, ◌≤◌, ◌-◌, max, ℕ, ℤ, List, [], ◌∷◌, ◌++◌, Option, Some, None, option_map, refl, sym, ap, ◌∙◌, arith, append_assoc, codes}
use Rattle.std.specs.Prelude.{unwrap_or}
use Rattle.json.specs.Json as text
use Rattle.json.specs.Token.{Token, begin_array, begin_object, end_array, end_object, key}
use Rattle.json.specs.Tree.{depth, json_tokens, members_depth, members_tokens}
use Rattle.mint.specs.Arms.{arm_found}
use Rattle.mint.specs.Values.{Val}
use Rattle.mint.specs.Values as vals
use Rattle.pres.specs.Faces.{Arms, Face, Sign, arms_at, at, choice, maybe}
use Rattle.serde_json.specs.Data.{Data}
use Rattle.serde_json.specs.Data as json
use Rattle.serde_json.specs.Read.{of_json}
use Rattle.json_shape.specs.Reading.{value_of, after}
use Rattle.json_shape.specs.Scalars.{sign_in}
use Rattle.json_shape.specs.Usual.{put_some, ArmTaken, IsRead, IsTree, Reads}
use Rattle.json_shape.proofs.Arms.{arm_read}
use Rattle.json_shape.proofs.UsualReading.{within}

-- ---- unions

-- the members of a union
abbrev pub arm_members : text.Json → Option text.Json → text.Members
arm_members tag value = text.member (codes "tag") tag (put_some (codes "value") value text.no_members)

arm_is : (s : Sign) (arms : Arms) (n : ℤ) (v : Val) (tag : text.Json) (t : Data) (value : Option text.Json) (tree : Option Data)
    → of_json tag ≡ Some t → sign_in s t ≡ Some n → IsTree value tree → after arms n (unwrap_or tree json.null) ≡ Some v
    → IsRead (text.object (arm_members tag value)) (value_of (choice s arms)) (vals.arm n v)
unfolding value_of
arm_is s arms n v tag t None None is signed alike gives =
    record { tree = json.object (json.member (codes "tag") t json.no_members); is = rw is refl; gives = rw (signed, gives) refl }
arm_is s arms n v tag t None (Some d) is signed alike gives = absurd alike
arm_is s arms n v tag t (Some j) None is signed alike gives = absurd alike
arm_is s arms n v tag t (Some j) (Some d) is signed alike gives = record {
  tree = json.object (json.member (codes "tag") t (json.member (codes "value") d json.no_members));
  is = rw (is, alike) refl;
  gives = rw (signed, gives) refl;
}

below : (a b d : ℕ) → a ≤ 0 → b ≤ d → max a b ≤ d
below a b d x y = omega (arith, x, y)

-- a union
pub choice_taken : (d : ℕ) (old tagged past rest new : List Token) (s : Sign) (arms : Arms) (n : ℤ) (v w : Val) → 0 < d
    → old ≡ begin_object ∷ tagged → tagged ≡ key (codes "tag") ∷ past → Reads 0 past rest (sign_in s) n
    → ArmTaken (d - 1) rest new arms n v → w ≡ vals.arm n v → Reads d old new (value_of (choice s arms)) w
choice_taken d old tagged past rest new s arms n v w some begins is_tag tag inner is =
    let ms = put_some (codes "value") inner.value text.no_members in
    let all : past ≡ (json_tokens tag.source ++ members_tokens ms) ++ new =
    tag.takes ∙ ap (λ (ts : List Token). json_tokens tag.source ++ ts) inner.takes
    ∙ sym (append_assoc (json_tokens tag.source) (members_tokens ms) new) in
    let read = arm_is s arms n v tag.source tag.read.tree inner.value inner.tree tag.read.is tag.read.gives inner.is inner.gives in
    record {
      source = text.object (arm_members tag.source inner.value);
      takes = begins ∙ ap (λ (ts : List Token). begin_object ∷ ts) (is_tag ∙ ap (λ (ts : List Token). key (codes "tag") ∷ ts) all);
      nests = within (max (depth tag.source) (members_depth ms)) d some
          (below (depth tag.source) (members_depth ms) (d - 1) tag.nests inner.nests);
      read = record { tree = read.tree; is = read.is; gives = read.gives ∙ ap Some (sym is) };
    }

-- an arm whose value is absent
pub arm_absent : (d : ℕ) (fs : List Face) (arms : List (ℤ × ℕ)) (o : Option ℕ) (n : ℤ) (k : ℕ) (v : Val) (old new : List Token)
    → arm_found arms o n ≡ Some k → old ≡ end_object ∷ new → value_of (at fs k) json.null ≡ Some v
    → ArmTaken d old new (arms_at fs arms o) n v
arm_absent d fs arms o n k v old new found ends is = record {
  value = None;
  takes = ends;
  nests = omega arith;
  tree = None;
  is = tt;
  gives = arm_read fs arms o n k json.null found ∙ is;
}

-- an arm with its value
pub arm_there : (d : ℕ) (fs : List Face) (arms : List (ℤ × ℕ)) (o : Option ℕ) (n : ℤ) (k : ℕ) (v : Val) (old past rest new : List Token)
    → arm_found arms o n ≡ Some k → old ≡ key (codes "value") ∷ past → Reads d past rest (value_of (at fs k)) v → rest ≡ end_object ∷ new
    → ArmTaken d old new (arms_at fs arms o) n v
arm_there d fs arms o n k v old past rest new found is inner ends = record {
  value = Some inner.source;
  takes = is
      ∙ ap (λ (ts : List Token). key (codes "value") ∷ ts)
      (inner.takes ∙ ap (λ (ts : List Token). json_tokens inner.source ++ ts) ends
      ∙ sym (append_assoc (json_tokens inner.source) (end_object ∷ []) new));
  nests = omega (arith, inner.nests);
  tree = Some inner.read.tree;
  is = inner.read.is;
  gives = arm_read fs arms o n k inner.read.tree found ∙ inner.read.gives;
}

-- ---- optional values

pub maybe_absent : (d : ℕ) (old now new : List Token) (f : Face) (v : Val) → 0 < d → old ≡ begin_array ∷ now → now ≡ end_array ∷ new
    → v ≡ vals.absent → Reads d old new (value_of (maybe f)) v
unfolding value_of
maybe_absent d old now new f v some begins ends is = record {
  source = text.array text.no_items;
  takes = begins ∙ ap (λ (ts : List Token). begin_array ∷ ts) ends;
  nests = within 0 d some (omega arith);
  read = record { tree = json.array json.no_items; is = refl; gives = ap Some (sym is) };
}

pub maybe_present : (d : ℕ) (old now past new : List Token) (f : Face) (v w : Val) → 0 < d → old ≡ begin_array ∷ now
    → Reads (d - 1) now past (value_of f) v → past ≡ end_array ∷ new → w ≡ vals.present v
    → Reads d old new (value_of (maybe f)) w
unfolding value_of
maybe_present d old now past new f v w some begins inner ends is = record {
  source = text.array (text.item inner.source text.no_items);
  takes = begins
      ∙ ap (λ (ts : List Token). begin_array ∷ ts)
      (inner.takes ∙ ap (λ (ts : List Token). json_tokens inner.source ++ ts) ends
      ∙ sym (append_assoc (json_tokens inner.source) (end_array ∷ []) new));
  nests = within (max (depth inner.source) 0) d some (omega (arith, inner.nests));
  read = record {
    tree = json.array (json.item inner.read.tree json.no_items);
    is = rw inner.read.is refl;
    gives = ap (option_map vals.present) inner.read.gives ∙ ap Some (sym is);
  };
}
