-- Reply records in the usual form.
use Rattle.std.proofs.Common.{◌≡◌, ℕ, ◌+◌, ℤ, get_or, length, length-append, slice_set, ◌<◌, ◌≤◌, ◌^◌, ◌-◌, pos, List, [], ◌∷◌, ◌++◌, Bool, true, false, ◌&&◌, Option, Some, None, Ok, Err, option_map, refl, sym, ap, ◌∙◌, codes, subst, arith, bytes_eq, append_assoc}
use Rattle.std.specs.Prelude.{if◌then◌else◌, is_none, is_some, option_and_then, unwrap_or, IfSome}
use Rattle.std.specs.Option.{option_or}
use Rattle.json.specs.Json as text
use Rattle.json.specs.Token.{Token, begin_array, end_array, end_object, key}
use Rattle.json.specs.Token as token
use Rattle.json.specs.Tree.{items_depth, items_tokens, json_tokens, members_tokens}
use Rattle.mint.specs.declared.kind.Kind.TheVariants as kind
use Rattle.mint.specs.declared.value.Value.{Value}
use Rattle.mint.specs.declared.value.Value.TheVariants as value
use Rattle.mint.specs.Arms.{arm_found}
use Rattle.mint.specs.Typed.{IsWellTyped}
use Rattle.mint.specs.Types.{Ty}
use Rattle.mint.specs.Values.{Val, Vals, all_seen, seen}
use Rattle.mint.specs.Values as vals
use Rattle.wire_def.specs.declared.encoding.Back.{Back}
use Rattle.wire_def.specs.declared.encoding.Back.TheVariants as back
use Rattle.aoi.specs.Plain.{PlainRaise}
use Rattle.pres.specs.declared.ops.Op.{Op}
use Rattle.pres.specs.Bindings.{Binding}
use Rattle.pres.specs.Faces.{Face, Parts, arms_at, at, choice, face_at, number, part, parts_at, type_of, values}
use Rattle.pres.specs.Raises.{raise_from, raises}
use Rattle.serde_json.specs.Data.{Data, Items, Members, array, no_items, no_members, object, put, string, unsigned}
use Rattle.serde_json.specs.Data as json
use Rattle.serde_json.specs.Find.{as_str, get, get_member}
use Rattle.serde_json.specs.Read.{of_json}
use Rattle.serde_json.proofs.Views.{get_member-put}
use Rattle.json_shape.specs.declared.records.RequestRec.{RequestRec}
use Rattle.json_shape.specs.Members.{any_at, each_key, head_key, head_number, is_list, is_table, is_text, list_at, number_at, text_at}
use Rattle.json_shape.specs.Operations.{op_named}
use Rattle.json_shape.specs.Presents.{Presents}
use Rattle.json_shape.specs.Reading.{in_order, value_of}
use Rattle.json_shape.specs.Records.{Begun, Comes}
use Rattle.json_shape.specs.Replies.{given_tree, is_given, is_raised, is_reply, is_reply_key, items_of, answered_of, raised_tree, reply_of, reply_tree, reported, reported_of, word}
use Rattle.json_shape.specs.declared.errors.RecordErr.TheVariants as errors
use Rattle.json_shape.specs.Requests.{head_of}
use Rattle.json_shape.specs.Usual.{IsNumber, ItemsTaken, Reads, RecordTaken, WordTaken}
use Rattle.json_shape.specs.UsualReplies.{object_of, set_all, set_some, AnswerTaken, AreKnown, GivenBy, GivenTaken, InnerTaken, IsPart, ItemsOf, AreTaken, Named, OutsTaken, ResultTaken}
use Rattle.json_shape.specs.Written.{arm_json}
use Rattle.json_shape.proofs.Arms.{arm_read}
use Rattle.json_shape.proofs.ReadBack.{in_word}
use Rattle.json_shape.proofs.Shown.{read_presents}
use Rattle.json_shape.proofs.UsualMembers.{found_later, found_past, found_set, later, later_alone}
use Rattle.json_shape.proofs.UsualNamed.{absent_member, found, found_after, got, keys_all, text_member, tree_member, whole, word_member}
use Rattle.json_shape.proofs.UsualReading.{part_more, parts_closed, seen-Group, within, PartRead, Taken}

-- ---- the result, and what comes out

pub result_absent : (d : ℕ) (ts : List Token) (f : Face) (v : Val) → value_of f json.null ≡ Some v → ResultTaken d ts ts f v
result_absent d ts f v is = record { tree = None; taken = absent_member d (codes "result") ts; gives = is }

pub result_there : (d : ℕ) (old now past new : List Token) (f : Face) (v : Val) → old ≡ key (codes "result") ∷ now
    → Reads d now past (value_of f) v → past ≡ new → ResultTaken d old new f v
result_there d old now past new f v begins h same = record {
  tree = Some h.read.tree;
  taken = tree_member d (codes "result") old now past new (value_of f) v begins h same;
  gives = h.read.gives;
}

pub outs_absent : (d : ℕ) (ts : List Token) (f : Items → Option Vals) (first : Value) (vs : List Value) → f no_items ≡ Some vals.no_more
    → vs ≡ first ∷ [] → OutsTaken d ts ts f first vs
outs_absent d ts f first vs none is = record {
  tree = None;
  taken = absent_member d (codes "outs") ts;
  items = no_items;
  are = refl;
  outs = [];
  is = is;
  gives = none;
}

-- nothing comes out
pub outs_alone : (d : ℕ) (ts : List Token) (fs : List Face) (ids : List ℕ) (first : Value) (vs : List Value) → ids ≡ [] → vs ≡ first ∷ []
    → OutsTaken d ts ts (in_order (parts_at fs [] ids)) first vs
unfolding value_of
outs_alone d ts fs ids first vs none is =
    outs_absent d ts (in_order (parts_at fs [] ids)) first vs (rw none refl) is

-- the values so far: a first one, and those of the items that were taken
pub record OutsSoFar (fs : List Face) (ids : List ℕ) (old now : List Token) (k : ℕ) (first : Value) (vs : List Value) : Type 0 where
  pub outs : List Value
  pub is : vs ≡ first ∷ outs
  pub many : length outs ≡ k
  pub most : k ≤ length ids
  pub taken : Taken json_tokens (PartRead 125 fs ids) old now outs

pub outs_none : (fs : List Face) (ids : List ℕ) (ts : List Token) (first : Value) (vs : List Value) → vs ≡ first ∷ []
    → OutsSoFar fs ids ts ts 0 first vs
outs_none fs ids ts first vs is =
    record { outs = []; is = is; many = refl; most = omega arith; taken = record { things = []; takes = refl; paired = tt } }

pub outs_more : (fs : List Face) (ids : List ℕ) (old now new : List Token) (k : ℕ) (first v : Value) (vs : List Value)
    → OutsSoFar fs ids old now k first vs → k < length ids → Reads 125 now new (value_of (at fs (get_or ids k 0))) (seen v)
    → OutsSoFar fs ids old new (k + 1) first (vs ++ v ∷ [])
outs_more fs ids old now new k first v vs h there read = record {
  outs = h.outs ++ v ∷ [];
  is = ap (λ (x : List Value). x ++ v ∷ []) h.is;
  many = omega (arith, h.many, length-append h.outs (v ∷ []));
  most = omega (arith, there);
  taken = part_more 125 fs ids k old now new h.outs v h.taken h.many read;
}

pub outs_closed : (fs : List Face) (ids : List ℕ) (old now new : List Token) (k : ℕ) (first : Value) (vs : List Value)
    → OutsSoFar fs ids old now k first vs → length ids ≤ k → now ≡ end_array ∷ new
    → ItemsOf 125 old new (in_order (parts_at fs [] ids)) first vs
outs_closed fs ids old now new k first vs h past closed = record {
  outs = h.outs;
  is = h.is;
  taken = parts_closed 125 fs ids old now new h.outs h.taken (omega (arith, past, h.many, h.most)) closed;
}

pub outs_there : (d : ℕ) (old begun now past new : List Token) (f : Items → Option Vals) (first : Value) (vs : List Value) → 0 < d
    → old ≡ key (codes "outs") ∷ begun → begun ≡ begin_array ∷ now → ItemsOf (d - 1) now past f first vs → past ≡ new
    → OutsTaken d old new f first vs
outs_there d old begun now past new f first vs some begins opens h same = record {
  tree = Some (array h.taken.read.trees);
  taken = record {
    member = Some (text.array h.taken.items);
    takes = begins
        ∙ ap (λ (ts : List Token). key (codes "outs") ∷ ts)
        (opens ∙ ap (λ (ts : List Token). begin_array ∷ ts)
        (h.taken.takes ∙ ap (λ (ts : List Token). items_tokens h.taken.items ++ ts) same));
    nests = within (items_depth h.taken.items) d some h.taken.nests;
    is = ap (option_map array) h.taken.read.are;
  };
  items = h.taken.read.trees;
  are = refl;
  outs = h.outs;
  is = h.is;
  gives = h.taken.read.gives;
}

-- ---- answers

-- the keys of the members after the operation
pub record Lookups (k : Back) (ms : Named) (n x y r o : Option Data) : Type 0 where
  pub op : found (codes "op") ms None ≡ None
  pub head : found (head_key k) ms None ≡ n
  pub raise : found (codes "raise") ms None ≡ x
  pub members : found (codes "members") ms None ≡ y
  pub result : found (codes "result") ms None ≡ r
  pub outs : found (codes "outs") ms None ≡ o

module _ (r o h g : Option Data) where
  result_then_outs : (k : Back)
      → Lookups k ((codes "result", r) ∷ (head_key k, h) ∷ (codes "outs", o) ∷ (head_key k, g) ∷ []) (later (later None h) g) None None
      (later None r) (later None o)
  result_then_outs back.Xdr = record { op = refl; head = refl; raise = refl; members = refl; result = refl; outs = refl }
  result_then_outs back.CdrBig = record { op = refl; head = refl; raise = refl; members = refl; result = refl; outs = refl }
  result_then_outs back.CdrLittle = record { op = refl; head = refl; raise = refl; members = refl; result = refl; outs = refl }
  result_then_outs back.Mach = record { op = refl; head = refl; raise = refl; members = refl; result = refl; outs = refl }

  outs_then_result : (k : Back)
      → Lookups k ((codes "outs", o) ∷ (head_key k, h) ∷ (codes "result", r) ∷ (head_key k, g) ∷ []) (later (later None h) g) None None
      (later None r) (later None o)
  outs_then_result back.Xdr = record { op = refl; head = refl; raise = refl; members = refl; result = refl; outs = refl }
  outs_then_result back.CdrBig = record { op = refl; head = refl; raise = refl; members = refl; result = refl; outs = refl }
  outs_then_result back.CdrLittle = record { op = refl; head = refl; raise = refl; members = refl; result = refl; outs = refl }
  outs_then_result back.Mach = record { op = refl; head = refl; raise = refl; members = refl; result = refl; outs = refl }

head_known : (k : Back) → is_reply_key k (head_key k) ≡ true
head_known back.Xdr = refl
head_known back.CdrBig = refl
head_known back.CdrLittle = refl
head_known back.Mach = refl

result_known : (k : Back) → is_reply_key k (codes "result") ≡ true
result_known back.Xdr = refl
result_known back.CdrBig = refl
result_known back.CdrLittle = refl
result_known back.Mach = refl

outs_known : (k : Back) → is_reply_key k (codes "outs") ≡ true
outs_known back.Xdr = refl
outs_known back.CdrBig = refl
outs_known back.CdrLittle = refl
outs_known back.Mach = refl

-- the later of two head numbers
word_later : (m n : Option ℕ) → later (later None (option_map word m)) (option_map word n) ≡ option_map word (option_or n m)
word_later None None = refl
word_later (Some m) None = refl
word_later m (Some n) = refl

small_later : (m n : Option ℕ) → IfSome m (λ x. x < 2 ^ 32) → IfSome n (λ x. x < 2 ^ 32) → IfSome (option_or n m) (λ x. x < 2 ^ 32)
small_later m None p q = p
small_later m (Some n) p q = q

small_of : (o : Option text.Json) (n : Option ℕ) → IsNumber o n → IfSome n (λ x. x < 2 ^ 32)
small_of None None h = tt
small_of None (Some n) h = absurd h
small_of (Some j) None h = absurd h
small_of (Some j) (Some n) h = h.1

small_word : (k : List ℕ) (old new : List Token) (n : Option ℕ) → WordTaken k old new n → IfSome n (λ x. x < 2 ^ 32)
small_word k old new n h = small_of h.member n h.is

list_of_outs : (o : Option Data) (js : Items) → unwrap_or o (array no_items) ≡ array js → is_list o ≡ true
list_of_outs None js is = refl
list_of_outs (Some d) js is = rw is refl

listed_items : (o : Option Data) (js : Items) → unwrap_or o (array no_items) ≡ array js → items_of (unwrap_or o (array no_items)) ≡ js
listed_items o js is = rw is refl

first_and_outs : (f : Face) (ps : Parts) (d : Data) (js : Items) (v : Val) (ws : Vals) → value_of f d ≡ Some v
    → in_order ps js ≡ Some ws → in_order (part [] f ps) (json.item d js) ≡ Some (vals.val v ws)
unfolding value_of
first_and_outs f ps d js v ws one more = rw (one, more) refl

-- an answer of members in which its parts are found
given_found : (k : Back) (ms : Named) (old new : List Token) (m n : Option ℕ) (r o : Option Data) (f : Face) (ps : Parts) (v w : Value)
    → (js : Items) (outs vs : List Value)
    → Lookups k ms (later (later None (option_map word m)) (option_map word n)) None None (later None r) (later None o)
    → AreKnown k ms → IfSome (option_or n m) (λ x. x < 2 ^ 32) → AreTaken 126 ms old new
    → value_of f (unwrap_or r json.null) ≡ Some (seen v) → unwrap_or o (array no_items) ≡ array js → in_order ps js ≡ Some (all_seen outs)
    → vs ≡ v ∷ outs → GivenTaken 126 k old new (in_order (part [] f ps)) (option_or n m) vs
given_found k ms old new m n r o f ps v w js outs vs there known small taken one are more is =
    let members_is = got (codes "members") ms no_members ∙ there.members in
    let result_is = got (codes "result") ms no_members ∙ there.result ∙ later_alone r in
    let outs_is = got (codes "outs") ms no_members ∙ there.outs ∙ later_alone o in
    record {
      members = ms;
      taken = taken;
      part = record {
        known = known;
        no_op = got (codes "op") ms no_members ∙ there.op;
        head = got (head_key k) ms no_members ∙ there.head ∙ word_later m n;
        small = small;
      };
      unraised = got (codes "raise") ms no_members ∙ there.raise;
      given = ap (λ (x : Option Data). is_none x && is_list (get (codes "outs") (object_of ms))) members_is
          ∙ ap is_list outs_is ∙ list_of_outs o js are;
      gives =
          ap (λ (x : Option Data). in_order (part [] f ps)
          (json.item (unwrap_or x json.null) (items_of (list_at (codes "outs") (object_of ms)))))
          result_is
          ∙ ap (λ (x : Option Data). in_order (part [] f ps) (json.item (unwrap_or r json.null) (items_of (unwrap_or x (array no_items)))))
          outs_is
          ∙ ap (λ (x : Items). in_order (part [] f ps) (json.item (unwrap_or r json.null) x)) (listed_items o js are)
          ∙ first_and_outs f ps (unwrap_or r json.null) js (seen v) (all_seen outs) one more
          ∙ ap (λ (x : List Value). Some (all_seen x)) (sym is);
    }

-- the result first
pub result_first : (k : Back) (old a b c z new : List Token) (f : Face) (ps : Parts) (v : Value) (vs : List Value) (m n : Option ℕ)
    → ResultTaken 126 old a f (seen v) → WordTaken (head_key k) a b m → OutsTaken 126 b c (in_order ps) v vs
    → WordTaken (head_key k) c z n → z ≡ end_object ∷ new → GivenTaken 126 k old new (in_order (part [] f ps)) (option_or n m) vs
result_first k old a b c z new f ps v vs m n one before outs after ends =
    given_found k _ old new m n one.tree outs.tree f ps v v outs.items outs.outs vs
    (result_then_outs one.tree outs.tree (option_map word m) (option_map word n) k)
    (result_known k, (head_known k, (outs_known k, (head_known k, tt))))
    (small_later m n (small_word _ _ _ m before) (small_word _ _ _ n after))
    (a, one.taken, (b, word_member 126 _ _ _ m before, (c, outs.taken, (z, word_member 126 _ _ _ n after, ends))))
    one.gives outs.are outs.gives outs.is

-- what comes out first
pub outs_first : (k : Back) (old a b c z new : List Token) (f : Face) (ps : Parts) (u v : Value) (ws vs : List Value) (m n : Option ℕ)
    → OutsTaken 126 old a (in_order ps) u ws → WordTaken (head_key k) a b m → ResultTaken 126 b c f (seen v)
    → WordTaken (head_key k) c z n → z ≡ end_object ∷ new → vs ≡ slice_set ws 0 v
    → GivenTaken 126 k old new (in_order (part [] f ps)) (option_or n m) vs
outs_first k old a b c z new f ps u v ws vs m n outs before one after ends is =
    given_found k _ old new m n one.tree outs.tree f ps v v outs.items outs.outs vs
    (outs_then_result one.tree outs.tree (option_map word m) (option_map word n) k)
    (outs_known k, (head_known k, (result_known k, (head_known k, tt))))
    (small_later m n (small_word _ _ _ m before) (small_word _ _ _ n after))
    (a, outs.taken, (b, word_member 126 _ _ _ m before, (c, one.taken, (z, word_member 126 _ _ _ n after, ends))))
    one.gives outs.are outs.gives (is ∙ ap (λ (x : List Value). slice_set x 0 v) outs.is)

-- the values of an answer as a group
pub inner_taken : (k : Back) (old new : List Token) (ps : Parts) (n : Option ℕ) (vs : List Value)
    → GivenTaken 126 k old new (in_order ps) n vs
    → InnerTaken 126 k old new (values ps) n (seen (value.Group vs))
unfolding value_of
inner_taken k old new ps n vs h = record {
  members = h.members;
  taken = h.taken;
  part = h.part;
  unraised = h.unraised;
  given = h.given;
  gives = ap (option_map vals.group) h.gives ∙ ap Some (sym (seen-Group vs));
}

-- an answer as the arm of number 0
given_arm : (fs : List Face) (arms : List (ℤ × ℕ)) (o : Option ℕ) (i : ℕ) (d : Data) (v : Val) → arm_found arms o (pos 0) ≡ Some i
    → value_of (at fs i) d ≡ Some v
    → value_of (choice (number kind.U32) (arms_at fs arms o)) (arm_json (json.number (unsigned 0)) d) ≡ Some (vals.arm (pos 0) v)
unfolding value_of
given_arm fs arms o i d v there is = rw (arm_read fs arms o (pos 0) i d there ∙ is) refl

pub given_taken : (b : Binding) (op : ℕ) (old new : List Token) (fs : List Face) (arms : List (ℤ × ℕ)) (o : Option ℕ) (i : ℕ) (n : Option ℕ)
    → (v w : Val) → arm_found arms o (pos 0) ≡ Some i → InnerTaken 126 b.back old new (at fs i) n v → w ≡ vals.arm (pos 0) v
    → AnswerTaken 126 b.back (raises b op) old new (choice (number kind.U32) (arms_at fs arms o)) n w
given_taken b op old new fs arms o i n v w there h is =
    let j = object_of h.members in
    record {
      members = h.members;
      taken = h.taken;
      part = h.part;
      answers = ap (λ (x : Option Data). if is_some x then is_raised j else is_given j) h.unraised ∙ h.given;
      tree = given_tree j;
      is = ap (λ (x : Option Data). if is_some x then raised_tree (raises b op) j else Some (given_tree j)) h.unraised;
      gives = given_arm fs arms o i _ v there h.gives ∙ ap Some (sym is);
    }

-- ---- records

-- keys that are neither the operation's nor the head number's
abbrev IsApart : Back → List ℕ → Type 0
IsApart k q = (bytes_eq q (head_key k) ≡ false) × (bytes_eq q (codes "op") ≡ false)

record Apart (k : Back) : Type 0 where
  op_head : bytes_eq (codes "op") (head_key k) ≡ false
  head_op : bytes_eq (head_key k) (codes "op") ≡ false
  raise : IsApart k (codes "raise")
  members : IsApart k (codes "members")
  result : IsApart k (codes "result")
  outs : IsApart k (codes "outs")

apart : (k : Back) → Apart k
apart back.Xdr =
    record { op_head = refl; head_op = refl; raise = (refl, refl); members = (refl, refl); result = (refl, refl); outs = (refl, refl) }
apart back.CdrBig =
    record { op_head = refl; head_op = refl; raise = (refl, refl); members = (refl, refl); result = (refl, refl); outs = (refl, refl) }
apart back.CdrLittle =
    record { op_head = refl; head_op = refl; raise = (refl, refl); members = (refl, refl); result = (refl, refl); outs = (refl, refl) }
apart back.Mach =
    record { op_head = refl; head_op = refl; raise = (refl, refl); members = (refl, refl); result = (refl, refl); outs = (refl, refl) }

op_known : (k : Back) → is_reply_key k (codes "op") ≡ true
op_known back.Xdr = refl
op_known back.CdrBig = refl
op_known back.CdrLittle = refl
op_known back.Mach = refl

-- the members of a record: those with the operation, and those after it
abbrev record_of : Back → List ℕ → Option Data → Option Data → Named → Named
record_of k t h g ms = (head_key k, h) ∷ (codes "op", Some (string t)) ∷ (head_key k, g) ∷ ms

module _ (k : Back) (t : List ℕ) (h g : Option Data) (ms : Named) where
  abbrev begun_with : Members
  begun_with = set_some (head_key k) g (put (codes "op") (string t) (set_some (head_key k) h no_members))

  -- a key of an answer finds what it finds among the members after the operation
  same_answer : (q : List ℕ) → IsApart k q → get q (object_of (record_of k t h g ms)) ≡ get q (object_of ms)
  same_answer q other =
      got q ms begun_with
      ∙ ap (found q ms)
      (found_past q (head_key k) g _ other.0 ∙ found_past q (codes "op") (Some (string t)) _ other.1
      ∙ found_past q (head_key k) h no_members other.0)
      ∙ sym (got q ms no_members)

  op_there : get (codes "op") (object_of ms) ≡ None → get (codes "op") (object_of (record_of k t h g ms)) ≡ Some (string t)
  op_there none =
      got (codes "op") ms begun_with ∙ found_after (codes "op") ms _
      ∙ ap (later (get_member (codes "op") begun_with)) (sym (got (codes "op") ms no_members) ∙ none)
      ∙ found_past (codes "op") (head_key k) g _ (apart k).op_head
      ∙ get_member-put (codes "op") (string t) (set_some (head_key k) h no_members)

  head_there : get (head_key k) (object_of (record_of k t h g ms)) ≡ later (later h g) (get (head_key k) (object_of ms))
  head_there =
      got (head_key k) ms begun_with ∙ found_after (head_key k) ms _
      ∙ ap (later (get_member (head_key k) begun_with)) (sym (got (head_key k) ms no_members))
      ∙ ap (λ (x : Option Data). later x (get (head_key k) (object_of ms)))
      (found_later (head_key k) h g _
      (found_past (head_key k) (codes "op") (Some (string t)) _ (apart k).head_op ∙ found_set (head_key k) h no_members refl))

  known_all : AreKnown k ms → each_key (is_reply_key k) (set_all (record_of k t h g ms) no_members) ≡ true
  known_all known = keys_all k (record_of k t h g ms) no_members (head_known k, (op_known k, (head_known k, known))) refl

-- what a record is by the four members of its answer
abbrev Answer : Type 0 → Type 0
Answer X = Option Data → Option Data → Option Data → Option Data → X

abbrev is_answer : Answer Bool
is_answer raise members result outs =
    if is_some raise then is_text raise && is_none result && is_none outs && is_table members else is_none members && is_list outs

abbrev answer_tree : List PlainRaise → Answer (Option Data)
answer_tree rs raise members result outs =
    if is_some raise
    then option_map (λ n. arm_json (json.number (unsigned n)) (unwrap_or members (object no_members)))
    (raise_from (unwrap_or (option_and_then as_str raise) (codes "")) 1 rs)
    else Some (arm_json (json.number (unsigned 0))
    (array (json.item (unwrap_or result json.null) (items_of (unwrap_or outs (array no_items))))))

by_answer : {X : Type 0} → (f : Answer X) (a b c d p q r s : Option Data) → a ≡ p → b ≡ q → c ≡ r → d ≡ s → f a b c d ≡ f p q r s
by_answer f a b c d p q r s w x y z = rw (w, x, y, z) refl

heads_later : (a b c : Option ℕ) → later (later (option_map word a) (option_map word b)) (option_map word c)
    ≡ option_map word (option_or (option_or c b) a)
heads_later None None None = refl
heads_later (Some a) None None = refl
heads_later a (Some b) None = refl
heads_later a b (Some c) = refl

heads_small : (a b c : Option ℕ) → IfSome a (λ x. x < 2 ^ 32) → IfSome b (λ x. x < 2 ^ 32) → IfSome c (λ x. x < 2 ^ 32)
    → IfSome (option_or (option_or c b) a) (λ x. x < 2 ^ 32)
heads_small a None None p q r = p
heads_small a (Some b) None p q r = q
heads_small a b (Some c) p q r = r

head_is : (n : Option ℕ) → IfSome n (λ x. x < 2 ^ 32) → head_number (option_map word n) ≡ Some (unwrap_or n 0)
head_is None small = refl
head_is (Some n) small = in_word n small

four_true : (a b c d : Bool) → a ≡ true → b ≡ true → c ≡ true → d ≡ true → (a && b && c && d) ≡ true
four_true a b c d p q r s = rw (p, q, r, s) refl

-- a reply record begins a reply
begun : (b : Binding) (j : Data) (k : ℕ) (o : Op) (tree : Data) → is_reply b.back j ≡ true
    → op_named b (text_at (codes "op") j) ≡ Some (k, o) → o.has_reply ≡ true → reply_tree (raises b k) j ≡ Some tree
    → reply_of b j ≡ Ok (reported b j k o tree)
begun b j k o tree is named replying there =
    ap (λ (x : Bool). if x then answered_of b j (op_named b (text_at (codes "op") j)) else Err errors.Request) is
    ∙ ap (answered_of b j) named
    ∙ ap (λ (x : Bool). if x then reported_of b j k o (reply_tree (raises b k) j) else Err errors.Op) replying
    ∙ ap (reported_of b j k o) there

-- the operation with head numbers on both sides, and an answer
pub record_taken : (b : Binding) (old first opened named_at tail past new : List Token) (n m l : Option ℕ) (t : List ℕ) (k : ℕ) (o : Op)
    → (r : RequestRec) → old ≡ first → WordTaken (head_key b.back) first opened n → opened ≡ key (codes "op") ∷ token.string t ∷ named_at
    → named_at ≡ tail → WordTaken (head_key b.back) tail past m → op_named b t ≡ Some (k, o) → o.has_reply ≡ true
    → AnswerTaken 126 b.back (raises b k) past new (face_at b.nodes b.shapes o.reply) l (seen r.value)
    → (ty : Ty) → ty ≡ type_of (face_at b.nodes b.shapes o.reply) → IsWellTyped ty (seen r.value)
    → r.op ≡ k → r.head ≡ head_of b.back (unwrap_or (option_or (option_or l m) n) 0) 0 true
    → RecordTaken 126 (reply_of b) old new r
record_taken b old first opened named_at tail past new n m l t k o r same before is_op next after named replying h ty typed_as typed
    number_is heads_are =
    let f : Face = face_at b.nodes b.shapes o.reply in
    let hn : Option Data = option_map word n in
    let hm : Option Data = option_map word m in
    let all : Named = record_of b.back t hn hm h.members in
    let j : Data = object_of all in
    let num : Option ℕ = option_or (option_or l m) n in
    let w = whole 126 all old new (
      opened,
      word_member 126 _ _ _ n (subst (λ (ts : List Token). WordTaken (head_key b.back) ts opened n) (sym same) before),
      (
        tail,
        text_member 126 (codes "op") t opened tail (is_op ∙ ap (λ (ts : List Token). key (codes "op") ∷ token.string t ∷ ts) next),
        (past, word_member 126 _ _ _ m after, h.taken),
      ),
    ) in
    let x = same_answer b.back t hn hm h.members in
    let a = apart b.back in
    let raise_is = x (codes "raise") a.raise in
    let members_is = x (codes "members") a.members in
    let result_is = x (codes "result") a.result in
    let outs_is = x (codes "outs") a.outs in
    let head_found : get (head_key b.back) j ≡ option_map word num =
    head_there b.back t hn hm h.members ∙ ap (later (later hn hm)) h.part.head ∙ heads_later n m l in
    let small = heads_small n m l (small_word _ _ _ n before) (small_word _ _ _ m after) h.part.small in
    let number : head_number (get (head_key b.back) j) ≡ Some (unwrap_or num 0) = ap head_number head_found ∙ head_is num small in
    let op_found = op_there b.back t hn hm h.members h.part.no_op in
    let answers = by_answer is_answer _ _ _ _ _ _ _ _ raise_is members_is result_is outs_is ∙ h.answers in
    let tree_is = by_answer (answer_tree (raises b k)) _ _ _ _ _ _ _ _ raise_is members_is result_is outs_is ∙ h.is in
    let is : is_reply b.back j ≡ true =
    four_true _ _ _ _ (known_all b.back t hn hm h.members h.part.known) (ap is_text op_found) (ap is_some number) answers in
    let op_is : text_at (codes "op") j ≡ t = ap (λ (y : Option Data). unwrap_or (option_and_then as_str y) (codes "")) op_found in
    let begins = begun b j k o h.tree is (ap (op_named b) op_is ∙ named) replying tree_is in
    let heads : head_of b.back (number_at (head_key b.back) j) 0 true ≡ r.head =
    ap (λ (y : Option ℕ). head_of b.back (unwrap_or y 0) 0 true) number ∙ sym heads_are in
    record {
      members = w.members;
      takes = w.takes;
      nests = w.nests;
      is = record {
        tree = j;
        is = ap (option_map object) (w.are no_members);
        comes = subst (λ y. Comes y (Ok r)) (sym begins)
            (number_is, sym heads, read_presents f h.tree (seen r.value) ty typed_as h.gives typed);
      };
    }
