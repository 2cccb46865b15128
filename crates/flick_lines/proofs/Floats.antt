-- What is written has no float, by mutual induction on faces, parts and arms.
use Rattle.std.proofs.Common.{◌≡◌, ℕ, zero, suc, ℤ, List, [], ◌∷◌, length, Bool, true, false, Ordering, Less, Equal, Greater, nat_cmp, refl, codes}
use Rattle.std.specs.Prelude.{◌||◌, pos, negsuc, nat_lt, if◌then◌else◌}
use Rattle.std.specs.Cmp.Lexicographic.{slice_cmp}
use Rattle.std.specs.Ordering.{match_ordering, int_eq}
use Rattle.mint.specs.declared.kind.Kind.{Kind}
use Rattle.mint.specs.declared.kind.Kind.TheVariants as kind
use Rattle.mint.specs.Kinds.{in_range}
use Rattle.mint.specs.Values.{Val, num, row, group, items, arm, present, Vals, no_more, val, seen}
use Rattle.wire_def.specs.declared.encoding.Back.{Back}
use Rattle.wire_def.specs.declared.head.Head.{Head}
use Rattle.wire_def.specs.declared.outcome.Outcome.{Outcome}
use Rattle.wire_def.specs.declared.outcome.Outcome.TheVariants.{Answer, Refused}
use Rattle.wire_def.specs.declared.outcome.Refusal.{Refusal}
use Rattle.wire_def.specs.declared.outcome.Refusal.TheVariants as refusal
use Rattle.aoi.specs.Plain.{PlainRaise}
use Rattle.pres.specs.declared.ops.Op.{Op}
use Rattle.pres.specs.Bindings.{Binding}
use Rattle.pres.specs.Faces.{Face, Parts, no_parts, part, Arms, Sign, face_at}
use Rattle.pres.specs.Faces as face
use Rattle.pres.specs.Raises.{raises}
use Rattle.serde_json.specs.Data.{Data, null, number, unsigned, string, array, no_items, item, Members, no_members, member, put}
use Rattle.serde_json.specs.Find.{as_array, is_float, of_integer}
use Rattle.serde_json.specs.Written.{has_float, items_have_float, members_have_float}
use Rattle.json_shape.specs.Operations.{dotted}
use Rattle.json_shape.specs.Members.{is_mach, head_key, head_word}
use Rattle.json_shape.specs.Replies.{raise_name, given_members, after_members, answer_members, word, refusal_says, refusal_json, refused_members, outcome_members, reply_json}
use Rattle.json_shape.specs.Requests.{head_json, request_json}
use Rattle.json_shape.specs.Texts.{text_of}
use Rattle.json_shape.specs.Written.{number_tree, number_json, sign_json, each_json, row_json, items_json, json_of, in_order_json, by_name_json, after_json}
use Rattle.std.proofs.lemmas.Bool.{or_from}

no-float-first : (a b : Bool) → (a || b) ≡ false → a ≡ false
no-float-first false b h = refl
no-float-first true b h = h

no-float-rest : (a b : Bool) → (a || b) ≡ false → b ≡ false
no-float-rest false b h = h
no-float-rest true b h = absurd (cc h)

choice : (o : Ordering) (a b c : Members) → members_have_float a ≡ false → members_have_float b ≡ false → members_have_float c ≡ false
    → members_have_float (match_ordering o a b c) ≡ false
choice Less a b c p q r = p
choice Equal a b c p q r = q
choice Greater a b c p q r = r

put-float : (k : List ℕ) (d : Data) (ms : Members) → has_float d ≡ false → members_have_float ms ≡ false
    → members_have_float (put k d ms) ≡ false
put-float k d no_members p q = or_from (has_float d) false p refl
put-float k d (member l e ms) p q =
    let first = no-float-first (has_float e) (members_have_float ms) q in
    let later = no-float-rest (has_float e) (members_have_float ms) q in
    choice (slice_cmp nat_cmp k l) (member k d (member l e ms)) (member l d ms) (member l e (put k d ms))
    (or_from (has_float d) (members_have_float (member l e ms)) p q)
    (or_from (has_float d) (members_have_float ms) p later)
    (or_from (has_float e) (members_have_float (put k d ms)) first (put-float k d ms p later))

integer-float : (z : ℤ) → is_float (of_integer z) ≡ false
integer-float (pos n) = refl
integer-float (negsuc n) = refl

if-float : (t : Bool) (a b : Data) → has_float a ≡ false → has_float b ≡ false → has_float (if t then a else b) ≡ false
if-float true a b p q = p
if-float false a b p q = q

tree-float : (k : Kind) (n : ℤ) → has_float (number_tree k n) ≡ false
tree-float kind.Char n = refl
tree-float kind.Bool n = refl
tree-float _ n = integer-float n

number-float : (k : Kind) (n : ℤ) → has_float (number_json k n) ≡ false
number-float k n = if-float (in_range k n) (number_tree k n) null (tree-float k n) refl

sign-float : (s : Sign) (n : ℤ) → has_float (sign_json s n) ≡ false
sign-float (face.number k) n = number-float k n
sign-float (face.item is) n = refl

each-float : (k : Kind) (ns : List ℤ) → items_have_float (each_json k ns) ≡ false
each-float k [] = refl
each-float k (n ∷ ns) = or_from (has_float (number_json k n)) (items_have_float (each_json k ns)) (number-float k n) (each-float k ns)

row-float : (k : Kind) (ns : List ℤ) → has_float (row_json k ns) ≡ false
row-float kind.Octet ns = refl
row-float kind.I8 ns = each-float kind.I8 ns
row-float kind.U8 ns = each-float kind.U8 ns
row-float kind.Char ns = refl
row-float kind.I16 ns = each-float kind.I16 ns
row-float kind.U16 ns = each-float kind.U16 ns
row-float kind.I32 ns = each-float kind.I32 ns
row-float kind.U32 ns = each-float kind.U32 ns
row-float kind.I64 ns = each-float kind.I64 ns
row-float kind.U64 ns = each-float kind.U64 ns
row-float kind.Bool ns = each-float kind.Bool ns

list-float : (f : Val → Data) → ((v : Val) → has_float (f v) ≡ false) → (vs : Vals) → items_have_float (items_json f vs) ≡ false
list-float f all no_more = refl
list-float f all (val v vs) = or_from (has_float (f v)) (items_have_float (items_json f vs)) (all v) (list-float f all vs)

mutual
  json-float : (f : Face) (v : Val) → has_float (json_of f v) ≡ false
  json-float face.nothing v = refl
  json-float (face.scalar s) (num n) = sign-float s n
  json-float (face.scalar s) _ = refl
  json-float (face.numbers a) (row k ns) = row-float k ns
  json-float (face.numbers a) _ = refl
  json-float (face.values ps) (group vs) = order-float ps vs
  json-float (face.values ps) _ = refl
  json-float (face.members ps) (group vs) = names-float ps vs
  json-float (face.members ps) _ = refl
  json-float (face.list c f) (items vs) = list-float (json_of f) (json-float f) vs
  json-float (face.list c f) _ = refl
  json-float (face.choice s arms) (arm n v) =
      put-float (codes "tag") (sign_json s n) (put (codes "value") (after_json arms n v) no_members) (sign-float s n)
      (put-float (codes "value") (after_json arms n v) no_members (after-float arms n v) refl)
  json-float (face.choice s arms) _ = refl
  json-float (face.maybe f) (present v) = or_from (has_float (json_of f v)) false (json-float f v) refl
  json-float (face.maybe f) _ = refl

  order-float : (ps : Parts) (vs : Vals) → items_have_float (in_order_json ps vs) ≡ false
  order-float no_parts vs = refl
  order-float (part n f ps) no_more = refl
  order-float (part n f ps) (val v vs) =
      or_from (has_float (json_of f v)) (items_have_float (in_order_json ps vs)) (json-float f v) (order-float ps vs)

  names-float : (ps : Parts) (vs : Vals) → members_have_float (by_name_json ps vs) ≡ false
  names-float no_parts vs = refl
  names-float (part n f ps) no_more = refl
  names-float (part n f ps) (val v vs) = put-float _ (json_of f v) (by_name_json ps vs) (json-float f v) (names-float ps vs)

  after-float : (arms : Arms) (n : ℤ) (v : Val) → has_float (after_json arms n v) ≡ false
  after-float face.no_other n v = refl
  after-float (face.other f) n v = json-float f v
  after-float (face.arm m f arms) n v = if-float (int_eq n m) (json_of f v) (after_json arms n v) (json-float f v) (after-float arms n v)

local-float : (t : Bool) (n : ℕ) (ms : Members) → members_have_float ms ≡ false
    → members_have_float (if t then put (codes "local") (number (unsigned n)) ms else ms) ≡ false
local-float true n ms p = put-float (codes "local") (number (unsigned n)) ms refl p
local-float false n ms p = p

head-float : (b : Back) (h : Head) (ms : Members) → members_have_float ms ≡ false → members_have_float (head_json b h ms) ≡ false
head-float b h ms p =
    put-float (head_key b) (number (unsigned (head_word b h)))
    (if is_mach b then put (codes "local") (number (unsigned h.local)) ms else ms) refl (local-float (is_mach b) h.local ms p)

-- the record of a request
pub record-float : (b : Binding) (op : Op) (h : Head) (v : Val) → has_float (request_json b op h v) ≡ false
record-float b op h v =
    let args = json_of (face_at b.nodes b.shapes op.request) v in
    put-float (codes "op") (string (text_of (dotted b.unit.interfaces op))) (head_json b.back h (put (codes "args") args no_members)) refl
    (head-float b.back h (put (codes "args") args no_members)
    (put-float (codes "args") args no_members (json-float (face_at b.nodes b.shapes op.request) v) refl))

-- ---- replies

-- the items of an array
array-float : (d : Data) → has_float d ≡ false → members_have_float (given_members (as_array d)) ≡ false
array-float (array no_items) p = refl
array-float (array (item d ds)) p =
    put-float (codes "result") d (put (codes "outs") (array ds) no_members) (no-float-first (has_float d) (items_have_float ds) p)
    (put-float (codes "outs") (array ds) no_members (no-float-rest (has_float d) (items_have_float ds) p) refl)
array-float _ p = refl

raised-float : (t : Bool) (name : List ℕ) (d : Data) → has_float d ≡ false
    → members_have_float (if t then put (codes "raise") (string name) (put (codes "members") d no_members) else no_members) ≡ false
raised-float true name d p =
    put-float (codes "raise") (string name) (put (codes "members") d no_members) refl
    (put-float (codes "members") d no_members p refl)
raised-float false name d p = refl

arm-float : (rs : List PlainRaise) (n : ℤ) (d : Data) → has_float d ≡ false → members_have_float (after_members rs n d) ≡ false
arm-float rs (pos zero) d p = array-float d p
arm-float rs (pos (suc k)) d p = raised-float (nat_lt k (length rs)) (text_of (raise_name rs k)) d p
arm-float rs (negsuc k) d p = refl

choice-float : (rs : List PlainRaise) (s : Sign) (arms : Arms) (v : Val)
    → members_have_float (answer_members rs (face.choice s arms) v) ≡ false
choice-float rs s arms (arm n v) = arm-float rs n (after_json arms n v) (after-float arms n v)
choice-float rs s arms _ = refl

answer-float : (rs : List PlainRaise) (f : Face) (v : Val) → members_have_float (answer_members rs f v) ≡ false
answer-float rs (face.choice s arms) v = choice-float rs s arms v
answer-float rs _ v = refl

says-float : (why : Refusal) → items_have_float (refusal_says why) ≡ false
says-float (refusal.RetCode code) = or_from (is_float (of_integer code)) false (integer-float code) refl
says-float _ = refl

refused-float : (why : Refusal) → members_have_float (refused_members why) ≡ false
refused-float why =
    put-float (codes "refused") (array (refusal_json why)) no_members
    (or_from false (items_have_float (refusal_says why)) refl (says-float why)) refl

outcome-float : (rs : List PlainRaise) (f : Face) (o : Outcome) → members_have_float (outcome_members rs f o) ≡ false
outcome-float rs f (Answer v) = answer-float rs f (seen v)
outcome-float rs f (Refused why) = refused-float why

-- the record of a reply
pub reply-float : (b : Binding) (k : ℕ) (op : Op) (h : Head) (o : Outcome) → has_float (reply_json b k op h o) ≡ false
reply-float b k op h o =
    let ms = outcome_members (raises b k) (face_at b.nodes b.shapes op.reply) o in
    put-float (codes "op") (string (text_of (dotted b.unit.interfaces op))) (put (head_key b.back) (word (head_word b.back h)) ms) refl
    (put-float (head_key b.back) (word (head_word b.back h)) ms refl (outcome-float (raises b k) (face_at b.nodes b.shapes op.reply) o))
