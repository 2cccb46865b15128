-- Request records that are written are read back, by induction on the operations.
use Rattle.std.proofs.Common.{◌≡◌, ℕ, zero, suc, ◌+◌, ◌^◌, ◌<◌, List, [], ◌∷◌, ◌++◌, map, slice_get, Bool, true, false, not, Some, None, Ok, bytes_eq, refl, sym, ap, ◌∙◌, subst, arith}
use Rattle.std.specs.Prelude.{if◌then◌else◌, codes, nat_lt, is_some}
use Rattle.std.specs.List.{list_any, AllByRecursion}
use Rattle.std.proofs.lemmas.Bool.{lt-ltb, not-true, or_parts}
use Rattle.std.proofs.lemmas.Slice.Eq.{bytes_eq-Decides}
use Rattle.std.proofs.lemmas.Str.{encodes_same}
use Rattle.mint.specs.Typed.{IsWellTyped}
use Rattle.mint.specs.Values.{Val, group}
use Rattle.wire_def.specs.declared.encoding.Back.{Back}
use Rattle.wire_def.specs.declared.encoding.Back.TheVariants as back
use Rattle.wire_def.specs.declared.head.Head.{Head}
use Rattle.aoi.specs.Plain.{PlainOperation, PlainInterface}
use Rattle.aoi.specs.Sound.{are_distinct}
use Rattle.pres.specs.declared.ops.Op.{Op}
use Rattle.pres.specs.Bindings.{Binding, IsBinding}
use Rattle.pres.specs.Faces.{Face, Parts, values, type_of, faces, face_at}
use Rattle.pres.specs.Offers.{Offer, offer, offer_at, operations, offers_from, type_faces}
use Rattle.serde_json.specs.Data.{Data, no_members, string, object, put}
use Rattle.serde_json.specs.Find.{as_array}
use Rattle.json_shape.specs.Laws.{has_idle_port, RecordsAreReadBack}
use Rattle.json_shape.specs.Members.{head_key, head_word, number_at, text_at, list_at}
use Rattle.json_shape.specs.Operations.{dotted, op_from, op_named, is_oneway}
use Rattle.json_shape.specs.Requests.{is_request, head_of, is_unanswered, request_of, head_json}
use Rattle.json_shape.specs.Texts.{text_of}
use Rattle.json_shape.specs.Written.{json_of}
use Rattle.json_shape.proofs.Naming.{face_named}
use Rattle.json_shape.proofs.Written.{shows_written}
use Rattle.wire_def.proofs.ScalarGrammar.{left_true, right_true}

-- ---- the operation of a name

same_name : (a : List ℕ) → bytes_eq a a ≡ true
same_name a = (bytes_eq-Decides a a).1 refl

apart : (a b : List ℕ) → bytes_eq b a ≡ false → bytes_eq (text_of a) (text_of b) ≡ false
apart a b h = by (bytes_eq (text_of a) (text_of b)) refl where
  by : (t : Bool) → bytes_eq (text_of a) (text_of b) ≡ t → t ≡ false
  by false is = refl
  by true is =
      let same : a ≡ b = encodes_same a b ((bytes_eq-Decides (text_of a) (text_of b)).0 is) in
      let yes : bytes_eq b a ≡ true = (bytes_eq-Decides b a).1 (sym same) in
      absurd cc

other_name : (is : List PlainInterface) (ops : List Op) (j : ℕ) (o : Op) (n : List ℕ)
    → list_any (λ m. bytes_eq m n) (map (dotted is) ops) ≡ false → slice_get ops j ≡ Some o → bytes_eq (dotted is o) n ≡ false
other_name is [] j o n h there = absurd cc
other_name is (p ∷ ops) zero o n h there =
    let same : p ≡ o = cc in
    ap (λ z. bytes_eq (dotted is z) n) (sym same)
    ∙ (or_parts (bytes_eq (dotted is p) n) (list_any (λ m. bytes_eq m n) (map (dotted is) ops)) h).0
other_name is (p ∷ ops) (suc j) o n h there =
    other_name is ops j o n ((or_parts (bytes_eq (dotted is p) n) (list_any (λ m. bytes_eq m n) (map (dotted is) ops)) h).1) there

found : (is : List PlainInterface) (ops : List Op) (k j : ℕ) (o : Op) → are_distinct (map (dotted is) ops) ≡ true → slice_get ops j ≡ Some o
    → op_from is (text_of (dotted is o)) k ops ≡ Some (k + j, o)
found is [] k j o h there = absurd cc
found is (p ∷ ops) k zero o h there =
    let same : p ≡ o = cc in
    let here : bytes_eq (text_of (dotted is p)) (text_of (dotted is o)) ≡ true =
    ap (λ z. bytes_eq (text_of (dotted is p)) (text_of (dotted is z))) (sym same) ∙ same_name (text_of (dotted is p)) in
    let place : k ≡ k + 0 = omega arith in
    rw here (ap (λ z. Some (z, p)) place ∙ ap (λ z. Some (k + 0, z)) same)
found is (p ∷ ops) k (suc j) o h there =
    let none =
    not-true (list_any (λ m. bytes_eq m (dotted is p)) (map (dotted is) ops))
    (left_true (not (list_any (λ m. bytes_eq m (dotted is p)) (map (dotted is) ops))) (are_distinct (map (dotted is) ops)) h) in
    let rest = right_true (not (list_any (λ m. bytes_eq m (dotted is p)) (map (dotted is) ops))) (are_distinct (map (dotted is) ops)) h in
    let no : bytes_eq (text_of (dotted is p)) (text_of (dotted is o)) ≡ false =
    apart (dotted is p) (dotted is o) (other_name is ops j o (dotted is p) none there) in
    let place : suc k + j ≡ k + suc j = omega arith in
    rw no (found is ops (suc k) j o rest there ∙ ap (λ z. Some (z, o)) place)

-- ---- the members of a record

-- the record of a name, a head and arguments
abbrev pub written : Back → List ℕ → Head → Data → Data
written k t h args = object (put (codes "op") (string t) (head_json k h (put (codes "args") args no_members)))

-- a number of 32 bits
pub in_word : (n : ℕ) → n < 2 ^ 32 → (if nat_lt n (2 ^ 32) then Some n else None) ≡ Some n
in_word n h = let yes : nat_lt n (2 ^ 32) ≡ true = lt-ltb n (2 ^ 32) h in rw yes refl

pub text_is : (k : Back) (t : List ℕ) (h : Head) (args : Data) → text_at (codes "op") (written k t h args) ≡ t
text_is back.Xdr t h args = refl
text_is back.CdrBig t h args = refl
text_is back.CdrLittle t h args = refl
text_is back.Mach t h args = refl

pub args_are : (k : Back) (t : List ℕ) (h : Head) (args : Data) → list_at (codes "args") (written k t h args) ≡ args
args_are back.Xdr t h args = refl
args_are back.CdrBig t h args = refl
args_are back.CdrLittle t h args = refl
args_are back.Mach t h args = refl

-- the head that is read of a record
abbrev pub head_read : Back → Data → Bool → Head
head_read k j wants = head_of k (number_at (head_key k) j) (number_at (codes "local") j) wants

pub head_is : (k : Back) (t : List ℕ) (h : Head) (args : Data) (wants : Bool) → head_word k h < 2 ^ 32 → h.local < 2 ^ 32
    → head_read k (written k t h args) wants ≡ head_of k (head_word k h) h.local wants
head_is back.Xdr t h args wants w p = rw (lt-ltb h.id (2 ^ 32) w) refl
head_is back.CdrBig t h args wants w p = rw (lt-ltb h.id (2 ^ 32) w) refl
head_is back.CdrLittle t h args wants w p = rw (lt-ltb h.id (2 ^ 32) w) refl
head_is back.Mach t h args wants w p = rw (lt-ltb h.remote (2 ^ 32) w, lt-ltb h.local (2 ^ 32) p) refl

pub is_record : (k : Back) (t : List ℕ) (h : Head) (args : Data) → head_word k h < 2 ^ 32 → h.local < 2 ^ 32
    → is_some (as_array args) ≡ true → is_request k (written k t h args) ≡ true
is_record back.Xdr t h args w p a = rw (lt-ltb h.id (2 ^ 32) w, a) refl
is_record back.CdrBig t h args w p a = rw (lt-ltb h.id (2 ^ 32) w, a) refl
is_record back.CdrLittle t h args w p a = rw (lt-ltb h.id (2 ^ 32) w, a) refl
is_record back.Mach t h args w p a = rw (lt-ltb h.remote (2 ^ 32) w, lt-ltb h.local (2 ^ 32) p, a) refl

pub answered : (k : Back) (t : List ℕ) (h : Head) (args : Data) (o : Op) → h.local < 2 ^ 32 → has_idle_port k o h ≡ false
    → is_unanswered k o (written k t h args) ≡ false
answered back.Xdr t h args o p i = refl
answered back.CdrBig t h args o p i = refl
answered back.CdrLittle t h args o p i = refl
answered back.Mach t h args o p i = rw (lt-ltb h.local (2 ^ 32) p) i

-- ---- the arguments

-- values without names
abbrev AreValues : Offer → Type 0
AreValues f = (ps : Parts) × (f.request ≡ values ps)

values_all : (fs : List Face) (b : Back) (k : ℕ) (ops : List PlainOperation) → AllByRecursion AreValues (map (offer fs b k) ops)
values_all fs b k [] = tt
values_all fs b k (op ∷ ops) = ((_, refl), values_all fs b k ops)

values_more : (xs ys : List Offer) → AllByRecursion AreValues xs → AllByRecursion AreValues ys → AllByRecursion AreValues (xs ++ ys)
values_more [] ys a b = b
values_more (x ∷ xs) ys a b = (a.0, values_more xs ys a.1 b)

values_from : (fs : List Face) (b : Back) (k : ℕ) (is : List PlainInterface) → AllByRecursion AreValues (offers_from fs b k is)
values_from fs b k [] = tt
values_from fs b k (i ∷ is) =
    values_more (map (offer fs b k) (operations b i)) (offers_from fs b (suc k) is) (values_all fs b k (operations b i))
    (values_from fs b (suc k) is)

values_at : (fs : List Face) (ops : List Op) (k : ℕ) (o : Op) → AllByRecursion AreValues (map (offer_at fs) ops) → slice_get ops k ≡ Some o
    → AreValues (offer_at fs o)
values_at fs [] k o all there = absurd cc
values_at fs (p ∷ ops) zero o all there = let same : p ≡ o = cc in subst (λ z. AreValues (offer_at fs z)) same all.0
values_at fs (p ∷ ops) (suc k) o all there = values_at fs ops k o all.1 there

request_values : (b : Binding) (k : ℕ) (o : Op) → IsBinding b → slice_get b.ops k ≡ Some o → AreValues (offer_at (faces b.nodes b.shapes) o)
request_values b k o bound there =
    values_at (faces b.nodes b.shapes) b.ops k o
    (subst (AllByRecursion AreValues) (sym bound.offered) (values_from (type_faces b.unit) b.back 0 b.unit.interfaces)) there

list_written : (ps : Parts) (v : Val) → IsWellTyped (type_of (values ps)) v → is_some (as_array (json_of (values ps) v)) ≡ true
list_written ps (group vs) typed = refl
list_written ps _ typed = absurd typed.is_of

args_listed : (f : Face) (ps : Parts) (v : Val) → f ≡ values ps → IsWellTyped (type_of f) v → is_some (as_array (json_of f v)) ≡ true
args_listed f ps v is typed = rw is (list_written ps v (rw is at typed))

-- ---- records

-- what is read of a record that has the members of one
pub whole : (b : Binding) (j : Data) (k : ℕ) (o : Op) → is_request b.back j ≡ true → op_named b (text_at (codes "op") j) ≡ Some (k, o)
    → is_unanswered b.back o j ≡ false
    → request_of b j ≡ Ok (record {
      op = k;
      head = head_read b.back j (not (is_oneway b k));
      face = face_at b.nodes b.shapes o.request;
      tree = list_at (codes "args") j;
    })
whole b j k o is named idle = rw (is, named, idle) refl

pub read_back : RecordsAreReadBack
read_back b k o h v bound apart_ there head typed =
    let f : Face = face_at b.nodes b.shapes o.request in
    let t : List ℕ = text_of (dotted b.unit.interfaces o) in
    let args : Data = json_of f v in
    let j : Data = written b.back t h args in
    let is = is_record b.back t h args head.word head.port (args_listed f _ v (request_values b k o bound there).1 typed) in
    let place : 0 + k ≡ k = omega arith in
    let named : op_named b (text_at (codes "op") j) ≡ Some (k, o) =
    ap (op_named b) (text_is b.back t h args) ∙ found b.unit.interfaces b.ops 0 k o apart_ there ∙ ap (λ z. Some (z, o)) place in
    let heads = head_is b.back t h args (not (is_oneway b k)) head.word head.port in (
      whole b j k o is named (answered b.back t h args o head.port head.idle)
          ∙ ap (λ z. Ok (record { op = k; head = z; face = f; tree = list_at (codes "args") j })) heads
          ∙ ap (λ z. Ok (record { op = k; head = head_of b.back (head_word b.back h) h.local (not (is_oneway b k)); face = f; tree = z }))
          (args_are b.back t h args),
      record { shows = shows_written f v (face_named b.nodes b.shapes o.request bound.named) typed.is_of; typed = typed },
    )
