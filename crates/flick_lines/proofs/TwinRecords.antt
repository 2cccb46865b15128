-- Records begin the same over bindings of one unit over one back end, by induction on the operations.
use Rattle.std.proofs.Common.{◌≡◌, inl, inr, ℕ, suc, ◌+◌, ◌<◌, ◌≤◌, List, [], ◌∷◌, map, length, Bool, true, false, Option, Some, None, Result, Ok, Err, refl, sym, ap, ◌∙◌, subst, arith}
use Rattle.std.specs.Prelude.{codes, not, ◌&&◌, ◌==◌, slice_index_or, if◌then◌else◌}
use Rattle.std.specs.Option.{option_map_or}
use Rattle.std.specs.Str.{bytes_eq}
use Rattle.mint.specs.Values.{Val}
use Rattle.wire_def.specs.declared.encoding.Back.{Back}
use Rattle.wire_def.specs.declared.head.Head.{Head}
use Rattle.aoi.specs.Plain.{PlainUnit, PlainInterface, PlainOperation, PlainRaise}
use Rattle.pres.specs.declared.ops.Op.{Op}
use Rattle.pres.specs.Bindings.{Binding}
use Rattle.pres.specs.Faces.{Face, at}
use Rattle.pres.specs.Offers.{Offer, offer_at}
use Rattle.pres.specs.Raises.{sources, raises}
use Rattle.serde_json.specs.Data.{Data}
use Rattle.json_shape.specs.declared.errors.RecordErr.{RecordErr}
use Rattle.json_shape.specs.declared.errors.RecordErr.TheVariants as errors
use Rattle.json_shape.specs.Members.{is_mach, head_key, number_at, list_at, text_at}
use Rattle.json_shape.specs.Operations.{dotted, op_from, op_named, if_replying, replying, is_oneway}
use Rattle.json_shape.specs.Records.{Begun}
use Rattle.json_shape.specs.Replies.{is_reply, reply_tree, reported_of, answered_of, reply_of}
use Rattle.json_shape.specs.Requests.{head_of, is_request, is_unanswered, asked, asked_of, request_of}
use Rattle.json_shape.specs.Texts.{text_of}
use Rattle.flick_lines.specs.Marshalled.{Beginning, Texts, IsMessage, IsOfRecord, IsOfTree}
use Rattle.flick_lines.proofs.Twins.{AreTwins, faces_in, AreSame, ops_alike, first_same, rest_same, none_same, names_alike, dotted_alike}

-- ---- the operations of a name

-- operations that were found, of one number below n, that are the same offer
abbrev AreFound : ℕ → List Face → List Face → Option (ℕ × Op) → Option (ℕ × Op) → Type 0
AreFound n fs gs None None = Unit {0}
AreFound n fs gs (Some x) (Some y) = (x.0 ≡ y.0) × (x.0 < n) × (offer_at fs x.1 ≡ offer_at gs y.1)
AreFound n fs gs _ _ = ⊥

either_found : (n : ℕ) (fs gs : List Face) (p q : Bool) (x y v w : Option (ℕ × Op)) → p ≡ q
    → AreFound n fs gs x v → AreFound n fs gs y w → AreFound n fs gs (if p then x else y) (if q then v else w)
either_found n fs gs true true x y v w e h g = h
either_found n fs gs true false x y v w e h g = absurd (cc e)
either_found n fs gs false true x y v w e h g = absurd (cc e)
either_found n fs gs false false x y v w e h g = g

found_alike : (n : ℕ) (fs gs : List Face) (is js : List PlainInterface) (s : List ℕ) (k : ℕ) (os ps : List Op)
    → map (λ (i : PlainInterface). i.name) is ≡ map (λ (i : PlainInterface). i.name) js
    → AreSame fs gs os ps → k + length os ≤ n → AreFound n fs gs (op_from is s k os) (op_from js s k ps)
found_alike n fs gs is js s k [] [] names e fits = tt
found_alike n fs gs is js s k [] (p ∷ ps) names e fits = absurd (none_same fs gs p ps e)
found_alike n fs gs is js s k (o ∷ os) [] names e fits = absurd (none_same gs fs o os (sym e))
found_alike n fs gs is js s k (o ∷ os) (p ∷ ps) names e fits =
    let same = first_same fs gs o p os ps e in
    let one = dotted_alike fs gs is js o p names same in
    let test : bytes_eq (text_of (dotted is o)) s ≡ bytes_eq (text_of (dotted js p)) s =
    ap (λ (d : List ℕ). bytes_eq (text_of d) s) one in
    let here : k < n = omega (arith, fits) in
    let later : suc k + length os ≤ n = omega (arith, fits) in
    either_found n fs gs _ _ (Some (k, o)) (op_from is s (suc k) os) (Some (k, p)) (op_from js s (suc k) ps) test (refl, here, same)
    (found_alike n fs gs is js s (suc k) os ps names (rest_same fs gs o p os ps e) later)

named_alike : (b c : Binding) → AreTwins b c → (s : List ℕ)
    → AreFound (length b.ops) (faces_in b) (faces_in c) (op_named b s) (op_named c s)
named_alike b c t s =
    found_alike (length b.ops) (faces_in b) (faces_in c) b.unit.interfaces c.unit.interfaces s 0 b.ops c.ops
    (names_alike b c t) (ops_alike b c t) (omega arith)

-- one number below n, if there is one
abbrev pub IsFew : ℕ → Option ℕ → Type 0
IsFew n None = Unit {0}
IsFew n (Some k) = k < n

-- an operation that has a reply, or none that has
abbrev with_reply : ℕ → Bool → Option ℕ
with_reply k reply = if reply then Some k else None

reply_few : (n k : ℕ) (reply : Bool) → k < n → IsFew n (with_reply k reply)
reply_few n k true h = h
reply_few n k false h = tt

both_reply : (n : ℕ) (fs gs : List Face) (x y : Option (ℕ × Op)) → AreFound n fs gs x y
    → (if_replying x ≡ if_replying y) × IsFew n (if_replying x)
both_reply n fs gs None None f = (refl, tt)
both_reply n fs gs None (Some y) f = absurd f
both_reply n fs gs (Some x) None f = absurd f
both_reply n fs gs (Some x) (Some y) (number, below, same) = (
  ap (λ (z : Offer). with_reply x.0 z.has_reply) same ∙ ap (λ k. with_reply k y.1.has_reply) number,
  reply_few n x.0 x.1.has_reply below,
)

-- the operation with a reply that a name has
pub replying_alike : (b c : Binding) → AreTwins b c → (name : List ℕ)
    → (replying b name ≡ replying c name) × IsFew (length b.ops) (replying b name)
replying_alike b c t name =
    both_reply (length b.ops) (faces_in b) (faces_in c) (op_named b (text_of name)) (op_named c (text_of name))
    (named_alike b c t (text_of name))

-- ---- what records begin

-- a record of one of so many operations, if it is a record
abbrev pub IsOfFew : ℕ → Result Begun RecordErr → Type 0
IsOfFew n (Err e) = Unit {0}
IsOfFew n (Ok r) = r.op < n

-- one record, of one of so many operations
pub record AreOne (n : ℕ) (x y : Result Begun RecordErr) : Type 0 where
  pub same : x ≡ y
  pub few : IsOfFew n x

either_one : (n : ℕ) (p q : Bool) (x y : Result Begun RecordErr) (e : RecordErr) → p ≡ q → AreOne n x y
    → AreOne n (if p then x else Err e) (if q then y else Err e)
either_one n true true x y e is h = h
either_one n true false x y e is h = absurd (cc is)
either_one n false true x y e is h = absurd (cc is)
either_one n false false x y e is h = record { same = refl; few = tt }

-- requests

-- a request over a back end, of an operation that has a reply or none
abbrev asked_over : Back → Bool → Data → ℕ → Face → Bool → Result Begun RecordErr
asked_over k wants j n f reply =
    if is_mach k && (not reply && not (number_at (codes "local") j == 0)) then Err errors.Head
    else Ok (record {
      op = n;
      head = head_of k (number_at (head_key k) j) (number_at (codes "local") j) wants;
      face = f;
      tree = list_at (codes "args") j;
    })

-- whether an operation of a unit is oneway
abbrev oneway_over : Back → PlainUnit → ℕ → Bool
oneway_over k u n = option_map_or (λ (p : PlainOperation). p.oneway) (slice_index_or (sources k u.interfaces) n None) false

oneway_alike : (b c : Binding) → AreTwins b c → (n : ℕ) → is_oneway b n ≡ is_oneway c n
oneway_alike b c t n = ap (λ (k : Back). oneway_over k b.unit n) t.backs ∙ ap (λ (u : PlainUnit). oneway_over c.back u n) t.units

asked_alike : (b c : Binding) → AreTwins b c → (j : Data) (x y : ℕ × Op) → x.0 ≡ y.0
    → offer_at (faces_in b) x.1 ≡ offer_at (faces_in c) y.1 → asked_of b j (Some x) ≡ asked_of c j (Some y)
asked_alike b c t j x y number same =
    let f : Face = at (faces_in b) x.1.request in
    ap (λ (k : Back). asked_over k (not (is_oneway b x.0)) j x.0 f x.1.has_reply) t.backs
    ∙ ap (λ (w : Bool). asked_over c.back (not w) j x.0 f x.1.has_reply) (oneway_alike b c t x.0)
    ∙ ap (λ (n : ℕ). asked_over c.back (not (is_oneway c n)) j n f x.1.has_reply) number
    ∙ ap (λ (z : Offer). asked_over c.back (not (is_oneway c y.0)) j y.0 z.request z.has_reply) same

asked_few : (n : ℕ) (p : Bool) (r : Begun) → r.op < n → IsOfFew n (if p then Err errors.Head else Ok r)
asked_few n true r h = tt
asked_few n false r h = h

both_asked : (b c : Binding) → AreTwins b c → (j : Data) (x y : Option (ℕ × Op))
    → AreFound (length b.ops) (faces_in b) (faces_in c) x y → AreOne (length b.ops) (asked_of b j x) (asked_of c j y)
both_asked b c t j None None f = record { same = refl; few = tt }
both_asked b c t j None (Some y) f = absurd f
both_asked b c t j (Some x) None f = absurd f
both_asked b c t j (Some x) (Some y) (number, below, same) = record {
  same = asked_alike b c t j x y number same;
  few = asked_few (length b.ops) (is_unanswered b.back x.1 j) (asked b j x.0 x.1) below;
}

requests_alike : (b c : Binding) → AreTwins b c → (j : Data) → AreOne (length b.ops) (request_of b j) (request_of c j)
requests_alike b c t j =
    let s = text_at (codes "op") j in
    either_one (length b.ops) (is_request b.back j) (is_request c.back j) (asked_of b j (op_named b s)) (asked_of c j (op_named c s))
    errors.Request (ap (λ (k : Back). is_request k j) (t.backs)) (both_asked b c t j (op_named b s) (op_named c s) (named_alike b c t s))

-- replies

-- a reply over a back end
abbrev reported_over : Back → Data → ℕ → Face → Option Data → Result Begun RecordErr
reported_over k j n f None = Err errors.Shape
reported_over k j n f (Some tree) =
    Ok (record { op = n; head = head_of k (number_at (head_key k) j) 0 true; face = f; tree = tree })

-- the same of an operation that has a reply or none, and raises these exceptions
abbrev replied_over : Back → Data → ℕ → List PlainRaise → Face → Bool → Result Begun RecordErr
replied_over k j n rs f reply = if reply then reported_over k j n f (reply_tree rs j) else Err errors.Op

reported_is : (b : Binding) (j : Data) (k : ℕ) (o : Op) (tree : Option Data)
    → reported_of b j k o tree ≡ reported_over b.back j k (at (faces_in b) o.reply) tree
reported_is b j k o None = refl
reported_is b j k o (Some tree) = refl

replied_is : (b : Binding) (j : Data) (x : ℕ × Op)
    → answered_of b j (Some x) ≡ replied_over b.back j x.0 (raises b x.0) (at (faces_in b) x.1.reply) x.1.has_reply
replied_is b j x =
    ap (λ (r : Result Begun RecordErr). if x.1.has_reply then r else Err errors.Op)
    (reported_is b j x.0 x.1 (reply_tree (raises b x.0) j))

-- the exceptions of an operation of a unit
abbrev raises_over : Back → PlainUnit → ℕ → List PlainRaise
raises_over k u n = option_map_or (λ (p : PlainOperation). p.raises) (slice_index_or (sources k u.interfaces) n None) []

pub raises_alike : (b c : Binding) → AreTwins b c → (n : ℕ) → raises b n ≡ raises c n
raises_alike b c t n = ap (λ (k : Back). raises_over k b.unit n) t.backs ∙ ap (λ (u : PlainUnit). raises_over c.back u n) t.units

replied_alike : (b c : Binding) → AreTwins b c → (j : Data) (x y : ℕ × Op) → x.0 ≡ y.0
    → offer_at (faces_in b) x.1 ≡ offer_at (faces_in c) y.1 → answered_of b j (Some x) ≡ answered_of c j (Some y)
replied_alike b c t j x y number same =
    let f : Face = at (faces_in b) x.1.reply in
    replied_is b j x
    ∙ ap (λ (k : Back). replied_over k j x.0 (raises b x.0) f x.1.has_reply) t.backs
    ∙ ap (λ (rs : List PlainRaise). replied_over c.back j x.0 rs f x.1.has_reply) (raises_alike b c t x.0)
    ∙ ap (λ (n : ℕ). replied_over c.back j n (raises c n) f x.1.has_reply) number
    ∙ ap (λ (z : Offer). replied_over c.back j y.0 (raises c y.0) z.reply z.has_reply) same
    ∙ sym (replied_is c j y)

reported_few : (n : ℕ) (b : Binding) (j : Data) (k : ℕ) (o : Op) (tree : Option Data) → k < n → IsOfFew n (reported_of b j k o tree)
reported_few n b j k o None h = tt
reported_few n b j k o (Some tree) h = h

replied_few : (n : ℕ) (p : Bool) (r : Result Begun RecordErr) → IsOfFew n r → IsOfFew n (if p then r else Err errors.Op)
replied_few n true r h = h
replied_few n false r h = tt

both_replied : (b c : Binding) → AreTwins b c → (j : Data) (x y : Option (ℕ × Op))
    → AreFound (length b.ops) (faces_in b) (faces_in c) x y → AreOne (length b.ops) (answered_of b j x) (answered_of c j y)
both_replied b c t j None None f = record { same = refl; few = tt }
both_replied b c t j None (Some y) f = absurd f
both_replied b c t j (Some x) None f = absurd f
both_replied b c t j (Some x) (Some y) (number, below, same) =
    let tree = reply_tree (raises b x.0) j in
    record {
      same = replied_alike b c t j x y number same;
      few = replied_few (length b.ops) x.1.has_reply (reported_of b j x.0 x.1 tree) (reported_few (length b.ops) b j x.0 x.1 tree below);
    }

pub replies_alike : (b c : Binding) → AreTwins b c → (j : Data) → AreOne (length b.ops) (reply_of b j) (reply_of c j)
replies_alike b c t j =
    let s = text_at (codes "op") j in
    either_one (length b.ops) (is_reply b.back j) (is_reply c.back j) (answered_of b j (op_named b s)) (answered_of c j (op_named c s))
    errors.Request (ap (λ (k : Back). is_reply k j) (t.backs)) (both_replied b c t j (op_named b s) (op_named c s) (named_alike b c t s))

-- ---- the answers to records

-- the same texts of so many operations
abbrev pub AreSaid : ℕ → Texts → Texts → Type 0
AreSaid few m n = (op : ℕ) → op < few → (h : Head) (v : Val) → m op h v ≡ n op h v

said_over : (few : ℕ) (m n : Texts) → AreSaid few m n → (r : Begun) (a : List ℕ) → r.op < few → IsMessage m r a → IsMessage n r a
said_over few m n same r a below (inl (v, p, e)) = inl (v, p, e ∙ same r.op below r.head v)
said_over few m n same r a below (inr h) = inr h

begun_over : (few : ℕ) (m n : Texts) → AreSaid few m n → (r : Result Begun RecordErr) (a : List ℕ) → IsOfFew few r
    → IsOfRecord m r a → IsOfRecord n r a
begun_over few m n same (Err e) a below h = h
begun_over few m n same (Ok r) a below h = said_over few m n same r a below h

-- records that begin the same, with the same texts, are answered alike
begin_over : (few : ℕ) (f g : Beginning) (m n : Texts) → ((j : Data) → AreOne few (f j) (g j)) → AreSaid few m n
    → (tree : Option Data) (a : List ℕ) → IsOfTree f m tree a → IsOfTree g n tree a
begin_over few f g m n begins same None a h = h
begin_over few f g m n begins same (Some j) a h =
    subst (λ (r : Result Begun RecordErr). IsOfRecord n r a) (begins j).same (begun_over few m n same (f j) a (begins j).few h)

pub requests_over : (b c : Binding) → AreTwins b c → (m n : Texts) → AreSaid (length b.ops) m n → (tree : Option Data) (a : List ℕ)
    → IsOfTree (request_of b) m tree a → IsOfTree (request_of c) n tree a
requests_over b c t m n same tree a h =
    begin_over (length b.ops) (request_of b) (request_of c) m n (requests_alike b c t) same tree a h

pub replies_over : (b c : Binding) → AreTwins b c → (m n : Texts) → AreSaid (length b.ops) m n → (tree : Option Data) (a : List ℕ)
    → IsOfTree (reply_of b) m tree a → IsOfTree (reply_of c) n tree a
replies_over b c t m n same tree a h =
    begin_over (length b.ops) (reply_of b) (reply_of c) m n (replies_alike b c t) same tree a h
