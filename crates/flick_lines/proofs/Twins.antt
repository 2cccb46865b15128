-- Bindings of one unit over one back end have the same operations and messages, whatever numbers their nodes have.
use Rattle.std.proofs.Common.{◌≡◌, ℕ, zero, suc, pos, ◌<◌, List, not, [], ◌∷◌, ◌++◌, map, length, refl, sym, ap, ◌∙◌, arith}
use Rattle.std.specs.Prelude.{codes, slice_index_or, unwrap_or}
use Rattle.mint.specs.Types.{Ty, void_type, type_at}
use Rattle.mint.specs.Values.{Val, arm}
use Rattle.wire_def.specs.declared.encoding.Back.{Back}
use Rattle.wire_def.specs.declared.encoding.Back.TheVariants as back
use Rattle.wire_def.specs.declared.head.Head.{Head}
use Rattle.wire_def.specs.Hollow.{is_hollow}
use Rattle.wire_def.specs.Send.{send}
use Rattle.aoi.specs.Plain.{PlainUnit, PlainInterface}
use Rattle.pres.specs.declared.ops.Op.{Op}
use Rattle.pres.specs.Bindings.{Binding, IsBinding}
use Rattle.pres.specs.Faces.{Face, at, faces, type_of}
use Rattle.pres.specs.Offers.{Offer, offers, offer_at}
use Rattle.pres.proofs.Facing.{type_at-face}
use Rattle.json_shape.specs.Operations.{dotted}
use Rattle.flick_engine.specs.Backs.{encoding, lead_over, lead, reply_lead_over, reply_lead, sized}
use Rattle.flick_engine.specs.Messages.{request_type, message}
use Rattle.flick_engine.specs.Replies.{reply_type, arm_type_in, arm_type, arm_message, reply_message}
use Rattle.flick_engine.proofs.HeadsOfBacks.{heads_alike}

-- bindings of one unit over one back end
pub record AreTwins (b c : Binding) : Type 0 where
  pub units : b.unit ≡ c.unit
  pub backs : b.back ≡ c.back
  pub one : IsBinding b
  pub other : IsBinding c

-- ---- operations

-- the faces of a binding's nodes
abbrev pub faces_in : Binding → List Face
faces_in b = faces b.nodes b.shapes

-- operations that are the same offers
abbrev pub AreSame : List Face → List Face → List Op → List Op → Type 0
AreSame fs gs os ps = map (offer_at fs) os ≡ map (offer_at gs) ps

pub ops_alike : (b c : Binding) → AreTwins b c → AreSame (faces_in b) (faces_in c) b.ops c.ops
ops_alike b c t =
    t.one.offered ∙ ap (offers b.unit) (t.backs) ∙ ap (λ (u : PlainUnit). offers u c.back) t.units ∙ sym t.other.offered

pub first_same : (fs gs : List Face) (o p : Op) (os ps : List Op) → AreSame fs gs (o ∷ os) (p ∷ ps) → offer_at fs o ≡ offer_at gs p
first_same fs gs o p os ps e = cc e

pub rest_same : (fs gs : List Face) (o p : Op) (os ps : List Op) → AreSame fs gs (o ∷ os) (p ∷ ps) → AreSame fs gs os ps
rest_same fs gs o p os ps e = cc e

pub none_same : (fs gs : List Face) (p : Op) (ps : List Op) → AreSame fs gs [] (p ∷ ps) → ⊥
none_same fs gs p ps e = cc e

-- the faces of a node of each of these operations, which offers have at a place
node_same : (part : Op → ℕ) (face : Offer → Face) → ((fs : List Face) (o : Op) → face (offer_at fs o) ≡ at fs (part o))
    → (fs gs : List Face) (os ps : List Op) (n : ℕ) → AreSame fs gs os ps → n < length os
    → at fs (slice_index_or (map part os) n 0) ≡ at gs (slice_index_or (map part ps) n 0)
node_same part face is fs gs [] ps n e h = absurd (omega (arith, h))
node_same part face is fs gs (o ∷ os) [] n e h = absurd (none_same gs fs o os (sym e))
node_same part face is fs gs (o ∷ os) (p ∷ ps) zero e h =
    sym (is fs o) ∙ ap face (first_same fs gs o p os ps e) ∙ is gs p
node_same part face is fs gs (o ∷ os) (p ∷ ps) (suc n) e h =
    node_same part face is fs gs os ps n (rest_same fs gs o p os ps e) (omega (arith, h))

type_alike : (part : Op → ℕ) (face : Offer → Face) → ((fs : List Face) (o : Op) → face (offer_at fs o) ≡ at fs (part o))
    → (b c : Binding) → AreTwins b c → (op : ℕ) → op < length b.ops
    → type_at b.nodes (slice_index_or (map part b.ops) op 0) ≡ type_at c.nodes (slice_index_or (map part c.ops) op 0)
type_alike part face is b c t op h =
    type_at-face b.nodes b.shapes (slice_index_or (map part b.ops) op 0) t.one.named
    ∙ ap type_of (node_same part face is (faces_in b) (faces_in c) b.ops c.ops op (ops_alike b c t) h)
    ∙ sym (type_at-face c.nodes c.shapes (slice_index_or (map part c.ops) op 0) t.other.named)

pub request_alike : (b c : Binding) → AreTwins b c → (op : ℕ) → op < length b.ops → request_type b op ≡ request_type c op
request_alike = type_alike (λ (o : Op). o.request) (λ (x : Offer). x.request) (λ fs o. refl)

pub reply_alike : (b c : Binding) → AreTwins b c → (op : ℕ) → op < length b.ops → reply_type b op ≡ reply_type c op
reply_alike = type_alike (λ (o : Op). o.reply) (λ (x : Offer). x.reply) (λ fs o. refl)

pub arm_alike : (b c : Binding) → AreTwins b c → (op : ℕ) → op < length b.ops → (k : ℕ) → arm_type b op k ≡ arm_type c op k
arm_alike b c t op h k = ap (λ (ty : Ty). unwrap_or (arm_type_in ty k) void_type) (reply_alike b c t op h)

pub names_alike : (b c : Binding) → AreTwins b c
    → map (λ (i : PlainInterface). i.name) b.unit.interfaces ≡ map (λ (i : PlainInterface). i.name) c.unit.interfaces
names_alike b c t = ap (λ (u : PlainUnit). map (λ (i : PlainInterface). i.name) u.interfaces) t.units

pub dotted_alike : (fs gs : List Face) (is js : List PlainInterface) (o p : Op)
    → map (λ (i : PlainInterface). i.name) is ≡ map (λ (i : PlainInterface). i.name) js → offer_at fs o ≡ offer_at gs p
    → dotted is o ≡ dotted js p
dotted_alike fs gs is js o p names e =
    ap (λ (ns : List (List ℕ)). slice_index_or ns o.interface [] ++ (codes "." ++ o.name)) names
    ∙ ap (λ (x : Offer). slice_index_or (map (λ (i : PlainInterface). i.name) js) x.interface [] ++ (codes "." ++ x.name)) e

-- ---- messages of calls

-- the head of an operation's call
lead_alike : (b c : Binding) → AreTwins b c → (m op : ℕ) → op < length b.ops → (h : Head) → lead b m op h ≡ lead c m op h
lead_alike b c t m op below h =
    (heads_alike b c t.units t.one).leads m op h (ap (λ (ty : Ty). not (is_hollow ty)) (request_alike b c t op below))
    ∙ ap (λ (k : Back). lead_over k c m op h) t.backs

pub message_alike : (b c : Binding) → AreTwins b c → (m op : ℕ) → op < length b.ops → (h : Head) (v : Val)
    → message b m op h v ≡ message c m op h v
message_alike b c t m op below h v =
    ap (λ (l : List ℕ). sized b.back (l ++ send (encoding b.back) (request_type b op) (length l) v)) (lead_alike b c t m op below h)
    ∙ ap (λ (k : Back). sized k (lead c m op h ++ send (encoding k) (request_type b op) (length (lead c m op h)) v)) (t.backs)
    ∙ ap (λ (ty : Ty). sized c.back (lead c m op h ++ send (encoding c.back) ty (length (lead c m op h)) v))
    (request_alike b c t op below)

-- ---- messages of replies

-- a binding of this unit, which is else as another
abbrev pub of_unit : Binding → PlainUnit → Binding
of_unit c u = record { nodes = c.nodes; shapes = c.shapes; ops = c.ops; unit = u; back = c.back }

-- and one of this unit over this back end
abbrev pub of_both : Binding → PlainUnit → Back → Binding
of_both c u e = record { nodes = c.nodes; shapes = c.shapes; ops = c.ops; unit = u; back = e }

-- what is alike of bindings by their units and back ends
pub unit_alike : {A : Type 0} (f : Binding → A) (b c : Binding) → b.unit ≡ c.unit → b.back ≡ c.back
    → f (of_both c b.unit b.back) ≡ f c
unit_alike f b c units backs =
    ap (λ (u : PlainUnit). f (of_both c u b.back)) units ∙ ap (λ (e : Back). f (of_both c c.unit e)) backs

-- the head of a reply over a back end
reply_lead_same : (e : Back) (b c : Binding) → b.unit ≡ c.unit → b.back ≡ c.back → (m op k : ℕ) (h : Head)
    → reply_lead_over e b m op k h ≡ reply_lead_over e c m op k h
reply_lead_same back.Xdr b c units backs m op k h = unit_alike (λ (x : Binding). reply_lead_over back.Xdr x m op k h) b c units backs
reply_lead_same back.CdrBig b c units backs m op k h = unit_alike (λ (x : Binding). reply_lead_over back.CdrBig x m op k h) b c units backs
reply_lead_same back.CdrLittle b c units backs m op k h =
    unit_alike (λ (x : Binding). reply_lead_over back.CdrLittle x m op k h) b c units backs
reply_lead_same back.Mach b c units backs m op k h = unit_alike (λ (x : Binding). reply_lead_over back.Mach x m op k h) b c units backs

reply_lead_alike : (b c : Binding) → AreTwins b c → (m op k : ℕ) (h : Head) → reply_lead b m op k h ≡ reply_lead c m op k h
reply_lead_alike b c t m op k h =
    reply_lead_same b.back b c t.units t.backs m op k h ∙ ap (λ (e : Back). reply_lead_over e c m op k h) t.backs

arm_message_alike : (b c : Binding) → AreTwins b c → (m op : ℕ) → op < length b.ops → (k : ℕ) (h : Head) (w : Val)
    → arm_message b m op k h w ≡ arm_message c m op k h w
arm_message_alike b c t m op below k h w =
    ap (λ (l : List ℕ). sized b.back (l ++ send (encoding b.back) (arm_type b op k) (length l) w)) (reply_lead_alike b c t m op k h)
    ∙ ap (λ (e : Back). sized e (reply_lead c m op k h ++ send (encoding e) (arm_type b op k) (length (reply_lead c m op k h)) w))
    (t.backs)
    ∙ ap (λ (ty : Ty). sized c.back (reply_lead c m op k h ++ send (encoding c.back) ty (length (reply_lead c m op k h)) w))
    (arm_alike b c t op below k)

pub reply_message_alike : (b c : Binding) → AreTwins b c → (m op : ℕ) → op < length b.ops → (h : Head) (v : Val)
    → reply_message b m op h v ≡ reply_message c m op h v
reply_message_alike b c t m op below h (arm (pos k) w) = arm_message_alike b c t m op below k h w
reply_message_alike b c t m op below h _ = refl
