-- The texts of operations, one after the other, and the names of their interfaces.
use Rattle.std.proofs.Common.{◌≡◌, ℕ, zero, suc, ◌+◌, ◌<◌, ◌≤◌, List, [], ◌∷◌, ◌++◌, map, length, get_or, drop, Option, None, Some, refl, sym, ap, ◌∙◌, subst, append_assoc, add-one, arith}
use Rattle.std.specs.Prelude.{IfSome, slice_get}
use Rattle.std.specs.Option.{option_map}
use Rattle.std.proofs.Math.ListN.{drop_of_length-le}
use Rattle.std.proofs.lemmas.List.{append-nil}
use Rattle.cast_stub.specs.declared.send.SendCode.{SendCode}
use Rattle.cast_stub.specs.declared.recv.RecvCode.{RecvCode}
use Rattle.cast_stub.specs.Block as send
use Rattle.cast_stub.specs.RecvBlock as recv
use Rattle.stub_print.specs.SendText.{send_text}
use Rattle.stub_print.specs.RecvText.{recv_text}
use Rattle.aoi.specs.declared.interfaces.Interface.{Interface}
use Rattle.aoi.specs.Plain.{PlainInterface, plain_interface}
use Rattle.pres.specs.declared.ops.Op.{Op}
use Rattle.json_shape.specs.Operations.{dotted}
use Rattle.stub_codes.specs.declared.stub.Stub.{Stub}
use Rattle.stub_codes.specs.Stubs.{Coded}
use Rattle.flick_texts.specs.StubTexts.{sent_text, received_text, both_texts, texts_of}

-- the code of an operation, and its text before those of the operations after it
record IsAt (text : List ℕ → Stub → List ℕ) (is : List PlainInterface) (ops : List Op) (stubs : List Stub) (i : ℕ) (name : List ℕ)
    : Type 0 where
  stub : Stub
  there : slice_get stubs i ≡ Some stub
  cut : texts_of text is (drop i ops) (drop i stubs) ≡ text name stub ++ texts_of text is (drop (suc i) ops) (drop (suc i) stubs)

is_at : (text : List ℕ → Stub → List ℕ) (is : List PlainInterface) (ops : List Op) (stubs : List Stub) (i : ℕ) (o : Op) (name : List ℕ)
    → length stubs ≡ length ops → i < length ops → o ≡ get_or ops i o → name ≡ dotted is o → IsAt text is ops stubs i name
is_at text is [] stubs i o name many lt at named = absurd (omega (arith, lt))
is_at text is (p ∷ ops) [] i o name many lt at named = absurd (omega (arith, many))
is_at text is (p ∷ ops) (s ∷ stubs) zero o name many lt at named = record {
  stub = s;
  there = refl;
  cut = ap (λ n. text n s ++ texts_of text is ops stubs) (sym (named ∙ ap (dotted is) at));
}
is_at text is (p ∷ ops) (s ∷ stubs) (suc i) o name many lt at named =
    let more = is_at text is ops stubs i o name (omega (arith, many)) (omega (arith, lt)) at named in
    record { stub = more.stub; there = more.there; cut = more.cut }

-- what holds of the code of an operation
at_stub : (stubs : List Stub) (i : ℕ) (P : Stub → Type 0) (s : Stub) → slice_get stubs i ≡ Some s → IfSome (slice_get stubs i) P → P s
at_stub stubs i P s is h = subst (λ o. IfSome o P) is h

-- the texts so far and those that are left are all texts
abbrev pub AreListed : (List ℕ → Stub → List ℕ) → List PlainInterface → List Op → List Stub → ℕ → List ℕ → Type 0
AreListed text is ops stubs i out = out ++ texts_of text is (drop i ops) (drop i stubs) ≡ texts_of text is ops stubs

pub none_listed : (text : List ℕ → Stub → List ℕ) (is : List PlainInterface) (ops : List Op) (stubs : List Stub) (out : List ℕ)
    → out ≡ [] → AreListed text is ops stubs 0 out
none_listed text is ops stubs out none = ap (λ z. z ++ texts_of text is ops stubs) none

-- the text of one operation more
pub one_more : (text : List ℕ → Stub → List ℕ) (is : List PlainInterface) (ops : List Op) (stubs : List Stub) (i : ℕ) (o : Op)
    (name out new : List ℕ) → length stubs ≡ length ops → i < length ops → o ≡ get_or ops i o → name ≡ dotted is o
    → IfSome (slice_get stubs i) (λ s. new ≡ out ++ text name s) → AreListed text is ops stubs i out
    → AreListed text is ops stubs (i + 1) new
one_more text is ops stubs i o name out new many lt at named put inv =
    let here = is_at text is ops stubs i o name many lt at named in
    let grown = at_stub stubs i (λ s. new ≡ out ++ text name s) here.stub here.there put in
    let rest = texts_of text is (drop (suc i) ops) (drop (suc i) stubs) in
    rw add-one (ap (λ z. z ++ rest) grown ∙ append_assoc out (text name here.stub) rest ∙ ap (λ z. out ++ z) (sym here.cut) ∙ inv)

-- all texts
pub all_listed : (text : List ℕ → Stub → List ℕ) (is : List PlainInterface) (ops : List Op) (stubs : List Stub) (i : ℕ) (out : List ℕ)
    → length ops ≤ i → AreListed text is ops stubs i out → out ≡ texts_of text is ops stubs
all_listed text is ops stubs i out long inv =
    sym (append-nil out) ∙ ap (λ z. out ++ texts_of text is z (drop i stubs)) (sym (drop_of_length-le ops long)) ∙ inv

-- what was printed of the code that sends
pub sent_put : (stub : Option Stub) (code : SendCode) (name text old new : List ℕ) → option_map (λ s. s.send) stub ≡ Some code
    → text ≡ send_text name (send.code_seen code.ops) (map send.code_seen code.subs) → new ≡ old ++ text
    → IfSome stub (λ s. new ≡ old ++ sent_text name s)
sent_put None code name text old new found printed grown = tt
sent_put (Some s) code name text old new found printed grown =
    let same : s.send ≡ code = cc in
    let text_of : SendCode → List ℕ = λ c. send_text name (send.code_seen c.ops) (map send.code_seen c.subs) in
    grown ∙ ap (λ z. old ++ z) (printed ∙ ap text_of (sym same))

-- what was printed of the code that receives
pub received_put : (stub : Option Stub) (code : RecvCode) (name text old new : List ℕ) → option_map (λ s. s.recv) stub ≡ Some code
    → text ≡ recv_text name (recv.code_seen code.ops) (map recv.code_seen code.subs) → new ≡ old ++ text
    → IfSome stub (λ s. new ≡ old ++ received_text name s)
received_put None code name text old new found printed grown = tt
received_put (Some s) code name text old new found printed grown =
    let same : s.recv ≡ code = cc in
    let text_of : RecvCode → List ℕ = λ c. recv_text name (recv.code_seen c.ops) (map recv.code_seen c.subs) in
    grown ∙ ap (λ z. old ++ z) (printed ∙ ap text_of (sym same))

-- the one after the other
pub both_put : (stub : Option Stub) (name old mid new : List ℕ) → IfSome stub (λ s. mid ≡ old ++ sent_text name s)
    → IfSome stub (λ s. new ≡ mid ++ received_text name s)
    → IfSome stub (λ s. new ≡ old ++ both_texts name s)
both_put None name old mid new first last = tt
both_put (Some s) name old mid new first last =
    last ∙ ap (λ z. z ++ received_text name s) first ∙ append_assoc old (sent_text name s) (received_text name s)

-- the next operation of a coded binding
pub next_listed : (text : List ℕ → Stub → List ℕ) (c : Coded) (items : List Op)
    (listed : List Interface) (i n : ℕ) (o : Op) (name out new : List ℕ) → length c.stubs ≡ length c.binding.ops
    → items ≡ c.binding.ops → map plain_interface listed ≡ c.binding.unit.interfaces → i < length items → o ≡ get_or items i o
    → name ≡ dotted (map plain_interface listed) o → n ≡ i → IfSome (slice_get c.stubs n) (λ s. new ≡ out ++ text name s)
    → AreListed text c.binding.unit.interfaces c.binding.ops c.stubs i out
    → AreListed text c.binding.unit.interfaces c.binding.ops c.stubs (i + 1) new
next_listed text c items listed i n o name out new many items_are listed_are lt at named n_is put inv =
    one_more text c.binding.unit.interfaces c.binding.ops c.stubs i o name out new many
    (subst (λ (z : List Op). i < length z) items_are lt) (subst (λ (z : List Op). o ≡ get_or z i o) items_are at)
    (named ∙ ap (λ z. dotted z o) listed_are)
    (subst (λ k. IfSome (slice_get c.stubs k) (λ s. new ≡ out ++ text name s)) n_is put) inv
