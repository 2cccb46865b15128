-- Texts are the same over engines that answer alike, by induction on the operations or on the number of messages.
use Rattle.std.proofs.Common.{◌≡◌, ℕ, zero, suc, ◌+◌, ◌^◌, ◌<◌, Bool, true, false, List, [], ◌∷◌, ◌++◌, map, length, refl, sym, ap, ◌∙◌, arith}
use Rattle.std.specs.Prelude.{◌%◌, ◌==◌, codes}
use Rattle.std.proofs.lemmas.Bool.Decides.{nat_tests}
use Rattle.mint.specs.Types.{Ty}
use Rattle.case_make.specs.Made.{made}
use Rattle.aoi.specs.Plain.{PlainInterface}
use Rattle.pres.specs.declared.ops.Op.{Op}
use Rattle.pres.specs.Bindings.{Binding}
use Rattle.pres.specs.Faces.{Face}
use Rattle.json_shape.specs.Operations.{dotted}
use Rattle.stub_codes.specs.declared.stub.Stub.{Stub}
use Rattle.stub_codes.specs.Stubs.{Coded}
use Rattle.flick_engine.specs.Messages.{request_type, message}
use Rattle.flick_lines.specs.declared.verb.Verb.{Verb}
use Rattle.flick_lines.specs.declared.verb.Verb.TheVariants as verbs
use Rattle.flick_lines.proofs.Twins.{AreTwins, faces_in, AreSame, ops_alike, first_same, rest_same, none_same, names_alike, dotted_alike, request_alike, message_alike}
use Rattle.flick_texts.specs.Counted.{messages_from, made_line}
use Rattle.flick_texts.specs.MadeText.{turn, made_head, made_message, messages, make_text}
use Rattle.flick_texts.specs.StubTexts.{both_texts, texts_of, stubs_text, sent_text}
use Rattle.flick_top.specs.Dispatch.{text_before}
use Rattle.flick_top.proofs.FilesSay.{AreAlike}
use Rattle.flick_serve.proofs.Alike.{many_alike}

-- ---- stub code

-- interfaces of the same names
abbrev AreNamed : List PlainInterface → List PlainInterface → Type 0
AreNamed is js = map (λ (i : PlainInterface). i.name) is ≡ map (λ (i : PlainInterface). i.name) js

texts_alike : (text : List ℕ → Stub → List ℕ) (is js : List PlainInterface) (fs gs : List Face) (os ps : List Op) (ss : List Stub)
    → AreNamed is js → AreSame fs gs os ps → texts_of text is os ss ≡ texts_of text js ps ss
texts_alike text is js fs gs [] [] [] names e = refl
texts_alike text is js fs gs [] [] (s ∷ ss) names e = refl
texts_alike text is js fs gs [] (p ∷ ps) ss names e = absurd (none_same fs gs p ps e)
texts_alike text is js fs gs (o ∷ os) [] ss names e = absurd (none_same gs fs o os (sym e))
texts_alike text is js fs gs (o ∷ os) (p ∷ ps) [] names e = refl
texts_alike text is js fs gs (o ∷ os) (p ∷ ps) (s ∷ ss) names e =
    ap (λ (n : List ℕ). text n s ++ texts_of text is os ss) (dotted_alike fs gs is js o p names (first_same fs gs o p os ps e))
    ∙ ap (λ (t : List ℕ). text (dotted js p) s ++ t)
    (texts_alike text is js fs gs os ps ss names (rest_same fs gs o p os ps e))

-- the texts of the operations of an engine
abbrev texts_in : (List ℕ → Stub → List ℕ) → Coded → List Stub → List ℕ
texts_in text c ss = texts_of text c.binding.unit.interfaces c.binding.ops ss

all_texts : (text : List ℕ → Stub → List ℕ) (d e : Coded) → AreTwins d.binding e.binding → d.stubs ≡ e.stubs
    → texts_in text d d.stubs ≡ texts_in text e e.stubs
all_texts text d e twins codes_are =
    texts_alike text d.binding.unit.interfaces e.binding.unit.interfaces (faces_in d.binding) (faces_in e.binding)
    d.binding.ops e.binding.ops d.stubs (names_alike d.binding e.binding twins) (ops_alike d.binding e.binding twins)
    ∙ ap (λ (ss : List Stub). texts_in text e ss) codes_are

pub stubs_alike : (d e : Coded) → AreTwins d.binding e.binding → d.stubs ≡ e.stubs → stubs_text d ≡ stubs_text e
stubs_alike d e twins codes_are = all_texts both_texts d e twins codes_are

pub before_alike : (v : Verb) (d e : Coded) → AreAlike (v ≡ verbs.Count) d e → text_before v d ≡ text_before v e
before_alike verbs.Count d e alike =
    ap (λ (t : List ℕ). t ++ codes "--\n") (all_texts sent_text d e alike.twins (alike.codes refl))
before_alike verbs.Marshal d e alike = refl
before_alike verbs.Unmarshal d e alike = refl
before_alike verbs.Reply d e alike = refl
before_alike verbs.Unreply d e alike = refl

-- ---- messages that a number makes

turn_alike : (b c : Binding) → AreTwins b c → (i : ℕ) → turn b i ≡ turn c i
turn_alike b c t i = ap (λ (n : ℕ). i % n) (many_alike b c t)

made_message_alike : (b c : Binding) → AreTwins b c → (m : ℕ) → 0 < length b.ops → (number i : ℕ)
    → made_message b m number i ≡ made_message c m number i
made_message_alike b c t m some number i =
    let k = turn b i in
    let seed = (number + i) % 2 ^ 64 in
    let below : k < length b.ops = omega arith in
    message_alike b c t m k below (made_head i) (made (request_type b k) seed)
    ∙ ap (λ (ty : Ty). message c m k (made_head i) (made ty seed)) (request_alike b c t k below)
    ∙ ap (λ (j : ℕ). message c m j (made_head i) (made (request_type c j) seed)) (turn_alike b c t i)

from_alike : (f g : ℕ → List ℕ) (i n : ℕ) → ((j : ℕ) → f j ≡ g j) → messages_from f i n ≡ messages_from g i n
from_alike f g i zero same = refl
from_alike f g i (suc n) same =
    ap (λ (o : List ℕ). o ∷ messages_from f (suc i) n) (same i)
    ∙ ap (λ (ms : List (List ℕ)). g i ∷ ms) (from_alike f g (suc i) n same)

messages_alike : (b c : Binding) → AreTwins b c → (m number many : ℕ) → messages b m number many ≡ messages c m number many
messages_alike b c t m number many = go (length b.ops == 0) refl where
  go : (none : Bool) → (length b.ops == 0) ≡ none → messages b m number many ≡ messages c m number many
  go true e =
      let also : (length c.ops == 0) ≡ true = ap (λ (n : ℕ). n == 0) (sym (many_alike b c t)) ∙ e in
      rw (e, also) refl
  go false e =
      let also : (length c.ops == 0) ≡ false = ap (λ (n : ℕ). n == 0) (sym (many_alike b c t)) ∙ e in
      let some : 0 < length b.ops = grind (arith, nat_tests, e) in
      rw (e, also)
      (from_alike (made_message b m number) (made_message c m number) 0 many (made_message_alike b c t m some number))

pub made_alike : (b c : Binding) (m n : ℕ) → AreTwins b c → m ≡ n → (number many : ℕ)
    → make_text b m number many ≡ make_text c n number many
made_alike b c m n t same number many =
    ap (λ (ms : List (List ℕ)). made_line ms) (messages_alike b c t m number many) ∙ ap (λ (k : ℕ). make_text c k number many) same
