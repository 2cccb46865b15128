-- Lines are bridged the same between bindings of one unit over the same back ends.
use Rattle.std.proofs.Common.{◌≡◌, ◌+◌, ◌<◌, ℕ, zero, suc, List, [], ◌∷◌, length, Bool, false, cond, Option, Some, None, Result, Ok, Err, refl, sym, ap, ◌∙◌, subst}
use Rattle.std.specs.Prelude.{slice_get, ◌==◌, ◌&&◌, if◌then◌else◌}
use Rattle.std.specs.List.{position_from}
use Rattle.std.specs.Str.{bytes_eq}
use Rattle.hex.specs.Hex.{decode_of}
use Rattle.hex.specs.declared.error.FromHexError.{FromHexError}
use Rattle.mint.specs.Values.{Val}
use Rattle.wire_def.specs.declared.encoding.Back.{Back}
use Rattle.wire_def.specs.declared.head.Head.{Head}
use Rattle.aoi.specs.Plain.{PlainInterface, PlainUnit}
use Rattle.pres.specs.declared.ops.Op.{Op}
use Rattle.pres.specs.Bindings.{Binding}
use Rattle.pres.specs.Faces.{Face}
use Rattle.pres.specs.Offers.{Offer}
use Rattle.pres_pairs.specs.Pairs.{is_named, is_number, number_of, pair_at, pair_of}
use Rattle.flick_engine.specs.declared.errors.MessageErr.{MessageErr}
use Rattle.flick_engine.specs.Messages.{message}
use Rattle.flick_engine.specs.Received.{Asked, ReadCall}
use Rattle.flick_lines.specs.Marshalled.{digits_of}
use Rattle.flick_lines.proofs.Twins.{AreTwins, faces_in, AreSame, ops_alike, first_same, rest_same, none_same, message_alike}
use Rattle.flick_lines.proofs.TwinMessages.{call_over}
use Rattle.flick_bridge.specs.Heads.{number_in, head_over, is_oneway_among, head_of, head_at}
use Rattle.flick_bridge.specs.Bridged.{Bridging, IsBridging, asks, with_head, paired, told, IsPassed, IsOfAsked, IsOfMessage, IsBridged}
use Rattle.flick_bridge.proofs.Passing.{are_paired, other_below, asks_the_same}

-- bridges between bindings of one unit over the same back ends, whose messages are of one version
pub record AreBridges (s t : Bridging) : Type 0 where
  pub reads : AreTwins s.from.binding t.from.binding
  pub writes : AreTwins s.to.binding t.to.binding
  pub minors : s.to.minor ≡ t.to.minor

-- ---- numbers

-- an offer of an interface, by its name
abbrev is_offered : ℕ → List ℕ → Offer → Bool
is_offered i name x = x.interface == i && bytes_eq x.name name

-- operations that are the same offers are found at the same places
places_same : (fs gs : List Face) (i : ℕ) (name : List ℕ) (n : ℕ) (os ps : List Op) → AreSame fs gs os ps
    → position_from (is_named i name) n os ≡ position_from (is_named i name) n ps
places_same fs gs i name n [] [] e = refl
places_same fs gs i name n [] (p ∷ ps) e = absurd (none_same fs gs p ps e)
places_same fs gs i name n (o ∷ os) [] e = absurd (none_same gs fs o os (sym e))
places_same fs gs i name n (o ∷ os) (p ∷ ps) e =
    ap (λ (x : Offer). cond (is_offered i name x) (Some n) (position_from (is_named i name) (n + 1) os)) (first_same fs gs o p os ps e)
    ∙ ap (λ (r : Option ℕ). cond (is_named i name p) (Some n) r) (places_same fs gs i name (n + 1) os ps (rest_same fs gs o p os ps e))

numbers_same : (b c : Binding) → AreTwins b c → (i : ℕ) (name : List ℕ) → number_of b i name ≡ number_of c i name
numbers_same b c t i name = places_same (faces_in b) (faces_in c) i name 0 b.ops c.ops (ops_alike b c t)

-- what looks at an operation's interface and name alone, if there is the operation
abbrev by_home : {A : Type 0} → A → (ℕ → List ℕ → A) → Option Op → A
by_home a f None = a
by_home a f (Some o) = f o.interface o.name

-- is the same of the operations at one place
homes_same : {A : Type 0} (a : A) (f : ℕ → List ℕ → A) (fs gs : List Face) (os ps : List Op) (n : ℕ) → AreSame fs gs os ps
    → by_home a f (slice_get os n) ≡ by_home a f (slice_get ps n)
homes_same a f fs gs [] [] n e = refl
homes_same a f fs gs [] (p ∷ ps) n e = absurd (none_same fs gs p ps e)
homes_same a f fs gs (o ∷ os) [] n e = absurd (none_same gs fs o os (sym e))
homes_same a f fs gs (o ∷ os) (p ∷ ps) zero e = ap (λ (x : Offer). f x.interface x.name) (first_same fs gs o p os ps e)
homes_same a f fs gs (o ∷ os) (p ∷ ps) (suc n) e = homes_same a f fs gs os ps n (rest_same fs gs o p os ps e)

-- ---- pairs

-- the number of an operation, where it is the first, by the numbers that are found
abbrev chosen : (ℕ → List ℕ → Option ℕ) → (ℕ → List ℕ → Option ℕ) → ℕ → ℕ → List ℕ → Option ℕ
chosen own other op i name = if is_number op (own i name) then other i name else None

pair_by_home : (b c : Binding) (op : ℕ) (x : Option Op)
    → pair_at b c op x ≡ by_home {A = Option ℕ} None (chosen (number_of b) (number_of c) op) x
pair_by_home b c op None = refl
pair_by_home b c op (Some o) = refl

chosen_same : (b c d e : Binding) → AreTwins b d → AreTwins c e → (op : ℕ) (x : Option Op)
    → by_home {A = Option ℕ} None (chosen (number_of b) (number_of c) op) x
    ≡ by_home {A = Option ℕ} None (chosen (number_of d) (number_of e) op) x
chosen_same b c d e one two op None = refl
chosen_same b c d e one two op (Some o) =
    ap (λ (r : Option ℕ). if is_number op r then number_of c o.interface o.name else None) (numbers_same b d one o.interface o.name)
    ∙ ap (λ (r : Option ℕ). if is_number op (number_of d o.interface o.name) then r else None) (numbers_same c e two o.interface o.name)

pairs_same : (b c d e : Binding) → AreTwins b d → AreTwins c e → (op : ℕ) → pair_of b c op ≡ pair_of d e op
pairs_same b c d e one two op =
    pair_by_home b c op (slice_get b.ops op)
    ∙ chosen_same b c d e one two op (slice_get b.ops op)
    ∙ homes_same {A = Option ℕ} None (chosen (number_of d) (number_of e) op) (faces_in b) (faces_in d) b.ops d.ops op (ops_alike b d one)
    ∙ sym (pair_by_home d e op (slice_get d.ops op))

-- ---- heads

-- the head over a back end of an operation of these interfaces
abbrev head_by : Back → List PlainInterface → ℕ → ℕ → List ℕ → Head
head_by k is n i name = head_over k (is_oneway_among is i name) n

head_by_home : (b : Binding) (n : ℕ) (x : Option Op)
    → head_of b n x ≡ by_home (head_over b.back false n) (head_by b.back b.unit.interfaces n) x
head_by_home b n None = refl
head_by_home b n (Some o) = refl

heads_same : (b c : Binding) → AreTwins b c → (op n : ℕ) → head_at b op n ≡ head_at c op n
heads_same b c t op n =
    head_by_home b n (slice_get b.ops op)
    ∙ homes_same (head_over b.back false n) (head_by b.back b.unit.interfaces n) (faces_in b) (faces_in c) b.ops c.ops op (ops_alike b c t)
    ∙ ap (λ (k : Back). by_home (head_over k false n) (head_by k b.unit.interfaces n) (slice_get c.ops op)) t.backs
    ∙ ap (λ (u : PlainUnit). by_home (head_over c.back false n) (head_by c.back u.interfaces n) (slice_get c.ops op)) t.units
    ∙ sym (head_by_home c n (slice_get c.ops op))

with_heads_same : (b c : Binding) → AreTwins b c → (n : ℕ) (x : Option ℕ) → with_head b n x ≡ with_head c n x
with_heads_same b c t n None = refl
with_heads_same b c t n (Some op) = ap (λ (h : Head). Some (op, h)) (heads_same b c t op n)

paired_same : (s t : Bridging) → AreBridges s t → (op : ℕ) (head : Head) → paired s op head ≡ paired t op head
paired_same s t h op head =
    with_heads_same s.to.binding t.to.binding h.writes (number_in s.from.binding.back head) (pair_of s.from.binding s.to.binding op)
    ∙ ap (λ (k : Back). with_head t.to.binding (number_in k head) (pair_of s.from.binding s.to.binding op)) h.reads.backs
    ∙ ap (λ (x : Option ℕ). with_head t.to.binding (number_in t.from.binding.back head) x)
    (pairs_same s.from.binding s.to.binding t.from.binding t.to.binding h.reads h.writes op)

-- ---- messages

told_same : (s t : Bridging) → AreBridges s t → (op : ℕ) → op < length s.to.binding.ops → (head : Head) (v : Val)
    → told s op head v ≡ told t op head v
told_same s t h op below head v =
    message_alike s.to.binding t.to.binding h.writes s.to.minor op below head v
    ∙ ap (λ (m : ℕ). message t.to.binding m op head v) h.minors

-- what a paired request is answered
passed_over : (s t : Bridging) → IsBridging s → IsBridging t → AreBridges s t → (o : List ℕ) (op : ℕ) (head : Head) (v : Val)
    (q : Option (ℕ × Head)) → asks t o op head v → paired s op head ≡ q → paired t op head ≡ q → (a : List ℕ) → IsPassed s o v q a
    → IsPassed t o v q a
passed_over s t stands other h o op head v None asked e f a p = p
passed_over s t stands other h o op head v (Some q) asked e f a p =
    let below = other_below s op q.0 (are_paired s stands op head q.0 q.1 e) in
    (asks_the_same t other o op head v q.0 q.1 asked f, p.1 ∙ ap digits_of (told_same s t h q.0 below q.1 v))

asked_over : (s t : Bridging) → IsBridging s → IsBridging t → AreBridges s t → (o : List ℕ) (x : Result Asked MessageErr)
    → ReadCall t.from.binding o x → (a : List ℕ) → IsOfAsked s o x a → IsOfAsked t o x a
asked_over s t stands other h o (Err e) reads a p = p
asked_over s t stands other h o (Ok r) reads a p =
    let same = paired_same s t h r.op r.head in
    passed_over s t stands other h o r.op r.head r.value (paired t r.op r.head) reads same refl a
    (subst (λ (q : Option (ℕ × Head)). IsPassed s o r.value q a) same p)

message_over : (s t : Bridging) → IsBridging s → IsBridging t → AreBridges s t → (o : Result (List ℕ) FromHexError) (a : List ℕ)
    → IsOfMessage s o a → IsOfMessage t o a
message_over s t stands other h (Err e) a p = p
message_over s t stands other h (Ok o) a (x, reads, p) =
    let there = call_over s.from.binding t.from.binding h.reads o x reads in
    (x, there, asked_over s t stands other h o x there a p)

pub bridged_over : (s t : Bridging) → IsBridging s → IsBridging t → AreBridges s t → (line a : List ℕ) → IsBridged s line a
    → IsBridged t line a
bridged_over s t stands other h line a p = message_over s t stands other h (decode_of line) a p
