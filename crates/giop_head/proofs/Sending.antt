-- What is put after octets spells what it is put for.
use Rattle.std.proofs.Common.{◌≡◌, inl, inr, ℕ, zero, suc, ◌+◌, ◌-◌, ◌≤◌, ◌<◌, ◌^◌, min, Bool, true, false, List, [], ◌∷◌, ◌++◌, length, replicate, refl, sym, ap, subst, ◌∙◌, append_assoc, append-nil, length-append, arith}
use Rattle.std.proofs.lemmas.List.{length-replicate}
use Rattle.std.proofs.lemmas.Bool.{le-leb}
use Rattle.wire_def.specs.declared.head.Order.{Order}
use Rattle.wire_def.specs.declared.head.Order.TheVariants.{Big, Little}
use Rattle.wire_def.specs.Grammar.{Parts}
use Rattle.wire_def.specs.Scalars.{gap, WordSpells}
use Rattle.giop_head.specs.Items.{LongSpells, ShortSpells, PassSpells, flag, FlagSpells, SequenceSpells, StringSpells, padding}
use Rattle.giop_head.specs.Contexts.{ContextsSpell, AnySequence}
use Rattle.giop_head.specs.Versions.{FirstSpell, TailSpells, LastSpell, CloseSpells, WantsSpells, TargetSpells}
use Rattle.giop_head.specs.Header.{IsMinor}
use Rattle.giop_head.specs.Call.{Start, StartSpells, Named, NamedSpells, Request, RequestSpells}
use Rattle.giop_head.specs.Reply.{Fate, answer, user, system, status_of, DetailSpells, FateSpells}
use Rattle.giop_head.specs.Printed.{long_octets, short_octets, then_long, then_short, then_sequence, then_string, header_octets, then_first, then_last, then_wants, then_target, then_close, then_gap}
use Rattle.giop_head.specs.Laws.{IsRequest, IsString, IsFate}
use Rattle.giop_head.proofs.Headers.{minors}

-- octets of this form are put after others
abbrev pub Puts : (ℕ → List ℕ → Type 0) → (List ℕ → List ℕ) → Type 0
Puts P f = (o : List ℕ) → (t : List ℕ) × (f o ≡ o ++ t) × P (length o) t

-- they are where the octets before have a property
abbrev pub PutsWhere : (List ℕ → Type 0) → (ℕ → List ℕ → Type 0) → (List ℕ → List ℕ) → Type 0
PutsWhere C P f = (o : List ℕ) → C o → (t : List ℕ) × (f o ≡ o ++ t) × P (length o) t

after : (P Q : ℕ → List ℕ → Type 0) (f g : List ℕ → List ℕ) → Puts P f → Puts Q g → Puts (λ p t. Parts p t (P p) Q) (λ o. g (f o))
after P Q f g first second o =
    let a = first o in
    let b = second (f o) in
    let long : length (f o) ≡ length o + length a.0 = ap length a.1 ∙ length-append o a.0 in
    (a.0 ++ b.0, b.1 ∙ ap (λ z. z ++ b.0) a.1 ∙ append_assoc o a.0 b.0, (a.0, b.0, refl, a.2, subst (λ (q : ℕ). Q q b.0) long b.2))

-- the second where what the first makes has a property
after_where : (C : List ℕ → Type 0) (P Q : ℕ → List ℕ → Type 0) (f g : List ℕ → List ℕ) → Puts P f → PutsWhere C Q g
    → PutsWhere (λ o. C (f o)) (λ p t. Parts p t (P p) Q) (λ o. g (f o))
after_where C P Q f g first second o holds =
    let a = first o in
    let b = second (f o) holds in
    let long : length (f o) ≡ length o + length a.0 = ap length a.1 ∙ length-append o a.0 in
    (a.0 ++ b.0, b.1 ∙ ap (λ z. z ++ b.0) a.1 ∙ append_assoc o a.0 b.0, (a.0, b.0, refl, a.2, subst (λ (q : ℕ). Q q b.0) long b.2))

-- the first where the octets before have a property
before_all : (C : List ℕ → Type 0) (P Q : ℕ → List ℕ → Type 0) (f g : List ℕ → List ℕ) → PutsWhere C P f → Puts Q g
    → PutsWhere C (λ p t. Parts p t (P p) Q) (λ o. g (f o))
before_all C P Q f g first second o holds =
    let a = first o holds in
    let b = second (f o) in
    let long : length (f o) ≡ length o + length a.0 = ap length a.1 ∙ length-append o a.0 in
    (a.0 ++ b.0, b.1 ∙ ap (λ z. z ++ b.0) a.1 ∙ append_assoc o a.0 b.0, (a.0, b.0, refl, a.2, subst (λ (q : ℕ). Q q b.0) long b.2))

long_puts : (r : Order) (n : ℕ) → n < 2 ^ 32 → Puts (λ p t. LongSpells r p t n) (then_long r n)
unfolding WordSpells
long_puts r n fits o =
    let zeros : List ℕ = replicate (gap (length o) 4) 0 in
    (zeros ++ long_octets r n, append_assoc o zeros (long_octets r n), (zeros, length-replicate (gap (length o) 4) 0, refl, fits))

short_puts : (r : Order) (n : ℕ) → n < 2 ^ 16 → Puts (λ p t. ShortSpells r p t n) (then_short r n)
unfolding WordSpells
short_puts r n fits o =
    let zeros : List ℕ = replicate (gap (length o) 2) 0 in
    (zeros ++ short_octets r n, append_assoc o zeros (short_octets r n), (zeros, length-replicate (gap (length o) 2) 0, refl, fits))

pass_puts : (r : Order) (m n : ℕ) → n < 2 ^ 32 → n ≤ m → Puts (λ p t. PassSpells r m p t n) (then_long r n)
pass_puts r m n fits few o = let a = long_puts r n fits o in (a.0, a.1, (a.2, le-leb _ _ few))

flag_puts : (b : Bool) → Puts (λ p t. FlagSpells p t b) (λ o. o ++ (flag b ∷ []))
flag_puts b o = (flag b ∷ [], refl, refl)

sequence_puts : (r : Order) (s : List ℕ) → length s < 2 ^ 32 → Puts (λ p t. SequenceSpells r p t s) (then_sequence r s)
sequence_puts r s fits o =
    let a = long_puts r (length s) fits o in
    (a.0 ++ s, ap (λ z. z ++ s) a.1 ∙ append_assoc o a.0 s, (a.0, s, refl, a.2, refl))

string_puts : (r : Order) (s : List ℕ) → IsString s → Puts (λ p t. StringSpells r p t s) (then_string r s)
string_puts r s (fits, letters) o =
    let a = long_puts r (suc (length s)) fits o in
    let end : List ℕ = 0 ∷ [] in (
      a.0 ++ (s ++ end),
      append_assoc (then_long r (suc (length s)) o) s end
          ∙ ap (λ z. z ++ (s ++ end)) a.1 ∙ append_assoc o a.0 (s ++ end),
      (a.0, s ++ end, refl, a.2, (refl, letters)),
    )

contexts_puts : (r : Order) → Puts (λ p t. ContextsSpell r p t tt) (then_long r 0)
contexts_puts r o =
    let a = long_puts r 0 (omega arith) o in
    (a.0, a.1, (0, (a.0, [], sym (append-nil a.0), a.2, ([], refl))))

principal_puts : (r : Order) → Puts (λ p t. AnySequence r p t tt) (then_sequence r [])
principal_puts r o = let a = sequence_puts r [] (omega arith) o in (a.0, a.1, ([], a.2))

-- ---- what differs between versions

first_puts : (m : ℕ) (r : Order) → Puts (λ p t. FirstSpell m r p t tt) (then_first m r)
first_puts zero r = contexts_puts r
first_puts (suc m) r = λ o. ([], sym (append-nil o), refl)

wants_puts : (m : ℕ) (b : Bool) → Puts (λ p t. WantsSpells m p t b) (then_wants m b)
wants_puts zero b = flag_puts b
wants_puts (suc m) true = λ o. (3 ∷ 0 ∷ 0 ∷ 0 ∷ [], refl, (refl, refl))
wants_puts (suc m) false = λ o. (0 ∷ 0 ∷ 0 ∷ 0 ∷ [], refl, (refl, refl))

target_puts : (m : ℕ) (r : Order) → Puts (λ p t. TargetSpells m r p t 0) (then_target m r)
target_puts zero r = λ o. ([], sym (append-nil o), (refl, refl))
target_puts (suc m) r = λ o. let a = short_puts r 0 (omega arith) o in (a.0, a.1, (a.2, refl))

-- the head of so many octets ends where a body begins, or where a message ends that has none
abbrev pub IsEnd : Bool → ℕ → ℕ → Type 0
IsEnd true n l = l ≤ n
IsEnd false n l = n ≤ l

-- contexts and zeros up to the body
tail_puts : (has : Bool) (n m : ℕ) (r : Order) → PutsWhere (λ o. IsEnd has n (length (then_gap (suc m) has (then_long r 0 o))))
    (λ p t. TailSpells n r p t tt)
    (λ o. then_gap (suc m) has (then_long r 0 o))
tail_puts true n m r o end =
    let a = contexts_puts r o in
    let front : List ℕ = then_long r 0 o in
    let zeros : List ℕ = replicate (gap (length front) 8) 0 in
    let many : length zeros ≡ gap (length front) 8 = length-replicate (gap (length front) 8) 0 in
    let place : length front ≡ length o + length a.0 = ap length a.1 ∙ length-append o a.0 in
    let all : length front + gap (length front) 8 ≤ n = omega (arith, end, length-append front zeros, many) in
    let least : length zeros ≡ min (gap (length front) 8) (n - length front) = many ∙ omega (arith, all) in (
      a.0 ++ zeros,
      ap (λ z. z ++ zeros) a.1 ∙ append_assoc o a.0 zeros,
      (a.0, zeros, refl, a.2, subst (λ (q : ℕ). length zeros ≡ padding n q) place least),
    )
tail_puts false n m r o end =
    let a = contexts_puts r o in
    let front : List ℕ = then_long r 0 o in
    let place : length front ≡ length o + length a.0 = ap length a.1 ∙ length-append o a.0 in
    let none : 0 ≡ min (gap (length front) 8) (n - length front) = omega (arith, end) in
    (a.0, a.1, (a.0, [], sym (append-nil a.0), a.2, subst (λ (q : ℕ). 0 ≡ padding n q) place none))

close_puts : (m n : ℕ) (has : Bool) (r : Order) → PutsWhere (λ o. IsEnd has n (length (then_gap m has (then_close m r o))))
    (λ p t. CloseSpells m n r p t tt)
    (λ o. then_gap m has (then_close m r o))
close_puts zero n has r = λ o end. principal_puts r o
close_puts (suc m) n has r = tail_puts has n m r

-- the head of a reply that leads up to a body without octets that align it
abbrev pub IsAligned : ℕ → Order → List ℕ → Type 0
IsAligned m r o = gap (length (then_last m r o)) 8 ≡ 0

last_puts : (m n : ℕ) (r : Order) → PutsWhere (IsAligned m r) (λ p t. LastSpell m n r p t tt) (then_last m r)
last_puts zero n r = λ o end. ([], sym (append-nil o), refl)
last_puts (suc m) n r = λ o end.
    let a = contexts_puts r o in
    let front : List ℕ = then_long r 0 o in
    let place : length front ≡ length o + length a.0 = ap length a.1 ∙ length-append o a.0 in
    let none : 0 ≡ min (gap (length front) 8) (n - length front) = rw end (omega arith) in
    (a.0, a.1, (a.0, [], sym (append-nil a.0), a.2, subst (λ (q : ℕ). 0 ≡ padding n q) place none))

-- ---- requests, from each field on

abbrev Form : Type 1
Form = ℕ → List ℕ → Type 0

-- what is put after the kind of the target
abbrev closed : ℕ → Bool → Order → List ℕ → List ℕ
closed m has r o = then_gap m has (then_close m r o)

abbrev put_named : ℕ → Bool → Order → List ℕ → List ℕ → List ℕ
put_named m has r name o = closed m has r (then_string r name o)

abbrev put_keyed : ℕ → Bool → Order → Named → List ℕ → List ℕ
put_keyed m has r x o = put_named m has r x.1 (then_sequence r x.0 o)

abbrev NameForm : ℕ → ℕ → Order → List ℕ → Form
NameForm m n r name p t = Parts p t (λ a. StringSpells r p a name) (λ p' b. CloseSpells m n r p' b tt)

-- what ends the head where these octets are put
abbrev EndsAfter : (List ℕ → List ℕ) → Bool → ℕ → List ℕ → Type 0
EndsAfter f has n o = IsEnd has n (length (f o))

name_puts : (m n : ℕ) (has : Bool) (r : Order) (name : List ℕ) → IsString name
    → PutsWhere (EndsAfter (put_named m has r name) has n) (NameForm m n r name) (put_named m has r name)
name_puts m n has r name is =
    after_where (EndsAfter (closed m has r) has n) (λ p t. StringSpells r p t name) (λ p t. CloseSpells m n r p t tt) (then_string r name)
    (closed m has r) (string_puts r name is) (close_puts m n has r)

key_puts : (m n : ℕ) (has : Bool) (r : Order) (x : Named) → length x.0 < 2 ^ 32 → IsString x.1
    → PutsWhere (EndsAfter (put_keyed m has r x) has n) (λ p t. NamedSpells m n r p t x) (put_keyed m has r x)
key_puts m n has r x few is =
    after_where (EndsAfter (put_named m has r x.1) has n) (λ p t. SequenceSpells r p t x.0) (NameForm m n r x.1) (then_sequence r x.0)
    (put_named m has r x.1) (sequence_puts r x.0 few) (name_puts m n has r x.1 is)

abbrev put_target : ℕ → Bool → Order → Named → List ℕ → List ℕ
put_target m has r x o = put_keyed m has r x (then_target m r o)

abbrev TargetForm : ℕ → ℕ → Order → Named → Form
TargetForm m n r x p t = Parts p t (λ a. TargetSpells m r p a 0) (λ p' b. NamedSpells m n r p' b x)

aim_puts : (m n : ℕ) (has : Bool) (r : Order) (x : Named) → length x.0 < 2 ^ 32 → IsString x.1
    → PutsWhere (EndsAfter (put_target m has r x) has n) (TargetForm m n r x) (put_target m has r x)
aim_puts m n has r x few is =
    after_where (EndsAfter (put_keyed m has r x) has n) (λ p t. TargetSpells m r p t 0) (λ p t. NamedSpells m n r p t x) (then_target m r)
    (put_keyed m has r x) (target_puts m r) (key_puts m n has r x few is)

-- what is put before it
abbrev put_start : ℕ → Order → Start → List ℕ → List ℕ
put_start m r s o = then_wants m s.1 (then_long r s.0 (then_first m r o))

start_puts : (m : ℕ) (r : Order) (s : Start) → s.0 < 2 ^ 32 → Puts (λ p t. StartSpells m r p t s) (put_start m r s)
start_puts m r s fits =
    after (λ p t. FirstSpell m r p t tt) (λ p t. Parts p t (λ a. LongSpells r p a s.0) (λ p' b. WantsSpells m p' b s.1)) (then_first m r)
    (λ o. then_wants m s.1 (then_long r s.0 o)) (first_puts m r)
    (after (λ p t. LongSpells r p t s.0) (λ p t. WantsSpells m p t s.1) (then_long r s.0) (then_wants m s.1) (long_puts r s.0 fits)
    (wants_puts m s.1))

-- what is put of a request after its header
abbrev pub put_request : ℕ → Bool → Order → Request → List ℕ → List ℕ
put_request m has r q o = put_target m has r (q.key, q.name) (put_start m r (q.id, q.wants) o)

pub request_puts : (m n : ℕ) (has : Bool) (r : Order) (q : Request) → IsRequest q
    → PutsWhere (EndsAfter (put_request m has r q) has n) (λ p t. RequestSpells m n r p t q) (put_request m has r q)
request_puts m n has r q is =
    after_where (EndsAfter (put_target m has r (q.key, q.name)) has n) (λ p t. StartSpells m r p t (q.id, q.wants))
    (TargetForm m n r (q.key, q.name)) (put_start m r (q.id, q.wants)) (put_target m has r (q.key, q.name))
    (start_puts m r (q.id, q.wants) is.id) (aim_puts m n has r (q.key, q.name) is.key (is.name, is.letters))

-- ---- replies, from the status on

-- what is put after the status and its contexts
abbrev put_detail : Order → Fate → List ℕ → List ℕ
put_detail r answer o = o
put_detail r (user s) o = then_string r s o
put_detail r (system s minor completion) o = then_long r completion (then_long r minor (then_string r s o))

abbrev numbered : Order → ℕ → ℕ → Form
numbered r minor completion p t = Parts p t (λ a. LongSpells r p a minor) (λ p' b. PassSpells r 2 p' b completion)

detail_puts : (r : Order) (f : Fate) → IsFate f → Puts (λ p t. DetailSpells r p t f) (put_detail r f)
detail_puts r answer is = λ o. ([], sym (append-nil o), refl)
detail_puts r (user s) is = string_puts r s is
detail_puts r (system s minor completion) (string, (fits, few)) =
    after (λ p t. StringSpells r p t s) (numbered r minor completion) (then_string r s) (λ o.
    then_long r completion (then_long r minor o)) (string_puts r s string)
    (after
    (λ p t. LongSpells r p t minor) (λ p t.
    PassSpells r 2 p t completion) (then_long r minor) (then_long r completion) (long_puts r minor fits)
    (pass_puts r 2 completion (omega (arith, few)) few))

abbrev put_last : ℕ → Order → Fate → List ℕ → List ℕ
put_last m r f o = put_detail r f (then_last m r o)

abbrev LastForm : ℕ → ℕ → Order → Fate → Form
LastForm m n r f p t = Parts p t (λ a. LastSpell m n r p a tt) (λ p' b. DetailSpells r p' b f)

abbrev put_fate : ℕ → Order → Fate → List ℕ → List ℕ
put_fate m r f o = put_last m r f (then_long r (status_of f) o)

status_fits : (f : Fate) → status_of f < 2 ^ 32
status_fits answer = omega arith
status_fits (user s) = omega arith
status_fits (system s minor completion) = omega arith

fate_puts : (m n : ℕ) (r : Order) (f : Fate) → IsFate f
    → PutsWhere (λ o. IsAligned m r (then_long r (status_of f) o)) (λ p t. FateSpells m n r p t f) (put_fate m r f)
fate_puts m n r f is =
    after_where (IsAligned m r) (λ p t. LongSpells r p t (status_of f)) (LastForm m n r f) (then_long r (status_of f)) (put_last m r f)
    (long_puts r (status_of f) (status_fits f))
    (before_all (IsAligned m r) (λ p t. LastSpell m n r p t tt) (λ p t. DetailSpells r p t f) (then_last m r) (put_detail r f)
    (last_puts m n r) (detail_puts r f is))

-- the fields of a reply after its header
abbrev pub ReplyForm : ℕ → ℕ → Order → ℕ → Fate → ℕ → List ℕ → Type 0
ReplyForm m n r id f p t = Parts p t (λ a. FirstSpell m r p a tt) (λ q b.
    Parts q b (λ a. LongSpells r q a id) (λ s c. FateSpells m n r s c f))

-- what is put of them
abbrev pub put_reply : ℕ → Order → ℕ → Fate → List ℕ → List ℕ
put_reply m r id f o = put_fate m r f (then_long r id (then_first m r o))

abbrev IdForm : ℕ → ℕ → Order → ℕ → Fate → Form
IdForm m n r id f p t = Parts p t (λ a. LongSpells r p a id) (λ s c. FateSpells m n r s c f)

pub reply_puts : (m n : ℕ) (r : Order) (id : ℕ) (f : Fate) → id < 2 ^ 32 → IsFate f
    → PutsWhere (λ o. IsAligned m r (then_long r (status_of f) (then_long r id (then_first m r o)))) (ReplyForm m n r id f)
    (put_reply m r id f)
reply_puts m n r id f fits is =
    after_where (λ o. IsAligned m r (then_long r (status_of f) (then_long r id o))) (λ p t. FirstSpell m r p t tt) (IdForm m n r id f)
    (then_first m r) (λ o. put_fate m r f (then_long r id o)) (first_puts m r)
    (after_where (λ o. IsAligned m r (then_long r (status_of f) o)) (λ p t. LongSpells r p t id) (λ p t. FateSpells m n r p t f)
    (then_long r id) (put_fate m r f) (long_puts r id fits) (fate_puts m n r f is))

-- the head of a reply of version 1.2 has 24 octets up to its body
pub aligned : (m : ℕ) (r : Order) (id status : ℕ) → IsMinor m
    → IsAligned m r (then_long r status (then_long r id (then_first m r (header_octets m r 1))))
aligned m r id status is = elim (minors m is) [
  | inl none ↦ subst (λ (k : ℕ). IsAligned k r (then_long r status (then_long r id (then_first k r (header_octets k r 1))))) (sym none)
      (sixteen r id status)
  | inr two ↦ subst (λ (k : ℕ). IsAligned k r (then_long r status (then_long r id (then_first k r (header_octets k r 1))))) (sym two)
      (twelve r id status)
] where
  sixteen : (r : Order) (id status : ℕ) → IsAligned 0 r (then_long r status (then_long r id (then_first 0 r (header_octets 0 r 1))))
  sixteen Big id status = refl
  sixteen Little id status = refl

  twelve : (r : Order) (id status : ℕ) → IsAligned 2 r (then_long r status (then_long r id (then_first 2 r (header_octets 2 r 1))))
  twelve Big id status = refl
  twelve Little id status = refl
