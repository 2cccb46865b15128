-- Heads that are sent are read as what they are sent for, and have one length.
use Rattle.std.proofs.Common.{◌≡◌, ℕ, zero, suc, ℤ, pos, negsuc, ◌+◌, ◌≤◌, ◌<◌, ◌^◌, true, false, Bool, List, [], ◌∷◌, ◌++◌, length, take, drop, refl, sym, ap, subst, length-append, arith}
use Rattle.std.specs.Prelude.{FitsSigned, nat_lt}
use Rattle.std.specs.Int.{w32, cast_signed, cast_unsigned}
use Rattle.std.proofs.lemmas.Bool.{eq-eqb}
use Rattle.std.proofs.lemmas.Int.{to_z-of_z}
use Rattle.std.proofs.lemmas.List.{take_at, drop_at, length-take, length-drop}
use Rattle.wire_def.specs.declared.head.Head.{Head}
use Rattle.wire_def.specs.declared.outcome.Refusal.TheVariants.{RetCode}
use Rattle.wire_def.specs.declared.reply.Status.{Status}
use Rattle.wire_def.specs.declared.reply.Status.TheVariants as status
use Rattle.head_arms.specs.Arms.{where_raised}
use Rattle.back_mach.specs.declared.header.MachHeader.{MachHeader}
use Rattle.back_mach.specs.declared.routines.Routine.{Routine}
use Rattle.head_kit.specs.Words.{IsWord}
use Rattle.back_mach.specs.Words.{word, words}
use Rattle.back_mach.specs.Header.{SixSpell, HeaderSpells}
use Rattle.back_mach.specs.Reply.{return_word, CodeSpells, AfterSpells, ReplySpells}
use Rattle.back_mach.specs.Leads.{request_bits, reply_port, lead, reply_id, move_send_once, reply_octets, reply_lead, reply_lead_length, with_size}
use Rattle.back_mach.specs.Reported.{BeginsReply}
use Rattle.back_mach.specs.Reported as defs
use Rattle.back_mach.specs.Laws.{HasPorts, RequestsAreRead, RepliesAreRead, RefusalsAreRead, LeadsHaveOneLength, OwnHaveOctets}

-- ---- requests

-- the words of a request's header, in a message of so many octets
abbrev asking : Routine → Head → ℕ → MachHeader
asking r head n = record {
  bits = request_bits r.wants;
  size = n;
  remote = head.remote;
  local = reply_port r.wants head.local;
  sequence = 0;
  id = r.id;
}

abbrev sized : Routine → Head → ℕ → List ℕ
sized r head n = words (request_bits r.wants ∷ n ∷ head.remote ∷ reply_port r.wants head.local ∷ 0 ∷ r.id ∷ [])

reported : (r : Routine) (head : Head) (body : List ℕ)
    → with_size (lead r head ++ body) ≡ sized r head (length (lead r head ++ body)) ++ body
reported r head body = refl

-- to set the size changes no length
pub length_sized : (o : List ℕ) → 8 ≤ length o → length (with_size o) ≡ length o
length_sized o long =
    let size : List ℕ = word (length o) in
    let is : with_size o ≡ (take 4 o ++ size) ++ drop 8 o = refl in
    omega (
      arith,
      long,
      ap length is,
      length-append (take 4 o ++ size) (drop 8 o),
      length-append (take 4 o) size,
      length-take 4 o,
      length-drop 8 o,
    )

bits_fit : (wants : Bool) → request_bits wants < 2 ^ 31
bits_fit true = omega arith
bits_fit false = omega arith

port_fits : (wants : Bool) (local : ℕ) → IsWord local → IsWord (reply_port wants local)
port_fits true local fits = fits
port_fits false local fits = omega arith

simple_bits : (wants : Bool) → nat_lt (request_bits wants) (2 ^ 31) ≡ true
simple_bits true = refl
simple_bits false = refl

asks : (r : Routine) (head : Head) (n : ℕ) → IsWord r.id → HasPorts head → IsWord n → HeaderSpells n 0 (sized r head n) (asking r head n)
unfolding SixSpell
asks r head n id ports fits =
    let bits = bits_fit r.wants in (
      (
        (
          refl,
          record {
            bits = omega (arith, bits);
            size = fits;
            remote = ports.0;
            local = port_fits r.wants head.local ports.1;
            sequence =
                omega arith;
            id = id;
          },
        ),
        simple_bits r.wants,
      ),
      eq-eqb n n refl,
    )

-- the head that is sent of a request begins the message
pub requests_begin : RequestsAreRead
requests_begin r head body id ports fits =
    let n : ℕ = length (lead r head ++ body) in
    let long : length (with_size (lead r head ++ body))
    ≡ n = length_sized (lead r head ++ body) (omega (arith, length-append (lead r head) body)) in
    let first : take 24 (with_size (lead r head ++ body)) ≡ sized r head n = take_at (sized r head n) body 24 refl in
    (asking r head n, 24, (omega (arith, long, length-append (lead r head) body), rw (first, long) (asks r head n id ports fits)), refl)

-- and what follows the head is what was put after it
pub follows_request : (r : Routine) (head : Head) (body : List ℕ) → drop 24 (with_size (lead r head ++ body)) ≡ body
follows_request r head body = drop_at (sized r head (length (lead r head ++ body))) body 24 refl

-- the size lies within the head
pub long_request : (r : Routine) (head : Head) → 24 ≤ length (lead r head)
long_request r head = omega arith

-- ---- replies

abbrev answering : ℕ → ℕ → ℕ → MachHeader
answering id remote n = record { bits = move_send_once; size = n; remote = remote; local = 0; sequence = 0; id = reply_id id }

abbrev header_reported : ℕ → ℕ → ℕ → List ℕ
header_reported id remote n = words (move_send_once ∷ n ∷ remote ∷ 0 ∷ 0 ∷ reply_id id ∷ [])

abbrev code_reported : ℕ → List ℕ
code_reported m = word return_word ++ word m

answers : (id remote n : ℕ) → IsWord remote → IsWord n → HeaderSpells n 0 (header_reported id remote n) (answering id remote n)
unfolding SixSpell
answers id remote n port fits = (
  ((refl, record { bits = omega arith; size = fits; remote = port; local = omega arith; sequence = omega arith; id = omega arith }), refl),
  eq-eqb n n refl,
)

code_spelled : (p m : ℕ) → IsWord m → CodeSpells p (code_reported m) m
unfolding CodeSpells
code_spelled p m fits = (refl, fits)

-- a header, the word of a return code, and what follows it, in a message of so many octets
head_spelled : (id arms remote m arm n : ℕ) (after : List ℕ) → IsWord remote → IsWord m → IsWord n → AfterSpells arms m 32 after arm
    → ReplySpells (reply_id id) arms n 0 (header_reported id remote n ++ (code_reported m ++ after))
    (record { header = answering id remote n; code = m; arm = arm })
head_spelled id arms remote m arm n after port code fits follows = (
  header_reported id remote n,
  code_reported m ++ after,
  refl,
  (answers id remote n port fits, eq-eqb (reply_id id) (reply_id id) refl),
  (code_reported m, after, refl, code_spelled 24 m code, follows),
)

-- a reply by the word of its return code and what follows it: these octets, so many, and then others
reply_begins : (id arms remote m arm used : ℕ) (after body : List ℕ) → IsWord remote → IsWord m
    → AfterSpells arms m 32 after arm → used ≡ 32 + length after
    → IsWord (length ((reply_octets id remote m ++ after) ++ body))
    → BeginsReply (reply_id id) arms (with_size ((reply_octets id remote m ++ after) ++ body))
    (record { head = defs.shared_head remote 0; status = defs.status_of m arm; used = used })
reply_begins id arms remote m arm used after body port code follows long fits =
    let whole : List ℕ = (reply_octets id remote m ++ after) ++ body in
    let n : ℕ = length whole in
    let lead : List ℕ = header_reported id remote n ++ (code_reported m ++ after) in
    let many : length lead ≡ used = omega (arith, long) in
    let count : n ≡ used + length body = omega (arith, long, length-append (reply_octets id remote m ++ after) body) in
    let kept : length (with_size whole) ≡ n = length_sized whole (omega (arith, count, long)) in
    let first : take used (with_size whole) ≡ lead = take_at lead body used many in (
      record { header = answering id remote n; code = m; arm = arm },
      used,
      (
        omega (arith, kept, count),
        rw (first, kept) (head_spelled id arms remote m arm n after port code fits follows),
      ),
      refl,
    )

number_after : (arms arm : ℕ) → IsWord arm → arm ≤ arms
    → AfterSpells arms 0 32 (where_raised arms (words (return_word ∷ arm ∷ []))) arm
number_after zero zero fits few = (refl, refl)
number_after zero (suc k) fits few = absurd (omega (arith, few))
number_after (suc n) arm fits few = (refl, fits, few)

after_long : (arms arm : ℕ) → reply_lead_length arms ≡ 32 + length (where_raised arms (words (return_word ∷ arm ∷ [])))
after_long zero arm = refl
after_long (suc n) arm = refl

pub replies_read : RepliesAreRead
replies_read r arms arm head body ports most few fits =
    reply_begins r.id arms head.remote 0 arm (reply_lead_length arms) (where_raised arms (words (return_word ∷ arm ∷ []))) body ports.0
    (omega arith) (number_after arms arm most few) (after_long arms arm) fits

-- the word of a code that is not 0 says so
own_code : (m : ℕ) (n : ℤ) → (n ≡ pos 0 → ⊥) → cast_unsigned w32 n ≡ m → cast_signed w32 m ≡ n
    → defs.status_of m 0 ≡ status.RetCode n
own_code zero n other is again = absurd (other (sym again))
own_code (suc m) n other is again = ap (λ (z : ℤ). status.RetCode z) again

-- nothing follows such a code
nothing_after : (arms m p : ℕ) (n : ℤ) → (n ≡ pos 0 → ⊥) → cast_signed w32 m ≡ n → AfterSpells arms m p [] 0
nothing_after arms zero p n other again = absurd (other (sym again))
nothing_after arms (suc m) p n other again = (refl, refl)

unsigned_below : (n : ℤ) → FitsSigned w32 n → cast_unsigned w32 n < 4294967296
unsigned_below (pos n) fits = omega (arith, fits)
unsigned_below (negsuc n) fits = omega (arith, fits)

pub refusals_read : RefusalsAreRead
refusals_read id arms remote n o port fits other is =
    let m : ℕ = cast_unsigned w32 n in
    let code : IsWord m = unsigned_below n fits in
    let again : cast_signed w32 m ≡ n = to_z-of_z w32 n fits in
    let begins = reply_begins id arms remote m 0 32 [] [] port code (nothing_after arms m 32 n other again) refl (omega arith) in
    let same : defs.status_of m 0 ≡ status.RetCode n = own_code m n other refl again in
    let octets : with_size (reply_octets id remote m) ≡ o = cc in
    subst
    (λ (l : List ℕ).
    BeginsReply (reply_id id) arms l (record { head = defs.shared_head remote 0; status = status.RetCode n; used = 32 })) octets
    (subst
    (λ (s : Status).
    BeginsReply (reply_id id) arms (with_size (reply_octets id remote m))
    (record { head = defs.shared_head remote 0; status = s; used = 32 })) same begins)

pub own_octets : OwnHaveOctets
own_octets id remote (RetCode n) = ((λ own. (_, refl)), λ has. tt)
own_octets id remote _ = ((λ own. absurd own), λ (o, is). absurd cc)

lead_long : (r : Routine) (arms arm : ℕ) (head : Head) → length (reply_lead r arms arm head) ≡ reply_lead_length arms
lead_long r zero arm head = refl
lead_long r (suc n) arm head = refl

pub one_length : LeadsHaveOneLength
one_length r arms = record { requests = λ head. refl; replies = lead_long r arms }
