-- Fields that are put after octets depend on the length of these alone, so the id may be put in later.
use Rattle.std.proofs.Common.{◌≡◌, ℕ, zero, suc, ◌+◌, ◌-◌, ◌≤◌, Bool, true, false, List, [], ◌∷◌, ◌++◌, length, take, drop, replicate, refl, sym, ap, ◌∙◌, append_assoc, append-nil, length-append, arith}
use Rattle.std.specs.Prelude.{slice_index_or}
use Rattle.std.proofs.lemmas.List.{take_at, drop_at}
use Rattle.wire_def.specs.declared.head.Order.{Order}
use Rattle.wire_def.specs.declared.head.Order.TheVariants.{Big, Little}
use Rattle.wire_def.specs.Scalars.{gap}
use Rattle.giop_head.specs.Items.{flag}
use Rattle.giop_head.specs.Printed.{long_octets, short_octets, then_long, then_short, then_sequence, then_string, header_octets, then_first, then_last, response_flags, then_wants, then_target, then_close, then_gap, request_octets, answer_octets, user_octets}
use Rattle.back_cdr.specs.Targets.{Target}
use Rattle.back_cdr.specs.Leads.{lead, reply_lead}
use Rattle.back_cdr.specs.Coded.{id_place, with_id}
use Rattle.giop_head.proofs.Sent.{long_four}

-- what is put after octets is the same after others of their length
abbrev pub Grows : (List ℕ → List ℕ) → Type 0
Grows f = (o p : List ℕ) → length o ≡ length p → (t : List ℕ) × (f o ≡ o ++ t) × (f p ≡ p ++ t)

pub piece_grows : (s : List ℕ) → Grows (λ o. o ++ s)
piece_grows s o p same = (s, refl, refl)

pub and_then : (f g : List ℕ → List ℕ) → Grows f → Grows g → Grows (λ o. g (f o))
and_then f g first second o p same =
    let a = first o p same in
    let long : length (f o) ≡ length (f p) = omega (arith, ap length a.1, ap length a.2, length-append o a.0, length-append p a.0, same) in
    let b = second (f o) (f p) long in
    (a.0 ++ b.0, b.1 ∙ ap (λ z. z ++ b.0) a.1 ∙ append_assoc o a.0 b.0, b.2 ∙ ap (λ z. z ++ b.0) a.2 ∙ append_assoc p a.0 b.0)

pub long_grows : (r : Order) (n : ℕ) → Grows (then_long r n)
long_grows r n o p same = (
  replicate (gap (length o) 4) 0 ++ long_octets r n,
  append_assoc o (replicate (gap (length o) 4) 0) (long_octets r n),
  rw same (append_assoc p (replicate (gap (length p) 4) 0) (long_octets r n)),
)

pub sequence_grows : (r : Order) (s : List ℕ) → Grows (then_sequence r s)
sequence_grows r s = and_then (then_long r (length s)) (λ o. o ++ s) (long_grows r (length s)) (piece_grows s)

pub string_grows : (r : Order) (s : List ℕ) → Grows (then_string r s)
string_grows r s = and_then (λ o. then_long r (suc (length s)) o ++ s) (λ o. o ++ (0 ∷ []))
    (and_then (then_long r (suc (length s))) (λ o. o ++ s) (long_grows r (suc (length s))) (piece_grows s)) (piece_grows (0 ∷ []))

short_grows : (r : Order) (n : ℕ) → Grows (then_short r n)
short_grows r n o p same = (
  replicate (gap (length o) 2) 0 ++ short_octets r n,
  append_assoc o (replicate (gap (length o) 2) 0) (short_octets r n),
  rw same (append_assoc p (replicate (gap (length p) 2) 0) (short_octets r n)),
)

nothing_grows : Grows (λ o. o)
nothing_grows o p same = ([], sym (append-nil o), sym (append-nil p))

-- ---- what differs between versions

last_grows : (m : ℕ) (r : Order) → Grows (then_last m r)
last_grows zero r = nothing_grows
last_grows (suc m) r = long_grows r 0

wants_grows : (m : ℕ) (b : Bool) → Grows (then_wants m b)
wants_grows zero b = piece_grows (flag b ∷ [])
wants_grows (suc m) b = piece_grows (response_flags b ∷ 0 ∷ 0 ∷ 0 ∷ [])

target_grows : (m : ℕ) (r : Order) → Grows (then_target m r)
target_grows zero r = nothing_grows
target_grows (suc m) r = short_grows r 0

close_grows : (m : ℕ) (r : Order) → Grows (then_close m r)
close_grows zero r = sequence_grows r []
close_grows (suc m) r = long_grows r 0

gap_grows : (m : ℕ) (body : Bool) → Grows (then_gap m body)
gap_grows zero body = nothing_grows
gap_grows (suc m) true = λ o p same. (replicate (gap (length o) 8) 0, refl, rw same refl)
gap_grows (suc m) false = nothing_grows

-- ---- the octets up to the id

-- header, and in version 1.0 service contexts
abbrev pub first : ℕ → Order → ℕ → List ℕ
first m r type = then_first m r (header_octets m r type)

long_first : (m : ℕ) (r : Order) (type : ℕ) → length (first m r type) ≡ id_place m
long_first zero Big type = refl
long_first zero Little type = refl
long_first (suc m) Big type = refl
long_first (suc m) Little type = refl

-- and the id
begun : (m : ℕ) (r : Order) (type id : ℕ) → then_long r id (first m r type) ≡ first m r type ++ long_octets r id
begun zero Big type id = refl
begun zero Little type id = refl
begun (suc m) Big type id = refl
begun (suc m) Little type id = refl

header_within : (m : ℕ) → 12 ≤ id_place m
header_within zero = omega arith
header_within (suc m) = omega arith

-- a head of what comes before the id, the id, and what is put after it
module _ (m : ℕ) (r : Order) (type : ℕ) (f : List ℕ → List ℕ) (grows : Grows f) where
  abbrev head : ℕ → List ℕ
  head id = f (then_long r id (first m r type))

  abbrev before : List ℕ
  before = first m r type

  parts : (id : ℕ) → (t : List ℕ) × (head id ≡ (before ++ long_octets r id) ++ t) × (head 0 ≡ (before ++ long_octets r 0) ++ t)
  parts id =
      let same : length (before ++ long_octets r id) ≡ length (before ++ long_octets r 0) =
      omega (arith, length-append before (long_octets r id), length-append before (long_octets r 0), long_four r id, long_four r 0) in
      let g = grows (before ++ long_octets r id) (before ++ long_octets r 0) same in
      (g.0, ap f (begun m r type id) ∙ g.1, ap f (begun m r type 0) ∙ g.2)

  pub id_put : (id : ℕ) → with_id r (id_place m) (head 0) id ≡ head id
  id_put id =
      let s = parts id in
      let front : take (id_place m) (head 0) ≡ before = ap (take (id_place m)) (s.2 ∙ append_assoc before (long_octets r 0) s.0)
      ∙ take_at before (long_octets r 0 ++ s.0) (id_place m) (long_first m r type) in
      let past : length (before ++ long_octets r 0) ≡ id_place m + 4 =
      omega (arith, length-append before (long_octets r 0), long_first m r type, long_four r 0) in
      let rest : drop (id_place m + 4) (head 0) ≡ s.0 = ap (drop (id_place m + 4)) s.2
      ∙ drop_at (before ++ long_octets r 0) s.0 (id_place m + 4) past in
      rw (front, rest) (sym s.1)

  pub long_head : id_place m + 4 ≤ length (head 0)
  long_head =
      let s = parts 0 in
      omega (
        arith,
        ap length s.2,
        length-append (before ++ long_octets r 0) s.0,
        length-append before (long_octets r 0),
        long_first m r type,
        long_four r 0,
      )

  pub one_length : (id : ℕ) → length (head id) ≡ length (head 0)
  one_length id =
      let s = parts id in
      omega (
        arith,
        ap length s.1,
        ap length s.2,
        length-append (before ++ long_octets r id) s.0,
        length-append (before ++ long_octets r 0) s.0,
        length-append before (long_octets r id),
        length-append before (long_octets r 0),
        long_four r id,
        long_four r 0,
      )

-- ---- requests and replies

-- what follows the id of a request
abbrev asked : ℕ → Bool → Order → Target → List ℕ → List ℕ
asked m body r t o =
    then_gap m body (then_close m r (then_string r t.name (then_sequence r t.key (then_target m r (then_wants m t.wants o)))))

asked_grows : (m : ℕ) (body : Bool) (r : Order) (t : Target) → Grows (asked m body r t)
asked_grows m body r t =
    and_then (λ o. then_close m r (then_string r t.name (then_sequence r t.key (then_target m r (then_wants m t.wants o)))))
    (then_gap m body)
    (and_then (λ o. then_string r t.name (then_sequence r t.key (then_target m r (then_wants m t.wants o)))) (then_close m r)
    (and_then (λ o. then_sequence r t.key (then_target m r (then_wants m t.wants o))) (then_string r t.name)
    (and_then (λ o. then_target m r (then_wants m t.wants o)) (then_sequence r t.key)
    (and_then (then_wants m t.wants) (then_target m r) (wants_grows m t.wants) (target_grows m r))
    (sequence_grows r t.key))
    (string_grows r t.name))
    (close_grows m r))
    (gap_grows m body)

-- what follows the id of a reply
abbrev reported : ℕ → Order → Target → ℕ → List ℕ → List ℕ
reported m r t zero o = then_last m r (then_long r 0 o)
reported m r t (suc k) o = then_string r (slice_index_or t.ids k []) (then_last m r (then_long r 1 o))

reported_grows : (m : ℕ) (r : Order) (t : Target) (arm : ℕ) → Grows (reported m r t arm)
reported_grows m r t zero = and_then (then_long r 0) (then_last m r) (long_grows r 0) (last_grows m r)
reported_grows m r t (suc k) =
    and_then (λ o. then_last m r (then_long r 1 o)) (then_string r (slice_index_or t.ids k []))
    (and_then (then_long r 1) (then_last m r) (long_grows r 1) (last_grows m r))
    (string_grows r (slice_index_or t.ids k []))

pub call_put : (m : ℕ) (body : Bool) (r : Order) (t : Target) (id : ℕ)
    → with_id r (id_place m) (lead m body r t 0) id ≡ lead m body r t id
unfolding request_octets
call_put m body r t id = id_put m r 0 (asked m body r t) (asked_grows m body r t) id

pub call_long : (m : ℕ) (body : Bool) (r : Order) (t : Target) → id_place m + 4 ≤ length (lead m body r t 0)
unfolding request_octets
call_long m body r t = long_head m r 0 (asked m body r t) (asked_grows m body r t)

pub reply_put : (m : ℕ) (r : Order) (t : Target) (arm id : ℕ)
    → with_id r (id_place m) (reply_lead m r t arm 0) id ≡ reply_lead m r t arm id
reply_put m r t zero id = id_put m r 1 (reported m r t zero) (reported_grows m r t zero) id
reply_put m r t (suc k) id = id_put m r 1 (reported m r t (suc k)) (reported_grows m r t (suc k)) id

pub reply_long : (m : ℕ) (r : Order) (t : Target) (arm : ℕ) → id_place m + 4 ≤ length (reply_lead m r t arm 0)
reply_long m r t zero = long_head m r 1 (reported m r t zero) (reported_grows m r t zero)
reply_long m r t (suc k) = long_head m r 1 (reported m r t (suc k)) (reported_grows m r t (suc k))

pub call_length : (m : ℕ) (body : Bool) (r : Order) (t : Target) (id : ℕ) → length (lead m body r t id) ≡ length (lead m body r t 0)
unfolding request_octets
call_length m body r t id = one_length m r 0 (asked m body r t) (asked_grows m body r t) id

-- the header of a request lies within its head
pub long_request : (m : ℕ) (body : Bool) (r : Order) (t : Target) (id : ℕ) → 12 ≤ length (lead m body r t id)
long_request m body r t id = omega (arith, call_length m body r t id, call_long m body r t, header_within m)

pub reply_length : (m : ℕ) (r : Order) (t : Target) (arm id : ℕ) → length (reply_lead m r t arm id) ≡ length (reply_lead m r t arm 0)
reply_length m r t zero id = one_length m r 1 (reported m r t zero) (reported_grows m r t zero) id
reply_length m r t (suc k) id = one_length m r 1 (reported m r t (suc k)) (reported_grows m r t (suc k)) id

-- and so does that of a reply
pub long_reply : (m : ℕ) (r : Order) (t : Target) (arm id : ℕ) → 12 ≤ length (reply_lead m r t arm id)
long_reply m r t arm id = omega (arith, reply_length m r t arm id, reply_long m r t arm, header_within m)

-- ---- replies by the number of their arm

pub reply_none : (m : ℕ) (r : Order) (t : Target) (arm id : ℕ) → arm ≡ 0 → answer_octets m r id ≡ reply_lead m r t arm id
reply_none m r t arm id is = rw is refl

pub reply_some : (m : ℕ) (r : Order) (t : Target) (arm id : ℕ) → (arm ≡ 0 → ⊥)
    → user_octets m r id (slice_index_or t.ids (arm - 1) []) ≡ reply_lead m r t arm id
reply_some m r t zero id some = absurd (some refl)
reply_some m r t (suc k) id some =
    let before : suc k - 1 ≡ k = omega arith in
    rw before refl
