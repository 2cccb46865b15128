-- No name of a bound unit is too long, by induction on the interfaces; so a head has fewer than 2^32 octets.
use Rattle.std.proofs.Common.{◌≡◌, Bool, true, false, ℕ, zero, suc, ◌+◌, ◌≤◌, ◌<◌, List, [], ◌∷◌, ◌++◌, map, length, get_or, replicate, refl, ap, arith, length-append}
use Rattle.std.specs.Prelude.{slice_index_or}
use Rattle.std.specs.List.{list_any, AllByRecursion}
use Rattle.std.proofs.lemmas.Bool.{ltb-false, or_parts}
use Rattle.std.proofs.lemmas.List.{length-replicate}
use Rattle.wire_def.specs.declared.head.Order.{Order}
use Rattle.wire_def.specs.declared.head.Order.TheVariants.{Big, Little}
use Rattle.wire_def.specs.Scalars.{gap}
use Rattle.aoi.specs.declared.interfaces.Interface.{Interface}
use Rattle.aoi.specs.declared.interfaces.Operation.{Operation}
use Rattle.aoi.specs.Plain.{PlainRaise, PlainInterface, PlainOperation, plain_interface, plain_operation}
use Rattle.giop_head.specs.Call.{Request}
use Rattle.giop_head.specs.Items.{flag}
use Rattle.giop_head.specs.Printed.{long_octets, short_octets, then_long, then_short, then_sequence, then_string, header_octets, then_first, then_last, response_flags, then_wants, then_target, then_close, then_gap, begun_octets, request_octets, status_octets}
use Rattle.pres.specs.Bindings.{Binding, IsBinding}
use Rattle.pres.specs.Faults.{is_long, has_long, has_long_in}
use Rattle.back_cdr.specs.Targets.{Target, IsShort, HasShortNames, no_target, target_in, targets, target_of}
use Rattle.back_cdr.specs.Leads.{lead, reply_lead}
use Rattle.giop_head.proofs.Sent.{long_four}

-- ---- names

not_long : (name : List ℕ) → is_long name ≡ false → IsShort name
not_long name h = ltb-false 16777216 (length name) h

ids_short : (rs : List PlainRaise) → list_any (λ (r : PlainRaise). is_long r.id) rs ≡ false
    → AllByRecursion IsShort (map (λ (r : PlainRaise). r.id) rs)
ids_short [] h = tt
ids_short (r ∷ rs) h =
    let p = or_parts (is_long r.id) (list_any (λ (x : PlainRaise). is_long x.id) rs) h in
    (not_long r.id p.0, ids_short rs p.1)

target_short : (i : PlainInterface) (op : PlainOperation) → is_long i.name ≡ false → has_long op ≡ false → HasShortNames (target_in i op)
target_short i op key h =
    let p = or_parts (is_long op.name) (list_any (λ (x : PlainRaise). is_long x.id) op.raises) h in
    record { key = not_long i.name key; name = not_long op.name p.0; ids = ids_short op.raises p.1 }

own_short : (i : PlainInterface) (ops : List PlainOperation) (ts : List Target) → is_long i.name ≡ false → list_any has_long ops ≡ false
    → AllByRecursion HasShortNames ts → AllByRecursion HasShortNames (map (target_in i) ops ++ ts)
own_short i [] ts key h others = others
own_short i (op ∷ ops) ts key h others =
    let p = or_parts (has_long op) (list_any has_long ops) h in
    (target_short i op key p.0, own_short i ops ts key p.1 others)

all_short : (is : List PlainInterface) → list_any has_long_in is ≡ false → AllByRecursion HasShortNames (targets is)
all_short [] h = tt
all_short (i ∷ is) h =
    let p = or_parts (has_long_in i) (list_any has_long_in is) h in
    let q = or_parts (is_long i.name) (list_any has_long i.ops) p.0 in
    own_short i i.ops (targets is) q.0 q.1 (all_short is p.1)

no_short : HasShortNames no_target
no_short = record { key = omega arith; name = omega arith; ids = tt }

one_short : (ts : List Target) (op : ℕ) → AllByRecursion HasShortNames ts → HasShortNames (get_or ts op no_target)
one_short [] op h = no_short
one_short (t ∷ ts) zero h = h.0
one_short (t ∷ ts) (suc n) h = one_short ts n h.1

pub names_short : (b : Binding) → IsBinding b → (op : ℕ) → HasShortNames (target_of b op)
names_short b stands op = one_short (targets b.unit.interfaces) op (all_short b.unit.interfaces stands.short)

id_among : (ids : List (List ℕ)) (k : ℕ) → AllByRecursion IsShort ids → IsShort (get_or ids k [])
id_among [] k h = omega arith
id_among (id ∷ ids) zero h = h.0
id_among (id ∷ ids) (suc n) h = id_among ids n h.1

pub id_short : (t : Target) (k : ℕ) → HasShortNames t → IsShort (slice_index_or t.ids k [])
id_short t k h = id_among t.ids k h.ids

-- those of an operation and of its interface

pub key_short : (i : Interface) (op : Operation) (t : Target) → target_in (plain_interface i) (plain_operation op) ≡ t → HasShortNames t
    → IsShort i.name
key_short i op t is h = omega (arith, ap (λ (x : Target). length x.key) is, h.key)

pub name_short : (i : Interface) (op : Operation) (t : Target) → target_in (plain_interface i) (plain_operation op) ≡ t → HasShortNames t
    → IsShort op.name
name_short i op t is h = omega (arith, ap (λ (x : Target). length x.name) is, h.name)

-- ---- heads

long_two : (r : Order) (n : ℕ) → length (short_octets r n) ≡ 2
long_two Big n = refl
long_two Little n = refl

long_after : (g : ℕ) (o x : List ℕ) → length ((o ++ replicate g 0) ++ x) ≡ length o + g + length x
long_after g o x = omega (arith, length-append (o ++ replicate g 0) x, length-append o (replicate g 0), length-replicate {A = ℕ} g 0)

gap_below : (n : ℕ) → gap n 4 ≤ 3
gap_below n = omega arith

most_long : (r : Order) (n : ℕ) (o : List ℕ) → length (then_long r n o) ≤ length o + 7
most_long r n o = omega (arith, long_after (gap (length o) 4) o (long_octets r n), gap_below (length o), long_four r n)

most_sequence : (r : Order) (s o : List ℕ) → length (then_sequence r s o) ≤ length o + length s + 7
most_sequence r s o = omega (arith, length-append (then_long r (length s) o) s, most_long r (length s) o)

most_string : (r : Order) (s o : List ℕ) → length (then_string r s o) ≤ length o + length s + 8
most_string r s o =
    omega (
      arith,
      length-append (then_long r (suc (length s)) o ++ s) (0 ∷ []),
      length-append (then_long r (suc (length s)) o) s,
      most_long r (suc (length s)) o,
    )

most_short : (r : Order) (n : ℕ) (o : List ℕ) → length (then_short r n o) ≤ length o + 3
most_short r n o = omega (arith, long_after (gap (length o) 2) o (short_octets r n), long_two r n)

-- ---- what differs between versions

most_first : (m : ℕ) (r : Order) (o : List ℕ) → length (then_first m r o) ≤ length o + 7
most_first zero r o = most_long r 0 o
most_first (suc m) r o = omega arith

most_last : (m : ℕ) (r : Order) (o : List ℕ) → length (then_last m r o) ≤ length o + 7
most_last zero r o = omega arith
most_last (suc m) r o = most_long r 0 o

most_wants : (m : ℕ) (b : Bool) (o : List ℕ) → length (then_wants m b o) ≤ length o + 4
most_wants zero b o = omega (arith, length-append o (flag b ∷ []))
most_wants (suc m) b o = omega (arith, length-append o (response_flags b ∷ 0 ∷ 0 ∷ 0 ∷ []))

most_target : (m : ℕ) (r : Order) (o : List ℕ) → length (then_target m r o) ≤ length o + 3
most_target zero r o = omega arith
most_target (suc m) r o = most_short r 0 o

most_close : (m : ℕ) (r : Order) (o : List ℕ) → length (then_close m r o) ≤ length o + 7
most_close zero r o = omega (arith, most_sequence r [] o)
most_close (suc m) r o = most_long r 0 o

most_gap : (m : ℕ) (body : Bool) (o : List ℕ) → length (then_gap m body o) ≤ length o + 7
most_gap zero body o = omega arith
most_gap (suc m) true o =
    let many : gap (length o) 8 ≤ 7 = omega arith in
    omega (arith, length-append o (replicate (gap (length o) 8) 0), length-replicate {A = ℕ} (gap (length o) 8) 0, many)
most_gap (suc m) false o = omega arith

-- ---- whole heads

most_begun : (m : ℕ) (r : Order) (id : ℕ) (wants : Bool) → length (begun_octets m r id wants) ≤ 33
most_begun m r id wants =
    let a : List ℕ = then_first m r (header_octets m r 0) in
    let b : List ℕ = then_long r id a in
    let c : List ℕ = then_wants m wants b in
    omega (arith, most_first m r (header_octets m r 0), most_long r id a, most_wants m wants b, most_target m r c)

most_request : (m : ℕ) (body : Bool) (r : Order) (q : Request) → length (request_octets m body r q) ≤ length q.key + length q.name + 62
unfolding request_octets
most_request m body r q =
    let a : List ℕ = begun_octets m r q.id q.wants in
    let b : List ℕ = then_sequence r q.key a in
    let c : List ℕ = then_string r q.name b in
    let d : List ℕ = then_close m r c in
    omega (
      arith,
      most_begun m r q.id q.wants,
      most_sequence r q.key a,
      most_string r q.name b,
      most_close m r c,
      most_gap m body d,
    )

most_status : (m : ℕ) (r : Order) (id status : ℕ) → length (status_octets m r id status) ≤ 40
most_status m r id status =
    let a : List ℕ = then_first m r (header_octets m r 1) in
    let b : List ℕ = then_long r id a in
    let c : List ℕ = then_long r status b in
    omega (arith, most_first m r (header_octets m r 1), most_long r id a, most_long r status b, most_last m r c)

pub call_few : (m : ℕ) (body : Bool) (r : Order) (t : Target) (id : ℕ) → HasShortNames t → length (lead m body r t id) < 4294967296
call_few m body r t id h =
    omega (arith, most_request m body r (record { id = id; wants = t.wants; key = t.key; name = t.name }), h.key, h.name)

pub reply_few : (m : ℕ) (r : Order) (t : Target) (arm id : ℕ) → HasShortNames t → length (reply_lead m r t arm id) < 4294967296
reply_few m r t zero id h = omega (arith, most_status m r id 0)
reply_few m r t (suc k) id h =
    omega (arith, most_string r (slice_index_or t.ids k []) (status_octets m r id 1), most_status m r id 1, id_short t k h)
