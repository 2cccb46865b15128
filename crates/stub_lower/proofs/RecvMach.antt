-- What the code of a row or text reads in a Mach message.
use Rattle.std.proofs.Common.{◌≡◌, ℕ, ◌+◌, ◌-◌, ◌*◌, ◌/◌, ◌%◌, ◌^◌, ◌≤◌, ℤ, List, [], length, take, drop, Option, Some, None, refl, sym, ap, subst, arith, Bool, true, false, ◌&&◌, if◌then◌else◌}
use Rattle.std.specs.Prelude.{nat_lt, nat_le, nat_eq}
use Rattle.std.specs.Int.{w16, w32}
use Rattle.std.proofs.lemmas.Bool.{ltb-false, le-ltb}
use Rattle.kit_base.specs.Bytes.{le}
use Rattle.mint.specs.declared.kind.Kind.{Kind}
use Rattle.mint.specs.declared.kind.Kind.TheVariants as kind
use Rattle.mint.specs.declared.kind.Count.{Count}
use Rattle.mint.specs.declared.kind.Count.TheVariants.{Exactly, AtMost, Any}
use Rattle.mint.specs.Blank.{least}
use Rattle.mint.specs.Types.{Scalar, number, Array, text, row_of, array_type}
use Rattle.mint.specs.Values.{row}
use Rattle.wire_def.specs.declared.encoding.Encoding.TheVariants.{Mach}
use Rattle.wire_def.specs.declared.fault.FaultKind.{FaultKind}
use Rattle.wire_def.specs.declared.fault.FaultKind.TheVariants.{Short, BadText, BadItem, OverBound}
use Rattle.wire_def.specs.Grammar.{Reading, got, stop, Reader, AreOctets, map_got, times}
use Rattle.wire_def.specs.Places.{IsPlace}
use Rattle.wire_def.specs.Scalars.{gap, read_scalar}
use Rattle.wire_def.specs.Lone.{unit_name, unit_bits, units_of, read_any}
use Rattle.wire_def.specs.Described.{is_marked, is_long, read_described}
use Rattle.wire_def.specs.Arrays.{count_of, kind_of, may_stand, read_octet, read_head, read_element, read_tail, read_array}
use Rattle.cast_stub.specs.RecvBlock.{Recv, finish, skip_any, each}
use Rattle.cast_stub.specs.RecvAppend.{append}
use Rattle.cast_stub.specs.Draft.{Draft, raw, digit, lined}
use Rattle.cast_stub.specs.Fill.{settled_number, runs, fill_row, Callees, fill}
use Rattle.cast_stub.specs.Into.{passed, same_octets, length_of, allows, little, units_into, short_into, long_into, form_into, desc_into}
use Rattle.cast_stub.specs.Runs.{Place, Run, gives, refuses, strays, Filler, then_run, if_passed}
use Rattle.cast_stub.specs.Layouts.{scalar_width}
use Rattle.stub_lower.specs.RecvCodes.{number_take, fixed_code, free_code, described_code, filling_code}
use Rattle.stub_lower.proofs.Agreeing.{Agrees, Same, Settles, agrees-finish, agrees-wider, agrees-ends, ends-same}
use Rattle.stub_lower.proofs.RecvEncoded.{const_run, tested_place, passed_place, le_true, octets_dropped}
use Rattle.stub_lower.proofs.RecvArrays.{ArraysRead, Opens, read_whole, array-reads, numbers-agree, octets-agree, IsOctetArray, letter_passes, octet_passes}
use Rattle.stub_lower.proofs.UnitLaws.{along, along_words, along_times}
use Rattle.stub_lower.proofs.RecvCdr.{Skips, skip_run}
use Rattle.stub_lower.proofs.RecvDesc.{counted_by, units_by, long_right, desc_by, fixed_word, fixed_by, free_ends, long_ends, fixed_ends}

abbrev AnyNumber : ℕ → Type 0
AnyNumber n = Unit {0}

-- a draft of so many numbers
abbrev Counted : Array → Draft → ℕ → Type 0
Counted a d n = Opens a d n × AnyNumber n

-- ---- descriptors

module _ (c : Callees) (a : Array) where
  -- so many units, where name and size are right
  units-agree : (mul : ℕ) (right : Bool) (many n : ℕ) (u : Place) → n ≤ u.near → IsPlace Mach (u.pos + n) → AreOctets u.left
      → Agrees (IsPlace Mach) (Counted a) (units_into right mul many n (raw (array_type a)) u)
      (units_by (count_of a) mul right many (u.pos + n) (drop n u.left))
  units-agree mul false many n u near here oct = tt
  units-agree mul true many n u near here oct = found (length_of mul 0 many) where
    given : (k : ℕ)
        → Agrees (IsPlace Mach) (Counted a)
        (if nat_le n u.near then gives (lined a k) (record { pos = u.pos + n; left = drop n u.left; near = u.near - n; tests = u.tests })
        else strays) (got k (u.pos + n) (drop n u.left))
    given k =
        subst (λ (b : Bool). Agrees (IsPlace Mach) (Counted a)
        (if b then gives (lined a k) (record { pos = u.pos + n; left = drop n u.left; near = u.near - n; tests = u.tests }) else strays)
        (got k (u.pos + n) (drop n u.left)))
        (sym (le_true n u.near near)) (((λ (f : Filler) (t : Place). refl), tt), refl, refl, here, octets_dropped n u.left oct)

    fits : (k : ℕ) (b : Bool)
        → Agrees (IsPlace Mach) (Counted a) (then_run (if b then gives (lined a k) u else refuses) (passed n))
        (if b then got k (u.pos + n) (drop n u.left) else stop OverBound (u.pos + n))
    fits k true = given k
    fits k false = tt

    found : (z : Option ℕ)
        → Agrees (IsPlace Mach) (Counted a)
        (then_run (if_passed z (λ k. if allows (count_of a) k then gives (lined a k) u else refuses)) (passed n))
        (counted_by (count_of a) z (u.pos + n) (drop n u.left))
    found None = tt
    found (Some k) = fits k (allows (count_of a) k)

  -- the count of a short descriptor, and of a long one
  abbrev short_units : Scalar → Place → Reading FaultKind ℕ
  short_units x s = units_by (count_of a) (units_of x)
      (nat_eq (little w32 0 4 s.left % 256) (unit_name x) && nat_eq (little w32 0 4 s.left / 256 % 256) (unit_bits x))
      (little w32 0 4 s.left / 65536 % 4096) (s.pos + 4) (drop 4 s.left)

  abbrev long_units : Scalar → Place → Reading FaultKind ℕ
  long_units x s = units_by (count_of a) (units_of x) (long_right x s.left) (little w32 8 4 s.left) (s.pos + 12) (drop 12 s.left)

  -- a descriptor in either form
  desc-agrees : (x : Scalar) (s : Place) → IsPlace Mach s.pos → AreOctets s.left
      → Agrees (IsPlace Mach) (Counted a) (desc_into (unit_name x) (unit_bits x) (units_of x) (raw (array_type a)) s)
      (desc_by (count_of a) x s.pos s.left)
  desc-agrees x s here oct = first (nat_lt (length s.left) 4) where
    t : Place
    t = tested_place 4 s

    long : (b : Bool)
        → Agrees (IsPlace Mach) (Counted a)
        (then_run (if b then refuses else gives (raw (array_type a)) (tested_place 12 (tested_place 4 s)))
        (λ y u. units_into (nat_eq (little w16 4 2 u.left) (unit_name x) && nat_eq (little w16 6 2 u.left) (unit_bits x)) (units_of x)
        (little w32 8 4 u.left) 12 y u))
        (if b then stop Short s.pos else long_units x s)
    long true = tt
    long false = units-agree (units_of x) (long_right x s.left) (little w32 8 4 s.left) 12 (tested_place 12 (tested_place 4 s))
        (omega arith) (omega (arith, here)) oct

    short : (b : Bool)
        → Agrees (IsPlace Mach) (Counted a)
        (if b then short_into (unit_name x) (unit_bits x) (units_of x) (little w32 0 4 s.left) (raw (array_type a)) (tested_place 4 s)
        else refuses)
        (if b then short_units x s else stop BadItem s.pos)
    short true = units-agree (units_of x)
        (nat_eq (little w32 0 4 s.left % 256) (unit_name x) && nat_eq (little w32 0 4 s.left / 256 % 256) (unit_bits x))
        (little w32 0 4 s.left / 65536 % 4096) 4 (tested_place 4 s) (omega arith) (omega (arith, here)) oct
    short false = tt

    form : (b : Bool)
        → Agrees (IsPlace Mach) (Counted a)
        (if b then long_into (unit_name x) (unit_bits x) (units_of x) (raw (array_type a)) (tested_place 4 s)
        else (if nat_eq (little w32 0 4 s.left / 2 ^ 28) 1
        then short_into (unit_name x) (unit_bits x) (units_of x) (little w32 0 4 s.left) (raw (array_type a)) (tested_place 4 s)
        else refuses))
        (if b
        then (if nat_lt (length s.left) 12 then stop Short s.pos else long_units x s)
        else (if nat_eq (little w32 0 4 s.left / 2 ^ 28) 1 then short_units x s else stop BadItem s.pos))
    form true = long (nat_lt (length s.left) 12)
    form false = short (nat_eq (little w32 0 4 s.left / 2 ^ 28) 1)

    first : (b : Bool)
        → Agrees (IsPlace Mach) (Counted a) (then_run (if b then refuses else gives (raw (array_type a)) (tested_place 4 s))
        (λ y u. form_into (unit_name x) (unit_bits x) (units_of x) (little w32 0 4 u.left) y u))
        (if b then stop Short s.pos
        else (if is_marked (little w32 0 4 s.left)
        then (if nat_lt (length s.left) 12 then stop Short s.pos else long_units x s)
        else (if nat_eq (little w32 0 4 s.left / 2 ^ 28) 1 then short_units x s else stop BadItem s.pos)))
    first true = tt
    first false = form (is_marked (little w32 0 4 s.left))

  free-agrees : (x : Scalar) (s : Place) → IsPlace Mach s.pos → AreOctets s.left
      → Agrees (IsPlace Mach) (Counted a) (fill c (free_code x) (raw (array_type a)) s) (desc_by (count_of a) x s.pos s.left)
  free-agrees x s here oct =
      agrees-finish (IsPlace Mach) (Counted a) (desc_into (unit_name x) (unit_bits x) (units_of x) (raw (array_type a)) s)
      (desc_by (count_of a) x s.pos s.left) c (desc-agrees x s here oct)

  fixed-agrees : (x : Scalar) (m : ℕ) (s : Place) → count_of a ≡ Exactly m → IsPlace Mach s.pos → AreOctets s.left
      → Agrees (IsPlace Mach) (Counted a) (fill c (fixed_code x m) (raw (array_type a)) s) (fixed_by x m s.pos s.left)
  fixed-agrees x m s is here oct =
      subst (λ (r : Run Draft). Agrees (IsPlace Mach) (Counted a) r (fixed_by x m s.pos s.left))
      (sym (const_run c (le 4 (fixed_word x m)) (raw (array_type a)) s))
      (decided (nat_lt (length s.left) 4) (same_octets (le 4 (fixed_word x m)) (take 4 s.left))) where
        opens : Opens a (raw (array_type a)) m
        opens f t = ap (λ (b : Count). fill_row f a (least b) t) is

        decided : (short good : Bool)
            → Agrees (IsPlace Mach) (Counted a)
            (if short then refuses else (if good then gives (raw (array_type a)) (passed_place 4 s) else refuses))
            (if short then stop Short s.pos else (if good then got m (s.pos + 4) (drop 4 s.left) else stop BadItem s.pos))
        decided true good = tt
        decided false false = tt
        decided false true = ((opens, tt), refl, refl, omega (arith, here), octets_dropped 4 s.left oct)

  -- the descriptor of an array
  described-agrees : (b : Count) (x : Scalar) (s : Place) → count_of a ≡ b → IsPlace Mach s.pos → AreOctets s.left
      → Agrees (IsPlace Mach) (Counted a) (fill c (described_code b x) (raw (array_type a)) s) (read_described b x s.pos s.left)
  described-agrees (Exactly m) x s is here oct = either (is_long (Exactly m) x) refl where
    either : (long : Bool) → is_long (Exactly m) x ≡ long
        → Agrees (IsPlace Mach) (Counted a) (fill c (if long then free_code x else fixed_code x m) (raw (array_type a)) s)
        (read_described (Exactly m) x s.pos s.left)
    either true long =
        agrees-ends (IsPlace Mach) (Counted a) (fill c (free_code x) (raw (array_type a)) s) (desc_by (Exactly m) x s.pos s.left)
        (read_described (Exactly m) x s.pos s.left) (long_ends m x s.pos s.left oct long)
        (subst (λ (b : Count). Agrees (IsPlace Mach) (Counted a) (fill c (free_code x) (raw (array_type a)) s) (desc_by b x s.pos s.left))
        is (free-agrees x s here oct))
    either false short =
        agrees-ends (IsPlace Mach) (Counted a) (fill c (fixed_code x m) (raw (array_type a)) s) (fixed_by x m s.pos s.left)
        (read_described (Exactly m) x s.pos s.left) (fixed_ends m x (ltb-false 4095 (m * units_of x) short) s.pos s.left oct)
        (fixed-agrees x m s is here oct)
  described-agrees (AtMost m) x s is here oct =
      agrees-ends (IsPlace Mach) (Counted a) (fill c (free_code x) (raw (array_type a)) s) (desc_by (AtMost m) x s.pos s.left)
      (read_described (AtMost m) x s.pos s.left) (free_ends (AtMost m) x s.pos s.left oct (λ (n : ℕ) same. cc))
      (subst (λ (b : Count). Agrees (IsPlace Mach) (Counted a) (fill c (free_code x) (raw (array_type a)) s) (desc_by b x s.pos s.left)) is
      (free-agrees x s here oct))
  described-agrees Any x s is here oct =
      agrees-ends (IsPlace Mach) (Counted a) (fill c (free_code x) (raw (array_type a)) s) (desc_by Any x s.pos s.left)
      (read_described Any x s.pos s.left) (free_ends Any x s.pos s.left oct (λ (n : ℕ) same. cc))
      (subst (λ (b : Count). Agrees (IsPlace Mach) (Counted a) (fill c (free_code x) (raw (array_type a)) s) (desc_by b x s.pos s.left)) is
      (free-agrees x s here oct))

-- ---- what fills a row or text up

-- after so many octets, up to a multiple of 4, whatever they are
skip-agrees : (c : Callees) (k : ℕ) (d : Draft) (t : Place) → gap t.pos 4 ≡ k → AreOctets t.left
    → Agrees (IsPlace Mach) (λ (y : Draft) (z : Unit {0}). y ≡ d) (fill c (skip_any 4 finish) d t) (read_any k t.pos t.left)
unfolding read_any
skip-agrees c k d t same oct =
    subst (λ (n : ℕ). Agrees (IsPlace Mach) (λ (y : Draft) (z : Unit {0}). y ≡ d) (fill c (skip_any 4 finish) d t)
    (if nat_lt (length t.left) n then stop Short (t.pos + length t.left) else got tt (t.pos + n) (drop n t.left))) same
    (subst (λ (x : Run Draft). Agrees (IsPlace Mach) (λ (y : Draft) (z : Unit {0}). y ≡ d) x
    (if nat_lt (length t.left) (gap t.pos 4) then stop Short (t.pos + length t.left)
    else got tt (t.pos + gap t.pos 4) (drop (gap t.pos 4) t.left))) (sym skip.is) (decided (nat_lt (length t.left) (gap t.pos 4)))) where
      skip : Skips c 4 (skip_any 4 finish) finish d t
      skip = skip_run c 4 finish d t refl

      decided : (short : Bool)
          → Agrees (IsPlace Mach) (λ (y : Draft) (z : Unit {0}). y ≡ d) (if short then refuses else gives d skip.place)
          (if short then stop Short (t.pos + length t.left) else got tt (t.pos + gap t.pos 4) (drop (gap t.pos 4) t.left))
      decided true = tt
      decided false = (refl, skip.at, skip.left, omega arith, octets_dropped (gap t.pos 4) t.left oct)

nothing-after : (c : Callees) (d : Draft) (t : Place) → IsPlace Mach t.pos → AreOctets t.left
    → Agrees (IsPlace Mach) (λ (y : Draft) (z : Unit {0}). y ≡ d) (fill c finish d t) (read_any 0 t.pos t.left)
unfolding read_any
nothing-after c d t here oct =
    let past : t.pos ≡ t.pos + 0 = omega arith in
    subst (λ (b : Bool). Agrees (IsPlace Mach) (λ (y : Draft) (z : Unit {0}). y ≡ d) (gives d t)
    (if b then stop Short (t.pos + length t.left) else got tt (t.pos + 0) t.left)) (sym none)
    (refl, past, refl, omega (arith, here), oct) where
      none : nat_lt (length t.left) 0 ≡ false
      none = le-ltb (length t.left) 0 (omega arith)

-- ---- rows and texts

-- an array of elements of so many octets, which are less than a word, or whole words
mach-array : (c : Callees) (a : Array) (x : Scalar) (w : ℕ) (turn : Recv) (one : Reader FaultKind ℤ) (s : Place)
    → (nat_lt w 4 ≡ false → w % 4 ≡ 0)
    → ((n : ℕ) (t : Place) → AreOctets t.left
    → Agrees (λ (q : ℕ). q ≡ t.pos + along n w) Same (runs (λ u. settled_number (fill c turn (digit a) u)) n t) (times one n t.pos t.left))
    → IsPlace Mach s.pos → AreOctets s.left
    → Agrees (IsPlace Mach) Settles (fill c (append (described_code (count_of a) x) (each [] turn (filling_code w))) (raw (array_type a)) s)
    (map_got (row (kind_of a)) (map_got (λ (y : ℕ × (List ℤ × Unit {0})). y.1.0)
    (read_whole (read_described (count_of a) x) one (λ n. read_any (gap (n * w) 4)) s.pos s.left)))
mach-array c a x w turn one s whole elements here oct =
    array-reads Mach c a (described_code (count_of a) x) turn (filling_code w) one (λ n. read_any (gap (n * w) 4)) AnyNumber (IsPlace Mach)
    (λ (n q : ℕ). gap q 4 ≡ gap (n * w) 4)
    (λ (n : ℕ) (t : Place) any k o. agrees-wider (λ (q : ℕ). q ≡ t.pos + along n w) (λ (q : ℕ). gap q 4 ≡ gap (n * w) 4) Same
    (runs (λ u. settled_number (fill c turn (digit a) u)) n t) (times one n t.pos t.left)
    (elements n t o) (λ (q : ℕ) is. let long = along_times w n in omega (arith, is, long, k)))
    (λ (n : ℕ) (d : Draft) (t : Place) any k o. filled (nat_lt w 4) refl n d t k o)
    (read_described (count_of a) x) (read_described (count_of a) x) s (described-agrees c a (count_of a) x s refl here oct)
    (ends-same (read_whole (read_described (count_of a) x) one (λ n. read_any (gap (n * w) 4)) s.pos s.left)) where
      filled : (b : Bool) → nat_lt w 4 ≡ b → (n : ℕ) (d : Draft) (t : Place) → gap t.pos 4 ≡ gap (n * w) 4 → AreOctets t.left
          → Agrees (IsPlace Mach) (λ (y : Draft) (z : Unit {0}). y ≡ d) (fill c (if b then skip_any 4 finish else finish) d t)
          (read_any (gap (n * w) 4) t.pos t.left)
      filled true is n d t k o = skip-agrees c (gap (n * w) 4) d t k o
      filled false is n d t k o =
          let words : along n w % 4 ≡ 0 = along_words n w (whole is) in
          let long = along_times w n in
          let none : gap (n * w) 4 ≡ 0 = omega (arith, words, long) in
          subst (λ (m : ℕ). Agrees (IsPlace Mach) (λ (y : Draft) (z : Unit {0}). y ≡ d) (fill c finish d t) (read_any m t.pos t.left))
          (sym none) (nothing-after c d t (omega (arith, k, none)) o)

-- one of octets
octets-array : (c : Callees) (a : Array) (x : Scalar) (test : ℕ → Bool) → IsOctetArray a test → (s : Place) → IsPlace Mach s.pos
    → AreOctets s.left
    → Agrees (IsPlace Mach) Settles
    (fill c (append (described_code (count_of a) x) (each [] (number_take Mach 1) (filling_code 1))) (raw (array_type a)) s)
    (map_got (row (kind_of a)) (map_got (λ (y : ℕ × (List ℤ × Unit {0})). y.1.0)
    (read_whole (read_described (count_of a) x) (read_octet test BadText) (λ n. read_any (gap (n * 1) 4)) s.pos s.left)))
octets-array c a x test passes s here oct =
    mach-array c a x 1 (number_take Mach 1) (read_octet test BadText) s (λ is. cc)
    (λ (n : ℕ) (t : Place) o. octets-agree Mach c a test BadText passes n t o) here oct

-- one of other numbers
numbers-array : (c : Callees) (k : Kind) (b : Count) (s : Place)
    → (nat_lt (scalar_width Mach (number k)) 4 ≡ false → scalar_width Mach (number k) % 4 ≡ 0) → IsPlace Mach s.pos → AreOctets s.left
    → Agrees (IsPlace Mach) Settles (fill c (append (described_code b (number k))
    (each [] (number_take Mach (scalar_width Mach (number k))) (filling_code (scalar_width Mach (number k)))))
    (raw (array_type (row_of k b))) s)
    (map_got (row k) (map_got (λ (y : ℕ × (List ℤ × Unit {0})). y.1.0) (read_whole (read_described b (number k))
    (read_scalar Mach (number k)) (λ n. read_any (gap (n * scalar_width Mach (number k)) 4)) s.pos s.left)))
numbers-array c k b s whole here oct =
    mach-array c (row_of k b) (number k) (scalar_width Mach (number k)) (number_take Mach (scalar_width Mach (number k)))
    (read_scalar Mach (number k)) s whole
    (λ (n : ℕ) (t : Place) o. numbers-agree Mach c k b AnyNumber (λ (q : ℕ) j. tt) (λ (q : ℕ) j. omega arith) n t tt o) here oct

pub mach_array : ArraysRead Mach
unfolding read_array read_head read_element read_tail
mach_array c (text b) s here oct = octets-array c (text b) (number kind.Char) (may_stand (text b)) (letter_passes b) s here oct
mach_array c (row_of kind.Octet b) s here oct =
    octets-array c (row_of kind.Octet b) (number kind.Octet) (λ x. true) (octet_passes b) s here oct
mach_array c (row_of kind.I8 b) s here oct = numbers-array c kind.I8 b s (λ is. cc) here oct
mach_array c (row_of kind.U8 b) s here oct = numbers-array c kind.U8 b s (λ is. cc) here oct
mach_array c (row_of kind.Char b) s here oct = numbers-array c kind.Char b s (λ is. cc) here oct
mach_array c (row_of kind.I16 b) s here oct = numbers-array c kind.I16 b s (λ is. cc) here oct
mach_array c (row_of kind.U16 b) s here oct = numbers-array c kind.U16 b s (λ is. cc) here oct
mach_array c (row_of kind.I32 b) s here oct = numbers-array c kind.I32 b s (λ is. refl) here oct
mach_array c (row_of kind.U32 b) s here oct = numbers-array c kind.U32 b s (λ is. refl) here oct
mach_array c (row_of kind.I64 b) s here oct = numbers-array c kind.I64 b s (λ is. refl) here oct
mach_array c (row_of kind.U64 b) s here oct = numbers-array c kind.U64 b s (λ is. refl) here oct
mach_array c (row_of kind.Bool b) s here oct = numbers-array c kind.Bool b s (λ is. refl) here oct
