-- What the code of a row or text reads over CDR.
use Rattle.std.proofs.Common.{◌≡◌, ℕ, zero, suc, ◌+◌, ◌-◌, ◌*◌, ◌/◌, ◌%◌, ◌<◌, ℤ, pos, negsuc, List, [], ◌∷◌, length, take, drop, Option, Some, None, refl, sym, ap, subst, ◌∙◌, arith, Bool, true, false, ◌&&◌, if◌then◌else◌}
use Rattle.std.specs.Prelude.{nat_lt, nat_le, nat_eq}
use Rattle.std.specs.Int.{Width, w32, byte_len}
use Rattle.std.proofs.lemmas.Bool.{lt-ltb, le-ltb, ne_eqb}
use Rattle.mint.specs.declared.kind.Kind.{Kind}
use Rattle.mint.specs.declared.kind.Kind.TheVariants as kind
use Rattle.mint.specs.declared.kind.Count.{Count}
use Rattle.mint.specs.declared.kind.Count.TheVariants.{Exactly, AtMost, Any}
use Rattle.mint.specs.Types.{Scalar, number, Array, text, row_of, array_type}
use Rattle.mint.specs.Values.{Val, num, row}
use Rattle.wire_def.specs.declared.encoding.Encoding.{Encoding}
use Rattle.wire_def.specs.declared.encoding.Encoding.TheVariants.{CdrBig, CdrLittle}
use Rattle.wire_def.specs.declared.fault.FaultKind.{FaultKind}
use Rattle.wire_def.specs.declared.fault.FaultKind.TheVariants.{Short, BadText, OverBound}
use Rattle.wire_def.specs.declared.head.Order.{Order}
use Rattle.wire_def.specs.declared.head.Order.TheVariants.{Big, Little}
use Rattle.wire_def.specs.Grammar.{Reading, got, stop, Reader, AreOctets, then_on, map_got, times}
use Rattle.wire_def.specs.Places.{IsPlace}
use Rattle.wire_def.specs.Scalars.{gap, scalar_place, own_width, width_of, alignment_of, read_scalar}
use Rattle.wire_def.specs.Described.{allowed}
use Rattle.wire_def.specs.Arrays.{counted, is_some, less_one, may_stand, read_count, read_ended, read_head, read_octet, read_zeros, read_element, read_tail, read_array}
use Rattle.wire_def.proofs.Words.{own_of, octet_at}
use Rattle.wire_def.specs.Orders.{loaded}
use Rattle.cast_stub.specs.declared.recv.Get.TheVariants as get
use Rattle.cast_stub.specs.RecvBlock.{Recv, finish, skip_any, each}
use Rattle.cast_stub.specs.RecvAppend.{append}
use Rattle.cast_stub.specs.Draft.{Draft, raw, digit, lined, done}
use Rattle.cast_stub.specs.Fill.{settled_number, runs, Callees, fill}
use Rattle.cast_stub.specs.Into.{same_octets, scalar_into, length_into, count_into, allows}
use Rattle.cast_stub.specs.Runs.{Place, Run, gives, refuses, strays, Filler, if_passed}
use Rattle.cast_stub.specs.Layouts.{order_of, scalar_width, element_width, is_free, is_gapped}
use Rattle.stub_lower.specs.RecvCodes.{aligned, take_code, number_take, gapped_turn, count_code, row_code, end_code}
use Rattle.stub_lower.proofs.Words.{width_same}
use Rattle.stub_lower.proofs.Cdr.{no_gap_after, still_none, one_fits, two_fit, four_fit}
use Rattle.stub_lower.proofs.Agreeing.{Agrees, Same, Settles, agrees-then, agrees-wider, agrees-ends, agrees-runs, SameEnds, ends-same, ends-map, ends-then}
use Rattle.stub_lower.proofs.RecvEncoded.{const_run, passed_place, octets_dropped, same_true, reads-wider, taken, After, LonesRead}
use Rattle.stub_lower.proofs.RecvArrays.{ArraysRead, Opens, read_body, read_whole, array-reads, count-opens, numbers-agree, number-agrees, octets-agree, letter_passes, octet_passes}
use Rattle.stub_lower.proofs.UnitLaws.{along}
use Rattle.stub_lower.proofs.RecvCdr.{Skips, aligned_run, scalar_split, aligned-scalar, big_scalar, little_scalar}

-- at a multiple of 8
by_eight : (w : ℕ) (b : Recv) → w ≡ 8 → aligned w b ≡ skip_any 8 b
by_eight w b is = ap (λ (n : ℕ). aligned n b) is

abbrev AnyNumber : ℕ → Type 0
AnyNumber n = Unit {0}

-- the octet 0 after a text
end-read : (c : Callees) (d : Draft) (s : Place) → AreOctets s.left
    → Agrees AnyNumber (λ (y : Draft) (z : Unit {0}). y ≡ d) (fill c end_code d s) (read_zeros 1 BadText s.pos s.left)
unfolding read_zeros
end-read c d s oct = subst (λ (x : Run Draft). Agrees AnyNumber (λ (y : Draft) (z : Unit {0}). y ≡ d) x (read_zeros 1 BadText s.pos s.left))
    (sym (const_run c (0 ∷ []) d s)) (cases s.left refl) where
      result : List ℕ → Run Draft
      result l = if nat_lt (length l) 1 then refuses else (if same_octets (0 ∷ []) (take 1 l) then gives d (passed_place 1 s) else refuses)

      cases : (l : List ℕ) → s.left ≡ l
          → Agrees AnyNumber (λ (y : Draft) (z : Unit {0}). y ≡ d)
          (if nat_lt (length s.left) 1 then refuses
          else (if same_octets (0 ∷ []) (take 1 s.left) then gives d (passed_place 1 s) else refuses))
          (read_zeros 1 BadText s.pos s.left)
      cases [] is = subst (λ (l : List ℕ). Agrees AnyNumber (λ (y : Draft) (z : Unit {0}). y ≡ d)
          (if nat_lt (length l) 1 then refuses else (if same_octets (0 ∷ []) (take 1 l) then gives d (passed_place 1 s) else refuses))
          (read_zeros 1 BadText s.pos l)) (sym is) tt
      cases (zero ∷ o) is =
          let all : AreOctets (0 ∷ o) = subst AreOctets is oct in
          let enough : nat_lt (length (0 ∷ o)) 1 ≡ false = le-ltb (length (0 ∷ o)) 1 (omega arith) in
          subst (λ (l : List ℕ). Agrees AnyNumber (λ (y : Draft) (z : Unit {0}). y ≡ d)
          (if nat_lt (length l) 1 then refuses else (if same_octets (0 ∷ []) (take 1 l) then gives d (passed_place 1 s) else refuses))
          (read_zeros 1 BadText s.pos l)) (sym is)
          (subst (λ (g : Bool). Agrees AnyNumber (λ (y : Draft) (z : Unit {0}). y ≡ d) (if g then refuses else gives d (passed_place 1 s))
          (got tt (s.pos + 1) o)) (sym enough) (refl, refl, ap (drop 1) is, tt, all.1))
      cases (suc b ∷ o) is =
          let enough : nat_lt (length (suc b ∷ o)) 1 ≡ false = le-ltb (length (suc b ∷ o)) 1 (omega arith) in
          let other : nat_eq 0 (suc b) ≡ false = ne_eqb 0 (suc b) (λ e. omega (arith, e)) in
          subst (λ (l : List ℕ). Agrees AnyNumber (λ (y : Draft) (z : Unit {0}). y ≡ d)
          (if nat_lt (length l) 1 then refuses else (if same_octets (0 ∷ []) (take 1 l) then gives d (passed_place 1 s) else refuses))
          (read_zeros 1 BadText s.pos l)) (sym is)
          (subst (λ (g : Bool). Agrees AnyNumber (λ (y : Draft) (z : Unit {0}). y ≡ d)
          (if g then refuses else (if (nat_eq 0 (suc b) && true) then gives d (passed_place 1 s) else refuses)) (stop BadText s.pos))
          (sym enough)
          (subst (λ (g : Bool). Agrees AnyNumber (λ (y : Draft) (z : Unit {0}). y ≡ d)
          (if (g && true) then gives d (passed_place 1 s) else refuses) (stop BadText s.pos)) (sym other) tt))

-- ---- the length of a text

-- a length with the octet after the text, of a number
abbrev ended_draft : Count → (ℕ → Draft) → ℤ → Option Draft
ended_draft b f (pos zero) = None
ended_draft b f (pos (suc n)) = if allowed b n then Some (f n) else None
ended_draft b f (negsuc n) = None

few32 : (o : Order) (l : List ℕ) → AreOctets l → loaded o w32 l < 4294967296
few32 Big l oct = let fits = octet_at l oct in omega (arith, fits 0, fits 1, fits 2, fits 3)
few32 Little l oct = let fits = octet_at l oct in omega (arith, fits 0, fits 1, fits 2, fits 3)

pub octets_taken : (n : ℕ) (l : List ℕ) → AreOctets l → AreOctets (take n l)
octets_taken zero l h = tt
octets_taken (suc n) [] h = tt
octets_taken (suc n) (b ∷ l) h = (h.0, octets_taken n l h.1)

pub allowed_alike : (b : Count) (n : ℕ) → n < 4294967296 → allows b n ≡ allowed b n
allowed_alike (Exactly m) n lt = refl
allowed_alike (AtMost m) n lt = ap (λ (g : Bool). g && nat_le n m) (lt-ltb n 4294967296 lt)
allowed_alike Any n lt = lt-ltb n 4294967296 lt

ended_taken : (b : Count) (f : ℕ → Draft) (x : Width) (m : ℕ) (u : Place) → m < 4294967296
    → length_into b f 1 1 m u ≡ scalar_into counted (ended_draft b f) x m u
ended_taken b f x zero u lt = refl
ended_taken b f x (suc n) u lt =
    let one : (suc n - 1) / 1 ≡ n = omega arith in
    let all : (suc n - 1) / 1 * 1 + 1 ≡ suc n = omega arith in
    ap
    (λ (k : ℕ). if_passed (if nat_eq k (suc n) then Some ((suc n - 1) / 1) else None) (λ i. if allows b i then gives (f i) u else refuses))
    all
    ∙ ap (λ (g : Bool). if_passed (if g then Some ((suc n - 1) / 1) else None) (λ i. if allows b i then gives (f i) u else refuses))
    (same_true (suc n))
    ∙ ap (λ (i : ℕ). if allows b i then gives (f i) u else refuses) one
    ∙ ap (λ (g : Bool). if g then gives (f n) u else refuses) (allowed_alike b n (omega (arith, lt)))
    ∙ decided (allowed b n)
    ∙ sym (ap (λ (g : Bool). if g then if_passed (if allowed b n then Some (f n) else None) (λ d. gives d u) else refuses)
    (lt-ltb (suc n) 4294967296 lt)) where
      decided : (g : Bool) → (if g then gives (f n) u else refuses) ≡ if_passed (if g then Some (f n) else None) (λ d. gives d u)
      decided true = refl
      decided false = refl

-- the reader of the length, its tests last
ended_ends : (e : Encoding) (b : Count) (p : ℕ) (o : List ℕ)
    → SameEnds (then_on (read_scalar e counted p o)
    (λ z q r. if is_some z then (if allowed b (less_one z) then got (less_one z) q r else stop OverBound p) else stop BadText p))
    (read_ended e b p o)
ended_ends e b p o = after (read_scalar e counted p o) where
  tested_so : (some fits : Bool) (z : ℤ) (q : ℕ) (r : List ℕ) → allowed b (less_one z) ≡ fits
      → SameEnds (if some then (if fits then got (less_one z) q r else stop OverBound p) else stop BadText p)
      (then_on (map_got less_one (if some then got z q r else stop BadText (scalar_place e counted p)))
      (λ n m l. if allowed b n then got n m l else stop OverBound (scalar_place e counted p)))
  tested_so true true z q r is = rw is (refl, refl, refl)
  tested_so true false z q r is = rw is tt
  tested_so false fits z q r is = tt

  after : (x : Reading FaultKind ℤ)
      → SameEnds
      (then_on x
      (λ z q r. if is_some z then (if allowed b (less_one z) then got (less_one z) q r else stop OverBound p) else stop BadText p))
      (then_on (map_got less_one (then_on x (λ z q r. if is_some z then got z q r else stop BadText (scalar_place e counted p))))
      (λ n m l. if allowed b n then got n m l else stop OverBound (scalar_place e counted p)))
  after (stop k at) = tt
  after (got z q r) = tested_so (is_some z) (allowed b (less_one z)) z q r refl

module _ (e : Encoding) (aligns : (s : Scalar) → alignment_of e s ≡ byte_len (width_of e s)) (four : scalar_width e counted ≡ 4)
    (placed : (q : ℕ) → IsPlace e q) (lone : LonesRead e) (after_four : (q : ℕ) → After e counted q → q % 4 ≡ 0) where
  -- a length, by a get that takes one less
  abbrev length_at : ℕ → Recv
  length_at w = aligned w (take_code w (get.Count 0 [] 1 1 w (order_of e)))

  ended-opens : (c : Callees) (a : Array) (b : Count) (s : Place)
      → ((m : ℕ) (u : Place) → count_into 1 1 m (raw (array_type a)) u ≡ length_into b (lined a) 1 1 m u) → AreOctets s.left
      → Agrees AnyNumber (λ (d : Draft) (n : ℕ). Opens a d n × AnyNumber n)
      (fill c (length_at (scalar_width e counted)) (raw (array_type a)) s) (read_ended e b s.pos s.left)
  ended-opens c a b s into oct =
      let r = aligned-scalar e aligns c counted (get.Count 0 [] 1 1 (scalar_width e counted) (order_of e)) (raw (array_type a))
      (ended_draft b (lined a)) s oct (λ (u : Place) o. rw four (taken_so u o (nat_le (0 + 4) u.near))) in
      agrees-ends AnyNumber (λ (d : Draft) (n : ℕ). Opens a d n × AnyNumber n)
      (fill c (length_at (scalar_width e counted)) (raw (array_type a)) s)
      (then_on (read_scalar e counted s.pos s.left)
      (λ z q r. if is_some z then (if allowed b (less_one z) then got (less_one z) q r else stop OverBound s.pos) else stop BadText s.pos))
      (read_ended e b s.pos s.left)
      (ended_ends e b s.pos s.left)
      (subst (λ (x : Run Draft). Agrees AnyNumber (λ (d : Draft) (n : ℕ). Opens a d n × AnyNumber n) x
      (then_on (read_scalar e counted s.pos s.left)
      (λ z q r. if is_some z then (if allowed b (less_one z) then got (less_one z) q r else stop OverBound s.pos) else stop BadText s.pos)))
      (sym r.is)
      (agrees-then (λ (q : ℕ). gap q (scalar_width e counted) ≡ 0) AnyNumber Same (λ (d : Draft) (n : ℕ). Opens a d n × AnyNumber n)
      r.number (read_scalar e counted s.pos s.left) (taken (ended_draft b (lined a)))
      (λ z q r. if is_some z then (if allowed b (less_one z) then got (less_one z) q r else stop OverBound s.pos) else stop BadText s.pos)
      r.agrees
      (λ (z : ℤ) (y : ℤ) (t : Place) same k o. subst
      (λ (w : ℤ). Agrees AnyNumber (λ (d : Draft) (n : ℕ). Opens a d n × AnyNumber n) (taken (ended_draft b (lined a)) z t)
      (if is_some w then (if allowed b (less_one w) then got (less_one w) t.pos t.left else stop OverBound s.pos) else stop BadText s.pos))
      same (one z t o)))) where
        taken_so : (u : Place) → AreOctets u.left → (near : Bool)
            → (if near then count_into 1 1 (loaded (order_of e) w32 (take 4 (drop 0 u.left))) (raw (array_type a)) u else strays)
            ≡ (if near then scalar_into counted (ended_draft b (lined a)) w32 (loaded (order_of e) w32 (take 4 (drop 0 u.left))) u
            else strays)
        taken_so u o true =
            into (loaded (order_of e) w32 (take 4 u.left)) u ∙ ended_taken b (lined a) w32 (loaded (order_of e) w32 (take 4 u.left)) u
            (few32 (order_of e) (take 4 u.left) (octets_taken 4 u.left o))
        taken_so u o false = refl

        held : (n : ℕ) (t : Place) → AreOctets t.left → (g : Bool)
            → Agrees AnyNumber (λ (d : Draft) (n : ℕ). Opens a d n × AnyNumber n)
            (if_passed (if g then Some (lined a n) else None) (λ d. gives d t)) (if g then got n t.pos t.left else stop OverBound s.pos)
        held n t o true = (((λ (f : Filler) (u : Place). refl), tt), refl, refl, tt, o)
        held n t o false = tt

        one : (z : ℤ) (t : Place) → AreOctets t.left
            → Agrees AnyNumber (λ (d : Draft) (n : ℕ). Opens a d n × AnyNumber n) (taken (ended_draft b (lined a)) z t)
            (if is_some z then (if allowed b (less_one z) then got (less_one z) t.pos t.left else stop OverBound s.pos)
            else stop BadText s.pos)
        one (pos zero) t o = tt
        one (pos (suc n)) t o = held n t o (allowed b n)
        one (negsuc n) t o = tt

  pub text-reads : (c : Callees) (b : Count) (s : Place) → AreOctets s.left
      → Agrees (IsPlace e) Settles
      (fill c (append (length_at (scalar_width e counted)) (each [] (number_take e 1) end_code)) (raw (array_type (text b))) s)
      (map_got (row kind.Char) (map_got (λ (x : ℕ × (List ℤ × Unit {0})). x.1.0)
      (read_whole (read_ended e b) (read_octet (may_stand (text b)) BadText) (λ n. read_zeros 1 BadText) s.pos s.left)))
  text-reads c b s oct =
      array-reads e c (text b) (length_at (scalar_width e counted)) (number_take e 1) end_code (read_octet (may_stand (text b)) BadText)
      (λ n. read_zeros 1 BadText) AnyNumber AnyNumber (λ (n : ℕ). AnyNumber)
      (λ (n : ℕ) (t : Place) any k o. agrees-wider (λ (q : ℕ). q ≡ t.pos + along n 1) AnyNumber Same
      (runs (λ u. settled_number (fill c (number_take e 1) (digit (text b)) u)) n t)
      (times (read_octet (may_stand (text b)) BadText) n t.pos t.left)
      (octets-agree e c (text b) (may_stand (text b)) BadText (letter_passes b) n t o) (λ (q : ℕ) is. tt))
      (λ (n : ℕ) (d : Draft) (t : Place) any k o. agrees-wider AnyNumber (IsPlace e) (λ (y : Draft) (z : Unit {0}). y ≡ d)
      (fill c end_code d t) (read_zeros 1 BadText t.pos t.left) (end-read c d t o) (λ (q : ℕ) h. placed q))
      (read_ended e b) (read_ended e b) s (ended-opens c (text b) b s (λ (m : ℕ) (u : Place). refl) oct)
      (ends-same (read_whole (read_ended e b) (read_octet (may_stand (text b)) BadText) (λ n. read_zeros 1 BadText) s.pos s.left))

  -- ---- rows

  nothing-after : (c : Callees) (N : ℕ → Type 0) (n : ℕ) (d : Draft) (t : Place) → N n → Unit {0} → AreOctets t.left
      → Agrees (IsPlace e) (λ (y : Draft) (z : Unit {0}). y ≡ d) (fill c finish d t) (read_zeros 0 BadText t.pos t.left)
  unfolding read_zeros
  nothing-after c N n d t any k o = (refl, refl, refl, placed t.pos, o)

  abbrev wide : Kind → ℕ
  wide k = scalar_width e (number k)

  abbrev turn_of : Kind → Recv
  turn_of k = number_take e (wide k)

  -- what a row of these elements is read as
  abbrev row_read : Kind → Count → Reader FaultKind ℤ → Place → Reading FaultKind Val
  row_read k b one s = map_got (row k)
      (map_got (λ (x : ℕ × (List ℤ × Unit {0})). x.1.0) (read_whole (read_count e b) one (λ n. read_zeros 0 BadText) s.pos s.left))

  abbrev row_filled : Callees → Kind → Count → Recv → Recv → Place → Run Draft
  row_filled c k b head turn s = fill c (append head (each [] turn finish)) (raw (array_type (row_of k b))) s

  -- numbers where there is no gap
  no_gaps : (c : Callees) (k : Kind) (b : Count) (n : ℕ) (t : Place) → gap t.pos (wide k) ≡ 0 → AreOctets t.left
      → Agrees AnyNumber Same (runs (λ u. settled_number (fill c (turn_of k) (digit (row_of k b)) u)) n t)
      (times (read_scalar e (number k)) n t.pos t.left)
  no_gaps c k b n t here o =
      let w = width_same e (number k) in
      agrees-wider (λ (q : ℕ). q ≡ t.pos + along n (wide k)) AnyNumber Same
      (runs (λ u. settled_number (fill c (turn_of k) (digit (row_of k b)) u)) n t) (times (read_scalar e (number k)) n t.pos t.left)
      (numbers-agree e c k b (λ (q : ℕ). gap q (wide k) ≡ 0)
      (λ (q : ℕ) j. subst (λ (m : ℕ). gap (q + m) m ≡ 0) (sym w)
      (still_none (width_of e (number k)) (own_of e (number k)) q (subst (λ (m : ℕ). gap q m ≡ 0) w j)))
      (λ (q : ℕ) j. ap (gap q) (aligns (number k) ∙ sym w) ∙ j) n t here o)
      (λ (q : ℕ) is. tt)

  -- a length that is not fixed
  abbrev IsFree : Count → Type 0
  IsFree b = (m : ℕ) → b ≡ Exactly m → ⊥

  free-row : (c : Callees) (k : Kind) (b : Count) (s : Place) → IsFree b → ((q : ℕ) → q % 4 ≡ 0 → gap q (wide k) ≡ 0) → AreOctets s.left
      → Agrees (IsPlace e) Settles (row_filled c k b (count_code e b) (turn_of k) s) (row_read k b (read_scalar e (number k)) s)
  free-row c k b s free small oct =
      array-reads e c (row_of k b) (count_code e b) (turn_of k) finish (read_scalar e (number k)) (λ n. read_zeros 0 BadText) AnyNumber
      (λ (q : ℕ). gap q (wide k) ≡ 0) (λ (n : ℕ). AnyNumber)
      (λ (n : ℕ) (t : Place) any h o. no_gaps c k b n t h o) (nothing-after c AnyNumber) (read_count e b) (read_count e b) s
      (count-opens e lone c (row_of k b) AnyNumber (λ (q : ℕ). gap q (wide k) ≡ 0) s (placed s.pos) oct
      (λ (q : ℕ) h. small q (after_four q h)) (λ (m : ℕ) is. absurd (free m is)) (λ (n : ℕ). tt))
      (ends-same (read_whole (read_count e b) (read_scalar e (number k)) (λ n. read_zeros 0 BadText) s.pos s.left))

  -- each number after its alignment
  gapped-row : (c : Callees) (k : Kind) (b : Count) (s : Place) → IsFree b → AreOctets s.left
      → Agrees (IsPlace e) Settles (row_filled c k b (count_code e b) (aligned (wide k) (turn_of k)) s)
      (row_read k b (read_scalar e (number k)) s)
  gapped-row c k b s free oct =
      array-reads e c (row_of k b) (count_code e b) (aligned (wide k) (turn_of k)) finish (read_scalar e (number k))
      (λ n. read_zeros 0 BadText) AnyNumber AnyNumber (λ (n : ℕ). AnyNumber)
      (λ (n : ℕ) (t : Place) any h o. agrees-runs AnyNumber
      (λ u. settled_number (fill c (aligned (wide k) (turn_of k)) (digit (row_of k b)) u)) (read_scalar e (number k)) n t
      (λ (u : Place) p v. number-agrees e c k b AnyNumber (aligned (wide k) (turn_of k)) u
      (reads-wider (λ (q : ℕ). gap q (wide k) ≡ 0) AnyNumber (fill c (aligned (wide k) (turn_of k)) (digit (row_of k b)) u)
      (read_scalar e (number k) u.pos u.left) (λ z. Some (done (num z)))
      (aligned-scalar e aligns c (number k) (get.Num 0 [] (wide k) (order_of e)) (digit (row_of k b)) (λ z. Some (done (num z))) u v
      (λ (x : Place) y. refl)) (λ (q : ℕ) g. tt))) tt o)
      (nothing-after c AnyNumber) (read_count e b) (read_count e b) s
      (count-opens e lone c (row_of k b) AnyNumber AnyNumber s (placed s.pos) oct (λ (q : ℕ) h. tt) (λ (m : ℕ) is. absurd (free m is))
      (λ (n : ℕ). tt))
      (ends-same (read_whole (read_count e b) (read_scalar e (number k)) (λ n. read_zeros 0 BadText) s.pos s.left))

  -- no numbers
  fixed-none : (c : Callees) (k : Kind) (turn : Recv) (one : Reader FaultKind ℤ) (s : Place) → AreOctets s.left
      → Agrees (IsPlace e) Settles (row_filled c k (Exactly 0) finish turn s) (row_read k (Exactly 0) one s)
  unfolding read_count
  fixed-none c k turn one s oct =
      array-reads e c (row_of k (Exactly 0)) finish turn finish one (λ n. read_zeros 0 BadText) (λ (n : ℕ). n ≡ 0) AnyNumber
      (λ (n : ℕ). AnyNumber)
      (λ (n : ℕ) (t : Place) is h o. subst (λ (m : ℕ). Agrees AnyNumber Same
      (runs (λ u. settled_number (fill c turn (digit (row_of k (Exactly 0))) u)) m t) (times one m t.pos t.left)) (sym is)
      (refl, refl, refl, tt, o))
      (nothing-after c (λ (n : ℕ). n ≡ 0)) (read_count e (Exactly 0)) (read_count e (Exactly 0)) s
      (((λ (f : Filler) (t : Place). refl), refl), refl, refl, tt, oct)
      (ends-same (read_whole (read_count e (Exactly 0)) one (λ n. read_zeros 0 BadText) s.pos s.left))

  -- so many numbers, after the gap of the first
  fixed-some : (c : Callees) (k : Kind) (m : ℕ) (s : Place) → AreOctets s.left
      → Agrees (IsPlace e) Settles (row_filled c k (Exactly (suc m)) (aligned (wide k) finish) (turn_of k) s)
      (row_read k (Exactly (suc m)) (read_scalar e (number k)) s)
  unfolding read_count
  fixed-some c k m s oct =
      array-reads e c (row_of k (Exactly (suc m))) (aligned (wide k) finish) (turn_of k) finish (read_scalar e (number k))
      (λ n. read_zeros 0 BadText) (λ (n : ℕ). n ≡ suc m) (λ (q : ℕ). gap q (wide k) ≡ 0) (λ (n : ℕ). AnyNumber)
      (λ (n : ℕ) (t : Place) any h o. no_gaps c k (Exactly (suc m)) n t h o) (nothing-after c (λ (n : ℕ). n ≡ suc m)) gap_read
      (read_count e (Exactly (suc m))) s
      (first (nat_lt (length s.left) (gap s.pos (byte_len (width_of e (number k))))) refl)
      (subst (λ (r : Reading FaultKind (ℕ × (List ℤ × Unit {0}))). SameEnds r (after (read_scalar e (number k) s.pos s.left)))
      (moved (nat_lt (length s.left) (gap s.pos (byte_len (width_of e (number k))))))
      (same (if nat_lt (length s.left) (gap s.pos (byte_len (width_of e (number k)))) then stop Short s.pos
      else read_scalar e (number k) (s.pos + gap s.pos (byte_len (width_of e (number k))))
      (drop (gap s.pos (byte_len (width_of e (number k)))) s.left))
      (read_scalar e (number k) s.pos s.left) (scalar_split e aligns (number k) s.pos s.left))) where
        gap_read : Reader FaultKind ℕ
        gap_read p o = if nat_lt (length o) (gap p (byte_len (width_of e (number k)))) then stop Short p
            else got (suc m) (p + gap p (byte_len (width_of e (number k)))) (drop (gap p (byte_len (width_of e (number k)))) o)

        skip : Skips c (byte_len (width_of e (number k))) (aligned (wide k) finish) finish (raw (array_type (row_of k (Exactly (suc m))))) s
        skip = subst (λ (w : ℕ). Skips c (byte_len (width_of e (number k))) (aligned w finish) finish
            (raw (array_type (row_of k (Exactly (suc m))))) s) (sym (width_same e (number k)))
            (aligned_run (width_of e (number k)) (own_of e (number k)) c finish (raw (array_type (row_of k (Exactly (suc m))))) s)

        none : gap skip.place.pos (wide k) ≡ 0
        none = ap (gap skip.place.pos) (width_same e (number k)) ∙ ap (λ (p : ℕ). gap p (byte_len (width_of e (number k)))) skip.at
            ∙ no_gap_after (width_of e (number k)) (own_of e (number k)) s.pos

        first : (b : Bool) → nat_lt (length s.left) (gap s.pos (byte_len (width_of e (number k)))) ≡ b
            → Agrees (λ (q : ℕ). gap q (wide k) ≡ 0) (λ (d : Draft) (n : ℕ). Opens (row_of k (Exactly (suc m))) d n × (n ≡ suc m))
            (fill c (aligned (wide k) finish) (raw (array_type (row_of k (Exactly (suc m))))) s)
            (if nat_lt (length s.left) (gap s.pos (byte_len (width_of e (number k)))) then stop Short s.pos
            else got (suc m) (s.pos + gap s.pos (byte_len (width_of e (number k))))
            (drop (gap s.pos (byte_len (width_of e (number k)))) s.left))
        first true is = rw (skip.is, is) tt
        first false is = rw (skip.is, is) (
          ((λ (f : Filler) (t : Place). refl), refl),
          skip.at,
          skip.left,
          subst (λ (p : ℕ). gap p (wide k) ≡ 0) skip.at none,
          octets_dropped (gap s.pos (byte_len (width_of e (number k)))) s.left oct,
        )

        -- the whole, of the reading of the first number
        after : Reading FaultKind ℤ → Reading FaultKind (ℕ × (List ℤ × Unit {0}))
        after r = map_got (λ y. (suc m, y))
            (then_on (then_on r (λ x q rest. map_got (λ xs. x ∷ xs) (times (read_scalar e (number k)) m q rest)))
            (λ ns q rest. map_got (λ z. (ns, z)) (read_zeros 0 BadText q rest)))

        same : (r t : Reading FaultKind ℤ) → SameEnds r t → SameEnds (after r) (after t)
        same r t h =
            ends-map (λ y. (suc m, y)) _ _
            (ends-then (then_on r (λ x q rest. map_got (λ xs. x ∷ xs) (times (read_scalar e (number k)) m q rest)))
            (then_on t (λ x q rest. map_got (λ xs. x ∷ xs) (times (read_scalar e (number k)) m q rest)))
            (λ ns q rest. map_got (λ z. (ns, z)) (read_zeros 0 BadText q rest))
            (λ ns q rest. map_got (λ z. (ns, z)) (read_zeros 0 BadText q rest))
            (ends-then r t (λ x q rest. map_got (λ xs. x ∷ xs) (times (read_scalar e (number k)) m q rest))
            (λ x q rest. map_got (λ xs. x ∷ xs) (times (read_scalar e (number k)) m q rest)) h
            (λ (x : ℤ) (q : ℕ) (l : List ℕ). ends-same (map_got (λ xs. x ∷ xs) (times (read_scalar e (number k)) m q l))))
            (λ (ns : List ℤ) (q : ℕ) (l : List ℕ). ends-same (map_got (λ z. (ns, z)) (read_zeros 0 BadText q l))))

        moved : (b : Bool)
            → after (if b then stop Short s.pos
            else read_scalar e (number k) (s.pos + gap s.pos (byte_len (width_of e (number k))))
            (drop (gap s.pos (byte_len (width_of e (number k)))) s.left))
            ≡ then_on (if b then stop Short s.pos
            else got (suc m) (s.pos + gap s.pos (byte_len (width_of e (number k))))
            (drop (gap s.pos (byte_len (width_of e (number k)))) s.left))
            (λ n q rest. map_got (λ y. (n, y)) (read_body (read_scalar e (number k)) (λ n. read_zeros 0 BadText) n q rest))
        moved true = refl
        moved false = refl

  -- a row of numbers of at most 32 bits
  row-reads : (c : Callees) (k : Kind) (b : Count) (s : Place) → ((q : ℕ) → q % 4 ≡ 0 → gap q (wide k) ≡ 0) → AreOctets s.left
      → Agrees (IsPlace e) Settles (row_filled c k b (row_code e (wide k) b) (turn_of k) s) (row_read k b (read_scalar e (number k)) s)
  row-reads c k (Exactly zero) s small oct = fixed-none c k (turn_of k) (read_scalar e (number k)) s oct
  row-reads c k (Exactly (suc m)) s small oct = fixed-some c k m s oct
  row-reads c k (AtMost m) s small oct = free-row c k (AtMost m) s (λ (n : ℕ) is. cc) small oct
  row-reads c k Any s small oct = free-row c k Any s (λ (n : ℕ) is. cc) small oct

  -- one of numbers of 64 bits
  wide-reads : (c : Callees) (k : Kind) (b : Count) (s : Place) → wide k ≡ 8 → AreOctets s.left
      → Agrees (IsPlace e) Settles (row_filled c k b (row_code e (wide k) b) (gapped_turn e (wide k) (is_free b)) s)
      (row_read k b (read_scalar e (number k)) s)
  wide-reads c k (Exactly zero) s eight oct = fixed-none c k (turn_of k) (read_scalar e (number k)) s oct
  wide-reads c k (Exactly (suc m)) s eight oct = fixed-some c k m s oct
  wide-reads c k (AtMost m) s eight oct =
      subst (λ (b : Recv). Agrees (IsPlace e) Settles (row_filled c k (AtMost m) (count_code e (AtMost m)) b s)
      (row_read k (AtMost m) (read_scalar e (number k)) s)) (by_eight (wide k) (turn_of k) eight)
      (gapped-row c k (AtMost m) s (λ (n : ℕ) is. cc) oct)
  wide-reads c k Any s eight oct =
      subst
      (λ (b : Recv). Agrees (IsPlace e) Settles (row_filled c k Any (count_code e Any) b s) (row_read k Any (read_scalar e (number k)) s))
      (by_eight (wide k) (turn_of k) eight) (gapped-row c k Any s (λ (n : ℕ) is. cc) oct)

  -- a row of octets
  octets-read : (c : Callees) (b : Count) (s : Place) → AreOctets s.left
      → Agrees (IsPlace e) Settles (row_filled c kind.Octet b (row_code e 1 b) (number_take e 1) s)
      (row_read kind.Octet b (read_octet (λ x. true) BadText) s)
  unfolding read_count
  octets-read c b s oct = cases b where
    one : (b : Count) (N : ℕ → Type 0) (n : ℕ) (t : Place) → N n → Unit {0} → AreOctets t.left
        → Agrees AnyNumber Same (runs (λ u. settled_number (fill c (number_take e 1) (digit (row_of kind.Octet b)) u)) n t)
        (times (read_octet (λ x. true) BadText) n t.pos t.left)
    one b N n t any h o =
        agrees-wider (λ (q : ℕ). q ≡ t.pos + along n 1) AnyNumber Same
        (runs (λ u. settled_number (fill c (number_take e 1) (digit (row_of kind.Octet b)) u)) n t)
        (times (read_octet (λ x. true) BadText) n t.pos t.left)
        (octets-agree e c (row_of kind.Octet b) (λ x. true) BadText (octet_passes b) n t o) (λ (q : ℕ) is. tt)

    free : (b : Count) → IsFree b
        → Agrees (IsPlace e) Settles (row_filled c kind.Octet b (count_code e b) (number_take e 1) s)
        (row_read kind.Octet b (read_octet (λ x. true) BadText) s)
    free b is =
        array-reads e c (row_of kind.Octet b) (count_code e b) (number_take e 1) finish (read_octet (λ x. true) BadText)
        (λ n. read_zeros 0 BadText) AnyNumber AnyNumber (λ (n : ℕ). AnyNumber)
        (one b AnyNumber) (nothing-after c AnyNumber) (read_count e b) (read_count e b) s
        (count-opens e lone c (row_of kind.Octet b) AnyNumber AnyNumber s (placed s.pos) oct (λ (q : ℕ) h. tt)
        (λ (m : ℕ) same. absurd (is m same)) (λ (n : ℕ). tt))
        (ends-same (read_whole (read_count e b) (read_octet (λ x. true) BadText) (λ n. read_zeros 0 BadText) s.pos s.left))

    fixed : (m : ℕ)
        → Agrees (IsPlace e) Settles (row_filled c kind.Octet (Exactly m) finish (number_take e 1) s)
        (row_read kind.Octet (Exactly m) (read_octet (λ x. true) BadText) s)
    fixed m =
        array-reads e c (row_of kind.Octet (Exactly m)) finish (number_take e 1) finish (read_octet (λ x. true) BadText)
        (λ n. read_zeros 0 BadText) (λ (n : ℕ). n ≡ m) AnyNumber (λ (n : ℕ). AnyNumber)
        (one (Exactly m) (λ (n : ℕ). n ≡ m)) (nothing-after c (λ (n : ℕ). n ≡ m)) (read_count e (Exactly m)) (read_count e (Exactly m)) s
        (((λ (f : Filler) (t : Place). refl), refl), refl, refl, tt, oct)
        (ends-same (read_whole (read_count e (Exactly m)) (read_octet (λ x. true) BadText) (λ n. read_zeros 0 BadText) s.pos s.left))

    cases : (b : Count)
        → Agrees (IsPlace e) Settles (row_filled c kind.Octet b (row_code e 1 b) (number_take e 1) s)
        (row_read kind.Octet b (read_octet (λ x. true) BadText) s)
    cases (Exactly zero) = fixed 0
    cases (Exactly (suc m)) = fixed (suc m)
    cases (AtMost m) = free (AtMost m) (λ (n : ℕ) is. cc)
    cases Any = free Any (λ (n : ℕ) is. cc)

  module _ (own : (k : Kind) → width_of e (number k) ≡ own_width (number k)) where
    -- a row of numbers of at most 32 bits
    small-reads : (k : Kind) → ((q : ℕ) → q % 4 ≡ 0 → gap q (byte_len (own_width (number k))) ≡ 0) → (c : Callees) (b : Count) (s : Place)
        → AreOctets s.left
        → Agrees (IsPlace e) Settles (row_filled c k b (row_code e (wide k) b) (turn_of k) s) (row_read k b (read_scalar e (number k)) s)
    small-reads k small c b s oct =
        row-reads c k b s (subst (λ (w : Width). (q : ℕ) → q % 4 ≡ 0 → gap q (byte_len w) ≡ 0) (sym (own k)) small) oct

    pub cdr-reads : (k : Kind) (c : Callees) (b : Count) (s : Place) → AreOctets s.left
        → Agrees (IsPlace e) Settles (row_filled c k b (row_code e (element_width e (row_of k b)) b)
        (gapped_turn e (element_width e (row_of k b)) (is_gapped (row_of k b))) s) (row_read k b (read_element e (row_of k b)) s)
    unfolding read_element
    cdr-reads kind.Octet = octets-read
    cdr-reads kind.I8 = small-reads kind.I8 one_fits
    cdr-reads kind.U8 = small-reads kind.U8 one_fits
    cdr-reads kind.Char = small-reads kind.Char one_fits
    cdr-reads kind.Bool = small-reads kind.Bool one_fits
    cdr-reads kind.I16 = small-reads kind.I16 two_fit
    cdr-reads kind.U16 = small-reads kind.U16 two_fit
    cdr-reads kind.I32 = small-reads kind.I32 four_fit
    cdr-reads kind.U32 = small-reads kind.U32 four_fit
    cdr-reads kind.I64 = λ c b s. wide-reads c kind.I64 b s (ap byte_len (own kind.I64))
    cdr-reads kind.U64 = λ c b s. wide-reads c kind.U64 b s (ap byte_len (own kind.U64))

whole_words : (q : ℕ) → gap q 4 ≡ 0 → q % 4 ≡ 0
whole_words q h = omega (arith, h)

pub big_array : ArraysRead CdrBig
unfolding read_array read_head read_element read_tail
big_array c (text b) s here oct = text-reads CdrBig (λ (x : Scalar). refl) refl (λ (q : ℕ). tt) big_scalar whole_words c b s oct
big_array c (row_of k b) s here oct =
    cdr-reads CdrBig (λ (x : Scalar). refl) refl (λ (q : ℕ). tt) big_scalar whole_words (λ (k : Kind). refl) k c b s oct

pub little_array : ArraysRead CdrLittle
unfolding read_array read_head read_element read_tail
little_array c (text b) s here oct = text-reads CdrLittle (λ (x : Scalar). refl) refl (λ (q : ℕ). tt) little_scalar whole_words c b s oct
little_array c (row_of k b) s here oct =
    cdr-reads CdrLittle (λ (x : Scalar). refl) refl (λ (q : ℕ). tt) little_scalar whole_words (λ (k : Kind). refl) k c b s oct
