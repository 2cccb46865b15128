-- What the code of a row or text reads, and that of XDR.
use Rattle.std.proofs.Common.{◌≡◌, ℕ, zero, suc, ◌+◌, ◌<◌, ℤ, pos, List, [], ◌∷◌, length, take, drop, Some, refl, sym, ap, subst, ◌∙◌, arith, Bool, true, false, if◌then◌else◌, not}
use Rattle.std.specs.Prelude.{nat_lt}
use Rattle.std.specs.Int.{w8}
use Rattle.std.specs.Ordering.{int_eq}
use Rattle.std.proofs.lemmas.Bool.{ltb-true, ltb-false, lt-ltb, le-ltb, and_from}
use Rattle.std.proofs.lemmas.Bool.Decides.{Decides-int_eq, Decides-not}
use Rattle.mint.specs.declared.kind.Kind.{Kind}
use Rattle.mint.specs.declared.kind.Kind.TheVariants as kind
use Rattle.mint.specs.declared.kind.Count.{Count}
use Rattle.mint.specs.declared.kind.Count.TheVariants.{Exactly}
use Rattle.mint.specs.Blank.{least}
use Rattle.mint.specs.Kinds.{in_range, is_letter}
use Rattle.mint.specs.Values.{num, row}
use Rattle.mint.specs.Types.{number, Array, text, row_of, array_type}
use Rattle.wire_def.specs.declared.encoding.Encoding.{Encoding}
use Rattle.wire_def.specs.declared.encoding.Encoding.TheVariants.{Xdr}
use Rattle.wire_def.specs.declared.fault.FaultKind.{FaultKind}
use Rattle.wire_def.specs.declared.fault.FaultKind.TheVariants.{Short, BadPad, BadText}
use Rattle.wire_def.specs.declared.head.Order.{Order}
use Rattle.wire_def.specs.declared.head.Order.TheVariants.{Big, Little}
use Rattle.wire_def.specs.Grammar.{Reading, got, stop, Reader, AreOctets, map_got, both, times}
use Rattle.wire_def.specs.Places.{IsPlace}
use Rattle.wire_def.specs.Scalars.{gap, alignment_of, read_scalar}
use Rattle.wire_def.specs.Arrays.{counted, count_of, kind_of, may_stand, read_count, read_head, read_octet, read_zeros, read_element, read_tail, read_array}
use Rattle.wire_def.specs.Orders.{loaded}
use Rattle.cast_stub.specs.declared.recv.Get.TheVariants as get
use Rattle.cast_stub.specs.RecvBlock.{Recv, finish, skip_zero, each}
use Rattle.cast_stub.specs.Draft.{Draft, raw, digit, lined, done, settle}
use Rattle.cast_stub.specs.Fill.{settled_number, runs, fill_each, fill_row, Callees, fill}
use Rattle.cast_stub.specs.Into.{passed, all_zero, num_into}
use Rattle.cast_stub.specs.Runs.{Place, Run, gives, refuses, Filler, Going, then_run, map_run}
use Rattle.cast_stub.specs.Layouts.{order_of, scalar_width}
use Rattle.cast_stub.proofs.RecvAppending.{fill-append}
use Rattle.cast_stub.specs.RecvAppend.{append}
use Rattle.stub_lower.specs.RecvCodes.{number_take, count_code, array_code}
use Rattle.stub_lower.proofs.Agreeing.{Agrees, Same, Settles, Counts, agrees-then, agrees-map, agrees-read, agrees-given, agrees-number, agrees-wider, SameEnds, ends-same, agrees-ends}
use Rattle.stub_lower.proofs.UnitLaws.{along, along_one, along_words}
use Rattle.stub_lower.proofs.RecvEncoded.{tested_place, pass_tested, word_run, Reads, bare-scalar, After, LonesRead, xdr_wide, xdr_scalar, count-reads, octets_dropped, then_gives}

-- what has to be known of an encoding: that an array is read
abbrev pub ArraysRead : Encoding → Type 0
ArraysRead e = (c : Callees) (a : Array) (s : Place) → IsPlace e s.pos → AreOctets s.left
    → Agrees (IsPlace e) Settles (fill c (array_code e a) (raw (array_type a)) s) (map_got (row (kind_of a)) (read_array e a s.pos s.left))

-- a draft of a row or text of so many numbers
abbrev pub Opens : Array → Draft → ℕ → Type 0
Opens a d n = (f : Filler) (t : Place) → fill_each f d t ≡ fill_row f a n t

-- ---- an array: what comes before its elements, they, and what comes after them

-- what is read after the head, of readers of an element and of what comes after so many
abbrev pub read_body : Reader FaultKind ℤ → (ℕ → Reader FaultKind (Unit {0})) → ℕ → Reader FaultKind (List ℤ × Unit {0})
read_body one end n = both (times one n) (λ _. end n)

-- the whole, with a reader of the head
abbrev pub read_whole : Reader FaultKind ℕ → Reader FaultKind ℤ → (ℕ → Reader FaultKind (Unit {0}))
    → Reader FaultKind (ℕ × (List ℤ × Unit {0}))
read_whole head one end = both head (read_body one end)

-- the elements are read, from these positions up to those
abbrev pub ElementsRead : Array → Callees → Recv → Reader FaultKind ℤ → (ℕ → Type 0) → (ℕ → Type 0) → (ℕ → ℕ → Type 0) → Type 0
ElementsRead a c turn one N K L = (n : ℕ) (s : Place) → N n → K s.pos → AreOctets s.left
    → Agrees (L n) Same (runs (λ u. settled_number (fill c turn (digit a) u)) n s) (times one n s.pos s.left)

-- and from there what comes after them
abbrev pub EndRead : Encoding → Callees → Recv → (ℕ → Reader FaultKind (Unit {0})) → (ℕ → Type 0) → (ℕ → ℕ → Type 0) → Type 0
EndRead e c after end N L = (n : ℕ) (d : Draft) (s : Place) → N n → L n s.pos → AreOctets s.left
    → Agrees (IsPlace e) (λ (y : Draft) (z : Unit {0}). y ≡ d) (fill c after d s) (end n s.pos s.left)

module _ (e : Encoding) (c : Callees) (a : Array) (head turn after : Recv) (one : Reader FaultKind ℤ)
    (end : ℕ → Reader FaultKind (Unit {0})) (N K : ℕ → Type 0) (L : ℕ → ℕ → Type 0) (elements : ElementsRead a c turn one N K L)
    (ended : EndRead e c after end N L) where
  -- a draft of so many numbers, which may be so many
  abbrev Counted : Draft → ℕ → Type 0
  Counted d n = Opens a d n × N n

  Pairs : Draft → List ℤ × Unit {0} → Type 0
  Pairs d x = settle d ≡ Some (row (kind_of a) x.0)

  Whole : Draft → ℕ × (List ℤ × Unit {0}) → Type 0
  Whole d x = settle d ≡ Some (row (kind_of a) x.1.0)

  Numbers : Draft → List ℤ → Type 0
  Numbers d ns = settle d ≡ Some (row (kind_of a) ns)

  body-reads : (d : Draft) (n : ℕ) (t : Place) → Counted d n → K t.pos → AreOctets t.left
      → Agrees (IsPlace e) Pairs (fill c (each [] turn after) d t) (read_body one end n t.pos t.left)
  unfolding Pairs
  body-reads d n t opens k o =
      subst (λ (x : Run Draft). Agrees (IsPlace e) Pairs (then_run x (fill c after)) (read_body one end n t.pos t.left))
      (sym (opens.0 (fill c turn) t))
      (agrees-then (L n) (IsPlace e) (λ (y : Draft) (ns : List ℤ). y ≡ done (row (kind_of a) ns)) Pairs (fill_row (fill c turn) a n t)
      (times one n t.pos t.left)
      (fill c after) (λ ns q rest. map_got (λ z. (ns, z)) (end n q rest))
      (agrees-given (L n) Same (λ (y : Draft) (ns : List ℤ). y ≡ done (row (kind_of a) ns))
      (runs (λ u. settled_number (fill c turn (digit a) u)) n t) (times one n t.pos t.left)
      (λ ns. done (row (kind_of a) ns))
      (elements n t opens.1 k o) (λ (x : List ℤ) (y : List ℤ) same. ap (λ (ns : List ℤ). done (row (kind_of a) ns)) same))
      (λ (y : Draft) (ns : List ℤ) (u : Place) is k2 o2.
      agrees-read (IsPlace e) (λ (x : Draft) (z : Unit {0}). x ≡ y) Pairs (fill c after y u) (end n u.pos u.left) (λ z. (ns, z))
      (ended n y u opens.1 k2 o2) (λ (x : Draft) (z : Unit {0}) same. ap settle (same ∙ is))))

  -- the head may be read with more than its octets, where the reader of the whole ends alike
  pub array-reads : (h whole : Reader FaultKind ℕ) (s : Place) → Agrees K Counted (fill c head (raw (array_type a)) s) (h s.pos s.left)
      → SameEnds (read_whole h one end s.pos s.left) (read_whole whole one end s.pos s.left)
      → Agrees (IsPlace e) Settles (fill c (append head (each [] turn after)) (raw (array_type a)) s)
      (map_got (row (kind_of a)) (map_got (λ (x : ℕ × (List ℤ × Unit {0})). x.1.0) (read_whole whole one end s.pos s.left)))
  unfolding Numbers Whole Pairs
  array-reads h whole s first ends =
      subst (λ (x : Run Draft). Agrees (IsPlace e) Settles x
      (map_got (row (kind_of a)) (map_got (λ (x : ℕ × (List ℤ × Unit {0})). x.1.0) (read_whole whole one end s.pos s.left))))
      (sym (fill-append c head (each [] turn after) (raw (array_type a)) s))
      (agrees-read (IsPlace e) Numbers Settles (then_run (fill c head (raw (array_type a)) s) (fill c (each [] turn after)))
      (map_got (λ (x : ℕ × (List ℤ × Unit {0})). x.1.0) (read_whole whole one end s.pos s.left)) (row (kind_of a))
      (agrees-read (IsPlace e) Whole Numbers (then_run (fill c head (raw (array_type a)) s) (fill c (each [] turn after)))
      (read_whole whole one end s.pos s.left) (λ x. x.1.0)
      (agrees-ends (IsPlace e) Whole (then_run (fill c head (raw (array_type a)) s) (fill c (each [] turn after)))
      (read_whole h one end s.pos s.left) (read_whole whole one end s.pos s.left) ends
      (agrees-then K (IsPlace e) Counted Whole (fill c head (raw (array_type a)) s) (h s.pos s.left)
      (fill c (each [] turn after)) (λ n q rest. map_got (λ y. (n, y)) (read_body one end n q rest)) first
      (λ (d : Draft) (n : ℕ) (t : Place) opens k o.
      agrees-read (IsPlace e) Pairs Whole (fill c (each [] turn after) d t) (read_body one end n t.pos t.left) (λ y. (n, y))
      (body-reads d n t opens k o) (λ (y : Draft) (z : List ℤ × Unit {0}) same. same))))
      (λ (y : Draft) (z : ℕ × (List ℤ × Unit {0})) same. same))
      (λ (y : Draft) (z : List ℤ) same. same))

-- a count before the elements
pub count-opens : (e : Encoding) → LonesRead e → (c : Callees) (a : Array) (N K : ℕ → Type 0) (s : Place) → IsPlace e s.pos
    → AreOctets s.left → ((q : ℕ) → After e counted q → K q) → ((m : ℕ) → count_of a ≡ Exactly m → K s.pos) → ((n : ℕ) → N n)
    → Agrees K (λ (d : Draft) (n : ℕ). Opens a d n × N n) (fill c (count_code e (count_of a)) (raw (array_type a)) s)
    (read_count e (count_of a) s.pos s.left)
count-opens e lone c a N K s here oct after fixed_place any =
    count-reads e lone c (lined a) (raw (array_type a)) s here oct (count_of a) K (λ (d : Draft) (n : ℕ). Opens a d n × N n) after
    fixed_place
    (λ (m : ℕ) (u : Place). refl) (λ (n : ℕ). ((λ (f : Filler) (t : Place). refl), any n)) (λ (m : ℕ) same. (fixed m same, any m)) where
      fixed : (m : ℕ) → count_of a ≡ Exactly m → Opens a (raw (array_type a)) m
      fixed m same f t = ap (λ (b : Count). fill_row f a (least b) t) same

-- ---- elements that take so many octets each

pub steps-agree : {A : Type 0} (J : ℕ → Type 0) (w : ℕ) (f : Going A) (r : Reader FaultKind A) → ((q : ℕ) → J q → J (q + w))
    → ((t : Place) → J t.pos → AreOctets t.left → Agrees (λ (q : ℕ). q ≡ t.pos + w) Same (f t) (r t.pos t.left)) → (n : ℕ) (s : Place)
    → J s.pos → AreOctets s.left
    → Agrees (λ (q : ℕ). q ≡ s.pos + along n w) Same (runs f n s) (times r n s.pos s.left)
steps-agree J w f r more one zero s here oct = (refl, refl, refl, omega arith, oct)
steps-agree {A} J w f r more one (suc n) s here oct =
    agrees-then (λ (q : ℕ). q ≡ s.pos + w) (λ (q : ℕ). q ≡ s.pos + along (suc n) w) Same Same (f s) (r s.pos s.left)
    (λ x t. map_run (λ xs. x ∷ xs) (runs f n t)) (λ x q rest. map_got (λ xs. x ∷ xs) (times r n q rest)) (one s here oct)
    (λ (a : A) (b : A) (t : Place) same k o.
    let past : t.pos + along n w ≡ s.pos + (w + along n w) = omega (arith, k) in
    subst
    (λ (m : ℕ). Agrees (λ (q : ℕ). q ≡ m) Same (map_run (λ xs. a ∷ xs) (runs f n t)) (map_got (λ xs. b ∷ xs) (times r n t.pos t.left))) past
    (agrees-map (λ (q : ℕ). q ≡ t.pos + along n w) Same Same (runs f n t) (times r n t.pos t.left) (λ xs. a ∷ xs) (λ xs. b ∷ xs)
    (steps-agree J w f r more one n t (subst J (sym k) (more s.pos here)) o)
    (λ (x : List A) (y : List A) e. ap (λ (z : A). z ∷ x) same ∙ ap (λ (l : List A). b ∷ l) e)))

-- a number of a row, where its scalar is read
pub number-agrees : (e : Encoding) (c : Callees) (k : Kind) (b : Count) (K : ℕ → Type 0) (turn : Recv) (t : Place)
    → Reads K (fill c turn (digit (row_of k b)) t) (read_scalar e (number k) t.pos t.left) (λ z. Some (done (num z)))
    → Agrees K Same (settled_number (fill c turn (digit (row_of k b)) t)) (read_scalar e (number k) t.pos t.left)
number-agrees e c k b K turn t r =
    agrees-number K (fill c turn (digit (row_of k b)) t) (read_scalar e (number k) t.pos t.left)
    (subst (λ (x : Run Draft). Agrees K Counts x (read_scalar e (number k) t.pos t.left))
    (sym (r.is ∙ then_gives r.number (λ z. done (num z))))
    (agrees-given K Same Counts r.number (read_scalar e (number k) t.pos t.left) (λ z. done (num z)) r.agrees
    (λ (x : ℤ) (y : ℤ) same. ap (λ (z : ℤ). Some (num z)) same)))

-- numbers, each where it has no gap
pub numbers-agree : (e : Encoding) (c : Callees) (k : Kind) (b : Count) (J : ℕ → Type 0)
    → ((q : ℕ) → J q → J (q + scalar_width e (number k))) → ((q : ℕ) → J q → gap q (alignment_of e (number k)) ≡ 0) → (n : ℕ) (s : Place)
    → J s.pos → AreOctets s.left
    → Agrees (λ (q : ℕ). q ≡ s.pos + along n (scalar_width e (number k))) Same
    (runs (λ u. settled_number (fill c (number_take e (scalar_width e (number k))) (digit (row_of k b)) u)) n s)
    (times (read_scalar e (number k)) n s.pos s.left)
numbers-agree e c k b J more none n s here oct =
    steps-agree J (scalar_width e (number k))
    (λ u. settled_number (fill c (number_take e (scalar_width e (number k))) (digit (row_of k b)) u)) (read_scalar e (number k)) more
    (λ (t : Place) j o. number-agrees e c k b (λ (q : ℕ). q ≡ t.pos + scalar_width e (number k)) (number_take e (scalar_width e (number k)))
    t
    (bare-scalar e (number k) c (get.Num 0 [] (scalar_width e (number k)) (order_of e)) (digit (row_of k b)) (λ z. Some (done (num z))) t
    (none t.pos j) o (λ (u : Place) v. refl))) n s here oct

-- ---- elements of one octet

pub octet_of : (o : Order) (b : ℕ) → loaded o w8 (b ∷ []) ≡ b
octet_of Big b = refl
octet_of Little b = refl

-- an element that is one octet
abbrev pub IsOctetArray : Array → (ℕ → Bool) → Type 0
IsOctetArray a test = (b : ℕ) (t : Place) → b < 256 → num_into w8 b (digit a) t ≡ (if test b then gives (done (num (pos b))) t else refuses)

module _ (e : Encoding) (c : Callees) (a : Array) (test : ℕ → Bool) (fault : FaultKind) (passes : IsOctetArray a test) where
  octet-read : (s : Place) → AreOctets s.left
      → Agrees (λ (q : ℕ). q ≡ s.pos + 1) Counts (fill c (number_take e 1) (digit a) s) (read_octet test fault s.pos s.left)
  unfolding read_octet
  octet-read s oct =
      subst (λ (x : Run Draft). Agrees (λ (q : ℕ). q ≡ s.pos + 1) Counts x (read_octet test fault s.pos s.left))
      (sym (word_run c 1 (order_of e) w8 (get.Num 0 [] 1 (order_of e)) (digit a) s (λ x m u. num_into x m (digit a) u) refl oct
      (λ (t : Place) o. refl)))
      (cases s.left refl) where
        good : (b : ℕ) (o : List ℕ) → s.left ≡ b ∷ o → AreOctets o → (g : Bool)
            → Agrees (λ (q : ℕ). q ≡ s.pos + 1) Counts (then_run (if g then gives (done (num (pos b))) (tested_place 1 s) else refuses)
            (λ y u. then_run (passed 1 y u) (fill c finish))) (if g then got (pos b) (s.pos + 1) o else stop fault s.pos)
        good b o is more true =
            subst (λ (x : Run Draft). Agrees (λ (q : ℕ). q ≡ s.pos + 1) Counts (then_run x (fill c finish)) (got (pos b) (s.pos + 1) o))
            (sym (pass_tested 1 (done (num (pos b))) s))
            (refl, refl, ap (drop 1) is, refl, more)
        good b o is more false = tt

        cases : (l : List ℕ) → s.left ≡ l
            → Agrees (λ (q : ℕ). q ≡ s.pos + 1) Counts
            (if nat_lt (length s.left) 1 then refuses
            else then_run (num_into w8 (loaded (order_of e) w8 (take 1 s.left)) (digit a) (tested_place 1 s))
            (λ y u. then_run (passed 1 y u) (fill c finish)))
            (read_octet test fault s.pos s.left)
        cases [] is = subst (λ (l : List ℕ). Agrees (λ (q : ℕ). q ≡ s.pos + 1) Counts
            (if nat_lt (length l) 1 then refuses
            else then_run (num_into w8 (loaded (order_of e) w8 (take 1 l)) (digit a) (tested_place 1 s))
            (λ y u. then_run (passed 1 y u) (fill c finish)))
            (read_octet test fault s.pos l)) (sym is) tt
        cases (b ∷ o) is =
            let all : AreOctets (b ∷ o) = subst AreOctets is oct in
            let enough : nat_lt (length (b ∷ o)) 1 ≡ false = le-ltb (length (b ∷ o)) 1 (omega arith) in
            subst (λ (l : List ℕ). Agrees (λ (q : ℕ). q ≡ s.pos + 1) Counts
            (if nat_lt (length l) 1 then refuses
            else then_run (num_into w8 (loaded (order_of e) w8 (take 1 l)) (digit a) (tested_place 1 s))
            (λ y u. then_run (passed 1 y u) (fill c finish)))
            (read_octet test fault s.pos l)) (sym is)
            (subst (λ (g : Bool). Agrees (λ (q : ℕ). q ≡ s.pos + 1) Counts
            (if g then refuses
            else then_run (num_into w8 (loaded (order_of e) w8 (b ∷ [])) (digit a) (tested_place 1 s))
            (λ y u. then_run (passed 1 y u) (fill c finish)))
            (if test b then got (pos b) (s.pos + 1) o else stop fault s.pos)) (sym enough)
            (subst (λ (m : ℕ). Agrees (λ (q : ℕ). q ≡ s.pos + 1) Counts
            (then_run (num_into w8 m (digit a) (tested_place 1 s)) (λ y u. then_run (passed 1 y u) (fill c finish)))
            (if test b then got (pos b) (s.pos + 1) o else stop fault s.pos))
            (sym (octet_of (order_of e) b))
            (subst (λ (x : Run Draft). Agrees (λ (q : ℕ). q ≡ s.pos + 1) Counts
            (then_run x (λ y u. then_run (passed 1 y u) (fill c finish))) (if test b then got (pos b) (s.pos + 1) o else stop fault s.pos))
            (sym (passes b (tested_place 1 s) all.0)) (good b o is all.1 (test b)))))

  pub octets-agree : (n : ℕ) (s : Place) → AreOctets s.left
      → Agrees (λ (q : ℕ). q ≡ s.pos + along n 1) Same (runs (λ u. settled_number (fill c (number_take e 1) (digit a) u)) n s)
      (times (read_octet test fault) n s.pos s.left)
  octets-agree n s oct =
      steps-agree (λ (q : ℕ). Unit {0}) 1 (λ u. settled_number (fill c (number_take e 1) (digit a) u)) (read_octet test fault)
      (λ (q : ℕ) j. tt)
      (λ (t : Place) j o. agrees-number (λ (q : ℕ). q ≡ t.pos + 1) (fill c (number_take e 1) (digit a) t)
      (read_octet test fault t.pos t.left) (octet-read t o)) n s tt oct

pub letter_passes : (b : Count) → IsOctetArray (text b) (may_stand (text b))
letter_passes b zero t lt = refl
letter_passes b (suc n) t lt =
    let some : nat_lt 0 (suc n) ≡ true = lt-ltb 0 (suc n) (omega arith) in
    let z : ℤ = pos (suc n) in
    let letter : is_letter z ≡ true = and_from (in_range kind.Char z) (not (int_eq z (pos 0))) (lt-ltb (suc n) 256 lt)
    ((Decides-not (int_eq z (pos 0)) (Decides-int_eq z (pos 0))).1 (λ e. differs n e)) in
    ap (λ (g : Bool). if g then gives (done (num z)) t else refuses) letter
    ∙ sym (ap (λ (g : Bool). if g then gives (done (num (pos (suc n)))) t else refuses) some) where
      differs : (m : ℕ) → pos (suc m) ≡ pos 0 → ⊥
      differs m e = cc

pub octet_passes : (b : Count) → IsOctetArray (row_of kind.Octet b) (λ x. true)
octet_passes b n t lt = ap (λ (g : Bool). if g then gives (done (num (pos n))) t else refuses) (lt-ltb n 256 lt)

-- ---- zeros

-- reading zeros: cut off, or all there and zeros, or one of them is not
abbrev Zeros : Bool → Bool → ℕ → ℕ → List ℕ → Reading FaultKind (Unit {0}) → Type 0
Zeros true good k p o (stop x at) = Unit {0}
Zeros true good k p o (got z q rest) = ⊥
Zeros false true k p o r = r ≡ got tt (p + k) (drop k o)
Zeros false false k p o (stop x at) = Unit {0}
Zeros false false k p o (got z q rest) = ⊥

zeros_later : (short good : Bool) (k p : ℕ) (o : List ℕ) (b : ℕ) (r : Reading FaultKind (Unit {0})) → Zeros short good k (p + 1) o r
    → Zeros short good (suc k) p (b ∷ o) r
zeros_later true good k p o b (stop x at) h = tt
zeros_later true good k p o b (got z q rest) h = h
zeros_later false true k p o b r h = let past : p + 1 + k ≡ p + suc k = omega arith in h ∙ ap (λ (m : ℕ). got tt m (drop k o)) past
zeros_later false false k p o b (stop x at) h = tt
zeros_later false false k p o b (got z q rest) h = h

lt_suc : (n k : ℕ) → nat_lt (suc n) (suc k) ≡ nat_lt n k
lt_suc n k = decided (nat_lt n k) refl where
  decided : (b : Bool) → nat_lt n k ≡ b → nat_lt (suc n) (suc k) ≡ b
  decided true e = lt-ltb (suc n) (suc k) (omega (arith, ltb-true n k e))
  decided false e = le-ltb (suc n) (suc k) (omega (arith, ltb-false n k e))

zeros : (k : ℕ) (fault : FaultKind) (p : ℕ) (o : List ℕ) → Zeros (nat_lt (length o) k) (all_zero (take k o)) k p o (read_zeros k fault p o)
unfolding read_zeros
zeros zero fault p o =
    let none : nat_lt (length o) 0 ≡ false = le-ltb (length o) 0 (omega arith) in
    let same : p ≡ p + 0 = omega arith in
    subst (λ (b : Bool). Zeros b true 0 p o (got tt p o)) (sym none) (ap (λ (m : ℕ). got tt m o) same)
zeros (suc k) fault p [] =
    let cut : nat_lt 0 (suc k) ≡ true = lt-ltb 0 (suc k) (omega arith) in
    subst (λ (b : Bool). Zeros b (all_zero []) (suc k) p [] (stop Short p)) (sym cut) tt
zeros (suc k) fault p (zero ∷ o) =
    subst (λ (b : Bool). Zeros b (all_zero (take k o)) (suc k) p (0 ∷ o) (read_zeros k fault (p + 1) o)) (sym (lt_suc (length o) k))
    (zeros_later (nat_lt (length o) k) (all_zero (take k o)) k p o 0 (read_zeros k fault (p + 1) o) (zeros k fault (p + 1) o))
zeros (suc k) fault p (suc b ∷ o) = either (nat_lt (length (suc b ∷ o)) (suc k)) where
  either : (short : Bool) → Zeros short (all_zero (take (suc k) (suc b ∷ o))) (suc k) p (suc b ∷ o) (stop fault p)
  either true = tt
  either false = tt

-- zeros up to a multiple of 4
pub zeros-read : (c : Callees) (k : ℕ) (d : Draft) (s : Place) → gap s.pos 4 ≡ k → AreOctets s.left
    → Agrees (IsPlace Xdr) (λ (y : Draft) (z : Unit {0}). y ≡ d) (fill c (skip_zero 4 finish) d s) (read_zeros k BadPad s.pos s.left)
zeros-read c k d s same oct =
    subst (λ (m : ℕ). Agrees (IsPlace Xdr) (λ (y : Draft) (z : Unit {0}). y ≡ d) (fill c (skip_zero 4 finish) d s)
    (read_zeros m BadPad s.pos s.left)) same
    (subst (λ (x : Run Draft). Agrees (IsPlace Xdr) (λ (y : Draft) (z : Unit {0}). y ≡ d) (then_run x (fill c finish))
    (read_zeros (gap s.pos 4) BadPad s.pos s.left)) (sym (skips (nat_lt (length s.left) (gap s.pos 4))))
    (decided (nat_lt (length s.left) (gap s.pos 4)) (all_zero (take (gap s.pos 4) s.left)) (read_zeros (gap s.pos 4) BadPad s.pos s.left)
    (zeros (gap s.pos 4) BadPad s.pos s.left))) where
      skips : (short : Bool)
          → then_run (if short then refuses else gives d (tested_place (gap s.pos 4) s))
          (λ x t. if all_zero (take (gap s.pos 4) t.left) then passed (gap s.pos 4) x t else refuses)
          ≡ (if short then refuses
          else (if all_zero (take (gap s.pos 4) s.left) then passed (gap s.pos 4) d (tested_place (gap s.pos 4) s) else refuses))
      skips true = refl
      skips false = refl

      decided : (short good : Bool) (r : Reading FaultKind (Unit {0})) → Zeros short good (gap s.pos 4) s.pos s.left r
          → Agrees (IsPlace Xdr) (λ (y : Draft) (z : Unit {0}). y ≡ d)
          (then_run (if short then refuses else (if good then passed (gap s.pos 4) d (tested_place (gap s.pos 4) s) else refuses))
          (fill c finish)) r
      decided true good (stop x at) h = tt
      decided true good (got z q rest) h = absurd h
      decided false false (stop x at) h = tt
      decided false false (got z q rest) h = absurd h
      decided false true r h =
          subst
          (λ (z : Reading FaultKind (Unit {0})). Agrees (IsPlace Xdr) (λ (y : Draft) (u : Unit {0}). y ≡ d)
          (then_run (passed (gap s.pos 4) d (tested_place (gap s.pos 4) s)) (fill c finish)) z) (sym h)
          (subst (λ (x : Run Draft). Agrees (IsPlace Xdr) (λ (y : Draft) (u : Unit {0}). y ≡ d) (then_run x (fill c finish))
          (got tt (s.pos + gap s.pos 4) (drop (gap s.pos 4) s.left))) (sym (pass_tested (gap s.pos 4) d s))
          (refl, refl, refl, omega arith, octets_dropped (gap s.pos 4) s.left oct))

-- ---- the arrays of XDR

abbrev Any : ℕ → Type 0
Any n = Unit {0}

-- so many octets, up to a position from which as many zeros follow as from their number
octets_elements : (c : Callees) (a : Array) (test : ℕ → Bool) (fault : FaultKind) → IsOctetArray a test → (n : ℕ) (s : Place)
    → IsPlace Xdr s.pos → AreOctets s.left
    → Agrees (λ (q : ℕ). gap q 4 ≡ gap n 4) Same (runs (λ u. settled_number (fill c (number_take Xdr 1) (digit a) u)) n s)
    (times (read_octet test fault) n s.pos s.left)
octets_elements c a test fault passes n s here oct =
    agrees-wider (λ (q : ℕ). q ≡ s.pos + along n 1) (λ (q : ℕ). gap q 4 ≡ gap n 4) Same
    (runs (λ u. settled_number (fill c (number_take Xdr 1) (digit a) u)) n s) (times (read_octet test fault) n s.pos s.left)
    (octets-agree Xdr c a test fault passes n s oct) (λ (q : ℕ) is. let many = along_one n in omega (arith, is, here, many))

numbers_elements : (c : Callees) (k : Kind) (b : Count) (n : ℕ) (s : Place) → Unit {0} → IsPlace Xdr s.pos → AreOctets s.left
    → Agrees (IsPlace Xdr) Same
    (runs (λ u. settled_number (fill c (number_take Xdr (scalar_width Xdr (number k))) (digit (row_of k b)) u)) n s)
    (times (read_scalar Xdr (number k)) n s.pos s.left)
numbers_elements c k b n s any here oct =
    agrees-wider (λ (q : ℕ). q ≡ s.pos + along n (scalar_width Xdr (number k))) (IsPlace Xdr) Same
    (runs (λ u. settled_number (fill c (number_take Xdr (scalar_width Xdr (number k))) (digit (row_of k b)) u)) n s)
    (times (read_scalar Xdr (number k)) n s.pos s.left)
    (numbers-agree Xdr c k b (λ (q : ℕ). Unit {0}) (λ (q : ℕ) j. tt) (λ (q : ℕ) j. omega arith) n s tt oct)
    (λ (q : ℕ) is. let words = along_words n (scalar_width Xdr (number k)) (xdr_wide (number k)) in omega (arith, is, here, words))

nothing_after : (c : Callees) (n : ℕ) (d : Draft) (s : Place) → Unit {0} → IsPlace Xdr s.pos → AreOctets s.left
    → Agrees (IsPlace Xdr) (λ (y : Draft) (z : Unit {0}). y ≡ d) (fill c finish d s) (read_zeros 0 BadPad s.pos s.left)
unfolding read_zeros
nothing_after c n d s any here oct = (refl, refl, refl, here, oct)

-- an array of XDR, of its elements and what comes after them
counted-array : (c : Callees) (a : Array) (turn after : Recv) (one : Reader FaultKind ℤ) (end : ℕ → Reader FaultKind (Unit {0}))
    (L : ℕ → ℕ → Type 0) → ElementsRead a c turn one Any (IsPlace Xdr) L → EndRead Xdr c after end Any L → (s : Place) → IsPlace Xdr s.pos
    → AreOctets s.left
    → Agrees (IsPlace Xdr) Settles (fill c (append (count_code Xdr (count_of a)) (each [] turn after)) (raw (array_type a)) s)
    (map_got (row (kind_of a))
    (map_got (λ (x : ℕ × (List ℤ × Unit {0})). x.1.0) (read_whole (read_count Xdr (count_of a)) one end s.pos s.left)))
counted-array c a turn after one end L elements ended s here oct =
    array-reads Xdr c a (count_code Xdr (count_of a)) turn after one end Any (IsPlace Xdr) L elements ended (read_count Xdr (count_of a))
    (read_count Xdr (count_of a)) s
    (count-opens Xdr xdr_scalar c a Any (IsPlace Xdr) s here oct (λ (q : ℕ) h. h) (λ (m : ℕ) is. here) (λ (n : ℕ). tt))
    (ends-same (read_whole (read_count Xdr (count_of a)) one end s.pos s.left))

-- the zeros after octets
octets_end : (c : Callees) (n : ℕ) (d : Draft) (t : Place) → Unit {0} → gap t.pos 4 ≡ gap n 4 → AreOctets t.left
    → Agrees (IsPlace Xdr) (λ (y : Draft) (z : Unit {0}). y ≡ d) (fill c (skip_zero 4 finish) d t)
    (read_zeros (gap n 4) BadPad t.pos t.left)
octets_end c n d t any k o = zeros-read c (gap n 4) d t k o

-- octets over XDR
octets-array : (c : Callees) (a : Array) (test : ℕ → Bool) → IsOctetArray a test → (s : Place) → IsPlace Xdr s.pos → AreOctets s.left
    → Agrees (IsPlace Xdr) Settles
    (fill c (append (count_code Xdr (count_of a)) (each [] (number_take Xdr 1) (skip_zero 4 finish))) (raw (array_type a)) s)
    (map_got (row (kind_of a)) (map_got (λ (x : ℕ × (List ℤ × Unit {0})). x.1.0)
    (read_whole (read_count Xdr (count_of a)) (read_octet test BadText) (λ n. read_zeros (gap n 4) BadPad) s.pos s.left)))
octets-array c a test passes s here oct =
    counted-array c a (number_take Xdr 1) (skip_zero 4 finish) (read_octet test BadText) (λ n. read_zeros (gap n 4) BadPad)
    (λ (n : ℕ) (q : ℕ). gap q 4 ≡ gap n 4)
    (λ (n : ℕ) (t : Place) any k o. octets_elements c a test BadText passes n t k o) (octets_end c) s here oct

-- other numbers
numbers-array : (c : Callees) (k : Kind) (b : Count) (s : Place) → IsPlace Xdr s.pos → AreOctets s.left
    → Agrees (IsPlace Xdr) Settles
    (fill c (append (count_code Xdr b) (each [] (number_take Xdr (scalar_width Xdr (number k))) finish)) (raw (array_type (row_of k b))) s)
    (map_got (row k) (map_got (λ (x : ℕ × (List ℤ × Unit {0})). x.1.0)
    (read_whole (read_count Xdr b) (read_scalar Xdr (number k)) (λ n. read_zeros 0 BadPad) s.pos s.left)))
numbers-array c k b s here oct =
    counted-array c (row_of k b) (number_take Xdr (scalar_width Xdr (number k))) finish (read_scalar Xdr (number k))
    (λ n. read_zeros 0 BadPad) (λ (n : ℕ). IsPlace Xdr) (numbers_elements c k b) (nothing_after c) s here oct

pub xdr_array : ArraysRead Xdr
unfolding read_array read_head read_element read_tail
xdr_array c (text b) = octets-array c (text b) (may_stand (text b)) (letter_passes b)
xdr_array c (row_of kind.Octet b) = octets-array c (row_of kind.Octet b) (λ x. true) (octet_passes b)
xdr_array c (row_of kind.I8 b) = numbers-array c kind.I8 b
xdr_array c (row_of kind.U8 b) = numbers-array c kind.U8 b
xdr_array c (row_of kind.Char b) = numbers-array c kind.Char b
xdr_array c (row_of kind.I16 b) = numbers-array c kind.I16 b
xdr_array c (row_of kind.U16 b) = numbers-array c kind.U16 b
xdr_array c (row_of kind.I32 b) = numbers-array c kind.I32 b
xdr_array c (row_of kind.U32 b) = numbers-array c kind.U32 b
xdr_array c (row_of kind.I64 b) = numbers-array c kind.I64 b
xdr_array c (row_of kind.U64 b) = numbers-array c kind.U64 b
xdr_array c (row_of kind.Bool b) = numbers-array c kind.Bool b
