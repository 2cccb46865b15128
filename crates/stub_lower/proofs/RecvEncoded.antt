-- What an encoding's leaves read: a scalar, a count.
use Rattle.std.proofs.Common.{◌≡◌, ℕ, zero, suc, ◌+◌, ◌-◌, ◌*◌, ◌/◌, ◌%◌, ◌≤◌, ℤ, List, [], ◌∷◌, length, take, drop, max, Option, Some, None, refl, sym, ap, subst, ◌∙◌, arith, Bool, true, false, ◌&&◌, if◌then◌else◌}
use Rattle.std.specs.Prelude.{nat_lt, nat_le, nat_eq}
use Rattle.std.specs.Int.{Width, byte_len}
use Rattle.std.proofs.lemmas.Bool.{le-leb, eq-eqb}
use Rattle.kit_base.specs.Causes.{raised}
use Rattle.mint.specs.declared.kind.Count.{Count}
use Rattle.mint.specs.declared.kind.Count.TheVariants.{Exactly, AtMost, Any}
use Rattle.mint.specs.Types.{Scalar}
use Rattle.mint.specs.Typed.{is_scalar}
use Rattle.wire_def.specs.declared.encoding.Encoding.{Encoding}
use Rattle.wire_def.specs.declared.encoding.Encoding.TheVariants.{Xdr, CdrBig, CdrLittle, Mach}
use Rattle.wire_def.specs.declared.fault.FaultKind.{FaultKind}
use Rattle.wire_def.specs.declared.fault.FaultKind.TheVariants.{Short, BadValue, OverBound}
use Rattle.wire_def.specs.declared.head.Order.{Order}
use Rattle.wire_def.specs.Grammar.{Reading, got, stop, AreOctets, then_on, map_got}
use Rattle.wire_def.specs.Places.{IsPlace}
use Rattle.wire_def.specs.Scalars.{gap, own_width, at_least_32, scalar_place, is_signed, number_of, width_of, alignment_of, octets_number, read_word, read_scalar}
use Rattle.wire_def.specs.Lone.{lone_place, read_lone}
use Rattle.wire_def.specs.Arrays.{counted, natural, read_count}
use Rattle.wire_def.proofs.Words.{IsOwn, is8, is16, is32, is64, own_of}
use Rattle.wire_def.specs.Orders.{width_in, loaded}
use Rattle.cast_stub.specs.declared.recv.Get.{Get}
use Rattle.cast_stub.specs.declared.recv.Get.TheVariants as get
use Rattle.cast_stub.specs.RecvBlock.{finish, pass}
use Rattle.cast_stub.specs.Draft.{Draft}
use Rattle.cast_stub.specs.Fill as filling
use Rattle.cast_stub.specs.Fill.{all_got, Callees, fill}
use Rattle.cast_stub.specs.Into.{passed, same_octets, word_at, scalar_into, length_of, length_into, count_into, allows}
use Rattle.cast_stub.specs.Runs.{Place, Run, gives, refuses, strays, then_run, map_run, if_passed}
use Rattle.cast_stub.specs.Layouts.{order_of, scalar_width}
use Rattle.stub_lower.specs.Items.{number_at}
use Rattle.stub_lower.specs.RecvCodes.{take_code, scalar_code, count_code, length_get}
use Rattle.stub_lower.proofs.Words.{width_same}
use Rattle.stub_lower.proofs.Agreeing.{Agrees, Same, agrees-then, agrees-map, agrees-read, agrees-wider}

-- ---- octets that are tested and passed

-- after a test of so many octets
abbrev pub tested_place : ℕ → Place → Place
tested_place n s = record { pos = s.pos; left = s.left; near = max n s.near; tests = raised s.tests 1 }

-- and after these octets
abbrev pub passed_place : ℕ → Place → Place
passed_place n s = record { pos = s.pos + n; left = drop n s.left; near = max n s.near - n; tests = raised s.tests 1 }

pub le_true : (n m : ℕ) → n ≤ m → nat_le n m ≡ true
le_true n m h = le-leb n m h

pub pass_tested : (n : ℕ) (d : Draft) (s : Place) → passed n d (tested_place n s) ≡ gives d (passed_place n s)
pass_tested n d s = ap (λ (b : Bool). if b then gives d (passed_place n s) else strays) (le_true n (max n s.near) (omega arith))

-- a test and a take of octets that must be these
pub const_run : (c : Callees) (os : List ℕ) (d : Draft) (s : Place)
    → fill c (take_code (length os) (get.Const 0 os)) d s
    ≡ (if nat_lt (length s.left) (length os) then refuses
    else (if same_octets os (take (length os) s.left) then gives d (passed_place (length os) s) else refuses))
const_run c os d s = decided (nat_lt (length s.left) (length os)) where
  matched : (g : Bool)
      → then_run (then_run (if g then gives d (tested_place (length os) s) else refuses) (all_got []))
      (λ x t. then_run (passed (length os) x t) (fill c finish))
      ≡ (if g then gives d (passed_place (length os) s) else refuses)
  matched true = ap (λ (x : Run Draft). then_run x (fill c finish)) (pass_tested (length os) d s)
  matched false = refl

  decided : (short : Bool) → then_run (if short then refuses else gives d (tested_place (length os) s))
      (λ x t. then_run
      (then_run
      (if nat_le (0 + length os) t.near then (if same_octets os (take (length os) t.left) then gives x t else refuses) else strays)
      (all_got [])) (λ y u. then_run (passed (length os) y u) (fill c finish)))
      ≡ (if short then refuses
      else (if same_octets os (take (length os) s.left) then gives d (passed_place (length os) s) else refuses))
  decided true = refl
  decided false =
      ap (λ (g : Bool). then_run
      (then_run (if g then (if same_octets os (take (length os) s.left) then gives d (tested_place (length os) s) else refuses) else strays)
      (all_got [])) (λ y u. then_run (passed (length os) y u) (fill c finish)))
      (le_true (0 + length os) (max (length os) s.near) (omega arith))
      ∙ matched (same_octets os (take (length os) s.left))

pub octets_dropped : (n : ℕ) (o : List ℕ) → AreOctets o → AreOctets (drop n o)
octets_dropped zero o h = h
octets_dropped (suc n) [] h = h
octets_dropped (suc n) (b ∷ o) h = octets_dropped n o h.1

-- ---- words

-- a word at an offset of what was tested
pub word_tested : (N off W : ℕ) (o : Order) (x : Width) (s : Place) (f : Width → ℕ → Run Draft) → width_in W ≡ Some x → off + W ≤ N
    → word_at off W o (tested_place N s) f ≡ f x (loaded o x (take W (drop off s.left)))
word_tested N off W o x s f is within =
    ap (λ (z : Option Width). if_passed z
    (λ y. if nat_le (off + W) (max N s.near) then f y (loaded o y (take W (drop off s.left))) else strays)) is
    ∙ ap (λ (b : Bool). if b then f x (loaded o x (take W (drop off s.left))) else strays)
    (le_true (off + W) (max N s.near) (omega (arith, within)))

-- a get that does this with its word, over octets
abbrev pub Does : Get → ℕ → ℕ → Order → Draft → (Width → ℕ → Place → Run Draft) → Type 0
Does g off W o d act = (t : Place) → AreOctets t.left → filling.got g d t ≡ word_at off W o t (λ x m. act x m t)

one_got : (c : Callees) (g : Get) (W : ℕ) (d : Draft) (t : Place) (x : Run Draft) → filling.got g d t ≡ x
    → fill c (pass W (g ∷ []) finish) d t ≡ then_run x (λ y u. then_run (passed W y u) (fill c finish))
one_got c g W d t (gives y u) is =
    ap (λ (z : Run Draft). then_run (then_run z (all_got [])) (λ y u. then_run (passed W y u) (fill c finish))) is
one_got c g W d t refuses is =
    ap (λ (z : Run Draft). then_run (then_run z (all_got [])) (λ y u. then_run (passed W y u) (fill c finish))) is
one_got c g W d t strays is = ap (λ (z : Run Draft). then_run (then_run z (all_got [])) (λ y u. then_run (passed W y u) (fill c finish))) is

-- a test and a take of one word
pub word_run : (c : Callees) (W : ℕ) (o : Order) (x : Width) (g : Get) (d : Draft) (s : Place) (act : Width → ℕ → Place → Run Draft)
    → width_in W ≡ Some x → AreOctets s.left → Does g 0 W o d act
    → fill c (take_code W g) d s
    ≡ (if nat_lt (length s.left) W then refuses
    else then_run (act x (loaded o x (take W s.left)) (tested_place W s)) (λ y u. then_run (passed W y u) (fill c finish)))
word_run c W o x g d s act wide oct does = decided (nat_lt (length s.left) W) where
  decided : (b : Bool) → then_run (if b then refuses else gives d (tested_place W s)) (fill c (pass W (g ∷ []) finish))
      ≡ (if b then refuses
      else then_run (act x (loaded o x (take W s.left)) (tested_place W s)) (λ y u. then_run (passed W y u) (fill c finish)))
  decided true = refl
  decided false =
      one_got c g W d (tested_place W s) (act x (loaded o x (take W s.left)) (tested_place W s))
      (does (tested_place W s) oct ∙ word_tested W 0 W o x s (λ y m. act y m (tested_place W s)) wide (omega arith))

-- ---- a scalar

-- a draft of a number, if it passes
abbrev pub taken : (ℤ → Option Draft) → ℤ → Place → Run Draft
taken f n t = if_passed (f n) (λ d. gives d t)

-- the run of a code that reads a number, and what is made of it
pub record Reads (K : ℕ → Type 0) (x : Run Draft) (r : Reading FaultKind ℤ) (f : ℤ → Option Draft) : Type 0 where
  pub number : Run ℤ
  pub is : x ≡ then_run number (taken f)
  pub agrees : Agrees K Same number r

pub reads-wider : (K L : ℕ → Type 0) (x : Run Draft) (r : Reading FaultKind ℤ) (f : ℤ → Option Draft) → Reads K x r f
    → ((q : ℕ) → K q → L q)
    → Reads L x r f
reads-wider K L x r f h k = record { number = h.number; is = h.is; agrees = agrees-wider K L Same h.number r h.agrees k }

-- a get that takes the number of a scalar, which is at an offset
abbrev pub Takes : Encoding → Scalar → ℕ → Get → Draft → (ℤ → Option Draft) → Type 0
Takes e t off g d f = Does g off (scalar_width e t) (order_of e) d (scalar_into t f)

-- the positions after a scalar by itself: over CDR, and after its alignment, at a multiple of its width
abbrev pub After : Encoding → Scalar → ℕ → Type 0
After CdrBig t q = gap q (scalar_width CdrBig t) ≡ 0
After CdrLittle t q = gap q (scalar_width CdrLittle t) ≡ 0
After e t q = IsPlace e q

pub after_placed : (e : Encoding) (t : Scalar) (q : ℕ) → After e t q → IsPlace e q
after_placed Xdr t q h = h
after_placed CdrBig t q h = tt
after_placed CdrLittle t q h = tt
after_placed Mach t q h = h

-- what has to be known of an encoding, so that lowered code reads what it says: that a scalar by itself is read, whose get takes its number
abbrev pub LonesRead : Encoding → Type 0
LonesRead e = (c : Callees) (t : Scalar) (g : Get) (d : Draft) (f : ℤ → Option Draft) (s : Place) → IsPlace e s.pos → AreOctets s.left
    → Takes e t (number_at e) g d f → Reads (After e t) (fill c (scalar_code e t g) d s) (read_lone e t s.pos s.left) f

wide_in : (w : Width) → IsOwn w → width_in (byte_len w) ≡ Some w
wide_in _ is8 = refl
wide_in _ is16 = refl
wide_in _ is32 = refl
wide_in _ is64 = refl

pub width_is : (e : Encoding) (t : Scalar) → width_in (scalar_width e t) ≡ Some (width_of e t)
width_is e t = ap width_in (width_same e t) ∙ wide_in (width_of e t) (own_of e t)

pub loads : (e : Encoding) (w : Width) (o : List ℕ) → octets_number e w o ≡ loaded (order_of e) w o
loads Xdr w o = refl
loads CdrBig w o = refl
loads CdrLittle w o = refl
loads Mach w o = refl

-- the number of the first octets, in range or not
abbrev pub first_number : Encoding → Scalar → List ℕ → ℤ
first_number e t o = number_of (is_signed t) (width_of e t) (loaded (order_of e) (width_of e t) (take (scalar_width e t) o))

-- the reader, where there is no gap
pub scalar_read : (e : Encoding) (t : Scalar) (p : ℕ) (o : List ℕ) → gap p (alignment_of e t) ≡ 0
    → read_scalar e t p o
    ≡ then_on (map_got (number_of (is_signed t) (width_of e t)) (if nat_lt (length o) (scalar_width e t) then stop Short (p + 0)
    else got (loaded (order_of e) (width_of e t) (take (scalar_width e t) o)) (p + scalar_width e t) (drop (scalar_width e t) o)))
    (λ n q rest. if is_scalar t n then got n q rest else stop BadValue (scalar_place e t p))
unfolding read_scalar read_word
scalar_read e t p o none =
    let w : Width = width_of e t in
    let long : 0 + byte_len w ≡ byte_len w = omega arith in
    let shape : ℕ → ℕ → ℕ → Reading FaultKind ℤ = λ (g : ℕ) (m : ℕ) (k : ℕ). then_on (map_got (number_of (is_signed t) w)
    (if nat_lt (length o) m then stop Short (p + g) else got (octets_number e w (take k (drop g o))) (p + m) (drop k (drop g o))))
    (λ n q rest. if is_scalar t n then got n q rest else stop BadValue (scalar_place e t p)) in
    ap (λ (g : ℕ). shape g (g + byte_len w) (byte_len w)) none
    ∙ ap (λ (m : ℕ). shape 0 m (byte_len w)) long
    ∙ ap (λ (k : ℕ). shape 0 k k) (sym (width_same e t))
    ∙ ap (λ (m : ℕ). then_on (map_got (number_of (is_signed t) w)
    (if nat_lt (length o) (scalar_width e t) then stop Short (p + 0) else got m (p + scalar_width e t) (drop (scalar_width e t) o)))
    (λ n q rest. if is_scalar t n then got n q rest else stop BadValue (scalar_place e t p))) (loads e w (take (scalar_width e t) o))

module _ (e : Encoding) (t : Scalar) where
  W : ℕ
  W = scalar_width e t

  abbrev run_of : Place → Bool → Bool → Run ℤ
  run_of s true b = refuses
  run_of s false true = gives (first_number e t s.left) (passed_place (scalar_width e t) s)
  run_of s false false = refuses

  -- a scalar where there is no gap, tested and taken
  pub bare-scalar : (c : Callees) (g : Get) (d : Draft) (f : ℤ → Option Draft) (s : Place) → gap s.pos (alignment_of e t) ≡ 0
      → AreOctets s.left → Takes e t 0 g d f
      → Reads (λ (q : ℕ). q ≡ s.pos + scalar_width e t) (fill c (take_code (scalar_width e t) g) d s) (read_scalar e t s.pos s.left) f
  bare-scalar c g d f s none oct does =
      let n : ℤ = first_number e t s.left in record {
        number = run_of s (nat_lt (length s.left) (scalar_width e t)) (is_scalar t n);
        is = word_run c (scalar_width e t) (order_of e) (width_of e t) g d s (scalar_into t f) (width_is e t) oct does
            ∙ made (nat_lt (length s.left) (scalar_width e t)) (is_scalar t n) (f n) refl;
        agrees = subst (λ (r : Reading FaultKind ℤ). Agrees (λ (q : ℕ). q ≡ s.pos + scalar_width e t) Same
            (run_of s (nat_lt (length s.left) (scalar_width e t)) (is_scalar t n)) r) (sym (scalar_read e t s.pos s.left none))
            (same (nat_lt (length s.left) (scalar_width e t)) (is_scalar t n) refl);
      } where
        made : (short good : Bool) (o : Option Draft) → o ≡ f (first_number e t s.left)
            → (if short then refuses
            else then_run (if good then if_passed o (λ y. gives y (tested_place (scalar_width e t) s)) else refuses)
            (λ y u. then_run (passed (scalar_width e t) y u) (fill c finish)))
            ≡ then_run (run_of s short good) (taken f)
        made true good o is = refl
        made false true (Some y) is =
            ap (λ (x : Run Draft). then_run x (fill c finish)) (pass_tested (scalar_width e t) y s)
            ∙ ap (λ (z : Option Draft). if_passed z (λ d. gives d (passed_place (scalar_width e t) s))) is
        made false true None is = ap (λ (z : Option Draft). if_passed z (λ d. gives d (passed_place (scalar_width e t) s))) is
        made false false o is = refl

        same : (short good : Bool) → is_scalar t (first_number e t s.left) ≡ good
            → Agrees (λ (q : ℕ). q ≡ s.pos + scalar_width e t) Same (run_of s short good)
            (then_on (map_got (number_of (is_signed t) (width_of e t)) (if short then stop Short (s.pos + 0)
            else got (loaded (order_of e) (width_of e t) (take (scalar_width e t) s.left)) (s.pos + scalar_width e t)
            (drop (scalar_width e t) s.left)))
            (λ n q rest. if is_scalar t n then got n q rest else stop BadValue (scalar_place e t s.pos)))
        same true good is = tt
        same false true is = subst (λ (b : Bool). Agrees (λ (q : ℕ). q ≡ s.pos + scalar_width e t) Same (run_of s false true)
            (if b then got (first_number e t s.left) (s.pos + scalar_width e t) (drop (scalar_width e t) s.left)
            else stop BadValue (scalar_place e t s.pos)))
            (sym is) (refl, refl, refl, refl, octets_dropped (scalar_width e t) s.left oct)
        same false false is = subst (λ (b : Bool). Agrees (λ (q : ℕ). q ≡ s.pos + scalar_width e t) Same (run_of s false false)
            (if b then got (first_number e t s.left) (s.pos + scalar_width e t) (drop (scalar_width e t) s.left)
            else stop BadValue (scalar_place e t s.pos)))
            (sym is) tt

width_placed : (w : Width) → IsOwn w → IsPlace Xdr (byte_len (at_least_32 w))
width_placed _ is8 = refl
width_placed _ is16 = refl
width_placed _ is32 = refl
width_placed _ is64 = refl

pub xdr_wide : (t : Scalar) → scalar_width Xdr t % 4 ≡ 0
xdr_wide t = subst (λ (w : ℕ). w % 4 ≡ 0) (sym (width_same Xdr t)) (width_placed (own_width t) (own_of CdrBig t))

pub xdr_scalar : LonesRead Xdr
xdr_scalar c t g d f s here oct does =
    let none : gap s.pos 1 ≡ 0 = omega arith in
    reads-wider (λ (q : ℕ). q ≡ s.pos + scalar_width Xdr t) (IsPlace Xdr) (fill c (take_code (scalar_width Xdr t) g) d s)
    (read_scalar Xdr t s.pos s.left) f
    (bare-scalar Xdr t c g d f s none oct does) (λ (q : ℕ) is. let w = xdr_wide t in omega (arith, is, here, w))

-- ---- a count

pub word_same : (off w : ℕ) (s : Place) (o : Order) (f g : Width → ℕ → Run Draft) → ((x : Width) (m : ℕ) → f x m ≡ g x m)
    → word_at off w o s f ≡ word_at off w o s g
word_same off w s o f g e = wide (width_in w) where
  near : (b : Bool) (x : Width) (m : ℕ) → (if b then f x m else strays) ≡ (if b then g x m else strays)
  near true x m = e x m
  near false x m = refl

  wide : (z : Option Width) → if_passed z (λ x. if nat_le (off + w) s.near then f x (loaded o x (take w (drop off s.left))) else strays)
      ≡ if_passed z (λ x. if nat_le (off + w) s.near then g x (loaded o x (take w (drop off s.left))) else strays)
  wide None = refl
  wide (Some x) = near (nat_le (off + w) s.near) x (loaded o x (take w (drop off s.left)))

pub same_true : (n : ℕ) → nat_eq n n ≡ true
same_true n = eq-eqb n n refl

-- a length as it is
plain_length : (m : ℕ) → length_of 1 0 m ≡ Some m
plain_length m =
    let one : (m - 0) / 1 ≡ m = omega arith in
    let all : (m - 0) / 1 * 1 + 0 ≡ m = omega arith in
    ap (λ (k : ℕ). if nat_eq k m then Some ((m - 0) / 1) else None) all
    ∙ ap (λ (b : Bool). if b then Some ((m - 0) / 1) else None) (same_true m)
    ∙ ap (λ (k : ℕ). Some k) one

-- a length that a count allows, of a number
abbrev pub counted_draft : Count → (ℕ → Draft) → ℤ → Option Draft
counted_draft (Exactly m) f z = None
counted_draft (AtMost m) f z = if nat_le (natural z) m then Some (f (natural z)) else None
counted_draft Any f z = Some (f (natural z))

-- a length that is not fixed
abbrev IsFree : Count → Type 0
IsFree (Exactly m) = ⊥
IsFree _ = Unit {0}

length_taken : (b : Count) (f : ℕ → Draft) (x : Width) (m : ℕ) (u : Place) → IsFree b
    → length_into b f 1 0 m u ≡ scalar_into counted (counted_draft b f) x m u
length_taken (Exactly k) f x m u h = absurd h
length_taken (AtMost k) f x m u h =
    ap (λ (o : Option ℕ). if_passed o (λ n. if allows (AtMost k) n then gives (f n) u else refuses)) (plain_length m)
    ∙ decided (nat_lt m 4294967296) (nat_le m k) where
      decided : (a b : Bool)
          → (if (a && b) then gives (f m) u else refuses)
          ≡ (if a then if_passed (if b then Some (f m) else None) (λ d. gives d u) else refuses)
      decided true true = refl
      decided true false = refl
      decided false b = refl
length_taken Any f x m u h =
    ap (λ (o : Option ℕ). if_passed o (λ n. if allows Any n then gives (f n) u else refuses)) (plain_length m)

pub then_gives : {A B : Type 0} (x : Run A) (f : A → B) → then_run x (λ a t. gives (f a) t) ≡ map_run f x
then_gives (gives a t) f = refl
then_gives refuses f = refl
then_gives strays f = refl

module _ (e : Encoding) (lone : LonesRead e) (c : Callees) (f : ℕ → Draft) (d : Draft) (s : Place) (here : IsPlace e s.pos)
    (oct : AreOctets s.left) where
  -- the number of a length that is not fixed
  length-reads : (b : Count) → IsFree b → ((m : ℕ) (u : Place) → count_into 1 0 m d u ≡ length_into b f 1 0 m u)
      → Reads (After e counted) (fill c (scalar_code e counted (length_get e 0)) d s) (read_lone e counted s.pos s.left) (counted_draft b f)
  length-reads b free into =
      lone c counted (length_get e 0) d (counted_draft b f) s here oct
      (λ (u : Place) o. word_same (number_at e) (scalar_width e counted) u (order_of e) (λ x k. count_into 1 0 k d u)
      (λ x k. scalar_into counted (counted_draft b f) x k u)
      (λ (x : Width) (k : ℕ). into k u ∙ length_taken b f x k u free))

  -- a count, where a get takes it; or the fixed length in no octets
  pub count-reads : (b : Count) (K : ℕ → Type 0) (P : Draft → ℕ → Type 0) → ((q : ℕ) → After e counted q → K q)
      → ((m : ℕ) → b ≡ Exactly m → K s.pos) → ((m : ℕ) (u : Place) → count_into 1 0 m d u ≡ length_into b f 1 0 m u) → ((n : ℕ) → P (f n) n)
      → ((m : ℕ) → b ≡ Exactly m → P d m)
      → Agrees K P (fill c (count_code e b) d s) (read_count e b s.pos s.left)
  unfolding read_count
  count-reads (Exactly m) K P after fixed_place into made fixed = (fixed m refl, refl, refl, fixed_place m refl, oct)
  count-reads (AtMost m) K P after fixed_place into made fixed =
      let r = length-reads (AtMost m) tt into in
      subst (λ (x : Run Draft). Agrees K P x (read_count e (AtMost m) s.pos s.left)) (sym r.is)
      (agrees-then K K (λ (z : ℤ) (n : ℕ). natural z ≡ n) P r.number (map_got natural (read_lone e counted s.pos s.left))
      (taken (counted_draft (AtMost m) f))
      (λ n q rest. if nat_le n m then got n q rest else stop OverBound (lone_place e counted s.pos))
      (agrees-read K Same (λ (z : ℤ) (n : ℕ). natural z ≡ n) r.number (read_lone e counted s.pos s.left) natural
      (agrees-wider (After e counted) K Same r.number (read_lone e counted s.pos s.left) r.agrees after)
      (λ (a : ℤ) (z : ℤ) same. ap natural same))
      (λ (z : ℤ) (n : ℕ) (t : Place) same k o. subst (λ (i : ℕ). Agrees K P (taken (counted_draft (AtMost m) f) z t)
      (if nat_le i m then got i t.pos t.left else stop OverBound (lone_place e counted s.pos))) same
      (bounded z t k o (nat_le (natural z) m)))) where
        bounded : (z : ℤ) (t : Place) → K t.pos → AreOctets t.left → (g : Bool)
            → Agrees K P (if_passed (if g then Some (f (natural z)) else None) (λ y. gives y t))
            (if g then got (natural z) t.pos t.left else stop OverBound (lone_place e counted s.pos))
        bounded z t k o true = (made (natural z), refl, refl, k, o)
        bounded z t k o false = tt
  count-reads Any K P after fixed_place into made fixed =
      let r = length-reads Any tt into in
      subst (λ (x : Run Draft). Agrees K P x (map_got natural (read_lone e counted s.pos s.left)))
      (sym (r.is ∙ then_gives r.number (λ z. f (natural z))))
      (agrees-map K Same P r.number (read_lone e counted s.pos s.left) (λ z. f (natural z)) natural
      (agrees-wider (After e counted) K Same r.number (read_lone e counted s.pos s.left) r.agrees after)
      (λ (a : ℤ) (z : ℤ) same. subst (λ (y : ℤ). P (f (natural a)) (natural y)) same (made (natural a))))
