-- What an item of a Mach message reads.
use Rattle.std.proofs.Common.{◌≡◌, ℕ, ◌+◌, ◌%◌, ◌<◌, ◌≤◌, ℤ, List, [], ◌∷◌, length, take, drop, max, Option, Some, None, refl, sym, ap, ◌∙◌, arith, Bool, true, false, ◌&&◌, if◌then◌else◌}
use Rattle.std.specs.Prelude.{nat_lt, nat_le, nat_eq}
use Rattle.std.specs.Int.{Width, w32, byte_len, from_le_bytes}
use Rattle.std.proofs.lemmas.Bool.{le-ltb, ltb-true, ltb-false, eq-eqb, eqb-true}
use Rattle.std.proofs.lemmas.List.{length-drop, length-take, drop-drop}
use Rattle.kit_base.specs.Bytes.{le}
use Rattle.mint.specs.Types.{Scalar, number}
use Rattle.mint.specs.Typed.{is_scalar}
use Rattle.wire_def.specs.declared.encoding.Encoding.TheVariants.{Mach}
use Rattle.wire_def.specs.declared.fault.FaultKind.{FaultKind}
use Rattle.wire_def.specs.declared.fault.FaultKind.TheVariants.{Short, BadValue, BadItem}
use Rattle.wire_def.specs.declared.head.Order.TheVariants.{Little}
use Rattle.wire_def.specs.Grammar.{Reading, got, stop, AreOctets, then_on, map_got}
use Rattle.wire_def.specs.Places.{IsPlace}
use Rattle.wire_def.specs.Scalars.{gap, scalar_place, is_signed, number_of, width_of, read_word, read_scalar}
use Rattle.wire_def.specs.Lone.{scalar_word, filling, read_any, read_desc, read_lone}
use Rattle.wire_def.proofs.Words.{IsOwn, is8, is16, is32, is64, own_of, desc_wide}
use Rattle.wire_def.specs.Orders.{loaded}
use Rattle.cast_stub.specs.declared.recv.Get.{Get}
use Rattle.cast_stub.specs.declared.recv.Get.TheVariants as get
use Rattle.cast_stub.specs.RecvBlock.{finish, pass}
use Rattle.cast_stub.specs.Draft.{Draft}
use Rattle.cast_stub.specs.Fill as filler
use Rattle.cast_stub.specs.Fill.{all_got, Callees, fill}
use Rattle.cast_stub.specs.Into.{passed, same_octets, scalar_into}
use Rattle.cast_stub.specs.Runs.{Place, Run, gives, refuses, strays, then_run, if_passed}
use Rattle.cast_stub.specs.Layouts.{scalar_width}
use Rattle.stub_lower.specs.Items.{item_rest}
use Rattle.stub_lower.specs.RecvCodes.{item_code}
use Rattle.stub_lower.proofs.Words.{width_same}
use Rattle.stub_lower.proofs.Agreeing.{Agrees, Same, agrees-ends, SameEnds}
use Rattle.stub_lower.proofs.RecvEncoded.{tested_place, passed_place, pass_tested, le_true, octets_dropped, word_tested, width_is, scalar_read, Reads, taken, Takes, LonesRead}
use Rattle.wire_def.proofs.Sent.{word_below}
use Rattle.stub_lower.proofs.RecvCdrArrays.{octets_taken}

-- ---- octets that must be these

same_self : (a : List ℕ) → same_octets a a ≡ true
same_self [] = refl
same_self (x ∷ a) = ap (λ (g : Bool). g && same_octets a a) (eq-eqb x x refl) ∙ same_self a

same_so : (a b : List ℕ) → same_octets a b ≡ true → a ≡ b
same_so [] [] h = refl
same_so [] (y ∷ b) h = absurd cc
same_so (x ∷ a) [] h = absurd cc
same_so (x ∷ a) (y ∷ b) h = ap (λ (z : ℕ). z ∷ a) (eqb-true x y (left (nat_eq x y) (same_octets a b) h))
    ∙ ap (λ (l : List ℕ). y ∷ l) (same_so a b (right (nat_eq x y) (same_octets a b) h)) where
      left : (g h : Bool) → (g && h) ≡ true → g ≡ true
      left true h e = refl
      left false h e = e

      right : (g h : Bool) → (g && h) ≡ true → h ≡ true
      right true h e = e
      right false h e = absurd cc

-- the first four octets are these of a word exactly where they are its number
pub word_is : (w : ℕ) (o : List ℕ) → w < 4294967296 → AreOctets o → 4 ≤ length o
    → same_octets (le 4 w) (take 4 o) ≡ nat_eq (from_le_bytes w32 (take 4 o)) w
word_is w o lt oct enough = either (nat_eq (from_le_bytes w32 (take 4 o)) w) refl (same_octets (le 4 w) (take 4 o)) refl where
  four : length (take 4 o) ≡ 4
  four = omega (arith, length-take 4 o, enough)

  number : le 4 (from_le_bytes w32 (take 4 o)) ≡ take 4 o
  number = desc_wide.back (take 4 o) four (octets_taken 4 o oct)

  either : (b : Bool) → nat_eq (from_le_bytes w32 (take 4 o)) w ≡ b → (s : Bool) → same_octets (le 4 w) (take 4 o) ≡ s → s ≡ b
  either true is true same = refl
  either false is false same = refl
  either true is false same =
      let w_is : from_le_bytes w32 (take 4 o) ≡ w = eqb-true (from_le_bytes w32 (take 4 o)) w is in
      let octets : take 4 o ≡ le 4 w = sym number ∙ ap (le 4) w_is in
      sym same ∙ ap (same_octets (le 4 w)) octets ∙ same_self (le 4 w)
  either false is true same =
      let octets : le 4 w ≡ take 4 o = same_so (le 4 w) (take 4 o) same in
      let w_is : from_le_bytes w32 (take 4 o) ≡ w = ap (from_le_bytes w32) (sym octets) ∙ desc_wide.again w lt in
      sym (eq-eqb (from_le_bytes w32 (take 4 o)) w w_is) ∙ is

-- a word of 32 bits, read where it is
pub word_read : (p : ℕ) (o : List ℕ)
    → read_word Mach 1 w32 p o ≡ (if nat_lt (length o) 4 then stop Short (p + 0) else got (from_le_bytes w32 (take 4 o)) (p + 4) (drop 4 o))
unfolding read_word
word_read p o =
    let none : gap p 1 ≡ 0 = omega arith in
    ap (λ (g : ℕ). if nat_lt (length o) (g + 4) then stop Short (p + g)
    else got (from_le_bytes w32 (take 4 (drop g o))) (p + (g + 4)) (drop 4 (drop g o))) none

rest_placed : (w : Width) → IsOwn w → (byte_len w + gap (byte_len w) 4) % 4 ≡ 0
rest_placed _ is8 = refl
rest_placed _ is16 = refl
rest_placed _ is32 = refl
rest_placed _ is64 = refl

pub rest_whole : (t : Scalar) → item_rest t % 4 ≡ 0
rest_whole t = ap (λ (w : ℕ). (w + filling t) % 4) (width_same Mach t) ∙ rest_placed (width_of Mach t) (own_of Mach t)

module _ (t : Scalar) where
  abbrev W : ℕ
  W = scalar_width Mach t

  abbrev N : ℕ
  N = 4 + item_rest t

  abbrev D : List ℕ
  D = le 4 (scalar_word t)

  -- the number after the descriptor, in range or not
  abbrev inside : List ℕ → ℤ
  inside o = number_of (is_signed t) (width_of Mach t) (loaded Little (width_of Mach t) (take W (drop 4 o)))

  -- ---- the code of an item

  item_run : (c : Callees) (g : Get) (d : Draft) (f : ℤ → Option Draft) (s : Place) → AreOctets s.left → Takes Mach t 4 g d f
      → fill c (item_code t g) d s
      ≡ (if nat_lt (length s.left) N then refuses
      else (if same_octets D (take 4 s.left)
      then then_run
      (then_run (scalar_into t f (width_of Mach t) (loaded Little (width_of Mach t) (take W (drop 4 s.left))) (tested_place N s))
      (all_got [])) (λ y u. then_run (passed N y u) (fill c finish))
      else refuses))
  item_run c g d f s oct does = decided (nat_lt (length s.left) N) where
    near : nat_le (0 + 4) (max N s.near) ≡ true
    near = le_true (0 + 4) (max N s.near) (omega arith)

    number : filler.got g d (tested_place N s)
        ≡ scalar_into t f (width_of Mach t) (loaded Little (width_of Mach t) (take W (drop 4 s.left))) (tested_place N s)
    number = does (tested_place N s) oct
        ∙ word_tested N 4 W Little (width_of Mach t) s (λ x m. scalar_into t f x m (tested_place N s)) (width_is Mach t) (omega arith)

    matched : (b : Bool)
        → then_run (then_run (if b then gives d (tested_place N s) else refuses) (λ x v. then_run (filler.got g x v) (all_got [])))
        (λ y u. then_run (passed N y u) (fill c finish))
        ≡
        (if b
        then then_run
        (then_run (scalar_into t f (width_of Mach t) (loaded Little (width_of Mach t) (take W (drop 4 s.left))) (tested_place N s))
        (all_got [])) (λ y u. then_run (passed N y u) (fill c finish))
        else refuses)
    matched true = ap (λ (x : Run Draft). then_run (then_run x (all_got [])) (λ y u. then_run (passed N y u) (fill c finish))) number
    matched false = refl

    decided : (short : Bool)
        → then_run (if short then refuses else gives d (tested_place N s)) (fill c (pass N (get.Const 0 D ∷ g ∷ []) finish))
        ≡ (if short then refuses else (if same_octets D (take 4 s.left)
        then then_run
        (then_run (scalar_into t f (width_of Mach t) (loaded Little (width_of Mach t) (take W (drop 4 s.left))) (tested_place N s))
        (all_got [])) (λ y u. then_run (passed N y u) (fill c finish)) else refuses))
    decided true = refl
    decided false =
        ap (λ (b : Bool). then_run
        (then_run (if b then (if same_octets D (take 4 s.left) then gives d (tested_place N s) else refuses) else strays)
        (λ x v. then_run (filler.got g x v) (all_got []))) (λ y u. then_run (passed N y u) (fill c finish))) near
        ∙ matched (same_octets D (take 4 s.left))

  -- ---- the reader of an item, by what the code tests

  abbrev known : Bool → Bool → Bool → ℕ → List ℕ → Reading FaultKind ℤ
  known short desc good p o = if short then stop Short p
      else (if desc then (if good then got (inside o) (p + N) (drop N o) else stop BadValue p) else stop BadItem p)

  abbrev filled : ℤ → Reading FaultKind (Unit {0}) → Reading FaultKind (ℤ × Unit {0})
  filled n r = map_got (λ z. (n, z)) r

  abbrev number_after : Reading FaultKind ℤ → Reading FaultKind ℤ
  number_after r = map_got (λ (x : Unit {0} × (ℤ × Unit {0})). x.1.0)
      (map_got (λ y. (tt, y)) (then_on r (λ n q l. filled n (read_any (filling t) q l))))

  item_ends : (p : ℕ) (o : List ℕ) → AreOctets o
      → SameEnds (known (nat_lt (length o) N) (same_octets D (take 4 o)) (is_scalar t (inside o)) p o) (read_lone Mach t p o)
  unfolding read_desc read_any
  item_ends p o oct = rw word_read (first (nat_lt (length o) 4) refl (nat_lt (length o) N) refl) where
    all_there : (b0 : Bool) → nat_lt (length o) N ≡ b0 → nat_lt (length o) 4 ≡ false → nat_lt (length (drop 4 o)) W ≡ false
        → nat_lt (length (drop W (drop 4 o))) (filling t) ≡ false
        → b0 ≡ false
    all_there b0 is one two three =
        let a = ltb-false (length o) 4 one in
        let b = ltb-false (length (drop 4 o)) W two in
        let c = ltb-false (length (drop W (drop 4 o))) (filling t) three in
        let l = length-drop 4 o in
        let m = length-drop W (drop 4 o) in
        sym is ∙ le-ltb (length o) N (omega (arith, a, b, c, l, m))

    false_not_true : true ≡ false → ⊥
    false_not_true e = cc

    any : (b0 b5 : Bool) → nat_lt (length o) N ≡ b0 → nat_lt (length o) 4 ≡ false → nat_lt (length (drop 4 o)) W ≡ false
        → nat_lt (length (drop W (drop 4 o))) (filling t) ≡ b5
        → SameEnds (if b0 then stop Short p else got (inside o) (p + N) (drop N o))
        (map_got (λ (x : Unit {0} × (ℤ × Unit {0})). x.1.0)
        (map_got (λ y. (tt, y)) (filled (inside o) (if b5 then stop Short (p + 4 + W + length (drop W (drop 4 o)))
        else got tt (p + 4 + W + filling t) (drop (filling t) (drop W (drop 4 o)))))))
    any true true is one two three = tt
    any false true is one two three =
        let c = ltb-true (length (drop W (drop 4 o))) (filling t) three in
        let l = length-drop 4 o in
        let m = length-drop W (drop 4 o) in
        let b = ltb-false (length (drop 4 o)) W two in
        let a = ltb-false (length o) 4 one in
        let w = ltb-false (length o) N is in
        absurd (omega (arith, a, b, c, l, m, w))
    any true false is one two three = absurd (false_not_true (all_there true is one two three))
    any false false is one two three =
        let sum : 4 + W + filling t ≡ N = omega arith in
        (refl, omega arith, sym (ap (drop (filling t)) (drop-drop W 4 o) ∙ drop-drop (filling t) (4 + W) o ∙ ap (λ (k : ℕ). drop k o) sum))

    scalar : (b0 b3 b4 : Bool) → nat_lt (length o) N ≡ b0 → nat_lt (length o) 4 ≡ false → nat_lt (length (drop 4 o)) W ≡ b3
        → is_scalar t (inside o) ≡ b4
        → SameEnds (if b0 then stop Short p else (if b4 then got (inside o) (p + N) (drop N o) else stop BadValue p))
        (number_after (then_on (map_got (number_of (is_signed t) (width_of Mach t))
        (if b3 then stop Short (p + 4 + 0) else got (loaded Little (width_of Mach t) (take W (drop 4 o))) (p + 4 + W) (drop W (drop 4 o))))
        (λ n q rest. if is_scalar t n then got n q rest else stop BadValue (scalar_place Mach t (p + 4)))))
    scalar true true b4 is one two three = tt
    scalar false true b4 is one two three =
        let l = length-drop 4 o in
        let b = ltb-true (length (drop 4 o)) W two in
        let a = ltb-false (length o) 4 one in
        let w = ltb-false (length o) N is in
        absurd (omega (arith, a, b, l, w))
    scalar true false false is one two three = rw three tt
    scalar false false false is one two three = rw three tt
    scalar true false true is one two three = rw three (any true (nat_lt (length (drop W (drop 4 o))) (filling t)) is one two refl)
    scalar false false true is one two three = rw three (any false (nat_lt (length (drop W (drop 4 o))) (filling t)) is one two refl)

    after : (b0 b2 : Bool) → nat_lt (length o) N ≡ b0 → nat_lt (length o) 4 ≡ false → same_octets D (take 4 o) ≡ b2
        → SameEnds (known b0 b2 (is_scalar t (inside o)) p o)
        (map_got (λ (x : Unit {0} × (ℤ × Unit {0})). x.1.0) (then_on (map_got (λ m. tt)
        (if nat_eq (from_le_bytes w32 (take 4 o)) (scalar_word t) then got (from_le_bytes w32 (take 4 o)) (p + 4) (drop 4 o)
        else stop BadItem p))
        (λ u q l. map_got (λ y. (u, y)) (then_on (read_scalar Mach t q l) (λ n q l. filled n (read_any (filling t) q l))))))
    after b0 b2 is one two =
        rw (sym (word_is (scalar_word t) o (word_below t) oct (ltb-false (length o) 4 one)) ∙ two) (chosen b0 b2 is) where
          chosen : (b0 b2 : Bool) → nat_lt (length o) N ≡ b0
              → SameEnds (known b0 b2 (is_scalar t (inside o)) p o)
              (map_got (λ (x : Unit {0} × (ℤ × Unit {0})). x.1.0)
              (then_on (map_got (λ m. tt) (if b2 then got (from_le_bytes w32 (take 4 o)) (p + 4) (drop 4 o) else stop BadItem p))
              (λ u q l. map_got (λ y. (u, y)) (then_on (read_scalar Mach t q l) (λ n q l. filled n (read_any (filling t) q l))))))
          chosen true false h = tt
          chosen false false h = tt
          chosen b0 true h =
              let none : gap (p + 4) 1 ≡ 0 = omega arith in
              rw (scalar_read Mach t (p + 4) (drop 4 o) none)
              (scalar b0 (nat_lt (length (drop 4 o)) W) (is_scalar t (inside o)) h one refl refl)

    first : (b1 : Bool) → nat_lt (length o) 4 ≡ b1 → (b0 : Bool) → nat_lt (length o) N ≡ b0
        → SameEnds (known b0 (same_octets D (take 4 o)) (is_scalar t (inside o)) p o)
        (map_got (λ (x : Unit {0} × (ℤ × Unit {0})). x.1.0)
        (then_on (map_got (λ m. tt) (then_on (if b1 then stop Short (p + 0) else got (from_le_bytes w32 (take 4 o)) (p + 4) (drop 4 o))
        (λ x q rest. if nat_eq x (scalar_word t) then got x q rest else stop BadItem p)))
        (λ u q l. map_got (λ y. (u, y)) (then_on (read_scalar Mach t q l) (λ n q l. filled n (read_any (filling t) q l))))))
    first true one true is = tt
    first true one false is = let a = ltb-true (length o) 4 one in let w = ltb-false (length o) N is in absurd (omega (arith, a, w))
    first false one b0 is = after b0 (same_octets D (take 4 o)) is one refl

  -- ---- both

  abbrev run_of : Place → Bool → Bool → Bool → Run ℤ
  run_of s short desc good = if short then refuses
      else (if desc then (if good then gives (inside s.left) (passed_place N s) else refuses) else refuses)

  pub item-reads : (c : Callees) (g : Get) (d : Draft) (f : ℤ → Option Draft) (s : Place) → IsPlace Mach s.pos → AreOctets s.left
      → Takes Mach t 4 g d f
      → Reads (IsPlace Mach) (fill c (item_code t g) d s) (read_lone Mach t s.pos s.left) f
  item-reads c g d f s here oct does = record {
    number = run_of s (nat_lt (length s.left) N) (same_octets D (take 4 s.left)) (is_scalar t (inside s.left));
    is = item_run c g d f s oct does
        ∙ made (nat_lt (length s.left) N) (same_octets D (take 4 s.left)) (is_scalar t (inside s.left)) (f (inside s.left)) refl;
    agrees =
        agrees-ends (IsPlace Mach) Same (run_of s (nat_lt (length s.left) N) (same_octets D (take 4 s.left)) (is_scalar t (inside s.left)))
        (known (nat_lt (length s.left) N) (same_octets D (take 4 s.left)) (is_scalar t (inside s.left)) s.pos s.left)
        (read_lone Mach t s.pos s.left) (item_ends s.pos s.left oct)
        (same (nat_lt (length s.left) N) (same_octets D (take 4 s.left)) (is_scalar t (inside s.left)));
  } where
    made : (short desc good : Bool) (z : Option Draft) → z ≡ f (inside s.left)
        → (if short then refuses
        else (if desc
        then then_run (then_run (if good then if_passed z (λ y. gives y (tested_place N s)) else refuses) (all_got []))
        (λ y u. then_run (passed N y u) (fill c finish))
        else refuses))
        ≡ then_run (run_of s short desc good) (taken f)
    made true desc good z is = refl
    made false false good z is = refl
    made false true false z is = refl
    made false true true (Some y) is =
        ap (λ (x : Run Draft). then_run x (fill c finish)) (pass_tested N y s)
        ∙ ap (λ (x : Option Draft). if_passed x (λ d. gives d (passed_place N s))) is
    made false true true None is = ap (λ (x : Option Draft). if_passed x (λ d. gives d (passed_place N s))) is

    same : (short desc good : Bool) → Agrees (IsPlace Mach) Same (run_of s short desc good) (known short desc good s.pos s.left)
    same true desc good = tt
    same false false good = tt
    same false true false = tt
    same false true true = (refl, refl, refl, omega (arith, here, rest_whole t), octets_dropped N s.left oct)

pub mach_scalar : LonesRead Mach
mach_scalar c t g d f s here oct does = item-reads t c g d f s here oct does
