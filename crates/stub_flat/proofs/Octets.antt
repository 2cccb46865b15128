-- The octets of a number by their place, whatever its width is.
use Rattle.std.proofs.Common.{◌≡◌, ℕ, zero, suc, ◌-◌, ◌<◌, ℤ, pos, negsuc, List, [], ◌∷◌, ◌++◌, length, map, reverse, Option, Some, None, Bool, true, false, if◌then◌else◌, nat_lt, refl, sym, ap, ◌∙◌, arith}
use Rattle.std.specs.Int.{byte_at}
use Rattle.std.proofs.lemmas.Bool.{ltb-true}
use Rattle.wire_def.specs.declared.head.Order.{Order}
use Rattle.wire_def.specs.declared.head.Order.TheVariants.{Big, Little}
use Rattle.wire_def.specs.Orders.{in_order}
use Rattle.cast_stub.specs.Parts.{on_some}
use Rattle.cast_stub.specs.Puts.{wrapped, half_of, word}
use Rattle.stub_flat.proofs.Ends.{fitting}
use Rattle.cast_stub.proofs.Widths.{Wide, one, two, four, eight}

-- ---- octets by place

-- the octet of a number at a place, in two's complement
abbrev pub octet_at : ℤ → ℕ → ℕ
octet_at (pos n) i = byte_at i n
octet_at (negsuc n) i = 255 - byte_at i n

-- the same of a number that may be there
abbrev pub octet_of : Option ℤ → ℕ → ℕ
octet_of None i = 0
octet_of (Some z) i = octet_at z i

-- the first so many places
abbrev pub places : ℕ → List ℕ
places zero = []
places (suc n) = places n ++ n ∷ []

-- so many octets of a number
abbrev pub spelled : Option ℤ → ℕ → Order → List ℕ
spelled x w Little = map (octet_of x) (places w)
spelled x w Big = map (octet_of x) (reverse (places w))

-- a number in so many octets, if it fits
abbrev pub word_number : ℕ → ℤ → Option ℕ
word_number w z = on_some (half_of w) (λ h. wrapped h z)

-- 0 where something is there, else 1
abbrev pub absence : Option ℕ → ℕ
absence None = 1
absence (Some n) = 0

-- whether a number lacks octets in a width
abbrev pub lack : ℕ → Option ℤ → ℕ
lack w x = absence (on_some x (word_number w))

if_lt : (n most m r : ℕ) → (if nat_lt n most then Some r else None) ≡ Some m → (n < most) × (r ≡ m)
if_lt n most m r = by (nat_lt n most) refl where
  by : (t : Bool) → nat_lt n most ≡ t → (if t then Some r else None) ≡ Some m → (n < most) × (r ≡ m)
  by true t e =
      let same : r ≡ m = cc in (ltb-true n most t, same)
  by false t e = absurd cc

-- ---- numbers below 0

-- whether an octet of a number, turned, is that of another
abbrev Turned : ℕ → ℕ → ℕ → Type 0
Turned n m i = 255 - byte_at i n ≡ byte_at i m

-- what holds of either order
by_order : (P : Order → Type 0) → P Little → P Big → (o : Order) → P o
by_order P l b Little = l
by_order P l b Big = b

turned_one : (n m : ℕ) (o : Order) → n < 128 → 255 - n ≡ m → spelled (Some (negsuc n)) 1 o ≡ in_order o 1 m
turned_one n m o lt e =
    let t : Turned n m 0 = omega arith in
    by_order (λ q. spelled (Some (negsuc n)) 1 q ≡ in_order q 1 m) (rw t refl) (rw t refl) o

turned_two : (n m : ℕ) (o : Order) → n < 32768 → 65535 - n ≡ m → spelled (Some (negsuc n)) 2 o ≡ in_order o 2 m
turned_two n m o lt e =
    let t : Turned n m 0 × Turned n m 1 = (omega arith, omega arith) in
    by_order (λ q. spelled (Some (negsuc n)) 2 q ≡ in_order q 2 m) (rw (t.0, t.1) refl) (rw (t.0, t.1) refl) o

turned_four : (n m : ℕ) (o : Order) → n < 2147483648 → 4294967295 - n ≡ m → spelled (Some (negsuc n)) 4 o ≡ in_order o 4 m
turned_four n m o lt e =
    let t : Turned n m 0 × Turned n m 1 × Turned n m 2 × Turned n m 3 = (omega arith, omega arith, omega arith, omega arith) in
    by_order (λ q. spelled (Some (negsuc n)) 4 q ≡ in_order q 4 m) (rw (t.0, t.1, t.2, t.3) refl) (rw (t.0, t.1, t.2, t.3) refl) o

turned_eight : (n m : ℕ) (o : Order) → n < 9223372036854775808 → 18446744073709551615 - n ≡ m
    → spelled (Some (negsuc n)) 8 o ≡ in_order o 8 m
turned_eight n m o lt e =
    let t : Turned n m 0 × Turned n m 1 × Turned n m 2 × Turned n m 3 = (omega arith, omega arith, omega arith, omega arith) in
    let u : Turned n m 4 × Turned n m 5 × Turned n m 6 × Turned n m 7 = (omega arith, omega arith, omega arith, omega arith) in
    by_order (λ q. spelled (Some (negsuc n)) 8 q ≡ in_order q 8 m)
    (rw (t.0, t.1, t.2, t.3, u.0, u.1, u.2, u.3) refl) (rw (t.0, t.1, t.2, t.3, u.0, u.1, u.2, u.3) refl) o

-- ---- a number that fits

spelled_pos : (w : ℕ) → Wide w → (n : ℕ) (o : Order) → spelled (Some (pos n)) w o ≡ in_order o w n
spelled_pos _ one n Little = refl
spelled_pos _ one n Big = refl
spelled_pos _ two n Little = refl
spelled_pos _ two n Big = refl
spelled_pos _ four n Little = refl
spelled_pos _ four n Big = refl
spelled_pos _ eight n Little = refl
spelled_pos _ eight n Big = refl

spelled_neg : (w : ℕ) → Wide w → (n m : ℕ) (o : Order) → word_number w (negsuc n) ≡ Some m → spelled (Some (negsuc n)) w o ≡ in_order o w m
spelled_neg _ one n m o e = let t = if_lt n 128 m (255 - n) e in turned_one n m o t.0 t.1
spelled_neg _ two n m o e = let t = if_lt n 32768 m (65535 - n) e in turned_two n m o t.0 t.1
spelled_neg _ four n m o e = let t = if_lt n 2147483648 m (4294967295 - n) e in turned_four n m o t.0 t.1
spelled_neg _ eight n m o e = let t = if_lt n 9223372036854775808 m (18446744073709551615 - n) e in turned_eight n m o t.0 t.1

number_pos : (w : ℕ) → Wide w → (n m : ℕ) → word_number w (pos n) ≡ Some m → n ≡ m
number_pos _ one n m e = (if_lt n 256 m n e).1
number_pos _ two n m e = (if_lt n 65536 m n e).1
number_pos _ four n m e = (if_lt n 4294967296 m n e).1
number_pos _ eight n m e = (if_lt n 18446744073709551616 m n e).1

-- the octets of a number that fits are those by place
spelled_word : (w : ℕ) → Wide w → (z : ℤ) (m : ℕ) (o : Order) → word_number w z ≡ Some m → spelled (Some z) w o ≡ in_order o w m
spelled_word w is (pos n) m o e = spelled_pos w is n o ∙ ap (λ (k : ℕ). in_order o w k) (number_pos w is n m e)
spelled_word w is (negsuc n) m o e = spelled_neg w is n m o e

-- the octets of a number that may be there, if it fits
pub word_spelled : (w : ℕ) → Wide w → (x : Option ℤ) (o : Order) → on_some x (word w o) ≡ fitting (lack w x) (spelled x w o)
word_spelled w is None o = refl
word_spelled w is (Some z) o = by (word_number w z) refl where
  by : (y : Option ℕ) → word_number w z ≡ y → on_some y (λ n. Some (in_order o w n)) ≡ fitting (absence y) (spelled (Some z) w o)
  by None e = refl
  by (Some m) e = ap (λ (l : List ℕ). Some l) (sym (spelled_word w is z m o e))

pub spelled_long : (w : ℕ) → Wide w → (x : Option ℤ) (o : Order) → length (spelled x w o) ≡ w
spelled_long _ one x Little = refl
spelled_long _ one x Big = refl
spelled_long _ two x Little = refl
spelled_long _ two x Big = refl
spelled_long _ four x Little = refl
spelled_long _ four x Big = refl
spelled_long _ eight x Little = refl
spelled_long _ eight x Big = refl
