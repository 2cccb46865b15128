-- The octets of a number, as a put stores it and as it is sent.
use Rattle.std.proofs.Common.{◌≡◌, ℕ, ◌-◌, ◌%◌, ◌<◌, ℤ, pos, negsuc, [], ◌∷◌, Bool, true, false, Option, Some, None, if◌then◌else◌, refl, ap, ◌∙◌, arith}
use Rattle.std.specs.Prelude.{nat_lt}
use Rattle.std.specs.Int.{Width, w8, w16, w32, w64, byte_len}
use Rattle.mint.specs.Types.{Scalar, number, label}
use Rattle.mint.specs.Typed.{IsScalar}
use Rattle.wire_def.specs.Orders.{in_order}
use Rattle.wire_def.specs.declared.encoding.Encoding.{Encoding}
use Rattle.wire_def.specs.declared.encoding.Encoding.TheVariants.{Xdr, CdrBig, CdrLittle, Mach}
use Rattle.wire_def.specs.declared.head.Order.{Order}
use Rattle.wire_def.specs.declared.head.Order.TheVariants.{Big, Little}
use Rattle.wire_def.specs.Scalars.{is_signed, number_octets, residue, width_of}
use Rattle.wire_def.proofs.ScalarGrammar.{FitsIn, fits_in}
use Rattle.wire_def.proofs.Words.{IsOwn, is8, is16, is32, is64, own_of}
use Rattle.cast_stub.specs.Parts.{on_some}
use Rattle.cast_stub.specs.Puts.{word}
use Rattle.cast_stub.proofs.Putting.{if_below}
use Rattle.cast_stub.specs.Layouts.{order_of, scalar_width}

-- the octets of a number below a bound, kept in a word of so many octets
in_word : (o : Order) (k n r m most : ℕ) → n < most → r ≡ m
    → on_some (if nat_lt n most then Some r else None) (λ (m : ℕ). Some (in_order o k m)) ≡ Some (in_order o k m)
in_word o k n r m most lt same = ap (λ (x : Option ℕ). on_some x (λ (m : ℕ). Some (in_order o k m))) (if_below n r m most lt same)

-- a number with or without a sign, where the width has room for it
word_signed : (signed : Bool) (w : Width) → IsOwn w → (o : Order) (z : ℤ) → FitsIn signed w z
    → word (byte_len w) o z ≡ Some (in_order o (byte_len w) (residue w z))
unfolding FitsIn
word_signed true _ is8 o (pos n) h = in_word o 1 n n (n % 256) 256 (omega arith) (omega arith)
word_signed true _ is8 o (negsuc n) h = in_word o 1 n (255 - n) (255 - n % 256) 128 h (omega arith)
word_signed true _ is16 o (pos n) h = in_word o 2 n n (n % 65536) 65536 (omega arith) (omega arith)
word_signed true _ is16 o (negsuc n) h = in_word o 2 n (65535 - n) (65535 - n % 65536) 32768 h (omega arith)
word_signed true _ is32 o (pos n) h = in_word o 4 n n (n % 4294967296) 4294967296 (omega arith) (omega arith)
word_signed true _ is32 o (negsuc n) h = in_word o 4 n (4294967295 - n) (4294967295 - n % 4294967296) 2147483648 h (omega arith)
word_signed true _ is64 o (pos n) h = in_word o 8 n n (n % 18446744073709551616) 18446744073709551616 (omega arith) (omega arith)
word_signed true _ is64 o (negsuc n) h =
    in_word o 8 n (18446744073709551615 - n) (18446744073709551615 - n % 18446744073709551616) 9223372036854775808 h (omega arith)
word_signed false _ is8 o (pos n) h = in_word o 1 n n (n % 256) 256 h (omega arith)
word_signed false _ is16 o (pos n) h = in_word o 2 n n (n % 65536) 65536 h (omega arith)
word_signed false _ is32 o (pos n) h = in_word o 4 n n (n % 4294967296) 4294967296 h (omega arith)
word_signed false _ is64 o (pos n) h = in_word o 8 n n (n % 18446744073709551616) 18446744073709551616 h (omega arith)
word_signed false w own o (negsuc n) h = absurd h

pub order_octets : (e : Encoding) (w : Width) (m : ℕ) → in_order (order_of e) (byte_len w) m ≡ number_octets e w m
order_octets Xdr w m = refl
order_octets CdrBig w m = refl
order_octets CdrLittle w m = refl
order_octets Mach w m = refl

pub width_same : (e : Encoding) (s : Scalar) → scalar_width e s ≡ byte_len (width_of e s)
width_same e (number k) = refl
width_same Xdr (label ls) = refl
width_same CdrBig (label ls) = refl
width_same CdrLittle (label ls) = refl
width_same Mach (label ls) = refl

-- a scalar of the encoding, as it is sent
pub scalar_word : (e : Encoding) (s : Scalar) (z : ℤ) → IsScalar s z
    → word (scalar_width e s) (order_of e) z ≡ Some (number_octets e (width_of e s) (residue (width_of e s) z))
scalar_word e s z h =
    ap (λ (n : ℕ). word n (order_of e) z) (width_same e s)
    ∙ word_signed (is_signed s) (width_of e s) (own_of e s) (order_of e) z (fits_in e s z h)
    ∙ ap Some (order_octets e (width_of e s) (residue (width_of e s) z))

-- an octet by itself
pub word-octet : (o : Order) (n : ℕ) → n < 256 → word 1 o (pos n) ≡ Some (n ∷ [])
word-octet Big n h =
    let same : n % 256 % 256 ≡ n = omega arith in
    in_word Big 1 n n (n % 256) 256 h (omega arith) ∙ ap (λ (m : ℕ). Some (m ∷ [])) same
word-octet Little n h =
    let same : n % 256 % 256 ≡ n = omega arith in
    in_word Little 1 n n (n % 256) 256 h (omega arith) ∙ ap (λ (m : ℕ). Some (m ∷ [])) same
