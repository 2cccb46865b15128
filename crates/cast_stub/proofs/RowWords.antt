-- The octets of a number of a kind, as code puts them.
use Rattle.std.proofs.Common.{◌≡◌, ℕ, ◌-◌, ◌<◌, ℤ, pos, negsuc, List, reverse, Option, None, Some, IsTrue, if◌then◌else◌, refl, ap, ◌∙◌, arith}
use Rattle.std.specs.Prelude.{nat_lt}
use Rattle.std.specs.Int.{w8, w16, w32, w64, to_le_bytes, cast_unsigned}
use Rattle.std.proofs.lemmas.Bool.{ltb-true}
use Rattle.kit_base.specs.Bytes.{be}
use Rattle.mint.specs.declared.kind.Kind.{Kind}
use Rattle.mint.specs.declared.kind.Kind.TheVariants as kind
use Rattle.mint.specs.Kinds.{in_range, word as own_word, width}
use Rattle.mint.specs.Row.{octets_of}
use Rattle.wire_def.specs.declared.head.Order.TheVariants.{Big, Little}
use Rattle.wire_def.specs.Orders.{in_order}
use Rattle.cast_stub.specs.Parts.{on_some}
use Rattle.cast_stub.specs.Puts.{word, half_of, wrapped}
use Rattle.cast_stub.proofs.Putting.{if_below}

-- a number that a kind can hold, kept in its word
kept : (n r m top most : ℕ) → IsTrue (nat_lt n top) → (n < top → (n < most) × (r ≡ m)) → (if nat_lt n most then Some r else None) ≡ Some m
kept n r m top most h so = let f = so (ltb-true n top h) in if_below n r m most f.0 f.1

-- a number of the kind in its word
wrapped_is : (k : Kind) (z : ℤ) → IsTrue (in_range k z)
    → on_some (half_of (width k)) (λ h. wrapped h z) ≡ Some (cast_unsigned (own_word k) z)
wrapped_is kind.Octet (pos n) h = kept n n (cast_unsigned w8 (pos n)) 256 256 h (λ lt. (lt, omega arith))
wrapped_is kind.U8 (pos n) h = kept n n (cast_unsigned w8 (pos n)) 256 256 h (λ lt. (lt, omega arith))
wrapped_is kind.Char (pos n) h = kept n n (cast_unsigned w8 (pos n)) 256 256 h (λ lt. (lt, omega arith))
wrapped_is kind.Bool (pos n) h = kept n n (cast_unsigned w8 (pos n)) 2 256 h (λ lt. (omega (arith, lt), omega arith))
wrapped_is kind.U16 (pos n) h = kept n n (cast_unsigned w16 (pos n)) 65536 65536 h (λ lt. (lt, omega arith))
wrapped_is kind.U32 (pos n) h = kept n n (cast_unsigned w32 (pos n)) 4294967296 4294967296 h (λ lt. (lt, omega arith))
wrapped_is kind.U64 (pos n) h = kept n n (cast_unsigned w64 (pos n)) 18446744073709551616 18446744073709551616 h (λ lt. (lt, omega arith))
wrapped_is kind.I8 (pos n) h = kept n n (cast_unsigned w8 (pos n)) 128 256 h (λ lt. (omega (arith, lt), omega arith))
wrapped_is kind.I16 (pos n) h = kept n n (cast_unsigned w16 (pos n)) 32768 65536 h (λ lt. (omega (arith, lt), omega arith))
wrapped_is kind.I32 (pos n) h = kept n n (cast_unsigned w32 (pos n)) 2147483648 4294967296 h (λ lt. (omega (arith, lt), omega arith))
wrapped_is kind.I64 (pos n) h =
    kept n n (cast_unsigned w64 (pos n)) 9223372036854775808 18446744073709551616 h (λ lt. (omega (arith, lt), omega arith))
wrapped_is kind.I8 (negsuc n) h = kept n (255 - n) (cast_unsigned w8 (negsuc n)) 128 128 h (λ lt. (lt, omega arith))
wrapped_is kind.I16 (negsuc n) h = kept n (65535 - n) (cast_unsigned w16 (negsuc n)) 32768 32768 h (λ lt. (lt, omega arith))
wrapped_is kind.I32 (negsuc n) h = kept n (4294967295 - n) (cast_unsigned w32 (negsuc n)) 2147483648 2147483648 h (λ lt. (lt, omega arith))
wrapped_is kind.I64 (negsuc n) h =
    kept n (18446744073709551615 - n) (cast_unsigned w64 (negsuc n)) 9223372036854775808 9223372036854775808 h (λ lt. (lt, omega arith))
wrapped_is _ (negsuc n) h = absurd (omega (arith, ltb-true n 0 h))

-- the octets of a word in the other order
big_octets : (k : Kind) (m : ℕ) → be (width k) m ≡ reverse (to_le_bytes (own_word k) m)
big_octets kind.Octet m = refl
big_octets _ m = refl

-- the octets of a number of the kind, in either order
pub word_little : (k : Kind) (z : ℤ) → IsTrue (in_range k z) → word (width k) Little z ≡ Some (octets_of k z)
unfolding octets_of
word_little k z h = ap (λ (x : Option ℕ). on_some x (λ n. Some (in_order Little (width k) n))) (wrapped_is k z h)

pub word_big : (k : Kind) (z : ℤ) → IsTrue (in_range k z) → word (width k) Big z ≡ Some (reverse (octets_of k z))
unfolding octets_of
word_big k z h = ap (λ (x : Option ℕ). on_some x (λ n. Some (in_order Big (width k) n))) (wrapped_is k z h)
    ∙ ap Some (big_octets k (cast_unsigned (own_word k) z))
