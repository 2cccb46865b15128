-- Octets of which four are written anew are as many.
use Rattle.std.proofs.Common.{◌≡◌, ℕ, ◌+◌, ◌-◌, ◌%◌, ◌^◌, ◌≤◌, List, ◌++◌, length, take, drop, Some, None, Bool, true, false, nat_le, ◌&&◌, if◌then◌else◌, refl, sym, ap, ◌∙◌, arith, length-append, length-drop}
use Rattle.std.proofs.lemmas.Bool.{leb-true, and_parts}
use Rattle.std.proofs.lemmas.List.{length-take-le}
use Rattle.kit_base.specs.Bytes.{written}
use Rattle.wire_def.specs.declared.head.Order.{Order}
use Rattle.wire_def.specs.declared.head.Order.TheVariants.{Big, Little}
use Rattle.wire_def.specs.Orders.{in_order}
use Rattle.cast_stub.specs.Meaning.{patched}

pub length-written : (n : ℕ) (os f : List ℕ) → n + length os ≤ length f → length (written f n os) ≡ length f
length-written n os f h =
    length-append (take n f ++ os) (drop (n + length os) f)
    ∙ (omega (arith, length-append (take n f) os, length-drop (n + length os) f, length-take-le n f (omega arith)))

pub four : (order : Order) (n : ℕ) → length (in_order order 4 n) ≡ 4
four Big n = refl
four Little n = refl

pub patched_length : (base at sub : ℕ) (order : Order) (o x : List ℕ) → patched base at sub order o ≡ Some x → length x ≡ length o
patched_length base at sub order o x = by_test (nat_le base at && nat_le (at + 4) (base + length o)) refl where
  by_test : (b : Bool) → (nat_le base at && nat_le (at + 4) (base + length o)) ≡ b
      → (if b then Some (written o (at - base) (in_order order 4 ((base + length o + 2 ^ 32 - sub) % 2 ^ 32))) else None) ≡ Some x
      → length x ≡ length o
  by_test true t e =
      let n = (base + length o + 2 ^ 32 - sub) % 2 ^ 32 in
      let both = and_parts (nat_le base at) (nat_le (at + 4) (base + length o)) t in
      let low = leb-true base at both.0 in
      let high = leb-true (at + 4) (base + length o) both.1 in
      let same : written o (at - base) (in_order order 4 n) ≡ x = cc in
      sym (ap length same) ∙ length-written (at - base) (in_order order 4 n) o (omega (arith, four order n, low, high))
  by_test false t e = absurd cc
