-- Numbers that octets spell: each takes one, and none of them is a Bool.
use Rattle.std.proofs.Common.{◌≡◌, ℕ, ◌/◌, ◌%◌, pos, List, [], ◌∷◌, length, map, refl, ap, arith}
use Rattle.std.proofs.Math.Nat.{div-one}
use Rattle.mint.specs.declared.kind.Kind.{Kind}
use Rattle.mint.specs.declared.kind.Kind.TheVariants as kind
use Rattle.mint.specs.Kinds.{above, width}
use Rattle.mint.specs.Row.{number_in, numbers_in, numbers_of}

octet_numbers_in : (k : Kind) → above k ≡ 256 → (o : List ℕ) → numbers_in k (length o) o ≡ map pos o
unfolding numbers_in number_in
octet_numbers_in k wide [] = refl
octet_numbers_in kind.Octet wide (b ∷ o) = ap (λ z. pos b ∷ z) (octet_numbers_in kind.Octet wide o)
octet_numbers_in kind.U8 wide (b ∷ o) = ap (λ z. pos b ∷ z) (octet_numbers_in kind.U8 wide o)
octet_numbers_in kind.Char wide (b ∷ o) = ap (λ z. pos b ∷ z) (octet_numbers_in kind.Char wide o)
octet_numbers_in kind.I8 wide (b ∷ o) = absurd (omega arith)
octet_numbers_in kind.I16 wide (b ∷ o) = absurd (omega arith)
octet_numbers_in kind.U16 wide (b ∷ o) = absurd (omega arith)
octet_numbers_in kind.I32 wide (b ∷ o) = absurd (omega arith)
octet_numbers_in kind.U32 wide (b ∷ o) = absurd (omega arith)
octet_numbers_in kind.I64 wide (b ∷ o) = absurd (omega arith)
octet_numbers_in kind.U64 wide (b ∷ o) = absurd (omega arith)
octet_numbers_in kind.Bool wide (b ∷ o) = absurd (omega arith)

narrow_width : (k : Kind) → above k ≡ 256 → width k ≡ 1
narrow_width kind.Octet h = refl
narrow_width kind.U8 h = refl
narrow_width kind.Char h = refl
narrow_width kind.I8 h = absurd (omega arith)
narrow_width kind.I16 h = absurd (omega arith)
narrow_width kind.U16 h = absurd (omega arith)
narrow_width kind.I32 h = absurd (omega arith)
narrow_width kind.U32 h = absurd (omega arith)
narrow_width kind.I64 h = absurd (omega arith)
narrow_width kind.U64 h = absurd (omega arith)
narrow_width kind.Bool h = absurd (omega arith)

pub octet_numbers : (k : Kind) (o : List ℕ) → above k ≡ 256 → numbers_of k o ≡ map pos o
unfolding numbers_of
octet_numbers k o wide =
    let one : length o / width k ≡ length o = rw (narrow_width k wide) (div-one (length o)) in
    rw one (octet_numbers_in k wide o)

-- each number of octets takes one, and none of them is a Bool
pub whole_octets : (k : Kind) (o : List ℕ) → above k ≡ 256 → length o % width k ≡ 0
whole_octets k o wide = rw (narrow_width k wide) (omega arith)

pub not_bool : (k : Kind) → above k ≡ 256 → k ≡ kind.Bool → ⊥
not_bool k wide is = let two : 2 ≡ 256 = rw is at wide in absurd (omega (arith, two))
