-- A row is seen as its kind and its numbers, and kept as their image.
use Rattle.std.specs.Prelude.{IsTrue, ◌≡◌, ℕ, zero, suc, ◌/◌, ℤ, pos, List, [], ◌∷◌, ◌++◌, length, take, drop}
use Rattle.std.specs.List.{list_all}
use Rattle.std.specs.Int.{w8, w16, w32, w64, to_le_bytes, from_le_bytes, cast_unsigned, cast_signed}
use Rattle.mint.specs.declared.kind.Kind.{Kind}
use Rattle.mint.specs.declared.kind.Kind.TheVariants as kind
use Rattle.mint.specs.Kinds.{in_range, word, width}

pub record Numbers : Type 0 where
  pub kind : Kind
  pub numbers : List ℤ

-- the octets of a number: its two's complement, the least significant octet first
unfoldable pub octets_of : Kind → ℤ → List ℕ
octets_of k n = to_le_bytes (word k) (cast_unsigned (word k) n)

-- the number whose two's complement is a word
abbrev pub number_from : Kind → ℕ → ℤ
number_from kind.I8 m = cast_signed w8 m
number_from kind.I16 m = cast_signed w16 m
number_from kind.I32 m = cast_signed w32 m
number_from kind.I64 m = cast_signed w64 m
number_from _ m = pos m

-- the number that the octets of a word stand for
unfoldable pub number_in : Kind → List ℕ → ℤ
number_in k o = number_from k (from_le_bytes (word k) o)

-- the image of a list of numbers: their octets, one number after the other
abbrev pub image_of : Kind → List ℤ → List ℕ
image_of k [] = []
image_of k (n ∷ ns) = octets_of k n ++ image_of k ns

-- the first numbers of an image
unfoldable pub numbers_in : Kind → ℕ → List ℕ → List ℤ
numbers_in k zero o = []
numbers_in k (suc n) o = number_in k (take (width k) o) ∷ numbers_in k n (drop (width k) o)

-- the numbers of an image
unfoldable pub numbers_of : Kind → List ℕ → List ℤ
numbers_of k o = numbers_in k (length o / width k) o

-- octets that are the image of numbers of the kind
pub record IsImage (k : Kind) (o : List ℕ) : Type 0 where
  pub whole : image_of k (numbers_of k o) ≡ o
  pub ranged : IsTrue (list_all (in_range k) (numbers_of k o))
