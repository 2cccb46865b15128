-- How many numbers an image has, and what is where, by induction on how many there are.
use Rattle.std.proofs.Common.{◌≡◌, ℕ, zero, suc, ◌+◌, ◌-◌, ◌*◌, ◌/◌, ◌<◌, ◌≤◌, ℤ, List, [], ◌∷◌, length, take, drop, None, Some, slice_get, refl, sym, ap, ◌∙◌, arith}
use Rattle.std.proofs.lemmas.List.{drop-drop}
use Rattle.mint.specs.declared.kind.Kind.{Kind}
use Rattle.mint.specs.declared.kind.Kind.TheVariants as kind
use Rattle.mint.specs.Kinds.{width}
use Rattle.mint.specs.Row.{number_in, numbers_in, numbers_of}

many_in : (k : Kind) (n : ℕ) (o : List ℕ) → length (numbers_in k n o) ≡ n
unfolding numbers_in
many_in k zero o = refl
many_in k (suc n) o = ap suc (many_in k n (drop (width k) o))

pub numbers_many : (k : Kind) (o : List ℕ) → length (numbers_of k o) ≡ length o / width k
unfolding numbers_of
numbers_many k o = many_in k (length o / width k) o

-- a number lies within the image
pub place_fits : (k : Kind) (i l : ℕ) → i < l / width k → i * width k + width k ≤ l
place_fits kind.Octet i l h = omega arith
place_fits kind.I8 i l h = omega arith
place_fits kind.U8 i l h = omega arith
place_fits kind.Char i l h = omega arith
place_fits kind.I16 i l h = omega arith
place_fits kind.U16 i l h = omega arith
place_fits kind.I32 i l h = omega arith
place_fits kind.U32 i l h = omega arith
place_fits kind.I64 i l h = omega arith
place_fits kind.U64 i l h = omega arith
place_fits kind.Bool i l h = omega arith

pub place_within : (k : Kind) (i l w : ℕ) → w ≡ width k → i < l / w → i * w + w ≤ l
place_within k i l w e h = rw e (place_fits k i l (rw e at h))

number_at : (k : Kind) (n : ℕ) (o : List ℕ) (i : ℕ) → i < n
    → slice_get (numbers_in k n o) i ≡ Some (number_in k (take (width k) (drop (i * width k) o)))
unfolding numbers_in
number_at k zero o i h = absurd (omega arith)
number_at k (suc n) o zero h = let none : 0 ≡ 0 * width k = omega arith in ap (λ z. Some (number_in k (take (width k) (drop z o)))) none
number_at k (suc n) o (suc i) h =
    let next : width k + i * width k ≡ suc i * width k = omega arith in
    number_at k n (drop (width k) o) i (omega arith)
    ∙ ap (λ z. Some (number_in k (take (width k) z))) (drop-drop (i * width k) (width k) o ∙ ap (λ z. drop z o) next)

-- the number at a place is that of its octets
pub number_there : (k : Kind) (o : List ℕ) (i : ℕ) → i < length o / width k
    → slice_get (numbers_of k o) i ≡ Some (number_in k (take (width k) (drop (i * width k) o)))
unfolding numbers_of
number_there k o i h = number_at k (length o / width k) o i h

get_past : (ns : List ℤ) (i : ℕ) → length ns ≤ i → slice_get ns i ≡ None
get_past [] i h = refl
get_past (n ∷ ns) zero h = absurd (omega arith)
get_past (n ∷ ns) (suc i) h = get_past ns i (omega arith)

pub number_past : (k : Kind) (o : List ℕ) (i : ℕ) → length o / width k ≤ i → slice_get (numbers_of k o) i ≡ None
number_past k o i h = get_past (numbers_of k o) i (omega (arith, numbers_many k o))

-- what is read at a place
pub number_got : (k : Kind) (o : List ℕ) (ns : List ℤ) (i w : ℕ) (n : ℤ) → w ≡ width k → numbers_of k o ≡ ns
    → i < length o / w → n ≡ number_in k (take (i * w + w - i * w) (drop (i * w) o))
    → Some n ≡ slice_get ns i
number_got k o ns i w n e same h is =
    let wide : i * w + w - i * w ≡ w = omega arith in
    rw (← same, is, wide, e) (sym (number_there k o i (rw e at h)))

pub none_got : (k : Kind) (o : List ℕ) (ns : List ℤ) (i w : ℕ) → w ≡ width k → numbers_of k o ≡ ns → length o / w ≤ i
    → None ≡ slice_get ns i
none_got k o ns i w e same h = rw (← same) (sym (number_past k o i (rw e at h)))

pub number_missing : (ns : List ℤ) (i : ℕ) → slice_get ns i ≡ None → length ns ≤ i
number_missing [] i h = omega arith
number_missing (m ∷ ns) zero h = absurd cc
number_missing (m ∷ ns) (suc i) h = let more = number_missing ns i h in omega arith
