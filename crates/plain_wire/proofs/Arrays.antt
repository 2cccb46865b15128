-- The octets of an array, by the sort of its elements, by induction on the elements.
use Rattle.std.proofs.Common.{◌≡◌, ℕ, ◌+◌, ◌-◌, ◌*◌, ◌%◌, ◌<◌, arith, ℤ, List, [], ◌∷◌, length, map, true, false, not, int_eq, refl, ap, pos, negsuc}
use Rattle.std.specs.List.{list_all}
use Rattle.mint.specs.declared.kind.Kind.{Kind}
use Rattle.mint.specs.declared.kind.Kind.TheVariants as kind
use Rattle.mint.specs.declared.kind.Count.{Count}
use Rattle.mint.specs.Kinds.{in_range, is_letter}
use Rattle.mint.specs.Types.{Array, text, row_of, number}
use Rattle.wire_def.specs.declared.encoding.Encoding.{Encoding}
use Rattle.wire_def.specs.declared.encoding.Encoding.TheVariants.{Xdr, CdrBig, CdrLittle, Mach}
use Rattle.wire_def.specs.Scalars.{gap, scalar_octets}
use Rattle.wire_def.specs.Arrays.{natural, is_octets, element_octets, elements_octets, array_octets, trailing}
use Rattle.plain_wire.specs.Sending.{elements_of, in_full}
use Rattle.plain_wire.proofs.Steps.{equations}
use Rattle.wire_def.proofs.ScalarGrammar.{left_true, right_true}
use Rattle.std.proofs.lemmas.Bool.{and_from}

-- where each element is one octet
elements_are_octets : (one : ℕ → ℤ → List ℕ) → ((p : ℕ) (n : ℤ) → one p n ≡ natural n ∷ []) → (p : ℕ) (ns : List ℤ)
    → elements_octets one p ns ≡ map natural ns
unfolding elements_octets
elements_are_octets one each p [] = refl
elements_are_octets one each p (n ∷ ns) = rw (each p n) (ap (λ z. natural n ∷ z) (elements_are_octets one each (p + 1) ns))

octet_element : (e : Encoding) (a : Array) → is_octets a ≡ true → (p : ℕ) (n : ℤ) → element_octets e a p n ≡ natural n ∷ []
unfolding element_octets
octet_element e a is p n = rw is refl

scalar_element : (e : Encoding) (k : Kind) (c : Count) → is_octets (row_of k c) ≡ false → (p : ℕ) (n : ℤ)
    → element_octets e (row_of k c) p n ≡ scalar_octets e (number k) p n
unfolding element_octets
scalar_element e k c is p n = rw is refl

same_elements : (one two : ℕ → ℤ → List ℕ) → ((p : ℕ) (n : ℤ) → one p n ≡ two p n) → (p : ℕ) (ns : List ℤ)
    → elements_octets one p ns ≡ elements_octets two p ns
unfolding elements_octets
same_elements one two same p [] = refl
same_elements one two same p (n ∷ ns) = rw (same p n, same_elements one two same (p + length (two p n)) ns) refl

pub text_elements : (e : Encoding) (c : Count) (p : ℕ) (ns : List ℤ) → elements_of e (text c) p ns ≡ map natural ns
text_elements e c p ns = elements_are_octets (element_octets e (text c)) (octet_element e (text c) refl) p ns

pub octet_elements : (e : Encoding) (c : Count) (p : ℕ) (ns : List ℤ) → elements_of e (row_of kind.Octet c) p ns ≡ map natural ns
octet_elements e c p ns = elements_are_octets (element_octets e (row_of kind.Octet c)) (octet_element e (row_of kind.Octet c) refl) p ns

other_row : (e : Encoding) (k : Kind) (c : Count) (p : ℕ) (ns : List ℤ) → is_octets (row_of k c) ≡ false
    → elements_of e (row_of k c) p ns ≡ elements_octets (scalar_octets e (number k)) p ns
other_row e k c p ns is = same_elements (element_octets e (row_of k c)) (scalar_octets e (number k)) (scalar_element e k c is) p ns

pub other_elements : (e : Encoding) (k : Kind) (c : Count) (p : ℕ) (ns : List ℤ) → (k ≡ kind.Octet → ⊥)
    → elements_of e (row_of k c) p ns ≡ elements_octets (scalar_octets e (number k)) p ns
other_elements e kind.Octet c p ns other = absurd (other refl)
other_elements e k c p ns other = other_row e k c p ns refl

-- an array is its head, its elements and its end
pub array_in_full : (e : Encoding) (a : Array) (p : ℕ) (ns : List ℤ) → array_octets e a p ns ≡ in_full e a p ns
unfolding array_octets
array_in_full e a p ns = refl

char_octet : (n : ℤ) → in_range kind.Char n ≡ true → in_range kind.Octet n ≡ true
char_octet (pos m) h = h
char_octet (negsuc m) h = h

-- letters are octets
pub letters_fit : (ns : List ℤ) → list_all is_letter ns ≡ true → list_all (in_range kind.Octet) ns ≡ true
letters_fit [] h = refl
letters_fit (n ∷ ns) h =
    let char : in_range kind.Char n ≡ true = left_true (in_range kind.Char n) (not (int_eq n (pos 0)))
    (left_true (is_letter n) (list_all is_letter ns) h) in
    and_from (in_range kind.Octet n) _ (char_octet n char) (letters_fit ns (right_true (is_letter n) _ h))

pub ruleset rows = (octet_elements, other_elements)

pub gap_few : (n : ℕ) → gap n 4 < 8
gap_few n = omega arith

pub xdr_other : (k : Kind) (c : Count) (n : ℕ) → (k ≡ kind.Octet → ⊥) → 0 ≡ trailing Xdr (row_of k c) n
xdr_other kind.Octet c n other = absurd (other refl)
xdr_other k c n other = refl

pub cdr_row : (e : Encoding) (k : Kind) (c : Count) (n : ℕ) → (e ≡ Xdr → ⊥) → (e ≡ Mach → ⊥) → 0 ≡ trailing e (row_of k c) n
cdr_row Xdr k c n a b = absurd (a refl)
cdr_row CdrBig k c n a b = refl
cdr_row CdrLittle k c n a b = refl
cdr_row Mach k c n a b = absurd (b refl)

pub cdr_text : (e : Encoding) (c : Count) (n : ℕ) → (e ≡ Xdr → ⊥) → (e ≡ Mach → ⊥) → 1 ≡ trailing e (text c) n
cdr_text Xdr c n a b = absurd (a refl)
cdr_text CdrBig c n a b = refl
cdr_text CdrLittle c n a b = refl
cdr_text Mach c n a b = absurd (b refl)

-- octets, pairs of octets, and fours or eights of them, up to a multiple of 4

pub ones_end : (n : ℕ) → (4 - n % 4) % 4 ≡ gap (n * 1) 4
ones_end n = omega arith

pub twos_end : (n : ℕ) → n % 2 * 2 ≡ gap (n * 2) 4
twos_end n = omega arith

pub fours_end : (n : ℕ) → 0 ≡ gap (n * 4) 4
fours_end n = omega arith

pub eights_end : (n : ℕ) → 0 ≡ gap (n * 8) 4
eights_end n = omega arith

pub ruleset tails = (gap_few, xdr_other, cdr_row, cdr_text, ones_end, twos_end, fours_end, eights_end)

pub ruleset texts = (equations, text_elements, letters_fit)

pub ruleset wholes = (equations, array_in_full)
