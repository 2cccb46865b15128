-- An image gives its numbers back, and numbers their image, by induction on the numbers and on how many they are.
use Rattle.std.proofs.Common.{FitsSigned, ◌≡◌, ◌≢◌, IsTrue, Bool, true, cond, ltb, not, ◌==◌, ℕ, zero, suc, ◌+◌, ◌-◌, ◌*◌, ◌/◌, ◌%◌, ◌^◌, ◌<◌, ℤ, pos, negsuc, List, [], ◌∷◌, ◌++◌, length, get_or, take, drop, Result, Ok, Err, OnOk, OnErr, refl, sym, ap, ◌∙◌, subst, inl, inr, append_assoc, length-append, append-nil, add-one, arith}
use Rattle.std.specs.List.{list_all, AllByRecursion}
use Rattle.std.specs.Int.{Width, w8, w16, w32, w64, w128, byte_at, to_le_bytes, from_le_bytes, cast_unsigned, cast_signed}
use Rattle.std.proofs.Math.Nat.{add-div_left}
use Rattle.std.specs.Ordering.{int_eq}
use Rattle.std.proofs.lemmas.Bool.Decides.{nat_tests}
use Rattle.std.proofs.lemmas.Bool.{cases_lt, ltb-true, lt-ltb, le-ltb, and_parts, and_from}
use Rattle.std.proofs.lemmas.Int.{to_z-of_z, of_z-to_z}
use Rattle.std.proofs.lemmas.List.{take_at, drop_at, take-append-drop, length-take, length-drop}
use Rattle.std.proofs.lemmas.Nat.{div-add-mod', le_bytes_2, le_bytes_4, le_bytes_8, from_le_bytes-to_le_bytes_2, from_le_bytes-to_le_bytes_4, from_le_bytes-to_le_bytes_8}
use Rattle.kit_base.specs.declared.errors.NoMemory.{NoMemory}
use Rattle.mint.specs.declared.kind.Kind.{Kind}
use Rattle.mint.specs.declared.kind.Kind.TheVariants as kind
use Rattle.mint.specs.Kinds.{above, under, in_range, is_letter, word, width}
use Rattle.mint.specs.Row.{Numbers, octets_of, number_in, image_of, numbers_in, numbers_of, IsImage}

-- each is an octet
abbrev pub AreOctets : List ℕ → Type 0
AreOctets o = (i : ℕ) → get_or o i 0 < 256

-- ---- one number

pub some_octets : (k : Kind) → 0 < width k
some_octets kind.Octet = omega arith
some_octets kind.I8 = omega arith
some_octets kind.U8 = omega arith
some_octets kind.Char = omega arith
some_octets kind.I16 = omega arith
some_octets kind.U16 = omega arith
some_octets kind.I32 = omega arith
some_octets kind.U32 = omega arith
some_octets kind.I64 = omega arith
some_octets kind.U64 = omega arith
some_octets kind.Bool = omega arith

pub octets_many : (k : Kind) (n : ℤ) → length (octets_of k n) ≡ width k
unfolding octets_of
octets_many kind.Octet n = refl
octets_many kind.I8 n = refl
octets_many kind.U8 n = refl
octets_many kind.Char n = refl
octets_many kind.I16 n = refl
octets_many kind.U16 n = refl
octets_many kind.I32 n = refl
octets_many kind.U32 n = refl
octets_many kind.I64 n = refl
octets_many kind.U64 n = refl
octets_many kind.Bool n = refl

-- a signed number in its word
signed : (w : Width) (read : ℕ → ℕ) (z : ℤ) → FitsSigned w z → read (cast_unsigned w z) ≡ cast_unsigned w z
    → cast_signed w (read (cast_unsigned w z)) ≡ z
signed w read z fits same = ap (cast_signed w) same ∙ to_z-of_z w z fits

-- a number of the kind in its word
pub number_back : (k : Kind) (n : ℤ) → IsTrue (in_range k n) → number_in k (octets_of k n) ≡ n
unfolding number_in octets_of
number_back kind.Octet (pos n) h = let lt : n < 256 = ltb-true n 256 h in ap pos (omega arith)
number_back kind.U8 (pos n) h = let lt : n < 256 = ltb-true n 256 h in ap pos (omega arith)
number_back kind.Char (pos n) h = let lt : n < 256 = ltb-true n 256 h in ap pos (omega arith)
number_back kind.Bool (pos n) h = let lt : n < 2 = ltb-true n 2 h in ap pos (omega arith)
number_back kind.U16 (pos n) h = ap pos (from_le_bytes-to_le_bytes_2 n (ltb-true n 65536 h))
number_back kind.U32 (pos n) h = ap pos (from_le_bytes-to_le_bytes_4 n (ltb-true n 4294967296 h))
number_back kind.U64 (pos n) h = ap pos (from_le_bytes-to_le_bytes_8 n (ltb-true n 18446744073709551616 h))
number_back kind.I8 (pos n) h = let lt : n < 128 =
    ltb-true n 128 h in signed w8 (λ m. m % 256) (pos n) (record { sfits = lt }) (omega arith)
number_back kind.I8 (negsuc n) h = let lt : n < 128 =
    ltb-true n 128 h in signed w8 (λ m. m % 256) (negsuc n) (record { sfits = lt }) (omega arith)
number_back kind.I16 (pos n) h = let lt : n < 32768 =
    ltb-true n 32768 h in signed w16
    (λ m. from_le_bytes w16 (to_le_bytes w16 m)) (pos n) (record { sfits = lt }) (from_le_bytes-to_le_bytes_2 _ (omega arith))
number_back kind.I16 (negsuc n) h = let lt : n < 32768 =
    ltb-true n 32768 h in signed w16
    (λ m. from_le_bytes w16 (to_le_bytes w16 m)) (negsuc n) (record { sfits = lt }) (from_le_bytes-to_le_bytes_2 _ (omega arith))
number_back kind.I32 (pos n) h = let lt : n < 2147483648 =
    ltb-true n 2147483648 h in signed w32
    (λ m. from_le_bytes w32 (to_le_bytes w32 m)) (pos n) (record { sfits = lt }) (from_le_bytes-to_le_bytes_4 _ (omega arith))
number_back kind.I32 (negsuc n) h = let lt : n < 2147483648 =
    ltb-true n 2147483648 h in signed w32
    (λ m. from_le_bytes w32 (to_le_bytes w32 m)) (negsuc n) (record { sfits = lt }) (from_le_bytes-to_le_bytes_4 _ (omega arith))
number_back kind.I64 (pos n) h = let lt : n < 9223372036854775808 =
    ltb-true n 9223372036854775808 h in signed w64
    (λ m. from_le_bytes w64 (to_le_bytes w64 m)) (pos n) (record { sfits = lt }) (from_le_bytes-to_le_bytes_8 _ (omega arith))
number_back kind.I64 (negsuc n) h = let lt : n < 9223372036854775808 =
    ltb-true n 9223372036854775808 h in signed w64
    (λ m. from_le_bytes w64 (to_le_bytes w64 m)) (negsuc n) (record { sfits = lt }) (from_le_bytes-to_le_bytes_8 _ (omega arith))
number_back kind.Octet (negsuc n) h = absurd (omega (arith, ltb-true n 0 h))
number_back kind.U8 (negsuc n) h = absurd (omega (arith, ltb-true n 0 h))
number_back kind.Char (negsuc n) h = absurd (omega (arith, ltb-true n 0 h))
number_back kind.Bool (negsuc n) h = absurd (omega (arith, ltb-true n 0 h))
number_back kind.U16 (negsuc n) h = absurd (omega (arith, ltb-true n 0 h))
number_back kind.U32 (negsuc n) h = absurd (omega (arith, ltb-true n 0 h))
number_back kind.U64 (negsuc n) h = absurd (omega (arith, ltb-true n 0 h))

one_octet : (k : Kind) (o : List ℕ) → word k ≡ w8 → length o ≡ 1 → AreOctets o → to_le_bytes w8 (from_le_bytes w8 o) ≡ o
one_octet k [] w len oct = absurd (omega arith)
one_octet k (a ∷ []) w len oct = let lt : a < 256 = oct 0 in ap (λ z. z ∷ []) (omega arith)
one_octet k (a ∷ b ∷ o) w len oct = absurd (omega arith)

-- a word below its span, of which the signed number has the same word
turned : (w : Width) (m : ℕ) (o : List ℕ) → cast_unsigned w (cast_signed w m) ≡ m → to_le_bytes w m ≡ o
    → to_le_bytes w (cast_unsigned w (cast_signed w m)) ≡ o
turned w m o same is = ap (to_le_bytes w) same ∙ is

below_2 : (o : List ℕ) → AreOctets o → from_le_bytes w16 o < 65536
below_2 o oct = omega (arith, oct 0, oct 1)

below_4 : (o : List ℕ) → AreOctets o → from_le_bytes w32 o < 4294967296
below_4 o oct = omega (arith, oct 0, oct 1, oct 2, oct 3)

below_8 : (o : List ℕ) → AreOctets o → from_le_bytes w64 o < 18446744073709551616
below_8 o oct = omega (arith, oct 0, oct 1, oct 2, oct 3, oct 4, oct 5, oct 6, oct 7)

-- the octets of a word are those of its number
pub octets_back : (k : Kind) (o : List ℕ) → length o ≡ width k → AreOctets o → octets_of k (number_in k o) ≡ o
unfolding number_in octets_of
octets_back kind.Octet o len oct = one_octet kind.Octet o refl len oct
octets_back kind.U8 o len oct = one_octet kind.U8 o refl len oct
octets_back kind.Char o len oct = one_octet kind.Char o refl len oct
octets_back kind.Bool o len oct = one_octet kind.Bool o refl len oct
octets_back kind.I8 o len oct = turned w8 _ o (of_z-to_z w8 (from_le_bytes w8 o) (oct 0)) (one_octet kind.I8 o refl len oct)
octets_back kind.U16 o len oct = le_bytes_2 o _ len oct refl
octets_back kind.U32 o len oct = le_bytes_4 o _ len oct refl
octets_back kind.U64 o len oct = le_bytes_8 o _ len oct refl
octets_back kind.I16 o len oct = turned w16 _ o (of_z-to_z w16 (from_le_bytes w16 o) (below_2 o oct)) (le_bytes_2 o _ len oct refl)
octets_back kind.I32 o len oct = turned w32 _ o (of_z-to_z w32 (from_le_bytes w32 o) (below_4 o oct)) (le_bytes_4 o _ len oct refl)
octets_back kind.I64 o len oct = turned w64 _ o (of_z-to_z w64 (from_le_bytes w64 o) (below_8 o oct)) (le_bytes_8 o _ len oct refl)

-- the low octets of a wide number

listed_2 : {a b c d : ℕ} → a ≡ c → b ≡ d → a ∷ b ∷ [] ≡ c ∷ d ∷ []
listed_2 p q = cc

low_1 : (h y : ℕ) → take 1 (to_le_bytes w128 (h * 256 + y)) ≡ to_le_bytes w8 y
low_1 h y = ap (λ z. z ∷ []) (omega arith)

low_2 : (h y : ℕ) → take 2 (to_le_bytes w128 (h * 65536 + y)) ≡ to_le_bytes w16 y
low_2 h y = listed_2 (omega arith) (omega arith)

low_4 : (h y : ℕ) → take 4 (to_le_bytes w128 (h * 4294967296 + y)) ≡ to_le_bytes w32 y
low_4 h y =
    let b0 : byte_at 0 (h * 4294967296 + y) ≡ byte_at 0 y = omega arith in
    let b1 : byte_at 1 (h * 4294967296 + y) ≡ byte_at 1 y = omega arith in
    let b2 : byte_at 2 (h * 4294967296 + y) ≡ byte_at 2 y = omega arith in
    let b3 : byte_at 3 (h * 4294967296 + y) ≡ byte_at 3 y = omega arith in
    cc

low_8 : (h y : ℕ) → take 8 (to_le_bytes w128 (h * 18446744073709551616 + y)) ≡ to_le_bytes w64 y
low_8 h y =
    let b0 : byte_at 0 (h * 18446744073709551616 + y) ≡ byte_at 0 y = omega arith in
    let b1 : byte_at 1 (h * 18446744073709551616 + y) ≡ byte_at 1 y = omega arith in
    let b2 : byte_at 2 (h * 18446744073709551616 + y) ≡ byte_at 2 y = omega arith in
    let b3 : byte_at 3 (h * 18446744073709551616 + y) ≡ byte_at 3 y = omega arith in
    let b4 : byte_at 4 (h * 18446744073709551616 + y) ≡ byte_at 4 y = omega arith in
    let b5 : byte_at 5 (h * 18446744073709551616 + y) ≡ byte_at 5 y = omega arith in
    let b6 : byte_at 6 (h * 18446744073709551616 + y) ≡ byte_at 6 y = omega arith in
    let b7 : byte_at 7 (h * 18446744073709551616 + y) ≡ byte_at 7 y = omega arith in
    cc

-- a word as a signed number is in the range of the kind
signed_ranged : (k : Kind) (half m : ℕ) → above k ≡ half → under k ≡ half → m < half + half
    → in_range k (cond (ltb m half) (pos m) (negsuc (half + half - suc m))) ≡ true
signed_ranged k half m up down lt =
    elim (cases_lt m half) [
      | inl less ↦ rw (lt-ltb m half less, up) (lt-ltb m half less)
      | inr more ↦ rw (le-ltb m half more, down)
          (lt-ltb (half + half - suc m) half (omega arith))
    ]

pub number_ranged : (k : Kind) (o : List ℕ) → k ≢ kind.Bool → AreOctets o → IsTrue (in_range k (number_in k o))
unfolding number_in
number_ranged kind.Bool o other oct = absurd (other refl)
number_ranged kind.Octet o other oct = lt-ltb _ 256 (oct 0)
number_ranged kind.U8 o other oct = lt-ltb _ 256 (oct 0)
number_ranged kind.Char o other oct = lt-ltb _ 256 (oct 0)
number_ranged kind.U16 o other oct = lt-ltb _ 65536 (below_2 o oct)
number_ranged kind.U32 o other oct = lt-ltb _ 4294967296 (below_4 o oct)
number_ranged kind.U64 o other oct = lt-ltb _ 18446744073709551616 (below_8 o oct)
number_ranged kind.I8 o other oct = signed_ranged kind.I8 128 (from_le_bytes w8 o) refl refl (oct 0)
number_ranged kind.I16 o other oct = signed_ranged kind.I16 32768 (from_le_bytes w16 o) refl refl (below_2 o oct)
number_ranged kind.I32 o other oct = signed_ranged kind.I32 2147483648 (from_le_bytes w32 o) refl refl (below_4 o oct)
number_ranged kind.I64 o other oct = signed_ranged kind.I64 9223372036854775808 (from_le_bytes w64 o) refl refl (below_8 o oct)

-- ---- a list of numbers

pub ranged-append : (k : Kind) (ns ms : List ℤ) → IsTrue (list_all (in_range k) ns) → IsTrue (list_all (in_range k) ms)
    → IsTrue (list_all (in_range k) (ns ++ ms))
ranged-append k [] ms g h = h
ranged-append k (n ∷ ns) ms g h = let s = and_parts (in_range k n) (list_all (in_range k) ns) g in and_from (in_range k n) _ s.0
    (ranged-append k ns ms s.1 h)

pub image-append : (k : Kind) (ns ms : List ℤ) → image_of k (ns ++ ms) ≡ image_of k ns ++ image_of k ms
image-append k [] ms = refl
image-append k (n ∷ ns) ms =
    ap (λ z. octets_of k n ++ z) (image-append k ns ms) ∙ sym (append_assoc (octets_of k n) (image_of k ns) (image_of k ms))

-- the first number of an image
numbers-front : (k : Kind) (a o : List ℕ) → length a ≡ width k → numbers_of k (a ++ o) ≡ number_in k a ∷ numbers_of k o
unfolding numbers_of numbers_in
numbers-front k a o len =
    let many : length (a ++ o) / width k ≡ suc (length o / width k) =
    ap (λ z.
    z / width k)
    (length-append a o ∙ ap (λ z. z + length o) len) ∙ add-div_left (length o) (some_octets k) ∙ add-one (length o / width k) in
    rw (many, take_at a o (width k) len, drop_at a o (width k) len) refl

pub numbers-none : (k : Kind) → numbers_of k [] ≡ []
unfolding numbers_of numbers_in
numbers-none kind.Octet = refl
numbers-none kind.I8 = refl
numbers-none kind.U8 = refl
numbers-none kind.Char = refl
numbers-none kind.I16 = refl
numbers-none kind.U16 = refl
numbers-none kind.I32 = refl
numbers-none kind.U32 = refl
numbers-none kind.I64 = refl
numbers-none kind.U64 = refl
numbers-none kind.Bool = refl

-- the numbers of whole words and of what follows them
pub numbers-both : (k : Kind) (n : ℕ) (a o : List ℕ) → length a ≡ n * width k → numbers_of k (a ++ o) ≡ numbers_of k a ++ numbers_of k o
numbers-both k zero [] o len = ap (λ z. z ++ numbers_of k o) (sym (numbers-none k))
numbers-both k zero (x ∷ a) o len = absurd (omega arith)
numbers-both k (suc n) a o len =
    let w : ℕ = width k in
    let long : w + n * w ≡ suc n * w = omega arith in
    let f : List ℕ = take w a in
    let r : List ℕ = drop w a in
    let front : length f ≡ w = omega (arith, length-take w a, long) in
    let rest : length r ≡ n * w = omega (arith, length-drop w a, long) in
    ap (λ z. numbers_of k (z ++ o)) (sym (take-append-drop w a)) ∙ ap (numbers_of k) (append_assoc f r o) ∙ numbers-front k f (r ++ o) front
    ∙ ap (λ z. number_in k f ∷ z) (numbers-both k n r o rest)
    ∙ ap (λ z. z ++ numbers_of k o) (sym (numbers-front k f r front) ∙ ap (numbers_of k) (take-append-drop w a))

-- numbers are read back from their image
numbers-after : (k : Kind) (ns : List ℤ) (o : List ℕ) → IsTrue (list_all (in_range k) ns)
    → numbers_of k (image_of k ns ++ o) ≡ ns ++ numbers_of k o
numbers-after k [] o h = refl
numbers-after k (n ∷ ns) o h =
    let s = and_parts (in_range k n) (list_all (in_range k) ns) h in
    ap (numbers_of k) (append_assoc (octets_of k n) (image_of k ns) o)
    ∙ numbers-front k (octets_of k n) (image_of k ns ++ o) (octets_many k n)
    ∙ ap (λ z. z ∷ numbers_of k (image_of k ns ++ o)) (number_back k n s.0)
    ∙ ap (λ z. n ∷ z) (numbers-after k ns o s.1)

pub numbers-image : (k : Kind) (ns : List ℤ) → IsTrue (list_all (in_range k) ns) → numbers_of k (image_of k ns) ≡ ns
numbers-image k ns h = ap (numbers_of k) (sym (append-nil (image_of k ns))) ∙ numbers-after k ns [] h
    ∙ ap (λ z. ns ++ z) (numbers-none k) ∙ append-nil ns

-- ---- images of numbers

pub octets_taken : (n : ℕ) (o : List ℕ) → AreOctets o → AreOctets (take n o)
octets_taken zero o oct i = omega arith
octets_taken (suc n) [] oct i = omega arith
octets_taken (suc n) (a ∷ o) oct zero = oct 0
octets_taken (suc n) (a ∷ o) oct (suc i) = octets_taken n o (λ j. oct (suc j)) i

pub octets_dropped : (n : ℕ) (o : List ℕ) → AreOctets o → AreOctets (drop n o)
octets_dropped zero o oct i = oct i
octets_dropped (suc n) [] oct i = omega arith
octets_dropped (suc n) (a ∷ o) oct i = octets_dropped n o (λ j. oct (suc j)) i

image_in : (k : Kind) (n : ℕ) (o : List ℕ) → length o ≡ n * width k → AreOctets o → image_of k (numbers_in k n o) ≡ o
unfolding numbers_in
image_in k zero [] len oct = refl
image_in k zero (a ∷ o) len oct = absurd (omega arith)
image_in k (suc n) o len oct =
    let w : ℕ = width k in
    let long : w + n * w ≡ suc n * w = omega arith in
    let front : length (take w o) ≡ w = omega (arith, length-take w o) in
    let rest : length (drop w o) ≡ n * w = omega (arith, length-drop w o) in
    rw (octets_back k (take w o) front (octets_taken w o oct), image_in k n (drop w o) rest (octets_dropped w o oct)) (take-append-drop w o)

ranged_in : (k : Kind) (n : ℕ) (o : List ℕ) → k ≢ kind.Bool → AreOctets o → IsTrue (list_all (in_range k) (numbers_in k n o))
unfolding numbers_in
ranged_in k zero o other oct = refl
ranged_in k (suc n) o other oct =
    and_from (in_range k (number_in k (take (width k) o))) _ (number_ranged k (take (width k) o) other (octets_taken (width k) o oct))
    (ranged_in k n (drop (width k) o) other (octets_dropped (width k) o oct))

whole_words : (w l : ℕ) → l % w ≡ 0 → l ≡ l / w * w
whole_words w l h = sym (omega (arith, div-add-mod' l w))

-- any octets are an image of numbers, but of Bool
pub IsImage-octets : (k : Kind) (o : List ℕ) → k ≢ kind.Bool → length o % width k ≡ 0 → AreOctets o → IsImage k o
unfolding numbers_of
IsImage-octets k o other whole oct = record {
  whole = image_in k (length o / width k) o (omega (arith, whole_words (width k) (length o) whole)) oct;
  ranged = ranged_in k (length o / width k) o other oct;
}

pub IsImage-numbers : (k : Kind) (ns : List ℤ) → IsTrue (list_all (in_range k) ns) → IsImage k (image_of k ns)
IsImage-numbers k ns h =
    let back : numbers_of k (image_of k ns) ≡ ns = numbers-image k ns h in
    record { whole = ap (image_of k) back; ranged = subst (λ (z : List ℤ). IsTrue (list_all (in_range k) z)) (sym back) h }

pub IsImage-none : (k : Kind) → IsImage k []
IsImage-none k = IsImage-numbers k [] refl

-- the numbers of an image and of what is put after it
pub numbers-append : (k : Kind) (o p : List ℕ) → IsImage k o → numbers_of k (o ++ p) ≡ numbers_of k o ++ numbers_of k p
numbers-append k o p is = ap (λ z. numbers_of k (z ++ p)) (sym is.whole) ∙ numbers-after k (numbers_of k o) p is.ranged

pub IsImage-append : (k : Kind) (o p : List ℕ) → IsImage k o → IsImage k p → IsImage k (o ++ p)
IsImage-append k o p is also =
    let ns : List ℤ = numbers_of k o in
    let ms : List ℤ = numbers_of k p in
    let both : image_of k (ns ++ ms) ≡ o ++ p = image-append k ns ms
    ∙ ap (λ z. z ++ image_of k ms) is.whole ∙ ap (λ z. o ++ z) also.whole in
    subst (IsImage k) both (IsImage-numbers k (ns ++ ms) (ranged-append k ns ms is.ranged also.ranged))

-- the image of one number
pub IsImage-one : (k : Kind) (n : ℤ) → IsTrue (in_range k n) → IsImage k (octets_of k n)
IsImage-one k n h = subst (IsImage k) (append-nil (octets_of k n)) (IsImage-numbers k (n ∷ []) (and_from (in_range k n) true h refl))

pub numbers-one : (k : Kind) (n : ℤ) → IsTrue (in_range k n) → numbers_of k (octets_of k n) ≡ n ∷ []
numbers-one k n h = ap (numbers_of k) (sym (append-nil (octets_of k n))) ∙ numbers-image k (n ∷ []) (and_from (in_range k n) true h refl)

-- ---- a piece put after an image

pub IsImage-kept : (k : Kind) (old piece new : List ℕ) (r : Result (Unit {0}) NoMemory) → OnOk r (new ≡ old ++ piece)
    → OnErr r (new ≡ old) → IsImage k old → IsImage k piece
    → IsImage k new
IsImage-kept k old piece new (Ok x) ok err is also = subst (IsImage k) (sym ok) (IsImage-append k old piece is also)
IsImage-kept k old piece new (Err x) ok err is also = subst (IsImage k) (sym err) is

abbrev row_of : Kind → List ℤ → Numbers
row_of k ns = record { kind = k; numbers = ns }

-- a row to which a piece was appended
pub grown : (k : Kind) (old piece new : List ℕ) (r : Result (Unit {0}) NoMemory) (was : Numbers) (ms : List ℤ)
    → OnOk r (new ≡ old ++ piece) → IsImage k old → row_of k (numbers_of k old) ≡ was → numbers_of was.kind piece ≡ ms
    → OnOk r (row_of k (numbers_of k new) ≡ row_of was.kind (was.numbers ++ ms))
grown k old piece new (Ok x) was ms ok is same also =
    let P : Numbers → Type 0 =
    λ (w : Numbers). numbers_of w.kind piece ≡ ms → row_of k (numbers_of k new) ≡ row_of w.kind (w.numbers ++ ms) in
    subst P same (λ e. ap (row_of k) (ap (numbers_of k) ok ∙ numbers-append k old piece is ∙ ap (λ z. numbers_of k old ++ z) e)) also
grown k old piece new (Err x) was ms ok is same also = tt

-- what is pushed for a number
low_octets : (k : Kind) (n : ℤ) → IsTrue (in_range k n) → take (width k) (to_le_bytes w128 (cast_unsigned w128 n)) ≡ octets_of k n
unfolding octets_of
low_octets kind.Octet (pos n) h = refl
low_octets kind.I8 (pos n) h = refl
low_octets kind.U8 (pos n) h = refl
low_octets kind.Char (pos n) h = refl
low_octets kind.I16 (pos n) h = refl
low_octets kind.U16 (pos n) h = refl
low_octets kind.I32 (pos n) h = refl
low_octets kind.U32 (pos n) h = refl
low_octets kind.I64 (pos n) h = refl
low_octets kind.U64 (pos n) h = refl
low_octets kind.Bool (pos n) h = refl
low_octets kind.I8 (negsuc n) h = let lt : n < 128 =
    ltb-true n 128 h in ap (λ z. take 1 (to_le_bytes w128 z)) (omega arith) ∙ low_1 (2 ^ 120 - 1) (256 - suc n)
low_octets kind.I16 (negsuc n) h = let lt : n < 32768 =
    ltb-true n 32768 h in ap (λ z. take 2 (to_le_bytes w128 z)) (omega arith) ∙ low_2 (2 ^ 112 - 1) (65536 - suc n)
low_octets kind.I32 (negsuc n) h = let lt : n < 2147483648 =
    ltb-true n 2147483648 h in ap (λ z. take 4 (to_le_bytes w128 z)) (omega arith) ∙ low_4 (2 ^ 96 - 1) (4294967296 - suc n)
low_octets kind.I64 (negsuc n) h = let lt : n < 9223372036854775808 =
    ltb-true n 9223372036854775808 h
    in ap (λ z. take 8 (to_le_bytes w128 z)) (omega arith) ∙ low_8 (2 ^ 64 - 1) (18446744073709551616 - suc n)
low_octets kind.Octet (negsuc n) h = absurd (omega (arith, ltb-true n 0 h))
low_octets kind.U8 (negsuc n) h = absurd (omega (arith, ltb-true n 0 h))
low_octets kind.Char (negsuc n) h = absurd (omega (arith, ltb-true n 0 h))
low_octets kind.Bool (negsuc n) h = absurd (omega (arith, ltb-true n 0 h))
low_octets kind.U16 (negsuc n) h = absurd (omega (arith, ltb-true n 0 h))
low_octets kind.U32 (negsuc n) h = absurd (omega (arith, ltb-true n 0 h))
low_octets kind.U64 (negsuc n) h = absurd (omega (arith, ltb-true n 0 h))

pub octets_pushed : (k : Kind) (n : ℤ) (w : ℕ) (o : List ℕ) → w ≡ width k → o ≡ to_le_bytes w128 (cast_unsigned w128 n)
    → IsTrue (in_range k n)
    → take w o ≡ octets_of k n
octets_pushed k n w o wide is h = rw (wide, is) (low_octets k n h)

-- ---- texts

zero_test : (n : ℕ) → int_eq (pos n) (pos 0) ≡ (n == 0)
zero_test zero = refl
zero_test (suc n) = grind (arith, nat_tests)

-- a text is an image without the octet 0
pub letters_are : (k : Kind) (ns : List ℤ) → k ≡ kind.Char → IsTrue (list_all (in_range k) ns)
    → list_all (λ o. not (o == 0)) (image_of k ns) ≡ list_all is_letter ns
unfolding octets_of
letters_are kind.Char [] e h = refl
letters_are kind.Char (pos n ∷ ns) e h =
    let s = and_parts (in_range kind.Char (pos n)) (list_all (in_range kind.Char) ns) h in
    let low : n % 256 ≡ n = omega (arith, ltb-true n 256 s.0) in
    rw (low, s.0, zero_test n, letters_are kind.Char ns refl s.1) refl
letters_are kind.Char (negsuc n ∷ ns) e h =
    let s = and_parts (in_range kind.Char (negsuc n)) (list_all (in_range kind.Char) ns) h in
    absurd (omega (arith, ltb-true n 0 s.0))
letters_are _ ns e h = cc

pub octet_at : (o : List ℕ) → AllByRecursion (λ b. b < 256) o → AreOctets o
octet_at [] h i = omega arith
octet_at (b ∷ o) h zero = h.0
octet_at (b ∷ o) h (suc i) = octet_at o h.1 i
