-- The numbers of a row are sent as their image, swapped by pieces in the other order, by induction on the numbers.
use Rattle.std.proofs.Common.{◌≡◌, ◌⊎◌, inl, inr, ℕ, suc, ◌+◌, ◌-◌, ◌*◌, ◌/◌, ◌%◌, ◌≤◌, ℤ, pos, negsuc, List, [], ◌∷◌, ◌++◌, length, take, drop, Bool, refl, sym, ap, ◌∙◌, subst, zero-mul, append-nil, arith, min, reverse, length-append, length-take, length-drop}
use Rattle.std.specs.Prelude.{IsTrue}
use Rattle.std.specs.List.{list_all}
use Rattle.std.specs.Int.{Width, w8, w16, w32, w64, byte_len, to_le_bytes, cast_unsigned}
use Rattle.std.proofs.Math.Nat.{mod-eq_of_lt, mul-mod_left}
use Rattle.std.proofs.lemmas.Bool.{cases_lt}
use Rattle.std.proofs.lemmas.List.{take-append-drop, take_at}
use Rattle.std.proofs.lemmas.Nat.{div-add-mod'}
use Rattle.mint.specs.declared.kind.Kind.{Kind}
use Rattle.mint.specs.declared.kind.Kind.TheVariants as kind
use Rattle.mint.specs.Kinds.{in_range, word, width}
use Rattle.mint.specs.Row.{octets_of, image_of}
use Rattle.mint.specs.Types.{number}
use Rattle.mint.proofs.Images.{octets_many, some_octets}
use Rattle.wire_def.specs.declared.encoding.Encoding.{Encoding}
use Rattle.wire_def.specs.declared.encoding.Encoding.TheVariants.{Xdr, CdrBig, CdrLittle, Mach}
use Rattle.wire_def.specs.Scalars.{width_of, number_octets, residue}
use Rattle.wire_def.proofs.ScalarGrammar.{left_true, right_true}
use Rattle.wire_def.proofs.Words.{IsOwn, is8, is16, is32, is64, own_of}
use Rattle.kit_base.specs.Bytes.{be}
use Rattle.kit_swap.specs.Swapped.{swapped, IsSwapWidth}
use Rattle.kit_swap.proofs.Swapping.{swapped-first, swapped-none, swapped-append, length-swapped}
use Rattle.plain_wire.specs.Widths.{FitsWidth}
use Rattle.plain_wire.specs.Rows.{bare_octets, numbers_octets, IsLittle, IsWay}
use Rattle.plain_wire.specs.declared.widths.Way.TheVariants.{Copied, Swapped}
use Rattle.plain_wire.proofs.Steps.{fits_width}

-- ---- sending

cast_residue : (w : Width) → IsOwn w → (n : ℤ) → FitsWidth w n → residue w n ≡ cast_unsigned w n
cast_residue _ is8 (pos n) h = mod-eq_of_lt h
cast_residue _ is16 (pos n) h = mod-eq_of_lt h
cast_residue _ is32 (pos n) h = mod-eq_of_lt h
cast_residue _ is64 (pos n) h = mod-eq_of_lt h
cast_residue _ is8 (negsuc n) h = omega arith
cast_residue _ is16 (negsuc n) h = omega arith
cast_residue _ is32 (negsuc n) h = omega arith
cast_residue _ is64 (negsuc n) h = omega arith

narrow_octets : (e : Encoding) (m : ℕ) → number_octets e w8 m ≡ to_le_bytes w8 m
narrow_octets Xdr m = refl
narrow_octets CdrBig m = refl
narrow_octets CdrLittle m = refl
narrow_octets Mach m = refl

little_octets : (e : Encoding) (w : Width) (m : ℕ) → IsLittle e → number_octets e w m ≡ to_le_bytes w m
little_octets Xdr w m h = absurd h
little_octets CdrBig w m h = absurd h
little_octets CdrLittle w m h = refl
little_octets Mach w m h = refl

copied_octets : (e : Encoding) (w : Width) (m : ℕ) → IsLittle e ⊎ (w ≡ w8) → number_octets e w m ≡ to_le_bytes w m
copied_octets e w m (inl little) = little_octets e w m little
copied_octets e w m (inr narrow) = rw narrow (narrow_octets e m)

-- a number in the octets of its image
bare_copied : (e : Encoding) (k : Kind) (n : ℤ) → IsWay e k Copied → IsTrue (in_range k n) → bare_octets e k n ≡ octets_of k n
unfolding octets_of bare_octets
bare_copied e k n (same, way) h =
    let m = residue (width_of e (number k)) n in
    ap (λ w. number_octets e w m) same
    ∙ copied_octets e (word k) m way
    ∙ ap (to_le_bytes (word k)) (cast_residue (width_of e (number k)) (own_of e (number k)) n (fits_width e (number k) n h)
    ∙ ap (λ w. cast_unsigned w n) same)

copied_row : (e : Encoding) (k : Kind) (ns : List ℤ) → IsWay e k Copied → IsTrue (list_all (in_range k) ns)
    → image_of k ns ≡ numbers_octets e k ns
copied_row e k [] way h = refl
copied_row e k (n ∷ ns) way h =
    ap (λ z. z ++ image_of k ns) (sym (bare_copied e k n way (left_true (in_range k n) _ h))) ∙ ap (λ z.
    bare_octets e k n ++ z) (copied_row e k ns way (right_true (in_range k n) _ h))

pub row_copied : (e : Encoding) (k l : Kind) (ns : List ℤ) → IsWay e l Copied → k ≡ l → IsTrue (list_all (in_range l) ns)
    → image_of k ns ≡ numbers_octets e l ns
row_copied e k l ns way is h = ap (λ j. image_of j ns) is ∙ copied_row e l ns way h

-- numbers of two, four or eight octets
pub data IsMany : Width → Type 0 where
  two : IsMany w16
  four : IsMany w32
  eight : IsMany w64

not_one : IsSwapWidth 1 → ⊥
not_one (inl h) = absurd (omega (arith, h))
not_one (inr (inl h)) = absurd (omega (arith, h))
not_one (inr (inr h)) = absurd (omega (arith, h))

pub many : (k : Kind) → IsSwapWidth (width k) → IsMany (word k)
many kind.I16 h = two
many kind.U16 h = two
many kind.I32 h = four
many kind.U32 h = four
many kind.I64 h = eight
many kind.U64 h = eight
many kind.Octet h = absurd (not_one h)
many kind.I8 h = absurd (not_one h)
many kind.U8 h = absurd (not_one h)
many kind.Char h = absurd (not_one h)
many kind.Bool h = absurd (not_one h)

big_octets : (w : Width) → IsMany w → (m : ℕ) → be (byte_len w) m ≡ reverse (to_le_bytes w m)
big_octets _ two m = refl
big_octets _ four m = refl
big_octets _ eight m = refl

swapped_octets : (e : Encoding) (w : Width) (m : ℕ) → (IsLittle e → ⊥) → IsMany w → number_octets e w m ≡ reverse (to_le_bytes w m)
swapped_octets Xdr w m big some = big_octets w some m
swapped_octets CdrBig w m big some = big_octets w some m
swapped_octets CdrLittle w m big some = absurd (big tt)
swapped_octets Mach w m big some = absurd (big tt)

bare_swapped : (e : Encoding) (k : Kind) (n : ℤ) → IsWay e k Swapped → IsTrue (in_range k n) → bare_octets e k n ≡ reverse (octets_of k n)
unfolding octets_of bare_octets
bare_swapped e k n (same, big, wide) h =
    let m = residue (width_of e (number k)) n in
    ap (λ w. number_octets e w m) same
    ∙ swapped_octets e (word k) m big (many k wide)
    ∙ ap (λ z.
    reverse (to_le_bytes (word k) z))
    (cast_residue (width_of e (number k)) (own_of e (number k)) n (fits_width e (number k) n h) ∙ ap (λ w. cast_unsigned w n) same)

swapped_row : (e : Encoding) (k : Kind) (ns : List ℤ) → IsWay e k Swapped → IsTrue (list_all (in_range k) ns)
    → swapped (width k) (image_of k ns) ≡ numbers_octets e k ns
swapped_row e k [] way h = swapped-none (width k) way.2
swapped_row e k (n ∷ ns) way h =
    swapped-first (width k) (octets_of k n) (image_of k ns) (some_octets k) (octets_many k n)
    ∙ ap (λ z. z ++ swapped (width k) (image_of k ns)) (sym (bare_swapped e k n way (left_true (in_range k n) _ h))) ∙ ap (λ z.
    bare_octets e k n ++ z) (swapped_row e k ns way (right_true (in_range k n) _ h))

pub row_swapped : (e : Encoding) (k l : Kind) (ns : List ℤ) → IsWay e l Swapped → k ≡ l → IsTrue (list_all (in_range l) ns)
    → swapped (width l) (image_of k ns) ≡ numbers_octets e l ns
row_swapped e k l ns way is h = ap (λ j. swapped (width l) (image_of j ns)) is ∙ swapped_row e l ns way h

-- an image is whole numbers
image_long : (k : Kind) (ns : List ℤ) → length (image_of k ns) ≡ length ns * width k
image_long k [] = sym (zero-mul (width k))
image_long k (n ∷ ns) =
    let long : width k + length ns * width k ≡ suc (length ns) * width k = omega arith in
    length-append (octets_of k n) (image_of k ns) ∙ omega (arith, octets_many k n, image_long k ns, long)

pub image_mod : (k l : Kind) (ns : List ℤ) → k ≡ l → length (image_of k ns) % width l ≡ 0
image_mod k l ns is = rw (is, image_long l ns) (mul-mod_left (length ns) (width l))

pub ruleset copies = (row_copied, row_swapped, image_mod)

-- ---- pieces of an image

pub whole_words : (w l : ℕ) → l % w ≡ 0 → l ≡ l / w * w
whole_words w l h = sym (omega (arith, div-add-mod' l w))

-- a piece is whole numbers, and so is what follows it
pub piece_mod : (w n l : ℕ) → IsSwapWidth w → l % w ≡ 0 → n ≡ min l 512 → n % w ≡ 0
piece_mod w n l is whole cut =
    elim (cases_lt l 512) [
      | inl lt ↦ (let same : n ≡ l = omega arith in rw same whole)
      | inr le ↦
          (let same : n ≡ 512 = omega arith in rw same (even w is))
    ] where
      even : (w : ℕ) → IsSwapWidth w → 512 % w ≡ 0
      even w (inl is) = rw is refl
      even w (inr (inl is)) = rw is refl
      even w (inr (inr is)) = rw is refl

pub rest_mod : (w n l : ℕ) → IsSwapWidth w → l % w ≡ 0 → n % w ≡ 0 → n ≤ l → (l - n) % w ≡ 0
rest_mod w n l (inl is) whole cut h =
    subst (λ v. (l - n) % v ≡ 0) (sym is) (let a : l % 2 ≡ 0 = rw (← is) whole in let b : n % 2 ≡ 0 = rw (← is) cut in omega arith)
rest_mod w n l (inr (inl is)) whole cut h =
    subst (λ v. (l - n) % v ≡ 0) (sym is) (let a : l % 4 ≡ 0 = rw (← is) whole in let b : n % 4 ≡ 0 = rw (← is) cut in omega arith)
rest_mod w n l (inr (inr is)) whole cut h =
    subst (λ v. (l - n) % v ≡ 0) (sym is) (let a : l % 8 ≡ 0 = rw (← is) whole in let b : n % 8 ≡ 0 = rw (← is) cut in omega arith)

-- what is swapped of a row: a first piece, and the rest
pub swapped_piece : (w n : ℕ) (o : List ℕ) → IsSwapWidth w → n % w ≡ 0 → n ≤ length o
    → swapped w o ≡ swapped w (take n o) ++ swapped w (drop n o)
swapped_piece w n o is whole h =
    let long : length (take n o) ≡ n = omega (arith, length-take n o) in
    ap (swapped w) (sym (take-append-drop n o)) ∙ swapped-append w (take n o) (drop n o) is (rw long whole)

-- a piece that was swapped: what is taken of its room, what is left, and that this is whole numbers
pub piece_turned : (w n : ℕ) (rest out spare : List ℕ) → IsSwapWidth w → length rest % w ≡ 0 → n ≡ min (length rest) 512
    → out ≡ swapped w (take n rest)
    → (take n (out ++ spare) ≡ swapped w (take n rest))
    × (swapped w rest ≡ swapped w (take n rest) ++ swapped w (drop n rest)) × (n % w ≡ 0) × (length (drop n rest) % w ≡ 0)
piece_turned w n rest out spare is whole cut same =
    let even = piece_mod w n (length rest) is whole cut in
    let within : n ≤ length rest = omega arith in
    let front : length (take n rest) ≡ n = omega (arith, length-take n rest) in
    let long : length (swapped w (take n rest)) ≡ n = length-swapped w (take n rest) is (rw front even) ∙ front in (
      ap (λ z.
          take n (z ++ spare)) same ∙ take_at (swapped w (take n rest)) spare n long,
      swapped_piece w n rest is even within,
      even,
      rw length-drop (rest_mod w n (length rest) is whole even within),
    )

pub ruleset pieces = (piece_mod, rest_mod, swapped_piece, swapped-none, length-swapped, append-nil)
