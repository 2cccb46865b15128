-- A scalar is a word that is one of its numbers.
use Rattle.std.proofs.Common.{◌≡◌, ◌⊎◌, inl, inr, ℕ, ◌+◌, ◌-◌, ◌%◌, ◌<◌, ℤ, pos, negsuc, List, Bool, ◌&&◌, true, false, refl, sym, ap, subst, ◌∙◌, arith}
use Rattle.std.proofs.Math.Nat.{mod-eq_of_lt}
use Rattle.std.specs.Int.{Width, w8, w16, w32}
use Rattle.std.proofs.lemmas.Bool.{cases_lt, ltb-true, le-ltb, lt-ltb}
use Rattle.mint.specs.declared.kind.Kind.{Kind}
use Rattle.mint.specs.declared.kind.Kind.TheVariants as kind
use Rattle.mint.specs.Types.{Scalar, number, label}
use Rattle.mint.specs.Typed.{is_scalar, IsScalar}
use Rattle.wire_def.specs.declared.encoding.Encoding.{Encoding}
use Rattle.wire_def.specs.declared.encoding.Encoding.TheVariants.{Xdr, CdrBig, CdrLittle, Mach}
use Rattle.wire_def.specs.declared.fault.FaultKind.{FaultKind}
use Rattle.wire_def.specs.declared.fault.FaultKind.TheVariants.{BadValue}
use Rattle.wire_def.specs.Grammar.{Spelling, Parts, IsGrammar}
use Rattle.wire_def.specs.Scalars.{full, half, residue, number_of, is_signed, own_width, at_least_32, width_of, alignment_of, scalar_place, WordSpells, WordStops, ScalarSpells, ScalarStops, read_scalar}
use Rattle.wire_def.proofs.Grammars.{mapped, tested_are, reshaped}
use Rattle.wire_def.proofs.Words.{wide, word_is}

pub half_half : (w : Width) → half w + half w ≡ full w
half_half w8 = refl
half_half w16 = refl
half_half w32 = refl
half_half _ = refl

small : (m n : ℕ) → m < n → m % n ≡ m
small m n h = mod-eq_of_lt h

-- a number that the width holds, with a sign or without
unfoldable pub FitsIn : Bool → Width → ℤ → Type 0
FitsIn true w (pos n) = n < half w
FitsIn true w (negsuc n) = n < half w
FitsIn false w (pos n) = n < full w
FitsIn false w (negsuc n) = ⊥

number_residue : (signed : Bool) (w : Width) (n : ℤ) → FitsIn signed w n → number_of signed w (residue w n) ≡ n
unfolding FitsIn
number_residue true w (pos n) h =
    let e : n % full w ≡ n = small n (full w) (omega (arith, half_half w)) in
    rw (e, lt-ltb n (half w) h) refl
number_residue true w (negsuc n) h =
    let e : n % full w ≡ n = small n (full w) (omega (arith, half_half w)) in
    rw (e, le-ltb (full w - 1 - n) (half w) (omega (arith, half_half w))) (ap negsuc (omega (arith, half_half w)))
number_residue false w (pos n) h = ap pos (small n (full w) h)
number_residue false w (negsuc n) h = absurd h

residue_number : (signed : Bool) (w : Width) (m : ℕ) → m < full w → residue w (number_of signed w m) ≡ m
residue_number true w m h =
    elim (cases_lt m (half w)) [
      | inl lt ↦ rw (lt-ltb m (half w) lt) (small m (full w) h)
      | inr le ↦
          let e : (full w - 1 - m) % full w ≡ full w - 1 - m = small (full w - 1 - m) (full w) (omega arith) in
          rw (le-ltb m (half w) le, e) (omega arith)
    ]
residue_number false w m h = small m (full w) h

kind_fits : (k : Kind) (n : ℤ) → IsScalar (number k) n → FitsIn (is_signed (number k)) (own_width (number k)) n
unfolding FitsIn
kind_fits kind.Octet (pos n) h = omega (arith, ltb-true _ _ h)
kind_fits kind.Octet (negsuc n) h = absurd (omega (arith, ltb-true _ _ h))
kind_fits kind.I8 (pos n) h = omega (arith, ltb-true _ _ h)
kind_fits kind.I8 (negsuc n) h = omega (arith, ltb-true _ _ h)
kind_fits kind.U8 (pos n) h = omega (arith, ltb-true _ _ h)
kind_fits kind.U8 (negsuc n) h = absurd (omega (arith, ltb-true _ _ h))
kind_fits kind.Char (pos n) h = omega (arith, ltb-true _ _ h)
kind_fits kind.Char (negsuc n) h = absurd (omega (arith, ltb-true _ _ h))
kind_fits kind.I16 (pos n) h = omega (arith, ltb-true _ _ h)
kind_fits kind.I16 (negsuc n) h = omega (arith, ltb-true _ _ h)
kind_fits kind.U16 (pos n) h = omega (arith, ltb-true _ _ h)
kind_fits kind.U16 (negsuc n) h = absurd (omega (arith, ltb-true _ _ h))
kind_fits kind.I32 (pos n) h = omega (arith, ltb-true _ _ h)
kind_fits kind.I32 (negsuc n) h = omega (arith, ltb-true _ _ h)
kind_fits kind.U32 (pos n) h = omega (arith, ltb-true _ _ h)
kind_fits kind.U32 (negsuc n) h = absurd (omega (arith, ltb-true _ _ h))
kind_fits kind.I64 (pos n) h = omega (arith, ltb-true _ _ h)
kind_fits kind.I64 (negsuc n) h = omega (arith, ltb-true _ _ h)
kind_fits kind.U64 (pos n) h = omega (arith, ltb-true _ _ h)
kind_fits kind.U64 (negsuc n) h = absurd (omega (arith, ltb-true _ _ h))
kind_fits kind.Bool (pos n) h = omega (arith, ltb-true _ _ h)
kind_fits kind.Bool (negsuc n) h = absurd (omega (arith, ltb-true _ _ h))

pub left_true : (a b : Bool) → a && b ≡ true → a ≡ true
left_true true b h = refl
left_true false b h = absurd cc

pub right_true : (a b : Bool) → a && b ≡ true → b ≡ true
right_true true b h = h
right_true false b h = absurd cc

label_fits : (labels : List ℤ) (n : ℤ) → IsScalar (label labels) n → FitsIn true w32 n
unfolding FitsIn
label_fits labels (pos n) h = ltb-true _ _ (left_true _ _ h)
label_fits labels (negsuc n) h = ltb-true _ _ (left_true _ _ h)

wider : (signed : Bool) (w : Width) (n : ℤ) → FitsIn signed w n → FitsIn signed (at_least_32 w) n
unfolding FitsIn
wider true w8 (pos n) h = omega arith
wider true w8 (negsuc n) h = omega arith
wider true w16 (pos n) h = omega arith
wider true w16 (negsuc n) h = omega arith
wider false w8 (pos n) h = omega arith
wider false w8 (negsuc n) h = absurd h
wider false w16 (pos n) h = omega arith
wider false w16 (negsuc n) h = absurd h
wider _ _ n h = h

own_fits : (s : Scalar) (n : ℤ) → IsScalar s n → FitsIn (is_signed s) (own_width s) n
own_fits (number k) n h = kind_fits k n h
own_fits (label labels) n h = label_fits labels n h

pub fits_in : (e : Encoding) (s : Scalar) (n : ℤ) → IsScalar s n → FitsIn (is_signed s) (width_of e s) n
fits_in Xdr s n h = wider (is_signed s) (own_width s) n (own_fits s n h)
fits_in Mach (number kind.Bool) n h = wider false w8 n (own_fits (number kind.Bool) n h)
fits_in Mach (label labels) n h = own_fits (label labels) n h
fits_in Mach (number kind.Octet) n h = own_fits (number kind.Octet) n h
fits_in Mach (number kind.I8) n h = own_fits (number kind.I8) n h
fits_in Mach (number kind.U8) n h = own_fits (number kind.U8) n h
fits_in Mach (number kind.Char) n h = own_fits (number kind.Char) n h
fits_in Mach (number kind.I16) n h = own_fits (number kind.I16) n h
fits_in Mach (number kind.U16) n h = own_fits (number kind.U16) n h
fits_in Mach (number kind.I32) n h = own_fits (number kind.I32) n h
fits_in Mach (number kind.U32) n h = own_fits (number kind.U32) n h
fits_in Mach (number kind.I64) n h = own_fits (number kind.I64) n h
fits_in Mach (number kind.U64) n h = own_fits (number kind.U64) n h
fits_in CdrBig s n h = own_fits s n h
fits_in CdrLittle s n h = own_fits s n h

module _ (e : Encoding) (s : Scalar) where
  abbrev w : Width
  w = width_of e s

  abbrev a : ℕ
  a = alignment_of e s

  -- some bits of the number are spelled
  abbrev BitsSpell : Spelling ℤ
  BitsSpell p o n = (m : ℕ) × (number_of (is_signed s) w m ≡ n) × WordSpells e a w p o m

  pub scalar_is : IsGrammar (read_scalar e s) (ScalarSpells e s) (ScalarStops e s)
  unfolding ScalarSpells ScalarStops read_scalar WordSpells
  scalar_is = reshaped
      (tested_are (is_scalar s) BadValue (scalar_place e s)
      (mapped (number_of (is_signed s) w) BitsSpell (word_is e a w (wide e s)) (λ p o m h. (m, refl, h)) (λ p o n h. h)))
      (λ p o. refl)
      (λ p o n h. ((residue w n, number_residue (is_signed s) w n (fits_in e s n h.1), h.0), h.1))
      (λ p o n h.
      (subst (λ z. WordSpells e a w p o z) (sym (residue_number (is_signed s) w h.0.0 h.0.2.3) ∙ ap (residue w) h.0.1) h.0.2, h.1))
      (λ p o k at f. stops_from p o k at f)
      (λ p o k at f. stops_to p o k at f)
    where
      stops_from : (p : ℕ) (o : List ℕ) (k : FaultKind) (at : ℕ) → ScalarStops e s p o k at
          → WordStops e a w p o k at
          ⊎ ((n : ℤ) × Parts p o (λ b. BitsSpell p b n) (λ q c. (is_scalar s n ≡ false) × (k ≡ BadValue) × (at ≡ scalar_place e s p)))
      stops_from p o k at (inl f) = inl f
      stops_from p o k at (inr (m, (b, c, is, spelled, bad))) = inr (number_of (is_signed s) w m, (b, c, is, (m, refl, spelled), bad))

      stops_to : (p : ℕ) (o : List ℕ) (k : FaultKind) (at : ℕ) → WordStops e a w p o k at
          ⊎ ((n : ℤ) × Parts p o (λ b. BitsSpell p b n) (λ q c. (is_scalar s n ≡ false) × (k ≡ BadValue) × (at ≡ scalar_place e s p)))
          → ScalarStops e s p o k at
      stops_to p o k at (inl f) = inl f
      stops_to p o k at (inr (n, (b, c, is, (m, same, spelled), (bad, which, there)))) =
          inr (m, (b, c, is, spelled, (rw same bad, which, there)))
