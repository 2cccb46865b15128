-- The header of a message is a grammar.
use Rattle.std.proofs.Common.{◌≡◌, ◌+◌, ℕ, List, [], ◌∷◌, refl}
use Rattle.wire_def.specs.declared.fault.HeadErr.TheVariants.{Size, Complex}
use Rattle.wire_def.specs.declared.head.Order.TheVariants.{Little}
use Rattle.wire_def.specs.Grammar.{Spelling, Parts, IsGrammar}
use Rattle.wire_def.proofs.Grammars.{mapped, both_are, tested_are}
use Rattle.back_mach.specs.declared.header.MachHeader.{MachHeader}
use Rattle.back_mach.specs.Words.{word, words, WordSpells}
use Rattle.back_mach.specs.Header.{Values, header_in, SixSpell, SixStop, read_six, is_simple, has_size, SimpleSpells, SimpleStops, read_simple, HeaderSpells, HeaderStops, read_header}
use Rattle.head_kit.specs.Words as kit
use Rattle.head_kit.proofs.Words.{word_is}

-- the words of one, in their order
abbrev Six : Spelling Values
Six p o x =
    Parts p o (λ a. WordSpells p a x.0) (λ p1 o1.
    Parts p1 o1 (λ a. WordSpells p1 a x.1.0) (λ p2 o2.
    Parts p2 o2 (λ a. WordSpells p2 a x.1.1.0) (λ p3 o3.
    Parts p3 o3 (λ a. WordSpells p3 a x.1.1.1.0) (λ p4 o4.
    Parts p4 o4 (λ a. WordSpells p4 a x.1.1.1.1.0) (λ p5 o5. WordSpells p5 o5 x.1.1.1.1.1)))))

forth : (p : ℕ) (o : List ℕ) (x : Values) → Six p o x → SixSpell p o (header_in x)
unfolding SixSpell kit.WordSpells
forth p o x (
  a,
  b,
  is,
  (first, fits),
  (
    a1,
    b1,
    is1,
    (first1, fits1),
    (a2, b2, is2, (first2, fits2), (a3, b3, is3, (first3, fits3), (a4, b4, is4, (first4, fits4), (first5, fits5)))),
  ),
) = (
  rw (is, first, is1, first1, is2, first2, is3, first3, is4, first4, first5) refl,
  record { bits = fits; size = fits1; remote = fits2; local = fits3; sequence = fits4; id = fits5 },
)

back : (p : ℕ) (o : List ℕ) (y : MachHeader) → SixSpell p o y → (x : Values) × (header_in x ≡ y) × Six p o x
unfolding SixSpell kit.WordSpells
back p o y (is, fits) = (
  (y.bits, (y.size, (y.remote, (y.local, (y.sequence, y.id))))),
  refl,
  (
    word y.bits,
    words (y.size ∷ y.remote ∷ y.local ∷ y.sequence ∷ y.id ∷ []),
    is,
    (refl, fits.bits),
    (
      word y.size,
      words (y.remote ∷ y.local ∷ y.sequence ∷ y.id ∷ []),
      refl,
      (refl, fits.size),
      (
        word y.remote,
        words (y.local ∷ y.sequence ∷ y.id ∷ []),
        refl,
        (refl, fits.remote),
        (
          word y.local,
          words (y.sequence ∷ y.id ∷ []),
          refl,
          (refl, fits.local),
          (word y.sequence, word y.id, refl, (refl, fits.sequence), (refl, fits.id)),
        ),
      ),
    ),
  ),
)

six_is : IsGrammar read_six SixSpell SixStop
unfolding read_six SixStop
six_is =
    let w = word_is Little in
    mapped header_in SixSpell
    (both_are w (λ bits. both_are w (λ size. both_are w (λ remote. both_are w (λ local. both_are w (λ sequence. w))))))
    forth back

simple_is : IsGrammar read_simple SimpleSpells SimpleStops
unfolding read_simple
simple_is = tested_are is_simple Complex (λ p. p) six_is

pub header_is : (n : ℕ) → IsGrammar (read_header n) (HeaderSpells n) (HeaderStops n)
unfolding read_header
header_is n = tested_are (has_size n) Size (λ p. p + 4) simple_is
