-- What the fields of heads are made of is a grammar each.
use Rattle.std.proofs.Common.{◌≡◌, ℕ, zero, suc, ◌+◌, ◌-◌, ◌<◌, List, [], ◌∷◌, ◌++◌, length, take, Bool, true, false, cond, refl, sym, ap, subst, ◌∙◌, add-zero, length-append, arith}
use Rattle.std.specs.Prelude.{◌==◌}
use Rattle.std.specs.Int.{Width, w16, w32, byte_len}
use Rattle.std.proofs.lemmas.Bool.{eq-eqb, eqb-true}
use Rattle.std.proofs.lemmas.List.{take_at}
use Rattle.mint.specs.declared.kind.Kind.TheVariants as kind
use Rattle.mint.specs.Types.{number}
use Rattle.wire_def.specs.declared.fault.FaultKind.{FaultKind}
use Rattle.wire_def.specs.declared.fault.FaultKind.TheVariants as kinds
use Rattle.wire_def.specs.declared.fault.HeadErr.{HeadErr}
use Rattle.wire_def.specs.declared.fault.HeadErr.TheVariants.{Short, Item, Text, Size}
use Rattle.wire_def.specs.declared.encoding.Encoding.TheVariants.{CdrBig, CdrLittle}
use Rattle.wire_def.specs.declared.head.Order.{Order}
use Rattle.wire_def.specs.declared.head.Order.TheVariants.{Big, Little}
use Rattle.wire_def.specs.Grammar.{Reading, got, stop, Parts, IsGrammar, TestedSpells}
use Rattle.wire_def.specs.HeadItems.{BodySpells, read_body}
use Rattle.wire_def.specs.Scalars.{gap, WordSpells, WordStops, read_word}
use Rattle.wire_def.proofs.Grammars.{mapped_got, mapped_stop, mapped, both_are, tested_are}
use Rattle.wire_def.proofs.HeadItems.{body_is}
use Rattle.wire_def.proofs.Words.{IsWide, wide, word_is}
use Rattle.head_kit.specs.Words.{up_to}
use Rattle.giop_head.specs.Items.{laid, LongSpells, LongStops, or_short, read_long, long_place, PassSpells, PassStops, read_pass, ShortSpells, ShortStops, read_short, FlagSpells, FlagStops, read_flag, SequenceSpells, SequenceStops, read_sequence, is_ended, StringSpells, StringStops, read_string, padding, PaddingSpells, PaddingStops, pass_padding, EndSpells, EndStops, read_end}
use Rattle.giop_head.proofs.Ended.{ended_parts, parts_ended}

-- ---- unsigned longs and shorts

short_got : {A : Type 0} (d : Reading FaultKind A) (x : A) (q : ℕ) (rest : List ℕ) → or_short d ≡ got x q rest → d ≡ got x q rest
short_got (got y p o) x q rest e =
    let first : y ≡ x = cc in
    let second : p ≡ q = cc in
    let third : o ≡ rest = cc in
    rw (first, second, third) refl
short_got (stop k at) x q rest e = absurd cc

short_stop : {A : Type 0} (d : Reading FaultKind A) (k : HeadErr) (at : ℕ) → or_short d ≡ stop k at
    → (j : FaultKind) × (d ≡ stop j at) × (k ≡ Short)
short_stop (got y p o) k at e = absurd cc
short_stop (stop j at') k at e = let there : at' ≡ at = cc in (j, rw there refl, cc)

-- a number of a width after its gap
module _ (r : Order) (a : ℕ) (w : Width) (is_wide : IsWide (laid r) w) where
  words : IsGrammar (read_word (laid r) a w) (WordSpells (laid r) a w) (WordStops (laid r) a w)
  words = word_is (laid r) a w is_wide

  number_is : IsGrammar (λ p o. or_short (read_word (laid r) a w p o)) (WordSpells (laid r) a w)
      (λ p o k at. (length o < gap p a + byte_len w) × (k ≡ Short) × (at ≡ p + gap p a))
  unfolding WordStops
  number_is = record {
    reads = λ p o rest x s. rw (words.reads p o rest x s) refl;
    spelled = λ p o x q rest oct e. words.spelled p o x q rest oct (short_got _ x q rest e);
    stops = λ p o k at f. rw (words.stops p o kinds.Short (p + gap p a) (f.0, refl, refl), f.1, f.2) refl;
    faulty = λ p o k at oct e.
        let d = short_stop _ k at e in
        let f = words.faulty p o d.0 at oct d.1 in
        (f.0, d.2, f.2);
  }

wide_long : (r : Order) → IsWide (laid r) w32
wide_long Big = wide CdrBig (number kind.U32)
wide_long Little = wide CdrLittle (number kind.U32)

wide_short : (r : Order) → IsWide (laid r) w16
wide_short Big = wide CdrBig (number kind.U16)
wide_short Little = wide CdrLittle (number kind.U16)

pub long_is : (r : Order) → IsGrammar (read_long r) (LongSpells r) LongStops
unfolding read_long
long_is r = number_is r 4 w32 (wide_long r)

pub short_is : (r : Order) → IsGrammar (read_short r) (ShortSpells r) ShortStops
unfolding read_short
short_is r = number_is r 2 w16 (wide_short r)

pub pass_is : (r : Order) (m : ℕ) → IsGrammar (read_pass r m) (PassSpells r m) (PassStops r m)
pass_is r m = tested_are (up_to m) Item long_place (long_is r)

-- ---- booleans

flag_reads : (p : ℕ) (o rest : List ℕ) (b : Bool) → FlagSpells p o b → read_flag p (o ++ rest) ≡ got b (p + length o) rest
unfolding read_flag
flag_reads p o rest false is = rw is refl
flag_reads p o rest true is = rw is refl

flag_spelled : (p : ℕ) (o : List ℕ) (b : Bool) (q : ℕ) (rest : List ℕ) → read_flag p o ≡ got b q rest
    → (a : List ℕ) × (o ≡ a ++ rest) × (q ≡ p + length a) × FlagSpells p a b
unfolding read_flag
flag_spelled p [] b q rest e = absurd cc
flag_spelled p (zero ∷ o) b q rest e =
    let which : false ≡ b = cc in
    let next : p + 1 ≡ q = cc in
    let same : o ≡ rest = cc in
    (0 ∷ [], ap (λ z. 0 ∷ z) same, sym next, rw (← which) refl)
flag_spelled p (suc zero ∷ o) b q rest e =
    let which : true ≡ b = cc in
    let next : p + 1 ≡ q = cc in
    let same : o ≡ rest = cc in
    (1 ∷ [], ap (λ z. 1 ∷ z) same, sym next, rw (← which) refl)
flag_spelled p (suc (suc c) ∷ o) b q rest e = absurd cc

flag_stops : (p : ℕ) (o : List ℕ) (k : HeadErr) (at : ℕ) → FlagStops p o k at → read_flag p o ≡ stop k at
unfolding read_flag FlagStops
flag_stops p [] k at (which, there) = rw (which, there) refl
flag_stops p (zero ∷ o) k at f = absurd f
flag_stops p (suc zero ∷ o) k at f = absurd f
flag_stops p (suc (suc c) ∷ o) k at (which, there) = rw (which, there) refl

flag_faulty : (p : ℕ) (o : List ℕ) (k : HeadErr) (at : ℕ) → read_flag p o ≡ stop k at → FlagStops p o k at
unfolding read_flag FlagStops
flag_faulty p [] k at e = (cc, cc)
flag_faulty p (zero ∷ o) k at e = absurd cc
flag_faulty p (suc zero ∷ o) k at e = absurd cc
flag_faulty p (suc (suc c) ∷ o) k at e = (cc, cc)

pub flag_is : IsGrammar read_flag FlagSpells FlagStops
flag_is = record {
  reads = flag_reads;
  spelled = λ p o x q rest oct e. flag_spelled p o x q rest e;
  stops = flag_stops;
  faulty = λ p o k at oct e. flag_faulty p o k at e;
}

-- ---- sequences and strings

pub sequence_is : (r : Order) → IsGrammar (read_sequence r) (SequenceSpells r) (SequenceStops r)
unfolding read_sequence
sequence_is r = mapped (λ (x : ℕ × List ℕ). x.1) (SequenceSpells r) (both_are (long_is r) body_is)
    (λ p o x (a, b, is, counts, (same, long)). (a, b, is, rw long counts, same))
    (λ p o s (a, b, is, counts, same). ((length s, s), refl, (a, b, is, counts, (same, refl))))

string_forth : (r : Order) (p : ℕ) (o : List ℕ) (n : ℕ) (s : List ℕ)
    → Parts p o (λ a. LongSpells r p a n) (λ q b. TestedSpells (BodySpells n) is_ended q b s)
    → StringSpells r p o (take (n - 1) s)
string_forth r p o n s (a, b, is, counts, ((same, long), ended)) =
    let parts = ended_parts s ended in
    let size : length s ≡ suc (length parts.0) = ap length parts.1 ∙ (omega (arith, length-append parts.0 (0 ∷ []))) in
    let front : take (n - 1) s ≡ parts.0 = ap (take (n - 1)) parts.1 ∙ take_at parts.0 (0 ∷ []) (n - 1) (omega (arith, size, long)) in
    let counted : n ≡ suc (length parts.0) = omega (arith, size, long) in
    subst
    (λ z. StringSpells r p o z) (sym front) (
      a,
      b,
      is,
      subst (λ (m : ℕ).
          LongSpells r p a m) counted counts,
      (same ∙ parts.1, parts.2),
    )

pub string_is : (r : Order) → IsGrammar (read_string r) (StringSpells r) (StringStops r)
unfolding read_string
string_is r =
    mapped
    (λ (x : ℕ × List ℕ). take (x.0 - 1) x.1) (StringSpells r) (both_are (long_is r) (λ n. tested_are is_ended Text (λ p. p) (body_is n)))
    (λ p o x h. string_forth r p o x.0 x.1 h)
    (λ p o s (a, b, is, counts, (same, letters)). (
      (suc (length s), s ++ (0 ∷ [])),
      take_at s (0 ∷ []) (suc (length s) - 1) (omega arith),
      (a, b, is, counts, ((same, omega (arith, length-append s (0 ∷ []))), parts_ended s letters)),
    ))

-- ---- what leads up to a body

abbrev nothing_of : List ℕ → Unit {0}
nothing_of s = tt

pub padding_is : (n : ℕ) → IsGrammar (pass_padding n) (PaddingSpells n) (PaddingStops n)
unfolding pass_padding
padding_is n = record {
  reads = λ p o rest x s. rw ((body_is (padding n p)).reads p o rest o (refl, s)) refl;
  spelled = λ p o x q rest oct e.
      let m = mapped_got nothing_of (read_body (padding n p) p o) x q rest e in
      let a = (body_is (padding n p)).spelled p o m.0 q rest oct m.1 in
      (a.0, a.1, a.2, ap length a.3.0 ∙ a.3.1);
  stops = λ p o k at f. rw ((body_is (padding n p)).stops p o k at f) refl;
  faulty = λ p o k at oct e.
      (body_is (padding n p)).faulty p o k at oct (mapped_stop nothing_of (read_body (padding n p) p o) k at e);
}

-- ---- the end

module _ (n : ℕ) where
  abbrev ended : ℕ → List ℕ → Reading HeadErr (Unit {0})
  ended p o = got tt p o

  abbrev missed : ℕ → Reading HeadErr (Unit {0})
  missed p = stop Size p

  end_stop : (t : Bool) (p q : ℕ) (o rest : List ℕ) (x : Unit {0}) → cond t (ended p o) (missed p) ≡ got x q rest
      → (t ≡ true) × (p ≡ q) × (o ≡ rest)
  end_stop true p q o rest x e = (refl, cc, cc)
  end_stop false p q o rest x e = absurd cc

  end_fault : (t : Bool) (p at : ℕ) (o : List ℕ) (k : HeadErr) → cond t (ended p o) (missed p) ≡ stop k at
      → (t ≡ false) × (k ≡ Size) × (at ≡ p)
  end_fault true p at o k e = absurd cc
  end_fault false p at o k e = (refl, cc, cc)

  pub end_is : IsGrammar (read_end n) (EndSpells n) (EndStops n)
  end_is = record {
    reads = λ p o rest x s. rw (eq-eqb p n s.1, s.0, add-zero) refl;
    spelled = λ p o x q rest oct e.
        let t = end_stop (p == n) p q o rest x e in
        ([], t.2, rw add-zero (sym t.1), (refl, eqb-true p n t.0));
    stops = λ p o k at f. rw (f.0, f.1, f.2) refl;
    faulty = λ p o k at oct e. end_fault (p == n) p at o k e;
  }
