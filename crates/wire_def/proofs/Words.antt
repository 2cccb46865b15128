-- A number of a width is read as it is written.
use Rattle.std.proofs.Common.{◌≡◌, ℕ, zero, suc, ◌+◌, ◌%◌, ◌<◌, ◌≤◌, List, [], ◌∷◌, ◌++◌, length, get_or, take, drop, Bool, true, false, cond, ltb, refl, sym, ap, ◌∙◌, append_assoc, length-append, arith}
use Rattle.std.specs.Int.{Width, w8, w16, w32, w64, byte_len, from_be_bytes, from_le_bytes}
use Rattle.std.proofs.lemmas.Bool.{ltb-false, ltb-true, le-ltb, lt-ltb}
use Rattle.std.proofs.lemmas.List.{take_at, drop_at, take-append-drop, length-take, length-drop}
use Rattle.std.proofs.lemmas.Nat.{be_bytes_2, be_bytes_4, be_bytes_8, from_be_bytes-to_be_bytes_2, from_be_bytes-to_be_bytes_4, from_be_bytes-to_be_bytes_8, le_bytes_2, le_bytes_4, le_bytes_8, from_le_bytes-to_le_bytes_2, from_le_bytes-to_le_bytes_4, from_le_bytes-to_le_bytes_8}
use Rattle.std.proofs.Math.Nat.{mod-eq_of_lt}
use Rattle.kit_base.specs.Bytes.{be, le}
use Rattle.mint.specs.declared.kind.Kind.TheVariants as kind
use Rattle.mint.specs.Types.{Scalar, number, label}
use Rattle.wire_def.specs.declared.encoding.Encoding.{Encoding}
use Rattle.wire_def.specs.declared.encoding.Encoding.TheVariants.{Xdr, CdrBig, CdrLittle, Mach}
use Rattle.wire_def.specs.declared.fault.FaultKind.{FaultKind}
use Rattle.wire_def.specs.declared.fault.FaultKind.TheVariants.{Short}
use Rattle.wire_def.specs.Grammar.{got, stop, AreOctets, IsGrammar}
use Rattle.wire_def.specs.Scalars.{gap, full, own_width, at_least_32, width_of, number_octets, octets_number, WordSpells, WordStops, read_word}
use Rattle.wire_def.proofs.Grammars.{octets_after, octets_before}

-- octets that give a number of the width back
pub record IsWideBy (w : Width) (to : ℕ → List ℕ) (from : List ℕ → ℕ) : Type 0 where
  pub len : (m : ℕ) → length (to m) ≡ byte_len w
  pub back : (o : List ℕ) → length o ≡ byte_len w → AreOctets o → to (from o) ≡ o
  pub again : (m : ℕ) → m < full w → from (to m) ≡ m
  pub below : (o : List ℕ) → length o ≡ byte_len w → AreOctets o → from o < full w

-- a width of an encoding
abbrev pub IsWide : Encoding → Width → Type 0
IsWide e w = IsWideBy w (number_octets e w) (octets_number e w)

pub octet_at : (o : List ℕ) → AreOctets o → (i : ℕ) → get_or o i 0 < 256
octet_at [] h i = omega arith
octet_at (b ∷ o) h zero = h.0
octet_at (b ∷ o) h (suc i) = octet_at o h.1 i

one_octet : (o : List ℕ) → length o ≡ 1 → AreOctets o → (b : ℕ) × (o ≡ b ∷ []) × (b < 256)
one_octet [] h oct = absurd cc
one_octet (b ∷ []) h oct = (b, refl, oct.0)
one_octet (b ∷ c ∷ o) h oct = absurd cc

small : (m n : ℕ) → m < n → m % n ≡ m
small m n h = mod-eq_of_lt h

big8 : IsWideBy w8 (be 1) (from_be_bytes w8)
big8 = record {
  len = λ m. refl;
  back = λ o len oct. let one = one_octet o len oct in rw one.1 (ap (λ z. z ∷ []) (small one.0 256 one.2));
  again = λ m lt. small m 256 lt;
  below = λ o len oct. let fits = octet_at o oct in omega (arith, fits 0);
}

little8 : IsWideBy w8 (le 1) (from_le_bytes w8)
little8 = record {
  len = λ m. refl;
  back = λ o len oct. let one = one_octet o len oct in rw one.1 (ap (λ z. z ∷ []) (small one.0 256 one.2));
  again = λ m lt. small m 256 lt;
  below = λ o len oct. let fits = octet_at o oct in omega (arith, fits 0);
}

big16 : IsWideBy w16 (be 2) (from_be_bytes w16)
big16 = record {
  len = λ m. refl;
  back = λ o len oct. be_bytes_2 o _ len (octet_at o oct) refl;
  again = λ m lt. from_be_bytes-to_be_bytes_2 m lt;
  below = λ o len oct. let fits = octet_at o oct in omega (arith, fits 0, fits 1);
}

little16 : IsWideBy w16 (le 2) (from_le_bytes w16)
little16 = record {
  len = λ m. refl;
  back = λ o len oct. le_bytes_2 o _ len (octet_at o oct) refl;
  again = λ m lt. from_le_bytes-to_le_bytes_2 m lt;
  below = λ o len oct. let fits = octet_at o oct in omega (arith, fits 0, fits 1);
}

big32 : IsWideBy w32 (be 4) (from_be_bytes w32)
big32 = record {
  len = λ m. refl;
  back = λ o len oct. be_bytes_4 o _ len (octet_at o oct) refl;
  again = λ m lt. from_be_bytes-to_be_bytes_4 m lt;
  below = λ o len oct. let fits = octet_at o oct in omega (arith, fits 0, fits 1, fits 2, fits 3);
}

little32 : IsWideBy w32 (le 4) (from_le_bytes w32)
little32 = record {
  len = λ m. refl;
  back = λ o len oct. le_bytes_4 o _ len (octet_at o oct) refl;
  again = λ m lt. from_le_bytes-to_le_bytes_4 m lt;
  below = λ o len oct. let fits = octet_at o oct in omega (arith, fits 0, fits 1, fits 2, fits 3);
}

big64 : IsWideBy w64 (be 8) (from_be_bytes w64)
big64 = record {
  len = λ m. refl;
  back = λ o len oct. be_bytes_8 o _ len (octet_at o oct) refl;
  again = λ m lt. from_be_bytes-to_be_bytes_8 m lt;
  below = λ o len oct. let fits = octet_at o oct in omega (arith, fits 0, fits 1, fits 2, fits 3, fits 4, fits 5, fits 6, fits 7);
}

little64 : IsWideBy w64 (le 8) (from_le_bytes w64)
little64 = record {
  len = λ m. refl;
  back = λ o len oct. le_bytes_8 o _ len (octet_at o oct) refl;
  again = λ m lt. from_le_bytes-to_le_bytes_8 m lt;
  below = λ o len oct. let fits = octet_at o oct in omega (arith, fits 0, fits 1, fits 2, fits 3, fits 4, fits 5, fits 6, fits 7);
}

-- the widths of numbers
pub data IsOwn : Width → Type 0 where
  is8 : IsOwn w8
  is16 : IsOwn w16
  is32 : IsOwn w32
  is64 : IsOwn w64

wide_own : (e : Encoding) (w : Width) → IsOwn w → IsWide e w
wide_own Xdr _ is8 = big8
wide_own Xdr _ is16 = big16
wide_own Xdr _ is32 = big32
wide_own Xdr _ is64 = big64
wide_own CdrBig _ is8 = big8
wide_own CdrBig _ is16 = big16
wide_own CdrBig _ is32 = big32
wide_own CdrBig _ is64 = big64
wide_own CdrLittle _ is8 = little8
wide_own CdrLittle _ is16 = little16
wide_own CdrLittle _ is32 = little32
wide_own CdrLittle _ is64 = little64
wide_own Mach _ is8 = little8
wide_own Mach _ is16 = little16
wide_own Mach _ is32 = little32
wide_own Mach _ is64 = little64

own_own : (s : Scalar) → IsOwn (own_width s)
own_own (label labels) = is32
own_own (number kind.Octet) = is8
own_own (number kind.I8) = is8
own_own (number kind.U8) = is8
own_own (number kind.Char) = is8
own_own (number kind.Bool) = is8
own_own (number kind.I16) = is16
own_own (number kind.U16) = is16
own_own (number kind.I32) = is32
own_own (number kind.U32) = is32
own_own (number kind.I64) = is64
own_own (number kind.U64) = is64

at_least_own : (w : Width) → IsOwn w → IsOwn (at_least_32 w)
at_least_own _ is8 = is32
at_least_own _ is16 = is32
at_least_own _ is32 = is32
at_least_own _ is64 = is64

mach_own : (s : Scalar) → IsOwn (width_of Mach s)
mach_own (number kind.Bool) = is32
mach_own (label labels) = is32
mach_own (number kind.Octet) = is8
mach_own (number kind.I8) = is8
mach_own (number kind.U8) = is8
mach_own (number kind.Char) = is8
mach_own (number kind.I16) = is16
mach_own (number kind.U16) = is16
mach_own (number kind.I32) = is32
mach_own (number kind.U32) = is32
mach_own (number kind.I64) = is64
mach_own (number kind.U64) = is64

pub own_of : (e : Encoding) (s : Scalar) → IsOwn (width_of e s)
own_of Xdr s = at_least_own (own_width s) (own_own s)
own_of CdrBig s = own_own s
own_of CdrLittle s = own_own s
own_of Mach s = mach_own s

pub wide : (e : Encoding) (s : Scalar) → IsWide e (width_of e s)
wide e s = wide_own e (width_of e s) (own_of e s)

pub wide32 : IsWide Xdr w32
wide32 = big32

pub desc_wide : IsWide Mach w32
desc_wide = little32

pub rest_wide : IsWide Mach w64
rest_wide = little64

pub picked_got : {E A : Type 0} (b : Bool) (k : E) (at : ℕ) (x y : A) (p q : ℕ) (o rest : List ℕ)
    → cond b (stop k at) (got x p o) ≡ got y q rest
    → (b ≡ false) × (x ≡ y) × (p ≡ q) × (o ≡ rest)
picked_got true k at x y p q o rest e = absurd cc
picked_got false k at x y p q o rest e = (refl, cc, cc, cc)

pub picked_stop : {E A : Type 0} (b : Bool) (k k' : E) (at at' : ℕ) (x : A) (p : ℕ) (o : List ℕ)
    → cond b (stop k at) (got x p o) ≡ stop k' at'
    → (b ≡ true) × (k' ≡ k) × (at' ≡ at)
picked_stop true k k' at at' x p o e = (refl, cc, cc)
picked_stop false k k' at at' x p o e = absurd cc

module _ (e : Encoding) (a : ℕ) (w : Width) (is_wide : IsWide e w) where
  word_reads : (p : ℕ) (o rest : List ℕ) (m : ℕ) → WordSpells e a w p o m → read_word e a w p (o ++ rest) ≡ got m (p + length o) rest
  unfolding WordSpells read_word
  word_reads p o rest m (junk, len, is, lt) =
      let num : List ℕ = number_octets e w m in
      let long : length o ≡ gap p a + byte_len w = omega (arith, ap length is, length-append junk num, is_wide.len m) in
      let enough : ltb (length (o ++ rest)) (gap p a + byte_len w) ≡ false = le-ltb _ _ (omega (arith, length-append o rest)) in
      let apart : o ++ rest ≡ junk ++ (num ++ rest) = ap (λ z. z ++ rest) is ∙ append_assoc junk num rest in
      rw (
        enough,
        apart,
        drop_at junk (num ++ rest) (gap p a) len,
        take_at num rest (byte_len w) (is_wide.len m),
        drop_at num rest (byte_len w) (is_wide.len m),
        is_wide.again m lt,
        ← long,
      ) refl

  word_spelled : (p : ℕ) (o : List ℕ) (m q : ℕ) (rest : List ℕ) → AreOctets o → read_word e a w p o ≡ got m q rest
      → (b : List ℕ) × (o ≡ b ++ rest) × (q ≡ p + length b) × WordSpells e a w p b m
  unfolding WordSpells read_word
  word_spelled p o m q rest oct is =
      let g : ℕ = gap p a in
      let n : ℕ = byte_len w in
      let t = picked_got (ltb (length o) (g + n)) Short (p + g) (octets_number e w (take n (drop g o))) m (p + (g + n)) q
      (drop n (drop g o)) rest is in
      let enough : g + n ≤ length o = ltb-false _ _ t.0 in
      let junk : List ℕ = take g o in
      let num : List ℕ = take n (drop g o) in
      let junk_len : length junk ≡ g = omega (arith, length-take g o) in
      let num_len : length num ≡ n = omega (arith, length-take n (drop g o), length-drop g o) in
      let after : AreOctets (drop g o) = octets_after junk (drop g o) (rw take-append-drop oct) in
      let oct_num : AreOctets num = octets_before num (drop n (drop g o)) (rw take-append-drop after) in
      let whole : o ≡ (junk ++ num) ++ rest =
      sym (append_assoc junk num rest
      ∙ ap (λ z. junk ++ (num ++ z)) (sym t.3) ∙ ap (λ z. junk ++ z) (take-append-drop n (drop g o)) ∙ take-append-drop g o) in (
        junk ++ num,
        whole,
        omega (arith, t.2, length-append junk num),
        (
          junk,
          junk_len,
          ap (λ z. junk ++ z) (rw (← t.1) (sym (is_wide.back num num_len oct_num))),
          rw (← t.1) (is_wide.below num num_len oct_num),
        ),
      )

  word_stops : (p : ℕ) (o : List ℕ) (k : FaultKind) (at : ℕ) → WordStops e a w p o k at → read_word e a w p o ≡ stop k at
  unfolding WordStops read_word
  word_stops p o k at (short, which, there) = rw (lt-ltb _ _ short, which, there) refl

  word_faulty : (p : ℕ) (o : List ℕ) (k : FaultKind) (at : ℕ) → AreOctets o → read_word e a w p o ≡ stop k at → WordStops e a w p o k at
  unfolding WordStops read_word
  word_faulty p o k at oct is =
      let g : ℕ = gap p a in
      let n : ℕ = byte_len w in
      let t = picked_stop (ltb (length o) (g + n)) Short k (p + g) at (octets_number e w (take n (drop g o))) (p + (g + n))
      (drop n (drop g o)) is in
      (ltb-true _ _ t.0, t.1, t.2)

  pub word_is : IsGrammar (read_word e a w) (WordSpells e a w) (WordStops e a w)
  word_is = record { reads = word_reads; spelled = word_spelled; stops = word_stops; faulty = word_faulty }
