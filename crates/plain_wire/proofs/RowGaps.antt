-- The elements of a row are one gap, and then numbers without gaps, by induction on the numbers and on their number.
use Rattle.std.proofs.Common.{◌≡◌, ℕ, zero, suc, ◌+◌, ℤ, List, [], ◌∷◌, ◌++◌, length, replicate, take, drop, Bool, true, false, cond, ltb, refl, sym, ap, ◌∙◌, subst, append_assoc, length-append, add-zero, arith}
use Rattle.std.specs.Prelude.{if◌then◌else◌}
use Rattle.std.specs.Int.{Width, byte_len}
use Rattle.std.proofs.lemmas.Bool.{le-ltb}
use Rattle.std.proofs.lemmas.List.{length-replicate, drop_all}
use Rattle.mint.specs.declared.kind.Kind.{Kind}
use Rattle.mint.specs.Types.{Scalar, number}
use Rattle.mint.specs.Typed.{is_scalar}
use Rattle.wire_def.specs.declared.encoding.Encoding.{Encoding}
use Rattle.wire_def.specs.declared.encoding.Encoding.TheVariants.{Xdr, CdrBig, CdrLittle, Mach}
use Rattle.wire_def.specs.declared.fault.FaultKind.{FaultKind}
use Rattle.wire_def.specs.declared.fault.FaultKind.TheVariants.{Short, BadValue}
use Rattle.wire_def.specs.Grammar.{Reading, got, stop, then_on, map_got, times}
use Rattle.wire_def.specs.Scalars.{gap, alignment_of, own_width, width_of, is_signed, number_of, octets_number, scalar_octets, read_scalar}
use Rattle.wire_def.specs.Arrays.{elements_octets}
use Rattle.wire_def.proofs.Words.{IsOwn, is8, is16, is32, is64, own_of, wide}
use Rattle.plain_wire.specs.Readers.{read_gap, read_here}
use Rattle.plain_wire.specs.Rows.{bare_octets, numbers_octets, first_gap}
use Rattle.plain_wire.proofs.Words.{word_here, gap_got, scalar_after}

-- ---- positions

alone : (p : ℕ) → gap p 1 ≡ 0
alone p = omega arith

turned : (w : Width) → IsOwn w → (p : ℕ) → gap p (byte_len w) ≡ 0 → gap (p + byte_len w) (byte_len w) ≡ 0
turned _ is8 p h = omega arith
turned _ is16 p h = omega arith
turned _ is32 p h = omega arith
turned _ is64 p h = omega arith

reached : (w : Width) → IsOwn w → (p : ℕ) → gap (p + gap p (byte_len w)) (byte_len w) ≡ 0
reached _ is8 p = omega arith
reached _ is16 p = omega arith
reached _ is32 p = omega arith
reached _ is64 p = omega arith

-- the position after an aligned number is aligned
after_aligned : (e : Encoding) (s : Scalar) (p : ℕ) → gap p (alignment_of e s) ≡ 0
    → gap (p + byte_len (width_of e s)) (alignment_of e s) ≡ 0
after_aligned Xdr s p h = alone (p + byte_len (width_of Xdr s))
after_aligned CdrBig s p h = turned (own_width s) (own_of CdrBig s) p h
after_aligned CdrLittle s p h = turned (own_width s) (own_of CdrLittle s) p h
after_aligned Mach s p h = alone (p + byte_len (width_of Mach s))

-- the position after a gap is aligned
gap_aligned : (e : Encoding) (s : Scalar) (p : ℕ) → gap (p + gap p (alignment_of e s)) (alignment_of e s) ≡ 0
gap_aligned Xdr s p = alone (p + gap p 1)
gap_aligned CdrBig s p = reached (own_width s) (own_of CdrBig s) p
gap_aligned CdrLittle s p = reached (own_width s) (own_of CdrLittle s) p
gap_aligned Mach s p = alone (p + gap p 1)

-- ---- sending

bare_long : (e : Encoding) (k : Kind) (n : ℤ) → length (bare_octets e k n) ≡ byte_len (width_of e (number k))
unfolding bare_octets
bare_long e k n = (wide e (number k)).len _

aligned_elements : (e : Encoding) (k : Kind) (p : ℕ) (ns : List ℤ) → gap p (alignment_of e (number k)) ≡ 0
    → elements_octets (scalar_octets e (number k)) p ns ≡ numbers_octets e k ns
unfolding elements_octets scalar_octets bare_octets
aligned_elements e k p [] h = refl
aligned_elements e k p (n ∷ ns) h =
    let rest = aligned_elements e k (p + byte_len (width_of e (number k))) ns (after_aligned e (number k) p h) in
    rw (h, bare_long e k n, rest) refl

-- the elements of a row are one gap and its numbers
pub row_gapped : (e : Encoding) (k : Kind) (p : ℕ) (ns : List ℤ)
    → elements_octets (scalar_octets e (number k)) p ns ≡ replicate (first_gap e k p (length ns)) 0 ++ numbers_octets e k ns
unfolding elements_octets scalar_octets bare_octets
row_gapped e k p [] = refl
row_gapped e k p (n ∷ ns) =
    let g : ℕ = gap p (alignment_of e (number k)) in
    let w : ℕ = byte_len (width_of e (number k)) in
    let long : length (replicate g 0 ++ bare_octets e k n) ≡ g + w = length-append (replicate g 0) (bare_octets e k n)
    ∙ ap (λ z. z + length (bare_octets e k n)) (length-replicate g 0) ∙ ap (λ z. g + z) (bare_long e k n) in
    let there : p + g + w ≡ p + (g + w) = omega arith in
    let aligned : gap (p + (g + w)) (alignment_of e (number k))
    ≡ 0 =
    subst (λ q. gap q (alignment_of e (number k)) ≡ 0) there (after_aligned e (number k) (p + g) (gap_aligned e (number k) p)) in
    ap (λ q. (replicate g 0 ++ bare_octets e k n) ++ elements_octets (scalar_octets e (number k)) (p + q) ns) long
    ∙ ap (λ z. (replicate g 0 ++ bare_octets e k n) ++ z) (aligned_elements e k (p + (g + w)) ns aligned)
    ∙ append_assoc (replicate g 0) (bare_octets e k n) (numbers_octets e k ns)

-- ---- reading

gap_none : (p : ℕ) (o : List ℕ) → read_gap 0 p o ≡ got tt p o
unfolding read_gap
gap_none p o = rw (le-ltb (length o) 0 (omega arith), add-zero) refl

module _ (e : Encoding) (s : Scalar) where
  -- where a number begins there is no gap
  here_aligned : (p : ℕ) (o : List ℕ) → gap p (alignment_of e s) ≡ 0 → read_scalar e s p o ≡ read_here e s p o
  here_aligned p o h = scalar_after e s p o
      ∙ ap (λ g. then_on (read_gap g p o) (λ x q b. read_here e s q b)) h ∙ ap (λ r.
      then_on r (λ x q b. read_here e s q b)) (gap_none p o)

  -- a number is read from the octets of its width
  tested_place : (u : Bool) (m n : ℤ) (p q r : ℕ) (d b : List ℕ) → cond u (got m q d) (stop BadValue p) ≡ got n r b → r ≡ q
  tested_place true m n p q r d b is = let same : q ≡ r = cc in sym same
  tested_place false m n p q r d b is = absurd cc

  here_place : (p : ℕ) (o : List ℕ) (n : ℤ) (q : ℕ) (b : List ℕ) → read_here e s p o ≡ got n q b → q ≡ p + byte_len (width_of e s)
  here_place p o n q b is = past (ltb (length o) (byte_len (width_of e s))) (rw word_here at is) where
    m : ℕ
    m = octets_number e (width_of e s) (take (byte_len (width_of e s)) o)

    f : ℕ → ℤ
    f = number_of (is_signed s) (width_of e s)

    past : (t : Bool)
        → then_on (map_got f (cond t (stop Short p) (got m (p + byte_len (width_of e s)) (drop (byte_len (width_of e s)) o))))
        (λ x r c. if is_scalar s x then got x r c else stop BadValue p) ≡ got n q b → q ≡ p + byte_len (width_of e s)
    past true is' = absurd cc
    past false is' = tested_place (is_scalar s (f m)) (f m) n p (p + byte_len (width_of e s)) q (drop (byte_len (width_of e s)) o) b is'

  -- after the first number, and from an aligned position, there is no gap
  times_aligned : (n p : ℕ) (o : List ℕ) → gap p (alignment_of e s) ≡ 0 → times (read_scalar e s) n p o ≡ times (read_here e s) n p o
  times_aligned zero p o h = refl
  times_aligned (suc n) p o h = rw (here_aligned p o h) (more (λ q b aligned. times_aligned n q b aligned) (read_here e s p o) refl) where
    more : ((q : ℕ) (b : List ℕ) → gap q (alignment_of e s) ≡ 0 → times (read_scalar e s) n q b ≡ times (read_here e s) n q b)
        → (r : Reading FaultKind ℤ) → read_here e s p o ≡ r
        → then_on r (λ x q rest. map_got (λ xs. x ∷ xs) (times (read_scalar e s) n q rest)) ≡ then_on r (λ x q rest.
        map_got (λ xs. x ∷ xs) (times (read_here e s) n q rest))
    more rest (got x q b) is =
        let aligned = rw (← here_place p o x q b is) at (after_aligned e s p h) in
        ap (λ z. map_got (λ xs. x ∷ xs) z) (rest q b aligned)
    more rest (stop k at) is = refl

  -- so many numbers, where there is one at least
  some_after : (n p : ℕ) (o : List ℕ)
      → times (read_scalar e s) (suc n) p o ≡ then_on (read_gap (gap p (alignment_of e s)) p o) (λ x q b. times (read_here e s) (suc n) q b)
  some_after n p o = rw (scalar_after e s p o) (after (read_gap (gap p (alignment_of e s)) p o) refl) where
    rest : Reading FaultKind ℤ → Reading FaultKind (List ℤ)
    rest r = then_on r (λ x q b. map_got (λ xs. x ∷ xs) (times (read_scalar e s) n q b))

    after : (r : Reading FaultKind (Unit {0})) → read_gap (gap p (alignment_of e s)) p o ≡ r
        → rest (then_on r (λ x q b. read_here e s q b)) ≡ then_on r (λ x q b. times (read_here e s) (suc n) q b)
    after (got x q b) is =
        let there = gap_got (gap p (alignment_of e s)) p o x q b is in
        let aligned = rw (← there) at (gap_aligned e s p) in
        ap rest (sym (here_aligned q b aligned)) ∙ times_aligned (suc n) q b aligned
    after (stop k at) is = refl

-- the elements of a row are read after one gap
pub row_after : (e : Encoding) (k : Kind) (n p : ℕ) (o : List ℕ)
    → times (read_scalar e (number k)) n p o ≡ then_on (read_gap (first_gap e k p n) p o) (λ x q b. times (read_here e (number k)) n q b)
row_after e k zero p o = rw gap_none refl
row_after e k (suc n) p o = some_after e (number k) n p o

pub ruleset reads = (row_after)

pub ruleset gapped = (row_gapped, length-replicate)
