-- Pads are grammars, by induction on their length.
use Rattle.std.proofs.Common.{◌≡◌, ℕ, zero, suc, ◌+◌, List, [], ◌∷◌, ◌++◌, length, replicate, refl, sym, ap, arith, add-zero}
use Rattle.wire_def.specs.declared.fault.HeadErr.{HeadErr}
use Rattle.wire_def.specs.Grammar.{got, stop, AreOctets, IsGrammar}
use Rattle.back_xdr.specs.Auth.{PadStops, read_pad}

pad_reads : (n p : ℕ) (o rest : List ℕ) (x : Unit {0}) → o ≡ replicate n 0 → read_pad n p (o ++ rest) ≡ got x (p + length o) rest
unfolding read_pad
pad_reads zero p o rest x is = rw (is, add-zero) refl
pad_reads (suc n) p o rest x is = rw (is, pad_reads n (p + 1) (replicate n 0) rest tt refl) (ap (λ (m : ℕ). got tt m rest) (omega arith))

pad_spelled : (n p : ℕ) (o : List ℕ) (x : Unit {0}) (q : ℕ) (rest : List ℕ) → AreOctets o → read_pad n p o ≡ got x q rest
    → (a : List ℕ) × (o ≡ a ++ rest) × (q ≡ p + length a) × (a ≡ replicate n 0)
unfolding read_pad
pad_spelled zero p o x q rest oct e =
    let same : p ≡ q = cc in
    ([], cc, rw add-zero (sym same), refl)
pad_spelled (suc n) p [] x q rest oct e = absurd cc
pad_spelled (suc n) p (zero ∷ o) x q rest oct e =
    let m = pad_spelled n (p + 1) o x q rest oct.1 e in
    (0 ∷ m.0, ap (λ z. 0 ∷ z) m.1, omega (arith, m.2), ap (λ z. 0 ∷ z) m.3)
pad_spelled (suc n) p (suc b ∷ o) x q rest oct e = absurd cc

pad_stops : (n p : ℕ) (o : List ℕ) (k : HeadErr) (at : ℕ) → PadStops n p o k at → read_pad n p o ≡ stop k at
unfolding read_pad PadStops
pad_stops zero p o k at f = absurd f
pad_stops (suc n) p [] k at (which, there) = rw (which, there) refl
pad_stops (suc n) p (zero ∷ o) k at f = pad_stops n (p + 1) o k at f
pad_stops (suc n) p (suc b ∷ o) k at (which, there) = rw (which, there) refl

pad_faulty : (n p : ℕ) (o : List ℕ) (k : HeadErr) (at : ℕ) → AreOctets o → read_pad n p o ≡ stop k at → PadStops n p o k at
unfolding read_pad PadStops
pad_faulty zero p o k at oct e = absurd cc
pad_faulty (suc n) p [] k at oct e = (cc, cc)
pad_faulty (suc n) p (zero ∷ o) k at oct e = pad_faulty n (p + 1) o k at oct.1 e
pad_faulty (suc n) p (suc b ∷ o) k at oct e = (cc, cc)

pub pad_is : (n : ℕ) → IsGrammar (read_pad n) (λ p o x. o ≡ replicate n 0) (PadStops n)
pad_is n = record { reads = pad_reads n; spelled = pad_spelled n; stops = pad_stops n; faulty = pad_faulty n }
