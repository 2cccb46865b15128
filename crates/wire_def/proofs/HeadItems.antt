-- Parts of heads are grammars.
use Rattle.std.proofs.Common.{◌≡◌, ℕ, ◌+◌, ◌≤◌, List, ◌++◌, length, take, drop, false, ltb, refl, sym, ap, ◌∙◌, length-append, arith}
use Rattle.std.proofs.lemmas.Bool.{ltb-false, ltb-true, le-ltb, lt-ltb}
use Rattle.std.proofs.lemmas.List.{take_at, drop_at, take-append-drop, length-take}
use Rattle.wire_def.specs.declared.fault.HeadErr.{HeadErr}
use Rattle.wire_def.specs.declared.fault.HeadErr.TheVariants.{Short}
use Rattle.wire_def.specs.Grammar.{got, stop, AreOctets, IsGrammar}
use Rattle.wire_def.specs.HeadItems.{BodySpells, BodyStops, read_body}
use Rattle.wire_def.proofs.Words.{picked_got, picked_stop}

-- the first so many octets, if there are as many
module _ (n : ℕ) where
  body_reads : (p : ℕ) (o rest x : List ℕ) → BodySpells n p o x → read_body n p (o ++ rest) ≡ got x (p + length o) rest
  unfolding read_body
  body_reads p o rest x (is, long) =
      let same : length o ≡ n = ap length is ∙ long in
      let enough : ltb (length (o ++ rest)) n ≡ false = le-ltb _ _ (omega (arith, length-append o rest)) in
      rw (enough, take_at o rest n same, drop_at o rest n same, same, is) refl

  body_spelled : (p : ℕ) (o x : List ℕ) (q : ℕ) (rest : List ℕ) → AreOctets o → read_body n p o ≡ got x q rest
      → (a : List ℕ) × (o ≡ a ++ rest) × (q ≡ p + length a) × BodySpells n p a x
  unfolding read_body
  body_spelled p o x q rest oct e =
      let t = picked_got (ltb (length o) n) Short p (take n o) x (p + n) q (drop n o) rest e in
      let enough : n ≤ length o = ltb-false _ _ t.0 in
      let long : length (take n o) ≡ n = omega (arith, length-take n o) in
      (take n o, sym (take-append-drop n o) ∙ ap (λ z. take n o ++ z) t.3, omega (arith, t.2, long), (t.1, ap length (sym t.1) ∙ long))

  body_stops : (p : ℕ) (o : List ℕ) (k : HeadErr) (at : ℕ) → BodyStops n p o k at → read_body n p o ≡ stop k at
  unfolding read_body
  body_stops p o k at (short, which, there) = rw (lt-ltb _ _ short, which, there) refl

  body_faulty : (p : ℕ) (o : List ℕ) (k : HeadErr) (at : ℕ) → AreOctets o → read_body n p o ≡ stop k at → BodyStops n p o k at
  unfolding read_body
  body_faulty p o k at oct e =
      let t = picked_stop (ltb (length o) n) Short k p at (take n o) (p + n) (drop n o) e in
      (ltb-true _ _ t.0, t.1, t.2)

  pub body_is : IsGrammar (read_body n) (BodySpells n) (BodyStops n)
  body_is = record { reads = body_reads; spelled = body_spelled; stops = body_stops; faulty = body_faulty }
