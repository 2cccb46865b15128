-- Words are grammars.
use Rattle.std.proofs.Common.{◌≡◌, ℕ, ◌+◌, ◌≤◌, List, ◌++◌, length, take, drop, Bool, false, ltb, refl, sym, ap, ◌∙◌, length-append, arith}
use Rattle.std.specs.Int.{w32}
use Rattle.std.proofs.lemmas.Bool.{ltb-false, ltb-true, le-ltb, lt-ltb}
use Rattle.std.proofs.lemmas.List.{take_at, drop_at, take-append-drop, length-take}
use Rattle.wire_def.specs.declared.fault.HeadErr.{HeadErr}
use Rattle.wire_def.specs.declared.fault.HeadErr.TheVariants.{Short}
use Rattle.wire_def.specs.declared.head.Order.{Order}
use Rattle.wire_def.specs.declared.head.Order.TheVariants.{Big, Little}
use Rattle.wire_def.specs.Grammar.{got, stop, AreOctets, IsGrammar}
use Rattle.wire_def.proofs.Grammars.{octets_before, tested_are}
use Rattle.wire_def.proofs.Words.{IsWideBy, wide32, desc_wide, picked_got, picked_stop}
use Rattle.head_kit.specs.Words.{word, number, WordSpells, WordStops, read_word, PassSpells, PassStops, read_pass}

wide : (r : Order) → IsWideBy w32 (word r) (number r)
wide Big = wide32
wide Little = desc_wide

module _ (r : Order) where
  word_reads : (p : ℕ) (o rest : List ℕ) (n : ℕ) → WordSpells r p o n → read_word r p (o ++ rest) ≡ got n (p + length o) rest
  unfolding WordSpells read_word
  word_reads p o rest n (is, lt) =
      let same : length o ≡ 4 = ap length is ∙ (wide r).len n in
      let enough : ltb (length (o ++ rest)) 4 ≡ false = le-ltb _ _ (omega (arith, length-append o rest)) in
      let back : number r o ≡ n = ap (number r) is ∙ (wide r).again n lt in
      rw (enough, take_at o rest 4 same, drop_at o rest 4 same, same, back) refl

  word_spelled : (p : ℕ) (o : List ℕ) (n q : ℕ) (rest : List ℕ) → AreOctets o → read_word r p o ≡ got n q rest
      → (a : List ℕ) × (o ≡ a ++ rest) × (q ≡ p + length a) × WordSpells r p a n
  unfolding WordSpells read_word
  word_spelled p o n q rest oct e =
      let t = picked_got (ltb (length o) 4) Short p (number r (take 4 o)) n (p + 4) q (drop 4 o) rest e in
      let enough : 4 ≤ length o = ltb-false _ _ t.0 in
      let long : length (take 4 o) ≡ 4 = omega (arith, length-take 4 o) in
      let octs : AreOctets (take 4 o) = octets_before (take 4 o) (drop 4 o) (rw take-append-drop oct) in (
        take 4 o,
        sym (take-append-drop 4 o)
            ∙ ap (λ z.
            take 4 o ++ z) t.3,
        omega (arith, t.2, long),
        (rw (← t.1) (sym ((wide r).back (take 4 o) long octs)), rw (← t.1) ((wide r).below (take 4 o) long octs)),
      )

  word_stops : (p : ℕ) (o : List ℕ) (k : HeadErr) (at : ℕ) → WordStops p o k at → read_word r p o ≡ stop k at
  unfolding WordStops read_word
  word_stops p o k at (short, which, there) = rw (lt-ltb _ _ short, which, there) refl

  word_faulty : (p : ℕ) (o : List ℕ) (k : HeadErr) (at : ℕ) → AreOctets o → read_word r p o ≡ stop k at → WordStops p o k at
  unfolding WordStops read_word
  word_faulty p o k at oct e =
      let t = picked_stop (ltb (length o) 4) Short k p at (number r (take 4 o)) (p + 4) (drop 4 o) e in
      (ltb-true _ _ t.0, t.1, t.2)

  pub word_is : IsGrammar (read_word r) (WordSpells r) WordStops
  word_is = record { reads = word_reads; spelled = word_spelled; stops = word_stops; faulty = word_faulty }

  pub pass_is : (test : ℕ → Bool) (fault : HeadErr)
      → IsGrammar (read_pass r test fault) (PassSpells r test) (PassStops r test fault)
  pass_is test fault = tested_are test fault (λ p. p) word_is
