-- A text has tokens or a first fault, by induction on a bound on the octets that are left.
use Rattle.std.proofs.Common.{◌≡◌, ◌⊎◌, inl, inr, ℕ, zero, suc, ◌+◌, ◌-◌, ◌^◌, ◌<◌, ◌≤◌, min, List, [], ◌∷◌, ◌++◌, length, take, drop, Option, Some, None, Ok, Err, Bool, ◌&&◌, true, false, refl, sym, subst, ◌∙◌, ap, arith}
use Rattle.std.specs.List.{take_while, prefix_len}
use Rattle.std.proofs.lemmas.Bool.{cond_both, false≢true, cases_lt}
use Rattle.std.proofs.lemmas.List.{drop_all, length-take, length-append}
use Rattle.std.proofs.Math.Seq.{take-length}
use Rattle.std.proofs.lemmas.Option.{none-some}
use Rattle.idl_lex.specs.Classes.{is_blank, is_in_line, is_letter, is_word_octet, begins}
use Rattle.idl_lex.specs.Numbers.{is_number}
use Rattle.idl_lex.specs.Lines.{line_feeds}
use Rattle.idl_lex.specs.Quotes.{is_backslash, is_single, is_plain, escape_of, of_length, escaped_at, plain_at, character_at}
use Rattle.idl_lex.specs.Pieces.{Piece, blanks, comment, skipped_line, name, number, character, string, file_name, mark, octets_of, kind_of, opens_comment, mark_count, imports_on, IsPieceOf, AllStand}
use Rattle.idl_lex.specs.Lexed.{token_on, AreTokens, IsFirstFault, TextsAreDecided}
use Rattle.idl_lex.specs.Reads.{Read, shown, piece_at}
use Rattle.idl_lex.specs.declared.kinds.Front.{Front}
use Rattle.idl_lex.specs.declared.kinds.Token.{Token}
use Rattle.idl_lex.specs.declared.lexing.LexErr.{LexErr}
use Rattle.idl_lex.proofs.Firsts.{is_other, skipped_is_other, quote_is_other, file_is_other, other_blank}
use Rattle.idl_lex.proofs.Standing.{piece_is_read, IsRead}
use Rattle.idl_lex.proofs.Reading.{So, go_on_at, first_fault}

-- ---- a piece has octets

-- a run of octets of a class, where the first is one
run_has : (is : ℕ → Bool) (text : List ℕ) → begins is text ≡ true → 0 < length (take_while is text)
run_has is [] h = absurd (false≢true h)
run_has is (o ∷ os) h =
    let some : 0 < prefix_len is (o ∷ os) = rw h (omega arith) in
    omega (arith, length-take (prefix_len is (o ∷ os)) (o ∷ os), some)

blank_or_in_line : (o : ℕ) → is_blank o ≡ false → is_in_line o ≡ true
blank_or_in_line o h = grind arith

begins_in_line : (text : List ℕ) → begins is_other text ≡ true → begins is_in_line text ≡ true
begins_in_line [] h = absurd (false≢true h)
begins_in_line (o ∷ os) h = blank_or_in_line o (other_blank (o ∷ os) h)

begins_word : (text : List ℕ) → begins is_letter text ≡ true → begins is_word_octet text ≡ true
begins_word [] h = absurd (false≢true h)
begins_word (o ∷ os) h = rw h refl

begins_some : (is : ℕ → Bool) (text : List ℕ) → begins is text ≡ true → 0 < length text
begins_some is [] h = absurd (false≢true h)
begins_some is (o ∷ os) h = omega arith

comment_some : (text : List ℕ) → opens_comment text ≡ true → 0 < length text
comment_some [] h = absurd (false≢true h)
comment_some (o ∷ os) h = omega arith

mark_some : (text : List ℕ) → 0 < mark_count text → 0 < length text
mark_some [] h = absurd (omega arith)
mark_some (o ∷ os) h = omega arith

number_some : (os : List ℕ) → is_number os ≡ true → 0 < length os
number_some [] h = absurd (false≢true h)
number_some (o ∷ os) h = omega arith

other_some : (text : List ℕ) → begins is_other text ≡ true → 0 < length text
other_some text h = begins_some is_other text h

same_some : (x y : ℕ × ℕ) → Some x ≡ Some y → x ≡ y
same_some x y e = cc

length_some : (m n : ℕ) (c : ℕ) (o : Option ℕ) → of_length m o ≡ Some (c, n) → n ≡ m
length_some m n c None h = absurd (none-some _ h)
length_some m n c (Some d) h = sym (ap (λ x. x.1) (same_some (d, m) (c, n) h))

escaped_some : (c n : ℕ) (os : List ℕ) → escaped_at os ≡ Some (c, n) → 0 < n
escaped_some c n [] h = absurd (none-some _ h)
escaped_some c n (o ∷ os) h =
    cond_both (begins is_single os) (of_length 4 (escape_of o)) None (λ z. z ≡ Some (c, n) → 0 < n)
    (λ yes e. omega (arith, length_some 4 n c (escape_of o) e)) (λ not e. absurd (none-some _ e)) h

plain_some : (c n o : ℕ) (os : List ℕ) → plain_at o os ≡ Some (c, n) → 0 < n
plain_some c n o os h =
    cond_both (is_plain o && begins is_single os) (Some (o, 3)) None (λ z. z ≡ Some (c, n) → 0 < n)
    (λ yes e. omega (arith, ap (λ x. x.1) (same_some (o, 3) (c, n) e))) (λ not e. absurd (none-some _ e)) h

character_some : (c n : ℕ) (text : List ℕ) → character_at text ≡ Some (c, n) → 0 < n
character_some c n [] h = absurd (none-some _ h)
character_some c n (q ∷ []) h = absurd (none-some _ h)
character_some c n (q ∷ o ∷ os) h =
    cond_both (is_backslash o) (escaped_at os) (plain_at o os) (λ z. z ≡ Some (c, n) → 0 < n)
    (λ yes e. escaped_some c n os e) (λ not e. plain_some c n o os e) h

piece_has_octets : (front : Front) (imports : Bool) (before text : List ℕ) (p : Piece) → IsPieceOf front imports before p text
    → 0 < length (octets_of p)
piece_has_octets front imports before text (blanks os) h = rw h.1 (run_has is_blank text h.0)
piece_has_octets front imports before text (comment os) h = rw h.1.2 (omega (arith, length-take (2 + h.1.0) text, comment_some text h.0))
piece_has_octets front imports before text (skipped_line os) h =
    rw h.1 (run_has is_in_line text (begins_in_line text (skipped_is_other front before text h.0)))
piece_has_octets front imports before text (name os) h = rw h.1 (run_has is_word_octet text (begins_word text h.0))
piece_has_octets front imports before text (number os) h = number_some os h.2
piece_has_octets front imports before text (character code os) h =
    rw h.2.2 (omega (arith, length-take h.2.0 text, other_some text (quote_is_other front text h.0), character_some code h.2.0 text h.2.1))
piece_has_octets front imports before text (string codes os) h =
    rw h.2.3 (omega (arith, length-take (1 + h.2.0) text, other_some text (quote_is_other front text h.0)))
piece_has_octets front imports before text (file_name path os) h =
    rw h.3 (omega (arith, length-take (2 + h.0) text, other_some text (file_is_other front imports text h.0 h.1)))
piece_has_octets front imports before text (mark os) h = rw h.1 (omega (arith, length-take (mark_count text) text, mark_some text h.0, h.0))

-- ---- a text from its beginning to its end

module _ (front : Front) (text : List ℕ) where
  abbrev Fault : Type 0
  Fault = (fault : LexErr) × IsFirstFault front text fault

  -- one piece more, or the first fault
  abbrev Step : ℕ → Type 0
  Step at = ((line' : ℕ) × (at' : ℕ) × (imports' : Bool) × (tokens' : List Token) × So front text line' at' imports' tokens' × (at < at'))
      ⊎ Fault

  step : (line at : ℕ) (imports : Bool) (tokens : List Token) → So front text line at imports tokens → at < length text → Step at
  step line at imports tokens s lt = next (piece_at front imports (take at text) (drop at text)) refl where
    next : (r : Read) → piece_at front imports (take at text) (drop at text) ≡ r → Step at
    next (Ok p) is =
        let rest = drop at text in
        let n = length (octets_of p) in
        let read : IsRead front imports (take at text) rest (Ok p) =
        subst (λ z. IsRead front imports (take at text) rest z) is (piece_is_read front imports (take at text) rest) in
        let some : 0 < n = piece_has_octets front imports (take at text) rest p read.1 in
        let fits : n ≤ length rest = omega (arith, ap length read.0, length-append (octets_of p) (drop n rest)) in
        let line' = min (line + line_feeds (take n rest)) (2 ^ 32 - 1) in
        inl (
          line',
          at + n,
          imports_on imports (kind_of p),
          tokens ++ token_on line (kind_of p),
          go_on_at front text line at n line' imports tokens (kind_of p) s lt (ap shown is) fits refl,
          omega (arith, some),
        )
    next (Err e) is = inr (e, first_fault front text line at imports tokens e s lt (ap shown is))

  whole : (line at : ℕ) (imports : Bool) (tokens : List Token) → So front text line at imports tokens → length text ≤ at
      → AreTokens front text tokens
  whole line at imports tokens s end =
      let there : at ≡ length text = omega (arith, s.within) in
      let all : take at text ≡ text = ap (λ z. take z text) there ∙ take-length text in
      (s.pieces, (sym (s.before_is ∙ all), subst (λ z. AllStand front [] s.pieces z) (drop_all at text end) s.stand), s.tokens_are)

  decide : (n line at : ℕ) (imports : Bool) (tokens : List Token) → So front text line at imports tokens → length text - at ≤ n
      → ((tokens : List Token) × AreTokens front text tokens) ⊎ Fault
  decide zero line at imports tokens s few = inl (tokens, whole line at imports tokens s (omega (arith, few)))
  decide (suc n) line at imports tokens s few = elim (cases_lt at (length text)) [
    | inl lt ↦ elim (step line at imports tokens s lt) [
      | inl (line', at', imports', tokens', t, more) ↦ decide n line' at' imports' tokens' t (omega (arith, few, more))
      | inr fault ↦ inr fault
    ]
    | inr end ↦ inl (tokens, whole line at imports tokens s end)
  ]

pub decided : (front : Front) → TextsAreDecided front
decided front text =
    decide front text (length text) 1 0 false []
    (record { pieces = []; before_is = refl; stand = tt; tokens_are = refl; line_is = refl; imports_is = refl; within = omega arith })
    (omega arith)
