-- What is read at a place is the piece that is there, and no other is, by induction on the pieces.
use Rattle.std.proofs.Common.{◌≡◌, ℕ, suc, zero, ◌+◌, ◌^◌, List, [], ◌∷◌, ◌++◌, length, take, drop, Option, Some, None, Ok, Err, Bool, true, false, cond, nat_lt, ◌==◌, refl, sym, subst, ◌∙◌, ap, append_assoc, arith}
use Rattle.std.specs.List.{prefix_len}
use Rattle.std.proofs.lemmas.Bool.{cond_both, ltb-true, lt-ltb, eqb-false, ne_eqb, false≢true}
use Rattle.std.proofs.lemmas.List.{append-nil, append_cancel_left}
use Rattle.idl_lex.specs.Classes.{is_blank, is_in_line, is_letter, is_digit, is_word_octet, begins}
use Rattle.idl_lex.specs.Numbers.{digit_count, is_number, value_of}
use Rattle.idl_lex.specs.Lines.{is_hash_line, is_skipped}
use Rattle.idl_lex.specs.Quotes.{is_single, opens_quote, character_at, string_count}
use Rattle.idl_lex.specs.Files.{file_count}
use Rattle.idl_lex.specs.Pieces.{Piece, blanks, comment, skipped_line, name, number, character, string, file_name, mark, octets_of, all_octets, opens_comment, count_to_close, mark_count, imports_after, IsPieceOf, Stands, AllStand}
use Rattle.idl_lex.specs.Lexed.{fault_at, ArePieces, IsFirstFault}
use Rattle.idl_lex.specs.Reads.{Read, comment_of, number_of, character_of, string_of, quoted_of, mark_of, file_of, piece_at}
use Rattle.idl_lex.specs.declared.kinds.Front.{Front}
use Rattle.idl_lex.specs.declared.kinds.Front.TheVariants.{Onc, Corba, Mig}
use Rattle.idl_lex.specs.declared.lexing.LexErr.{LexErr}
use Rattle.idl_lex.specs.declared.lexing.LexErr.TheVariants.{BadOctet, Wide, Directive}
use Rattle.idl_lex.proofs.Firsts.{begins_no_blank, begins_digit_no_blank, begins_digit_no_letter, other_blank, other_letter, other_digit, comment_is_other, skipped_is_other, mark_is_other, letter_opens_none, digit_opens_none, digit_no_hash, skipped_opens_none, quote_is_other, quote_opens_none, quote_no_hash, quote_skips_none, mark_no_quote, file_is_other, file_opens_none, file_skips_none, file_no_quote}

-- ---- what is read

cut : (n : ℕ) (text : List ℕ) → text ≡ take n text ++ drop (length (take n text)) text
cut zero text = refl
cut (suc n) [] = refl
cut (suc n) (o ∷ os) = ap (λ z. o ∷ z) (cut n os)

-- a piece that is read is one, and begins the text; a fault that is read is that of the place
abbrev pub IsRead : Front → Bool → List ℕ → List ℕ → Read → Type 0
IsRead front imports before text (Ok p) = (text ≡ octets_of p ++ drop (length (octets_of p)) text) × IsPieceOf front imports before p text
IsRead front imports before text (Err e) = e ≡ fault_at before text

comment_is_read : (front : Front) (imports : Bool) (before text : List ℕ) (c : Option ℕ) → opens_comment text ≡ true
    → count_to_close (drop 2 text) ≡ c
    → IsRead front imports before text (comment_of (length before) text c)
comment_is_read front imports before text None opens is = rw opens refl
comment_is_read front imports before text (Some n) opens is = (cut (2 + n) text, (opens, (n, is, refl)))

number_is_read : (front : Front) (imports : Bool) (before text : List ℕ) → begins is_digit text ≡ true
    → IsRead front imports before text (number_of (length before) (take (digit_count text) text))
number_is_read front imports before text digit =
    let os = take (digit_count text) text in
    let P : Read → Type 0 = IsRead front imports before text in
    let opens = digit_opens_none text digit in
    cond_both (is_number os) (cond (nat_lt (value_of os) (2 ^ 127)) (Ok (number os)) (Err (Wide (length before))))
    (Err (BadOctet (length before))) P
    (λ good. cond_both (nat_lt (value_of os) (2 ^ 127)) (Ok (number os)) (Err (Wide (length before))) P
    (λ small. (cut (digit_count text) text, (digit, refl, good, ltb-true _ _ small)))
    (λ large. rw (opens, digit, good) refl))
    (λ bad. let hash = digit_no_hash before text digit in rw (opens, digit, bad, hash) refl)

mark_is_read : (front : Front) (imports : Bool) (before text : List ℕ) → opens_comment text ≡ false
    → begins is_digit text ≡ false → is_skipped front before text ≡ false → file_count front imports text ≡ None
    → IsRead front imports before text (mark_of before text (mark_count text))
mark_is_read front imports before text opens digit skips file =
    let n = mark_count text in
    let P : Read → Type 0 = IsRead front imports before text in
    cond_both (n == 0) (cond (is_hash_line before text) (Err (Directive (length before))) (Err (BadOctet (length before))))
    (Ok (mark (take n text))) P
    (λ none. cond_both (is_hash_line before text) (Err (Directive (length before))) (Err (BadOctet (length before))) P
    (λ hash. rw (opens, digit, hash) refl)
    (λ hash. rw (opens, digit, hash) refl))
    (λ some. (cut n text, (omega (arith, eqb-false n 0 some), refl, opens, skips, file)))

file_is_read : (front : Front) (imports : Bool) (before text : List ℕ) (c : Option ℕ) → opens_comment text ≡ false
    → begins is_digit text ≡ false → is_skipped front before text ≡ false → file_count front imports text ≡ c
    → IsRead front imports before text (file_of before text c)
file_is_read front imports before text None opens digit skips is = mark_is_read front imports before text opens digit skips is
file_is_read front imports before text (Some n) opens digit skips is = (cut (2 + n) text, (n, is, refl, refl))

character_is_read : (front : Front) (imports : Bool) (before text : List ℕ) (c : Option (ℕ × ℕ)) → opens_quote front text ≡ true
    → opens_comment text ≡ false → begins is_digit text ≡ false → begins is_single text ≡ true → character_at text ≡ c
    → IsRead front imports before text (character_of (length before) text c)
character_is_read front imports before text None quote opens digit single is = let hash =
    quote_no_hash front before text quote in rw (opens, digit, hash) refl
character_is_read front imports before text (Some x) quote opens digit single is = (cut x.1 text, (quote, single, (x.1, is, refl)))

string_is_read : (front : Front) (imports : Bool) (before text : List ℕ) (c : Option ℕ) → opens_quote front text ≡ true
    → opens_comment text ≡ false → begins is_digit text ≡ false → begins is_single text ≡ false → string_count false (drop 1 text) ≡ c
    → IsRead front imports before text (string_of (length before) text c)
string_is_read front imports before text None quote opens digit single is = let hash =
    quote_no_hash front before text quote in rw (opens, digit, hash) refl
string_is_read front imports before text (Some n) quote opens digit single is = (cut (1 + n) text, (quote, single, (n, is, refl, refl)))

quoted_is_read : (front : Front) (imports : Bool) (before text : List ℕ) → opens_quote front text ≡ true
    → opens_comment text ≡ false → begins is_digit text ≡ false
    → IsRead front imports before text (quoted_of (length before) text)
quoted_is_read front imports before text quote opens digit =
    cond_both (begins is_single text) _ _ (IsRead front imports before text)
    (λ yes. character_is_read front imports before text (character_at text) quote opens digit yes refl)
    (λ single. string_is_read front imports before text (string_count false (drop 1 text)) quote opens digit single refl)

pub piece_is_read : (front : Front) (imports : Bool) (before text : List ℕ)
    → IsRead front imports before text (piece_at front imports before text)
piece_is_read front imports before text =
    let P : Read → Type 0 = IsRead front imports before text in
    cond_both (begins is_blank text) _ _ P (λ yes. (cut (prefix_len is_blank text) text, (yes, refl)))
    (λ blank.
    cond_both (opens_comment text) _ _ P (λ yes. comment_is_read front imports before text (count_to_close (drop 2 text)) yes refl)
    (λ opens. cond_both (begins is_letter text) _ _ P (λ yes. (cut (prefix_len is_word_octet text) text, (yes, refl)))
    (λ letter. cond_both (begins is_digit text) _ _ P (λ yes. number_is_read front imports before text yes)
    (λ digit. cond_both (is_skipped front before text) _ _ P (λ yes. (cut (prefix_len is_in_line text) text, (yes, refl)))
    (λ skips. cond_both (opens_quote front text) _ _ P (λ yes. quoted_is_read front imports before text yes opens digit)
    (λ quote. file_is_read front imports before text (file_count front imports text) opens digit skips refl))))))

-- ---- what is there is read

pub stands_is_read : (front : Front) (imports : Bool) (before text : List ℕ) (p : Piece) → IsPieceOf front imports before p text
    → piece_at front imports before text ≡ Ok p
stands_is_read front imports before text (blanks os) h = rw (h.0, h.1) refl
stands_is_read front imports before text (comment os) h =
    let blank = other_blank text (comment_is_other text h.0) in
    rw (blank, h.0, h.1.1, h.1.2) refl
stands_is_read front imports before text (skipped_line os) h =
    let other = skipped_is_other front before text h.0 in
    let blank = other_blank text other in
    let letter = other_letter text other in
    let digit = other_digit text other in
    let opens = skipped_opens_none front before text h.0 in
    rw (blank, opens, letter, digit, h.0, h.1) refl
stands_is_read front imports before text (name os) h =
    let blank = begins_no_blank text h.0 in
    let opens = letter_opens_none text h.0 in
    rw (blank, opens, h.0, h.1) refl
stands_is_read front imports before text (number os) h =
    let blank = begins_digit_no_blank text h.0 in
    let letter = begins_digit_no_letter text h.0 in
    let opens = digit_opens_none text h.0 in
    let small = lt-ltb _ _ h.3 in
    rw (blank, opens, letter, h.0, sym h.1, h.2, small) refl
stands_is_read front imports before text (character code os) h =
    let other = quote_is_other front text h.0 in
    let blank = other_blank text other in
    let letter = other_letter text other in
    let digit = other_digit text other in
    let opens = quote_opens_none front text h.0 in
    let skips = quote_skips_none front before text h.0 in
    rw (blank, opens, letter, digit, skips, h.0, h.1, h.2.1, h.2.2) refl
stands_is_read front imports before text (string codes os) h =
    let other = quote_is_other front text h.0 in
    let blank = other_blank text other in
    let letter = other_letter text other in
    let digit = other_digit text other in
    let opens = quote_opens_none front text h.0 in
    let skips = quote_skips_none front before text h.0 in
    rw (blank, opens, letter, digit, skips, h.0, h.1, h.2.1, h.2.2, h.2.3) refl
stands_is_read front imports before text (file_name path os) h =
    let other = file_is_other front imports text h.0 h.1 in
    let blank = other_blank text other in
    let letter = other_letter text other in
    let digit = other_digit text other in
    let opens = file_opens_none front imports text h.0 h.1 in
    let skips = file_skips_none before front imports text h.0 h.1 in
    let quote = file_no_quote front imports text h.0 h.1 in
    rw (blank, opens, letter, digit, skips, quote, h.1, h.2, h.3) refl
stands_is_read front imports before text (mark os) h =
    let quote = mark_no_quote front text h.0 in
    let other = mark_is_other text h.0 in
    let blank = other_blank text other in
    let letter = other_letter text other in
    let digit = other_digit text other in
    let some : (mark_count text == 0) ≡ false = ne_eqb _ _ (omega (arith, h.0)) in
    rw (blank, h.2, letter, digit, h.3, quote, h.4, some, sym h.1) refl

-- ---- pieces of a text

nothing_at_end : (front : Front) (imports : Bool) (before : List ℕ) (p : Piece) → IsPieceOf front imports before p [] → ⊥
nothing_at_end front imports before (blanks os) h = false≢true h.0
nothing_at_end front imports before (comment os) h = false≢true h.0
nothing_at_end Onc imports before (skipped_line os) h = false≢true h.0
nothing_at_end Corba imports before (skipped_line os) h = false≢true h.0
nothing_at_end Mig imports before (skipped_line os) h = false≢true h.0
nothing_at_end front imports before (name os) h = false≢true h.0
nothing_at_end front imports before (number os) h = false≢true h.0
nothing_at_end Onc imports before (character code os) h = false≢true h.0
nothing_at_end Corba imports before (character code os) h = false≢true h.0
nothing_at_end Mig imports before (character code os) h = false≢true h.0
nothing_at_end Onc imports before (string codes os) h = false≢true h.0
nothing_at_end Corba imports before (string codes os) h = false≢true h.0
nothing_at_end Mig imports before (string codes os) h = false≢true h.0
nothing_at_end front imports before (file_name path os) h = false≢true (file_is_other front imports [] h.0 h.1)
nothing_at_end front imports before (mark os) h = absurd (omega (arith, h.0))

-- no piece begins
abbrev pub IsStuck : Front → List Piece → List ℕ → Type 0
IsStuck front before rest = (p : Piece) (after : List ℕ) → rest ≡ octets_of p ++ after → Stands front before p after → ⊥

pub stuck_at_end : (front : Front) (before : List Piece) → IsStuck front before []
stuck_at_end front before p after is stands = nothing_at_end front (imports_after false before) (all_octets before) p
    (subst (λ z. IsPieceOf front (imports_after false before) (all_octets before) p z) (sym is) stands)

same_ok : (p q : Piece) → (let x : Read = Ok p in x) ≡ Ok q → p ≡ q
same_ok p q e = cc

one_piece : (front : Front) (before : List Piece) (p q : Piece) (a b : List ℕ) → Stands front before p a
    → Stands front before q b → octets_of p ++ a ≡ octets_of q ++ b
    → p ≡ q
one_piece front before p q a b s t e =
    let f = stands_is_read front (imports_after false before) (all_octets before) (octets_of p ++ a) p s in
    let g = stands_is_read front (imports_after false before) (all_octets before) (octets_of q ++ b) q t in
    same_ok p q (sym f ∙ ap (piece_at front (imports_after false before) (all_octets before)) e ∙ g)

-- pieces up to a place where none begins are determined, and so is the place
pub determined : (front : Front) (before ps qs : List Piece) (r s : List ℕ) → AllStand front before ps r → IsStuck front (before ++ ps) r
    → AllStand front before qs s → IsStuck front (before ++ qs) s → all_octets ps ++ r ≡ all_octets qs ++ s
    → (ps ≡ qs) × (r ≡ s)
determined front before [] [] r s a k b l e = (refl, e)
determined front before [] (q ∷ qs) r s a k b l e =
    let here : IsStuck front before r = subst (λ z. IsStuck front z r) (append-nil before) k in
    absurd (here q (all_octets qs ++ s) (e ∙ append_assoc (octets_of q) (all_octets qs) s) b.0)
determined front before (p ∷ ps) [] r s a k b l e =
    let here : IsStuck front before s = subst (λ z. IsStuck front z s) (append-nil before) l in
    absurd (here p (all_octets ps ++ r) (sym e ∙ append_assoc (octets_of p) (all_octets ps) r) a.0)
determined front before (p ∷ ps) (q ∷ qs) r s a k b l e =
    let e' = sym (append_assoc (octets_of p) (all_octets ps) r) ∙ e ∙ append_assoc (octets_of q) (all_octets qs) s in
    let one = one_piece front before p q (all_octets ps ++ r) (all_octets qs ++ s) a.0 b.0 e' in
    let more = append_cancel_left (octets_of p) (all_octets ps ++ r) (all_octets qs ++ s)
    (e' ∙ ap (λ z. octets_of z ++ (all_octets qs ++ s)) (sym one)) in
    let rest = determined front (before ++ p ∷ []) ps qs r s a.1
    (subst (λ z. IsStuck front z r) (sym (append_assoc before (p ∷ []) ps)) k)
    (subst (λ z. AllStand front (before ++ z ∷ []) qs s) (sym one) b.1)
    (subst (λ z. IsStuck front z s) (ap (λ z. before ++ z ∷ qs) (sym one) ∙ sym (append_assoc before (p ∷ []) qs)) l)
    more in
    (ap (λ z. z ∷ ps) one ∙ ap (λ z. q ∷ z) rest.0, rest.1)

-- ---- the laws

pub same_pieces : (front : Front) (text : List ℕ) (ps qs : List Piece) → ArePieces front text ps → ArePieces front text qs → ps ≡ qs
same_pieces front text ps qs a b =
    (determined front [] ps qs [] [] a.1 (stuck_at_end front ps) b.1 (stuck_at_end front qs)
    (append-nil (all_octets ps) ∙ sym a.0 ∙ b.0 ∙ sym (append-nil (all_octets qs)))).0

pub same_fault : (front : Front) (text : List ℕ) (e f : LexErr) → IsFirstFault front text e → IsFirstFault front text f → e ≡ f
same_fault front text e f a b =
    let same = determined front [] a.pieces b.pieces a.rest b.rest a.stand a.none b.stand b.none (sym a.parts ∙ b.parts) in
    a.cause ∙ ap (λ ps. fault_at (all_octets ps) a.rest) same.0 ∙ ap (fault_at (all_octets b.pieces)) same.1 ∙ sym b.cause

pub not_both : (front : Front) (text : List ℕ) (ps : List Piece) (e : LexErr) → ArePieces front text ps → IsFirstFault front text e → ⊥
not_both front text ps e a b =
    b.more
    (sym (determined front [] ps b.pieces [] b.rest a.1 (stuck_at_end front ps) b.stand b.none
    (append-nil (all_octets ps) ∙ sym a.0 ∙ b.parts)).1)
