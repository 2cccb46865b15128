-- The first octet of a text decides which sort of piece comes first.
use Rattle.std.proofs.Common.{◌≡◌, ℕ, ◌<◌, List, [], ◌∷◌, Bool, true, false, not, ◌||◌, nat_eq, Some, None, refl, sym, subst, ◌∙◌, inl, inr, codes, arith}
use Rattle.std.specs.List.{list_any, list_all, starts_with}
use Rattle.std.proofs.lemmas.Bool.{and_parts, or_cases, or_parts, not-true, eqb-true, false_from_ne_true, false≢true}
use Rattle.std.proofs.lemmas.Option.{none-some}
use Rattle.idl_lex.specs.Classes.{is_blank, is_letter, is_digit, begins}
use Rattle.idl_lex.specs.Lines.{is_hash_line, is_skipped_by, is_skipped}
use Rattle.idl_lex.specs.Quotes.{is_quote, opens_quote}
use Rattle.idl_lex.specs.Files.{opens_file, enclosed_count, file_count}
use Rattle.idl_lex.specs.Pieces.{opens_comment, is_mark_octet, begins_twin, mark_count}
use Rattle.idl_lex.specs.declared.kinds.Front.{Front}
use Rattle.idl_lex.specs.declared.kinds.Front.TheVariants.{Onc, Corba, Mig}

-- an octet that begins no blanks, no identifier and no number
abbrev pub is_other : ℕ → Bool
is_other o = not (is_blank o || is_letter o || is_digit o)

pub letter_no_blank : (o : ℕ) → is_letter o ≡ true → is_blank o ≡ false
letter_no_blank o h = grind arith

pub digit_no_blank : (o : ℕ) → is_digit o ≡ true → is_blank o ≡ false
digit_no_blank o h = grind arith

pub digit_no_letter : (o : ℕ) → is_digit o ≡ true → is_letter o ≡ false
digit_no_letter o h = grind arith

at_first : (is isnt : ℕ → Bool) (text : List ℕ) → ((o : ℕ) → is o ≡ true → isnt o ≡ false) → begins is text ≡ true
    → begins isnt text ≡ false
at_first is isnt [] f h = refl
at_first is isnt (o ∷ os) f h = f o h

pub begins_no_blank : (text : List ℕ) → begins is_letter text ≡ true → begins is_blank text ≡ false
begins_no_blank text = at_first is_letter is_blank text letter_no_blank

pub begins_digit_no_blank : (text : List ℕ) → begins is_digit text ≡ true → begins is_blank text ≡ false
begins_digit_no_blank text = at_first is_digit is_blank text digit_no_blank

pub begins_digit_no_letter : (text : List ℕ) → begins is_digit text ≡ true → begins is_letter text ≡ false
begins_digit_no_letter text = at_first is_digit is_letter text digit_no_letter

other_no_blank : (o : ℕ) → is_other o ≡ true → is_blank o ≡ false
other_no_blank o h = (or_parts (is_blank o) (is_letter o) (or_parts (is_blank o || is_letter o) (is_digit o) (not-true _ h)).0).0

other_no_letter : (o : ℕ) → is_other o ≡ true → is_letter o ≡ false
other_no_letter o h = (or_parts (is_blank o) (is_letter o) (or_parts (is_blank o || is_letter o) (is_digit o) (not-true _ h)).0).1

other_no_digit : (o : ℕ) → is_other o ≡ true → is_digit o ≡ false
other_no_digit o h = (or_parts (is_blank o || is_letter o) (is_digit o) (not-true _ h)).1

pub other_blank : (text : List ℕ) → begins is_other text ≡ true → begins is_blank text ≡ false
other_blank text = at_first is_other is_blank text other_no_blank

pub other_letter : (text : List ℕ) → begins is_other text ≡ true → begins is_letter text ≡ false
other_letter text = at_first is_other is_letter text other_no_letter

pub other_digit : (text : List ℕ) → begins is_other text ≡ true → begins is_digit text ≡ false
other_digit text = at_first is_other is_digit text other_no_digit

other_at : (m o : ℕ) → is_other m ≡ true → o ≡ m → is_other o ≡ true
other_at m o h e = rw e h

-- ---- what begins with another octet

pub comment_is_other : (text : List ℕ) → opens_comment text ≡ true → begins is_other text ≡ true
comment_is_other [] h = absurd (false≢true h)
comment_is_other (o ∷ os) h = other_at 47 o refl (sym (eqb-true 47 o (and_parts _ _ h).0))

skipped_by_is_other : (front : Front) (before text : List ℕ) → is_skipped_by front before text ≡ true → begins is_other text ≡ true
skipped_by_is_other Onc before [] h = absurd (false≢true h)
skipped_by_is_other Onc before (o ∷ os) h = other_at 37 o refl (eqb-true o 37 (and_parts _ _ h).0)
skipped_by_is_other Corba before [] h = absurd (false≢true h)
skipped_by_is_other Corba before (o ∷ os) h = other_at 47 o refl (sym (eqb-true 47 o (and_parts _ _ h).0))
skipped_by_is_other Mig before text h = absurd (false≢true h)

hash_is_other : (before text : List ℕ) → is_hash_line before text ≡ true → begins is_other text ≡ true
hash_is_other before [] h = absurd (false≢true h)
hash_is_other before (o ∷ os) h = other_at 35 o refl (eqb-true o 35 (and_parts _ _ h).0)

pub skipped_is_other : (front : Front) (before text : List ℕ) → is_skipped front before text ≡ true → begins is_other text ≡ true
skipped_is_other front before text h =
    elim (or_cases _ _ h) [ inl a ↦ hash_is_other before text (and_parts _ _ a).0 | inr b ↦ skipped_by_is_other front before text b ]

among : (is : ℕ → Bool) (o : ℕ) (ms : List ℕ) → list_all is ms ≡ true → list_any (λ m. nat_eq o m) ms ≡ true → is o ≡ true
among is o [] all any = absurd (false≢true any)
among is o (m ∷ ms) all any =
    elim (or_cases (nat_eq o m) _ any)
    [ inl h ↦ subst (λ z. is z ≡ true) (sym (eqb-true o m h)) (and_parts _ _ all).0 | inr h ↦ among is o ms (and_parts _ _ all).1 h ]

mark_other : (o : ℕ) (os : List ℕ) (twin one : Bool) → begins_twin (o ∷ os) ≡ twin → is_mark_octet o ≡ one → 0 < mark_count (o ∷ os)
    → is_other o ≡ true
mark_other o os true one t m more = among is_other o (codes ":<>") refl (and_parts _ _ t).0
mark_other o os false true t m more = among is_other o (codes "{}[]()<>;:,=*+-/%|^&") refl m
mark_other o os false false t m more = let none : mark_count (o ∷ os) ≡ 0 = rw (t, m) refl in absurd (omega (arith, none, more))

pub mark_is_other : (text : List ℕ) → 0 < mark_count text → begins is_other text ≡ true
mark_is_other [] more = absurd (omega arith)
mark_is_other (o ∷ os) more = mark_other o os _ _ refl refl more

-- ---- what does not

opposite : (a b : Bool) → (a ≡ true → b ≡ true) → b ≡ false → a ≡ false
opposite a b f h = false_from_ne_true a (λ y. false≢true (sym h ∙ f y))

letter_no_other : (o : ℕ) → is_letter o ≡ true → is_other o ≡ false
letter_no_other o h = grind arith

digit_no_other : (o : ℕ) → is_digit o ≡ true → is_other o ≡ false
digit_no_other o h = grind arith

pub letter_opens_none : (text : List ℕ) → begins is_letter text ≡ true → opens_comment text ≡ false
letter_opens_none text h = opposite _ _ (comment_is_other text) (at_first is_letter is_other text letter_no_other h)

pub digit_opens_none : (text : List ℕ) → begins is_digit text ≡ true → opens_comment text ≡ false
digit_opens_none text h = opposite _ _ (comment_is_other text) (at_first is_digit is_other text digit_no_other h)

pub digit_no_hash : (before text : List ℕ) → begins is_digit text ≡ true → is_hash_line before text ≡ false
digit_no_hash before text h = opposite _ _ (hash_is_other before text) (at_first is_digit is_other text digit_no_other h)

hash_opens_none : (before text : List ℕ) → is_hash_line before text ≡ true → opens_comment text ≡ false
hash_opens_none before [] h = absurd (false≢true h)
hash_opens_none before (o ∷ os) h = let e = eqb-true o 35 (and_parts _ _ h).0 in rw e refl

slashes_open_none : (text : List ℕ) → starts_with nat_eq text (codes "//") ≡ true → opens_comment text ≡ false
slashes_open_none [] h = absurd (false≢true h)
slashes_open_none (o ∷ []) h = absurd (false≢true (and_parts _ _ h).1)
slashes_open_none (o ∷ p ∷ os) h =
    let e = eqb-true 47 o (and_parts _ _ h).0 in
    let f = eqb-true 47 p (and_parts _ _ (and_parts _ _ h).1).0 in
    rw (sym e, sym f) refl

skipped_by_opens_none : (front : Front) (before text : List ℕ) → is_skipped_by front before text ≡ true → opens_comment text ≡ false
skipped_by_opens_none Onc before [] h = absurd (false≢true h)
skipped_by_opens_none Onc before (o ∷ os) h = let e = eqb-true o 37 (and_parts _ _ h).0 in rw e refl
skipped_by_opens_none Corba before text h = slashes_open_none text h
skipped_by_opens_none Mig before text h = absurd (false≢true h)

pub skipped_opens_none : (front : Front) (before text : List ℕ) → is_skipped front before text ≡ true → opens_comment text ≡ false
skipped_opens_none front before text h =
    elim (or_cases _ _ h) [ inl a ↦ hash_opens_none before text (and_parts _ _ a).0 | inr b ↦ skipped_by_opens_none front before text b ]

-- ---- what begins with a quote

quote_other : (o : ℕ) → is_quote o ≡ true → is_other o ≡ true
quote_other o h = elim (or_cases _ _ h) [ inl a ↦ other_at 39 o refl (eqb-true o 39 a) | inr b ↦ other_at 34 o refl (eqb-true o 34 b) ]

pub quote_is_other : (front : Front) (text : List ℕ) → opens_quote front text ≡ true → begins is_other text ≡ true
quote_is_other Corba [] h = absurd (false≢true h)
quote_is_other Corba (o ∷ os) h = quote_other o h
quote_is_other Onc text h = absurd (false≢true h)
quote_is_other Mig text h = absurd (false≢true h)

-- a text that begins with a quote has no other sort of piece
quote_is : (P : ℕ → Bool) → P 39 ≡ false → P 34 ≡ false → (o : ℕ) → is_quote o ≡ true → P o ≡ false
quote_is P s d o h =
    elim (or_cases _ _ h)
    [ inl a ↦ subst (λ z. P z ≡ false) (sym (eqb-true o 39 a)) s | inr b ↦ subst (λ z. P z ≡ false) (sym (eqb-true o 34 b)) d ]

pub quote_opens_none : (front : Front) (text : List ℕ) → opens_quote front text ≡ true → opens_comment text ≡ false
quote_opens_none Corba [] h = absurd (false≢true h)
quote_opens_none Corba (o ∷ os) h = quote_is (λ z. opens_comment (z ∷ os)) refl refl o h
quote_opens_none Onc text h = absurd (false≢true h)
quote_opens_none Mig text h = absurd (false≢true h)

pub quote_no_hash : (front : Front) (before text : List ℕ) → opens_quote front text ≡ true → is_hash_line before text ≡ false
quote_no_hash Corba before [] h = absurd (false≢true h)
quote_no_hash Corba before (o ∷ os) h = quote_is (λ z. is_hash_line before (z ∷ os)) refl refl o h
quote_no_hash Onc before text h = absurd (false≢true h)
quote_no_hash Mig before text h = absurd (false≢true h)

pub quote_skips_none : (front : Front) (before text : List ℕ) → opens_quote front text ≡ true → is_skipped front before text ≡ false
quote_skips_none Corba before [] h = absurd (false≢true h)
quote_skips_none Corba before (o ∷ os) h = quote_is (λ z. is_skipped Corba before (z ∷ os)) refl refl o h
quote_skips_none Onc before text h = absurd (false≢true h)
quote_skips_none Mig before text h = absurd (false≢true h)

no_mark : (o : ℕ) (os : List ℕ) → is_quote o ≡ true → mark_count (o ∷ os) ≡ 0
no_mark o os h = elim (or_cases _ _ h) [ inl a ↦ (let e = eqb-true o 39 a in rw e refl) | inr b ↦ (let e = eqb-true o 34 b in rw e refl) ]

mark_or_quote : (o : ℕ) (os : List ℕ) (b : Bool) → is_quote o ≡ b → 0 < mark_count (o ∷ os) → b ≡ false
mark_or_quote o os true e more = absurd (omega (arith, more, no_mark o os e))
mark_or_quote o os false e more = refl

pub mark_no_quote : (front : Front) (text : List ℕ) → 0 < mark_count text → opens_quote front text ≡ false
mark_no_quote Corba [] more = refl
mark_no_quote Corba (o ∷ os) more = mark_or_quote o os (is_quote o) refl more
mark_no_quote Onc text more = refl
mark_no_quote Mig text more = refl

-- ---- what begins with a file name

opens_of : (o n : ℕ) (os : List ℕ) (b : Bool) → opens_file o ≡ b → enclosed_count (o ∷ os) ≡ Some n → b ≡ true
opens_of o n os true e h = refl
opens_of o n os false e h = let none : enclosed_count (o ∷ os) ≡ None = rw e refl in absurd (none-some n (sym none ∙ h))

-- what holds of every text that begins with `<` or `"` in mig holds where a file name comes first
file_is : (P : Front → List ℕ → Type 0) → ((os : List ℕ) → P Mig (60 ∷ os)) → ((os : List ℕ) → P Mig (34 ∷ os))
    → (front : Front) (imports : Bool) (text : List ℕ) (n : ℕ) → file_count front imports text ≡ Some n → P front text
file_is P a b Onc imports text n h = absurd (none-some n h)
file_is P a b Corba imports text n h = absurd (none-some n h)
file_is P a b Mig false text n h = absurd (none-some n h)
file_is P a b Mig true [] n h = absurd (none-some n h)
file_is P a b Mig true (o ∷ os) n h =
    elim (or_cases _ _ (opens_of o n os (opens_file o) refl h)) [
      | inl x ↦ subst (λ z. P Mig (z ∷ os)) (sym (eqb-true o 60 x)) (a os)
      | inr y ↦ subst (λ z. P Mig (z ∷ os)) (sym (eqb-true o 34 y)) (b os)
    ]

pub file_is_other : (front : Front) (imports : Bool) (text : List ℕ) (n : ℕ) → file_count front imports text ≡ Some n
    → begins is_other text ≡ true
file_is_other = file_is (λ f t. begins is_other t ≡ true) (λ os. refl) (λ os. refl)

pub file_opens_none : (front : Front) (imports : Bool) (text : List ℕ) (n : ℕ) → file_count front imports text ≡ Some n
    → opens_comment text ≡ false
file_opens_none = file_is (λ f t. opens_comment t ≡ false) (λ os. refl) (λ os. refl)

pub file_skips_none : (before : List ℕ) (front : Front) (imports : Bool) (text : List ℕ) (n : ℕ)
    → file_count front imports text ≡ Some n → is_skipped front before text ≡ false
file_skips_none before = file_is (λ f t. is_skipped f before t ≡ false) (λ os. refl) (λ os. refl)

pub file_no_quote : (front : Front) (imports : Bool) (text : List ℕ) (n : ℕ) → file_count front imports text ≡ Some n
    → opens_quote front text ≡ false
file_no_quote = file_is (λ f t. opens_quote f t ≡ false) (λ os. refl) (λ os. refl)
