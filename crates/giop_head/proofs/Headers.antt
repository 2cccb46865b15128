-- The header of a message is a grammar, whatever is expected.
use Rattle.std.proofs.Common.{◌≡◌, ◌⊎◌, inl, inr, ℕ, suc, List, [], ◌++◌, Bool, true, false, cond, refl, sym, ap, ◌∙◌, add-zero, append-nil, arith}
use Rattle.std.specs.Prelude.{Result, Ok, Err, ◌==◌, ◌-◌, slice_index}
use Rattle.std.proofs.lemmas.Bool.{eqb-true, or_cases}
use Rattle.wire_def.specs.declared.fault.HeadErr.{HeadErr}
use Rattle.wire_def.specs.declared.fault.HeadErr.TheVariants.{Magic, Version, Type_, Size}
use Rattle.wire_def.specs.declared.fault.HeadErr.TheVariants as fault
use Rattle.wire_def.specs.Grammar.{IsGrammar}
use Rattle.wire_def.proofs.Grammars.{mapped, both_are}
use Rattle.wire_def.proofs.HeadItems.{body_is}
use Rattle.giop_head.specs.declared.header.Heading.{Heading}
use Rattle.giop_head.specs.declared.header.HeadKind.{HeadKind}
use Rattle.giop_head.specs.declared.header.HeadKind.TheVariants.{Asks, Requests, Replies}
use Rattle.giop_head.specs.Header.{has_minor, IsMinor, has_magic, has_version, has_order, expected, size_in, judged, header_of, HeaderSpells, HeaderStops, given, read_header}
use Rattle.wire_def.proofs.ScalarGrammar.{right_true}

given_is : (d : Result Heading HeadErr) → IsGrammar (given d) (λ p o h. (o ≡ []) × (d ≡ Ok h)) (λ p o k at. (d ≡ Err k) × (at ≡ p))
given_is (Ok j) = record {
  reads = λ p o rest h s. let same : j ≡ h = cc in rw (s.0, same, add-zero) refl;
  spelled = λ p o h q rest oct e.
      let same : j ≡ h = cc in
      let there : p ≡ q = cc in
      let left : o ≡ rest = cc in
      ([], left, rw add-zero (sym there), (refl, ap (λ (x : Heading). Ok x) same));
  stops = λ p o k at f. absurd cc;
  faulty = λ p o k at oct e. absurd cc;
}
given_is (Err j) = record {
  reads = λ p o rest h s. absurd cc;
  spelled = λ p o h q rest oct e. absurd cc;
  stops = λ p o k at f. let same : j ≡ k = cc in rw (same, f.1) refl;
  faulty = λ p o k at oct e. let same : j ≡ k = cc in (ap (λ (x : HeadErr). Err x) same, cc);
}

pub header_is : (w : HeadKind) (n : ℕ) → IsGrammar (read_header w n) (HeaderSpells w n) (HeaderStops w n)
unfolding read_header
header_is w n = mapped (λ (x : List ℕ × Heading). x.1) (HeaderSpells w n) (both_are (body_is 12) (λ x. given_is (judged w n x)))
    (λ p o x (a, b, is, (same, long), (none, ok)).
    let whole : o ≡ x.0 = is ∙ ap (λ z. a ++ z) none ∙ append-nil a ∙ same in
    rw whole (long, ok))
    (λ p o h (long, ok). ((o, h), refl, (o, [], sym (append-nil o), (refl, long), (refl, ok))))

-- ---- a header that is right has a type that is expected, and the minor number of a version that is read

passed : (b : Bool) (x : Result Heading HeadErr) (k : HeadErr) (h : Heading) → cond b x (Err k) ≡ Ok h → (b ≡ true) × (x ≡ Ok h)
passed true x k h e = (refl, e)
passed false x k h e = absurd cc

abbrev good : Heading → Result Heading HeadErr
good x = Ok x

same_heading : (x y : Heading) → good x ≡ good y → x ≡ y
same_heading x y e = cc

-- what a header that is right passes, in the order of its items
record IsRight (w : HeadKind) (n : ℕ) (o : List ℕ) (h : Heading) : Type 0 where
  magic : has_magic o ≡ true
  version : has_version o ≡ true
  order : has_order o ≡ true
  kind : expected w (slice_index o 7) ≡ true
  size : (size_in o == n - 12) ≡ true
  same : header_of o ≡ h

right : (w : HeadKind) (n : ℕ) (o : List ℕ) (h : Heading) → judged w n o ≡ Ok h → IsRight w n o h
unfolding judged
right w n o h e =
    let magic = passed (has_magic o) _ Magic h e in
    let version = passed (has_version o) _ Version h magic.1 in
    let order = passed (has_order o) _ fault.Order h version.1 in
    let kind = passed (expected w (slice_index o 7)) _ Type_ h order.1 in
    let size = passed (size_in o == n - 12) _ Size h kind.1 in
    record {
      magic = magic.0;
      version = version.0;
      order = order.0;
      kind = kind.0;
      size = size.0;
      same = same_heading (header_of o) h size.1;
    }

pub is_expected : (w : HeadKind) (n : ℕ) (o : List ℕ) (h : Heading) → judged w n o ≡ Ok h → expected w h.message_type ≡ true
is_expected w n o h e = let r = right w n o h e in rw (← r.same) r.kind

pub asks_three : (m : ℕ) → expected Asks (suc m) ≡ true → m ≡ 2
asks_three m e = elim (or_cases (suc m == 0) (suc m == 3) e) [
  | inl none ↦ absurd (omega (arith, eqb-true _ _ none))
  | inr three ↦ omega (arith, eqb-true _ _ three)
]

pub replies_one : (m : ℕ) → expected Replies m ≡ true → m ≡ 1
replies_one m e = eqb-true m 1 e

pub requests_zero : (m : ℕ) → expected Requests m ≡ true → m ≡ 0
requests_zero m e = eqb-true m 0 e

-- octets of a version that is read have such a minor number
pub has_one : (o : List ℕ) → has_version o ≡ true → IsMinor (slice_index o 5)
has_one o h = right_true (slice_index o 4 == 1) (has_minor (slice_index o 5)) h

pub is_minor : (w : HeadKind) (n : ℕ) (o : List ℕ) (h : Heading) → judged w n o ≡ Ok h → IsMinor h.minor
is_minor w n o h e = let r = right w n o h e in rw (← r.same) (has_one o r.version)

-- there are two
pub minors : (m : ℕ) → IsMinor m → (m ≡ 0) ⊎ (m ≡ 2)
minors m h = elim (or_cases (m == 0) (m == 2) h) [ inl none ↦ inl (eqb-true _ _ none) | inr two ↦ inr (eqb-true _ _ two) ]

-- ---- a request is one in both ways

pub asked_once : (n : ℕ) (o : List ℕ) (h : Heading) → h.message_type ≡ 0 → judged Asks n o ≡ Ok h → judged Requests n o ≡ Ok h
unfolding judged
asked_once n o h zero e =
    let r = right Asks n o h e in
    let type : slice_index o 7 ≡ 0 = ap (λ (x : Heading). x.message_type) r.same ∙ zero in
    let wanted : expected Requests (slice_index o 7) ≡ true = ap (expected Requests) type in
    rw (r.magic, r.version, r.order, wanted, r.size) (ap good r.same)
