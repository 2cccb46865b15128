-- What is written under `pipe`, by the digits that a message is, or by a refusal.
use Rattle.std.proofs.Common.{◌≡◌, ℕ, List, [], ◌∷◌, Bool, true, false, slice_index, Option, Some, None, Result, Ok, Err, refl, sym, ap, ◌∙◌, subst, arith}
use Rattle.std.specs.Prelude.{codes, ◌==◌}
use Rattle.std.proofs.lemmas.Bool.{eqb-true}
use Rattle.std.proofs.lemmas.List.Elements.{All-head}
use Rattle.hex.specs.Hex.{decode_of, encode_lower, is_hex_digit}
use Rattle.hex.specs.declared.error.FromHexError.{FromHexError}
use Rattle.hex.proofs.HexLemmas.{decode_of-ok}
use Rattle.wire_def.specs.declared.encoding.Back.{Back}
use Rattle.stub_codes.specs.Stubs.{Coded}
use Rattle.flick_lines.specs.declared.verb.Verb.TheVariants.{Marshal}
use Rattle.flick_lines.specs.Marshalled.{text_in, IsEither}
use Rattle.flick_lines.specs.Verbs.{IsAnswerTo}
use Rattle.flick_top.specs.declared.job.Job.{Job}
use Rattle.flick_top.specs.declared.job.Job.TheVariants.{Pipe}
use Rattle.flick_top.specs.Answer.{frame_of, framed, is_refusal, written_of, IsPiped}

-- an octet is a digit
abbrev IsDigit : ℕ → Type 0
IsDigit x = is_hex_digit x ≡ true

-- `!` is no digit
not_digit : (x : ℕ) → x ≡ 33 → IsDigit x → ⊥
not_digit x is digit =
    let so : IsDigit 33 = subst IsDigit is digit in cc so

-- a text that begins with `!` spells no octets
not_spelled : (text m : List ℕ) → slice_index text 0 ≡ 33 → decode_of text ≡ Ok m → ⊥
not_spelled [] m is spelled = absurd (omega (arith, is))
not_spelled (x ∷ text) m is spelled =
    not_digit x is (All-head IsDigit x text (decode_of-ok (x ∷ text) m spelled).1)

pub no-frame : (back : Back) (text : List ℕ) → slice_index text 0 ≡ 33 → frame_of back (decode_of text) ≡ []
no-frame back text is = go (decode_of text) refl where
  go : (r : Result (List ℕ) FromHexError) → decode_of text ≡ r → frame_of back r ≡ []
  go (Ok m) e = absurd (not_spelled text m is e)
  go (Err f) e = refl

pub marked-refusal : (text : List ℕ) → slice_index text 0 ≡ 33 → is_refusal text ≡ true
marked-refusal [] is = absurd (omega (arith, is))
marked-refusal (x ∷ text) is = ap (λ (n : ℕ). n == 33) is

-- a text that spells octets is no refusal
digits_quiet : (text m : List ℕ) → decode_of text ≡ Ok m → is_refusal text ≡ false
digits_quiet [] m spelled = refl
digits_quiet (x ∷ text) m spelled = go (x == 33) refl where
  go : (b : Bool) → (x == 33) ≡ b → (x == 33) ≡ false
  go true e = absurd (not_spelled (x ∷ text) m (eqb-true x 33 e) spelled)
  go false e = e

-- a refusal adds nothing
pub piped-some : (e : Coded) (line : List ℕ) (o : Option (List ℕ)) (refusal held out : List ℕ) → o ≡ Some refusal
    → IsAnswerTo Marshal e line (text_in o held) → IsEither o held → out ≡ [] → IsPiped e line out true
piped-some e line o refusal held out is answers either none =
    let marked : slice_index refusal 0 ≡ 33 = subst (λ (x : Option (List ℕ)). IsEither x held) is either in (
      refusal,
      subst (λ (x : Option (List ℕ)). IsAnswerTo Marshal e line (text_in x held)) is answers,
      none ∙ sym (no-frame e.binding.back refusal marked),
      sym (marked-refusal refusal marked),
    )

-- a message is framed
pub piped-none : (e : Coded) (line : List ℕ) (o : Option (List ℕ)) (held message : List ℕ) (back : Back) (out : List ℕ) → o ≡ None
    → IsAnswerTo Marshal e line (text_in o held) → message ≡ held → back ≡ e.binding.back
    → decode_of (encode_lower message) ≡ Ok message → out ≡ framed back message → IsPiped e line out false
piped-none e line o held message back out is answers same of spelled laid =
    let digits : IsAnswerTo Marshal e line (encode_lower held) =
    subst (λ (x : Option (List ℕ)). IsAnswerTo Marshal e line (text_in x held)) is answers in (
      encode_lower message,
      subst (λ (m : List ℕ). IsAnswerTo Marshal e line (encode_lower m)) (sym same) digits,
      laid ∙ ap (λ (k : Back). framed k message) of ∙ sym (ap (frame_of e.binding.back) spelled),
      sym (digits_quiet (encode_lower message) message spelled),
    )

-- a line that is too long adds nothing
pub piped-long : (job : Job) (e : Coded) (o : List ℕ) → job ≡ Pipe e → o ≡ [] → o ≡ written_of job (codes "! long")
piped-long job e o is none =
    subst (λ (j : Job). o ≡ written_of j (codes "! long")) (sym is) (none ∙ sym (no-frame e.binding.back (codes "! long") refl))
