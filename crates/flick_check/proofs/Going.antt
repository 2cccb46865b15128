-- One part more is answered.
use Rattle.std.proofs.Common.{◌≡◌, ℕ, ◌+◌, ◌-◌, ◌<◌, ◌≤◌, true, List, [], ◌∷◌, ◌++◌, take, drop, length, map, Option, Some, None, Result, OnOk, refl, sym, ap, ◌∙◌, subst, append_assoc, append-nil, length-drop, arith, codes}
use Rattle.std.proofs.lemmas.List.{length-take-le}
use Rattle.std.specs.Prelude.{IfSome}
use Rattle.std.proofs.lemmas.Result.{on_ok_weaker}
use Rattle.cast_stub.specs.declared.send.SendCode.{SendCode}
use Rattle.cast_stub.specs.Block.{code_seen}
use Rattle.stub_read.specs.Reading.{begins}
use Rattle.stub_read.specs.Stubs.{Begins}
use Rattle.stub_check.specs.declared.verdicts.Verdict.{Verdict}
use Rattle.stub_codes.specs.Stubs.{Coded}
use Rattle.flick_check.specs.Files.{sends, receives, passed, HasNoPart, feeds}
use Rattle.flick_check.specs.Checked.{op_of, IsVerdictOf, verdict_words, answer_line, IsAnswer, last_line, AreAnswered, IsChecked, IsTaken, IsTakenOrNot, IsAnswerPut, Goes}

pub goes_on : (e : Coded) (text rest old new : List ℕ) (line used : ℕ) → Goes e text line rest old → IsTaken e rest used old new
    → Goes e text (line + feeds (take used rest)) (drop used rest) new
goes_on e text rest old new line used goes taken a (ps, is) =
    let left = subst (λ (u : ℕ). AreAnswered e (line + feeds (take u rest)) (drop u rest) ps a) (sym taken.length) is in
    let all : IsChecked e text (old ++ (taken.answer ++ a)) =
    goes (taken.answer ++ a) (taken.part ∷ ps, (taken.answer, a, taken.is, taken.answers, left, refl)) in
    let same : old ++ (taken.answer ++ a) ≡ new ++ a =
    sym (append_assoc old taken.answer a) ∙ ap (λ (x : List ℕ). x ++ a) (sym taken.puts) in
    subst (IsChecked e text) same all

pub goes_to_end : (e : Coded) (text rest old mid new : List ℕ) (line : ℕ) → Goes e text line rest old → HasNoPart rest → mid ≡ old
    → new ≡ mid ++ last_line line rest → IsChecked e text new
goes_to_end e text rest old mid new line goes none same puts =
    subst (IsChecked e text) (ap (λ (x : List ℕ). x ++ last_line line rest) (sym same) ∙ sym puts)
    (goes (last_line line rest) ([], (none, refl)))

-- ---- by what functions answer

-- the answer to a stub of an operation
pub answer_put : {E : Type 0} (r : Result (Unit {0}) E) (e : Coded) (name : List ℕ) (code : SendCode) (o : Option ℕ) (op : ℕ) (v : Verdict)
    (words line_name old new : List ℕ) → o ≡ Some op → IsVerdictOf e op code v → words ≡ verdict_words v → line_name ≡ name
    → OnOk r (new ≡ old ++ answer_line words line_name) → OnOk r (IsAnswerPut e name code o old new)
answer_put r e name code o op v words line_name old new is verdict says same put =
    on_ok_weaker r
    (λ puts. (
      answer_line (verdict_words v) name,
      subst (λ (x : Option ℕ). IsAnswer e name code x (answer_line (verdict_words v) name)) (sym is) (v, verdict, refl),
      puts ∙ ap (λ (x : List ℕ). old ++ answer_line x line_name) says ∙ ap (λ (x : List ℕ). old ++ answer_line (verdict_words v) x) same,
    )) put

-- a text after `recv`
pub received_taken : (e : Coded) (text out : List ℕ) (used : ℕ) → begins (codes "recv ") text ≡ true → used ≡ passed text
    → IsTaken e text used out out
received_taken e text out used led is = record {
  part = receives used;
  is = (led, is);
  length = refl;
  answer = [];
  answers = refl;
  puts = sym (append-nil out);
}

-- a text after `send`
pub stub_taken : (e : Coded) (text name : List ℕ) (code : SendCode) (used : ℕ) (old new : List ℕ)
    → Begins name (code_seen code.ops) (map code_seen code.subs) used text → IsAnswerPut e name code (op_of e.binding name) old new
    → IsTaken e text used old new
stub_taken e text name code used old new begun (a, answers, puts) = record {
  part = sends name code used;
  is = begun;
  length = refl;
  answer = a;
  answers = answers;
  puts = puts;
}

taken_some : (e : Coded) (rest : List ℕ) (o : Option ℕ) (used : ℕ) (old new : List ℕ) → o ≡ Some used
    → IsTakenOrNot e rest o old new → IsTaken e rest used old new
taken_some e rest o used old new is taken = subst (λ (x : Option ℕ). IsTakenOrNot e rest x old new) is taken

-- one part more, by what was cut off and what is left
pub goes_by : (e : Coded) (text rest old new part tail : List ℕ) (line used count : ℕ) (o : Option ℕ) → Goes e text line rest old
    → o ≡ Some used → IsTakenOrNot e rest o old new → count ≡ feeds part → part ≡ take used rest → tail ≡ drop used rest
    → Goes e text (line + count) tail new
goes_by e text rest old new part tail line used count o goes is taken counts cut left =
    let next = goes_on e text rest old new line used goes (taken_some e rest o used old new is taken) in
    let feed : count ≡ feeds (take used rest) = counts ∙ ap feeds cut in
    subst (λ (n : ℕ). Goes e text (line + n) tail new) (sym feed)
    (subst (λ (l : List ℕ). Goes e text (line + feeds (take used rest)) l new) (sym left) next)

some_within : (o : Option ℕ) (used n : ℕ) → o ≡ Some used → IfSome o (λ u. (1 ≤ u) × (u ≤ n)) → (1 ≤ used) × (used ≤ n)
some_within o used n is h = subst (λ (x : Option ℕ). IfSome x (λ u. (1 ≤ u) × (u ≤ n))) is h

-- lines so far and octets left are no more than before
pub within_by : (text rest part tail : List ℕ) (line used count : ℕ) (o : Option ℕ) → line + length rest ≤ 1 + length text
    → o ≡ Some used → IfSome o (λ u. (1 ≤ u) × (u ≤ length rest)) → count ≤ length part → part ≡ take used rest
    → tail ≡ drop used rest → (line + count) + length tail ≤ 1 + length text
within_by text rest part tail line used count o within is some few cut left =
    let (one, most) = some_within o used (length rest) is some in
    let whole : length part ≡ used = ap length cut ∙ length-take-le used rest most in
    let rests : length tail ≡ length rest - used = ap length left ∙ length-drop used rest in
    omega (arith, within, most, few, whole, rests)

-- the measure falls
pub falls_by : (rest tail : List ℕ) (used : ℕ) (o : Option ℕ) → o ≡ Some used → IfSome o (λ u. (1 ≤ u) × (u ≤ length rest))
    → tail ≡ drop used rest → length tail < length rest
falls_by rest tail used o is some left =
    let (one, most) = some_within o used (length rest) is some in
    let rests : length tail ≡ length rest - used = ap length left ∙ length-drop used rest in
    omega (arith, one, most, rests)

taken_none : (e : Coded) (rest : List ℕ) (o : Option ℕ) (old new : List ℕ) → o ≡ None → IsTakenOrNot e rest o old new
    → HasNoPart rest × (new ≡ old)
taken_none e rest o old new is taken = subst (λ (x : Option ℕ). IsTakenOrNot e rest x old new) is taken

-- no part more
pub ends_by : (e : Coded) (text rest old mid new : List ℕ) (line : ℕ) (o : Option ℕ) → Goes e text line rest old → o ≡ None
    → IsTakenOrNot e rest o old mid → new ≡ mid ++ last_line line rest → IsChecked e text new
ends_by e text rest old mid new line o goes is taken puts =
    let (none, same) = taken_none e rest o old mid is taken in goes_to_end e text rest old mid new line goes none same puts
