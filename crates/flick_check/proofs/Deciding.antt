-- The answers to a file of stubs are determined, by induction on its parts, and are something, by induction on its length.
use Rattle.std.proofs.Common.{◌≡◌, ◌⊎◌, inl, inr, ℕ, zero, suc, ◌+◌, ◌≤◌, List, [], ◌∷◌, ◌++◌, take, drop, length, map, Option, Some, None, slice_get, refl, sym, ap, ◌∙◌, subst, arith, codes, length-drop}
use Rattle.cast_stub.specs.declared.send.SendCode.{SendCode}
use Rattle.cast_stub.specs.Block.{code_seen}
use Rattle.stub_check.specs.declared.verdicts.Verdict.{Verdict}
use Rattle.stub_check.specs.declared.verdicts.Verdict.TheVariants.{Meaning}
use Rattle.stub_check.specs.Verdicts.{IsSame}
use Rattle.stub_check.proofs.Deciding.{verdict_once, verdict_somehow}
use Rattle.pres.specs.Bindings.{Binding}
use Rattle.stub_codes.specs.declared.stub.Stub.{Stub}
use Rattle.stub_codes.specs.Stubs.{Coded}
use Rattle.flick_check.specs.Files.{Part, sends, receives, IsPart, HasNoPart, used_of, feeds}
use Rattle.flick_check.specs.Checked.{op_of, request_of, IsVerdictBeside, verdict_words, answer_line, IsAnswer, IsPartAnswer, last_line, AreAnswered, IsCheckedFrom}
use Rattle.flick_check.specs.Laws.{IsCheckedOnce, IsCheckedSomehow}
use Rattle.flick_check.proofs.Parts.{one_stub, not_received, no_part, IsStart, start_somehow}

-- ---- once

beside_once : (b : Binding) (op : ℕ) (c d : SendCode) (o : Option Stub) (v w : Verdict) → IsSame c d → IsVerdictBeside b op c o v
    → IsVerdictBeside b op d o w → v ≡ w
beside_once b op c d None v w same p q = p ∙ sym q
beside_once b op c d (Some s) v w same p q = verdict_once b.nodes (request_of b op) s.send c d v w same p q

answer_once : (e : Coded) (n : List ℕ) (c d : SendCode) (o : Option ℕ) (a b : List ℕ) → IsSame c d → IsAnswer e n c o a
    → IsAnswer e n d o b → a ≡ b
answer_once e n c d None a b same p q = p ∙ sym q
answer_once e n c d (Some op) a b same (v, is, p) (w, also, q) =
    p ∙ ap (λ (x : Verdict). answer_line (verdict_words x) n) (beside_once e.binding op c d (slice_get e.stubs op) v w same is also) ∙ sym q

-- the parts are as long, and their answers are the same
record AreAlike (p q : Part) (a b : List ℕ) : Type 0 where
  pub used : used_of p ≡ used_of q
  pub answers : a ≡ b

part_once : (e : Coded) (t : List ℕ) (p q : Part) (a b : List ℕ) → IsPart t p → IsPart t q → IsPartAnswer e p a → IsPartAnswer e q b
    → AreAlike p q a b
part_once e t (sends n c u) (sends m d v) a b is also p q =
    let one = one_stub t n m (code_seen c.ops) (code_seen d.ops) (map code_seen c.subs) (map code_seen d.subs) u v is also in
    let named : IsAnswer e m c (op_of e.binding m) a = subst (λ (x : List ℕ). IsAnswer e x c (op_of e.binding x) a) one.name p in
    record { used = one.used; answers = answer_once e m c d (op_of e.binding m) a b (sym one.code, sym one.subs) named q }
part_once e t (sends n c u) (receives v) a b is also p q =
    absurd (not_received t n (code_seen c.ops) (map code_seen c.subs) u is also.0)
part_once e t (receives u) (sends m d v) a b is also p q =
    absurd (not_received t m (code_seen d.ops) (map code_seen d.subs) v also is.0)
part_once e t (receives u) (receives v) a b is also p q = record { used = is.1 ∙ sym also.1; answers = p ∙ sym q }

answered_once : (e : Coded) (line : ℕ) (t : List ℕ) (ps qs : List Part) (a b : List ℕ) → AreAnswered e line t ps a
    → AreAnswered e line t qs b → a ≡ b
answered_once e line t [] [] a b (none, is) (also, other) = is ∙ sym other
answered_once e line t [] (q ∷ qs) a b (none, is) (first, more, part, says, left, other) = absurd (no_part t q part none)
answered_once e line t (p ∷ ps) [] a b (first, more, part, says, left, is) (none, other) = absurd (no_part t p part none)
answered_once e line t (p ∷ ps) (q ∷ qs) a b (first, more, part, says, rest, is) (second, others, also, tells, left, other) =
    let one = part_once e t p q first second part also says tells in
    let same : AreAnswered e (line + feeds (take (used_of q) t)) (drop (used_of q) t) ps more =
    subst (λ (u : ℕ). AreAnswered e (line + feeds (take u t)) (drop u t) ps more) one.used rest in
    is ∙ ap (λ (x : List ℕ). x ++ more) one.answers
    ∙ ap (λ (x : List ℕ). second ++ x)
    (answered_once e (line + feeds (take (used_of q) t)) (drop (used_of q) t) ps qs more others same left) ∙ sym other

pub checked_once : IsCheckedOnce
checked_once e text a b (ps, p) (qs, q) = answered_once e 1 text ps qs a b p q

-- ---- somehow

beside_somehow : (b : Binding) (op : ℕ) (c : SendCode) (o : Option Stub) → (v : Verdict) × IsVerdictBeside b op c o v
beside_somehow b op c None = (Meaning, refl)
beside_somehow b op c (Some s) = verdict_somehow b.nodes (request_of b op) s.send c

answer_somehow : (e : Coded) (n : List ℕ) (c : SendCode) (o : Option ℕ) → (a : List ℕ) × IsAnswer e n c o a
answer_somehow e n c None = (answer_line (codes "! op ") n, refl)
answer_somehow e n c (Some op) =
    let (v, is) = beside_somehow e.binding op c (slice_get e.stubs op) in (answer_line (verdict_words v) n, (v, is, refl))

part_somehow : (e : Coded) (p : Part) → (a : List ℕ) × IsPartAnswer e p a
part_somehow e (sends n c u) = answer_somehow e n c (op_of e.binding n)
part_somehow e (receives u) = ([], refl)

-- what answers octets that begin with a part or with none, if what follows a part has answers
answered_by : (e : Coded) (line : ℕ) (t : List ℕ) → ((p : Part) × IsStart t p) ⊎ HasNoPart t
    → ((p : Part) → IsStart t p → (a : List ℕ) × IsCheckedFrom e (line + feeds (take (used_of p) t)) (drop (used_of p) t) a)
    → (a : List ℕ) × IsCheckedFrom e line t a
answered_by e line t (inr none) after = (last_line line t, ([], (none, refl)))
answered_by e line t (inl (p, start)) after =
    let (first, says) = part_somehow e p in
    let (more, (ps, rest)) = after p start in
    (first ++ more, (p ∷ ps, (first, more, start.is, says, rest, refl)))

answered_somehow : (e : Coded) (k line : ℕ) (t : List ℕ) → length t ≤ k → (a : List ℕ) × IsCheckedFrom e line t a
answered_somehow e zero line t h =
    answered_by e line t (start_somehow t) (λ p start. absurd (omega (arith, h, start.some, start.within)))
answered_somehow e (suc k) line t h =
    answered_by e line t (start_somehow t)
    (λ p start. answered_somehow e k (line + feeds (take (used_of p) t)) (drop (used_of p) t)
    (omega (arith, h, start.some, start.within, length-drop (used_of p) t)))

pub checked_somehow : IsCheckedSomehow
checked_somehow e text = answered_somehow e (length text) 1 text (omega arith)
