-- Lines of octets that are cut at their first end, by induction on the octets.
use Rattle.std.proofs.Common.{◌≡◌, ◌≢◌, ℕ, ◌+◌, ◌<◌, ◌≤◌, Bool, true, false, List, [], ◌∷◌, ◌++◌, length, take, drop, refl, sym, ◌∙◌, ap, arith, append_assoc, append-nil, length-append, subst, take-append-drop}
use Rattle.std.proofs.lemmas.Grind.{common_steps}
use Rattle.std.proofs.lemmas.List.Elements.{All-head, All-tail}
use Rattle.std.proofs.lemmas.Bool.Decides.{nat_tests}
use Rattle.std.specs.Prelude.{if◌then◌else◌, option_to_list, Option, Ok}
use Rattle.std.proofs.KnownBytes.{Consumes-trans, Consumes-nil}
use Rattle.kit_base.specs.Lines.{State, Passed, Advances, pending, answered, chomp, answer_of, line_of, lines_from, lines, lines_after, HasNoEnd}
use Rattle.kit_base.specs.declared.lines.Line.{Line}
use Rattle.kit_base.specs.declared.lines.Line.TheVariants.{Text, Long, End}

-- octets without an end go on with the line that was begun
pub lines_from-append : (longest : ℕ) (begun xs ys : List ℕ) → HasNoEnd xs
    → lines_from longest begun (xs ++ ys) ≡ lines_from longest (begun ++ xs) ys
lines_from-append longest begun [] ys h = rw append-nil
lines_from-append longest begun (x ∷ xs) ys h =
    let head : x ≢ 10 = All-head (λ (y : ℕ). y ≢ 10) x xs h in
    let rest = lines_from-append longest (begun ++ x ∷ []) xs ys (All-tail (λ (y : ℕ). y ≢ 10) x xs h) in
    grind (arith, nat_tests, append_assoc, head, rest)

pub lines_after-append : (longest : ℕ) (xs ys : List ℕ) → HasNoEnd xs → lines_after longest (xs ++ ys) ≡ lines_after longest ys
lines_after-append longest [] ys h = refl
lines_after-append longest (x ∷ xs) ys h =
    let head : x ≢ 10 = All-head (λ (y : ℕ). y ≢ 10) x xs h in
    let rest = lines_after-append longest xs ys (All-tail (λ (y : ℕ). y ≢ 10) x xs h) in
    grind (arith, nat_tests, head, rest)

-- chomping drops one octet at most
pub length-chomp : (xs : List ℕ) → length xs ≤ length (chomp xs) + 1
length-chomp xs = grind (arith, nat_tests, common_steps)

-- a line above the limit is answered as Long
line_of-long : (longest : ℕ) (xs : List ℕ) → longest < length xs → answer_of longest xs ≡ Long ∷ []
line_of-long longest [] h = absurd (omega arith)
line_of-long longest (x ∷ xs) h = grind (arith, nat_tests, h)

-- a line that is longer than allowed by more than its return is too long, whatever follows
pub lines_from-long : (longest : ℕ) (begun more : List ℕ) → longest + 1 < length begun
    → lines_from longest begun more ≡ Long ∷ lines_after longest more
lines_from-long longest begun [] h = line_of-long longest (chomp begun) (omega (arith, length-chomp begun))
lines_from-long longest begun (x ∷ xs) h =
    let now = line_of-long longest (chomp begun) (omega (arith, length-chomp begun)) in
    let rest = lines_from-long longest (begun ++ x ∷ []) xs (omega (arith, length-append begun (x ∷ []))) in
    grind (arith, nat_tests, now, rest)

-- a line that has its end
pub lines-cut : (longest : ℕ) (kept more : List ℕ) (i : ℕ) → HasNoEnd (take i kept) → kept ≡ take i kept ++ 10 ∷ drop (i + 1) kept
    → lines longest (kept ++ more) ≡ line_of longest (take i kept) ++ lines longest (drop (i + 1) kept ++ more)
lines-cut longest kept more i none split =
    let front = take i kept in
    let rest = drop (i + 1) kept in
    let whole : kept ++ more ≡ front ++ (10 ∷ (rest ++ more)) =
    ap (λ (l : List ℕ). l ++ more) split ∙ append_assoc front (10 ∷ rest) more in
    ap (lines longest) whole ∙ lines_from-append longest [] front (10 ∷ (rest ++ more)) none

-- the rest of a line that is too long has its end
pub lines_after-cut : (longest : ℕ) (kept more : List ℕ) (i : ℕ) → HasNoEnd (take i kept) → kept ≡ take i kept ++ 10 ∷ drop (i + 1) kept
    → lines_after longest (kept ++ more) ≡ lines longest (drop (i + 1) kept ++ more)
lines_after-cut longest kept more i none split =
    let front = take i kept in
    let rest = drop (i + 1) kept in
    let whole : kept ++ more ≡ front ++ (10 ∷ (rest ++ more)) =
    ap (λ (l : List ℕ). l ++ more) split ∙ append_assoc front (10 ∷ rest) more in
    ap (lines_after longest) whole ∙ lines_after-append longest front (10 ∷ (rest ++ more)) none

-- a line without its end, of which more than the limit and a return is kept, is too long
pub lines-long : (longest : ℕ) (kept more : List ℕ) → HasNoEnd kept → longest + 1 < length kept
    → lines longest (kept ++ more) ≡ Long ∷ lines_after longest more
lines-long longest kept more none long =
    lines_from-append longest [] kept more none ∙ lines_from-long longest kept more long

-- a last line without its end
pub lines-last : (longest : ℕ) (kept : List ℕ) → HasNoEnd kept → lines longest (kept ++ []) ≡ line_of longest kept
lines-last longest kept none = lines_from-append longest [] kept [] none

pub lines_after-last : (longest : ℕ) (kept : List ℕ) → HasNoEnd kept → lines_after longest (kept ++ []) ≡ []
lines_after-last longest kept none = lines_after-append longest kept [] none

cut_more : (b : Bool) (longest : ℕ) (kept more : List ℕ) (i : ℕ) (answer : List Line) → HasNoEnd (take i kept)
    → kept ≡ take i kept ++ 10 ∷ drop (i + 1) kept → answer ≡ (if b then Long ∷ [] else line_of longest (take i kept))
    → (if b then Long ∷ lines_after longest (kept ++ more) else lines longest (kept ++ more))
    ≡ answer ++ lines longest (drop (i + 1) kept ++ more)
cut_more true longest kept more i answer none split e =
    rw e (ap (λ (l : List Line). Long ∷ l) (lines_after-cut longest kept more i none split))
cut_more false longest kept more i answer none split e = rw e (lines-cut longest kept more i none split)

-- a line is cut off what is kept
pub passed-cut : (s : State) (i : ℕ) (o : Option Line) → HasNoEnd (take i s.kept) → s.kept ≡ take i s.kept ++ 10 ∷ drop (i + 1) s.kept
    → option_to_list o ≡ (if s.skips then Long ∷ [] else line_of s.longest (take i s.kept))
    → Passed s (record s { kept = drop (i + 1) s.kept; skips = false }) [] (option_to_list o)
passed-cut s i o none split e = record {
  count = omega arith;
  longest = refl;
  most = refl;
  ended = λ h. (refl, h);
  answers = λ more _. cut_more s.skips s.longest s.kept more i (option_to_list o) none split e;
}

last_more : (b : Bool) (longest : ℕ) (kept : List ℕ) (answer : List Line) → HasNoEnd kept
    → answer ≡ (if b then Long ∷ [] else line_of longest kept)
    → (if b then Long ∷ lines_after longest (kept ++ []) else lines longest (kept ++ [])) ≡ answer
last_more true longest kept answer none e = rw e (ap (λ (l : List Line). Long ∷ l) (lines_after-last longest kept none))
last_more false longest kept answer none e = rw e (lines-last longest kept none)

-- what is kept is the last line
pub pending-last : (s : State) (answer : List Line) → HasNoEnd s.kept → answer ≡ (if s.skips then Long ∷ [] else line_of s.longest s.kept)
    → pending s [] ≡ answer
pending-last s answer none e = last_more s.skips s.longest s.kept answer none e

-- what is answered for a line is the line
pub answered-line : (line : Line) → (line ≡ End → ⊥) → answered (Ok line) ≡ line ∷ []
answered-line (Text t) h = refl
answered-line Long h = refl
answered-line End h = absurd (h refl)

pub passed-last : (s : State) (answer : List Line) → HasNoEnd s.kept → s.ended ≡ true
    → answer ≡ (if s.skips then Long ∷ [] else line_of s.longest s.kept)
    → Passed s (record s { kept = []; skips = false }) [] answer
passed-last s answer none end e = record {
  count = omega arith;
  longest = refl;
  most = refl;
  ended = λ h. (refl, h);
  answers =
      λ more h.
      subst
      (λ (m : List ℕ). pending s m ≡ answer ++ lines s.longest m) (sym (h end)) (pending-last s answer none e ∙ sym (append-nil answer));
}

refill_more : (b b' : Bool) (longest longest' : ℕ) (kept kept' got more : List ℕ) → b' ≡ b → longest' ≡ longest → kept' ≡ kept ++ got
    → (if b then Long ∷ lines_after longest (kept ++ (got ++ more)) else lines longest (kept ++ (got ++ more)))
    ≡ (if b' then Long ∷ lines_after longest' (kept' ++ more) else lines longest' (kept' ++ more))
refill_more b b' longest longest' kept kept' got more e f k = rw (e, f, k, append_assoc)

-- a read appends to what is kept, and answers nothing
pub passed-refill : (s t : State) → take (length s.kept) t.kept ≡ s.kept → t.taken + length s.kept ≡ s.taken + length t.kept
    → t.longest ≡ s.longest → t.most ≡ s.most → t.skips ≡ s.skips → s.ended ≡ false → Passed s t (drop (length s.kept) t.kept) []
passed-refill s t front count longest most skips unended =
    let split : t.kept ≡ s.kept ++ drop (length s.kept) t.kept = sym (take-append-drop (length s.kept) t.kept)
    ∙ ap (λ (l : List ℕ). l ++ drop (length s.kept) t.kept) front in
    let lengths : length t.kept ≡ length s.kept + length (drop (length s.kept) t.kept) = ap length split
    ∙ length-append s.kept (drop (length s.kept) t.kept) in
    record {
      count = omega (arith, lengths, count);
      longest = longest;
      most = most;
      ended = λ h. absurd (cc (h, unended));
      answers =
          λ more _. refill_more s.skips t.skips s.longest t.longest s.kept t.kept (drop (length s.kept) t.kept) more skips longest split;
    }

pub passed-refl : (s : State) → Passed s s [] []
passed-refl s = record { count = omega arith; longest = refl; most = refl; ended = λ h. (refl, h); answers = λ more _. refl }

both_empty : (xs ys : List ℕ) → xs ≡ [] → ys ≡ [] → xs ++ ys ≡ []
both_empty xs ys e f = rw (e, f)

pub passed-trans : (s t u : State) (got more_got : List ℕ) (first second : List Line) → Passed s t got first → Passed t u more_got second
    → Passed s u (got ++ more_got) (first ++ second)
passed-trans s t u got more_got first second p q = record {
  count = omega (arith, p.count, q.count, length-append got more_got);
  longest = q.longest ∙ p.longest;
  most = q.most ∙ p.most;
  ended = λ h. (both_empty got more_got (p.ended h).0 (q.ended (p.ended h).1).0, (q.ended (p.ended h).1).1);
  answers = λ more h. ap (pending s) (append_assoc got more_got more)
      ∙ p.answers (more_got ++ more) (λ e. both_empty more_got more (q.ended e).0 (h (q.ended e).1))
      ∙ ap (λ (l : List Line). first ++ l) (q.answers more h) ∙ sym (append_assoc first second (pending u more));
}

pub advances-trans : (a b c : Option (List ℕ)) (s t u : State) (first second : List Line) → Advances a b s t first → Advances b c t u second
    → Advances a c s u (first ++ second)
advances-trans a b c s t u first second (got, taken, p) (more_got, more_taken, q) =
    (got ++ more_got, Consumes-trans a b c got more_got taken more_taken, passed-trans s t u got more_got first second p q)

pub advances-refl : (a : Option (List ℕ)) (s : State) → Advances a a s s []
advances-refl a s = ([], Consumes-nil a, passed-refl s)

-- a step that takes nothing
pub advances-passed : (a : Option (List ℕ)) (s t : State) (answer : List Line) → Passed s t [] answer → Advances a a s t answer
advances-passed a s t answer p = ([], Consumes-nil a, p)

pub ruleset cutting = (lines-cut, lines_after-cut, lines-long, lines-last, lines_after-last, lines_after-append)
