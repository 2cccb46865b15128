-- The lines that ended in the octets taken are those that were read where the source failed, by induction on the octets.
use Rattle.std.proofs.Common.{◌≡◌, ◌≢◌, ℕ, zero, suc, ◌+◌, ◌<◌, Bool, true, false, List, [], ◌∷◌, ◌++◌, map, length, refl, sym, ◌∙◌, ap, subst, arith, append_assoc, append-nil, length-append}
use Rattle.std.specs.Prelude.{◌||◌, ◌==◌, if◌then◌else◌}
use Rattle.std.proofs.lemmas.Bool.Decides.{nat_tests}
use Rattle.std.proofs.lemmas.List.{append_cancel_right, map-append}
use Rattle.std.proofs.lemmas.List.Elements.{All-nil, All-cons, All-append}
use Rattle.kit_base.specs.Limits.{longest_line}
use Rattle.kit_base.specs.declared.lines.Line.{Line}
use Rattle.kit_base.specs.declared.lines.Line.TheVariants.{Long}
use Rattle.kit_base.specs.Lines.{State, Passed, pending, lines, lines_from, lines_after, line_of, HasNoEnd}
use Rattle.kit_base.proofs.Cutting.{lines-long, lines_after-append}
use Rattle.flick_top.specs.Items.{has_end, ended_part, IsCutting, by_lines}
use Rattle.flick_top.specs.declared.items.Item.TheVariants as items
use Rattle.flick_top.specs.Giving.{fresh}
use Rattle.std.proofs.lemmas.Bool.{or_parts}

none-ended : (xs : List ℕ) → has_end xs ≡ false → ended_part xs ≡ []
none-ended [] h = refl
none-ended (x ∷ xs) h = rw h

no_end : (xs : List ℕ) → has_end xs ≡ false → HasNoEnd xs
no_end [] h = All-nil (λ (x : ℕ). x ≢ 10)
no_end (x ∷ xs) h =
    let (here, rest) = or_parts (x == 10) (has_end xs) h in
    let other : x ≢ 10 = grind (arith, nat_tests, here) in
    All-cons (λ (y : ℕ). y ≢ 10) x xs other (no_end xs rest)

stays_by : (a b c : Bool) → (a || b) ≡ true → (b ≡ true → c ≡ true) → (a || c) ≡ true
stays_by true b c h more = refl
stays_by false b c h more = more h

-- an end stays, whatever follows
end_stays : (xs more : List ℕ) → has_end xs ≡ true → has_end (xs ++ more) ≡ true
end_stays [] more h = absurd (cc h)
end_stays (x ∷ xs) more h = stays_by (x == 10) (has_end xs) (has_end (xs ++ more)) h (end_stays xs more)

-- what stands after the last end has none
split_ended : (xs : List ℕ) → (tail : List ℕ) × (xs ≡ ended_part xs ++ tail) × HasNoEnd tail
split_ended [] = ([], refl, All-nil (λ (x : ℕ). x ≢ 10))
split_ended (x ∷ xs) = go (has_end (x ∷ xs)) refl (split_ended xs) where
  go : (b : Bool) → has_end (x ∷ xs) ≡ b → (tail : List ℕ) × (xs ≡ ended_part xs ++ tail) × HasNoEnd tail
      → (tail : List ℕ) × (x ∷ xs ≡ ended_part (x ∷ xs) ++ tail) × HasNoEnd tail
  go true e (tail, split, none) = (tail, rw e (ap (λ (l : List ℕ). x ∷ l) split), none)
  go false e (tail, split, none) = (x ∷ xs, rw e refl, no_end (x ∷ xs) e)

from_step : (n : ℕ) (begun : List ℕ) (x : ℕ) (xs ys : List ℕ) (b c : Bool) → (x == 10) ≡ b → has_end xs ≡ c → (b || c) ≡ true
    → ((begun' : List ℕ) → has_end xs ≡ true
    → lines_from n begun' (ended_part xs ++ ys) ≡ lines_from n begun' (ended_part xs) ++ lines n ys)
    → lines_from n begun (x ∷ (ended_part xs ++ ys)) ≡ lines_from n begun (x ∷ ended_part xs) ++ lines n ys
from_step n begun x xs ys true true e f h ih =
    rw e
    (ap (λ (l : List Line). line_of n begun ++ l) (ih [] f)
    ∙ sym (append_assoc (line_of n begun) (lines_from n [] (ended_part xs)) (lines n ys)))
from_step n begun x xs ys true false e f h ih =
    let gone : ended_part xs ≡ [] = none-ended xs f in
    rw (e, gone) (ap (λ (l : List Line). l ++ lines n ys) (sym (append-nil (line_of n begun))))
from_step n begun x xs ys false true e f h ih = rw e (ih (begun ++ x ∷ []) f)
from_step n begun x xs ys false false e f h ih = absurd (cc h)

from_ended : (n : ℕ) (begun xs ys : List ℕ) → has_end xs ≡ true
    → lines_from n begun (ended_part xs ++ ys) ≡ lines_from n begun (ended_part xs) ++ lines n ys
from_ended n begun [] ys h = absurd (cc h)
from_ended n begun (x ∷ xs) ys h =
    rw h (from_step n begun x xs ys (x == 10) (has_end xs) refl refl h (λ begun' e. from_ended n begun' xs ys e))

-- the lines that ended, and those after
lines-ended : (n : ℕ) (xs ys : List ℕ) → lines n (ended_part xs ++ ys) ≡ lines n (ended_part xs) ++ lines n ys
lines-ended n xs ys = go (has_end xs) refl where
  go : (b : Bool) → has_end xs ≡ b → lines n (ended_part xs ++ ys) ≡ lines n (ended_part xs) ++ lines n ys
  go true e = from_ended n [] xs ys e
  go false e = let gone : ended_part xs ≡ [] = none-ended xs e in rw gone refl

-- so many octets without an end
filler : ℕ → List ℕ
filler zero = []
filler (suc k) = 65 ∷ filler k

length-filler : (k : ℕ) → length (filler k) ≡ k
unfolding filler
length-filler zero = refl
length-filler (suc k) = ap suc (length-filler k)

filler-none : (k : ℕ) → HasNoEnd (filler k)
unfolding filler
filler-none zero = All-nil (λ (x : ℕ). x ≢ 10)
filler-none (suc k) = All-cons (λ (y : ℕ). y ≢ 10) 65 (filler k) (λ e. absurd (omega arith)) (filler-none k)

-- a begun line is too long when so much more of it stands there
filled : (n : ℕ) (tail more : List ℕ) → HasNoEnd tail → HasNoEnd more → n + 1 < length more → lines n (tail ++ more) ≡ Long ∷ []
filled n tail more none none' long =
    let all = All-append (λ (y : ℕ). y ≢ 10) tail more none none' in
    ap (lines n) (sym (append-nil (tail ++ more))) ∙ lines-long n (tail ++ more) [] all (omega (arith, length-append tail more))

pending_by : (b : Bool) (n : ℕ) (kept more : List ℕ) → HasNoEnd kept → HasNoEnd more → n + 1 < length more
    → (if b then Long ∷ lines_after n (kept ++ more) else lines n (kept ++ more)) ≡ Long ∷ []
pending_by true n kept more none none' long =
    let all = All-append (λ (y : ℕ). y ≢ 10) kept more none none' in
    ap (λ (l : List Line). Long ∷ l) (ap (lines_after n) (sym (append-nil (kept ++ more))) ∙ lines_after-append n (kept ++ more) [] all)
pending_by false n kept more none none' long = filled n kept more none none' long

-- the lines that were read are those that ended in the octets taken
pub ended-lines : (s u : State) (got : List ℕ) (ls : List Line) (n most : ℕ) → s ≡ fresh n most → Passed s u got ls → HasNoEnd u.kept
    → u.ended ≡ false
    → lines n (ended_part got) ≡ ls
ended-lines s u got ls n most new passed none unended =
    let (tail, split, none') = split_ended got in
    let more = filler (n + 2) in
    let long : n + 1 < length more = omega (arith, length-filler (n + 2)) in
    let longest : u.longest ≡ n = passed.longest ∙ ap (λ (r : State). r.longest) new in
    let all : pending s (got ++ more) ≡ ls ++ pending u more = passed.answers more (λ e. absurd (cc (e, unended))) in
    let begun : pending (fresh n most) (got ++ more) ≡ ls ++ pending u more =
    subst (λ (r : State). pending r (got ++ more) ≡ ls ++ pending u more) new all in
    let after : pending u more ≡ Long ∷ [] =
    pending_by u.skips u.longest u.kept more none (filler-none (n + 2)) (omega (arith, long, longest)) in
    let parts : lines n (got ++ more) ≡ lines n (ended_part got) ++ (Long ∷ []) =
    ap (λ (l : List ℕ). lines n (l ++ more)) split ∙ ap (lines n) (append_assoc (ended_part got) tail more)
    ∙ lines-ended n got (tail ++ more)
    ∙ ap (λ (l : List Line). lines n (ended_part got) ++ l) (filled n tail more none' (filler-none (n + 2)) long) in
    append_cancel_right (lines n (ended_part got)) ls (Long ∷ []) (sym parts ∙ begun ∙ ap (λ (l : List Line). ls ++ l) after)

-- ---- lines as a cutting

-- the part that ended is a first part of that which ended in more octets
part_grows : (xs more : List ℕ) → (rest : List ℕ) × (ended_part (xs ++ more) ≡ ended_part xs ++ rest)
part_grows [] more = (ended_part more, refl)
part_grows (x ∷ xs) more = go (has_end (x ∷ xs)) refl (part_grows xs more) where
  go : (b : Bool) → has_end (x ∷ xs) ≡ b → (rest : List ℕ) × (ended_part (xs ++ more) ≡ ended_part xs ++ rest)
      → (rest : List ℕ) × (ended_part (x ∷ xs ++ more) ≡ ended_part (x ∷ xs) ++ rest)
  go true e (rest, grown) =
      let also : has_end (x ∷ xs ++ more) ≡ true = end_stays (x ∷ xs) more e in
      (rest, rw (e, also) (ap (λ (l : List ℕ). x ∷ l) grown))
  go false e (rest, grown) = (ended_part (x ∷ xs ++ more), rw e refl)

pub lines_cut : IsCutting by_lines
lines_cut = record {
  ended = λ octets more.
      let (rest, grown) = part_grows octets more in (
        map items.Line (lines longest_line rest),
        ap (map items.Line) (ap (lines longest_line) grown ∙ lines-ended longest_line octets rest)
            ∙ map-append items.Line (lines longest_line (ended_part octets)) (lines longest_line rest),
      );
  whole = λ octets more.
      let (tail, split, none) = split_ended octets in
      let parted : lines longest_line (octets ++ more) ≡ lines longest_line (ended_part octets) ++ lines longest_line (tail ++ more) =
      ap (λ (l : List ℕ). lines longest_line (l ++ more)) split
      ∙ ap (lines longest_line) (append_assoc (ended_part octets) tail more) ∙ lines-ended longest_line octets (tail ++ more) in (
        map items.Line (lines longest_line (tail ++ more)),
        ap (map items.Line) parted ∙ map-append items.Line (lines longest_line (ended_part octets)) (lines longest_line (tail ++ more)),
      );
  stays = λ octets more stopped. absurd (cc stopped);
}
