-- Lines that are read are items of the input that is cut into lines.
use Rattle.std.proofs.Common.{◌≡◌, ℕ, ◌<◌, ◌≤◌, false, true, List, [], ◌∷◌, ◌++◌, map, length, Option, Some, None, Ok, inl, refl, sym, ap, ◌∙◌, subst, append-nil, arith}
use Rattle.std.specs.Io.KnownBytes.{Consumes, IsAtEnd}
use Rattle.std.proofs.lemmas.List.{map-append}
use Rattle.kit_base.specs.Limits.{longest_line, most_input}
use Rattle.kit_base.specs.declared.lines.Line.{Line}
use Rattle.kit_base.specs.declared.lines.Line.TheVariants.{End}
use Rattle.kit_base.specs.declared.lines.LineErr.{LineErr}
use Rattle.kit_base.specs.declared.lines.LineErr.TheVariants.{Failed, TooMuch, NoMemory}
use Rattle.kit_base.specs.Lines.{State, Advances, KnowsEnd, HasNoEnd, answered, pending, lines}
use Rattle.kit_base.proofs.Cutting.{advances-refl, advances-trans}
use Rattle.flick_top.specs.declared.items.Item.{Item}
use Rattle.flick_top.specs.declared.items.Item.TheVariants as items
use Rattle.flick_top.specs.Items.{Cutting, Begin, by_lines, ended_part}
use Rattle.flick_top.specs.Outside.{Input}
use Rattle.flick_top.specs.Giving.{HasBegun, HasEnded, HasFailed, AreLines, TakesWithin, fresh}
use Rattle.flick_top.proofs.Ended.{ended-lines}

-- ---- what was taken

-- the input is what was taken and what is left
pub input-is : (before after : Input) (input taken : List ℕ) → before ≡ Some input → Consumes before after taken
    → (rest : List ℕ) × (input ≡ taken ++ rest) × (after ≡ Some rest)
input-is before None input taken reported consumed = absurd (subst (λ (o : Input). Consumes o None taken) reported consumed)
input-is before (Some rest) input taken reported consumed =
    (rest, subst (λ (o : Input). Consumes o (Some rest) taken) reported consumed, refl)

took-within : (n most : ℕ) (before after : Input) (t : State) (ls : List Line) → Advances before after (fresh n most) t ls
    → t.taken ≤ t.most → (got : List ℕ) × Consumes before after got × (length got ≤ most)
took-within n most before after t ls (got, consumed, passed) within =
    (got, consumed, omega (arith, passed.count, passed.most, within))

took-more : (n most : ℕ) (before after : Input) (t : State) (ls : List Line) → Advances before after (fresh n most) t ls
    → t.most < t.taken → (got : List ℕ) × Consumes before after got × (most < length got)
took-more n most before after t ls (got, consumed, passed) over =
    (got, consumed, omega (arith, passed.count, passed.most, over))

-- ---- the lines of the input

-- the lines that were read are the first of the input's
first_lines : (n most : ℕ) (before after : Input) (t : State) (ls : List Line) (input : List ℕ) → before ≡ Some input
    → Advances before after (fresh n most) t ls → KnowsEnd t after
    → (rest : List ℕ) × (lines n input ≡ ls ++ pending t rest) × (after ≡ Some rest)
first_lines n most before after t ls input reported (got, consumed, passed) knows =
    let (rest, is, left) = input-is before after input got reported consumed in
    let ends : t.ended ≡ true → rest ≡ [] = λ ended. subst IsAtEnd left (knows ended) in
    (rest, ap (lines n) is ∙ passed.answers rest ends, left)

-- at its end they are all
all_lines : (n most : ℕ) (before after : Input) (t : State) (ls : List Line) (input : List ℕ) → before ≡ Some input
    → Advances before after (fresh n most) t ls → KnowsEnd t after → t.ended ≡ true → pending t [] ≡ [] → lines n input ≡ ls
all_lines n most before after t ls input reported advances knows ended none =
    let (rest, split, left) = first_lines n most before after t ls input reported advances knows in
    let empty : rest ≡ [] = subst IsAtEnd left (knows ended) in
    split ∙ ap (λ (o : List ℕ). ls ++ pending t o) empty ∙ ap (λ (l : List Line). ls ++ l) none ∙ append-nil ls

-- ---- as items

pub lines-fresh : (left : Input) (t : State) → t ≡ fresh longest_line most_input → AreLines by_lines t left left []
lines-fresh left t is = subst (λ (s : State). AreLines by_lines s left left []) (sym is) (record {
  cut = refl;
  lines = ([], refl, advances-refl left (fresh longest_line most_input));
  knows_end = λ ended. absurd (cc ended);
  fine = refl;
  within = omega arith;
})

pub lines-begun : (c : Cutting) (before after : Input) (t : State) (given : List Item) → AreLines c t before after given
    → HasBegun c before after given
lines-begun c before after t given h =
    let (ls, is, advances) = h.lines in
    record {
      begins = λ input reported.
          let (rest, split, left) = first_lines longest_line most_input before after t ls input reported advances h.knows_end in
          subst (λ (k : Cutting). Begin given (k.whole input)) (sym h.cut) (
            map items.Line (pending t rest),
            ap (map items.Line) split ∙ map-append items.Line ls (pending t rest)
                ∙ ap (λ (l : List Item). l ++ map items.Line (pending t rest)) (sym is),
          );
      taken = took-within longest_line most_input before after t ls advances h.within;
    }

-- one more line
pub line-given : (c : Cutting) (before now after : Input) (s t : State) (given : List Item) (line : Line) → AreLines c s before now given
    → Advances now after s t (line ∷ []) → KnowsEnd t after → t.error ≡ None → t.taken ≤ t.most
    → AreLines c t before after (given ++ items.Line line ∷ [])
line-given c before now after s t given line h more knows fine within =
    let (ls, is, advances) = h.lines in
    record {
      cut = h.cut;
      lines = (
        ls ++ line ∷ [],
        ap (λ (l : List Item). l ++ items.Line line ∷ []) is ∙ sym (map-append items.Line ls (line ∷ [])),
        advances-trans before now after (fresh longest_line most_input) s t ls (line ∷ []) advances more,
      );
      knows_end = knows;
      fine = fine;
      within = within;
    }

-- no more line
none_more : (before now after : Input) (s t u : State) (ls none : List Line) → none ≡ [] → Advances before now s t ls
    → Advances now after t u none → Advances before after s u ls
none_more before now after s t u ls none is p q =
    subst (λ (l : List Line). Advances before after s u l) (ap (λ (l : List Line). ls ++ l) is ∙ append-nil ls)
    (advances-trans before now after s t u ls none p q)

pub lines-ended : (c : Cutting) (before now after : Input) (s t : State) (given : List Item) (line : Line) → line ≡ End
    → AreLines c s before now given → Advances now after s t (answered (Ok line)) → KnowsEnd t after
    → (pending t [] ≡ []) × (t.ended ≡ true) → t.taken ≤ t.most → HasEnded c before after given
lines-ended c before now after s t given line end h more knows (none, ended) within =
    let (ls, is, advances) = h.lines in
    let both = none_more before now after (fresh longest_line most_input) s t ls (answered (Ok line))
    (ap (λ (l : Line). answered (Ok l)) end) advances more in
    record {
      all = λ input reported.
          ap (λ (k : Cutting). k.whole input) h.cut
          ∙ ap (map items.Line) (all_lines longest_line most_input before after t ls input reported both knows ended none) ∙ sym is;
      taken = took-within longest_line most_input before after t ls both within;
      end = inl (knows ended);
    }

-- the input could not be read on
pub lines-failed : (c : Cutting) (before now after : Input) (s t : State) (given : List Item) (e : LineErr)
    → AreLines c s before now given → Advances now after s t [] → KnowsEnd t after
    → (e ≡ Failed → HasNoEnd t.kept × (t.ended ≡ false)) → (e ≡ TooMuch → t.most < t.taken)
    → ((e ≡ TooMuch → ⊥) → t.taken ≤ t.most) → HasFailed c before after given e
lines-failed c before now after s t given e h more knows failed over within =
    let (ls, is, advances) = h.lines in
    let both = none_more before now after (fresh longest_line most_input) s t ls [] refl advances more in
    record {
      begins = λ input reported.
          let (rest, split, left) = first_lines longest_line most_input before after t ls input reported both knows in
          subst (λ (k : Cutting). Begin given (k.whole input)) (sym h.cut) (
            map items.Line (pending t rest),
            ap (map items.Line) split ∙ map-append items.Line ls (pending t rest)
                ∙ ap (λ (l : List Item). l ++ map items.Line (pending t rest)) (sym is),
          );
      taken = (both.0, both.1);
      failed = λ which.
          let (none, unended) = failed which in
          let (got, consumed, passed) = both in
          let same = ended-lines (fresh longest_line most_input) t got ls longest_line most_input refl passed none unended in (
            got,
            consumed,
            ap (λ (k : Cutting). k.ended got) h.cut ∙ ap (map items.Line) same ∙ sym is,
          );
      within = λ other. took-within longest_line most_input before after t ls both (within other);
      more = λ which. took-more longest_line most_input before after t ls both (over which);
    }
