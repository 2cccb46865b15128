-- Parts of a stream that are read are items of the input that is cut into them.
use Rattle.std.proofs.Common.{◌≡◌, ℕ, ◌+◌, ◌<◌, ◌≤◌, Bool, false, true, List, [], ◌∷◌, ◌++◌, map, length, is_some, Option, Some, None, inl, inr, refl, sym, ap, ◌∙◌, subst, append-nil, length-append, arith}
use Rattle.std.specs.Io.KnownBytes.{Consumes, IsAtEnd}
use Rattle.std.proofs.KnownBytes.{Consumes-nil, Consumes-trans}
use Rattle.std.proofs.lemmas.List.{map-append}
use Rattle.kit_base.specs.Limits.{most_input}
use Rattle.kit_base.specs.declared.lines.LineErr.{LineErr}
use Rattle.kit_base.specs.declared.lines.LineErr.TheVariants as errors
use Rattle.wire_def.specs.declared.encoding.Back.{Back}
use Rattle.wire_frames.specs.declared.messages.Part.{Part}
use Rattle.wire_frames.specs.declared.messages.Part.TheVariants as part
use Rattle.wire_frames.specs.Cut.{HasGiven, cut}
use Rattle.wire_frames.specs.Reading.{Reader, Advances, Gives, Stops, parts}
use Rattle.wire_frames.proofs.Cutting.{pieces_are_cut}
use Rattle.wire_frames.proofs.Parting.{parts-on, parts-bad, parts-cut, parts-end, messages-ended, fault-told}
use Rattle.flick_top.specs.declared.items.Item.{Item}
use Rattle.flick_top.specs.declared.items.Item.TheVariants as items
use Rattle.flick_top.specs.Items.{Cutting, Begin, by_frames, messages_as}
use Rattle.flick_top.specs.Outside.{Input}
use Rattle.flick_top.specs.Giving.{BeginsWith, HasBegun, HasEnded, HasFailed, AreMessages, AreParts, TakesWithin}
use Rattle.flick_top.proofs.GivenLines.{input-is}

-- these octets were taken, of which these messages were given
pub record Reached (c : Cutting) (t : Reader) (before after : Input) (fed : List ℕ) (ms : List (List ℕ)) : Type 0 where
  pub cut : c ≡ by_frames t.back
  pub consumed : Consumes before after fed
  pub given : HasGiven t.back fed ms t.kept
  pub count : t.taken ≡ length fed
  pub most : t.most ≡ most_input

-- messages, and then a part
then_part : (ms : List (List ℕ)) (p : Part) → map items.Part (map part.Message ms ++ p ∷ []) ≡ messages_as ms ++ items.Part p ∷ []
then_part ms p = map-append items.Part (map part.Message ms) (p ∷ [])

with_message : (given : List Item) (ms : List (List ℕ)) (m : List ℕ) → given ≡ messages_as ms
    → given ++ items.Part (part.Message m) ∷ [] ≡ messages_as (ms ++ m ∷ [])
with_message given ms m is =
    ap (λ (l : List Item). l ++ items.Part (part.Message m) ∷ []) is ∙ sym (then_part ms (part.Message m))
    ∙ sym (ap (map items.Part) (map-append part.Message ms (m ∷ [])))

-- what was read since
read_since : (c : Cutting) (before now after : Input) (r t : Reader) (given : List Item) (news : List (List ℕ))
    → AreMessages c r before now given → Advances now after r t news
    → (fed : List ℕ) × (ms : List (List ℕ)) × (given ≡ messages_as ms) × Reached c t before after fed (ms ++ news)
read_since c before now after r t given news h (got, taken, passed) =
    let (fed, ms, is, consumed, begun, count) = h.messages in (
      fed ++ got,
      ms,
      is,
      record {
        cut = h.cut ∙ ap by_frames (sym passed.back);
        consumed = Consumes-trans before now after fed got consumed taken;
        given = subst (λ (k : Back). HasGiven k (fed ++ got) (ms ++ news) t.kept) (sym passed.back) (passed.given fed ms begun);
        count = omega (arith, passed.count, count, length-append fed got);
        most = passed.most ∙ h.most;
      },
    )

-- the same without messages
pub record Stood (c : Cutting) (t : Reader) (before after : Input) (given : List Item) : Type 0 where
  pub fed : List ℕ
  pub ms : List (List ℕ)
  pub is : given ≡ messages_as ms
  pub reached : Reached c t before after fed ms

stood : (c : Cutting) (before now after : Input) (r t : Reader) (given : List Item) → AreMessages c r before now given
    → Advances now after r t [] → Stood c t before after given
stood c before now after r t given h advances =
    let (fed, ms, is, at) = read_since c before now after r t given [] h advances in
    record { fed = fed; ms = ms; is = is; reached = subst (Reached c t before after fed) (append-nil ms) at }

-- ---- what was taken and given

module _ (c : Cutting) (t : Reader) (before after : Input) (given : List Item) (s : Stood c t before after given) where
  begins_so : BeginsWith c before given
  begins_so input reported =
      let at = s.reached in
      let (rest, is, left) = input-is before after input s.fed reported at.consumed in
      subst (λ (k : Cutting). Begin given (k.whole input)) (sym at.cut) (
        map items.Part (parts t.back (t.kept ++ rest)),
        ap (λ (o : List ℕ). map items.Part (parts t.back o)) is
            ∙ ap (map items.Part) (parts-on t.back s.fed t.kept s.ms at.given rest)
            ∙ map-append items.Part (map part.Message s.ms) (parts t.back (t.kept ++ rest))
            ∙ ap (λ (l : List Item). l ++ map items.Part (parts t.back (t.kept ++ rest))) (sym s.is),
      )

  within_so : t.taken ≤ t.most → TakesWithin before after
  within_so few = (s.fed, s.reached.consumed, omega (arith, s.reached.count, s.reached.most, few))

  -- the parts of the whole input, where what was taken is known to have these
  whole_so : (more : List Part) (input : List ℕ) → before ≡ Some input
      → ((rest : List ℕ) → after ≡ Some rest → parts t.back (s.fed ++ rest) ≡ map part.Message s.ms ++ more)
      → c.whole input ≡ given ++ map items.Part more
  whole_so more input reported has =
      let at = s.reached in
      let (rest, is, left) = input-is before after input s.fed reported at.consumed in
      ap (λ (k : Cutting). k.whole input) at.cut ∙ ap (λ (o : List ℕ). map items.Part (parts t.back o)) is
      ∙ ap (map items.Part) (has rest left) ∙ map-append items.Part (map part.Message s.ms) more
      ∙ ap (λ (l : List Item). l ++ map items.Part more) (sym s.is)

  -- at the end of the input, what was taken is all
  taken_all : (more : List Part) → IsAtEnd after → parts t.back s.fed ≡ map part.Message s.ms ++ more → (rest : List ℕ) → after ≡ Some rest
      → parts t.back (s.fed ++ rest) ≡ map part.Message s.ms ++ more
  taken_all more end has rest left =
      let empty : rest ≡ [] = subst IsAtEnd left end in
      ap (λ (o : List ℕ). parts t.back (s.fed ++ o)) empty ∙ ap (parts t.back) (append-nil s.fed) ∙ has

pub parts-fresh : (back : Back) (left : Input) (t : Reader)
    → t ≡ record { back = back; kept = []; taken = 0; most = most_input; over = false }
    → AreParts t.over (by_frames back) t left left []
parts-fresh back left t is = subst (λ (r : Reader). AreParts r.over (by_frames back) r left left []) (sym is) (record {
  cut = refl;
  messages = ([], [], refl, Consumes-nil left, pieces_are_cut.none back, refl);
  most = refl;
  within = omega arith;
})

messages_begun : (c : Cutting) (before after : Input) (t : Reader) (given : List Item) → AreMessages c t before after given
    → HasBegun c before after given
messages_begun c before after t given h =
    let (fed, ms, is, consumed, begun, count) = h.messages in
    let at : Stood c t before after given =
    record {
      fed = fed;
      ms = ms;
      is = is;
      reached = record { cut = h.cut; consumed = consumed; given = begun; count = count; most = h.most };
    } in
    record { begins = begins_so c t before after given at; taken = within_so c t before after given at h.within }

ended_begun : (c : Cutting) (before after : Input) (given : List Item) → HasEnded c before after given → HasBegun c before after given
ended_begun c before after given h =
    record { begins = λ input reported. ([], h.all input reported ∙ sym (append-nil given)); taken = h.taken }

pub parts-begun : (over : Bool) (c : Cutting) (before after : Input) (t : Reader) (given : List Item)
    → AreParts over c t before after given → HasBegun c before after given
parts-begun true c before after t given h = ended_begun c before after given h
parts-begun false c before after t given h = messages_begun c before after t given h

-- ---- one more part

pub part-given : (c : Cutting) (before now after : Input) (r t : Reader) (given : List Item) (p : Part) → AreMessages c r before now given
    → Gives now after r t (Some p) → AreParts t.over c t before after (given ++ items.Part p ∷ [])
part-given c before now after r t given (part.Message m) h (advances, within, going) =
    let (fed, ms, is, at) = read_since c before now after r t given (m ∷ []) h advances in
    subst (λ (b : Bool). AreParts b c t before after (given ++ items.Part (part.Message m) ∷ [])) (sym going) (record {
      cut = at.cut;
      messages = (fed, ms ++ m ∷ [], with_message given ms m is, at.consumed, at.given, at.count);
      most = at.most;
      within = within;
    })
part-given c before now after r t given (part.Fault e) h (advances, within, over, bad) =
    let s = stood c before now after r t given h advances in
    let stops : c.stops s.fed ≡ true =
    ap (λ (k : Cutting). k.stops s.fed) s.reached.cut ∙ ap is_some (fault-told t.back s.fed t.kept s.ms s.reached.given e bad) in
    subst (λ (b : Bool). AreParts b c t before after (given ++ items.Part (part.Fault e) ∷ [])) (sym over) (record {
      all = λ input reported.
          whole_so c t before after given s (part.Fault e ∷ []) input reported
          (λ rest left. parts-bad t.back s.fed t.kept s.ms s.reached.given e bad rest);
      taken = within_so c t before after given s within;
      end = inr (s.fed, s.reached.consumed, stops);
    })
part-given c before now after r t given part.Cut h (advances, within, over, none, some, end) =
    let s = stood c before now after r t given h advances in
    subst (λ (b : Bool). AreParts b c t before after (given ++ items.Part part.Cut ∷ [])) (sym over) (record {
      all = λ input reported.
          whole_so c t before after given s (part.Cut ∷ []) input reported
          (taken_all c t before after given s (part.Cut ∷ []) end
          (parts-cut t.back s.fed t.kept s.ms s.reached.given none some));
      taken = within_so c t before after given s within;
      end = inl end;
    })

-- no more part
pub parts-ended : (c : Cutting) (before now after : Input) (r t : Reader) (given : List Item) → AreMessages c r before now given
    → Gives now after r t None → HasEnded c before after given
parts-ended c before now after r t given h (advances, within, empty, end) =
    let s = stood c before now after r t given h advances in
    let has : parts t.back s.fed ≡ map part.Message s.ms ++ [] =
    parts-end t.back s.fed t.kept s.ms s.reached.given empty ∙ sym (append-nil (map part.Message s.ms)) in
    record {
      all = λ input reported.
          whole_so c t before after given s [] input reported (taken_all c t before after given s [] end has) ∙ append-nil given;
      taken = within_so c t before after given s within;
      end = inl end;
    }

-- the input could not be read on
pub parts-failed : (c : Cutting) (before now after : Input) (r t : Reader) (given : List Item) (e : LineErr)
    → AreMessages c r before now given → Stops now after r t e → HasFailed c before after given e
parts-failed c before now after r t given errors.Failed h (advances, within, none) =
    let s = stood c before now after r t given h advances in
    record {
      begins = begins_so c t before after given s;
      taken = (s.fed, s.reached.consumed);
      failed = λ which. (
        s.fed,
        s.reached.consumed,
        ap (λ (k : Cutting). k.ended s.fed) s.reached.cut
            ∙ ap messages_as (messages-ended t.back s.fed t.kept s.ms s.reached.given none) ∙ sym s.is,
      );
      within = λ other. within_so c t before after given s within;
      more = λ which. absurd (cc which);
    }
parts-failed c before now after r t given errors.TooMuch h (got, taken, over) =
    let (fed, ms, is, consumed, begun, count) = h.messages in
    let all = Consumes-trans before now after fed got consumed taken in
    record {
      begins = (messages_begun c before now r given h).begins;
      taken = (fed ++ got, all);
      failed = λ which. absurd (cc which);
      within = λ other. absurd (other refl);
      more = λ which. (fed ++ got, all, omega (arith, length-append fed got, count, h.most, over));
    }
parts-failed c before now after r t given errors.NoMemory h (got, taken, few) =
    let (fed, ms, is, consumed, begun, count) = h.messages in
    let all = Consumes-trans before now after fed got consumed taken in
    record {
      begins = (messages_begun c before now r given h).begins;
      taken = (fed ++ got, all);
      failed = λ which. absurd (cc which);
      within = λ other. (fed ++ got, all, omega (arith, length-append fed got, count, h.most, few));
      more = λ which. absurd (cc which);
    }

-- ---- whether or not the last part was given

pub part-next : (c : Cutting) (before now after : Input) (r t : Reader) (given : List Item) (o : Option Part) (p : Part) → o ≡ Some p
    → (r.over ≡ false → Gives now after r t o) → (r.over ≡ true → o ≡ None) → AreParts r.over c r before now given
    → AreParts t.over c t before after (given ++ items.Part p ∷ [])
part-next c before now after r t given o p is gives over = go r.over refl where
  go : (b : Bool) → r.over ≡ b → AreParts b c r before now given → AreParts t.over c t before after (given ++ items.Part p ∷ [])
  go true e h = absurd (cc (is, over e))
  go false e h = part-given c before now after r t given p h (subst (λ (x : Option Part). Gives now after r t x) is (gives e))

pub part-none : (c : Cutting) (before now after : Input) (r t : Reader) (given : List Item) (o : Option Part) → o ≡ None
    → (r.over ≡ false → Gives now after r t o) → (r.over ≡ true → after ≡ now) → AreParts r.over c r before now given
    → HasEnded c before after given
part-none c before now after r t given o is gives over = go r.over refl where
  go : (b : Bool) → r.over ≡ b → AreParts b c r before now given → HasEnded c before after given
  go true e h = subst (λ (x : Input). HasEnded c before x given) (sym (over e)) h
  go false e h = parts-ended c before now after r t given h (subst (λ (x : Option Part). Gives now after r t x) is (gives e))

pub part-stopped : (c : Cutting) (before now after : Input) (r t : Reader) (given : List Item) (e : LineErr)
    → (r.over ≡ false → Stops now after r t e) → (r.over ≡ true → ⊥) → AreParts r.over c r before now given
    → HasFailed c before after given e
part-stopped c before now after r t given e stops over = go r.over refl where
  go : (b : Bool) → r.over ≡ b → AreParts b c r before now given → HasFailed c before after given e
  go true f h = absurd (over f)
  go false f h = parts-failed c before now after r t given e h (stops f)
