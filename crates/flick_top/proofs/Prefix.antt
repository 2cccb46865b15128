-- Whatever ends a run, a prefix of the defined output was written.
use Rattle.std.proofs.Common.{◌≡◌, ℕ, List, [], ◌∷◌, ◌++◌, sym, ◌∙◌, ap, append_assoc, length, take, refl, subst}
use Rattle.std.specs.Prelude.{Option, Some}
use Rattle.std.specs.Io.KnownBytes.{Appends, Consumes}
use Rattle.std.proofs.KnownBytes.{Appends-trans}
use Rattle.std.proofs.lemmas.Grind.{flat_map-append}
use Rattle.std.proofs.lemmas.List.{take_at}
use Rattle.kit_base.specs.declared.lines.LineErr.{LineErr}
use Rattle.kit_base.specs.declared.lines.LineErr.TheVariants.{Failed}
use Rattle.flick_top.specs.declared.items.Item.{Item}
use Rattle.flick_top.specs.Answer.{Answering, answers}
use Rattle.flick_top.specs.Giving.{BeginsWith, HasFailed}
use Rattle.flick_top.specs.Items.{Cutting}
use Rattle.flick_top.specs.Outside.{Input}
use Rattle.flick_top.proofs.Turning.{answers-push}

-- a prefix of these octets was appended
abbrev pub WrotePrefix : Option (List ℕ) → Option (List ℕ) → List ℕ → Type 0
WrotePrefix held held' octets = (front : List ℕ) × (rest : List ℕ) × (octets ≡ front ++ rest) × Appends held held' front

-- the answers to the first items are a prefix of the answers to all
pub front-answers : (c : Cutting) (before : Input) (given : List Item) (f : Answering) (held held' : Option (List ℕ)) (input : List ℕ)
    → BeginsWith c before given → before ≡ Some input → Appends held held' (answers f given)
    → WrotePrefix held held' (answers f (c.whole input))
front-answers c before given f held held' input begins reported wrote =
    let (rest, split) = begins input reported in (
      answers f given,
      answers f rest,
      ap (answers f) split ∙ flat_map-append (λ (i : Item). (f i).octets) given rest,
      wrote,
    )

-- they are so many of the first
pub first-items : (c : Cutting) (before : Input) (given : List Item) (input : List ℕ) → BeginsWith c before given → before ≡ Some input
    → take (length given) (c.whole input) ≡ given
first-items c before given input begins reported =
    let (rest, split) = begins input reported in
    ap (λ (l : List Item). take (length given) l) split ∙ take_at given rest (length given) refl

-- a write that failed wrote a prefix of its answer
pub front-failed : (c : Cutting) (before : Input) (given : List Item) (item : Item) (f : Answering) (held held' held'' : Option (List ℕ))
    (octets input : List ℕ) → octets ≡ (f item).octets → BeginsWith c before (given ++ item ∷ []) → before ≡ Some input
    → Appends held held' (answers f given) → WrotePrefix held' held'' octets → WrotePrefix held held'' (answers f (c.whole input))
front-failed c before given item f held held' held'' octets input same begins reported wrote (front, rest, e, last) =
    let (behind, split) = begins input reported in
    let all : answers f (c.whole input) ≡ answers f (given ++ item ∷ []) ++ answers f behind =
    ap (answers f) split ∙ flat_map-append (λ (i : Item). (f i).octets) (given ++ item ∷ []) behind in
    let here : answers f (given ++ item ∷ []) ≡ (answers f given ++ front) ++ rest =
    answers-push f given item ∙ ap (λ (l : List ℕ). answers f given ++ l) (sym same ∙ e)
    ∙ sym (append_assoc (answers f given) front rest) in (
      answers f given ++ front,
      rest ++ answers f behind,
      all ∙ ap (λ (l : List ℕ). l ++ answers f behind) here ∙ append_assoc (answers f given ++ front) rest (answers f behind),
      Appends-trans held held' held'' (answers f given) front wrote last,
    )

-- where the source failed, they are the answers to the items that ended in what was taken
pub wrote-ended : (c : Cutting) (before after : Input) (given : List Item) (e : LineErr) (f : Answering) (held held' : Option (List ℕ))
    → HasFailed c before after given e → e ≡ Failed → Appends held held' (answers f given)
    → (taken : List ℕ) × Consumes before after taken × Appends held held' (answers f (c.ended taken))
wrote-ended c before after given e f held held' h is wrote =
    let (taken, consumed, same) = h.failed is in
    (taken, consumed, subst (λ (l : List Item). Appends held held' (answers f l)) (sym same) wrote)
