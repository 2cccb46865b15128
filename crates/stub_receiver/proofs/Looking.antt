-- Parts of drafts that are looked at.
use Rattle.std.proofs.Common.{◌≡◌, ℕ, zero, suc, ◌+◌, ◌<◌, List, [], ◌∷◌, length, drop, get_or, Some, option_map, slice_get, refl, sym, ap, ◌∙◌, add-one}
use Rattle.std.proofs.Math.Seq.{drop-cons}
use Rattle.mint.specs.declared.node.Node.{Node}
use Rattle.mint.specs.declared.value.Value.{Value}
use Rattle.mint.specs.declared.value.Value.TheOpen.{Value-F}
use Rattle.mint.specs.declared.value.Value.TheVariants as value
use Rattle.mint.specs.declared.value.Value.TheFolds.{fold-roll-Value}
use Rattle.mint.specs.Values.{Val, seen, seen_level}
use Rattle.mint.proofs.Fitting.{count-all_seen}
use Rattle.cast_stub.specs.Parts.{on_some}
use Rattle.cast_stub.specs.Draft.{Draft, done, length_in}
use Rattle.cast_stub.specs.Fill.{in_draft, field_at, part}
use Rattle.stub_receiver.specs.declared.draft.Filling.{Filling}
use Rattle.stub_receiver.specs.Drawn.{drawn, all_drawn}
use Rattle.stub_receiver.proofs.Drafting.{no_node, drawing}

pub field-get : (ns : List Node) (n : ℕ) (ds : List Filling) → field_at n (all_drawn ns ds) ≡ option_map (drawn ns) (slice_get ds n)
field-get ns n [] = refl
field-get ns zero (d ∷ ds) = refl
field-get ns (suc n) (d ∷ ds) = field-get ns n ds

pub ruleset fields = (field-get)

pub part-drop : (p : List ℕ) (i : ℕ) (d : Draft) → i < length p
    → part (drop i p) d ≡ on_some (in_draft (get_or p i 0) d) (part (drop (i + 1) p))
part-drop p i d h = rw (add-one, drop-cons p i 0) refl

pub ruleset parts = (part-drop)

pub items-long : (vs : List Value) → length_in (done (seen (value.Items vs))) ≡ Some (length vs)
items-long vs = ap (λ (v : Val). length_in (done v))
    (ap seen (sym (value.rolls-Items vs)) ∙ fold-roll-Value Val seen_level (Value-F.Items vs)) ∙ ap Some (count-all_seen vs)

pub ruleset lengths = (drawing, no_node, items-long)
