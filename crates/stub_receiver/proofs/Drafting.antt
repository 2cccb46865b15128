-- Drafts by their variants, and parts that are exchanged, by induction on the list of parts.
use Rattle.std.proofs.Common.{◌≡◌, ℕ, ℤ, zero, suc, ◌+◌, ◌<◌, ◌≤◌, List, [], ◌∷◌, ◌++◌, length, drop, get_or, Option, None, Some, option_map, slice_get, Vec, Global, refl, sym, ap, subst, ◌∙◌, add-one, arith}
use Rattle.std.specs.Prelude.{slice_set}
use Rattle.std.proofs.Math.Seq.{drop-cons}
use Rattle.mint.specs.declared.node.Node.{Node}
use Rattle.mint.specs.declared.value.Value.{Value}
use Rattle.mint.specs.Types.{Ty, void_type, at, unfolded, type_at, fields_at}
use Rattle.mint.specs.Values.{seen}
use Rattle.mint.proofs.Measuring.{length-unfolded}
use Rattle.std.proofs.lemmas.List.{drop_all}
use Rattle.cast_stub.specs.Parts.{IsThere, on_some}
use Rattle.cast_stub.specs.Draft.{Draft, raw, digit, listed, lined, tagged, flagged, done, fields, Drafts, no_draft, draft, fresh, all_fresh}
use Rattle.cast_stub.specs.Fill.{field_at}
use Rattle.stub_receiver.specs.declared.draft.Filling.{Filling}
use Rattle.stub_receiver.specs.declared.draft.Filling.TheVariants as filling
use Rattle.stub_receiver.specs.declared.draft.Filling.TheOpen.{Filling-F}
use Rattle.stub_receiver.specs.declared.draft.Filling.TheFolds.{fold-roll-Filling}
use Rattle.stub_receiver.specs.Drawn.{array_at, drawn_level, drawn, all_drawn}
use Rattle.cast_stub.specs.PutPart.{put_part, put_field}

pub drawn-Raw : (ns : List Node) (id : ℕ) → drawn ns (filling.Raw id) ≡ raw (type_at ns id)
unfolding drawn
drawn-Raw ns id = ap (drawn ns) (sym (filling.rolls-Raw id)) ∙ fold-roll-Filling Draft (drawn_level ns) (Filling-F.Raw id)

pub drawn-Digit : (ns : List Node) (id : ℕ) → drawn ns (filling.Digit id) ≡ digit (array_at ns id)
unfolding drawn
drawn-Digit ns id = ap (drawn ns) (sym (filling.rolls-Digit id)) ∙ fold-roll-Filling Draft (drawn_level ns) (Filling-F.Digit id)

pub drawn-Listed : (ns : List Node) (id n : ℕ) → drawn ns (filling.Listed id n) ≡ listed (type_at ns id) n
unfolding drawn
drawn-Listed ns id n = ap (drawn ns) (sym (filling.rolls-Listed id n)) ∙ fold-roll-Filling Draft (drawn_level ns) (Filling-F.Listed id n)

pub drawn-Lined : (ns : List Node) (id n : ℕ) → drawn ns (filling.Lined id n) ≡ lined (array_at ns id) n
unfolding drawn
drawn-Lined ns id n = ap (drawn ns) (sym (filling.rolls-Lined id n)) ∙ fold-roll-Filling Draft (drawn_level ns) (Filling-F.Lined id n)

pub drawn-Tagged : (ns : List Node) (n : ℤ) (id : ℕ) → drawn ns (filling.Tagged n id) ≡ tagged n (type_at ns id)
unfolding drawn
drawn-Tagged ns n id = ap (drawn ns) (sym (filling.rolls-Tagged n id)) ∙ fold-roll-Filling Draft (drawn_level ns) (Filling-F.Tagged n id)

pub drawn-Flagged : (ns : List Node) (id : ℕ) → drawn ns (filling.Flagged id) ≡ flagged (type_at ns id)
unfolding drawn
drawn-Flagged ns id = ap (drawn ns) (sym (filling.rolls-Flagged id)) ∙ fold-roll-Filling Draft (drawn_level ns) (Filling-F.Flagged id)

pub drawn-Done : (ns : List Node) (v : Value) → drawn ns (filling.Done v) ≡ done (seen v)
unfolding drawn
drawn-Done ns v = ap (drawn ns) (sym (filling.rolls-Done v)) ∙ fold-roll-Filling Draft (drawn_level ns) (Filling-F.Done v)

pub drawn-Fields : (ns : List Node) (ds : Vec Filling Global) → drawn ns (filling.Fields ds) ≡ fields (all_drawn ns ds.items)
unfolding drawn
drawn-Fields ns ds = ap (drawn ns) (sym (filling.rolls-Fields ds)) ∙ fold-roll-Filling Draft (drawn_level ns) (Filling-F.Fields ds)

-- ---- a node that is not there

beyond : (ts : List Ty) (i : ℕ) → length ts ≤ i → at ts i ≡ void_type
beyond [] i h = refl
beyond (t ∷ ts) zero h = absurd (omega (arith, h))
beyond (t ∷ ts) (suc i) h = beyond ts i (omega (arith, h))

none_past : (nodes : List Node) (i : ℕ) → slice_get nodes i ≡ None → length nodes ≤ i
none_past [] i h = omega arith
none_past (n ∷ nodes) zero h = absurd cc
none_past (n ∷ nodes) (suc i) h = let k = none_past nodes i h in omega (arith, k)

pub no_node : (nodes : List Node) (i : ℕ) → slice_get nodes i ≡ None → type_at nodes i ≡ void_type
no_node nodes i h = beyond (unfolded nodes) i (omega (arith, none_past nodes i h, length-unfolded nodes))

pub path-drop : (p : List ℕ) (i : ℕ) → i < length p → drop i p ≡ get_or p i 0 ∷ drop (i + 1) p
path-drop p i h = rw (add-one, drop-cons p i 0) refl

-- ---- drafts of fields

abbrev pub drafts_joined : Drafts → Drafts → Drafts
drafts_joined no_draft b = b
drafts_joined (draft d a) b = draft d (drafts_joined a b)

drafts_more : (ns : List Node) (ds : List Filling) (d : Filling) (b : Drafts)
    → drafts_joined (all_drawn ns (ds ++ d ∷ [])) b ≡ drafts_joined (all_drawn ns ds) (draft (drawn ns d) b)
drafts_more ns [] d b = refl
drafts_more ns (x ∷ ds) d b = ap (draft (drawn ns x)) (drafts_more ns ds d b)

drafts_alone : (a : Drafts) → drafts_joined a no_draft ≡ a
drafts_alone no_draft = refl
drafts_alone (draft d a) = ap (draft d) (drafts_alone a)

-- one field more
pub fresh_turn : (ns : List Node) (ids : List ℕ) (i id : ℕ) (ds new : List Filling) (d : Filling) (all : Drafts)
    → i < length ids → id ≡ get_or ids i 0 → drawn ns d ≡ fresh (type_at ns id) → new ≡ ds ++ d ∷ []
    → drafts_joined (all_drawn ns ds) (all_fresh (fields_at (unfolded ns) (drop i ids))) ≡ all
    → drafts_joined (all_drawn ns new) (all_fresh (fields_at (unfolded ns) (drop (i + 1) ids))) ≡ all
fresh_turn ns ids i id ds new d all lt same made is so_far =
    let rest : Drafts = all_fresh (fields_at (unfolded ns) (drop (i + 1) ids)) in
    let split : drop i ids ≡ id ∷ drop (i + 1) ids = path-drop ids i lt ∙ ap (λ (k : ℕ). k ∷ drop (i + 1) ids) (sym same) in
    ap (λ (l : List Filling). drafts_joined (all_drawn ns l) rest) is ∙ drafts_more ns ds d rest
    ∙ ap (λ (x : Draft). drafts_joined (all_drawn ns ds) (draft x rest)) made
    ∙ ap (λ (l : List ℕ). drafts_joined (all_drawn ns ds) (all_fresh (fields_at (unfolded ns) l))) (sym split) ∙ so_far

pub fresh_end : (ns : List Node) (ids items : List ℕ) (i : ℕ) (ds : List Filling) → items ≡ ids → length items ≤ i
    → drafts_joined (all_drawn ns ds) (all_fresh (fields_at (unfolded ns) (drop i items))) ≡ all_fresh (fields_at (unfolded ns) items)
    → all_drawn ns ds ≡ all_fresh (fields_at (unfolded ns) ids)
fresh_end ns ids items i ds same past is =
    sym (drafts_alone (all_drawn ns ds))
    ∙ ap (λ (l : List ℕ). drafts_joined (all_drawn ns ds) (all_fresh (fields_at (unfolded ns) l))) (sym (drop_all i items past)) ∙ is
    ∙ ap (λ (l : List ℕ). all_fresh (fields_at (unfolded ns) l)) same

-- ---- parts

pub field_there : (ns : List Node) (n : ℕ) (f : Draft → Option Draft) (ds : List Filling)
    → IsThere (on_some (field_at n (all_drawn ns ds)) f)
    → n < length ds
field_there ns n f [] h = absurd h
field_there ns zero f (d ∷ ds) h = omega arith
field_there ns (suc n) f (d ∷ ds) h = let k = field_there ns n f ds h in omega (arith, k)

pub field_is : (ns : List Node) (n : ℕ) (ds : List Filling) (d : Filling) → slice_get ds n ≡ Some d
    → field_at n (all_drawn ns ds) ≡ Some (drawn ns d)
field_is ns n [] d e = absurd cc
field_is ns zero (x ∷ ds) d e = let s : x ≡ d = cc in ap (λ (y : Filling). Some (drawn ns y)) s
field_is ns (suc n) (x ∷ ds) d e = field_is ns n ds d e

pub part_here : (ns : List Node) (n : ℕ) (f : Draft → Option Draft) (ds : List Filling) (d : Filling) → slice_get ds n ≡ Some d
    → IsThere (on_some (field_at n (all_drawn ns ds)) f)
    → IsThere (f (drawn ns d))
part_here ns n f ds d e h = subst (λ (o : Option Draft). IsThere (on_some o f)) (field_is ns n ds d e) h

-- a part is exchanged in a field
pub put_is : (ns : List Node) (n : ℕ) (p : List ℕ) (y : Draft) (ds : List Filling) (d d' : Filling)
    → slice_get ds n ≡ Some d → put_part p y (drawn ns d) ≡ Some (drawn ns d')
    → put_field n p y (all_drawn ns ds) ≡ Some (all_drawn ns (slice_set ds n d'))
put_is ns n p y [] d d' e h = absurd cc
put_is ns zero p y (x ∷ ds) d d' e h =
    let s : x ≡ d = cc in
    ap (option_map (λ z. draft z (all_drawn ns ds))) (ap (λ (z : Filling). put_part p y (drawn ns z)) s ∙ h)
put_is ns (suc n) p y (x ∷ ds) d d' e h = ap (option_map (λ z. draft (drawn ns x) z)) (put_is ns n p y ds d d' e h)

pub got_field : (ds : List Filling) (n : ℕ) (d e : Filling) → n < length ds → d ≡ get_or ds n e → slice_get ds n ≡ Some d
got_field [] n d e lt is = absurd (omega (arith, lt))
got_field (x ∷ ds) zero d e lt is = ap (λ (y : Filling). Some y) (sym is)
got_field (x ∷ ds) (suc n) d e lt is = got_field ds n d e (omega (arith, lt)) is

pub ruleset drafting = (drawn-Raw, drawn-Fields, no_node)

pub ruleset drawing = (drawn-Raw, drawn-Digit, drawn-Listed, drawn-Lined, drawn-Tagged, drawn-Flagged, drawn-Done, drawn-Fields)

pub ruleset exchanging = (drawing, path-drop, field_there, field_is)
