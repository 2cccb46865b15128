-- A code gets one verdict, and no code gets none.
use Rattle.std.proofs.Common.{◌≡◌, ◌⊎◌, inl, inr, ℕ, Bool, true, false, List, [], map, Option, None, Some, option_map, eqb, refl, sym, ap, ◌∙◌, subst}
use Rattle.std.specs.Prelude.{◌&&◌, is_some}
use Rattle.std.proofs.lemmas.List.Elements.{All-nil}
use Rattle.std.specs.Cmp.Lexicographic.{pointwise, bytes_decides}
use Rattle.kit_base.specs.Lines.{HasNoEnd}
use Rattle.mint.specs.declared.node.Node.{Node}
use Rattle.cast_stub.specs.declared.send.SendCode.{SendCode}
use Rattle.cast_stub.specs.Block.{Block, code_seen}
use Rattle.cast_stub.specs.Parts.{on_some}
use Rattle.stub_print.specs.SendText.{send_text}
use Rattle.stub_print.proofs.SendRead.{send_texts_tell}
use Rattle.stub_flat.specs.Flat.{Flats, Spots, flat, list_items, spots}
use Rattle.stub_flat.specs.Items.{items}
use Rattle.stub_flat.specs.Residues.{every, only}
use Rattle.stub_cover.specs.Covers.{covers, covers_at, list_runs, run}
use Rattle.stub_cover.specs.Rooms.{on, only_room}
use Rattle.stub_compare.specs.CompareFlats.{HaveOneFlat}
use Rattle.stub_compare.specs.CompareText.{flats_text}
use Rattle.stub_compare.proofs.FlatTexts.{flats_same}
use Rattle.stub_check.specs.declared.verdicts.Verdict.{Verdict}
use Rattle.stub_check.specs.declared.verdicts.Verdict.TheVariants.{Yes, Meaning, Cover}
use Rattle.stub_check.specs.Laws.{IsVerdictOnce, IsVerdictSomehow}
use Rattle.stub_check.specs.Verdicts.{IsSame, IsVerdict}

-- ---- by what is seen of a code

-- the flat of operations and codes
abbrev flat_seen : List Node → ℕ → Block → List Block → Option Flats
flat_seen N id b bs = on_some (spots N (Some id) b bs)
    (λ ts. on_some (items N (Some id) b (only 0)) (λ i. option_map (λ is. (i, is)) (list_items N bs ts)))

flat_over : (N : List Node) (id : ℕ) (a b : SendCode) → IsSame a b → flat N id b ≡ flat N id a
flat_over N id a b same =
    ap (λ (x : Block). flat_seen N id x (map code_seen b.subs)) same.0
    ∙ ap (λ (xs : List Block). flat_seen N id (code_seen a.ops) xs) same.1

covers_seen : (N : List Node) (id : ℕ) (a b : SendCode) (o : Option Spots) → IsSame a b → covers_at N id b o ≡ covers_at N id a o
covers_seen N id a b None same = refl
covers_seen N id a b (Some ts) same =
    ap (λ (x : Block). is_some (run N (Some id) x None (only_room 0 0)) && list_runs N (map code_seen b.subs) ts) same.0
    ∙ ap (λ (xs : List Block). is_some (run N (Some id) (code_seen a.ops) None (only_room 0 0)) && list_runs N xs ts) same.1

covers_over : (N : List Node) (id : ℕ) (a b : SendCode) → IsSame a b → covers N id b ≡ covers N id a
covers_over N id a b same =
    ap (λ (x : Block). covers_at N id b (spots N (Some id) x (map code_seen b.subs))) same.0
    ∙ ap (λ (xs : List Block). covers_at N id b (spots N (Some id) (code_seen a.ops) xs)) same.1
    ∙ covers_seen N id a b (spots N (Some id) (code_seen a.ops) (map code_seen a.subs)) same

same_back : (a b : SendCode) → IsSame a b → IsSame b a
same_back a b same = (sym same.0, sym same.1)

same_on : (a b c : SendCode) → IsSame a b → IsSame b c → IsSame a c
same_on a b c first second = (second.0 ∙ first.0, second.1 ∙ first.1)

one_flat : (N : List Node) (id : ℕ) (kept a b : SendCode) → IsSame a b → HaveOneFlat N id kept a → HaveOneFlat N id kept b
one_flat N id kept a b same (f, theirs, ours) = (f, flat_over N id a b same ∙ theirs, ours)

-- ---- one verdict

pub verdict_over : (N : List Node) (id : ℕ) (kept a b : SendCode) (v : Verdict) → IsSame a b → IsVerdict N id kept a v
    → IsVerdict N id kept b v
verdict_over N id kept a b Yes same (inl is) = inl (same_on kept a b is same)
verdict_over N id kept a b Yes same (inr (flat, covered)) = inr (one_flat N id kept a b same flat, covers_over N id a b same ∙ covered)
verdict_over N id kept a b Meaning same (other, none) = (
  λ is. other (same_on kept b a is (same_back a b same)),
  λ h. none (one_flat N id kept b a (same_back a b same) h),
)
verdict_over N id kept a b Cover same (other, flat, lacks) = (
  λ is. other (same_on kept b a is (same_back a b same)),
  one_flat N id kept a b same flat,
  covers_over N id a b same ∙ lacks,
)

one_verdict : (N : List Node) (id : ℕ) (kept code : SendCode) (v w : Verdict) → IsVerdict N id kept code v
    → IsVerdict N id kept code w → v ≡ w
one_verdict N id kept code Yes Yes p q = refl
one_verdict N id kept code Yes Meaning (inl is) q = absurd (q.0 is)
one_verdict N id kept code Yes Meaning (inr p) q = absurd (q.1 p.0)
one_verdict N id kept code Yes Cover (inl is) q = absurd (q.0 is)
one_verdict N id kept code Yes Cover (inr p) (other, flat, lacks) = absurd (cc (p.1, lacks))
one_verdict N id kept code Meaning Yes p (inl is) = absurd (p.0 is)
one_verdict N id kept code Meaning Yes p (inr q) = absurd (p.1 q.0)
one_verdict N id kept code Meaning Meaning p q = refl
one_verdict N id kept code Meaning Cover p (other, flat, lacks) = absurd (p.1 flat)
one_verdict N id kept code Cover Yes p (inl is) = absurd (p.0 is)
one_verdict N id kept code Cover Yes (other, flat, lacks) (inr q) = absurd (cc (q.1, lacks))
one_verdict N id kept code Cover Meaning (other, flat, lacks) q = absurd (q.1 flat)
one_verdict N id kept code Cover Cover p q = refl

pub verdict_once : IsVerdictOnce
verdict_once N id kept code other v w same p q = one_verdict N id kept other v w (verdict_over N id kept code other v same p) q

-- ---- some verdict

-- lists of numbers are the same, or they are not
lists_decided : (a b : List ℕ) → (a ≡ b) ⊎ (a ≡ b → ⊥)
lists_decided a b = go (pointwise eqb a b) refl where
  go : (r : Bool) → pointwise eqb a b ≡ r → (a ≡ b) ⊎ (a ≡ b → ⊥)
  go true e = inl ((bytes_decides a b).0 e)
  go false e = inr (λ is. absurd (cc ((bytes_decides a b).1 is, e)))

-- the text of a code without a name
abbrev bare_text : SendCode → List ℕ
bare_text code = send_text [] (code_seen code.ops) (map code_seen code.subs)

text_over : (a b : SendCode) → IsSame a b → bare_text b ≡ bare_text a
text_over a b same =
    ap (λ (x : Block). send_text [] x (map code_seen b.subs)) same.0
    ∙ ap (λ (xs : List Block). send_text [] (code_seen a.ops) xs) same.1

unnamed : HasNoEnd []
unnamed = All-nil (λ x. x ≡ 10 → ⊥)

same_text : (a b : SendCode) → bare_text a ≡ bare_text b → IsSame a b
same_text a b e =
    let tells = send_texts_tell [] [] (code_seen a.ops) (code_seen b.ops) (map code_seen a.subs) (map code_seen b.subs) unnamed unnamed e in
    (sym tells.1, sym tells.2)

same_decided : (a b : SendCode) → IsSame a b ⊎ (IsSame a b → ⊥)
same_decided a b = go (lists_decided (bare_text a) (bare_text b)) where
  go : (bare_text a ≡ bare_text b) ⊎ (bare_text a ≡ bare_text b → ⊥) → IsSame a b ⊎ (IsSame a b → ⊥)
  go (inl is) = inl (same_text a b is)
  go (inr other) = inr (λ same. other (sym (text_over a b same)))

-- two flats that are there are one, or they are not
flats_decided : (f g : Flats) → (f ≡ g) ⊎ (f ≡ g → ⊥)
flats_decided f g = go (lists_decided (flats_text f []) (flats_text g [])) where
  go : (flats_text f [] ≡ flats_text g []) ⊎ (flats_text f [] ≡ flats_text g [] → ⊥) → (f ≡ g) ⊎ (f ≡ g → ⊥)
  go (inl is) = inl (flats_same f g is)
  go (inr other) = inr (λ is. other (ap (λ (x : Flats). flats_text x []) is))

same_flat : (f g : Flats) → Some f ≡ Some g → f ≡ g
same_flat f g e = cc e

flat_decided : (N : List Node) (id : ℕ) (kept code : SendCode) → HaveOneFlat N id kept code ⊎ (HaveOneFlat N id kept code → ⊥)
flat_decided N id kept code = go (flat N id code) (flat N id kept) refl refl where
  by_flats : (f g : Flats) → flat N id code ≡ Some f → flat N id kept ≡ Some g → (f ≡ g) ⊎ (f ≡ g → ⊥)
      → HaveOneFlat N id kept code ⊎ (HaveOneFlat N id kept code → ⊥)
  by_flats f g theirs ours (inl is) = inl (g, theirs ∙ ap Some is, ours)
  by_flats f g theirs ours (inr other) = inr (λ h. other (same_flat f h.0 (sym theirs ∙ h.1) ∙ same_flat h.0 g (sym h.2 ∙ ours)))

  go : (x y : Option Flats) → flat N id code ≡ x → flat N id kept ≡ y → HaveOneFlat N id kept code ⊎ (HaveOneFlat N id kept code → ⊥)
  go None y theirs ours = inr (λ h. absurd (cc (theirs, h.1)))
  go (Some f) None theirs ours = inr (λ h. absurd (cc (ours, h.2)))
  go (Some f) (Some g) theirs ours = by_flats f g theirs ours (flats_decided f g)

by_cover : (N : List Node) (id : ℕ) (kept code : SendCode) (b : Bool) → covers N id code ≡ b → (IsSame kept code → ⊥)
    → HaveOneFlat N id kept code → (v : Verdict) × IsVerdict N id kept code v
by_cover N id kept code true is other flat = (Yes, inr (flat, is))
by_cover N id kept code false is other flat = (Cover, (other, flat, is))

by_flat : (N : List Node) (id : ℕ) (kept code : SendCode) → (IsSame kept code → ⊥)
    → HaveOneFlat N id kept code ⊎ (HaveOneFlat N id kept code → ⊥) → (v : Verdict) × IsVerdict N id kept code v
by_flat N id kept code other (inl flat) = by_cover N id kept code (covers N id code) refl other flat
by_flat N id kept code other (inr none) = (Meaning, (other, none))

by_same : (N : List Node) (id : ℕ) (kept code : SendCode) → IsSame kept code ⊎ (IsSame kept code → ⊥)
    → (v : Verdict) × IsVerdict N id kept code v
by_same N id kept code (inl same) = (Yes, inl same)
by_same N id kept code (inr other) = by_flat N id kept code other (flat_decided N id kept code)

pub verdict_somehow : IsVerdictSomehow
verdict_somehow N id kept code = by_same N id kept code (same_decided kept code)
