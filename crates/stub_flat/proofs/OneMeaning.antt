-- Codes of one flat have one meaning, by induction on the depth of calls.
use Rattle.std.proofs.Common.{◌≡◌, inl, inr, ℕ, zero, suc, List, [], ◌∷◌, map, Option, None, Some, option_map, slice_get, refl, sym, ap, subst, ◌∙◌}
use Rattle.std.specs.List.{AllByRecursion}
use Rattle.std.proofs.lemmas.Option.{slice_get-map}
use Rattle.mint.specs.declared.node.Node.{Node}
use Rattle.mint.specs.Types.{IsTable, type_at}
use Rattle.mint.specs.Typed.{IsWellTyped}
use Rattle.mint.specs.Values.{Val}
use Rattle.wire_def.specs.declared.head.Head.{Head}
use Rattle.cast_stub.specs.declared.send.SendCode.{SendCode}
use Rattle.cast_stub.specs.declared.send.SendOp.{SendOp}
use Rattle.cast_stub.specs.Block.{Block, code_seen}
use Rattle.cast_stub.specs.Meaning.{meaning, wrote}
use Rattle.cast_stub.specs.Parts.{on_some}
use Rattle.cast_stub.specs.Steps.{steps}
use Rattle.cast_stub.specs.Subs.{called, sub_at, deepest}
use Rattle.stub_flat.specs.Flat.{Called, calls, calls_of_known, Spots, spots, list_items, Flats, flat}
use Rattle.stub_flat.specs.Items.{Items, items}
use Rattle.stub_flat.specs.Leaves.{leaves}
use Rattle.stub_flat.specs.Laws.{OneFlatOneMeaning}
use Rattle.stub_flat.specs.Places.{Spot}
use Rattle.stub_flat.specs.Residues.{only, every}
use Rattle.stub_flat.proofs.Blocks.{IsAnswered, block_goes, to_told}
use Rattle.stub_flat.proofs.Ends.{Ends}
use Rattle.stub_flat.proofs.Found.{Agrees, AllAgree, spots_are, listed, unlisted}
use Rattle.stub_flat.proofs.PartsTyped.{IsAt}
use Rattle.stub_flat.proofs.Told.{told, answers}
use Rattle.cast_stub.proofs.Filled.{some_of, mapped_of}

module _ (N : List Node) (table : IsTable N) (h : Head) (subs : List (List SendOp)) (ts : Spots) (is : List Items)
    (made : list_items N (map code_seen subs) ts ≡ Some is) (agree : AllAgree ts (calls_of_known N (map code_seen subs) ts)) where
  -- what calls so many deep append
  abbrev called_ends : ℕ → ℕ → Val → List ℕ → Ends
  called_ends n k w o = on_some (called (sub_at subs) h n k w) (wrote 0 o)

  sub_none : (k : ℕ) → slice_get (map code_seen subs) k ≡ None → sub_at subs k ≡ None
  sub_none k e = sym (slice_get-map code_seen subs k) ∙ e

  sub_some : (k : ℕ) (b : Block) → slice_get (map code_seen subs) k ≡ Some b → sub_at subs k ≡ Some b
  sub_some k b e = sym (slice_get-map code_seen subs k) ∙ e

  each_answered : (n : ℕ)
      → ((k : ℕ) (s : Spot) → Agrees ts (k, s) → (w : Val) → IsAt N s w → (o : List ℕ) → called_ends n k w o ≡ answers h is n k w o)
      → (cs : List Called) → AllAgree ts cs → AllByRecursion (IsAnswered N table h (called (sub_at subs) h n) (answers h is n)) cs
  each_answered n f [] a = tt
  each_answered n f (c ∷ cs) a = ((λ w t o. f c.0 c.1 a.0 w t o), each_answered n f cs a.1)

  -- a code makes of octets what its items tell, where its calls are answered
  code_told : (n : ℕ)
      → ((k : ℕ) (s : Spot) → Agrees ts (k, s) → (w : Val) → IsAt N s w → (o : List ℕ) → called_ends n k w o ≡ answers h is n k w o)
      → (b : Block) (i : Items) (m : ℕ) (w : Val) (o : List ℕ) → items N (Some m) b every ≡ Some i → IsAt N (Some m) w
      → AllAgree ts (calls N (Some m) b)
      → on_some (steps (called (sub_at subs) h n) h b w) (wrote 0 o) ≡ told (answers h is n) h i w o
  code_told n f b i m w o e t a =
      let c = called (sub_at subs) h n in
      let d = answers h is n in
      let T = leaves N (Some m) b every in
      (to_told N table h c d b (Some m) every T i w o e
      (block_goes N table h c d b (Some m) every i w o e t (each_answered n f (calls N (Some m) b) a) refl)).same

  calls_answered : (n k : ℕ) (s : Spot) → Agrees ts (k, s) → (w : Val) → IsAt N s w → (o : List ℕ)
      → called_ends n k w o ≡ answers h is n k w o
  calls_answered zero k s a w t o = refl
  calls_answered (suc n) k s (inl le) w t o =
      let u = unlisted N (map code_seen subs) ts is k made le in
      ap (λ (x : Option Block). on_some (on_some x (λ b. steps (called (sub_at subs) h n) h b w)) (wrote 0 o)) (sub_none k u.0)
      ∙ sym (ap (λ (x : Option Items). on_some x (λ i. told (answers h is n) h i w o)) u.1)
  calls_answered (suc n) k s (inr g) w t o =
      let r = listed N ts (map code_seen subs) ts is k g.0 made g.1.1 agree in
      ap (λ (x : Option Block). on_some (on_some x (λ b. steps (called (sub_at subs) h n) h b w)) (wrote 0 o)) (sub_some k r.code r.there)
      ∙ code_told n (λ j q b u x p. calls_answered n j q b u x p) r.code r.its g.0 w o r.made
      (subst (λ (q : Spot). IsAt N q w) g.1.0 t) r.agree
      ∙ sym (ap (λ (x : Option Items). on_some x (λ i. told (answers h is n) h i w o)) r.found)

  -- all calls of a code are answered
  pub all_answered : (n : ℕ) (cs : List Called) → AllAgree ts cs
      → AllByRecursion (IsAnswered N table h (called (sub_at subs) h n) (answers h is n)) cs
  all_answered n cs a = each_answered n (λ k s b w t o. calls_answered n k s b w t o) cs a

-- what a code appends is told by the parts of its flat
parts_told : (N : List Node) → IsTable N → (id : ℕ) (code : SendCode) (h : Head) (v : Val) → IsWellTyped (type_at N id) v
    → (ts : Spots) (i : Items) (is : List Items) → spots N (Some id) (code_seen code.ops) (map code_seen code.subs) ≡ Some ts
    → items N (Some id) (code_seen code.ops) (only 0) ≡ Some i → list_items N (map code_seen code.subs) ts ≡ Some is
    → meaning code h v 0 ≡ told (answers h is deepest) h i v []
parts_told N table id code h v t ts i is found made all =
    let b = code_seen code.ops in
    let c = called (sub_at code.subs) h deepest in
    let d = answers h is deepest in
    let agree = spots_are N (Some id) b (map code_seen code.subs) ts found in
    let answered = all_answered N table h code.subs ts is all agree.subs deepest (calls N (Some id) b) agree.main in
    (to_told N table h c d b (Some id) (only 0) (leaves N (Some id) b (only 0)) i v [] made
    (block_goes N table h c d b (Some id) (only 0) i v [] made t.is_of answered refl)).same

-- the same, of the flat
flat_told : (N : List Node) → IsTable N → (id : ℕ) (code : SendCode) (f : Flats) (h : Head) (v : Val) → IsWellTyped (type_at N id) v
    → flat N id code ≡ Some f → meaning code h v 0 ≡ told (answers h f.1 deepest) h f.0 v []
flat_told N table id code f h v t e =
    let bs = map code_seen code.subs in
    let b = code_seen code.ops in
    let x = some_of (spots N (Some id) b bs)
    (λ (ts : Spots). on_some (items N (Some id) b (only 0)) (λ i. option_map (λ is. (i, is)) (list_items N bs ts))) f e in
    let y = some_of (items N (Some id) b (only 0)) (λ (i : Items). option_map (λ is. (i, is)) (list_items N bs x.0)) f x.1.1 in
    let z = mapped_of (list_items N bs x.0) (λ (is : List Items). (y.0, is)) f y.1.1 in
    subst (λ (g : Flats). meaning code h v 0 ≡ told (answers h g.1 deepest) h g.0 v []) z.1.1
    (parts_told N table id code h v t x.0 y.0 z.0 x.1.0 y.1.0 z.1.0)

pub one_meaning : OneFlatOneMeaning
one_meaning nodes id a b f h v table head typed e g =
    flat_told nodes table id a f h v typed e ∙ sym (flat_told nodes table id b f h v typed g)
