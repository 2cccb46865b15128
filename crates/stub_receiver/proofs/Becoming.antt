-- Drafts that have become values.
use Rattle.std.proofs.Common.{◌≡◌, ℕ, zero, suc, ◌+◌, ◌≤◌, List, [], ◌∷◌, ◌++◌, length, drop, Option, None, Some, option_map, slice_get, Vec, Global, refl, sym, ap, subst, ◌∙◌, arith}
use Rattle.std.specs.Prelude.{slice_set}
use Rattle.std.proofs.Math.Seq.{drop-drop}
use Rattle.std.proofs.lemmas.List.{drop_all}
use Rattle.mint.specs.declared.node.Node.{Node}
use Rattle.mint.specs.declared.value.Value.{Value}
use Rattle.mint.specs.declared.value.Value.TheOpen.{Value-F}
use Rattle.mint.specs.declared.value.Value.TheVariants as value
use Rattle.mint.specs.declared.value.Value.TheFolds.{fold-roll-Value}
use Rattle.stub_receiver.specs.declared.draft.Filling.TheVariants as filling
use Rattle.mint.specs.Values.{Val, group, Vals, no_more, val, seen, seen_level, all_seen}
use Rattle.mint.proofs.Seen.{seen-Void, joined, joined-no_more, joined_one, all_seen-push}
use Rattle.cast_stub.specs.Parts.{IsThere, on_some}
use Rattle.cast_stub.specs.Draft.{Draft, Drafts, no_draft, draft, settle, settles}
use Rattle.cast_stub.specs.Draft as drafts
use Rattle.stub_receiver.specs.declared.draft.Filling.{Filling}
use Rattle.stub_receiver.specs.Drawn.{drawn, all_drawn}
use Rattle.stub_receiver.proofs.Drafting.{drawn-Fields, no_node, drawing}

there_mapped : {A B : Type 0} (z : Option A) (f : A → B) → IsThere (option_map f z) → IsThere z
there_mapped None f h = h
there_mapped (Some a) f h = tt

pub fields_there : (ds : Drafts) → IsThere (option_map group (settles ds)) → IsThere (settles ds)
fields_there ds h = there_mapped (settles ds) group h

pub ruleset settling = (drawing, no_node, seen-Void, fields_there)

-- ---- how many structs are nested

abbrev mutual
  pub draft_size : Draft → ℕ
  draft_size (drafts.fields ds) = suc (drafts_size ds)
  draft_size _ = 0

  pub drafts_size : Drafts → ℕ
  drafts_size no_draft = 0
  drafts_size (draft d ds) = draft_size d + drafts_size ds

field_size : (ns : List Node) (ds : List Filling) (i : ℕ) (d : Filling) → slice_get ds i ≡ Some d
    → draft_size (drawn ns d) ≤ drafts_size (all_drawn ns ds)
field_size ns [] i d e = absurd cc
field_size ns (x ∷ ds) zero d e = let s : x ≡ d = cc in omega (arith, ap (λ (y : Filling). draft_size (drawn ns y)) s)
field_size ns (x ∷ ds) (suc i) d e = omega (arith, field_size ns ds i d e)

pub fields_size : (ns : List Node) (d : Filling) (ds : Vec Filling Global) → d ≡ filling.Fields ds
    → draft_size (drawn ns d) ≡ suc (drafts_size (all_drawn ns ds.items))
fields_size ns d ds is = ap (λ (x : Filling). draft_size (drawn ns x)) is ∙ ap draft_size (drawn-Fields ns ds)

-- ---- one field more

-- values before those of drafts
abbrev pub with_prefix : Vals → Option Vals → Option Vals
with_prefix front o = option_map (joined front) o

-- the whole is the values so far and those of what is left, which is as it was
pub record Settled (ns : List Node) (fields rest : List Filling) (values : List Value) (i : ℕ) : Type 0 where
  pub whole : settles (all_drawn ns fields) ≡ with_prefix (all_seen values) (settles (all_drawn ns (drop i rest)))
  pub many : length rest ≡ length fields
  -- the fields that are left are where they were
  pub left : drop i rest ≡ drop i fields

dropped_set : (ds : List Filling) (i : ℕ) (x : Filling) → drop (i + 1) (slice_set ds i x) ≡ drop (i + 1) ds
dropped_set [] i x = refl
dropped_set (d ∷ ds) zero x = refl
dropped_set (d ∷ ds) (suc i) x =
    let e : suc i + 1 ≡ suc (i + 1) = omega arith in
    ap (λ (n : ℕ). drop n (slice_set (d ∷ ds) (suc i) x)) e ∙ dropped_set ds i x ∙ sym (ap (λ (n : ℕ). drop n (d ∷ ds)) e)

first_got : (ds : List Filling) (i : ℕ) (d : Filling) → slice_get ds i ≡ Some d → drop i ds ≡ d ∷ drop (i + 1) ds
first_got [] i d h = absurd cc
first_got (x ∷ ds) zero d h = let s : x ≡ d = cc in ap (λ (y : Filling). y ∷ ds) s
first_got (x ∷ ds) (suc i) d h =
    let e : suc i + 1 ≡ suc (i + 1) = omega arith in
    first_got ds i d h ∙ sym (ap (λ (n : ℕ). d ∷ drop n (x ∷ ds)) e)

same_none : (front : Vals) (o : Option Val) (q : Option Vals) → o ≡ None
    → with_prefix front (on_some o (λ v. on_some q (λ vs. Some (val v vs)))) ≡ None
same_none front None q h = refl
same_none front (Some v) q h = absurd cc

some_joined : (front : Vals) (v : Val) (q : Option Vals)
    → with_prefix front (on_some q (λ vs. Some (val v vs))) ≡ with_prefix (joined front (val v no_more)) q
some_joined front v None = refl
some_joined front v (Some vs) = ap (λ (x : Vals). Some x) (sym (joined_one front v vs))

length-set : (ds : List Filling) (i : ℕ) (x : Filling) → length (slice_set ds i x) ≡ length ds
length-set [] i x = refl
length-set (d ∷ ds) zero x = refl
length-set (d ∷ ds) (suc i) x = ap suc (length-set ds i x)

pub settle_fits : (ns : List Node) (fields rest : List Filling) (values : List Value) (i : ℕ) (d : Filling)
    → Settled ns fields rest values i → slice_get rest i ≡ Some d → IsThere (settles (all_drawn ns fields))
    → IsThere (settle (drawn ns d))
settle_fits ns fields rest values i d h got there = checked (settle (drawn ns d)) refl where
  checked : (o : Option Val) → settle (drawn ns d) ≡ o → IsThere (settle (drawn ns d))
  checked (Some v) e = subst IsThere (sym e) tt
  checked None e =
      let split : drop i rest ≡ d ∷ drop (i + 1) rest = first_got rest i d got in
      let none : settles (all_drawn ns fields) ≡ None = h.whole
      ∙ ap (λ (l : List Filling). with_prefix (all_seen values) (settles (all_drawn ns l))) split
      ∙ same_none (all_seen values) (settle (drawn ns d)) (settles (all_drawn ns (drop (i + 1) rest))) e in
      absurd (subst IsThere none there)

one_off : (ds : List Filling) (i : ℕ) → drop 1 (drop i ds) ≡ drop (1 + i) ds
one_off ds i =
    let next : i + 1 ≡ 1 + i = omega arith in
    drop-drop 1 i ds ∙ ap (λ (k : ℕ). drop k ds) next

pub settle_turn : (ns : List Node) (fields rest rest' : List Filling) (values values' : List Value) (i : ℕ) (d hole : Filling) (v : Value)
    → Settled ns fields rest values i → slice_get rest i ≡ Some d → rest' ≡ slice_set rest i hole
    → settle (drawn ns d) ≡ Some (seen v) → values' ≡ values ++ v ∷ []
    → Settled ns fields rest' values' (i + 1)
settle_turn ns fields rest rest' values values' i d hole v h got made is more = record {
  whole =
      let split : drop i rest ≡ d ∷ drop (i + 1) rest = first_got rest i d got in
      let same : drop (i + 1) rest' ≡ drop (i + 1) rest = ap (drop (i + 1)) made ∙ dropped_set rest i hole in
      let next : all_seen values' ≡ joined (all_seen values) (val (seen v) no_more) = ap all_seen more ∙ all_seen-push values v in
      h.whole ∙ ap (λ (l : List Filling). with_prefix (all_seen values) (settles (all_drawn ns l))) split
      ∙ ap (λ (o : Option Val). with_prefix (all_seen values)
      (on_some o (λ w. on_some (settles (all_drawn ns (drop (i + 1) rest))) (λ vs. Some (val w vs))))) is
      ∙ some_joined (all_seen values) (seen v) (settles (all_drawn ns (drop (i + 1) rest)))
      ∙ ap (λ (x : Vals). with_prefix x (settles (all_drawn ns (drop (i + 1) rest)))) (sym next)
      ∙ ap (λ (l : List Filling). with_prefix (all_seen values') (settles (all_drawn ns l))) (sym same);
  many = ap length made ∙ length-set rest i hole ∙ h.many;
  left =
      let next : i + 1 ≡ 1 + i = omega arith in
      ap (drop (i + 1)) made ∙ dropped_set rest i hole ∙ ap (λ (k : ℕ). drop k rest) next ∙ sym (one_off rest i) ∙ ap (drop 1) h.left
      ∙ one_off fields i ∙ ap (λ (k : ℕ). drop k fields) (sym next);
}

drop-none : (none : List Filling) (i : ℕ) → none ≡ [] → drop i none ≡ []
drop-none none zero e = e
drop-none none (suc i) e = ap (drop (suc i)) e

pub settle_less : (ns : List Node) (fields rest : List Filling) (values : List Value) (i : ℕ) (d : Filling)
    → Settled ns fields rest values i → slice_get rest i ≡ Some d
    → draft_size (drawn ns d) ≤ drafts_size (all_drawn ns fields)
settle_less ns fields rest values i d h got =
    let there : drop i fields ≡ d ∷ drop (i + 1) rest = sym h.left ∙ first_got rest i d got in
    field_size ns fields i d (got_first fields i d (drop (i + 1) rest) there) where
      got_first : (ds : List Filling) (i : ℕ) (d : Filling) (more : List Filling) → drop i ds ≡ d ∷ more → slice_get ds i ≡ Some d
      got_first [] i d more e = let none : [] ≡ d ∷ more = sym (drop-none [] i refl) ∙ e in absurd cc
      got_first (x ∷ ds) zero d more e = let s : x ≡ d = cc in ap (λ (y : Filling). Some y) s
      got_first (x ∷ ds) (suc i) d more e = got_first ds i d more e

pub settle_start : (ns : List Node) (fields : List Filling) → Settled ns fields fields [] 0
settle_start ns fields = record { whole = nothing (settles (all_drawn ns fields)); many = refl; left = refl } where
  nothing : (o : Option Vals) → o ≡ with_prefix no_more o
  nothing None = refl
  nothing (Some vs) = refl

pub settle_end : (ns : List Node) (fields rest : List Filling) (values : List Value) (i : ℕ)
    → Settled ns fields rest values i → length fields ≤ i
    → settles (all_drawn ns fields) ≡ Some (all_seen values)
settle_end ns fields rest values i h past =
    h.whole
    ∙ ap (λ (l : List Filling). with_prefix (all_seen values) (settles (all_drawn ns l))) (drop_all i rest (omega (arith, past, h.many)))
    ∙ ap (λ (x : Vals). Some x) (joined-no_more (all_seen values))

pub seen-Group : (vs : List Value) → seen (value.Group vs) ≡ group (all_seen vs)
seen-Group vs = ap seen (sym (value.rolls-Group vs)) ∙ fold-roll-Value Val seen_level (Value-F.Group vs)

pub fields_settled : (ns : List Node) (d : Filling) (ds : Vec Filling Global) (vs : List Value) → d ≡ filling.Fields ds
    → settles (all_drawn ns ds.items) ≡ Some (all_seen vs)
    → settle (drawn ns d) ≡ Some (seen (value.Group vs))
fields_settled ns d ds vs is e =
    ap (λ (x : Filling). settle (drawn ns x)) is ∙ ap settle (drawn-Fields ns ds) ∙ ap (option_map group) e
    ∙ ap (λ (v : Val). Some v) (sym (seen-Group vs))
