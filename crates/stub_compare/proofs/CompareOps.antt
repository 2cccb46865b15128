-- What each operation puts, before what follows it.
use Rattle.std.proofs.Common.{◌≡◌, ℕ, Bool, true, false, ◌||◌, refl, sym, ap, ◌∙◌, List, [], ◌∷◌, ◌++◌, Option, Some, None, option_map, subst, if◌then◌else◌}
use Rattle.mint.specs.declared.node.Node.{Node}
use Rattle.cast_stub.specs.Parts.{on_some}
use Rattle.cast_stub.specs.Steps.{is_width}
use Rattle.cast_stub.specs.declared.put.Put.{Put}
use Rattle.cast_stub.specs.Block.{Block, align, chunk, each, ensure, ensure_row, if_there}
use Rattle.stub_flat.specs.Places.{Spot, node_of, spot_at, element, present, has_length}
use Rattle.stub_flat.specs.Residues.{Residues, sum, moved, aligned, closed}
use Rattle.stub_flat.specs.Leaves.{leaves}
use Rattle.stub_flat.specs.Items.{Cell, Items, octets, loop, if_present, cells, align_items, provided, items}
use Rattle.stub_compare.specs.CompareSets.{Agree}
use Rattle.stub_compare.specs.CompareText.{path_text, cell_text, cells_text, items_text}
use Rattle.stub_compare.specs.CompareTold.{IsPut, IsTold, IsLed, IsLedWhere, IsBlockTold, IsOpTold}
use Rattle.stub_compare.proofs.CompareLinear.{linear_agree, leaves_linear}
use Rattle.stub_compare.proofs.CompareAgree.{items_agree}

-- ---- texts one after the other

pub led_same : {A : Type 0} (text : A → List ℕ → List ℕ) (o : Option A) (old : List ℕ) → IsLed text o o old old
led_same text (Some a) old = λ rest. refl
led_same text None old = tt

pub led_then : {A : Type 0} (text : A → List ℕ → List ℕ) (a b c : Option A) (x y z : List ℕ) → IsLed text a b x y → IsLed text b c y z
    → IsLed text a c x z
led_then text (Some a) (Some b) (Some c) x y z f g = λ rest. f rest ∙ g rest
led_then text (Some a) (Some b) None x y z f g = absurd g
led_then text (Some a) None c x y z f g = absurd f
led_then text None (Some b) c x y z f g = absurd f
led_then text None None (Some c) x y z f g = absurd g
led_then text None None None x y z f g = tt

-- what is not there behind something is not there before it
pub led_absent : {A : Type 0} (text : A → List ℕ → List ℕ) (a b : Option A) (x y : List ℕ) → IsLed text a b x y → b ≡ None → a ≡ None
led_absent text (Some a) (Some b) x y f e = absurd (cc)
led_absent text (Some a) None x y f e = absurd f
led_absent text None b x y f e = refl

-- something put before what follows
pub led_before : (g : Items → Items) (o : Option Items) (old new : List ℕ)
    → ((i : Items) (rest : List ℕ) → old ++ items_text (g i) rest ≡ new ++ items_text i rest)
    → IsLed items_text (option_map g o) o old new
led_before g (Some i) old new h = h i
led_before g None old new h = tt

pub told_absent : {A : Type 0} (o : Option A) (P : A → Type 0) → o ≡ None → IsTold false o P
told_absent (Some a) P e = absurd (cc)
told_absent None P e = tt

pub absent_told : {A : Type 0} (o : Option A) (P : A → Type 0) → IsTold false o P → o ≡ None
absent_told (Some a) P t = absurd t
absent_told None P t = refl

pub octets_text : (os : List Cell) (i : Items) (rest : List ℕ) → items_text (octets os i) rest ≡ cells_text os (items_text i rest)
octets_text [] i rest = refl
octets_text (c ∷ cs) i rest = ap (cell_text c) (octets_text cs i rest)

pub octets_put : (os : List Cell) (old new : List ℕ) → IsPut old (cells_text os) new → (i : Items) (rest : List ℕ)
    → old ++ items_text (octets os i) rest ≡ new ++ items_text i rest
octets_put os old new h i rest = ap (λ z. old ++ z) (octets_text os i rest) ∙ h (items_text i rest)

-- ---- operations that put nothing

pub told_ensure : (N : List Node) (s : Spot) (n : ℕ) (S : Residues) (old : List ℕ) → IsOpTold true N s (ensure n) S S old old
told_ensure N s n S old = record { put = λ r. led_same items_text (items N s r S) old; behind = λ e r q lt. refl }

provided_told : (b : Bool) (o : Option Items) (old : List ℕ) → IsLedWhere items_text b (provided b o) o old old
provided_told true o old = led_same items_text o old
provided_told false o old = refl

pub told_row : (N : List Node) (s : Spot) (p : List ℕ) (u e : ℕ) (S : Residues) (old : List ℕ)
    → IsOpTold (has_length (node_of N (spot_at N p s))) N s (ensure_row p u e) S S old old
told_row N s p u e S old = record {
  put = λ r. provided_told (has_length (node_of N (spot_at N p s))) (items N s r S) old;
  behind = λ d r q lt. refl;
}

-- ---- aligns and chunks

agree_items : (N : List Node) (s : Spot) (r : Block) (S T : Residues) (text : Items → List ℕ → List ℕ) (o : Option Items) (old new : List ℕ)
    → Agree T S → IsLed text o (items N s r S) old new → IsLed text o (items N s r T) old new
agree_items N s r S T text o old new same l =
    let P : Option Items → Type 0 = λ z. IsLed text o z old new in subst P (sym (items_agree N s r T S same)) l

pub leaves_agree : (N : List Node) (s : Spot) (r : Block) (S T : Residues) → Agree T S → Agree (leaves N s r T) (leaves N s r S)
leaves_agree N s r S T same = linear_agree (leaves N s r) (leaves_linear N s r) T S same

align_led : (N : List Node) (s : Spot) (r : Block) (a : ℕ) (b : Bool) (S : Residues) (old new : List ℕ) → b ≡ true
    → ((i : Items) (rest : List ℕ) → old ++ items_text (align_items a S i) rest ≡ new ++ items_text i rest)
    → IsLed items_text (provided b (option_map (align_items a S) (items N s r (if b then aligned a S else S))))
    (items N s r (aligned a S)) old new
align_led N s r a true S old new e h = led_before (align_items a S) (items N s r (aligned a S)) old new h
align_led N s r a false S old new e h = absurd (cc)

align_leaves : (N : List Node) (s : Spot) (r : Block) (a : ℕ) (b : Bool) (S T : Residues) → b ≡ true → Agree T (aligned a S)
    → Agree (leaves N s r T) (leaves N s r (if b then aligned a S else S))
align_leaves N s r a true S T e same = leaves_agree N s r (aligned a S) T same
align_leaves N s r a false S T e same = absurd (cc)

pub told_align : (N : List Node) (s : Spot) (a : ℕ) (S T : Residues) (old new : List ℕ) → is_width a ≡ true → Agree T (aligned a S)
    → ((i : Items) (rest : List ℕ) → old ++ items_text (align_items a S i) rest ≡ new ++ items_text i rest)
    → IsOpTold true N s (align a) S T old new
told_align N s a S T old new wide same h = record {
  put = λ r. agree_items N s r (aligned a S) T items_text
      (provided (is_width a) (option_map (align_items a S) (items N s r (if is_width a then aligned a S else S)))) old new same
      (align_led N s r a (is_width a) S old new wide h);
  behind = λ e r. align_leaves N s r a (is_width a) S T wide same;
}

absent_align : (b : Bool) (o : Option Items) → b ≡ false → provided b o ≡ None
absent_align true o e = absurd (cc)
absent_align false o e = refl

pub untold_align : (N : List Node) (s : Spot) (a : ℕ) (S : Residues) (old : List ℕ) → is_width a ≡ false
    → IsOpTold false N s (align a) S S old old
untold_align N s a S old narrow = record {
  put = λ r. absent_align (is_width a) (option_map (align_items a S) (items N s r (if is_width a then aligned a S else S))) narrow;
  behind = λ e. absurd (cc);
}

chunk_led : (os : Option (List Cell)) (told : Bool) (o : Option Items) (old new : List ℕ)
    → IsTold told os (λ c. IsPut old (cells_text c) new)
    → IsLedWhere items_text told (on_some os (λ c. option_map (octets c) o)) o old new
chunk_led (Some c) true o old new t = led_before (octets c) o old new (octets_put c old new t)
chunk_led (Some c) false o old new t = absurd t
chunk_led None true o old new t = absurd t
chunk_led None false o old new t = refl

pub where_agree : (N : List Node) (s : Spot) (r : Block) (S T : Residues) (told : Bool) (o : Option Items) (old new : List ℕ)
    → Agree T S → IsLedWhere items_text told o (items N s r S) old new → IsLedWhere items_text told o (items N s r T) old new
where_agree N s r S T told o old new same l =
    let P : Option Items → Type 0 = λ z. IsLedWhere items_text told o z old new in subst P (sym (items_agree N s r T S same)) l

pub told_chunk : (N : List Node) (s : Spot) (n : ℕ) (ps : List Put) (told : Bool) (S T : Residues) (old new : List ℕ)
    → Agree T (moved n S) → IsTold told (cells n ps) (λ c. IsPut old (cells_text c) new) → IsOpTold told N s (chunk n ps) S T old new
told_chunk N s n ps told S T old new same t = record {
  put = λ r. where_agree N s r (moved n S) T told (on_some (cells n ps) (λ c. option_map (octets c) (items N s r (moved n S)))) old new same
      (chunk_led (cells n ps) told (items N s r (moved n S)) old new t);
  behind = λ e r. leaves_agree N s r (moved n S) T same;
}

-- ---- operations with bodies

body_led : (g : Items → Items → Items) (told : Bool) (body o : Option Items) (old mid new : List ℕ)
    → ((b i : Items) (rest : List ℕ) → old ++ items_text (g b i) rest ≡ mid ++ items_text b (items_text i rest))
    → IsTold told body (λ b. IsPut mid (items_text b) new)
    → IsLedWhere items_text told (on_some body (λ b. option_map (g b) o)) o old new
body_led g true (Some b) o old mid new h t = led_before (g b) o old new (λ i rest. h b i rest ∙ t (items_text i rest))
body_led g true None o old mid new h t = absurd t
body_led g false (Some b) o old mid new h t = absurd t
body_led g false None o old mid new h t = refl

pub told_each : (N : List Node) (s : Spot) (p : List ℕ) (b : Block) (told : Bool) (S T U : Residues) (old mid new : List ℕ)
    → Agree T (closed (leaves N (element (node_of N (spot_at N p s))) b) S)
    → IsPut old (λ rest. 2 ∷ path_text p rest) mid
    → IsBlockTold told N (element (node_of N (spot_at N p s))) b T U mid new
    → IsOpTold told N s (each p b) S T old new
told_each N s p b told S T U old mid new same first body =
    let inner = element (node_of N (spot_at N p s)) in
    let C = closed (leaves N inner b) S in
    let P : Option Items → Type 0 = λ z. IsTold told z (λ i. IsPut mid (items_text i) new) in
    record {
      put = λ r. where_agree N s r C T told (on_some (items N inner b C) (λ bs. option_map (loop p bs) (items N s r C))) old new same
          (body_led (loop p) told (items N inner b C) (items N s r C) old mid new (λ x i rest. first (items_text x (items_text i rest)))
          (subst P (items_agree N inner b T C same) body.put));
      behind = λ e r. leaves_agree N s r C T same;
    }

pub told_some : (N : List Node) (s : Spot) (p : List ℕ) (b : Block) (told : Bool) (S T U : Residues) (old mid new : List ℕ)
    → Agree T (sum S U)
    → IsPut old (λ rest. 4 ∷ path_text p rest) mid
    → IsBlockTold told N (present (node_of N (spot_at N p s))) b S U mid new
    → IsOpTold told N s (if_there p b) S T old new
told_some N s p b true S T U old mid new same first body =
    let f = leaves N (present (node_of N (spot_at N p s))) b in
    let all : Agree T (sum S (f S)) = λ q lt. same q lt ∙ ap (λ (x : Bool). S q || x) (body.behind refl q lt) in
    record {
      put = λ r. where_agree N s r (sum S (f S)) T true
          (on_some (items N (present (node_of N (spot_at N p s))) b S) (λ bs. option_map (if_present p bs) (items N s r (sum S (f S)))))
          old new all
          (body_led (if_present p) true (items N (present (node_of N (spot_at N p s))) b S) (items N s r (sum S (f S))) old mid new
          (λ x i rest. first (items_text x (items_text i rest))) body.put);
      behind = λ e r. leaves_agree N s r (sum S (f S)) T all;
    }
told_some N s p b false S T U old mid new same first body =
    let f = leaves N (present (node_of N (spot_at N p s))) b in
    record {
      put = λ r. ap (λ (z : Option Items). on_some z (λ bs. option_map (if_present p bs) (items N s r (sum S (f S)))))
          (absent_told (items N (present (node_of N (spot_at N p s))) b S) (λ i. IsPut mid (items_text i) new) body.put);
      behind = λ e. absurd (cc);
    }
