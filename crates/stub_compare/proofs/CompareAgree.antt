-- What is left of code from a set of residues is the same from another with the same residues below 8, by induction on the code.
use Rattle.std.proofs.Common.{◌≡◌, ℕ, zero, suc, ℤ, ◌+◌, ◌≤◌, Bool, refl, ap, ◌∙◌, arith, lit≤, List, replicate, Option, Some, None, option_map, nat_eq, if◌then◌else◌}
use Rattle.mint.specs.declared.node.Node.{Node}
use Rattle.wire_def.specs.Scalars.{gap}
use Rattle.wire_def.specs.declared.head.Order.TheVariants.{Big, Little}
use Rattle.cast_stub.specs.Parts.{on_some}
use Rattle.cast_stub.specs.Steps.{is_width}
use Rattle.cast_stub.specs.Block.{Block, stop, ensure, ensure_row, align, chunk, row_copy, row_swap, row_wide, each, switch, if_there, call, patch, Cases, no_default, default, case}
use Rattle.stub_flat.specs.Places.{Spot, node_of, spot_at, element, present, row_kind, has_length, arm_spot, rest_spot}
use Rattle.stub_flat.specs.Residues.{Residues, sum, moved, aligned, size_first, single_first, closed}
use Rattle.stub_flat.specs.Leaves.{width_of, leaves, ways_leave}
use Rattle.stub_flat.specs.Items.{fixed, Items, octets, zeros, loop, ways, if_present, patched, Ways, way, other, cells, align_items, row_items, provided, is_row, items, way_items}
use Rattle.stub_compare.specs.CompareSets.{Agree}
use Rattle.stub_compare.proofs.CompareLinear.{linear_agree, linear_choice, linear_same, linear_aligned, linear_moved, linear_closed, linear_sum, leaves_linear, ways_linear}

pub size_agree : (k : ℕ) (S T : Residues) → k ≤ 8 → Agree S T → size_first k S ≡ size_first k T
size_agree zero S T le same = refl
size_agree (suc k) S T le same =
    ap (λ (b : Bool). (if b then 1 else 0) + size_first k S) (same k (omega arith))
    ∙ ap (λ n. (if T k then 1 else 0) + n) (size_agree k S T (omega arith) same)

pub single_agree : (k : ℕ) (S T : Residues) → k ≤ 8 → Agree S T → single_first k S ≡ single_first k T
single_agree zero S T le same = refl
single_agree (suc k) S T le same =
    ap (λ (b : Bool). if b then k else single_first k S) (same k (omega arith))
    ∙ ap (λ n. if T k then k else n) (single_agree k S T (omega arith) same)

-- an align, by how many residues there are and the single one
abbrev padded : ℕ → ℕ → ℕ → Items → Items
padded a n q r = if nat_eq n 1 then octets (replicate (gap q a) (fixed 0)) r else zeros a r

pub align_agree : (a : ℕ) (S T : Residues) (i : Items) → Agree S T → align_items a S i ≡ align_items a T i
align_agree a S T i same =
    ap (λ n. padded a n (single_first 8 S) i) (size_agree 8 S T (lit≤ tt) same)
    ∙ ap (λ q. padded a (size_first 8 T) q i) (single_agree 8 S T (lit≤ tt) same)

-- options whose values are the same
map_agree : {A B : Type 0} (f g : A → B) (o : Option A) → ((x : A) → f x ≡ g x) → option_map f o ≡ option_map g o
map_agree f g None h = refl
map_agree f g (Some x) h = ap (λ y. Some y) (h x)

align_both : (a : ℕ) (S T : Residues) (o p : Option Items) → Agree S T → o ≡ p
    → provided (is_width a) (option_map (align_items a S) o) ≡ provided (is_width a) (option_map (align_items a T) p)
align_both a S T o p same e =
    ap (λ (x : Option Items). provided (is_width a) x)
    (map_agree (align_items a S) (align_items a T) o (λ i. align_agree a S T i same)
    ∙ ap (λ (x : Option Items). option_map (align_items a T) x) e)

-- bodies and what follows them
both_agree : {A : Type 0} (f : A → Items → Items) (x y : Option A) (o p : Option Items) → x ≡ y → o ≡ p
    → on_some x (λ b. option_map (f b) o) ≡ on_some y (λ b. option_map (f b) p)
both_agree {A} f x y o p e d = ap (λ (z : Option A). on_some z (λ b. option_map (f b) o)) e
    ∙ ap (λ (z : Option Items). on_some y (λ b. option_map (f b) z)) d

way_agree : (m : ℤ) (x y : Option Items) (o p : Option Ways) → x ≡ y → o ≡ p
    → on_some x (λ i. option_map (way m i) o) ≡ on_some y (λ i. option_map (way m i) p)
way_agree m x y o p e d = ap (λ (z : Option Items). on_some z (λ i. option_map (way m i) o)) e
    ∙ ap (λ (z : Option Ways). on_some y (λ i. option_map (way m i) z)) d

mutual
  pub items_agree : (N : List Node) (s : Spot) (b : Block) (S T : Residues) → Agree S T → items N s b S ≡ items N s b T
  items_agree N s stop S T same = refl
  items_agree N s (ensure n r) S T same = items_agree N s r S T same
  items_agree N s (ensure_row p u e r) S T same =
      ap (λ (o : Option Items). provided (has_length (node_of N (spot_at N p s))) o) (items_agree N s r S T same)
  items_agree N s (align a r) S T same =
      align_both a S T _ _ same (items_agree N s r (if is_width a then aligned a S else S) (if is_width a then aligned a T else T)
      (linear_agree (λ X. if is_width a then aligned a X else X)
      (linear_choice (is_width a) (aligned a) (λ X. X) (linear_aligned a) linear_same) S T same))
  items_agree N s (chunk n ps r) S T same =
      ap (λ (o : Option Items). on_some (cells n ps) (λ os. option_map (octets os) o))
      (items_agree N s r (moved n S) (moved n T) (linear_agree (moved n) (linear_moved n) S T same))
  items_agree N s (row_copy p r) S T same =
      let w = width_of (row_kind (node_of N (spot_at N p s))) in
      ap (λ (o : Option Items). provided (is_row N (spot_at N p s)) (option_map (row_items p w Little) o))
      (items_agree N s r (closed (moved w) S) (closed (moved w) T)
      (linear_agree (closed (moved w)) (linear_closed (moved w) (linear_moved w)) S T same))
  items_agree N s (row_swap p r) S T same =
      let w = width_of (row_kind (node_of N (spot_at N p s))) in
      ap (λ (o : Option Items). provided (is_row N (spot_at N p s)) (option_map (row_items p w Big) o))
      (items_agree N s r (closed (moved w) S) (closed (moved w) T)
      (linear_agree (closed (moved w)) (linear_closed (moved w) (linear_moved w)) S T same))
  items_agree N s (row_wide p d r) S T same =
      ap (λ (o : Option Items). provided (is_row N (spot_at N p s)) (option_map (row_items p 4 d) o))
      (items_agree N s r (closed (moved 4) S) (closed (moved 4) T)
      (linear_agree (closed (moved 4)) (linear_closed (moved 4) (linear_moved 4)) S T same))
  items_agree N s (each p b r) S T same =
      let inner = element (node_of N (spot_at N p s)) in
      let f = leaves N inner b in
      let behind = linear_agree (closed f) (linear_closed f (leaves_linear N inner b)) S T same in
      both_agree (loop p) _ _ _ _ (items_agree N inner b (closed f S) (closed f T) behind)
      (items_agree N s r (closed f S) (closed f T) behind)
  items_agree N s (switch p cs r) S T same =
      let n = node_of N (spot_at N p s) in
      both_agree (ways p) _ _ _ _ (ways_agree N n cs cs S T same)
      (items_agree N s r (ways_leave N n cs cs S) (ways_leave N n cs cs T)
      (linear_agree (ways_leave N n cs cs) (ways_linear N n cs cs) S T same))
  items_agree N s (if_there p b r) S T same =
      let inner = present (node_of N (spot_at N p s)) in
      let f = leaves N inner b in
      both_agree (if_present p) _ _ _ _ (items_agree N inner b S T same)
      (items_agree N s r (sum S (f S)) (sum T (f T))
      (linear_agree (λ X. sum X (f X)) (linear_sum (λ X. X) f linear_same (leaves_linear N inner b)) S T same))
  items_agree N s (call k p r) S T same = refl
  items_agree N s (patch a z o r) S T same = ap (λ (x : Option Items). option_map (patched a z o) x) (items_agree N s r S T same)

  pub ways_agree : (N : List Node) (n : Option Node) (all cs : Cases) (S T : Residues) → Agree S T
      → way_items N n all cs S ≡ way_items N n all cs T
  ways_agree N n all no_default S T same = refl
  ways_agree N n all (default b) S T same = ap (λ (o : Option Items). option_map other o) (items_agree N (rest_spot n all) b S T same)
  ways_agree N n all (case m b cs) S T same =
      way_agree m _ _ _ _ (items_agree N (arm_spot n m) b S T same) (ways_agree N n all cs S T same)
