-- The codes of the first nodes of a table, and of all of them, in code of either direction, by induction on the node's number.
use Rattle.std.proofs.Common.{◌≡◌, ◌⊎◌, inl, inr, ℕ, zero, suc, ◌+◌, ◌<◌, ◌≤◌, List, [], ◌∷◌, ◌++◌, length, map, Option, Some, None, option_map, slice_get, refl, sym, ap, subst, ◌∙◌, arith}
use Rattle.std.proofs.Math.ListN.{take}
use Rattle.std.proofs.Math.Nat.{eq-or-lt_of_le}
use Rattle.std.proofs.lemmas.List.{map-append, take_all}
use Rattle.mint.specs.declared.node.Node.{Node}
use Rattle.mint.specs.Blank.{depth}
use Rattle.mint.specs.Sound.{IsSound}
use Rattle.mint.specs.Types.{Ty, group_type, items_type, choice_type, maybe_type, type_at, unfolded, level, HasChildrenBelow, IsTable}
use Rattle.mint.proofs.Unfolding.{type_at-level}
use Rattle.mint.proofs.Measuring.{found_below}

-- ---- nodes

-- what is known of the first nodes
abbrev pub AreKnown : List Node → ℕ → Type 0
AreKnown nodes n = (j : ℕ) (m : Node) → j < n → slice_get nodes j ≡ Some m → HasChildrenBelow j m × IsSound (type_at nodes j)

pub take_at : (nodes : List Node) (k : ℕ) (m : Node) → slice_get nodes k ≡ Some m → take (k + 1) nodes ≡ take k nodes ++ m ∷ []
take_at [] k m e = absurd cc
take_at (x ∷ nodes) zero m e = let s : x ≡ m = cc in ap (λ (y : Node). y ∷ []) s
take_at (x ∷ nodes) (suc k) m e =
    let one : suc k + 1 ≡ suc (k + 1) = omega arith in
    ap (λ (n : ℕ). take n (x ∷ nodes)) one ∙ ap (λ (l : List Node). x ∷ l) (take_at nodes k m e)

same_node : (nodes : List Node) (k : ℕ) (m n : Node) → slice_get nodes k ≡ Some m → slice_get nodes k ≡ Some n → m ≡ n
same_node nodes k m n e d = let s : Some m ≡ Some n = sym e ∙ d in cc

pub known_more : (nodes : List Node) (k : ℕ) (m : Node) → slice_get nodes k ≡ Some m → HasChildrenBelow k m → IsSound (type_at nodes k)
    → AreKnown nodes k
    → AreKnown nodes (k + 1)
known_more nodes k m is below sound known j n lt there = picked (eq-or-lt_of_le (omega (arith, lt))) where
  same : j ≡ k → HasChildrenBelow j n × IsSound (type_at nodes j)
  same e =
      let there_too : slice_get nodes k ≡ Some n = subst (λ (i : ℕ). slice_get nodes i ≡ Some n) e there in
      let one : m ≡ n = same_node nodes k m n is there_too in
      subst (λ (i : ℕ). HasChildrenBelow i n × IsSound (type_at nodes i)) (sym e) (subst (HasChildrenBelow k) one below, sound)

  picked : (j ≡ k) ⊎ (j < k) → HasChildrenBelow j n × IsSound (type_at nodes j)
  picked (inl e) = same e
  picked (inr l) = known j n l there

pub get-map : {A B : Type 0} (f : A → B) (xs : List A) (k : ℕ) → option_map f (slice_get xs k) ≡ slice_get (map f xs) k
get-map f [] k = refl
get-map f (x ∷ xs) zero = refl
get-map f (x ∷ xs) (suc k) = get-map f xs k

pub record Found (nodes : List Node) (i : ℕ) : Type 0 where
  pub node : Node
  pub is : slice_get nodes i ≡ Some node

pub found : (nodes : List Node) (i : ℕ) → i < length nodes → Found nodes i
found [] i h = absurd (omega arith)
found (m ∷ nodes) zero h = record { node = m; is = refl }
found (m ∷ nodes) (suc i) h = let f = found nodes i (omega arith) in record { node = f.node; is = f.is }

pub depth_some : (t : Ty) → 1 ≤ depth t
depth_some (group_type ts) = omega arith
depth_some (items_type c t) = omega arith
depth_some (choice_type s arms) = omega arith
depth_some (maybe_type t) = omega arith
depth_some _ = omega arith

-- ---- node by node

-- the codes of the first nodes, which are seen as blocks
pub record AreLowered {O B : Type 0} (seen : List O → B) (code : Node → B) (nodes : List Node) (n : ℕ) (subs : List (List O)) : Type 0 where
  pub codes : map seen subs ≡ map code (take n nodes)
  pub known : AreKnown nodes n

-- a node and its code
pub record Stands {B : Type 0} (code : Node → B) (nodes : List Node) (k : ℕ) (b : B) : Type 0 where
  pub node : Node
  pub is : slice_get nodes k ≡ Some node
  pub made : b ≡ code node

stands : {B : Type 0} (code : Node → B) (nodes : List Node) (k : ℕ) (o : Option Node) (b : B) → slice_get nodes k ≡ o
    → Some b ≡ option_map code o
    → Stands code nodes k b
stands code nodes k None b is same = absurd cc
stands code nodes k (Some m) b is same = record { node = m; is = is; made = cc }

module _ {O B : Type 0} (seen : List O → B) (code : Node → B) (nodes : List Node) where
  pub one_more : (k : ℕ) (m : Node) (subs new : List (List O)) (ops : List O) → Some m ≡ slice_get nodes k → HasChildrenBelow k m
      → IsSound (type_at nodes k) → AreLowered seen code nodes k subs → seen ops ≡ code m → new ≡ subs ++ ops ∷ []
      → AreLowered seen code nodes (k + 1) new
  one_more k m subs new ops there below sound so_far made is = record {
    codes = ap (map seen) is ∙ map-append seen subs (ops ∷ []) ∙ ap (λ (l : List B). l ++ seen ops ∷ []) so_far.codes
        ∙ ap (λ (b : B). map code (take k nodes) ++ b ∷ []) made
        ∙ sym (ap (map code) (take_at nodes k m (sym there)) ∙ map-append code (take k nodes) (m ∷ []));
    known = known_more nodes k m (sym there) below sound so_far.known;
  }

  -- at the end of the table
  pub ended : (id count : ℕ) (subs : List (List O)) → count ≡ length nodes → count ≤ id → id ≤ count → AreLowered seen code nodes id subs
      → AreLowered seen code nodes (length nodes) subs
  ended id count subs all past within whole =
      let same : id ≡ length nodes = omega (arith, all, past, within) in
      subst (λ (n : ℕ). AreLowered seen code nodes n subs) same whole

-- ---- the whole table

module _ {O B : Type 0} (seen : List O → B) (code : Node → B) (nodes : List Node) (subs : List (List O))
    (whole : AreLowered seen code nodes (length nodes) subs) where
  all_codes : map seen subs ≡ map code nodes
  all_codes = whole.codes ∙ ap (map code) (take_all (length nodes) nodes (omega arith))

  pub below : IsTable nodes
  below k m is = (whole.known k m (found_below nodes k m is) is).0

  pub sound : (k : ℕ) (m : Node) → slice_get nodes k ≡ Some m → IsSound (type_at nodes k)
  sound k m is = (whole.known k m (found_below nodes k m is) is).1

  pub sub_is : (k : ℕ) (m : Node) → slice_get nodes k ≡ Some m → option_map seen (slice_get subs k) ≡ Some (code m)
  sub_is k m is = get-map seen subs k ∙ ap (λ (l : List B). slice_get l k) all_codes ∙ sym (get-map code nodes k) ∙ ap (option_map code) is

  pub code_at : (k : ℕ) (b : B) → option_map seen (slice_get subs k) ≡ Some b → Stands code nodes k b
  code_at k b is = stands code nodes k (slice_get nodes k) b refl
      (sym is ∙ get-map seen subs k ∙ ap (λ (l : List B). slice_get l k) all_codes ∙ sym (get-map code nodes k))

  pub code_of : (k : ℕ) (ops : List O) → slice_get subs k ≡ Some ops → Stands code nodes k (seen ops)
  code_of k ops is = code_at k (seen ops) (ap (option_map seen) is)

  -- codes go through types as each node's code does where those of the nodes below do
  module _ (By : Ty → ℕ → B → Type 0)
      (own : (k : ℕ) → ((i : ℕ) → i < k → (b : B) × (option_map seen (slice_get subs i) ≡ Some b) × By (type_at nodes i) i b) → (m : Node)
      → HasChildrenBelow k m → By (level (unfolded nodes) m) k (code m)) where
    node_goes : (n k : ℕ) (m : Node) → k < n → slice_get nodes k ≡ Some m → By (type_at nodes k) k (code m)
    node_goes zero k m lt is = absurd (omega (arith, lt))
    node_goes (suc n) k m lt is =
        subst (λ (t : Ty). By t k (code m)) (sym (type_at-level nodes k m below is))
        (own k
        (λ (i : ℕ) i_lt. let f = found nodes i (omega (arith, i_lt, found_below nodes k m is)) in
        (code f.node, sub_is i f.node f.is, node_goes n i f.node (omega (arith, i_lt, lt)) f.is))
        m (below k m is))

    pub codes_go : (k : ℕ) (b : B) → option_map seen (slice_get subs k) ≡ Some b → By (type_at nodes k) k b
    codes_go k b is =
        let s = code_at k b is in
        subst (By (type_at nodes k) k) (sym s.made) (node_goes (suc k) k s.node (omega arith) s.is)
