-- The distinct types of a table stand for the types of its nodes.
use Rattle.std.proofs.Common.{◌≡◌, ◌<◌, ◌≤◌, ◌⊎◌, inl, inr, ℕ, zero, suc, ℤ, List, [], ◌∷◌, ◌++◌, length, map, true, false, nat_lt, nat_le, Option, Some, None, option_map, slice_get, refl, sym, ap, subst, ◌∙◌, arith, length-append}
use Rattle.std.proofs.Math.ListN.{get_or-append}
use Rattle.std.proofs.Math.Seq.{get_or-append_seam}
use Rattle.std.specs.List.{AllByRecursion, list_all}
use Rattle.std.proofs.lemmas.Bool.{lt-ltb, lt-leb}
use Rattle.kit_base.specs.Limits.{most_nodes}
use Rattle.mint.specs.Sound.{children_below, is_below, level_refusal, refusal, IsSound}
use Rattle.mint.specs.declared.node.Node.{Node}
use Rattle.mint.specs.declared.node.Node.TheVariants as node
use Rattle.mint.specs.Types.{Ty, void_type, group_type, items_type, choice_type, maybe_type, others, at, fields_at, others_at, arms_at, scalar_of, level, unfolded, type_at, AreBelow, ArmsBelow, IsBelow, HasChildrenBelow}
use Rattle.mint.proofs.Measuring.{length-unfolded, sound_level}
use Rattle.mint.proofs.Unfolding.{unfolded-push}
use Rattle.stub_codes.specs.Distinct.{number_in, arm_in, renumbered, Stands, AreSame}
use Rattle.stub_codes.proofs.Following.{some_same}
use Rattle.stub_codes.proofs.Places.{item_at}

-- ---- nodes with other numbers

-- trees at the numbers for which those below k are exchanged, the same as those at these
abbrev Agree : ℕ → List ℕ → List Ty → List Ty → Type 0
Agree k ids us ts = (i : ℕ) → i < k → at us (number_in ids i) ≡ at ts i

fields_same : (k : ℕ) (ids : List ℕ) (us ts : List Ty) (is : List ℕ) → Agree k ids us ts → AreBelow k is
    → fields_at us (map (number_in ids) is) ≡ fields_at ts is
fields_same k ids us ts [] same below = refl
fields_same k ids us ts (i ∷ is) same below = rw (same i below.0, fields_same k ids us ts is same below.1) refl

others_same : (k : ℕ) (ids : List ℕ) (us ts : List Ty) (o : Option ℕ) → Agree k ids us ts → IsBelow k o
    → others_at us (option_map (number_in ids) o) ≡ others_at ts o
others_same k ids us ts None same below = refl
others_same k ids us ts (Some i) same below = ap others (same i below)

arms_same : (k : ℕ) (ids : List ℕ) (us ts : List Ty) (arms : List (ℤ × ℕ)) (o : Option ℕ) → Agree k ids us ts
    → AllByRecursion (λ a. a.1 < k) arms → IsBelow k o
    → arms_at us (map (arm_in ids) arms) (option_map (number_in ids) o) ≡ arms_at ts arms o
arms_same k ids us ts [] o same below last = others_same k ids us ts o same last
arms_same k ids us ts (a ∷ arms) o same below last = rw (same a.1 below.0, arms_same k ids us ts arms o same below.1 last) refl

-- a node whose children are exchanged for nodes of the same types is of the same type
level_same : (k : ℕ) (ids : List ℕ) (us ts : List Ty) (n : Node) → Agree k ids us ts → HasChildrenBelow k n
    → level us (renumbered ids n) ≡ level ts n
level_same k ids us ts node.Void same below = refl
level_same k ids us ts (node.Num x) same below = refl
level_same k ids us ts (node.Enum x) same below = refl
level_same k ids us ts (node.Text c) same below = refl
level_same k ids us ts (node.Row x c) same below = refl
level_same k ids us ts (node.Group is) same below = ap group_type (fields_same k ids us ts is same below)
level_same k ids us ts (node.Items i c) same below = ap (items_type c) (same i below)
level_same k ids us ts (node.Choice t arms o) same below =
    ap (choice_type (scalar_of t)) (arms_same k ids us ts arms o same below.0 below.1)
level_same k ids us ts (node.Maybe i) same below = ap maybe_type (same i below)

-- ---- numbers by their places

number_found : (ids : List ℕ) (i x : ℕ) → slice_get ids i ≡ Some x → number_in ids i ≡ x
number_found [] i x e = absurd cc
number_found (y ∷ ids) zero x e = some_same y x e
number_found (y ∷ ids) (suc i) x e = number_found ids i x e

-- the number of a node's type, in a list of one for each node
pub numbered : (small nodes : List Node) (ids : List ℕ) (i : ℕ) → AreSame small nodes ids → i < length ids
    → (number_in ids i < length small) × (type_at small (number_in ids i) ≡ type_at nodes i)
numbered small nodes ids i same less =
    let (x, found) = item_at ids i less in
    subst (λ (y : ℕ). (y < length small) × (type_at small y ≡ type_at nodes i)) (sym (number_found ids i x found)) (same i x found)

pub numbered_in : (small nodes : List Node) (ids list : List ℕ) (i x : ℕ) → AreSame small nodes ids → length ids ≡ length nodes
    → i < length nodes → list ≡ ids → x ≡ number_in list i → (x < length small) × (type_at small x ≡ type_at nodes i)
numbered_in small nodes ids list i x same many less is found =
    subst (λ (y : ℕ). (y < length small) × (type_at small y ≡ type_at nodes i)) (sym (found ∙ ap (λ (l : List ℕ). number_in l i) is))
    (numbered small nodes ids i same (omega (arith, many, less)))

-- ---- one number more

last_or_in : (xs : List ℕ) (x y i : ℕ) → slice_get (xs ++ x ∷ []) i ≡ Some y → (slice_get xs i ≡ Some y) ⊎ ((i ≡ length xs) × (x ≡ y))
last_or_in [] x y zero e = inr (refl, some_same x y e)
last_or_in [] x y (suc i) e = absurd cc
last_or_in (z ∷ xs) x y zero e = inl e
last_or_in (z ∷ xs) x y (suc i) e = later (last_or_in xs x y i e) where
  later : (slice_get xs i ≡ Some y) ⊎ ((i ≡ length xs) × (x ≡ y))
      → (slice_get (z ∷ xs) (suc i) ≡ Some y) ⊎ ((suc i ≡ length (z ∷ xs)) × (x ≡ y))
  later (inl h) = inl h
  later (inr h) = inr (ap suc h.0, h.1)

one_more : (small nodes : List Node) (ids : List ℕ) (x id : ℕ) → id ≡ length ids → AreSame small nodes ids → x < length small
    → type_at small x ≡ type_at nodes id → AreSame small nodes (ids ++ x ∷ [])
one_more small nodes ids x id long same less is k i e = placed (last_or_in ids x i k e) where
  placed : (slice_get ids k ≡ Some i) ⊎ ((k ≡ length ids) × (x ≡ i)) → (i < length small) × (type_at small i ≡ type_at nodes k)
  placed (inl h) = same k i h
  placed (inr h) =
      subst (λ (j : ℕ). (i < length small) × (type_at small i ≡ type_at nodes j)) (long ∙ sym h.0)
      (subst (λ (y : ℕ). (y < length small) × (type_at small y ≡ type_at nodes id)) h.1 (less, is))

-- a number that was found
pub found_more : (small nodes : List Node) (ids : List ℕ) (x id : ℕ) (n : Node) → id ≡ length ids → AreSame small nodes ids
    → type_at nodes id ≡ level (unfolded nodes) n → HasChildrenBelow id n → Stands small (renumbered ids n) x
    → AreSame small nodes (ids ++ x ∷ [])
found_more small nodes ids x id n long same is below stands =
    let agree : Agree id ids (unfolded small) (unfolded nodes) = λ i h. (numbered small nodes ids i same (subst (λ k. i < k) long h)).1 in
    one_more small nodes ids x id long same stands.0
    (stands.1 ∙ level_same id ids (unfolded small) (unfolded nodes) n agree below ∙ sym is)

-- nodes that were there are of the types that they were of
type_kept : (small : List Node) (n : Node) (i : ℕ) → i < length small → type_at (small ++ n ∷ []) i ≡ type_at small i
type_kept small n i less =
    ap (λ (ts : List Ty). at ts i) (unfolded-push small n)
    ∙ get_or-append (unfolded small) (level (unfolded small) n ∷ []) void_type i (rw (length-unfolded small) less)

type_last : (small : List Node) (n : Node) → type_at (small ++ n ∷ []) (length small) ≡ level (unfolded small) n
type_last small n =
    ap (λ (ts : List Ty). at ts (length small)) (unfolded-push small n)
    ∙ subst (λ (k : ℕ). at (unfolded small ++ level (unfolded small) n ∷ []) k ≡ level (unfolded small) n) (length-unfolded small)
    (get_or-append_seam (unfolded small) (level (unfolded small) n) [] void_type)

longer : (small : List Node) (m : Node) (nodes : List Node) (ids : List ℕ) → AreSame small nodes ids → AreSame (small ++ m ∷ []) nodes ids
longer small m nodes ids same k i e =
    let (less, is) = same k i e in
    (omega (arith, less, length-append small (m ∷ [])), type_kept small m i less ∙ is)

-- a number that was made
pub made_more : (small bigger nodes : List Node) (ids : List ℕ) (x id : ℕ) (n m : Node) → id ≡ length ids → AreSame small nodes ids
    → type_at nodes id ≡ level (unfolded nodes) n → HasChildrenBelow id n
    → m ≡ renumbered ids n → bigger ≡ small ++ m ∷ [] → x ≡ length small → AreSame bigger nodes (ids ++ x ∷ [])
made_more small bigger nodes ids x id n m long same is below renamed grew last =
    let agree : Agree id ids (unfolded small) (unfolded nodes) = λ i h. (numbered small nodes ids i same (subst (λ k. i < k) long h)).1 in
    let here : type_at (small ++ m ∷ []) (length small) ≡ type_at nodes id =
    type_last small m ∙ ap (level (unfolded small)) renamed ∙ level_same id ids (unfolded small) (unfolded nodes) n agree below ∙ sym is in
    subst (λ (b : List Node). AreSame b nodes (ids ++ x ∷ [])) (sym grew)
    (one_more (small ++ m ∷ []) nodes ids x id long (longer small m nodes ids same)
    (omega (arith, last, length-append small (m ∷ [])))
    (subst (λ (y : ℕ). type_at (small ++ m ∷ []) y ≡ type_at nodes id) (sym last) here))

-- none is at a place of no list
pub none_same : (small nodes : List Node) → AreSame small nodes []
none_same small nodes k i e = absurd cc

-- ---- a node with other numbers is not refused

-- the numbers for which those below k are exchanged are below another
abbrev Below : ℕ → List ℕ → ℕ → Type 0
Below k ids s = (i : ℕ) → i < k → number_in ids i < s

ids_below : (k s : ℕ) (ids is : List ℕ) → Below k ids s → AreBelow k is → list_all (λ i. nat_lt i s) (map (number_in ids) is) ≡ true
ids_below k s ids [] less h = refl
ids_below k s ids (i ∷ is) less h = rw (lt-ltb (number_in ids i) s (less i h.0), ids_below k s ids is less h.1) refl

arms_below : (k s : ℕ) (ids : List ℕ) (arms : List (ℤ × ℕ)) → Below k ids s → ArmsBelow k arms
    → list_all (λ a. nat_lt a.1 s) (map (arm_in ids) arms) ≡ true
arms_below k s ids [] less h = refl
arms_below k s ids (a ∷ arms) less h = rw (lt-ltb (number_in ids a.1) s (less a.1 h.0), arms_below k s ids arms less h.1) refl

last_below : (k s : ℕ) (ids : List ℕ) (o : Option ℕ) → Below k ids s → IsBelow k o → is_below s (option_map (number_in ids) o) ≡ true
last_below k s ids None less h = refl
last_below k s ids (Some i) less h = lt-ltb (number_in ids i) s (less i h)

all_below : (k s : ℕ) (ids : List ℕ) (n : Node) → Below k ids s → HasChildrenBelow k n → children_below s (renumbered ids n) ≡ true
all_below k s ids node.Void less h = refl
all_below k s ids (node.Num x) less h = refl
all_below k s ids (node.Enum x) less h = refl
all_below k s ids (node.Text c) less h = refl
all_below k s ids (node.Row x c) less h = refl
all_below k s ids (node.Group is) less h = ids_below k s ids is less h
all_below k s ids (node.Items i c) less h = lt-ltb (number_in ids i) s (less i h)
all_below k s ids (node.Choice t arms o) less h = rw (arms_below k s ids arms less h.0, last_below k s ids o less h.1) refl
all_below k s ids (node.Maybe i) less h = lt-ltb (number_in ids i) s (less i h)

pub unrefused : (small nodes : List Node) (ids : List ℕ) (id : ℕ) (n m : Node) → id ≡ length ids → AreSame small nodes ids
    → type_at nodes id ≡ level (unfolded nodes) n → HasChildrenBelow id n → IsSound (type_at nodes id)
    → length small ≤ length ids → id < length nodes → length nodes ≤ most_nodes → m ≡ renumbered ids n → refusal small m ≡ None
unrefused small nodes ids id n m long same is below sound few within most renamed =
    let agree : Agree id ids (unfolded small) (unfolded nodes) = λ i h. (numbered small nodes ids i same (subst (λ k. i < k) long h)).1 in
    let less : Below id ids (length small) = λ i h. (numbered small nodes ids i same (subst (λ k. i < k) long h)).0 in
    let tree = level_same id ids (unfolded small) (unfolded nodes) n agree below ∙ sym is in
    let room : nat_le 65536 (length small) ≡ false = lt-leb 65536 (length small) (omega (arith, long, few, within, most)) in
    let all : children_below (length small) (renumbered ids n) ≡ true = all_below id (length small) ids n less below in
    let plain : level_refusal (level (unfolded small) (renumbered ids n)) ≡ None =
    ap level_refusal tree ∙ sound_level (type_at nodes id) sound in
    subst (λ (x : Node). refusal small x ≡ None) (sym renamed) (rw (room, all, plain) refl)

-- an error that is none but for memory
pub no_other : {A : Type 0} (r : Option A) (x : A) → r ≡ None → r ≡ Some x → ⊥
no_other r x none some = let same = sym none ∙ some in absurd cc
