-- A node of a table unfolds to its level over the trees of the table, by induction on the nodes.
use Rattle.std.proofs.Common.{◌≡◌, ℕ, zero, suc, ◌+◌, ◌<◌, ℤ, List, [], ◌∷◌, ◌++◌, length, Option, None, Some, slice_get, refl, sym, ap, ◌∙◌, arith, length-append, add-zero, zero-add, Bor}
use Rattle.std.proofs.Math.ListN.{get_or-append}
use Rattle.std.specs.Option.{option_copied, IfSome}
use Rattle.std.proofs.Math.Seq.{get_or-append_seam}
use Rattle.std.specs.List.{AllByRecursion}
use Rattle.mint.specs.Types.{Ty, void_type, group_type, items_type, choice_type, maybe_type, others, at, fields_at, others_at, arms_at, scalar_of, level, unfolded_from, unfolded, type_at, AreBelow, IsBelow, HasChildrenBelow, IsTable}
use Rattle.mint.specs.declared.node.Node.{Node}
use Rattle.mint.specs.declared.node.Node.TheVariants as node

-- two lists of trees that are alike below k
abbrev AgreeBelow : ℕ → List Ty → List Ty → Type 0
AgreeBelow k ts us = (i : ℕ) → i < k → at ts i ≡ at us i

fields_agree : (k : ℕ) (ts us : List Ty) (is : List ℕ) → AgreeBelow k ts us → AreBelow k is → fields_at ts is ≡ fields_at us is
fields_agree k ts us [] same below = refl
fields_agree k ts us (i ∷ is) same below = rw (same i below.0, fields_agree k ts us is same below.1) refl

others_agree : (k : ℕ) (ts us : List Ty) (o : Option ℕ) → AgreeBelow k ts us → IsBelow k o → others_at ts o ≡ others_at us o
others_agree k ts us None same below = refl
others_agree k ts us (Some i) same below = ap others (same i below)

arms_agree : (k : ℕ) (ts us : List Ty) (arms : List (ℤ × ℕ)) (o : Option ℕ) → AgreeBelow k ts us
    → AllByRecursion (λ a. a.1 < k) arms → IsBelow k o
    → arms_at ts arms o ≡ arms_at us arms o
arms_agree k ts us [] o same below last = others_agree k ts us o same last
arms_agree k ts us (a ∷ arms) o same below last = rw (same a.1 below.0, arms_agree k ts us arms o same below.1 last) refl

-- a level sees only the children
level_agree : (k : ℕ) (ts us : List Ty) (n : Node) → AgreeBelow k ts us → HasChildrenBelow k n → level ts n ≡ level us n
level_agree k ts us node.Void same below = refl
level_agree k ts us (node.Num x) same below = refl
level_agree k ts us (node.Enum x) same below = refl
level_agree k ts us (node.Text c) same below = refl
level_agree k ts us (node.Row x c) same below = refl
level_agree k ts us (node.Group ids) same below = ap group_type (fields_agree k ts us ids same below)
level_agree k ts us (node.Items i c) same below = ap (items_type c) (same i below)
level_agree k ts us (node.Choice t arms o) same below = ap (choice_type (scalar_of t)) (arms_agree k ts us arms o same below.0 below.1)
level_agree k ts us (node.Maybe i) same below = ap maybe_type (same i below)

-- what is there stays
stays : (ts : List Ty) (nodes : List Node) (i : ℕ) → i < length ts → at (unfolded_from ts nodes) i ≡ at ts i
unfolding unfolded_from
stays ts [] i h = refl
stays ts (n ∷ nodes) i h =
    stays (ts ++ level ts n ∷ []) nodes i (omega (arith, length-append ts (level ts n ∷ [])))
    ∙ get_or-append ts (level ts n ∷ []) void_type i h

stands : (ts : List Ty) (nodes : List Node) (k : ℕ) (n : Node) → slice_get nodes k ≡ Some n → HasChildrenBelow (length ts + k) n
    → at (unfolded_from ts nodes) (length ts + k) ≡ level (unfolded_from ts nodes) n
unfolding unfolded_from
stands ts [] k n is below = cc
stands ts (m ∷ nodes) zero n is below =
    let same : m ≡ n = cc in
    let more : List Ty = ts ++ level ts m ∷ [] in
    let long : length more ≡ length ts + 1 = length-append ts (level ts m ∷ []) in
    let agree : AgreeBelow (length ts) ts (unfolded_from more nodes) =
    λ i h. sym (stays more nodes i (omega arith) ∙ get_or-append ts (level ts m ∷ []) void_type i h) in
    rw add-zero (
    stays more nodes (length ts) (omega arith) ∙ get_or-append_seam ts (level ts m) [] void_type
    ∙ ap (level ts) same ∙ level_agree (length ts) ts (unfolded_from more nodes) n agree (rw add-zero at below))
stands ts (m ∷ nodes) (suc k) n is below =
    let more : List Ty = ts ++ level ts m ∷ [] in
    let long : length more + k ≡ length ts + suc k = omega (arith, length-append ts (level ts m ∷ [])) in
    rw (← long) (stands more nodes k n is (rw (← long) at below))

pub type_at-level : (nodes : List Node) (k : ℕ) (n : Node) → IsTable nodes → slice_get nodes k ≡ Some n
    → type_at nodes k ≡ level (unfolded nodes) n
unfolding unfolded
type_at-level nodes k n table is = rw zero-add at (stands [] nodes k n is (rw zero-add (table k n is)))

pub level_found : (nodes : List Node) (k : ℕ) (r : Option (Bor Node)) → IsTable nodes → option_copied r ≡ slice_get nodes k
    → IfSome r (λ n. type_at nodes k ≡ level (unfolded nodes) n.now)
level_found nodes k None table is = tt
level_found nodes k (Some n) table is = type_at-level nodes k n.now table (sym is)

pushed : (ts : List Ty) (nodes : List Node) (n : Node)
    → unfolded_from ts (nodes ++ n ∷ []) ≡ unfolded_from ts nodes ++ level (unfolded_from ts nodes) n ∷ []
unfolding unfolded_from
pushed ts [] n = refl
pushed ts (m ∷ nodes) n = pushed (ts ++ level ts m ∷ []) nodes n

-- one more node after a table
pub unfolded-push : (nodes : List Node) (n : Node) → unfolded (nodes ++ n ∷ []) ≡ unfolded nodes ++ level (unfolded nodes) n ∷ []
unfolding unfolded
unfolded-push nodes n = pushed [] nodes n
