-- The nodes of a table stand behind their children, one node after the other.
use Rattle.std.proofs.Common.{◌≡◌, ℕ, ◌+◌, ◌<◌, Bool, true, false, ltb, List, length, Option, Some, None, Bor, slice_get, refl, sym, ◌∙◌, subst, arith, ltb-true}
use Rattle.std.specs.Prelude.{IfSome}
use Rattle.std.specs.Option.{option_copied}
use Rattle.std.proofs.lemmas.Bool.Decides.{nat_tests}
use Rattle.std.proofs.lemmas.Option.{slice_get_within}
use Rattle.mint.specs.declared.node.Node.{Node}
use Rattle.mint.specs.Types.{HasChildrenBelow, IsTable}

-- the first so many nodes do
abbrev pub AreBelow : List Node → ℕ → Type 0
AreBelow nodes k = (j : ℕ) (n : Node) → j < k → slice_get nodes j ≡ Some n → HasChildrenBelow j n

same_node : (m n : Node) → Some m ≡ Some n → m ≡ n
same_node m n e = cc e

at_node : (nodes : List Node) (k : ℕ) (n : Node) (o : Option (Bor Node)) → option_copied o ≡ slice_get nodes k
    → IfSome o (λ m. HasChildrenBelow k m.now) → slice_get nodes k ≡ Some n → HasChildrenBelow k n
at_node nodes k n None e h is = absurd (cc (e, is))
at_node nodes k n (Some m) e h is = subst (HasChildrenBelow k) (same_node m.now n (e ∙ is)) h

-- one node more
pub one_below : (nodes : List Node) (k : ℕ) (o : Option (Bor Node)) → option_copied o ≡ slice_get nodes k
    → IfSome o (λ m. HasChildrenBelow k m.now) → AreBelow nodes k → AreBelow nodes (k + 1)
one_below nodes k o e h below j n less is = go (ltb j k) refl where
  go : (b : Bool) → ltb j k ≡ b → HasChildrenBelow j n
  go true t = below j n (ltb-true j k t) is
  go false t =
      let last : k ≡ j = grind (arith, nat_tests, t, less) in
      subst (λ (i : ℕ). HasChildrenBelow i n) last
      (at_node nodes k n o e h (subst (λ (i : ℕ). slice_get nodes i ≡ Some n) (sym last) is))

-- all of them
pub all_below : (nodes : List Node) (k : ℕ) → AreBelow nodes k → k ≡ length nodes → IsTable nodes
all_below nodes k below all j n is = below j n (subst (λ (m : ℕ). j < m) (sym all) (slice_get_within nodes j n is)) is
