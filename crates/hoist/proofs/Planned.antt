-- Plans by the roles of operations and the bounds of their bodies.
use Rattle.std.proofs.Common.{◌≡◌, ℕ, List, Option, ap, ◌∙◌}
use Rattle.hoist.specs.Hoisted.{Role, loop_plan}

-- the plan of a loop, by what its role and its bounds are
pub loop-is : (role role' : Role) (n n' u u' : Option ℕ) (p : List ℕ) → role ≡ role' → n ≡ n' → u ≡ u'
    → loop_plan role n u p ≡ loop_plan role' n' u' p
loop-is role role' n n' u u' p e f g = ap (λ (r : Role). loop_plan r n u p) e ∙ ap (λ (m : Option ℕ). loop_plan role' m u p) f
    ∙ ap (λ (m : Option ℕ). loop_plan role' n' m p) g
