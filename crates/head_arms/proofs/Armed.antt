-- The numbers of arms are grammars.
use Rattle.std.proofs.Common.{◌≡◌, ℕ, zero, suc, List, refl}
use Rattle.wire_def.specs.declared.fault.HeadErr.{HeadErr}
use Rattle.wire_def.specs.Grammar.{Reader, Spelling, Stopping, IsGrammar, got}
use Rattle.wire_def.proofs.Grammars.{done}
use Rattle.head_arms.specs.Arms.{ArmSpells, ArmStops, read_arm}

pub arm_is : {read : Reader HeadErr ℕ} {Spells : Spelling ℕ} {Stops : Stopping HeadErr} (arms : ℕ) → IsGrammar read Spells Stops
    → IsGrammar (read_arm arms read) (ArmSpells arms Spells) (ArmStops arms Stops)
arm_is {read} {Spells} {Stops} zero g = done 0 (ArmSpells 0 Spells) (λ p. (refl, refl)) (λ p o y h. h)
arm_is {read} {Spells} {Stops} (suc n) g = g

-- where an operation raises nothing, no number is read
pub no_arm : (arms : ℕ) (read : Reader HeadErr ℕ) (p : ℕ) (o : List ℕ) → arms ≡ 0 → read_arm arms read p o ≡ got 0 p o
no_arm zero read p o none = refl
no_arm (suc n) read p o none = absurd cc

-- and where it raises exceptions, one is
pub some_arm : (arms : ℕ) (read : Reader HeadErr ℕ) (p : ℕ) (o : List ℕ) → (arms ≡ 0 → ⊥) → read_arm arms read p o ≡ read p o
some_arm zero read p o some = absurd (some refl)
some_arm (suc n) read p o some = refl

pub ruleset arms_read = (no_arm, some_arm)
