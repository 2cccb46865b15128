-- The most octets that a block appends, by the type of its value.
use Rattle.std.specs.Prelude.{ℕ, ◌+◌, ◌-◌, ◌*◌, ◌≤◌, max, List, [], ◌∷◌, length, Option, None, Some, if◌then◌else◌}
use Rattle.std.specs.Ordering.{int_eq}
use Rattle.mint.specs.declared.kind.Count.{Count}
use Rattle.mint.specs.declared.kind.Count.TheVariants.{Exactly, AtMost, Any}
use Rattle.mint.specs.Types.{Ty, Arms, no_other, others, arm_type}
use Rattle.mint.specs.Typed.{IsOf}
use Rattle.mint.specs.Values.{Val}
use Rattle.wire_def.specs.declared.head.Head.{Head}
use Rattle.wire_def.specs.Scalars.{gap}
use Rattle.cast_stub.specs.Parts.{on_some}
use Rattle.cast_stub.specs.PartTypes.{element_at, present_at, arms_at}
use Rattle.cast_stub.specs.Block.{Block, stop, align, chunk, each, switch, if_there, patch, Cases, no_default, default, case}
use Rattle.cast_stub.specs.Steps.{Step, Room, Pad, Stored, Widened, Copied, Patched, Steps, Calls, steps}

-- ---- bounds

-- the greatest length of a list
abbrev pub most : Count → Option ℕ
most (Exactly m) = Some m
most (AtMost m) = Some m
most Any = None

-- one bound and another
abbrev pub plus : Option ℕ → Option ℕ → Option ℕ
plus None n = None
plus (Some m) None = None
plus (Some m) (Some n) = Some (m + n)

-- a bound so many times
abbrev pub times : Option ℕ → Option ℕ → Option ℕ
times None n = None
times (Some m) None = None
times (Some m) (Some n) = Some (m * n)

-- the greater of two bounds
abbrev pub greater : Option ℕ → Option ℕ → Option ℕ
greater None n = None
greater (Some m) None = None
greater (Some m) (Some n) = Some (max m n)

-- the most octets that code without ensures, rows as a block and calls appends, if they are bounded
abbrev mutual
  pub bound : Ty → Block → Option ℕ
  bound t stop = Some 0
  bound t (align a r) = plus (Some (a - 1)) (bound t r)
  bound t (chunk s ps r) = plus (Some s) (bound t r)
  bound t (each p b r) = plus (on_some (element_at p t) (λ e. times (most e.1) (bound e.0 b))) (bound t r)
  bound t (switch p cs r) = plus (on_some (arms_at p t) (λ arms. cases_bound arms cs)) (bound t r)
  bound t (if_there p b r) = plus (on_some (present_at p t) (λ u. bound u b)) (bound t r)
  bound t (patch a s o r) = bound t r
  bound t _ = None

  -- the same of bodies in the order of the arms
  pub cases_bound : Arms → Cases → Option ℕ
  cases_bound no_other no_default = Some 0
  cases_bound (others t) (default b) = bound t b
  cases_bound (arm_type n t arms) (case m b cs) = if int_eq n m then greater (bound t b) (cases_bound arms cs) else None
  cases_bound _ _ = None

-- ---- what they bound

-- how many octets steps append from a position on
abbrev pub appended : ℕ → List Step → ℕ
appended p [] = 0
appended p (Room n ∷ ss) = appended p ss
appended p (Pad a ∷ ss) = gap p a + appended (p + gap p a) ss
appended p (Stored os k ∷ ss) = length os + appended (p + length os) ss
appended p (Widened os k ∷ ss) = length os + appended (p + length os) ss
appended p (Copied os ∷ ss) = length os + appended (p + length os) ss
appended p (Patched at sub order ∷ ss) = appended p ss

-- steps append at most so many octets from anywhere, if both are there
abbrev pub Within : Steps → Option ℕ → Type 0
Within None n = Unit {0}
Within (Some ss) None = Unit {0}
Within (Some ss) (Some n) = (p : ℕ) → appended p ss ≤ n

-- steps append at most the bound of their code
abbrev pub BoundsHold : Type 0
BoundsHold = (c : Calls) (h : Head) (b : Block) (t : Ty) (v : Val) → IsOf t v → Within (steps c h b v) (bound t b)
