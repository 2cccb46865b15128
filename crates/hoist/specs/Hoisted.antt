-- Ensures before operations, from the last operation to the first.
use Rattle.std.specs.Prelude.{◌≡◌, ℕ, zero, suc, ◌+◌, ◌-◌, List, Option, None, Some, nat_lt, Bool, true, false}
use Rattle.mint.specs.Types.{Ty, void_type, items_type, Arms, no_other, others, arm_type}
use Rattle.cast_stub.specs.Parts.{on_some, IsThere}
use Rattle.cast_stub.specs.Block.{Block, stop, ensure, ensure_row, align, chunk, each, switch, if_there, patch, Cases, no_default, default, case}
use Rattle.cast_stub.specs.PartTypes.{ty_at, element_at, present_at, arms_at}
use Rattle.hoist.specs.Bound.{most, times, bound, cases_bound}

-- what is ensured before the operations so far
pub data Pending : Type 0 where
  nothing : Pending
  -- so many octets, and the greatest lengths of the small parts among them
  octets : ℕ → ℕ → Pending
  -- a length, multiplied and raised
  row : List ℕ → ℕ → ℕ → Pending

-- code, and what is to be ensured before it
abbrev pub Hoisted : Type 0
Hoisted = Block × Pending

-- so many octets, if there are any
abbrev pub some_octets : ℕ → ℕ → Pending
some_octets zero k = nothing
some_octets (suc n) k = octets (suc n) k

-- the code with its ensure before it
abbrev pub closed : Hoisted → Block
closed (c, nothing) = c
closed (c, octets n k) = ensure n c
closed (c, row p u n) = ensure_row p u n c

-- how the room of an operation is ensured
pub data Plan : Type 0 where
  -- with what is ensured after it
  flat : ℕ → Plan
  -- the same, as a small part of a greatest length, unless what is ensured after it is a row or is enough
  small : ℕ → ℕ → Plan
  -- by the length of a list, multiplied
  loop : List ℕ → ℕ → Plan
  -- each of its bodies by itself
  apart : Plan

-- so many octets more
abbrev pub raised : ℕ → Pending → Pending
raised n nothing = some_octets n 0
raised n (octets m k) = octets (m + n) k
raised n (row p u m) = row p u (m + n)

-- the greatest lengths that are ensured together, up to one more part
abbrev pub enough : ℕ
enough = 8192

-- a small part before code with octets ensured: by itself, or together with them
abbrev pub beside : Bool → ℕ → ℕ → ℕ → ℕ → Block → Hoisted
beside true n k m j c = (ensure m c, some_octets n k)
beside false n k m j c = (c, octets (m + n) (j + k))

-- code before which an operation comes, with what is ensured before both
abbrev pub settled : Plan → Hoisted → Hoisted
settled (flat n) (c, p) = (c, raised n p)
settled (small n k) (c, nothing) = (c, some_octets n k)
settled (small n k) (c, octets m j) = beside (nat_lt enough j) n k m j c
settled (small n k) (c, row q w m) = (ensure_row q w m c, some_octets n k)
settled (loop p u) (c, nothing) = (c, row p u 0)
settled (loop p u) (c, octets n k) = (c, row p u n)
settled (loop p u) (c, row q w m) = (ensure_row q w m c, row p u 0)
settled apart x = (closed x, nothing)

-- what an operation over a part is: small, with its greatest length; a list whose elements are alike; or neither
pub data Role : Type 0 where
  is_small : ℕ → Role
  is_row : Role
  is_break : Role

-- the roles of operations over the parts at paths of a type
abbrev pub Roles : Type 0
Roles = Ty → List ℕ → Role

-- the plan of a loop, by its bound and that of one turn
abbrev pub loop_plan : Role → Option ℕ → Option ℕ → List ℕ → Plan
loop_plan (is_small k) (Some n) u p = small n k
loop_plan is_row n (Some u) p = loop p u
loop_plan _ n u p = apart

-- the plan of other bodies, by their bound
abbrev pub body_plan : Role → Option ℕ → Plan
body_plan (is_small k) (Some n) = small n k
body_plan _ n = apart

-- the bound of one turn of a loop
abbrev pub turn_bound : List ℕ → Ty → Block → Option ℕ
turn_bound p t b = on_some (element_at p t) (λ e. bound e.0 b)

-- the plan of an `each`
abbrev pub each_plan : Roles → Ty → List ℕ → Block → Plan
each_plan ro t p b = loop_plan (ro t p) (on_some (element_at p t) (λ e. times (most e.1) (bound e.0 b))) (turn_bound p t b) p

-- the plan of a `some`
abbrev pub some_plan : Roles → Ty → List ℕ → Block → Plan
some_plan ro t p b = body_plan (ro t p) (on_some (present_at p t) (λ u. bound u b))

-- the plan of a `switch`
abbrev pub switch_plan : Roles → Ty → List ℕ → Cases → Plan
switch_plan ro t p cs = body_plan (ro t p) (on_some (arms_at p t) (λ arms. cases_bound arms cs))

-- a body, or the one that is hoisted by itself
abbrev pub kept : {A : Type 0} → Plan → A → A → A
kept apart b b' = b'
kept _ b b' = b

-- the type of the elements of a list that is not a row
abbrev pub items_in_type : Ty → Option Ty
items_in_type (items_type c t) = Some t
items_in_type _ = None

-- the type of the elements at a path
abbrev pub items_at : List ℕ → Ty → Option Ty
items_at p t = on_some (ty_at p t) items_in_type

-- a type, or that of nothing
abbrev pub or_void : Option Ty → Ty
or_void None = void_type
or_void (Some t) = t

-- arms, or none
abbrev pub or_none : Option Arms → Arms
or_none None = no_other
or_none (Some arms) = arms

abbrev mutual
  pub hoisted : Roles → Ty → Block → Hoisted
  hoisted ro t (align a r) = let x = settled (flat (a - 1)) (hoisted ro t r) in (align a x.0, x.1)
  hoisted ro t (chunk s ps r) = let x = settled (flat s) (hoisted ro t r) in (chunk s ps x.0, x.1)
  hoisted ro t (patch a s o r) = let x = hoisted ro t r in (patch a s o x.0, x.1)
  hoisted ro t (each p b r) =
      let x = settled (each_plan ro t p b) (hoisted ro t r) in
      (each p (kept (each_plan ro t p b) b (closed (hoisted ro (or_void (items_at p t)) b))) x.0, x.1)
  hoisted ro t (if_there p b r) =
      let x = settled (some_plan ro t p b) (hoisted ro t r) in
      (if_there p (kept (some_plan ro t p b) b (closed (hoisted ro (or_void (present_at p t)) b))) x.0, x.1)
  hoisted ro t (switch p cs r) =
      let x = settled (switch_plan ro t p cs) (hoisted ro t r) in
      (switch p (kept (switch_plan ro t p cs) cs (cases_hoisted ro (or_none (arms_at p t)) cs)) x.0, x.1)
  hoisted ro t c = (c, nothing)

  -- bodies in the order of the arms
  pub cases_hoisted : Roles → Arms → Cases → Cases
  cases_hoisted ro (others t) (default b) = default (closed (hoisted ro t b))
  cases_hoisted ro (arm_type n t arms) (case m b cs) = case m (closed (hoisted ro t b)) (cases_hoisted ro arms cs)
  cases_hoisted ro arms cs = cs

-- ---- code that is taken

-- of a type that is there
abbrev pub InType : {A : Type 0} → Option A → (A → Type 0) → Type 0
InType None P = ⊥
InType (Some a) P = P a

-- a fact of a loop over elements that are alike
abbrev pub IfRow : Role → Type 0 → Type 0
IfRow is_row P = P
IfRow _ P = Unit {0}

-- bodies that are hoisted by themselves
abbrev pub WhereApart : Plan → Type 0 → Type 0
WhereApart apart P = P
WhereApart _ P = Unit {0}

abbrev mutual
  -- without ensures, rows as a block and calls; bodies that are hoisted by themselves are of parts that are there, and
  -- turns over elements that are alike are bounded
  pub IsTaken : Roles → Ty → Block → Type 0
  IsTaken ro t stop = Unit {0}
  IsTaken ro t (align a r) = IsTaken ro t r
  IsTaken ro t (chunk s ps r) = IsTaken ro t r
  IsTaken ro t (patch a s o r) = IsTaken ro t r
  IsTaken ro t (each p b r) = WhereApart (each_plan ro t p b) (InType (items_at p t) (λ u. IsTaken ro u b))
      × IfRow (ro t p) (IsThere (turn_bound p t b)) × IsTaken ro t r
  IsTaken ro t (if_there p b r) = WhereApart (some_plan ro t p b) (InType (present_at p t) (λ u. IsTaken ro u b)) × IsTaken ro t r
  IsTaken ro t (switch p cs r) = WhereApart (switch_plan ro t p cs) (InType (arms_at p t) (λ arms. CasesTaken ro arms cs)) × IsTaken ro t r
  IsTaken ro t _ = ⊥

  -- the same of the bodies of a switch, in the order of the arms
  pub CasesTaken : Roles → Arms → Cases → Type 0
  CasesTaken ro no_other no_default = Unit {0}
  CasesTaken ro (others t) (default b) = IsTaken ro t b
  CasesTaken ro (arm_type n t arms) (case m b cs) = (n ≡ m) × IsTaken ro t b × CasesTaken ro arms cs
  CasesTaken ro _ _ = ⊥
