-- When a send code goes through a type in order.
use Rattle.std.specs.Prelude.{◌≡◌, ◌⊎◌, ℕ, suc, ◌+◌, ◌-◌, ◌<◌, ◌≤◌, List, [], ◌∷◌, ◌++◌, length, Option, None, Some, option_map, Bool, true, false, if◌then◌else◌}
use Rattle.std.specs.List.{list_any}
use Rattle.mint.specs.declared.kind.Count.{Count}
use Rattle.mint.specs.declared.kind.Count.TheVariants.{Exactly}
use Rattle.mint.specs.declared.node.Node.{Node}
use Rattle.mint.specs.Types.{Array, Ty, void_type, scalar_type, array_type, group_type, items_type, choice_type, maybe_type, Tys, no_fields, field, Arms, no_other, others, arm_type, type_at}
use Rattle.cast_stub.specs.declared.put.Put.{Put}
use Rattle.cast_stub.specs.declared.put.Put.TheVariants as put
use Rattle.cast_stub.specs.declared.send.SendOp.{SendOp}
use Rattle.cast_stub.specs.Block.{Block, stop, align, chunk, each, switch, if_there, call, Cases, no_default, default, case}
use Rattle.cast_stub.specs.Append.{append}
use Rattle.cast_stub.specs.Subs.{sub_at}

-- how many puts and aligns a block of chunks and aligns alone has
abbrev pub flat : Block → Option ℕ
flat stop = Some 0
flat (chunk s ps r) = option_map (λ n. length ps + n) (flat r)
flat (align a r) = option_map suc (flat r)
flat _ = None

-- chunks and aligns alone, with at most so many puts and aligns
abbrev pub IsFlat : ℕ → Block → Type 0
IsFlat most b = (n : ℕ) × (flat b ≡ Some n) × (n ≤ most)

-- the put of the current value, a number
abbrev pub is_own : Put → Bool
is_own (put.Num off [] w o) = true
is_own _ = false

-- one where chunks and aligns put the current value, else 0
abbrev pub own_put : Block → ℕ
own_put (chunk s ps r) = if list_any is_own ps then 1 else own_put r
own_put (align a r) = own_put r
own_put _ = 0

-- a loop with chunks and aligns in its turn, before it and after it, which have few puts and aligns besides the number's own
abbrev pub IsLoop : List ℕ → Block → Type 0
IsLoop p b = (before : Block) × (turn : Block) × (after : Block) × (k : ℕ) × (l : ℕ) × (m : ℕ)
    × (b ≡ append before (each p turn after)) × (flat before ≡ Some k) × (flat turn ≡ Some l) × (flat after ≡ Some m)
    × (l ≤ 3) × (k + (l - own_put turn) + m ≤ 3)

-- what comes before the loop over a list
abbrev pub IsCount : Count → Block → Type 0
IsCount (Exactly n) b = b ≡ stop
IsCount _ b = IsFlat 3 b

-- what is said of code for the value at a path, whose calls name codes below a number
abbrev pub Going : Type 1
Going = ℕ → List ℕ → Block → Type 0

-- a child's own code, or one call of such a code
abbrev pub Child : (ℕ → Option Block) → Going → Going
Child subs F below p b = F below p b ⊎ ((k : ℕ) × (code : Block) × (b ≡ call k p stop) × (k < below) × (subs k ≡ Some code) × F k [] code)

-- what the code of a row or text is, for the value at a path
abbrev pub Loops : Type 1
Loops = Array → List ℕ → Block → Type 0

abbrev mutual
  -- each operation in the type's order, where L says what the code of a row or text is
  pub FollowsBy : Loops → (ℕ → Option Block) → Ty → Going
  FollowsBy L subs void_type below p b = IsFlat 0 b
  FollowsBy L subs (scalar_type s) below p b = IsFlat 3 b
  FollowsBy L subs (array_type a) below p b = L a p b
  FollowsBy L subs (group_type ts) below p b = FieldsFollowBy L subs ts 0 below p b
  FollowsBy L subs (items_type c t) below p b = (a : Block) × (body : Block) × (b ≡ append a (each p body stop)) × IsCount c a
      × Child subs (FollowsBy L subs t) below [] body
  FollowsBy L subs (choice_type s arms) below p b = (a : Block) × (cases : Cases) × (b ≡ append a (switch p cases stop)) × IsFlat 3 a
      × ArmsFollowBy L subs arms below cases
  FollowsBy L subs (maybe_type t) below p b = (a : Block) × (body : Block) × (b ≡ append a (if_there p body stop)) × IsFlat 3 a
      × Child subs (FollowsBy L subs t) below [] body

  -- the fields, the first of them of this number
  pub FieldsFollowBy : Loops → (ℕ → Option Block) → Tys → ℕ → Going
  FieldsFollowBy L subs no_fields i below p b = b ≡ stop
  FieldsFollowBy L subs (field t ts) i below p b = (a : Block) × (r : Block) × (b ≡ append a r)
      × Child subs (FollowsBy L subs t) below (p ++ i ∷ []) a × FieldsFollowBy L subs ts (suc i) below p r

  -- a body for each arm, and for the default
  pub ArmsFollowBy : Loops → (ℕ → Option Block) → Arms → ℕ → Cases → Type 0
  ArmsFollowBy L subs no_other below cases = cases ≡ no_default
  ArmsFollowBy L subs (others t) below cases = (b : Block) × (cases ≡ default b) × Child subs (FollowsBy L subs t) below [] b
  ArmsFollowBy L subs (arm_type n t arms) below cases = (b : Block) × (cs : Cases) × (cases ≡ case n b cs)
      × Child subs (FollowsBy L subs t) below [] b × ArmsFollowBy L subs arms below cs

-- each operation in the type's order, at the path of its value
abbrev pub Follows : (ℕ → Option Block) → Ty → Going
Follows = FollowsBy (λ a. IsLoop)

-- the fields, the first of them of this number
abbrev pub FieldsFollow : (ℕ → Option Block) → Tys → ℕ → Going
FieldsFollow = FieldsFollowBy (λ a. IsLoop)

-- a body for each arm, and for the default
abbrev pub ArmsFollow : (ℕ → Option Block) → Arms → ℕ → Cases → Type 0
ArmsFollow = ArmsFollowBy (λ a. IsLoop)

-- each code of a list goes through the node of its number
abbrev pub AllFollow : List Node → List (List SendOp) → Type 0
AllFollow nodes subs = (k : ℕ) (b : Block) → sub_at subs k ≡ Some b → Follows (sub_at subs) (type_at nodes k) k [] b
