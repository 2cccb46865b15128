-- What the parts of a type are, and where a row is pending.
use Rattle.std.proofs.Common.{◌≡◌, ℕ, suc, ◌+◌, ◌≤◌, List, [], Option, None, Some, refl, ap, ◌∙◌, arith, Bool, true, false, nat_le, if◌then◌else◌}
use Rattle.std.proofs.lemmas.Bool.Decides.{nat_tests}
use Rattle.mint.specs.Types.{Ty, array_type, group_type, items_type, choice_type, maybe_type}
use Rattle.mint.specs.Values.{Val, group, items, arm, absent, present, Vals, val}
use Rattle.cast_stub.specs.Parts.{on_some, at, elements_in, IsThere}
use Rattle.cast_stub.specs.Parts as part
use Rattle.cast_stub.specs.PartTypes.{ty_at}
use Rattle.hoist.specs.Hoisted.{Pending, nothing, octets, row, Hoisted, loop, settled, Role, is_small, is_row, loop_plan}
use Rattle.hoist.specs.Regions.{Sizes, Part, lone, is_light, light_or, or_zero, parts, on_way, roles, role_at, role_of, weight_at}
use Rattle.hoist.proofs.Weighing.{low, high}

pub either_way : (x : Bool) (G : Type 0) → (x ≡ true → G) → (x ≡ false → G) → G
either_way true G f g = f refl
either_way false G f g = g refl

pub light_top : (x : Option ℕ) → is_light x ≡ true → (n : ℕ) × (x ≡ Some n) × (n ≤ 8192)
light_top None e = absurd cc
light_top (Some n) e = (n, refl, grind (arith, nat_tests, e))

pub light_is : (n : ℕ) (x : Option ℕ) → x ≡ Some n → n ≤ 8192 → is_light x ≡ true
light_is n x e le = let t : nat_le n 8192 ≡ true = grind (arith, nat_tests, le) in ap is_light e ∙ t

pub light_parts : (x : Option ℕ) (ps : List Part) (n : ℕ) → is_light x ≡ true → x ≡ Some n → light_or x ps ≡ lone n
light_parts x ps n e f = ap (λ (b : Bool). if b then lone (or_zero x) else ps) e ∙ ap (λ (y : Option ℕ). lone (or_zero y)) f

pub heavy_or : (x : Option ℕ) (ps : List Part) → is_light x ≡ false → light_or x ps ≡ ps
heavy_or x ps e = ap (λ (b : Bool). if b then lone (or_zero x) else ps) e

pub parts_are : (z : Sizes) (t : Ty) (w : Val) → (ps : List Part) × (parts z t w ≡ light_or (z.top t) ps)
parts_are z (group_type ts) (group vs) = (_, refl)
parts_are z (array_type a) w = (_, refl)
parts_are z (items_type k t) (items vs) = (_, refl)
parts_are z (choice_type s arms) (arm n w) = (_, refl)
parts_are z (maybe_type t) absent = (_, refl)
parts_are z (maybe_type t) (present w) = (_, refl)
parts_are z _ _ = ([], refl)

pub low_high : (p : Pending) → low p ≤ high p
low_high nothing = omega arith
low_high (octets n j) = omega arith
low_high (row p u n) = omega arith

-- the values of fields from a number on
abbrev pub ValuesFrom : ℕ → Vals → Vals → Type 0
ValuesFrom i all vs = (j : ℕ) → part.field (i + j) all ≡ part.field j vs

pub values-first : (vs : Vals) → ValuesFrom 0 vs vs
values-first vs j = let e : 0 + j ≡ j = omega arith in ap (λ (k : ℕ). part.field k vs) e

pub values-next : (i : ℕ) (all : Vals) (w : Val) (vs : Vals) → ValuesFrom i all (val w vs) → ValuesFrom (suc i) all vs
values-next i all w vs h j = let e : suc i + j ≡ i + suc j = omega arith in ap (λ (k : ℕ). part.field k all) e ∙ h (suc j)

pub values-head : (i : ℕ) (all : Vals) (w : Val) (vs : Vals) → ValuesFrom i all (val w vs) → part.field i all ≡ Some w
values-head i all w vs h = let e : i ≡ i + 0 = omega arith in ap (λ (k : ℕ). part.field k all) e ∙ h 0

-- a row is pending
abbrev pub IsRow : Pending → Type 0
IsRow (row p u n) = Unit {0}
IsRow _ = ⊥

pub loop_row : (role : Role) (n u : Option ℕ) (p : List ℕ) → role ≡ is_row → IsThere u → (m : ℕ) × (loop_plan role n u p ≡ loop p m)
loop_row role n None p e there = absurd there
loop_row role n (Some m) p e there = (m, ap (λ (r : Role). loop_plan r n (Some m) p) e)

pub heavy_role : (z : Sizes) (p : List ℕ) (t0 t : Ty) → on_way z p t0 ≡ false → ty_at p t0 ≡ Some t → roles z t0 p ≡ role_of z t
heavy_role z p t0 t way is =
    ap (λ (b : Bool). if b then is_small (weight_at z (ty_at p t0)) else role_at z (ty_at p t0)) way ∙ ap (role_at z) is

pub row_settled : (p : List ℕ) (u : ℕ) (x : Hoisted) → IsRow (settled (loop p u) x).1
row_settled p u (b, nothing) = tt
row_settled p u (b, octets n j) = tt
row_settled p u (b, row q w m) = tt
