-- The octets of a chunk, by the puts that they are of.
use Rattle.std.specs.Prelude.{ℕ, zero, suc, ◌+◌, ◌-◌, Bool, true, false, List, [], ◌∷◌, length, map, Option, Some, None, option_map, slice_get, slice_index, if◌then◌else◌}
use Rattle.std.specs.List.{range_with_len}
use Rattle.wire_def.specs.declared.head.Order.{Order}
use Rattle.wire_def.specs.declared.head.Order.TheVariants.{Big, Little}
use Rattle.cast_stub.specs.declared.put.Put.{Put}
use Rattle.cast_stub.specs.declared.put.Put.TheVariants as put
use Rattle.cast_stub.specs.Parts.{on_some}
use Rattle.cast_stub.specs.Steps.{is_width}
use Rattle.stub_flat.specs.Items.{num, tag, flag, count, short, head, Cell, fixed, part}

-- the octet of a put's number with so many less significant ones; the octet of a constant at a place
abbrev pub cell_of : Put → ℕ → Cell
cell_of (put.Num off p w o) k = part (num p) k
cell_of (put.Tag off p w o) k = part (tag p) k
cell_of (put.Flag off p w o) k = part (flag p) k
cell_of (put.Count off p m a w o) k = part (count p m a) k
cell_of (put.Short off p name size m) k = part (short p name size m) k
cell_of (put.Const off os) k = fixed (slice_index os k)
cell_of (put.Head off f w o) k = part (head f) k

-- so many octets, if that is a width
abbrev pub wide : ℕ → Option ℕ
wide w = if is_width w then Some w else None

-- how many octets a put has, if it has a width
abbrev pub put_length : Put → Option ℕ
put_length (put.Num off p w o) = wide w
put_length (put.Tag off p w o) = wide w
put_length (put.Flag off p w o) = wide w
put_length (put.Count off p m a w o) = wide w
put_length (put.Short off p name size m) = Some 4
put_length (put.Const off os) = Some (length os)
put_length (put.Head off f w o) = wide w

-- so many and those of others, if both are known
abbrev pub plus : Option ℕ → Option ℕ → Option ℕ
plus a b = on_some a (λ n. option_map (λ m. n + m) b)

-- how many octets puts have
abbrev pub lengths : List Put → Option ℕ
lengths [] = Some 0
lengths (p ∷ ps) = plus (put_length p) (lengths ps)

-- whether the most significant octet comes first
abbrev pub is_big : Order → Bool
is_big Big = true
is_big Little = false

-- the same of a put
abbrev pub is_turned : Put → Bool
is_turned (put.Num off p w o) = is_big o
is_turned (put.Tag off p w o) = is_big o
is_turned (put.Flag off p w o) = is_big o
is_turned (put.Count off p m a w o) = is_big o
is_turned (put.Short off p name size m) = false
is_turned (put.Const off os) = false
is_turned (put.Head off f w o) = is_big o

-- which octet stands at a place of so many
abbrev pub turned_at : Bool → ℕ → ℕ → ℕ
turned_at t n j = if t then n - 1 - j else j

-- an octet: the number of its put, and which one it is
abbrev pub Owner : Type 0
Owner = ℕ × ℕ

-- the octets of a put of a number, in their places
abbrev pub owners : ℕ → Bool → ℕ → List Owner
owners i t n = map (λ j. (i, turned_at t n j)) (range_with_len 0 n)

-- the octet of a put, 0 where there is no put
abbrev pub cell_in : Option Put → ℕ → Cell
cell_in None k = fixed 0
cell_in (Some p) k = cell_of p k

-- the same by the put's number
abbrev pub owned : List Put → Owner → Cell
owned ps o = cell_in (slice_get ps o.0) o.1

-- places of a chunk, where octets are put or not
abbrev pub seen : List Put → List (Option Owner) → List (Option Cell)
seen ps cs = map (λ c. option_map (owned ps) c) cs

-- places with these from one on, if they lie within and are free
abbrev pub laid : {A : Type 0} → ℕ → List A → List (Option A) → Option (List (Option A))
laid zero [] cs = Some cs
laid zero (o ∷ os) [] = None
laid zero (o ∷ os) (None ∷ cs) = option_map (λ ds. Some o ∷ ds) (laid zero os cs)
laid zero (o ∷ os) (Some c ∷ cs) = None
laid (suc n) os [] = None
laid (suc n) os (c ∷ cs) = option_map (λ ds. c ∷ ds) (laid n os cs)

-- a place laid with something, if it lies within and is free
abbrev pub laid_one : {A : Type 0} → ℕ → A → List (Option A) → Option (List (Option A))
laid_one zero o [] = None
laid_one zero o (None ∷ cs) = Some (Some o ∷ cs)
laid_one zero o (Some c ∷ cs) = None
laid_one (suc n) o [] = None
laid_one (suc n) o (c ∷ cs) = option_map (λ ds. c ∷ ds) (laid_one n o cs)
