-- The octets of a put, and those of a chunk.
use Rattle.std.specs.Prelude.{ℕ, zero, suc, ◌+◌, ◌-◌, ◌*◌, ◌^◌, ◌<◌, ℤ, pos, negsuc, List, [], ◌∷◌, replicate, Option, None, Some, option_map, nat_eq, nat_lt, if◌then◌else◌}
use Rattle.mint.specs.Values.{Val}
use Rattle.wire_def.specs.declared.head.Order.{Order}
use Rattle.wire_def.specs.declared.head.Head.{Head}
use Rattle.wire_def.specs.Descriptors.{descriptor}
use Rattle.wire_def.specs.Orders.{in_order}
use Rattle.cast_stub.specs.declared.put.HeadField.{HeadField}
use Rattle.cast_stub.specs.declared.put.HeadField.TheVariants.{Id, Remote, Local}
use Rattle.cast_stub.specs.declared.put.Put.{Put}
use Rattle.cast_stub.specs.declared.put.Put.TheVariants as put
use Rattle.cast_stub.specs.Parts.{on_some, at, length_in, number_in, tag_in, flag_in}

-- a number modulo twice the half, where it fits
abbrev pub wrapped : ℕ → ℤ → Option ℕ
wrapped half (pos n) = if nat_lt n (half + half) then Some n else None
wrapped half (negsuc n) = if nat_lt n half then Some (half + half - 1 - n) else None

-- half of how many numbers so many octets can hold
abbrev pub half_of : ℕ → Option ℕ
half_of w = if nat_eq w 1 then Some (2 ^ 7) else if nat_eq w 2 then Some (2 ^ 15) else if nat_eq w 4 then Some (2 ^ 31) else if nat_eq w 8
    then Some (2 ^ 63) else None

-- the octets of a number, in two's complement
abbrev pub word : ℕ → Order → ℤ → Option (List ℕ)
word w o z = on_some (on_some (half_of w) (λ h. wrapped h z)) (λ n. Some (in_order o w n))

-- the number that a head has in a field
abbrev pub head_number : HeadField → Head → ℕ
head_number Id h = h.id
head_number Remote h = h.remote
head_number Local h = h.local

-- a head of numbers that words can hold
pub record IsHead (h : Head) : Type 0 where
  pub id : h.id < 2 ^ 32
  pub remote : h.remote < 2 ^ 32
  pub local : h.local < 2 ^ 32

-- the octets of a put
abbrev pub put_octets : Head → Put → Val → Option (List ℕ)
put_octets h (put.Num off p w o) v = on_some (on_some (at p v) number_in) (word w o)
put_octets h (put.Tag off p w o) v = on_some (on_some (at p v) tag_in) (word w o)
put_octets h (put.Flag off p w o) v = on_some (on_some (at p v) flag_in) (word w o)
put_octets h (put.Count off p m a w o) v = on_some (on_some (at p v) length_in) (λ n. word w o (pos (n * m + a)))
put_octets h (put.Short off p name size m) v = on_some (on_some (at p v) length_in) (λ n. descriptor name size (n * m))
put_octets h (put.Const off os) v = Some os
put_octets h (put.Head off f w o) v = word w o (pos (head_number f h))

-- the place of a put in its chunk
abbrev pub offset : Put → ℕ
offset (put.Num off p w o) = off
offset (put.Tag off p w o) = off
offset (put.Flag off p w o) = off
offset (put.Count off p m a w o) = off
offset (put.Short off p name size m) = off
offset (put.Const off os) = off
offset (put.Head off f w o) = off

-- octets of a chunk, some not yet put
abbrev pub Cells : Type 0
Cells = List (Option ℕ)

-- cells with these octets from a place on, if they lie within
abbrev pub placed : ℕ → List ℕ → Cells → Option Cells
placed zero [] cs = Some cs
placed zero (o ∷ os) [] = None
placed zero (o ∷ os) (c ∷ cs) = option_map (λ ds. Some o ∷ ds) (placed zero os cs)
placed (suc n) os [] = None
placed (suc n) os (c ∷ cs) = option_map (λ ds. c ∷ ds) (placed n os cs)

-- cells after one put; a later put replaces an earlier one
abbrev pub put_one : Head → Val → Put → Cells → Option Cells
put_one h v p cs = on_some (put_octets h p v) (λ os. placed (offset p) os cs)

-- cells after puts, one after the other
abbrev pub put_all : Head → Val → List Put → Cells → Option Cells
put_all h v [] cs = Some cs
put_all h v (p ∷ ps) cs = on_some (put_one h v p cs) (put_all h v ps)

-- the octets of cells, if each has one
abbrev pub full : Cells → Option (List ℕ)
full [] = Some []
full (None ∷ cs) = None
full (Some o ∷ cs) = option_map (λ os. o ∷ os) (full cs)

-- the octets of a chunk
abbrev pub filled : ℕ → List Put → Head → Val → Option (List ℕ)
filled size ps h v = on_some (put_all h v ps (replicate size None)) full
