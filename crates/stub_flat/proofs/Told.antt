-- What items append to octets, for a head and a value; that every number fits is counted in them.
use Rattle.std.proofs.Common.{ℕ, zero, suc, ◌+◌, ◌-◌, ◌*◌, ℤ, pos, List, [], ◌∷◌, ◌++◌, length, replicate, Option, Some, None, nat_eq, nat_lt, slice_get, if◌then◌else◌, ◌&&◌}
use Rattle.std.specs.Ordering.{int_eq}
use Rattle.mint.specs.Values.{Val, Vals, no_more, val, absent, present, arm_in}
use Rattle.wire_def.specs.declared.head.Head.{Head}
use Rattle.wire_def.specs.Scalars.{gap}
use Rattle.cast_stub.specs.declared.put.Put.{Put}
use Rattle.cast_stub.specs.declared.put.Put.TheVariants as put
use Rattle.cast_stub.specs.Block.{Block, stop, ensure, ensure_row, align, chunk, row_copy, row_swap, row_wide, each, switch, if_there, call, patch}
use Rattle.cast_stub.specs.Parts.{on_some, at, elements_in, length_in, number_in, tag_in, flag_in}
use Rattle.cast_stub.specs.Puts.{head_number}
use Rattle.cast_stub.specs.Meaning as meaning
use Rattle.stub_flat.specs.Items.{Source, num, tag, flag, count, short, head, Cell, fixed, part, Items, done, octet, zeros, loop, ways, if_present, called, patched, Ways, no_way, other, way}
use Rattle.stub_flat.proofs.Ends.{Ends, fitting}
use Rattle.stub_flat.proofs.Octets.{octet_of, lack}

-- ---- numbers

-- the number of a short descriptor, where its parts fit
abbrev pub described : ℕ → ℕ → ℕ → Option ℤ
described name size n = if nat_lt name 256 && (nat_lt size 256 && nat_lt n 4096)
    then Some (pos (name + size * 256 + n * 65536 + 268435456)) else None

-- the number of a source, if it is there
abbrev pub number_of : Head → Val → Source → Option ℤ
number_of h v (num p) = on_some (at p v) number_in
number_of h v (tag p) = on_some (at p v) tag_in
number_of h v (flag p) = on_some (at p v) flag_in
number_of h v (count p m a) = on_some (on_some (at p v) length_in) (λ n. Some (pos (n * m + a)))
number_of h v (short p name size m) = on_some (on_some (at p v) length_in) (λ n. described name size (n * m))
number_of h v (head f) = Some (pos (head_number f h))

-- the octet of a cell
abbrev pub value : Head → Val → Cell → ℕ
value h v (fixed o) = o
value h v (part s i) = octet_of (number_of h v s) i

-- ---- how many numbers do not fit

-- one for the last octet of a width in which the number lacks octets
abbrev pub more : ℕ → Option ℤ → ℕ
more i x = if nat_eq i 0 then lack 1 x
    else if nat_eq i 1 then lack 2 x else if nat_eq i 3 then lack 4 x else if nat_eq i 7 then lack 8 x else 0

-- one for the last octet of twice a width in which the number lacks octets
abbrev pub less : ℕ → Option ℤ → ℕ
less i x = if nat_eq i 1 then lack 1 x else if nat_eq i 3 then lack 2 x else if nat_eq i 7 then lack 4 x else 0

abbrev pub gain : Head → Val → Cell → ℕ
gain h v (fixed o) = 0
gain h v (part s i) = more i (number_of h v s)

abbrev pub loss : Head → Val → Cell → ℕ
loss h v (fixed o) = 0
loss h v (part s i) = less i (number_of h v s)

-- what octets weigh together
abbrev pub total : (Cell → ℕ) → List Cell → ℕ
total f [] = 0
total f (c ∷ cs) = f c + total f cs

-- what the octets of items weigh, without those in bodies
abbrev pub weigh : (Cell → ℕ) → Items → ℕ
weigh f done = 0
weigh f (octet c r) = f c + weigh f r
weigh f (zeros a r) = weigh f r
weigh f (loop p b r) = weigh f r
weigh f (ways p ws r) = weigh f r
weigh f (if_present p b r) = weigh f r
weigh f (called k p r) = weigh f r
weigh f (patched a z o r) = weigh f r

-- ---- what is appended

-- what a call of a number makes of octets, for a value
abbrev pub Answers : Type 0
Answers = ℕ → Val → List ℕ → Ends

-- for each of the values, one after the other
abbrev pub over_all : (Val → List ℕ → Ends) → Vals → List ℕ → Ends
over_all f no_more o = Some o
over_all f (val v vs) o = on_some (f v o) (over_all f vs)

-- for the value that may be there
abbrev pub for_present : (Val → List ℕ → Ends) → Val → List ℕ → Ends
for_present f absent o = Some o
for_present f (present v) o = f v o
for_present f _ o = None

-- where every number of the items fits
abbrev pub checked : Head → Items → (Val → List ℕ → Ends) → Val → List ℕ → Ends
checked h i f v o = on_some (fitting (weigh (gain h v) i - weigh (loss h v) i) o) (f v)

abbrev mutual
  -- octets, and after them what items append, if all fits
  pub tell : Answers → Head → Items → Val → List ℕ → Ends
  tell d h done v o = Some o
  tell d h (octet c r) v o = tell d h r v (o ++ value h v c ∷ [])
  tell d h (zeros a r) v o = tell d h r v (o ++ replicate (gap (0 + length o) a) 0)
  tell d h (loop p b r) v o =
      on_some (on_some (on_some (at p v) elements_in) (λ vs. over_all (checked h b (tell d h b)) vs o)) (tell d h r v)
  tell d h (ways p ws r) v o = on_some (on_some (on_some (at p v) arm_in) (λ a. tell_way d h ws a.0 a.1 o)) (tell d h r v)
  tell d h (if_present p b r) v o = on_some (on_some (at p v) (λ w. for_present (checked h b (tell d h b)) w o)) (tell d h r v)
  tell d h (called k p r) v o = on_some (on_some (at p v) (λ w. d k w o)) (tell d h r v)
  tell d h (patched a z s r) v o = on_some (meaning.patched 0 a z s o) (tell d h r v)

  pub tell_way : Answers → Head → Ways → ℤ → Val → List ℕ → Ends
  tell_way d h no_way n w o = None
  tell_way d h (other b) n w o = checked h b (tell d h b) w o
  tell_way d h (way m b ws) n w o = if int_eq n m then checked h b (tell d h b) w o else tell_way d h ws n w o

-- octets, and after them what items append
abbrev pub told : Answers → Head → Items → Val → List ℕ → Ends
told d h i v o = checked h i (tell d h i) v o

-- what calls of the items of a list make, so many deep
abbrev pub answers : Head → List Items → ℕ → Answers
answers h is zero k v o = None
answers h is (suc n) k v o = on_some (slice_get is k) (λ i. told (answers h is n) h i v o)

-- ---- code

-- how many numbers of a put lack octets
abbrev pub put_lacks : Head → Val → Put → ℕ
put_lacks h v (put.Num off p w o) = lack w (number_of h v (num p))
put_lacks h v (put.Tag off p w o) = lack w (number_of h v (tag p))
put_lacks h v (put.Flag off p w o) = lack w (number_of h v (flag p))
put_lacks h v (put.Count off p m a w o) = lack w (number_of h v (count p m a))
put_lacks h v (put.Short off p name size m) = lack 4 (number_of h v (short p name size m))
put_lacks h v (put.Const off os) = 0
put_lacks h v (put.Head off f w o) = lack w (number_of h v (head f))

-- of puts
abbrev pub lacks : Head → Val → List Put → ℕ
lacks h v [] = 0
lacks h v (p ∷ ps) = put_lacks h v p + lacks h v ps

-- of the chunks of a block, without those in bodies
abbrev pub misfits : Head → Val → Block → ℕ
misfits h v stop = 0
misfits h v (ensure n r) = misfits h v r
misfits h v (ensure_row p u e r) = misfits h v r
misfits h v (align a r) = misfits h v r
misfits h v (chunk n ps r) = lacks h v ps + misfits h v r
misfits h v (row_copy p r) = misfits h v r
misfits h v (row_swap p r) = misfits h v r
misfits h v (row_wide p o r) = misfits h v r
misfits h v (each p b r) = misfits h v r
misfits h v (switch p cs r) = misfits h v r
misfits h v (if_there p b r) = misfits h v r
misfits h v (call k p r) = misfits h v r
misfits h v (patch a z o r) = misfits h v r
