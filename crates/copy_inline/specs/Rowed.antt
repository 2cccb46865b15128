-- Send code with a row operation in the place of each loop over a row or text that has one.
use Rattle.std.specs.Prelude.{ℕ, List, Bool, true, false, Option, None, Some}
use Rattle.mint.specs.Types.{Array, Ty, array_type, items_type, Arms, others, arm_type}
use Rattle.wire_def.specs.declared.encoding.Encoding.{Encoding}
use Rattle.wire_def.specs.declared.head.Order.{Order}
use Rattle.wire_def.specs.Arrays.{kind_of}
use Rattle.cast_stub.specs.Block.{Block, stop, ensure, ensure_row, align, chunk, row_copy, row_swap, row_wide, each, switch, if_there, call, patch, Cases, default, case}
use Rattle.cast_stub.specs.Layouts.{order_of}
use Rattle.cast_stub.specs.PartTypes.{ty_at, present_at, arms_at}
use Rattle.copy_inline.specs.declared.sorts.Sort.{Sort}
use Rattle.copy_inline.specs.declared.sorts.Sort.TheVariants as sort
use Rattle.copy_inline.specs.Sorts.{sort_of, is_image}

-- by the sort: the row as it is or swapped, each number in four octets, or the loop itself
abbrev pub row_or_loop : Sort → Bool → Order → List ℕ → Block → Block → Block
row_or_loop sort.Block true o p b r = row_copy p r
row_or_loop sort.Block false o p b r = row_swap p r
row_or_loop sort.Wide image o p b r = row_wide p o r
row_or_loop sort.Looped image o p b r = each p b r

-- what replaces a loop over an array
abbrev pub array_rowed : Encoding → Array → List ℕ → Block → Block → Block
array_rowed e a p b r = row_or_loop (sort_of e a) (is_image (order_of e) (kind_of a)) (order_of e) p b r

-- what replaces a loop over a part of a type, by what becomes of its body
abbrev pub loop_rowed : Encoding → Option Ty → List ℕ → Block → (Ty → Block) → Block → Block
loop_rowed e (Some (array_type a)) p b f r = array_rowed e a p b r
loop_rowed e (Some (items_type c t)) p b f r = each p (f t) r
loop_rowed e _ p b f r = each p b r

-- what becomes of bodies by a type, or the bodies
abbrev pub by_type : {A B : Type 0} → Option A → B → (A → B) → B
by_type None b f = b
by_type (Some a) b f = f a

abbrev mutual
  -- a block on values of a type, with its rows so
  pub rowed : Encoding → Ty → Block → Block
  rowed e t stop = stop
  rowed e t (ensure n r) = ensure n (rowed e t r)
  rowed e t (ensure_row p u x r) = ensure_row p u x (rowed e t r)
  rowed e t (align a r) = align a (rowed e t r)
  rowed e t (chunk s ps r) = chunk s ps (rowed e t r)
  rowed e t (row_copy p r) = row_copy p (rowed e t r)
  rowed e t (row_swap p r) = row_swap p (rowed e t r)
  rowed e t (row_wide p o r) = row_wide p o (rowed e t r)
  rowed e t (each p b r) = loop_rowed e (ty_at p t) p b (λ u. rowed e u b) (rowed e t r)
  rowed e t (switch p cs r) = switch p (by_type (arms_at p t) cs (λ arms. cases_rowed e arms cs)) (rowed e t r)
  rowed e t (if_there p b r) = if_there p (by_type (present_at p t) b (λ u. rowed e u b)) (rowed e t r)
  rowed e t (call k p r) = call k p (rowed e t r)
  rowed e t (patch a s o r) = patch a s o (rowed e t r)

  -- the same of the bodies of a switch, in the order of the arms
  pub cases_rowed : Encoding → Arms → Cases → Cases
  cases_rowed e (others t) (default b) = default (rowed e t b)
  cases_rowed e (arm_type n t arms) (case m b cs) = case m (rowed e t b) (cases_rowed e arms cs)
  cases_rowed e arms cs = cs
