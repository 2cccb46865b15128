-- Receive code with a row operation in the place of each loop over a row or text that has one.
use Rattle.std.specs.Prelude.{ℕ, List, Option, Some}
use Rattle.mint.specs.Types.{Array, Ty, array_type, items_type, Arms, others, arm_type}
use Rattle.wire_def.specs.declared.encoding.Encoding.{Encoding}
use Rattle.wire_def.specs.declared.head.Order.{Order}
use Rattle.cast_stub.specs.RecvBlock.{Recv, finish, need, need_row, skip_any, skip_zero, pass, desc, row_block, row_wide, each, switch, if_there, call, Cases, default, case}
use Rattle.cast_stub.specs.Layouts.{order_of, element_width}
use Rattle.cast_stub.specs.PartTypes.{ty_at, present_at, arms_at}
use Rattle.copy_inline.specs.declared.sorts.Sort.{Sort}
use Rattle.copy_inline.specs.declared.sorts.Sort.TheVariants as sort
use Rattle.copy_inline.specs.Rowed.{by_type}
use Rattle.copy_inline.specs.Sorts.{sort_of}

-- by the sort: one test for the numbers of a width, and the row; or the loop itself
abbrev pub row_or_loop : Sort → ℕ → Order → List ℕ → Recv → Recv → Recv
row_or_loop sort.Block w o p b r = need_row p w 0 (row_block p o r)
row_or_loop sort.Wide w o p b r = need_row p w 0 (row_wide p o r)
row_or_loop sort.Looped w o p b r = each p b r

-- what replaces a loop over an array
abbrev pub array_rowed : Encoding → Array → List ℕ → Recv → Recv → Recv
array_rowed e a p b r = row_or_loop (sort_of e a) (element_width e a) (order_of e) p b r

-- what replaces a loop over a part of a type, by what becomes of its body
abbrev pub loop_rowed : Encoding → Option Ty → List ℕ → Recv → (Ty → Recv) → Recv → Recv
loop_rowed e (Some (array_type a)) p b f r = array_rowed e a p b r
loop_rowed e (Some (items_type c t)) p b f r = each p (f t) r
loop_rowed e _ p b f r = each p b r

abbrev mutual
  -- a block for values of a type, with its rows so
  pub rowed : Encoding → Ty → Recv → Recv
  rowed e t finish = finish
  rowed e t (need n r) = need n (rowed e t r)
  rowed e t (need_row p u x r) = need_row p u x (rowed e t r)
  rowed e t (skip_any a r) = skip_any a (rowed e t r)
  rowed e t (skip_zero a r) = skip_zero a (rowed e t r)
  rowed e t (pass n gs r) = pass n gs (rowed e t r)
  rowed e t (desc p name size mul r) = desc p name size mul (rowed e t r)
  rowed e t (row_block p o r) = row_block p o (rowed e t r)
  rowed e t (row_wide p o r) = row_wide p o (rowed e t r)
  rowed e t (each p b r) = loop_rowed e (ty_at p t) p b (λ u. rowed e u b) (rowed e t r)
  rowed e t (switch p cs r) = switch p (by_type (arms_at p t) cs (λ arms. cases_rowed e arms cs)) (rowed e t r)
  rowed e t (if_there p b r) = if_there p (by_type (present_at p t) b (λ u. rowed e u b)) (rowed e t r)
  rowed e t (call k p r) = call k p (rowed e t r)

  -- the same of the bodies of a switch, in the order of the arms
  pub cases_rowed : Encoding → Arms → Cases → Cases
  cases_rowed e (others t) (default b) = default (rowed e t b)
  cases_rowed e (arm_type n t arms) (case m b cs) = case m (rowed e t b) (cases_rowed e arms cs)
  cases_rowed e arms cs = cs
