-- One operation that receives more, or what replaces it.
use Rattle.std.proofs.Common.{◌≡◌, ℕ, suc, List, [], map, Option, Some, None, option_map, refl, ap, ◌∙◌, arith}
use Rattle.mint.specs.Types.{Ty, array_type, items_type}
use Rattle.wire_def.specs.declared.encoding.Encoding.{Encoding}
use Rattle.wire_def.specs.declared.head.Order.{Order}
use Rattle.cast_stub.specs.declared.recv.Get.{Get}
use Rattle.cast_stub.specs.declared.recv.RecvOp.{RecvOp}
use Rattle.cast_stub.specs.declared.recv.RecvOp.TheVariants as op
use Rattle.cast_stub.specs.RecvAppend.{append, get_rebased}
use Rattle.cast_stub.specs.RecvBlock.{Recv, finish, need, need_row, skip_any, skip_zero, pass, desc, row_block, row_wide, each, if_there, switch, call, Piece, op_seen}
use Rattle.cast_stub.specs.Layouts.{order_of, element_width}
use Rattle.cast_stub.specs.PartTypes.{ty_at, present_at, arms_at}
use Rattle.cast_stub.specs.Traces.{descs}
use Rattle.cast_stub.proofs.RecvAppending.{append-assoc}
use Rattle.cast_stub.proofs.RecvPieces.{seen-NeedRow, pieces}
use Rattle.copy_inline.specs.declared.sorts.Sort.{Sort}
use Rattle.copy_inline.specs.declared.sorts.Sort.TheVariants as sort
use Rattle.copy_inline.specs.Rowed.{by_type}
use Rattle.copy_inline.specs.RecvRowed.{row_or_loop, loop_rowed, rowed, cases_rowed}
use Rattle.copy_inline.specs.Sorts.{sort_of}
use Rattle.copy_inline.proofs.RecvBlocks.{rebase-none}

-- ---- the pass, and what is before and after

rows_append : (s : Sort) (w : ℕ) (o : Order) (p : List ℕ) (b r s' : Recv)
    → row_or_loop s w o p b (append r s') ≡ append (row_or_loop s w o p b r) s'
rows_append sort.Block w o p b r s' = refl
rows_append sort.Wide w o p b r s' = refl
rows_append sort.Looped w o p b r s' = refl

loop_append : (e : Encoding) (x : Option Ty) (p : List ℕ) (b : Recv) (f : Ty → Recv) (r s : Recv)
    → loop_rowed e x p b f (append r s) ≡ append (loop_rowed e x p b f r) s
loop_append e (Some (array_type a)) p b f r s = rows_append (sort_of e a) (element_width e a) (order_of e) p b r s
loop_append e (Some (items_type c t)) p b f r s = refl
loop_append e None p b f r s = refl
loop_append e (Some _) p b f r s = refl

pub rowed-append : (e : Encoding) (t : Ty) (a b : Recv) → rowed e t (append a b) ≡ append (rowed e t a) (rowed e t b)
rowed-append e t finish b = refl
rowed-append e t (need n r) b = ap (need n) (rowed-append e t r b)
rowed-append e t (need_row p u x r) b = ap (need_row p u x) (rowed-append e t r b)
rowed-append e t (skip_any a r) b = ap (skip_any a) (rowed-append e t r b)
rowed-append e t (skip_zero a r) b = ap (skip_zero a) (rowed-append e t r b)
rowed-append e t (pass n gs r) b = ap (pass n gs) (rowed-append e t r b)
rowed-append e t (desc p name size mul r) b = ap (desc p name size mul) (rowed-append e t r b)
rowed-append e t (row_block p o r) b = ap (row_block p o) (rowed-append e t r b)
rowed-append e t (row_wide p o r) b = ap (row_wide p o) (rowed-append e t r b)
rowed-append e t (each p a r) b = ap (loop_rowed e (ty_at p t) p a (λ u. rowed e u a)) (rowed-append e t r b)
    ∙ loop_append e (ty_at p t) p a (λ u. rowed e u a) (rowed e t r) (rowed e t b)
rowed-append e t (switch p cs r) b = ap (switch p (by_type (arms_at p t) cs (λ arms. cases_rowed e arms cs))) (rowed-append e t r b)
rowed-append e t (if_there p a r) b = ap (if_there p (by_type (present_at p t) a (λ u. rowed e u a))) (rowed-append e t r b)
rowed-append e t (call k p r) b = ap (call k p) (rowed-append e t r b)

-- a test of a row's octets before an operation
pub tested_more : (old mid : Recv) (path path' : List ℕ) (w : ℕ) (o : RecvOp) → mid ≡ append old (op_seen (op.NeedRow path' w 0) finish)
    → path' ≡ path
    → append mid (op_seen o finish) ≡ append old (need_row path w 0 (op_seen o finish))
tested_more old mid path path' w o m same =
    ap (λ (x : Recv). append x (op_seen o finish)) m ∙ append-assoc old (op_seen (op.NeedRow path' w 0) finish) (op_seen o finish)
    ∙ ap (append old) (ap (λ (p : Piece). append (p finish) (op_seen o finish)) (seen-NeedRow path' w 0)
    ∙ ap (λ (q : List ℕ). need_row q w 0 (op_seen o finish)) same)

-- ---- copies of turns

pub same_gets : (gs : List Get) → map (get_rebased []) gs ≡ gs
same_gets gs = let same : pass 0 (map (get_rebased []) gs) finish ≡ pass 0 gs finish = rebase-none (pass 0 gs finish) in cc

pub both_flat : (a b : Recv) → descs (append a b) ≡ Some 0 → (descs a ≡ Some 0) × (descs b ≡ Some 0)
both_flat finish b h = (refl, h)
both_flat (need n r) b h = both_flat r b h
both_flat (skip_any a r) b h = both_flat r b h
both_flat (skip_zero a r) b h = both_flat r b h
both_flat (pass n gs r) b h = both_flat r b h
both_flat (desc p name size mul r) b h = absurd (none (descs (append r b)) h) where
  none : (z : Option ℕ) → option_map suc z ≡ Some 0 → ⊥
  none None g = cc
  none (Some n) g = let g' : suc n ≡ 0 = cc in omega (arith, g')
both_flat _ b h = absurd cc

pub ruleset emitting = (pieces)

pub ruleset copied = (same_gets)
