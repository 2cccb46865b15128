-- A code after a code, and an operation as a piece before others, by induction on the first code.
use Rattle.std.proofs.Common.{◌≡◌, List, [], ◌∷◌, ◌++◌, length, if◌then◌else◌, ◌+◌, ◌*◌, subst, Some, None, refl, sym, ap, ◌∙◌, append_assoc}
use Rattle.mint.specs.Values.{Val, arm_in}
use Rattle.wire_def.specs.declared.head.Head.{Head}
use Rattle.cast_stub.specs.declared.send.SendOp.{SendOp, out-SendOp, map-SendOp, fold_out-SendOp}
use Rattle.cast_stub.specs.declared.send.SendOp.TheOpen.{SendOp-F}
use Rattle.cast_stub.specs.Parts.{on_some, at, elements_in, length_in}
use Rattle.cast_stub.specs.Puts.{filled}
use Rattle.cast_stub.specs.Block.{Block, stop, ensure, ensure_row, align, chunk, row_copy, row_swap, row_wide, each, switch, if_there, call, patch, Piece, piece_level, op_seen, code_seen}
use Rattle.cast_stub.specs.Steps.{Room, Pad, Stored, Patched, Steps, both, over, if_present, copy_steps, swap_steps, wide_steps, is_width, Calls, steps, case_steps}
use Rattle.cast_stub.specs.Append.{append}

pub both_assoc : (a b c : Steps) → both (both a b) c ≡ both a (both b c)
both_assoc None b c = refl
both_assoc (Some x) None c = refl
both_assoc (Some x) (Some y) None = refl
both_assoc (Some x) (Some y) (Some z) = ap Some (append_assoc x y z)

pub both_first : (a : Steps) → both (Some []) a ≡ a
both_first None = refl
both_first (Some x) = refl

regrouped : (x y z w : Steps) → y ≡ both z w → both x y ≡ both (both x z) w
regrouped x y z w e = ap (both x) e ∙ sym (both_assoc x z w)

-- ---- one code after another

pub steps-append : (c : Calls) (h : Head) (a b : Block) (v : Val) → steps c h (append a b) v ≡ both (steps c h a v) (steps c h b v)
steps-append c h stop b v = sym (both_first (steps c h b v))
steps-append c h (ensure n r) b v = regrouped (Some (Room n ∷ [])) (steps c h (append r b) v) (steps c h r v) (steps c h b v)
    (steps-append c h r b v)
steps-append c h (ensure_row p u e r) b v =
    regrouped
    (on_some (on_some (at p v) length_in)
    (λ n. Some (Room (n * u + e) ∷ []))) (steps c h (append r b) v) (steps c h r v) (steps c h b v) (steps-append c h r b v)
steps-append c h (align a r) b v = regrouped (if is_width a then Some (Pad a ∷ []) else None) (steps c h (append r b) v) (steps c h r v)
    (steps c h b v) (steps-append c h r b v)
steps-append c h (chunk s ps r) b v =
    regrouped
    (on_some (filled s ps h v)
    (λ o. Some (Stored o (length ps) ∷ []))) (steps c h (append r b) v) (steps c h r v) (steps c h b v) (steps-append c h r b v)
steps-append c h (row_copy p r) b v = regrouped (copy_steps p v) (steps c h (append r b) v) (steps c h r v) (steps c h b v)
    (steps-append c h r b v)
steps-append c h (row_swap p r) b v = regrouped (swap_steps p v) (steps c h (append r b) v) (steps c h r v) (steps c h b v)
    (steps-append c h r b v)
steps-append c h (row_wide p o r) b v = regrouped (wide_steps p o v) (steps c h (append r b) v) (steps c h r v) (steps c h b v)
    (steps-append c h r b v)
steps-append c h (each p a r) b v = regrouped (on_some (on_some (at p v) elements_in) (over (steps c h a))) (steps c h (append r b) v)
    (steps c h r v) (steps c h b v) (steps-append c h r b v)
steps-append c h (switch p cs r) b v =
    regrouped
    (on_some (on_some (at p v) arm_in)
    (λ a. case_steps c h cs a.0 a.1)) (steps c h (append r b) v) (steps c h r v) (steps c h b v) (steps-append c h r b v)
steps-append c h (if_there p a r) b v = regrouped (on_some (at p v) (if_present (steps c h a))) (steps c h (append r b) v) (steps c h r v)
    (steps c h b v) (steps-append c h r b v)
steps-append c h (call k p r) b v = regrouped (on_some (at p v) (c k)) (steps c h (append r b) v) (steps c h r v) (steps c h b v)
    (steps-append c h r b v)
steps-append c h (patch a s o r) b v = regrouped (Some (Patched a s o ∷ [])) (steps c h (append r b) v) (steps c h r v) (steps c h b v)
    (steps-append c h r b v)

piece-append : (x : SendOp-F Piece) (a b : Block) → append (piece_level x a) b ≡ piece_level x (append a b)
piece-append (SendOp-F.Ensure n) a b = refl
piece-append _ a b = refl

-- an operation is a piece before others
pub op-append : (o : SendOp) (a b : Block) → append (op_seen o a) b ≡ op_seen o (append a b)
op-append o a b =
    subst
    (λ (p : Piece).
    append (p a) b ≡ p (append a b)) (sym (fold_out-SendOp Piece piece_level o))
    (piece-append (map-SendOp SendOp Piece op_seen (out-SendOp o)) a b)

pub append-stop : (a : Block) → append a stop ≡ a
append-stop stop = refl
append-stop (ensure n r) = ap (ensure n) (append-stop r)
append-stop (ensure_row p u e r) = ap (ensure_row p u e) (append-stop r)
append-stop (align a r) = ap (align a) (append-stop r)
append-stop (chunk s ps r) = ap (chunk s ps) (append-stop r)
append-stop (row_copy p r) = ap (row_copy p) (append-stop r)
append-stop (row_swap p r) = ap (row_swap p) (append-stop r)
append-stop (row_wide p o r) = ap (row_wide p o) (append-stop r)
append-stop (each p a r) = ap (each p a) (append-stop r)
append-stop (switch p cs r) = ap (switch p cs) (append-stop r)
append-stop (if_there p a r) = ap (if_there p a) (append-stop r)
append-stop (call k p r) = ap (call k p) (append-stop r)
append-stop (patch a s o r) = ap (patch a s o) (append-stop r)

pub append-assoc : (a b c : Block) → append (append a b) c ≡ append a (append b c)
append-assoc stop b c = refl
append-assoc (ensure n r) b c = ap (ensure n) (append-assoc r b c)
append-assoc (ensure_row p u e r) b c = ap (ensure_row p u e) (append-assoc r b c)
append-assoc (align a r) b c = ap (align a) (append-assoc r b c)
append-assoc (chunk s ps r) b c = ap (chunk s ps) (append-assoc r b c)
append-assoc (row_copy p r) b c = ap (row_copy p) (append-assoc r b c)
append-assoc (row_swap p r) b c = ap (row_swap p) (append-assoc r b c)
append-assoc (row_wide p o r) b c = ap (row_wide p o) (append-assoc r b c)
append-assoc (each p w r) b c = ap (each p w) (append-assoc r b c)
append-assoc (switch p cs r) b c = ap (switch p cs) (append-assoc r b c)
append-assoc (if_there p w r) b c = ap (if_there p w) (append-assoc r b c)
append-assoc (call k p r) b c = ap (call k p) (append-assoc r b c)
append-assoc (patch x s o r) b c = ap (patch x s o) (append-assoc r b c)

-- operations after operations
pub code_seen-append : (a b : List SendOp) → code_seen (a ++ b) ≡ append (code_seen a) (code_seen b)
code_seen-append [] b = refl
code_seen-append (o ∷ a) b = ap (op_seen o) (code_seen-append a b) ∙ sym (op-append o (code_seen a) (code_seen b))
