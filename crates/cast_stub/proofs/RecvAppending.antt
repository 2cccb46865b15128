-- A receive code after a receive code, and an operation as a piece before others, by induction on the first code.
use Rattle.std.proofs.Common.{◌≡◌, List, [], ◌∷◌, ◌++◌, subst, refl, sym, ap, ◌∙◌}
use Rattle.cast_stub.specs.declared.recv.RecvOp.{RecvOp, out-RecvOp, map-RecvOp, fold_out-RecvOp}
use Rattle.cast_stub.specs.declared.recv.RecvOp.TheOpen.{RecvOp-F}
use Rattle.cast_stub.specs.RecvBlock.{Recv, finish, need, need_row, skip_any, skip_zero, pass, desc, row_block, row_wide, each, switch, if_there, call, Piece, piece_level, op_seen, code_seen}
use Rattle.cast_stub.specs.RecvAppend.{append}
use Rattle.cast_stub.specs.Draft.{Draft, length_in}
use Rattle.cast_stub.specs.Fill.{all_got, part, within, fill_each, fill_arm, fill_present, Callees, fill, fill_case}
use Rattle.cast_stub.specs.Into.{needed, passed, skipped, all_zero, desc_into, row_into, wide_into}
use Rattle.cast_stub.specs.Runs.{Place, Run, gives, refuses, strays, then_run, if_some}
use Rattle.std.specs.Prelude.{true, ◌*◌, ◌+◌}

pub regrouped : {A B C : Type 0} (x : Run A) (f : A → Place → Run C) (g : A → Place → Run B) (h : B → Place → Run C)
    → ((y : A) (t : Place) → f y t ≡ then_run (g y t) h) → then_run x f ≡ then_run (then_run x g) h
regrouped (gives y t) f g h e = e y t
regrouped refuses f g h e = refl
regrouped strays f g h e = refl

pub then_same : {A B : Type 0} (x : Run A) (f g : A → Place → Run B) → ((y : A) (t : Place) → f y t ≡ g y t) → then_run x f ≡ then_run x g
then_same (gives y t) f g e = e y t
then_same refuses f g e = refl
then_same strays f g e = refl

-- ---- one code after another

pub fill-append : (c : Callees) (a b : Recv) (d : Draft) (s : Place) → fill c (append a b) d s ≡ then_run (fill c a d s) (fill c b)
fill-append c finish b d s = refl
fill-append c (need n r) b d s = regrouped (needed n d s) (fill c (append r b)) (fill c r) (fill c b) (fill-append c r b)
fill-append c (need_row p u e r) b d s =
    regrouped
    (if_some (part p d)
    (λ x. if_some (length_in x) (λ n. needed (n * u + e) d s))) (fill c (append r b)) (fill c r) (fill c b) (fill-append c r b)
fill-append c (skip_any a r) b d s = regrouped (skipped (λ o. true) a d s) (fill c (append r b)) (fill c r) (fill c b) (fill-append c r b)
fill-append c (skip_zero a r) b d s = regrouped (skipped all_zero a d s) (fill c (append r b)) (fill c r) (fill c b) (fill-append c r b)
fill-append c (pass n gs r) b d s =
    regrouped (all_got gs d s) (λ x t. then_run (passed n x t) (fill c (append r b))) (λ x t. then_run (passed n x t) (fill c r)) (fill c b)
    (λ (x : Draft) (t : Place). regrouped (passed n x t) (fill c (append r b)) (fill c r) (fill c b) (fill-append c r b))
fill-append c (desc p name size mul r) b d s = regrouped (within p (desc_into name size mul) d s) (fill c (append r b)) (fill c r)
    (fill c b) (fill-append c r b)
fill-append c (row_block p o r) b d s = regrouped (within p (row_into o) d s) (fill c (append r b)) (fill c r) (fill c b)
    (fill-append c r b)
fill-append c (row_wide p o r) b d s = regrouped (within p (wide_into o) d s) (fill c (append r b)) (fill c r) (fill c b)
    (fill-append c r b)
fill-append c (each p a r) b d s = regrouped (within p (fill_each (fill c a)) d s) (fill c (append r b)) (fill c r) (fill c b)
    (fill-append c r b)
fill-append c (switch p cs r) b d s = regrouped (within p (fill_arm (fill_case c cs)) d s) (fill c (append r b)) (fill c r) (fill c b)
    (fill-append c r b)
fill-append c (if_there p a r) b d s = regrouped (within p (fill_present (fill c a)) d s) (fill c (append r b)) (fill c r) (fill c b)
    (fill-append c r b)
fill-append c (call k p r) b d s = regrouped (within p (c k) d s) (fill c (append r b)) (fill c r) (fill c b) (fill-append c r b)

piece-append : (x : RecvOp-F Piece) (a b : Recv) → append (piece_level x a) b ≡ piece_level x (append a b)
piece-append (RecvOp-F.Need n) a b = refl
piece-append _ a b = refl

-- an operation is a piece before others
pub op-append : (o : RecvOp) (a b : Recv) → append (op_seen o a) b ≡ op_seen o (append a b)
op-append o a b =
    subst
    (λ (p : Piece).
    append (p a) b ≡ p (append a b)) (sym (fold_out-RecvOp Piece piece_level o))
    (piece-append (map-RecvOp RecvOp Piece op_seen (out-RecvOp o)) a b)

pub append-finish : (a : Recv) → append a finish ≡ a
append-finish finish = refl
append-finish (need n r) = ap (need n) (append-finish r)
append-finish (need_row p u e r) = ap (need_row p u e) (append-finish r)
append-finish (skip_any a r) = ap (skip_any a) (append-finish r)
append-finish (skip_zero a r) = ap (skip_zero a) (append-finish r)
append-finish (pass n gs r) = ap (pass n gs) (append-finish r)
append-finish (desc p name size mul r) = ap (desc p name size mul) (append-finish r)
append-finish (row_block p o r) = ap (row_block p o) (append-finish r)
append-finish (row_wide p o r) = ap (row_wide p o) (append-finish r)
append-finish (each p a r) = ap (each p a) (append-finish r)
append-finish (switch p cs r) = ap (switch p cs) (append-finish r)
append-finish (if_there p a r) = ap (if_there p a) (append-finish r)
append-finish (call k p r) = ap (call k p) (append-finish r)

pub append-assoc : (a b c : Recv) → append (append a b) c ≡ append a (append b c)
append-assoc finish b c = refl
append-assoc (need n r) b c = ap (need n) (append-assoc r b c)
append-assoc (need_row p u e r) b c = ap (need_row p u e) (append-assoc r b c)
append-assoc (skip_any a r) b c = ap (skip_any a) (append-assoc r b c)
append-assoc (skip_zero a r) b c = ap (skip_zero a) (append-assoc r b c)
append-assoc (pass n gs r) b c = ap (pass n gs) (append-assoc r b c)
append-assoc (desc p name size mul r) b c = ap (desc p name size mul) (append-assoc r b c)
append-assoc (row_block p o r) b c = ap (row_block p o) (append-assoc r b c)
append-assoc (row_wide p o r) b c = ap (row_wide p o) (append-assoc r b c)
append-assoc (each p w r) b c = ap (each p w) (append-assoc r b c)
append-assoc (switch p cs r) b c = ap (switch p cs) (append-assoc r b c)
append-assoc (if_there p w r) b c = ap (if_there p w) (append-assoc r b c)
append-assoc (call k p r) b c = ap (call k p) (append-assoc r b c)

-- operations after operations
pub code_seen-append : (a b : List RecvOp) → code_seen (a ++ b) ≡ append (code_seen a) (code_seen b)
code_seen-append [] b = refl
code_seen-append (o ∷ a) b = ap (op_seen o) (code_seen-append a b) ∙ sym (op-append o (code_seen a) (code_seen b))
