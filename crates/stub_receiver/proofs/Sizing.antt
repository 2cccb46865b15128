-- How many operations are in a code: the measure of a run, by induction on the code.
use Rattle.std.proofs.Common.{◌≡◌, ℕ, zero, suc, ◌+◌, ◌*◌, ◌<◌, ◌≤◌, ℤ, List, [], ◌∷◌, length, get_or, Option, Some, slice_get, sym, ap, ◌∙◌, arith}
use Rattle.std.proofs.Math.Nat.{suc-mul}
use Rattle.cast_stub.specs.declared.recv.RecvOp.{RecvOp}
use Rattle.cast_stub.specs.declared.recv.RecvOp.TheVariants as op
use Rattle.cast_stub.specs.RecvBlock.{Recv, finish, need, need_row, skip_any, skip_zero, pass, desc, row_block, row_wide, each, switch, if_there, call, Piece, op_seen, code_seen, cases_seen}
use Rattle.cast_stub.specs.RecvAppend.{append}
use Rattle.cast_stub.proofs.RecvAppending.{op-append}
use Rattle.cast_stub.proofs.RecvPieces.{seen-Each, seen-Some, seen-Switch, seen-Call}
use Rattle.stub_receiver.specs.Sizes.{size, sizes, code_size, all_sizes}

-- what is left to run: so many calls deep, of codes, in an operation or a code
abbrev pub left_to_run : List (List RecvOp) → ℕ → ℕ → ℕ
left_to_run subs calls n = 16 * (calls * suc (all_sizes subs) + n)

-- ---- an operation in a code

size-append : (a b : Recv) → size (append a b) ≡ size a + size b
size-append finish b = omega arith
size-append (need n r) b = omega (arith, size-append r b)
size-append (need_row p u e r) b = omega (arith, size-append r b)
size-append (skip_any n r) b = omega (arith, size-append r b)
size-append (skip_zero n r) b = omega (arith, size-append r b)
size-append (pass n gs r) b = omega (arith, size-append r b)
size-append (desc p name bits mul r) b = omega (arith, size-append r b)
size-append (row_block p o r) b = omega (arith, size-append r b)
size-append (row_wide p o r) b = omega (arith, size-append r b)
size-append (each p a r) b = omega (arith, size-append r b)
size-append (switch p cs r) b = omega (arith, size-append r b)
size-append (if_there p a r) b = omega (arith, size-append r b)
size-append (call k p r) b = omega (arith, size-append r b)

first_size : (o : RecvOp) (r : Recv) → size (op_seen o r) ≡ size (op_seen o finish) + size r
first_size o r = ap size (sym (op-append o finish r)) ∙ size-append (op_seen o finish) r

pub op-in-code : (ops : List RecvOp) (i : ℕ) (d : RecvOp) → i < length ops → d ≡ get_or ops i d → size (op_seen d finish) ≤ code_size ops
op-in-code [] i d lt is = absurd (omega (arith, lt))
op-in-code (x ∷ ops) zero d lt is = rw is (omega (arith, first_size x (code_seen ops)))
op-in-code (x ∷ ops) (suc i) d lt is = omega (arith, op-in-code ops i d (omega (arith, lt)) is, first_size x (code_seen ops))

-- ---- bodies in an operation

pub each-in-op : (o : RecvOp) (path : List ℕ) (body : List RecvOp) → o ≡ op.Each path body → code_size body < size (op_seen o finish)
each-in-op o path body is =
    let whole : size (op_seen o finish) ≡ suc (code_size body + 0) =
    ap (λ (p : Piece). size (p finish)) (ap op_seen is ∙ seen-Each path body) in
    omega (arith, whole)

pub some-in-op : (o : RecvOp) (path : List ℕ) (body : List RecvOp) → o ≡ op.Some path body → code_size body < size (op_seen o finish)
some-in-op o path body is =
    let whole : size (op_seen o finish) ≡ suc (code_size body + 0) =
    ap (λ (p : Piece). size (p finish)) (ap op_seen is ∙ seen-Some path body) in
    omega (arith, whole)

pub call-in-op : (o : RecvOp) (k : ℕ) (path : List ℕ) → o ≡ op.Call k path → 0 < size (op_seen o finish)
call-in-op o k path is =
    let whole : size (op_seen o finish) ≡ 1 = ap (λ (p : Piece). size (p finish)) (ap op_seen is ∙ seen-Call k path) in
    omega (arith, whole)

pub cases-in-op : (o : RecvOp) (path : List ℕ) (cases : List (ℤ × List RecvOp)) (other : Option (List RecvOp))
    → o ≡ op.Switch path cases other
    → sizes (cases_seen cases other) < size (op_seen o finish)
cases-in-op o path cases other is =
    let whole : size (op_seen o finish) ≡ suc (sizes (cases_seen cases other) + 0) =
    ap (λ (p : Piece). size (p finish)) (ap op_seen is ∙ seen-Switch path cases other) in
    omega (arith, whole)

-- ---- the bodies of a switch

case_size : (cases : List (ℤ × List RecvOp)) (other : Option (List RecvOp)) (i : ℕ) (b : ℤ × List RecvOp) → i < length cases
    → code_size (get_or cases i b).1 ≤ sizes (cases_seen cases other)
case_size [] other i b lt = absurd (omega (arith, lt))
case_size (x ∷ cases) other zero b lt = omega arith
case_size (x ∷ cases) other (suc i) b lt = omega (arith, case_size cases other i b (omega (arith, lt)))

-- the body at a place
pub placed_size : (cases items : List (ℤ × List RecvOp)) (other : Option (List RecvOp)) (i : ℕ) (b : ℤ × List RecvOp)
    → items ≡ cases → i < length cases → code_size (get_or items i b).1 ≤ sizes (cases_seen cases other)
placed_size cases items other i b same lt = rw same (case_size cases other i b lt)

pub default_size : (cases : List (ℤ × List RecvOp)) (body : List RecvOp) → code_size body ≤ sizes (cases_seen cases (Some body))
default_size [] body = omega arith
default_size (x ∷ cases) body = omega (arith, default_size cases body)

pub last_size : (cases : List (ℤ × List RecvOp)) (other : Option (List RecvOp)) (body : List RecvOp) → other ≡ Some body
    → code_size body ≤ sizes (cases_seen cases other)
last_size cases other body is = rw is (default_size cases body)

-- ---- codes that are called

sub_size : (subs : List (List RecvOp)) (k : ℕ) (code : List RecvOp) → slice_get subs k ≡ Some code → code_size code ≤ all_sizes subs
sub_size [] k code is = absurd cc
sub_size (c ∷ subs) zero code is =
    let same : c ≡ code = cc in
    omega (arith, ap code_size same)
sub_size (c ∷ subs) (suc k) code is = omega (arith, sub_size subs k code is)

pub called-is-less : (subs : List (List RecvOp)) (n m k : ℕ) (code : List RecvOp) → n ≡ suc m → slice_get subs k ≡ Some code
    → left_to_run subs m (code_size code) + 7 < left_to_run subs n 0 + 8
called-is-less subs n m k code e is =
    let s = suc (all_sizes subs) in
    let more : n * s ≡ m * s + s = ap (λ (x : ℕ). x * s) e ∙ suc-mul m s in
    omega (arith, more, sub_size subs k code is)
