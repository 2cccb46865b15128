-- How many operations are in a code: the measure of a run, by induction on the code.
use Rattle.std.proofs.Common.{◌≡◌, ℕ, zero, suc, ◌+◌, ◌*◌, ◌<◌, ◌≤◌, ℤ, List, [], ◌∷◌, length, get_or, Option, Some, slice_get, sym, ap, ◌∙◌, arith}
use Rattle.std.proofs.Math.Nat.{suc-mul}
use Rattle.cast_stub.specs.declared.send.SendOp.{SendOp}
use Rattle.cast_stub.specs.declared.send.SendOp.TheVariants as op
use Rattle.cast_stub.specs.Block.{Block, stop, ensure, ensure_row, align, chunk, row_copy, row_swap, row_wide, each, switch, if_there, call, patch, Cases, no_default, default, case, Piece, op_seen, code_seen, cases_seen}
use Rattle.cast_stub.specs.Append.{append}
use Rattle.cast_stub.proofs.Appending.{op-append}
use Rattle.cast_stub.proofs.Pieces.{seen-Each, seen-Some, seen-Switch, seen-Call}

abbrev mutual
  -- the operations of a block, those inside bodies too
  pub size : Block → ℕ
  size stop = 0
  size (ensure n r) = suc (size r)
  size (ensure_row p u e r) = suc (size r)
  size (align a r) = suc (size r)
  size (chunk s ps r) = suc (size r)
  size (row_copy p r) = suc (size r)
  size (row_swap p r) = suc (size r)
  size (row_wide p o r) = suc (size r)
  size (each p b r) = suc (size b + size r)
  size (switch p cs r) = suc (sizes cs + size r)
  size (if_there p b r) = suc (size b + size r)
  size (call k p r) = suc (size r)
  size (patch a s o r) = suc (size r)

  -- those of the bodies of a switch
  pub sizes : Cases → ℕ
  sizes no_default = 0
  sizes (default b) = size b
  sizes (case n b cs) = size b + sizes cs

-- the operations of a code
abbrev pub code_size : List SendOp → ℕ
code_size ops = size (code_seen ops)

-- the operations of all codes
abbrev pub all_sizes : List (List SendOp) → ℕ
all_sizes [] = 0
all_sizes (c ∷ cs) = code_size c + all_sizes cs

-- what is left to run: so many calls deep, of codes, in an operation or a code
abbrev pub left_to_run : List (List SendOp) → ℕ → ℕ → ℕ
left_to_run subs calls n = 16 * (calls * suc (all_sizes subs) + n)

-- ---- an operation in a code

size-append : (a b : Block) → size (append a b) ≡ size a + size b
size-append stop b = omega arith
size-append (ensure n r) b = omega (arith, size-append r b)
size-append (ensure_row p u e r) b = omega (arith, size-append r b)
size-append (align a r) b = omega (arith, size-append r b)
size-append (chunk s ps r) b = omega (arith, size-append r b)
size-append (row_copy p r) b = omega (arith, size-append r b)
size-append (row_swap p r) b = omega (arith, size-append r b)
size-append (row_wide p o r) b = omega (arith, size-append r b)
size-append (each p a r) b = omega (arith, size-append r b)
size-append (switch p cs r) b = omega (arith, size-append r b)
size-append (if_there p a r) b = omega (arith, size-append r b)
size-append (call k p r) b = omega (arith, size-append r b)
size-append (patch a s o r) b = omega (arith, size-append r b)

first_size : (o : SendOp) (r : Block) → size (op_seen o r) ≡ size (op_seen o stop) + size r
first_size o r = ap size (sym (op-append o stop r)) ∙ size-append (op_seen o stop) r

pub op-in-code : (ops : List SendOp) (i : ℕ) (d : SendOp) → i < length ops → d ≡ get_or ops i d → size (op_seen d stop) ≤ code_size ops
op-in-code [] i d lt is = absurd (omega (arith, lt))
op-in-code (x ∷ ops) zero d lt is = rw is (omega (arith, first_size x (code_seen ops)))
op-in-code (x ∷ ops) (suc i) d lt is = omega (arith, op-in-code ops i d (omega (arith, lt)) is, first_size x (code_seen ops))

-- ---- bodies in an operation

pub each-in-op : (o : SendOp) (path : List ℕ) (body : List SendOp) → o ≡ op.Each path body → code_size body < size (op_seen o stop)
each-in-op o path body is =
    let whole : size (op_seen o stop) ≡ suc (code_size body + 0) =
    ap (λ (p : Piece). size (p stop)) (ap op_seen is ∙ seen-Each path body) in
    omega (arith, whole)

pub some-in-op : (o : SendOp) (path : List ℕ) (body : List SendOp) → o ≡ op.Some path body → code_size body < size (op_seen o stop)
some-in-op o path body is =
    let whole : size (op_seen o stop) ≡ suc (code_size body + 0) =
    ap (λ (p : Piece). size (p stop)) (ap op_seen is ∙ seen-Some path body) in
    omega (arith, whole)

pub call-in-op : (o : SendOp) (k : ℕ) (path : List ℕ) → o ≡ op.Call k path → 0 < size (op_seen o stop)
call-in-op o k path is =
    let whole : size (op_seen o stop) ≡ 1 = ap (λ (p : Piece). size (p stop)) (ap op_seen is ∙ seen-Call k path) in
    omega (arith, whole)

switch_size : (o : SendOp) (path : List ℕ) (cases : List (ℤ × List SendOp)) (other : Option (List SendOp)) → o ≡ op.Switch path cases other
    → size (op_seen o stop) ≡ suc (sizes (cases_seen cases other) + 0)
switch_size o path cases other is = ap (λ (p : Piece). size (p stop)) (ap op_seen is ∙ seen-Switch path cases other)

case_size : (cases : List (ℤ × List SendOp)) (other : Option (List SendOp)) (i : ℕ) (d : ℤ × List SendOp) → i < length cases
    → code_size (get_or cases i d).1 ≤ sizes (cases_seen cases other)
case_size [] other i d lt = absurd (omega (arith, lt))
case_size (x ∷ cases) other zero d lt = omega arith
case_size (x ∷ cases) other (suc i) d lt = omega (arith, case_size cases other i d (omega (arith, lt)))

default_size : (cases : List (ℤ × List SendOp)) (body : List SendOp) → code_size body ≤ sizes (cases_seen cases (Some body))
default_size [] body = omega arith
default_size (x ∷ cases) body = omega (arith, default_size cases body)

pub case-in-op : (o : SendOp) (path : List ℕ) (cases l : List (ℤ × List SendOp)) (other : Option (List SendOp)) (i : ℕ)
    (d : ℤ × List SendOp)
    → o ≡ op.Switch path cases other → i < length cases → l ≡ cases
    → code_size (get_or l i d).1 < size (op_seen o stop)
case-in-op o path cases l other i d is lt same =
    let here : code_size (get_or l i d).1 ≡ code_size (get_or cases i d).1 =
    ap (λ (x : List (ℤ × List SendOp)). code_size (get_or x i d).1) same in
    omega (arith, here, case_size cases other i d lt, switch_size o path cases other is)

pub default-in-op : (o : SendOp) (path : List ℕ) (cases : List (ℤ × List SendOp)) (other : Option (List SendOp)) (body : List SendOp)
    → o ≡ op.Switch path cases other → other ≡ Some body → code_size body < size (op_seen o stop)
default-in-op o path cases other body is there =
    let whole : size (op_seen o stop) ≡ suc (sizes (cases_seen cases (Some body)) + 0) =
    switch_size o path cases (Some body) (is ∙ ap (op.Switch path cases) there) in
    omega (arith, whole, default_size cases body)

-- ---- codes that are called

sub_size : (subs : List (List SendOp)) (k : ℕ) (code : List SendOp) → slice_get subs k ≡ Some code → code_size code ≤ all_sizes subs
sub_size [] k code is = absurd cc
sub_size (c ∷ subs) zero code is =
    let same : c ≡ code = cc in
    omega (arith, ap code_size same)
sub_size (c ∷ subs) (suc k) code is = omega (arith, sub_size subs k code is)

pub called-is-less : (subs : List (List SendOp)) (n m k : ℕ) (code : List SendOp) → n ≡ suc m → slice_get subs k ≡ Some code
    → left_to_run subs m (code_size code) + 7 < left_to_run subs n 0 + 8
called-is-less subs n m k code e is =
    let s = suc (all_sizes subs) in
    let more : n * s ≡ m * s + s = ap (λ (x : ℕ). x * s) e ∙ suc-mul m s in
    omega (arith, more, sub_size subs k code is)
