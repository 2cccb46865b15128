-- The plain tree of a receive code: each operation with what follows it.
use Rattle.std.specs.Prelude.{ℕ, ℤ, List, [], ◌∷◌, Option, None, Some, map, option_map}
use Rattle.wire_def.specs.declared.head.Order.{Order}
use Rattle.cast_stub.specs.declared.recv.Get.{Get}
use Rattle.cast_stub.specs.declared.recv.RecvOp.{RecvOp, fold-RecvOp}
use Rattle.cast_stub.specs.declared.recv.RecvOp.TheOpen.{RecvOp-F}

mutual
  pub data Recv : Type 0 where
    finish : Recv
    need : ℕ → Recv → Recv
    need_row : List ℕ → ℕ → ℕ → Recv → Recv
    skip_any : ℕ → Recv → Recv
    skip_zero : ℕ → Recv → Recv
    pass : ℕ → List Get → Recv → Recv
    desc : List ℕ → ℕ → ℕ → ℕ → Recv → Recv
    row_block : List ℕ → Order → Recv → Recv
    row_wide : List ℕ → Order → Recv → Recv
    each : List ℕ → Recv → Recv → Recv
    switch : List ℕ → Cases → Recv → Recv
    if_there : List ℕ → Recv → Recv → Recv
    call : ℕ → List ℕ → Recv → Recv

  pub data Cases : Type 0 where
    no_default : Cases
    default : Recv → Cases
    case : ℤ → Recv → Cases → Cases

-- an operation, before what follows it
abbrev pub Piece : Type 0
Piece = Recv → Recv

-- pieces one after the other
abbrev pub joined : List Piece → Recv
joined [] = finish
joined (o ∷ os) = o (joined os)

-- the body of every other number
abbrev pub default_of : Option (List Piece) → Cases
default_of None = no_default
default_of (Some os) = default (joined os)

-- the bodies of a switch
abbrev pub cases_of : List (ℤ × List Piece) → Option (List Piece) → Cases
cases_of [] other = default_of other
cases_of (c ∷ cs) other = case c.0 (joined c.1) (cases_of cs other)

-- one level, with each operation inside already a piece
abbrev pub piece_level : RecvOp-F Piece → Piece
piece_level (RecvOp-F.Need n) = need n
piece_level (RecvOp-F.NeedRow path unit extra) = need_row path unit extra
piece_level (RecvOp-F.SkipAny a) = skip_any a
piece_level (RecvOp-F.SkipZero a) = skip_zero a
piece_level (RecvOp-F.Take size gets) = pass size gets
piece_level (RecvOp-F.Desc path name size mul) = desc path name size mul
piece_level (RecvOp-F.Row path order) = row_block path order
piece_level (RecvOp-F.RowWide path order) = row_wide path order
piece_level (RecvOp-F.Each path code) = each path (joined code)
piece_level (RecvOp-F.Switch path cases other) = switch path (cases_of cases other)
piece_level (RecvOp-F.Some path code) = if_there path (joined code)
piece_level (RecvOp-F.Call k path) = call k path

-- an operation as a piece
abbrev pub op_seen : RecvOp → Piece
op_seen = fold-RecvOp Piece piece_level

-- operations as a block
abbrev pub code_seen : List RecvOp → Recv
code_seen ops = joined (map op_seen ops)

-- the bodies of a switch as blocks
abbrev pub cases_seen : List (ℤ × List RecvOp) → Option (List RecvOp) → Cases
cases_seen cases other = cases_of (map (λ c. (c.0, map op_seen c.1)) cases) (option_map (map op_seen) other)
