-- The plain tree of a send code: each operation with what follows it.
use Rattle.std.specs.Prelude.{ℕ, ℤ, List, [], ◌∷◌, Option, None, Some, map, option_map}
use Rattle.wire_def.specs.declared.head.Order.{Order}
use Rattle.cast_stub.specs.declared.put.Put.{Put}
use Rattle.cast_stub.specs.declared.send.SendOp.{SendOp, fold-SendOp}
use Rattle.cast_stub.specs.declared.send.SendOp.TheOpen.{SendOp-F}

mutual
  pub data Block : Type 0 where
    stop : Block
    ensure : ℕ → Block → Block
    ensure_row : List ℕ → ℕ → ℕ → Block → Block
    align : ℕ → Block → Block
    chunk : ℕ → List Put → Block → Block
    row_copy : List ℕ → Block → Block
    row_swap : List ℕ → Block → Block
    row_wide : List ℕ → Order → Block → Block
    each : List ℕ → Block → Block → Block
    switch : List ℕ → Cases → Block → Block
    if_there : List ℕ → Block → Block → Block
    call : ℕ → List ℕ → Block → Block
    patch : ℕ → ℕ → Order → Block → Block

  pub data Cases : Type 0 where
    no_default : Cases
    default : Block → Cases
    case : ℤ → Block → Cases → Cases

-- an operation, before what follows it
abbrev pub Piece : Type 0
Piece = Block → Block

-- pieces one after the other
abbrev pub joined : List Piece → Block
joined [] = stop
joined (o ∷ os) = o (joined os)

-- the body of every other number
abbrev pub default_of : Option (List Piece) → Cases
default_of None = no_default
default_of (Some os) = default (joined os)

-- the bodies of a switch
abbrev pub cases_of : List (ℤ × List Piece) → Option (List Piece) → Cases
cases_of [] other = default_of other
cases_of (c ∷ cs) other = case c.0 (joined c.1) (cases_of cs other)

-- one level, with each operation inside already a piece
abbrev pub piece_level : SendOp-F Piece → Piece
piece_level (SendOp-F.Ensure n) = ensure n
piece_level (SendOp-F.EnsureRow path unit extra) = ensure_row path unit extra
piece_level (SendOp-F.Align a) = align a
piece_level (SendOp-F.Chunk size puts) = chunk size puts
piece_level (SendOp-F.RowCopy path) = row_copy path
piece_level (SendOp-F.RowSwap path) = row_swap path
piece_level (SendOp-F.RowWide path order) = row_wide path order
piece_level (SendOp-F.Each path code) = each path (joined code)
piece_level (SendOp-F.Switch path cases other) = switch path (cases_of cases other)
piece_level (SendOp-F.Some path code) = if_there path (joined code)
piece_level (SendOp-F.Call k path) = call k path
piece_level (SendOp-F.Patch at sub order) = patch at sub order

-- an operation as a piece
abbrev pub op_seen : SendOp → Piece
op_seen = fold-SendOp Piece piece_level

-- operations as a block
abbrev pub code_seen : List SendOp → Block
code_seen ops = joined (map op_seen ops)

-- the bodies of a switch as blocks
abbrev pub cases_seen : List (ℤ × List SendOp) → Option (List SendOp) → Cases
cases_seen cases other = cases_of (map (λ c. (c.0, map op_seen c.1)) cases) (option_map (map op_seen) other)
