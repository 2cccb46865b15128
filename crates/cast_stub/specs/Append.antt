-- Code after code, and code for a part as code for the whole.
use Rattle.std.specs.Prelude.{ℕ, List, ◌++◌, map}
use Rattle.cast_stub.specs.declared.put.Put.{Put}
use Rattle.cast_stub.specs.declared.put.Put.TheVariants as put
use Rattle.cast_stub.specs.Block.{Block, stop, ensure, ensure_row, align, chunk, row_copy, row_swap, row_wide, each, switch, if_there, call, patch}

-- a block after a block
abbrev pub append : Block → Block → Block
append stop b = b
append (ensure n r) b = ensure n (append r b)
append (ensure_row p u e r) b = ensure_row p u e (append r b)
append (align a r) b = align a (append r b)
append (chunk s ps r) b = chunk s ps (append r b)
append (row_copy p r) b = row_copy p (append r b)
append (row_swap p r) b = row_swap p (append r b)
append (row_wide p o r) b = row_wide p o (append r b)
append (each p a r) b = each p a (append r b)
append (switch p cs r) b = switch p cs (append r b)
append (if_there p a r) b = if_there p a (append r b)
append (call k p r) b = call k p (append r b)
append (patch a s o r) b = patch a s o (append r b)

-- a put with a path before its own
abbrev pub put_rebased : List ℕ → Put → Put
put_rebased q (put.Num off p w o) = put.Num off (q ++ p) w o
put_rebased q (put.Tag off p w o) = put.Tag off (q ++ p) w o
put_rebased q (put.Flag off p w o) = put.Flag off (q ++ p) w o
put_rebased q (put.Count off p m a w o) = put.Count off (q ++ p) m a w o
put_rebased q (put.Short off p name size m) = put.Short off (q ++ p) name size m
put_rebased q (put.Const off os) = put.Const off os
put_rebased q (put.Head off f w o) = put.Head off f w o

-- a block with a path before its own paths, but not in bodies, which go by their own current value
abbrev pub rebase : List ℕ → Block → Block
rebase q stop = stop
rebase q (ensure n r) = ensure n (rebase q r)
rebase q (ensure_row p u e r) = ensure_row (q ++ p) u e (rebase q r)
rebase q (align a r) = align a (rebase q r)
rebase q (chunk s ps r) = chunk s (map (put_rebased q) ps) (rebase q r)
rebase q (row_copy p r) = row_copy (q ++ p) (rebase q r)
rebase q (row_swap p r) = row_swap (q ++ p) (rebase q r)
rebase q (row_wide p o r) = row_wide (q ++ p) o (rebase q r)
rebase q (each p a r) = each (q ++ p) a (rebase q r)
rebase q (switch p cs r) = switch (q ++ p) cs (rebase q r)
rebase q (if_there p a r) = if_there (q ++ p) a (rebase q r)
rebase q (call k p r) = call k (q ++ p) (rebase q r)
rebase q (patch a s o r) = patch a s o (rebase q r)
