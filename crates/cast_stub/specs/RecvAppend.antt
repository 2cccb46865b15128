-- Receive code after receive code, and code for a part as code for the whole.
use Rattle.std.specs.Prelude.{ℕ, List, ◌++◌, map}
use Rattle.cast_stub.specs.declared.recv.Get.{Get}
use Rattle.cast_stub.specs.declared.recv.Get.TheVariants as get
use Rattle.cast_stub.specs.RecvBlock.{Recv, finish, need, need_row, skip_any, skip_zero, pass, desc, row_block, row_wide, each, switch, if_there, call}

-- a block after a block
abbrev pub append : Recv → Recv → Recv
append finish b = b
append (need n r) b = need n (append r b)
append (need_row p u e r) b = need_row p u e (append r b)
append (skip_any a r) b = skip_any a (append r b)
append (skip_zero a r) b = skip_zero a (append r b)
append (pass n gs r) b = pass n gs (append r b)
append (desc p name size mul r) b = desc p name size mul (append r b)
append (row_block p o r) b = row_block p o (append r b)
append (row_wide p o r) b = row_wide p o (append r b)
append (each p a r) b = each p a (append r b)
append (switch p cs r) b = switch p cs (append r b)
append (if_there p a r) b = if_there p a (append r b)
append (call k p r) b = call k p (append r b)

-- a get with a path before its own
abbrev pub get_rebased : List ℕ → Get → Get
get_rebased q (get.Num off p w o) = get.Num off (q ++ p) w o
get_rebased q (get.Tag off p w o) = get.Tag off (q ++ p) w o
get_rebased q (get.Flag off p w o) = get.Flag off (q ++ p) w o
get_rebased q (get.Count off p m a w o) = get.Count off (q ++ p) m a w o
get_rebased q (get.Const off os) = get.Const off os

-- a block with a path before its own paths, but not in bodies, which go by their own current value
abbrev pub rebase : List ℕ → Recv → Recv
rebase q finish = finish
rebase q (need n r) = need n (rebase q r)
rebase q (need_row p u e r) = need_row (q ++ p) u e (rebase q r)
rebase q (skip_any a r) = skip_any a (rebase q r)
rebase q (skip_zero a r) = skip_zero a (rebase q r)
rebase q (pass n gs r) = pass n (map (get_rebased q) gs) (rebase q r)
rebase q (desc p name size mul r) = desc (q ++ p) name size mul (rebase q r)
rebase q (row_block p o r) = row_block (q ++ p) o (rebase q r)
rebase q (row_wide p o r) = row_wide (q ++ p) o (rebase q r)
rebase q (each p a r) = each (q ++ p) a (rebase q r)
rebase q (switch p cs r) = switch (q ++ p) cs (rebase q r)
rebase q (if_there p a r) = if_there (q ++ p) a (rebase q r)
rebase q (call k p r) = call k (q ++ p) (rebase q r)
