-- Receive code with neighbouring tests as one, and neighbouring takes as one.
use Rattle.std.specs.Prelude.{ℕ, zero, suc, ◌+◌, List, [], ◌∷◌, ◌++◌, map, max, replicate, if◌then◌else◌}
use Rattle.wire_def.specs.declared.head.Order.TheVariants.{Big}
use Rattle.wire_def.specs.Scalars.{gap}
use Rattle.cast_stub.specs.declared.recv.Get.{Get}
use Rattle.cast_stub.specs.declared.recv.Get.TheVariants as get
use Rattle.cast_stub.specs.RecvBlock.{Recv, finish, need, need_row, skip_any, skip_zero, pass, desc, row_block, row_wide, each, switch, if_there, call, Cases, no_default, default, case}
use Rattle.cast_stub.specs.Steps.{is_width}
use Rattle.chunker.specs.declared.phase.Phase.{Phase}
use Rattle.chunker.specs.Left.{by_fours}
use Rattle.chunker.specs.Phases.{unknown, shift, is_known, modulo}
use Rattle.chunker.specs.RecvLeft.{looped, switched, perhaps}

-- ---- gets

-- a get so many octets further on
abbrev pub moved : ℕ → Get → Get
moved n (get.Num off p w o) = get.Num (off + n) p w o
moved n (get.Tag off p w o) = get.Tag (off + n) p w o
moved n (get.Flag off p w o) = get.Flag (off + n) p w o
moved n (get.Count off p m a w o) = get.Count (off + n) p m a w o
moved n (get.Const off os) = get.Const (off + n) os

-- so many zeros at a place
abbrev pub zeros : ℕ → ℕ → List Get
zeros n zero = []
zeros n (suc k) = get.Const n (replicate (suc k) 0) ∷ []

-- a number of no width, which is never read
abbrev pub unread : ℕ → ℕ → List Get
unread n a = get.Num n [] a Big ∷ []

-- ---- code

-- the octets that are tested from the beginning of a take on, with so many behind it; none need no test
abbrev pub seen_with : ℕ → ℕ → ℕ → ℕ
seen_with m n zero = m
seen_with m n (suc k) = max m (n + suc k)

-- a test of octets before a block, if there are any
abbrev pub tested : ℕ → Recv → Recv
tested zero r = r
tested (suc m) r = need (suc m) r

-- a take before a block, if it passes or reads something
abbrev pub taken : ℕ → List Get → Recv → Recv
taken n (g ∷ gs) r = pass n (g ∷ gs) r
taken zero [] r = r
taken (suc n) [] r = pass (suc n) [] r

-- the take that is open, with what is tested for it, before a block
abbrev pub closed : ℕ → List Get → ℕ → Recv → Recv
closed n gs m r = tested m (taken n gs r)

abbrev mutual
  -- a block at a phase, behind a take that is open: its size, its gets, and the octets tested from its beginning on
  pub chunked : Phase → ℕ → List Get → ℕ → Recv → Recv
  chunked ph n gs m finish = closed n gs m finish
  chunked ph n gs m (need k r) = chunked ph n gs (seen_with m n k) r
  chunked ph n gs m (need_row p u e r) = closed n gs m (need_row p u e (chunked ph 0 [] 0 r))
  chunked ph n gs m (skip_any a r) =
      if is_width a then (if is_known ph a then chunked (shift ph (gap ph.r a)) (n + gap ph.r a) gs (seen_with m n (gap ph.r a)) r
      else closed n gs m (skip_any a (chunked (modulo a 0) 0 [] 0 r))) else chunked ph n (gs ++ unread n a) m r
  chunked ph n gs m (skip_zero a r) =
      if is_width a then (if is_known ph a
      then chunked (shift ph (gap ph.r a)) (n + gap ph.r a) (gs ++ zeros n (gap ph.r a)) (seen_with m n (gap ph.r a)) r
      else closed n gs m (skip_zero a (chunked (modulo a 0) 0 [] 0 r))) else chunked ph n (gs ++ unread n a) m r
  chunked ph n gs m (pass s hs r) = chunked (shift ph s) (n + s) (gs ++ map (moved n) hs) m r
  chunked ph n gs m (desc p name size mul r) = closed n gs m (desc p name size mul (chunked unknown 0 [] 0 r))
  chunked ph n gs m (row_block p o r) = closed n gs m (row_block p o (chunked unknown 0 [] 0 r))
  chunked ph n gs m (row_wide p o r) = closed n gs m (row_wide p o (chunked (by_fours ph) 0 [] 0 r))
  chunked ph n gs m (each p b r) = closed n gs m (each p (chunked (looped ph b) 0 [] 0 b) (chunked (looped ph b) 0 [] 0 r))
  chunked ph n gs m (switch p cs r) = closed n gs m (switch p (cases_chunked ph cs) (chunked (switched ph cs) 0 [] 0 r))
  chunked ph n gs m (if_there p b r) = closed n gs m (if_there p (chunked ph 0 [] 0 b) (chunked (perhaps ph b) 0 [] 0 r))
  chunked ph n gs m (call k p r) = closed n gs m (call k p (chunked unknown 0 [] 0 r))

  -- the bodies of a switch, each at a phase
  pub cases_chunked : Phase → Cases → Cases
  cases_chunked ph no_default = no_default
  cases_chunked ph (default b) = default (chunked ph 0 [] 0 b)
  cases_chunked ph (case n b cs) = case n (chunked ph 0 [] 0 b) (cases_chunked ph cs)
