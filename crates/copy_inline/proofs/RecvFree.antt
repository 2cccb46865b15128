-- Code whose calls are replaced has no call, by induction on the depth of calls and the code.
use Rattle.std.proofs.Common.{ℕ, zero, suc, List, Option, Some, None}
use Rattle.cast_stub.specs.RecvBlock.{Recv, finish, need, need_row, skip_any, skip_zero, pass, desc, row_block, row_wide, each, switch, if_there, call, Cases, no_default, default, case}
use Rattle.cast_stub.specs.RecvAppend.{append, rebase}
use Rattle.copy_inline.specs.RecvCallFree.{HasNoCall, CasesHaveNoCall}
use Rattle.copy_inline.specs.RecvSpliced.{spliced, cases_spliced, spliced_or_stop, inlined}

append_free : (a b : Recv) → HasNoCall a → HasNoCall b → HasNoCall (append a b)
append_free finish b h k = k
append_free (need n r) b h k = append_free r b h k
append_free (need_row p u e r) b h k = append_free r b h k
append_free (skip_any a r) b h k = append_free r b h k
append_free (skip_zero a r) b h k = append_free r b h k
append_free (pass s ps r) b h k = append_free r b h k
append_free (row_block p o r) b h k = append_free r b h k
append_free (desc p name size mul r) b h k = append_free r b h k
append_free (row_wide p o r) b h k = append_free r b h k
append_free (each p w r) b h k = (h.0, append_free r b h.1 k)
append_free (switch p cs r) b h k = (h.0, append_free r b h.1 k)
append_free (if_there p w r) b h k = (h.0, append_free r b h.1 k)
append_free (call n p r) b h k = absurd h

rebase_free : (q : List ℕ) (b : Recv) → HasNoCall b → HasNoCall (rebase q b)
rebase_free q finish h = tt
rebase_free q (need n r) h = rebase_free q r h
rebase_free q (need_row p u e r) h = rebase_free q r h
rebase_free q (skip_any a r) h = rebase_free q r h
rebase_free q (skip_zero a r) h = rebase_free q r h
rebase_free q (pass s ps r) h = rebase_free q r h
rebase_free q (row_block p o r) h = rebase_free q r h
rebase_free q (desc p name size mul r) h = rebase_free q r h
rebase_free q (row_wide p o r) h = rebase_free q r h
rebase_free q (each p w r) h = (h.0, rebase_free q r h.1)
rebase_free q (switch p cs r) h = (h.0, rebase_free q r h.1)
rebase_free q (if_there p w r) h = (h.0, rebase_free q r h.1)
rebase_free q (call n p r) h = absurd h

module _ (code : ℕ → Recv) (free : (k : ℕ) → HasNoCall (code k)) where
  mutual
    spliced_free : (b : Recv) → HasNoCall (spliced code b)
    spliced_free finish = tt
    spliced_free (need n r) = spliced_free r
    spliced_free (need_row p u e r) = spliced_free r
    spliced_free (skip_any a r) = spliced_free r
    spliced_free (skip_zero a r) = spliced_free r
    spliced_free (pass s ps r) = spliced_free r
    spliced_free (row_block p o r) = spliced_free r
    spliced_free (desc p name size mul r) = spliced_free r
    spliced_free (row_wide p o r) = spliced_free r
    spliced_free (each p b r) = (spliced_free b, spliced_free r)
    spliced_free (switch p cs r) = (cases_free cs, spliced_free r)
    spliced_free (if_there p b r) = (spliced_free b, spliced_free r)
    spliced_free (call k p r) = append_free (rebase p (code k)) (spliced code r) (rebase_free p (code k) (free k)) (spliced_free r)

    cases_free : (cs : Cases) → CasesHaveNoCall (cases_spliced code cs)
    cases_free no_default = tt
    cases_free (default b) = spliced_free b
    cases_free (case m b cs) = (spliced_free b, cases_free cs)

sub_free : (code : ℕ → Recv) → ((k : ℕ) → HasNoCall (code k)) → (o : Option Recv) → HasNoCall (spliced_or_stop code o)
sub_free code free None = tt
sub_free code free (Some b) = spliced_free code free b

pub inlined_free : (subs : ℕ → Option Recv) (n k : ℕ) → HasNoCall (inlined subs n k)
inlined_free subs zero k = tt
inlined_free subs (suc n) k = sub_free (inlined subs n) (inlined_free subs n) (subs k)
