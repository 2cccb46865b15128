-- Code whose calls are replaced has no call, by induction on the depth of calls and the code.
use Rattle.std.proofs.Common.{ℕ, zero, suc, List, Option, Some, None}
use Rattle.cast_stub.specs.Block.{Block, stop, ensure, ensure_row, align, chunk, row_copy, row_swap, row_wide, each, switch, if_there, call, patch, Cases, no_default, default, case}
use Rattle.cast_stub.specs.Append.{append, rebase}
use Rattle.cast_stub.specs.CallFree.{HasNoCall, CasesHaveNoCall}
use Rattle.copy_inline.specs.Spliced.{spliced, cases_spliced, spliced_or_stop, inlined}

append_free : (a b : Block) → HasNoCall a → HasNoCall b → HasNoCall (append a b)
append_free stop b h k = k
append_free (ensure n r) b h k = append_free r b h k
append_free (ensure_row p u e r) b h k = append_free r b h k
append_free (align a r) b h k = append_free r b h k
append_free (chunk s ps r) b h k = append_free r b h k
append_free (row_copy p r) b h k = append_free r b h k
append_free (row_swap p r) b h k = append_free r b h k
append_free (row_wide p o r) b h k = append_free r b h k
append_free (each p w r) b h k = (h.0, append_free r b h.1 k)
append_free (switch p cs r) b h k = (h.0, append_free r b h.1 k)
append_free (if_there p w r) b h k = (h.0, append_free r b h.1 k)
append_free (call n p r) b h k = absurd h
append_free (patch a s o r) b h k = append_free r b h k

rebase_free : (q : List ℕ) (b : Block) → HasNoCall b → HasNoCall (rebase q b)
rebase_free q stop h = tt
rebase_free q (ensure n r) h = rebase_free q r h
rebase_free q (ensure_row p u e r) h = rebase_free q r h
rebase_free q (align a r) h = rebase_free q r h
rebase_free q (chunk s ps r) h = rebase_free q r h
rebase_free q (row_copy p r) h = rebase_free q r h
rebase_free q (row_swap p r) h = rebase_free q r h
rebase_free q (row_wide p o r) h = rebase_free q r h
rebase_free q (each p w r) h = (h.0, rebase_free q r h.1)
rebase_free q (switch p cs r) h = (h.0, rebase_free q r h.1)
rebase_free q (if_there p w r) h = (h.0, rebase_free q r h.1)
rebase_free q (call n p r) h = absurd h
rebase_free q (patch a s o r) h = rebase_free q r h

module _ (code : ℕ → Block) (free : (k : ℕ) → HasNoCall (code k)) where
  mutual
    spliced_free : (b : Block) → HasNoCall (spliced code b)
    spliced_free stop = tt
    spliced_free (ensure n r) = spliced_free r
    spliced_free (ensure_row p u e r) = spliced_free r
    spliced_free (align a r) = spliced_free r
    spliced_free (chunk s ps r) = spliced_free r
    spliced_free (row_copy p r) = spliced_free r
    spliced_free (row_swap p r) = spliced_free r
    spliced_free (row_wide p o r) = spliced_free r
    spliced_free (each p b r) = (spliced_free b, spliced_free r)
    spliced_free (switch p cs r) = (cases_free cs, spliced_free r)
    spliced_free (if_there p b r) = (spliced_free b, spliced_free r)
    spliced_free (call k p r) = append_free (rebase p (code k)) (spliced code r) (rebase_free p (code k) (free k)) (spliced_free r)
    spliced_free (patch a s o r) = spliced_free r

    cases_free : (cs : Cases) → CasesHaveNoCall (cases_spliced code cs)
    cases_free no_default = tt
    cases_free (default b) = spliced_free b
    cases_free (case m b cs) = (spliced_free b, cases_free cs)

sub_free : (code : ℕ → Block) → ((k : ℕ) → HasNoCall (code k)) → (o : Option Block) → HasNoCall (spliced_or_stop code o)
sub_free code free None = tt
sub_free code free (Some b) = spliced_free code free b

pub inlined_free : (subs : ℕ → Option Block) (n k : ℕ) → HasNoCall (inlined subs n k)
inlined_free subs zero k = tt
inlined_free subs (suc n) k = sub_free (inlined subs n) (inlined_free subs n) (subs k)
