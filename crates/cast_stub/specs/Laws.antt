-- The laws of steps and of the folds over them.
use Rattle.std.specs.Prelude.{◌≡◌, ℕ, ◌≤◌, List, [], ◌++◌, Some}
use Rattle.mint.specs.Values.{Val}
use Rattle.wire_def.specs.declared.head.Head.{Head}
use Rattle.cast_stub.specs.Parts.{on_some, at}
use Rattle.cast_stub.specs.Block.{Block}
use Rattle.cast_stub.specs.Append.{append, rebase}
use Rattle.cast_stub.specs.CallFree.{HasNoCall}
use Rattle.cast_stub.specs.Entered.{Entries, entered}
use Rattle.kit_base.specs.Causes.{raised}
use Rattle.mint.specs.Types.{Ty}
use Rattle.cast_stub.specs.declared.recv.RecvCode.{RecvCode}
use Rattle.cast_stub.specs.Draft.{Draft}
use Rattle.cast_stub.specs.Fill.{Callees, fill, part}
use Rattle.cast_stub.specs.Got.{Got, given, not_given, got_by, untested}
use Rattle.cast_stub.specs.Got as by
use Rattle.cast_stub.specs.PutPart.{put_part}
use Rattle.cast_stub.specs.RecvAppend as received
use Rattle.cast_stub.specs.RecvBlock.{Recv}
use Rattle.cast_stub.specs.Runs.{Place, gives, then_run, if_some, Holds}
use Rattle.cast_stub.specs.Kept.{unensured}
use Rattle.cast_stub.specs.Steps.{Step, Calls, both, steps}
use Rattle.cast_stub.specs.Meaning.{wrote, costs, sum, HasRoom}

-- the steps of a block after a block
abbrev pub CodeAfterCode : Type 0
CodeAfterCode = (c : Calls) (h : Head) (a b : Block) (v : Val) → steps c h (append a b) v ≡ both (steps c h a v) (steps c h b v)

-- a part's code on the whole
abbrev pub CodeForPart : Type 0
CodeForPart = (c : Calls) (h : Head) (q : List ℕ) (b : Block) (v w : Val) → at q v ≡ Some w → steps c h (rebase q b) v ≡ steps c h b w

-- room that is there stays with more of it
abbrev pub MoreRoom : Type 0
MoreRoom = (p a b : ℕ) (ss : List Step) → a ≤ b → HasRoom p a ss → HasRoom p b ss

-- what steps after steps write
abbrev pub WrittenInTurn : Type 0
WrittenInTurn = (base : ℕ) (o : List ℕ) (a b : List Step) → wrote base o (a ++ b) ≡ on_some (wrote base o a) (λ p. wrote base p b)

-- what steps after steps cost
abbrev pub CostsAdd : Type 0
CostsAdd = (a b : List Step) → costs (a ++ b) ≡ sum (costs a) (costs b)

-- the calls that a block after a block runs
abbrev pub CallsInTurn : Type 0
CallsInTurn = (e : Entries) (a b : Block) (v : Val) → entered e (append a b) v ≡ entered e a v ++ entered e b v

-- ensures run no call
abbrev pub EnsuresRunNoCall : Type 0
EnsuresRunNoCall = (e : Entries) (b : Block) (v : Val) → entered e (unensured b) v ≡ entered e b v

-- code without calls runs none
abbrev pub NoCallRunsNone : Type 0
NoCallRunsNone = (e : Entries) (b : Block) (v : Val) → HasNoCall b → entered e b v ≡ []

-- the run of a block after a block
abbrev pub RecvAfterRecv : Type 0
RecvAfterRecv = (c : Callees) (a b : Recv) (d : Draft) (s : Place) → fill c (received.append a b) d s ≡ then_run (fill c a d s) (fill c b)

-- a part's code on the whole
abbrev pub RecvForPart : Type 0
RecvForPart = (c : Callees) (q : List ℕ) (b : Recv) (d x : Draft) (s : Place) → part q d ≡ Some x
    → fill c (received.rebase q b) d s ≡ then_run (fill c b x s) (λ y t. if_some (put_part q y d) (λ e. gives e t))

-- what is given, after so many tests
abbrev pub later : ℕ → Got → Got
later k (given v end tests) = given v end (raised k tests)
later k not_given = not_given

-- tests that were made before are added, and change nothing else
abbrev pub TestsAdd : Type 0
TestsAdd = (code : RecvCode) (t : Ty) (s : Place) → Holds (by.received code t (untested s.pos s.left)) → got_by code t s
    ≡ later s.tests (got_by code t (untested s.pos s.left))
