-- The laws, over each way.
use Rattle.std.proofs.Common.{ℕ, List, length}
use Rattle.head_kit.proofs.Lawful.{IsSingle, single, decided}
use Rattle.giop_head.specs.declared.header.HeadKind.{HeadKind}
use Rattle.giop_head.specs.declared.header.HeadKind.TheVariants.{Asks, Requests, Replies}
use Rattle.giop_head.specs.Heads.{format}
use Rattle.giop_head.specs.Laws.{HeadsAreDecided, HeadsAreRead}
use Rattle.giop_head.proofs.Calls.{call_is, ordered_is}
use Rattle.giop_head.proofs.Replies.{reply_is}

pub heads_are_read : HeadsAreRead
heads_are_read Asks n = call_is n
heads_are_read Requests n = ordered_is n
heads_are_read Replies n = reply_is n

pub heads_are_single : (w : HeadKind) (o : List ℕ) → IsSingle (format w (length o)) o
heads_are_single w o = single (format w (length o)) (heads_are_read w (length o)) o

pub heads_are_decided : HeadsAreDecided
heads_are_decided w o oct = decided (format w (length o)) (heads_are_read w (length o)) o oct
