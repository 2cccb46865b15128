-- The laws, over each way.
use Rattle.std.proofs.Common.{ℕ, List}
use Rattle.head_kit.proofs.Lawful.{IsSingle, single, decided}
use Rattle.back_xdr.specs.Heads.{HeadKind, call, reply, format}
use Rattle.back_xdr.specs.Laws.{HeadsAreDecided, HeadsAreRead}
use Rattle.back_xdr.proofs.Calls.{call_is}
use Rattle.back_xdr.proofs.Replies.{reply_is}

pub heads_are_read : HeadsAreRead
heads_are_read call = call_is
heads_are_read (reply arms) = reply_is arms

pub heads_are_single : (w : HeadKind) (o : List ℕ) → IsSingle (format w) o
heads_are_single w o = single (format w) (heads_are_read w) o

pub heads_are_decided : HeadsAreDecided
heads_are_decided w o oct = decided (format w) (heads_are_read w) o oct
