-- The laws, over each way.
use Rattle.std.proofs.Common.{ℕ, List, length}
use Rattle.head_kit.proofs.Lawful.{IsSingle, single, decided}
use Rattle.back_mach.specs.Heads.{HeadKind, call, reply, format}
use Rattle.back_mach.specs.Laws.{HeadsAreDecided, HeadsAreRead}
use Rattle.back_mach.proofs.Headers.{header_is}
use Rattle.back_mach.proofs.Replies.{reply_is}

pub heads_are_read : HeadsAreRead
heads_are_read call n = header_is n
heads_are_read (reply id arms) n = reply_is id arms n

pub heads_are_single : (w : HeadKind) (o : List ℕ) → IsSingle (format w (length o)) o
heads_are_single w o = single (format w (length o)) (heads_are_read w (length o)) o

pub heads_are_decided : HeadsAreDecided
heads_are_decided w o oct = decided (format w (length o)) (heads_are_read w (length o)) o oct
