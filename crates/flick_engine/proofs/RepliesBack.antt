-- A reply that is sent is what is received.
use Rattle.std.proofs.Common.{◌≡◌, ◌++◌, length, length-append, refl, arith}
use Rattle.wire_def.specs.Send.{send}
use Rattle.flick_engine.specs.Backs.{encoding, reply_lead}
use Rattle.flick_engine.specs.Laws.{IsReplyReadBack}
use Rattle.flick_engine.specs.Replies.{arm_type, arm_message}
use Rattle.flick_engine.proofs.Back.{spells_after}
use Rattle.flick_engine.proofs.HeadsOfBacks.{same_length}
use Rattle.flick_engine.proofs.RepliesOfBacks.{long_reply_lead}
use Rattle.flick_engine.proofs.RepliesSent.{reply_received}

pub reply_read_back : IsReplyReadBack
reply_read_back b m op k head w t tells arm typed short =
    let is = reply_received b m op k head t tells in
    let lead = reply_lead b m op k head in
    let body = send (encoding b.back) (arm_type b op k) (length lead) w in
    let same : length (arm_message b m op k head w) ≡ length (lead ++ body) =
    same_length b.back (lead ++ body) (omega (arith, long_reply_lead b m op k head, length-append lead body)) in (
      t,
      k,
      (short, is.begins body tt (omega (arith, short, same)), arm),
      (
        refl,
        (
          w,
          refl,
          spells_after (encoding b.back) t.encoding (arm_type b op k) (length lead) t.used (arm_message b m op k head w) w
              is.encoding is.used (is.follows body) typed,
        ),
      ),
    )
