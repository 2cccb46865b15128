use Rattle.flick_engine.specs.RepliesReceived.{replied, ReadReply}
use Rattle.flick_lines.specs.Unmarshalled.{reply_text}
use Rattle.flick_lines.proofs.Options.{if-ok}
use Rattle.flick_lines.proofs.Written.{reply-read, reply-refused, octets-read, octets-refused}
use Rattle.flick_lines.proofs.unreplied.of_octets.Goals as goal

pub returns-in_ok-record_text-in-Ok : goal.returns-in_ok-record_text-in-Ok
returns-in_ok-record_text-in-Ok c =
    let b = c.args.engine.now.binding in
    let op = c.args.op in
    let reads = reply-read b op c.args.message.now c.in-Ok.reply c.in-Ok.ensures.read in
    if-ok _ _ _ (octets-read (ReadReply b op) (reply_text b op) c.args.message.now (replied c.in-Ok.reply) reads)
    (rw (c.as_slice.ensures.value, c.in_ok-record_text-in-Ok.ensures) at c.copied.ensures)

pub returns-in_ok-refusal_text-in-Err : goal.returns-in_ok-refusal_text-in-Err
returns-in_ok-refusal_text-in-Err c =
    let b = c.args.engine.now.binding in
    let op = c.args.op in
    let reads = reply-refused b op c.args.message.now c.in-Err.refusal c.in-Err.ensures.read c.in_ok-refusal_text-in-Err.ensures.memory in
    if-ok _ _ _ (octets-refused (ReadReply b op) (reply_text b op) c.args.message.now c.in-Err.refusal reads)
    (rw (c.as_bytes.ensures.value, c.in_ok-refusal_text-in-Err.ensures.reported) at c.copied-in-Err.ensures)
