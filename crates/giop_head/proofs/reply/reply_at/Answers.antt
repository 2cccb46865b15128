use Rattle.std.proofs.Common.{◌≡◌, rules, sym}
use Rattle.std.specs.Prelude.{Err}
use Rattle.giop_head.proofs.Replies.{stopped_late}
use Rattle.giop_head.proofs.reply.reply_at.Goals as goal

pub returns-in_err-status : goal.returns-in_err-status
returns-in_err-status c =
    let same : c.from_residual-in_err-status.result ≡ Err c.in_err-status.field-0.0 = search rules in
    rw same
    (sym (stopped_late c.args.total c.args.at.place c.args.at.rest.now c.in_ok-header.header _ _ _ _ _ _ _ _ c.in_ok-header.ensures.read
    c.in_ok-at.ensures c.in_ok-id.ensures c.in_err-status.ensures))
