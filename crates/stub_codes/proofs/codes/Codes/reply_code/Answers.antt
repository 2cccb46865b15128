use Rattle.std.proofs.Common.{◌∙◌, sym, ap}
use Rattle.std.specs.Option.{option_copied}
use Rattle.stub_codes.proofs.Done.{kept_at, kept_is, none_kept}
use Rattle.stub_codes.proofs.codes.Codes.reply_code.Goals as goal

pub unreachable-requires : goal.unreachable-requires
unreachable-requires c =
    none_kept c.args.self.now.binding c.args.self.now.stubs c.args.op c.args.arm c.args.minor c.stub.result.now
    (c.codes_match_operations.ensures.replies c.requires.answers) c.stub.ensures.found c.requires.arm c.requires.minor
    (sym (rw (c.replies_in.ensures) at c.get.ensures) ∙ ap option_copied c.in-None.is)

pub returns-clause-found : goal.returns-clause-found
returns-clause-found c =
    rw (c.get-in-Some.ensures)
    (kept_at c.args.self.now.stubs c.args.op c.args.arm c.args.minor c.stub.result.now c.in-Some.code.now
    c.stub.ensures.found (sym (rw (c.replies_in.ensures) at c.in-Some.ensures)))

pub returns-clause-sends : goal.returns-clause-sends
returns-clause-sends c =
    rw (c.get-in-Some.ensures)
    (kept_is c.args.self.now.binding c.args.self.now.stubs c.args.op c.args.arm c.args.minor c.stub.result.now
    c.in-Some.code.now (c.codes_match_operations.ensures.replies c.requires.answers) c.stub.ensures.found c.requires.arm
    c.requires.minor (sym (rw (c.replies_in.ensures) at c.in-Some.ensures)))
