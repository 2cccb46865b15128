use Rattle.std.proofs.Common.{◌<◌, length, arith}
use Rattle.std.proofs.lemmas.Result.{IfOk-weaker}
use Rattle.mint.specs.Types.{type_at}
use Rattle.wire_def.specs.declared.encoding.Encoding.TheVariants.{Xdr}
use Rattle.cast_stub.specs.declared.send.SendCode.{SendCode}
use Rattle.bench_stubs.proofs.Readying.{alone_given, alone_rows, alone_covered}
use Rattle.bench_stubs.proofs.in_rows.sending.Goals as goal

pub inline-requires-clause-types : goal.inline-requires-clause-types
inline-requires-clause-types c = (c.args.table.now, c.types_are_sound.ensures, c.in_ok-subs.ensures.follows)

pub hoist-requires-clause-given : goal.hoist-requires-clause-given
hoist-requires-clause-given c = alone_given _ c.args.id _ c.in_ok-flat.flat (c.types_are_sound.ensures c.args.id)
    c.in_ok-subs.ensures.follows c.in_ok-flat.ensures.follows c.in_ok-flat.ensures.subs

pub rows-requires-clause-given : goal.rows-requires-clause-given
rows-requires-clause-given c =
    alone_rows Xdr c.args.table.now c.args.id c.in_ok-subs.subs c.in_ok-flat.flat c.in_ok-code.code (c.types_are_sound.ensures c.args.id)
    c.in_ok-subs.ensures.rows c.in_ok-flat.ensures.turned
    c.in_ok-code.ensures.adds c.in_ok-code.ensures.rows c.in_ok-code.ensures.subs

pub returns : goal.returns
returns c =
    let lt : c.args.id < length c.in_ok-subs.subs = omega (arith, c.requires, c.in_ok-subs.ensures.many) in
    IfOk-weaker c.rows.result _ _
    (λ (code : SendCode) h. alone_covered c.args.table.now c.args.id c.in_ok-subs.subs c.in_ok-flat.flat c.in_ok-code.code code lt
    c.in_ok-subs.ensures.means c.in_ok-flat.ensures.steps c.in_ok-code.ensures.covered h)
    c.rows.ensures.covered
