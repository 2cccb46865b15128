use Rattle.mint.specs.Types.{type_at}
use Rattle.copy_inline.proofs.RecvRowWhole.{given_ready, gives_same, stays_sound, has_no_call}
use Rattle.copy_inline.proofs.recv_rows.rows_recv.Goals as goal

pub rows_ops-requires-clause-ready : goal.rows_ops-requires-clause-ready
rows_ops-requires-clause-ready c = given_ready c.args.enc (type_at c.args.mint.now c.args.id) c.args.code.now c.requires.given

pub returns-clause-same : goal.returns-clause-same
returns-clause-same c = gives_same c.args.enc (type_at c.args.mint.now c.args.id) c.args.code.now
    (record { ops = c.in_ok-rows_ops.field-0; subs = c.new.result }) c.requires.given c.in_ok-rows_ops.ensures c.new.ensures

pub returns-clause-sound : goal.returns-clause-sound
returns-clause-sound c = stays_sound c.args.enc (type_at c.args.mint.now c.args.id) c.args.code.now
    (record { ops = c.in_ok-rows_ops.field-0; subs = c.new.result }) c.requires.given c.in_ok-rows_ops.ensures c.new.ensures

pub returns-clause-calls : goal.returns-clause-calls
returns-clause-calls c = has_no_call c.args.enc (type_at c.args.mint.now c.args.id) c.args.code.now
    (record { ops = c.in_ok-rows_ops.field-0; subs = c.new.result }) c.requires.given c.in_ok-rows_ops.ensures c.new.ensures
