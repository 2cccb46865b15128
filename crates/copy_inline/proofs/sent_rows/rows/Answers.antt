use Rattle.mint.specs.Types.{type_at}
use Rattle.copy_inline.proofs.RowReady.{given_ready}
use Rattle.copy_inline.proofs.RowWhole.{sends_same, stays_covered, checks_same, gives_blocks, has_no_call}
use Rattle.copy_inline.proofs.sent_rows.rows.Goals as goal

pub rows_ops-requires-clause-ready : goal.rows_ops-requires-clause-ready
rows_ops-requires-clause-ready c = given_ready c.args.enc (type_at c.args.mint.now c.args.id) c.args.code c.requires.given

pub returns-clause-same : goal.returns-clause-same
returns-clause-same c = sends_same c.args.enc (type_at c.args.mint.now c.args.id) c.args.code
    (record { ops = c.in_ok-rows_ops.field-0; subs = c.new.result }) c.requires.given c.in_ok-rows_ops.ensures c.new.ensures

pub returns-clause-covered : goal.returns-clause-covered
returns-clause-covered c = stays_covered c.args.enc (type_at c.args.mint.now c.args.id) c.args.code
    (record { ops = c.in_ok-rows_ops.field-0; subs = c.new.result }) c.requires.given c.in_ok-rows_ops.ensures c.new.ensures

pub returns-clause-checks : goal.returns-clause-checks
returns-clause-checks c = checks_same c.args.enc (type_at c.args.mint.now c.args.id) c.args.code
    (record { ops = c.in_ok-rows_ops.field-0; subs = c.new.result }) c.requires.given c.in_ok-rows_ops.ensures c.new.ensures

pub returns-clause-calls : goal.returns-clause-calls
returns-clause-calls c = has_no_call c.args.enc (type_at c.args.mint.now c.args.id) c.args.code
    (record { ops = c.in_ok-rows_ops.field-0; subs = c.new.result }) c.requires.given c.in_ok-rows_ops.ensures c.new.ensures

pub returns-clause-blocks : goal.returns-clause-blocks
returns-clause-blocks c = gives_blocks c.args.enc (type_at c.args.mint.now c.args.id) c.args.code
    (record { ops = c.in_ok-rows_ops.field-0; subs = c.new.result }) c.requires.given c.in_ok-rows_ops.ensures c.new.ensures
