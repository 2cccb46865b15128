use Rattle.mint.specs.Types.{type_at}
use Rattle.hoist.proofs.Promised.{given-taken, sends-same, changes-only-ensures, covered-for, sparing, bare-rows, big-rows}
use Rattle.hoist.proofs.Rowless.{no_row}
use Rattle.hoist.proofs.pass.hoist.Goals as goal

pub hoist_ops-requires-clause-taken : goal.hoist_ops-requires-clause-taken
hoist_ops-requires-clause-taken c = given-taken c.args.classes.now.enc (type_at c.args.mint.now c.args.id) c.args.code c.requires.given

pub returns-clause-same : goal.returns-clause-same
returns-clause-same c =
    sends-same c.args.classes.now.enc c.args.code (record { ops = c.in_ok-hoist_ops.field-0; subs = c.new.result })
    (type_at c.args.mint.now c.args.id) c.in_ok-hoist_ops.ensures c.requires.given.0 c.new.ensures

pub returns-clause-adds : goal.returns-clause-adds
returns-clause-adds c =
    changes-only-ensures c.args.classes.now.enc c.args.code (record { ops = c.in_ok-hoist_ops.field-0; subs = c.new.result })
    (type_at c.args.mint.now c.args.id) c.in_ok-hoist_ops.ensures c.requires.given.0 c.new.ensures

pub returns-clause-covered : goal.returns-clause-covered
returns-clause-covered c =
    covered-for c.args.classes.now.enc c.args.code (record { ops = c.in_ok-hoist_ops.field-0; subs = c.new.result })
    (type_at c.args.mint.now c.args.id) c.in_ok-hoist_ops.ensures c.requires.given.0 c.new.ensures
    (given-taken c.args.classes.now.enc (type_at c.args.mint.now c.args.id) c.args.code c.requires.given)

pub returns-clause-sparing : goal.returns-clause-sparing
returns-clause-sparing c =
    sparing c.args.classes.now.enc c.args.code (record { ops = c.in_ok-hoist_ops.field-0; subs = c.new.result })
    (type_at c.args.mint.now c.args.id) c.in_ok-hoist_ops.ensures c.requires.given.0 c.new.ensures
    (c.types_are_sound.ensures c.args.id)

pub returns-clause-rows : goal.returns-clause-rows
returns-clause-rows c =
    bare-rows c.args.classes.now.enc c.args.code (record { ops = c.in_ok-hoist_ops.field-0; subs = c.new.result })
    (type_at c.args.mint.now c.args.id) c.in_ok-hoist_ops.ensures c.requires.given.0 c.new.ensures
    (given-taken c.args.classes.now.enc (type_at c.args.mint.now c.args.id) c.args.code c.requires.given)

pub returns-clause-big : goal.returns-clause-big
returns-clause-big c =
    big-rows c.args.classes.now.enc c.args.code (record { ops = c.in_ok-hoist_ops.field-0; subs = c.new.result })
    (type_at c.args.mint.now c.args.id) c.in_ok-hoist_ops.ensures c.requires.given.0 c.new.ensures
    (given-taken c.args.classes.now.enc (type_at c.args.mint.now c.args.id) c.args.code c.requires.given)

pub returns-clause-no_row : goal.returns-clause-no_row
returns-clause-no_row c =
    no_row (type_at c.args.mint.now c.args.id) c.args.code (record { ops = c.in_ok-hoist_ops.field-0; subs = c.new.result })
    c.requires.given
    (changes-only-ensures c.args.classes.now.enc c.args.code (record { ops = c.in_ok-hoist_ops.field-0; subs = c.new.result })
    (type_at c.args.mint.now c.args.id) c.in_ok-hoist_ops.ensures c.requires.given.0 c.new.ensures)
    c.new.ensures
