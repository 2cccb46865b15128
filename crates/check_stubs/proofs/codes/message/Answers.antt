use Rattle.std.proofs.Common.{ℕ, ◌<◌, sym, subst}
use Rattle.mint.specs.Types.{type_at}
use Rattle.cast_stub.specs.declared.send.SendCode.{SendCode}
use Rattle.cast_stub.specs.Meaning.{IsCovered}
use Rattle.copy_inline.specs.Rows as rows
use Rattle.check_stubs.proofs.Readying.{is_given, hoisted_covered, rows_given, rows_covered}
use Rattle.check_stubs.proofs.codes.message.Goals as goal

pub hoist-requires-clause-given : goal.hoist-requires-clause-given
hoist-requires-clause-given c =
    is_given c.enc-enc.result c.args.table.now c.args.id c.in_ok-subs.subs c.args.head c.in_ok-body.body c.in_ok-whole.whole
    (c.types_are_sound.ensures c.args.id)
    (subst (λ (n : ℕ). c.args.id < n) (sym c.in_ok-subs.ensures.many) c.requires.id) c.in_ok-subs.ensures.means c.in_ok-subs.ensures.follows
    c.requires.lead c.in_ok-body.ensures.steps c.in_ok-body.ensures.follows c.in_ok-body.ensures.subs c.in_ok-whole.ensures

pub rows-requires-clause-given : goal.rows-requires-clause-given
rows-requires-clause-given c =
    subst (λ (x : SendCode). rows.IsGiven c.enc-enc.result (type_at c.args.table.now c.args.id) x) (sym c.in_ok-same.ensures)
    (rows_given c.enc-enc.result c.args.table.now c.args.id c.in_ok-subs.subs c.args.head c.in_ok-body.body c.in_ok-whole.whole
    (c.types_are_sound.ensures c.args.id)
    (subst (λ (n : ℕ). c.args.id < n) (sym c.in_ok-subs.ensures.many) c.requires.id) c.in_ok-subs.ensures.means c.in_ok-subs.ensures.follows
    c.requires.lead c.in_ok-body.ensures.steps c.in_ok-body.ensures.follows c.in_ok-body.ensures.subs c.in_ok-whole.ensures
    c.in_ok-body.ensures.turned c.in_ok-subs.ensures.rows c.in_ok-code.code c.in_ok-code.ensures.adds c.in_ok-code.ensures.rows
    c.in_ok-code.ensures.subs)

pub returns-clause-first : goal.returns-clause-first
returns-clause-first c =
    hoisted_covered c.enc-enc.result c.args.table.now c.args.id c.in_ok-subs.subs c.args.head c.in_ok-body.body c.in_ok-whole.whole
    (c.types_are_sound.ensures c.args.id)
    (subst (λ (n : ℕ). c.args.id < n) (sym c.in_ok-subs.ensures.many) c.requires.id) c.in_ok-subs.ensures.means c.in_ok-subs.ensures.follows
    c.requires.lead c.in_ok-body.ensures.steps c.in_ok-body.ensures.follows c.in_ok-body.ensures.subs c.in_ok-whole.ensures
    c.in_ok-code.code c.in_ok-code.ensures.covered

pub returns-clause-second : goal.returns-clause-second
returns-clause-second c =
    rows_covered (type_at c.args.table.now c.args.id) c.in_ok-same.same c.in_ok-in_rows.in_rows
    (subst (λ (x : SendCode). IsCovered (type_at c.args.table.now c.args.id) 0 x) (sym c.in_ok-same.ensures)
    (hoisted_covered c.enc-enc.result c.args.table.now c.args.id c.in_ok-subs.subs c.args.head c.in_ok-body.body c.in_ok-whole.whole
    (c.types_are_sound.ensures c.args.id)
    (subst (λ (n : ℕ). c.args.id < n) (sym c.in_ok-subs.ensures.many) c.requires.id) c.in_ok-subs.ensures.means c.in_ok-subs.ensures.follows
    c.requires.lead c.in_ok-body.ensures.steps c.in_ok-body.ensures.follows c.in_ok-body.ensures.subs c.in_ok-whole.ensures
    c.in_ok-code.code c.in_ok-code.ensures.covered))
    c.in_ok-in_rows.ensures.covered

pub inline-requires-clause-types : goal.inline-requires-clause-types
inline-requires-clause-types c = (c.args.table.now, c.types_are_sound.ensures, c.in_ok-subs.ensures.follows)
