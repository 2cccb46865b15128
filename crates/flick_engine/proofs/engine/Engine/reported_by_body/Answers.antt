use Rattle.std.proofs.Common.{arith, refl}
use Rattle.mint.specs.Values.{seen}
use Rattle.flick_engine.proofs.Answering.{body_within, is_trailing, is_request}
use Rattle.flick_engine.proofs.Deciding.{exactly}
use Rattle.flick_engine.proofs.engine.Engine.reported_by_body.Goals as goal

pub overflow_add-end : goal.overflow_add-end
overflow_add-end c =
    let first = (c.requires.value (seen c.in-Value.value) c.in-Value.used).0 (rw c.in-Value.is (refl, refl)) in
    let within = body_within c.args.self.now.binding c.args.message.now c.args.called.now c.args.op c.requires.names _ _ first in
    omega (arith, within, c.requires.names.0)

pub returns-then-end-message-clause-read : goal.returns-then-end-message-clause-read
returns-then-end-message-clause-read c =
    let first = (c.requires.value (seen c.in-Value.value) c.in-Value.used).0 (rw c.in-Value.is (refl, refl)) in
    is_trailing c.args.self.now.binding c.args.message.now c.args.called.now c.args.op c.requires.names _ _ first c.if-end-message.true

pub returns-else-end-message-clause-read : goal.returns-else-end-message-clause-read
returns-else-end-message-clause-read c =
    let first = (c.requires.value (seen c.in-Value.value) c.in-Value.used).0 (rw c.in-Value.is (refl, refl)) in
    is_request c.args.self.now.binding c.args.message.now c.args.called.now c.args.op c.requires.names _ _ first
    (omega (arith, c.if-end-message.false))

pub returns-else-end-message-clause-typed : goal.returns-else-end-message-clause-typed
returns-else-end-message-clause-typed c =
    let first = (c.requires.value (seen c.in-Value.value) c.in-Value.used).0 (rw c.in-Value.is (refl, refl)) in
    first.spelled.typed

pub returns-in-Stop-clause-read : goal.returns-in-Stop-clause-read
returns-in-Stop-clause-read c =
    let stops = (c.requires.stop c.in-Stop.fault.kind c.in-Stop.fault.at).0 (rw c.in-Stop.is (refl, refl)) in
    exactly c.args.self.now.binding c.args.message.now _ (c.args.called.now, c.args.op, c.requires.names, stops)

pub returns-else-end-message-clause-whole : goal.returns-else-end-message-clause-whole
returns-else-end-message-clause-whole c =
    let first = (c.requires.value (seen c.in-Value.value) c.in-Value.used).0 (rw c.in-Value.is (refl, refl)) in
    let within = body_within c.args.self.now.binding c.args.message.now c.args.called.now c.args.op c.requires.names _ _ first in
    (refl, rw c.in-Value.is (refl, omega (arith, within, c.if-end-message.false)))
