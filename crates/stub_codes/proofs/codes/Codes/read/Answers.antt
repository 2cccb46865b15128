use Rattle.std.proofs.Common.{◌≡◌, ℕ, ◌-◌, List, drop, subst, arith}
use Rattle.mint.specs.Values.{seen}
use Rattle.stub_receiver.specs.declared.recv.Got.{Got}
use Rattle.stub_receiver.specs.Ran.{IsSpelled}
use Rattle.wire_def.specs.Laws.{BeginsWith}
use Rattle.stub_codes.specs.Messages.{request_type}
use Rattle.stub_codes.proofs.Found.{value_is, no_stop}
use Rattle.stub_codes.proofs.codes.Codes.read.Goals as goal

pub returns-in-Value-clause-value : goal.returns-in-Value-clause-value
returns-in-Value-clause-value c =
    let e = c.args.enc in
    let t = request_type c.args.self.now.binding c.args.op in
    let p = c.args.view.now.pos in
    let w = seen c.in-Value.value in
    let found = subst (λ (g : Got). IsSpelled e t g c.args.view.now c.receive.new.view) c.in-Value.is c.in_ok-value.ensures.spelled in
    let many : found.0 ≡ c.pos.result - c.pos-at.result = omega (arith, found.1, c.pos.ensures.value, c.pos-at.ensures.value) in
    let first = subst (λ (o : List ℕ). BeginsWith e t p (drop p o) w found.0) c.requires.message found.2 in
    value_is e t p (drop p c.args.message.now) w (c.pos.result - c.pos-at.result)
    (subst (λ (n : ℕ). BeginsWith e t p (drop p c.args.message.now) w n) many first)

pub returns-in-Value-clause-stop : goal.returns-in-Value-clause-stop
returns-in-Value-clause-stop c =
    let e = c.args.enc in
    let t = request_type c.args.self.now.binding c.args.op in
    let p = c.args.view.now.pos in
    let w = seen c.in-Value.value in
    let found = subst (λ (g : Got). IsSpelled e t g c.args.view.now c.receive.new.view) c.in-Value.is c.in_ok-value.ensures.spelled in
    let first = subst (λ (o : List ℕ). BeginsWith e t p (drop p o) w found.0) c.requires.message found.2 in
    no_stop e t p (drop p c.args.message.now) w found.0 first
