use Rattle.std.proofs.Common.{rules, ap, ◌∙◌}
use Rattle.hex.proofs.HexLemmas.{decode_of-encode_lower}
use Rattle.stub_codes.specs.Stubs.{Coded}
use Rattle.flick_bridge.proofs.Answering.{long_passed, passed_answer, read_answer, unpaired_answer}
use Rattle.flick_bridge.proofs.bridge.Bridge.of_message.Goals as goal

pub returns-in-Ok : goal.returns-in-Ok
returns-in-Ok c =
    passed_answer c.args.self.now c.new-gateway.result c.args.message.now c.in-Ok.passed c.as_slice.result.now c.digits.result
    (c.new-gateway.ensures ∙ c.ends.ensures.value) c.ends.ensures.stands c.in-Ok.ensures.ok c.in-Ok.ensures.long c.as_slice.ensures
    c.digits.ensures

pub returns-in-Err-Read : goal.returns-in-Err-Read
returns-in-Err-Read c =
    read_answer c.args.self.now c.new-gateway.result c.args.message.now c.in-Err-Read.field-0 c.in-Err-Read.field-0-0
    c.engine.result.now.binding c.record_of.result (c.new-gateway.ensures ∙ c.ends.ensures.value) c.in-Err-Read.field-0-is
    c.in-Err-Read.ensures.read (decode_of-encode_lower c.args.message.now (λ i. search (rules, c.type_inv.message)))
    (ap (λ (x : Coded). x.binding) c.engine.ensures) c.record_of.ensures

pub returns-in-Err-Pair : goal.returns-in-Err-Pair
returns-in-Err-Pair c =
    unpaired_answer c.args.self.now c.new-gateway.result c.args.message.now c.in-Err-Pair.field-0 c.copied.result
    (c.new-gateway.ensures ∙ c.ends.ensures.value) c.in-Err-Pair.field-0-is c.in-Err-Pair.ensures.pair c.copied.ensures

pub returns-in-Err-Long : goal.returns-in-Err-Long
returns-in-Err-Long c =
    long_passed c.args.self.now c.new-gateway.result c.args.message.now c.in-Err-Long.field-0 c.copied-in-Err-Long.result
    (c.new-gateway.ensures ∙ c.ends.ensures.value) c.ends.ensures.stands c.in-Err-Long.field-0-is c.in-Err-Long.ensures.long
    c.copied-in-Err-Long.ensures
