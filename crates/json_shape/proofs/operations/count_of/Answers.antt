use Rattle.std.proofs.Common.{◌≡◌, ◌≤◌, ◌+◌, ◌∙◌, length, sym, arith}
use Rattle.std.proofs.lemmas.List.{length-map}
use Rattle.aoi.specs.Plain.{plain_operation, plain_interface}
use Rattle.pres.specs.Offers.{operations}
use Rattle.json_shape.proofs.Homes.{count_more, count_same, count_within}
use Rattle.json_shape.proofs.operations.count_of.Goals as goal

pub returns-then-is_given_null-clause-value : goal.returns-then-is_given_null-clause-value
returns-then-is_given_null-clause-value c =
    count_more c.args.back (plain_interface c.args.interface.now) c.len-own.result
    (c.len-own.ensures ∙ sym (length-map c.args.interface.now.ops plain_operation)) c.if-is_given_null.ensures

pub returns-else-is_given_null-clause-value : goal.returns-else-is_given_null-clause-value
returns-else-is_given_null-clause-value c =
    count_same c.args.back (plain_interface c.args.interface.now) c.len-own.result
    (c.len-own.ensures ∙ sym (length-map c.args.interface.now.ops plain_operation)) c.if-is_given_null.ensures

pub returns-then-is_given_null-clause-within : goal.returns-then-is_given_null-clause-within
returns-then-is_given_null-clause-within c =
    let value : c.len-own.result + 1 ≡ length (operations c.args.back (plain_interface c.args.interface.now)) =
    count_more c.args.back (plain_interface c.args.interface.now) c.len-own.result
    (c.len-own.ensures ∙ sym (length-map c.args.interface.now.ops plain_operation)) c.if-is_given_null.ensures in
    let all : length (operations c.args.back (plain_interface c.args.interface.now)) ≤ length c.args.ops.now =
    count_within c.args.back c.args.k (plain_interface c.args.interface.now) c.args.ops.now c.requires in
    omega (arith, value, all)

pub returns-else-is_given_null-clause-within : goal.returns-else-is_given_null-clause-within
returns-else-is_given_null-clause-within c =
    let value : c.len-own.result ≡ length (operations c.args.back (plain_interface c.args.interface.now)) =
    count_same c.args.back (plain_interface c.args.interface.now) c.len-own.result
    (c.len-own.ensures ∙ sym (length-map c.args.interface.now.ops plain_operation)) c.if-is_given_null.ensures in
    let all : length (operations c.args.back (plain_interface c.args.interface.now)) ≤ length c.args.ops.now =
    count_within c.args.back c.args.k (plain_interface c.args.interface.now) c.args.ops.now c.requires in
    omega (arith, value, all)
