use Rattle.std.proofs.Common.{◌+◌, ℕ, List, map, drop, length, ap, sym, ◌∙◌, arith}
use Rattle.std.specs.Prelude.{◌==◌}
use Rattle.std.specs.List.{position_from}
use Rattle.aoi.specs.Plain.{PlainInterface, plain_interface}
use Rattle.head_kit.specs.Calls.{operation_at}
use Rattle.back_xdr.specs.Procedures.{numbers, procedures, before}
use Rattle.back_xdr.specs.Seeking.{is_called, has_number, named_from}
use Rattle.head_kit.proofs.Named.{named_here}
use Rattle.back_xdr.proofs.Before.{before_room, named_past}
use Rattle.back_xdr.proofs.seek.seek.Goals as goal

pub place_of-requires : goal.place_of-requires
place_of-requires c =
    let is : List PlainInterface = map plain_interface c.args.interfaces.now in
    omega (
      arith,
      c.before-then-is_called.ensures,
      ap (before c.loop-i.place) c.requires.all,
      ap (λ (n : ℕ). before n is) c.loop-i.invariant.at,
      ap (λ (l : List PlainInterface). length (procedures l)) c.requires.all,
      before_room c.loop-i.i-index c.args.interfaces.now c.i-item.result c.loop-i-test.true c.i-item.is,
      c.operations_are_procedures.ensures.many,
      c.operations_are_procedures.ensures.few,
    )

pub returns-then-is_called : goal.returns-then-is_called
returns-then-is_called c =
    let is : List PlainInterface = map plain_interface c.args.interfaces.now in
    let call = c.args.call.now in
    let here = named_here numbers (is_called call) (has_number call) plain_interface (before c.loop-i.place is) c.loop-i.i-index
    c.args.interfaces.now c.i-item.result c.loop-i-test.true c.i-item.is (sym c.is_called.ensures ∙ c.if-is_called.true) in
    let first = c.before-then-is_called.ensures ∙ sym (ap (before c.loop-i.place) c.requires.all) in
    let own = numbers (plain_interface c.i-item.result) in
    let place = c.place_of.ensures ∙ ap (λ (n : ℕ). position_from (λ m. m == c.args.call.now.proc_no) n own) first in
    c.operation_at.ensures ∙ ap operation_at place ∙ sym here ∙ sym c.loop-i.invariant.left
    ∙ ap (λ (l : List PlainInterface). named_from 0 l c.args.call.now) c.requires.all

pub loop-i-preserved : goal.loop-i-preserved
loop-i-preserved c =
    let is : List PlainInterface = map plain_interface c.args.interfaces.now in
    let now : List PlainInterface = map plain_interface (drop c.loop-i.i-index c.args.interfaces.now) in
    let then : List PlainInterface = map plain_interface (drop (c.loop-i.i-index + 1) c.args.interfaces.now) in
    let past = named_past c.loop-i.i-index c.args.interfaces.now c.i-item.result c.args.call.now c.loop-i-test.true c.i-item.is
    (sym c.is_called.ensures ∙ c.if-is_called.false) in
    record {
      at = omega (arith, c.loop-i.invariant.at);
      left = c.loop-i.invariant.left
          ∙ ap (λ (n : ℕ). named_from (before n is) now c.args.call.now) c.loop-i.invariant.at ∙ past
          ∙ ap (λ (n : ℕ). named_from (before (n + 1) is) then c.args.call.now) (sym c.loop-i.invariant.at);
    }
