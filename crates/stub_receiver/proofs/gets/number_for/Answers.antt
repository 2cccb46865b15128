use Rattle.std.proofs.Common.{sym}
use Rattle.stub_receiver.proofs.Getting.{num_read, digit_read}
use Rattle.stub_receiver.proofs.gets.number_for.Goals as goal

pub returns-in-Raw : goal.returns-in-Raw
returns-in-Raw c = num_read c.args.mint.now _ _ _ c.args.m _ _ c.in-Raw.is (sym c.scalar_number.ensures) c.requires.holds

pub returns-in-Digit : goal.returns-in-Digit
returns-in-Digit c = digit_read c.args.mint.now _ _ _ c.args.m _ _ c.in-Digit.is (sym c.digit_number.ensures)
