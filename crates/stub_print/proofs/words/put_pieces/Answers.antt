use Rattle.std.proofs.Common.{rules}
use Rattle.stub_print.proofs.Hexed.{hexed}
use Rattle.stub_print.proofs.words.put_pieces.Goals as goal

pub returns : goal.returns
returns c = search (rules, hexed)
