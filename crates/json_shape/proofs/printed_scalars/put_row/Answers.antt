use Rattle.std.proofs.Common.{sym}
use Rattle.json_shape.proofs.Blocks.{hex_row, char_row}
use Rattle.json_shape.proofs.printed_scalars.put_row.Goals as goal

pub returns-in-Octet : goal.returns-in-Octet
returns-in-Octet c =
    let same = hex_row c.args.row.now.kind c.args.row.now.numbers c.image.result.now
    c.in-Octet.ensures.value c.in-Octet.ensures.ranged c.image.ensures.value in
    rw (sym same) c.put_digits.ensures

pub returns-in-Char : goal.returns-in-Char
returns-in-Char c =
    let same = char_row c.args.row.now.kind c.args.row.now.numbers c.image-in-Char.result.now
    c.in-Char.ensures.value c.in-Char.ensures.ranged c.image-in-Char.ensures.value in
    rw (sym same) c.put_string.ensures
