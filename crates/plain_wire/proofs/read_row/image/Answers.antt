use Rattle.std.proofs.Common.{arith}
use Rattle.mint.proofs.Images.{AreOctets, octet_at}
use Rattle.plain_wire.proofs.RowWords.{image_there, image_cut}
use Rattle.plain_wire.proofs.read_row.image.Goals as goal

pub returns-then-there-n-clause-read : goal.returns-then-there-n-clause-read
returns-then-there-n-clause-read c =
    let oct : AreOctets c.args.at.rest.now = octet_at c.args.at.rest.now c.many-there.ensures.octets in
    let few = rw (c.many-there.ensures.is, c.width-width.ensures) at c.if-there-n.true in
    rw (c.stop.ensures, c.many-there.ensures.is, c.width-width.ensures)
    (image_cut c.args._enc c.args.kind c.args._way c.requires.way c.requires.block c.requires.kind c.args.n c.args.at.place
    c.args.at.rest.now oct few)

pub returns-clause-read : goal.returns-clause-read
returns-clause-read c =
    let oct : AreOctets c.args.at.rest.now = octet_at c.args.at.rest.now c.many-there.ensures.octets in
    let many = rw (c.many-there.ensures.is, c.width-width.ensures) at c.if-there-n.false in
    rw (c.split_at.ensures.front, c.split_at.ensures.back, c.width-width.ensures)
    (image_there c.args._enc c.args.kind c.args._way c.requires.way c.requires.block c.requires.kind c.args.n c.args.at.place
    c.args.at.rest.now oct (omega (arith, many)))
