use Rattle.std.proofs.Common.{◌≡◌, ◌∙◌, length, zero-add}
use Rattle.head_kit.specs.Calls.{IsBelow}
use Rattle.back_cdr.specs.Seeking.{named_from}
use Rattle.back_cdr.specs.Targets.{targets}
use Rattle.back_cdr.proofs.Named.{named_below}
use Rattle.back_cdr.proofs.Picking.{found_named, names_over}
use Rattle.back_cdr.proofs.names.Names.named.Goals as goal

pub returns-clause-value : goal.returns-clause-value
returns-clause-value c =
    let b = c.args.bound.now in
    let are = names_over b.back b.unit.interfaces c.args.self.now c.requires.cdr c.requires.names in
    c.find.ensures ∙ found_named b.unit.interfaces c.args.self.now c.args.request.now.key.now c.args.request.now.name.now are

pub returns-clause-below : goal.returns-clause-below
returns-clause-below c =
    let b = c.args.bound.now in
    let key = c.args.request.now.key.now in
    let name = c.args.request.now.name.now in
    let are = names_over b.back b.unit.interfaces c.args.self.now c.requires.cdr c.requires.names in
    let same : c.find.result ≡ named_from 0 b.unit.interfaces key name =
    c.find.ensures ∙ found_named b.unit.interfaces c.args.self.now key name are in
    let below : IsBelow (length (targets b.unit.interfaces)) (named_from 0 b.unit.interfaces key name) =
    rw zero-add at (named_below 0 b.unit.interfaces key name) in
    rw (same, ← c.operations_are_targets.ensures.many) below
