use Rattle.std.proofs.Common.{◌≡◌, drop}
use Rattle.front_corba.specs.Held.{body}
use Rattle.front_corba.specs.Interfaces.{exports_on}
use Rattle.front_corba.proofs.interfaces.exports.Given as goal

abbrev pub invariant-loop-item : goal.invariant-loop-item
invariant-loop-item l = exports_on l.home (body l.initial.shapes l.initial.ops) l.list
    ≡ exports_on l.home (body l.shapes l.ops) (drop l.item-index l.list)
