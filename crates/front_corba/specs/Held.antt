-- What the code holds, as plain trees.
use Rattle.std.specs.Prelude.{List, map}
use Rattle.aoi.specs.Plain.{plain_operation}
use Rattle.corba_scopes.specs.Names.{Names}
use Rattle.corba_shapes.specs.declared.state.Shapes.{Shapes}
use Rattle.corba_shapes.specs.Held.{state}
use Rattle.front_corba.specs.declared.state.Offer.{Offer}
use Rattle.front_corba.specs.declared.state.Offering.{Offering}
use Rattle.front_corba.specs.declared.state.Heir.{Heir}
use Rattle.front_corba.specs.declared.state.Resolver.{Resolver}
use Rattle.front_corba.specs.State.{PlainOffer, Body, Heirs, PlainOffering, File}

-- an operation, and where it is declared
abbrev pub plain_offer : Offer → PlainOffer
plain_offer o = record { home = o.home; operation = plain_operation o.operation }

-- an interface, by its full name
abbrev pub plain_offering : Offering → PlainOffering
plain_offering i = record { name = i.name; ops = map plain_offer i.ops }

-- an interface so far
abbrev pub body : Shapes → List Offer → Body
body h ops = record { state = state h; ops = map plain_offer ops }

-- what an interface has of its bases so far, beside these names
abbrev pub heirs : Names → Heir → Heirs
heirs names h = record { names = names; numbers = h.numbers.keys; ops = map plain_offer h.ops }

-- a file so far
abbrev pub held : Resolver → File
held r = record { state = state r.shapes; interfaces = map plain_offering r.interfaces }
