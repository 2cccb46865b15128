use Rattle.std.proofs.Common.{rules, ◌<◌, ◌-◌, ℕ, suc, List, [], ◌∷◌, length, get_or, take, drop}
use Rattle.std.proofs.lemmas.List.{take-append-drop}
use Rattle.wire_def.specs.Grammar.{AreOctets}
use Rattle.wire_def.proofs.Grammars.{octets_before, octets_after}
use Rattle.plain_wire.proofs.read.octets_from.Goals as goal

each_fits : (o : List ℕ) → ((i : ℕ) → get_or o i 0 < 256) → AreOctets o
each_fits [] h = tt
each_fits (b ∷ o) h = (h 0, each_fits o (λ i. h (suc i)))

-- some in the middle
part_fits : (n m : ℕ) (o : List ℕ) → AreOctets o → AreOctets (take n (drop m o))
part_fits n m o h =
    let after : AreOctets (drop m o) = octets_after (take m o) (drop m o) (rw take-append-drop h) in
    octets_before (take n (drop m o)) (drop n (drop m o)) (rw take-append-drop after)

pub returns-clause-octets : goal.returns-clause-octets
returns-clause-octets c = part_fits (length c.args.message.now - c.args.place) c.args.place c.args.message.now
    (each_fits c.args.message.now (λ i. search (rules, c.type_inv.message)))
