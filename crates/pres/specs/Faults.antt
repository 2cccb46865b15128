-- Why a unit is not bound.
use Rattle.std.specs.Prelude.{Bool, ◌||◌, nat_lt, ℕ, suc, ◌+◌, List, length, sum_by, Option, None, Some, if◌then◌else◌}
use Rattle.std.specs.List.{list_any}
use Rattle.kit_base.specs.Limits.{deepest, heaviest_blank, longest_name, most_nodes, most_operation_nodes, most_unit_nodes}
use Rattle.mint.specs.Blank.{blank, depth}
use Rattle.mint.specs.Values.{weight}
use Rattle.wire_def.specs.declared.encoding.Back.{Back}
use Rattle.aoi.specs.Plain.{PlainRaise, PlainOperation, PlainInterface, PlainUnit}
use Rattle.pres.specs.declared.errors.BindErr.{BindErr}
use Rattle.pres.specs.declared.errors.BindErr.TheVariants as err
use Rattle.pres.specs.Faces.{Face, nothing, scalar, numbers, values, members, list, choice, maybe, Parts, no_parts, part, Arms, no_other, other, arm, type_of}
use Rattle.pres.specs.Offers.{Offer, offers}
use Rattle.pres.specs.Made.{all_made}

-- more levels than a type may have
abbrev pub is_deep : Face → Bool
is_deep f = nat_lt deepest (depth (type_of f))

-- a blank value that is too heavy
abbrev pub is_heavy : Face → Bool
is_heavy f = nat_lt heaviest_blank (weight (blank (type_of f)))

-- how many nodes are in the tree
abbrev mutual
  pub spread : Face → ℕ
  spread nothing = 1
  spread (scalar s) = 1
  spread (numbers a) = 1
  spread (values ps) = suc (spread_inside ps)
  spread (members ps) = suc (spread_inside ps)
  spread (list c f) = suc (spread f)
  spread (choice s arms) = suc (spread_after arms)
  spread (maybe f) = suc (spread f)

  pub spread_inside : Parts → ℕ
  spread_inside no_parts = 0
  spread_inside (part n f ps) = spread f + spread_inside ps

  pub spread_after : Arms → ℕ
  spread_after no_other = 0
  spread_after (other f) = spread f
  spread_after (arm n f arms) = spread f + spread_after arms

-- the nodes in an operation's request and reply
abbrev pub spread_of : Offer → ℕ
spread_of o = spread o.request + spread o.reply

-- more octets than a name may have
abbrev pub is_long : List ℕ → Bool
is_long name = nat_lt longest_name (length name)

-- an operation whose name, or the id of an exception of which, is long
abbrev pub has_long : PlainOperation → Bool
has_long op = is_long op.name || list_any (λ (r : PlainRaise). is_long r.id) op.raises

-- an interface with a long name in it
abbrev pub has_long_in : PlainInterface → Bool
has_long_in i = is_long i.name || list_any has_long i.ops

-- operations of which one, or all together, spread over too many nodes
abbrev pub is_spread : List Offer → Bool
is_spread os = list_any (λ o. nat_lt most_operation_nodes (spread_of o)) os || nat_lt most_unit_nodes (sum_by spread_of os)

-- a long name in the unit, or operations with too many nodes
abbrev pub is_wide : PlainUnit → Back → Bool
is_wide u b = list_any has_long_in u.interfaces || is_spread (offers u b)

-- the first reason
abbrev pub bind_fault : PlainUnit → Back → Option BindErr
bind_fault u b =
    if nat_lt most_nodes (length (all_made u b)) then Some err.Many
    else (if list_any is_deep (all_made u b) then Some err.Deep
    else (if list_any is_heavy (all_made u b) then Some err.Heavy
    else (if is_wide u b then Some err.Wide
    else None)))
