use Rattle.std.proofs.Common.{◌≡◌, ℕ, ◌+◌, ◌++◌, ◌≤◌, drop, length}
use Rattle.std.proofs.Common.{List}
use Rattle.mint.specs.declared.node.Node.{Node}
use Rattle.mint.specs.declared.value.Value.{Value}
use Rattle.mint.specs.Values.{all_seen}
use Rattle.mint.specs.Types.{type_at, unfolded, fields_at}
use Rattle.mint.specs.Typed.{IsOf, AreOf, Each}
use Rattle.wire_def.specs.declared.encoding.Encoding.{Encoding}
use Rattle.wire_def.specs.Send.{send, send_fields, send_each}
use Rattle.plain_wire.proofs.send.+put.Given as goal

abbrev pub decreases-put_value : goal.decreases-put_value
decreases-put_value l = l.id + l.id + l.id + 2

abbrev pub decreases-put_fields : goal.decreases-put_fields
decreases-put_fields l = l.id + l.id + l.id

abbrev pub decreases-put_items : goal.decreases-put_items
decreases-put_items l = l.id + l.id + l.id + 1

abbrev pub decreases-put_each : goal.decreases-put_each
decreases-put_each l = l.id + l.id + l.id

abbrev pub decreases-put_choice : goal.decreases-put_choice
decreases-put_choice l = l.id + l.id + l.id + 1

abbrev pub decreases-put_arm : goal.decreases-put_arm
decreases-put_arm l = l.id + l.id + l.id

abbrev pub decreases-put_present : goal.decreases-put_present
decreases-put_present l = l.id + l.id + l.id

pub record FieldsLeft (e : Encoding) (T : List Node) (ids : List ℕ) (values : List Value) (old new : List ℕ) (place at i : ℕ) : Type 0 where
  pub typed : AreOf (fields_at (unfolded T) (drop i ids)) (all_seen (drop i values))
  pub reported : old ++ send_fields e (fields_at (unfolded T) ids) place (all_seen values)
      ≡ new ++ send_fields e (fields_at (unfolded T) (drop i ids)) at (all_seen (drop i values))
  pub placed : at + length old ≡ place + length new
  pub grown : length old ≤ length new

abbrev pub invariant-put_fields-loop-i : goal.invariant-put_fields-loop-i
invariant-put_fields-loop-i l = FieldsLeft l.enc l.mint l.ids l.values l.fn.out l.out l.place l.at l.i

pub record EachLeft (e : Encoding) (T : List Node) (item : ℕ) (values : List Value) (old new : List ℕ) (place at i : ℕ) : Type 0 where
  pub typed : Each (IsOf (type_at T item)) (all_seen (drop i values))
  pub reported : old ++ send_each (send e (type_at T item)) place (all_seen values)
      ≡ new ++ send_each (send e (type_at T item)) at (all_seen (drop i values))
  pub placed : at + length old ≡ place + length new
  pub grown : length old ≤ length new

abbrev pub invariant-put_each-loop-value : goal.invariant-put_each-loop-value
invariant-put_each-loop-value l = EachLeft l.enc l.mint l.item l.value-items l.fn.out l.out l.place l.at l.value-index
