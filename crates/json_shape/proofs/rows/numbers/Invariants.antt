use Rattle.std.proofs.Common.{◌≡◌, ◌++◌, drop}
use Rattle.std.specs.Prelude.{option_map}
use Rattle.serde_json.specs.View.{items_view}
use Rattle.json_shape.specs.Scalars.{each_in}
use Rattle.json_shape.proofs.rows.numbers.Given as goal

-- The numbers so far, and those of the items that are left, are all.
abbrev pub invariant-loop-json : goal.invariant-loop-json
invariant-loop-json l = record {
  kind : l.row.kind ≡ l.kind;
  read : option_map (λ ns. l.row.numbers ++ ns) (each_in l.kind (items_view (drop l.json-index l.list))) ≡ each_in l.kind
      (items_view l.list);
}
