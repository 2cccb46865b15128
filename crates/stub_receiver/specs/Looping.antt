-- What loops over a draft go over.
use Rattle.std.specs.Prelude.{◌≡◌, List, ℕ}
use Rattle.mint.specs.declared.node.Node.{Node}
use Rattle.mint.specs.Types.{type_at}
use Rattle.wire_def.specs.declared.head.Order.{Order}
use Rattle.cast_stub.specs.Draft.{Draft}
use Rattle.cast_stub.specs.Fill.{fill_each, fill_items, fill_row}
use Rattle.cast_stub.specs.Into.{row_into, wide_into, fill_block}
use Rattle.cast_stub.specs.Runs.{Filler, Place, strays}
use Rattle.mint.specs.Kinds.{width}
use Rattle.wire_def.specs.Arrays.{kind_of}
use Rattle.stub_receiver.specs.Drawn.{array_at}
use Rattle.stub_receiver.specs.declared.looping.Elements.{Elements}
use Rattle.stub_receiver.specs.declared.looping.Elements.TheVariants.{Values, Numbers, Nothing}

-- a row is received as a block, of the numbers of a node
pub record IsBlock (nodes : List Node) (id n : ℕ) (d : Draft) : Type 0 where
  pub looped : (f : Filler) (s : Place) → fill_each f d s ≡ fill_row f (array_at nodes id) n s
  pub narrow : (o : Order) (s : Place) → row_into o d s ≡ fill_block o (width (kind_of (array_at nodes id))) (array_at nodes id) n s
  pub wide : (o : Order) (s : Place) → wide_into o d s ≡ fill_block o 4 (array_at nodes id) n s

-- a draft that has no numbers in a row
pub record IsNoBlock (d : Draft) : Type 0 where
  pub narrow : (o : Order) (s : Place) → row_into o d s ≡ strays
  pub wide : (o : Order) (s : Place) → wide_into o d s ≡ strays

-- the elements that a loop over a draft fills
abbrev pub GoesOver : List Node → Elements → Draft → Type 0
GoesOver nodes (Values item n) d = ((f : Filler) (s : Place) → fill_each f d s ≡ fill_items f (type_at nodes item) n s) × IsNoBlock d
GoesOver nodes (Numbers id n) d = IsBlock nodes id n d
GoesOver nodes Nothing d = ((f : Filler) (s : Place) → fill_each f d s ≡ strays) × IsNoBlock d
