-- Codes worked by hand: what is left of them.
use Rattle.std.proofs.Common.{◌≡◌, ℕ, pos, List, [], ◌∷◌, Option, Some, None, refl}
use Rattle.mint.specs.declared.kind.Kind.TheVariants as kind
use Rattle.mint.specs.declared.kind.Count.TheVariants.{Any}
use Rattle.mint.specs.declared.node.Node.{Node}
use Rattle.mint.specs.declared.node.Node.TheVariants as node
use Rattle.mint.specs.declared.node.Tag.TheVariants as tag_node
use Rattle.wire_def.specs.declared.head.Order.TheVariants.{Big, Little}
use Rattle.cast_stub.specs.declared.put.Put.TheVariants as put
use Rattle.cast_stub.specs.Block.{Block, stop, ensure, align, chunk, row_copy, each, switch, call, default}
use Rattle.stub_flat.specs.Residues.{only, every}
use Rattle.stub_flat.specs.Items.{num, fixed, part, Items, done, octet, zeros, cells, items}
use Rattle.stub_flat.specs.Flat.{spots, list_items}

-- a row, a list of such rows, and a union: the row for 1, else the list
abbrev nodes : List Node
nodes = node.Row kind.U16 Any ∷ node.Items 0 Any ∷ node.Choice (tag_node.Num kind.I32) ((pos 1, 0) ∷ []) (Some 1) ∷ []

-- the items from the first position
abbrev left : ℕ → Block → Option Items
left id b = items nodes (Some id) b (only 0)

-- one number: its octets from the most significant on
a_number : left 0 (chunk 2 (put.Num 0 [] 2 Big ∷ []) stop) ≡ Some (octet (part (num []) 1) (octet (part (num []) 0) done))
a_number = refl

-- chunks and ensures leave nothing, nor does the order of puts
two_chunks : left 0 (ensure 9 (chunk 1 (put.Const 0 (7 ∷ []) ∷ []) (chunk 1 (put.Const 0 (8 ∷ []) ∷ []) stop)))
    ≡ left 0 (chunk 2 (put.Const 1 (8 ∷ []) ∷ put.Const 0 (7 ∷ []) ∷ []) stop)
two_chunks = refl

-- codes with other puts and one flat: a number in one octet and in two
one_and_two : left 0 (chunk 3 (put.Num 0 [] 1 Little ∷ put.Num 1 [] 2 Big ∷ []) stop)
    ≡ left 0 (chunk 3 (put.Num 0 [] 2 Little ∷ put.Num 2 [] 1 Big ∷ []) stop)
one_and_two = refl

-- an octet of two puts, an octet of none, and a put of no octets beyond its chunk
put_twice : cells 1 (put.Const 0 (1 ∷ []) ∷ put.Const 0 (2 ∷ []) ∷ []) ≡ None
put_twice = refl

never_put : cells 2 (put.Const 0 (1 ∷ []) ∷ []) ≡ None
never_put = refl

put_beyond : cells 0 (put.Const 1 [] ∷ []) ≡ None
put_beyond = refl

-- zeros are known behind one octet, and not from every position
known_zeros : left 0 (chunk 1 (put.Const 0 (5 ∷ []) ∷ []) (align 4 stop))
    ≡ Some (octet (fixed 5) (octet (fixed 0) (octet (fixed 0) (octet (fixed 0) done))))
known_zeros = refl

unknown_zeros : items nodes (Some 0) (align 4 stop) every ≡ Some (zeros 4 done)
unknown_zeros = refl

-- a row that is copied is a loop
copied : left 0 (row_copy [] stop) ≡ left 0 (each [] (chunk 2 (put.Num 0 [] 2 Little ∷ []) stop) stop)
copied = refl

-- a default body is of the default arm only where each arm has a case
no_case : left 2 (switch [] (default (each [] (row_copy [] stop) stop)) stop) ≡ None
no_case = refl

-- a call in a loop leads to the element's node; a code that is not called is at none
called_once : spots nodes (Some 1) (each [] (call 0 [] stop) stop) (stop ∷ []) ≡ Some (Some 0 ∷ [])
called_once = refl

not_called : list_items nodes (stop ∷ []) (None ∷ []) ≡ None
not_called = refl
