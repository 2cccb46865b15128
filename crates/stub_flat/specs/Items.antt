-- What is left of code when all is taken from it that its meaning does not depend on.
use Rattle.std.specs.Prelude.{ℕ, zero, suc, ℤ, Bool, List, [], ◌∷◌, ◌++◌, map, reverse, replicate, Option, Some, None, is_some, option_map, nat_eq, if◌then◌else◌}
use Rattle.wire_def.specs.declared.head.Order.{Order}
use Rattle.wire_def.specs.declared.head.Order.TheVariants.{Big, Little}
use Rattle.wire_def.specs.Scalars.{gap}
use Rattle.mint.specs.declared.node.Node.{Node}
use Rattle.cast_stub.specs.declared.put.HeadField.{HeadField}
use Rattle.cast_stub.specs.declared.put.Put.{Put}
use Rattle.cast_stub.specs.declared.put.Put.TheVariants as put
use Rattle.cast_stub.specs.Parts.{on_some}
use Rattle.cast_stub.specs.Puts.{offset}
use Rattle.cast_stub.specs.Steps.{is_width}
use Rattle.cast_stub.specs.Block.{Block, stop, ensure, ensure_row, align, chunk, row_copy, row_swap, row_wide, each, switch, if_there, call, patch, Cases, no_default, default, case}
use Rattle.stub_flat.specs.Places.{Spot, node_of, spot_at, element, present, row_kind, has_length, arm_spot, rest_spot}
use Rattle.stub_flat.specs.Residues.{Residues, every, closed, moved, size_first, single_first}
use Rattle.stub_flat.specs.Leaves.{width_of, leaves}

-- ---- items

-- the number that octets are of, without their place, their width and their order
pub data Source : Type 0 where
  num : List ℕ → Source
  tag : List ℕ → Source
  flag : List ℕ → Source
  count : List ℕ → ℕ → ℕ → Source
  short : List ℕ → ℕ → ℕ → ℕ → Source
  head : HeadField → Source

-- one octet: a constant, or one of a number, with how many less significant ones there are
pub data Cell : Type 0 where
  fixed : ℕ → Cell
  part : Source → ℕ → Cell

mutual
  -- items, one after the other
  pub data Items : Type 0 where
    done : Items
    octet : Cell → Items → Items
    zeros : ℕ → Items → Items
    loop : List ℕ → Items → Items → Items
    ways : List ℕ → Ways → Items → Items
    if_present : List ℕ → Items → Items → Items
    called : ℕ → List ℕ → Items → Items
    patched : ℕ → ℕ → Order → Items → Items

  -- the items of the bodies of a switch
  pub data Ways : Type 0 where
    no_way : Ways
    other : Items → Ways
    way : ℤ → Items → Ways → Ways

-- octets before items
abbrev pub octets : List Cell → Items → Items
octets [] r = r
octets (c ∷ cs) r = octet c (octets cs r)

-- ---- chunks

-- the first so many octets of a number, from the least significant
abbrev pub parts : Source → ℕ → List Cell
parts s zero = []
parts s (suc n) = parts s n ++ part s n ∷ []

-- the octets of a number of a width, in an order
abbrev pub ordered : Source → ℕ → Order → List Cell
ordered s w Little = parts s w
ordered s w Big = reverse (parts s w)

-- the same, where that is a width
abbrev pub word_of : Source → ℕ → Order → Option (List Cell)
word_of s w o = if is_width w then Some (ordered s w o) else None

-- the octets of a put
abbrev pub piece : Put → Option (List Cell)
piece (put.Num off p w o) = word_of (num p) w o
piece (put.Tag off p w o) = word_of (tag p) w o
piece (put.Flag off p w o) = word_of (flag p) w o
piece (put.Count off p m a w o) = word_of (count p m a) w o
piece (put.Short off p name size m) = Some (ordered (short p name size m) 4 Little)
piece (put.Const off os) = Some (map fixed os)
piece (put.Head off f w o) = word_of (head f) w o

-- the octets of a chunk, some not yet put
abbrev pub Places : Type 0
Places = List (Option Cell)

-- places with these octets from one on, if they lie within and had none
abbrev pub put_on : ℕ → List Cell → Places → Option Places
put_on zero [] cs = Some cs
put_on zero (o ∷ os) [] = None
put_on zero (o ∷ os) (None ∷ cs) = option_map (λ ds. Some o ∷ ds) (put_on zero os cs)
put_on zero (o ∷ os) (Some c ∷ cs) = None
put_on (suc n) os [] = None
put_on (suc n) os (c ∷ cs) = option_map (λ ds. c ∷ ds) (put_on n os cs)

-- places after puts
abbrev pub puts_on : List Put → Places → Option Places
puts_on [] cs = Some cs
puts_on (p ∷ ps) cs = on_some (piece p) (λ os. on_some (put_on (offset p) os cs) (puts_on ps))

-- the octets of places, if each has one
abbrev pub all_put : Places → Option (List Cell)
all_put [] = Some []
all_put (None ∷ cs) = None
all_put (Some c ∷ cs) = option_map (λ os. c ∷ os) (all_put cs)

-- the octets of a chunk, each of one put
abbrev pub cells : ℕ → List Put → Option (List Cell)
cells size ps = on_some (puts_on ps (replicate size None)) all_put

-- ---- code

-- an align from these residues: zeros where there is one residue
abbrev pub align_items : ℕ → Residues → Items → Items
align_items a S r = if nat_eq (size_first 8 S) 1 then octets (replicate (gap (single_first 8 S) a) (fixed 0)) r else zeros a r

-- a row, its numbers of a width in an order
abbrev pub row_items : List ℕ → ℕ → Order → Items → Items
row_items p w o r = loop p (octets (ordered (num []) w o) done) r

-- something, where a test passes
abbrev pub provided : {A : Type 0} → Bool → Option A → Option A
provided b o = if b then o else None

-- whether a place is a row or text
abbrev pub is_row : List Node → Spot → Bool
is_row N s = is_some (row_kind (node_of N s))

abbrev mutual
  -- the items of a block over a place, from these residues on
  pub items : List Node → Spot → Block → Residues → Option Items
  items N s stop S = Some done
  items N s (ensure n r) S = items N s r S
  items N s (ensure_row p u e r) S = provided (has_length (node_of N (spot_at N p s))) (items N s r S)
  items N s (align a r) S = provided (is_width a) (option_map (align_items a S) (items N s r (leaves N s (align a stop) S)))
  items N s (chunk n ps r) S = on_some (cells n ps) (λ os. option_map (octets os) (items N s r (moved n S)))
  items N s (row_copy p r) S = provided (is_row N (spot_at N p s))
      (option_map (row_items p (width_of (row_kind (node_of N (spot_at N p s)))) Little) (items N s r (leaves N s (row_copy p stop) S)))
  items N s (row_swap p r) S = provided (is_row N (spot_at N p s))
      (option_map (row_items p (width_of (row_kind (node_of N (spot_at N p s)))) Big) (items N s r (leaves N s (row_swap p stop) S)))
  items N s (row_wide p o r) S = provided (is_row N (spot_at N p s))
      (option_map (row_items p 4 o) (items N s r (leaves N s (row_wide p o stop) S)))
  items N s (each p b r) S =
      let inner = element (node_of N (spot_at N p s)) in
      on_some (items N inner b (closed (leaves N inner b) S)) (λ bs. option_map (loop p bs) (items N s r (leaves N s (each p b stop) S)))
  items N s (switch p cs r) S =
      on_some (way_items N (node_of N (spot_at N p s)) cs cs S)
      (λ ws. option_map (ways p ws) (items N s r (leaves N s (switch p cs stop) S)))
  items N s (if_there p b r) S =
      on_some (items N (present (node_of N (spot_at N p s))) b S)
      (λ bs. option_map (if_present p bs) (items N s r (leaves N s (if_there p b stop) S)))
  items N s (call k p r) S = option_map (called k p) (items N s r every)
  items N s (patch a z o r) S = option_map (patched a z o) (items N s r S)

  -- those of the bodies of a switch, of which `all` tells whether each arm has a case
  pub way_items : List Node → Option Node → Cases → Cases → Residues → Option Ways
  way_items N n all no_default S = Some no_way
  way_items N n all (default b) S = option_map other (items N (rest_spot n all) b S)
  way_items N n all (case m b cs) S = on_some (items N (arm_spot n m) b S) (λ i. option_map (way m i) (way_items N n all cs S))
