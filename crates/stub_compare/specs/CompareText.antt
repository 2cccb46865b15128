-- What is left of code as one list of numbers.
use Rattle.std.specs.Prelude.{ℕ, ◌+◌, ◌/◌, ◌%◌, ℤ, pos, List, [], ◌∷◌, unsigned_abs, int_lt, if◌then◌else◌}
use Rattle.wire_def.specs.declared.head.Order.{Order}
use Rattle.wire_def.specs.declared.head.Order.TheVariants.{Big, Little}
use Rattle.cast_stub.specs.declared.put.HeadField.{HeadField}
use Rattle.cast_stub.specs.declared.put.HeadField.TheVariants.{Id, Remote, Local}
use Rattle.stub_flat.specs.Items.{Source, num, tag, flag, count, short, head, Cell, fixed, part, Items, done, octet, zeros, loop, ways, if_present, called, patched, Ways, no_way, other, way}
use Rattle.stub_flat.specs.Flat.{Flats}

-- a path, before what follows
abbrev pub path_text : List ℕ → List ℕ → List ℕ
path_text [] rest = 0 ∷ rest
path_text (n ∷ p) rest = 1 ∷ (n ∷ path_text p rest)

-- an order
abbrev pub order_text : Order → ℕ
order_text Big = 0
order_text Little = 1

-- a number of a head
abbrev pub field_text : HeadField → ℕ
field_text Id = 0
field_text Remote = 1
field_text Local = 2

-- the numbers of a source behind its path
abbrev pub source_text : Source → List ℕ → List ℕ
source_text (num p) rest = 0 ∷ path_text p rest
source_text (tag p) rest = 1 ∷ path_text p rest
source_text (flag p) rest = 2 ∷ path_text p rest
source_text (count p m a) rest = 3 ∷ path_text p (m ∷ (a ∷ rest))
source_text (short p name size m) rest = 4 ∷ path_text p (name ∷ (size ∷ (m ∷ rest)))
source_text (head f) rest = 5 ∷ (field_text f ∷ rest)

-- an octet
abbrev pub cell_text : Cell → List ℕ → List ℕ
cell_text (fixed n) rest = (n + 8) ∷ rest
cell_text (part s k) rest = 7 ∷ (k ∷ source_text s rest)

-- octets, one after the other
abbrev pub cells_text : List Cell → List ℕ → List ℕ
cells_text [] rest = rest
cells_text (c ∷ cs) rest = cell_text c (cells_text cs rest)

-- a number below 2^128 as four of 32 bits
abbrev pub digits_text : ℕ → List ℕ → List ℕ
digits_text n rest =
    let b = n / 4294967296 in
    let c = b / 4294967296 in
    (n % 4294967296) ∷ ((b % 4294967296) ∷ ((c % 4294967296) ∷ (c / 4294967296 ∷ rest)))

-- a number with its sign
abbrev pub integer_text : ℤ → List ℕ → List ℕ
integer_text z rest = (if int_lt z (pos 0) then 1 else 0) ∷ digits_text (unsigned_abs z) rest

abbrev mutual
  -- items, one after the other
  pub items_text : Items → List ℕ → List ℕ
  items_text done rest = 0 ∷ rest
  items_text (octet c i) rest = cell_text c (items_text i rest)
  items_text (zeros a i) rest = 1 ∷ (a ∷ items_text i rest)
  items_text (loop p b i) rest = 2 ∷ path_text p (items_text b (items_text i rest))
  items_text (ways p ws i) rest = 3 ∷ path_text p (ways_text ws (items_text i rest))
  items_text (if_present p b i) rest = 4 ∷ path_text p (items_text b (items_text i rest))
  items_text (called k p i) rest = 5 ∷ (k ∷ path_text p (items_text i rest))
  items_text (patched a z o i) rest = 6 ∷ (a ∷ (z ∷ (order_text o ∷ items_text i rest)))

  -- the bodies of a switch
  pub ways_text : Ways → List ℕ → List ℕ
  ways_text no_way rest = 0 ∷ rest
  ways_text (other b) rest = 1 ∷ items_text b rest
  ways_text (way m b ws) rest = 2 ∷ integer_text m (items_text b (ways_text ws rest))

-- the items of each code of a list
abbrev pub list_text : List Items → List ℕ → List ℕ
list_text [] rest = 0 ∷ rest
list_text (i ∷ is) rest = 1 ∷ items_text i (list_text is rest)

-- a flat
abbrev pub flats_text : Flats → List ℕ → List ℕ
flats_text f rest = items_text f.0 (list_text f.1 rest)
