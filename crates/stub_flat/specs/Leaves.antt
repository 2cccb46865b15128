-- To which residues of a position code leads.
use Rattle.std.specs.Prelude.{ℕ, List, Option, Some, None, if◌then◌else◌}
use Rattle.mint.specs.Kinds.{width}
use Rattle.mint.specs.declared.kind.Kind.{Kind}
use Rattle.mint.specs.declared.node.Node.{Node}
use Rattle.cast_stub.specs.Block.{Block, stop, ensure, ensure_row, align, chunk, row_copy, row_swap, row_wide, each, switch, if_there, call, patch, Cases, no_default, default, case}
use Rattle.cast_stub.specs.Steps.{is_width}
use Rattle.stub_flat.specs.Places.{Spot, node_of, spot_at, element, present, row_kind, arm_spot, rest_spot}
use Rattle.stub_flat.specs.Residues.{Residues, every, none, sum, moved, aligned, closed}

-- the octets of a number of a row; none where the kind is not known
abbrev pub width_of : Option Kind → ℕ
width_of None = 0
width_of (Some k) = width k

abbrev mutual
  -- behind a block
  pub leaves : List Node → Spot → Block → Residues → Residues
  leaves N s stop S = S
  leaves N s (ensure n r) S = leaves N s r S
  leaves N s (ensure_row p u e r) S = leaves N s r S
  leaves N s (align a r) S = leaves N s r (if is_width a then aligned a S else S)
  leaves N s (chunk n ps r) S = leaves N s r (moved n S)
  leaves N s (row_copy p r) S = leaves N s r (closed (moved (width_of (row_kind (node_of N (spot_at N p s))))) S)
  leaves N s (row_swap p r) S = leaves N s r (closed (moved (width_of (row_kind (node_of N (spot_at N p s))))) S)
  leaves N s (row_wide p o r) S = leaves N s r (closed (moved 4) S)
  leaves N s (each p b r) S = leaves N s r (closed (leaves N (element (node_of N (spot_at N p s))) b) S)
  leaves N s (switch p cs r) S = leaves N s r (ways_leave N (node_of N (spot_at N p s)) cs cs S)
  leaves N s (if_there p b r) S = leaves N s r (sum S (leaves N (present (node_of N (spot_at N p s))) b S))
  leaves N s (call k p r) S = leaves N s r every
  leaves N s (patch a z o r) S = leaves N s r S

  -- behind the bodies of a switch, of which `all` tells whether each arm has a case
  pub ways_leave : List Node → Option Node → Cases → Cases → Residues → Residues
  ways_leave N n all no_default S = none
  ways_leave N n all (default b) S = leaves N (rest_spot n all) b S
  ways_leave N n all (case m b cs) S = sum (leaves N (arm_spot n m) b S) (ways_leave N n all cs S)
