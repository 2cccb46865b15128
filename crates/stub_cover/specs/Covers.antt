-- Whether code appends only octets that it has ensured, by the types of places alone.
use Rattle.std.specs.Prelude.{ℕ, zero, suc, Bool, true, false, ◌&&◌, ◌||◌, not, List, [], ◌∷◌, map, Option, Some, None, option_map, is_some, nat_le, if◌then◌else◌}
use Rattle.std.specs.Str.{bytes_eq}
use Rattle.mint.specs.declared.node.Node.{Node}
use Rattle.cast_stub.specs.declared.send.SendCode.{SendCode}
use Rattle.cast_stub.specs.Parts.{on_some}
use Rattle.cast_stub.specs.Steps.{is_width}
use Rattle.cast_stub.specs.Block.{Block, stop, ensure, ensure_row, align, chunk, row_copy, row_swap, row_wide, each, switch, if_there, call, patch, Cases, no_default, default, case, code_seen}
use Rattle.stub_flat.specs.Places.{Spot, node_of, spot_at, element, present, row_kind, has_length, greatest, arm_spot, rest_spot}
use Rattle.stub_flat.specs.Residues.{Residues, every, closed, moved}
use Rattle.stub_flat.specs.Leaves.{leaves}
use Rattle.mint.specs.Kinds.{width}
use Rattle.stub_flat.specs.Flat.{Spots, spots}
use Rattle.stub_cover.specs.Rooms.{Rooms, least, no_rooms, only_room, on, reached, raised, set, took, padded, least_first}

-- ---- code that ensures nothing

abbrev mutual
  -- no ensure and no call, nor one in a body
  pub is_plain : Block → Bool
  is_plain stop = true
  is_plain (ensure n r) = false
  is_plain (ensure_row p u e r) = false
  is_plain (align a r) = is_plain r
  is_plain (chunk n ps r) = is_plain r
  is_plain (row_copy p r) = is_plain r
  is_plain (row_swap p r) = is_plain r
  is_plain (row_wide p o r) = is_plain r
  is_plain (each p b r) = is_plain b && is_plain r
  is_plain (switch p cs r) = are_plain cs && is_plain r
  is_plain (if_there p b r) = is_plain b && is_plain r
  is_plain (call k p r) = false
  is_plain (patch a z o r) = is_plain r

  pub are_plain : Cases → Bool
  are_plain no_default = true
  are_plain (default b) = is_plain b
  are_plain (case m b cs) = is_plain b && are_plain cs

-- ---- loops

-- rooms from rooms; none where a room is lacking
abbrev pub Turn : Type 0
Turn = Rooms → Option Rooms

-- whether a turn is not refused with so many octets at each residue by itself, of the first so many that are in a set
abbrev pub suffices : ℕ → Turn → ℕ → Residues → Bool
suffices zero f u S = true
suffices (suc k) f u S = (not (S k) || is_some (f (only_room k u))) && suffices k f u S

-- 0 to n turns, joined by the least rooms
abbrev pub turns : ℕ → Turn → Turn
turns zero f R = Some R
turns (suc n) f R = on_some (f R) (λ S. option_map (least R) (turns n f S))

-- the greatest number of turns that are run one by one
unfoldable pub most_turns : ℕ
most_turns = 8192

-- the first of two that is there
abbrev pub or_else : {A : Type 0} → Option A → Option A → Option A
or_else None b = b
or_else (Some a) b = Some a

-- the rooms where each element has its own octets: each residue keeps the least room
abbrev pub free_loop : Turn → Residues → Bool → Option ℕ → Turn
free_loop f reach plain None R = None
free_loop f reach plain (Some u) R =
    if plain && suffices 8 f u reach then Some (λ r. if reach r then least_first 8 R else None) else None

-- the rooms behind so many turns at most
abbrev pub bounded_loop : Turn → Option ℕ → Turn
bounded_loop f None R = None
bounded_loop f (Some n) R = if nat_le n most_turns then turns n f R else None

-- the rooms behind any number of turns, each from no room
abbrev pub bare_loop : Turn → Residues → Turn
bare_loop f reach R = option_map (λ S. on reach 0) (f (on reach 0))

-- the rooms behind a loop: its turn, the residues that it comes to, whether it is plain, the greatest length, the credit's unit
abbrev pub looped : Turn → Residues → Bool → Option ℕ → Option ℕ → Turn
looped f reach plain most unit R = or_else (free_loop f reach plain unit R) (or_else (bounded_loop f most R) (bare_loop f reach R))

-- ---- code

-- a path, and how many octets are ensured for each element there
abbrev pub Credit : Type 0
Credit = Option (List ℕ × ℕ)

-- the unit of a credit, where it is one of this path
abbrev pub unit_of : List ℕ → Credit → Option ℕ
unit_of p None = None
unit_of p (Some (q, u)) = if bytes_eq p q then Some u else None

-- the rooms behind a row operation, whose numbers have so many octets; none where its kind is not known
abbrev pub run_row : Option Node → Option ℕ → Option ℕ → Turn
run_row n None unit R = None
run_row n (Some w) unit R = looped (took w) (closed (moved w) (reached R)) true (greatest n) unit R

abbrev mutual
  -- the rooms behind a block over a place; none where it is refused
  pub run : List Node → Spot → Block → Credit → Turn
  run N s stop c R = Some R
  run N s (ensure n r) c R = run N s r None (raised n R)
  run N s (ensure_row p u e r) c R = if has_length (node_of N (spot_at N p s)) then run N s r (Some (p, u)) (set e R) else None
  run N s (align a r) c R = on_some (if is_width a then padded a R else Some R) (run N s r c)
  run N s (chunk n ps r) c R = on_some (took n R) (run N s r c)
  run N s (row_copy p r) c R =
      let n = node_of N (spot_at N p s) in on_some (run_row n (option_map width (row_kind n)) (unit_of p c) R) (run N s r None)
  run N s (row_swap p r) c R =
      let n = node_of N (spot_at N p s) in on_some (run_row n (option_map width (row_kind n)) (unit_of p c) R) (run N s r None)
  run N s (row_wide p o r) c R =
      let n = node_of N (spot_at N p s) in on_some (run_row n (option_map (λ k. 4) (row_kind n)) (unit_of p c) R) (run N s r None)
  run N s (each p b r) c R =
      let n = node_of N (spot_at N p s) in
      on_some (looped (run N (element n) b None) (closed (leaves N (element n) b) (reached R)) (is_plain b) (greatest n) (unit_of p c) R)
      (run N s r None)
  run N s (switch p cs r) c R = on_some (run_ways N (node_of N (spot_at N p s)) cs cs R) (run N s r None)
  run N s (if_there p b r) c R =
      on_some (run N (present (node_of N (spot_at N p s))) b None R) (λ S. run N s r None (least R S))
  run N s (call k p r) c R = run N s r None (on every 0)
  run N s (patch a z o r) c R = run N s r c R

  -- those behind the bodies of a switch, of which `all` tells whether each arm has a case
  pub run_ways : List Node → Option Node → Cases → Cases → Turn
  run_ways N n all no_default R = Some no_rooms
  run_ways N n all (default b) R = run N (rest_spot n all) b None R
  run_ways N n all (case m b cs) R = on_some (run N (arm_spot n m) b None R) (λ S. option_map (least S) (run_ways N n all cs R))

-- whether each code of a list is not refused from no room at any residue
abbrev pub list_runs : List Node → List Block → Spots → Bool
list_runs N [] [] = true
list_runs N (b ∷ bs) (s ∷ ts) = is_some (run N s b None (on every 0)) && list_runs N bs ts
list_runs N _ _ = false

-- whether a code over a node, and each code of its list at its node, is not refused
abbrev pub covers_at : List Node → ℕ → SendCode → Option Spots → Bool
covers_at N id code None = false
covers_at N id code (Some ts) =
    is_some (run N (Some id) (code_seen code.ops) None (only_room 0 0)) && list_runs N (map code_seen code.subs) ts

-- whether a code over a node has ensured what it appends, from position 0
abbrev pub covers : List Node → ℕ → SendCode → Bool
covers N id code = covers_at N id code (spots N (Some id) (code_seen code.ops) (map code_seen code.subs))
