-- The flat of a code, with those of the codes that its calls name.
use Rattle.std.specs.Prelude.{ℕ, zero, suc, List, [], ◌∷◌, ◌++◌, length, map, Option, Some, None, option_map, nat_eq, nat_lt, if◌then◌else◌}
use Rattle.mint.specs.declared.node.Node.{Node}
use Rattle.cast_stub.specs.declared.send.SendCode.{SendCode}
use Rattle.cast_stub.specs.Parts.{on_some}
use Rattle.cast_stub.specs.Block.{Block, stop, ensure, ensure_row, align, chunk, row_copy, row_swap, row_wide, each, switch, if_there, call, patch, Cases, no_default, default, case, code_seen}
use Rattle.stub_flat.specs.Places.{Spot, node_of, spot_at, element, present, arm_spot, rest_spot}
use Rattle.stub_flat.specs.Residues.{only, every}
use Rattle.stub_flat.specs.Items.{Items, items}

-- ---- at which node each code is called

-- a call: the code's number, and the place that it goes over
abbrev pub Called : Type 0
Called = ℕ × Spot

abbrev mutual
  -- the calls of a block over a place
  pub calls : List Node → Spot → Block → List Called
  calls N s stop = []
  calls N s (ensure n r) = calls N s r
  calls N s (ensure_row p u e r) = calls N s r
  calls N s (align a r) = calls N s r
  calls N s (chunk n ps r) = calls N s r
  calls N s (row_copy p r) = calls N s r
  calls N s (row_swap p r) = calls N s r
  calls N s (row_wide p o r) = calls N s r
  calls N s (each p b r) = calls N (element (node_of N (spot_at N p s))) b ++ calls N s r
  calls N s (switch p cs r) = way_calls N (node_of N (spot_at N p s)) cs cs ++ calls N s r
  calls N s (if_there p b r) = calls N (present (node_of N (spot_at N p s))) b ++ calls N s r
  calls N s (call k p r) = (k, spot_at N p s) ∷ calls N s r
  calls N s (patch a z o r) = calls N s r

  -- those of the bodies of a switch
  pub way_calls : List Node → Option Node → Cases → Cases → List Called
  way_calls N n all no_default = []
  way_calls N n all (default b) = calls N (rest_spot n all) b
  way_calls N n all (case m b cs) = calls N (arm_spot n m) b ++ way_calls N n all cs

-- the nodes of the codes that were called so far
abbrev pub Spots : Type 0
Spots = List Spot

-- a call noted: none where its place is not known, or where the code has another node
abbrev pub noted : Called → Spots → Option Spots
noted c [] = Some []
noted (k, None) (t ∷ ts) = if nat_lt k (length (t ∷ ts)) then None else Some (t ∷ ts)
noted (zero, Some n) (None ∷ ts) = Some (Some n ∷ ts)
noted (zero, Some n) (Some m ∷ ts) = if nat_eq n m then Some (Some m ∷ ts) else None
noted (suc k, Some n) (t ∷ ts) = option_map (λ us. t ∷ us) (noted (k, Some n) ts)

-- calls noted, one after the other
abbrev pub all_noted : List Called → Spots → Option Spots
all_noted [] ts = Some ts
all_noted (c ∷ cs) ts = on_some (noted c ts) (all_noted cs)

-- the calls of the codes whose nodes are known
abbrev pub calls_of_known : List Node → List Block → Spots → List Called
calls_of_known N (b ∷ bs) (Some n ∷ ts) = calls N (Some n) b ++ calls_of_known N bs ts
calls_of_known N (b ∷ bs) (None ∷ ts) = calls_of_known N bs ts
calls_of_known N _ _ = []

-- nodes found in so many rounds, each from the codes found before
abbrev pub found_in : ℕ → List Node → List Block → Spots → Option Spots
found_in zero N bs ts = Some ts
found_in (suc n) N bs ts = on_some (all_noted (calls_of_known N bs ts) ts) (found_in n N bs)

-- no node of any code
abbrev pub unknown : List Block → Spots
unknown bs = map (λ b. None) bs

-- the nodes that calls lead to, from the code itself on
abbrev pub spots : List Node → Spot → Block → List Block → Option Spots
spots N s b bs = on_some (all_noted (calls N s b) (unknown bs)) (found_in (length bs) N bs)

-- ---- the flat

-- the items of the codes of a list, each at its node and from all residues
abbrev pub list_items : List Node → List Block → Spots → Option (List Items)
list_items N [] [] = Some []
list_items N (b ∷ bs) (Some n ∷ ts) = on_some (items N (Some n) b every) (λ i. option_map (λ is. i ∷ is) (list_items N bs ts))
list_items N _ _ = None

-- what is left of a code and of its list
abbrev pub Flats : Type 0
Flats = Items × List Items

-- the flat of a code over a node, if it has one
abbrev pub flat : List Node → ℕ → SendCode → Option Flats
flat N id code =
    let bs = map code_seen code.subs in
    on_some (spots N (Some id) (code_seen code.ops) bs)
    (λ ts. on_some (items N (Some id) (code_seen code.ops) (only 0)) (λ i. option_map (λ is. (i, is)) (list_items N bs ts)))
