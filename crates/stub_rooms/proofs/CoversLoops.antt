-- Loops as values, over the places that they have.
use Rattle.std.proofs.Common.{◌≡◌, ℕ, true, List, Option, Some, None, sym, ap, ◌∙◌}
use Rattle.mint.specs.declared.node.Node.{Node}
use Rattle.cast_stub.specs.Block.{Block}
use Rattle.stub_flat.specs.Places.{Spot, node_of, element, greatest}
use Rattle.stub_flat.specs.Residues.{moved, closed}
use Rattle.stub_flat.specs.Leaves.{leaves}
use Rattle.stub_cover.specs.Rooms.{Rooms, took, reached}
use Rattle.stub_cover.specs.Covers.{run, run_row, looped, is_plain}
use Rattle.stub_rooms.specs.CoversStanding.{each_turn}

-- a row whose kind is known
pub row_is : (n : Option Node) (w unit most : Option ℕ) (v : ℕ) (R : Rooms) → w ≡ Some v → most ≡ greatest n
    → looped (took v) (closed (moved v) (reached R)) true most unit R ≡ run_row n w unit R
row_is n w unit most v R is top =
    ap (λ (m : Option ℕ). looped (took v) (closed (moved v) (reached R)) true m unit R) top
    ∙ ap (λ (z : Option ℕ). run_row n z unit R) (sym is)

pub row_none : (n : Option Node) (w unit : Option ℕ) (R : Rooms) → w ≡ None → None ≡ run_row n w unit R
row_none n w unit R is = ap (λ (z : Option ℕ). run_row n z unit R) (sym is)

pub row_same : (N : List Node) (place there : Spot) (w v unit k : Option ℕ) (R : Rooms) → place ≡ there → w ≡ v → unit ≡ k
    → run_row (node_of N place) w unit R ≡ run_row (node_of N there) v k R
row_same N place there w v unit k R e f g =
    ap (λ (z : Spot). run_row (node_of N z) w unit R) e ∙ ap (λ (z : Option ℕ). run_row (node_of N there) z unit R) f
    ∙ ap (λ (z : Option ℕ). run_row (node_of N there) v z R) g

pub each_is : (N : List Node) (n : Option Node) (b : Block) (s : Spot) (most unit k : Option ℕ) (R : Rooms) → s ≡ element n
    → most ≡ greatest n → unit ≡ k
    → looped (run N s b None) (closed (leaves N s b) (reached R)) (is_plain b) most unit R ≡ each_turn N n b k R
each_is N n b s most unit k R e f g =
    ap (λ (z : Spot). looped (run N z b None) (closed (leaves N z b) (reached R)) (is_plain b) most unit R) e
    ∙ ap (λ (z : Option ℕ). looped (run N (element n) b None) (closed (leaves N (element n) b) (reached R)) (is_plain b) z unit R) f
    ∙ ap (λ (z : Option ℕ). each_turn N n b z R) g
