-- Texts put one after the other.
use Rattle.std.proofs.Common.{◌≡◌, ℕ, suc, ◌+◌, ◌-◌, ◌<◌, ◌≤◌, Bool, true, List, [], ◌∷◌, ◌++◌, length, map, drop, get_or, replicate, sym, ap, ◌∙◌, append_assoc, arith}
use Rattle.std.specs.List.{range_with_len}
use Rattle.std.proofs.Math.ListN.{drop_of_length-le}
use Rattle.cast_stub.specs.Steps.{is_width}
use Rattle.wire_def.specs.declared.head.Order.{Order}
use Rattle.stub_flat.specs.Items.{Cell, fixed, part, num, ordered}
use Rattle.stub_compare.specs.CompareCells.{is_big, turned_at}
use Rattle.stub_compare.specs.CompareText.{cell_text, cells_text, path_text}
use Rattle.stub_compare.specs.CompareTold.{IsPut}
use Rattle.stub_compare.proofs.CompareLaid.{map_pair, word_cells}
use Rattle.stub_compare.proofs.CompareLists.{first_or, range_all, range_next, range_none}

-- a number more
pub put_one : (old new : List ℕ) (n : ℕ) → new ≡ old ++ n ∷ [] → IsPut old (λ rest. n ∷ rest) new
put_one old new n is rest = sym (append_assoc old (n ∷ []) rest) ∙ ap (λ (z : List ℕ). z ++ rest) (sym is)

-- a text after a text
pub put_then : (old mid new : List ℕ) (f g : List ℕ → List ℕ) → IsPut old f mid → IsPut mid g new → IsPut old (λ rest. f (g rest)) new
put_then old mid new f g h k rest = h (g rest) ∙ k rest

-- ---- paths

-- what is put of a path, and what is left
abbrev pub IsLeft : List ℕ → List ℕ → List ℕ → List ℕ → Type 0
IsLeft path left old new = (rest : List ℕ) → old ++ path_text path rest ≡ new ++ path_text left rest

pub field_more : (path xs : List ℕ) (i n : ℕ) (old mid new : List ℕ) → i < length xs → n ≡ get_or xs i 0 → IsLeft path (drop i xs) old mid
    → IsPut mid (λ rest. 1 ∷ (n ∷ rest)) new → IsLeft path (drop (i + 1) xs) old new
field_more path xs i n old mid new less at left put rest =
    left rest ∙ ap (λ (l : List ℕ). mid ++ path_text l rest) (first_or xs i n 0 less at) ∙ put (path_text (drop (i + 1) xs) rest)

pub path_done : (path xs : List ℕ) (i : ℕ) (old mid new : List ℕ) → length xs ≤ i → xs ≡ path → IsLeft xs (drop i xs) old mid
    → IsPut mid (λ rest. 0 ∷ rest) new → IsPut old (path_text path) new
path_done path xs i old mid new le same left end rest =
    ap (λ (l : List ℕ). old ++ path_text l rest) (sym same) ∙ left rest
    ∙ ap (λ (l : List ℕ). mid ++ path_text l rest) (drop_of_length-le xs le) ∙ end rest

-- ---- octets

-- zeros that are left, one less
pub zero_more : (n : ℕ) (all : List Cell) (old mid new : List ℕ) → 0 < n
    → ((rest : List ℕ) → old ++ cells_text all rest ≡ mid ++ cells_text (replicate n (fixed 0)) rest)
    → IsPut mid (λ rest. 8 ∷ rest) new
    → (rest : List ℕ) → old ++ cells_text all rest ≡ new ++ cells_text (replicate (n - 1) (fixed 0)) rest
zero_more n all old mid new some left put rest =
    let one : n ≡ suc (n - 1) = omega arith in
    left rest ∙ ap (λ k. mid ++ cells_text (replicate k (fixed 0)) rest) one ∙ put (cells_text (replicate (n - 1) (fixed 0)) rest)

pub zeros_done : (n : ℕ) (all : List Cell) (old new : List ℕ) → n ≤ 0
    → ((rest : List ℕ) → old ++ cells_text all rest ≡ new ++ cells_text (replicate n (fixed 0)) rest) → IsPut old (cells_text all) new
zeros_done n all old new le left rest =
    let none : n ≡ 0 = omega arith in left rest ∙ ap (λ k. new ++ cells_text (replicate k (fixed 0)) rest) none

-- the octets of a number that is itself the value, from one on
abbrev pub own_from : Bool → ℕ → ℕ → List Cell
own_from t w j = map (λ k. part (num []) (turned_at t w k)) (range_with_len j (w - j))

-- what is put of them, and what is left
abbrev pub OwnLeft : List Cell → Bool → ℕ → ℕ → List ℕ → List ℕ → Type 0
OwnLeft all t w j old new = (rest : List ℕ) → old ++ cells_text all rest ≡ new ++ cells_text (own_from t w j) rest

pub own_all : (w : ℕ) (o : Order) (t : Bool) (old : List ℕ) → is_width w ≡ true → t ≡ is_big o
    → OwnLeft (ordered (num []) w o) t w 0 old old
own_all w o t old wide is rest =
    ap (λ (cs : List Cell). old ++ cells_text cs rest) (word_cells (num []) o w wide
    ∙ map_pair (part (num [])) (turned_at (is_big o) w) (range_with_len 0 w))
    ∙ ap (λ (b : Bool). old ++ cells_text (map (λ k. part (num []) (turned_at b w k)) (range_with_len 0 w)) rest) (sym is)
    ∙ ap (λ (ks : List ℕ). old ++ cells_text (map (λ k. part (num []) (turned_at t w k)) ks) rest) (sym (range_all w))

pub own_more : (all : List Cell) (t : Bool) (w j k : ℕ) (old mid new : List ℕ) → j < w → k ≡ turned_at t w j → OwnLeft all t w j old mid
    → IsPut mid (cell_text (part (num []) k)) new → OwnLeft all t w (j + 1) old new
own_more all t w j k old mid new less is left put rest =
    left rest
    ∙ ap (λ (ks : List ℕ). mid ++ cells_text (map (λ i. part (num []) (turned_at t w i)) ks) rest) (range_next w j less)
    ∙ ap (λ i. mid ++ cell_text (part (num []) i) (cells_text (own_from t w (j + 1)) rest)) (sym is)
    ∙ put (cells_text (own_from t w (j + 1)) rest)

pub own_done : (all : List Cell) (t : Bool) (w j : ℕ) (old new : List ℕ) → w ≤ j → OwnLeft all t w j old new
    → IsPut old (cells_text all) new
own_done all t w j old new le left rest =
    left rest ∙ ap (λ (ks : List ℕ). new ++ cells_text (map (λ i. part (num []) (turned_at t w i)) ks) rest) (range_none w j le)
