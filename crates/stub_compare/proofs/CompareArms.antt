-- What is put of one more operation and of one more body, and of a whole operation with bodies.
use Rattle.std.proofs.Common.{◌≡◌, ℕ, ◌+◌, ◌<◌, ◌≤◌, ℤ, Bool, true, false, ◌||◌, nat_eq, eq-eqb, if◌then◌else◌, replicate, List, [], ◌∷◌, ◌++◌, get_or, length, drop, Option, Some, None, Result, Ok, Err, IfOk, option_map, is_some, refl, sym, ap, ◌∙◌, subst}
use Rattle.std.proofs.Math.ListN.{drop_of_length-le}
use Rattle.wire_def.specs.Scalars.{gap}
use Rattle.std.proofs.lemmas.Bool.{ne_eqb}
use Rattle.wire_def.specs.declared.head.Order.{Order}
use Rattle.wire_def.specs.declared.head.Order.TheVariants.{Big, Little}
use Rattle.mint.specs.declared.kind.Kind.{Kind}
use Rattle.mint.specs.declared.kind.Kind.TheVariants as kinds
use Rattle.cast_stub.specs.Steps.{is_width}
use Rattle.mint.specs.declared.node.Node.{Node}
use Rattle.mint.specs.Kinds.{width}
use Rattle.cast_stub.specs.Parts.{on_some}
use Rattle.cast_stub.specs.declared.send.SendOp.{SendOp}
use Rattle.cast_stub.specs.Block.{Block, Cases, Piece, chunk, each, ensure_row, if_there, row_copy, row_swap, row_wide, switch, op_seen, code_seen, cases_seen}
use Rattle.stub_flat.specs.Places.{Spot, node_of, spot_at, element, present, has_length, row_kind, arm_spot, rest_spot}
use Rattle.stub_flat.specs.Residues.{Residues, none, sum, moved, closed, single_first, size_first}
use Rattle.stub_flat.specs.Leaves.{leaves, ways_leave, width_of}
use Rattle.cast_stub.specs.declared.put.Put.{Put}
use Rattle.stub_flat.specs.Items.{Items, align_items, cells, done, fixed, octets, zeros, no_way, other, way, items, row_items, way_items, provided}
use Rattle.stub_compare.specs.CompareSets.{Agree, IsTableOf, applied}
use Rattle.stub_places.specs.Sets.{each_of, set_of}
use Rattle.stub_compare.specs.CompareText.{cells_text, integer_text, items_text, path_text, ways_text}
use Rattle.stub_compare.specs.CompareTold.{AreWaysPut, IsBlockPut, IsLed, IsOpPut, IsOpTold, IsPut, IsTold, row_piece}
use Rattle.stub_compare.proofs.CompareLists.{first_of}
use Rattle.stub_compare.proofs.CompareLinear.{agree_then, leaves_linear}
use Rattle.stub_compare.proofs.CompareTables.{agree_each, set_closed, sum_agree}
use Rattle.stub_compare.proofs.CompareOps.{absent_told, led_absent, led_same, led_then, leaves_agree, told_absent, told_chunk, told_each, told_row, told_some, octets_put, where_agree}
use Rattle.stub_compare.proofs.CompareRows.{row_absent, row_led}
use Rattle.stub_compare.proofs.CompareSwitch.{other_told, told_switch, untold_switch, way_led, ways_told}

-- ---- operations as they are seen

-- an operation that is seen as a piece
pub seen_put : (N : List Node) (s : Spot) (op : SendOp) (p : Piece) (o : Option (List Bool)) (S : Residues) (old new : List ℕ)
    → op_seen op ≡ p
    → IsOpPut o N s p S old new → IsOpPut o N s (op_seen op) S old new
seen_put N s op p o S old new seen put = subst (λ (z : Piece). IsOpPut o N s z S old new) (sym seen) put

-- an operation that is not there has no residues behind it
pub nothing_put : (N : List Node) (s : Spot) (p : Piece) (S T : Residues) (old mid new : List ℕ) → IsOpTold false N s p S T old mid
    → IsOpPut None N s p S old new
nothing_put N s p S T old mid new put = record { put = put.put; behind = λ e. absurd (cc) }

-- a fact of a place, at the same place
pub put_at : {A : Type 0} (P : A → Type 0) (x y : A) → x ≡ y → P x → P y
put_at {A} P x y e p = subst P e p

-- ---- blocks

-- what is put of a block, and what is left of it
pub record IsLeft (N : List Node) (s : Spot) (ops rest : List SendOp) (S T : Residues) (old new : List ℕ) : Type 0 where
  pub put : IsLed items_text (items N s (code_seen ops) S) (items N s (code_seen rest) T) old new
  pub behind : Agree (leaves N s (code_seen rest) T) (leaves N s (code_seen ops) S)

pub left_all : (N : List Node) (s : Spot) (ops : List SendOp) (S : Residues) (old : List ℕ) → IsLeft N s ops ops S S old old
left_all N s ops S old = record { put = led_same items_text (items N s (code_seen ops) S) old; behind = λ r lt. refl }

pub left_one : (N : List Node) (s : Spot) (ops xs : List SendOp) (i : ℕ) (op : SendOp) (o : Option (List Bool)) (b : List Bool)
    (S T : Residues) (old mid new : List ℕ) → i < length xs → op ≡ get_or xs i op → o ≡ Some b → IsLeft N s ops (drop i xs) S T old mid
    → IsOpPut o N s (op_seen op) T mid new → IsLeft N s ops (drop (i + 1) xs) S (set_of b) old new
left_one N s ops xs i op o b S T old mid new less at is left put =
    let R = code_seen (drop (i + 1) xs) in
    let there = subst (λ (z : Option (List Bool)). IsOpPut z N s (op_seen op) T mid new) is put in
    let open_left = subst (λ (l : List SendOp). IsLeft N s ops l S T old mid) (first_of xs i op less at) left in
    record {
      put = led_then items_text (items N s (code_seen ops) S) (items N s (op_seen op R) T) (items N s R (set_of b)) old mid new
          open_left.put (there.put R);
      behind = agree_then (leaves N s R (set_of b)) (leaves N s (op_seen op R) T) (leaves N s (code_seen ops) S) (there.behind refl R)
          open_left.behind;
    }

-- an operation that is not there
pub left_nothing : (N : List Node) (s : Spot) (ops xs : List SendOp) (i : ℕ) (op : SendOp) (o : Option (List Bool))
    (S T : Residues) (old mid new : List ℕ) → i < length xs → op ≡ get_or xs i op → o ≡ None → xs ≡ ops
    → IsLeft N s xs (drop i xs) S T old mid
    → IsOpPut o N s (op_seen op) T mid new → IsBlockPut None N s (code_seen ops) S old new
left_nothing N s ops xs i op o S T old mid new less at is same left put =
    let R = code_seen (drop (i + 1) xs) in
    let there = subst (λ (z : Option (List Bool)). IsOpPut z N s (op_seen op) T mid new) is put in
    let open_left = subst (λ (l : List SendOp). IsLeft N s xs l S T old mid) (first_of xs i op less at) left in
    let whole = led_absent items_text (items N s (code_seen xs) S) (items N s (op_seen op R) T) old mid open_left.put (there.put R) in
    record {
      put = told_absent (items N s (code_seen ops) S) (λ i. IsPut old (items_text i) new)
          (ap (λ (l : List SendOp). items N s (code_seen l) S) (sym same) ∙ whole);
      behind = λ e. absurd (cc);
    }

led_done : (a : Option Items) (old mid new : List ℕ) → IsLed items_text a (Some done) old mid → IsPut mid (λ rest. 0 ∷ rest) new
    → IsTold true a (λ i. IsPut old (items_text i) new)
led_done (Some a) old mid new l end = λ rest. l rest ∙ end rest
led_done None old mid new l end = absurd l

-- all operations put
pub left_none : (N : List Node) (s : Spot) (ops xs : List SendOp) (i : ℕ) (b : List Bool) (S : Residues) (old mid new : List ℕ)
    → length xs ≤ i → xs ≡ ops → IsLeft N s xs (drop i xs) S (set_of b) old mid → IsPut mid (λ rest. 0 ∷ rest) new
    → IsBlockPut (Some b) N s (code_seen ops) S old new
left_none N s ops xs i b S old mid new le same left end =
    let P : List SendOp → Type 0 = λ l. IsLeft N s xs l S (set_of b) old mid in
    let Q : List SendOp → Type 0 = λ l. IsLeft N s l [] S (set_of b) old mid in
    let over = subst Q same (subst P (drop_of_length-le xs le) left) in
    record { put = led_done (items N s (code_seen ops) S) old mid new over.put end; behind = λ e. over.behind }

-- ---- operations with bodies

pub each_put : (N : List Node) (s : Spot) (p : List ℕ) (body : List SendOp) (o : Option (List Bool)) (entry b : List Bool) (S : Residues)
    (old mid new : List ℕ) → o ≡ Some b
    → Agree (set_of entry) (closed (leaves N (element (node_of N (spot_at N p s))) (code_seen body)) S)
    → IsPut old (λ rest. 2 ∷ path_text p rest) mid
    → IsBlockPut o N (element (node_of N (spot_at N p s))) (code_seen body) (set_of entry) mid new
    → IsOpPut (Some entry) N s (each p (code_seen body)) S old new
each_put N s p body o entry b S old mid new is same first put =
    let inner = element (node_of N (spot_at N p s)) in
    told_each N s p (code_seen body) true S (set_of entry) (set_of b) old mid new same first
    (subst (λ (z : Option (List Bool)). IsBlockPut z N inner (code_seen body) (set_of entry) mid new) is put)

pub each_nothing : (N : List Node) (s : Spot) (p : List ℕ) (body : List SendOp) (o : Option (List Bool)) (entry : List Bool) (S : Residues)
    (old mid new : List ℕ) → o ≡ None
    → Agree (set_of entry) (closed (leaves N (element (node_of N (spot_at N p s))) (code_seen body)) S)
    → IsPut old (λ rest. 2 ∷ path_text p rest) mid
    → IsBlockPut o N (element (node_of N (spot_at N p s))) (code_seen body) (set_of entry) mid new
    → IsOpPut None N s (each p (code_seen body)) S old new
each_nothing N s p body o entry S old mid new is same first put =
    let inner = element (node_of N (spot_at N p s)) in
    nothing_put N s (each p (code_seen body)) S (set_of entry) old new new
    (told_each N s p (code_seen body) false S (set_of entry) (set_of []) old mid new same first
    (subst (λ (z : Option (List Bool)). IsBlockPut z N inner (code_seen body) (set_of entry) mid new) is put))

pub some_put : (N : List Node) (s : Spot) (p : List ℕ) (body : List SendOp) (o : Option (List Bool)) (b T : List Bool) (S : Residues)
    (old mid new : List ℕ) → o ≡ Some b → T ≡ each_of (sum S (set_of b)) → IsPut old (λ rest. 4 ∷ path_text p rest) mid
    → IsBlockPut o N (present (node_of N (spot_at N p s))) (code_seen body) S mid new
    → IsOpPut (Some T) N s (if_there p (code_seen body)) S old new
some_put N s p body o b T S old mid new is sums first put =
    let inner = present (node_of N (spot_at N p s)) in
    told_some N s p (code_seen body) true S (set_of T) (set_of b) old mid new (agree_each (sum S (set_of b)) T sums) first
    (subst (λ (z : Option (List Bool)). IsBlockPut z N inner (code_seen body) S mid new) is put)

pub some_nothing : (N : List Node) (s : Spot) (p : List ℕ) (body : List SendOp) (o : Option (List Bool)) (S : Residues)
    (old mid new : List ℕ) → o ≡ None → IsPut old (λ rest. 4 ∷ path_text p rest) mid
    → IsBlockPut o N (present (node_of N (spot_at N p s))) (code_seen body) S mid new
    → IsOpPut None N s (if_there p (code_seen body)) S old new
some_nothing N s p body o S old mid new is first put =
    let inner = present (node_of N (spot_at N p s)) in
    nothing_put N s (if_there p (code_seen body)) S (sum S (set_of [])) old new new
    (told_some N s p (code_seen body) false S (sum S (set_of [])) (set_of []) old mid new (λ r lt. refl) first
    (subst (λ (z : Option (List Bool)). IsBlockPut z N inner (code_seen body) S mid new) is put))

pub switch_put : (N : List Node) (s : Spot) (p : List ℕ) (cs : Cases) (o : Option (List Bool)) (S : Residues) (old mid new : List ℕ)
    → IsPut old (λ rest. 3 ∷ path_text p rest) mid → AreWaysPut o N (spot_at N p s) cs S mid new → IsOpPut o N s (switch p cs) S old new
switch_put N s p cs (Some b) S old mid new first put =
    told_switch N s p cs S (set_of b) old mid new (put.behind refl) first put.put
switch_put N s p cs None S old mid new first put =
    untold_switch N s p cs S (set_of []) old new
    (absent_told (way_items N (node_of N (spot_at N p s)) cs cs S) (λ w. IsPut mid (ways_text w) new) put.put)

-- ---- rows

-- the image of a row in an order, whose numbers are so wide
module _ (N : List Node) (s : Spot) (p : List ℕ) (order : Order) (image : Piece) (w : Option Kind → ℕ) (S : Residues) where
  abbrev kind : Option Kind
  kind = row_kind (node_of N (spot_at N p s))

  abbrev after : Residues
  after = closed (moved (w kind)) S

  -- what is left of it is the row, and what is left behind it
  abbrev IsImage : Type 0
  IsImage = (r : Block) → (items N s (image r) S ≡ provided (is_some kind) (option_map (row_items p (w kind) order) (items N s r after)))
      × (leaves N s (image r) S ≡ leaves N s r after)

  image_put : IsImage → (k : Kind) (T : List Bool) (old new : List ℕ) → kind ≡ Some k → Agree (set_of T) (closed (moved (w (Some k))) S)
      → ((i : Items) (rest : List ℕ) → old ++ items_text (row_items p (w (Some k)) order i) rest ≡ new ++ items_text i rest)
      → IsOpPut (Some T) N s image S old new
  image_put left k T old new is same h =
      let all : Agree (set_of T) after = λ q lt. same q lt ∙ ap (λ (x : Option Kind). closed (moved (w x)) S q) (sym is) in
      record {
        put = λ r. subst (λ (z : Option Items). IsLed items_text z (items N s r (set_of T)) old new) (sym (left r).0)
            (where_agree N s r after (set_of T) true (provided (is_some kind) (option_map (row_items p (w kind) order) (items N s r after)))
            old new all (row_led kind k (λ x. row_items p (w kind) order) (items N s r after) old new is
            (λ i rest. ap (λ (x : Option Kind). old ++ items_text (row_items p (w x) order i) rest) is ∙ h i rest)));
        behind = λ e r. subst (Agree (leaves N s r (set_of T))) (sym (left r).1) (leaves_agree N s r after (set_of T) all);
      }

  image_nothing : IsImage → (old : List ℕ) → kind ≡ None → IsOpPut None N s image S old old
  image_nothing left old is = record {
    put = λ r. (left r).0 ∙ row_absent kind (option_map (row_items p (w kind) order) (items N s r after)) is;
    behind = λ e. absurd (cc);
  }

pub row_put_there : (N : List Node) (s : Spot) (p : List ℕ) (order : Order) (k : Kind) (T : List Bool) (S : Residues) (old new : List ℕ)
    → row_kind (node_of N (spot_at N p s)) ≡ Some k → Agree (set_of T) (closed (moved (width k)) S)
    → ((i : Items) (rest : List ℕ) → old ++ items_text (row_items p (width k) order i) rest ≡ new ++ items_text i rest)
    → IsOpPut (Some T) N s (row_piece order p) S old new
row_put_there N s p Little k T S old new is same h =
    image_put N s p Little (row_copy p) width_of S (λ r. (refl, refl)) k T old new is same h
row_put_there N s p Big k T S old new is same h =
    image_put N s p Big (row_swap p) width_of S (λ r. (refl, refl)) k T old new is same h

pub row_nothing : (N : List Node) (s : Spot) (p : List ℕ) (order : Order) (S : Residues) (old : List ℕ)
    → row_kind (node_of N (spot_at N p s)) ≡ None → IsOpPut None N s (row_piece order p) S old old
row_nothing N s p Little S old is = image_nothing N s p Little (row_copy p) width_of S (λ r. (refl, refl)) old is
row_nothing N s p Big S old is = image_nothing N s p Big (row_swap p) width_of S (λ r. (refl, refl)) old is

pub wide_put_there : (N : List Node) (s : Spot) (p : List ℕ) (order : Order) (k : Kind) (T : List Bool) (S : Residues) (old new : List ℕ)
    → row_kind (node_of N (spot_at N p s)) ≡ Some k → Agree (set_of T) (closed (moved 4) S)
    → ((i : Items) (rest : List ℕ) → old ++ items_text (row_items p 4 order i) rest ≡ new ++ items_text i rest)
    → IsOpPut (Some T) N s (row_wide p order) S old new
wide_put_there N s p order k T S old new is same h =
    image_put N s p order (row_wide p order) (λ x. 4) S (λ r. (refl, refl)) k T old new is same h

pub wide_nothing : (N : List Node) (s : Spot) (p : List ℕ) (order : Order) (S : Residues) (old : List ℕ)
    → row_kind (node_of N (spot_at N p s)) ≡ None → IsOpPut None N s (row_wide p order) S old old
wide_nothing N s p order S old is = image_nothing N s p order (row_wide p order) (λ x. 4) S (λ r. (refl, refl)) old is

-- ---- bodies of a switch

-- what is put of the bodies, and what is left of them; the residues behind the bodies so far
pub record AreLeft (N : List Node) (n : Option Node) (all cs rest : Cases) (S total : Residues) (old new : List ℕ) : Type 0 where
  pub put : IsLed ways_text (way_items N n all cs S) (way_items N n all rest S) old new
  pub behind : Agree (sum total (ways_leave N n all rest S)) (ways_leave N n all cs S)

pub ways_all : (N : List Node) (n : Option Node) (all cs : Cases) (S : Residues) (total : List Bool) (old : List ℕ) → total ≡ each_of none
    → AreLeft N n all cs cs S (set_of total) old old
ways_all N n all cs S total old is = record {
  put = led_same ways_text (way_items N n all cs S) old;
  behind = λ r lt. ap (λ (b : Bool). b || ways_leave N n all cs S r) (agree_each none total is r lt);
}

or_assoc : (a b c : Bool) → ((a || b) || c) ≡ (a || (b || c))
or_assoc true b c = refl
or_assoc false b c = refl

-- one body more
pub ways_one : (N : List Node) (n : Option Node) (all cs : Cases) (xs : List (ℤ × List SendOp)) (last : Option (List SendOp)) (i : ℕ)
    (z : ℤ × List SendOp) (spot : Spot) (o : Option (List Bool)) (b : List Bool) (S : Residues) (total next : List Bool)
    (old mid way_mid new : List ℕ) → i < length xs → z ≡ get_or xs i z → spot ≡ arm_spot n z.0 → o ≡ Some b
    → AreLeft N n all cs (cases_seen (drop i xs) last) S (set_of total) old mid
    → IsPut mid (λ rest. 2 ∷ integer_text z.0 rest) way_mid
    → IsBlockPut o N spot (code_seen z.1) S way_mid new
    → next ≡ each_of (sum (set_of total) (set_of b))
    → AreLeft N n all cs (cases_seen (drop (i + 1) xs) last) S (set_of next) old new
ways_one N n all cs xs last i z spot o b S total next old mid way_mid new less at place is left first put sums =
    let R = cases_seen (drop (i + 1) xs) last in
    let body_put = subst (λ (x : Spot). IsBlockPut (Some b) N x (code_seen z.1) S way_mid new) place
    (subst (λ (x : Option (List Bool)). IsBlockPut x N spot (code_seen z.1) S way_mid new) is put) in
    let open_left = subst (λ (l : List (ℤ × List SendOp)). AreLeft N n all cs (cases_seen l last) S (set_of total) old mid)
    (first_of xs i z less at) left in
    let body = items N (arm_spot n z.0) (code_seen z.1) S in
    let rest_ways = way_items N n all R S in
    let B = leaves N (arm_spot n z.0) (code_seen z.1) S in
    let summed : Agree (set_of next) (sum (set_of total) B) =
    agree_then (set_of next) (sum (set_of total) (set_of b)) (sum (set_of total) B)
    (agree_each (sum (set_of total) (set_of b)) next sums)
    (sum_agree (set_of total) (set_of total) (set_of b) B (λ q h. refl) (body_put.behind refl)) in
    record {
      put = led_then ways_text (way_items N n all cs S) (on_some body (λ j. option_map (way z.0 j) rest_ways)) rest_ways old mid new
          open_left.put (way_led z.0 true body rest_ways mid way_mid new first body_put.put);
      behind = λ r lt. ap (λ (x : Bool). x || ways_leave N n all R S r) (summed r lt)
          ∙ or_assoc (set_of total r) (B r) (ways_leave N n all R S r) ∙ open_left.behind r lt;
    }

-- a body that is not there
pub ways_nothing : (N : List Node) (n : Option Node) (all : Cases) (xs cases : List (ℤ × List SendOp)) (last : Option (List SendOp)) (i : ℕ)
    (z : ℤ × List SendOp) (spot : Spot) (o : Option (List Bool)) (S total : Residues) (old mid way_mid new : List ℕ) → i < length xs
    → z ≡ get_or xs i z → spot ≡ arm_spot n z.0 → o ≡ None → xs ≡ cases
    → AreLeft N n all (cases_seen xs last) (cases_seen (drop i xs) last) S total old mid
    → IsPut mid (λ rest. 2 ∷ integer_text z.0 rest) way_mid
    → IsBlockPut o N spot (code_seen z.1) S way_mid new
    → way_items N n all (cases_seen cases last) S ≡ None
ways_nothing N n all xs cases last i z spot o S total old mid way_mid new less at place is same left first put =
    let body_put = subst (λ (x : Spot). IsBlockPut None N x (code_seen z.1) S way_mid new) place
    (subst (λ (x : Option (List Bool)). IsBlockPut x N spot (code_seen z.1) S way_mid new) is put) in
    let open_left = subst (λ (l : List (ℤ × List SendOp)). AreLeft N n all (cases_seen xs last) (cases_seen l last) S total old mid)
    (first_of xs i z less at) left in
    let body = items N (arm_spot n z.0) (code_seen z.1) S in
    let rest_ways = way_items N n all (cases_seen (drop (i + 1) xs) last) S in
    ap (λ (l : List (ℤ × List SendOp)). way_items N n all (cases_seen l last) S) (sym same)
    ∙ led_absent ways_text (way_items N n all (cases_seen xs last) S) (on_some body (λ j. option_map (way z.0 j) rest_ways)) old mid
    open_left.put (way_led z.0 false body rest_ways mid way_mid new first body_put.put)

-- the bodies as the loop goes over them
ways_over : (N : List Node) (n : Option Node) (all : Cases) (xs cases : List (ℤ × List SendOp)) (last final_body : Option (List SendOp))
    (i : ℕ)
    (S total : Residues) (old mid : List ℕ) → length xs ≤ i → xs ≡ cases → last ≡ final_body
    → AreLeft N n all (cases_seen xs last) (cases_seen (drop i xs) last) S total old mid
    → AreLeft N n all (cases_seen cases last) (cases_seen [] final_body) S total old mid
ways_over N n all xs cases last final_body i S total old mid le same there left =
    let P : List (ℤ × List SendOp) → Type 0 = λ l. AreLeft N n all (cases_seen l last) (cases_seen [] final_body) S total old mid in
    let Q : List (ℤ × List SendOp) → Type 0 = λ l. AreLeft N n all (cases_seen xs last) (cases_seen l final_body) S total old mid in
    let R : Option (List SendOp) → Type 0 = λ l. AreLeft N n all (cases_seen xs last) (cases_seen (drop i xs) l) S total old mid in
    subst P same (subst Q (drop_of_length-le xs le) (subst R there left))

pub ways_last : (N : List Node) (place : Spot) (all : Cases) (xs cases : List (ℤ × List SendOp)) (last : Option (List SendOp)) (i : ℕ)
    (body : List SendOp) (spot : Spot) (o : Option (List Bool)) (b : List Bool) (S : Residues) (total next : List Bool)
    (old mid one_mid new : List ℕ) → length xs ≤ i → xs ≡ cases → last ≡ Some body → spot ≡ rest_spot (node_of N place) all → o ≡ Some b
    → all ≡ cases_seen cases last
    → AreLeft N (node_of N place) all (cases_seen xs last) (cases_seen (drop i xs) last) S (set_of total) old mid
    → IsPut mid (λ rest. 1 ∷ rest) one_mid → IsBlockPut o N spot (code_seen body) S one_mid new
    → next ≡ each_of (sum (set_of total) (set_of b))
    → AreWaysPut (Some next) N place all S old new
ways_last N place all xs cases last i body spot o b S total next old mid one_mid new le same there at is whole left first put sums =
    let n = node_of N place in
    let over = ways_over N n all xs cases last (Some body) i S (set_of total) old mid le same there left in
    let body_put = subst (λ (x : Spot). IsBlockPut (Some b) N x (code_seen body) S one_mid new) at
    (subst (λ (x : Option (List Bool)). IsBlockPut x N spot (code_seen body) S one_mid new) is put) in
    let B = leaves N (rest_spot n all) (code_seen body) S in
    let summed : Agree (set_of next) (sum (set_of total) B) =
    agree_then (set_of next) (sum (set_of total) (set_of b)) (sum (set_of total) B)
    (agree_each (sum (set_of total) (set_of b)) next sums)
    (sum_agree (set_of total) (set_of total) (set_of b) B (λ q h. refl) (body_put.behind refl)) in
    let P : Cases → Type 0 = λ c. IsTold true (way_items N n all c S) (λ w. IsPut old (ways_text w) new) in
    let Q : Cases → Type 0 = λ c. Agree (set_of next) (ways_leave N n all c S) in
    let ends = option_map other (items N (rest_spot n all) (code_seen body) S) in
    record {
      put = subst P (sym whole) (ways_told true (way_items N n all (cases_seen cases last) S) ends old mid new over.put
          (other_told true (items N (rest_spot n all) (code_seen body) S) mid one_mid new first body_put.put));
      behind = λ e. subst Q (sym whole)
          (agree_then (set_of next) (sum (set_of total) B) (ways_leave N n all (cases_seen cases last) S) summed over.behind);
    }

pub ways_last_nothing : (N : List Node) (place : Spot) (all : Cases) (xs cases : List (ℤ × List SendOp)) (last : Option (List SendOp))
    (i : ℕ)
    (body : List SendOp) (spot : Spot) (o : Option (List Bool)) (S total : Residues)
    (old mid one_mid new : List ℕ) → length xs ≤ i → xs ≡ cases → last ≡ Some body → spot ≡ rest_spot (node_of N place) all → o ≡ None
    → all ≡ cases_seen cases last
    → AreLeft N (node_of N place) all (cases_seen xs last) (cases_seen (drop i xs) last) S total old mid
    → IsPut mid (λ rest. 1 ∷ rest) one_mid → IsBlockPut o N spot (code_seen body) S one_mid new
    → AreWaysPut None N place all S old new
ways_last_nothing N place all xs cases last i body spot o S total old mid one_mid new le same there at is whole left first put =
    let n = node_of N place in
    let over = ways_over N n all xs cases last (Some body) i S total old mid le same there left in
    let body_put = subst (λ (x : Spot). IsBlockPut None N x (code_seen body) S one_mid new) at
    (subst (λ (x : Option (List Bool)). IsBlockPut x N spot (code_seen body) S one_mid new) is put) in
    let P : Cases → Type 0 = λ c. IsTold false (way_items N n all c S) (λ w. IsPut old (ways_text w) new) in
    let ends = option_map other (items N (rest_spot n all) (code_seen body) S) in
    record {
      put = subst P (sym whole) (ways_told false (way_items N n all (cases_seen cases last) S) ends old mid new over.put
          (other_told false (items N (rest_spot n all) (code_seen body) S) mid one_mid new first body_put.put));
      behind = λ e. absurd (cc);
    }

-- the bodies of a switch, one of which is not there
pub no_ways : (N : List Node) (place : Spot) (all : Cases) (S : Residues) (old new : List ℕ)
    → way_items N (node_of N place) all all S ≡ None → AreWaysPut None N place all S old new
no_ways N place all S old new e = record {
  put = told_absent (way_items N (node_of N place) all all S) (λ w. IsPut old (ways_text w) new) e;
  behind = λ d. absurd (cc);
}

pub ways_end : (N : List Node) (place : Spot) (all : Cases) (xs cases : List (ℤ × List SendOp)) (last : Option (List SendOp)) (i : ℕ)
    (empty : List Bool) (S : Residues) (total next : List Bool) (old mid new : List ℕ) → length xs ≤ i → xs ≡ cases → last ≡ None
    → all ≡ cases_seen cases last
    → AreLeft N (node_of N place) all (cases_seen xs last) (cases_seen (drop i xs) last) S (set_of total) old mid
    → IsPut mid (λ rest. 0 ∷ rest) new → empty ≡ each_of none
    → next ≡ each_of (sum (set_of total) (set_of empty))
    → AreWaysPut (Some next) N place all S old new
ways_end N place all xs cases last i empty S total next old mid new le same there whole left end nothing sums =
    let n = node_of N place in
    let over = ways_over N n all xs cases last None i S (set_of total) old mid le same there left in
    let summed : Agree (set_of next) (sum (set_of total) none) =
    agree_then (set_of next) (sum (set_of total) (set_of empty)) (sum (set_of total) none)
    (agree_each (sum (set_of total) (set_of empty)) next sums)
    (sum_agree (set_of total) (set_of total) (set_of empty) none (λ q h. refl) (agree_each none empty nothing)) in
    let P : Cases → Type 0 = λ c. IsTold true (way_items N n all c S) (λ w. IsPut old (ways_text w) new) in
    let Q : Cases → Type 0 = λ c. Agree (set_of next) (ways_leave N n all c S) in
    record {
      put = subst P (sym whole) (ways_told true (way_items N n all (cases_seen cases last) S) (Some no_way) old mid new over.put end);
      behind = λ e. subst Q (sym whole)
          (agree_then (set_of next) (sum (set_of total) none) (ways_leave N n all (cases_seen cases last) S) summed over.behind);
    }

-- ---- answers that may be refused, and places as they are found

-- an operation that is seen as a piece, where it is answered
pub if_seen_put : {E : Type 0} (N : List Node) (s : Spot) (op : SendOp) (p : Piece) (x : Result (Option (List Bool)) E) (S : Residues)
    (old new : List ℕ) → op_seen op ≡ p → IfOk x (λ o. IsOpPut o N s p S old new) → IfOk x (λ o. IsOpPut o N s (op_seen op) S old new)
if_seen_put N s op p x S old new seen put = subst (λ (z : Piece). IfOk x (λ o. IsOpPut o N s z S old new)) (sym seen) put

-- what is put of a piece whatever the nodes and the place
pub if_for : {E : Type 0} (N : List Node) (s : Spot) (p : Piece) (x : Result (Option (List Bool)) E) (S : Residues) (old new : List ℕ)
    → IfOk x (λ o. (M : List Node) (t : Option ℕ) → IsOpPut o M t p S old new) → IfOk x (λ o. IsOpPut o N s p S old new)
if_for N s p (Ok o) S old new h = h N s
if_for N s p (Err e) S old new h = tt

-- and whatever the residues
pub if_for_all : {E : Type 0} (N : List Node) (s : Spot) (p : Piece) (x : Result (Option (List Bool)) E) (S : Residues) (old new : List ℕ)
    → IfOk x (λ o. (M : List Node) (t : Option ℕ) (T : Residues) → IsOpPut o M t p T old new) → IfOk x (λ o. IsOpPut o N s p S old new)
if_for_all N s p (Ok o) S old new h = h N s S
if_for_all N s p (Err e) S old new h = tt

pub if_switch : {E : Type 0} (N : List Node) (s : Spot) (p : List ℕ) (cs : Cases) (place : Spot) (x : Result (Option (List Bool)) E)
    (S : Residues) (old mid new : List ℕ) → place ≡ spot_at N p s → IsPut old (λ rest. 3 ∷ path_text p rest) mid
    → IfOk x (λ o. AreWaysPut o N place cs S mid new) → IfOk x (λ o. IsOpPut o N s (switch p cs) S old new)
if_switch N s p cs place (Ok o) S old mid new at first put =
    switch_put N s p cs o S old mid new first (subst (λ (z : Spot). AreWaysPut o N z cs S mid new) at put)
if_switch N s p cs place (Err e) S old mid new at first put = tt

-- a place with a length, and one without
pub length_put : (N : List Node) (s : Spot) (p : List ℕ) (u e : ℕ) (place : Spot) (b : List Bool) (old : List ℕ)
    → has_length (node_of N place) ≡ true → place ≡ spot_at N p s → IsOpPut (Some b) N s (ensure_row p u e) (set_of b) old old
length_put N s p u e place b old long at =
    let whole : has_length (node_of N (spot_at N p s)) ≡ true =
    ap (λ (z : Spot). has_length (node_of N z)) (sym at) ∙ long in
    subst (λ (x : Bool). IsOpTold x N s (ensure_row p u e) (set_of b) (set_of b) old old) whole (told_row N s p u e (set_of b) old)

pub length_nothing : (N : List Node) (s : Spot) (p : List ℕ) (u e : ℕ) (place : Spot) (S : Residues) (old : List ℕ)
    → has_length (node_of N place) ≡ false → place ≡ spot_at N p s → IsOpPut None N s (ensure_row p u e) S old old
length_nothing N s p u e place S old short at =
    let whole : has_length (node_of N (spot_at N p s)) ≡ false =
    ap (λ (z : Spot). has_length (node_of N z)) (sym at) ∙ short in
    nothing_put N s (ensure_row p u e) S S old old old
    (subst (λ (x : Bool). IsOpTold x N s (ensure_row p u e) S S old old) whole (told_row N s p u e S old))

-- a body over its place
pub each_at : (N : List Node) (s : Spot) (p : List ℕ) (body : List SendOp) (inner : Spot) (o : Option (List Bool))
    (entry b from : List Bool)
    (turn : List (List Bool)) (old mid new : List ℕ) → o ≡ Some b → inner ≡ element (node_of N (spot_at N p s))
    → IsTableOf (leaves N inner (code_seen body)) turn → entry ≡ each_of (closed (applied 8 turn) (set_of from))
    → IsPut old (λ rest. 2 ∷ path_text p rest) mid → IsBlockPut o N inner (code_seen body) (set_of entry) mid new
    → IsOpPut (Some entry) N s (each p (code_seen body)) (set_of from) old new
each_at N s p body inner o entry b from turn old mid new is at table made first put =
    let f = leaves N inner (code_seen body) in
    each_put N s p body o entry b (set_of from) old mid new is
    (subst (λ (z : Spot). Agree (set_of entry) (closed (leaves N z (code_seen body)) (set_of from))) at
    (set_closed f (leaves_linear N inner (code_seen body)) turn from entry table made)) first
    (subst (λ (z : Spot). IsBlockPut o N z (code_seen body) (set_of entry) mid new) at put)

pub each_not_at : (N : List Node) (s : Spot) (p : List ℕ) (body : List SendOp) (inner : Spot) (o : Option (List Bool))
    (entry from : List Bool)
    (turn : List (List Bool)) (old mid new : List ℕ) → o ≡ None → inner ≡ element (node_of N (spot_at N p s))
    → IsTableOf (leaves N inner (code_seen body)) turn → entry ≡ each_of (closed (applied 8 turn) (set_of from))
    → IsPut old (λ rest. 2 ∷ path_text p rest) mid → IsBlockPut o N inner (code_seen body) (set_of entry) mid new
    → IsOpPut None N s (each p (code_seen body)) (set_of from) old new
each_not_at N s p body inner o entry from turn old mid new is at table made first put =
    let f = leaves N inner (code_seen body) in
    each_nothing N s p body o entry (set_of from) old mid new is
    (subst (λ (z : Spot). Agree (set_of entry) (closed (leaves N z (code_seen body)) (set_of from))) at
    (set_closed f (leaves_linear N inner (code_seen body)) turn from entry table made)) first
    (subst (λ (z : Spot). IsBlockPut o N z (code_seen body) (set_of entry) mid new) at put)

pub some_at : (N : List Node) (s : Spot) (p : List ℕ) (body : List SendOp) (inner : Spot) (o : Option (List Bool)) (b T : List Bool)
    (S : Residues) (old mid new : List ℕ) → o ≡ Some b → inner ≡ present (node_of N (spot_at N p s)) → T ≡ each_of (sum S (set_of b))
    → IsPut old (λ rest. 4 ∷ path_text p rest) mid → IsBlockPut o N inner (code_seen body) S mid new
    → IsOpPut (Some T) N s (if_there p (code_seen body)) S old new
some_at N s p body inner o b T S old mid new is at sums first put =
    some_put N s p body o b T S old mid new is sums first
    (subst (λ (z : Spot). IsBlockPut o N z (code_seen body) S mid new) at put)

pub some_not_at : (N : List Node) (s : Spot) (p : List ℕ) (body : List SendOp) (inner : Spot) (o : Option (List Bool))
    (S : Residues) (old mid new : List ℕ) → o ≡ None → inner ≡ present (node_of N (spot_at N p s))
    → IsPut old (λ rest. 4 ∷ path_text p rest) mid → IsBlockPut o N inner (code_seen body) S mid new
    → IsOpPut None N s (if_there p (code_seen body)) S old new
some_not_at N s p body inner o S old mid new is at first put =
    some_nothing N s p body o S old mid new is first (subst (λ (z : Spot). IsBlockPut o N z (code_seen body) S mid new) at put)

-- the row at a place as it is found
pub kind_at : (N : List Node) (s : Spot) (p : List ℕ) (place : Spot) (found k : Option Kind) → found ≡ row_kind (node_of N place)
    → place ≡ spot_at N p s → found ≡ k → row_kind (node_of N (spot_at N p s)) ≡ k
kind_at N s p place found k is at same = ap (λ (z : Spot). row_kind (node_of N z)) (sym at) ∙ sym is ∙ same

-- each kind has a width
pub kind_wide : (k : Kind) → is_width (width k) ≡ true
kind_wide kinds.Octet = refl
kind_wide kinds.I8 = refl
kind_wide kinds.U8 = refl
kind_wide kinds.Char = refl
kind_wide kinds.Bool = refl
kind_wide kinds.I16 = refl
kind_wide kinds.U16 = refl
kind_wide kinds.I32 = refl
kind_wide kinds.U32 = refl
kind_wide kinds.I64 = refl
kind_wide kinds.U64 = refl

pub width_wide : (w : ℕ) (k : Kind) → w ≡ width k → is_width w ≡ true
width_wide w k is = ap is_width is ∙ kind_wide k

pub row_at : (N : List Node) (s : Spot) (p : List ℕ) (order : Order) (k : Kind) (w : ℕ) (T : List Bool) (S : Residues) (old new : List ℕ)
    → w ≡ width k → row_kind (node_of N (spot_at N p s)) ≡ Some k → Agree (set_of T) (closed (moved w) S)
    → ((i : Items) (rest : List ℕ) → old ++ items_text (row_items p w order i) rest ≡ new ++ items_text i rest)
    → IsOpPut (Some T) N s (row_piece order p) S old new
row_at N s p order k w T S old new wide is same h =
    row_put_there N s p order k T S old new is
    (λ q lt. same q lt ∙ ap (λ n. closed (moved n) S q) wide)
    (λ i rest. ap (λ n. old ++ items_text (row_items p n order i) rest) (sym wide) ∙ h i rest)

-- chunks
pub chunk_put : (N : List Node) (s : Spot) (n : ℕ) (ps : List Put) (told : Bool) (T : List Bool) (S : Residues) (old new : List ℕ)
    → told ≡ true → T ≡ each_of (moved n S) → IsTold told (cells n ps) (λ os. IsPut old (cells_text os) new)
    → IsOpPut (Some T) N s (chunk n ps) S old new
chunk_put N s n ps told T S old new is made put =
    told_chunk N s n ps true S (set_of T) old new (agree_each (moved n S) T made)
    (subst (λ (b : Bool). IsTold b (cells n ps) (λ os. IsPut old (cells_text os) new)) is put)

pub chunk_nothing : (N : List Node) (s : Spot) (n : ℕ) (ps : List Put) (told : Bool) (S : Residues) (old new : List ℕ)
    → told ≡ false → IsTold told (cells n ps) (λ os. IsPut old (cells_text os) new) → IsOpPut None N s (chunk n ps) S old new
chunk_nothing N s n ps told S old new is put =
    nothing_put N s (chunk n ps) S (moved n S) old new new
    (told_chunk N s n ps false S (moved n S) old new (λ r lt. refl)
    (subst (λ (b : Bool). IsTold b (cells n ps) (λ os. IsPut old (cells_text os) new)) is put))

-- ---- aligns

align_by : (a : ℕ) (S : Residues) (b : Bool) (i : Items) → nat_eq (size_first 8 S) 1 ≡ b
    → align_items a S i ≡ (if b then octets (replicate (gap (single_first 8 S) a) (fixed 0)) i else zeros a i)
align_by a S b i e = ap (λ (x : Bool). if x then octets (replicate (gap (single_first 8 S) a) (fixed 0)) i else zeros a i) e

-- from one residue
pub zeros_put : (a : ℕ) (S : Residues) (n r g : ℕ) (old new : List ℕ) → n ≡ size_first 8 S → n ≡ 1 → r ≡ single_first 8 S → g ≡ gap r a
    → IsPut old (cells_text (replicate g (fixed 0))) new → (i : Items) (rest : List ℕ)
    → old ++ items_text (align_items a S i) rest ≡ new ++ items_text i rest
zeros_put a S n r g old new sized one only_one far put i rest =
    ap (λ (x : Items). old ++ items_text x rest) (align_by a S true i (eq-eqb (size_first 8 S) 1 (sym sized ∙ one)))
    ∙ ap (λ k. old ++ items_text (octets (replicate (gap k a) (fixed 0)) i) rest) (sym only_one)
    ∙ ap (λ k. old ++ items_text (octets (replicate k (fixed 0)) i) rest) (sym far)
    ∙ octets_put (replicate g (fixed 0)) old new put i rest

-- from several residues, or none
pub multiple_put : (a : ℕ) (S : Residues) (n : ℕ) (old mid new : List ℕ) → n ≡ size_first 8 S → (n ≡ 1 → ⊥)
    → IsPut old (λ rest. 1 ∷ rest) mid → IsPut mid (λ rest. a ∷ rest) new → (i : Items) (rest : List ℕ)
    → old ++ items_text (align_items a S i) rest ≡ new ++ items_text i rest
multiple_put a S n old mid new sized more first second i rest =
    ap (λ (x : Items). old ++ items_text x rest) (align_by a S false i (ne_eqb (size_first 8 S) 1 (λ e. more (sized ∙ e))))
    ∙ first (a ∷ items_text i rest) ∙ second (items_text i rest)
