-- Code that is not refused has the room that it needs, and leaves the rooms that are told, by induction on the block.
use Rattle.std.proofs.Common.{◌≡◌, ℕ, ◌+◌, ◌*◌, ◌%◌, ℤ, Bool, true, false, if◌then◌else◌, List, [], ◌∷◌, length, Option, None, Some, option_map, refl, sym, ap, ◌∙◌, subst, arith, bytes_eq}
use Rattle.std.specs.List.{AllByRecursion}
use Rattle.std.specs.Ordering.{int_eq}
use Rattle.std.proofs.lemmas.Bool.Decides.{Decides-int_eq}
use Rattle.std.proofs.lemmas.Slice.Eq.{bytes_eq-Decides}
use Rattle.mint.specs.declared.kind.Kind.{Kind}
use Rattle.mint.specs.declared.node.Node.{Node}
use Rattle.mint.specs.Kinds.{width}
use Rattle.mint.specs.Row.{image_of}
use Rattle.mint.specs.Types.{IsTable}
use Rattle.mint.specs.Values.{Val, arm, count, arm_in}
use Rattle.wire_def.specs.declared.head.Head.{Head}
use Rattle.cast_stub.specs.declared.put.Put.{Put}
use Rattle.cast_stub.specs.Parts.{on_some, at, elements_in, length_in}
use Rattle.cast_stub.specs.Puts.{filled}
use Rattle.cast_stub.specs.Block.{Block, stop, ensure, ensure_row, align, chunk, row_copy, row_swap, row_wide, each, switch, if_there, call, patch, Cases, no_default, default, case}
use Rattle.cast_stub.specs.Steps.{Room, Pad, Stored, Patched, Steps, both, over, if_present, is_width, Calls, steps, case_steps, align_steps, chunk_steps, row_room, swapped, copy_steps, swap_steps, wide_steps}
use Rattle.stub_flat.specs.Places.{Spot, node_of, spot_at, element, row_kind, has_length, greatest, arm_spot, has_case, rest_spot}
use Rattle.stub_flat.specs.Places as place
use Rattle.stub_flat.specs.Residues.{Residues, every, sum, moved, aligned, closed}
use Rattle.stub_flat.specs.Leaves.{leaves, ways_leave, width_of}
use Rattle.stub_flat.specs.Flat.{Called, calls, way_calls}
use Rattle.stub_flat.proofs.Found.{calls_first, calls_second}
use Rattle.stub_flat.proofs.PartsTyped.{IsAt, IsOfNode, IsPart, node_typed, part_at, elements_part, present_part, arm_part, rest_part}
use Rattle.stub_cover.specs.Rooms.{Rooms, least, on, reached, raised, set, took, padded}
use Rattle.stub_cover.specs.Covers.{is_plain, looped, Credit, unit_of, run_row, run, run_ways}
use Rattle.cast_stub.proofs.Filled.{length-filled, opened}
use Rattle.stub_cover.proofs.Leading.{Anywhere, Reaches, reaches_some, reaches_weaker, reaches_both, reaches_on_some, reaches_present}
use Rattle.stub_cover.proofs.Going.{Goes, begins, goes_round, goes_moved, goes_aligned}
use Rattle.stub_cover.proofs.Rooms.{some_same, mapped_of, tested_of, Holds, within_less, within_there, least_holds_first, least_holds_second, raised_holds, set_holds, on_holds, took_holds, padded_holds}
use Rattle.stub_cover.proofs.Lengths.{length_elements, few}
use Rattle.stub_cover.proofs.Quiet.{quiet}
use Rattle.stub_cover.proofs.Looping.{Ends, After, loop_leads}
use Rattle.stub_cover.proofs.Rows.{Far, image_long, swapped_long, block_leads, wide_leads}
use Rattle.std.proofs.lemmas.Bool.{or_right, or_left}

-- ---- credits

-- so many octets for each element
abbrev by_unit : Option ℕ → ℕ → ℕ
by_unit None u = 0
by_unit (Some n) u = n * u

-- the octets that a credit has for a value
abbrev pub owed : Credit → Val → ℕ
owed None v = 0
owed (Some (p, u)) v = by_unit (on_some (at p v) length_in) u

owed_at : (p : List ℕ) (c : Credit) (v : Val) (u n : ℕ) → unit_of p c ≡ Some u → on_some (at p v) length_in ≡ Some n → owed c v ≡ n * u
owed_at p None v u n e l = absurd cc
owed_at p (Some (q, w)) v u n e l =
    let t = tested_of (bytes_eq p q) (Some w) u e in
    let same : p ≡ q = (bytes_eq-Decides p q).0 t.0 in
    ap (λ (x : List ℕ). by_unit (on_some (at x v) length_in) w) (sym same) ∙ ap (λ (o : Option ℕ). by_unit o w) l
    ∙ ap (λ (x : ℕ). n * x) (some_same w u t.1)

-- ---- an operation and what follows it

-- a way after a way
goes_then : (g f : Residues → Residues) (p q t : ℕ) → Goes g p q → Goes f q t → Goes (λ A. f (g A)) p t
goes_then g f p q t a b A m = b (g A) (a A m)

step : (x y : Steps) (R S : Rooms) (n : ℕ) (g f : Residues → Residues) (p a : ℕ) → Reaches (Ends R n g p) x p a
    → ((q b : ℕ) → Holds R n q b → Reaches (After S f q) y q b) → Reaches (After S (λ A. f (g A)) p) (both x y) p a
step x y R S n g f p a first rest =
    reaches_both (Ends R n g p) (After S (λ A. f (g A)) p) x y p a first
    (λ q b m. reaches_weaker (After S f q) (After S (λ A. f (g A)) p) y q b (λ t d z. (z.0, goes_then g f p q t m.1 z.1)) (rest q b m.0))

-- nowhere else
stay : (p : ℕ) → Goes (λ A. A) p p
stay p A m = m

row_room_leads : (q : List ℕ) (u e : ℕ) (v : Val) (R : Rooms) (x p a : ℕ) → Holds R x p a
    → Reaches (Ends (set e R) (owed (Some (q, u)) v) (λ A. A) p) (row_room q u e v) p a
row_room_leads q u e v R x p a m = by (on_some (at q v) length_in) where
  by : (o : Option ℕ) → Reaches (Ends (set e R) (by_unit o u) (λ A. A) p) (on_some o (λ n. Some (Room (n * u + e) ∷ []))) p a
  by None = λ ss z. absurd cc
  by (Some n) =
      reaches_some (Ends (set e R) (n * u) (λ A. A) p) (Room (n * u + e) ∷ []) p a (set_holds R e x (n * u) p a m, stay p)

align_leads : (w : ℕ) (R S : Rooms) (x p a : ℕ) → (if is_width w then padded w R else Some R) ≡ Some S → Holds R x p a
    → Reaches (Ends S x (λ A. if is_width w then aligned w A else A) p) (align_steps w) p a
align_leads w R S x p a e m = by (is_width w) refl e where
  by : (t : Bool) → is_width w ≡ t → (if t then padded w R else Some R) ≡ Some S
      → Reaches (Ends S x (λ A. if t then aligned w A else A) p) (if t then Some (Pad w ∷ []) else None) p a
  by true is e =
      let l = padded_holds w R S x p a is e m in
      reaches_some (Ends S x (aligned w) p) (Pad w ∷ []) p a (l.0, (l.1, goes_aligned w p is))
  by false is e = λ ss z. absurd cc

chunk_leads : (n : ℕ) (ps : List Put) (h : Head) (v : Val) (R S : Rooms) (x p a : ℕ) → took n R ≡ Some S → Holds R x p a
    → Reaches (Ends S x (moved n) p) (chunk_steps n ps h v) p a
chunk_leads n ps h v R S x p a e m =
    reaches_on_some (Ends S x (moved n) p) (filled n ps h v) (λ o. Some (Stored o (length ps) ∷ [])) p a (λ o is.
    let t = took_holds n R S x p a e m in
    let l : n ≡ length o = sym (length-filled h v ps n o is) in
    reaches_some (Ends S x (moved n) p) (Stored o (length ps) ∷ []) p a
    (subst (Far (Ends S x (moved n) p) p a) l (t.0, (t.1, goes_moved n p))))

-- ---- arms

arm_is : (y : Val) (x : ℤ × Val) → arm_in y ≡ Some x → y ≡ arm x.0 x.1
arm_is (arm n w) x e = let same : (n, w) ≡ x = cc in ap (λ (z : ℤ × Val). arm z.0 z.1) same
arm_is _ x e = absurd cc

-- ---- blocks

module _ (N : List Node) (table : IsTable N) (c : Calls) (h : Head) (Known : Called → Type 0)
    (calling : (k : ℕ) (t : Spot) (w : Val) → Known (k, t) → IsAt N t w → (p a : ℕ) → Reaches Anywhere (c k w) p a) where
  -- the part at a path is of its place
  spot_of : (q : List ℕ) (s : Spot) (v y : Val) → IsAt N s v → at q v ≡ Some y → IsAt N (spot_at N q s) y
  spot_of q s v y typed e = subst (λ (o : Option Val). IsPart N o (spot_at N q s)) e (part_at N table q s v typed)

  -- and of its node
  part_of : (q : List ℕ) (s : Spot) (v y : Val) → IsAt N s v → at q v ≡ Some y
      → IsOfNode N (node_of N (spot_at N q s)) y
  part_of q s v y typed e = node_typed N table (spot_at N q s) y (spot_of q s v y typed e)

  -- the body of a number, or those behind it
  either : (j : ℤ) (b : Block) (cs : Cases) (n : ℤ) (w : Val) (Y Z : Rooms) (way ways : Residues → Residues) (p a : ℕ) (has t : Bool)
      → int_eq n j ≡ t → has ≡ (if t then true else has_case n cs)
      → (int_eq n j ≡ true → Reaches (After Y way p) (steps c h b w) p a)
      → (has ≡ has_case n cs → Reaches (After Z ways p) (case_steps c h cs n w) p a)
      → Reaches (After (least Y Z) (λ A. sum (way A) (ways A)) p) (if t then steps c h b w else case_steps c h cs n w) p a
  either j b cs n w Y Z way ways p a has true is same first rest =
      reaches_weaker (After Y way p) (After (least Y Z) (λ A. sum (way A) (ways A)) p) (steps c h b w) p a
      (λ q d z. (least_holds_first Y Z 0 q d z.0, λ A g. or_left (way A (q % 8)) (ways A (q % 8)) (z.1 A g))) (first is)
  either j b cs n w Y Z way ways p a has false is same first rest =
      reaches_weaker (After Z ways p) (After (least Y Z) (λ A. sum (way A) (ways A)) p) (case_steps c h cs n w) p a
      (λ q d z. (least_holds_second Y Z 0 q d z.0, λ A g. or_right (way A (q % 8)) (ways A (q % 8)) (z.1 A g))) (rest same)

  mutual
    pub covered : (b : Block) (s : Spot) (cr : Credit) (R S : Rooms) (v : Val) → run N s b cr R ≡ Some S
        → AllByRecursion Known (calls N s b) → IsAt N s v → (p a : ℕ) → Holds R (owed cr v) p a
        → Reaches (After S (leaves N s b) p) (steps c h b v) p a
    covered stop s cr R S v e known typed p a m =
        reaches_some (After S (leaves N s stop) p) [] p a (
          subst (λ (Z : Rooms). Holds Z 0 p a) (some_same R S e)
              (within_less (R (p % 8)) (owed cr v) 0 a a (omega arith) (omega arith) m),
          stay p,
        )
    covered (ensure n r) s cr R S v e known typed p a m =
        step (Some (Room n ∷ [])) (steps c h r v) (raised n R) S 0 (λ A. A) (leaves N s r) p a
        (reaches_some (Ends (raised n R) 0 (λ A. A) p) (Room n ∷ []) p a (raised_holds R n (owed cr v) p a m, stay p))
        (λ q b w. covered r s None (raised n R) S v e known typed q b w)
    covered (ensure_row i u x r) s cr R S v e known typed p a m =
        let t = tested_of (has_length (node_of N (spot_at N i s))) (run N s r (Some (i, u)) (set x R)) S e in
        step (row_room i u x v) (steps c h r v) (set x R) S (owed (Some (i, u)) v) (λ A. A) (leaves N s r) p a
        (row_room_leads i u x v R (owed cr v) p a m)
        (λ q b w. covered r s (Some (i, u)) (set x R) S v t.1 known typed q b w)
    covered (align n r) s cr R S v e known typed p a m =
        let k = opened (if is_width n then padded n R else Some R) (run N s r cr) S e in
        step (align_steps n) (steps c h r v) k.0 S (owed cr v) (λ A. if is_width n then aligned n A else A) (leaves N s r) p a
        (align_leads n R k.0 (owed cr v) p a k.1 m)
        (λ q b w. covered r s cr k.0 S v k.2 known typed q b w)
    covered (chunk n ps r) s cr R S v e known typed p a m =
        let k = opened (took n R) (run N s r cr) S e in
        step (chunk_steps n ps h v) (steps c h r v) k.0 S (owed cr v) (moved n) (leaves N s r) p a
        (chunk_leads n ps h v R k.0 (owed cr v) p a k.1 m)
        (λ q b w. covered r s cr k.0 S v k.2 known typed q b w)
    covered (row_copy i r) s cr R S v e known typed p a m =
        let node : Option Node = node_of N (spot_at N i s) in
        let k = opened (run_row node (option_map width (row_kind node)) (unit_of i cr) R) (run N s r None) S e in
        step (copy_steps i v) (steps c h r v) k.0 S 0 (closed (moved (width_of (row_kind node)))) (leaves N s r) p a
        (block_leads N node (unit_of i cr) i v (owed cr v) p a (λ y is. part_of i s v y typed is) (owed_at i cr v)
        image_of image_long (row_kind node) R k.0 refl k.1 m)
        (λ q b w. covered r s None k.0 S v k.2 known typed q b w)
    covered (row_swap i r) s cr R S v e known typed p a m =
        let node : Option Node = node_of N (spot_at N i s) in
        let k = opened (run_row node (option_map width (row_kind node)) (unit_of i cr) R) (run N s r None) S e in
        step (swap_steps i v) (steps c h r v) k.0 S 0 (closed (moved (width_of (row_kind node)))) (leaves N s r) p a
        (block_leads N node (unit_of i cr) i v (owed cr v) p a (λ y is. part_of i s v y typed is) (owed_at i cr v)
        swapped swapped_long (row_kind node) R k.0 refl k.1 m)
        (λ q b w. covered r s None k.0 S v k.2 known typed q b w)
    covered (row_wide i o r) s cr R S v e known typed p a m =
        let node : Option Node = node_of N (spot_at N i s) in
        let k = opened (run_row node (option_map (λ (j : Kind). 4) (row_kind node)) (unit_of i cr) R) (run N s r None) S e in
        step (wide_steps i o v) (steps c h r v) k.0 S 0 (closed (moved 4)) (leaves N s r) p a
        (wide_leads N node (unit_of i cr) i v (owed cr v) p a (λ y is. part_of i s v y typed is) (owed_at i cr v)
        o (row_kind node) R k.0 k.1 m)
        (λ q b w. covered r s None k.0 S v k.2 known typed q b w)
    covered (each i body r) s cr R S v e known typed p a m =
        let node : Option Node = node_of N (spot_at N i s) in
        let way : Residues → Residues = leaves N (element node) body in
        let first = calls_first Known (calls N (element node) body) (calls N s r) known in
        let second = calls_second Known (calls N (element node) body) (calls N s r) known in
        let k = opened (looped (run N (element node) body None) (closed way (reached R)) (is_plain body) (greatest node) (unit_of i cr) R)
        (run N s r None) S e in
        step (on_some (on_some (at i v) elements_in) (over (steps c h body))) (steps c h r v) k.0 S 0 (closed way) (leaves N s r) p a
        (reaches_on_some (After k.0 (closed way) p) (on_some (at i v) elements_in) (over (steps c h body)) p a (λ vs is.
        let y = opened (at i v) elements_in vs is in
        let long : length_in y.0 ≡ Some (count vs) = length_elements y.0 vs y.2 in
        loop_leads (run N (element node) body None) way (steps c h body) (IsAt N (element node))
        (λ w good Y Z made q b g. covered body (element node) None Y Z w made first good q b g)
        (closed way (reached R)) (is_plain body) (greatest node) (unit_of i cr) R k.0 k.1
        (λ q t go g. goes_round way (reached R) q t go g)
        (λ plain w. quiet c h body w plain) vs (elements_part N node y.0 vs (part_of i s v y.0 typed y.1) y.2)
        (λ n most. few N node y.0 (count vs) n (part_of i s v y.0 typed y.1) long most) (owed cr v) p a
        (λ u unit. owed_at i cr v u (count vs) unit (ap (λ (o : Option Val). on_some o length_in) y.1 ∙ long))
        (begins way (reached R) p (within_there (R (p % 8)) (owed cr v) a m)) m))
        (λ q b w. covered r s None k.0 S v k.2 second typed q b w)
    covered (switch i cs r) s cr R S v e known typed p a m =
        let node : Option Node = node_of N (spot_at N i s) in
        let first = calls_first Known (way_calls N node cs cs) (calls N s r) known in
        let second = calls_second Known (way_calls N node cs cs) (calls N s r) known in
        let k = opened (run_ways N node cs cs R) (run N s r None) S e in
        let bare : Holds R 0 p a = within_less (R (p % 8)) (owed cr v) 0 a a (omega arith) (omega arith) m in
        step (on_some (on_some (at i v) arm_in) (λ x. case_steps c h cs x.0 x.1)) (steps c h r v) k.0 S 0 (ways_leave N node cs cs)
        (leaves N s r) p a
        (reaches_on_some (After k.0 (ways_leave N node cs cs) p) (on_some (at i v) arm_in) (λ x. case_steps c h cs x.0 x.1) p a (λ x is.
        let y = opened (at i v) arm_in x is in
        let of_arm : IsOfNode N node (arm x.0 x.1) =
        subst (IsOfNode N node) (arm_is y.0 x y.2) (part_of i s v y.0 typed y.1) in
        ways_covered cs cs node R k.0 x.0 x.1 k.1 first of_arm refl p a bare))
        (λ q b w. covered r s None k.0 S v k.2 second typed q b w)
    covered (if_there i body r) s cr R S v e known typed p a m =
        let node : Option Node = node_of N (spot_at N i s) in
        let inner : Spot = place.present node in
        let way : Residues → Residues = leaves N inner body in
        let first = calls_first Known (calls N inner body) (calls N s r) known in
        let second = calls_second Known (calls N inner body) (calls N s r) known in
        let k = opened (run N inner body None R) (λ (Z : Rooms). run N s r None (least R Z)) S e in
        let bare : Holds R 0 p a = within_less (R (p % 8)) (owed cr v) 0 a a (omega arith) (omega arith) m in
        step (on_some (at i v) (if_present (steps c h body))) (steps c h r v) (least R k.0) S 0 (λ A. sum A (way A)) (leaves N s r) p a
        (reaches_on_some (After (least R k.0) (λ A. sum A (way A)) p) (at i v) (if_present (steps c h body)) p a (λ y is.
        reaches_present (After (least R k.0) (λ A. sum A (way A)) p) (steps c h body) y p a
        (least_holds_first R k.0 0 p a bare, λ A g. or_left (A (p % 8)) (way A (p % 8)) g)
        (λ w there. reaches_weaker (After k.0 way p) (After (least R k.0) (λ A. sum A (way A)) p) (steps c h body w) p a
        (λ q b z. (least_holds_second R k.0 0 q b z.0, λ A g. or_right (A (q % 8)) (way A (q % 8)) (z.1 A g)))
        (covered body inner None R k.0 w k.1 first
        (present_part N node w (subst (IsOfNode N node) there (part_of i s v y typed is))) p a bare))))
        (λ q b w. covered r s None (least R k.0) S v k.2 second typed q b w)
    covered (call k i r) s cr R S v e known typed p a m =
        step (on_some (at i v) (c k)) (steps c h r v) (on every 0) S 0 (λ A. every) (leaves N s r) p a
        (reaches_on_some (After (on every 0) (λ A. every) p) (at i v) (c k) p a (λ y is.
        reaches_weaker Anywhere (After (on every 0) (λ A. every) p) (c k y) p a
        (λ q b z. (on_holds every q b refl, λ A g. refl))
        (calling k (spot_at N i s) y known.0 (spot_of i s v y typed is) p a)))
        (λ q b w. covered r s None (on every 0) S v e known.1 typed q b w)
    covered (patch x y o r) s cr R S v e known typed p a m =
        step (Some (Patched x y o ∷ [])) (steps c h r v) R S (owed cr v) (λ A. A) (leaves N s r) p a
        (reaches_some (Ends R (owed cr v) (λ A. A) p) (Patched x y o ∷ []) p a (m, stay p))
        (λ q b w. covered r s cr R S v e known typed q b w)

    ways_covered : (cs all : Cases) (choice : Option Node) (R S : Rooms) (n : ℤ) (w : Val) → run_ways N choice all cs R ≡ Some S
        → AllByRecursion Known (way_calls N choice all cs) → IsOfNode N choice (arm n w) → has_case n all ≡ has_case n cs
        → (p a : ℕ) → Holds R 0 p a → Reaches (After S (ways_leave N choice all cs) p) (case_steps c h cs n w) p a
    ways_covered no_default all choice R S n w e known typed same p a m = λ ss z. absurd cc
    ways_covered (default b) all choice R S n w e known typed same p a m =
        covered b (rest_spot choice all) None R S w e known (rest_part N choice n w all typed same) p a m
    ways_covered (case j b cs) all choice R S n w e known typed same p a m =
        let inner : Spot = arm_spot choice j in
        let way : Residues → Residues = leaves N inner b in
        let ways : Residues → Residues = ways_leave N choice all cs in
        let first = calls_first Known (calls N inner b) (way_calls N choice all cs) known in
        let second = calls_second Known (calls N inner b) (way_calls N choice all cs) known in
        let k = opened (run N inner b None R) (λ (Z : Rooms). option_map (least Z) (run_ways N choice all cs R)) S e in
        let l = mapped_of (run_ways N choice all cs R) (least k.0) S k.2 in
        subst (λ (Z : Rooms). Reaches (After Z (λ A. sum (way A) (ways A)) p) (case_steps c h (case j b cs) n w) p a) l.2
        (either j b cs n w k.0 l.0 way ways p a (has_case n all) (int_eq n j) refl same
        (λ is. covered b inner None R k.0 w k.1 first
        (subst (λ (i : ℤ). IsAt N (arm_spot choice i) w) ((Decides-int_eq n j).0 is) (arm_part N choice n w typed))
        p a m)
        (λ less. ways_covered cs all choice R l.0 n w l.1 second typed less p a m))
