-- A block appends what its items append, from each position whose residue they were made for, by induction on the block.
use Rattle.std.proofs.Common.{◌≡◌, ℕ, zero, suc, ◌+◌, ◌-◌, ◌*◌, ◌%◌, ℤ, List, [], ◌∷◌, ◌++◌, length, replicate, Option, None, Some, option_map, Bool, true, false, if◌then◌else◌, nat_eq, is_some, IsTrue, refl, sym, ap, subst, ◌∙◌, arith}
use Rattle.std.specs.List.{AllByRecursion, list_all}
use Rattle.std.specs.Ordering.{int_eq}
use Rattle.std.proofs.lemmas.Bool.{eqb-true, or_right, or_left}
use Rattle.mint.specs.declared.kind.Kind.{Kind}
use Rattle.mint.specs.declared.node.Node.{Node}
use Rattle.mint.specs.Kinds.{in_range}
use Rattle.mint.specs.Row.{image_of}
use Rattle.mint.specs.Typed.{Each}
use Rattle.mint.specs.Types.{IsTable}
use Rattle.mint.specs.Values.{Val, void, num as num_val, row, group, items as items_val, arm, absent, present, Vals, no_more, val, arm_in, row_in}
use Rattle.wire_def.specs.declared.head.Head.{Head}
use Rattle.wire_def.specs.declared.head.Order.{Order}
use Rattle.wire_def.specs.declared.head.Order.TheVariants.{Big, Little}
use Rattle.wire_def.specs.Scalars.{gap}
use Rattle.cast_stub.specs.Block.{Block, stop, ensure, ensure_row, align, chunk, row_copy, row_swap, row_wide, each, switch, if_there, call, patch, Cases, no_default, default, case}
use Rattle.cast_stub.specs.Parts.{on_some, at, elements_in, length_in}
use Rattle.cast_stub.specs.Steps.{Room, Pad, Widened, Copied, Patched, Steps, both, is_width, chunk_steps, align_steps, swapped, wide, copy_steps, swap_steps, wide_steps, Calls, over, if_present as steps_if_present, steps, case_steps}
use Rattle.cast_stub.specs.Meaning as meaning
use Rattle.cast_stub.specs.Meaning.{wrote}
use Rattle.stub_flat.specs.Places.{Spot, node_of, spot_at, element, present as present_spot, row_kind, has_length, arm_spot, has_case, rest_spot}
use Rattle.stub_flat.specs.Residues.{Residues, every, sum, moved, aligned, closed, size_first, single_first}
use Rattle.stub_flat.specs.Leaves.{width_of, leaves, ways_leave}
use Rattle.stub_flat.specs.Items.{num, Cell, fixed, Items, done, zeros, loop, ways, if_present, called, patched, Ways, no_way, other, way, octets, ordered, cells, align_items, row_items, is_row, items, way_items}
use Rattle.stub_flat.specs.Flat.{Called, calls, way_calls}
use Rattle.stub_flat.proofs.Chunks.{values, chunk_told, values_long, tell_octets}
use Rattle.stub_flat.proofs.Counted.{block_lacks}
use Rattle.stub_flat.proofs.Ends.{Ends, provided_of, fitting, fit_two, At, Goes, goes_none, goes_one, goes_in, then_goes, run_both, op_goes}
use Rattle.stub_flat.proofs.Found.{calls_first, calls_second}
use Rattle.stub_flat.proofs.PartsTyped.{IsAt, IsOfNode, IsPart, node_typed, part_at, length_part, elements_part, present_part, arm_part, rest_part, same_number}
use Rattle.stub_flat.proofs.Rows.{words_over, image_words, swapped_words, wide_words, row_goes, row_there}
use Rattle.stub_flat.proofs.Sets.{single_at, closed_has, closed_within, at_within, at_moved, at_padded, gap_turns}
use Rattle.stub_flat.proofs.Told.{Answers, over_all, for_present, tell, tell_way, told, lacks, misfits}
use Rattle.cast_stub.proofs.Widths.{Wide, four, wide_is, width_wide}
use Rattle.cast_stub.proofs.Filled.{some_of, mapped_of}
use Rattle.cast_stub.proofs.Patched.{patched_length}

-- ---- ends

-- from the same octets
fit_at : (n : ℕ) (o : List ℕ) (f g : List ℕ → Ends) → f o ≡ g o → on_some (fitting n o) f ≡ on_some (fitting n o) g
fit_at zero o f g e = e
fit_at (suc n) o f g e = refl

goes_to : (x y z : Ends) (T : Residues) → y ≡ z → Goes x y T → Goes x z T
goes_to x y z T e g = record { same = g.same ∙ e; ends = g.ends }

goes_from : (x y z : Ends) (T : Residues) → x ≡ y → Goes y z T → Goes x z T
goes_from x y z T e g = record { same = e ∙ g.same; ends = λ o f. g.ends o (sym e ∙ f) }

goes_fit : (n : ℕ) (p : List ℕ) (T : Residues) → At T p → Goes (fitting n p) (fitting n p) T
goes_fit zero p T h = goes_one T p h
goes_fit (suc n) p T h = goes_none T

some_there : {A : Type 0} (x : Option A) → is_some x ≡ true → (a : A) × (x ≡ Some a)
some_there None e = absurd cc
some_there (Some a) e = (a, refl)

-- ---- a place of the message

one_after : (x : Ends) → on_some x (λ a. wrote 0 a []) ≡ x
one_after None = refl
one_after (Some a) = refl

patch_goes : (a z : ℕ) (s : Order) (S : Residues) (o : List ℕ) → At S o
    → Goes (on_some (Some (Patched a z s ∷ [])) (wrote 0 o)) (meaning.patched 0 a z s o) S
patch_goes a z s S o h = record {
  same = one_after (meaning.patched 0 a z s o);
  ends = λ p e.
      let long = patched_length 0 a z s o p (sym (one_after (meaning.patched 0 a z s o)) ∙ e) in
      subst (λ (n : ℕ). S (n % 8) ≡ true) (sym long) h;
}

-- ---- aligns

pad_goes : (a : ℕ) (S : Residues) (o : List ℕ) (b : Bool) → is_width a ≡ b → b ≡ true → At S o
    → Goes (on_some (if b then Some (Pad a ∷ []) else None) (wrote 0 o)) (Some (o ++ replicate (gap (0 + length o) a) 0))
    (if b then aligned a S else S)
pad_goes a S o true e t h =
    goes_one (aligned a S) (o ++ replicate (gap (0 + length o) a) 0) (at_padded a S o (wide_is a e) h)
pad_goes a S o false e t h = absurd cc

module _ (h : Head) (v : Val) (d : Answers) where
  zero_values : (n : ℕ) → values h v (replicate n (fixed 0)) ≡ replicate n 0
  zero_values zero = refl
  zero_values (suc n) = ap (λ (l : List ℕ). 0 ∷ l) (zero_values n)

  -- zeros that are known
  align_tell : (a : ℕ) (S : Residues) (r : Items) (o : List ℕ) → Wide a → At S o
      → tell d h (zeros a r) v o ≡ tell d h (align_items a S r) v o
  align_tell a S r o is at = by (nat_eq (size_first 8 S) 1) refl where
    by : (b : Bool) → nat_eq (size_first 8 S) 1 ≡ b
        → tell d h (zeros a r) v o ≡ tell d h (if b then octets (replicate (gap (single_first 8 S) a) (fixed 0)) r else zeros a r) v o
    by true e =
        let k = gap (single_first 8 S) a in
        let only : single_first 8 S ≡ length o % 8 = single_at 8 S (length o % 8) (eqb-true (size_first 8 S) 1 e) (omega arith) at in
        let none : length o ≡ 0 + length o = omega arith in
        let same : k ≡ gap (0 + length o) a =
        ap (λ (i : ℕ). gap i a) only ∙ gap_turns a is (length o) ∙ ap (λ (i : ℕ). gap i a) none in
        ap (λ (i : ℕ). tell d h r v (o ++ replicate i 0)) (sym same)
        ∙ ap (λ (l : List ℕ). tell d h r v (o ++ l)) (sym (zero_values k))
        ∙ sym (tell_octets h v d (replicate k (fixed 0)) r o)
    by false e = refl

-- ---- blocks

module _ (N : List Node) (table : IsTable N) (h : Head) (c : Calls) (d : Answers) where
  -- a call at a place is answered
  abbrev pub IsAnswered : Called → Type 0
  IsAnswered k = (w : Val) → IsAt N k.1 w → (o : List ℕ) → on_some (c k.0 w) (wrote 0 o) ≡ d k.0 w o

  -- octets, and after them those of a block
  abbrev pub run : Block → Val → List ℕ → Ends
  run b v o = on_some (steps c h b v) (wrote 0 o)

  -- octets, and after them those of items, if as many numbers lack octets
  abbrev pub says : ℕ → Items → Val → List ℕ → Ends
  says n i v o = on_some (fitting n o) (tell d h i v)

  pub to_told : (b : Block) (s : Spot) (S T : Residues) (i : Items) (v : Val) (o : List ℕ) → items N s b S ≡ Some i
      → Goes (run b v o) (says (misfits h v b) i v o) T → Goes (run b v o) (told d h i v o) T
  to_told b s S T i v o e g =
      goes_to (run b v o) (says (misfits h v b) i v o) (told d h i v o) T
      (ap (λ (n : ℕ). says n i v o) (sym (block_lacks h v N s b S i e))) g

  -- ---- an operation with bodies

  over_goes : (F : Val → Steps) (g : Val → List ℕ → Ends) (C : Residues) (P : Val → Type 0)
      → ((w : Val) (x : List ℕ) → P w → At C x → Goes (on_some (F w) (wrote 0 x)) (g w x) C)
      → (vs : Vals) → Each P vs → (x : List ℕ) → At C x → Goes (on_some (over F vs) (wrote 0 x)) (over_all g vs x) C
  over_goes F g C P turn no_more t x at = goes_one C x at
  over_goes F g C P turn (val w vs) t x at =
      goes_from (on_some (both (F w) (over F vs)) (wrote 0 x)) (on_some (on_some (F w) (wrote 0 x)) (λ p. on_some (over F vs) (wrote 0 p)))
      (on_some (g w x) (over_all g vs)) C (run_both (F w) (over F vs) x)
      (then_goes (on_some (F w) (wrote 0 x)) (g w x) C C (λ p. on_some (over F vs) (wrote 0 p)) (over_all g vs) (turn w x t.0 at)
      (λ p here. over_goes F g C P turn vs t.1 p here))

  each_goes : (F : Val → Steps) (g : Val → List ℕ → Ends) (C : Residues) (sp : Spot)
      → ((w : Val) (x : List ℕ) → IsAt N (element (node_of N sp)) w → At C x → Goes (on_some (F w) (wrote 0 x)) (g w x) C)
      → (a : Option Val) → IsPart N a sp → (x : List ℕ) → At C x
      → Goes (on_some (on_some (on_some a elements_in) (over F)) (wrote 0 x)) (on_some (on_some a elements_in) (λ vs. over_all g vs x)) C
  each_goes F g C sp turn None t x at = goes_none C
  each_goes F g C sp turn (Some w) t x at = by (elements_in w) refl where
    by : (y : Option Vals) → elements_in w ≡ y
        → Goes (on_some (on_some y (over F)) (wrote 0 x)) (on_some y (λ vs. over_all g vs x)) C
    by None e = goes_none C
    by (Some vs) e =
        over_goes F g C (IsAt N (element (node_of N sp))) turn vs
        (elements_part N (node_of N sp) w vs (node_typed N table sp w t) e) x at

  some_goes : (F : Val → Steps) (g : Val → List ℕ → Ends) (S T : Residues) (sp : Spot) (o : List ℕ) → At (sum S T) o
      → ((w : Val) → IsAt N (present_spot (node_of N sp)) w → Goes (on_some (F w) (wrote 0 o)) (g w o) (sum S T))
      → (a : Option Val) → IsPart N a sp
      → Goes (on_some (on_some a (steps_if_present F)) (wrote 0 o)) (on_some a (λ w. for_present g w o)) (sum S T)
  some_goes F g S T sp o at f None t = goes_none (sum S T)
  some_goes F g S T sp o at f (Some absent) t = goes_one (sum S T) o at
  some_goes F g S T sp o at f (Some (present w)) t = f w (present_part N (node_of N sp) w (node_typed N table sp (present w) t))
  some_goes F g S T sp o at f (Some void) t = goes_none (sum S T)
  some_goes F g S T sp o at f (Some (num_val n)) t = goes_none (sum S T)
  some_goes F g S T sp o at f (Some (row k ns)) t = goes_none (sum S T)
  some_goes F g S T sp o at f (Some (group vs)) t = goes_none (sum S T)
  some_goes F g S T sp o at f (Some (items_val vs)) t = goes_none (sum S T)
  some_goes F g S T sp o at f (Some (arm n w)) t = goes_none (sum S T)

  switch_goes : (F : ℤ → Val → Steps) (g : ℤ → Val → List ℕ → Ends) (T : Residues) (sp : Spot) (o : List ℕ)
      → ((n : ℤ) (w : Val) → IsOfNode N (node_of N sp) (arm n w) → Goes (on_some (F n w) (wrote 0 o)) (g n w o) T)
      → (a : Option Val) → IsPart N a sp
      → Goes (on_some (on_some (on_some a arm_in) (λ x. F x.0 x.1)) (wrote 0 o)) (on_some (on_some a arm_in) (λ x. g x.0 x.1 o)) T
  switch_goes F g T sp o f None t = goes_none T
  switch_goes F g T sp o f (Some (arm n w)) t = f n w (node_typed N table sp (arm n w) t)
  switch_goes F g T sp o f (Some absent) t = goes_none T
  switch_goes F g T sp o f (Some (present w)) t = goes_none T
  switch_goes F g T sp o f (Some void) t = goes_none T
  switch_goes F g T sp o f (Some (num_val n)) t = goes_none T
  switch_goes F g T sp o f (Some (row k ns)) t = goes_none T
  switch_goes F g T sp o f (Some (group vs)) t = goes_none T
  switch_goes F g T sp o f (Some (items_val vs)) t = goes_none T

  call_goes : (k : ℕ) (sp : Spot) (o : List ℕ) → IsAnswered (k, sp) → (a : Option Val) → IsPart N a sp
      → Goes (on_some (on_some a (c k)) (wrote 0 o)) (on_some a (λ w. d k w o)) every
  call_goes k sp o f None t = goes_none every
  call_goes k sp o f (Some w) t = record { same = f w t o; ends = λ p e. refl }

  -- ---- an operation without

  room_goes : (u x : ℕ) (sp : Spot) (a : Option Val) → IsPart N a sp → has_length (node_of N sp) ≡ true → (y : Steps) (o : List ℕ)
      → on_some (both (on_some (on_some a length_in) (λ n. Some (Room (n * u + x) ∷ []))) y) (wrote 0 o) ≡ on_some y (wrote 0 o)
  room_goes u x sp None t e y o =
      let none : has_length (node_of N None) ≡ true = subst (λ (q : Spot). has_length (node_of N q) ≡ true) t e in absurd cc
  room_goes u x sp (Some w) t e y o =
      let r = length_part N (node_of N sp) w e (node_typed N table sp w t) in
      ap (λ (z : Option ℕ). on_some (both (on_some z (λ n. Some (Room (n * u + x) ∷ []))) y) (wrote 0 o)) r.is
      ∙ run_both (Some (Room (r.long * u + x) ∷ [])) y o

  -- a row operation, and what stands behind it
  row_op : (q : List ℕ) (s : Spot) (v : Val) → IsAt N s v → (K : Option Kind) → row_kind (node_of N (spot_at N q s)) ≡ K → is_some K ≡ true
      → (w : ℕ) → ((k : Kind) → K ≡ Some k → Wide w) → (z : Order) (g : Kind × List ℤ → Steps)
      → ((k : Kind) → K ≡ Some k → (ns : List ℤ) → IsTrue (list_all (in_range k) ns) → (x : List ℕ)
      → on_some (g (k, ns)) (wrote 0 x) ≡ words_over w z ns x)
      → (S : Residues) (o : List ℕ) → At S o
      → Goes (on_some (on_some (on_some (at q v) row_in) g) (wrote 0 o))
      (on_some (on_some (at q v) elements_in) (λ vs. over_all (told d h (octets (ordered (num []) w z) done)) vs o)) (closed (moved w) S)
  row_op q s v t K e there w wides z g words S o here =
      let k = some_there K there in
      let r = row_there N table (at q v) (spot_at N q s) k.0 (part_at N table q s v t) (e ∙ k.1) in
      row_goes d h w (wides k.0 k.1) z (closed (moved w) S) (closed_within (moved w) S) k.0 g (words k.0 k.1) o
      (at_within S (closed (moved w) S) (closed_has (moved w) S) o here) (at q v) r.0 r.1.0 r.1.1

  widened : (y : Ends) (k : ℕ) (x : List ℕ)
      → on_some (on_some y (λ os. Some (Widened os k ∷ []))) (wrote 0 x) ≡ on_some y (λ os. Some (x ++ os))
  widened None k x = refl
  widened (Some a) k x = refl

  -- the body of a number, or of a later one
  way_goes : (q : Bool) (n k : ℤ) (m : Option Node) (u : Val) → IsOfNode N m (arm n u) → (b : Block) (i : Items) (y : Steps)
      (g : List ℕ → Ends) (U V : Residues) (o : List ℕ) (all rest : Bool) → int_eq n k ≡ q → all ≡ (if q then true else rest)
      → (IsAt N (arm_spot m k) u → Goes (run b u o) (told d h i u o) U) → (all ≡ rest → Goes (on_some y (wrote 0 o)) (g o) V)
      → Goes (on_some (if q then steps c h b u else y) (wrote 0 o)) (if q then told d h i u o else g o) (sum U V)
  way_goes true n k m u t b i y g U V o all rest e has f more =
      goes_in (run b u o) (told d h i u o) U (sum U V) (λ x at. or_left (U (length x % 8)) (V (length x % 8)) at)
      (f (subst (λ (z : ℤ). IsAt N (arm_spot m z) u) (same_number n k e) (arm_part N m n u t)))
  way_goes false n k m u t b i y g U V o all rest e has f more =
      goes_in (on_some y (wrote 0 o)) (g o) V (sum U V) (λ x at. or_right (U (length x % 8)) (V (length x % 8)) at) (more has)

  -- ---- by induction

  mutual
    pub block_goes : (b : Block) (s : Spot) (S : Residues) (i : Items) (v : Val) (o : List ℕ) → items N s b S ≡ Some i → IsAt N s v
        → AllByRecursion IsAnswered (calls N s b) → At S o
        → Goes (run b v o) (says (misfits h v b) i v o) (leaves N s b S)
    block_goes stop s S i v o e t a here =
        let same : done ≡ i = cc in subst (λ (x : Items). Goes (Some o) (tell d h x v o) S) same (goes_one S o here)
    block_goes (ensure n r) s S i v o e t a here =
        goes_from (run (ensure n r) v o) (run r v o) (says (misfits h v r) i v o) (leaves N s r S)
        (run_both (Some (Room n ∷ [])) (steps c h r v) o) (block_goes r s S i v o e t a here)
    block_goes (ensure_row p u x r) s S i v o e t a here =
        let f = provided_of (has_length (node_of N (spot_at N p s))) (items N s r S) i e in
        goes_from (run (ensure_row p u x r) v o) (run r v o) (says (misfits h v r) i v o) (leaves N s r S)
        (room_goes u x (spot_at N p s) (at p v) (part_at N table p s v t) f.0 (steps c h r v) o) (block_goes r s S i v o f.1 t a here)
    block_goes (align k r) s S i v o e t a here =
        let T = leaves N s (align k stop) S in
        let f = provided_of (is_width k) (option_map (align_items k S) (items N s r T)) i e in
        let m = mapped_of (items N s r T) (align_items k S) i f.1 in
        let n = misfits h v r in
        let far = leaves N s r T in
        let first = pad_goes k S o (is_width k) refl f.0 here in
        let all : Goes (run (align k r) v o) (says n (zeros k m.0) v o) far =
        op_goes (align_steps k) (steps c h r v) (λ x. Some (x ++ replicate (gap (0 + length x) k) 0)) o n T far (tell d h m.0 v) first
        (λ p at. block_goes r s T m.0 v p m.1.0 t a at) in
        subst (λ (x : Items). Goes (run (align k r) v o) (says n x v o) far) m.1.1
        (goes_to (run (align k r) v o) (says n (zeros k m.0) v o) (says n (align_items k S m.0) v o) far
        (fit_at n o (tell d h (zeros k m.0) v) (tell d h (align_items k S m.0) v) (align_tell h v d k S m.0 o (wide_is k f.0) here)) all)
    block_goes (chunk k ps r) s S i v o e t a here =
        let T = moved k S in
        let cs = some_of (cells k ps) (λ (os : List Cell). option_map (octets os) (items N s r T)) i e in
        let m = mapped_of (items N s r T) (octets cs.0) i cs.1.1 in
        let n = misfits h v r in
        let l = lacks h v ps in
        let far = leaves N s r T in
        let vs = values h v cs.0 in
        let put = on_some (chunk_steps k ps h v) (wrote 0 o) in
        let first : Goes put (fitting l (o ++ vs)) T =
        goes_from put (fitting l (o ++ vs)) (fitting l (o ++ vs)) T (chunk_told h v k ps cs.0 cs.1.0 o)
        (goes_fit l (o ++ vs) T (at_moved k S o vs (values_long h v k ps cs.0 cs.1.0) here)) in
        let rest : Goes (on_some put (run r v)) (on_some (fitting l (o ++ vs)) (says n m.0 v)) far =
        then_goes put (fitting l (o ++ vs)) T far (run r v) (says n m.0 v) first (λ p at. block_goes r s T m.0 v p m.1.0 t a at) in
        subst (λ (x : Items). Goes (run (chunk k ps r) v o) (says (l + n) x v o) far) m.1.1
        (goes_from (run (chunk k ps r) v o) (on_some put (run r v)) (says (l + n) (octets cs.0 m.0) v o) far
        (run_both (chunk_steps k ps h v) (steps c h r v) o)
        (goes_to (on_some put (run r v)) (on_some (fitting l (o ++ vs)) (says n m.0 v)) (says (l + n) (octets cs.0 m.0) v o) far
        (fit_two l n o (o ++ vs) (tell d h m.0 v) (tell d h (octets cs.0 m.0) v) (tell_octets h v d cs.0 m.0 o)) rest))
    block_goes (row_copy p r) s S i v o e t a here =
        let K = row_kind (node_of N (spot_at N p s)) in
        let w = width_of K in
        let T = closed (moved w) S in
        let f = provided_of (is_row N (spot_at N p s)) (option_map (row_items p w Little) (items N s r T)) i e in
        let m = mapped_of (items N s r T) (row_items p w Little) i f.1 in
        let first = row_op p s v t K refl f.0 w (λ k g. subst Wide (sym (ap width_of g)) (width_wide k)) Little
        (λ x. Some (Copied (image_of x.0 x.1) ∷ []))
        (λ k g ns u x. image_words k ns u x ∙ ap (λ (j : ℕ). words_over j Little ns x) (sym (ap width_of g))) S o here in
        subst (λ (x : Items). Goes (run (row_copy p r) v o) (says (misfits h v r) x v o) (leaves N s r T)) m.1.1
        (op_goes (copy_steps p v) (steps c h r v)
        (λ x. on_some (on_some (at p v) elements_in) (λ vs. over_all (told d h (octets (ordered (num []) w Little) done)) vs x)) o
        (misfits h v r) T (leaves N s r T) (tell d h m.0 v) first
        (λ q at. block_goes r s T m.0 v q m.1.0 t a at))
    block_goes (row_swap p r) s S i v o e t a here =
        let K = row_kind (node_of N (spot_at N p s)) in
        let w = width_of K in
        let T = closed (moved w) S in
        let f = provided_of (is_row N (spot_at N p s)) (option_map (row_items p w Big) (items N s r T)) i e in
        let m = mapped_of (items N s r T) (row_items p w Big) i f.1 in
        let first = row_op p s v t K refl f.0 w (λ k g. subst Wide (sym (ap width_of g)) (width_wide k)) Big
        (λ x. Some (Copied (swapped x.0 x.1) ∷ []))
        (λ k g ns u x. swapped_words k ns u x ∙ ap (λ (j : ℕ). words_over j Big ns x) (sym (ap width_of g))) S o here in
        subst (λ (x : Items). Goes (run (row_swap p r) v o) (says (misfits h v r) x v o) (leaves N s r T)) m.1.1
        (op_goes (swap_steps p v) (steps c h r v)
        (λ x. on_some (on_some (at p v) elements_in) (λ vs. over_all (told d h (octets (ordered (num []) w Big) done)) vs x)) o
        (misfits h v r) T (leaves N s r T) (tell d h m.0 v) first
        (λ q at. block_goes r s T m.0 v q m.1.0 t a at))
    block_goes (row_wide p z r) s S i v o e t a here =
        let K = row_kind (node_of N (spot_at N p s)) in
        let T = closed (moved 4) S in
        let f = provided_of (is_row N (spot_at N p s)) (option_map (row_items p 4 z) (items N s r T)) i e in
        let m = mapped_of (items N s r T) (row_items p 4 z) i f.1 in
        let first = row_op p s v t K refl f.0 4 (λ k g. four) z (λ x. on_some (wide z x.1) (λ os. Some (Widened os (length x.1) ∷ [])))
        (λ k g ns u x. widened (wide z ns) (length ns) x ∙ wide_words z ns x) S o here in
        subst (λ (x : Items). Goes (run (row_wide p z r) v o) (says (misfits h v r) x v o) (leaves N s r T)) m.1.1
        (op_goes (wide_steps p z v) (steps c h r v)
        (λ x. on_some (on_some (at p v) elements_in) (λ vs. over_all (told d h (octets (ordered (num []) 4 z) done)) vs x)) o
        (misfits h v r) T (leaves N s r T) (tell d h m.0 v) first
        (λ q at. block_goes r s T m.0 v q m.1.0 t a at))
    block_goes (each p b r) s S i v o e t a here =
        let sp = spot_at N p s in
        let inner = element (node_of N sp) in
        let way = leaves N inner b in
        let T = closed way S in
        let x = some_of (items N inner b T) (λ (y : Items). option_map (loop p y) (items N s r T)) i e in
        let m = mapped_of (items N s r T) (loop p x.0) i x.1.1 in
        let inside = calls_first IsAnswered (calls N inner b) (calls N s r) a in
        let behind = calls_second IsAnswered (calls N inner b) (calls N s r) a in
        let turn = λ (w : Val) (y : List ℕ) (u : IsAt N inner w) (at : At T y).
        goes_in (run b w y) (told d h x.0 w y) (way T) T (at_within (way T) T (closed_within way S))
        (to_told b inner T (way T) x.0 w y x.1.0 (block_goes b inner T x.0 w y x.1.0 u inside at)) in
        let first = each_goes (steps c h b) (told d h x.0) T sp turn (at p v) (part_at N table p s v t) o
        (at_within S T (closed_has way S) o here) in
        subst (λ (y : Items). Goes (run (each p b r) v o) (says (misfits h v r) y v o) (leaves N s r T)) m.1.1
        (op_goes (on_some (on_some (at p v) elements_in) (over (steps c h b))) (steps c h r v)
        (λ y. on_some (on_some (at p v) elements_in) (λ vs. over_all (told d h x.0) vs y)) o
        (misfits h v r) T (leaves N s r T) (tell d h m.0 v) first
        (λ q at. block_goes r s T m.0 v q m.1.0 t behind at))
    block_goes (switch p cs r) s S i v o e t a here =
        let sp = spot_at N p s in
        let T = ways_leave N (node_of N sp) cs cs S in
        let x = some_of (way_items N (node_of N sp) cs cs S) (λ (y : Ways). option_map (ways p y) (items N s r T)) i e in
        let m = mapped_of (items N s r T) (ways p x.0) i x.1.1 in
        let inside = calls_first IsAnswered (way_calls N (node_of N sp) cs cs) (calls N s r) a in
        let behind = calls_second IsAnswered (way_calls N (node_of N sp) cs cs) (calls N s r) a in
        let first = switch_goes (case_steps c h cs) (tell_way d h x.0) T sp o
        (λ n w u. case_goes cs cs (node_of N sp) S x.0 n w o x.1.0 u refl inside here) (at p v) (part_at N table p s v t) in
        subst (λ (y : Items). Goes (run (switch p cs r) v o) (says (misfits h v r) y v o) (leaves N s r T)) m.1.1
        (op_goes (on_some (on_some (at p v) arm_in) (λ y. case_steps c h cs y.0 y.1)) (steps c h r v)
        (λ y. on_some (on_some (at p v) arm_in) (λ z. tell_way d h x.0 z.0 z.1 y)) o
        (misfits h v r) T (leaves N s r T) (tell d h m.0 v) first
        (λ q at. block_goes r s T m.0 v q m.1.0 t behind at))
    block_goes (if_there p b r) s S i v o e t a here =
        let sp = spot_at N p s in
        let inner = present_spot (node_of N sp) in
        let U = leaves N inner b S in
        let T = sum S U in
        let x = some_of (items N inner b S) (λ (y : Items). option_map (if_present p y) (items N s r T)) i e in
        let m = mapped_of (items N s r T) (if_present p x.0) i x.1.1 in
        let inside = calls_first IsAnswered (calls N inner b) (calls N s r) a in
        let behind = calls_second IsAnswered (calls N inner b) (calls N s r) a in
        let first = some_goes (steps c h b) (told d h x.0) S U sp o (or_left (S (length o % 8)) (U (length o % 8)) here)
        (λ w u. goes_in (run b w o) (told d h x.0 w o) U T (λ y at. or_right (S (length y % 8)) (U (length y % 8)) at)
        (to_told b inner S U x.0 w o x.1.0 (block_goes b inner S x.0 w o x.1.0 u inside here))) (at p v) (part_at N table p s v t) in
        subst (λ (y : Items). Goes (run (if_there p b r) v o) (says (misfits h v r) y v o) (leaves N s r T)) m.1.1
        (op_goes (on_some (at p v) (steps_if_present (steps c h b))) (steps c h r v)
        (λ y. on_some (at p v) (λ w. for_present (told d h x.0) w y)) o
        (misfits h v r) T (leaves N s r T) (tell d h m.0 v) first
        (λ q at. block_goes r s T m.0 v q m.1.0 t behind at))
    block_goes (call k p r) s S i v o e t a here =
        let m = mapped_of (items N s r every) (called k p) i e in
        subst (λ (y : Items). Goes (run (call k p r) v o) (says (misfits h v r) y v o) (leaves N s r every)) m.1.1
        (op_goes (on_some (at p v) (c k)) (steps c h r v) (λ y. on_some (at p v) (λ w. d k w y)) o
        (misfits h v r) every (leaves N s r every) (tell d h m.0 v)
        (call_goes k (spot_at N p s) o a.0 (at p v) (part_at N table p s v t))
        (λ q at. block_goes r s every m.0 v q m.1.0 t a.1 at))
    block_goes (patch x z w r) s S i v o e t a here =
        let m = mapped_of (items N s r S) (patched x z w) i e in
        subst (λ (y : Items). Goes (run (patch x z w r) v o) (says (misfits h v r) y v o) (leaves N s r S)) m.1.1
        (op_goes (Some (Patched x z w ∷ [])) (steps c h r v) (meaning.patched 0 x z w) o
        (misfits h v r) S (leaves N s r S) (tell d h m.0 v) (patch_goes x z w S o here)
        (λ q at. block_goes r s S m.0 v q m.1.0 t a at))

    -- the body of a number
    case_goes : (cs all : Cases) (m : Option Node) (S : Residues) (ws : Ways) (n : ℤ) (u : Val) (o : List ℕ)
        → way_items N m all cs S ≡ Some ws → IsOfNode N m (arm n u) → has_case n all ≡ has_case n cs
        → AllByRecursion IsAnswered (way_calls N m all cs) → At S o
        → Goes (on_some (case_steps c h cs n u) (wrote 0 o)) (tell_way d h ws n u o) (ways_leave N m all cs S)
    case_goes no_default all m S ws n u o e t has a here =
        let same : no_way ≡ ws = cc in
        subst (λ (x : Ways). Goes None (tell_way d h x n u o) (ways_leave N m all no_default S)) same
        (goes_none (ways_leave N m all no_default S))
    case_goes (default b) all m S ws n u o e t has a here =
        let s = rest_spot m all in
        let y = mapped_of (items N s b S) other ws e in
        subst (λ (x : Ways). Goes (run b u o) (tell_way d h x n u o) (leaves N s b S)) y.1.1
        (to_told b s S (leaves N s b S) y.0 u o y.1.0
        (block_goes b s S y.0 u o y.1.0 (rest_part N m n u all t has) a here))
    case_goes (case k b cs) all m S ws n u o e t has a here =
        let s = arm_spot m k in
        let x = some_of (items N s b S) (λ (y : Items). option_map (way k y) (way_items N m all cs S)) ws e in
        let y = mapped_of (way_items N m all cs S) (way k x.0) ws x.1.1 in
        let inside = calls_first IsAnswered (calls N s b) (way_calls N m all cs) a in
        let behind = calls_second IsAnswered (calls N s b) (way_calls N m all cs) a in
        subst (λ (z : Ways). Goes (on_some (case_steps c h (case k b cs) n u) (wrote 0 o)) (tell_way d h z n u o)
        (sum (leaves N s b S) (ways_leave N m all cs S))) y.1.1
        (way_goes (int_eq n k) n k m u t b x.0 (case_steps c h cs n u) (tell_way d h y.0 n u) (leaves N s b S) (ways_leave N m all cs S) o
        (has_case n all) (has_case n cs) refl has
        (λ v. to_told b s S (leaves N s b S) x.0 u o x.1.0 (block_goes b s S x.0 u o x.1.0 v inside here))
        (λ f. case_goes cs all m S y.0 n u o y.1.0 t f behind here))
