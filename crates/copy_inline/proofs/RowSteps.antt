-- Code with its rows as blocks makes the given steps, the stores of a row as one, by induction on the code.
use Rattle.std.proofs.Common.{◌≡◌, ℕ, suc, ◌+◌, ◌*◌, ℤ, List, [], ◌∷◌, length, map, Option, None, Some, option_map, refl, sym, ap, subst, ◌∙◌, Bool, true, false, if◌then◌else◌}
use Rattle.std.specs.Prelude.{MatchBool}
use Rattle.std.specs.Ordering.{int_eq}
use Rattle.std.proofs.lemmas.Bool.{eqb-true}
use Rattle.mint.specs.declared.kind.Kind.{Kind}
use Rattle.mint.specs.declared.kind.Count.{Count}
use Rattle.mint.specs.Kinds.{width}
use Rattle.mint.specs.Row.{image_of}
use Rattle.mint.specs.Types.{Scalar, Array, Ty, array_type, items_type, choice_type, maybe_type, Arms, no_other, others, arm_type}
use Rattle.mint.specs.Typed.{IsOf, IsArray, IsOfArm, Each}
use Rattle.mint.specs.Values.{Val, num, row, items, arm, absent, present, Vals, no_more, val, vals_of, row_in, arm_in}
use Rattle.wire_def.specs.declared.encoding.Encoding.{Encoding}
use Rattle.wire_def.specs.declared.head.Head.{Head}
use Rattle.wire_def.specs.declared.head.Order.{Order}
use Rattle.wire_def.specs.declared.head.Order.TheVariants.{Big, Little}
use Rattle.wire_def.specs.Arrays.{kind_of}
use Rattle.cast_stub.specs.declared.put.Put.TheVariants as put
use Rattle.cast_stub.specs.Parts.{on_some, at, elements_in, length_in}
use Rattle.cast_stub.specs.Puts.{filled}
use Rattle.cast_stub.specs.Block.{Block, stop, ensure, ensure_row, align, chunk, row_copy, row_swap, row_wide, each, switch, if_there, call, patch, Cases, no_default, default, case}
use Rattle.cast_stub.specs.Layouts.{order_of, layout_of}
use Rattle.cast_stub.specs.PartTypes.{ty_at, present_type, present_at, arms_type, arms_at}
use Rattle.cast_stub.specs.Steps.{Room, Pad, Stored, Widened, Copied, Patched, Steps, is_width, chunk_steps, align_steps, row_room, swapped, wide, Calls, over, if_present, steps, case_steps, both}
use Rattle.cast_stub.specs.Follows.{flat}
use Rattle.cast_stub.specs.Turned.{IsNumber}
use Rattle.cast_stub.proofs.Followed.{mapped}
use Rattle.hoist.proofs.TypedParts.{at-typed}
use Rattle.copy_inline.specs.declared.sorts.Sort.{Sort}
use Rattle.copy_inline.specs.declared.sorts.Sort.TheVariants as sort
use Rattle.copy_inline.specs.Sorts.{sort_of, is_image}
use Rattle.copy_inline.specs.Ready.{OfType, IsTurn, LoopIs, IsReady, CasesReady}
use Rattle.copy_inline.specs.Rowed.{row_or_loop, loop_rowed, by_type, rowed, cases_rowed}
use Rattle.cast_stub.proofs.Widths.{four}
use Rattle.copy_inline.proofs.RowWords.{pieces, stores, together, loop_stores, wide_pieces, image_pieces, swapped_pieces, one_octet}
use Rattle.copy_inline.proofs.Sorted.{block_layout, wide_layout, image_width, array_ranged}
use Rattle.copy_inline.proofs.Joined.{AreJoined, joined_both, joined_on, joined_row, joined_copied, joined_widened}
use Rattle.cast_stub.proofs.Filled.{opened}

-- ---- a loop over an array

-- steps over the numbers of a row
abbrev On : Option Val → (Vals → Steps) → Steps
On x f = on_some (on_some x elements_in) f

abbrev OnRow : Option Val → (Kind × List ℤ → Steps) → Steps
OnRow x g = on_some (on_some x row_in) g

on_row : (x : Option Val) (a : Array) (f : Vals → Steps) (g : Kind × List ℤ → Steps) → ((w : Val) → x ≡ Some w → IsOf (array_type a) w)
    → ((k : Kind) (ns : List ℤ) → IsArray a k ns → AreJoined (f (vals_of (map num ns))) (g (k, ns))) → AreJoined (On x f) (OnRow x g)
on_row None a f g typed go = tt
on_row (Some w) a f g typed go = by w (typed w refl) where
  by : (w : Val) → IsOf (array_type a) w → AreJoined (on_some (elements_in w) f) (on_some (row_in w) g)
  by (row k ns) h = go k ns h
  by _ h = absurd h

-- numbers of one octet, or in the order of an image
image_order : (o : Order) (k : Kind) (ns : List ℤ) → is_image o k ≡ true → pieces (width k) o ns ≡ pieces (width k) Little ns
image_order Little k ns e = refl
image_order Big k ns e = one_octet (width k) Big ns (eqb-true (width k) 1 e)

other_order : (o : Order) (k : Kind) → is_image o k ≡ false → o ≡ Big
other_order Big k e = refl
other_order Little k e = absurd cc

module _ (e : Encoding) (c : Calls) (h : Head) (a : Array) where
  abbrev Turns : ℕ → Vals → Steps
  Turns w vs = over (steps c h (chunk w (put.Num 0 [] w (order_of e) ∷ []) stop)) vs

  -- numbers whose pieces together are the octets of a block
  as_block : (image : Kind → List ℤ → List ℕ) (o : Order) (k : Kind) (ns : List ℤ) → k ≡ kind_of a
      → pieces (width (kind_of a)) (order_of e) ns ≡ pieces (width (kind_of a)) o ns
      → option_map together (pieces (width (kind_of a)) o ns) ≡ Some (image (kind_of a) ns)
      → AreJoined (Turns (width (kind_of a)) (vals_of (map num ns))) (Some (Copied (image k ns) ∷ []))
  as_block image o k ns is order whole =
      let w : ℕ = width (kind_of a) in
      let y = pieces w o ns in
      let loop : Turns w (vals_of (map num ns)) ≡ option_map stores y =
      loop_stores c h w (order_of e) ns (image_width a) ∙ ap (option_map stores) order in
      let block : on_some (option_map together y) (λ os. Some (Copied os ∷ [])) ≡ Some (Copied (image k ns) ∷ []) =
      ap (λ (x : Option (List ℕ)). on_some x (λ os. Some (Copied os ∷ []))) whole
      ∙ ap (λ (j : Kind). Some (Copied (image j ns) ∷ [])) (sym is) in
      subst (AreJoined (Turns w (vals_of (map num ns)))) block
      (subst (λ (x : Steps). AreJoined x (on_some (option_map together y) (λ os. Some (Copied os ∷ [])))) (sym loop)
      (joined_row y (λ os. Some (Copied os ∷ [])) joined_copied))

  copied : (k : Kind) (ns : List ℤ) → is_image (order_of e) (kind_of a) ≡ true → IsArray a k ns
      → AreJoined (Turns (width (kind_of a)) (vals_of (map num ns))) (Some (Copied (image_of k ns) ∷ []))
  copied k ns image is =
      let r = array_ranged a k ns is in
      as_block image_of Little k ns r.0 (image_order (order_of e) (kind_of a) ns image) (image_pieces (kind_of a) ns r.1)

  turned : (k : Kind) (ns : List ℤ) → is_image (order_of e) (kind_of a) ≡ false → IsArray a k ns
      → AreJoined (Turns (width (kind_of a)) (vals_of (map num ns))) (Some (Copied (swapped k ns) ∷ []))
  turned k ns image is =
      let r = array_ranged a k ns is in
      as_block swapped Big k ns r.0
      (ap (λ (o : Order). pieces (width (kind_of a)) o ns) (other_order (order_of e) (kind_of a) image))
      (swapped_pieces (kind_of a) ns r.1)

  widened : (ns : List ℤ)
      → AreJoined (Turns 4 (vals_of (map num ns))) (on_some (wide (order_of e) ns) (λ os. Some (Widened os (length ns) ∷ [])))
  widened ns =
      let y = pieces 4 (order_of e) ns in
      let wides : on_some (option_map together y) (λ os. Some (Widened os (length ns) ∷ []))
      ≡ on_some (wide (order_of e) ns) (λ os. Some (Widened os (length ns) ∷ [])) =
      ap (λ (x : Option (List ℕ)). on_some x (λ os. Some (Widened os (length ns) ∷ []))) (sym (wide_pieces (order_of e) ns)) in
      subst (AreJoined (Turns 4 (vals_of (map num ns)))) wides
      (subst (λ (x : Steps). AreJoined x (on_some (option_map together y) (λ os. Some (Widened os (length ns) ∷ []))))
      (sym (loop_stores c h 4 (order_of e) ns four)) (joined_row y (λ os. Some (Widened os (length ns) ∷ [])) (joined_widened (length ns))))

  turn_is : (b : Block) (x : ℕ × Order) → IsNumber (layout_of e a) b → layout_of e a ≡ Some x
      → b ≡ chunk x.0 (put.Num 0 [] x.0 x.1 ∷ []) stop
  turn_is b x is at = subst (λ (l : Option (ℕ × Order)). IsNumber l b) at is

  -- a loop each of whose turns is a number, and the row
  row_joined : (w : ℕ) (g : Kind × List ℤ → Steps) (p : List ℕ) (b r r' : Block) (v : Val)
      → b ≡ chunk w (put.Num 0 [] w (order_of e) ∷ []) stop → ((u : Val) → at p v ≡ Some u → IsOf (array_type a) u)
      → ((k : Kind) (ns : List ℤ) → IsArray a k ns → AreJoined (Turns w (vals_of (map num ns))) (g (k, ns)))
      → AreJoined (steps c h r v) (steps c h r' v)
      → AreJoined (steps c h (each p b r) v) (both (OnRow (at p v) g) (steps c h r' v))
  row_joined w g p b r r' v is typed go rest =
      joined_both (On (at p v) (over (steps c h b))) (OnRow (at p v) g) (steps c h r v) (steps c h r' v)
      (subst (λ (x : Block). AreJoined (On (at p v) (over (steps c h x))) (OnRow (at p v) g)) (sym is)
      (on_row (at p v) a (Turns w) g typed go)) rest

  -- the loop, or what replaces it
  array_joined : (s : Sort) (image : Bool) (p : List ℕ) (b r r' : Block) (v : Val) → sort_of e a ≡ s
      → is_image (order_of e) (kind_of a) ≡ image → IsTurn e a b → ((w : Val) → at p v ≡ Some w → IsOf (array_type a) w)
      → AreJoined (on_some (on_some (at p v) elements_in) (over (steps c h b)))
      (on_some (on_some (at p v) elements_in) (over (steps c h b))) → AreJoined (steps c h r v) (steps c h r' v)
      → AreJoined (steps c h (each p b r) v) (steps c h (row_or_loop s image (order_of e) p b r') v)
  array_joined sort.Block true p b r r' v is image turn typed same rest =
      row_joined (width (kind_of a)) (λ x. Some (Copied (image_of x.0 x.1) ∷ [])) p b r r' v
      (turn_is b (width (kind_of a), order_of e) turn.0 (block_layout e a is).0) typed (λ k ns of. copied k ns image of) rest
  array_joined sort.Block false p b r r' v is image turn typed same rest =
      row_joined (width (kind_of a)) (λ x. Some (Copied (swapped x.0 x.1) ∷ [])) p b r r' v
      (turn_is b (width (kind_of a), order_of e) turn.0 (block_layout e a is).0) typed (λ k ns of. turned k ns image of) rest
  array_joined sort.Wide image p b r r' v is image' turn typed same rest =
      row_joined 4 (λ x. on_some (wide (order_of e) x.1) (λ os. Some (Widened os (length x.1) ∷ []))) p b r r' v
      (turn_is b (4, order_of e) turn.0 (wide_layout e a is).0) typed (λ k ns of. widened ns) rest
  array_joined sort.Looped image p b r r' v is image' turn typed same rest =
      joined_both (On (at p v) (over (steps c h b))) (On (at p v) (over (steps c h b))) (steps c h r v) (steps c h r' v) same rest

-- ---- other operations

pad_joined : (q : Bool) (a : ℕ) → AreJoined (if q then Some (Pad a ∷ []) else None) (if q then Some (Pad a ∷ []) else None)
pad_joined true a = ([], refl, refl)
pad_joined false a = tt

if_joined : (q : Bool) (x x' y y' : Steps) → AreJoined x x' → AreJoined y y' → AreJoined (if q then x else y) (if q then x' else y')
if_joined true x x' y y' j k = j
if_joined false x x' y y' j k = k

over_joined : (f g : Val → Steps) (t : Ty) (vs : Vals) → ((w : Val) → IsOf t w → AreJoined (f w) (g w)) → Each (IsOf t) vs
    → AreJoined (over f vs) (over g vs)
over_joined f g t no_more go h = refl
over_joined f g t (val w vs) go h = joined_both (f w) (g w) (over f vs) (over g vs) (go w h.0) (over_joined f g t vs go h.1)

list_joined : (x : Option Val) (f g : Val → Steps) (k : Count) (t : Ty) → ((w : Val) → x ≡ Some w → IsOf (items_type k t) w)
    → ((w : Val) → IsOf t w → AreJoined (f w) (g w))
    → AreJoined (On x (over f)) (On x (over g))
list_joined None f g k t typed go = tt
list_joined (Some w) f g k t typed go = by w (typed w refl) where
  by : (w : Val) → IsOf (items_type k t) w → AreJoined (on_some (elements_in w) (over f)) (on_some (elements_in w) (over g))
  by (items vs) h = over_joined f g t vs go h.1
  by _ h = absurd h

present_joined : (x : Option Val) (f g : Val → Steps) (t : Ty) → ((w : Val) → x ≡ Some w → IsOf (maybe_type t) w)
    → ((w : Val) → IsOf t w → AreJoined (f w) (g w))
    → AreJoined (on_some x (if_present f)) (on_some x (if_present g))
present_joined None f g t typed go = tt
present_joined (Some w) f g t typed go = by w (typed w refl) where
  by : (w : Val) → IsOf (maybe_type t) w → AreJoined (if_present f w) (if_present g w)
  by absent h = refl
  by (present w) h = go w h
  by _ h = absurd h

arm_joined : (x : Option Val) (f g : ℤ → Val → Steps) (s : Scalar) (arms : Arms) → ((w : Val) → x ≡ Some w → IsOf (choice_type s arms) w)
    → ((n : ℤ) (w : Val) → IsOfArm arms n w → AreJoined (f n w) (g n w))
    → AreJoined (on_some (on_some x arm_in) (λ a. f a.0 a.1)) (on_some (on_some x arm_in) (λ a. g a.0 a.1))
arm_joined None f g s arms typed go = tt
arm_joined (Some w) f g s arms typed go = by w (typed w refl) where
  by : (w : Val) → IsOf (choice_type s arms) w → AreJoined (on_some (arm_in w) (λ a. f a.0 a.1)) (on_some (arm_in w) (λ a. g a.0 a.1))
  by (arm n w) h = go n w h.1
  by _ h = absurd h

case_joined : (q : Bool) (P Q : Type 0) (x x' y y' : Steps) → MatchBool q P Q → (P → AreJoined x x') → (Q → AreJoined y y')
    → AreJoined (if q then x else y) (if q then x' else y')
case_joined true P Q x x' y y' h f g = f h
case_joined false P Q x x' y y' h f g = g h

pub maybe_of : (m u : Ty) → present_type m ≡ Some u → m ≡ maybe_type u
maybe_of (maybe_type t) u e = let same : t ≡ u = cc in ap maybe_type same
maybe_of _ u e = absurd cc

pub choice_of : (m : Ty) (arms : Arms) → arms_type m ≡ Some arms → (s : Scalar) × (m ≡ choice_type s arms)
choice_of (choice_type s arms) arms' e = let same : arms ≡ arms' = cc in (s, ap (choice_type s) same)
choice_of _ arms e = absurd cc

-- ---- the whole

module _ (e : Encoding) (c : Calls) (h : Head) where
  -- chunks and aligns are themselves
  turn_self : (b : Block) (n : ℕ) → flat b ≡ Some n → (w : Val) → AreJoined (steps c h b w) (steps c h b w)
  turn_self stop n f w = refl
  turn_self (chunk s ps r) n f w =
      let m = mapped (λ k. length ps + k) (flat r) n f in
      joined_both (chunk_steps s ps h w) (chunk_steps s ps h w) (steps c h r w) (steps c h r w) (joined_on (filled s ps h w)
      (λ o. Some (Stored o (length ps) ∷ [])) (λ o. Some (Stored o (length ps) ∷ [])) (λ o at. ([], refl, refl))) (turn_self r m.0 m.1 w)
  turn_self (align a r) n f w =
      let m = mapped suc (flat r) n f in
      joined_both (align_steps a) (align_steps a) (steps c h r w) (steps c h r w) (pad_joined (is_width a) a) (turn_self r m.0 m.1 w)
  turn_self _ n f w = absurd cc

  loop_self : (p : List ℕ) (b : Block) (v : Val) (n : ℕ) → flat b ≡ Some n
      → AreJoined (On (at p v) (over (steps c h b))) (On (at p v) (over (steps c h b)))
  loop_self p b v n f = joined_on (on_some (at p v) elements_in) (over (steps c h b)) (over (steps c h b)) (λ vs at. each vs) where
    each : (vs : Vals) → AreJoined (over (steps c h b) vs) (over (steps c h b) vs)
    each no_more = refl
    each (val w vs) =
        joined_both (steps c h b w) (steps c h b w) (over (steps c h b) vs) (over (steps c h b) vs) (turn_self b n f w) (each vs)

  -- bodies that are joined, by the types of their values
  abbrev BodyJoined : Block → Type 0
  BodyJoined b = (u : Ty) (w : Val) → IsReady e u b → IsOf u w → AreJoined (steps c h b w) (steps c h (rowed e u b) w)

  each_joined : (x : Option Ty) (p : List ℕ) (b r r' : Block) (t : Ty) (v : Val) → ty_at p t ≡ x → IsOf t v
      → LoopIs e x b (λ u. IsReady e u b) → BodyJoined b → AreJoined (steps c h r v) (steps c h r' v)
      → AreJoined (steps c h (each p b r) v) (steps c h (loop_rowed e x p b (λ u. rowed e u b) r') v)
  each_joined (Some (array_type a)) p b r r' t v is of ready body rest =
      array_joined e c h a (sort_of e a) (is_image (order_of e) (kind_of a)) p b r r' v refl refl ready
      (λ w there. at-typed p t v (array_type a) w of is there) (loop_self p b v ready.1 ready.2) rest
  each_joined (Some (items_type k u)) p b r r' t v is of ready body rest =
      joined_both (On (at p v) (over (steps c h b))) (On (at p v) (over (steps c h (rowed e u b)))) (steps c h r v) (steps c h r' v)
      (list_joined (at p v) (steps c h b) (steps c h (rowed e u b)) k u (λ w there. at-typed p t v (items_type k u) w of is there)
      (λ w o. body u w ready o)) rest
  each_joined None p b r r' t v is of ready body rest = absurd ready
  each_joined (Some _) p b r r' t v is of ready body rest = absurd ready

  some_joined : (x : Option Ty) (p : List ℕ) (b : Block) (t : Ty) (v : Val) → present_at p t ≡ x → IsOf t v → OfType x (λ u. IsReady e u b)
      → BodyJoined b
      → AreJoined (on_some (at p v) (if_present (steps c h b))) (on_some (at p v) (if_present (steps c h (by_type x b (λ u. rowed e u b)))))
  some_joined None p b t v is of ready body = absurd ready
  some_joined (Some u) p b t v is of ready body =
      let m = opened (ty_at p t) present_type u is in
      present_joined (at p v) (steps c h b) (steps c h (rowed e u b)) u
      (λ w there. subst (λ (y : Ty). IsOf y w) (maybe_of m.0 u m.2) (at-typed p t v m.0 w of m.1 there)) (λ w o. body u w ready o)

  switch_joined : (x : Option Arms) (p : List ℕ) (cs : Cases) (t : Ty) (v : Val) → arms_at p t ≡ x → IsOf t v
      → OfType x (λ arms. CasesReady e arms cs)
      → ((arms : Arms) (n : ℤ) (w : Val) → CasesReady e arms cs → IsOfArm arms n w
      → AreJoined (case_steps c h cs n w) (case_steps c h (cases_rowed e arms cs) n w))
      → AreJoined (on_some (on_some (at p v) arm_in) (λ a. case_steps c h cs a.0 a.1))
      (on_some (on_some (at p v) arm_in) (λ a. case_steps c h (by_type x cs (λ arms. cases_rowed e arms cs)) a.0 a.1))
  switch_joined None p cs t v is of ready body = absurd ready
  switch_joined (Some arms) p cs t v is of ready body =
      let m = opened (ty_at p t) arms_type arms is in
      let s = choice_of m.0 arms m.2 in
      arm_joined (at p v) (case_steps c h cs) (case_steps c h (cases_rowed e arms cs)) s.0 arms
      (λ w there. subst (λ (y : Ty). IsOf y w) s.1 (at-typed p t v m.0 w of m.1 there)) (λ n w o. body arms n w ready o)

  mutual
    pub joins : (b : Block) (t : Ty) (v : Val) → IsReady e t b → IsOf t v → AreJoined (steps c h b v) (steps c h (rowed e t b) v)
    joins stop t v ok of = refl
    joins (ensure n r) t v ok of = joined_both (Some (Room n ∷ [])) (Some (Room n ∷ [])) (steps c h r v) (steps c h (rowed e t r) v)
        ([], refl, refl) (joins r t v ok of)
    joins (ensure_row p u x r) t v ok of =
        joined_both (row_room p u x v) (row_room p u x v) (steps c h r v) (steps c h (rowed e t r) v)
        (joined_on (on_some (at p v) length_in) (λ n. Some (Room (n * u + x) ∷ [])) (λ n. Some (Room (n * u + x) ∷ []))
        (λ n there. ([], refl, refl))) (joins r t v ok of)
    joins (align a r) t v ok of = joined_both (align_steps a) (align_steps a) (steps c h r v) (steps c h (rowed e t r) v)
        (pad_joined (is_width a) a) (joins r t v ok of)
    joins (chunk s ps r) t v ok of =
        joined_both (chunk_steps s ps h v) (chunk_steps s ps h v) (steps c h r v) (steps c h (rowed e t r) v) (joined_on (filled s ps h v)
        (λ o. Some (Stored o (length ps) ∷ [])) (λ o. Some (Stored o (length ps) ∷ [])) (λ o there. ([], refl, refl))) (joins r t v ok of)
    joins (row_copy p r) t v ok of = absurd ok
    joins (row_swap p r) t v ok of = absurd ok
    joins (row_wide p o r) t v ok of = absurd ok
    joins (each p b r) t v ok of = each_joined (ty_at p t) p b r (rowed e t r) t v refl of ok.0 (λ u w. joins b u w) (joins r t v ok.1 of)
    joins (switch p cs r) t v ok of =
        joined_both (on_some (on_some (at p v) arm_in) (λ a. case_steps c h cs a.0 a.1))
        (on_some (on_some (at p v) arm_in) (λ a. case_steps c h (by_type (arms_at p t) cs (λ arms. cases_rowed e arms cs)) a.0 a.1))
        (steps c h r v) (steps c h (rowed e t r) v)
        (switch_joined (arms_at p t) p cs t v refl of ok.0 (λ arms n w. cases_join cs arms n w)) (joins r t v ok.1 of)
    joins (if_there p b r) t v ok of =
        joined_both (on_some (at p v) (if_present (steps c h b)))
        (on_some (at p v) (if_present (steps c h (by_type (present_at p t) b (λ u. rowed e u b))))) (steps c h r v)
        (steps c h (rowed e t r) v)
        (some_joined (present_at p t) p b t v refl of ok.0 (λ u w. joins b u w)) (joins r t v ok.1 of)
    joins (call k p r) t v ok of = absurd ok
    joins (patch a s o r) t v ok of = joined_both (Some (Patched a s o ∷ [])) (Some (Patched a s o ∷ [])) (steps c h r v)
        (steps c h (rowed e t r) v) ([], refl, refl) (joins r t v ok of)

    cases_join : (cs : Cases) (arms : Arms) (n : ℤ) (w : Val) → CasesReady e arms cs → IsOfArm arms n w
        → AreJoined (case_steps c h cs n w) (case_steps c h (cases_rowed e arms cs) n w)
    cases_join (default b) (others t) n w ok of = joins b t w ok of
    cases_join (case m b cs) (arm_type k t arms) n w ok of =
        case_joined (int_eq n m) (IsOf t w) (IsOfArm arms n w) (steps c h b w) (steps c h (rowed e t b) w) (case_steps c h cs n w)
        (case_steps c h (cases_rowed e arms cs) n w)
        (subst (λ (i : ℤ). MatchBool (int_eq n i) (IsOf t w) (IsOfArm arms n w)) ok.0 of) (joins b t w ok.1) (cases_join cs arms n w ok.2)
    cases_join no_default no_other n w ok of = absurd of
    cases_join no_default (others t) n w ok of = absurd ok
    cases_join no_default (arm_type k t arms) n w ok of = absurd ok
    cases_join (default b) no_other n w ok of = absurd of
    cases_join (default b) (arm_type k t arms) n w ok of = absurd ok
    cases_join (case m b cs) no_other n w ok of = absurd of
    cases_join (case m b cs) (others t) n w ok of = absurd ok
