-- Operations that are run, one after the other.
use Rattle.std.proofs.Common.{◌≡◌, ℕ, ℤ, suc, ◌+◌, ◌-◌, ◌<◌, ◌≤◌, List, [], ◌∷◌, ◌++◌, length, drop, get_or, map, Option, None, Some, option_map, slice_get, refl, sym, ap, subst, ◌∙◌, add-one, arith, append_assoc}
use Rattle.std.specs.Prelude.{Err, Bool, true, false, not, ◌&&◌, pos, IsTrue}
use Rattle.std.proofs.Common.{inl}
use Rattle.std.specs.Ordering.{int_eq}
use Rattle.std.proofs.Math.Seq.{drop-cons}
use Rattle.std.proofs.lemmas.List.{drop_all, append-nil, map-append}
use Rattle.mint.specs.Keyed.{place_of}
use Rattle.mint.proofs.Placing.{Asks, placed}
use Rattle.mint.proofs.Placing as placing
use Rattle.mint.specs.declared.value.Value.{Value}
use Rattle.mint.specs.declared.value.Value.TheOpen.{Value-F}
use Rattle.mint.specs.declared.value.Value.TheVariants as value
use Rattle.mint.specs.declared.value.Value.TheFolds.{fold-roll-Value}
use Rattle.mint.specs.declared.node.Node.{Node}
use Rattle.mint.specs.Types.{Ty, Array, text, row_of, type_at}
use Rattle.mint.specs.Row.{Numbers}
use Rattle.mint.specs.declared.kind.Kind.{Kind}
use Rattle.mint.specs.declared.kind.Kind.TheVariants as kind
use Rattle.mint.specs.Kinds.{in_range, IsInRange}
use Rattle.wire_def.specs.Arrays.{kind_of}
use Rattle.stub_receiver.proofs.Digits.{Keeps, fill_keeps, called_keeps, digit_become}
use Rattle.stub_receiver.specs.declared.draft.Filling.{Filling}
use Rattle.stub_receiver.specs.declared.draft.Filling.TheVariants as filling
use Rattle.mint.specs.Values.{Val, num_in, num, row, arm, seen, seen_level, all_seen, vals_of}
use Rattle.mint.specs.Values as values
use Rattle.cast_stub.specs.declared.recv.RecvOp.{RecvOp, out-RecvOp, map-RecvOp, fold_out-RecvOp}
use Rattle.cast_stub.specs.declared.recv.RecvOp.TheOpen.{RecvOp-F}
use Rattle.cast_stub.specs.declared.recv.RecvOp.TheVariants as op
use Rattle.cast_stub.specs.Parts.{IsThere}
use Rattle.cast_stub.specs.RecvBlock.{Recv, finish, Piece, joined, cases_of, piece_level, op_seen, code_seen, cases_seen}
use Rattle.cast_stub.specs.Draft.{Draft, digit, done, fresh, settle}
use Rattle.cast_stub.specs.Fill.{within, part, fill, fill_case, fill_each, fill_items, fill_arm, fill_present, runs, settled, settled_number, Callees}
use Rattle.cast_stub.specs.Into.{is_digit, desc_into, row_into, wide_into}
use Rattle.cast_stub.specs.Runs.{Place, Run, gives, refuses, strays, Filler, Going, then_run, map_run, if_some}
use Rattle.wire_def.specs.declared.encoding.Encoding.{Encoding}
use Rattle.wire_def.specs.Laws.{BeginsWith}
use Rattle.cast_stub.specs.declared.recv.RecvCode.{RecvCode}
use Rattle.cast_stub.specs.Subs.{deepest}
use Rattle.cast_stub.specs.Got.{calls_of, called, received, IsExact}
use Rattle.cast_stub.proofs.RecvAppending.{fill-append, op-append}
use Rattle.cast_stub.proofs.RecvPieces.{seen-Each, seen-Switch, seen-Some, pieces}
use Rattle.stub_receiver.specs.declared.errors.Halt.{Halt}
use Rattle.stub_receiver.specs.declared.errors.Halt.TheVariants.{Refused, NoMemory}
use Rattle.stub_receiver.specs.Drawn.{drawn, array_at, numbers_in}
use Rattle.cast_stub.specs.PutPart.{put_part}
use Rattle.stub_receiver.specs.Acting.{part_path, acted}
use Rattle.stub_receiver.specs.Looping.{GoesOver}
use Rattle.stub_receiver.specs.declared.looping.Elements.TheVariants as elements
use Rattle.stub_receiver.specs.Picking.{picked, Picks}
use Rattle.stub_receiver.specs.Ran.{Ran, Gave}
use Rattle.cast_stub.specs.Runs.{Holds}
use Rattle.stub_receiver.proofs.Drafting.{drawn-Tagged, drawn-Done, no_node, drawing}
use Rattle.stub_receiver.proofs.Within.{first_holds, within_there, within_holds, at_gives, at_halts}
use Rattle.stub_receiver.proofs.Flattening.{finished}
use Rattle.stub_receiver.proofs.Putting.{holds_in}

pub ruleset running = (drawing, no_node, pieces)

-- ---- one operation and those after it

op_first : (c : Callees) (o : RecvOp) (r : Recv) (d : Draft) (s : Place)
    → fill c (op_seen o r) d s ≡ then_run (fill c (op_seen o finish) d s) (fill c r)
op_first c o r d s = ap (λ (b : Recv). fill c b d s) (sym (op-append o finish r)) ∙ fill-append c (op_seen o finish) r d s

code-drop : (ops : List RecvOp) (i : ℕ) (d : RecvOp) → i < length ops
    → code_seen (drop i ops) ≡ op_seen (get_or ops i d) (code_seen (drop (i + 1) ops))
code-drop ops i d h = rw (add-one, drop-cons ops i d) refl

module _ (c : Callees) (ops items : List RecvOp) (i : ℕ) (o : RecvOp) (d0 d : Draft) (s0 s : Place) (same : items ≡ ops)
    (lt : i < length items) (is : o ≡ get_or items i o)
    (left : fill c (code_seen items) d0 s0 ≡ fill c (code_seen (drop i items)) d s) where
  split : fill c (code_seen items) d0 s0 ≡ then_run (fill c (op_seen o finish) d s) (fill c (code_seen (drop (i + 1) items)))
  split = left ∙ ap (λ (b : Recv). fill c b d s) (code-drop items i o lt)
      ∙ ap (λ (x : RecvOp). fill c (op_seen x (code_seen (drop (i + 1) items))) d s) (sym is)
      ∙ op_first c o (code_seen (drop (i + 1) items)) d s

  pub op_holds : Holds (fill c (code_seen ops) d0 s0) → Holds (fill c (op_seen o finish) d s)
  op_holds h = first_holds (fill c (op_seen o finish) d s) (fill c (code_seen (drop (i + 1) items)))
      (subst Holds split (subst (λ (l : List RecvOp). Holds (fill c (code_seen l) d0 s0)) (sym same) h))

  pub op_gives : (e : Draft) (t : Place) → fill c (op_seen o finish) d s ≡ gives e t
      → fill c (code_seen items) d0 s0 ≡ fill c (code_seen (drop (i + 1) items)) e t
  op_gives e t ran = split ∙ ap (λ (x : Run Draft). then_run x (fill c (code_seen (drop (i + 1) items)))) ran

  pub op_halts : (e : Draft) (t : Place) (halt : Halt) → Ran (Err halt) e t (fill c (op_seen o finish) d s)
      → Ran (Err halt) e t (fill c (code_seen ops) d0 s0)
  op_halts e t Refused ran = ap (λ (l : List RecvOp). fill c (code_seen l) d0 s0) (sym same) ∙ split
      ∙ ap (λ (x : Run Draft). then_run x (fill c (code_seen (drop (i + 1) items)))) ran
  op_halts e t NoMemory ran = tt

last_picks : (other : Option (List RecvOp)) (n : ℤ) (c : Callees) (d : Draft) (s : Place)
    → fill_case c (cases_seen [] other) n d s ≡ picked c other d s
last_picks None n c d s = refl
last_picks (Some b) n c d s = refl

asks_body : (other : Option (List RecvOp)) (n : ℤ) (c : Callees) (d : Draft) (s : Place)
    → Asks n (λ (cases : List (ℤ × List RecvOp)). fill_case c (cases_seen cases other) n d s) (λ b. fill c (code_seen b.1) d s)
    (picked c other d s)
asks_body other n c d s = record { none = last_picks other n c d s; step = λ b cases. refl }

-- the body at the place of the number
pub hit : (cases items : List (ℤ × List RecvOp)) (other : Option (List RecvOp)) (n : ℤ) (i : ℕ) (b : ℤ × List RecvOp)
    → items ≡ cases → Some i ≡ place_of n cases → Picks cases other n (Some (get_or items i b).1)
hit cases items other n i b same e c d s =
    placed n (λ (l : List (ℤ × List RecvOp)). fill_case c (cases_seen l other) n d s) (λ b. fill c (code_seen b.1) d s)
    (picked c other d s) (asks_body other n c d s) cases i b e
    ∙ ap (λ (l : List (ℤ × List RecvOp)). fill c (code_seen (get_or l i b).1) d s) (sym same)

-- the number has no body of its own
pub missed : (cases : List (ℤ × List RecvOp)) (other body : Option (List RecvOp)) (n : ℤ) → None ≡ place_of n cases → other ≡ body
    → Picks cases other n body
missed cases other body n e is c d s =
    placing.missed n (λ (l : List (ℤ × List RecvOp)). fill_case c (cases_seen l other) n d s) (λ b. fill c (code_seen b.1) d s)
    (picked c other d s) (asks_body other n c d s) cases e
    ∙ ap (λ (o : Option (List RecvOp)). picked c o d s) is

pub block_end : (c : Callees) (ops items : List RecvOp) (i : ℕ) (d0 d : Draft) (s0 s : Place) → items ≡ ops
    → length items ≤ i → fill c (code_seen items) d0 s0 ≡ fill c (code_seen (drop i items)) d s
    → fill c (code_seen ops) d0 s0 ≡ gives d s
block_end c ops items i d0 d s0 s same past left = ap (λ (l : List RecvOp). fill c (code_seen l) d0 s0) (sym same) ∙ left
    ∙ ap (λ (l : List RecvOp). fill c (code_seen l) d s) (drop_all i items past)

-- ---- an operation on the part at a path

-- what an operation does to the part at a path
abbrev pub Acts : Callees → Recv → List ℕ → Filler → Type 0
Acts c b p f = (d : Draft) (s : Place) → fill c b d s ≡ then_run (within p f d s) (fill c finish)

level_acts : (c : Callees) (x : RecvOp-F Piece) (p : List ℕ) → part_path (piece_level x finish) ≡ Some p
    → Acts c (piece_level x finish) p (acted c (piece_level x finish))
level_acts c (RecvOp-F.Desc path name size mul) p e d s =
    let same : path ≡ p = cc in
    ap (λ (q : List ℕ). then_run (within q (desc_into name size mul) d s) (fill c finish)) same
level_acts c (RecvOp-F.Row path order) p e d s =
    let same : path ≡ p = cc in
    ap (λ (q : List ℕ). then_run (within q (row_into order) d s) (fill c finish)) same
level_acts c (RecvOp-F.RowWide path order) p e d s =
    let same : path ≡ p = cc in
    ap (λ (q : List ℕ). then_run (within q (wide_into order) d s) (fill c finish)) same
level_acts c (RecvOp-F.Each path code) p e d s =
    let same : path ≡ p = cc in
    ap (λ (q : List ℕ). then_run (within q (fill_each (fill c (joined code))) d s) (fill c finish)) same
level_acts c (RecvOp-F.Switch path cases other) p e d s =
    let same : path ≡ p = cc in
    ap (λ (q : List ℕ). then_run (within q (fill_arm (fill_case c (cases_of cases other))) d s) (fill c finish)) same
level_acts c (RecvOp-F.Some path code) p e d s =
    let same : path ≡ p = cc in
    ap (λ (q : List ℕ). then_run (within q (fill_present (fill c (joined code))) d s) (fill c finish)) same
level_acts c (RecvOp-F.Call k path) p e d s =
    let same : path ≡ p = cc in
    ap (λ (q : List ℕ). then_run (within q (c k) d s) (fill c finish)) same
level_acts c _ p e d s = absurd cc

op_acts : (c : Callees) (o : RecvOp) (p : List ℕ) → part_path (op_seen o finish) ≡ Some p
    → Acts c (op_seen o finish) p (acted c (op_seen o finish))
op_acts c o p =
    subst (λ (q : Piece). part_path (q finish) ≡ Some p → Acts c (q finish) p (acted c (q finish)))
    (sym (fold_out-RecvOp Piece piece_level o)) (level_acts c (map-RecvOp RecvOp Piece op_seen (out-RecvOp o)) p)

pub each_acted : (c : Callees) (o : RecvOp) (p : List ℕ) (body : List RecvOp) → o ≡ op.Each p body
    → acted c (op_seen o finish) ≡ fill_each (fill c (code_seen body))
each_acted c o p body is = ap (λ (x : Piece). acted c (x finish)) (ap op_seen is ∙ seen-Each p body)

pub some_acted : (c : Callees) (o : RecvOp) (p : List ℕ) (body : List RecvOp) → o ≡ op.Some p body
    → acted c (op_seen o finish) ≡ fill_present (fill c (code_seen body))
some_acted c o p body is = ap (λ (x : Piece). acted c (x finish)) (ap op_seen is ∙ seen-Some p body)

pub switch_acted : (c : Callees) (o : RecvOp) (p : List ℕ) (cases : List (ℤ × List RecvOp)) (other : Option (List RecvOp))
    → o ≡ op.Switch p cases other
    → acted c (op_seen o finish) ≡ fill_arm (fill_case c (cases_seen cases other))
switch_acted c o p cases other is = ap (λ (x : Piece). acted c (x finish)) (ap op_seen is ∙ seen-Switch p cases other)

module _ (c : Callees) (o : RecvOp) (p q : List ℕ) (d : Draft) (s : Place) (at : part_path (op_seen o finish) ≡ Some p) (same : q ≡ p) where
  abbrev pub f : Filler
  f = acted c (op_seen o finish)

  whole : fill c (op_seen o finish) d s ≡ within q f d s
  whole = op_acts c o p at d s ∙ finished c (within p f d s) ∙ ap (λ (r : List ℕ). within r f d s) (sym same)

  pub part_there : Holds (fill c (op_seen o finish) d s) → IsThere (part q d)
  part_there h = within_there f s q d (subst Holds whole h)

  pub part_holds : (x : Draft) → Holds (fill c (op_seen o finish) d s) → part q d ≡ Some x → Holds (f x s)
  part_holds x h e = within_holds f s q d x e (subst Holds whole h)

  pub part_gives : (r : List ℕ) (d' x y e : Draft) (t : Place) → r ≡ p → part q d ≡ Some x
      → ((z : Draft) → put_part q z d' ≡ put_part q z d) → f x s ≡ gives y t → put_part r y d' ≡ Some e
      → fill c (op_seen o finish) d s ≡ gives e t
  part_gives r d' x y e t again there rest ran put =
      whole ∙ at_gives f q d d' x y e s t there rest ran (subst (λ (l : List ℕ). put_part l y d' ≡ Some e) (again ∙ sym same) put)

  pub part_halts : {X : Type 0} (x e : Draft) (t : Place) (halt : Halt) (view : X → Draft) → part q d ≡ Some x
      → Gave view (Err halt) t (f x s)
      → Ran (Err halt) e t (fill c (op_seen o finish) d s)
  part_halts x e t halt view there ran =
      subst (λ (z : Run Draft). Ran (Err halt) e t z) (sym whole) (at_halts f q d x e s t t halt view there ran)

-- ---- values of a node, one after the other

seen-Items : (vs : List Value) → seen (value.Items vs) ≡ values.items (all_seen vs)
seen-Items vs = ap seen (sym (value.rolls-Items vs)) ∙ fold-roll-Value Val seen_level (Value-F.Items vs)

list_given : (ns : List Node) (f : Filler) (T : Ty) (n : ℕ) (vs : List Value) (s t : Place)
    → runs (λ u. settled (f (fresh T) u)) n s ≡ gives (map seen vs) t
    → fill_items f T n s ≡ gives (drawn ns (filling.Done (value.Items vs))) t
list_given ns f T n vs s t ran =
    ap (map_run (λ ws. done (values.items (vals_of ws)))) ran
    ∙ ap (λ (d : Draft). gives d t) (ap done (sym (seen-Items vs)) ∙ sym (drawn-Done ns (value.Items vs)))

-- values of a node that a loop goes over
module _ (ns : List Node) (f : Filler) (d : Draft) (item n : ℕ) (s : Place) (over : GoesOver ns (elements.Values item n) d) where
  pub values_hold : Holds (fill_each f d s) → Holds (runs (λ u. settled (f (fresh (type_at ns item)) u)) n s)
  values_hold h = holds_in (λ vs. done (values.items (vals_of vs))) (runs (λ u. settled (f (fresh (type_at ns item)) u)) n s)
      (subst Holds (over.0 f s) h)

  pub values_given : (vs : List Value) (t : Place) → runs (λ u. settled (f (fresh (type_at ns item)) u)) n s ≡ gives (map seen vs) t
      → fill_each f d s ≡ gives (drawn ns (filling.Done (value.Items vs))) t
  values_given vs t ran = over.0 f s ∙ list_given ns f (type_at ns item) n vs s t ran

  pub values_halt : {X Y : Type 0} (view : X → List Val) (view' : Y → Draft) (t u : Place) (halt : Halt)
      → Gave view (Err halt) t (runs (λ u. settled (f (fresh (type_at ns item)) u)) n s)
      → Gave view' (Err halt) u (fill_each f d s)
  values_halt view view' t u Refused ran = over.0 f s ∙ ap (map_run (λ vs. done (values.items (vals_of vs)))) ran
  values_halt view view' t u NoMemory ran = tt

pub settle_holds : (x : Run Draft) (d : Draft) (t : Place) → x ≡ gives d t → Holds (settled x) → IsThere (settle d)
settle_holds x d t is h = checked (settle d) (subst (λ (z : Run Draft). Holds (settled z)) is h) where
  checked : (o : Option Val) → Holds (if_some o (λ v. gives v t)) → IsThere o
  checked (Some v) k = tt
  checked None k = k

-- so many turns, one after the other
module _ {A : Type 0} (f : Going A) (n i : ℕ) (s0 s : Place) (front : List A) (lt : i < n)
    (left : runs f n s0 ≡ map_run (λ vs. front ++ vs) (runs f (n - i) s)) where
  one_more : n - i ≡ suc (n - (i + 1))
  one_more = omega (arith, lt)

  opened : runs f n s0 ≡ map_run (λ vs. front ++ vs) (then_run (f s) (λ x t. map_run (λ xs. x ∷ xs) (runs f (n - (i + 1)) t)))
  opened = left ∙ ap (λ (m : ℕ). map_run (λ vs. front ++ vs) (runs f m s)) one_more

  holds_mapped : (z : Run A) (g : A → Place → Run (List A)) → Holds (map_run (λ vs. front ++ vs) (then_run z g)) → Holds z
  holds_mapped (gives v t) g h = tt
  holds_mapped refuses g h = tt
  holds_mapped strays g h = h

  pub turn_holds : Holds (runs f n s0) → Holds (f s)
  turn_holds h = holds_mapped (f s) (λ x t. map_run (λ xs. x ∷ xs) (runs f (n - (i + 1)) t)) (subst Holds opened h)

  joined_more : (x : A) (z : Run (List A))
      → map_run (λ vs. front ++ vs) (map_run (λ xs. x ∷ xs) z) ≡ map_run (λ vs. (front ++ x ∷ []) ++ vs) z
  joined_more x (gives vs t) = ap (λ (l : List A). gives l t) (sym (append_assoc front (x ∷ []) vs))
  joined_more x refuses = refl
  joined_more x strays = refl

  -- a turn gives one more
  turned : (x : A) (t : Place) (new : List A) → f s ≡ gives x t → front ++ x ∷ [] ≡ new
      → runs f n s0 ≡ map_run (λ vs. new ++ vs) (runs f (n - (i + 1)) t)
  turned x t new ran next =
      opened ∙ ap (λ (z : Run A). map_run (λ vs. front ++ vs) (then_run z (λ y u. map_run (λ xs. y ∷ xs) (runs f (n - (i + 1)) u)))) ran
      ∙ joined_more x (runs f (n - (i + 1)) t) ∙ ap (λ (l : List A). map_run (λ vs. l ++ vs) (runs f (n - (i + 1)) t)) next

module _ (f : Going Val) (n i : ℕ) (s0 s : Place) (front : List Val) (lt : i < n)
    (left : runs f n s0 ≡ map_run (λ vs. front ++ vs) (runs f (n - i) s)) where
  pub item_turn : (old new : List Value) (v : Value) (t : Place) → front ≡ map seen old → f s ≡ gives (seen v) t → new ≡ old ++ v ∷ []
      → runs f n s0 ≡ map_run (λ vs. map seen new ++ vs) (runs f (n - (i + 1)) t)
  item_turn old new v t is ran more =
      turned f n i s0 s front lt left (seen v) t (map seen new) ran
      (ap (λ (l : List Val). l ++ seen v ∷ []) is ∙ sym (ap (map seen) more ∙ map-append seen old (v ∷ [])))

  pub item_halts : {X Y : Type 0} (view : X → Val) (view' : Y → List Val) (t u : Place) (halt : Halt) → Gave view (Err halt) t (f s)
      → Gave view' (Err halt) u (runs f n s0)
  item_halts view view' t u Refused ran =
      opened f n i s0 s front lt left
      ∙ ap (λ (z : Run Val). map_run (λ vs. front ++ vs) (then_run z (λ x t. map_run (λ xs. x ∷ xs) (runs f (n - (i + 1)) t)))) ran
  item_halts view view' t u NoMemory ran = tt

-- ---- the value after a union's number

module _ (ns : List Node) (c : Callees) (cases : List (ℤ × List RecvOp)) (other : Option (List RecvOp)) (old : Filling) (n m : ℤ)
    (id : ℕ) (o : Option (List RecvOp)) (s : Place) (is : old ≡ filling.Tagged n id) (same : m ≡ n) (picks : Picks cases other m o) where
  arm_whole : fill_arm (fill_case c (cases_seen cases other)) (drawn ns old) s
      ≡ map_run (λ v. done (arm n v)) (settled (picked c o (fresh (type_at ns id)) s))
  arm_whole =
      ap (λ (d : Draft). fill_arm (fill_case c (cases_seen cases other)) d s) (ap (drawn ns) is ∙ drawn-Tagged ns n id)
      ∙ ap (λ (k : ℤ). map_run (λ v. done (arm n v)) (settled (fill_case c (cases_seen cases other) k (fresh (type_at ns id)) s)))
      (sym same)
      ∙ ap (λ (z : Run Draft). map_run (λ v. done (arm n v)) (settled z)) (picks c (fresh (type_at ns id)) s)

  mapped_holds : (z : Run Val) → Holds (map_run (λ v. done (arm n v)) z) → Holds z
  mapped_holds (gives v t) h = tt
  mapped_holds refuses h = tt
  mapped_holds strays h = h

  pub arm_holds : Holds (fill_arm (fill_case c (cases_seen cases other)) (drawn ns old) s)
      → Holds (settled (picked c o (fresh (type_at ns id)) s))
  arm_holds h = mapped_holds (settled (picked c o (fresh (type_at ns id)) s)) (subst Holds arm_whole h)

  pub no_arm : o ≡ None → Holds (fill_arm (fill_case c (cases_seen cases other)) (drawn ns old) s) → ⊥
  no_arm none h = subst (λ (z : Option (List RecvOp)). Holds (settled (picked c z (fresh (type_at ns id)) s))) none (arm_holds h)

  pub arm_given : (v : Val) (w : Value) (t : Place) → settled (picked c o (fresh (type_at ns id)) s) ≡ gives v t → seen w ≡ arm n v
      → fill_arm (fill_case c (cases_seen cases other)) (drawn ns old) s ≡ gives (drawn ns (filling.Done w)) t
  arm_given v w t ran made =
      arm_whole ∙ ap (map_run (λ v. done (arm n v))) ran ∙ ap (λ (d : Draft). gives d t) (ap done (sym made) ∙ sym (drawn-Done ns w))

  pub arm_halts : {X Y : Type 0} (view : X → Val) (view' : Y → Draft) (t u : Place) (halt : Halt)
      → Gave view (Err halt) t (settled (picked c o (fresh (type_at ns id)) s))
      → Gave view' (Err halt) u (fill_arm (fill_case c (cases_seen cases other)) (drawn ns old) s)
  arm_halts view view' t u Refused ran = arm_whole ∙ ap (map_run (λ v. done (arm n v))) ran
  arm_halts view view' t u NoMemory ran = tt

-- ---- the numbers of a row or text

pub seen-Numbers : (r : Numbers) → seen (value.Row r) ≡ row r.kind r.numbers
seen-Numbers r = ap seen (sym (value.rolls-Row r)) ∙ fold-roll-Value Val seen_level (Value-F.Row r)

module _ (ns : List Node) (f : Filler) (d : Draft) (id n : ℕ) (s : Place) (over : GoesOver ns (elements.Numbers id n) d) where
  held_mapped : (z : Run (List ℤ)) → Holds (map_run (λ ms. done (row (kind_of (array_at ns id)) ms)) z) → Holds z
  held_mapped (gives ms t) h = tt
  held_mapped refuses h = tt
  held_mapped strays h = h

  pub numbers_hold : Holds (fill_each f d s) → Holds (runs (λ u. settled_number (f (digit (array_at ns id)) u)) n s)
  numbers_hold h = held_mapped (runs (λ u. settled_number (f (digit (array_at ns id)) u)) n s) (subst Holds (over.looped f s) h)

  pub numbers_given : (r : Numbers) (t : Place)
      → runs (λ u. settled_number (f (digit (array_at ns id)) u)) n s ≡ gives (numbers_in r) t → r.kind ≡ kind_of (array_at ns id)
      → fill_each f d s ≡ gives (drawn ns (filling.Done (value.Row r))) t
  numbers_given r t ran kind =
      over.looped f s ∙ ap (map_run (λ ms. done (row (kind_of (array_at ns id)) ms))) ran
      ∙ ap (λ (d : Draft). gives d t)
      (ap (λ (k : Kind). done (row k r.numbers)) (sym kind) ∙ ap done (sym (seen-Numbers r)) ∙ sym (drawn-Done ns (value.Row r)))

  pub numbers_halt : {X Y : Type 0} (view : X → List ℤ) (view' : Y → Draft) (t u : Place) (halt : Halt)
      → Gave view (Err halt) t (runs (λ u. settled_number (f (digit (array_at ns id)) u)) n s)
      → Gave view' (Err halt) u (fill_each f d s)
  numbers_halt view view' t u Refused ran = over.looped f s ∙ ap (map_run (λ ms. done (row (kind_of (array_at ns id)) ms))) ran
  numbers_halt view view' t u NoMemory ran = tt

-- one number

pub digit_there : (x : Run Draft) (d : Draft) (t : Place) → x ≡ gives d t → Holds (settled_number x) → IsThere (settle d)
digit_there x d t is h = checked (settle d) (subst (λ (z : Run Draft). Holds (settled_number z)) is h) where
  checked : (o : Option Val) → Holds (then_run (if_some o (λ v. gives v t)) (λ v s. if_some (num_in v) (λ n. gives n s))) → IsThere o
  checked (Some v) k = tt
  checked None k = k

pub no_digit : (x : Run Draft) (d : Draft) (v : Val) (t : Place) → x ≡ gives d t → settle d ≡ Some v → num_in v ≡ None
    → Holds (settled_number x)
    → ⊥
no_digit x d v t is e none h =
    subst (λ (o : Option ℤ). Holds (if_some o (λ n. gives n t))) none
    (subst (λ (o : Option Val). Holds (then_run (if_some o (λ v. gives v t)) (λ v s. if_some (num_in v) (λ n. gives n s)))) e
    (subst (λ (z : Run Draft). Holds (settled_number z)) is h))

num_there : (v : Val) (n : ℤ) → num_in v ≡ Some n → v ≡ num n
num_there (num m) n e = cc
num_there (row k ns) n e = absurd cc
num_there (values.void) n e = absurd cc
num_there (values.group vs) n e = absurd cc
num_there (values.items vs) n e = absurd cc
num_there (arm m v) n e = absurd cc
num_there (values.absent) n e = absurd cc
num_there (values.present v) n e = absurd cc

pub digit_ranged : (a : Array) (n : ℤ) → is_digit a n ≡ true → IsInRange (kind_of a) n
digit_ranged (text c) n e = first_true (in_range kind.Char n) (not (int_eq n (pos 0))) e where
  first_true : (b g : Bool) → (b && g) ≡ true → IsTrue b
  first_true true g h = refl
  first_true false g h = h
digit_ranged (row_of k c) n e = e

pub digit_is : (a : Array) (subs : ℕ → Option Recv) (k : ℕ) (b : Recv) (s t : Place) (d d0 : Draft) (v : Val) (n : ℤ)
    → fill (called subs k) b d0 s ≡ gives d t → d0 ≡ digit a → settle d ≡ Some v → num_in v ≡ Some n
    → IsInRange (kind_of a) n
digit_is a subs k b s t d d0 v n ran from e is =
    let kept = fill_keeps a (called subs k) (called_keeps a subs k) b d0 s (inl from) in
    digit_ranged a n (digit_become a d n (subst (Keeps a) ran kept) (e ∙ ap (λ (w : Val). Some w) (num_there v n is)))

-- so many numbers
module _ (f : Going ℤ) (n i : ℕ) (s0 s : Place) (front : List ℤ) (lt : i < n)
    (left : runs f n s0 ≡ map_run (λ vs. front ++ vs) (runs f (n - i) s)) where
  pub number_turn : (r : Numbers) (k k' : Kind) (x y : ℤ) (t : Place) → f s ≡ gives x t → k ≡ k' → y ≡ x
      → r ≡ record { kind = k; numbers = front ++ y ∷ [] }
      → (runs f n s0 ≡ map_run (λ vs. r.numbers ++ vs) (runs f (n - (i + 1)) t)) × (r.kind ≡ k')
  number_turn r k k' x y t ran same one is = (
    turned f n i s0 s front lt left x t r.numbers ran
        (sym (ap (λ (q : Numbers). q.numbers) is ∙ ap (λ (z : ℤ). front ++ z ∷ []) one)),
    ap (λ (q : Numbers). q.kind) is ∙ same,
  )

pub numbers_end : (f : Going ℤ) (n i : ℕ) (s0 s : Place) (front : List ℤ) → n ≤ i
    → runs f n s0 ≡ map_run (λ vs. front ++ vs) (runs f (n - i) s)
    → runs f n s0 ≡ gives front s
numbers_end f n i s0 s front past left =
    let none : n - i ≡ 0 = omega (arith, past) in
    left ∙ ap (λ (m : ℕ). map_run (λ vs. front ++ vs) (runs f m s)) none ∙ ap (λ (l : List ℤ). gives l s) (append-nil front)

-- ---- a code that is called

pub called_is : (subs : List (List RecvOp)) (n m k : ℕ) (code : List RecvOp) (d : Draft) (s : Place) → n ≡ suc m
    → slice_get subs k ≡ Some code
    → calls_of subs n k d s ≡ fill (calls_of subs m) (code_seen code) d s
called_is subs n m k code d s e is =
    ap (λ (j : ℕ). calls_of subs j k d s) e
    ∙ ap (λ (o : Option Recv). if_some o (λ b. fill (calls_of subs m) b d s)) (ap (option_map code_seen) is)

-- ---- the whole run

pub whole_is : (code : RecvCode) (t : Ty) (s : Place) (n : ℕ) (x : Run Val) → n ≡ deepest
    → settled (fill (calls_of code.subs n) (code_seen code.ops) (fresh t) s) ≡ x
    → received code t s ≡ x
whole_is code t s n x same ran = ap (λ (m : ℕ). settled (fill (calls_of code.subs m) (code_seen code.ops) (fresh t) s)) (sym same) ∙ ran

pub exactly : (e : Encoding) (t : Ty) (p : ℕ) (o : List ℕ) (x : Run Val) (v : Val) (s : Place) → x ≡ gives v s → IsExact e t p o x
    → (used : ℕ) × (s.pos ≡ p + used) × BeginsWith e t p o v used
exactly e t p o x v s ran exact = let h = subst (IsExact e t p o) ran exact in (h.0, h.1, h.3)
