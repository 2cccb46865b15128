-- What one more operation, one more body and one more lap make of rooms.
use Rattle.std.proofs.Common.{◌≡◌, ℕ, zero, suc, ◌+◌, ◌-◌, ◌<◌, ◌≤◌, ℤ, Bool, true, false, not, ◌&&◌, ◌||◌, List, [], get_or, length, drop, Option, Some, None, Result, Ok, Err, IfOk, option_map, is_some, nat_le, if◌then◌else◌, refl, sym, ap, ◌∙◌, subst, arith}
use Rattle.std.proofs.Math.ListN.{drop_of_length-le}
use Rattle.mint.specs.declared.node.Node.{Node}
use Rattle.cast_stub.specs.declared.send.SendOp.{SendOp}
use Rattle.cast_stub.specs.Parts.{on_some}
use Rattle.cast_stub.specs.Block.{Block, stop, Cases, Piece, op_seen, code_seen, cases_seen}
use Rattle.stub_flat.specs.Places.{Spot, arm_spot, rest_spot}
use Rattle.stub_flat.specs.Residues.{Residues, every, closed}
use Rattle.stub_cover.specs.Rooms.{Rooms, reached, least, no_rooms, only_room, on, raised, set, least_first}
use Rattle.stub_cover.specs.Covers.{Turn, Credit, run, run_ways, suffices, free_loop, bounded_loop, bare_loop, or_else, most_turns, turns}
use Rattle.stub_rooms.specs.RoomsShown.{room_at, spread, least_of, Shown, Follows}
use Rattle.stub_places.specs.Sets.{each_of, set_of}
use Rattle.stub_rooms.specs.CoversLap.{turn_of}
use Rattle.stub_rooms.specs.declared.covers_lap.Lap.{Lap}
use Rattle.stub_rooms.specs.CoversStanding.{credit, credit_of, few, loop_of, maybe_loop, GoesOn, Goes, Refuses, Steps}
use Rattle.stub_rooms.specs.declared.covers_standing.Looping.{Looping}
use Rattle.stub_rooms.specs.declared.covers_standing.Standing.{Standing}
use Rattle.stub_rooms.proofs.RoomsLesser.{least_assoc}
use Rattle.stub_rooms.proofs.CoversLeading.{first_op, first_case}

some_given : {A : Type 0} (a b : A) → Some a ≡ Some b → a ≡ b
some_given a b e = cc

-- ---- one turn and another

module _ (g h : Turn) (a : List (Option ℕ)) where
  then_made : (b : List (Option ℕ)) (x : Option (List (Option ℕ))) (o : Option Rooms) → Some b ≡ option_map each_of o → Follows h b x
      → x ≡ option_map each_of (on_some o h)
  then_made b x None e q = absurd cc
  then_made b x (Some S) e q = q.told S (some_given b (each_of S) e)

  pub follows_then : (b : List (Option ℕ)) (x : Option (List (Option ℕ))) → Follows g a (Some b) → Follows h b x
      → Follows (λ R. on_some (g R) h) a x
  follows_then b x p q = record { told = λ R e. then_made b x (g R) (p.told R e) q }

  none_made : (o : Option Rooms) → None ≡ option_map each_of o → None ≡ option_map each_of (on_some o h)
  none_made None e = refl
  none_made (Some S) e = absurd cc

  pub follows_none : Follows g a None → Follows (λ R. on_some (g R) h) a None
  follows_none p = record { told = λ R e. none_made (g R) (p.told R e) }

-- ---- operations

module _ (N : List Node) (s : Spot) (piece : Piece) (g : Turn) (k : Credit) (a : Standing)
    (same : (r : Block) (R : Rooms) → run N s (piece r) (credit a) R ≡ on_some (g R) (run N s r k)) where
  goes_by : (b : Standing) → Follows g a.rooms (Some b.rooms) → credit b ≡ k → Goes N s piece a b
  goes_by b p e = record {
    rest = λ r x q. record {
      told = λ R f.
          (follows_then g (run N s r k) a.rooms b.rooms x p (subst (λ (c : Credit). Follows (run N s r c) b.rooms x) e q)).told R f
          ∙ ap (option_map each_of) (sym (same r R));
    };
  }

  refuses_by : Follows g a.rooms None → Refuses N s piece a
  refuses_by p = record {
    rest = λ r. record { told = λ R f. (follows_none g (run N s r k) a.rooms p).told R f ∙ ap (option_map each_of) (sym (same r R)) };
  }

  steps : (x : Option (List (Option ℕ))) (goes : Bool) (b : Standing) → Follows g a.rooms x → GoesOn x k goes b → Steps N s piece goes a b
  steps None goes b p h = subst (λ (t : Bool). Steps N s piece t a b) (sym h) (refuses_by p)
  steps (Some rooms) goes b p h = subst (λ (t : Bool). Steps N s piece t a b) (sym h.0)
      (goes_by b (subst (λ (l : List (Option ℕ)). Follows g a.rooms (Some l)) (sym h.1.0) p) h.1.1)

pub steps_by : (N : List Node) (s : Spot) (o : SendOp) (piece : Piece) (g : Turn) (k : Credit) (a b : Standing)
    (x : Option (List (Option ℕ))) (goes : Bool) → op_seen o ≡ piece
    → ((r : Block) (R : Rooms) → run N s (piece r) (credit a) R ≡ on_some (g R) (run N s r k)) → Follows g a.rooms x → GoesOn x k goes b
    → Steps N s (op_seen o) goes a b
steps_by N s o piece g k a b x goes is same p h =
    subst (λ (z : Piece). Steps N s z goes a b) (sym is) (steps N s piece g k a same x goes b p h)

pub steps_of : (N : List Node) (s : Spot) (piece : Piece) (g : Turn) (k : Credit) (a b : Standing) (x : Option (List (Option ℕ)))
    (goes : Bool) → ((r : Block) (R : Rooms) → run N s (piece r) (credit a) R ≡ on_some (g R) (run N s r k)) → Follows g a.rooms x
    → GoesOn x k goes b → Steps N s piece goes a b
steps_of N s piece g k a b x goes same p h = steps N s piece g k a same x goes b p h

pub steps_seen : {E : Type 0} (N : List Node) (s : Spot) (o : SendOp) (piece : Piece) (a b : Standing) (x : Result Bool E)
    → op_seen o ≡ piece → IfOk x (λ goes. Steps N s piece goes a b) → IfOk x (λ goes. Steps N s (op_seen o) goes a b)
steps_seen N s o piece a b x is p = subst (λ (z : Piece). IfOk x (λ goes. Steps N s z goes a b)) (sym is) p

-- rooms that a function makes of rooms
pub follows_made : (f : Rooms → Rooms) (a b : List (Option ℕ)) → ((R : Rooms) → a ≡ each_of R → b ≡ each_of (f R))
    → Follows (λ R. Some (f R)) a (Some b)
follows_made f a b p = record { told = λ R e. ap Some (p R e) }

pub raised_follows : (n : ℕ) (a b : List (Option ℕ)) → b ≡ each_of (raised n (room_at a)) → Follows (λ R. Some (raised n R)) a (Some b)
raised_follows n a b is =
    follows_made (raised n) a b (λ R e. is ∙ ap (λ (l : List (Option ℕ)). each_of (raised n (room_at l))) e)

pub set_follows : (n : ℕ) (a b : List (Option ℕ)) → b ≡ each_of (set n (room_at a)) → Follows (λ R. Some (set n R)) a (Some b)
set_follows n a b is = follows_made (set n) a b (λ R e. is ∙ ap (λ (l : List (Option ℕ)). each_of (set n (room_at l))) e)

pub bare_follows : (a b : List (Option ℕ)) → b ≡ each_of (on every 0) → Follows (λ R. Some (on every 0)) a (Some b)
bare_follows a b is = follows_made (λ R. on every 0) a b (λ R e. is)

pub kept_follows : (a : List (Option ℕ)) → Follows (λ R. Some R) a (Some a)
kept_follows a = follows_made (λ R. R) a a (λ R e. e)

-- a place that has a length, and one that has none
pub if_has : (b : Bool) (R : Rooms) (f : Rooms → Option Rooms) (e : ℕ)
    → (if b then f (set e R) else None) ≡ on_some (if b then Some (set e R) else None) f
if_has true R f e = refl
if_has false R f e = refl

pub has_follows : (b : Bool) (e : ℕ) (a x : List (Option ℕ)) → b ≡ true → x ≡ each_of (set e (room_at a))
    → Follows (λ R. if b then Some (set e R) else None) a (Some x)
has_follows b e a x is p = subst (λ (t : Bool). Follows (λ R. if t then Some (set e R) else None) a (Some x)) (sym is) (set_follows e a x p)

pub has_none : (b : Bool) (e : ℕ) (a : List (Option ℕ)) → b ≡ false → Follows (λ R. if b then Some (set e R) else None) a None
has_none b e a is = subst (λ (t : Bool). Follows (λ R. if t then Some (set e R) else None) a None) (sym is)
    (record { told = λ R e. refl })

-- what may be there, joined with what was before
pub if_there_same : (R : Rooms) (o : Option Rooms) (f : Rooms → Option Rooms)
    → on_some o (λ S. f (least R S)) ≡ on_some (option_map (least R) o) f
if_there_same R None f = refl
if_there_same R (Some S) f = refl

least_there : (a b : List (Option ℕ)) (R : Rooms) (o : Option Rooms) → a ≡ each_of R → Some b ≡ option_map each_of o
    → Some (least_of a b) ≡ option_map each_of (option_map (least R) o)
least_there a b R None e f = absurd cc
least_there a b R (Some S) e f = ap Some (ap (λ (l : List (Option ℕ)). least_of l b) e
    ∙ ap (least_of (each_of R)) (some_given b (each_of S) f))

pub there_follows : (f : Turn) (a b c : List (Option ℕ)) → Follows f a (Some b) → c ≡ least_of a b
    → Follows (λ R. option_map (least R) (f R)) a (Some c)
there_follows f a b c p is = record { told = λ R e. ap Some is ∙ least_there a b R (f R) e (p.told R e) }

none_there : (R : Rooms) (o : Option Rooms) → None ≡ option_map each_of o → None ≡ option_map each_of (option_map (least R) o)
none_there R None f = refl
none_there R (Some S) f = absurd cc

pub there_none : (f : Turn) (a : List (Option ℕ)) → Follows f a None → Follows (λ R. option_map (least R) (f R)) a None
there_none f a p = record { told = λ R e. none_there R (f R) (p.told R e) }

-- ---- loops that may be none

pub maybe_none : (N : List Node) (l : Option Looping) (a : List (Option ℕ)) → l ≡ None → Follows (maybe_loop N l) a None
maybe_none N l a e = subst (λ (z : Option Looping). Follows (maybe_loop N z) a None) (sym e) (record { told = λ R f. refl })

pub maybe_given : (N : List Node) (l : Option Looping) (k : Looping) (a : List (Option ℕ)) (x : Option (List (Option ℕ))) → l ≡ Some k
    → Follows (loop_of N k) a x → Follows (maybe_loop N l) a x
maybe_given N l k a x e p = subst (λ (z : Option Looping). Follows (maybe_loop N z) a x) (sym e) p

-- ---- blocks

-- what is left of a block
pub record RunLeft (N : List Node) (s : Spot) (ops rest : List SendOp) (a : List (Option ℕ)) (b : Standing) : Type 0 where
  pub lead : (x : Option (List (Option ℕ))) → Follows (run N s (code_seen rest) (credit b)) b.rooms x
      → Follows (run N s (code_seen ops) None) a x

pub run_all : (N : List Node) (s : Spot) (ops : List SendOp) (a : List (Option ℕ)) (b : Standing) → b.rooms ≡ a → b.unit ≡ None
    → RunLeft N s ops ops a b
run_all N s ops a b same bare = record {
  lead = λ x p. subst (λ (l : List (Option ℕ)). Follows (run N s (code_seen ops) None) l x) same
      (subst (λ (u : Option ℕ). Follows (run N s (code_seen ops) (credit_of b.path u)) b.rooms x) bare p);
}

module _ (N M : List Node) (s : Spot) (items : List SendOp) (i : ℕ) (o : SendOp) (a : List (Option ℕ)) (b : Standing)
    (less : i < length items) (is : o ≡ get_or items i o) (same : M ≡ N) (left : RunLeft N s items (drop i items) a b) where
  pub run_one : (c : Standing) (goes : Bool) → goes ≡ true → Steps M s (op_seen o) goes b c → RunLeft N s items (drop (i + 1) items) a c
  run_one c true e step = record {
    lead = λ x p. left.lead x (subst (λ (l : List SendOp). Follows (run N s (code_seen l) (credit b)) b.rooms x)
        (sym (first_op items i o less is))
        ((subst (λ (L : List Node). Goes L s (op_seen o) b c) same step).rest (code_seen (drop (i + 1) items)) x p));
  }
  run_one c false e step = absurd cc

  pub run_refused : (ops : List SendOp) (c : Standing) (goes : Bool) → goes ≡ false → Steps M s (op_seen o) goes b c → items ≡ ops
      → Follows (run N s (code_seen ops) None) a None
  run_refused ops c true h step e = absurd cc
  run_refused ops c false h step e =
      subst (λ (l : List SendOp). Follows (run N s (code_seen l) None) a None) e
      (left.lead None (subst (λ (l : List SendOp). Follows (run N s (code_seen l) (credit b)) b.rooms None)
      (sym (first_op items i o less is))
      ((subst (λ (L : List Node). Refuses L s (op_seen o) b) same step).rest (code_seen (drop (i + 1) items)))))

run_stop : (N : List Node) (s : Spot) (c : Credit) (a : List (Option ℕ)) → Follows (run N s stop c) a (Some a)
run_stop N s c a = record { told = λ R e. ap Some e }

pub run_none : (N : List Node) (s : Spot) (ops items : List SendOp) (i : ℕ) (a : List (Option ℕ)) (b : Standing) → length items ≤ i
    → items ≡ ops → RunLeft N s items (drop i items) a b → Follows (run N s (code_seen ops) None) a (Some b.rooms)
run_none N s ops items i a b le e left =
    subst (λ (l : List SendOp). Follows (run N s (code_seen l) None) a (Some b.rooms)) e
    (left.lead (Some b.rooms) (subst (λ (l : List SendOp). Follows (run N s (code_seen l) (credit b)) b.rooms (Some b.rooms))
    (sym (drop_of_length-le items le)) (run_stop N s (credit b) b.rooms)))

-- ---- bodies of a switch

-- what is left of the bodies of a switch, behind bodies whose least rooms are b
pub record WaysRun (N : List Node) (n : Option Node) (all cs rest : Cases) (a b : List (Option ℕ)) : Type 0 where
  pub lead : (x : Option (List (Option ℕ)))
      → ((R : Rooms) → a ≡ each_of R → x ≡ option_map (λ T. each_of (least (room_at b) T)) (run_ways N n all rest R))
      → Follows (run_ways N n all cs) a x

none_joined : (o : Option Rooms) → option_map (λ T. each_of (least (room_at (each_of no_rooms)) T)) o ≡ option_map each_of o
none_joined None = refl
none_joined (Some T) = refl

pub ways_run : (N : List Node) (n : Option Node) (all cs : Cases) (a b : List (Option ℕ)) → b ≡ each_of no_rooms
    → WaysRun N n all cs cs a b
ways_run N n all cs a b is = record {
  lead = λ x p. record {
    told = λ R e. p R e ∙ ap (λ (l : List (Option ℕ)). option_map (λ T. each_of (least (room_at l) T)) (run_ways N n all cs R)) is
        ∙ none_joined (run_ways N n all cs R);
  };
}

rest_joined : (b : List (Option ℕ)) (S : Rooms) (o : Option Rooms)
    → option_map (λ T. each_of (least (room_at (least_of b (each_of S))) T)) o
    ≡ option_map (λ T. each_of (least (room_at b) T)) (option_map (least S) o)
rest_joined b S None = refl
rest_joined b S (Some T) = ap Some (least_assoc b S T)

body_joined : (b c d : List (Option ℕ)) (x : Option (List (Option ℕ))) (w o : Option Rooms) → Some c ≡ option_map each_of o
    → d ≡ least_of b c → x ≡ option_map (λ T. each_of (least (room_at d) T)) w
    → x ≡ option_map (λ T. each_of (least (room_at b) T)) (on_some o (λ S. option_map (least S) w))
body_joined b c d x w None e is p = absurd cc
body_joined b c d x w (Some S) e is p =
    p ∙ ap (λ (l : List (Option ℕ)). option_map (λ T. each_of (least (room_at l) T)) w) (is ∙ ap (least_of b) (some_given c (each_of S) e))
    ∙ rest_joined b S w

body_refused : (b : List (Option ℕ)) (w o : Option Rooms) → None ≡ option_map each_of o
    → None ≡ option_map (λ T. each_of (least (room_at b) T)) (on_some o (λ S. option_map (least S) w))
body_refused b w None e = refl
body_refused b w (Some S) e = absurd cc

last_joined : (b c d : List (Option ℕ)) (o : Option Rooms) → d ≡ least_of b c → Some c ≡ option_map each_of o
    → Some d ≡ option_map (λ T. each_of (least (room_at b) T)) o
last_joined b c d None e f = absurd cc
last_joined b c d (Some S) e f = ap Some (e ∙ ap (least_of b) (some_given c (each_of S) f))

last_none : (b : List (Option ℕ)) (o : Option Rooms) → None ≡ option_map each_of o
    → None ≡ option_map (λ T. each_of (least (room_at b) T)) o
last_none b None f = refl
last_none b (Some S) f = absurd cc

module _ (N : List Node) (n : Option Node) (all cs : Cases) (cases : List (ℤ × List SendOp)) (last : Option (List SendOp)) (i : ℕ)
    (a b : List (Option ℕ)) (left : WaysRun N n all cs (cases_seen (drop i cases) last) a b) where
  pub ways_run_one : (z : ℤ × List SendOp) (spot : Spot) (c d : List (Option ℕ)) → i < length cases → z ≡ get_or cases i z
      → spot ≡ arm_spot n z.0 → Follows (run N spot (code_seen z.1) None) a (Some c) → d ≡ least_of b c
      → WaysRun N n all cs (cases_seen (drop (i + 1) cases) last) a d
  ways_run_one z spot c d less at place shown is =
      let p = subst (λ (t : Spot). Follows (run N t (code_seen z.1) None) a (Some c)) place shown in record {
        lead = λ x q. left.lead x (λ R e. body_joined b c d x (run_ways N n all (cases_seen (drop (i + 1) cases) last) R)
            (run N (arm_spot n z.0) (code_seen z.1) None R) (p.told R e) is (q R e)
            ∙ ap (λ (l : List (ℤ × List SendOp)). option_map (λ T. each_of (least (room_at b) T)) (run_ways N n all (cases_seen l last) R))
            (sym (first_case cases i z less at)));
      }

  pub ways_refused : (z : ℤ × List SendOp) (spot : Spot) → i < length cases → z ≡ get_or cases i z → spot ≡ arm_spot n z.0
      → Follows (run N spot (code_seen z.1) None) a None → Follows (run_ways N n all cs) a None
  ways_refused z spot less at place shown =
      let p = subst (λ (t : Spot). Follows (run N t (code_seen z.1) None) a None) place shown in left.lead None (λ R e.
      body_refused b (run_ways N n all (cases_seen (drop (i + 1) cases) last) R) (run N (arm_spot n z.0) (code_seen z.1) None R)
      (p.told R e)
      ∙ ap (λ (l : List (ℤ × List SendOp)). option_map (λ T. each_of (least (room_at b) T)) (run_ways N n all (cases_seen l last) R))
      (sym (first_case cases i z less at)))

  over : length cases ≤ i → WaysRun N n all cs (cases_seen [] last) a b
  over le = subst (λ (l : List (ℤ × List SendOp)). WaysRun N n all cs (cases_seen l last) a b) (drop_of_length-le cases le) left

  pub ways_run_end : (c d : List (Option ℕ)) → length cases ≤ i → last ≡ None → c ≡ each_of no_rooms → d ≡ least_of b c
      → Follows (run_ways N n all cs) a (Some d)
  ways_run_end c d le is empty e =
      (subst (λ (l : Option (List SendOp)). WaysRun N n all cs (cases_seen [] l) a b) is (over le)).lead (Some d)
      (λ R f. ap Some (e ∙ ap (least_of b) empty))

  pub ways_run_last : (body : List SendOp) (spot : Spot) (c d : List (Option ℕ)) → length cases ≤ i → last ≡ Some body
      → spot ≡ rest_spot n all → Follows (run N spot (code_seen body) None) a (Some c) → d ≡ least_of b c
      → Follows (run_ways N n all cs) a (Some d)
  ways_run_last body spot c d le is at p e =
      (subst (λ (l : Option (List SendOp)). WaysRun N n all cs (cases_seen [] l) a b) is (over le)).lead (Some d)
      (λ R f. last_joined b c d (run N (rest_spot n all) (code_seen body) None R) e
      ((subst (λ (t : Spot). Follows (run N t (code_seen body) None) a (Some c)) at p).told R f))

  pub ways_last_refused : (body : List SendOp) (spot : Spot) → length cases ≤ i → last ≡ Some body → spot ≡ rest_spot n all
      → Follows (run N spot (code_seen body) None) a None → Follows (run_ways N n all cs) a None
  ways_last_refused body spot le is at p =
      (subst (λ (l : Option (List SendOp)). WaysRun N n all cs (cases_seen [] l) a b) is (over le)).lead None
      (λ R f. last_none b (run N (rest_spot n all) (code_seen body) None R)
      ((subst (λ (t : Spot). Follows (run N t (code_seen body) None) a None) at p).told R f))

-- the bodies of a switch, as the loop goes over them
pub ways_run_seen : (N : List Node) (n : Option Node) (all : Cases) (items cases : List (ℤ × List SendOp)) (last : Option (List SendOp))
    (a : List (Option ℕ)) (x : Option (List (Option ℕ))) → items ≡ cases → Follows (run_ways N n all (cases_seen items last)) a x
    → Follows (run_ways N n all (cases_seen cases last)) a x
ways_run_seen N n all items cases last a x same p =
    subst (λ (l : List (ℤ × List SendOp)). Follows (run_ways N n all (cases_seen l last)) a x) same p

-- ---- loops

or_made : (x : List (Option ℕ)) (o p : Option Rooms) → Some x ≡ option_map each_of o → Some x ≡ option_map each_of (or_else o p)
or_made x None p e = absurd cc
or_made x (Some S) p e = e

else_made : (x : Option (List (Option ℕ))) (o p : Option Rooms) → None ≡ option_map each_of o → x ≡ option_map each_of p
    → x ≡ option_map each_of (or_else o p)
else_made x None p e f = f
else_made x (Some S) p e f = absurd cc

pub follows_or : (F G : Turn) (a x : List (Option ℕ)) → Follows F a (Some x) → Follows (λ R. or_else (F R) (G R)) a (Some x)
follows_or F G a x p = record { told = λ R e. or_made x (F R) (G R) (p.told R e) }

pub follows_else : (F G : Turn) (a : List (Option ℕ)) (x : Option (List (Option ℕ))) → Follows F a None → Follows G a x
    → Follows (λ R. or_else (F R) (G R)) a x
follows_else F G a x p q = record { told = λ R e. else_made x (F R) (G R) (p.told R e) (q.told R e) }

-- a loop, of which elements may have their own octets
suffices_shown : (f : Turn) (u : ℕ) (S : Residues) (m : List Bool) → m ≡ each_of S → suffices 8 f u S ≡ suffices 8 f u (set_of m)
suffices_shown f u S m e = ap (λ (l : List Bool). suffices 8 f u (set_of l)) (sym e)

bare_joined : (S : Residues) (b x : List (Option ℕ)) (o : Option Rooms) → b ≡ each_of (on S 0) → Some x ≡ option_map each_of o
    → Some b ≡ option_map each_of (option_map (λ T. on S 0) o)
bare_joined S b x None e q = absurd cc
bare_joined S b x (Some T) e q = ap Some e

bare_none : (S : Residues) (o : Option Rooms) → None ≡ option_map each_of o → None ≡ option_map each_of (option_map (λ T. on S 0) o)
bare_none S None q = refl
bare_none S (Some T) q = absurd cc

bare_shown : (S : Residues) (m : List Bool) (b : List (Option ℕ)) → b ≡ each_of (on (set_of m) 0) → m ≡ each_of S → b ≡ each_of (on S 0)
bare_shown S m b is e = is ∙ ap (λ (l : List Bool). each_of (on (set_of l) 0)) e

module _ (f : Turn) (reach : Rooms → Residues) (plain : Bool) (a : List (Option ℕ)) where
  pub free_no_unit : Follows (λ R. free_loop f (reach R) plain None R) a None
  free_no_unit = record { told = λ R e. refl }

  pub free_not_plain : (u : ℕ) → plain ≡ false → Follows (λ R. free_loop f (reach R) plain (Some u) R) a None
  free_not_plain u is = record {
    told = λ R e. ap (λ (b : Bool). option_map each_of (free_loop f (reach R) b (Some u) R)) (sym is);
  }

  pub free_short : (u : ℕ) (m : List Bool) → plain ≡ true → ((R : Rooms) → a ≡ each_of R → m ≡ each_of (reach R))
      → suffices 8 f u (set_of m) ≡ false → Follows (λ R. free_loop f (reach R) plain (Some u) R) a None
  free_short u m is shows short = record {
    told = λ R e.
        ap (λ (b : Bool). option_map each_of (if b then Some (spread (reach R) (least_first 8 R)) else None))
        (sym (suffices_shown f u (reach R) m (shows R e) ∙ short))
        ∙ ap (λ (b : Bool). option_map each_of (free_loop f (reach R) b (Some u) R)) (sym is);
  }

  pub free_given : (u : ℕ) (m : List Bool) (x : List (Option ℕ)) → plain ≡ true → ((R : Rooms) → a ≡ each_of R → m ≡ each_of (reach R))
      → suffices 8 f u (set_of m) ≡ true → x ≡ each_of (spread (set_of m) (least_first 8 (room_at a)))
      → Follows (λ R. free_loop f (reach R) plain (Some u) R) a (Some x)
  free_given u m x is shows enough e = record {
    told = λ R at. ap Some (e ∙ ap (λ (l : List Bool). each_of (spread (set_of l) (least_first 8 (room_at a)))) (shows R at)
        ∙ ap (λ (l : List (Option ℕ)). each_of (spread (reach R) (least_first 8 (room_at l)))) at)
        ∙ ap (λ (b : Bool). option_map each_of (if b then Some (spread (reach R) (least_first 8 R)) else None))
        (sym (suffices_shown f u (reach R) m (shows R at) ∙ enough))
        ∙ ap (λ (b : Bool). option_map each_of (free_loop f (reach R) b (Some u) R)) (sym is);
  }

  pub bare_given : (m : List Bool) (b x : List (Option ℕ)) → ((R : Rooms) → a ≡ each_of R → m ≡ each_of (reach R))
      → b ≡ each_of (on (set_of m) 0) → Follows f b (Some x) → Follows (λ R. bare_loop f (reach R) R) a (Some b)
  bare_given m b x shows is p = record {
    told = λ R e. bare_joined (reach R) b x (f (on (reach R) 0)) (bare_shown (reach R) m b is (shows R e))
        (p.told (on (reach R) 0) (bare_shown (reach R) m b is (shows R e)));
  }

  pub bare_refused : (m : List Bool) (b : List (Option ℕ)) → ((R : Rooms) → a ≡ each_of R → m ≡ each_of (reach R))
      → b ≡ each_of (on (set_of m) 0) → Follows f b None → Follows (λ R. bare_loop f (reach R) R) a None
  bare_refused m b shows is p = record {
    told = λ R e. bare_none (reach R) (f (on (reach R) 0)) (p.told (on (reach R) 0) (bare_shown (reach R) m b is (shows R e)));
  }

-- a loop of a greatest length
without : (n : ℕ) (o : Option Rooms) (b : Bool) → (if b then Some n else None) ≡ None → None ≡ (if b then o else None)
without n o true h = absurd cc
without n o false h = refl

within : (f : Turn) (R : Rooms) (n m : ℕ) (b : Bool) → (if b then Some n else None) ≡ Some m
    → turns m f R ≡ (if b then turns n f R else None)
within f R n m true h = ap (λ k. turns k f R) (sym (some_given n m h))
within f R n m false h = absurd cc

few_none : (f : Turn) (R : Rooms) (most : Option ℕ) → few most ≡ None → None ≡ bounded_loop f most R
few_none f R None e = refl
few_none f R (Some n) e = without n (turns n f R) (nat_le n most_turns) e

few_some : (f : Turn) (R : Rooms) (most : Option ℕ) (m : ℕ) → few most ≡ Some m → turns m f R ≡ bounded_loop f most R
few_some f R None m e = absurd cc
few_some f R (Some n) m e = within f R n m (nat_le n most_turns) e

pub bounded_none : (f : Turn) (most : Option ℕ) (a : List (Option ℕ)) → few most ≡ None → Follows (bounded_loop f most) a None
bounded_none f most a e = record { told = λ R h. ap (option_map each_of) (few_none f R most e) }

bounded_turns : (f : Turn) (most : Option ℕ) (m : ℕ) (a : List (Option ℕ)) (x : Option (List (Option ℕ))) → few most ≡ Some m
    → Follows (turns m f) a x → Follows (bounded_loop f most) a x
bounded_turns f most m a x e p = record { told = λ R h. p.told R h ∙ ap (option_map each_of) (few_some f R most m e) }

-- one residue more
both_true : (b c : Bool) → b ≡ true → c ≡ true → (b && c) ≡ true
both_true true c h g = g
both_true false c h g = absurd cc

second_false : (b c : Bool) → c ≡ false → (b && c) ≡ false
second_false true c h = h
second_false false c h = refl

first_false : (b c : Bool) → b ≡ false → (b && c) ≡ false
first_false true c h = absurd cc
first_false false c h = refl

none_more : (k : ℕ) → suc k ≡ suc k + zero
none_more k = omega arith

one_more : (k m : ℕ) → suc (suc k + m) ≡ suc k + suc m
one_more k m = omega arith

next_one : (k : ℕ) → suc k ≡ k + 1
next_one k = omega arith

up_to : (k : ℕ) → k < 8 → suc k + (7 - k) ≡ 8
up_to k less = omega (arith, less)

module _ (f : Turn) (u : ℕ) (S : Residues) where
  suffices_not : (k m : ℕ) → (not (S k) || is_some (f (only_room k u))) ≡ false → suffices (suc k + m) f u S ≡ false
  suffices_not k zero h = subst (λ n. suffices n f u S ≡ false) (none_more k)
      (first_false (not (S k) || is_some (f (only_room k u))) (suffices k f u S) h)
  suffices_not k (suc m) h = subst (λ n. suffices n f u S ≡ false) (one_more k m)
      (second_false (not (S (suc k + m)) || is_some (f (only_room (suc k + m) u))) (suffices (suc k + m) f u S) (suffices_not k m h))

  pub suffices_more : (k : ℕ) (b : Bool) → suffices k f u S ≡ true → b ≡ (not (S k) || is_some (f (only_room k u))) → b ≡ true
      → suffices (k + 1) f u S ≡ true
  suffices_more k b h is e = subst (λ n. suffices n f u S ≡ true) (next_one k)
      (both_true (not (S k) || is_some (f (only_room k u))) (suffices k f u S) (sym is ∙ e) h)

  pub suffices_lacks : (k : ℕ) (b : Bool) → k < 8 → b ≡ (not (S k) || is_some (f (only_room k u))) → b ≡ false
      → false ≡ suffices 8 f u S
  suffices_lacks k b less is e = sym (subst (λ n. suffices n f u S ≡ false) (up_to k less) (suffices_not k (7 - k) (sym is ∙ e)))

  pub suffices_all : (k : ℕ) → suffices k f u S ≡ true → k ≡ 8 → true ≡ suffices 8 f u S
  suffices_all k h e = sym (subst (λ n. suffices n f u S ≡ true) e h)

pub unmarked : (m x y : Bool) → m ≡ x → m ≡ false → true ≡ (not x || y)
unmarked m true y is e = absurd cc
unmarked m false y is e = refl

pub marked : (m x y b : Bool) → m ≡ x → m ≡ true → b ≡ y → b ≡ (not x || y)
marked m true y b is e p = p
marked m false y b is e p = absurd cc

given_shown : (o : Option Rooms) → is_some (option_map each_of o) ≡ is_some o
given_shown None = refl
given_shown (Some S) = refl

-- whether a turn is refused shows in what follows it
pub some_shown : (f : Turn) (R : Rooms) (a : List (Option ℕ)) (x : Option (List (Option ℕ))) → a ≡ each_of R → Follows f a x
    → is_some x ≡ is_some (f R)
some_shown f R a x e p = ap is_some (p.told R e) ∙ given_shown (f R)

-- laps
pub lap_octets : (N : List Node) (lap k : Lap) (a : List (Option ℕ)) (x : Option (List (Option ℕ))) → lap ≡ k
    → Follows (turn_of N k) a x → Follows (turn_of N lap) a x
lap_octets N lap k a x e p = subst (λ (z : Lap). Follows (turn_of N z) a x) (sym e) p

pub lap_body : {E : Type 0} (N : List Node) (lap k : Lap) (a : List (Option ℕ)) (x : Result (Option (List (Option ℕ))) E) → lap ≡ k
    → IfOk x (λ y. Follows (turn_of N k) a y) → IfOk x (λ y. Follows (turn_of N lap) a y)
lap_body N lap k a x e p = subst (λ (z : Lap). IfOk x (λ y. Follows (turn_of N z) a y)) (sym e) p

pub bounded_if : {E : Type 0} (f : Turn) (most : Option ℕ) (m : ℕ) (a : List (Option ℕ)) (x : Result (Option (List (Option ℕ))) E)
    → few most ≡ Some m → IfOk x (λ y. Follows (turns m f) a y) → IfOk x (λ y. Follows (bounded_loop f most) a y)
bounded_if f most m a (Ok y) e p = bounded_turns f most m a y e p
bounded_if f most m a (Err g) e p = tt

-- the residues that a loop comes to
pub reach_shown : {E : Type 0} (g : Residues → Residues) (a : List (Option ℕ)) (m : List Bool) (r : Result (List Bool) E)
    → m ≡ each_of (reached (room_at a)) → IfOk r (λ b. Shown (closed g) m b)
    → IfOk r (λ b. (R : Rooms) → a ≡ each_of R → b ≡ each_of (closed g (reached R)))
reach_shown g a m (Ok b) is p = λ R e. p.told (reached R) (is ∙ ap (λ (l : List (Option ℕ)). each_of (reached (room_at l))) e)
reach_shown g a m (Err f) is p = tt
