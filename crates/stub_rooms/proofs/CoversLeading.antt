-- What one more operation, one more body and one more lap do to residues.
use Rattle.std.proofs.Common.{◌≡◌, ℕ, zero, suc, ◌+◌, ◌-◌, ◌<◌, ◌≤◌, ℤ, Bool, true, false, List, [], ◌∷◌, get_or, length, drop, if◌then◌else◌, Option, Some, None, Result, Ok, Err, IfOk, sym, ap, ◌∙◌, subst, arith}
use Rattle.std.proofs.Math.ListN.{drop_of_length-le}
use Rattle.std.proofs.Math.Seq.{drop-cons}
use Rattle.mint.specs.declared.node.Node.{Node}
use Rattle.cast_stub.specs.declared.send.SendOp.{SendOp}
use Rattle.cast_stub.specs.Block.{Block, stop, Cases, Piece, op_seen, code_seen, cases_seen}
use Rattle.stub_flat.specs.Places.{Spot, node_of, arm_spot, rest_spot}
use Rattle.stub_flat.specs.Residues.{Residues, every, none, sum, moved, closing, closed, is_within, size_first}
use Rattle.stub_flat.specs.Leaves.{leaves, ways_leave}
use Rattle.stub_rooms.specs.RoomsShown.{Shown}
use Rattle.stub_places.specs.Sets.{each_of, set_of}
use Rattle.stub_rooms.specs.CoversLap.{Leads, leaves_of}
use Rattle.stub_rooms.specs.declared.covers_lap.Lap.{Lap}
use Rattle.stub_rooms.proofs.RoomsLesser.{sum_assoc}

pub next_is : (i : ℕ) → suc i ≡ i + 1
next_is i = omega arith

pub first_op : (items : List SendOp) (i : ℕ) (o : SendOp) → i < length items → o ≡ get_or items i o
    → drop i items ≡ o ∷ drop (i + 1) items
first_op items i o less is = drop-cons items i o less ∙ ap (λ (z : SendOp). z ∷ drop (suc i) items) (sym is)
    ∙ ap (λ k. o ∷ drop k items) (next_is i)

pub first_case : (cases : List (ℤ × List SendOp)) (i : ℕ) (z : ℤ × List SendOp) → i < length cases → z ≡ get_or cases i z
    → drop i cases ≡ z ∷ drop (i + 1) cases
first_case cases i z less at = drop-cons cases i z less ∙ ap (λ (y : ℤ × List SendOp). y ∷ drop (suc i) cases) (sym at)
    ∙ ap (λ k. z ∷ drop k cases) (next_is i)

-- ---- operations

pub leads_by : (N : List Node) (s : Spot) (o : SendOp) (piece : Piece) (g : Residues → Residues) (a b : List Bool) → op_seen o ≡ piece
    → ((r : Block) (S : Residues) → leaves N s (piece r) S ≡ leaves N s r (g S)) → Shown g a b → Leads N s (op_seen o) a b
leads_by N s o piece g a b is same p =
    let made : Leads N s piece a b =
    record { rest = λ r x q. record { told = λ S e. q.told (g S) (p.told S e) ∙ ap each_of (sym (same r S)) } } in
    subst (λ (z : Piece). Leads N s z a b) (sym is) made

pub leads_if : {E : Type 0} (N : List Node) (s : Spot) (o : SendOp) (piece : Piece) (g : Residues → Residues) (a : List Bool)
    (x : Result (List Bool) E) → op_seen o ≡ piece
    → ((r : Block) (S : Residues) → leaves N s (piece r) S ≡ leaves N s r (g S)) → IfOk x (λ m. Shown g a m)
    → IfOk x (λ m. Leads N s (op_seen o) a m)
leads_if N s o piece g a (Ok m) is same p = leads_by N s o piece g a m is same p
leads_if N s o piece g a (Err e) is same p = tt

-- what may be there
pub sum_shown : (g : Residues → Residues) (a b c : List Bool) → Shown g a b → c ≡ each_of (sum (set_of a) (set_of b))
    → Shown (λ S. sum S (g S)) a c
sum_shown g a b c p is = record {
  told = λ S e. is ∙ ap (λ (l : List Bool). each_of (sum (set_of l) (set_of b))) e
      ∙ ap (λ (l : List Bool). each_of (sum S (set_of l))) (p.told S e);
}

pub every_shown : (a b : List Bool) → b ≡ each_of every → Shown (λ S. every) a b
every_shown a b is = record { told = λ S e. is }

-- a body over its place
pub each_shown : {E : Type 0} (N : List Node) (body : List SendOp) (s place : Spot) (a : List Bool) (x : Result (List Bool) E) → s ≡ place
    → IfOk x (λ m. Shown (closed (leaves N s (code_seen body))) a m) → IfOk x (λ m. Shown (closed (leaves N place (code_seen body))) a m)
each_shown N body s place a x e p = subst (λ (t : Spot). IfOk x (λ m. Shown (closed (leaves N t (code_seen body))) a m)) e p

pub some_shown : (N : List Node) (body : List SendOp) (s place : Spot) (a b : List Bool) → s ≡ place
    → Shown (leaves N s (code_seen body)) a b → Shown (leaves N place (code_seen body)) a b
some_shown N body s place a b e p = subst (λ (t : Spot). Shown (leaves N t (code_seen body)) a b) e p

pub ways_at_place : {E : Type 0} (N : List Node) (cs : Cases) (s place : Spot) (a : List Bool) (x : Result (List Bool) E) → s ≡ place
    → IfOk x (λ m. Shown (ways_leave N (node_of N s) cs cs) a m) → IfOk x (λ m. Shown (ways_leave N (node_of N place) cs cs) a m)
ways_at_place N cs s place a x e p = subst (λ (t : Spot). IfOk x (λ m. Shown (ways_leave N (node_of N t) cs cs) a m)) e p

pub row_shown : {E : Type 0} (w width : ℕ) (a : List Bool) (x : Result (List Bool) E) → w ≡ width
    → IfOk x (λ m. Shown (closed (moved w)) a m) → IfOk x (λ m. Shown (closed (moved width)) a m)
row_shown w width a x e p = subst (λ k. IfOk x (λ m. Shown (closed (moved k)) a m)) e p

-- how many residues are not there
pub size_left : (a : List Bool) (n laps : ℕ) → n ≡ size_first 8 (set_of a) → laps ≡ 8 - n → laps ≡ 8 - size_first 8 (set_of a)
size_left a n laps is e = e ∙ ap (λ k. 8 - k) is

-- what is left of a block
pub record Left (N : List Node) (s : Spot) (ops rest : List SendOp) (a b : List Bool) : Type 0 where
  pub lead : (x : List Bool) → Shown (leaves N s (code_seen rest)) b x → Shown (leaves N s (code_seen ops)) a x

pub left_all : (N : List Node) (s : Spot) (ops : List SendOp) (a : List Bool) → Left N s ops ops a a
left_all N s ops a = record { lead = λ x p. p }

pub left_one : (N M : List Node) (s : Spot) (ops items : List SendOp) (i : ℕ) (o : SendOp) (a b c : List Bool) → i < length items
    → o ≡ get_or items i o → M ≡ N → Left N s ops (drop i items) a b → Leads M s (op_seen o) b c → Left N s ops (drop (i + 1) items) a c
left_one N M s ops items i o a b c less is same left leads = record {
  lead = λ x p. left.lead x (subst (λ (l : List SendOp). Shown (leaves N s (code_seen l)) b x) (sym (first_op items i o less is))
      ((subst (λ (L : List Node). Leads L s (op_seen o) b c) same leads).rest (code_seen (drop (i + 1) items)) x p));
}

shown_stop : (N : List Node) (s : Spot) (b : List Bool) → Shown (leaves N s stop) b b
shown_stop N s b = record { told = λ S e. e }

pub left_none : (N : List Node) (s : Spot) (ops items : List SendOp) (i : ℕ) (a b : List Bool) → length items ≤ i → items ≡ ops
    → Left N s items (drop i items) a b → Shown (leaves N s (code_seen ops)) a b
left_none N s ops items i a b le same left =
    subst (λ (l : List SendOp). Shown (leaves N s (code_seen l)) a b) same
    (left.lead b (subst (λ (l : List SendOp). Shown (leaves N s (code_seen l)) b b) (sym (drop_of_length-le items le))
    (shown_stop N s b)))

-- ---- bodies of a switch

-- what is left of the bodies of a switch
pub record WaysLeft (N : List Node) (n : Option Node) (all cs rest : Cases) (a b : List Bool) : Type 0 where
  pub lead : (x : List Bool) → ((S : Residues) → a ≡ each_of S → x ≡ each_of (sum (set_of b) (ways_leave N n all rest S)))
      → Shown (ways_leave N n all cs) a x

pub ways_all : (N : List Node) (n : Option Node) (all cs : Cases) (a b : List Bool) → b ≡ each_of none → WaysLeft N n all cs cs a b
ways_all N n all cs a b is = record {
  lead = λ x p. record {
    told = λ S e. p S e ∙ ap (λ (l : List Bool). each_of (sum (set_of l) (ways_leave N n all cs S))) is;
  };
}

-- one body more
more_ways : (a b c d x : List Bool) (S W : Residues) (g : Residues → Residues) → Shown g a c → d ≡ each_of (sum (set_of b) (set_of c))
    → a ≡ each_of S → x ≡ each_of (sum (set_of d) W) → x ≡ each_of (sum (set_of b) (sum (g S) W))
more_ways a b c d x S W g shown is e p =
    p ∙ ap (λ (l : List Bool). each_of (sum (set_of l) W))
    (is ∙ ap (λ (l : List Bool). each_of (sum (set_of b) (set_of l))) (shown.told S e))
    ∙ sum_assoc b (g S) W

module _ (N : List Node) (n : Option Node) (all cs : Cases) (items : List (ℤ × List SendOp)) (last : Option (List SendOp)) (i : ℕ)
    (a b : List Bool) (left : WaysLeft N n all cs (cases_seen (drop i items) last) a b) where
  pub ways_one : (z : ℤ × List SendOp) (spot : Spot) (c d : List Bool) → i < length items → z ≡ get_or items i z → spot ≡ arm_spot n z.0
      → Shown (leaves N spot (code_seen z.1)) a c → d ≡ each_of (sum (set_of b) (set_of c))
      → WaysLeft N n all cs (cases_seen (drop (i + 1) items) last) a d
  ways_one z spot c d less at place shown is = record {
    lead = λ x p. left.lead x (λ S e. more_ways a b c d x S (ways_leave N n all (cases_seen (drop (i + 1) items) last) S)
        (leaves N (arm_spot n z.0) (code_seen z.1)) (subst (λ (t : Spot). Shown (leaves N t (code_seen z.1)) a c) place shown) is e (p S e)
        ∙ ap (λ (l : List (ℤ × List SendOp)). each_of (sum (set_of b) (ways_leave N n all (cases_seen l last) S)))
        (sym (first_case items i z less at)));
  }

  over : length items ≤ i → WaysLeft N n all cs (cases_seen [] last) a b
  over le = subst (λ (l : List (ℤ × List SendOp)). WaysLeft N n all cs (cases_seen l last) a b) (drop_of_length-le items le) left

  pub ways_last : (body : List SendOp) (spot : Spot) (c d : List Bool) → length items ≤ i → last ≡ Some body → spot ≡ rest_spot n all
      → Shown (leaves N spot (code_seen body)) a c → d ≡ each_of (sum (set_of b) (set_of c)) → Shown (ways_leave N n all cs) a d
  ways_last body spot c d le is at shown e =
      (subst (λ (l : Option (List SendOp)). WaysLeft N n all cs (cases_seen [] l) a b) is (over le)).lead d
      (λ S f. e ∙ ap (λ (l : List Bool). each_of (sum (set_of b) (set_of l)))
      ((subst (λ (t : Spot). Shown (leaves N t (code_seen body)) a c) at shown).told S f))

  pub ways_end : (c d : List Bool) → length items ≤ i → last ≡ None → c ≡ each_of none → d ≡ each_of (sum (set_of b) (set_of c))
      → Shown (ways_leave N n all cs) a d
  ways_end c d le is empty e =
      (subst (λ (l : Option (List SendOp)). WaysLeft N n all cs (cases_seen [] l) a b) is (over le)).lead d
      (λ S f. e ∙ ap (λ (l : List Bool). each_of (sum (set_of b) (set_of l))) empty)

-- the bodies of a switch, as the loop goes over them
pub ways_seen : (N : List Node) (n : Option Node) (all : Cases) (items cases : List (ℤ × List SendOp)) (last : Option (List SendOp))
    (a b : List Bool) → items ≡ cases → Shown (ways_leave N n all (cases_seen items last)) a b
    → Shown (ways_leave N n all (cases_seen cases last)) a b
ways_seen N n all items cases last a b same p =
    subst (λ (l : List (ℤ × List SendOp)). Shown (ways_leave N n all (cases_seen l last)) a b) same p

-- ---- laps

-- what is left of a closure after so many laps
pub record Closing (g : Residues → Residues) (a b : List Bool) (laps i : ℕ) : Type 0 where
  pub size : laps ≡ 8 - size_first 8 (set_of a)
  pub lead : (x : List Bool) → Shown (closing (laps - i) g) b x → Shown (closing laps g) a x

all_left : (n : ℕ) → n - 0 ≡ n
all_left n = omega arith

pub closing_none : (g : Residues → Residues) (a b : List Bool) (laps : ℕ) → laps ≡ 8 - size_first 8 (set_of a) → b ≡ a
    → Closing g a b laps 0
closing_none g a b laps is same = record {
  size = is;
  lead = λ x p. subst (λ (l : List Bool). Shown (closing laps g) l x) same (subst (λ k. Shown (closing k g) b x) (all_left laps) p);
}

is_closed : (g : Residues → Residues) (a x : List Bool) (laps : ℕ) → laps ≡ 8 - size_first 8 (set_of a) → Shown (closing laps g) a x
    → Shown (closed g) a x
is_closed g a x laps is p = record {
  told = λ S e. p.told S e ∙ ap (λ k. each_of (closing k g S))
      (is ∙ ap (λ (l : List Bool). 8 - size_first 8 (set_of l)) e);
}

-- the first lap of those that are left
one_left : (laps i : ℕ) → i < laps → laps - i ≡ suc (laps - (i + 1))
one_left laps i less = omega arith

-- whether a lap leads elsewhere, as lists show it
within_shown : (g : Residues → Residues) (b c : List Bool) (S : Residues) → b ≡ each_of S → Shown g b c
    → is_within (g S) S ≡ is_within (set_of c) (set_of b)
within_shown g b c S e lap =
    ap (λ (l : List Bool). is_within (g S) (set_of l)) (sym e)
    ∙ ap (λ (l : List Bool). is_within (set_of l) (set_of b)) (sym (lap.told S e))

closing_kept : (g : Residues → Residues) (n : ℕ) (S : Residues) → is_within (g S) S ≡ true → closing (suc n) g S ≡ S
closing_kept g n S w = ap (λ (t : Bool). if t then S else closing n g (sum S (g S))) w

closing_on : (g : Residues → Residues) (n : ℕ) (S : Residues) → is_within (g S) S ≡ false → closing (suc n) g S ≡ closing n g (sum S (g S))
closing_on g n S w = ap (λ (t : Bool). if t then S else closing n g (sum S (g S))) w

kept_closing : (g : Residues → Residues) (b c : List Bool) (n : ℕ) → Shown g b c → is_within (set_of c) (set_of b) ≡ true
    → Shown (closing (suc n) g) b b
kept_closing g b c n lap within = record {
  told = λ S e. e ∙ ap each_of (sym (closing_kept g n S (within_shown g b c S e lap ∙ within)));
}

on_closing : (g : Residues → Residues) (b c d x : List Bool) (n : ℕ) → Shown g b c → is_within (set_of c) (set_of b) ≡ false
    → d ≡ each_of (sum (set_of b) (set_of c)) → Shown (closing n g) d x → Shown (closing (suc n) g) b x
on_closing g b c d x n lap without is p = record {
  told = λ S e. p.told (sum S (g S)) (is ∙ ap (λ (l : List Bool). each_of (sum (set_of l) (set_of c))) e
      ∙ ap (λ (l : List Bool). each_of (sum S (set_of l))) (lap.told S e))
      ∙ ap each_of (sym (closing_on g n S (within_shown g b c S e lap ∙ without)));
}

itself : (b : List Bool) → Shown (λ S. S) b b
itself b = record { told = λ S e. e }

-- a lap leads nowhere else
pub closing_within : (g : Residues → Residues) (a b c : List Bool) (laps i : ℕ) → Closing g a b laps i → i < laps → Shown g b c
    → is_within (set_of c) (set_of b) ≡ true → Shown (closed g) a b
closing_within g a b c laps i left less lap within =
    is_closed g a b laps left.size (left.lead b (subst (λ k. Shown (closing k g) b b) (sym (one_left laps i less))
    (kept_closing g b c (laps - (i + 1)) lap within)))

-- a lap leads elsewhere
pub closing_more : (g : Residues → Residues) (a b c d : List Bool) (laps i : ℕ) → Closing g a b laps i → i < laps → Shown g b c
    → is_within (set_of c) (set_of b) ≡ false → d ≡ each_of (sum (set_of b) (set_of c)) → Closing g a d laps (i + 1)
closing_more g a b c d laps i left less lap without is = record {
  size = left.size;
  lead = λ x p. left.lead x (subst (λ k. Shown (closing k g) b x) (sym (one_left laps i less))
      (on_closing g b c d x (laps - (i + 1)) lap without is p));
}

none_left : (n i : ℕ) → n ≤ i → n - i ≡ zero
none_left n i le = omega (arith, le)

-- all laps are made
pub closing_all : (g : Residues → Residues) (a b : List Bool) (laps i : ℕ) → Closing g a b laps i → laps ≤ i → Shown (closed g) a b
closing_all g a b laps i left le =
    is_closed g a b laps left.size (left.lead b (subst (λ k. Shown (closing k g) b b) (sym (none_left laps i le)) (itself b)))

-- a lap
pub lap_moved : (N : List Node) (lap k : Lap) (a b : List Bool) → lap ≡ k → Shown (leaves_of N k) a b → Shown (leaves_of N lap) a b
lap_moved N lap k a b e p = subst (λ (z : Lap). Shown (leaves_of N z) a b) (sym e) p

pub lap_led : {E : Type 0} (N : List Node) (lap k : Lap) (a : List Bool) (x : Result (List Bool) E) → lap ≡ k
    → IfOk x (λ m. Shown (leaves_of N k) a m) → IfOk x (λ m. Shown (leaves_of N lap) a m)
lap_led N lap k a x e p = subst (λ (z : Lap). IfOk x (λ m. Shown (leaves_of N z) a m)) (sym e) p
