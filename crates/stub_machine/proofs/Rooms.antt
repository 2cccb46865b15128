-- Steps that have their room run, and lead to what they write and cost, by induction on the steps.
use Rattle.std.proofs.Common.{◌≡◌, ℕ, zero, suc, ◌+◌, ◌-◌, ◌^◌, ◌%◌, ◌≤◌, max, List, [], ◌∷◌, ◌++◌, length, replicate, Option, None, Some, refl, sym, ap, subst, ◌∙◌, arith, append_assoc, length-append, Bool, true, false, nat_le, if◌then◌else◌, ◌&&◌}
use Rattle.std.proofs.lemmas.List.{length-replicate}
use Rattle.std.proofs.lemmas.Bool.{le-leb, leb-true}
use Rattle.kit_base.specs.Bytes.{written}
use Rattle.kit_base.specs.Causes.{raised}
use Rattle.wire_def.specs.Scalars.{gap}
use Rattle.wire_def.specs.declared.head.Order.{Order}
use Rattle.raw_buf.specs.declared.tally.Tally.{Tally}
use Rattle.raw_buf.specs.Buf.{checked, moved, stored, rowed}
use Rattle.wire_def.specs.Orders.{in_order}
use Rattle.raw_buf.proofs.Views.{written-after}
use Rattle.raw_buf.proofs.Wording.{tally}
use Rattle.cast_stub.specs.Parts.{on_some, IsThere}
use Rattle.cast_stub.specs.Steps.{Step, Room, Pad, Stored, Widened, Copied, Patched}
use Rattle.cast_stub.specs.Meaning.{wrote, Cost, no_cost, sum, cost_of, costs, HasRoom}
use Rattle.stub_machine.specs.Run.{State, stored_times, appended, ran}
use Rattle.stub_machine.specs.Sending.{paid}
use Rattle.cast_stub.proofs.Patched.{length-written, four}

abbrev pub state : List ℕ → ℕ → Tally → Tally → State
state d a t u = record { done = d; ahead = a; tally = t; spent = u }

-- ---- octets over others

written-front : (a b octets : List ℕ) (at : ℕ) → length a ≤ at → written (a ++ b) at octets ≡ a ++ written b (at - length a) octets
written-front a b octets at h =
    let e : length a + (at - length a) ≡ at = omega arith in
    ap (λ (k : ℕ). written (a ++ b) k octets) (sym e) ∙ written-after a b octets (at - length a)

-- the octets of a length, over four of those after others
abbrev put_over : ℕ → ℕ → Order → List ℕ → List ℕ
put_over at sub order d = written d at (in_order order 4 ((length d + 2 ^ 32 - sub) % 2 ^ 32))

abbrev put_after : List ℕ → ℕ → ℕ → Order → List ℕ → List ℕ
put_after d at sub order o = written o (at - length d) (in_order order 4 ((length d + length o + 2 ^ 32 - sub) % 2 ^ 32))

put-same : (d o : List ℕ) (at sub : ℕ) (order : Order) → length d ≤ at → put_over at sub order (d ++ o) ≡ d ++ put_after d at sub order o
put-same d o at sub order h =
    ap (λ (k : ℕ). written (d ++ o) at (in_order order 4 ((k + 2 ^ 32 - sub) % 2 ^ 32))) (length-append d o)
    ∙ written-front d o (in_order order 4 ((length d + length o + 2 ^ 32 - sub) % 2 ^ 32)) at h

put-long : (d o : List ℕ) (at sub : ℕ) (order : Order) → length d ≤ at → at + 4 ≤ length d + length o
    → length (put_after d at sub order o) ≡ length o
put-long d o at sub order h k =
    let x = in_order order 4 ((length d + length o + 2 ^ 32 - sub) % 2 ^ 32) in
    length-written (at - length d) x o (omega (arith, four order ((length d + length o + 2 ^ 32 - sub) % 2 ^ 32)))

pub record Within (x y : Bool) (z : List ℕ) (f : List ℕ → Option (List ℕ)) : Type 0 where
  pub first : x ≡ true
  pub second : y ≡ true
  pub rest : IsThere (f z)

pub within : (x y : Bool) (z : List ℕ) (f : List ℕ → Option (List ℕ)) → IsThere (on_some (if x && y then Some z else None) f)
    → Within x y z f
within true true z f h = record { first = refl; second = refl; rest = h }
within true false z f h = absurd h
within false y z f h = absurd h

-- ---- steps that have their room

there_if : (b : Bool) (t : State) (ss : List Step) → b ≡ true → IsThere (ran ss t) → IsThere (on_some (if b then Some t else None) (ran ss))
there_if true t ss e h = h
there_if false t ss e h = absurd cc

-- octets that are appended out of the room
room_append : (d o os : List ℕ) (a : ℕ) (t u : Tally) (cost : Tally → Tally) (ss : List Step) → length os ≤ a
    → (HasRoom (length d + length (o ++ os)) (a - length os) ss
    → IsThere (ran ss (state (d ++ (o ++ os)) (a - length os) (cost t) (cost u))))
    → HasRoom (length d + length o + length os) (a - length os) ss
    → IsThere (on_some (appended os cost (state (d ++ o) a t u)) (ran ss))
room_append d o os a t u cost ss fits go room =
    let far : length d + length o + length os ≡ length d + length (o ++ os) = omega (arith, length-append o os) in
    there_if (nat_le (length os) a) (state (d ++ o ++ os) (a - length os) (cost t) (cost u)) ss (le-leb (length os) a fits)
    (subst (λ (x : List ℕ). IsThere (ran ss (state x (a - length os) (cost t) (cost u)))) (sym (append_assoc d o os))
    (go (subst (λ (k : ℕ). HasRoom k (a - length os) ss) far room)))

room_patch : (d o : List ℕ) (a : ℕ) (t u : Tally) (at sub : ℕ) (order : Order) (ss : List Step) → length d ≤ at
    → at + 4 ≤ length d + length o
    → (HasRoom (length d + length (put_after d at sub order o)) a ss → IsThere (ran ss (state (d ++ put_after d at sub order o) a t u)))
    → HasRoom (length d + length o) a ss
    → IsThere (on_some (if nat_le (at + 4) (length (d ++ o)) then Some (state (put_over at sub order (d ++ o)) a t u) else None) (ran ss))
room_patch d o a t u at sub order ss low high go room =
    there_if (nat_le (at + 4) (length (d ++ o))) (state (put_over at sub order (d ++ o)) a t u) ss
    (le-leb (at + 4) (length (d ++ o)) (omega (arith, length-append d o)))
    (subst (λ (x : List ℕ). IsThere (ran ss (state x a t u))) (sym (put-same d o at sub order low))
    (go (subst (λ (k : ℕ). HasRoom (length d + k) a ss) (sym (put-long d o at sub order low high)) room)))

pub room-runs : (d o : List ℕ) (a : ℕ) (t u : Tally) (ss : List Step) → IsThere (wrote (length d) o ss) → HasRoom (length d + length o) a ss
    → IsThere (ran ss (state (d ++ o) a t u))
room-runs d o a t u [] w h = tt
room-runs d o a t u (Room n ∷ ss) w h = room-runs d o (max n a) (checked t) (checked u) ss w h
room-runs d o a t u (Pad x ∷ ss) w h =
    let os = replicate (gap (length d + length o) x) 0 in
    let n : length os ≡ gap (length d + length o) x = length-replicate (gap (length d + length o) x) 0 in
    let room : HasRoom (length d + length o + length os) (a - length os) ss =
    subst (λ (k : ℕ). HasRoom (length d + length o + k) (a - k) ss) (sym n) h.1 in
    subst (λ (k : ℕ). IsThere (on_some (appended (replicate (gap k x) 0) moved (state (d ++ o) a t u)) (ran ss))) (sym (length-append d o))
    (room_append d o os a t u moved ss (omega (arith, h.0)) (λ r. room-runs d (o ++ os) (a - length os) (moved t) (moved u) ss w r) room)
room-runs d o a t u (Stored os k ∷ ss) w h =
    room_append d o os a t u (λ z. moved (stored_times k z)) ss h.0
    (λ r. room-runs d (o ++ os) (a - length os) (moved (stored_times k t)) (moved (stored_times k u)) ss w r) h.1
room-runs d o a t u (Widened os k ∷ ss) w h =
    room_append d o os a t u (λ z. moved (stored_times k z)) ss h.0
    (λ r. room-runs d (o ++ os) (a - length os) (moved (stored_times k t)) (moved (stored_times k u)) ss w r) h.1
room-runs d o a t u (Copied os ∷ ss) w h =
    room_append d o os a t u rowed ss h.0 (λ r. room-runs d (o ++ os) (a - length os) (rowed t) (rowed u) ss w r) h.1
room-runs d o a t u (Patched at sub order ∷ ss) w h =
    let p = within (nat_le (length d) at) (nat_le (at + 4) (length d + length o)) (put_after d at sub order o) (λ z. wrote (length d) z ss)
    w in
    room_patch d o a (stored t) (stored u) at sub order ss (leb-true (length d) at p.first)
    (leb-true (at + 4) (length d + length o) p.second)
    (λ r. room-runs d (put_after d at sub order o) a (stored t) (stored u) ss p.rest r) h

-- ---- what counts become

raised-zero : (n : ℕ) → raised n 0 ≡ n
raised-zero n = omega arith

raised-sum : (n a b : ℕ) → raised (raised n a) b ≡ raised n (a + b)
raised-sum n a b = omega arith

same_tally : (a a' b b' c c' d d' : ℕ) → a ≡ a' → b ≡ b' → c ≡ c' → d ≡ d' → tally a b c d ≡ tally a' b' c' d'
same_tally a a' b b' c c' d d' p q r s = rw (p, q, r, s) refl

paid-none : (t : Tally) → t ≡ paid t no_cost
paid-none t = same_tally _ _ _ _ _ _ _ _ (sym (raised-zero t.checks)) (sym (raised-zero t.moves)) (sym (raised-zero t.stores))
    (sym (raised-zero t.rows))

paid-sum : (t : Tally) (a b : Cost) → paid (paid t a) b ≡ paid t (sum a b)
paid-sum t a b = same_tally _ _ _ _ _ _ _ _ (raised-sum t.checks a.checks b.checks) (raised-sum t.moves a.moves b.moves)
    (raised-sum t.stores a.stores b.stores) (raised-sum t.rows a.rows b.rows)

checked-paid : (t : Tally) (n : ℕ) → checked t ≡ paid t (cost_of (Room n))
checked-paid t n = same_tally _ _ _ _ _ _ _ _ refl (sym (raised-zero t.moves)) (sym (raised-zero t.stores)) (sym (raised-zero t.rows))

moved-paid : (t : Tally) (n : ℕ) → moved t ≡ paid t (cost_of (Pad n))
moved-paid t n = same_tally _ _ _ _ _ _ _ _ (sym (raised-zero t.checks)) refl (sym (raised-zero t.stores)) (sym (raised-zero t.rows))

patched-paid : (t : Tally) (at sub : ℕ) (order : Order) → stored t ≡ paid t (cost_of (Patched at sub order))
patched-paid t at sub order =
    same_tally _ _ _ _ _ _ _ _ (sym (raised-zero t.checks)) (sym (raised-zero t.moves)) refl (sym (raised-zero t.rows))

abbrev puts_more : ℕ → Tally → Tally
puts_more k t = tally t.checks t.moves (raised t.stores k) t.rows

times-raised : (k : ℕ) (t : Tally) → stored_times k t ≡ puts_more k t
times-raised zero t = same_tally _ _ _ _ _ _ _ _ refl refl (sym (raised-zero t.stores)) refl
times-raised (suc k) t =
    let one : raised (raised t.stores 1) k ≡ raised t.stores (suc k) = omega arith in
    times-raised k (stored t) ∙ same_tally _ _ _ _ _ _ _ _ refl refl one refl

stored-paid : (t : Tally) (os : List ℕ) (k : ℕ) → moved (stored_times k t) ≡ paid t (cost_of (Stored os k))
stored-paid t os k =
    ap moved (times-raised k t) ∙ same_tally _ _ _ _ _ _ _ _ (sym (raised-zero t.checks)) refl refl (sym (raised-zero t.rows))

widened-paid : (t : Tally) (os : List ℕ) (k : ℕ) → moved (stored_times k t) ≡ paid t (cost_of (Widened os k))
widened-paid t os k = stored-paid t os k

copied-paid : (t : Tally) (os : List ℕ) → rowed t ≡ paid t (cost_of (Copied os))
copied-paid t os = same_tally _ _ _ _ _ _ _ _ (sym (raised-zero t.checks)) (sym (raised-zero t.moves)) (sym (raised-zero t.stores)) refl

-- ---- where steps lead

pub record LeadsTo (d w : List ℕ) (ss : List Step) (t u : Tally) (s : State) : Type 0 where
  pub done : s.done ≡ d ++ w
  pub tally : s.tally ≡ paid t (costs ss)
  pub spent : s.spent ≡ paid u (costs ss)

paid_first : (t t' : Tally) (x : Step) (ss : List Step) (z : Tally) → z ≡ paid t' (costs ss) → t' ≡ paid t (cost_of x)
    → z ≡ paid t (costs (x ∷ ss))
paid_first t t' x ss z e p = e ∙ ap (λ (y : Tally). paid y (costs ss)) p ∙ paid-sum t (cost_of x) (costs ss)

with_first : (d w : List ℕ) (x : Step) (ss : List Step) (t t' u u' : Tally) (s : State) → t' ≡ paid t (cost_of x)
    → u' ≡ paid u (cost_of x) → LeadsTo d w ss t' u' s
    → LeadsTo d w (x ∷ ss) t u s
with_first d w x ss t t' u u' s p q l =
    record { done = l.done; tally = paid_first t t' x ss s.tally l.tally p; spent = paid_first u u' x ss s.spent l.spent q }

past_if : (b : Bool) (x : State) (ss : List Step) (s : State) → on_some (if b then Some x else None) (ran ss) ≡ Some s → ran ss x ≡ Some s
past_if true x ss s e = e
past_if false x ss s e = absurd cc

past_append : (d o os : List ℕ) (a : ℕ) (t u : Tally) (cost : Tally → Tally) (ss : List Step) (s : State)
    → on_some (appended os cost (state (d ++ o) a t u)) (ran ss) ≡ Some s
    → ran ss (state (d ++ (o ++ os)) (a - length os) (cost t) (cost u)) ≡ Some s
past_append d o os a t u cost ss s e =
    ap (λ (x : List ℕ). ran ss (state x (a - length os) (cost t) (cost u))) (sym (append_assoc d o os))
    ∙ past_if (nat_le (length os) a) (state (d ++ o ++ os) (a - length os) (cost t) (cost u)) ss s e

of_wrote : (x y : Bool) (z w : List ℕ) (f : List ℕ → Option (List ℕ)) → on_some (if x && y then Some z else None) f ≡ Some w
    → (x ≡ true) × (f z ≡ Some w)
of_wrote true true z w f e = (refl, e)
of_wrote true false z w f e = absurd cc
of_wrote false y z w f e = absurd cc

pub ran-leads : (d o w : List ℕ) (a : ℕ) (t u : Tally) (ss : List Step) (s : State) → wrote (length d) o ss ≡ Some w
    → ran ss (state (d ++ o) a t u) ≡ Some s
    → LeadsTo d w ss t u s
ran-leads d o w a t u [] s is e =
    let end : state (d ++ o) a t u ≡ s = cc in
    let same : o ≡ w = cc in
    record {
      done = ap (λ (x : State). x.done) (sym end) ∙ ap (λ (x : List ℕ). d ++ x) same;
      tally = ap (λ (x : State). x.tally) (sym end) ∙ paid-none t;
      spent = ap (λ (x : State). x.spent) (sym end) ∙ paid-none u;
    }
ran-leads d o w a t u (Room n ∷ ss) s is e =
    with_first d w (Room n) ss t (checked t) u (checked u) s (checked-paid t n) (checked-paid u n)
    (ran-leads d o w (max n a) (checked t) (checked u) ss s is e)
ran-leads d o w a t u (Pad x ∷ ss) s is e =
    let os = replicate (gap (length d + length o) x) 0 in
    let e' : on_some (appended os moved (state (d ++ o) a t u)) (ran ss) ≡ Some s =
    subst (λ (k : ℕ). on_some (appended (replicate (gap k x) 0) moved (state (d ++ o) a t u)) (ran ss) ≡ Some s) (length-append d o) e in
    with_first d w (Pad x) ss t (moved t) u (moved u) s (moved-paid t x) (moved-paid u x)
    (ran-leads d (o ++ os) w (a - length os) (moved t) (moved u) ss s is (past_append d o os a t u moved ss s e'))
ran-leads d o w a t u (Stored os k ∷ ss) s is e =
    with_first d w (Stored os k) ss t (moved (stored_times k t)) u (moved (stored_times k u)) s (stored-paid t os k) (stored-paid u os k)
    (ran-leads d (o ++ os) w (a - length os) (moved (stored_times k t)) (moved (stored_times k u)) ss s is
    (past_append d o os a t u (λ z. moved (stored_times k z)) ss s e))
ran-leads d o w a t u (Widened os k ∷ ss) s is e =
    with_first d w (Widened os k) ss t (moved (stored_times k t)) u (moved (stored_times k u)) s (widened-paid t os k) (widened-paid u os k)
    (ran-leads d (o ++ os) w (a - length os) (moved (stored_times k t)) (moved (stored_times k u)) ss s is
    (past_append d o os a t u (λ z. moved (stored_times k z)) ss s e))
ran-leads d o w a t u (Copied os ∷ ss) s is e =
    with_first d w (Copied os) ss t (rowed t) u (rowed u) s (copied-paid t os) (copied-paid u os)
    (ran-leads d (o ++ os) w (a - length os) (rowed t) (rowed u) ss s is (past_append d o os a t u rowed ss s e))
ran-leads d o w a t u (Patched at sub order ∷ ss) s is e =
    let k = of_wrote (nat_le (length d) at) (nat_le (at + 4) (length d + length o)) (put_after d at sub order o) w
    (λ z. wrote (length d) z ss) is in
    let e' : ran ss (state (put_over at sub order (d ++ o)) a (stored t) (stored u)) ≡ Some s =
    past_if (nat_le (at + 4) (length (d ++ o))) (state (put_over at sub order (d ++ o)) a (stored t) (stored u)) ss s e in
    with_first d w (Patched at sub order) ss t (stored t) u (stored u) s (patched-paid t at sub order) (patched-paid u at sub order)
    (ran-leads d (put_after d at sub order o) w a (stored t) (stored u) ss s k.1
    (ap (λ (x : List ℕ). ran ss (state x a (stored t) (stored u))) (sym (put-same d o at sub order (leb-true (length d) at k.0))) ∙ e'))
