-- What a buffer has spent does not fall, whatever is run, by induction on the steps.
use Rattle.std.proofs.Common.{◌≡◌, ℕ, zero, suc, ◌+◌, List, [], ◌∷◌, length, replicate, Some, None, Bool, true, false, nat_le, if◌then◌else◌, subst}
use Rattle.wire_def.specs.Scalars.{gap}
use Rattle.raw_buf.specs.declared.tally.Tally.{Tally}
use Rattle.raw_buf.specs.Buf.{NoneFell, moved, stored}
use Rattle.raw_buf.proofs.Standing.{none_fell-refl, none_fell-trans, none_fell-checked, none_fell-moved, none_fell-stored, none_fell-rowed}
use Rattle.cast_stub.specs.Steps.{Step, Room, Pad, Stored, Widened, Copied, Patched, Steps}
use Rattle.stub_machine.specs.Run.{State, stored_times, act, ran, Ends}
use Rattle.cast_stub.proofs.Filled.{opened}

stored-stands : (k : ℕ) (t : Tally) → NoneFell t (stored_times k t)
stored-stands zero t = none_fell-refl t
stored-stands (suc k) t = none_fell-trans t (stored t) (stored_times k (stored t)) (none_fell-stored t) (stored-stands k (stored t))

kept_stands : (s t u : State) → NoneFell s.spent t.spent → Some t ≡ Some u → NoneFell s.spent u.spent
kept_stands s t u n e =
    let same : t ≡ u = cc in
    subst (λ (x : State). NoneFell s.spent x.spent) same n

chosen_stands : (b : Bool) (s t u : State) → NoneFell s.spent t.spent → (if b then Some t else None) ≡ Some u → NoneFell s.spent u.spent
chosen_stands true s t u n e = kept_stands s t u n e
chosen_stands false s t u n e = absurd cc

act-stands : (x : Step) (s u : State) → act x s ≡ Some u → NoneFell s.spent u.spent
act-stands (Room n) s u e = kept_stands s _ u (none_fell-checked s.spent) e
act-stands (Pad a) s u e = chosen_stands (nat_le (length (replicate (gap (length s.done) a) 0)) s.ahead) s _ u (none_fell-moved s.spent) e
act-stands (Stored o k) s u e =
    chosen_stands (nat_le (length o) s.ahead) s _ u
    (none_fell-trans s.spent (stored_times k s.spent) (moved (stored_times k s.spent)) (stored-stands k s.spent)
    (none_fell-moved (stored_times k s.spent))) e
act-stands (Widened o k) s u e =
    chosen_stands (nat_le (length o) s.ahead) s _ u
    (none_fell-trans s.spent (stored_times k s.spent) (moved (stored_times k s.spent)) (stored-stands k s.spent)
    (none_fell-moved (stored_times k s.spent))) e
act-stands (Copied o) s u e = chosen_stands (nat_le (length o) s.ahead) s _ u (none_fell-rowed s.spent) e
act-stands (Patched at sub order) s u e = chosen_stands (nat_le (at + 4) (length s.done)) s _ u (none_fell-stored s.spent) e

ran-stands : (ss : List Step) (s u : State) → ran ss s ≡ Some u → NoneFell s.spent u.spent
ran-stands [] s u e = kept_stands s s u (none_fell-refl s.spent) e
ran-stands (x ∷ ss) s u e =
    let k = opened (act x s) (ran ss) u e in
    none_fell-trans s.spent (k.0).spent u.spent (act-stands x s k.0 k.1) (ran-stands ss k.0 u k.2)

pub ended-stands : (x : Steps) (s u : State) → Ends x s u → NoneFell s.spent u.spent
ended-stands None s u e = absurd cc
ended-stands (Some ss) s u e = ran-stands ss s u e
