-- A run as a whole.
use Rattle.std.proofs.Common.{◌≡◌, ℕ, ◌+◌, ◌<◌, List, [], ◌++◌, length, Option, None, Some, option_map, refl, sym, ap, subst, ◌∙◌, arith, length-append, Result, Ok, Err, OnOk, OnErr}
use Rattle.std.proofs.lemmas.List.{append-nil}
use Rattle.raw_buf.specs.Buf.{Buf, NoneFell}
use Rattle.cast_stub.specs.Parts.{on_some, IsThere}
use Rattle.cast_stub.specs.Steps.{Step, Steps}
use Rattle.cast_stub.specs.Meaning.{wrote, costs, HasRoom, AreCovered}
use Rattle.cast_stub.proofs.Folding.{room-more}
use Rattle.stub_machine.specs.Run.{State, state_of, ran, Runs, Ends, Grown}
use Rattle.kit_base.specs.Limits.{longest_message}
use Rattle.stub_machine.specs.Sending.{paid, IsLong}
use Rattle.stub_machine.proofs.Spending.{ended-stands}
use Rattle.stub_machine.proofs.Rooms.{state, room-runs, ran-leads}

pub covered-runs : (x : Steps) (b : Buf) → AreCovered x (length b.done) → Runs x (state_of b)
covered-runs None b h = absurd h
covered-runs (Some ss) b h =
    let none : length b.done ≡ length b.done + length {A = ℕ} [] = omega arith in
    let room : HasRoom (length b.done + length {A = ℕ} []) (length b.front) ss = subst (λ (k : ℕ). HasRoom k (length b.front) ss) none
    (room-more (length b.done) 0 (length b.front) ss (omega arith) h.1) in
    subst (λ (d : List ℕ). IsThere (ran ss (state d (length b.front) b.tally b.spent))) (append-nil b.done)
    (room-runs b.done [] (length b.front) b.tally b.spent ss h.0 room)

-- exactly the octets of the steps are appended, at their cost
pub record Sent (x : Steps) (b c : Buf) : Type 0 where
  pub done : option_map (λ o. b.done ++ o) (on_some x (wrote (length b.done) [])) ≡ Some c.done
  pub tally : option_map (paid b.tally) (option_map costs x) ≡ Some c.tally
  pub spent : option_map (paid b.spent) (option_map costs x) ≡ Some c.spent
  pub long : longest_message < length c.done → IsLong (length b.done) (on_some x (wrote (length b.done) []))

sent_of : (ss : List Step) (z : Option (List ℕ)) (b c : Buf) → wrote (length b.done) [] ss ≡ z → IsThere z
    → ran ss (state_of b) ≡ Some (state_of c)
    → Sent (Some ss) b c
sent_of ss None b c e there r = absurd there
sent_of ss (Some w) b c e there r =
    let whole : ran ss (state (b.done ++ []) (length b.front) b.tally b.spent) ≡ Some (state_of c) =
    subst (λ (d : List ℕ). ran ss (state d (length b.front) b.tally b.spent) ≡ Some (state_of c)) (sym (append-nil b.done)) r in
    let l = ran-leads b.done [] w (length b.front) b.tally b.spent ss (state_of c) e whole in
    record {
      done = ap (option_map (λ o. b.done ++ o)) e ∙ ap Some (sym l.done);
      tally = ap Some (sym l.tally);
      spent = ap Some (sym l.spent);
      long = λ over. subst (IsLong (length b.done)) (sym e) (omega (arith, over, ap length l.done, length-append b.done w));
    }

-- ---- where a run is broken off

long_of : (ss : List Step) (z : Option (List ℕ)) (w : Option State) (b c : Buf) → wrote (length b.done) [] ss ≡ z
    → IsThere z → ran ss (state_of b) ≡ w → IsThere w → Grown (Some ss) (state_of b) (state_of c) → longest_message < length c.done
    → IsLong (length b.done) z
long_of ss None w b c e there r runs g over = absurd there
long_of ss (Some o) None b c e there r runs g over = absurd runs
long_of ss (Some o) (Some u) b c e there r runs g over =
    let whole : ran ss (state (b.done ++ []) (length b.front) b.tally b.spent) ≡ Some u =
    subst (λ (d : List ℕ). ran ss (state d (length b.front) b.tally b.spent) ≡ Some u) (sym (append-nil b.done)) r in
    let l = ran-leads b.done [] o (length b.front) b.tally b.spent ss u e whole in
    omega (arith, over, g.grows u r, ap length l.done, length-append b.done o)

-- what is too long already is too long at the end
pub grown-long : (x : Steps) (b c : Buf) → AreCovered x (length b.done) → Runs x (state_of b)
    → Grown x (state_of b) (state_of c) → longest_message < length c.done
    → IsLong (length b.done) (on_some x (wrote (length b.done) []))
grown-long None b c h runs g over = absurd h
grown-long (Some ss) b c h runs g over = long_of ss (wrote (length b.done) [] ss) (ran ss (state_of b)) b c refl h.0 refl runs g over

pub ends-sent : (x : Steps) (b c : Buf) → AreCovered x (length b.done) → Ends x (state_of b) (state_of c) → Sent x b c
ends-sent None b c h e = absurd h
ends-sent (Some ss) b c h e = sent_of ss (wrote (length b.done) [] ss) b c refl h.0 e

-- a run that is too long, wherever it was broken off
pub broken-long : {A E : Type 0} (r : Result A E) (x : Steps) (b c : Buf) → AreCovered x (length b.done) → Runs x (state_of b)
    → OnOk r (Ends x (state_of b) (state_of c)) → OnErr r (Grown x (state_of b) (state_of c)) → longest_message < length c.done
    → IsLong (length b.done) (on_some x (wrote (length b.done) []))
broken-long (Ok a) x b c h runs e g over = let s = ends-sent x b c h e in s.long over
broken-long (Err a) x b c h runs e g over = grown-long x b c h runs g over

-- what was spent does not fall, however a run ends
pub run-stands : {A E : Type 0} (r : Result A E) (x : Steps) (s t : State) → OnOk r (Ends x s t) → OnErr r (Grown x s t)
    → NoneFell s.spent t.spent
run-stands (Ok a) x s t e g = ended-stands x s t e
run-stands (Err a) x s t e g = g.spent
