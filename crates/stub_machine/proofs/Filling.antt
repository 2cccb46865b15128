-- Octets that are put one after the other fill a chunk, by induction on the chunk's cells.
use Rattle.std.proofs.Common.{◌≡◌, ℕ, zero, suc, ◌+◌, ◌-◌, ◌<◌, ◌≤◌, List, [], ◌∷◌, ◌++◌, length, take, drop, get_or, replicate, Option, Some, None, option_map, refl, sym, ap, subst, ◌∙◌, add-one, arith, length-drop, Bool, true, false, nat_le, if◌then◌else◌}
use Rattle.std.proofs.Math.Seq.{drop-cons}
use Rattle.std.proofs.lemmas.List.{length-replicate, length-take-le, drop_all}
use Rattle.std.proofs.lemmas.Bool.{leb-true, le-leb}
use Rattle.raw_buf.specs.declared.tally.Tally.{Tally}
use Rattle.mint.specs.Values.{Val}
use Rattle.raw_buf.specs.Buf.{Buf, stored, moved}
use Rattle.kit_base.specs.Bytes.{written}
use Rattle.wire_def.specs.declared.head.Head.{Head}
use Rattle.cast_stub.specs.declared.put.Put.{Put}
use Rattle.cast_stub.specs.Parts.{on_some, IsThere}
use Rattle.cast_stub.specs.Puts.{Cells, placed, put_octets, offset, put_one, put_all, full, filled}
use Rattle.cast_stub.specs.Steps.{Stored, chunk_steps}
use Rattle.stub_machine.specs.Run.{State, Runs, Ends, ran, state_of, stored_times}
use Rattle.stub_machine.specs.Putting.{octets_in, Writes, Over, OverAll}
use Rattle.stub_machine.proofs.Rooms.{state}
use Rattle.cast_stub.proofs.Filled.{length-filled}
use Rattle.cast_stub.proofs.Patched.{length-written}

pub there_then : {A B : Type 0} (z : Option A) (f : A → Option B) → IsThere (on_some z f) → IsThere z
there_then None f h = h
there_then (Some t) f h = tt

-- ---- octets in place of others

abbrev overwrite : ℕ → List ℕ → List ℕ → List ℕ
overwrite zero [] f = f
overwrite zero (o ∷ os) [] = []
overwrite zero (o ∷ os) (b ∷ f) = o ∷ overwrite zero os f
overwrite (suc n) os [] = []
overwrite (suc n) os (b ∷ f) = b ∷ overwrite n os f

written-is : (n : ℕ) (os f : List ℕ) → n + length os ≤ length f → written f n os ≡ overwrite n os f
written-is zero [] f h = refl
written-is zero (o ∷ os) [] h = absurd (omega arith)
written-is zero (o ∷ os) (b ∷ f) h =
    let e : 0 + suc (length os) ≡ suc (0 + length os) = omega arith in
    rw e (ap (λ l. o ∷ l) (written-is zero os f (omega arith)))
written-is (suc n) os [] h = absurd (omega arith)
written-is (suc n) os (b ∷ f) h =
    let e : suc n + length os ≡ suc (n + length os) = omega arith in
    rw e (ap (λ l. b ∷ l) (written-is n os f (omega arith)))

-- ---- cells

over-short : (cs : Cells) (f : List ℕ) → Over cs f → length cs ≤ length f
over-short [] f h = omega arith
over-short (c ∷ cs) [] h = absurd h
over-short (None ∷ cs) (b ∷ f) h = let k = over-short cs f h in omega arith
over-short (Some x ∷ cs) (b ∷ f) h = let k = over-short cs f h.1 in omega arith

pub over-blank : (n : ℕ) (f : List ℕ) → n ≤ length f → Over (replicate n None) f
over-blank zero f h = tt
over-blank (suc n) [] h = absurd (omega arith)
over-blank (suc n) (b ∷ f) h = over-blank n f (omega arith)

none_over : (z : Option Cells) (b : ℕ) (f : List ℕ) → OverAll z f → OverAll (option_map (λ ds. None ∷ ds) z) (b ∷ f)
none_over None b f h = h
none_over (Some ds) b f h = h

some_over : (z : Option Cells) (x b : ℕ) (f : List ℕ) → b ≡ x → OverAll z f → OverAll (option_map (λ ds. Some x ∷ ds) z) (b ∷ f)
some_over None x b f e h = h
some_over (Some ds) x b f e h = (e, h)

there_mapped : {A B : Type 0} (z : Option A) (f : A → B) → IsThere (option_map f z) → IsThere z
there_mapped None f h = h
there_mapped (Some a) f h = tt

over-placed : (n : ℕ) (os : List ℕ) (cs : Cells) (f : List ℕ) → IsThere (placed n os cs) → Over cs f
    → OverAll (placed n os cs) (overwrite n os f)
over-placed zero [] cs f there h = h
over-placed zero (o ∷ os) [] f there h = absurd there
over-placed zero (o ∷ os) (c ∷ cs) [] there h = absurd h
over-placed zero (o ∷ os) (None ∷ cs) (b ∷ f) there h = some_over (placed zero os cs) o o (overwrite zero os f) refl
    (over-placed zero os cs f (there_mapped (placed zero os cs) (λ ds. Some o ∷ ds) there) h)
over-placed zero (o ∷ os) (Some x ∷ cs) (b ∷ f) there h = some_over (placed zero os cs) o o (overwrite zero os f) refl
    (over-placed zero os cs f (there_mapped (placed zero os cs) (λ ds. Some o ∷ ds) there) h.1)
over-placed (suc n) os [] f there h = absurd there
over-placed (suc n) os (c ∷ cs) [] there h = absurd h
over-placed (suc n) os (None ∷ cs) (b ∷ f) there h =
    none_over (placed n os cs) b (overwrite n os f) (over-placed n os cs f (there_mapped (placed n os cs) (λ ds. None ∷ ds) there) h)
over-placed (suc n) os (Some x ∷ cs) (b ∷ f) there h = some_over (placed n os cs) x b (overwrite n os f) h.0
    (over-placed n os cs f (there_mapped (placed n os cs) (λ ds. Some x ∷ ds) there) h.1)

-- so many cells
abbrev LongAll : Option Cells → ℕ → Type 0
LongAll None k = Unit {0}
LongAll (Some ds) k = length ds ≡ k

long_mapped : (z : Option Cells) (c : Option ℕ) (k : ℕ) → LongAll z k → LongAll (option_map (λ ds. c ∷ ds) z) (suc k)
long_mapped None c k h = tt
long_mapped (Some ds) c k h = ap suc h

long-placed : (n : ℕ) (os : List ℕ) (cs : Cells) → LongAll (placed n os cs) (length cs)
long-placed zero [] cs = refl
long-placed zero (o ∷ os) [] = tt
long-placed zero (o ∷ os) (c ∷ cs) = long_mapped (placed zero os cs) (Some o) (length cs) (long-placed zero os cs)
long-placed (suc n) os [] = tt
long-placed (suc n) os (c ∷ cs) = long_mapped (placed n os cs) c (length cs) (long-placed n os cs)

placed-within : (n : ℕ) (os : List ℕ) (cs : Cells) → IsThere (placed n os cs) → n + length os ≤ length cs
placed-within zero [] cs there = omega arith
placed-within zero (o ∷ os) [] there = absurd there
placed-within zero (o ∷ os) (c ∷ cs) there =
    let k = placed-within zero os cs (there_mapped (placed zero os cs) (λ ds. Some o ∷ ds) there) in
    omega arith
placed-within (suc n) os [] there = absurd there
placed-within (suc n) os (c ∷ cs) there = let k = placed-within n os cs (there_mapped (placed n os cs) (λ ds. c ∷ ds) there) in omega arith

long_both : (z : Option Cells) (f : Cells → Option Cells) (k : ℕ) → LongAll z k → ((ds : Cells) → LongAll (f ds) (length ds))
    → LongAll (on_some z f) k
long_both None f k h g = tt
long_both (Some ds) f k h g = subst (LongAll (f ds)) h (g ds)

long-put_one : (x : Option (List ℕ)) (off : ℕ) (cs : Cells) → LongAll (on_some x (λ os. placed off os cs)) (length cs)
long-put_one None off cs = tt
long-put_one (Some os) off cs = long-placed off os cs

long-put_all : (h : Head) (v : Val) (ps : List Put) (cs : Cells) → LongAll (put_all h v ps cs) (length cs)
long-put_all h v [] cs = refl
long-put_all h v (p ∷ ps) cs =
    long_both (put_one h v p cs) (put_all h v ps) (length cs) (long-put_one (put_octets h p v) (offset p) cs) (λ ds. long-put_all h v ps ds)

-- ---- one put more

pub put_all-drop : (h : Head) (v : Val) (ps : List Put) (i : ℕ) (d : Put) (cs : Cells) → i < length ps
    → put_all h v (drop i ps) cs ≡ on_some (put_one h v (get_or ps i d) cs) (put_all h v (drop (i + 1) ps))
put_all-drop h v ps i d cs lt = rw (add-one, drop-cons ps i d) refl

pub record Next (rest : Cells → Option Cells) (goal : Option Cells) (cells : Cells) (b b' : Buf) : Type 0 where
  pub cells' : Cells
  pub left : rest cells' ≡ goal
  pub over : Over cells' b'.front
  pub long : length cells' ≡ length cells
  pub front : length b'.front ≡ length b.front

placed_next : (z : Option Cells) (rest : Cells → Option Cells) (goal : Option Cells) (cells : Cells) (b b' : Buf)
    → on_some z rest ≡ goal → IsThere goal → OverAll z b'.front → LongAll z (length cells) → length b'.front ≡ length b.front
    → Next rest goal cells b b'
placed_next None rest goal cells b b' e there over long front = absurd over
placed_next (Some ds) rest goal cells b b' e there over long front =
    record { cells' = ds; left = e; over = over; long = long; front = front }

pub put_next : (x : Option (List ℕ)) (off : ℕ) (cells : Cells) (rest : Cells → Option Cells) (goal : Option Cells) (b b' : Buf)
    → on_some (on_some x (λ os. placed off os cells)) rest ≡ goal → IsThere goal → Over cells b.front → Writes b b' off x
    → Next rest goal cells b b'
put_next None off cells rest goal b b' e there over w = absurd w
put_next (Some os) off cells rest goal b b' e there over w =
    let lies : IsThere (placed off os cells) = there_then (placed off os cells) rest (subst IsThere (sym e) there) in
    let fits : off + length os ≤ length b.front = omega (arith, placed-within off os cells lies, over-short cells b.front over) in
    let new : b'.front ≡ overwrite off os b.front = w.1 ∙ written-is off os b.front fits in
    placed_next (placed off os cells) rest goal cells b b' e there
    (subst (OverAll (placed off os cells)) (sym new) (over-placed off os cells b.front lies over)) (long-placed off os cells)
    (ap length w.1 ∙ length-written off os b.front fits)

-- the next put lies within
pub put_fits : (x : Option (List ℕ)) (off : ℕ) (cells : Cells) (rest : Cells → Option Cells) (goal : Option Cells) (f : List ℕ)
    → on_some (on_some x (λ os. placed off os cells)) rest ≡ goal → IsThere goal → Over cells f
    → IsThere x × (off + octets_in x ≤ length f)
put_fits None off cells rest goal f e there over = absurd (subst IsThere (sym e) there)
put_fits (Some os) off cells rest goal f e there over =
    let lies : IsThere (placed off os cells) = there_then (placed off os cells) rest (subst IsThere (sym e) there) in
    (tt, omega (arith, placed-within off os cells lies, over-short cells f over))

-- ---- all puts

full-over : (cs : Cells) (f : List ℕ) → Over cs f → IsThere (full cs) → full cs ≡ Some (take (length cs) f)
full-over [] f over there = refl
full-over (c ∷ cs) [] over there = absurd over
full-over (None ∷ cs) (b ∷ f) over there = absurd there
full-over (Some x ∷ cs) (b ∷ f) over there = ap (option_map (λ os. x ∷ os))
    (full-over cs f over.1 (there_mapped (full cs) (λ os. x ∷ os) there)) ∙ ap (λ y. Some (y ∷ take (length cs) f)) (sym over.0)

filled_at : (z : Option Cells) (size : ℕ) (f : List ℕ) → LongAll z size → OverAll z f → IsThere (on_some z full)
    → on_some z full ≡ Some (take size f)
filled_at None size f long over there = absurd over
filled_at (Some cs) size f long over there = full-over cs f over there ∙ ap (λ k. Some (take k f)) long

pub filled-over : (h : Head) (v : Val) (ps : List Put) (size : ℕ) (f : List ℕ)
    → OverAll (put_all h v ps (replicate size None)) f → IsThere (filled size ps h v)
    → filled size ps h v ≡ Some (take size f)
filled-over h v ps size f over there =
    filled_at (put_all h v ps (replicate size None)) size f
    (subst (LongAll (put_all h v ps (replicate size None))) (length-replicate size None) (long-put_all h v ps (replicate size None))) over
    there

-- ---- what a loop over puts keeps

pub record PutsLeft (h : Head) (v : Val) (ps : List Put) (size : ℕ) (old new : Buf) (i : ℕ) : Type 0 where
  pub cells : Cells
  pub left : put_all h v (drop i ps) cells ≡ put_all h v ps (replicate size None)
  pub over : Over cells new.front
  pub front : length new.front ≡ length old.front
  pub done : new.done ≡ old.done
  pub tally : stored_times (length (drop i ps)) new.tally ≡ stored_times (length ps) old.tally
  pub spent : stored_times (length (drop i ps)) new.spent ≡ stored_times (length ps) old.spent

pub puts_start : (h : Head) (v : Val) (ps : List Put) (size : ℕ) (b : Buf) → size ≤ length b.front → PutsLeft h v ps size b b 0
puts_start h v ps size b fits = record {
  cells = replicate size None;
  left = refl;
  over = over-blank size b.front fits;
  front = refl;
  done = refl;
  tally = refl;
  spent = refl;
}

writes_rest : (x : Option (List ℕ)) (off : ℕ) (b b' : Buf) → Writes b b' off x
    → (b'.done ≡ b.done) × (b'.tally ≡ stored b.tally) × (b'.spent ≡ stored b.spent)
writes_rest None off b b' w = absurd w
writes_rest (Some os) off b b' w = (w.0, w.2, w.3)

pub puts_fit : (h : Head) (v : Val) (ps : List Put) (size : ℕ) (old b : Buf) (i : ℕ) (d : Put)
    → PutsLeft h v ps size old b i → i < length ps → IsThere (put_all h v ps (replicate size None)) → d ≡ get_or ps i d
    → IsThere (put_octets h d v) × (offset d + octets_in (put_octets h d v) ≤ length b.front)
puts_fit h v ps size old b i d s lt there same =
    let e = sym (put_all-drop h v ps i d s.cells lt) ∙ s.left in
    put_fits (put_octets h d v) (offset d) s.cells (put_all h v (drop (i + 1) ps)) (put_all h v ps (replicate size None)) b.front
    (ap (λ (p : Put). on_some (put_one h v p s.cells) (put_all h v (drop (i + 1) ps))) same ∙ e) there s.over

pub puts_step : (h : Head) (v : Val) (ps : List Put) (size : ℕ) (old b b' : Buf) (i : ℕ) (d : Put) → PutsLeft h v ps size old b i
    → i < length ps → IsThere (put_all h v ps (replicate size None)) → d ≡ get_or ps i d → Writes b b' (offset d) (put_octets h d v)
    → PutsLeft h v ps size old b' (i + 1)
puts_step h v ps size old b b' i d s lt there same w =
    let e = ap (λ (p : Put). on_some (put_one h v p s.cells) (put_all h v (drop (i + 1) ps))) same
    ∙ sym (put_all-drop h v ps i d s.cells lt) ∙ s.left in
    let n = put_next (put_octets h d v) (offset d) s.cells (put_all h v (drop (i + 1) ps)) (put_all h v ps (replicate size None)) b b' e
    there s.over w in
    let r = writes_rest (put_octets h d v) (offset d) b b' w in
    let more : length (drop i ps) ≡ suc (length (drop (i + 1) ps)) = omega (arith, length-drop i ps, length-drop (i + 1) ps) in
    record {
      cells = n.cells';
      left = n.left;
      over = n.over;
      front = n.front ∙ s.front;
      done = r.0 ∙ s.done;
      tally = ap (stored_times (length (drop (i + 1) ps))) r.1 ∙ ap (λ (k : ℕ). stored_times k b.tally) (sym more) ∙ s.tally;
      spent = ap (stored_times (length (drop (i + 1) ps))) r.2 ∙ ap (λ (k : ℕ). stored_times k b.spent) (sym more) ∙ s.spent;
    }

over_all : (z : Option Cells) (cs : Cells) (f : List ℕ) → Some cs ≡ z → Over cs f → OverAll z f
over_all z cs f e over = subst (λ (x : Option Cells). OverAll x f) e over

pub puts_end : (h : Head) (v : Val) (ps : List Put) (size : ℕ) (old b : Buf) (i : ℕ) → PutsLeft h v ps size old b i → length ps ≤ i
    → OverAll (put_all h v ps (replicate size None)) b.front × (length b.front ≡ length old.front) × (b.done ≡ old.done)
    × (b.tally ≡ stored_times (length ps) old.tally) × (b.spent ≡ stored_times (length ps) old.spent)
puts_end h v ps size old b i s past =
    let none : drop i ps ≡ [] = drop_all i ps past in
    let left : Some s.cells ≡ put_all h v ps (replicate size None) = rw none at s.left in
    (over_all _ s.cells b.front left s.over, s.front, s.done, rw none at s.tally, rw none at s.spent)

-- ---- a whole chunk

runs_filled : (z : Option (List ℕ)) (k : ℕ) (s : State) → Runs (on_some z (λ o. Some (Stored o k ∷ []))) s
    → (o : List ℕ) × (z ≡ Some o) × (length o ≤ s.ahead)
runs_filled None k s r = absurd r
runs_filled (Some o) k s r = (o, refl, within (nat_le (length o) s.ahead) refl r) where
  within : (b : Bool) → nat_le (length o) s.ahead ≡ b
      → IsThere
      (on_some
      (if b
      then Some
      (record {
        done = s.done ++ o;
        ahead = s.ahead - length o;
        tally = moved (stored_times k s.tally);
        spent = moved (stored_times k s.spent);
      })
      else None) (ran []))
      → length o ≤ s.ahead
  within true e r = leb-true (length o) s.ahead e
  within false e r = absurd r

pub chunk-runs : (h : Head) (v : Val) (ps : List Put) (size : ℕ) (s : State) → Runs (chunk_steps size ps h v) s
    → IsThere (put_all h v ps (replicate size None)) × IsThere (filled size ps h v) × (size ≤ s.ahead)
chunk-runs h v ps size s r =
    let f = runs_filled (filled size ps h v) (length ps) s r in
    let there : IsThere (filled size ps h v) = subst IsThere (sym f.1) tt in
    (there_then (put_all h v ps (replicate size None)) full there, there, omega (arith, f.2, length-filled h v ps size f.0 f.1))

pub appended_at : (b : Bool) (t u : State) → b ≡ true → t ≡ u → on_some (if b then Some t else None) (ran []) ≡ Some u
appended_at true t u e same = ap Some same
appended_at false t u e same = absurd cc

state_same : (d d' : List ℕ) (a a' : ℕ) (t t' u u' : Tally) → d ≡ d' → a ≡ a' → t ≡ t' → u ≡ u' → state d a t u ≡ state d' a' t' u'
state_same d d' a a' t t' u u' p q r s = rw (p, q, r, s) refl

-- octets that are stored and passed
pub stored-ends : (o : List ℕ) (k : ℕ) (b c : Buf) → length o ≤ length b.front → c.done ≡ b.done ++ o
    → length c.front ≡ length b.front - length o → c.tally ≡ moved (stored_times k b.tally) → c.spent ≡ moved (stored_times k b.spent)
    → Ends (Some (Stored o k ∷ [])) (state_of b) (state_of c)
stored-ends o k b c fits d f t u =
    appended_at (nat_le (length o) (length b.front))
    (state (b.done ++ o) (length b.front - length o) (moved (stored_times k b.tally)) (moved (stored_times k b.spent))) (state_of c)
    (le-leb (length o) (length b.front) fits) (state_same _ _ _ _ _ _ _ _ (sym d) (sym f) (sym t) (sym u))

pub chunk-ends : (h : Head) (v : Val) (ps : List Put) (size : ℕ) (b c d : Buf) → Runs (chunk_steps size ps h v) (state_of b)
    → OverAll (put_all h v ps (replicate size None)) c.front → length c.front ≡ length b.front → c.done ≡ b.done
    → c.tally ≡ stored_times (length ps) b.tally → c.spent ≡ stored_times (length ps) b.spent
    → d.done ≡ c.done ++ take size c.front → d.front ≡ drop size c.front → d.tally ≡ moved c.tally → d.spent ≡ moved c.spent
    → Ends (chunk_steps size ps h v) (state_of b) (state_of d)
chunk-ends h v ps size b c d r over front done tally spent done' front' tally' spent' =
    let k = chunk-runs h v ps size (state_of b) r in
    let e : filled size ps h v ≡ Some (take size c.front) = filled-over h v ps size c.front over k.1 in
    let room : size ≤ length c.front = omega (arith, k.2) in
    let long : length (take size c.front) ≡ size = length-take-le size c.front room in
    subst (λ (z : Option (List ℕ)). Ends (on_some z (λ o. Some (Stored o (length ps) ∷ []))) (state_of b) (state_of d)) (sym e)
    (stored-ends (take size c.front) (length ps) b d (omega arith) (done' ∙ ap (λ (l : List ℕ). l ++ take size c.front) done)
    (omega (arith, ap length front', length-drop size c.front)) (tally' ∙ ap moved tally) (spent' ∙ ap moved spent))
