-- What steps after steps write and cost, and room that is more than enough, by induction on the steps.
use Rattle.std.proofs.Common.{◌≡◌, ℕ, ◌+◌, ◌-◌, ◌≤◌, max, List, [], ◌∷◌, ◌++◌, length, replicate, Option, Some, None, refl, sym, ap, ◌∙◌, arith, add_assoc}
use Rattle.wire_def.specs.Scalars.{gap}
use Rattle.cast_stub.specs.Parts.{on_some}
use Rattle.cast_stub.specs.Steps.{Step, Room, Pad, Stored, Widened, Copied, Patched}
use Rattle.cast_stub.specs.Meaning.{patched, wrote, Cost, no_cost, sum, cost_of, costs, HasRoom}

pub room-more : (p a b : ℕ) (ss : List Step) → a ≤ b → HasRoom p a ss → HasRoom p b ss
room-more p a b [] le h = tt
room-more p a b (Room n ∷ ss) le h = room-more p (max n a) (max n b) ss (omega arith) h
room-more p a b (Pad x ∷ ss) le h = (omega (arith, h.0), room-more (p + gap p x) (a - gap p x) (b - gap p x) ss (omega arith) h.1)
room-more p a b (Stored o k ∷ ss) le h = (omega (arith, h.0), room-more (p + length o) (a - length o) (b - length o) ss (omega arith) h.1)
room-more p a b (Widened o k ∷ ss) le h = (omega (arith, h.0), room-more (p + length o) (a - length o) (b - length o) ss (omega arith) h.1)
room-more p a b (Copied o ∷ ss) le h = (omega (arith, h.0), room-more (p + length o) (a - length o) (b - length o) ss (omega arith) h.1)
room-more p a b (Patched at sub order ∷ ss) le h = room-more p a b ss le h

then_wrote : (x : Option (List ℕ)) (base : ℕ) (a b : List Step)
    → ((o : List ℕ) → wrote base o (a ++ b) ≡ on_some (wrote base o a) (λ p. wrote base p b))
    → on_some x (λ o. wrote base o (a ++ b)) ≡ on_some (on_some x (λ o. wrote base o a)) (λ p. wrote base p b)
then_wrote None base a b h = refl
then_wrote (Some o) base a b h = h o

pub wrote-append : (base : ℕ) (o : List ℕ) (a b : List Step) → wrote base o (a ++ b) ≡ on_some (wrote base o a) (λ p. wrote base p b)
wrote-append base o [] b = refl
wrote-append base o (Room n ∷ a) b = wrote-append base o a b
wrote-append base o (Pad x ∷ a) b = wrote-append base (o ++ replicate (gap (base + length o) x) 0) a b
wrote-append base o (Stored os k ∷ a) b = wrote-append base (o ++ os) a b
wrote-append base o (Widened os k ∷ a) b = wrote-append base (o ++ os) a b
wrote-append base o (Copied os ∷ a) b = wrote-append base (o ++ os) a b
wrote-append base o (Patched at sub order ∷ a) b = then_wrote (patched base at sub order o) base a b (λ p. wrote-append base p a b)

sum_assoc : (a b c : Cost) → sum (sum a b) c ≡ sum a (sum b c)
sum_assoc a b c =
    rw (
      add_assoc a.checks b.checks c.checks,
      add_assoc a.moves b.moves c.moves,
      add_assoc a.stores b.stores c.stores,
      add_assoc a.rows b.rows c.rows,
    ) refl

none_first : (c : Cost) → sum no_cost c ≡ c
none_first c =
    let checks : 0 + c.checks ≡ c.checks = omega arith in
    let moves : 0 + c.moves ≡ c.moves = omega arith in
    let stores : 0 + c.stores ≡ c.stores = omega arith in
    let rows : 0 + c.rows ≡ c.rows = omega arith in
    rw (checks, moves, stores, rows) refl

pub costs-append : (a b : List Step) → costs (a ++ b) ≡ sum (costs a) (costs b)
costs-append [] b = sym (none_first (costs b))
costs-append (s ∷ a) b = ap (sum (cost_of s)) (costs-append a b) ∙ sym (sum_assoc (cost_of s) (costs a) (costs b))
