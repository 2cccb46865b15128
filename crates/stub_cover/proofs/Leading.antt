-- Steps that have the room they need, and what holds behind them, by induction on the steps.
use Rattle.std.proofs.Common.{◌≡◌, ℕ, ◌+◌, ◌-◌, ◌≤◌, max, List, [], ◌∷◌, ◌++◌, length, Option, None, Some, refl, subst, arith}
use Rattle.mint.specs.Values.{Val, absent, present}
use Rattle.wire_def.specs.Scalars.{gap}
use Rattle.cast_stub.specs.Parts.{on_some}
use Rattle.cast_stub.specs.Steps.{Step, Room, Pad, Stored, Widened, Copied, Patched, Steps, both, if_present}
use Rattle.cast_stub.specs.Meaning.{HasRoom}

-- from a position, with so many octets ensured, steps have room, and this holds of the position and the octets behind them
abbrev pub Leads : (ℕ → ℕ → Type 0) → ℕ → ℕ → List Step → Type 0
Leads Q p a [] = Q p a
Leads Q p a (Room n ∷ ss) = Leads Q p (max n a) ss
Leads Q p a (Pad x ∷ ss) = (gap p x ≤ a) × Leads Q (p + gap p x) (a - gap p x) ss
Leads Q p a (Stored os k ∷ ss) = (length os ≤ a) × Leads Q (p + length os) (a - length os) ss
Leads Q p a (Widened os k ∷ ss) = (length os ≤ a) × Leads Q (p + length os) (a - length os) ss
Leads Q p a (Copied os ∷ ss) = (length os ≤ a) × Leads Q (p + length os) (a - length os) ss
Leads Q p a (Patched at sub order ∷ ss) = Leads Q p a ss

pub room_of : (Q : ℕ → ℕ → Type 0) (p a : ℕ) (ss : List Step) → Leads Q p a ss → HasRoom p a ss
room_of Q p a [] h = tt
room_of Q p a (Room n ∷ ss) h = room_of Q p (max n a) ss h
room_of Q p a (Pad x ∷ ss) h = (h.0, room_of Q (p + gap p x) (a - gap p x) ss h.1)
room_of Q p a (Stored os k ∷ ss) h = (h.0, room_of Q (p + length os) (a - length os) ss h.1)
room_of Q p a (Widened os k ∷ ss) h = (h.0, room_of Q (p + length os) (a - length os) ss h.1)
room_of Q p a (Copied os ∷ ss) h = (h.0, room_of Q (p + length os) (a - length os) ss h.1)
room_of Q p a (Patched at sub order ∷ ss) h = room_of Q p a ss h

pub weaker : (Q R : ℕ → ℕ → Type 0) (p a : ℕ) (ss : List Step) → ((q b : ℕ) → Q q b → R q b) → Leads Q p a ss → Leads R p a ss
weaker Q R p a [] f h = f p a h
weaker Q R p a (Room n ∷ ss) f h = weaker Q R p (max n a) ss f h
weaker Q R p a (Pad x ∷ ss) f h = (h.0, weaker Q R (p + gap p x) (a - gap p x) ss f h.1)
weaker Q R p a (Stored os k ∷ ss) f h = (h.0, weaker Q R (p + length os) (a - length os) ss f h.1)
weaker Q R p a (Widened os k ∷ ss) f h = (h.0, weaker Q R (p + length os) (a - length os) ss f h.1)
weaker Q R p a (Copied os ∷ ss) f h = (h.0, weaker Q R (p + length os) (a - length os) ss f h.1)
weaker Q R p a (Patched at sub order ∷ ss) f h = weaker Q R p a ss f h

-- steps after steps
pub leads-append : (Q : ℕ → ℕ → Type 0) (p a : ℕ) (x y : List Step) → Leads (λ q b. Leads Q q b y) p a x → Leads Q p a (x ++ y)
leads-append Q p a [] y h = h
leads-append Q p a (Room n ∷ x) y h = leads-append Q p (max n a) x y h
leads-append Q p a (Pad g ∷ x) y h = (h.0, leads-append Q (p + gap p g) (a - gap p g) x y h.1)
leads-append Q p a (Stored os k ∷ x) y h = (h.0, leads-append Q (p + length os) (a - length os) x y h.1)
leads-append Q p a (Widened os k ∷ x) y h = (h.0, leads-append Q (p + length os) (a - length os) x y h.1)
leads-append Q p a (Copied os ∷ x) y h = (h.0, leads-append Q (p + length os) (a - length os) x y h.1)
leads-append Q p a (Patched at sub order ∷ x) y h = leads-append Q p a x y h

-- steps that ensure nothing
abbrev pub AreQuiet : List Step → Type 0
AreQuiet [] = Unit {0}
AreQuiet (Room n ∷ ss) = ⊥
AreQuiet (Pad x ∷ ss) = AreQuiet ss
AreQuiet (Stored os k ∷ ss) = AreQuiet ss
AreQuiet (Widened os k ∷ ss) = AreQuiet ss
AreQuiet (Copied os ∷ ss) = AreQuiet ss
AreQuiet (Patched at sub order ∷ ss) = AreQuiet ss

-- a fact of the position, and that so many octets are left
abbrev pub Beside : ℕ → (ℕ → Type 0) → ℕ → ℕ → Type 0
Beside k P q b = (k ≤ b) × P q

-- room that is less by the octets of a step
less : (P : ℕ → Type 0) (k p u n : ℕ) (ss : List Step) → n ≤ u → Leads (Beside k P) (p + n) (k + (u - n)) ss
    → (n ≤ k + u) × Leads (Beside k P) (p + n) (k + u - n) ss
less P k p u n ss le h =
    let same : k + (u - n) ≡ k + u - n = omega (arith, le) in
    (omega (arith, le), subst (λ (m : ℕ). Leads (Beside k P) (p + n) m ss) same h)

-- room that suffices, with more beside it: so much is left behind steps that ensure nothing
pub beside : (P : ℕ → Type 0) (k p u : ℕ) (ss : List Step) → AreQuiet ss → Leads (λ q b. P q) p u ss → Leads (Beside k P) p (k + u) ss
beside P k p u [] quiet h = (omega arith, h)
beside P k p u (Room n ∷ ss) quiet h = absurd quiet
beside P k p u (Pad x ∷ ss) quiet h =
    less P k p u (gap p x) ss h.0 (beside P k (p + gap p x) (u - gap p x) ss quiet h.1)
beside P k p u (Stored os n ∷ ss) quiet h =
    less P k p u (length os) ss h.0 (beside P k (p + length os) (u - length os) ss quiet h.1)
beside P k p u (Widened os n ∷ ss) quiet h =
    less P k p u (length os) ss h.0 (beside P k (p + length os) (u - length os) ss quiet h.1)
beside P k p u (Copied os ∷ ss) quiet h =
    less P k p u (length os) ss h.0 (beside P k (p + length os) (u - length os) ss quiet h.1)
beside P k p u (Patched at sub order ∷ ss) quiet h = beside P k p u ss quiet h

-- ---- steps that may be defined

-- any position, with any octets ensured
abbrev pub Anywhere : ℕ → ℕ → Type 0
Anywhere q b = Unit {0}

-- the steps, if they are defined, lead from a position with so many octets to where this holds
abbrev pub Reaches : (ℕ → ℕ → Type 0) → Steps → ℕ → ℕ → Type 0
Reaches Q x p a = (ss : List Step) → x ≡ Some ss → Leads Q p a ss

pub reaches_some : (Q : ℕ → ℕ → Type 0) (s : List Step) (p a : ℕ) → Leads Q p a s → Reaches Q (Some s) p a
reaches_some Q s p a h ss e = let same : s ≡ ss = cc in subst (Leads Q p a) same h

pub reaches_weaker : (Q R : ℕ → ℕ → Type 0) (x : Steps) (p a : ℕ) → ((q b : ℕ) → Q q b → R q b) → Reaches Q x p a → Reaches R x p a
reaches_weaker Q R x p a f h ss e = weaker Q R p a ss f (h ss e)

pub reaches_both : (Q R : ℕ → ℕ → Type 0) (x y : Steps) (p a : ℕ) → Reaches Q x p a → ((q b : ℕ) → Q q b → Reaches R y q b)
    → Reaches R (both x y) p a
reaches_both Q R None y p a f g ss e = absurd cc
reaches_both Q R (Some s) None p a f g ss e = absurd cc
reaches_both Q R (Some s) (Some t) p a f g ss e =
    let same : s ++ t ≡ ss = cc in
    subst (Leads R p a) same
    (leads-append R p a s t (weaker Q (λ q b. Leads R q b t) p a s (λ q b h. g q b h t refl) (f s refl)))

pub reaches_on_some : {X : Type 0} (Q : ℕ → ℕ → Type 0) (o : Option X) (f : X → Steps) (p a : ℕ)
    → ((x : X) → o ≡ Some x → Reaches Q (f x) p a) → Reaches Q (on_some o f) p a
reaches_on_some Q None f p a g ss e = absurd cc
reaches_on_some Q (Some x) f p a g ss e = g x refl ss e

pub reaches_present : (Q : ℕ → ℕ → Type 0) (f : Val → Steps) (v : Val) (p a : ℕ) → Q p a
    → ((w : Val) → v ≡ present w → Reaches Q (f w) p a) → Reaches Q (if_present f v) p a
reaches_present Q f absent p a here go ss e = reaches_some Q [] p a here ss e
reaches_present Q f (present w) p a here go ss e = go w refl ss e
reaches_present Q f _ p a here go ss e = absurd cc
