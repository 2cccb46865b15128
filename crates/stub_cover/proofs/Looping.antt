-- What a loop leaves, from what a turn leaves: by a credit, turn by turn, or from no room, by induction on the elements.
use Rattle.std.proofs.Common.{◌≡◌, ◌⊎◌, inl, inr, ℕ, zero, suc, ◌+◌, ◌-◌, ◌*◌, ◌%◌, ◌<◌, ◌≤◌, Bool, true, false, ◌&&◌, ◌||◌, not, if◌then◌else◌, nat_le, [], Option, None, Some, is_some, option_map, refl, sym, subst, arith}
use Rattle.mint.specs.Typed.{Each}
use Rattle.mint.specs.Values.{Val, Vals, no_more, val, count}
use Rattle.cast_stub.specs.Steps.{Steps, over}
use Rattle.stub_flat.specs.Residues.{Residues, closed}
use Rattle.stub_cover.specs.Rooms.{Rooms, least, only_room, on, least_first}
use Rattle.stub_cover.specs.Covers.{Turn, suffices, turns, most_turns, or_else, free_loop, bounded_loop, bare_loop, looped}
use Rattle.stub_cover.proofs.Leading.{Leads, weaker, Beside, beside, Reaches, reaches_some, reaches_weaker, reaches_both}
use Rattle.stub_cover.proofs.Going.{implied, below_next, residue, Goes, begins, goes_round}
use Rattle.stub_cover.proofs.Rooms.{mapped_of, tested_of, some_same, Within, Holds, within_less, least_holds_first, least_holds_second, on_holds, only_holds, least_there}
use Rattle.stub_cover.proofs.Quiet.{IsQuiet}
use Rattle.std.proofs.lemmas.Bool.{and_parts}
use Rattle.cast_stub.proofs.Filled.{opened}

-- rooms hold with so many octets beside them, at a position to which a way leads from another
abbrev pub Ends : Rooms → ℕ → (Residues → Residues) → ℕ → ℕ → ℕ → Type 0
Ends S x f p q b = Holds S x q b × Goes f p q

-- the same with no octets beside them
abbrev pub After : Rooms → (Residues → Residues) → ℕ → ℕ → ℕ → Type 0
After S f = Ends S 0 f

-- ---- what the tests of a loop say

suffices_at : (k : ℕ) (T : Turn) (u : ℕ) (A : Residues) → suffices k T u A ≡ true → (r : ℕ) → r < k → A r ≡ true
    → is_some (T (only_room r u)) ≡ true
suffices_at zero T u A e r lt h = absurd (omega (arith, lt))
suffices_at (suc k) T u A e r lt h =
    let t = and_parts (not (A k) || is_some (T (only_room k u))) (suffices k T u A) e in
    below_next (λ (j : ℕ). A j ≡ true → is_some (T (only_room j u)) ≡ true) k r lt
    (implied (A k) (is_some (T (only_room k u))) t.0) (suffices_at k T u A t.1 r) h

pub there : (o : Option Rooms) → is_some o ≡ true → (S : Rooms) × (o ≡ Some S)
there None e = absurd cc
there (Some S) e = (S, refl)

either_of : (x y : Option Rooms) (S : Rooms) → or_else x y ≡ Some S → (x ≡ Some S) ⊎ (y ≡ Some S)
either_of None y S e = inr e
either_of (Some x) y S e = inl e

-- ---- numbers

spared : (m c u a b : ℕ) → m + suc c * u ≤ a → a - u ≤ b → m + c * u ≤ b
spared m c u a b h le = omega (arith, h, le)

owed_first : (m c u a : ℕ) → m + suc c * u ≤ a → a - u + u ≡ a
owed_first m c u a h = omega (arith, h)

-- ---- loops

module _ (T : Turn) (L : Residues → Residues) (f : Val → Steps) (Good : Val → Type 0)
    (turn : (w : Val) → Good w → (R S : Rooms) → T R ≡ Some S → (p a : ℕ) → Holds R 0 p a → Reaches (After S L p) (f w) p a) where
  start : (p : ℕ) → Goes (closed L) p p
  start p A h = begins L A p h

  next : (i p q : ℕ) → Goes (closed L) i p → Goes L p q → Goes (closed L) i q
  next i p q h go A x = goes_round L A p q go (h A x)

  -- a set that no turn leaves
  abbrev IsRound : Residues → Type 0
  IsRound reach = (p q : ℕ) → Goes L p q → reach (p % 8) ≡ true → reach (q % 8) ≡ true

  -- each turn from no room
  over_bare : (reach : Residues) (S : Rooms) → T (on reach 0) ≡ Some S → IsRound reach → (i : ℕ) (vs : Vals) → Each Good vs → (p a : ℕ)
      → reach (p % 8) ≡ true → Goes (closed L) i p → Reaches (After (on reach 0) (closed L) i) (over f vs) p a
  over_bare reach S e round i no_more good p a r g = reaches_some (After (on reach 0) (closed L) i) [] p a (on_holds reach p a r, g)
  over_bare reach S e round i (val v vs) good p a r g =
      reaches_both (After S L p) (After (on reach 0) (closed L) i) (f v) (over f vs) p a
      (turn v good.0 (on reach 0) S e p a (on_holds reach p a r))
      (λ q b h. over_bare reach S e round i vs good.1 q b (round p q h.1 r) (next i p q g h.1))

  -- no turn
  turns_first : (n : ℕ) (R S : Rooms) → turns n T R ≡ Some S → (p a : ℕ) → Holds R 0 p a → Holds S 0 p a
  turns_first zero R S e p a h = subst (λ (Z : Rooms). Holds Z 0 p a) (some_same R S e) h
  turns_first (suc n) R S e p a h =
      let m = opened (T R) (λ (Z : Rooms). option_map (least R) (turns n T Z)) S e in
      let k = mapped_of (turns n T m.0) (least R) S m.2 in
      subst (λ (Z : Rooms). Holds Z 0 p a) k.2 (least_holds_first R k.0 0 p a h)

  -- turn by turn
  over_turns : (n : ℕ) (R S : Rooms) → turns n T R ≡ Some S → (i : ℕ) (vs : Vals) → Each Good vs → count vs ≤ n → (p a : ℕ)
      → Holds R 0 p a → Goes (closed L) i p → Reaches (After S (closed L) i) (over f vs) p a
  over_turns n R S e i no_more good few p a h g = reaches_some (After S (closed L) i) [] p a (turns_first n R S e p a h, g)
  over_turns zero R S e i (val v vs) good few p a h g = absurd (omega (arith, few))
  over_turns (suc n) R S e i (val v vs) good few p a h g =
      let m = opened (T R) (λ (Z : Rooms). option_map (least R) (turns n T Z)) S e in
      let k = mapped_of (turns n T m.0) (least R) S m.2 in
      reaches_both (After m.0 L p) (After S (closed L) i) (f v) (over f vs) p a (turn v good.0 R m.0 m.1 p a h)
      (λ q b x. reaches_weaker (After k.0 (closed L) i) (After S (closed L) i) (over f vs) q b
      (λ t c y. (subst (λ (Z : Rooms). Holds Z 0 t c) k.2 (least_holds_second R k.0 0 t c y.0), y.1))
      (over_turns n m.0 k.0 k.1 i vs good.1 (omega (arith, few)) q b x.0 (next i p q g x.1)))

  -- what is left behind elements that have their own octets
  abbrev Left : Residues → ℕ → ℕ → ℕ → ℕ → Type 0
  Left reach m i q b = (reach (q % 8) ≡ true) × ((m ≤ b) × Goes (closed L) i q)

  -- each element has its own octets
  over_free : (reach : Residues) (m u : ℕ) → suffices 8 T u reach ≡ true → ((w : Val) → IsQuiet (f w)) → IsRound reach → (i : ℕ)
      (vs : Vals) → Each Good vs → (p a : ℕ) → reach (p % 8) ≡ true → m + count vs * u ≤ a → Goes (closed L) i p
      → Reaches (Left reach m i) (over f vs) p a
  over_free reach m u e quiet round i no_more good p a r h g =
      reaches_some (Left reach m i) [] p a (r, ((omega (arith, h)), g))
  over_free reach m u e quiet round i (val v vs) good p a r h g =
      let t = there (T (only_room (p % 8) u)) (suffices_at 8 T u reach e (p % 8) (residue p) r) in
      let first = turn v good.0 (only_room (p % 8) u) t.0 t.1 p u (only_holds (p % 8) u 0 p u refl (omega arith)) in
      reaches_both (Beside (a - u) (Goes L p)) (Left reach m i) (f v) (over f vs) p a
      (λ ss made. subst (λ (n : ℕ). Leads (Beside (a - u) (Goes L p)) p n ss) (owed_first m (count vs) u a h)
      (beside (Goes L p) (a - u) p u ss (quiet v ss made)
      (weaker (After t.0 L p) (λ q b. Goes L p q) p u ss (λ q b x. x.1) (first ss made))))
      (λ q b x. over_free reach m u e quiet round i vs good.1 q b (round p q x.1 r) (spared m (count vs) u a b h x.0)
      (next i p q g x.1))

  free_within : (t : Bool) (o : Option ℕ) (m b : ℕ) → t ≡ true → o ≡ Some m → m ≤ b → Within (if t then o else None) 0 b
  free_within true o m b s e le = subst (λ (z : Option ℕ). Within z 0 b) (sym e) (omega (arith, le))
  free_within false o m b s e le = absurd cc

  -- a loop
  pub loop_leads : (reach : Residues) (plain : Bool) (most unit : Option ℕ) (R S : Rooms) → looped T reach plain most unit R ≡ Some S
      → IsRound reach → (plain ≡ true → (w : Val) → IsQuiet (f w)) → (vs : Vals) → Each Good vs
      → ((n : ℕ) → most ≡ Some n → count vs ≤ n) → (x p a : ℕ) → ((u : ℕ) → unit ≡ Some u → x ≡ count vs * u)
      → reach (p % 8) ≡ true → Holds R x p a → Reaches (After S (closed L) p) (over f vs) p a
  loop_leads reach plain most unit R S e round quiet vs good few x p a owed r h =
      by (either_of (free_loop T reach plain unit R) (or_else (bounded_loop T most R) (bare_loop T reach R)) S e) where
        by_free : (unit : Option ℕ) → free_loop T reach plain unit R ≡ Some S → ((u : ℕ) → unit ≡ Some u → x ≡ count vs * u)
            → Reaches (After S (closed L) p) (over f vs) p a
        by_free None e owed = absurd cc
        by_free (Some u) e owed =
            let t = tested_of (plain && suffices 8 T u reach) (Some (λ (z : ℕ). if reach z then least_first 8 R else None)) S e in
            let tests = and_parts plain (suffices 8 T u reach) t.0 in
            by_least (least_first 8 R) refl (least_there 8 R (p % 8) x a (residue p) h) tests.0 tests.1 t.1 (owed u refl)
          where
            by_least : (o : Option ℕ) → least_first 8 R ≡ o → Within o x a → plain ≡ true → suffices 8 T u reach ≡ true
                → Some (λ (z : ℕ). if reach z then least_first 8 R else None) ≡ Some S → x ≡ count vs * u
                → Reaches (After S (closed L) p) (over f vs) p a
            by_least None is l tested enough same o = absurd l
            by_least (Some m) is l tested enough same o =
                reaches_weaker (Left reach m p) (After S (closed L) p) (over f vs) p a
                (λ q b y. (
                  subst (λ (Z : Rooms). Holds Z 0 q b)
                      (some_same (λ (z : ℕ). if reach z then least_first 8 R else None) S same)
                      (free_within (reach (q % 8)) (least_first 8 R) m b y.0 is y.1.0),
                  y.1.1,
                ))
                (over_free reach m u enough (quiet tested) round p vs good p a r (omega (arith, l, o)) (start p))

        by_bound : (most : Option ℕ) → bounded_loop T most R ≡ Some S → ((n : ℕ) → most ≡ Some n → count vs ≤ n)
            → Reaches (After S (closed L) p) (over f vs) p a
        by_bound None e few = absurd cc
        by_bound (Some n) e few =
            over_turns n R S (tested_of (nat_le n most_turns) (turns n T R) S e).1 p vs good (few n refl) p a
            (within_less (R (p % 8)) x 0 a a (omega arith) (omega arith) h) (start p)

        by_rest : (bounded_loop T most R ≡ Some S) ⊎ (bare_loop T reach R ≡ Some S) → Reaches (After S (closed L) p) (over f vs) p a
        by_rest (inl e) = by_bound most e few
        by_rest (inr e) =
            let m = mapped_of (T (on reach 0)) (λ (Z : Rooms). on reach 0) S e in
            subst (λ (Z : Rooms). Reaches (After Z (closed L) p) (over f vs) p a) m.2
            (over_bare reach m.0 m.1 round p vs good p a r (start p))

        by : (free_loop T reach plain unit R ≡ Some S) ⊎ (or_else (bounded_loop T most R) (bare_loop T reach R) ≡ Some S)
            → Reaches (After S (closed L) p) (over f vs) p a
        by (inl e) = by_free unit e owed
        by (inr e) = by_rest (either_of (bounded_loop T most R) (bare_loop T reach R) S e)
