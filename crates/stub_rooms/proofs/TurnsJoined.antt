-- Turns one after the other, joined by the least rooms; where rooms come back, all later turns give rooms that were there.
use Rattle.std.proofs.Common.{◌≡◌, ℕ, zero, suc, ◌+◌, ◌-◌, ◌<◌, ◌≤◌, Bool, true, false, List, Option, Some, None, option_map, refl, sym, ap, ◌∙◌, subst, ◌⊎◌, inl, inr, arith, zero-add}
use Rattle.std.proofs.lemmas.Bool.{cases_lt}
use Rattle.cast_stub.specs.Parts.{on_some}
use Rattle.stub_cover.specs.Rooms.{Rooms, least, no_rooms}
use Rattle.stub_cover.specs.Covers.{Turn, turns}
use Rattle.stub_rooms.specs.RoomsShown.{room_at, least_of, Follows}
use Rattle.stub_places.specs.Sets.{each_of}
use Rattle.stub_rooms.specs.TurnsMade.{IsStart, IsBack, IsKept, IsAnew, IsFarther, IsNext}
use Rattle.stub_rooms.specs.declared.turns.Turning.{Turning}
use Rattle.stub_rooms.proofs.RoomsLesser.{IsLow, least_assoc, least_same, low_first, low_second}

-- rooms and those behind so many turns more, by the least, are x
pub record Ends (f : Turn) (low : List (Option ℕ)) (m : ℕ) (here : List (Option ℕ)) (x : Option (List (Option ℕ))) : Type 0 where
  pub told : (R : Rooms) → here ≡ each_of R → x ≡ option_map (λ T. each_of (least (room_at low) T)) (turns m f R)

some_given : {A : Type 0} (a b : A) → Some a ≡ Some b → a ≡ b
some_given a b e = cc

-- ---- one turn

module _ (f : Turn) (low here : List (Option ℕ)) (m : ℕ) (x : Option (List (Option ℕ))) where
  rest_joined : (R : Rooms) (o : Option Rooms) → here ≡ each_of R
      → option_map (λ T. each_of (least (room_at (least_of low here)) T)) o
      ≡ option_map (λ T. each_of (least (room_at low) T)) (option_map (least R) o)
  rest_joined R None e = refl
  rest_joined R (Some T) e = ap Some (ap (λ (l : List (Option ℕ)). each_of (least (room_at (least_of low l)) T)) e ∙ least_assoc low R T)

  turn_made : (next : List (Option ℕ)) (R : Rooms) (o : Option Rooms) → here ≡ each_of R → Some next ≡ option_map each_of o
      → Ends f (least_of low here) m next x
      → x ≡ option_map (λ T. each_of (least (room_at low) T)) (on_some o (λ S. option_map (least R) (turns m f S)))
  turn_made next R None e is ends = absurd cc
  turn_made next R (Some S) e is ends = ends.told S (some_given next (each_of S) is) ∙ rest_joined R (turns m f S) e

  pub turned : (next : List (Option ℕ)) → Follows f here (Some next) → Ends f (least_of low here) m next x → Ends f low (suc m) here x
  turned next turn ends = record { told = λ R e. turn_made next R (f R) e (turn.told R e) ends }

no_turn : (low : List (Option ℕ)) (R : Rooms) (m : ℕ) (f : Turn) (o : Option Rooms) → None ≡ option_map each_of o
    → None ≡ option_map (λ T. each_of (least (room_at low) T)) (on_some o (λ S. option_map (least R) (turns m f S)))
no_turn low R m f None e = refl
no_turn low R m f (Some S) e = absurd cc

-- a turn that is refused
pub refused : (f : Turn) (low here : List (Option ℕ)) (m : ℕ) → Follows f here None → Ends f low (suc m) here None
refused f low here m turn = record { told = λ R e. no_turn low R m f (f R) (turn.told R e) }

-- no turn more
pub ended : (f : Turn) (low here : List (Option ℕ)) → Ends f low zero here (Some (least_of low here))
ended f low here = record { told = λ R e. ap (λ (l : List (Option ℕ)). Some (least_of low l)) e }

-- ---- turns that are made

-- what is shown after so many turns is shown from the start; and from the rooms that are kept as many turns as were made since lead
-- here, through rooms that are not below the least ones
pub record Made (f : Turn) (start : List (Option ℕ)) (i : ℕ) (a : Turning) : Type 0 where
  pub whole : (m : ℕ) (x : Option (List (Option ℕ))) → Ends f a.low m a.here x → Follows (turns (i + m) f) start x
  pub few : (m : ℕ) (y : List (Option ℕ)) → IsLow y a.low → m < a.since → Ends f y m a.kept (Some y)
  pub many : (m : ℕ) (y : List (Option ℕ)) → IsLow y a.low → Ends f y m a.here (Some y) → Ends f y (a.since + m) a.kept (Some y)
  pub since : a.since ≤ i

-- ---- numbers of turns

plus_none : (k m : ℕ) → k ≡ 0 → m ≡ k + m
plus_none k m e = omega (arith, e)

no_less : (m n : ℕ) → m < n + 1 → n ≤ m → m ≡ n
no_less m n less le = omega (arith, less, le)

split_by : (m n : ℕ) → m < n + 1 → (m < n) ⊎ (n ≤ m) → (m < n) ⊎ (m ≡ n)
split_by m n less (inl l) = inl l
split_by m n less (inr le) = inr (no_less m n less le)

split : (m n : ℕ) → m < n + 1 → (m < n) ⊎ (m ≡ n)
split m n less = split_by m n less (cases_lt m n)

or_later : (m n : ℕ) → (m < n + 1) ⊎ (n + 1 ≤ m)
or_later m n = cases_lt m (n + 1)

same_since : (m n : ℕ) → m ≡ n → n + zero ≡ m
same_since m n e = omega (arith, e)

one_over : (n m : ℕ) → n + suc m ≡ n + 1 + m
one_over n m = omega arith

again : (m n : ℕ) → n + 1 ≤ m → n + 1 + (m - (n + 1)) ≡ m
again m n le = omega (arith, le)

fewer : (m n k : ℕ) → m < suc k → n + 1 ≤ m → m - (n + 1) < k
fewer m n k less le = omega (arith, less, le)

left_over : (i most : ℕ) → i < most → i + suc (most - (i + 1)) ≡ most
left_over i most less = omega (arith, less)

left_behind : (i most : ℕ) → i < most → i + 1 + (most - (i + 1)) ≡ most
left_behind i most less = omega (arith, less)

all_over : (i most : ℕ) → i ≡ most → i + zero ≡ most
all_over i most e = omega (arith, e)

one_less : (n : ℕ) → n < suc n
one_less n = omega arith

-- ---- no turns

none_joined : (o : Option Rooms) → option_map (λ T. each_of (least (room_at (each_of no_rooms)) T)) o ≡ option_map each_of o
none_joined None = refl
none_joined (Some T) = refl

start_shown : (f : Turn) (start : List (Option ℕ)) (m : ℕ) (x : Option (List (Option ℕ))) → Ends f (each_of no_rooms) m start x
    → Follows (turns (0 + m) f) start x
start_shown f start m x ends = record {
  told = λ R e. ends.told R e ∙ none_joined (turns m f R) ∙ ap (λ k. option_map each_of (turns k f R)) (sym (zero-add m));
}

nothing_less : (m n : ℕ) → n ≡ 0 → m < n → ⊥
nothing_less m n e less = omega (arith, e, less)

pub made_none : (f : Turn) (start : List (Option ℕ)) (a : Turning) → IsStart start a → Made f start 0 a
made_none f start a is = record {
  whole = λ m x ends. start_shown f start m x (subst (λ (l : List (Option ℕ)). Ends f l m start x) is.low
      (subst (λ (l : List (Option ℕ)). Ends f a.low m l x) is.here ends));
  few = λ m y low less. absurd (nothing_less m a.since is.since less);
  many = λ m y low ends. subst (λ (l : List (Option ℕ)). Ends f y (a.since + m) l (Some y)) (sym is.kept)
      (subst (λ k. Ends f y k start (Some y)) (plus_none a.since m is.since)
      (subst (λ (l : List (Option ℕ)). Ends f y m l (Some y)) is.here ends));
  since = omega (arith, is.since);
}

-- ---- one turn more

module _ (f : Turn) (next y here : List (Option ℕ)) (turn : Follows f here (Some next)) (low : IsLow y here) where
  -- rooms that are not below
  pub stays : (m : ℕ) → Ends f y m next (Some y) → Ends f y (suc m) here (Some y)
  stays m ends = turned f y here m (Some y) next turn (subst (λ (l : List (Option ℕ)). Ends f l m next (Some y)) (sym low) ends)

  pub is_here : Ends f y zero here (Some y)
  is_here = subst (λ (l : List (Option ℕ)). Ends f y zero here (Some l)) low (ended f y here)

module _ (f : Turn) (start : List (Option ℕ)) (i : ℕ) (a : Turning) (so_far : Made f start i a) (next : List (Option ℕ))
    (turn : Follows f a.here (Some next)) where
  few_here : (m : ℕ) (y : List (Option ℕ)) → IsLow y (least_of a.low a.here) → (m < a.since) ⊎ (m ≡ a.since) → Ends f y m a.kept (Some y)
  few_here m y low (inl l) = so_far.few m y (low_first y a.low a.here low) l
  few_here m y low (inr e) = subst (λ k. Ends f y k a.kept (Some y)) (same_since m a.since e)
      (so_far.many zero y (low_first y a.low a.here low) (is_here f next y a.here turn (low_second y a.low a.here low)))

  few_more : (m : ℕ) (y : List (Option ℕ)) → IsLow y (least_of a.low a.here) → m < a.since + 1 → Ends f y m a.kept (Some y)
  few_more m y low less = few_here m y low (split m a.since less)

  many_more : (m : ℕ) (y : List (Option ℕ)) → IsLow y (least_of a.low a.here) → Ends f y m next (Some y)
      → Ends f y (a.since + 1 + m) a.kept (Some y)
  many_more m y low ends = subst (λ k. Ends f y k a.kept (Some y)) (one_over a.since m)
      (so_far.many (suc m) y (low_first y a.low a.here low) (stays f next y a.here turn (low_second y a.low a.here low) m ends))

  whole_more : (m : ℕ) (x : Option (List (Option ℕ))) → Ends f (least_of a.low a.here) m next x → Follows (turns (i + 1 + m) f) start x
  whole_more m x ends = subst (λ k. Follows (turns k f) start x) (one_over i m)
      (so_far.whole (suc m) x (turned f a.low a.here m x next turn ends))

  few_b : (b : Turning) (m : ℕ) (y : List (Option ℕ)) → IsLow y (least_of a.low a.here) → m < b.since → IsKept a b ⊎ IsAnew next b
      → Ends f y m b.kept (Some y)
  few_b b m y low less (inl k) = subst (λ (l : List (Option ℕ)). Ends f y m l (Some y)) (sym k.kept)
      (few_more m y low (subst (λ n. m < n) k.since less))
  few_b b m y low less (inr k) = absurd (nothing_less m b.since k.since less)

  many_b : (b : Turning) (m : ℕ) (y : List (Option ℕ)) → IsLow y (least_of a.low a.here) → Ends f y m next (Some y)
      → IsKept a b ⊎ IsAnew next b → Ends f y (b.since + m) b.kept (Some y)
  many_b b m y low ends (inl k) = subst (λ (l : List (Option ℕ)). Ends f y (b.since + m) l (Some y)) (sym k.kept)
      (subst (λ n. Ends f y (n + m) a.kept (Some y)) (sym k.since) (many_more m y low ends))
  many_b b m y low ends (inr k) = subst (λ (l : List (Option ℕ)). Ends f y (b.since + m) l (Some y)) (sym k.kept)
      (subst (λ n. Ends f y n next (Some y)) (plus_none b.since m k.since) ends)

  since_b : (b : Turning) → IsKept a b ⊎ IsAnew next b → b.since ≤ i + 1
  since_b b (inl k) = omega (arith, k.since, so_far.since)
  since_b b (inr k) = omega (arith, k.since)

  pub made_more : (b : Turning) → IsFarther next a b → Made f start (i + 1) b
  made_more b is = record {
    whole = λ m x ends. whole_more m x (subst (λ (l : List (Option ℕ)). Ends f l m next x) is.low
        (subst (λ (l : List (Option ℕ)). Ends f b.low m l x) is.here ends));
    few = λ m y low less. few_b b m y (subst (λ (l : List (Option ℕ)). IsLow y l) is.low low) less is.keeps;
    many = λ m y low ends. many_b b m y (subst (λ (l : List (Option ℕ)). IsLow y l) is.low low)
        (subst (λ (l : List (Option ℕ)). Ends f y m l (Some y)) is.here ends) is.keeps;
    since = since_b b is.keeps;
  }

  later_here : (y : List (Option ℕ)) (n m : ℕ) → next ≡ a.kept → IsLow y (least_of a.low a.here) → m < suc n
      → ((k : ℕ) → k < n → Ends f y k a.kept (Some y)) → (m < a.since + 1) ⊎ (a.since + 1 ≤ m) → Ends f y m a.kept (Some y)
  later_here y n m back low less before (inl l) = few_more m y low l
  later_here y n m back low less before (inr l) = subst (λ k. Ends f y k a.kept (Some y)) (again m a.since l)
      (many_more (m - (a.since + 1)) y low (subst (λ (r : List (Option ℕ)). Ends f y (m - (a.since + 1)) r (Some y)) (sym back)
      (before (m - (a.since + 1)) (fewer m a.since n less l))))

  -- rooms that have come back: all later ones are not below the least of those that were there
  all_later : (y : List (Option ℕ)) → next ≡ a.kept → IsLow y (least_of a.low a.here) → (n m : ℕ) → m < n → Ends f y m a.kept (Some y)
  all_later y back low zero m less = absurd (nothing_less m zero refl less)
  all_later y back low (suc n) m less = later_here y n m back low less (all_later y back low n) (or_later m a.since)

  pub came_back : (b : Turning) (most : ℕ) → IsBack next a b → i < most → Follows (turns most f) start (Some b.low)
  came_back b most is less =
      let y = least_of a.low a.here in
      let m = most - (i + 1) in
      subst (λ (l : List (Option ℕ)). Follows (turns most f) start (Some l)) (sym is.low)
      (subst (λ k. Follows (turns k f) start (Some y)) (left_behind i most less)
      (whole_more m (Some y) (subst (λ (l : List (Option ℕ)). Ends f y m l (Some y)) (sym is.back)
      (all_later y is.back (least_same (least (room_at a.low) (room_at a.here))) (suc m) m (one_less m)))))

module _ (f : Turn) (start : List (Option ℕ)) (i most : ℕ) (a : Turning) (so_far : Made f start i a) where
  -- a turn that is refused
  pub stopped : i < most → Follows f a.here None → Follows (turns most f) start None
  stopped less turn = subst (λ k. Follows (turns k f) start None) (left_over i most less)
      (so_far.whole (suc (most - (i + 1))) None (refused f a.low a.here (most - (i + 1)) turn))

  -- all turns are made
  pub all_made : i ≡ most → Follows (turns most f) start (Some (least_of a.low a.here))
  all_made e = subst (λ k. Follows (turns k f) start (Some (least_of a.low a.here))) (all_over i most e)
      (so_far.whole zero (Some (least_of a.low a.here)) (ended f a.low a.here))

pub is_back : (next : List (Option ℕ)) (a b : Turning) (back : Bool) → back ≡ true → IsNext next a back b → IsBack next a b
is_back next a b true e h = h
is_back next a b false e h = absurd cc

pub is_farther : (next : List (Option ℕ)) (a b : Turning) (back : Bool) → back ≡ false → IsNext next a back b → IsFarther next a b
is_farther next a b true e h = absurd cc
is_farther next a b false e h = h

pub turn_is : (f : Turn) (a : List (Option ℕ)) (x y : Option (List (Option ℕ))) → x ≡ y → Follows f a x → Follows f a y
turn_is f a x y e p = subst (λ (z : Option (List (Option ℕ))). Follows f a z) e p
