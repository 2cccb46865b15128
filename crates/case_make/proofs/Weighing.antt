-- Values made one after the other.
use Rattle.std.proofs.Common.{◌≡◌, ℕ, suc, ◌+◌, ◌-◌, ◌<◌, ◌≤◌, List, [], ◌∷◌, ◌++◌, length, refl, sym, ap, ◌∙◌, arith, append_assoc, append-nil, subst, ℤ, Result, Ok, Err, IfErr, map, drop, get_or}
use Rattle.mint.specs.declared.kind.Kind.{Kind}
use Rattle.mint.specs.declared.kind.Count.{Count}
use Rattle.std.proofs.lemmas.List.{drop_more}
use Rattle.mint.specs.declared.value.Value.{Value}
use Rattle.mint.specs.Types.{Ty, items_type, at, fields_at}
use Rattle.mint.specs.Values.{Val, row, seen, weight}
use Rattle.case_make.specs.declared.maker.Maker.{Maker}
use Rattle.case_make.specs.Draws.{Drawn, drawn_as, several, drawn_length}
use Rattle.case_make.specs.Made.{as_many, drawn, drawn_fields}
use Rattle.case_make.proofs.Drawing.{length-several}
use Rattle.case_make.specs.Making.{IsMade, IsTooHeavy, weigh_all}

pub weights-append : (xs ys : List Val) → weigh_all (xs ++ ys) ≡ weigh_all xs + weigh_all ys
weights-append [] ys = omega arith
weights-append (x ∷ xs) ys = omega (arith, weights-append xs ys)

-- nothing is drawn
abbrev pub none : ℕ → Drawn (List Val)
none s = record { value = []; state = s }

-- a value, and then others
abbrev pub first : (ℕ → Drawn Val) → (ℕ → Drawn (List Val)) → ℕ → Drawn (List Val)
first f more s = drawn_as (λ vs. (f s).value ∷ vs) (more (f s).state)

-- values so far, and what is still to be drawn
pub record Going (rest : ℕ → Drawn (List Val)) (all : Drawn (List Val)) (values : List Val) (old now : Maker) : Type 0 where
  pub value : values ++ (rest now.state).value ≡ all.value
  pub state : (rest now.state).state ≡ all.state
  pub left : now.left + weigh_all values ≡ old.left

pub going_on : (f : ℕ → Drawn Val) (more : ℕ → Drawn (List Val)) (all : Drawn (List Val)) (values : List Val) (v : Val)
    (old now new : Maker)
    → Going (first f more) all values old now → IsMade weight now new (f now.state) v → Going more all (values ++ (v ∷ [])) old new
going_on f more all values v old now new g m = record {
  value = append_assoc values (v ∷ []) (more new.state).value ∙ ap (λ z. values ++ (z ∷ (more new.state).value)) m.value
      ∙ ap (λ z. values ++ ((f now.state).value ∷ (more z).value)) m.state ∙ g.value;
  state = ap (λ z. (more z).state) m.state ∙ g.state;
  left = omega (arith, weights-append values (v ∷ []), g.left, m.left);
}

pub gone : (all : Drawn (List Val)) (values : List Val) (old now : Maker) → Going none all values old now
    → IsMade weigh_all old now all values
gone all values old now g = record { value = sym (append-nil values) ∙ g.value; state = g.state; left = g.left }

pub too_heavy : (f : ℕ → Drawn Val) (more : ℕ → Drawn (List Val)) (all : Drawn (List Val)) (values : List Val) (old now : Maker)
    → Going (first f more) all values old now → IsTooHeavy weight now (f now.state) → IsTooHeavy weigh_all old all
too_heavy f more all values old now g h =
    let rest = (f now.state).value ∷ (more (f now.state).state).value in
    let whole : weigh_all all.value ≡ weigh_all (values ++ rest) = ap weigh_all (sym g.value) in
    omega (arith, whole, weights-append values rest, g.left, h)

-- ---- of so many

pub one_less : (n i : ℕ) → i < n → n - i ≡ suc (n - (i + 1))
one_less n i h = omega arith

pub none_less : (n i : ℕ) → n ≤ i → n - i ≡ 0
none_less n i h = omega arith

-- numbers so far, and those that are still to be drawn
pub record Rowing (f : ℕ → Drawn ℤ) (many i : ℕ) (numbers : List ℤ) (start now : ℕ) : Type 0 where
  pub value : numbers ++ (several f (many - i) now).value ≡ (several f many start).value
  pub state : (several f (many - i) now).state ≡ (several f many start).state

pub row_begun : (f : ℕ → Drawn ℤ) (many start : ℕ) → Rowing f many 0 [] start start
row_begun f many start =
    let none : many - 0 ≡ many = omega arith in
    record { value = ap (λ m. (several f m start).value) none; state = ap (λ m. (several f m start).state) none }

pub row_on : (f : ℕ → Drawn ℤ) (many i : ℕ) (numbers : List ℤ) (start now new : ℕ) (x : ℤ) → i < many → Rowing f many i numbers start now
    → x ≡ (f now).value → new ≡ (f now).state → Rowing f many (i + 1) (numbers ++ (x ∷ [])) start new
row_on f many i numbers start now new x h g is next =
    let less = one_less many i h in
    let more = many - (i + 1) in
    let step : several f (many - i) now ≡ several f (suc more) now = ap (λ m. several f m now) less in
    record {
      value = append_assoc numbers (x ∷ []) (several f more new).value ∙ ap (λ z. numbers ++ (z ∷ (several f more new).value)) is
          ∙ ap (λ z. numbers ++ ((f now).value ∷ (several f more z).value)) next ∙ ap (λ z. numbers ++ z.value) (sym step) ∙ g.value;
      state = ap (λ z. (several f more z).state) next ∙ ap (λ z. z.state) (sym step) ∙ g.state;
    }

pub row_done : (f : ℕ → Drawn ℤ) (many i : ℕ) (numbers : List ℤ) (start now : ℕ) → many ≤ i → Rowing f many i numbers start now
    → (numbers ≡ (several f many start).value) × (now ≡ (several f many start).state)
row_done f many i numbers start now h g =
    let none = none_less many i h in (
      sym (append-nil numbers)
          ∙ ap (λ m. numbers ++ (several f m now).value) (sym none) ∙ g.value,
      ap (λ m. (several f m now).state) (sym none) ∙ g.state,
    )

-- a row that is made
pub row_made : (k : Kind) (f : ℕ → Drawn ℤ) (c : Count) (old new : Maker) (many i start : ℕ) (numbers : List ℤ) → many ≤ i
    → Rowing f many i numbers start new.state → many ≡ (drawn_length c old.state).value → start ≡ (drawn_length c old.state).state
    → new.left + (1 + many) ≡ old.left → IsMade weight old new (drawn_as (row k) (as_many f (drawn_length c old.state))) (row k numbers)
row_made k f c old new many i start numbers h g length_is start_is left =
    let done = row_done f many i numbers start new.state h g in
    let whole : several f many start ≡ as_many f (drawn_length c old.state) =
    ap (λ m. several f m start) length_is ∙ ap (λ s. several f (drawn_length c old.state).value s) start_is in
    let long : length numbers ≡ many = ap length done.0 ∙ length-several f many start in
    record {
      value =
          ap (row k) (done.0 ∙ ap (λ z. z.value) whole);
      state = done.1 ∙ ap (λ z. z.state) whole;
      left = omega (arith, long, left);
    }

pub heavy_row : (f : ℕ → Drawn ℤ) (c : Count) (s left n : ℕ) → left < 1 + n → n ≡ (drawn_length c s).value
    → left < suc (length (as_many f (drawn_length c s)).value)
heavy_row f c s left n h is = omega (arith, h, is, length-several f (drawn_length c s).value (drawn_length c s).state)

-- a fact that holds whatever was refused
pub whatever : {T E P : Type 0} (r : Result T E) → (Q : E → Type 0) → P → IfErr r (λ e. Q e → P)
whatever (Ok x) Q p = tt
whatever (Err e) Q p = λ q. p

-- a list of so many values
pub items_on : (f : ℕ → Drawn Val) (many i : ℕ) (all : Drawn (List Val)) (values : List Val) (old now : Maker) → i < many
    → Going (several f (many - i)) all values old now → Going (first f (several f (many - (i + 1)))) all values old now
items_on f many i all values old now h g =
    subst (λ m. Going (several f m) all values old now) (one_less many i h) g

pub items_done : (f : ℕ → Drawn Val) (many i : ℕ) (all : Drawn (List Val)) (values : List Val) (old now : Maker) → many ≤ i
    → Going (several f (many - i)) all values old now → IsMade weigh_all old now all values
items_done f many i all values old now h g =
    gone all values old now (subst (λ m. Going (several f m) all values old now) (none_less many i h) g)

-- the fields that are left
pub fields_next : (u : List Ty) (xs : List ℕ) (i : ℕ) (all : Drawn (List Val)) (values : List Val) (old now : Maker) → i < length xs
    → Going (drawn_fields (fields_at u (drop i xs))) all values old now
    → Going (first (drawn (at u (get_or xs i 0))) (drawn_fields (fields_at u (drop (i + 1) xs)))) all values old now
fields_next u xs i all values old now h g = subst (λ ys. Going (drawn_fields (fields_at u ys)) all values old now) (drop_more xs i 0 h) g

pub push_seen : (xs : List Value) (x : Value) → map seen (xs ++ (x ∷ [])) ≡ map seen xs ++ (seen x ∷ [])
push_seen [] x = refl
push_seen (y ∷ xs) x = ap (λ z. seen y ∷ z) (push_seen xs x)

-- one more value
pub pushed_on : (f : ℕ → Drawn Val) (more : ℕ → Drawn (List Val)) (all : Drawn (List Val)) (xs ys : List Value) (x : Value)
    (old now new : Maker)
    → ys ≡ xs ++ (x ∷ []) → Going (first f more) all (map seen xs) old now → IsMade weight now new (f now.state) (seen x)
    → Going more all (map seen ys) old new
pushed_on f more all xs ys x old now new is g m =
    subst
    (λ vs.
    Going more all vs old new) (sym (ap (map seen) is ∙ push_seen xs x)) (going_on f more all (map seen xs) (seen x) old now new g m)

-- a list whose elements are too heavy
pub items_heavy : (ty inner : Ty) (c : Count) (old weighed counted : Maker) (many : ℕ) → ty ≡ items_type c inner
    → weighed.left + 1 ≡ old.left → weighed.state ≡ old.state → many ≡ (drawn_length c weighed.state).value
    → counted.state ≡ (drawn_length c weighed.state).state → counted.left ≡ weighed.left
    → IsTooHeavy weigh_all counted (several (drawn inner) many counted.state) → IsTooHeavy weight old (drawn ty old.state)
items_heavy ty inner c old weighed counted many is less same count state left h =
    let d = drawn_length c old.state in
    let whole : several (drawn inner) many counted.state ≡ as_many (drawn inner) d =
    ap (λ m. several (drawn inner) m counted.state) (count ∙ ap (λ s. (drawn_length c s).value) same)
    ∙ ap (λ s. several (drawn inner) d.value s) (state ∙ ap (λ s. (drawn_length c s).state) same) in
    let heavy = ap (λ (z : Drawn (List Val)). weigh_all z.value) whole in
    subst (λ (z : Ty). IsTooHeavy weight old (drawn z old.state)) (sym is) (omega (arith, h, heavy, less, left))
