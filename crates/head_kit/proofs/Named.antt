-- What is named among the operations of interfaces, by induction on the interfaces.
use Rattle.std.proofs.Common.{◌≡◌, ◌+◌, ◌-◌, ◌<◌, ◌≤◌, ℕ, Bool, true, false, List, [], ◌∷◌, ◌++◌, Some, map, drop, length, length-append, get_or, refl, sym, ap, ◌∙◌, arith}
use Rattle.std.specs.Prelude.{slice_get, flat_map, option_map, if◌then◌else◌}
use Rattle.std.specs.List.{position_from}
use Rattle.std.proofs.lemmas.List.{length-map, map-append, drop_more, get_or-map, get_or_append_left, get_or-append-add}
use Rattle.std.proofs.lemmas.Option.{slice_get-map}
use Rattle.std.proofs.lemmas.Simd.{map-map}
use Rattle.head_kit.specs.declared.call_head.CallTarget.TheVariants as naming
use Rattle.head_kit.specs.Calls.{IsBelow, operation_at, named_from}
use Rattle.head_kit.proofs.Finding.{more, either, position_below, chosen, passed, place_of, Found, found, in_front, after, at_some}

-- interfaces with their operations
module _ {I O : Type 0} (ops : I → List O) where
  -- what the operations are, in the order of the interfaces
  abbrev pub listed : {T : Type 0} → (I → O → T) → List I → List T
  listed to is = flat_map (λ (i : I). map (to i) (ops i)) is

  pub length-listed : {T : Type 0} (to : I → O → T) (i : I) (is : List I)
      → length (listed to (i ∷ is)) ≡ length (ops i) + length (listed to is)
  length-listed to i is =
      length-append (map (to i) (ops i)) (listed to is) ∙ ap (λ (n : ℕ). n + length (listed to is)) (length-map (ops i) (to i))

  -- each operation with its interface
  abbrev pub pair : I → O → I × O
  pair i p = (i, p)

  abbrev pub pairs : List I → List (I × O)
  pairs is = listed pair is

  all_listed : {T : Type 0} (to : I → O → T) (is : List I) → listed to is ≡ map (λ (q : I × O). to q.0 q.1) (pairs is)
  all_listed to [] = refl
  all_listed {T} to (i ∷ is) =
      let at : I × O → T = λ q. to q.0 q.1 in
      ap (λ (l : List T). l ++ listed to is) (sym (map-map at (pair i) (ops i)))
      ∙ ap (λ (l : List T). map at (map (pair i) (ops i)) ++ l) (all_listed to is)
      ∙ sym (map-append at (map (pair i) (ops i)) (pairs is))

  listed_at : {T : Type 0} (to : I → O → T) (d : T) (is : List I) (n : ℕ) (i : I) (p : O) → slice_get (pairs is) n ≡ Some (i, p)
      → get_or (listed to is) n d ≡ to i p
  listed_at {T} to d is n i p there =
      let at : I × O → T = λ q. to q.0 q.1 in
      at_some (listed to is) n (to i p) d
      (ap (λ (l : List T). slice_get l n) (all_listed to is) ∙ slice_get-map at (pairs is) n ∙ ap (option_map at) there)

  -- interfaces and operations that are seen as these: what an operation is by its place among those of all interfaces
  module _ {T J D : Type 0} (to : I → O → T) (none : T) (plain : J → I) (plain_op : D → O) (own : J → List D)
      (same : (j : J) → ops (plain j) ≡ map plain_op (own j)) where
    many : (j : J) → length (map (to (plain j)) (ops (plain j))) ≡ length (own j)
    many j = length-map (ops (plain j)) (to (plain j)) ∙ ap length (same j) ∙ length-map (own j) plain_op

    -- among those of the first interface
    pub in_own : (j : J) (js : List J) (place : ℕ) (d : D) → place < length (own j) → d ≡ get_or (own j) place d
        → get_or (listed to (map plain (j ∷ js))) place none ≡ to (plain j) (plain_op d)
    in_own j js place d below is =
        let all : length (map (to (plain j)) (ops (plain j))) ≡ length (own j) = many j in
        let plains : length (ops (plain j)) ≡ length (own j) = ap length (same j) ∙ length-map (own j) plain_op in
        get_or_append_left (map (to (plain j)) (ops (plain j))) (listed to (map plain js)) none place (omega (arith, all, below))
        ∙ get_or-map (to (plain j)) (ops (plain j)) place (plain_op d) none (omega (arith, plains, below))
        ∙ ap (λ (ps : List O). to (plain j) (get_or ps place (plain_op d))) (same j)
        ∙ ap (to (plain j)) (get_or-map plain_op (own j) place d (plain_op d) below ∙ ap plain_op (sym is))

    -- after them
    pub past_own : (j : J) (js : List J) (place : ℕ) → length (own j) ≤ place
        → get_or (listed to (map plain (j ∷ js))) place none ≡ get_or (listed to (map plain js)) (place - length (own j)) none
    past_own j js place past =
        let all : length (map (to (plain j)) (ops (plain j))) ≡ length (own j) = many j in
        let at : place ≡ length (map (to (plain j)) (ops (plain j))) + (place - length (own j)) = omega (arith, all, past) in
        ap (λ (n : ℕ). get_or (listed to (map plain (j ∷ js))) n none) at
        ∙ get_or-append-add (map (to (plain j)) (ops (plain j))) (listed to (map plain js)) (place - length (own j)) none

  -- which interfaces are called, and which of their operations have what is asked for
  module _ (called : I → Bool) (has : I → O → Bool) where
    -- what is named is there
    pub named_below : {T : Type 0} (to : I → O → T) (k : ℕ) (is : List I)
        → IsBelow (k + length (listed to is)) (named_from ops called has k is)
    named_below to k [] = tt
    named_below to k (i ∷ is) =
        let all = length-listed to i is in
        either _ (called i) _ _
        (more _ _ _ (position_below (has i) k (ops i)) (omega arith))
        (more _ _ _ (named_below to (k + length (ops i)) is) (omega arith))

    -- at the first interface that is called
    pub named_here : {J : Type 0} (plain : J → I) (k n : ℕ) (js : List J) (j : J) → n < length js → j ≡ get_or js n j
        → called (plain j) ≡ true
        → named_from ops called has k (map plain (drop n js)) ≡ operation_at (position_from (has (plain j)) k (ops (plain j)))
    named_here {J} plain k n js j h e is =
        let here : drop n js ≡ j ∷ drop (n + 1) js = drop_more js n j h ∙ ap (λ z. z ∷ drop (n + 1) js) (sym e) in
        ap (λ (l : List J). named_from ops called has k (map plain l)) here ∙ chosen (called (plain j)) _ _ is

    -- past an interface that is not called
    pub named_past : {J : Type 0} (plain : J → I) (k n : ℕ) (js : List J) (j : J) → n < length js → j ≡ get_or js n j
        → called (plain j) ≡ false
        → named_from ops called has k (map plain (drop n js))
        ≡ named_from ops called has (k + length (ops (plain j))) (map plain (drop (n + 1) js))
    named_past {J} plain k n js j h e other =
        let here : drop n js ≡ j ∷ drop (n + 1) js = drop_more js n j h ∙ ap (λ z. z ∷ drop (n + 1) js) (sym e) in
        ap (λ (l : List J). named_from ops called has k (map plain l)) here ∙ passed (called (plain j)) _ _ other

    -- the operation of a number counted from k is one of the interfaces, which is called, and has what is asked for
    abbrev pub IsNamed : ℕ → List I → ℕ → Type 0
    IsNamed k is j = (n : ℕ) × (i : I) × (p : O) × (j ≡ k + n) × (slice_get (pairs is) n ≡ Some (i, p))
        × (called i ≡ true) × (has i p ≡ true)

    in_first : (k : ℕ) (i : I) (is : List I) (j : ℕ) → called i ≡ true → Found (has i) k (ops i) j → IsNamed k (i ∷ is) j
    in_first k i is j is_called (n, p, at, there, has_it) =
        let here : slice_get (map (pair i) (ops i)) n ≡ Some (i, p) =
        slice_get-map (pair i) (ops i) n ∙ ap (option_map (pair i)) there in
        (n, i, p, at, in_front (map (pair i) (ops i)) (pairs is) n (i, p) here, is_called, has_it)

    in_others : (k : ℕ) (i : I) (is : List I) (j : ℕ) → IsNamed (k + length (ops i)) is j → IsNamed k (i ∷ is) j
    in_others k i is j (n, o, p, at, there, is_called, has_it) =
        let many : length (map (pair i) (ops i)) ≡ length (ops i) = length-map (ops i) (pair i) in (
          length (ops i) + n,
          o,
          p,
          omega (arith, at),
          after (map (pair i) (ops i)) (pairs is) n (length (ops i) + n) (omega (arith, many)) ∙ there,
          is_called,
          has_it,
        )

    named_step : (k : ℕ) (i : I) (is : List I) (j : ℕ) (t : Bool) → called i ≡ t
        → (named_from ops called has (k + length (ops i)) is ≡ naming.Operation j → IsNamed (k + length (ops i)) is j)
        → (if t then operation_at (position_from (has i) k (ops i)) else named_from ops called has (k + length (ops i)) is)
        ≡ naming.Operation j
        → IsNamed k (i ∷ is) j
    named_step k i is j true is_called later e = in_first k i is j is_called (found (has i) k (ops i) j (place_of _ j e))
    named_step k i is j false is_called later e = in_others k i is j (later e)

    pub named_by : (k : ℕ) (is : List I) (j : ℕ) → named_from ops called has k is ≡ naming.Operation j → IsNamed k is j
    named_by k [] j e = absurd cc
    named_by k (i ∷ is) j e = named_step k i is j (called i) refl (named_by (k + length (ops i)) is j) e

    -- what an operation is that is named
    pub named_right : {T : Type 0} (to : I → O → T) (d : T) (is : List I) (j : ℕ) → named_from ops called has 0 is ≡ naming.Operation j
        → (i : I) × (p : O) × (get_or (listed to is) j d ≡ to i p) × (called i ≡ true) × (has i p ≡ true)
    named_right {T} to d is j e =
        let (n, i, p, at, there, is_called, has_it) = named_by 0 is j e in
        let place : j ≡ n = omega (arith, at) in
        (i, p, ap (λ (m : ℕ). get_or (listed to is) m d) place ∙ listed_at to d is n i p there, is_called, has_it)
