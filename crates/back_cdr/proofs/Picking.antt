-- A name that is picked among those that are kept is the one that is sought, by induction on the interfaces.
use Rattle.std.proofs.Common.{◌≡◌, ◌+◌, ◌<◌, ℕ, suc, Bool, true, false, List, [], ◌∷◌, length, Option, None, Some, option_map, refl, sym, ap, ◌∙◌, arith}
use Rattle.std.specs.Prelude.{if◌then◌else◌, slice_get}
use Rattle.std.specs.List.{position_from}
use Rattle.std.specs.Str.{bytes_eq}
use Rattle.std.proofs.lemmas.Slice.Eq.{bytes_eq-Decides}
use Rattle.wire_def.specs.declared.encoding.Back.{Back}
use Rattle.wire_def.specs.declared.encoding.Back.TheVariants as back
use Rattle.aoi.specs.Plain.{PlainInterface, PlainOperation}
use Rattle.cast_stub.specs.Parts.{on_some}
use Rattle.head_kit.specs.declared.call_head.CallTarget.{CallTarget}
use Rattle.head_kit.specs.Calls.{operation_at}
use Rattle.back_cdr.specs.declared.names.Names.{Names}
use Rattle.back_cdr.specs.Names.{AreNames, AreNamesOver, operation_of, found}
use Rattle.back_cdr.specs.Offered.{Offered, names_of, keys_of, offered_from, operation_in}
use Rattle.back_cdr.specs.Seeking.{has_name, named_from}
use Rattle.back_cdr.specs.Targets.{IsCdr}

-- ---- tests of octets

same_tests : (a b : Bool) → (a ≡ true → b ≡ true) → (b ≡ true → a ≡ true) → a ≡ b
same_tests true b f g = sym (f refl)
same_tests false true f g = g refl
same_tests false false f g = refl

bytes_turned : (xs ys : List ℕ) → bytes_eq xs ys ≡ bytes_eq ys xs
bytes_turned xs ys =
    same_tests (bytes_eq xs ys) (bytes_eq ys xs) (λ e. (bytes_eq-Decides ys xs).1 (sym ((bytes_eq-Decides xs ys).0 e)))
    (λ e. (bytes_eq-Decides xs ys).1 (sym ((bytes_eq-Decides ys xs).0 e)))

-- ---- places

module _ {A : Type 0} (p : A → Bool) where
  below_step : (t : Bool) (n k : ℕ) (x : A) (xs : List A) → (position_from p (n + 1) xs ≡ Some k → k < (n + 1) + length xs)
      → (if t then Some n else position_from p (n + 1) xs) ≡ Some k → k < n + length (x ∷ xs)
  below_step true n k x xs later e =
      let same : n ≡ k = cc in
      omega (arith, same)
  below_step false n k x xs later e = let h = later e in omega (arith, h)

  -- a place that is found lies within the list
  pub below : (n k : ℕ) (xs : List A) → position_from p n xs ≡ Some k → k < n + length xs
  below n k [] e = absurd cc
  below n k (x ∷ xs) e = below_step (p x) n k x xs (below (n + 1) k xs) e

-- the places of a list that is counted from k on
placed_at : (t : Bool) (k n : ℕ) (x y : Option ℕ) → x ≡ option_map (λ (j : ℕ). k + j) y
    → (if t then Some (k + n) else x) ≡ option_map (λ (j : ℕ). k + j) (if t then Some n else y)
placed_at true k n x y more = refl
placed_at false k n x y more = more

pub counted : (p : List ℕ → Bool) (k n : ℕ) (xs : List (List ℕ))
    → position_from p (k + n) xs ≡ option_map (λ (j : ℕ). k + j) (position_from p n xs)
counted p k n [] = refl
counted p k n (x ∷ xs) =
    let next : k + n + 1 ≡ k + (n + 1) = omega arith in
    placed_at (p x) k n (position_from p (k + n + 1) xs) (position_from p (n + 1) xs)
    (ap (λ (m : ℕ). position_from p m xs) next ∙ counted p k (n + 1) xs)

-- the names of operations are tested as the operations are
chosen : (s t : Bool) (k : ℕ) (x y : Option ℕ) → s ≡ t → x ≡ y → (if s then Some k else x) ≡ (if t then Some k else y)
chosen s t k x y e f = ap (λ (b : Bool). if b then Some k else x) e ∙ ap (λ (z : Option ℕ). if t then Some k else z) f

by_name : (name : List ℕ) (k : ℕ) (ops : List PlainOperation) → position_from (bytes_eq name) k (names_of ops)
    ≡ position_from (has_name name) k ops
by_name name k [] = refl
by_name name k (op ∷ ops) =
    chosen (bytes_eq name op.name) (bytes_eq op.name name) k (position_from (bytes_eq name) (k + 1) (names_of ops))
    (position_from (has_name name) (k + 1) ops) (bytes_turned name op.name) (by_name name (k + 1) ops)

-- the operations of one interface
here : (k : ℕ) (ops : List PlainOperation) (name : List ℕ) → operation_in (record { first = k; names = names_of ops }) name
    ≡ operation_at (position_from (has_name name) k ops)
here k ops name =
    let start : k + 0 ≡ k = omega arith in
    ap operation_at (sym (counted (bytes_eq name) k 0 (names_of ops))
    ∙ ap (λ (m : ℕ). position_from (bytes_eq name) m (names_of ops)) start ∙ by_name name k ops)

-- ---- interfaces

after_first : (x : Offered) (xs : List Offered) (o : Option ℕ) → on_some (option_map (λ (j : ℕ). 1 + j) o) (slice_get (x ∷ xs))
    ≡ on_some o (slice_get xs)
after_first x xs None = refl
after_first x xs (Some n) =
    let next : 1 + n ≡ suc n = omega arith in
    ap (slice_get (x ∷ xs)) next

at_first : (s t : Bool) (x : Offered) (xs : List Offered) (o : Option ℕ) (name : List ℕ) (a b : CallTarget) → s ≡ t
    → operation_in x name ≡ a → operation_of (on_some o (slice_get (x ∷ xs))) name ≡ b
    → operation_of (on_some (if s then Some 0 else o) (slice_get (x ∷ xs))) name ≡ (if t then a else b)
at_first true true x xs o name a b same e f = e
at_first false false x xs o name a b same e f = f
at_first true false x xs o name a b same e f = absurd cc
at_first false true x xs o name a b same e f = absurd cc

found_from : (k : ℕ) (is : List PlainInterface) (key name : List ℕ)
    → operation_of (on_some (position_from (bytes_eq key) 0 (keys_of is)) (slice_get (offered_from k is))) name
    ≡ named_from k is key name
found_from k [] key name = refl
found_from k (i ∷ is) key name =
    let x : Offered = record { first = k; names = names_of i.ops } in
    let rest : List Offered = offered_from (k + length i.ops) is in
    let others : Option ℕ = position_from (bytes_eq key) 0 (keys_of is) in
    let later : operation_of (on_some (position_from (bytes_eq key) 1 (keys_of is)) (slice_get (x ∷ rest))) name
    ≡ named_from (k + length i.ops) is key name =
    ap (λ (o : Option ℕ). operation_of (on_some o (slice_get (x ∷ rest))) name) (counted (bytes_eq key) 1 0 (keys_of is))
    ∙ ap (λ (o : Option Offered). operation_of o name) (after_first x rest others)
    ∙ found_from (k + length i.ops) is key name in
    at_first (bytes_eq key i.name) (bytes_eq i.name key) x rest (position_from (bytes_eq key) 1 (keys_of is)) name _ _
    (bytes_turned key i.name) (here k i.ops name) later

pub found_named : (is : List PlainInterface) (n : Names) (key name : List ℕ) → AreNames is n → found n key name ≡ named_from 0 is key name
found_named is n key name are =
    ap (λ (l : List (List ℕ)). operation_of (on_some (position_from (bytes_eq key) 0 l) (slice_get n.offered)) name) are.keys
    ∙ ap (λ (l : List Offered). operation_of (on_some (position_from (bytes_eq key) 0 (keys_of is)) (slice_get l)) name) are.offered
    ∙ found_from 0 is key name

-- over a back end of this format
pub names_over : (k : Back) (is : List PlainInterface) (n : Names) → IsCdr k → AreNamesOver k is n → AreNames is n
names_over back.CdrBig is n cdr are = are
names_over back.CdrLittle is n cdr are = are
names_over back.Xdr is n cdr are = absurd cc
names_over back.Mach is n cdr are = absurd cc
