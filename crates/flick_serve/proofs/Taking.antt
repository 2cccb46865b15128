-- What a line adds to the replies so far.
use Rattle.std.proofs.Common.{◌≡◌, ℕ, List, [], ◌∷◌, length, Bool, true, false, not, Option, Some, None, set, refl, sym, ap, ◌∙◌, subst, arith}
use Rattle.std.specs.Prelude.{MatchBool, is_some, option_map}
use Rattle.std.proofs.lemmas.List.{map-set}
use Rattle.std.proofs.Math.ListN.{get_or-map}
use Rattle.mint.specs.declared.value.Value.{Value}
use Rattle.mint.specs.Values.{Val, seen}
use Rattle.pres.specs.Bindings.{Binding}
use Rattle.json_shape.specs.declared.records.RequestRec.{RequestRec}
use Rattle.skeleton.specs.TableSkeleton.{Places, kept_in, IsKept}
use Rattle.skeleton.proofs.Keeping.{with_table, one_more}
use Rattle.flick_serve.specs.Given.{IsGiven, Given, given_at, Adds, given_in, IsFitting}
use Rattle.flick_serve.proofs.Finding.{AreOne, one_given, IsNowhere}

-- ---- lines

-- a line is not empty
abbrev pub IsFull : List ℕ → Type 0
IsFull line = length line ≡ 0 → ⊥

pub is_full : (o : ℕ) (os : List ℕ) → IsFull (o ∷ os)
is_full o os e = absurd (omega (arith, e))

pub empty_adds : (b : Binding) (g : Given) (line : List ℕ) → length line ≡ 0 → Adds b g line g
empty_adds b g [] e = refl
empty_adds b g (o ∷ os) e = absurd (omega (arith, e))

pub reply_adds : (b : Binding) (g : Given) (line : List ℕ) (op : ℕ) (v : Val) → IsFull line → IsGiven b line op v
    → given_at g op ≡ None → Adds b g line (set g op (Some v))
reply_adds b g [] op v full given fresh = absurd (full refl)
reply_adds b g (o ∷ os) op v full given fresh = (op, v, given, fresh, refl)

-- nothing can be added
abbrev pub IsWrong : Binding → Given → List ℕ → Type 0
IsWrong b g line = (more : Given) → Adds b g line more → ⊥

pub none_adds : (b : Binding) (g : Given) (line : List ℕ) → IsFull line → IsNowhere (IsGiven b line) → IsWrong b g line
none_adds b g [] full none more adds = full refl
none_adds b g (o ∷ os) full none more (op, v, given, fresh, is) = none op v given

-- a second reply to an operation
pub second_adds : (b : Binding) (g : Given) (line : List ℕ) (op : ℕ) (v : Val) → IsFull line → IsGiven b line op v
    → (given_at g op ≡ None → ⊥) → IsWrong b g line
second_adds b g [] op v full given there more adds = full refl
second_adds b g (o ∷ os) op v full given there more (n, w, given', fresh, is) =
    let one : AreOne n w op v = one_given b (o ∷ os) n op w v given' given in
    there (subst (λ k. given_at g k ≡ None) one.0 fresh)

-- ---- tables

abbrev no_value : Option Value
no_value = None

-- the reply of a table to an operation, as its plain tree
pub reply_in : (places : Places) (op : ℕ) → given_at (given_in places) op ≡ option_map seen (kept_in places op)
reply_in places op = get_or-map (λ (r : Option Value). option_map seen r) places op no_value

-- a table with a reply more
pub more_in : (places : Places) (op : ℕ) (v : Value) → given_in (set places op (Some v)) ≡ set (given_in places) op (Some (seen v))
more_in places op v = map-set (λ (r : Option Value). option_map seen r) places op (Some v)

absent : (x : Option Value) → true ≡ not (is_some x) → option_map seen x ≡ None
absent None e = refl
absent (Some v) e = absurd (cc e)

present : (x : Option Value) → false ≡ not (is_some x) → option_map seen x ≡ None → ⊥
present None e none = absurd (cc e)
present (Some v) e none = absurd (cc none)

-- whether the reply of a line was kept in a table
pub record_taken : (b : Binding) (line : List ℕ) (r : RequestRec) (old new : Places) (taken : Bool) → IsFull line
    → IsGiven b line r.op (seen r.value) → taken ≡ not (is_some (kept_in old r.op))
    → (taken ≡ true → new ≡ set old r.op (Some r.value))
    → MatchBool taken (Adds b (given_in old) line (given_in new)) (IsWrong b (given_in old) line)
record_taken b line r old new true full given fresh kept =
    let none : given_at (given_in old) r.op ≡ None = reply_in old r.op ∙ absent (kept_in old r.op) fresh in
    let more : given_in new ≡ set (given_in old) r.op (Some (seen r.value)) =
    ap given_in (kept refl) ∙ more_in old r.op r.value in
    subst (λ (g : Given). Adds b (given_in old) line g) (sym more)
    (reply_adds b (given_in old) line r.op (seen r.value) full given none)
record_taken b line r old new false full given fresh kept =
    second_adds b (given_in old) line r.op (seen r.value) full given
    (λ none. present (kept_in old r.op) fresh (sym (reply_in old r.op) ∙ none))

-- a table that fits the binding fits it with the reply of a record
pub record_kept : (b : Binding) (r : RequestRec) (old new : Places) (taken : Bool) → IsKept (with_table b old) → IsFitting b r
    → (taken ≡ true → new ≡ set old r.op (Some r.value)) → (taken ≡ false → new ≡ old) → IsKept (with_table b new)
record_kept b r old new true kept fits more stands =
    subst (λ (p : Places). IsKept (with_table b p)) (sym (more refl))
    (one_more (with_table b old) r.op r.value kept fits.op fits.typed)
record_kept b r old new false kept fits more stands = subst (λ (p : Places). IsKept (with_table b p)) (sym (stands refl)) kept
