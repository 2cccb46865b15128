-- What the readers of items have given, and what is reported of a head.
use Rattle.std.specs.Prelude.{◌≡◌, ℕ, List, Result, Ok, Err}
use Rattle.std.specs.Borrow.{Bor}
use Rattle.wire_def.specs.declared.fault.HeadErr.{HeadErr}
use Rattle.wire_def.specs.Grammar.{Reading, got, stop}
use Rattle.head_kit.specs.declared.cursor.Cursor.{Cursor}

-- ---- items

-- reading stops with this fault, at some place
abbrev pub Stopped : {A : Type 0} → HeadErr → Reading HeadErr A → Type 0
Stopped e reading = (at : ℕ) × (reading ≡ stop e at)

-- what was given, seen by view, is what reading gives
abbrev pub Gives : {X A : Type 0} → (X → A) → Result (X × Cursor) HeadErr → Reading HeadErr A → Type 0
Gives view (Ok x) reading = reading ≡ got (view x.0) x.1.place x.1.rest.now
Gives view (Err e) reading = Stopped e reading

-- something was read and passed over
abbrev pub Passes : {A : Type 0} → Result Cursor HeadErr → Reading HeadErr A → Type 0
Passes {A} (Ok next) reading = (x : A) × (reading ≡ got x next.place next.rest.now)
Passes (Err e) reading = Stopped e reading

-- nothing is kept of what was read
abbrev pub Passing : Result Cursor HeadErr → Reading HeadErr (Unit {0}) → Type 0
Passing (Ok next) reading = reading ≡ got tt next.place next.rest.now
Passing (Err e) reading = Stopped e reading

-- the view of what is itself
abbrev pub same : {A : Type 0} → A → A
same x = x

-- the view of what is borrowed
abbrev pub borrowed : Bor (List ℕ) → List ℕ
borrowed o = o.now

-- ---- heads

-- what is reported of what was read
abbrev pub reported : {A B : Type 0} → (A → ℕ → B) → Reading HeadErr A → Result B HeadErr
reported view (got x used rest) = Ok (view x used)
reported view (stop e at) = Err e

-- a result, seen by view
abbrev pub seen_by : {A B : Type 0} → (A → B) → Result A HeadErr → Result B HeadErr
seen_by view (Ok x) = Ok (view x)
seen_by view (Err e) = Err e

-- an answer of which this is reported
abbrev pub Tells : {A B : Type 0} → (A → B) → Result A HeadErr → B → Type 0
Tells view (Ok x) reported = view x ≡ reported
Tells view (Err e) reported = ⊥
