-- Reading from the beginning of octets: a tool beside the texts of stub code, tied to them in proofs/.
use Rattle.std.specs.Prelude.{◌≡◌, Bool, ℕ, zero, suc, List, [], ◌∷◌, length, drop, Option, Some, None, Result, Ok, Err, nat_eq, if◌then◌else◌}
use Rattle.std.specs.List.{starts_with}
use Rattle.stub_read.specs.declared.errors.StubErr.{StubErr}
use Rattle.stub_read.specs.declared.errors.StubErr.TheVariants as faults

-- what is read and the octets after it, or nothing
abbrev pub Read : Type 0 → Type 0
Read A = Option (A × List ℕ)

-- a way of reading octets
abbrev pub Reader : Type 0 → Type 0
Reader A = List ℕ → Read A

-- nothing read where no text begins; out of memory is always allowed
abbrev pub Fails : {Y : Type 0} → StubErr → Option Y → Type 0
Fails faults.NoMemory read = Unit {0}
Fails faults.Text read = read ≡ None

-- what a function returned, seen by view, as what is read
abbrev pub Gives : {X Y : Type 0} → (X → Y) → Result X StubErr → Option Y → Type 0
Gives view (Ok x) read = read ≡ Some (view x)
Gives view (Err e) read = Fails e read

-- what is read of the octets after
abbrev pub then_on : {A B : Type 0} → Read A → (A → Reader B) → Read B
then_on None f = None
then_on (Some x) f = f x.0 x.1

-- the same as something else
abbrev pub map_read : {A B : Type 0} → (A → B) → Read A → Read B
map_read f None = None
map_read f (Some x) = Some (f x.0, x.1)

-- ---- one word

-- whether octets begin with a word
abbrev pub begins : List ℕ → List ℕ → Bool
begins w t = starts_with nat_eq t w

-- this word
abbrev pub word_at : List ℕ → Reader (Unit {0})
word_at w t = if begins w t then Some (tt, drop (length w) t) else None

-- what a word stands for, or else another word
abbrev pub led : {A : Type 0} → List ℕ → A → Reader A → Reader A
led w a other t = if begins w t then Some (a, drop (length w) t) else other t

-- ---- several

-- one after another
abbrev pub both : {A B : Type 0} → Reader A → Reader B → Reader (A × B)
both r s t = then_on (r t) (λ a us. then_on (s us) (λ b vs. Some ((a, b), vs)))

-- what is read, as something else
abbrev pub mapped : {A B : Type 0} → (A → B) → Reader A → Reader B
mapped f r t = map_read f (r t)

-- what comes before a word
abbrev pub before : {A : Type 0} → Reader A → List ℕ → Reader A
before r w t = then_on (r t) (λ a us. then_on (word_at w us) (λ u vs. Some (a, vs)))

-- what is read where something leads, or else the list is at its end
abbrev pub if_led : {A K : Type 0} → Read K → List ℕ → (K → Reader (List A)) → Read (List A)
if_led None t r = Some ([], t)
if_led (Some x) t r = r x.0 x.1

-- at most n items, as long as one is led in
abbrev pub repeat : {A K : Type 0} → Reader K → (K → Reader A) → ℕ → Reader (List A)
repeat lead r zero t = Some ([], t)
repeat lead r (suc n) t = if_led (lead t) t
    (λ k us. then_on (r k us) (λ x vs. then_on (repeat lead r n vs) (λ xs ws. Some (x ∷ xs, ws))))

-- as many items as are led in
abbrev pub many : {A K : Type 0} → Reader K → (K → Reader A) → Reader (List A)
many lead r t = repeat lead r (length t) t
