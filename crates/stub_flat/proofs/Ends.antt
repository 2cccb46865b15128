-- Octets that are there or not: one after the other, where everything fits, and to which residues they lead.
use Rattle.std.proofs.Common.{◌≡◌, ℕ, zero, suc, ◌+◌, ◌%◌, List, length, Option, Some, None, Bool, true, false, refl, sym, ap, ◌∙◌, subst, arith}
use Rattle.cast_stub.specs.Parts.{on_some}
use Rattle.cast_stub.specs.Steps.{Steps, both}
use Rattle.cast_stub.specs.Meaning.{wrote}
use Rattle.cast_stub.proofs.Folding.{wrote-append}
use Rattle.stub_flat.specs.Residues.{Residues}
use Rattle.stub_flat.specs.Items.{provided}

-- octets, if there are
abbrev pub Ends : Type 0
Ends = Option (List ℕ)

pub provided_of : {A : Type 0} (t : Bool) (o : Option A) (a : A) → provided t o ≡ Some a → (t ≡ true) × (o ≡ Some a)
provided_of true o a e = (refl, e)
provided_of false o a e = absurd cc

abbrev pub nothing : Ends
nothing = None

pub none_after : (x : Ends) → on_some x (λ o. nothing) ≡ nothing
none_after None = refl
none_after (Some o) = refl

-- ---- where everything fits

-- a value, where nothing lacks
abbrev pub fitting : {A : Type 0} → ℕ → A → Option A
fitting zero a = Some a
fitting (suc n) a = None

pub fit_then : {A B : Type 0} (m k : ℕ) (a : A) (b : B) (f : A → Option B) → f a ≡ fitting k b → on_some (fitting m a) f ≡ fitting (m + k) b
fit_then zero k a b f e = let same : k ≡ 0 + k = omega arith in e ∙ ap (λ (j : ℕ). fitting j b) same
fit_then (suc m) k a b f e = let same : suc (m + k) ≡ suc m + k = omega arith in ap (λ (j : ℕ). fitting j b) same

pub fit_map : {A B : Type 0} (m : ℕ) (a : A) (b : B) (f : A → Option B) → f a ≡ Some b → on_some (fitting m a) f ≡ fitting m b
fit_map zero a b f e = e
fit_map (suc m) a b f e = refl

-- what lacks later lacks before
pub fit_after : (n : ℕ) (X : List ℕ → Ends) (o : List ℕ) (f : List ℕ → Ends)
    → on_some (X o) (λ p. on_some (fitting n p) f) ≡ on_some (fitting n o) (λ x. on_some (X x) f)
fit_after zero X o f = refl
fit_after (suc n) X o f = none_after (X o)

-- what lacks in a chunk, and behind it
pub fit_two : (m n : ℕ) (o p : List ℕ) (f g : List ℕ → Ends) → g o ≡ f p
    → on_some (fitting m p) (λ x. on_some (fitting n x) f) ≡ on_some (fitting (m + n) o) g
fit_two zero n o p f g e = behind n ∙ ap (λ (j : ℕ). on_some (fitting j o) g) same where
  same : n ≡ 0 + n
  same = omega arith

  behind : (k : ℕ) → on_some (fitting k p) f ≡ on_some (fitting k o) g
  behind zero = sym e
  behind (suc k) = refl
fit_two (suc m) n o p f g e =
    let same : suc (m + n) ≡ suc m + n = omega arith in ap (λ (j : ℕ). on_some (fitting j o) g) same

-- ---- to which residues

-- octets that end at a residue of a set
abbrev pub At : Residues → List ℕ → Type 0
At S o = S (length o % 8) ≡ true

-- two ways to the same octets, and from there to a residue of a set
pub record Goes (x y : Ends) (T : Residues) : Type 0 where
  pub same : x ≡ y
  pub ends : (o : List ℕ) → x ≡ Some o → At T o

pub goes_none : (T : Residues) → Goes None None T
goes_none T = record { same = refl; ends = λ o e. absurd cc }

pub goes_one : (T : Residues) (o : List ℕ) → At T o → Goes (Some o) (Some o) T
goes_one T o h = record {
  same = refl;
  ends = λ p e. let same : o ≡ p = cc in subst (λ (x : List ℕ). At T x) same h;
}

pub goes_eq : (x a y b : Ends) (T : Residues) → x ≡ a → y ≡ b → Goes a b T → Goes x y T
goes_eq x a y b T p q g = record { same = p ∙ g.same ∙ sym q; ends = λ o e. g.ends o (sym p ∙ e) }

pub goes_in : (x y : Ends) (S T : Residues) → ((o : List ℕ) → At S o → At T o) → Goes x y S → Goes x y T
goes_in x y S T f g = record { same = g.same; ends = λ o e. f o (g.ends o e) }

pub then_goes : (x y : Ends) (S T : Residues) (f g : List ℕ → Ends) → Goes x y S → ((o : List ℕ) → At S o → Goes (f o) (g o) T)
    → Goes (on_some x f) (on_some y g) T
then_goes None y S T f g a b = record { same = ap (λ (z : Ends). on_some z g) a.same; ends = λ o e. absurd cc }
then_goes (Some p) y S T f g a b =
    let c = b p (a.ends p refl) in record { same = c.same ∙ ap (λ (z : Ends). on_some z g) a.same; ends = c.ends }

-- ---- steps after steps

pub run_both : (a b : Steps) (o : List ℕ)
    → on_some (both a b) (wrote 0 o) ≡ on_some (on_some a (wrote 0 o)) (λ p. on_some b (wrote 0 p))
run_both None b o = refl
run_both (Some a) None o = sym (none_after (wrote 0 o a))
run_both (Some a) (Some b) o = wrote-append 0 o a b

-- an operation and what stands behind it
pub op_goes : (a y : Steps) (X : List ℕ → Ends) (o : List ℕ) (n : ℕ) (S T : Residues) (f : List ℕ → Ends)
    → Goes (on_some a (wrote 0 o)) (X o) S
    → ((p : List ℕ) → At S p → Goes (on_some y (wrote 0 p)) (on_some (fitting n p) f) T)
    → Goes (on_some (both a y) (wrote 0 o)) (on_some (fitting n o) (λ x. on_some (X x) f)) T
op_goes a y X o n S T f h k =
    goes_eq (on_some (both a y) (wrote 0 o)) (on_some (on_some a (wrote 0 o)) (λ p. on_some y (wrote 0 p)))
    (on_some (fitting n o) (λ x. on_some (X x) f)) (on_some (X o) (λ p. on_some (fitting n p) f)) T
    (run_both a y o) (sym (fit_after n X o f))
    (then_goes (on_some a (wrote 0 o)) (X o) S T (λ p. on_some y (wrote 0 p)) (λ p. on_some (fitting n p) f) h k)
