-- What is done to a part of a draft is done to the whole, with the part put back, by induction on the path to the part.
use Rattle.std.proofs.Common.{◌≡◌, ℕ, zero, suc, List, [], ◌∷◌, Option, None, Some, option_map, refl, ap, ◌∙◌}
use Rattle.cast_stub.specs.Parts.{on_some, IsThere}
use Rattle.cast_stub.specs.Draft.{Draft, done, fields, Drafts, no_draft, draft}
use Rattle.cast_stub.specs.Fill.{at_field, within, field_at, part}
use Rattle.cast_stub.specs.PutPart.{put_part, put_field}
use Rattle.cast_stub.specs.Runs.{Place, Run, gives, refuses, strays, Filler, then_run, map_run, if_some}

-- a part that was changed, put back
abbrev pub replaced : List ℕ → Draft → Draft → Place → Run Draft
replaced p d y t = if_some (put_part p y d) (λ e. gives e t)

mapped : {A B C : Type 0} (h : B → C) (q : A → Option B) (z : Run A)
    → map_run h (then_run z (λ y t. if_some (q y) (λ e. gives e t))) ≡ then_run z (λ y t. if_some (option_map h (q y)) (λ e. gives e t))
mapped {B = B} h q (gives y t) = either (q y) where
  either : (o : Option B) → map_run h (if_some o (λ e. gives e t)) ≡ if_some (option_map h o) (λ e. gives e t)
  either None = refl
  either (Some e) = refl
mapped h q refuses = refl
mapped h q strays = refl

module _ (f : Filler) (x : Draft) (s : Place) where
  Is : List ℕ → Type 0
  Is p = (d : Draft) → part p d ≡ Some x → within p f d s ≡ then_run (f x s) (λ y t. if_some (put_part p y d) (λ e. gives e t))

  field_is : (p : List ℕ) → Is p → (n : ℕ) (ds : Drafts) → on_some (field_at n ds) (part p) ≡ Some x → at_field n (within p f) ds s
      ≡ then_run (f x s) (λ y t. if_some (put_field n p y ds) (λ e. gives e t))
  unfolding Is
  field_is p h n no_draft e = absurd cc
  field_is p h zero (draft d ds) e = ap (map_run (λ z. draft z ds)) (h d e) ∙ mapped (λ z. draft z ds) (λ y. put_part p y d) (f x s)
  field_is p h (suc n) (draft d ds) e = ap (map_run (draft d)) (field_is p h n ds e) ∙ mapped (draft d) (λ y. put_field n p y ds) (f x s)

  is_all : (p : List ℕ) → Is p
  unfolding Is
  is_all [] d e =
      let same : d ≡ x = cc in
      ap (λ (z : Draft). f z s) same ∙ alone (f x s) where
        alone : (z : Run Draft) → z ≡ then_run z (λ y t. gives y t)
        alone (gives y t) = refl
        alone refuses = refl
        alone strays = refl
  is_all (n ∷ p) (fields ds) e = ap (map_run fields) (field_is p (is_all p) n ds e) ∙ mapped fields (λ y. put_field n p y ds) (f x s)
  is_all (n ∷ p) _ e = absurd cc

pub within_is : (f : Filler) (x : Draft) (s : Place) (p : List ℕ) (d : Draft) → part p d ≡ Some x → within p f d s
    ≡ then_run (f x s) (replaced p d)
unfolding Is
within_is f x s p d e = is_all f x s p d e

-- ---- where there is no part

map_strays : {A B : Type 0} (h : A → B) (z : Run A) → z ≡ strays → map_run h z ≡ strays
map_strays h z e = ap (map_run h) e

no_field : (f : Filler) (s : Place) (p : List ℕ) → ((d : Draft) → part p d ≡ None → within p f d s ≡ strays) → (n : ℕ) (ds : Drafts)
    → on_some (field_at n ds) (part p) ≡ None → at_field n (within p f) ds s ≡ strays
no_field f s p h n no_draft e = refl
no_field f s p h zero (draft d ds) e = map_strays (λ z. draft z ds) (within p f d s) (h d e)
no_field f s p h (suc n) (draft d ds) e = map_strays (draft d) (at_field n (within p f) ds s) (no_field f s p h n ds e)

pub no_part : (f : Filler) (s : Place) (p : List ℕ) (d : Draft) → part p d ≡ None → within p f d s ≡ strays
no_part f s [] d e = absurd cc
no_part f s (n ∷ p) (fields ds) e = map_strays fields (at_field n (within p f) ds s) (no_field f s p (no_part f s p) n ds e)
no_part f s (n ∷ p) _ e = refl

-- ---- and it can be put back

there_map : {A B : Type 0} (h : A → B) (o : Option A) → IsThere o → IsThere (option_map h o)
there_map h (Some a) t = tt
there_map h None t = absurd t

put_field_there : (p : List ℕ) (y x : Draft) → ((d : Draft) → part p d ≡ Some x → IsThere (put_part p y d)) → (n : ℕ) (ds : Drafts)
    → on_some (field_at n ds) (part p) ≡ Some x → IsThere (put_field n p y ds)
put_field_there p y x h n no_draft e = absurd cc
put_field_there p y x h zero (draft d ds) e = there_map (λ z. draft z ds) (put_part p y d) (h d e)
put_field_there p y x h (suc n) (draft d ds) e = there_map (draft d) (put_field n p y ds) (put_field_there p y x h n ds e)

pub put_is_there : (p : List ℕ) (y x d : Draft) → part p d ≡ Some x → IsThere (put_part p y d)
put_is_there [] y x d e = tt
put_is_there (n ∷ p) y x (fields ds) e = there_map fields (put_field n p y ds) (put_field_there p y x (put_is_there p y x) n ds e)
put_is_there (n ∷ p) y x _ e = absurd cc
