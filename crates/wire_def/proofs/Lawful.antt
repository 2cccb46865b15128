-- The laws, from reading being one function.
use Rattle.std.proofs.Common.{◌≡◌, ◌⊎◌, inl, inr, ℕ, ◌+◌, List, [], ◌++◌, length, refl}
use Rattle.std.proofs.lemmas.List.{append-nil}
use Rattle.wire_def.specs.Grammar.{Reading, got, stop, Reader, Spelling, Stopping, AreOctets, IsGrammar}

module _ {E A : Type 0} {r : Reader E A} {S : Spelling A} {F : Stopping E} (g : IsGrammar r S F) where
  pub one_value : (p : ℕ) (o : List ℕ) (v w : A) → S p o v → S p o w → v ≡ w
  one_value p o v w s t =
      let first : r p (o ++ []) ≡ got v (p + length o) [] = g.reads p o [] v s in
      let second : r p (o ++ []) ≡ got w (p + length o) [] = g.reads p o [] w t in
      cc

  pub no_prefix : (p : ℕ) (a b : List ℕ) (v w : A) → S p a v → S p (a ++ b) w → b ≡ []
  no_prefix p a b v w s t =
      let first : r p (a ++ b) ≡ got v (p + length a) b = g.reads p a b v s in
      let second : r p ((a ++ b) ++ []) ≡ got w (p + length (a ++ b)) [] = g.reads p (a ++ b) [] w t in
      let same : (a ++ b) ++ [] ≡ a ++ b = append-nil (a ++ b) in
      cc

  pub something : (p : ℕ) (o : List ℕ) → AreOctets o
      → ((v : A) × (a : List ℕ) × (b : List ℕ) × (o ≡ a ++ b) × S p a v) ⊎ ((k : E) × (at : ℕ) × F p o k at)
  something p o oct = decide (r p o) refl where
    decide : (x : Reading E A) → r p o ≡ x → ((v : A) × (a : List ℕ) × (b : List ℕ) × (o ≡ a ++ b) × S p a v)
        ⊎ ((k : E) × (at : ℕ) × F p o k at)
    decide (got v q rest) e = let s = g.spelled p o v q rest oct e in inl (v, s.0, rest, s.1, s.3)
    decide (stop k at) e = inr (k, at, g.faulty p o k at oct e)

  pub not_both : (p : ℕ) (a b : List ℕ) (v : A) (k : E) (at : ℕ) → S p a v → F p (a ++ b) k at → ⊥
  not_both p a b v k at s f =
      let first : r p (a ++ b) ≡ got v (p + length a) b = g.reads p a b v s in
      let second : r p (a ++ b) ≡ stop k at = g.stops p (a ++ b) k at f in
      cc

  pub one_fault : (p : ℕ) (o : List ℕ) (k l : E) (at place : ℕ) → F p o k at → F p o l place → (k ≡ l) × (at ≡ place)
  one_fault p o k l at place f h =
      let first : r p o ≡ stop k at = g.stops p o k at f in
      let second : r p o ≡ stop l place = g.stops p o l place h in
      (cc, cc)
