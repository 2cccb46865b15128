-- A part of a draft that is put back.
use Rattle.std.specs.Prelude.{ℕ, zero, suc, List, [], ◌∷◌, Option, None, Some, option_map}
use Rattle.cast_stub.specs.Draft.{Draft, fields, Drafts, no_draft, draft}

abbrev mutual
  -- a draft with another part at a path
  pub put_part : List ℕ → Draft → Draft → Option Draft
  put_part [] y d = Some y
  put_part (n ∷ p) y (fields ds) = option_map fields (put_field n p y ds)
  put_part (n ∷ p) y _ = None

  pub put_field : ℕ → List ℕ → Draft → Drafts → Option Drafts
  put_field n p y no_draft = None
  put_field zero p y (draft d ds) = option_map (λ x. draft x ds) (put_part p y d)
  put_field (suc n) p y (draft d ds) = option_map (draft d) (put_field n p y ds)
