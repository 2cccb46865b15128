-- Tokens that are written one after the other.
use Rattle.std.proofs.Common.{◌≡◌, ℤ, pos, negsuc, List, [], ◌∷◌, ◌++◌, refl, ap, ◌∙◌, append_assoc}
use Rattle.std.specs.Fmt.{signed_decimal}
use Rattle.json.specs.Token.{Token}
use Rattle.json.specs.Written.{Written}
use Rattle.serde_json.specs.Find.{of_integer}
use Rattle.serde_json.specs.Written.{number_text}
use Rattle.json_shape.specs.Printed.{Adds}

-- the digits of an integer
pub integer_digits : (z : ℤ) → number_text (of_integer z) ≡ signed_decimal z
integer_digits (pos n) = refl
integer_digits (negsuc n) = refl

pub ruleset integers = (integer_digits)

-- tokens, and tokens after them
pub added_both : (a b c : Written) (s t : List Token) → Adds a b s → Adds b c t → Adds a c (s ++ t)
added_both a b c s t h k = record {
  tokens = k.tokens ∙ ap (λ (ts : List Token). ts ++ t) h.tokens ∙ append_assoc a.tokens s t;
  before = k.before ∙ h.before;
}

pub ruleset adding = (added_both, append_assoc)

-- what is written of all tokens, and those that are left
pub record Leaves (old now : Written) (left all : List Token) : Type 0 where
  pub tokens : now.tokens ++ left ≡ old.tokens ++ all
  pub before : now.before ≡ old.before

-- the first token is written
pub left_first : (old now : Written) (t : Token) (ts : List Token) → now.tokens ≡ old.tokens ++ t ∷ [] → now.before ≡ old.before
    → Leaves old now ts (t ∷ ts)
left_first old now t ts h k = record { tokens = ap (λ (us : List Token). us ++ ts) h ∙ append_assoc old.tokens (t ∷ []) ts; before = k }

-- some more are written
pub left_more : (old now new : Written) (ts left all : List Token) → Adds now new ts → Leaves old now (ts ++ left) all
    → Leaves old new left all
left_more old now new ts left all h k = record {
  tokens = ap (λ (us : List Token). us ++ left) h.tokens ∙ append_assoc now.tokens ts left ∙ k.tokens;
  before = h.before ∙ k.before;
}

-- one more is written
pub left_one : (old now new : Written) (t : Token) (left all : List Token) → new.tokens ≡ now.tokens ++ t ∷ [] → new.before ≡ now.before
    → Leaves old now (t ∷ left) all → Leaves old new left all
left_one old now new t left all h k l = left_more old now new (t ∷ []) left all (record { tokens = h; before = k }) l

-- all are written
pub left_last : (old now new : Written) (t : Token) (all : List Token) → new.tokens ≡ now.tokens ++ t ∷ [] → new.before ≡ now.before
    → Leaves old now (t ∷ []) all → Adds old new all
left_last old now new t all h k l = record { tokens = h ∙ l.tokens; before = k ∙ l.before }

-- nothing is written yet
pub left_all : (old : Written) (all : List Token) → Leaves old old all all
left_all old all = record { tokens = refl; before = refl }
