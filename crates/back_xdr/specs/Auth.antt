-- Credentials and verifiers (RFC 5531, section 8.2).
use Rattle.std.specs.Prelude.{◌≡◌, ℕ, zero, suc, ◌+◌, ◌≤◌, List, [], ◌∷◌, ◌++◌, length, replicate}
use Rattle.wire_def.specs.declared.fault.HeadErr.{HeadErr}
use Rattle.wire_def.specs.declared.fault.HeadErr.TheVariants.{Short, Pad, Cred}
use Rattle.wire_def.specs.Grammar.{got, stop, Reader, Spelling, Stopping, map_got, both, StopsInOrder}
use Rattle.wire_def.specs.HeadItems.{BodySpells, BodyStops, read_body}
use Rattle.wire_def.specs.Scalars.{gap}
use Rattle.head_kit.specs.Words.{IsWord, WordStops, up_to}
use Rattle.back_xdr.specs.Words.{word, WordSpells, read_word, PassSpells, PassStops, read_pass}

-- credentials or a verifier: a flavour, and a body that has a meaning for the flavour alone
pub record Auth : Type 0 where
  pub flavour : ℕ
  pub body : List ℕ

-- the flavour, the body's length, the body, zeros up to a multiple of 4
abbrev pub auth_octets : Auth → List ℕ
auth_octets a = word a.flavour ++ (word (length a.body) ++ (a.body ++ replicate (gap (length a.body) 4) 0))

-- any flavour, and a body of at most 400 octets
abbrev pub IsAuth : Auth → Type 0
IsAuth a = IsWord a.flavour × (length a.body ≤ 400)

-- credentials or a verifier as octets
unfoldable pub AuthSpells : Spelling Auth
AuthSpells p o a = (o ≡ auth_octets a) × IsAuth a

-- the first of so many pad octets that is not there, or not 0
unfoldable pub PadStops : ℕ → Stopping HeadErr
PadStops zero p o k at = ⊥
PadStops (suc n) p [] k at = (k ≡ Short) × (at ≡ p)
PadStops (suc n) p (zero ∷ o) k at = PadStops n (p + 1) o k at
PadStops (suc n) p (suc b ∷ o) k at = (k ≡ Pad) × (at ≡ p)

-- so many pad octets, from left to right
unfoldable pub read_pad : ℕ → Reader HeadErr (Unit {0})
read_pad zero p o = got tt p o
read_pad (suc n) p [] = stop Short p
read_pad (suc n) p (zero ∷ o) = read_pad n (p + 1) o
read_pad (suc n) p (suc b ∷ o) = stop Pad p

-- the first item of credentials or of a verifier that is cut off or wrong
unfoldable pub AuthStops : Stopping HeadErr
AuthStops =
    StopsInOrder WordSpells WordStops (λ flavour.
    StopsInOrder (PassSpells (up_to 400)) (PassStops (up_to 400) Cred) (λ n.
    StopsInOrder (BodySpells n) (BodyStops n) (λ body.
    PadStops (gap n 4))))

-- a flavour, a length, a body and its pad
unfoldable pub read_auth : Reader HeadErr Auth
read_auth p o = map_got (λ x. record { flavour = x.0; body = x.1.1.0 })
    (both read_word (λ flavour. both (read_pass (up_to 400) Cred) (λ n. both (read_body n) (λ body. read_pad (gap n 4)))) p o)
