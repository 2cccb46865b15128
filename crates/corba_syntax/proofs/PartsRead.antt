-- Parts that may be missing: what is read is what is spelled.
use Rattle.std.proofs.Common.{◌≡◌, ℕ, zero, suc, List, [], ◌∷◌, ◌++◌, Option, Some, None, Bool, true, false, refl}
use Rattle.idl_lex.specs.declared.kinds.Token.{Token}
use Rattle.idl_lex.specs.declared.kinds.TokenKind.{TokenKind}
use Rattle.idl_read.specs.Reading.{Reader}
use Rattle.idl_read.specs.Grammar.{Text, maybe, kinds, IsGrammar, Leads}
use Rattle.idl_read.proofs.Grammars.{mapped_is, option_is}
use Rattle.idl_exprs.proofs.LeavesRead.{NameMay, scoped_is, is_name, leads_scoped}
use Rattle.corba_syntax.specs.OperationSpelling.{if_any, reference}
use Rattle.corba_syntax.specs.OperationReaders.{or_none, any_at, reference_of, reference_at}

-- a list that has no text where it is empty
pub any_is : {A : Type 0} {r : Reader (List A)} {S : List A → Text} {May : List Token → Type 0} (go : List Token → Bool)
    → IsGrammar r S May
    → ((ks : List TokenKind) → S [] ks → ⊥)
    → ((a : List A) (front rest : List Token) → S a (kinds front) → May rest → go (front ++ rest) ≡ true)
    → ((rest : List Token) → May rest → go rest ≡ false)
    → IsGrammar (any_at go r) (if_any S) May
any_is {A} {r} {S} {May} go g none does not_so = mapped_is or_none (if_any S) (option_is go g does not_so) forth back where
  forth : (x : Option (List A)) (ks : List TokenKind) → maybe S x ks → if_any S (or_none x) ks
  forth None ks s = s
  forth (Some []) ks s = absurd (none ks s)
  forth (Some (x ∷ xs)) ks s = s

  back : (y : List A) (ks : List TokenKind) → if_any S y ks → (x : Option (List A)) × (or_none x ≡ y) × maybe S x ks
  back [] ks s = (None, refl, s)
  back (x ∷ xs) ks s = (Some (x ∷ xs), refl, s)

-- ---- names

pub reference_is : (n : ℕ) → IsGrammar (reference_at n) (reference n) NameMay
reference_is zero = record { found = λ ts x rest e. absurd cc; again = λ x front rest s may. absurd s }
reference_is (suc n) = mapped_is reference_of (reference (suc n)) scoped_is (λ x ks s. s) (λ r ks s. (r.name, refl, s))

pub leads_reference : (n : ℕ) → Leads (reference n) is_name
leads_reference zero r ks s = absurd s
leads_reference (suc n) r ks s = leads_scoped r.name ks s
