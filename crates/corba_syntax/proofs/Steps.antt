-- One level of a definition.
use Rattle.std.proofs.Common.{◌≡◌, ℕ, suc, ◌+◌, List, refl, arith}
use Rattle.idl_lex.specs.declared.kinds.Token.{Token}
use Rattle.corba_syntax.specs.DefinitionReaders.{definition_by, definition_at}

pub stepped : (n k : ℕ) (ts : List Token) → n ≡ suc k → definition_by (definition_at k) (k + 1) ts ≡ definition_at n ts
stepped n k ts is = let e : k + 1 ≡ suc k = omega arith in rw (is, e) refl
