-- One level of a type.
use Rattle.std.proofs.Common.{◌≡◌, ℕ, suc, ◌+◌, List, refl, arith}
use Rattle.idl_lex.specs.declared.kinds.Token.{Token}
use Rattle.corba_decls.specs.TypeReaders.{type_by, shared_at}

pub stepped : (n k : ℕ) (ts : List Token) → n ≡ suc k → type_by (shared_at k) (k + 1) ts ≡ shared_at n ts
stepped n k ts is = let e : k + 1 ≡ suc k = omega arith in rw (is, e) refl
