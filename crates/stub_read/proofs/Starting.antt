-- Where a loop over operations begins, and where one of its turns is refused.
use Rattle.std.proofs.Common.{◌≡◌, ℕ, zero, suc, ◌+◌, ◌-◌, ◌<◌, ℤ, Result, Err, List, [], ◌∷◌, ◌++◌, length, Option, Some, refl, sym, ap, subst, ◌∙◌, arith}
use Rattle.cast_stub.specs.declared.send.SendOp.{SendOp}
use Rattle.stub_read.specs.declared.errors.StubErr.{StubErr}
use Rattle.stub_read.specs.declared.errors.StubErr.TheVariants as faults
use Rattle.stub_read.specs.Reading.{Read, Reader, Fails, Gives, both, many}
use Rattle.stub_read.specs.Leads.{lead_at}
use Rattle.stub_read.specs.Operations.{op_at, ops_at}
use Rattle.cast_stub.proofs.Trees.{pair_is}
use Rattle.stub_read.proofs.PutsRead.{both_reads}
use Rattle.stub_read.proofs.Loops.{Left, starts, goes_on, fails}

-- operations within one level less
level_down : (l : ℕ) (t : List ℕ) → (l ≡ 0 → ⊥) → ops_at l t ≡ many lead_at (op_at (l - 1) (ops_at (l - 1))) t
level_down zero t some = absurd (some refl)
level_down (suc l) t some =
    let e : l ≡ suc l - 1 = omega arith in
    ap (λ m. many lead_at (op_at m (ops_at m)) t) e

pub ops_start : (l : ℕ) (t : List ℕ) (xs : List SendOp) → (l ≡ 0 → ⊥) → xs ≡ []
    → Left lead_at (op_at (l - 1) (ops_at (l - 1))) (length t - 0) xs t (ops_at l t)
ops_start l t xs some none =
    subst (λ ys. Left lead_at (op_at (l - 1) (ops_at (l - 1))) (length t - 0) ys t (ops_at l t)) (sym none)
    (subst (λ q. Left lead_at (op_at (l - 1) (ops_at (l - 1))) (length t - 0) [] t q) (sym (level_down l t some))
    (starts lead_at (op_at (l - 1) (ops_at (l - 1))) (length t) 0 t refl))

-- a turn, whose item was pushed
pub turned : {A K : Type 0} (lead : Reader K) (r : K → Reader A) (n i : ℕ) (xs : List A) (rest : List ℕ) (all : Read (List A)) (k : K)
    (led : List ℕ) (x : A) (tail : List ℕ) (new : List A) → Left lead r (n - i) xs rest all → i < n → lead rest ≡ Some (k, led)
    → r k led ≡ Some (x, tail) → new ≡ xs ++ x ∷ [] → Left lead r (n - (i + 1)) new tail all
turned lead r n i xs rest all k led x tail new l lt leads one is =
    subst (λ ys. Left lead r (n - (i + 1)) ys tail all) (sym is) (goes_on lead r n i xs rest all k led x tail l lt leads one)

-- a turn that is refused refuses the whole
pub refused : {A K : Type 0} (e : StubErr) (lead : Reader K) (r : K → Reader A) (n i : ℕ) (xs : List A) (rest : List ℕ) (all : Read
    (List A))
    (k : K) (led : List ℕ) → Left lead r (n - i) xs rest all → i < n → lead rest ≡ Some (k, led) → Fails e (r k led) → Fails e all
refused faults.Text lead r n i xs rest all k led l lt leads none = fails lead r n i xs rest all k led l lt leads none
refused faults.NoMemory lead r n i xs rest all k led l lt leads none = tt

-- an error, as what a function gives
pub gives_err : {X Y : Type 0} (view : X → Y) (r : Result X StubErr) (e : StubErr) (q : Option Y) → r ≡ Err e → Fails e q → Gives view r q
gives_err view r e q is h = subst (λ s. Gives view s q) (sym is) h

-- a number and a body, as one of the bodies of a switch
pub case_reads : (r : Reader ℤ) (s : Reader (List SendOp)) (led behind tail : List ℕ) (n : ℤ) (body : List SendOp) (x : ℤ × List SendOp)
    → r led ≡ Some (n, behind) → s behind ≡ Some (body, tail) → x.0 ≡ n → x.1 ≡ body → both r s led ≡ Some (x, tail)
case_reads r s led behind tail n body x e f same made = both_reads r s led behind tail n body e f ∙ ap (λ y. Some (y, tail)) (sym
    (pair_is x n body same made))
