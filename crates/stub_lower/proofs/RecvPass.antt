-- Where a scalar by itself passes a test: over each encoding the test may as well come last.
use Rattle.std.proofs.Common.{◌≡◌, ℕ, ℤ, List, refl, Bool, true, false, if◌then◌else◌}
use Rattle.mint.specs.Types.{Scalar}
use Rattle.wire_def.specs.declared.encoding.Encoding.{Encoding}
use Rattle.wire_def.specs.declared.encoding.Encoding.TheVariants.{Xdr, CdrBig, CdrLittle, Mach}
use Rattle.wire_def.specs.declared.fault.FaultKind.{FaultKind}
use Rattle.wire_def.specs.Grammar.{Reading, got, stop, then_on, map_got, tested}
use Rattle.wire_def.specs.Scalars.{scalar_place, read_scalar}
use Rattle.wire_def.specs.Lone.{scalar_word, filling, read_any, read_desc, read_lone, read_pass}
use Rattle.stub_lower.proofs.Agreeing.{SameEnds, ends-same, ends-then}

module _ (t : Scalar) (test : ℤ → Bool) (fault : FaultKind) where
  -- the place of the fault is of no account
  either : (b : Bool) (n : ℤ) (q at to : ℕ) (o : List ℕ)
      → SameEnds (if b then got n q o else stop fault at) (if b then got n q o else stop fault to)
  either true n q at to o = (refl, refl, refl)
  either false n q at to o = tt

  placed : (e : Encoding) (p : ℕ) (o : List ℕ)
      → SameEnds (tested (read_scalar e t) test fault (λ q. q) p o) (tested (read_scalar e t) test fault (scalar_place e t) p o)
  placed e p o =
      ends-then (read_scalar e t p o) (read_scalar e t p o) (λ x q r. if test x then got x q r else stop fault p)
      (λ x q r. if test x then got x q r else stop fault (scalar_place e t p))
      (ends-same (read_scalar e t p o)) (λ (x : ℤ) (q : ℕ) (r : List ℕ). either (test x) x q p (scalar_place e t p) r)

  abbrev filled : ℤ → Reading FaultKind (Unit {0}) → Reading FaultKind (ℤ × Unit {0})
  filled n r = map_got (λ z. (n, z)) r

  after_number : (p at q : ℕ) (u : Unit {0}) (n : ℤ) (b : Bool) (o : List ℕ) (any : Reading FaultKind (Unit {0})) → test n ≡ b
      → any ≡ read_any (filling t) q o
      → SameEnds (then_on (map_got (λ (x : Unit {0} × (ℤ × Unit {0})). x.1.0) (map_got (λ y. (u, y)) (filled n any)))
      (λ x q r. if test x then got x q r else stop fault p)) (map_got (λ (x : Unit {0} × (ℤ × Unit {0})). x.1.0)
      (map_got (λ y. (u, y)) (then_on (if b then got n q o else stop fault at) (λ m q r. filled m (read_any (filling t) q r)))))
  after_number p at q u n true o (got z k r) is same = rw (is, ← same) (refl, refl, refl)
  after_number p at q u n true o (stop k to) is same = rw (← same) tt
  after_number p at q u n false o (got z k r) is same = rw is tt
  after_number p at q u n false o (stop k to) is same = tt

  after_desc : (p q : ℕ) (u : Unit {0}) (o : List ℕ) (number : Reading FaultKind ℤ)
      → SameEnds (then_on (map_got (λ (x : Unit {0} × (ℤ × Unit {0})). x.1.0)
      (map_got (λ y. (u, y)) (then_on number (λ n q r. filled n (read_any (filling t) q r)))))
      (λ x q r. if test x then got x q r else stop fault p)) (map_got (λ (x : Unit {0} × (ℤ × Unit {0})). x.1.0)
      (map_got (λ y. (u, y)) (then_on (then_on number (λ n m r. if test n then got n m r else stop fault (scalar_place Mach t q)))
      (λ n q r. filled n (read_any (filling t) q r)))))
  after_desc p q u o (stop k at) = tt
  after_desc p q u o (got n m r) = after_number p (scalar_place Mach t q) m u n (test n) r (read_any (filling t) m r) refl refl

  item : (p : ℕ) (desc : Reading FaultKind (Unit {0}))
      → SameEnds (then_on (map_got (λ (x : Unit {0} × (ℤ × Unit {0})). x.1.0)
      (then_on desc (λ u q o. map_got (λ y. (u, y)) (then_on (read_scalar Mach t q o) (λ n q r. filled n (read_any (filling t) q r))))))
      (λ x q r. if test x then got x q r else stop fault p))
      (map_got (λ (x : Unit {0} × (ℤ × Unit {0})). x.1.0) (then_on desc (λ u q o. map_got (λ y. (u, y))
      (then_on (then_on (read_scalar Mach t q o) (λ n m r. if test n then got n m r else stop fault (scalar_place Mach t q)))
      (λ n q r. filled n (read_any (filling t) q r))))))
  item p (stop k at) = tt
  item p (got u q o) = after_desc p q u o (read_scalar Mach t q o)

  pub pass_ends : (e : Encoding) (p : ℕ) (o : List ℕ)
      → SameEnds (tested (read_lone e t) test fault (λ q. q) p o) (read_pass e t test fault p o)
  pass_ends Xdr p o = placed Xdr p o
  pass_ends CdrBig p o = placed CdrBig p o
  pass_ends CdrLittle p o = placed CdrLittle p o
  pass_ends Mach p o = item p (read_desc (scalar_word t) p o)
