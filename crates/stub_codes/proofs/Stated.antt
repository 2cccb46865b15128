-- The patch at the end of a message states its length.
use Rattle.std.proofs.Common.{◌≡◌, ℕ, ◌+◌, ◌-◌, ◌/◌, ◌%◌, ◌^◌, ◌≤◌, Bool, true, false, ◌&&◌, nat_le, if◌then◌else◌, List, [], ◌∷◌, length, Option, None, Some, refl, ap, ◌∙◌, arith}
use native.Mathlib.Nat.{add-mod_right}
use Rattle.std.proofs.lemmas.Bool.{le-leb}
use Rattle.kit_base.specs.Bytes.{written}
use Rattle.mint.specs.Values.{Val}
use Rattle.wire_def.specs.declared.encoding.Back.{Back}
use Rattle.wire_def.specs.declared.encoding.Back.TheVariants as back
use Rattle.wire_def.specs.declared.head.Head.{Head}
use Rattle.wire_def.specs.declared.head.Order.{Order}
use Rattle.wire_def.specs.declared.head.Order.TheVariants.{Big, Little}
use Rattle.wire_def.specs.Orders.{in_order}
use Rattle.cast_stub.specs.Parts.{on_some}
use Rattle.cast_stub.specs.Steps.{Step, Patched, Calls, steps}
use Rattle.cast_stub.specs.Meaning.{patched, wrote}
use Rattle.giop_head.proofs.Putting.{in_order_long}
use Rattle.stub_codes.specs.Backs.{sized, tail}

-- ---- the octets of a number modulo 2^32

lowest : (n : ℕ) → n % 4294967296 % 256 ≡ n % 256
lowest n = omega arith

second : (n : ℕ) → n % 4294967296 / 256 % 256 ≡ n / 256 % 256
second n = omega arith

third : (n : ℕ) → n % 4294967296 / 65536 % 256 ≡ n / 65536 % 256
third n = omega arith

highest : (n : ℕ) → n % 4294967296 / 16777216 % 256 ≡ n / 16777216 % 256
highest n = omega arith

four : (a b c d e f g h : ℕ) → a ≡ e → b ≡ f → c ≡ g → d ≡ h → (a ∷ b ∷ c ∷ d ∷ []) ≡ (e ∷ f ∷ g ∷ h ∷ [])
four a b c d e f g h p q r s = rw (p, q, r, s) refl

modulo : (r : Order) (n : ℕ) → in_order r 4 (n % 2 ^ 32) ≡ in_order r 4 n
modulo Big n = four _ _ _ _ _ _ _ _ (highest n) (third n) (second n) (lowest n)
modulo Little n = four _ _ _ _ _ _ _ _ (lowest n) (second n) (third n) (highest n)

-- a number that is less by another, as the patch works it out
less : (r : Order) (n sub : ℕ) → sub ≤ n → in_order r 4 ((n + 2 ^ 32 - sub) % 2 ^ 32) ≡ in_order r 4 (n - sub)
less r n sub le =
    let e : n + 2 ^ 32 - sub ≡ n - sub + 2 ^ 32 = omega (arith, le) in
    ap (λ (m : ℕ). in_order r 4 (m % 2 ^ 32)) e ∙ ap (λ (m : ℕ). in_order r 4 m) (add-mod_right (n - sub) (2 ^ 32)) ∙ modulo r (n - sub)

-- ---- the patch

chosen : (x y : Bool) (z : List ℕ) → x ≡ true → y ≡ true → (if x && y then Some z else None) ≡ Some z
chosen true true z d e = refl
chosen true false z d e = absurd cc
chosen false y z d e = absurd cc

patched_is : (at sub : ℕ) (r : Order) (o : List ℕ) → at + 4 ≤ length o → sub ≤ length o
    → patched 0 at sub r o ≡ Some (written o at (in_order r 4 (length o - sub)))
patched_is at sub r o long le =
    let none : 0 + length o ≡ length o = omega arith in
    let same : at - 0 ≡ at = omega arith in
    ap (λ (n : ℕ). if nat_le 0 at && nat_le (at + 4) n then Some
    (written o (at - 0) (in_order r 4 ((n + 2 ^ 32 - sub) % 2 ^ 32))) else None) none
    ∙ chosen (nat_le 0 at) (nat_le (at + 4) (length o)) (written o (at - 0) (in_order r 4 ((length o + 2 ^ 32 - sub) % 2 ^ 32)))
    (le-leb 0 at (omega arith)) (le-leb (at + 4) (length o) long)
    ∙ ap (λ (k : ℕ). Some (written o k (in_order r 4 ((length o + 2 ^ 32 - sub) % 2 ^ 32)))) same
    ∙ ap (λ (x : List ℕ). Some (written o at x)) (less r (length o) sub le)

-- the steps of the code that states the length
abbrev pub tail_steps : Back → List Step
tail_steps back.Xdr = []
tail_steps back.CdrBig = Patched 8 12 Big ∷ []
tail_steps back.CdrLittle = Patched 8 12 Little ∷ []
tail_steps back.Mach = Patched 4 0 Little ∷ []

pub tail_runs : (k : Back) (c : Calls) (h : Head) (v : Val) → steps c h (tail k) v ≡ Some (tail_steps k)
tail_runs back.Xdr c h v = refl
tail_runs back.CdrBig c h v = refl
tail_runs back.CdrLittle c h v = refl
tail_runs back.Mach c h v = refl

states_in : (at sub : ℕ) (r : Order) (o x : List ℕ) → at + 4 ≤ length o → sub ≤ length o → in_order r 4 (length o - sub) ≡ x
    → wrote 0 o (Patched at sub r ∷ []) ≡ Some (written o at x)
states_in at sub r o x long le same =
    ap (λ (z : Option (List ℕ)). on_some z (λ (a : List ℕ). Some a)) (patched_is at sub r o long le) ∙ ap
    (λ (z : List ℕ). Some (written o at z)) same

-- after it the message states its length
pub states : (k : Back) (o : List ℕ) → 12 ≤ length o → wrote 0 o (tail_steps k) ≡ Some (sized k o)
states back.Xdr o long = refl
states back.CdrBig o long = states_in 8 12 Big o _ long long (in_order_long Big (length o - 12))
states back.CdrLittle o long = states_in 8 12 Little o _ long long (in_order_long Little (length o - 12))
states back.Mach o long =
    let whole : length o - 0 ≡ length o = omega arith in
    states_in 4 0 Little o _ (omega (arith, long)) (omega arith) (ap (λ (n : ℕ). in_order Little 4 n) whole)
