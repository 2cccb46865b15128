-- Heads of requests that were worked out by hand.
use Rattle.std.proofs.Common.{◌≡◌, [], ◌∷◌, true, false, refl}
use Rattle.wire_def.specs.declared.head.Order.TheVariants.{Little}
use Rattle.back_mach.specs.Leads.{lead, request_bits}

-- a right to send is copied, and in the next octet a right to send once is made: 19 + 256 * 21
bits_of_a_call : request_bits true ≡ 5395
bits_of_a_call = refl

-- a right to send is copied
bits_of_a_oneway : request_bits false ≡ 19
bits_of_a_oneway = refl

-- bits, no size yet, both ports, no voucher, and the id 2401
octets_of_a_call : lead (record { id = 2401; wants = true }) (record { id = 1; remote = 7; local = 9; wants = true; order = Little })
    ≡ 19 ∷ 21 ∷ 0 ∷ 0 ∷ 0 ∷ 0 ∷ 0 ∷ 0 ∷ 7 ∷ 0 ∷ 0 ∷ 0 ∷ 9 ∷ 0 ∷ 0 ∷ 0 ∷ 0 ∷ 0 ∷ 0 ∷ 0 ∷ 97 ∷ 9 ∷ 0 ∷ 0 ∷ []
octets_of_a_call = refl
