-- The refusals of this format are those that have octets.
use Rattle.std.proofs.Common.{refl}
use Rattle.wire_def.specs.declared.outcome.Refusal.TheVariants.{SystemException, UserException, RetCode}
use Rattle.back_xdr.specs.Laws.{OwnHaveOctets}

pub own_octets : OwnHaveOctets
own_octets (SystemException name minor completion) id = ((λ own. absurd own), λ (o, is). absurd cc)
own_octets (UserException name) id = ((λ own. absurd own), λ (o, is). absurd cc)
own_octets (RetCode n) id = ((λ own. absurd own), λ (o, is). absurd cc)
own_octets _ id = ((λ own. (_, refl)), λ has. tt)
