use Rattle.std.proofs.Common.{refl, sym, ap}
use Rattle.head_kit.specs.declared.call_head.CallTarget.{CallTarget}
use Rattle.back_xdr.specs.Seeking.{encoding}
use Rattle.back_xdr.proofs.seek.read_called.Goals as goal

pub returns-in-Ok-clause-begins : goal.returns-in-Ok-clause-begins
returns-in-Ok-clause-begins c =
    let begins = (c.in-Ok.ensures.spells c.in-Ok.call).0 refl in
    let call = c.in-Ok.call in (
      call,
      begins,
      ap (λ (n : CallTarget). record { naming = n; head = call.head; encoding = encoding; used = call.used; minor = 0 })
          (sym c.named.ensures.value),
    )

pub returns-in-Err-clause-stops : goal.returns-in-Err-clause-stops
returns-in-Err-clause-stops c = (c.in-Err.ensures.stops c.in-Err.fault).0 refl
