-- Code without calls that a message's code is made of, as it is held.
use Rattle.cast_stub.specs.declared.send.SendCode.{SendCode}
use Rattle.stub_codes.specs.declared.sending.Body.{Body}
use Rattle.stub_codes.specs.declared.sending.Body.TheVariants.{Own, Kept}

-- the code itself
abbrev pub code_of : Body → SendCode
code_of (Own code) = code
code_of (Kept code) = code.now
