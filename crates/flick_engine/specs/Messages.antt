-- The messages of calls.
use Rattle.std.specs.Prelude.{Result, Ok, Err}
use Rattle.stub_machine.specs.declared.errors.SendErr.{SendErr}
use Rattle.stub_machine.specs.declared.errors.SendErr.TheVariants as send
use Rattle.flick_engine.specs.declared.errors.MarshalErr.{MarshalErr}
use Rattle.flick_engine.specs.declared.errors.MarshalErr.TheVariants as marshal
pub use Rattle.skeleton.specs.Exchanges.{request_type}
pub use Rattle.stub_codes.specs.Messages.{message}

-- why there is no message, by what ended its code
abbrev pub refusal_of : SendErr → MarshalErr
refusal_of send.Long = marshal.Long
refusal_of send.NoMemory = marshal.NoMemory

-- what came of a message, by how its code ended
abbrev pub ended : {A : Type 0} → Result A SendErr → Result A MarshalErr
ended (Ok x) = Ok x
ended (Err why) = Err (refusal_of why)
