-- Why a text is not read straight as a value, by the error below it.
use Rattle.hex.specs.declared.error.FromHexError.{FromHexError}
use Rattle.hex.specs.declared.error.FromHexError.TheVariants as digits
use Rattle.json.specs.declared.error.Error.{Error}
use Rattle.json.specs.declared.error.Error.TheVariants as texts
use Rattle.json_shape.specs.declared.errors.ShapeErr.{ShapeErr}
use Rattle.json_shape.specs.declared.errors.ShapeErr.TheVariants as shapes
use Rattle.json_shape.specs.declared.errors.Halt.{Halt}
use Rattle.json_shape.specs.declared.errors.Halt.TheVariants as halts

-- what becomes of a label that names no item
abbrev pub label_halt : ShapeErr → Halt
label_halt shapes.Shape = halts.Fallback
label_halt shapes.NoMemory = halts.NoMemory

-- what becomes of digits that are no octets
abbrev pub digits_halt : FromHexError → Halt
digits_halt digits.OutOfMemory = halts.NoMemory
digits_halt _ = halts.Fallback

-- what becomes of a text that has no tree
abbrev pub text_halt : Error → Halt
text_halt texts.OutOfMemory = halts.NoMemory
text_halt _ = halts.Fallback
