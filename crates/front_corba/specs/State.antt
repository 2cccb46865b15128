-- What a file offers so far.
use Rattle.std.specs.Prelude.{ℕ, List, []}
use Rattle.aoi.specs.Plain.{PlainOperation}
use Rattle.corba_scopes.specs.Names.{Names}
use Rattle.corba_shapes.specs.State.{State, counted, start as nothing}

-- an operation, and the interface in which it is declared, by its number among those of the file
pub record PlainOffer : Type 0 where
  pub home : ℕ
  pub operation : PlainOperation

-- an interface so far: what is declared, and its operations
pub record Body : Type 0 where
  pub state : State
  pub ops : List PlainOffer

-- the same with other names
abbrev pub with_names : Names → Body → Body
with_names names b = record b { state = record b.state { names = names } }

-- what an interface has of its bases so far: the names with its line, their numbers, and its operations
pub record Heirs : Type 0 where
  pub names : Names
  pub numbers : List ℕ
  pub ops : List PlainOffer

-- an interface without bases, beside these names
abbrev pub no_bases : Names → Heirs
no_bases names = record { names = names; numbers = []; ops = [] }

-- an interface: its full name, and its operations, those of its bases first
pub record PlainOffering : Type 0 where
  pub name : List ℕ
  pub ops : List PlainOffer

-- what is declared so far: the names, types and exceptions, and the interfaces
pub record File : Type 0 where
  pub state : State
  pub interfaces : List PlainOffering

-- the same with other names
abbrev pub at_names : Names → File → File
at_names names s = record s { state = record s.state { names = names } }

-- what is declared before the first declaration
abbrev pub start : File
start = record { state = nothing; interfaces = [] }

-- the next declaration
abbrev pub next : File → File
next s = record s { state = counted s.state }
