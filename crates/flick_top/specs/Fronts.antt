-- What differs from one front end to another: its name, and the unit of a file's tokens.
use Rattle.std.specs.Prelude.{◌≡◌, ◌⊎◌, ℕ, List, Option, Some, None, Result, Ok, Err, if◌then◌else◌, codes}
use Rattle.std.specs.Str.{bytes_eq}
use Rattle.idl_lex.specs.declared.kinds.Front.{Front}
use Rattle.idl_lex.specs.declared.kinds.Front.TheVariants as front
use Rattle.idl_lex.specs.declared.kinds.Token.{Token}
use Rattle.idl_lex.specs.declared.lexing.LexErr.{LexErr}
use Rattle.idl_lex.specs.Lexed.{AreTokens, IsFirstFault}
use Rattle.onc_syntax.specs.Derivation.{Derives as OncDerives, FailsAt as OncFailsAt}
use Rattle.corba_syntax.specs.Derivation.{Derives as CorbaDerives, FailsAt as CorbaFailsAt}
use Rattle.mig_syntax.specs.Derivation.{Derives as MigDerives, FailsAt as MigFailsAt}
use Rattle.aoi.specs.declared.faults.NameErr.{NameErr}
use Rattle.aoi.specs.Plain.{PlainUnit}
use Rattle.front_onc.specs.Resolved.{resolved as onc_resolved}
use Rattle.front_corba.specs.Resolved.{resolved as corba_resolved}
use Rattle.front_mig.specs.Resolved.{resolved as mig_resolved}
use Rattle.flick_top.specs.declared.report.Report.{Report}
use Rattle.flick_top.specs.declared.report.Report.TheVariants.{Lex, Syntax, Name}

-- the front end of a name
abbrev pub front_of : List ℕ → Option Front
front_of word =
    if bytes_eq word (codes "onc") then Some front.Onc
    else if bytes_eq word (codes "corba") then Some front.Corba
    else if bytes_eq word (codes "mig") then Some front.Mig
    else None

-- a unit, or what is said instead
abbrev pub Read : Type 0
Read = Result PlainUnit Report

-- a unit, or the first fault of its names
abbrev pub in_words : Result PlainUnit NameErr → Read
in_words (Err error) = Err (Name error)
in_words (Ok unit) = Ok unit

-- tokens have a tree, whose unit it is; or none, and the line where they fail is said
abbrev pub Says : {T : Type 0} → (T → List Token → Type 0) → (List Token → ℕ → Type 0) → (T → Result PlainUnit NameErr)
    → List Token → Read → Type 0
Says {T} Derives FailsAt resolved tokens read =
    ((tree : T) × Derives tree tokens × (read ≡ in_words (resolved tree)))
    ⊎ ((line : ℕ) × ((tree : T) → Derives tree tokens → ⊥) × FailsAt tokens line × (read ≡ Err (Syntax line)))

-- tokens of a file in the ONC RPC language
abbrev pub OncTokensSay : List Token → Read → Type 0
OncTokensSay tokens read = Says OncDerives OncFailsAt onc_resolved tokens read

-- tokens of a CORBA IDL file
abbrev pub CorbaTokensSay : List Token → Read → Type 0
CorbaTokensSay tokens read = Says CorbaDerives CorbaFailsAt corba_resolved tokens read

-- tokens of a MIG file
abbrev pub MigTokensSay : List Token → Read → Type 0
MigTokensSay tokens read = Says MigDerives MigFailsAt mig_resolved tokens read

-- the unit of a file's tokens, or what is said instead
abbrev pub TokensSay : Front → List Token → Read → Type 0
TokensSay front.Onc tokens read = OncTokensSay tokens read
TokensSay front.Corba tokens read = CorbaTokensSay tokens read
TokensSay front.Mig tokens read = MigTokensSay tokens read

-- the unit of a text, which has tokens that say it; or its first fault is said
abbrev pub UnitOf : Front → List ℕ → Read → Type 0
UnitOf k text read =
    ((tokens : List Token) × AreTokens k text tokens × TokensSay k tokens read)
    ⊎ ((fault : LexErr) × IsFirstFault k text fault × (read ≡ Err (Lex fault)))
