-- Reports: what is written in place of answers, and how a call ends that writes it.
use Rattle.std.specs.Prelude.{ℕ, List, ◌++◌, codes, decimal}
use Rattle.idl_lex.specs.declared.lexing.LexErr.{LexErr}
use Rattle.idl_lex.specs.declared.lexing.LexErr.TheVariants as lex
use Rattle.pres.specs.declared.errors.BindErr.{BindErr}
use Rattle.pres.specs.declared.errors.BindErr.TheVariants as bind
use Rattle.aoi.specs.declared.faults.NameFault.{NameFault}
use Rattle.aoi.specs.declared.faults.NameFault.TheVariants as name
use Rattle.flick_top.specs.declared.report.TheConstants.{USAGE, VERSION}
use Rattle.flick_top.specs.declared.report.Report.{Report}
use Rattle.flick_top.specs.declared.report.Report.TheVariants.{Help, Version, NoFile, TooLarge, Lex, Syntax, Name, Bind, NoReplies, LargeReplies, WrongReply, NoStubs, LargeStubs}
use Rattle.flick_top.specs.declared.status.Status.{Status}
use Rattle.flick_top.specs.declared.status.Status.TheVariants.{Done, File}

-- the word of a fault of a text
abbrev pub lex_name : LexErr → List ℕ
lex_name (lex.BadOctet at) = codes "BadOctet"
lex_name (lex.OpenComment at) = codes "OpenComment"
lex_name (lex.Wide at) = codes "Wide"
lex_name (lex.Directive at) = codes "Directive"
lex_name lex.NoMemory = codes "NoMemory"

-- the octet at which a text has its fault, counted from 0
abbrev pub place_of : LexErr → ℕ
place_of (lex.BadOctet at) = at
place_of (lex.OpenComment at) = at
place_of (lex.Wide at) = at
place_of (lex.Directive at) = at
place_of lex.NoMemory = 0

-- the word of a fault of a name
abbrev pub name_name : NameFault → List ℕ
name_name name.Unknown = codes "Unknown"
name_name name.Twice = codes "Twice"
name_name name.CaseClash = codes "CaseClash"
name_name name.NotType = codes "NotType"
name_name name.NotConst = codes "NotConst"
name_name name.Range = codes "Range"
name_name name.Label = codes "Label"
name_name name.Limit = codes "Limit"
name_name name.OutOfScope = codes "OutOfScope"
name_name name.Oneway = codes "Oneway"
name_name name.Port = codes "Port"
name_name name.NoMemory = codes "NoMemory"

-- the word of a reason why a unit is not bound
abbrev pub bind_name : BindErr → List ℕ
bind_name bind.Many = codes "Many"
bind_name bind.Deep = codes "Deep"
bind_name bind.Heavy = codes "Heavy"
bind_name bind.Wide = codes "Wide"
bind_name bind.NoMemory = codes "NoMemory"

-- what is written
abbrev pub report_text : Report → List ℕ
report_text Help = USAGE.now
report_text Version = VERSION.now
report_text NoFile = codes "? file\n"
report_text TooLarge = codes "? size\n"
report_text (Lex fault) = codes "? lex " ++ lex_name fault ++ codes " " ++ decimal (place_of fault) ++ codes "\n"
report_text (Syntax line) = codes "? syntax " ++ decimal line ++ codes "\n"
report_text (Name error) = codes "? name " ++ name_name error.fault ++ codes " " ++ decimal error.decl ++ codes "\n"
report_text (Bind reason) = codes "? bind " ++ bind_name reason ++ codes "\n"
report_text NoReplies = codes "? replies file\n"
report_text LargeReplies = codes "? replies size\n"
report_text (WrongReply line) = codes "? replies " ++ decimal line ++ codes "\n"
report_text NoStubs = codes "? stubs file\n"
report_text LargeStubs = codes "? stubs size\n"

-- how a call ends that says it
abbrev pub report_status : Report → Status
report_status Help = Done
report_status Version = Done
report_status NoFile = File
report_status TooLarge = File
report_status (Lex fault) = File
report_status (Syntax line) = File
report_status (Name error) = File
report_status (Bind reason) = File
report_status NoReplies = File
report_status LargeReplies = File
report_status (WrongReply line) = File
report_status NoStubs = File
report_status LargeStubs = File
