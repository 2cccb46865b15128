-- The command that the words name.
use Rattle.std.specs.Prelude.{◌≡◌, ℕ, Bool, true, false, List, [], ◌∷◌, if◌then◌else◌, Option, Some, None, unwrap_or, slice_get, codes}
use Rattle.std.specs.Str.{bytes_eq}
use Rattle.idl_lex.specs.declared.kinds.Front.{Front}
use Rattle.flick_engine.specs.declared.wire.Wire.{Wire}
use Rattle.flick_engine.specs.Backs.{wire_of}
use Rattle.flick_lines.specs.declared.verb.Verb.TheVariants.{Marshal, Unmarshal, Reply, Unreply, Count}
use Rattle.flick_top.specs.declared.command.Action.{Action}
use Rattle.flick_top.specs.declared.command.Action.TheVariants.{Answer, Pipe, Unpipe, Serve, Check, Stubs, Make}
use Rattle.flick_top.specs.declared.command.Command.{Command}
use Rattle.flick_top.specs.declared.command.Command.TheVariants.{Help, Version, Show, Over, Bridge}
use Rattle.flick_top.specs.Fronts.{front_of}
use Rattle.flick_top.specs.Numbers.{number_in}

-- the command of one word
abbrev pub option_of : List ℕ → Option Command
option_of word =
    if bytes_eq word (codes "--help") then Some Help
    else if bytes_eq word (codes "--version") then Some Version
    else None

-- the action of a word, where FILE is the last word
abbrev pub last_action : List ℕ → Option Action
last_action word =
    if bytes_eq word (codes "marshal") then Some (Answer Marshal)
    else if bytes_eq word (codes "unmarshal") then Some (Answer Unmarshal)
    else if bytes_eq word (codes "reply") then Some (Answer Reply)
    else if bytes_eq word (codes "unreply") then Some (Answer Unreply)
    else if bytes_eq word (codes "count") then Some (Answer Count)
    else if bytes_eq word (codes "pipe") then Some Pipe
    else if bytes_eq word (codes "unpipe") then Some Unpipe
    else if bytes_eq word (codes "stubs") then Some Stubs
    else None

-- the action of a word, where the fifth word is that of a second file: of replies, or of stubs
abbrev pub second_file : List ℕ → Option Action
second_file word =
    if bytes_eq word (codes "serve") then Some (Serve 4)
    else if bytes_eq word (codes "check") then Some (Check 4)
    else None

-- `make`, a number, and how many messages are made from it on
abbrev pub making : List ℕ → Option ℕ → Option ℕ → Option Action
making word None many = None
making word (Some number) None = None
making word (Some number) (Some many) = if bytes_eq word (codes "make") then Some (Make number many) else None

-- the action of a word, with the words after FILE
abbrev pub action_of : List ℕ → List (List ℕ) → Option Action
action_of word [] = last_action word
action_of word (second ∷ []) = second_file word
action_of word (number ∷ many ∷ []) = making word (number_in 18446744073709551615 number) (number_in 1000000 many)
action_of word (a ∷ b ∷ c ∷ words) = None

-- `show`, and a front end where its word names one
abbrev pub showing : List ℕ → Option Front → Option Command
showing word None = None
showing word (Some f) = if bytes_eq word (codes "show") then Some (Show f) else None

-- an action, a front end and a format of messages, each where its word names one, over the file of the fourth word
abbrev pub over_file : Option Action → Option Front → Option Wire → Option Command
over_file None front wire = None
over_file (Some a) None wire = None
over_file (Some a) (Some f) None = None
over_file (Some a) (Some f) (Some w) = Some (Over a (record { front = f; wire = w; file = 3 }))

-- `bridge`, a front end and two formats of messages, each where its word names one, over the file of the fifth word
abbrev pub bridge_between : Option Front → Option Wire → Option Wire → Option Command
bridge_between None from to = None
bridge_between (Some f) None to = None
bridge_between (Some f) (Some w) None = None
bridge_between (Some f) (Some w) (Some x) = Some (Bridge (record { front = f; wire = w; file = 4 }) x)

-- the same by its word, where one word more follows, that of FILE
abbrev pub bridging : List ℕ → Option Front → Option Wire → Option Wire → List (List ℕ) → Option Command
bridging word front from to [] = None
bridging word front from to (file ∷ []) = if bytes_eq word (codes "bridge") then bridge_between front from to else None
bridging word front from to (a ∷ b ∷ words) = None

-- the first command, or else the second
abbrev pub either_command : Option Command → Option Command → Option Command
either_command None second = second
either_command (Some c) second = Some c

-- the command, where the words have the shape of one
abbrev pub command_of : List (List ℕ) → Option Command
command_of [] = None
command_of (word ∷ []) = option_of word
command_of (a ∷ b ∷ []) = None
command_of (word ∷ front ∷ file ∷ []) = showing word (front_of front)
command_of (word ∷ front ∷ back ∷ fourth ∷ more) =
    either_command (bridging word (front_of front) (wire_of back) (wire_of fourth) more)
    (over_file (action_of word more) (front_of front) (wire_of back))

-- the word at a place
abbrev pub word_at : List (List ℕ) → ℕ → List ℕ
word_at words place = unwrap_or (slice_get words place) []

-- an action that answers the items of the input
abbrev pub IsOverItems : Action → Type 0
IsOverItems (Answer verb) = Unit {0}
IsOverItems Pipe = Unit {0}
IsOverItems Unpipe = Unit {0}
IsOverItems (Serve replies) = Unit {0}
IsOverItems _ = ⊥

-- a command that answers the items of its input
abbrev pub AnswersItems : Option Command → Type 0
AnswersItems (Some (Over action n)) = IsOverItems action
AnswersItems (Some (Bridge n to)) = Unit {0}
AnswersItems _ = ⊥

-- an action sends replies
abbrev pub sends_replies : Action → Bool
sends_replies (Answer Reply) = true
sends_replies (Serve replies) = true
sends_replies _ = false

-- a command that sends them
abbrev pub SendsReplies : Option Command → Type 0
SendsReplies (Some (Over action n)) = sends_replies action ≡ true
SendsReplies _ = ⊥

-- an action that says what is to be said of stubs
abbrev pub IsOverStubs : Action → Type 0
IsOverStubs (Check stubs) = Unit {0}
IsOverStubs _ = ⊥

-- a command that does
abbrev pub ChecksStubs : Option Command → Type 0
ChecksStubs (Some (Over action n)) = IsOverStubs action
ChecksStubs _ = ⊥

-- a command over files
abbrev pub ReadsFiles : Option Command → Type 0
ReadsFiles (Some (Show front)) = Unit {0}
ReadsFiles (Some (Over action n)) = Unit {0}
ReadsFiles (Some (Bridge n to)) = Unit {0}
ReadsFiles _ = ⊥
