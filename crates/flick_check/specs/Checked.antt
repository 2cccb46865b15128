-- The answers of `check`: which of the texts of a file are stubs that send the messages of requests inside ensured space.
use Rattle.std.specs.Prelude.{◌≡◌, ◌==◌, ◌&&◌, ◌||◌, ℕ, ◌+◌, Bool, true, false, List, [], ◌∷◌, ◌++◌, take, drop, map, codes, decimal, Option, Some, None, slice_get, slice_index_or}
use Rattle.std.specs.List.{position_from}
use Rattle.std.specs.Str.{bytes_eq}
use Rattle.mint.specs.Typed.{IsWellTyped}
use Rattle.mint.specs.Values.{Val}
use Rattle.wire_def.specs.declared.head.Head.{Head}
use Rattle.cast_stub.specs.declared.send.SendCode.{SendCode}
use Rattle.cast_stub.specs.Meaning.{meaning, IsCovered}
use Rattle.cast_stub.specs.Puts.{IsHead}
use Rattle.stub_check.specs.declared.verdicts.Verdict.{Verdict}
use Rattle.stub_check.specs.declared.verdicts.Verdict.TheVariants.{Yes, Meaning, Cover}
use Rattle.stub_check.specs.Verdicts.{IsVerdict}
use Rattle.aoi.specs.Plain.{PlainInterface}
use Rattle.pres.specs.declared.ops.Op.{Op}
use Rattle.pres.specs.Bindings.{Binding}
use Rattle.json_shape.specs.Operations.{dotted}
use Rattle.stub_codes.specs.declared.stub.Stub.{Stub}
use Rattle.stub_codes.specs.Stubs.{Coded}
use Rattle.flick_engine.specs.Messages.{request_type, message}
use Rattle.flick_check.specs.Files.{Part, sends, receives, IsPart, HasNoPart, used_of, feeds}

-- ---- the answer to a part

-- the place, from 0, of the first operation of a full name
abbrev pub place_of : List PlainInterface → List ℕ → List Op → Option ℕ
place_of is name ops = position_from (λ (o : Op). bytes_eq (dotted is o) name) 0 ops

-- the number of the first operation of a full name
abbrev pub op_of : Binding → List ℕ → Option ℕ
op_of b name = place_of b.unit.interfaces name b.ops

-- the node of an operation's request
abbrev pub request_of : Binding → ℕ → ℕ
request_of b op = slice_index_or (map (λ (o : Op). o.request) b.ops) op 0

-- what is said of a code beside the code of an operation, if there is one
abbrev pub IsVerdictBeside : Binding → ℕ → SendCode → Option Stub → Verdict → Type 0
IsVerdictBeside b op code None v = v ≡ Meaning
IsVerdictBeside b op code (Some s) v = IsVerdict b.nodes (request_of b op) s.send code v

-- the same beside the code that an engine keeps
abbrev pub IsVerdictOf : Coded → ℕ → SendCode → Verdict → Type 0
IsVerdictOf e op code v = IsVerdictBeside e.binding op code (slice_get e.stubs op) v

-- the words before the name
abbrev pub verdict_words : Verdict → List ℕ
verdict_words Yes = codes "yes "
verdict_words Meaning = codes "! meaning "
verdict_words Cover = codes "! cover "

-- words and a name on a line
abbrev pub answer_line : List ℕ → List ℕ → List ℕ
answer_line words name = words ++ (name ++ 10 ∷ [])

-- the answer to a stub, by the operation that its name is of
abbrev pub IsAnswer : Coded → List ℕ → SendCode → Option ℕ → List ℕ → Type 0
IsAnswer e name code None a = a ≡ answer_line (codes "! op ") name
IsAnswer e name code (Some op) a = (v : Verdict) × IsVerdictOf e op code v × (a ≡ answer_line (verdict_words v) name)

-- the answer to a part: to code that receives there is none
abbrev pub IsPartAnswer : Coded → Part → List ℕ → Type 0
IsPartAnswer e (sends name code used) a = IsAnswer e name code (op_of e.binding name) a
IsPartAnswer e (receives used) a = a ≡ []

-- ---- the answers to a file

-- what is said where no part begins, at a line: nothing at the end
abbrev pub last_line : ℕ → List ℕ → List ℕ
last_line line [] = []
last_line line (x ∷ xs) = codes "! text " ++ (decimal line ++ 10 ∷ [])

-- octets from a line on are these parts, one after the other, and then what has none; and this answers them
abbrev pub AreAnswered : Coded → ℕ → List ℕ → List Part → List ℕ → Type 0
AreAnswered e line text [] a = HasNoPart text × (a ≡ last_line line text)
AreAnswered e line text (p ∷ ps) a = (first : List ℕ) × (more : List ℕ) × IsPart text p × IsPartAnswer e p first
    × AreAnswered e (line + feeds (take (used_of p) text)) (drop (used_of p) text) ps more × (a ≡ first ++ more)

-- the answers to octets from a line on
abbrev pub IsCheckedFrom : Coded → ℕ → List ℕ → List ℕ → Type 0
IsCheckedFrom e line text a = (ps : List Part) × AreAnswered e line text ps a

-- the answers to a file of stubs
abbrev pub IsChecked : Coded → List ℕ → List ℕ → Type 0
IsChecked e text a = IsCheckedFrom e 1 text a

-- one of the lines begins with `!`, where octets stand at the beginning of a line or not
abbrev pub refuses_from : Bool → List ℕ → Bool
refuses_from begun [] = false
refuses_from begun (x ∷ xs) = (begun && x == 33) || refuses_from (x == 10) xs

-- one of the lines of octets begins so
abbrev pub has_refusal : List ℕ → Bool
has_refusal text = refuses_from true text

-- ---- what a yes promises

-- a code sends the messages of an operation's requests: from the beginning of a message it appends exactly its octets, inside ensured space
pub record SendsRequests (e : Coded) (op : ℕ) (code : SendCode) : Type 0 where
  pub means : (h : Head) (v : Val) → IsHead h → IsWellTyped (request_type e.binding op) v
      → meaning code h v 0 ≡ Some (message e.binding e.minor op h v)
  pub covered : IsCovered (request_type e.binding op) 0 code

-- each code that gets a yes does
abbrev pub YesIsSent : Coded → Type 0
YesIsSent e = (op : ℕ) (code : SendCode) → IsVerdictOf e op code Yes → SendsRequests e op code

-- ---- what is put by steps

-- the part that octets begin with has so many, and its answer is put
pub record IsTaken (e : Coded) (text : List ℕ) (used : ℕ) (old new : List ℕ) : Type 0 where
  pub part : Part
  pub is : IsPart text part
  pub length : used_of part ≡ used
  pub answer : List ℕ
  pub answers : IsPartAnswer e part answer
  pub puts : new ≡ old ++ answer

-- the same, or there is none and nothing is put
abbrev pub IsTakenOrNot : Coded → List ℕ → Option ℕ → List ℕ → List ℕ → Type 0
IsTakenOrNot e text None old new = HasNoPart text × (new ≡ old)
IsTakenOrNot e text (Some used) old new = IsTaken e text used old new

-- the answer to a stub is put
abbrev pub IsAnswerPut : Coded → List ℕ → SendCode → Option ℕ → List ℕ → List ℕ → Type 0
IsAnswerPut e name code op old new = (a : List ℕ) × IsAnswer e name code op a × (new ≡ old ++ a)

-- what answers the rest of a text, after what was put, answers the text
abbrev pub Goes : Coded → List ℕ → ℕ → List ℕ → List ℕ → Type 0
Goes e text line rest put = (a : List ℕ) → IsCheckedFrom e line rest a → IsChecked e text (put ++ a)
