-- What is said of a send code beside one that is kept.
use Rattle.std.specs.Prelude.{◌≡◌, ◌⊎◌, ℕ, true, false, List, map}
use Rattle.mint.specs.Types.{Ty}
use Rattle.mint.specs.Typed.{IsWellTyped}
use Rattle.mint.specs.Values.{Val}
use Rattle.mint.specs.declared.node.Node.{Node}
use Rattle.wire_def.specs.declared.head.Head.{Head}
use Rattle.cast_stub.specs.declared.send.SendCode.{SendCode}
use Rattle.cast_stub.specs.Block.{code_seen}
use Rattle.cast_stub.specs.Meaning.{meaning, IsCovered}
use Rattle.cast_stub.specs.Puts.{IsHead}
use Rattle.stub_cover.specs.Covers.{covers}
use Rattle.stub_compare.specs.CompareFlats.{HaveOneFlat}
use Rattle.stub_check.specs.declared.verdicts.Verdict.{Verdict}
use Rattle.stub_check.specs.declared.verdicts.Verdict.TheVariants.{Yes, Meaning, Cover}

-- the same operations, and the same codes that calls name
abbrev pub IsSame : SendCode → SendCode → Type 0
IsSame kept code = (code_seen code.ops ≡ code_seen kept.ops) × (map code_seen code.subs ≡ map code_seen kept.subs)

-- yes where the code is the kept one, or has its flat and covers; else which of the two is lacking, the flat first
abbrev pub IsVerdict : List Node → ℕ → SendCode → SendCode → Verdict → Type 0
IsVerdict nodes id kept code Yes = IsSame kept code ⊎ (HaveOneFlat nodes id kept code × (covers nodes id code ≡ true))
IsVerdict nodes id kept code Meaning = (IsSame kept code → ⊥) × (HaveOneFlat nodes id kept code → ⊥)
IsVerdict nodes id kept code Cover = (IsSame kept code → ⊥) × HaveOneFlat nodes id kept code × (covers nodes id code ≡ false)

-- codes append the same octets from position 0, for every head and value of a type
abbrev pub MeansTheSame : Ty → SendCode → SendCode → Type 0
MeansTheSame t kept code = (h : Head) (v : Val) → IsHead h → IsWellTyped t v → meaning code h v 0 ≡ meaning kept h v 0

-- a code appends what the kept one does, inside ensured space
pub record IsAsGood (t : Ty) (kept code : SendCode) : Type 0 where
  pub means : MeansTheSame t kept code
  pub covered : IsCovered t 0 code
