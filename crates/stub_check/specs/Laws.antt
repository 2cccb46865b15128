-- Laws of verdicts.
use Rattle.std.specs.Prelude.{◌≡◌, ℕ, List}
use Rattle.mint.specs.declared.node.Node.{Node}
use Rattle.mint.specs.Types.{IsTable, type_at}
use Rattle.cast_stub.specs.declared.send.SendCode.{SendCode}
use Rattle.cast_stub.specs.Meaning.{IsCovered}
use Rattle.stub_check.specs.declared.verdicts.Verdict.{Verdict}
use Rattle.stub_check.specs.declared.verdicts.Verdict.TheVariants.{Yes}
use Rattle.stub_check.specs.Verdicts.{IsAsGood, IsSame, IsVerdict}

-- a code that gets a yes beside one that is covered appends what that one does, inside ensured space
abbrev pub YesIsAsGood : Type 0
YesIsAsGood = (nodes : List Node) (id : ℕ) (kept code : SendCode) → IsTable nodes → IsCovered (type_at nodes id) 0 kept
    → IsVerdict nodes id kept code Yes → IsAsGood (type_at nodes id) kept code

-- codes that are the same get one verdict
abbrev pub IsVerdictOnce : Type 0
IsVerdictOnce = (nodes : List Node) (id : ℕ) (kept code other : SendCode) (v w : Verdict) → IsSame code other
    → IsVerdict nodes id kept code v → IsVerdict nodes id kept other w → v ≡ w

-- each code gets a verdict
abbrev pub IsVerdictSomehow : Type 0
IsVerdictSomehow = (nodes : List Node) (id : ℕ) (kept code : SendCode) → (v : Verdict) × IsVerdict nodes id kept code v
