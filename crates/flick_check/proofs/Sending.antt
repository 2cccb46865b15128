-- A code that gets a yes sends the messages of requests.
use Rattle.std.proofs.Common.{◌≡◌, ℕ, List, Option, Some, None, slice_get, refl, sym, ◌∙◌, subst}
use Rattle.mint.specs.declared.node.Node.{Node}
use Rattle.mint.specs.Types.{IsTable, type_at}
use Rattle.cast_stub.specs.declared.send.SendCode.{SendCode}
use Rattle.cast_stub.specs.Meaning.{IsCovered}
use Rattle.stub_check.specs.declared.verdicts.Verdict.TheVariants.{Yes}
use Rattle.stub_check.proofs.AsGood.{yes_good}
use Rattle.pres.specs.Bindings.{Binding}
use Rattle.stub_codes.specs.declared.stub.Stub.{Stub}
use Rattle.stub_codes.specs.Stubs.{Coded, IsCoded}
use Rattle.flick_engine.specs.Messages.{request_type}
use Rattle.flick_check.specs.Checked.{request_of, IsVerdictBeside, SendsRequests, YesIsSent}

-- what is covered for the request of an operation is so for its node in a table
pub covered_at : (b : Binding) (op : ℕ) (nodes : List Node) (id : ℕ) (code : SendCode) → nodes ≡ b.nodes → id ≡ request_of b op
    → IsCovered (request_type b op) 0 code → IsCovered (type_at nodes id) 0 code
covered_at b op nodes id code table node covered =
    subst (λ (ns : List Node). IsCovered (type_at ns id) 0 code) (sym table)
    (subst (λ (i : ℕ). IsCovered (type_at b.nodes i) 0 code) (sym node) covered)

-- beside the code of an operation, if there is one
yes_beside : (e : Coded) → IsTable e.binding.nodes → IsCoded e → (op : ℕ) (code : SendCode) (o : Option Stub)
    → slice_get e.stubs op ≡ o → IsVerdictBeside e.binding op code o Yes → SendsRequests e op code
yes_beside e table coded op code None is verdict = absurd (cc verdict)
yes_beside e table coded op code (Some s) is verdict =
    let sends = (coded.each op s is).send in
    let good = yes_good e.binding.nodes (request_of e.binding op) s.send code table sends.covered verdict in
    record {
      means = λ h w head typed. good.means h w head typed ∙ sends.means h w head typed;
      covered = good.covered;
    }

pub yes_sent : (e : Coded) → IsTable e.binding.nodes → IsCoded e → YesIsSent e
yes_sent e table coded = λ op code verdict. yes_beside e table coded op code (slice_get e.stubs op) refl verdict
