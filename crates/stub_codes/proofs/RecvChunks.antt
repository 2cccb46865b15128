-- Chunked code receives where the given code does.
use Rattle.std.proofs.Common.{◌≡◌, ℕ, List, [], Result, Ok, Err, IfOk, sym, subst}
use Rattle.kit_base.specs.declared.errors.NoMemory.{NoMemory}
use Rattle.mint.specs.Types.{Ty}
use Rattle.wire_def.specs.declared.encoding.Encoding.{Encoding}
use Rattle.wire_def.specs.Places.{IsPlace}
use Rattle.cast_stub.specs.declared.recv.RecvCode.{RecvCode}
use Rattle.cast_stub.specs.declared.recv.RecvOp.{RecvOp}
use Rattle.cast_stub.specs.Got.{IsSoundCode, no_subs}
use Rattle.cast_stub.specs.Layouts.{layout_of}
use Rattle.cast_stub.specs.Traces.{IsTurned, TracesBy}
use Rattle.cast_stub.specs.RecvBlock.{Recv, finish, need, need_row, skip_any, skip_zero, pass, desc, row_block, row_wide, each, switch, if_there, call, Cases, no_default, default, case, code_seen}
use Rattle.chunker.specs.declared.phase.Phase.{Phase}
use Rattle.chunker.specs.Phases.{AtPhase}
use Rattle.chunker.specs.RecvKept.{IsSoundAsAt, KeepsOtherRecvs, RunsTestFew, skeleton, cases_skeleton}
use Rattle.copy_inline.specs.RecvCallFree.{HasNoCall, CasesHaveNoCall}
use Rattle.copy_inline.specs.RecvRows as rows
use Rattle.stub_codes.specs.Receiving.{Receives}
use Rattle.stub_codes.proofs.RecvTested.{tests_few}
use Rattle.stub_codes.proofs.Kept.{none_left}
use Rattle.cast_stub.proofs.Trees.{beside}

-- code without needs, skips and takes has a call exactly where the whole has
mutual
  free : (b : Recv) → (HasNoCall b → HasNoCall (skeleton b)) × (HasNoCall (skeleton b) → HasNoCall b)
  free finish = (λ h. h, λ h. h)
  free (need n r) = free r
  free (need_row p u e r) = free r
  free (skip_any a r) = free r
  free (skip_zero a r) = free r
  free (pass n gs r) = free r
  free (desc p name size mul r) = free r
  free (row_block p o r) = free r
  free (row_wide p o r) = free r
  free (each p b r) = beside (free b) (free r)
  free (switch p cs r) = beside (cases_free cs) (free r)
  free (if_there p b r) = beside (free b) (free r)
  free (call k p r) = (λ h. h, λ h. h)

  cases_free : (cs : Cases)
      → (CasesHaveNoCall cs → CasesHaveNoCall (cases_skeleton cs)) × (CasesHaveNoCall (cases_skeleton cs) → CasesHaveNoCall cs)
  cases_free no_default = (λ h. h, λ h. h)
  cases_free (default b) = free b
  cases_free (case m b cs) = beside (free b) (cases_free cs)

-- code whose other operations are those of code without calls has none
free_as : (a b : Recv) → skeleton a ≡ skeleton b → HasNoCall b → HasNoCall a
free_as a b e h = (free a).1 (subst HasNoCall (sym e) ((free b).0 h))

pub receives_chunked : (e : Encoding) (t : Ty) (ph : Phase) (below : ℕ) (flat rowed : RecvCode) (r : Result RecvCode NoMemory)
    → TracesBy (IsTurned (layout_of e)) no_subs t below [] (code_seen flat.ops) → rows.IsRowed e t flat rowed
    → IsSoundCode e t (IsPlace e) rowed → HasNoCall (code_seen rowed.ops) → rowed.subs ≡ []
    → ((p : ℕ) → AtPhase ph p → IsPlace e p) → ((p : ℕ) → IsPlace e p → AtPhase ph p) → IfOk r (λ c. IsSoundAsAt (AtPhase ph) rowed c)
    → IfOk r (λ c. KeepsOtherRecvs rowed c) → IfOk r (λ c. RunsTestFew 7 c)
    → IfOk r (λ c. Receives e t c)
receives_chunked e t ph below flat rowed (Ok code) goes is_rowed is_sound free none within all stays keeps few =
    let sound : IsSoundCode e t (IsPlace e) code = λ s at octets long.
    stays e t (λ u here is_octets short. is_sound u (within u.pos here) is_octets short) s (all s.pos at) octets long in
    let calls = free_as (code_seen code.ops) (code_seen rowed.ops) keeps.ops free in
    record {
      sound = sound;
      calls = calls;
      subs = none_left (λ (s : List RecvOp). skeleton (code_seen s)) code.subs rowed.subs keeps.subs none;
      few = tests_few e t below flat rowed code goes is_rowed keeps few calls sound;
    }
receives_chunked e t ph below flat rowed (Err x) goes is_rowed is_sound free none within all stays keeps few = tt
