-- Chunked code makes few tests for the value that it gives.
use Rattle.std.proofs.Common.{◌≡◌, ℕ, ◌+◌, ◌≤◌, List, [], ap, ◌∙◌, subst, arith}
use Rattle.mint.specs.Types.{Ty}
use Rattle.mint.specs.Typed.{IsOf}
use Rattle.mint.specs.Values.{Val}
use Rattle.wire_def.specs.declared.encoding.Encoding.{Encoding}
use Rattle.wire_def.specs.Places.{IsPlace}
use Rattle.cast_stub.specs.declared.recv.RecvCode.{RecvCode}
use Rattle.cast_stub.specs.Draft.{fresh}
use Rattle.cast_stub.specs.Fill.{fill}
use Rattle.cast_stub.specs.Got.{calls_of, received, IsExact, IsSoundCode, no_subs}
use Rattle.cast_stub.specs.Layouts.{layout_of}
use Rattle.cast_stub.specs.RecvBlock.{Recv, code_seen}
use Rattle.cast_stub.specs.Runs.{Place, Run, gives}
use Rattle.cast_stub.specs.Subs.{deepest}
use Rattle.cast_stub.specs.Traces.{IsTurned, TracesBy}
use Rattle.chunker.specs.RecvKept.{KeepsOtherRecvs, RunsTestFew}
use Rattle.copy_inline.specs.RecvCallFree.{HasNoCall}
use Rattle.copy_inline.specs.RecvRowed.{rowed}
use Rattle.copy_inline.specs.RecvRows as rows
use Rattle.stub_codes.specs.Asked.{asked_after, TestsFew}
use Rattle.stub_codes.proofs.RecvAsking.{asks, asks_body}
use Rattle.stub_codes.proofs.RecvBounded.{few_asked, same_asked}
use Rattle.stub_codes.proofs.RecvGiven.{Gives}
use Rattle.stub_codes.proofs.RecvMade.{settled_by}

-- what is given is of the type
given_of : (e : Encoding) (t : Ty) (p : ℕ) (o : List ℕ) (x : Run Val) (v : Val) (u : Place) → IsExact e t p o x → x ≡ gives v u → IsOf t v
given_of e t p o x v u is same =
    let exact : IsExact e t p o (gives v u) = subst (IsExact e t p o) same is in
    (((exact.3).spelled).typed).is_of

pub tests_few : (e : Encoding) (t : Ty) (below : ℕ) (flat given code : RecvCode)
    → TracesBy (IsTurned (layout_of e)) no_subs t below [] (code_seen flat.ops) → rows.IsRowed e t flat given → KeepsOtherRecvs given code
    → RunsTestFew 7 code → HasNoCall (code_seen code.ops) → IsSoundCode e t (IsPlace e) code
    → TestsFew e t code
tests_few e t below flat given code goes is_rowed keeps few free sound s v u at octets long is =
    let b = code_seen code.ops in
    let c = calls_of code.subs deepest in
    let body = asks_body c b (asks c b 0 free few.ops) (fresh t) s in
    let made : Gives (received code t s) (λ w x. x.tests ≤ s.tests + (7 + asked_after 7 b w)) =
    settled_by (λ w. 7 + asked_after 7 b w) s (fill c b (fresh t) s) body in
    let tests : u.tests ≤ s.tests + (7 + asked_after 7 b v) =
    subst (λ z. Gives z (λ w x. x.tests ≤ s.tests + (7 + asked_after 7 b w))) is made in
    let same : asked_after 7 b v ≡ asked_after 7 (rowed e t (code_seen flat.ops)) v =
    same_asked b (code_seen given.ops) v keeps.ops ∙ ap (λ (x : Recv). asked_after 7 x v) is_rowed in
    let most = few_asked e t below (code_seen flat.ops) v
    (given_of e t s.pos s.left (received code t s) v u (sound s at octets long) is) goes in
    omega (arith, tests, same, most)
