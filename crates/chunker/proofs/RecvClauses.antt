-- What is promised of chunked receive code, from what it is.
use Rattle.std.proofs.Common.{◌≡◌, ℕ, zero, suc, ◌≤◌, List, [], Option, Some, None, option_map, sym, ap, ◌∙◌, subst, arith}
use Rattle.mint.specs.Types.{Ty}
use Rattle.mint.specs.Values.{Val}
use Rattle.wire_def.specs.declared.encoding.Encoding.{Encoding}
use Rattle.cast_stub.specs.declared.recv.RecvCode.{RecvCode}
use Rattle.cast_stub.specs.declared.recv.RecvOp.{RecvOp}
use Rattle.cast_stub.specs.Subs.{deepest}
use Rattle.cast_stub.specs.RecvBlock.{Recv, code_seen}
use Rattle.cast_stub.specs.Draft.{fresh}
use Rattle.cast_stub.specs.Fill.{fill}
use Rattle.cast_stub.specs.Runs.{Run, gives, refuses, strays, if_some}
use Rattle.cast_stub.specs.Got.{called, sub_at, calls_of, received, IsExact}
use Rattle.chunker.specs.declared.phase.Phase.{Phase}
use Rattle.chunker.specs.Phases.{IsPhase, AtPhase, unknown}
use Rattle.chunker.specs.RecvChunked.{chunked}
use Rattle.chunker.specs.RecvContract.{IsRecvChunked}
use Rattle.chunker.specs.RecvKept.{after_tests, EndsAs, ReceivesAsAt, IsSoundAsAt, skeleton, KeepsOtherRecvs, AreTestsFew, EachRecv, RunsTestFew}
use Rattle.chunker.proofs.Clauses.{same_subs, all_subs, found_sub}
use Rattle.chunker.proofs.Known.{anywhere}
use Rattle.chunker.proofs.RecvChunking.{fares}
use Rattle.chunker.proofs.RecvFaring.{AllFare, Somewhere, ends_settled}
use Rattle.chunker.proofs.RecvShortness.{few_fresh}
use Rattle.chunker.proofs.RecvSkeleton.{bare}
use Rattle.cast_stub.proofs.Widths.{one, wide_is}

abbrev chunked_sub : List RecvOp → Recv
chunked_sub s = chunked unknown 0 [] 0 (code_seen s)

-- the code at a place
sub_made : (phase : Phase) (given code : RecvCode) → IsRecvChunked phase given code → (k : ℕ)
    → sub_at code.subs k ≡ option_map (chunked unknown 0 [] 0) (sub_at given.subs k)
sub_made phase given code is k = found_sub code_seen (chunked unknown 0 [] 0) code.subs given.subs is.subs k

-- what is spelled is given, and what is not is refused
exact_as : (e : Encoding) (t : Ty) (p : ℕ) (o : List ℕ) (x y : Run Val) → EndsAs x y → IsExact e t p o x → IsExact e t p o y
exact_as e t p o (gives v s) y h is = subst (IsExact e t p o) (sym h.2) is
exact_as e t p o refuses y h is = subst (IsExact e t p o) (sym h) is
exact_as e t p o strays y h is = absurd is

module _ (phase : Phase) (given code : RecvCode) (is : IsRecvChunked phase given code) where
  one_call : (n : ℕ) (o : Option Recv)
      → ((j : ℕ) → AllFare Somewhere (called (sub_at given.subs) n j) (called (sub_at code.subs) n j))
      → AllFare Somewhere (λ d s. if_some o (λ b. fill (called (sub_at given.subs) n) b d s))
      (λ d s. if_some (option_map (chunked unknown 0 [] 0) o) (λ b. fill (called (sub_at code.subs) n) b d s))
  one_call n None f d s k at le = tt
  one_call n (Some b) f d s k at le =
      fares (called (sub_at given.subs) n) (called (sub_at code.subs) n) f b unknown d s k (anywhere s.pos) le

  calls_fare : (n i : ℕ) → AllFare Somewhere (called (sub_at given.subs) n i) (called (sub_at code.subs) n i)
  calls_fare zero i d s k at le = tt
  calls_fare (suc n) i d s k at le =
      subst (λ (o : Option Recv). EndsAs (if_some (sub_at given.subs i) (λ b. fill (called (sub_at given.subs) n) b d s))
      (if_some o (λ b. fill (called (sub_at code.subs) n) b d (after_tests k s)))) (sym (sub_made phase given code is i))
      (one_call n (sub_at given.subs i) (λ (j : ℕ). calls_fare n j) d s k at le)

  pub receives : ReceivesAsAt (AtPhase phase) given code
  receives t s at =
      let c = calls_of given.subs deepest in
      let f = calls_of code.subs deepest in
      let same : s.tests ≤ s.tests = omega arith in
      ends_settled (fill c (code_seen given.ops) (fresh t) s) (fill f (code_seen code.ops) (fresh t) s)
      (subst (λ (b : Recv). EndsAs (fill c (code_seen given.ops) (fresh t) s) (fill f b (fresh t) s)) (sym is.ops)
      (fares c f (λ (i : ℕ). calls_fare deepest i) (code_seen given.ops) phase (fresh t) s s.tests at same))

  pub sound : IsSoundAsAt (AtPhase phase) given code
  sound e t given_is s at octets long =
      exact_as e t s.pos s.left (received given t s) (received code t s) (receives t s at) (given_is s at octets long)

  pub keeps_others : KeepsOtherRecvs given code
  keeps_others = record {
    ops = ap skeleton is.ops ∙ bare (code_seen given.ops) phase 0 [] 0;
    subs = same_subs code_seen chunked_sub skeleton (λ s. bare (code_seen s) unknown 0 [] 0) code.subs given.subs is.subs;
  }

  pub test_few : IsPhase phase → RunsTestFew 7 code
  test_few i = record {
    ops = subst (AreTestsFew 7) (sym is.ops) (few_fresh (code_seen given.ops) phase (wide_is phase.m i.multiple));
    subs = all_subs code_seen chunked_sub (AreTestsFew 7) (EachRecv (AreTestsFew 7)) tt (λ s ss h k. (h, k))
        (λ s. few_fresh (code_seen s) unknown one) code.subs given.subs is.subs;
  }
