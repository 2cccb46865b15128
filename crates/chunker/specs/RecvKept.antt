-- What a pass keeps of receive code, from some positions on, and how few tests it leaves.
use Rattle.std.specs.Prelude.{◌≡◌, ℕ, suc, ◌≤◌, List, [], ◌∷◌, map}
use Rattle.mint.specs.Types.{Ty}
use Rattle.wire_def.specs.declared.encoding.Encoding.{Encoding}
use Rattle.cast_stub.specs.declared.recv.RecvCode.{RecvCode}
use Rattle.cast_stub.specs.declared.recv.RecvOp.{RecvOp}
use Rattle.cast_stub.specs.RecvBlock.{Recv, finish, need, need_row, skip_any, skip_zero, pass, desc, row_block, row_wide, each, switch, if_there, call, Cases, no_default, default, case, code_seen}
use Rattle.cast_stub.specs.Got.{received}
use Rattle.cast_stub.specs.Kept.{StaysSoundAt}
use Rattle.cast_stub.specs.Runs.{Place, Run, gives, refuses, strays}

-- the same place, after so many tests
abbrev pub after_tests : ℕ → Place → Place
after_tests k s = record { pos = s.pos; left = s.left; near = s.near; tests = k }

-- the second run gives the same at the same place after no more tests, or refuses, as the first does, if that does not stray
abbrev pub EndsAs : {A : Type 0} → Run A → Run A → Type 0
EndsAs (gives x s) y = (k : ℕ) × (k ≤ s.tests) × (y ≡ gives x (after_tests k s))
EndsAs refuses y = y ≡ refuses
EndsAs strays y = Unit {0}

-- the same value, of any type, at the same place after no more tests, from such positions on
abbrev pub ReceivesAsAt : (ℕ → Type 0) → RecvCode → RecvCode → Type 0
ReceivesAsAt At given code = (t : Ty) (s : Place) → At s.pos → EndsAs (received given t s) (received code t s)

-- sound for every type and encoding for which the given code is, at such positions
abbrev pub IsSoundAsAt : (ℕ → Type 0) → RecvCode → RecvCode → Type 0
IsSoundAsAt At given code = (e : Encoding) (t : Ty) → StaysSoundAt At e t given code

-- ---- operations

abbrev mutual
  -- a block with its needs, skips and takes left out
  pub skeleton : Recv → Recv
  skeleton finish = finish
  skeleton (need n r) = skeleton r
  skeleton (need_row p u e r) = need_row p u e (skeleton r)
  skeleton (skip_any a r) = skeleton r
  skeleton (skip_zero a r) = skeleton r
  skeleton (pass n gs r) = skeleton r
  skeleton (desc p name size mul r) = desc p name size mul (skeleton r)
  skeleton (row_block p o r) = row_block p o (skeleton r)
  skeleton (row_wide p o r) = row_wide p o (skeleton r)
  skeleton (each p b r) = each p (skeleton b) (skeleton r)
  skeleton (switch p cs r) = switch p (cases_skeleton cs) (skeleton r)
  skeleton (if_there p b r) = if_there p (skeleton b) (skeleton r)
  skeleton (call k p r) = call k p (skeleton r)

  -- the same of the bodies of a switch
  pub cases_skeleton : Cases → Cases
  cases_skeleton no_default = no_default
  cases_skeleton (default b) = default (skeleton b)
  cases_skeleton (case n b cs) = case n (skeleton b) (cases_skeleton cs)

-- each operation but needs, skips and takes in its place, in the codes that calls name too
pub record KeepsOtherRecvs (given code : RecvCode) : Type 0 where
  pub ops : skeleton (code_seen code.ops) ≡ skeleton (code_seen given.ops)
  pub subs : map (λ (s : List RecvOp). skeleton (code_seen s)) code.subs ≡ map (λ (s : List RecvOp). skeleton (code_seen s)) given.subs

abbrev mutual
  -- behind so many needs and skips, at most so many stand together with takes among them, in bodies too
  pub AreFewAfter : ℕ → ℕ → Recv → Type 0
  AreFewAfter most k finish = k ≤ most
  AreFewAfter most k (need n r) = AreFewAfter most (suc k) r
  AreFewAfter most k (need_row p u e r) = (k ≤ most) × AreFewAfter most 0 r
  AreFewAfter most k (skip_any a r) = AreFewAfter most (suc k) r
  AreFewAfter most k (skip_zero a r) = AreFewAfter most (suc k) r
  AreFewAfter most k (pass n gs r) = AreFewAfter most k r
  AreFewAfter most k (desc p name size mul r) = (k ≤ most) × AreFewAfter most 0 r
  AreFewAfter most k (row_block p o r) = (k ≤ most) × AreFewAfter most 0 r
  AreFewAfter most k (row_wide p o r) = (k ≤ most) × AreFewAfter most 0 r
  AreFewAfter most k (each p b r) = (k ≤ most) × (AreFewAfter most 0 b × AreFewAfter most 0 r)
  AreFewAfter most k (switch p cs r) = (k ≤ most) × (FewInCases most cs × AreFewAfter most 0 r)
  AreFewAfter most k (if_there p b r) = (k ≤ most) × (AreFewAfter most 0 b × AreFewAfter most 0 r)
  AreFewAfter most k (call c p r) = (k ≤ most) × AreFewAfter most 0 r

  -- the same of the bodies of a switch
  pub FewInCases : ℕ → Cases → Type 0
  FewInCases most no_default = Unit {0}
  FewInCases most (default b) = AreFewAfter most 0 b
  FewInCases most (case n b cs) = AreFewAfter most 0 b × FewInCases most cs

-- at most so many needs and skips stand together, in bodies too
abbrev pub AreTestsFew : ℕ → Recv → Type 0
AreTestsFew most b = AreFewAfter most 0 b

-- all codes of a list
abbrev pub EachRecv : (Recv → Type 0) → List (List RecvOp) → Type 0
EachRecv P [] = Unit {0}
EachRecv P (s ∷ ss) = P (code_seen s) × EachRecv P ss

-- at most so many needs and skips stand together, in the codes that calls name too
pub record RunsTestFew (most : ℕ) (code : RecvCode) : Type 0 where
  pub ops : AreTestsFew most (code_seen code.ops)
  pub subs : EachRecv (AreTestsFew most) code.subs
