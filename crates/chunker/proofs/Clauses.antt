-- What is promised of chunked code, from what it is.
use Rattle.std.proofs.Common.{◌≡◌, ℕ, zero, suc, ◌+◌, ◌%◌, ◌<◌, ◌≤◌, List, [], ◌∷◌, map, length, slice_get, Option, Some, None, option_map, IfSome, refl, sym, ap, ◌∙◌, subst, arith}
use Rattle.std.proofs.lemmas.Option.{slice_get-map}
use Rattle.std.proofs.Math.Path.{fun_ext}
use Rattle.mint.specs.Values.{Val}
use Rattle.wire_def.specs.declared.head.Head.{Head}
use Rattle.cast_stub.specs.declared.send.SendCode.{SendCode}
use Rattle.cast_stub.specs.declared.send.SendOp.{SendOp}
use Rattle.cast_stub.specs.Block.{Block, code_seen}
use Rattle.cast_stub.specs.Entered.{of_some, entered, entered_by}
use Rattle.cast_stub.specs.Meaning.{wrote, costs, AreCovered}
use Rattle.cast_stub.specs.Parts.{on_some, IsThere}
use Rattle.cast_stub.specs.Steps.{Step, Room, Pad, Stored, Widened, Copied, Patched, Steps, steps}
use Rattle.cast_stub.specs.Subs.{called, deepest, sub_at, calls_of, sent_steps}
use Rattle.chunker.specs.declared.phase.Phase.{Phase}
use Rattle.chunker.specs.Chunked.{chunked}
use Rattle.chunker.specs.Contract.{IsChunked}
use Rattle.cast_stub.specs.KeptAt.{Wherever, SendsAsAt, IsCoveredAsAt, ChecksAs, CallsAs, RowsAs, StoresWithin, MovesWithin, KeepsOthers, EachCode, RunsAreShort}
use Rattle.cast_stub.specs.Met.{met, others, rows_in, moves_in, moves_by, moves_allowed}
use Rattle.cast_stub.specs.Met as met_in
use Rattle.chunker.specs.Phases.{IsPhase, AtPhase, unknown}
use Rattle.cast_stub.specs.Skeletons.{skeleton, IsRunShort}
use Rattle.chunker.proofs.Chunking.{begins}
use Rattle.chunker.proofs.Keeping.{Keeps, Becomes, becomes_at}
use Rattle.chunker.proofs.Known.{anywhere}
use Rattle.chunker.proofs.Moves.{Few, moves_few, in_chunked}
use Rattle.chunker.proofs.Shortness.{fresh}
use Rattle.chunker.proofs.Skeleton.{bare, same_calls}
use Rattle.cast_stub.proofs.Widths.{Wide, one, two, four, eight, wide_is}

rest_at : (m r : ℕ) → Wide m → r < m → r % m ≡ r
rest_at _ r one lt = omega (arith, lt)
rest_at _ r two lt = omega (arith, lt)
rest_at _ r four lt = omega (arith, lt)
rest_at _ r eight lt = omega (arith, lt)

checks_of : (ss : List Step) → (costs (others ss)).checks ≡ (costs ss).checks
checks_of [] = refl
checks_of (Room n ∷ ss) = omega (arith, checks_of ss)
checks_of (_ ∷ ss) = omega (arith, checks_of ss)

rows_of : (ss : List Step) → rows_in (others ss) ≡ rows_in ss
rows_of [] = refl
rows_of (Room n ∷ ss) = rows_of ss
rows_of (Pad a ∷ ss) = rows_of ss
rows_of (Stored os k ∷ ss) = rows_of ss
rows_of (Widened os k ∷ ss) = ap (λ (l : List Step). Widened os k ∷ l) (rows_of ss)
rows_of (Copied os ∷ ss) = ap (λ (l : List Step). Copied os ∷ l) (rows_of ss)
rows_of (Patched at sub order ∷ ss) = rows_of ss

-- ---- the codes that calls name

abbrev chunked_sub : List SendOp → Block
chunked_sub s = chunked unknown 0 [] (code_seen s)

-- codes that are made of others: what is the same of what is made of each
pub same_subs : {X B C : Type 0} (f g : X → B) (s : B → C) → ((x : X) → s (g x) ≡ s (f x)) → (xs ys : List X) → map f xs ≡ map g ys
    → map (λ x. s (f x)) xs ≡ map (λ x. s (f x)) ys
same_subs f g s same [] [] e = refl
same_subs f g s same [] (y ∷ ys) e = absurd cc
same_subs f g s same (x ∷ xs) [] e = absurd cc
same_subs {X} {B} {C} f g s same (x ∷ xs) (y ∷ ys) e =
    let first : f x ≡ g y = cc in
    let rest : map f xs ≡ map g ys = cc in
    ap (λ (b : C). b ∷ map (λ x. s (f x)) xs) (ap s first ∙ same y)
    ∙ ap (λ (l : List C). s (f y) ∷ l) (same_subs f g s same xs ys rest)

-- a fact of what is made of each
pub all_subs : {X B : Type 0} (f g : X → B) (P : B → Type 0) (E : List X → Type 0) → E []
    → ((x : X) (xs : List X) → P (f x) → E xs → E (x ∷ xs)) → ((x : X) → P (g x)) → (xs ys : List X) → map f xs ≡ map g ys
    → E xs
all_subs f g P E none more each [] ys e = none
all_subs f g P E none more each (x ∷ xs) [] e = absurd cc
all_subs f g P E none more each (x ∷ xs) (y ∷ ys) e =
    let first : f x ≡ g y = cc in
    let rest : map f xs ≡ map g ys = cc in
    more x xs (subst P (sym first) (each y)) (all_subs f g P E none more each xs ys rest)

-- the code at a place
pub found_sub : {X B : Type 0} (f : X → B) (g : B → B) (xs ys : List X) → map f xs ≡ map (λ x. g (f x)) ys → (k : ℕ)
    → option_map f (slice_get xs k) ≡ option_map g (option_map f (slice_get ys k))
found_sub {X} {B} f g xs ys e k =
    sym (slice_get-map f xs k) ∙ ap (λ (l : List B). slice_get l k) e ∙ slice_get-map (λ x. g (f x)) ys k ∙ twice (slice_get ys k) where
      twice : (o : Option X) → option_map (λ x. g (f x)) o ≡ option_map g (option_map f o)
      twice None = refl
      twice (Some x) = refl

sub_made : (phase : Phase) (given code : SendCode) → IsChunked phase given code → (k : ℕ)
    → sub_at code.subs k ≡ option_map (chunked unknown 0 []) (sub_at given.subs k)
sub_made phase given code is k = found_sub code_seen (chunked unknown 0 []) code.subs given.subs is.subs k

module _ (phase : Phase) (given code : SendCode) (is : IsChunked phase given code) where
  one_call : (h : Head) (n : ℕ) (A : ℕ → Type 0) (w : Val) (o : Option Block)
      → ((j : ℕ) (B : ℕ → Type 0) (u : Val) → Becomes B (called (sub_at given.subs) h n j u) (called (sub_at code.subs) h n j u))
      → Becomes A (on_some o (λ b. steps (called (sub_at given.subs) h n) h b w))
      (on_some (option_map (chunked unknown 0 []) o) (λ b. steps (called (sub_at code.subs) h n) h b w))
  one_call h n A w None f = λ ss e. absurd cc
  one_call h n A w (Some b) f =
      becomes_at (AtPhase unknown) A (steps (called (sub_at given.subs) h n) h b w)
      (steps (called (sub_at code.subs) h n) h (chunked unknown 0 [] b) w) (λ p a. anywhere p)
      (begins h (called (sub_at given.subs) h n) (called (sub_at code.subs) h n) f b w unknown)

  calls_become : (h : Head) (n k : ℕ) (A : ℕ → Type 0) (w : Val)
      → Becomes A (called (sub_at given.subs) h n k w) (called (sub_at code.subs) h n k w)
  calls_become h zero k A w = λ ss e. absurd cc
  calls_become h (suc n) k A w =
      subst (λ (o : Option Block). Becomes A (on_some (sub_at given.subs k) (λ b. steps (called (sub_at given.subs) h n) h b w))
      (on_some o (λ b. steps (called (sub_at code.subs) h n) h b w))) (sym (sub_made phase given code is k))
      (one_call h n A w (sub_at given.subs k) (λ j B u. calls_become h n j B u))

  steps_become : (h : Head) (v : Val) → Becomes (AtPhase phase) (sent_steps given h v) (sent_steps code h v)
  steps_become h v =
      subst (λ (b : Block). Becomes (AtPhase phase) (sent_steps given h v) (steps (calls_of code.subs h deepest) h b v)) (sym is.ops)
      (begins h (calls_of given.subs h deepest) (calls_of code.subs h deepest) (λ k A w. calls_become h deepest k A w)
      (code_seen given.ops) v
      phase)

  -- ---- octets and room

  sends_on : (x y : Steps) (p : ℕ) → AtPhase phase p → Becomes (AtPhase phase) x y
      → IfSome (on_some x (wrote p [])) (λ os. on_some y (wrote p []) ≡ Some os)
  sends_on None y p a f = tt
  sends_on (Some ss) y p a f = by_octets (wrote p [] ss) refl where
    by_octets : (z : Option (List ℕ)) → wrote p [] ss ≡ z → IfSome z (λ os. on_some y (wrote p []) ≡ Some os)
    by_octets None e = tt
    by_octets (Some os) e =
        let t = f ss refl in
        let start : p + length {A = ℕ} [] ≡ p = omega arith in
        ap (λ (s : Steps). on_some s (wrote p [])) t.is ∙ (t.keeps p a).octets p [] start os e

  pub sends : SendsAsAt (AtPhase phase) given code
  sends h v p a = sends_on (sent_steps given h v) (sent_steps code h v) p a (steps_become h v)

  there_on : (z w : Option (List ℕ)) → ((os : List ℕ) → z ≡ Some os → w ≡ Some os) → IsThere z → IsThere w
  there_on None w f h = absurd h
  there_on (Some os) w f h = subst IsThere (sym (f os refl)) tt

  covered_on : (x y : Steps) (p : ℕ) → AtPhase phase p → Becomes (AtPhase phase) x y → AreCovered x p → AreCovered y p
  covered_on None y p a f h = absurd h
  covered_on (Some ss) y p a f h =
      let t = f ss refl in
      let k = t.keeps p a in
      let start : p + length {A = ℕ} [] ≡ p = omega arith in
      subst (λ (s : Steps). AreCovered s p) (sym t.is)
      (there_on (wrote p [] ss) (wrote p [] t.made) (λ os e. k.octets p [] start os e) h.0, k.room 0 h.1)

  pub covered : IsCoveredAsAt (AtPhase phase) given code
  covered h v p a c = covered_on (sent_steps given h v) (sent_steps code h v) p a (steps_become h v) c

  -- ---- what does not depend on the position

  at_rest : IsPhase phase → AtPhase phase phase.r
  at_rest i = rest_at phase.m phase.r (wide_is phase.m i.multiple) i.rest

  wherever_on : (x y : Steps) (P : List Step → List Step → Type 0) → IsPhase phase → Becomes (AtPhase phase) x y
      → ((ss made : List Step) → Keeps phase.r ss made → P ss made)
      → Wherever x y P
  wherever_on None y P i f g = tt
  wherever_on (Some ss) y P i f g =
      let t = f ss refl in
      subst (λ (s : Steps). Wherever (Some ss) s P) (sym t.is) (g ss t.made (t.keeps phase.r (at_rest i)))

  pub checks : IsPhase phase → ChecksAs given code
  checks i h v =
      wherever_on (sent_steps given h v) (sent_steps code h v) (λ a b. (costs b).checks ≡ (costs a).checks) i (steps_become h v)
      (λ ss made k. sym (checks_of made) ∙ ap (λ (l : List Step). (costs l).checks) k.rest ∙ checks_of ss)

  pub rows : IsPhase phase → RowsAs given code
  rows i h v =
      wherever_on (sent_steps given h v) (sent_steps code h v) (λ a b. rows_in b ≡ rows_in a) i (steps_become h v)
      (λ ss made k. sym (rows_of made) ∙ ap rows_in k.rest ∙ rows_of ss)

  pub stores : IsPhase phase → StoresWithin given code
  stores i h v =
      wherever_on (sent_steps given h v) (sent_steps code h v) (λ a b. (costs b).stores ≤ met a) i (steps_become h v)
      (λ ss made k. k.stores)

  -- ---- operations

  same_ops : skeleton (code_seen code.ops) ≡ skeleton (code_seen given.ops)
  same_ops = ap skeleton is.ops ∙ bare (code_seen given.ops) phase 0 []

  pub keeps_others : KeepsOthers given code
  keeps_others = record {
    ops = same_ops;
    subs = same_subs code_seen chunked_sub skeleton (λ s. bare (code_seen s) unknown 0 []) code.subs given.subs is.subs;
  }

  one_entry : (n : ℕ) (v : Val) (o : Option Block) → entered_by (sub_at code.subs) n ≡ entered_by (sub_at given.subs) n
      → of_some (option_map (chunked unknown 0 []) o) (λ b. entered (entered_by (sub_at code.subs) n) b v)
      ≡ of_some o (λ b. entered (entered_by (sub_at given.subs) n) b v)
  one_entry n v None e = refl
  one_entry n v (Some b) e =
      same_calls (entered_by (sub_at code.subs) n) (chunked unknown 0 [] b) b v (bare b unknown 0 []) ∙ ap (λ x. entered x b v) e

  entries_same : (n : ℕ) → entered_by (sub_at code.subs) n ≡ entered_by (sub_at given.subs) n
  entries_same zero = refl
  entries_same (suc n) = fun_ext (λ k. fun_ext (λ v.
      ap (λ (o : Option Block). of_some o (λ b. entered (entered_by (sub_at code.subs) n) b v)) (sub_made phase given code is k)
      ∙ one_entry n v (sub_at given.subs k) (entries_same n)))

  pub calls : CallsAs given code
  calls v =
      same_calls (entered_by (sub_at code.subs) deepest) (code_seen code.ops) (code_seen given.ops) v same_ops
      ∙ ap (λ e. entered e (code_seen given.ops) v) (entries_same deepest)

  pub runs_short : IsPhase phase → RunsAreShort 7 code
  runs_short i = record {
    ops = subst (IsRunShort 7) (sym is.ops) (fresh (code_seen given.ops) phase (wide_is phase.m i.multiple));
    subs = all_subs code_seen chunked_sub (IsRunShort 7) (EachCode (IsRunShort 7)) tt (λ s ss h k. (h, k))
        (λ s. fresh (code_seen s) unknown one) code.subs given.subs is.subs;
  }

  -- ---- moves

  one_few : (h : Head) (n : ℕ) (w : Val) (o : Option Block)
      → ((j : ℕ) (u : Val) → Few (called (sub_at code.subs) h n j u) 0 (moves_by 7 (sub_at code.subs) n j u))
      → Few (on_some (option_map (chunked unknown 0 []) o) (λ b. steps (called (sub_at code.subs) h n) h b w)) 0
      (met_in.of_some (option_map (chunked unknown 0 []) o) (λ b. moves_in 7 (moves_by 7 (sub_at code.subs) n) b w))
  one_few h n w None f = λ ss e. absurd cc
  one_few h n w (Some b) f =
      moves_few (called (sub_at code.subs) h n) h (moves_by 7 (sub_at code.subs) n) f (chunked unknown 0 [] b) w 0 (fresh b unknown one)

  calls_few : (h : Head) (n k : ℕ) (w : Val) → Few (called (sub_at code.subs) h n k w) 0 (moves_by 7 (sub_at code.subs) n k w)
  calls_few h zero k w = λ ss e. absurd cc
  calls_few h (suc n) k w =
      subst (λ (o : Option Block). Few (on_some o (λ b. steps (called (sub_at code.subs) h n) h b w)) 0
      (met_in.of_some o (λ b. moves_in 7 (moves_by 7 (sub_at code.subs) n) b w))) (sym (sub_made phase given code is k))
      (one_few h n w (sub_at given.subs k) (λ j u. calls_few h n j u))

  one_less : (n : ℕ) (v : Val) (o : Option Block)
      → ((j : ℕ) (u : Val) → moves_by 7 (sub_at code.subs) n j u ≤ moves_by 7 (sub_at given.subs) n j u)
      → met_in.of_some (option_map (chunked unknown 0 []) o) (λ b. moves_in 7 (moves_by 7 (sub_at code.subs) n) b v)
      ≤ met_in.of_some o (λ b. moves_in 7 (moves_by 7 (sub_at given.subs) n) b v)
  one_less n v None f = omega arith
  one_less n v (Some b) f = in_chunked (moves_by 7 (sub_at given.subs) n) (moves_by 7 (sub_at code.subs) n) f b unknown v

  calls_less : (n k : ℕ) (v : Val) → moves_by 7 (sub_at code.subs) n k v ≤ moves_by 7 (sub_at given.subs) n k v
  calls_less zero k v = omega arith
  calls_less (suc n) k v =
      subst (λ (o : Option Block). met_in.of_some o (λ b. moves_in 7 (moves_by 7 (sub_at code.subs) n) b v)
      ≤ moves_by 7 (sub_at given.subs) (suc n) k v) (sym (sub_made phase given code is k))
      (one_less n v (sub_at given.subs k) (λ j u. calls_less n j u))

  allowed_less : (v : Val) → moves_allowed 7 code v ≤ moves_allowed 7 given v
  allowed_less v =
      subst (λ (b : Block). moves_in 7 (moves_by 7 (sub_at code.subs) deepest) b v ≤ moves_allowed 7 given v) (sym is.ops)
      (in_chunked (moves_by 7 (sub_at given.subs) deepest) (moves_by 7 (sub_at code.subs) deepest) (calls_less deepest)
      (code_seen given.ops) phase v)

  moves_on : (y : Steps) (n m : ℕ) → Few y 0 n → n ≤ m → IfSome y (λ b. (costs b).moves ≤ m)
  moves_on None n m few le = tt
  moves_on (Some b) n m few le = let most = few b refl in omega (arith, most, le)

  pub moves : IsPhase phase → MovesWithin 7 given code
  moves i h v =
      moves_on (sent_steps code h v) (moves_allowed 7 code v) (moves_allowed 7 given v)
      (moves_few (calls_of code.subs h deepest) h (moves_by 7 (sub_at code.subs) deepest) (calls_few h deepest) (code_seen code.ops) v 0
      (runs_short i).ops) (allowed_less v)
