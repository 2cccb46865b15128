-- What passes is covered: calls by their depth, each from no room at every residue.
use Rattle.std.proofs.Common.{◌≡◌, inl, inr, ℕ, zero, suc, true, List, [], map, Option, None, Some, is_some, slice_get, refl, sym, ◌∙◌, subst, arith}
use Rattle.std.proofs.lemmas.Option.{slice_get-map, slice_get_past}
use Rattle.mint.specs.declared.node.Node.{Node}
use Rattle.mint.specs.Types.{IsTable}
use Rattle.mint.specs.Values.{Val}
use Rattle.wire_def.specs.declared.head.Head.{Head}
use Rattle.cast_stub.specs.declared.send.SendCode.{SendCode}
use Rattle.cast_stub.specs.Parts.{on_some, IsThere}
use Rattle.cast_stub.specs.Block.{Block, code_seen}
use Rattle.cast_stub.specs.Steps.{Steps, steps}
use Rattle.cast_stub.specs.Subs.{called, deepest, sub_at, sent_steps}
use Rattle.cast_stub.specs.Meaning.{wrote, meaning, AreCovered}
use Rattle.stub_flat.specs.Places.{Spot}
use Rattle.stub_flat.specs.Residues.{every}
use Rattle.stub_flat.specs.Leaves.{leaves}
use Rattle.stub_flat.specs.Flat.{Spots, calls_of_known, spots}
use Rattle.stub_flat.proofs.Found.{Agrees, AllAgree, spots_are}
use Rattle.stub_flat.proofs.PartsTyped.{IsAt}
use Rattle.stub_cover.specs.Rooms.{on, only_room}
use Rattle.stub_cover.specs.Covers.{run, list_runs, covers_at}
use Rattle.stub_cover.specs.Laws.{CoversIsCovered}
use Rattle.stub_cover.proofs.Leading.{room_of, Anywhere, Reaches, reaches_weaker, reaches_on_some}
use Rattle.stub_cover.proofs.Rooms.{some_same, on_holds, only_holds}
use Rattle.stub_cover.proofs.Listed.{calls_noted, one_passes}
use Rattle.stub_cover.proofs.Looping.{After, there}
use Rattle.stub_cover.proofs.Covering.{covered}
use Rattle.std.proofs.lemmas.Bool.{and_parts}

module _ (N : List Node) (table : IsTable N) (h : Head) (subs : ℕ → Option Block) (bs : List Block) (ts : Spots)
    (listed : (k : ℕ) → subs k ≡ slice_get bs k) (inner : AllAgree ts (calls_of_known N bs ts)) (runs : list_runs N bs ts ≡ true) where
  -- a call has its room, from anywhere
  pub called_leads : (n k : ℕ) (t : Spot) (w : Val) → Agrees ts (k, t) → IsAt N t w → (p a : ℕ)
      → Reaches Anywhere (called subs h n k w) p a
  called_leads zero k t w agrees typed p a = λ ss e. absurd cc
  called_leads (suc n) k t w agrees typed p a =
      reaches_on_some Anywhere (subs k) (λ b. steps (called subs h n) h b w) p a (λ b is.
      by b (sym (listed k) ∙ is) agrees (λ j s x known o q c. called_leads n j s x known o q c))
    where
      by : (b : Block) → slice_get bs k ≡ Some b → Agrees ts (k, t)
          → ((j : ℕ) (s : Spot) (x : Val) → Agrees ts (j, s) → IsAt N s x → (q c : ℕ) → Reaches Anywhere (called subs h n j x) q c)
          → Reaches Anywhere (steps (called subs h n) h b w) p a
      by b here (inl le) go =
          let passes = one_passes N bs ts k b runs here in
          let none : None ≡ Some passes.spot = sym (slice_get_past ts k le) ∙ passes.there in
          absurd cc
      by b here (inr g) go =
          let passes = one_passes N bs ts k b runs here in
          let same : passes.spot ≡ Some g.0 = some_same passes.spot (Some g.0) (sym passes.there ∙ g.1.1) in
          let passed : is_some (run N (Some g.0) b None (on every 0)) ≡ true =
          subst (λ (s : Spot). is_some (run N s b None (on every 0)) ≡ true) same passes.runs in
          let r = there (run N (Some g.0) b None (on every 0)) passed in
          reaches_weaker (After r.0 (leaves N (Some g.0) b) p) Anywhere (steps (called subs h n) h b w) p a (λ q c z. tt)
          (covered N table (called subs h n) h (λ c. Agrees ts c) go b (Some g.0) None (on every 0) r.0 w r.1
          (calls_noted (λ c. Agrees ts c) N bs ts k g.0 b inner here g.1.1) (subst (λ (s : Spot). IsAt N s w) g.1.0 typed) p a
          (on_holds every p a refl))

made : (o : Steps) (Q : ℕ → ℕ → Type 0) → IsThere (on_some o (wrote 0 [])) → Reaches Q o 0 0 → AreCovered o 0
made None Q is r = absurd is
made (Some ss) Q is r = (is, room_of Q 0 0 ss (r ss refl))

-- with the nodes that calls lead to
at_spots : (N : List Node) (id : ℕ) (code : SendCode) (h : Head) (v : Val) (o : Option Spots) → IsTable N
    → spots N (Some id) (code_seen code.ops) (map code_seen code.subs) ≡ o → covers_at N id code o ≡ true
    → IsAt N (Some id) v → IsThere (meaning code h v 0) → AreCovered (sent_steps code h v) 0
at_spots N id code h v None table e passed typed meant = absurd cc
at_spots N id code h v (Some ts) table e passed typed meant =
    let ops : Block = code_seen code.ops in
    let bs : List Block = map code_seen code.subs in
    let t = and_parts (is_some (run N (Some id) ops None (only_room 0 0))) (list_runs N bs ts) passed in
    let r = there (run N (Some id) ops None (only_room 0 0)) t.0 in
    let found = spots_are N (Some id) ops bs ts e in
    let listed : (k : ℕ) → sub_at code.subs k ≡ slice_get bs k = λ k. sym (slice_get-map code_seen code.subs k) in
    let inner = called_leads N table h (sub_at code.subs) bs ts listed found.subs t.1 deepest in
    made (sent_steps code h v) (After r.0 (leaves N (Some id) ops) 0) meant
    (covered N table (called (sub_at code.subs) h deepest) h (λ c. Agrees ts c) inner ops (Some id) None (only_room 0 0) r.0 v r.1
    found.main typed 0 0 (only_holds 0 0 0 0 0 refl (omega arith)))

pub covers_is_covered : CoversIsCovered
covers_is_covered N id code table meant passed h v head typed =
    at_spots N id code h v (spots N (Some id) (code_seen code.ops) (map code_seen code.subs)) table refl passed typed.is_of
    (meant h v head typed)
