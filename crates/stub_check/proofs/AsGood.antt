-- A code that gets a yes appends what the kept one does, inside ensured space.
use Rattle.std.proofs.Common.{◌≡◌, inl, inr, ℕ, true, List, [], map, Option, None, Some, option_map, slice_get, sym, ap, subst, ◌∙◌}
use Rattle.std.proofs.Math.Path.{fun_ext}
use Rattle.std.proofs.lemmas.Option.{slice_get-map}
use Rattle.mint.specs.declared.node.Node.{Node}
use Rattle.mint.specs.Types.{IsTable, type_at}
use Rattle.mint.specs.Typed.{IsWellTyped}
use Rattle.mint.specs.Values.{Val}
use Rattle.wire_def.specs.declared.head.Head.{Head}
use Rattle.cast_stub.specs.declared.send.SendCode.{SendCode}
use Rattle.cast_stub.specs.Block.{Block, code_seen}
use Rattle.cast_stub.specs.Meaning.{meaning, wrote, IsCovered, AreCovered}
use Rattle.cast_stub.specs.Parts.{on_some, IsThere}
use Rattle.cast_stub.specs.Puts.{IsHead}
use Rattle.cast_stub.specs.Steps.{Calls, Steps, steps}
use Rattle.cast_stub.specs.Subs.{called, deepest, sent_steps, sub_at}
use Rattle.stub_flat.proofs.OneMeaning.{one_meaning}
use Rattle.stub_cover.proofs.Law.{covers_is_covered}
use Rattle.stub_cover.specs.Covers.{covers}
use Rattle.stub_cover.specs.Laws.{IsMeant}
use Rattle.stub_compare.specs.CompareFlats.{HaveOneFlat}
use Rattle.stub_check.specs.declared.verdicts.Verdict.TheVariants.{Yes}
use Rattle.stub_check.specs.Laws.{YesIsAsGood}
use Rattle.stub_check.specs.Verdicts.{IsAsGood, IsSame, IsVerdict, MeansTheSame}

-- ---- the same code

-- codes that are the same are called the same
subs_same : (kept code : SendCode) → IsSame kept code → sub_at code.subs ≡ sub_at kept.subs
subs_same kept code same = fun_ext (λ k. sym (slice_get-map code_seen code.subs k)
    ∙ ap (λ (bs : List Block). slice_get bs k) same.1 ∙ slice_get-map code_seen kept.subs k)

-- and have the same steps
steps_same : (kept code : SendCode) (h : Head) (v : Val) → IsSame kept code → sent_steps code h v ≡ sent_steps kept h v
steps_same kept code h v same =
    ap (λ (s : ℕ → Option Block). steps (called s h deepest) h (code_seen code.ops) v) (subs_same kept code same)
    ∙ ap (λ (b : Block). steps (called (sub_at kept.subs) h deepest) h b v) same.0

same_good : (nodes : List Node) (id : ℕ) (kept code : SendCode) → IsCovered (type_at nodes id) 0 kept → IsSame kept code
    → IsAsGood (type_at nodes id) kept code
same_good nodes id kept code covered same = record {
  means = λ h v head typed. ap (λ (s : Steps). on_some s (wrote 0 [])) (steps_same kept code h v same);
  covered = λ h v head typed. subst (λ (s : Steps). AreCovered s 0) (sym (steps_same kept code h v same)) (covered h v head typed);
}

-- ---- the same flat

-- steps that are covered write something
there : (s : Steps) → AreCovered s 0 → IsThere (on_some s (wrote 0 []))
there None c = c
there (Some ss) c = c.0

flat_means : (nodes : List Node) (id : ℕ) (kept code : SendCode) → IsTable nodes → HaveOneFlat nodes id kept code
    → MeansTheSame (type_at nodes id) kept code
flat_means nodes id kept code table (f, theirs, ours) h v head typed =
    one_meaning nodes id code kept f h v table head typed theirs ours

flat_good : (nodes : List Node) (id : ℕ) (kept code : SendCode) → IsTable nodes → IsCovered (type_at nodes id) 0 kept
    → HaveOneFlat nodes id kept code → covers nodes id code ≡ true → IsAsGood (type_at nodes id) kept code
flat_good nodes id kept code table covered one passes =
    let means = flat_means nodes id kept code table one in
    let meant : IsMeant nodes id code = λ h v head typed.
    subst IsThere (sym (means h v head typed)) (there (sent_steps kept h v) (covered h v head typed)) in
    record { means = means; covered = covers_is_covered nodes id code table meant passes }

-- ---- either

pub yes_good : YesIsAsGood
yes_good nodes id kept code table covered (inl same) = same_good nodes id kept code covered same
yes_good nodes id kept code table covered (inr flat) = flat_good nodes id kept code table covered flat.0 flat.1
