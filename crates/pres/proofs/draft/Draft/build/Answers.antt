use Rattle.std.proofs.Common.{◌≡◌, ◌≢◌, ◌∷◌, [], ◌+◌, refl, sym, ap, ◌∙◌, length, length-append, arith, append-nil, true}
use Rattle.std.specs.List.{list_any}
use Rattle.std.specs.Vec.Iter.{into_iter_items}
use Rattle.std.proofs.lemmas.List.{nil_from_length}
use Rattle.pres.specs.declared.errors.BindErr.TheVariants as err
use Rattle.pres.specs.Faults.{is_heavy}
use Rattle.pres.specs.Drafts.{drawn}
use Rattle.pres.proofs.Drawn.{handed_on}
use Rattle.pres.proofs.Tabling.{within, refusal_is, addable, was_heavy, was_light, heavy_there, next_stage, light_on, all_light, first_stage}
use Rattle.pres.proofs.draft.Draft.build.Goals as goal

pub loop-entry-init : goal.loop-entry-init
loop-entry-init c = record {
  next = tt;
  finite = tt;
  long =
      omega (
        arith,
        c.into_iter-entry-iterator.ensures.into_iter_gives.1,
        ap length c.into_iter-entry-iterator.ensures.into_iter_gives.0,
        c.into_entries-entry-items.result.ok.0,
      );
  stage = first_stage c.args.self _ _ _ _ c.new-mint.ensures c.new-pres.ensures c.into_iter-entry-iterator.ensures.into_iter_gives.0
      c.into_entries-entry-items.ensures.nodes c.into_entries-entry-items.ensures.shapes;
  light = rw c.new-mint.ensures refl;
}

pub add-requires : goal.add-requires
add-requires c =
    let s = c.args.self in
    let is = c.into_entries-entry-items.ensures.sketch in
    let st = rw c.in-Some.ensures.steps.0 at c.loop-entry.invariant.stage in
    addable _ _ (refusal_is s _ _ c.in-Some.entry _ is st c.requires.regular c.requires.shallow c.is_ranged.ensures)

pub returns-in_err-add-clause-cause : goal.returns-in_err-add-clause-cause
returns-in_err-add-clause-cause c =
    let s = c.args.self in
    let is = c.into_entries-entry-items.ensures.sketch in
    let st = rw c.in-Some.ensures.steps.0 at c.loop-entry.invariant.stage in
    let e = c.in_err-add.field-0.0 in
    let whole = refusal_is s _ _ c.in-Some.entry _ is st c.requires.regular c.requires.shallow c.is_ranged.ensures in
    handed_on _ e (λ e. e ≢ err.NoMemory → (e ≡ err.Heavy) × (list_any is_heavy (drawn s) ≡ true)) c.from_residual.ensures.1
    (λ ne. let h = c.in_err-add.ensures.cause ne in (h.0, heavy_there s _ _ c.in-Some.entry _ is st (was_heavy _ _ whole h.1)))

pub loop-entry-preserved : goal.loop-entry-preserved
loop-entry-preserved c =
    let s = c.args.self in
    let is = c.into_entries-entry-items.ensures.sketch in
    let st = rw c.in-Some.ensures.steps.0 at c.loop-entry.invariant.stage in
    let whole = refusal_is s _ _ c.in-Some.entry _ is st c.requires.regular c.requires.shallow c.is_ranged.ensures in
    let count : length c.add.new.mint ≡ length c.loop-entry.mint + 1 = ap length c.in_ok-add.ensures.ok
    ∙ length-append c.loop-entry.mint (c.in-Some.entry.node ∷ []) in
    record {
      next = tt;
      finite = tt;
      long = omega (arith, c.loop-entry.invariant.long, c.in-Some.ensures.steps.1, ap length c.in-Some.ensures.steps.0);
      stage = next_stage s _ _ _ _ c.in-Some.entry _ is st c.in_ok-add.ensures.ok c.in_ok-push.ensures.ok;
      light = light_on (drawn s) (length c.loop-entry.mint) (length c.add.new.mint) count ((within s _ _ c.in-Some.entry _ is st).0)
          c.loop-entry.invariant.light (was_light _ _ whole c.in_ok-add.ensures.taken);
    }

none_left : (c : goal.After-drop-entry-iterator-2) → into_iter_items c.loop-entry.entry-iterator ≡ []
none_left c = nil_from_length _ (omega (arith, c.loop-entry.invariant.long, c.in-None.ensures.steps.0))

pub returns-clause-nodes : goal.returns-clause-nodes
returns-clause-nodes c = sym (append-nil c.loop-entry.mint) ∙ (rw (none_left c) at c.loop-entry.invariant.stage).nodes

pub returns-clause-shapes : goal.returns-clause-shapes
returns-clause-shapes c = sym (append-nil c.loop-entry.pres) ∙ (rw (none_left c) at c.loop-entry.invariant.stage).shapes

pub returns-clause-named : goal.returns-clause-named
returns-clause-named c = rw (returns-clause-nodes c, returns-clause-shapes c) c.into_entries-entry-items.ensures.sketch.named

pub returns-clause-light : goal.returns-clause-light
returns-clause-light c = all_light c.args.self _ _ c.into_entries-entry-items.ensures.sketch
    (rw (none_left c) at c.loop-entry.invariant.stage) c.loop-entry.invariant.light
