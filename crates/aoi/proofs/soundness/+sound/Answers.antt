use Rattle.std.proofs.Common.{◌∙◌, ap, sym, None}
use Rattle.std.specs.List.{list_all}
use Rattle.std.specs.Option.{option_map}
use Rattle.aoi.specs.Shapes.{seen, shapes, arms_seen}
use Rattle.aoi.specs.Sound.{is_some_count, is_sound_type, is_sound_union, unfolded, are_sound_arms}
use Rattle.aoi.proofs.Seen.{arrays_seen, choice_seen}
use Rattle.aoi.proofs.Numbers.{arrays_are, choice_is}
use Rattle.aoi.proofs.soundness.+sound.Goals as goal

pub is_sound_type-returns-in-Arrays : goal.is_sound_type-returns-in-Arrays
is_sound_type-returns-in-Arrays t c =
    let types = shapes c.args.types.now in
    let limit = c.args.limit in
    arrays_are types limit (seen c.in-Arrays.item.value) c.in-Arrays.count c.in-Arrays.within _ _ _ _ _
    c.are_both-in-Arrays.ensures c.are_both.ensures c.is_some_count-is_count.ensures
    (c.are_some_counts-are_counts.ensures ∙ ap (list_all is_some_count) c.as_slice-in-Arrays.ensures)
    (c.is_sound_type-is_item.ensures ∙ ap (λ q. is_sound_type types limit (seen q)) c.deref-in-Arrays.ensures)
    ∙ sym (ap (λ q.
    is_sound_type types limit (seen q)) c.in-Arrays.is
    ∙ ap (is_sound_type types limit) (arrays_seen c.in-Arrays.item c.in-Arrays.count c.in-Arrays.within))

pub is_sound_type-returns-in-Union : goal.is_sound_type-returns-in-Union
is_sound_type-returns-in-Union t c =
    let types = shapes c.args.types.now in
    let limit = c.args.limit in
    let other = option_map (λ b. seen b.value) c.in-Union.other in
    let below = seen c.unfolded.result.now in
    choice_is types limit (seen c.in-Union.tag.value) below c.in-Union.arms other _ _ _ _ _ _ c.are_all.ensures c.are_both-in-Union.ensures
    (c.is_sound_type-is_tag.ensures ∙ ap (λ q. is_sound_type types limit (seen q)) c.deref-in-Union.ensures)
    (c.is_sound_union-are_labels.ensures ∙ ap (λ q. is_sound_union below (arms_seen q other)) c.as_slice-in-Union.ensures)
    (c.unfolded.ensures ∙ ap (λ q. unfolded limit types limit (seen q)) c.deref-in-Union-2.ensures)
    (c.are_sound_arms-are_arms.ensures ∙ ap (λ q. are_sound_arms types limit (arms_seen q None)) c.as_slice-in-Union-2.ensures)
    c.is_sound_other-is_other.ensures
    ∙ sym (ap (λ q.
    is_sound_type types limit (seen q)) c.in-Union.is
    ∙ ap (is_sound_type types limit) (choice_seen c.in-Union.tag c.in-Union.arms c.in-Union.other))
