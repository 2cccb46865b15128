use Rattle.std.proofs.Common.{◌≡◌, ℕ, [], ◌∷◌, ◌++◌, ◌-◌, refl, ap, ◌∙◌, length, arith, rules, None}
use Rattle.std.specs.Option.{option_map}
use Rattle.aoi.specs.declared.types.Ty.{the_lemmas}
use Rattle.aoi.specs.Shapes as aoi
use Rattle.aoi.proofs.Seen.{choice_seen}
use Rattle.pres.specs.Faces.{arms_at, choice}
use Rattle.pres.specs.Made.{made_after}
use Rattle.pres.specs.Offers.{face_of, sign_in}
use Rattle.pres.specs.Drafts.{drawn, known}
use Rattle.pres.proofs.Drawn.{overflows_more, grows_twice, field_left, field_nodes, field_ids, members_by, names_each, arm_drawable, other_drawable, arms_drawable_alone, arm_nodes, arm_room, arm_on, after_split, choice_arms, choice_nodes, made_split, node_after, drawn_as, after_overflows, next_overflows, last_overflows, on_ok, if_ok, if_err, handed_on, cause_last}
use Rattle.pres.proofs.Arrayed.{arrayed_drawable, element_placed, none_yet, row_on, row_last, room_for_row, room_for_element}
use Rattle.pres.proofs.draft.Draft.+draw.Goals as goal
use Rattle.std.proofs.lemmas.Bool.{and_parts}

-- ---- fields

pub draw_fields-loop-field-preserved : goal.draw_fields-loop-field-preserved
draw_fields-loop-field-preserved t c =
    let fs = known c.args.self.now in
    let fields = c.args.fields.now in
    let i = c.loop-field.field-index in
    let f = c.field-item.result in
    let inv = c.loop-field.invariant in
    let g = c.in_ok-id.ensures.grows in
    let ids = field_ids fs fields i f c.loop-field.self c.draw.new.self _ c.loop-field.ids c.push.new.self c.in_ok-id.id _
    c.loop-field-test.true c.field-item.is g inv.below (rw inv.same at c.in_ok-id.ensures.id) c.in_ok-push.ensures.ok inv.ids in
    record {
      same = g.types ∙ inv.same;
      nodes = field_nodes fs fields i f _ _ _ c.loop-field-test.true c.field-item.is inv.nodes (rw inv.same at g.nodes);
      below = ids.0;
      ids = ids.1;
      left = (field_left _ fields i f c.loop-field-test.true c.field-item.is inv.left).1;
    }

pub draw_group-draw_fields-requires : goal.draw_group-draw_fields-requires
draw_group-draw_fields-requires t c = (search (rules, the_lemmas), (and_parts _ _ c.requires.drawable).1)

pub draw_group-push-requires-clause-named : goal.draw_group-push-requires-clause-named
draw_group-push-requires-clause-named t c = record {
  each = ap length c.requires.names ∙ names_each _ _ _ _ c.in_ok-ids.ensures.ids.are;
  distinct = rw c.requires.names ((and_parts _ _ c.requires.drawable).0);
}

pub draw_group-returns-clause-grows : goal.draw_group-returns-clause-grows
draw_group-returns-clause-grows t c =
    let fs = known c.args.self.now in
    let same = members_by c.draw_fields.new.self fs _ _ (aoi.members c.args.fields.now) c.in_ok-ids.ensures.ids c.requires.names in
    on_ok _ _ _ (node_after _ _ _ _ _ _ same c.in_ok-ids.ensures.grows) c.push.ensures.grows

pub draw_group-returns-clause-id : goal.draw_group-returns-clause-id
draw_group-returns-clause-id t c =
    let fs = known c.args.self.now in
    let same = members_by c.draw_fields.new.self fs _ _ (aoi.members c.args.fields.now) c.in_ok-ids.ensures.ids c.requires.names in
    if_ok _ _ _ (λ id. drawn_as _ id _ _ same) c.push.ensures.id

-- ---- arms

pub draw_arms-draw-requires : goal.draw_arms-draw-requires
draw_arms-draw-requires t c = (
  search (rules, the_lemmas),
  rw c.loop-i.invariant.same
      (arm_drawable (length (known c.args.self.now)) c.args.arms.now None (length c.args.arms.now - 1 - c.loop-i.i) _ c.requires
      (omega (arith, c.loop-i-test.true)) c.index-arms-arms.is),
)

pub draw_arms-returns-in_err-id-clause-cause : goal.draw_arms-returns-in_err-id-clause-cause
draw_arms-returns-in_err-id-clause-cause t c =
    let fs = known c.args.self.now in
    let inv = c.loop-i.invariant in
    let e = c.in_err-id.field-0.0 in
    let room = arm_room fs None c.args.arms.now c.loop-i.i _ _ _ c.loop-i-test.true c.index-arms-arms.is inv.nodes in
    handed_on _ e _ c.from_residual.ensures.1 (overflows_more _ _ e (rw inv.same at c.in_err-id.ensures.cause) room)

pub draw_arms-loop-i-preserved : goal.draw_arms-loop-i-preserved
draw_arms-loop-i-preserved t c =
    let fs = known c.args.self.now in
    let arms = c.args.arms.now in
    let inv = c.loop-i.invariant in
    let g = c.in_ok-id.ensures.grows in
    record {
      same = g.types ∙ inv.same;
      nodes = arm_nodes fs None arms c.loop-i.i _ _ _ _ c.loop-i-test.true c.index-arms-arms.is inv.nodes (rw inv.same at g.nodes);
      arms = arm_on fs None arms c.loop-i.i _ _ _ _ _ _ _ _ c.loop-i-test.true c.index-arms-arms.is g
          (rw inv.same at c.in_ok-id.ensures.id) c.in_ok-put_arm.ensures inv.arms;
    }

-- ---- arrays of arrays

pub draw_arrays-draw_element-requires : goal.draw_arrays-draw_element-requires
draw_arrays-draw_element-requires t c = (search (rules, the_lemmas), arrayed_drawable _ _ c.args.within.now c.requires)

pub draw_arrays-loop-i-init : goal.draw_arrays-loop-i-init
draw_arrays-loop-i-init t c =
    let none = none_yet (aoi.seen c.args.item.now) c.args.within.now in record {
      grows = rw none c.in_ok-element.ensures.grows;
      element = rw none c.in_ok-element.ensures.element;
    }

pub draw_arrays-returns-in_err-element-clause-cause : goal.draw_arrays-returns-in_err-element-clause-cause
draw_arrays-returns-in_err-element-clause-cause t c =
    let e = c.in_err-element.field-0.0 in
    handed_on _ e _ c.from_residual.ensures.1
    (overflows_more _ _ e c.in_err-element.ensures.cause
    (room_for_element (known c.args.self.now) (aoi.seen c.args.item.now) c.args.within.now c.args.count (drawn c.args.self.now)))

pub draw_arrays-draw_row-requires : goal.draw_arrays-draw_row-requires
draw_arrays-draw_row-requires t c = element_placed _ _ _ c.loop-i.invariant.element

pub draw_arrays-loop-i-preserved : goal.draw_arrays-loop-i-preserved
draw_arrays-loop-i-preserved t c =
    let inv = c.loop-i.invariant in
    let on = row_on (known c.args.self.now) (aoi.seen c.args.item.now) c.args.within.now c.loop-i.i _ _ _ _ _ _ _
    c.loop-i-test.true refl inv.grows inv.element c.in_ok-id.ensures.grows c.in_ok-id.ensures.id in record {
      grows = on.0;
      element = on.1;
    }

pub draw_arrays-returns-in_err-id-clause-cause : goal.draw_arrays-returns-in_err-id-clause-cause
draw_arrays-returns-in_err-id-clause-cause t c =
    let e = c.in_err-id.field-0.0 in
    handed_on _ e _ c.from_residual-in_err-id.ensures.1
    (overflows_more _ _ e c.in_err-id.ensures.cause
    (room_for_row (known c.args.self.now) (aoi.seen c.args.item.now) c.args.within.now c.loop-i.i c.args.count _ _ _
    c.loop-i.invariant.grows))

pub draw_arrays-returns-clause-grows : goal.draw_arrays-returns-clause-grows
draw_arrays-returns-clause-grows t c =
    let inv = c.loop-i.invariant in
    let last = row_last (known c.args.self.now) (aoi.seen c.args.item.now) c.args.within.now c.loop-i.i c.args.count _ _ _
    c.loop-i-test.false inv.grows inv.element in
    on_ok _ _ _ (node_after _ _ _ _ _ _ last.1 last.0) c.draw_row-2.ensures.grows

pub draw_arrays-returns-clause-id : goal.draw_arrays-returns-clause-id
draw_arrays-returns-clause-id t c =
    let inv = c.loop-i.invariant in
    let last = row_last (known c.args.self.now) (aoi.seen c.args.item.now) c.args.within.now c.loop-i.i c.args.count _ _ _
    c.loop-i-test.false inv.grows inv.element in
    if_ok _ _ _ (λ id. drawn_as _ id _ _ last.1) c.draw_row-2.ensures.id

pub draw_arrays-returns-clause-cause : goal.draw_arrays-returns-clause-cause
draw_arrays-returns-clause-cause t c =
    let inv = c.loop-i.invariant in
    let last = row_last (known c.args.self.now) (aoi.seen c.args.item.now) c.args.within.now c.loop-i.i c.args.count _ _ _
    c.loop-i-test.false inv.grows inv.element in
    cause_last c.draw_row-2.result (drawn c.args.self.now) _ _ _ _ last.0.nodes c.draw_row-2.ensures.cause

-- ---- a choice

pub draw-draw_other-requires : goal.draw-draw_other-requires
draw-draw_other-requires t c =
    let drawable = rw (ap aoi.seen c.in-Union.is ∙ choice_seen c.in-Union.tag c.in-Union.arms c.in-Union.other) at c.requires in
    (search (rules, the_lemmas), other_drawable _ c.in-Union.arms _ ((and_parts _ _ drawable).1))

pub draw-draw_arms-requires : goal.draw-draw_arms-requires
draw-draw_arms-requires t c =
    let drawable = rw (ap aoi.seen c.in-Union.is ∙ choice_seen c.in-Union.tag c.in-Union.arms c.in-Union.other) at c.requires in (
      search (rules, the_lemmas),
      rw (c.in_ok-other-in-Union.ensures.grows.types, c.as_slice-in-Union.ensures)
          (arms_drawable_alone _ _ c.in-Union.arms ((and_parts _ _ drawable).1)),
    )

pub draw-draw_choice-requires-clause-tag : goal.draw-draw_choice-requires-clause-tag
draw-draw_choice-requires-clause-tag t c =
    let drawable = rw (ap aoi.seen c.in-Union.is ∙ choice_seen c.in-Union.tag c.in-Union.arms c.in-Union.other) at c.requires in
    rw (c.in_ok-arms-in-Union.ensures.grows.types, c.in_ok-other-in-Union.ensures.grows.types, c.deref-in-Union.ensures)
    ((and_parts _ _ drawable).0)

pub draw-returns-in_err-other-in-Union-clause-cause : goal.draw-returns-in_err-other-in-Union-clause-cause
draw-returns-in_err-other-in-Union-clause-cause t c =
    let fs = known c.args.self.now in
    let o = option_map (λ b. aoi.seen b.value) c.in-Union.other in
    let e = c.in_err-other-in-Union.field-0.0 in
    let arms = c.in-Union.arms in
    let rest = made_after fs (aoi.arms_seen arms None) ++ face_of fs (aoi.choice (aoi.seen c.in-Union.tag.value) (aoi.arms_seen arms o))
    ∷ [] in
    let seen_is = ap aoi.seen c.in-Union.is ∙ choice_seen c.in-Union.tag arms c.in-Union.other in
    handed_on _ e _ c.from_residual.ensures.1
    (rw seen_is (after_overflows _ _ rest _ e (made_split fs o arms _) c.in_err-other-in-Union.ensures.cause))

pub draw-returns-in_err-arms-in-Union-clause-cause : goal.draw-returns-in_err-arms-in-Union-clause-cause
draw-returns-in_err-arms-in-Union-clause-cause t c =
    let fs = known c.args.self.now in
    let o = option_map (λ b. aoi.seen b.value) c.in-Union.other in
    let e = c.in_err-arms-in-Union.field-0.0 in
    let arms = c.in-Union.arms in
    let last = face_of fs (aoi.choice (aoi.seen c.in-Union.tag.value) (aoi.arms_seen arms o)) ∷ [] in
    let seen_is = ap aoi.seen c.in-Union.is ∙ choice_seen c.in-Union.tag arms c.in-Union.other in
    let g = c.in_ok-other-in-Union.ensures.grows in
    handed_on _ e _ c.from_residual-in_err-arms-in-Union.ensures.1
    (rw seen_is (next_overflows _ _ _ _ last _ e (made_split fs o arms _) g.nodes
    (rw (g.types, c.as_slice-in-Union.ensures) at c.in_err-arms-in-Union.ensures.cause)))

choice_is : (t : ℕ) (c : goal.draw-After-draw_choice t)
    → choice (sign_in (face_of (known c.draw_arms.new.self) (aoi.seen c.deref-in-Union.result.now)))
    (arms_at (drawn c.draw_arms.new.self) c.in_ok-arms-in-Union.arms c.in_ok-other-in-Union.other)
    ≡ face_of (known c.args.self.now) (aoi.choice (aoi.seen c.in-Union.tag.value)
    (aoi.arms_seen c.in-Union.arms (option_map (λ b. aoi.seen b.value) c.in-Union.other)))
choice_is t c =
    let fs = known c.args.self.now in
    let o = option_map (λ b. aoi.seen b.value) c.in-Union.other in
    let g = c.in_ok-other-in-Union.ensures.grows in
    let h = rw (g.types, c.as_slice-in-Union.ensures) at c.in_ok-arms-in-Union.ensures.grows in
    let listed = rw (g.types, c.as_slice-in-Union.ensures) at c.in_ok-arms-in-Union.ensures.arms in
    let whole = choice_arms fs o c.in-Union.arms _ _ _ _ _ h c.in_ok-other-in-Union.ensures.other listed in
    rw (whole.are, h.types, g.types, c.deref-in-Union.ensures) refl

pub draw-returns-in_ok-arms-in-Union-clause-grows : goal.draw-returns-in_ok-arms-in-Union-clause-grows
draw-returns-in_ok-arms-in-Union-clause-grows t c =
    let fs = known c.args.self.now in
    let o = option_map (λ b. aoi.seen b.value) c.in-Union.other in
    let g = c.in_ok-other-in-Union.ensures.grows in
    let h = rw (g.types, c.as_slice-in-Union.ensures) at c.in_ok-arms-in-Union.ensures.grows in
    let seen_is = ap aoi.seen c.in-Union.is ∙ choice_seen c.in-Union.tag c.in-Union.arms c.in-Union.other in
    rw seen_is (on_ok _ _ _ (choice_nodes _ _ _ _ _ _ _ _ _ (after_split fs o c.in-Union.arms) (choice_is t c) g h)
    c.draw_choice.ensures.grows)

pub draw-returns-in_ok-arms-in-Union-clause-id : goal.draw-returns-in_ok-arms-in-Union-clause-id
draw-returns-in_ok-arms-in-Union-clause-id t c =
    let seen_is = ap aoi.seen c.in-Union.is ∙ choice_seen c.in-Union.tag c.in-Union.arms c.in-Union.other in
    rw seen_is (if_ok _ _ _ (λ id. drawn_as _ id _ _ (choice_is t c)) c.draw_choice.ensures.id)

pub draw-returns-in_ok-arms-in-Union-clause-cause : goal.draw-returns-in_ok-arms-in-Union-clause-cause
draw-returns-in_ok-arms-in-Union-clause-cause t c =
    let fs = known c.args.self.now in
    let o = option_map (λ b. aoi.seen b.value) c.in-Union.other in
    let g = c.in_ok-other-in-Union.ensures.grows in
    let h = rw (g.types, c.as_slice-in-Union.ensures) at c.in_ok-arms-in-Union.ensures.grows in
    let seen_is = ap aoi.seen c.in-Union.is ∙ choice_seen c.in-Union.tag c.in-Union.arms c.in-Union.other in
    let two = grows_twice _ _ _ _ _ g h in
    let all =
    ap (λ z.
    z ++ face_of fs (aoi.choice (aoi.seen c.in-Union.tag.value) (aoi.arms_seen c.in-Union.arms o)) ∷ [])
    (after_split fs o c.in-Union.arms) in
    rw seen_is (if_err _ _ _ (λ e h. last_overflows _ _ _ _ _ _ e all two.nodes h) c.draw_choice.ensures.cause)
