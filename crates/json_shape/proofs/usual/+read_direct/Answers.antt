use Rattle.std.proofs.Common.{◌≡◌, ◌<◌, ◌∙◌, ◌∷◌, [], Some, length, length-append, arith, rules, SFits, sym, refl}
use Rattle.std.specs.Int.{w128}
use Rattle.std.proofs.lemmas.Int.{to_z-of_z}
use Rattle.json.specs.Json.{after_end_array}
use Rattle.json.proofs.Grammar.{closed_array}
use Rattle.mint.specs.declared.value.Value.{the_lemmas}
use Rattle.mint.specs.Values.{seen}
use Rattle.mint.proofs.Arms.{arm_below}
use Rattle.pres.specs.Faces.{faces, face_at}
use Rattle.json_shape.specs.Reading.{value_of}
use Rattle.json_shape.proofs.UsualReading.{each_closed, item_more, list_taken, member_more, members_closed, object_read, part_more, parts_closed, parts_taken, shorter}
use Rattle.json_shape.proofs.UsualTexts.{same_first}
use Rattle.json_shape.proofs.UsualUnions.{arm_absent, arm_there, choice_taken, maybe_absent, maybe_present}
use Rattle.json_shape.proofs.usual.+read_direct.Goals as goal

pub named-returns : goal.named-returns
named-returns t c = object_read _ _ _ _ _ _ (omega arith) c.in_ok-begin_members.ensures c.in_ok-read.ensures

pub unnamed-returns : goal.unnamed-returns
unnamed-returns t c = parts_taken _ _ _ _ _ _ (omega arith) c.in_ok-begin_items.ensures c.in_ok-read.ensures

pub items-returns : goal.items-returns
items-returns t c = list_taken _ _ _ _ _ _ _ (omega arith) c.in_ok-begin_items.ensures c.in_ok-read.ensures

pub fields-loop-i-preserved : goal.fields-loop-i-preserved
fields-loop-i-preserved t c =
    let l = c.loop-i in
    let there : l.i < length c.args.ids.now = rw c.as_slice-field-items.ensures at c.loop-i-test.true in
    let read = rw c.as_slice-field-items.ensures at c.in_ok-value.ensures in
    let named = rw c.text.ensures at c.in_ok-after_key.ensures in
    rw c.in_ok-push.ensures.ok (record {
      many = omega (arith, l.invariant.many, length-append l.values (c.in_ok-value.value ∷ []));
      most = omega (arith, there);
      taken =
          member_more c.args.depth (faces c.args.bound.now.nodes c.args.bound.now.shapes) c.args.names.now c.args.ids.now l.i _ _ _ _
          l.values c.in_ok-value.value l.invariant.taken l.invariant.many named read;
    })

pub fields-returns : goal.fields-returns
fields-returns t c =
    let l = c.loop-i in
    let past = rw c.as_slice-field-items.ensures at c.loop-i-test.false in
    let all : length l.values ≡ length c.args.ids.now = omega (arith, past, l.invariant.many, l.invariant.most) in
    members_closed c.args.depth (faces c.args.bound.now.nodes c.args.bound.now.shapes) c.args.names.now c.args.ids.now _ _ _ l.values
    c.requires.named.each all c.requires.named.distinct l.invariant.taken c.in_ok-end_members.ensures

pub parts-loop-i-preserved : goal.parts-loop-i-preserved
parts-loop-i-preserved t c =
    let l = c.loop-i in
    let there : l._i < length c.args.ids.now = rw c.as_slice-field-items.ensures at c.loop-i-test.true in
    let read = rw c.as_slice-field-items.ensures at c.in_ok-value.ensures in
    rw c.in_ok-push.ensures.ok (record {
      many = omega (arith, l.invariant.many, length-append l.values (c.in_ok-value.value ∷ []));
      most = omega (arith, there);
      taken =
          part_more c.args.depth (faces c.args.bound.now.nodes c.args.bound.now.shapes) c.args.ids.now l._i _ _ _ l.values
          c.in_ok-value.value l.invariant.taken l.invariant.many read;
    })

pub parts-returns : goal.parts-returns
parts-returns t c =
    let l = c.loop-i in
    let past = rw c.as_slice-field-items.ensures at c.loop-i-test.false in
    let all : length l.values ≡ length c.args.ids.now = omega (arith, past, l.invariant.many, l.invariant.most) in
    parts_closed c.args.depth (faces c.args.bound.now.nodes c.args.bound.now.shapes) c.args.ids.now _ _ _ l.values l.invariant.taken all
    c.in_ok-end_items.ensures

pub each-loop-alloc-preserved : goal.each-loop-alloc-preserved
each-loop-alloc-preserved t c =
    let l = c.loop-alloc in
    let going : c.take_end_array.new.self ≡ l.reader = grind arith in
    rw c.in_ok-push.ensures.ok
    (item_more c.args.depth (value_of (face_at c.args.bound.now.nodes c.args.bound.now.shapes c.args.item)) seen _ _ _ l.values
    c.in_ok-value.value l.invariant (rw going at c.in_ok-value.ensures))

pub each-returns : goal.each-returns
each-returns t c =
    let l = c.loop-alloc in
    let ended : after_end_array l.reader ≡ Some c.take_end_array.new.self = grind arith in
    each_closed c.args.depth (face_at c.args.bound.now.nodes c.args.bound.now.shapes c.args.item) _ _ _ l.values l.invariant ended

pub each-loop-alloc-smaller : goal.each-loop-alloc-smaller
each-loop-alloc-smaller t c =
    let going : c.take_end_array.new.self ≡ c.loop-alloc.reader = grind arith in
    rw (← going) (shorter _ _ _ _ _ c.in_ok-value.ensures)

pub arm-void-requires : goal.arm-void-requires
arm-void-requires t c =
    let below = arm_below c.args.arms.now c.args.other c.args.n.now c.args.id c.in-Some.item (sym c.in-Some.ensures) c.requires.below
    c.requires.other in
    omega (arith, below, c.requires.id)

pub arm-returns-then-is_end : goal.arm-returns-then-is_end
arm-returns-then-is_end t c =
    arm_absent c.args.depth (faces c.args.bound.now.nodes c.args.bound.now.shapes) c.args.arms.now c.args.other c.args.n.now c.in-Some.item
    _ _ _ (sym c.in-Some.ensures) (c.in_ok-key.ensures ∙ same_first _ _ _ (c.if-is_end.ensures refl)) c.in_ok-none.ensures

pub arm-read_direct-requires : goal.arm-read_direct-requires
arm-read_direct-requires t c =
    let below = arm_below c.args.arms.now c.args.other c.args.n.now c.args.id c.in-Some.item (sym c.in-Some.ensures) c.requires.below
    c.requires.other in
    (omega (arith, below), omega (arith, below, c.requires.id))

pub arm-returns : goal.arm-returns
arm-returns t c =
    arm_there c.args.depth (faces c.args.bound.now.nodes c.args.bound.now.shapes) c.args.arms.now c.args.other c.args.n.now c.in-Some.item
    _ _ _ _ _ (sym c.in-Some.ensures) (c.in_ok-key.ensures ∙ same_first _ _ _ (c.if-not-is_key.ensures refl)) c.in_ok-value.ensures
    c.in_ok-end_members.ensures

pub choice-returns : goal.choice-returns
choice-returns t c =
    let fits : SFits w128 c.in_ok-n.n = search rules in
    let same = to_z-of_z w128 c.in_ok-n.n fits in
    choice_taken _ _ _ _ _ _ _ _ _ _ _ (omega arith) c.in_ok-begin_members.ensures c.in_ok-after_key.ensures c.in_ok-n.ensures
    (rw same at c.in_ok-inner.ensures) (rw same at c.in_ok-value.ensures)

pub maybe-returns-then-take_end_array : goal.maybe-returns-then-take_end_array
maybe-returns-then-take_end_array t c =
    let ended : after_end_array c.begin_items.new.reader ≡ Some c.take_end_array.new.self = grind arith in
    maybe_absent _ _ _ _ _ _ (omega arith) c.in_ok-begin_items.ensures (closed_array _ _ ended) (search (rules, the_lemmas))

pub maybe-returns : goal.maybe-returns
maybe-returns t c =
    let going : c.take_end_array.new.self ≡ c.begin_items.new.reader = grind arith in
    maybe_present _ _ _ _ _ _ _ _ (omega arith) c.in_ok-begin_items.ensures (rw going at c.in_ok-inner.ensures) c.in_ok-end_items.ensures
    c.in_ok-value.ensures
