use Rattle.std.proofs.Common.{[], ap, ◌∙◌}
use Rattle.flick_texts.specs.TypeText.{mark_after, names_of, trees_of}
use Rattle.flick_texts.proofs.Unions.{union_put}
use Rattle.flick_texts.proofs.Arrays.{arrays_put}
use Rattle.flick_texts.proofs.types.+put.Goals as goal

pub put_type-returns-in_ok-put_all_elements-in-Arrays : goal.put_type-returns-in_ok-put_all_elements-in-Arrays
put_type-returns-in_ok-put_all_elements-in-Arrays t c =
    arrays_put c.put_type-in-Arrays.result (names_of (trees_of c.args.types.now)) c.args.ty.now
    c.in-Arrays.item c.in-Arrays.count c.in-Arrays.within c.deref-in-Arrays.result.now
    c.as_slice-in-Arrays.result.now c.args.out.now _ _ c.put_type-in-Arrays.new.out
    c.in-Arrays.is c.deref-in-Arrays.ensures c.as_slice-in-Arrays.ensures
    c.in_ok-put_elements-in-Arrays.ensures c.in_ok-put_all_elements-in-Arrays.ensures c.put_type-in-Arrays.ensures

pub put_type-returns-in_ok-put_default-in-Union : goal.put_type-returns-in_ok-put_default-in-Union
put_type-returns-in_ok-put_default-in-Union t c =
    union_put c.put-in-Union-3.result (names_of (trees_of c.args.types.now)) c.args.ty.now c.in-Union.tag c.in-Union.arms c.in-Union.other
    c.deref-in-Union.result.now c.as_slice-in-Union.result.now c.mark_after.result.now c.args.out.now _ _ _ _ _ c.put-in-Union-3.new.out
    c.in-Union.is c.deref-in-Union.ensures c.as_slice-in-Union.ensures
    (c.mark_after.ensures ∙ ap (mark_after []) c.as_slice-in-Union-2.ensures)
    c.in_ok-put-in-Union.ensures c.in_ok-put_type-in-Union.ensures c.in_ok-put-in-Union-2.ensures
    c.in_ok-put_arms-in-Union.ensures c.in_ok-put_default-in-Union.ensures c.put-in-Union-3.ensures
