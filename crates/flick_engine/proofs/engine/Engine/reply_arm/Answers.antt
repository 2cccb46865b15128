use Rattle.std.proofs.Common.{◌≡◌, ◌∙◌, sym, ap, rules, false, FitsSigned, pos}
use Rattle.std.specs.Int.{w128}
use Rattle.std.proofs.lemmas.Int.{to_z-of_z}
use Rattle.mint.specs.declared.kind.Kind.TheVariants as kind
use Rattle.mint.specs.Kinds.{in_range}
use Rattle.mint.specs.Values.{seen}
use Rattle.flick_engine.specs.Replies.{reply_type}
use Rattle.flick_engine.proofs.Arming.{no_arm, no_word, put_arm}
use Rattle.flick_engine.proofs.engine.Engine.reply_arm.Goals as goal

pub unreachable-requires : goal.unreachable-requires
unreachable-requires c =
    no_arm (reply_type c.args.self.now.binding c.args.op) (seen c.args.value.now) c.replies_tell_arms.ensures.choice c.requires.typed
    c.in_default.ensures

pub unreachable-requires-in_default-arm_number : goal.unreachable-requires-in_default-arm_number
unreachable-requires-in_default-arm_number c =
    let fits : FitsSigned w128 c.in-Some.n = search rules in
    let far : in_range kind.U32 c.in-Some.n ≡ false = ap (in_range kind.U32) (sym (to_z-of_z w128 _ fits))
    ∙ c.in_default-arm_number.ensures.none in
    no_word (reply_type c.args.self.now.binding c.args.op) (seen c.args.value.now) c.in-Some.n (seen c.in-Some.inner.now)
    c.replies_tell_arms.ensures.choice c.requires.typed c.in-Some.ensures far

pub returns-clause-is : goal.returns-clause-is
returns-clause-is c =
    let fits : FitsSigned w128 c.in-Some.n = search rules in
    let is : c.in-Some.n ≡ pos c.in-Some-arm_number.arm = sym (to_z-of_z w128 _ fits) ∙ c.in-Some-arm_number.ensures.some in
    (put_arm (reply_type c.args.self.now.binding c.args.op) (seen c.args.value.now) c.in-Some.n c.in-Some-arm_number.arm
    (seen c.in-Some.inner.now) c.replies_tell_arms.ensures.choice c.requires.typed c.in-Some.ensures is).is

pub returns-clause-there : goal.returns-clause-there
returns-clause-there c =
    let fits : FitsSigned w128 c.in-Some.n = search rules in
    let is : c.in-Some.n ≡ pos c.in-Some-arm_number.arm = sym (to_z-of_z w128 _ fits) ∙ c.in-Some-arm_number.ensures.some in
    (put_arm (reply_type c.args.self.now.binding c.args.op) (seen c.args.value.now) c.in-Some.n c.in-Some-arm_number.arm
    (seen c.in-Some.inner.now) c.replies_tell_arms.ensures.choice c.requires.typed c.in-Some.ensures is).there

pub returns-clause-typed : goal.returns-clause-typed
returns-clause-typed c =
    let fits : FitsSigned w128 c.in-Some.n = search rules in
    let is : c.in-Some.n ≡ pos c.in-Some-arm_number.arm = sym (to_z-of_z w128 _ fits) ∙ c.in-Some-arm_number.ensures.some in
    (put_arm (reply_type c.args.self.now.binding c.args.op) (seen c.args.value.now) c.in-Some.n c.in-Some-arm_number.arm
    (seen c.in-Some.inner.now) c.replies_tell_arms.ensures.choice c.requires.typed c.in-Some.ensures is).typed
