use Rattle.std.proofs.Common.{◌≡◌, SFits, ℤ, List, Some, map, rules, subst, refl, sym, ap}
use Rattle.std.specs.Int.{w128}
use Rattle.std.specs.Prelude.{OnOk}
use Rattle.std.proofs.lemmas.Int.{to_z-of_z}
use Rattle.aoi.specs.Plain.{PlainRaise, plain_raise}
use Rattle.mint.specs.Arms.{arm_found}
use Rattle.mint.specs.Values.{Val, seen, arm, arm_in}
use Rattle.pres.specs.Faces.{Face, Arms, Sign, arms_at, choice, faces, face_at, sign_of}
use Rattle.serde_json.specs.Data.{Data, Members}
use Rattle.json_shape.specs.Printed.{tokens_of, Adds}
use Rattle.json_shape.specs.Replies.{after_members, answer_members, reply_named}
use Rattle.json_shape.specs.Written.{after_json, json_of}
use Rattle.json_shape.proofs.Arms.{arm_written}
use Rattle.json_shape.proofs.printed_replies.put_answer.Goals as goal

same_arm : (n m : ℤ) (v w : Val) → arm_in (arm n v) ≡ arm_in (arm m w) → (n ≡ m) × (v ≡ w)
same_arm n m v w is =
    let pair : ◌≡◌ {A = ℤ × Val} (n, v) (m, w) = cc in
    (ap (λ (p : ℤ × Val). p.0) pair, ap (λ (p : ℤ × Val). p.1) pair)

-- the members of an answer, by the JSON of its arm
answered : (rs : List PlainRaise) (s : Sign) (arms : Arms) (v : Val) (n : ℤ) (w : Val) (j : Data) → arm_in (arm n w) ≡ arm_in v
    → after_json arms n w ≡ j
    → after_members rs n j ≡ answer_members rs (choice s arms) v
answered rs s arms (arm m u) n w j is same =
    let two = same_arm n m w u is in
    rw (sym same, two.0, two.1) refl
answered rs s arms _ n w j is same = absurd cc

pub returns-in-Some-arm_of : goal.returns-in-Some-arm_of
returns-in-Some-arm_of c =
    let b = c.args.bound.now in
    let fs = faces b.nodes b.shapes in
    let rs = map plain_raise c.args.raises.now in
    let value = seen c.args.value.now in
    let n = c.in-Some-as_arm.n in
    let inner = seen c.in-Some-as_arm.inner.now in
    let item = c.in-Some-arm_of.item in
    let arms = arms_at fs c.in-Choice.arms c.in-Choice.other in
    let sign = sign_of c.in-Choice.field-0 c.in-Some.field-0-1.now in
    let j = json_of (face_at b.nodes b.shapes item) inner in
    let fits : SFits w128 n = search rules in
    let same = to_z-of_z w128 n fits in
    let found : arm_found c.in-Choice.arms c.in-Choice.other n ≡ Some item = sym (rw same at c.in-Some-arm_of.ensures) in
    let face : face_at b.nodes b.shapes c.args.node ≡ choice sign arms = rw c.in-Choice.is at c.in-Some.ensures.is in
    let written = arm_written fs c.in-Choice.arms c.in-Choice.other n item inner found in
    let by_arm = answered rs sign arms value n inner j c.in-Some-as_arm.ensures written in
    let is = subst (λ (f : Face). after_members rs n j ≡ answer_members rs f value) (sym face) by_arm in
    subst (λ (ms : Members). OnOk c.put_arm.result (Adds c.args.out.now c.put_arm.new.out
    (tokens_of (reply_named b.back c.args.head.now c.args.name.now ms)))) is (rw same at c.put_arm.ensures)
