use Rattle.std.proofs.Common.{◌≡◌, ◌∙◌, ap, eqb, Err, rules}
use Rattle.std.specs.List.{starts_with}
use Rattle.stub_read.specs.declared.errors.StubErr.TheVariants as faults
use Rattle.stub_read.proofs.Whole.{found, otherwise, parts_of, refused_whole, same_error}
use Rattle.stub_read.proofs.stub.read_stub.Goals as goal

pub returns-clause-stub : goal.returns-clause-stub
returns-clause-stub c =
    rw (c.len-used.ensures) (found c.args.text.now c.in_ok-printed.printed (parts_of c.in_ok-name.name c.in_ok-name.ops c.in_ok-name.subs)
    c.starts_with.result c.in_ok-name.ensures c.in_ok-printed.ensures
    (c.starts_with.ensures.value ∙ ap (λ p. starts_with eqb c.args.text.now p) c.as_slice.ensures) c.if-not-starts_with.false)

pub returns-in_err-name-clause-exact : goal.returns-in_err-name-clause-exact
returns-in_err-name-clause-exact c is =
    let same : c.from_residual.result ≡ Err c.in_err-name.field-0.0 = search rules in
    refused_whole c.args.text.now c.in_err-name.field-0.0 c.in_err-name.ensures
    (same_error c.in_err-name.field-0.0 faults.Text c.from_residual.result same is)

pub returns-then-not-starts_with-clause-exact : goal.returns-then-not-starts_with-clause-exact
returns-then-not-starts_with-clause-exact c text =
    otherwise c.args.text.now c.in_ok-printed.printed (parts_of c.in_ok-name.name c.in_ok-name.ops c.in_ok-name.subs)
    c.starts_with.result c.in_ok-name.ensures c.in_ok-printed.ensures
    (c.starts_with.ensures.value ∙ ap (λ p. starts_with eqb c.args.text.now p) c.as_slice.ensures) c.if-not-starts_with.true
