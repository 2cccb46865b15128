-- A file says one thing; over a back end it comes to one report, or to engines that answer alike, with the same codes where these are.
use Rattle.std.proofs.Common.{◌≡◌, ℕ, List, length, Bool, true, false, Option, Some, None, Ok, Err, refl, sym, ◌∙◌, subst}
use Rattle.std.specs.Prelude.{nat_le, MatchBool}
use Rattle.kit_base.specs.Limits.{longest_file}
use Rattle.wire_def.specs.declared.encoding.Back.{Back}
use Rattle.idl_lex.specs.declared.kinds.Front.{Front}
use Rattle.aoi.specs.Plain.{PlainUnit}
use Rattle.pres.specs.declared.errors.BindErr.{BindErr}
use Rattle.pres.specs.Bindings.{Binding}
use Rattle.pres.specs.Faults.{bind_fault}
use Rattle.stub_codes.specs.declared.stub.Stub.{Stub}
use Rattle.stub_codes.specs.Stubs.{Coded}
use Rattle.flick_engine.specs.declared.wire.Wire.{Wire}
use Rattle.flick_engine.specs.Backs.{back_in}
use Rattle.flick_lines.proofs.Twins.{AreTwins}
use Rattle.flick_top.specs.declared.command.Named.{Named}
use Rattle.flick_top.specs.declared.report.Report.TheVariants as reports
use Rattle.flick_top.specs.File.{Reported, IsOver, BindSays, BoundSays, FileSays}
use Rattle.flick_top.specs.Fronts.{Read, UnitOf}
use Rattle.flick_top.specs.Dispatch.{IsMadeOf}
use Rattle.flick_top.proofs.UnitsOfFronts.{one_unit}

-- ---- what a file says

within_says : (k : Front) (text : List ℕ) (r s : Read) (b : Bool) → MatchBool b (UnitOf k text r) (r ≡ Err reports.TooLarge)
    → MatchBool b (UnitOf k text s) (s ≡ Err reports.TooLarge)
    → r ≡ s
within_says k text r s true p q = one_unit k text r s p q
within_says k text r s false p q = p ∙ sym q

pub file_says : (k : Front) (content : Option (List ℕ)) (r s : Read) → FileSays k content r → FileSays k content s → r ≡ s
file_says k None r s p q = p ∙ sym q
file_says k (Some text) r s p q = within_says k text r s (nat_le (length text) longest_file) p q

-- ---- what is made of it

-- engines over bindings of one unit over one back end, of one version, with the same codes where these are shown
pub record AreAlike (Shown : Type 0) (d e : Coded) : Type 0 where
  pub twins : AreTwins d.binding e.binding
  pub minors : d.minor ≡ e.minor
  pub codes : Shown → d.stubs ≡ e.stubs

-- one report, or engines that answer alike
abbrev pub AreReported : Type 0 → Reported → Reported → Type 0
AreReported Shown (Ok d) (Ok e) = AreAlike Shown d e
AreReported Shown (Err e) (Err f) = e ≡ f
AreReported Shown _ _ = ⊥

pub twins : (k : Back) (u : PlainUnit) (b c : Binding) → IsOver u k b → IsOver u k c → AreTwins b c
twins k u b c one other =
    record { units = one.unit ∙ sym other.unit; backs = one.back ∙ sym other.back; one = one.stands; other = other.stands }

module _ (Shown : Type 0) (codes others : List Stub) (same : Shown → codes ≡ others) where
  reported_by : (r s x y : Reported) → r ≡ x → s ≡ y → AreReported Shown x y → AreReported Shown r s
  reported_by r s x y p q h =
      subst (λ (z : Reported). AreReported Shown z s) (sym p) (subst (λ (z : Reported). AreReported Shown x z) (sym q) h)

  bind_says : (w : Wire) (u : PlainUnit) (e : Option BindErr) (r s : Reported)
      → BindSays codes u w e r → BindSays others u w e s → AreReported Shown r s
  bind_says w u (Some e) r s p q = reported_by r s (Err (reports.Bind e)) (Err (reports.Bind e)) p q refl
  bind_says w u None (Ok c) (Ok d) p q =
      record {
        twins = twins (back_in w) u c.binding d.binding p.0.0 q.0.0;
        minors = p.0.1 ∙ sym q.0.1;
        codes = λ shown. p.1 ∙ same shown ∙ sym q.1;
      }
  bind_says w u None (Ok c) (Err f) p q = absurd q
  bind_says w u None (Err e) s p q = absurd p

  pub bound_says : (w : Wire) (read : Read) (r s : Reported)
      → BoundSays codes w read r → BoundSays others w read s → AreReported Shown r s
  bound_says w (Err e) r s p q = reported_by r s (Err e) (Err e) p q refl
  bound_says w (Ok u) r s p q = bind_says w u (bind_fault u (back_in w)) r s p q

  -- what is made of one content, where engines have these codes
  pub reported_alike : (n : Named) (content : Option (List ℕ)) (r s : Reported)
      → IsMadeOf codes n content r → IsMadeOf others n content s → AreReported Shown r s
  reported_alike n content r s (x, px, pr) (y, py, ps) =
      let one : x ≡ y = file_says n.front content x y px py in
      bound_says n.wire y r s (subst (λ (z : Read). BoundSays codes n.wire z r) one pr) ps
