-- A message has one head of a call or one first fault of it, over a binding too.
use Rattle.std.proofs.Common.{◌≡◌, ◌⊎◌, inl, inr, ℕ, ◌≤◌, List, length, refl, sym, ap, ◌∙◌}
use Rattle.wire_def.specs.declared.fault.HeadErr.{HeadErr}
use Rattle.wire_def.specs.Grammar.{AreOctets}
use Rattle.head_kit.specs.declared.call_head.CallHead.{CallHead}
use Rattle.head_kit.specs.Heads.{Format, IsRead, BeginsWith, StopsWith, Begins}
use Rattle.head_kit.specs.Calls.{IsOneHead, HasHead}
use Rattle.head_kit.proofs.Lawful.{single, decided}

-- a format whose heads are reported by view, and say this of a call; the length is the head's
module _ {A C : Type 0} (f : Format A) (is_read : IsRead f) (view : A → ℕ → C) (called : C → CallHead)
    (long : (h : A) (used : ℕ) → (called (view h used)).used ≡ used) (o : List ℕ) where
  -- the message begins with a head that says this
  abbrev Calls : CallHead → Type 0
  Calls t = (c : C) × Begins f view o c × (called c ≡ t)

  within : (t : CallHead) → Calls t → t.used ≤ length o
  within t (c, (h, used, begins, reported), is) = rw (← is, ← reported, long h used) begins.0

  not_both_called : (t : CallHead) (e : HeadErr) → Calls t → StopsWith f o e → ⊥
  not_both_called t e (c, (h, used, begins, reported), is) stops = (single f is_read o).not_both h used e begins stops

  one_called : (t u : CallHead) → Calls t → Calls u → t ≡ u
  one_called t u (c, (h, used, begins, reported), is) (d, (j, m, begins', reported'), is') =
      let same = (single f is_read o).one_head h j used m begins begins' in
      sym is ∙ ap called (sym reported ∙ ap (λ (x : A). view x used) same.0 ∙ ap (view j) same.1 ∙ reported') ∙ is'

  pub one_call : IsOneHead o Calls (StopsWith f o)
  one_call = record { within = within; not_both = not_both_called; one_head = one_called; one_fault = (single f is_read o).one_fault }

  found : ((h : A) × (used : ℕ) × BeginsWith f o h used) ⊎ ((e : HeadErr) × StopsWith f o e) → HasHead Calls (StopsWith f o)
  found (inl (h, used, begins)) = inl (called (view h used), (view h used, (h, used, begins, refl), refl))
  found (inr (e, stops)) = inr (e, stops)

  pub has_call : AreOctets o → HasHead Calls (StopsWith f o)
  has_call oct = found (decided f is_read o oct).either
