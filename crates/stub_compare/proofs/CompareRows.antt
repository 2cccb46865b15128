-- What rows, calls and patches put, before what follows them.
use Rattle.std.proofs.Common.{◌≡◌, ℕ, true, refl, sym, ap, ◌∙◌, List, [], ◌∷◌, ◌++◌, Option, Some, None, option_map, is_some}
use Rattle.wire_def.specs.declared.head.Order.{Order}
use Rattle.mint.specs.declared.kind.Kind.{Kind}
use Rattle.mint.specs.declared.node.Node.{Node}
use Rattle.mint.specs.Kinds.{width}
use Rattle.cast_stub.specs.Block.{call, patch}
use Rattle.stub_flat.specs.Places.{Spot}
use Rattle.stub_flat.specs.Residues.{Residues, every}
use Rattle.stub_flat.specs.Leaves.{width_of}
use Rattle.stub_flat.specs.Items.{num, Items, done, octets, called, patched, ordered, row_items, provided, items}
use Rattle.stub_compare.specs.CompareSets.{Agree}
use Rattle.stub_compare.specs.CompareText.{path_text, order_text, cells_text, items_text}
use Rattle.stub_compare.specs.CompareTold.{IsPut, IsLed, IsOpTold}
use Rattle.stub_compare.proofs.CompareOps.{led_before, leaves_agree, octets_text, where_agree}

pub told_call : (N : List Node) (s : Spot) (k : ℕ) (p : List ℕ) (S T : Residues) (old new : List ℕ) → Agree T every
    → IsPut old (λ rest. 5 ∷ (k ∷ path_text p rest)) new → IsOpTold true N s (call k p) S T old new
told_call N s k p S T old new same h = record {
  put = λ r. where_agree N s r every T true (option_map (called k p) (items N s r every)) old new same
      (led_before (called k p) (items N s r every) old new (λ i rest. h (items_text i rest)));
  behind = λ e r. leaves_agree N s r every T same;
}

pub told_patch : (N : List Node) (s : Spot) (a z : ℕ) (o : Order) (S : Residues) (old new : List ℕ)
    → IsPut old (λ rest. 6 ∷ (a ∷ (z ∷ (order_text o ∷ rest)))) new → IsOpTold true N s (patch a z o) S S old new
told_patch N s a z o S old new h = record {
  put = λ r. led_before (patched a z o) (items N s r S) old new (λ i rest. h (items_text i rest));
  behind = λ e r q lt. refl;
}

-- a row, before what follows it
pub row_put : (p : List ℕ) (w : ℕ) (o : Order) (old a b new : List ℕ) → IsPut old (λ rest. 2 ∷ path_text p rest) a
    → IsPut a (cells_text (ordered (num []) w o)) b → IsPut b (λ rest. 0 ∷ rest) new → (i : Items) (rest : List ℕ)
    → old ++ items_text (row_items p w o i) rest ≡ new ++ items_text i rest
row_put p w o old a b new first second third i rest =
    first (items_text (octets (ordered (num []) w o) done) (items_text i rest))
    ∙ ap (λ z. a ++ z) (octets_text (ordered (num []) w o) done (items_text i rest)) ∙ second (0 ∷ items_text i rest)
    ∙ third (items_text i rest)

-- a row operation where the kind is known, and where it is not
pub row_led : (kind : Option Kind) (k : Kind) (g : ℕ → Items → Items) (o : Option Items) (old new : List ℕ) → kind ≡ Some k
    → ((i : Items) (rest : List ℕ) → old ++ items_text (g (width k) i) rest ≡ new ++ items_text i rest)
    → IsLed items_text (provided (is_some kind) (option_map (g (width_of kind)) o)) o old new
row_led None k g o old new e h = absurd (cc)
row_led (Some j) k g o old new e h =
    let same : k ≡ j = cc in
    led_before (g (width j)) o old new (λ i rest. ap (λ (x : Kind). old ++ items_text (g (width x) i) rest) (sym same) ∙ h i rest)

pub row_absent : (kind : Option Kind) (o : Option Items) → kind ≡ None → provided (is_some kind) o ≡ None
row_absent None o e = refl
row_absent (Some j) o e = absurd (cc)
