-- Tables of replies that fit the operations of a binding.
use Rattle.std.proofs.Common.{◌≡◌, ◌<◌, ℕ, zero, suc, Bool, true, false, Option, Some, None, length, replicate, get_or, set, refl, sym, ◌∙◌, arith}
use Rattle.std.specs.Prelude.{◌==◌}
use Rattle.std.proofs.lemmas.Bool.{eqb-true, eqb-false}
use Rattle.std.proofs.lemmas.List.{length-replicate, length-set, get_or-set_other}
use Rattle.std.proofs.lemmas.Grind.{get_or-set_at}
use Rattle.mint.specs.declared.value.Value.{Value}
use Rattle.mint.specs.Typed.{IsWellTyped}
use Rattle.mint.specs.Values.{seen}
use Rattle.pres.specs.Bindings.{Binding}
use Rattle.skeleton.specs.Exchanges.{reply_type}
use Rattle.skeleton.specs.TableSkeleton.{TableSkeleton, Places, IsKept, reply_at}

abbrev no_reply : Option Value
no_reply = None

none_at : (n op : ℕ) → get_or (replicate n no_reply) op no_reply ≡ no_reply
none_at zero op = refl
none_at (suc n) zero = refl
none_at (suc n) (suc op) = none_at n op

-- a binding with a table
abbrev pub with_table : Binding → Places → TableSkeleton
with_table b places = record { binding = b; replies = places }

-- a table without replies fits
pub none_is_kept : (b : Binding) → IsKept (with_table b (replicate (length b.ops) None))
none_is_kept b = record {
  places = length-replicate (length b.ops) None;
  typed = λ op v is. let none = none_at (length b.ops) op in absurd cc;
}

module _ (k : TableSkeleton) (op : ℕ) (v : Value) (kept : IsKept k) (there : op < length k.binding.ops)
    (fits : IsWellTyped (reply_type k.binding op) (seen v)) where
  -- the table with a reply of the operation in its place
  abbrev with_reply : TableSkeleton
  with_reply = with_table k.binding (set k.replies op (Some v))

  typed_at : (n : ℕ) (w : Value) (t : Bool) → (n == op) ≡ t → reply_at with_reply n ≡ Some w
      → IsWellTyped (reply_type k.binding n) (seen w)
  typed_at n w true is e =
      let same : n ≡ op = eqb-true n op is in
      let here : get_or (set k.replies op (Some v)) n None
      ≡ Some v = get_or-set_at k.replies op n (Some v) None same (omega (arith, kept.places, there)) in
      let value : v ≡ w = cc in
      rw (same, ← value) fits
  typed_at n w false is e = kept.typed n w (sym (get_or-set_other k.replies op n (Some v) None (eqb-false n op is)) ∙ e)

  -- a table that fits, with one reply more
  pub one_more : IsKept (with_table k.binding (set k.replies op (Some v)))
  one_more = record {
    places = length-set k.replies op (Some v) ∙ kept.places;
    typed = λ n w e. typed_at n w (n == op) refl e;
  }
