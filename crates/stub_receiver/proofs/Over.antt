-- What loops over drafts go over.
use Rattle.std.proofs.Common.{◌≡◌, ℕ, ℤ, List, None, slice_get, refl, sym, ap, subst, ◌∙◌}
use Rattle.mint.specs.declared.kind.Kind.{Kind}
use Rattle.mint.specs.declared.kind.Count.{Count}
use Rattle.mint.specs.declared.node.Node.{Node}
use Rattle.mint.specs.declared.node.Node.TheVariants as node
use Rattle.mint.specs.Blank.{least}
use Rattle.mint.specs.Types.{Array, text, row_of, Ty, void_type, array_type, items_type, type_at, level, unfolded}
use Rattle.wire_def.specs.Arrays.{count_of}
use Rattle.mint.specs.Values.{Val}
use Rattle.cast_stub.specs.Draft.{Draft, raw, digit, listed, lined, tagged, flagged, done, fields, Drafts}
use Rattle.stub_receiver.specs.declared.draft.Filling.{Filling}
use Rattle.cast_stub.specs.Runs.{Filler, Place}
use Rattle.stub_receiver.specs.declared.looping.Elements.{Elements}
use Rattle.stub_receiver.specs.declared.looping.Elements.TheVariants as elements
use Rattle.stub_receiver.specs.Drawn.{array_of, array_at, drawn}
use Rattle.stub_receiver.proofs.Drafting.{no_node}
use Rattle.stub_receiver.specs.Looping.{GoesOver}

pub listed_over : (ns : List Node) (item n : ℕ) → GoesOver ns (elements.Values item n) (listed (type_at ns item) n)
listed_over ns item n = ((λ (f : Filler) (s : Place). refl), record { narrow = λ o s. refl; wide = λ o s. refl })

pub lined_over : (ns : List Node) (id n : ℕ) → GoesOver ns (elements.Numbers id n) (lined (array_at ns id) n)
lined_over ns id n = record { looped = λ f s. refl; narrow = λ o s. refl; wide = λ o s. refl }

pub items_over : (ns : List Node) (id item n : ℕ) (c : Count) (nd : Node) → type_at ns id ≡ level (unfolded ns) nd
    → nd ≡ node.Items item c → n ≡ least c
    → GoesOver ns (elements.Values item n) (raw (type_at ns id))
items_over ns id item n c nd leveled what many =
    let whole : type_at ns id ≡ items_type c (type_at ns item) = leveled ∙ ap (level (unfolded ns)) what in
    subst (λ (m : ℕ). GoesOver ns (elements.Values item m) (raw (type_at ns id))) (sym many)
    (subst (λ (t : Ty). GoesOver ns (elements.Values item (least c)) (raw t)) (sym whole)
    ((λ (f : Filler) (s : Place). refl), record { narrow = λ o s. refl; wide = λ o s. refl }))

array_over : (ns : List Node) (id n : ℕ) (a : Array) → type_at ns id ≡ array_type a → n ≡ least (count_of a)
    → GoesOver ns (elements.Numbers id n) (raw (type_at ns id))
array_over ns id n a whole many =
    let here : array_at ns id ≡ a = ap array_of whole in
    record {
      looped = λ f s. rw (whole, many) refl;
      narrow = λ o s. rw (whole, many) refl;
      wide = λ o s. rw (whole, many) refl;
    }

pub text_over : (ns : List Node) (id n : ℕ) (c : Count) (nd : Node) → type_at ns id ≡ level (unfolded ns) nd
    → nd ≡ node.Text c → n ≡ least c
    → GoesOver ns (elements.Numbers id n) (raw (type_at ns id))
text_over ns id n c nd leveled what many = array_over ns id n (text c) (leveled ∙ ap (level (unfolded ns)) what) many

pub row_over : (ns : List Node) (id n : ℕ) (k : Kind) (c : Count) (nd : Node) → type_at ns id ≡ level (unfolded ns) nd
    → nd ≡ node.Row k c → n ≡ least c
    → GoesOver ns (elements.Numbers id n) (raw (type_at ns id))
row_over ns id n k c nd leveled what many = array_over ns id n (row_of k c) (leveled ∙ ap (level (unfolded ns)) what) many

-- ---- drafts without elements

pub over_same : (ns : List Node) (e : Elements) (old what : Filling) (d : Draft) → old ≡ what → drawn ns what ≡ d → GoesOver ns e d
    → GoesOver ns e (drawn ns old)
over_same ns e old what d is seen over = subst (GoesOver ns e) (sym (ap (drawn ns) is ∙ seen)) over

pub digit_over : (ns : List Node) (a : Array) → GoesOver ns elements.Nothing (digit a)
digit_over ns a = ((λ (f : Filler) (s : Place). refl), record { narrow = λ o s. refl; wide = λ o s. refl })

pub tagged_over : (ns : List Node) (n : ℤ) (t : Ty) → GoesOver ns elements.Nothing (tagged n t)
tagged_over ns n t = ((λ (f : Filler) (s : Place). refl), record { narrow = λ o s. refl; wide = λ o s. refl })

pub flagged_over : (ns : List Node) (t : Ty) → GoesOver ns elements.Nothing (flagged t)
flagged_over ns t = ((λ (f : Filler) (s : Place). refl), record { narrow = λ o s. refl; wide = λ o s. refl })

pub done_over : (ns : List Node) (v : Val) → GoesOver ns elements.Nothing (done v)
done_over ns v = ((λ (f : Filler) (s : Place). refl), record { narrow = λ o s. refl; wide = λ o s. refl })

pub fields_over : (ns : List Node) (ds : Drafts) → GoesOver ns elements.Nothing (fields ds)
fields_over ns ds = ((λ (f : Filler) (s : Place). refl), record { narrow = λ o s. refl; wide = λ o s. refl })

pub void_over : (ns : List Node) → GoesOver ns elements.Nothing (raw void_type)
void_over ns = ((λ (f : Filler) (s : Place). refl), record { narrow = λ o s. refl; wide = λ o s. refl })

pub missing_over : (ns : List Node) (id : ℕ) → slice_get ns id ≡ None → GoesOver ns elements.Nothing (raw (type_at ns id))
missing_over ns id none = subst (λ (t : Ty). GoesOver ns elements.Nothing (raw t)) (sym (no_node ns id none)) (void_over ns)
