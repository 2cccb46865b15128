-- Names and numbers in a set or a map of indexmap, as lists, by induction on the list.
use Rattle.std.proofs.Common.{◌≡◌, ℕ, ℤ, nat_eq, ◌&&◌, List, [], ◌∷◌, ◌++◌, map, Bool, true, false, ◌||◌, Option, Some, refl, ap, ◌∙◌}
use Rattle.std.specs.Prelude.{cond}
use Rattle.std.specs.List.{list_any}
use Rattle.std.specs.Map.{lookup}
use Rattle.std.specs.Option.{is_some}
use Rattle.std.proofs.lemmas.Bool.{or_parts, or_from}
use Rattle.std.specs.Str.{bytes_eq}
use Rattle.std.specs.Ordering.{int_eq}
use Rattle.indexmap.specs.IndexMap.{insert_entry}
use Rattle.indexmap.specs.IndexSet.{insert_key}
use Rattle.idl_names.specs.Labels.{is_label}
use Rattle.idl_names.specs.Names.{has, is_declared, meaning_of}

pub any_map : {A B : Type 0} (p : B → Bool) (f : A → B) (xs : List A) → list_any (λ x. p (f x)) xs ≡ list_any p (map f xs)
any_map p f [] = refl
any_map p f (x ∷ xs) = ap (λ z. p (f x) || z) (any_map p f xs)

pub append_map : {A B : Type 0} (f : A → B) (xs : List A) (x : A) → map f (xs ++ x ∷ []) ≡ map f xs ++ f x ∷ []
append_map f [] x = refl
append_map f (y ∷ ys) x = ap (λ z. f y ∷ z) (append_map f ys x)

module _ {K : Type 0} (items : K → List ℕ) where
  pub push_map : (k : K) (ks : List K) → has (items k) (map items ks) ≡ false
      → map items (insert_key (λ a b. bytes_eq (items a) (items b)) ks k) ≡ map items ks ++ items k ∷ []
  push_map k ks h =
      let new : list_any
      (λ b. bytes_eq (items k) (items b)) ks ≡ false = any_map (bytes_eq (items k)) items ks ∙ h in rw new (append_map items ks k)

  pub push_on : (k : K) (ks new : List K) (old : List (List ℕ)) (name start : List ℕ)
      → new ≡ insert_key (λ a b. bytes_eq (items a) (items b)) ks k → items k ≡ start ++ name → start ≡ []
      → map items ks ≡ old → has name old ≡ false
      → map items new ≡ old ++ name ∷ []
  push_on k ks new old name start made key empty view none =
      let key' : items k ≡ name = key ∙ ap (λ z. z ++ name) empty in
      let none' : has (items k) (map items ks) ≡ false = ap (λ z. has z (map items ks)) key' ∙ ap (has name) view ∙ none in
      ap (map items) made ∙ push_map k ks none' ∙ ap (λ z. map items ks ++ z ∷ []) key' ∙ ap (λ z. z ++ name ∷ []) view

pub insert_new : {T : Type 0} (eq : T → T → Bool) (ks : List T) (k : T) → list_any (eq k) ks ≡ false → insert_key eq ks k ≡ ks ++ k ∷ []
insert_new eq ks k h = rw h refl

abbrev same_label : ℕ × ℤ → ℕ × ℤ → Bool
same_label p q = nat_eq p.0 q.0 && int_eq p.1 q.1

pub label_put : (labels new : List (ℕ × ℤ)) (k : ℕ) (n m : ℤ) → new ≡ insert_key same_label labels (k, m) → m ≡ n
    → is_label k n labels ≡ false
    → new ≡ labels ++ (k, n) ∷ []
label_put labels new k n m made same none = made
    ∙ ap (λ z. insert_key same_label labels (k, z)) same ∙ insert_new same_label labels (k, n) none

-- ---- names with what they stand for

module _ {K M : Type 0} (items : K → List ℕ) where
  abbrev plain : List (K × M) → List (List ℕ × M)
  plain es = map (λ e. (items e.0, e.1)) es

  some_either : (b : Bool) (m : M) (o : Option M) → is_some (cond b (Some m) o) ≡ (b || is_some o)
  some_either true m o = refl
  some_either false m o = refl

  pub declared_map : (name : List ℕ) (es : List (K × M))
      → is_some (lookup (λ k. bytes_eq name (items k)) es) ≡ is_declared name (plain es)
  declared_map name [] = refl
  declared_map name (e ∷ es) =
      some_either (bytes_eq name (items e.0)) e.1
      (lookup (λ k. bytes_eq name (items k)) es) ∙ ap (λ z. bytes_eq name (items e.0) || z) (declared_map name es)

  pub meaning_map : (name : List ℕ) (es : List (K × M)) → lookup (λ k. bytes_eq name (items k)) es ≡ meaning_of name (plain es)
  meaning_map name [] = refl
  meaning_map name (e ∷ es) = ap (λ z. cond (bytes_eq name (items e.0)) (Some e.1) z) (meaning_map name es)

  insert_map : (k : K) (m : M) (es : List (K × M)) → is_declared (items k) (plain es) ≡ false
      → plain (insert_entry (λ a b. bytes_eq (items a) (items b)) es k m) ≡ plain es ++ (items k, m) ∷ []
  insert_map k m [] h = refl
  insert_map k m (e ∷ es) h =
      let parts = or_parts (bytes_eq (items k) (items e.0)) (is_declared (items k) (plain es)) h in
      rw parts.0 (ap (λ z. (items e.0, e.1) ∷ z) (insert_map k m es parts.1))

  pub put_new : (k : K) (m : M) (es new : List (K × M)) (old : List (List ℕ × M)) (name : List ℕ)
      → new ≡ insert_entry (λ a b. bytes_eq (items a) (items b)) es k m → items k ≡ name → plain es ≡ old
      → is_declared name old ≡ false → plain new ≡ old ++ (name, m) ∷ []
  put_new k m es new old name made key view none =
      let none' : is_declared (items k) (plain es) ≡ false = ap (λ z. is_declared z (plain es)) key ∙ ap (is_declared name) view ∙ none in
      ap plain made ∙ insert_map k m es none' ∙ ap (λ z. plain es ++ (z, m) ∷ []) key ∙ ap (λ z. z ++ (name, m) ∷ []) view

-- a name that is not declared stays so when another is
pub stays_undeclared : {M : Type 0} (name other : List ℕ) (m : M) (es : List (List ℕ × M)) → is_declared name es ≡ false
    → bytes_eq name other ≡ false → is_declared name (es ++ (other, m) ∷ []) ≡ false
stays_undeclared name other m [] h n = or_from _ _ n refl
stays_undeclared name other m (e ∷ es) h n = let parts = or_parts _ _ h in or_from _ _ parts.0 (stays_undeclared name other m es parts.1 n)
