-- Structs of sound fields are sound, by induction on the fields.
use Rattle.std.proofs.Common.{◌≡◌, ℕ, ℤ, pos, negsuc, ◌^◌, Bool, true, false, ◌&&◌, nat_lt, nat_le, List, [], ◌∷◌, ◌++◌, length, map, refl, sym, ap, subst, ◌∙◌, if◌then◌else◌}
use Rattle.std.specs.Prelude.{Ok}
use Rattle.std.proofs.lemmas.Bool.{and_parts, and_from}
use Rattle.aoi.specs.declared.faults.NameFault.TheVariants.{Range}
use Rattle.aoi.specs.Shapes.{Shape, structure, members_of}
use Rattle.aoi.specs.Sound.{is_sound_type, are_sound, are_distinct, names_of, has_member}
use Rattle.idl_names.specs.Answers.{Answer, natural, fault}
use Rattle.idl_names.specs.Lists.{is_some_list}
use Rattle.idl_names.specs.Names.{has}
use Rattle.idl_names.proofs.Parts.{ok_same}
use Rattle.idl_names.proofs.Different.{distinct_push}
use Rattle.idl_names.proofs.Tables.{append_map}

abbrev answer : ℕ → Answer ℕ
answer n = Ok n

low_by : (b : Bool) (low d m n : ℕ) → (b ≡ true → nat_le low m ≡ true) → (if b then answer m else fault Range d) ≡ answer n
    → nat_le low n ≡ true
low_by true low d m n f h = subst (λ z. nat_le low z ≡ true) (ok_same m n h) (f refl)
low_by false low d m n f h = absurd cc

pub natural_low : (low d n : ℕ) (z : ℤ) → natural low d z ≡ Ok n → nat_le low n ≡ true
natural_low low d n (pos m) h =
    low_by (nat_le low m && nat_lt m (2 ^ 32)) low d m n (λ b. (and_parts (nat_le low m) (nat_lt m (2 ^ 32)) b).0) h
natural_low low d n (negsuc m) h = absurd cc

-- ---- members

abbrev pub Field : Type 0
Field = List ℕ × Shape

pub names_are : (fields : List Field) → names_of (members_of fields) ≡ map (λ f. f.0) fields
names_are [] = refl
names_are (f ∷ fields) = ap (λ z. f.0 ∷ z) (names_are fields)

pub sound_push : (types : List Shape) (limit : ℕ) (fields : List Field) (f : Field)
    → are_sound types limit (members_of fields) ≡ true → is_sound_type types limit f.1 ≡ true
    → are_sound types limit (members_of (fields ++ f ∷ [])) ≡ true
sound_push types limit [] f a b = and_from _ _ b refl
sound_push types limit (g ∷ fields) f a b =
    let parts = and_parts (is_sound_type types limit g.1) (are_sound types limit (members_of fields)) a in and_from _ _ parts.0
    (sound_push types limit fields f parts.1 b)

pub record FieldsAre (types : List Shape) (fields : List Field) : Type 0 where
  pub different : are_distinct (map (λ f. f.0) fields) ≡ true
  pub sound : are_sound types (length types) (members_of fields) ≡ true

pub fields_push : (types : List Shape) (fields : List Field) (n : List ℕ) (s : Shape) → FieldsAre types fields
    → has n (map (λ f. f.0) fields) ≡ false → is_sound_type types (length types) s ≡ true
    → FieldsAre types (fields ++ (n, s) ∷ [])
fields_push types fields n s are new sound = record {
  different =
      subst
      (λ z.
      are_distinct z ≡ true)
      (sym (append_map (λ (f : Field). f.0) fields (n, s))) (distinct_push (map (λ f. f.0) fields) n are.different new);
  sound = sound_push types (length types) fields (n, s) are.sound sound;
}

pub some_push : {A : Type 0} (xs : List A) (x : A) → is_some_list (xs ++ x ∷ []) ≡ true
some_push [] x = refl
some_push (y ∷ xs) x = refl

pub some_member : (fields : List Field) → is_some_list fields ≡ true → has_member (members_of fields) ≡ true
some_member [] h = absurd cc
some_member (f ∷ fields) h = refl

pub struct_sound : (types : List Shape) (fields : List Field) → FieldsAre types fields → is_some_list fields ≡ true
    → is_sound_type types (length types) (structure (members_of fields)) ≡ true
struct_sound types fields are some =
    and_from _ _ (and_from _ _ (some_member fields some) (ap are_distinct (names_are fields) ∙ are.different)) are.sound
