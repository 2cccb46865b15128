-- What is put of the codes of a list, and of a code with its list.
use Rattle.std.proofs.Common.{◌≡◌, ◌↔◌, ℕ, ◌+◌, ◌<◌, ◌≤◌, Bool, true, false, List, [], ◌∷◌, length, map, drop, get_or, Option, Some, None, IfSome, option_map, is_some, refl, sym, ap, ◌∙◌, subst, append-nil}
use Rattle.std.proofs.Math.ListN.{drop_of_length-le}
use Rattle.mint.specs.declared.node.Node.{Node}
use Rattle.cast_stub.specs.declared.send.SendCode.{SendCode}
use Rattle.cast_stub.specs.declared.send.SendOp.{SendOp}
use Rattle.cast_stub.specs.Parts.{on_some}
use Rattle.cast_stub.specs.Block.{Block, code_seen}
use Rattle.stub_flat.specs.Places.{Spot}
use Rattle.stub_flat.specs.Residues.{every, only}
use Rattle.stub_flat.specs.Items.{Items, items}
use Rattle.stub_flat.specs.Flat.{Flats, Spots, flat, list_items, spots}
use Rattle.stub_places.specs.Sets.{each_of, set_of}
use Rattle.stub_compare.specs.CompareText.{flats_text, items_text, list_text}
use Rattle.stub_compare.specs.CompareTold.{IsBlockPut, IsLed, IsLedWhere, IsPut, IsTold, body_items}
use Rattle.stub_compare.specs.CompareFlats.{HaveOneFlat}
use Rattle.stub_compare.proofs.CompareLists.{first_of, first_or}
use Rattle.stub_compare.proofs.CompareAgree.{items_agree}
use Rattle.stub_compare.proofs.CompareTables.{agree_each}
use Rattle.stub_compare.proofs.CompareOps.{absent_told, led_absent, led_then, told_absent}
use Rattle.stub_compare.proofs.FlatTexts.{flats_same}

-- ---- nodes as they are found

pub found_none : {A : Type 0} (f : A → Spots) (o : Option A) (sp : Option Spots) → o ≡ None → option_map f o ≡ sp → None ≡ sp
found_none f o sp e h = sym (ap (option_map f) e) ∙ h

pub found_some : {A : Type 0} (f : A → Spots) (a : A) (o : Option A) (sp : Option Spots) → o ≡ Some a → option_map f o ≡ sp
    → Some (f a) ≡ sp
found_some f a o sp e h = sym (ap (option_map f) e) ∙ h

pub found_length : {A : Type 0} (P : A → Type 0) (o : Option A) (a : A) → o ≡ Some a → IfSome o P → P a
found_length {A} P o a e h = let Q : Option A → Type 0 = λ z. IfSome z P in subst Q e h

-- ---- one code

told_after : (told : Bool) (o : Option Items) (old mid new : List ℕ) → IsPut old (λ rest. 1 ∷ rest) mid
    → IsTold told o (λ i. IsPut mid (items_text i) new) → IsTold told o (λ i. IsPut old (λ rest. 1 ∷ items_text i rest) new)
told_after true (Some i) old mid new first h = λ rest. first (items_text i rest) ∙ h rest
told_after true None old mid new first h = absurd h
told_after false (Some i) old mid new first h = absurd h
told_after false None old mid new first h = tt

-- a code whose node is known
pub body_put : (N : List Node) (s : Spot) (n : ℕ) (body : List SendOp) (o : Option (List Bool)) (told : Bool) (from : List Bool)
    (old mid new : List ℕ) → s ≡ Some n → told ≡ is_some o → from ≡ each_of every → IsPut old (λ rest. 1 ∷ rest) mid
    → IsBlockPut o N s (code_seen body) (set_of from) mid new
    → IsTold told (body_items N s (code_seen body)) (λ i. IsPut old (λ rest. 1 ∷ items_text i rest) new)
body_put N None n body o told from old mid new there is all first put = absurd (cc)
body_put N (Some m) n body o told from old mid new there is all first put =
    subst (λ (b : Bool). IsTold b (items N (Some m) (code_seen body) every) (λ i. IsPut old (λ rest. 1 ∷ items_text i rest) new)) (sym is)
    (told_after (is_some o) (items N (Some m) (code_seen body) every) old mid new first
    (subst (λ (x : Option Items). IsTold (is_some o) x (λ i. IsPut mid (items_text i) new))
    (items_agree N (Some m) (code_seen body) (set_of from) every (agree_each every from all)) put.put))

pub body_nothing : (N : List Node) (s : Spot) (body : List SendOp) (P : Items → Type 0) → s ≡ None
    → IsTold false (body_items N s (code_seen body)) P
body_nothing N None body P e = tt
body_nothing N (Some m) body P e = absurd (cc)

-- ---- codes of a list

-- what is put of the codes, and what is left of them
abbrev pub IsLeft : List Node → List (List SendOp) → Spots → ℕ → List ℕ → List ℕ → Type 0
IsLeft N bodies known i old new = IsLed list_text (list_items N (map code_seen bodies) known)
    (list_items N (map code_seen (drop i bodies)) (drop i known)) old new

list_step : (N : List Node) (b : Block) (bs : List Block) (t : Spot) (ts : Spots)
    → list_items N (b ∷ bs) (t ∷ ts) ≡ on_some (body_items N t b) (λ i. option_map (λ is. i ∷ is) (list_items N bs ts))
list_step N b bs None ts = refl
list_step N b bs (Some n) ts = refl

list_open : (N : List Node) (bodies : List (List SendOp)) (known : Spots) (i : ℕ) (b : List SendOp) (t : Spot) → i < length bodies
    → i < length known → b ≡ get_or bodies i b → t ≡ get_or known i None
    → list_items N (map code_seen (drop i bodies)) (drop i known)
    ≡ on_some (body_items N t (code_seen b))
    (λ j. option_map (λ js. j ∷ js) (list_items N (map code_seen (drop (i + 1) bodies)) (drop (i + 1) known)))
list_open N bodies known i b t less short at there =
    ap (λ (l : List (List SendOp)). list_items N (map code_seen l) (drop i known)) (first_of bodies i b less at)
    ∙ ap (λ (l : Spots). list_items N (map code_seen (b ∷ drop (i + 1) bodies)) l) (first_or known i t None short there)
    ∙ list_step N (code_seen b) (map code_seen (drop (i + 1) bodies)) t (drop (i + 1) known)

list_led : (told : Bool) (c : Option Items) (o : Option (List Items)) (old new : List ℕ)
    → IsTold told c (λ i. IsPut old (λ rest. 1 ∷ items_text i rest) new)
    → IsLedWhere list_text told (on_some c (λ i. option_map (λ is. i ∷ is) o)) o old new
list_led true (Some i) (Some is) old new h = λ rest. h (list_text is rest)
list_led true (Some i) None old new h = tt
list_led true None o old new h = absurd h
list_led false (Some i) o old new h = absurd h
list_led false None o old new h = refl

pub list_more : (N : List Node) (bodies : List (List SendOp)) (known : Spots) (i : ℕ) (b : List SendOp) (t : Spot) (told : Bool)
    (old mid new : List ℕ) → i < length bodies → i < length known → b ≡ get_or bodies i b → t ≡ get_or known i None → told ≡ true
    → IsLeft N bodies known i old mid
    → IsTold told (body_items N t (code_seen b)) (λ j. IsPut mid (λ rest. 1 ∷ items_text j rest) new)
    → IsLeft N bodies known (i + 1) old new
list_more N bodies known i b t told old mid new less short at there is left put =
    let rest_items = list_items N (map code_seen (drop (i + 1) bodies)) (drop (i + 1) known) in
    let step = on_some (body_items N t (code_seen b)) (λ j. option_map (λ js. j ∷ js) rest_items) in
    led_then list_text (list_items N (map code_seen bodies) known) step rest_items old mid new
    (subst (λ (o : Option (List Items)). IsLed list_text (list_items N (map code_seen bodies) known) o old mid)
    (list_open N bodies known i b t less short at there) left)
    (list_led true (body_items N t (code_seen b)) rest_items mid new
    (subst (λ (x : Bool). IsTold x (body_items N t (code_seen b)) (λ j. IsPut mid (λ rest. 1 ∷ items_text j rest) new)) is put))

pub list_nothing : (N : List Node) (bodies all : List (List SendOp)) (known : Spots) (i : ℕ) (b : List SendOp) (t : Spot) (told : Bool)
    (old mid new : List ℕ) → i < length bodies → i < length known → b ≡ get_or bodies i b → t ≡ get_or known i None → told ≡ false
    → bodies ≡ all → IsLeft N bodies known i old mid
    → IsTold told (body_items N t (code_seen b)) (λ j. IsPut mid (λ rest. 1 ∷ items_text j rest) new)
    → IsTold false (list_items N (map code_seen all) known) (λ is. IsPut old (list_text is) new)
list_nothing N bodies all known i b t told old mid new less short at there is same left put =
    let rest_items = list_items N (map code_seen (drop (i + 1) bodies)) (drop (i + 1) known) in
    let step = on_some (body_items N t (code_seen b)) (λ j. option_map (λ js. j ∷ js) rest_items) in
    told_absent (list_items N (map code_seen all) known) (λ is. IsPut old (list_text is) new)
    (ap (λ (l : List (List SendOp)). list_items N (map code_seen l) known) (sym same)
    ∙ led_absent list_text (list_items N (map code_seen bodies) known) step old mid
    (subst (λ (o : Option (List Items)). IsLed list_text (list_items N (map code_seen bodies) known) o old mid)
    (list_open N bodies known i b t less short at there) left)
    (list_led false (body_items N t (code_seen b)) rest_items mid new
    (subst (λ (x : Bool). IsTold x (body_items N t (code_seen b)) (λ j. IsPut mid (λ rest. 1 ∷ items_text j rest) new)) is put)))

list_end : (a : Option (List Items)) (old mid new : List ℕ) → IsLed list_text a (Some []) old mid → IsPut mid (λ rest. 0 ∷ rest) new
    → IsTold true a (λ is. IsPut old (list_text is) new)
list_end (Some is) old mid new l end = λ rest. l rest ∙ end rest
list_end None old mid new l end = absurd l

pub list_done : (N : List Node) (bodies all : List (List SendOp)) (known : Spots) (i : ℕ) (old mid new : List ℕ) → length bodies ≤ i
    → length known ≤ i → bodies ≡ all → IsLeft N bodies known i old mid → IsPut mid (λ rest. 0 ∷ rest) new
    → IsTold true (list_items N (map code_seen all) known) (λ is. IsPut old (list_text is) new)
list_done N bodies all known i old mid new le short same left end =
    let ends : list_items N (map code_seen (drop i bodies)) (drop i known) ≡ Some [] =
    ap (λ (l : List (List SendOp)). list_items N (map code_seen l) (drop i known)) (drop_of_length-le bodies le)
    ∙ ap (λ (l : Spots). list_items N [] l) (drop_of_length-le known short) in
    subst (λ (l : List (List SendOp)). IsTold true (list_items N (map code_seen l) known) (λ is. IsPut old (list_text is) new)) same
    (list_end (list_items N (map code_seen bodies) known) old mid new
    (subst (λ (o : Option (List Items)). IsLed list_text (list_items N (map code_seen bodies) known) o old mid) ends left) end)

-- ---- a code with its list

module _ (N : List Node) (id : ℕ) (code : SendCode) where
  -- the text of a flat, if there is one
  abbrev pub flat_text : Option (List ℕ)
  flat_text = option_map (λ f. flats_text f []) (flat N id code)

  pub no_spots : None ≡ spots N (Some id) (code_seen code.ops) (map code_seen code.subs) → None ≡ flat_text
  no_spots e =
      ap (λ (o : Option Spots). option_map (λ f. flats_text f [])
      (on_some o (λ ts. on_some (items N (Some id) (code_seen code.ops) (only 0))
      (λ i. option_map (λ is. (i, is)) (list_items N (map code_seen code.subs) ts))))) e

  there : (known : Spots) → Some known ≡ spots N (Some id) (code_seen code.ops) (map code_seen code.subs)
      → option_map (λ f. flats_text f []) (on_some (items N (Some id) (code_seen code.ops) (only 0))
      (λ i. option_map (λ is. (i, is)) (list_items N (map code_seen code.subs) known))) ≡ flat_text
  there known e =
      ap (λ (o : Option Spots). option_map (λ f. flats_text f [])
      (on_some o (λ ts. on_some (items N (Some id) (code_seen code.ops) (only 0))
      (λ i. option_map (λ is. (i, is)) (list_items N (map code_seen code.subs) ts))))) e

  -- what is left of the operations
  ops_put : (o : Option (List Bool)) (from : List Bool) (old new : List ℕ) → from ≡ each_of (only 0)
      → IsBlockPut o N (Some id) (code_seen code.ops) (set_of from) old new
      → IsTold (is_some o) (items N (Some id) (code_seen code.ops) (only 0)) (λ i. IsPut old (items_text i) new)
  ops_put o from old new is put =
      subst (λ (x : Option Items). IsTold (is_some o) x (λ i. IsPut old (items_text i) new))
      (items_agree N (Some id) (code_seen code.ops) (set_of from) (only 0) (agree_each (only 0) from is)) put.put

  pub no_items : (known : Spots) (o : Option (List Bool)) (from : List Bool) (old new : List ℕ)
      → Some known ≡ spots N (Some id) (code_seen code.ops) (map code_seen code.subs) → o ≡ None → from ≡ each_of (only 0)
      → IsBlockPut o N (Some id) (code_seen code.ops) (set_of from) old new → None ≡ flat_text
  no_items known o from old new e none is put =
      let absent = absent_told (items N (Some id) (code_seen code.ops) (only 0)) (λ i. IsPut old (items_text i) new)
      (subst (λ (b : Bool). IsTold b (items N (Some id) (code_seen code.ops) (only 0)) (λ i. IsPut old (items_text i) new))
      (ap is_some none)
      (ops_put o from old new is put)) in
      sym (ap (λ (x : Option Items). option_map (λ f. flats_text f [])
      (on_some x (λ i. option_map (λ is. (i, is)) (list_items N (map code_seen code.subs) known)))) absent) ∙ there known e

  no_list : (x : Option Items) (l : Option (List Items)) → l ≡ None
      → None ≡ option_map (λ f. flats_text f []) (on_some x (λ i. option_map (λ is. (i, is)) l))
  no_list None l e = refl
  no_list (Some i) l e = sym (ap (λ (z : Option (List Items)). option_map (λ f. flats_text f []) (option_map (λ is. (i, is)) z)) e)

  pub no_codes : (known : Spots) (told : Bool) (old new : List ℕ)
      → Some known ≡ spots N (Some id) (code_seen code.ops) (map code_seen code.subs)
      → told ≡ false → IsTold told (list_items N (map code_seen code.subs) known) (λ is. IsPut old (list_text is) new) → None ≡ flat_text
  no_codes known told old new e none put =
      no_list (items N (Some id) (code_seen code.ops) (only 0)) (list_items N (map code_seen code.subs) known)
      (absent_told (list_items N (map code_seen code.subs) known) (λ is. IsPut old (list_text is) new)
      (subst (λ (b : Bool). IsTold b (list_items N (map code_seen code.subs) known) (λ is. IsPut old (list_text is) new)) none put))
      ∙ there known e

  both_put : (x : Option Items) (l : Option (List Items)) (mid new : List ℕ) → IsTold true x (λ i. IsPut [] (items_text i) mid)
      → IsTold true l (λ is. IsPut mid (list_text is) new)
      → Some new ≡ option_map (λ f. flats_text f []) (on_some x (λ i. option_map (λ is. (i, is)) l))
  both_put (Some i) (Some is) mid new first second =
      ap (λ (z : List ℕ). Some z) (sym (first (list_text is []) ∙ second [] ∙ append-nil new))
  both_put (Some i) None mid new first second = absurd second
  both_put None l mid new first second = absurd first

  pub whole_flat : (known : Spots) (o : Option (List Bool)) (b : List Bool) (told : Bool) (from : List Bool) (start mid new : List ℕ)
      → Some known ≡ spots N (Some id) (code_seen code.ops) (map code_seen code.subs) → o ≡ Some b → told ≡ true → start ≡ []
      → from ≡ each_of (only 0) → IsBlockPut o N (Some id) (code_seen code.ops) (set_of from) start mid
      → IsTold told (list_items N (map code_seen code.subs) known) (λ is. IsPut mid (list_text is) new) → Some new ≡ flat_text
  whole_flat known o b told from start mid new e some whole empty is put list_put =
      both_put (items N (Some id) (code_seen code.ops) (only 0)) (list_items N (map code_seen code.subs) known) mid new
      (subst (λ (x : Bool). IsTold x (items N (Some id) (code_seen code.ops) (only 0)) (λ i. IsPut [] (items_text i) mid)) (ap is_some some)
      (subst (λ (l : List ℕ). IsTold (is_some o) (items N (Some id) (code_seen code.ops) (only 0)) (λ i. IsPut l (items_text i) mid)) empty
      (ops_put o from start mid is put)))
      (subst (λ (b : Bool). IsTold b (list_items N (map code_seen code.subs) known) (λ is. IsPut mid (list_text is) new)) whole list_put)
      ∙ there known e

-- ---- two flats

flat_is : (o : Option Flats) (a : List ℕ) (f : Flats) → Some a ≡ option_map (λ g. flats_text g []) o → o ≡ Some f → a ≡ flats_text f []
flat_is (Some g) a f e is =
    let same : g ≡ f = cc in
    let text : a ≡ flats_text g [] = cc in text ∙ ap (λ (z : Flats). flats_text z []) same
flat_is None a f e is = absurd (cc)

no_flat : (o : Option Flats) (f : Flats) → None ≡ option_map (λ g. flats_text g []) o → o ≡ Some f → ⊥
no_flat (Some g) f e is = absurd (cc)
no_flat None f e is = absurd (cc)

pub kept_none : (N : List Node) (id : ℕ) (kept code : SendCode) → None ≡ flat_text N id kept → (false ≡ true) ↔ HaveOneFlat N id kept code
kept_none N id kept code e = (λ d. absurd (cc), λ h. absurd (no_flat (flat N id kept) h.0 e h.2))

pub code_none : (N : List Node) (id : ℕ) (kept code : SendCode) → None ≡ flat_text N id code → (false ≡ true) ↔ HaveOneFlat N id kept code
code_none N id kept code e = (λ d. absurd (cc), λ h. absurd (no_flat (flat N id code) h.0 e h.1))

both_flats : (N : List Node) (id : ℕ) (kept code : SendCode) (o p : Option Flats) (a b : List ℕ) → o ≡ flat N id kept → p ≡ flat N id code
    → Some a ≡ option_map (λ g. flats_text g []) o → Some b ≡ option_map (λ g. flats_text g []) p → a ≡ b → HaveOneFlat N id kept code
both_flats N id kept code (Some f) (Some g) a b x y e d same =
    let first : a ≡ flats_text f [] = cc in
    let second : b ≡ flats_text g [] = cc in
    let one : f ≡ g = flats_same f g (sym first ∙ same ∙ second) in
    (g, sym y, sym x ∙ ap (λ (z : Flats). Some z) one)
both_flats N id kept code (Some f) None a b x y e d same = absurd (cc)
both_flats N id kept code None p a b x y e d same = absurd (cc)

pub flats_told : (N : List Node) (id : ℕ) (kept code : SendCode) (told : Bool) (a b : List ℕ) → Some a ≡ flat_text N id kept
    → Some b ≡ flat_text N id code → ((told ≡ true) ↔ (a ≡ b)) → (told ≡ true) ↔ HaveOneFlat N id kept code
flats_told N id kept code told a b e d is = (
  λ t. both_flats N id kept code (flat N id kept) (flat N id code) a b refl refl e d (is.0 t),
  λ h. is.1 (flat_is (flat N id kept) a h.0 e h.2 ∙ sym (flat_is (flat N id code) b h.0 d h.1)),
)
