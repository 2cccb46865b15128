-- Exceptions that are found by their names, by induction on the exceptions and on the operations.
use Rattle.std.proofs.Common.{◌≡◌, true, ℕ, zero, suc, ◌+◌, ◌<◌, ◌≤◌, List, [], ◌∷◌, ◌++◌, length, map, drop, take, get_or, Option, None, Some, String, refl, ap, sym, ◌∙◌, subst, append_assoc, append-nil, arith}
use Rattle.std.specs.Prelude.{if◌then◌else◌, slice_index_or}
use Rattle.std.specs.BTreeMap.{BTreeMap, get_by_text}
use Rattle.std.specs.Str.{bytes_eq}
use Rattle.std.proofs.lemmas.List.{map-append, take_more}
use Rattle.wire_def.specs.declared.encoding.Back.{Back}
use Rattle.aoi.specs.declared.interfaces.Interface.{Interface}
use Rattle.aoi.specs.declared.interfaces.Operation.{Operation}
use Rattle.aoi.specs.declared.interfaces.Raise.{Raise}
use Rattle.aoi.specs.Plain.{PlainRaise, PlainOperation, PlainInterface, plain_raise, plain_operation, plain_interface}
use Rattle.pres.specs.Offers.{gets_null}
use Rattle.pres.specs.Raises.{FindEach, FindMore, FindsRaises, names_in, number_from, raise_from, raises_of, sources, sources_of}
use Rattle.pres.specs.Tables.{text_of}

-- ---- the exceptions of an operation

-- a map that finds the names from a place on
pub record FindsFrom {Y : Type 0} (names : List (List ℕ)) (n : ℕ) (m : BTreeMap (String Y) ℕ) : Type 0 where
  pub within : n ≤ length names
  pub found : (s : List ℕ) → get_by_text m s ≡ number_from s (suc n) (drop n names)

-- exceptions are found by their names
pub named : (rs : List PlainRaise) (k : ℕ) (s : List ℕ) → number_from s k (names_in rs) ≡ raise_from s k rs
named [] k s = refl
named (r ∷ rs) k s = ap (λ (z : Option ℕ). if bytes_eq (text_of r.name) s then Some k else z) (named rs (suc k) s)

-- a table of the names of exceptions finds them
pub table_named : (rs : List PlainRaise) (names table : List (List ℕ)) → table ≡ names → names ≡ names_in rs → FindsRaises rs table
table_named rs names table e f = λ s. ap (λ (ns : List (List ℕ)). number_from s 1 ns) (e ∙ f) ∙ named rs 1 s

-- ---- the operations, one after another

-- one more map finds the exceptions of one more operation
find_one : (ops : List (Option PlainOperation)) (maps : List (List (List ℕ))) (op : Option PlainOperation)
    (m : List (List ℕ)) → FindEach ops maps → FindsRaises (raises_of op) m → FindEach (ops ++ op ∷ []) (maps ++ m ∷ [])
find_one [] [] op m h g = (g, tt)
find_one [] (x ∷ maps) op m h g = absurd h
find_one (o ∷ ops) [] op m h g = absurd h
find_one (o ∷ ops) (x ∷ maps) op m h g = (h.0, find_one ops maps op m h.1 g)

-- one more map, for one more operation
more_one : (op : Option PlainOperation) (m : List (List ℕ)) (old new : List (List (List ℕ)))
    → FindsRaises (raises_of op) m → new ≡ old ++ m ∷ [] → FindMore (op ∷ []) old new
more_one op m old new g e = record {
  found = λ before h. subst (λ (l : List (List (List ℕ))). FindEach (before ++ op ∷ []) l) (sym e) (find_one before old op m h g);
}

-- some operations, and then others
more_trans : (xs ys : List (Option PlainOperation)) (old now new : List (List (List ℕ)))
    → FindMore xs old now → FindMore ys now new → FindMore (xs ++ ys) old new
more_trans xs ys old now new f g = record {
  found = λ before h. subst (λ (l : List (Option PlainOperation)). FindEach l new) (append_assoc before xs ys)
      (g.found (before ++ xs) (f.found before h));
}

-- the procedure that an interface gets
pub gotten_more : (b : Back) (i : PlainInterface) (m : List (List ℕ)) (old new : List (List (List ℕ)))
    → true ≡ gets_null b i → m ≡ [] → new ≡ old ++ m ∷ [] → FindMore (if gets_null b i then None ∷ [] else []) old new
gotten_more b i m old new e empty put = rw (← e) (more_one None m old new (λ s. rw empty refl) put)

-- operations as their file has them
abbrev pub own : List Operation → List (Option PlainOperation)
own ops = map (λ (op : PlainOperation). Some op) (map plain_operation ops)

-- those of a list, and then those of another
own-append : (xs ys : List Operation) → own (xs ++ ys) ≡ own xs ++ own ys
own-append [] ys = refl
own-append (x ∷ xs) ys = ap (λ z. Some (plain_operation x) ∷ z) (own-append xs ys)

-- one more operation of an interface
pub operation_more : (ops : List Operation) (i : ℕ) (op : Operation) (rs : List Raise) (m : List (List ℕ))
    (old now new : List (List (List ℕ))) → i < length ops → op ≡ get_or ops i op → rs ≡ op.raises
    → FindsRaises (map plain_raise rs) m → new ≡ now ++ m ∷ [] → FindMore (own (take i ops)) old now
    → FindMore (own (take (i + 1) ops)) old new
operation_more ops i op rs m old now new there is rs_are g e f =
    let here : FindsRaises (raises_of (Some (plain_operation op))) m =
    subst (λ (l : List Raise). FindsRaises (map plain_raise l) m) rs_are g in
    let cut : take (i + 1) ops ≡ take i ops ++ op ∷ [] =
    take_more ops i op there ∙ ap (λ (z : Operation). take i ops ++ z ∷ []) (sym is) in
    subst (λ (l : List (Option PlainOperation)). FindMore l old new) (sym (ap own cut ∙ own-append (take i ops) (op ∷ [])))
    (more_trans (own (take i ops)) (Some (plain_operation op) ∷ []) old now new f (more_one (Some (plain_operation op)) m now new here e))

-- those of interfaces, and then those of others
sources-append : (b : Back) (xs ys : List PlainInterface) → sources b (xs ++ ys) ≡ sources b xs ++ sources b ys
sources-append b [] ys = refl
sources-append b (x ∷ xs) ys =
    ap (λ z. sources_of b x ++ z) (sources-append b xs ys) ∙ sym (append_assoc (sources_of b x) (sources b xs) (sources b ys))

-- one more interface
pub interface_more : (b : Back) (is : List Interface) (k : ℕ) (i : Interface) (old now new : List (List (List ℕ)))
    → k < length is → i ≡ get_or is k i → FindMore (sources_of b (plain_interface i)) now new
    → FindMore (sources b (map plain_interface (take k is))) old now
    → FindMore (sources b (map plain_interface (take (k + 1) is))) old new
interface_more b is k i old now new there at g f =
    let cut : take (k + 1) is ≡ take k is ++ i ∷ [] =
    take_more is k i there ∙ ap (λ (z : Interface). take k is ++ z ∷ []) (sym at) in
    let all : sources b (map plain_interface (take (k + 1) is))
    ≡ sources b (map plain_interface (take k is)) ++ sources_of b (plain_interface i) =
    ap (λ (l : List Interface). sources b (map plain_interface l)) cut
    ∙ ap (sources b) (map-append plain_interface (take k is) (i ∷ []))
    ∙ sources-append b (map plain_interface (take k is)) (plain_interface i ∷ [])
    ∙ ap (λ z. sources b (map plain_interface (take k is)) ++ z) (append-nil (sources_of b (plain_interface i))) in
    subst (λ (l : List (Option PlainOperation)). FindMore l old new) (sym all)
    (more_trans (sources b (map plain_interface (take k is))) (sources_of b (plain_interface i)) old now new f g)

-- all interfaces, where no map was there
pub all_found : (b : Back) (is js : List Interface) (old new : List (List (List ℕ))) → js ≡ is → old ≡ []
    → FindMore (sources b (map plain_interface js)) old new → FindEach (sources b (map plain_interface is)) new
all_found b is js old new e none f =
    let more : FindMore (sources b (map plain_interface is)) [] new =
    subst (λ (l : List (List (List ℕ))). FindMore (sources b (map plain_interface is)) l new) none
    (subst (λ (l : List Interface). FindMore (sources b (map plain_interface l)) old new) e f) in
    more.found [] tt

-- ---- the exceptions of the operation of a number

-- the map of a number finds the exceptions of the operation of the number
found_at : (ops : List (Option PlainOperation)) (maps : List (List (List ℕ))) (k : ℕ) (m : List (List ℕ))
    → FindEach ops maps → k < length maps → m ≡ get_or maps k m → FindsRaises (raises_of (slice_index_or ops k None)) m
found_at [] [] k m f h is = absurd (omega (arith, h))
found_at [] (x ∷ maps) k m f h is = absurd f
found_at (o ∷ ops) [] k m f h is = absurd f
found_at (o ∷ ops) (x ∷ maps) zero m f h is = subst (λ (z : List (List ℕ)). FindsRaises (raises_of o) z) (sym is) f.0
found_at (o ∷ ops) (x ∷ maps) (suc k) m f h is = found_at ops maps k m f.1 (omega (arith, h)) is

-- an operation without a map raises nothing
none_past : (ops : List (Option PlainOperation)) (maps : List (List (List ℕ))) (k : ℕ) → FindEach ops maps
    → length maps ≤ k → raises_of (slice_index_or ops k None) ≡ []
none_past [] [] k f h = refl
none_past [] (x ∷ maps) k f h = absurd f
none_past (o ∷ ops) [] k f h = absurd f
none_past (o ∷ ops) (x ∷ maps) zero f h = absurd (omega (arith, h))
none_past (o ∷ ops) (x ∷ maps) (suc k) f h = none_past ops maps k f.1 (omega (arith, h))

-- the number of a name among the exceptions of the operation of a number
pub raise_at : (ops : List (Option PlainOperation)) (maps all : List (List (List ℕ))) (k : ℕ)
    (m : List (List ℕ)) (s : List ℕ) → FindEach ops maps → all ≡ maps → k < length all → m ≡ get_or all k m
    → number_from s 1 m ≡ raise_from s 1 (raises_of (slice_index_or ops k None))
raise_at ops maps all k m s f same h is =
    found_at ops all k m (subst (λ (l : List (List (List ℕ))). FindEach ops l) (sym same) f) h is s

-- after the last map no name is found
pub raise_past : (ops : List (Option PlainOperation)) (maps all : List (List (List ℕ))) (k : ℕ) (s : List ℕ)
    → FindEach ops maps → all ≡ maps → length all ≤ k → None ≡ raise_from s 1 (raises_of (slice_index_or ops k None))
raise_past ops maps all k s f same h =
    ap (λ (l : List PlainRaise). raise_from s 1 l) (sym (none_past ops maps k f (omega (arith, h, ap length same))))
