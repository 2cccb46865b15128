-- Calls noted one after the other, by induction on the calls and on the list of nodes.
use Rattle.std.proofs.Common.{◌≡◌, ℕ, zero, suc, ◌+◌, ◌-◌, ◌<◌, ◌≤◌, ℤ, Bool, true, false, refl, sym, ap, ◌∙◌, arith, List, [], ◌∷◌, ◌++◌, length, map, drop, get_or, set, replicate, subst, Option, Some, None, option_map, nat_lt, nat_eq, if◌then◌else◌}
use Rattle.std.proofs.Math.ListN.{drop_of_length-le}
use Rattle.std.proofs.lemmas.Bool.{ltb-true, lt-ltb}
use Rattle.std.proofs.lemmas.List.{length-map}
use Rattle.mint.specs.declared.node.Node.{Node}
use Rattle.cast_stub.specs.Parts.{on_some}
use Rattle.cast_stub.specs.declared.send.SendOp.{SendOp}
use Rattle.cast_stub.specs.Block.{Block, Cases, Piece, op_seen, code_seen, cases_seen}
use Rattle.stub_flat.specs.Places.{Spot, arm_spot, rest_spot}
use Rattle.stub_flat.specs.Flat.{Called, Spots, all_noted, calls, calls_of_known, found_in, noted, spots, unknown, way_calls}
use Rattle.stub_compare.specs.CompareTold.{IsNotedThrough, IsTold, body_calls}
use Rattle.stub_compare.proofs.CompareLists.{first_of, first_or, one_left}
use Rattle.stub_compare.proofs.CompareOps.{absent_told, told_absent}
use Rattle.stub_compare.proofs.CompareLaying.{there_told, told_there}

then_noted : (o : Option Spots) (a b : List Called)
    → ((us : Spots) → all_noted (a ++ b) us ≡ on_some (all_noted a us) (all_noted b))
    → on_some o (all_noted (a ++ b)) ≡ on_some (on_some o (all_noted a)) (all_noted b)
then_noted None a b h = refl
then_noted (Some us) a b h = h us

-- calls noted after others
pub noted_then : (a b : List Called) (ts : Spots) → all_noted (a ++ b) ts ≡ on_some (all_noted a ts) (all_noted b)
noted_then [] b ts = refl
noted_then (c ∷ a) b ts = then_noted (noted c ts) a b (λ us. noted_then a b us)

unless : (b : Bool) (ts : Spots) → (b ≡ true → ⊥) → (if b then None else Some ts) ≡ Some ts
unless true ts h = absurd (h refl)
unless false ts h = refl

-- a call of no code of the list
pub noted_beyond : (k : ℕ) (s : Spot) (ts : Spots) → length ts ≤ k → noted (k, s) ts ≡ Some ts
noted_beyond k s [] le = refl
noted_beyond k None (t ∷ ts) le = unless (nat_lt k (length (t ∷ ts))) (t ∷ ts) (λ e. omega (arith, ltb-true k (length (t ∷ ts)) e, le))
noted_beyond zero (Some n) (t ∷ ts) le = absurd (omega (arith, le))
noted_beyond (suc k) (Some n) (t ∷ ts) le = ap (λ o. option_map (λ us. t ∷ us) o) (noted_beyond k (Some n) ts (omega (arith, le)))

-- a code that has no node yet
pub noted_free : (k n : ℕ) (ts : Spots) → k < length ts → get_or ts k None ≡ None → noted (k, Some n) ts ≡ Some (set ts k (Some n))
noted_free k n [] lt e = absurd (omega arith)
noted_free zero n (None ∷ ts) lt e = refl
noted_free zero n (Some m ∷ ts) lt e = absurd (cc)
noted_free (suc k) n (t ∷ ts) lt e = ap (λ o. option_map (λ us. t ∷ us) o) (noted_free k n ts (omega (arith, lt)) e)

-- once a round adds nothing, no later one does
pub found_stays : (r : ℕ) (N : List Node) (bs : List Block) (ts : Spots) → all_noted (calls_of_known N bs ts) ts ≡ Some ts
    → found_in r N bs ts ≡ Some ts
found_stays zero N bs ts e = refl
found_stays (suc r) N bs ts e = ap (λ o. on_some o (found_in r N bs)) e ∙ found_stays r N bs ts e

-- one round
pub found_next : (r : ℕ) (N : List Node) (bs : List Block) (ts us : Spots) → all_noted (calls_of_known N bs ts) ts ≡ Some us
    → found_in (suc r) N bs ts ≡ found_in r N bs us
found_next r N bs ts us e = ap (λ o. on_some o (found_in r N bs)) e

-- ---- one call

-- a code that has a node
noted_node : (k n m : ℕ) (ts : Spots) → k < length ts → get_or ts k None ≡ Some m
    → noted (k, Some n) ts ≡ (if nat_eq n m then Some ts else None)
noted_node k n m [] lt e = absurd (omega arith)
noted_node zero n m (None ∷ ts) lt e = absurd (cc)
noted_node zero n m (Some x ∷ ts) lt e =
    let same : x ≡ m = cc in ap (λ y. if nat_eq n y then Some (Some y ∷ ts) else None) same
    ∙ ap (λ y. if nat_eq n m then Some (Some y ∷ ts) else None) (sym same)
noted_node (suc k) n m (t ∷ ts) lt e =
    ap (λ o. option_map (λ us. t ∷ us) o) (noted_node k n m ts (omega (arith, lt)) e) ∙ chosen (nat_eq n m) where
      chosen : (b : Bool) → option_map (λ us. t ∷ us) (if b then Some ts else None) ≡ (if b then Some (t ∷ ts) else None)
      chosen true = refl
      chosen false = refl

told_chosen : (b : Bool) (ts : Spots) → IsTold b (if b then Some ts else None) (λ us. us ≡ ts)
told_chosen true ts = refl
told_chosen false ts = tt

pub note_node : (b : Bool) (k n m : ℕ) (ts : Spots) → k < length ts → get_or ts k None ≡ Some m → b ≡ nat_eq n m
    → IsTold b (noted (k, Some n) ts) (λ us. us ≡ ts)
note_node b k n m ts lt e is =
    subst (λ (x : Bool). IsTold x (noted (k, Some n) ts) (λ us. us ≡ ts)) (sym is)
    (subst (λ (o : Option Spots). IsTold (nat_eq n m) o (λ us. us ≡ ts)) (sym (noted_node k n m ts lt e)) (told_chosen (nat_eq n m) ts))

pub note_beyond : (k : ℕ) (s : Spot) (ts : Spots) → length ts ≤ k → IsTold true (noted (k, s) ts) (λ us. us ≡ ts)
note_beyond k s ts le = told_there (noted (k, s) ts) ts (noted_beyond k s ts le)

pub note_free : (k n : ℕ) (ts us : Spots) → k < length ts → get_or ts k None ≡ None → us ≡ set ts k (Some n)
    → IsTold true (noted (k, Some n) ts) (λ vs. vs ≡ us)
note_free k n ts us lt e is = told_there (noted (k, Some n) ts) us (noted_free k n ts lt e ∙ ap (λ (l : Spots). Some l) (sym is))

-- a call whose place is not known
pub note_unknown : (k : ℕ) (ts us : Spots) → k < length ts → IsTold false (noted (k, None) ts) (λ vs. vs ≡ us)
note_unknown k [] us lt = absurd (omega arith)
note_unknown k (t ∷ ts) us lt =
    subst (λ (b : Bool). IsTold false (if b then None else Some (t ∷ ts)) (λ vs. vs ≡ us)) (sym (lt-ltb k (length (t ∷ ts)) lt)) tt

-- ---- operations

-- calls before what follows them, where the operation's calls are these
pub through : (told : Bool) (N : List Node) (s : Spot) (op : SendOp) (p : Piece) (a : List Called) (ts us : Spots) → op_seen op ≡ p
    → ((r : Block) → calls N s (p r) ≡ a ++ calls N s r) → IsTold told (all_noted a ts) (λ vs. vs ≡ us)
    → IsNotedThrough told N s (op_seen op) ts us
through told N s op p a ts us seen is h = subst (λ (z : Piece). IsNotedThrough told N s z ts us) (sym seen) (made told h) where
  first : (r : Block) → all_noted (calls N s (p r)) ts ≡ on_some (all_noted a ts) (all_noted (calls N s r))
  first r = ap (λ (l : List Called). all_noted l ts) (is r) ∙ noted_then a (calls N s r) ts

  made : (b : Bool) → IsTold b (all_noted a ts) (λ vs. vs ≡ us) → IsNotedThrough b N s p ts us
  made true x = λ r. first r ∙ ap (λ (o : Option Spots). on_some o (all_noted (calls N s r))) (there_told (all_noted a ts) us x)
  made false x = λ r. first r
      ∙ ap (λ (o : Option Spots). on_some o (all_noted (calls N s r))) (absent_told (all_noted a ts) (λ vs. vs ≡ us) x)

-- an operation without calls
pub no_calls : (N : List Node) (s : Spot) (op : SendOp) (p : Piece) (ts : Spots) → op_seen op ≡ p
    → ((r : Block) → calls N s (p r) ≡ calls N s r)
    → IsNotedThrough true N s (op_seen op) ts ts
no_calls N s op p ts seen is = subst (λ (z : Piece). IsNotedThrough true N s z ts ts) (sym seen)
    (λ r. ap (λ (l : List Called). all_noted l ts) (is r))

-- one call
one_noted : (told : Bool) (c : Called) (ts us : Spots) → IsTold told (noted c ts) (λ vs. vs ≡ us)
    → IsTold told (all_noted (c ∷ []) ts) (λ vs. vs ≡ us)
one_noted told c ts us h = subst (λ (o : Option Spots). IsTold told o (λ vs. vs ≡ us)) (one (noted c ts)) h where
  one : (o : Option Spots) → o ≡ on_some o (all_noted [])
  one None = refl
  one (Some vs) = refl

pub call_noted : (told : Bool) (N : List Node) (s : Spot) (op : SendOp) (p : Piece) (c : Called) (ts us : Spots) → op_seen op ≡ p
    → ((r : Block) → calls N s (p r) ≡ c ∷ calls N s r) → IsTold told (noted c ts) (λ vs. vs ≡ us)
    → IsNotedThrough told N s (op_seen op) ts us
call_noted told N s op p c ts us seen is h = through told N s op p (c ∷ []) ts us seen is (one_noted told c ts us h)

-- a fact of a place, at the same place
pub noted_at : {A : Type 0} (f : A → List Called) (x y : A) (told : Bool) (ts us : Spots) → x ≡ y
    → IsTold told (all_noted (f x) ts) (λ vs. vs ≡ us) → IsTold told (all_noted (f y) ts) (λ vs. vs ≡ us)
noted_at {A} f x y told ts us e h = subst (λ (z : A). IsTold told (all_noted (f z) ts) (λ vs. vs ≡ us)) e h

-- ---- one operation, body or code more

-- what is left to be noted
abbrev pub IsLeft : List Called → List Called → Spots → Spots → Type 0
IsLeft all rest old now = all_noted all old ≡ all_noted rest now

pub left_one : (N : List Node) (s : Spot) (all : List Called) (xs : List SendOp) (i : ℕ) (op : SendOp) (told : Bool) (old now next : Spots)
    → i < length xs → op ≡ get_or xs i op → told ≡ true → IsLeft all (calls N s (code_seen (drop i xs))) old now
    → IsNotedThrough told N s (op_seen op) now next → IsLeft all (calls N s (code_seen (drop (i + 1) xs))) old next
left_one N s all xs i op told old now next less at is left put =
    left ∙ ap (λ (l : List SendOp). all_noted (calls N s (code_seen l)) now) (first_of xs i op less at)
    ∙ (subst (λ (b : Bool). IsNotedThrough b N s (op_seen op) now next) is put) (code_seen (drop (i + 1) xs))

pub left_nothing : (N : List Node) (s : Spot) (ops xs : List SendOp) (i : ℕ) (op : SendOp) (told : Bool) (old now next new : Spots)
    → i < length xs → op ≡ get_or xs i op → told ≡ false → xs ≡ ops
    → IsLeft (calls N s (code_seen xs)) (calls N s (code_seen (drop i xs))) old now
    → IsNotedThrough told N s (op_seen op) now next → IsTold false (all_noted (calls N s (code_seen ops)) old) (λ vs. vs ≡ new)
left_nothing N s ops xs i op told old now next new less at is same left put =
    told_absent (all_noted (calls N s (code_seen ops)) old) (λ vs. vs ≡ new)
    (ap (λ (l : List SendOp). all_noted (calls N s (code_seen l)) old) (sym same) ∙ left
    ∙ ap (λ (l : List SendOp). all_noted (calls N s (code_seen l)) now) (first_of xs i op less at)
    ∙ (subst (λ (b : Bool). IsNotedThrough b N s (op_seen op) now next) is put) (code_seen (drop (i + 1) xs)))

pub left_none : (N : List Node) (s : Spot) (ops xs : List SendOp) (i : ℕ) (old now : Spots) → length xs ≤ i → xs ≡ ops
    → IsLeft (calls N s (code_seen xs)) (calls N s (code_seen (drop i xs))) old now
    → IsTold true (all_noted (calls N s (code_seen ops)) old) (λ vs. vs ≡ now)
left_none N s ops xs i old now le same left =
    told_there (all_noted (calls N s (code_seen ops)) old) now
    (ap (λ (l : List SendOp). all_noted (calls N s (code_seen l)) old) (sym same) ∙ left
    ∙ ap (λ (l : List SendOp). all_noted (calls N s (code_seen l)) now) (drop_of_length-le xs le))

-- calls of something, and then of what is left
pub then_left : (all a b : List Called) (told : Bool) (old now next : Spots) → told ≡ true → IsLeft all (a ++ b) old now
    → IsTold told (all_noted a now) (λ vs. vs ≡ next) → IsLeft all b old next
then_left all a b told old now next is left put =
    left ∙ noted_then a b now
    ∙ ap (λ (o : Option Spots). on_some o (all_noted b))
    (there_told (all_noted a now) next (subst (λ (x : Bool). IsTold x (all_noted a now) (λ vs. vs ≡ next)) is put))

pub then_nothing : (all a b : List Called) (told : Bool) (old now next new : Spots) → told ≡ false → IsLeft all (a ++ b) old now
    → IsTold told (all_noted a now) (λ vs. vs ≡ next) → IsTold false (all_noted all old) (λ vs. vs ≡ new)
then_nothing all a b told old now next new is left put =
    told_absent (all_noted all old) (λ vs. vs ≡ new) (left ∙ noted_then a b now
    ∙ ap (λ (o : Option Spots). on_some o (all_noted b))
    (absent_told (all_noted a now) (λ vs. vs ≡ next) (subst (λ (x : Bool). IsTold x (all_noted a now) (λ vs. vs ≡ next)) is put)))

pub then_last : (all a : List Called) (told : Bool) (old now new : Spots) → IsLeft all a old now
    → IsTold told (all_noted a now) (λ vs. vs ≡ new) → IsTold told (all_noted all old) (λ vs. vs ≡ new)
then_last all a told old now new left put = subst (λ (o : Option Spots). IsTold told o (λ vs. vs ≡ new)) (sym left) put

-- the calls of the bodies of a switch that are left
pub ways_open : (N : List Node) (n : Option Node) (all : Cases) (xs : List (ℤ × List SendOp)) (last : Option (List SendOp)) (i : ℕ)
    (z : ℤ × List SendOp) (spot : Spot) → i < length xs → z ≡ get_or xs i z → spot ≡ arm_spot n z.0
    → way_calls N n all (cases_seen (drop i xs) last) ≡ calls N spot (code_seen z.1) ++ way_calls N n all
    (cases_seen (drop (i + 1) xs) last)
ways_open N n all xs last i z spot less at place =
    ap (λ (l : List (ℤ × List SendOp)). way_calls N n all (cases_seen l last)) (first_of xs i z less at)
    ∙ ap (λ (x : Spot). calls N x (code_seen z.1) ++ way_calls N n all (cases_seen (drop (i + 1) xs) last)) (sym place)

pub ways_last : (N : List Node) (n : Option Node) (all : Cases) (xs : List (ℤ × List SendOp)) (last : Option (List SendOp)) (i : ℕ)
    (body : List SendOp) (spot : Spot) → length xs ≤ i → last ≡ Some body → spot ≡ rest_spot n all
    → way_calls N n all (cases_seen (drop i xs) last) ≡ calls N spot (code_seen body)
ways_last N n all xs last i body spot le is place =
    ap (λ (l : List (ℤ × List SendOp)). way_calls N n all (cases_seen l last)) (drop_of_length-le xs le)
    ∙ ap (λ (o : Option (List SendOp)). way_calls N n all (cases_seen [] o)) is
    ∙ ap (λ (x : Spot). calls N x (code_seen body)) (sym place)

pub ways_end : (N : List Node) (n : Option Node) (all : Cases) (xs : List (ℤ × List SendOp)) (last : Option (List SendOp)) (i : ℕ)
    → length xs ≤ i → last ≡ None → way_calls N n all (cases_seen (drop i xs) last) ≡ []
ways_end N n all xs last i le is =
    ap (λ (l : List (ℤ × List SendOp)). way_calls N n all (cases_seen l last)) (drop_of_length-le xs le)
    ∙ ap (λ (o : Option (List SendOp)). way_calls N n all (cases_seen [] o)) is

-- the bodies as the loop goes over them
pub all_ways : (N : List Node) (n : Option Node) (all : Cases) (xs cases : List (ℤ × List SendOp)) (last : Option (List SendOp))
    (told : Bool)
    (old new : Spots) → xs ≡ cases → IsTold told (all_noted (way_calls N n all (cases_seen xs last)) old) (λ vs. vs ≡ new)
    → IsTold told (all_noted (way_calls N n all (cases_seen cases last)) old) (λ vs. vs ≡ new)
all_ways N n all xs cases last told old new same h =
    subst (λ (l : List (ℤ × List SendOp)). IsTold told (all_noted (way_calls N n all (cases_seen l last)) old) (λ vs. vs ≡ new)) same h

-- nothing noted
pub none_left : (all : List Called) (old now : Spots) → IsLeft all [] old now → IsTold true (all_noted all old) (λ vs. vs ≡ now)
none_left all old now left = told_there (all_noted all old) now left

-- ---- codes of a list

known_calls : (N : List Node) (b : Block) (bs : List Block) (t : Spot) (ts : Spots)
    → calls_of_known N (b ∷ bs) (t ∷ ts) ≡ body_calls N t b ++ calls_of_known N bs ts
known_calls N b bs None ts = refl
known_calls N b bs (Some n) ts = refl

pub known_open : (N : List Node) (bodies : List (List SendOp)) (known : Spots) (i : ℕ) (b : List SendOp) (t : Spot) → i < length bodies
    → i < length known → b ≡ get_or bodies i b → t ≡ get_or known i None
    → calls_of_known N (map code_seen (drop i bodies)) (drop i known)
    ≡ body_calls N t (code_seen b) ++ calls_of_known N (map code_seen (drop (i + 1) bodies)) (drop (i + 1) known)
known_open N bodies known i b t less short at there =
    ap (λ (l : List (List SendOp)). calls_of_known N (map code_seen l) (drop i known)) (first_of bodies i b less at)
    ∙ ap (λ (l : Spots). calls_of_known N (map code_seen (b ∷ drop (i + 1) bodies)) l) (first_or known i t None short there)
    ∙ known_calls N (code_seen b) (map code_seen (drop (i + 1) bodies)) t (drop (i + 1) known)

no_known : (N : List Node) (ts : Spots) → calls_of_known N [] ts ≡ []
no_known N [] = refl
no_known N (t ∷ ts) = refl

pub known_end : (N : List Node) (bodies : List (List SendOp)) (known : Spots) (i : ℕ) → length bodies ≤ i
    → calls_of_known N (map code_seen (drop i bodies)) (drop i known) ≡ []
known_end N bodies known i le =
    ap (λ (l : List (List SendOp)). calls_of_known N (map code_seen l) (drop i known)) (drop_of_length-le bodies le)
    ∙ no_known N (drop i known)

pub body_known : (N : List Node) (s : Spot) (n : ℕ) (b : Block) → s ≡ Some n → body_calls N s b ≡ calls N s b
body_known N None n b e = absurd (cc)
body_known N (Some m) n b e = refl

pub body_unknown : (N : List Node) (s : Spot) (b : Block) → s ≡ None → body_calls N s b ≡ []
body_unknown N None b e = refl
body_unknown N (Some m) b e = absurd (cc)

-- ---- rounds

pub unknown_is : (bodies : List (List SendOp)) → replicate (length bodies) None ≡ unknown (map code_seen bodies)
unknown_is [] = refl
unknown_is (b ∷ bs) = ap (λ (l : Spots). None ∷ l) (unknown_is bs)

-- what the rounds that are left make of the nodes so far
abbrev pub RoundsLeft : List Node → ℕ → List SendOp → List (List SendOp) → ℕ → ℕ → Spots → Type 0
RoundsLeft N id ops bodies n i now =
    spots N (Some id) (code_seen ops) (map code_seen bodies) ≡ found_in (n - i) N (map code_seen bodies) now

pub rounds_all : (N : List Node) (id : ℕ) (ops : List SendOp) (bodies : List (List SendOp)) (n : ℕ) (told : Bool) (old now : Spots)
    → n ≡ length bodies → told ≡ true → old ≡ replicate n None
    → IsTold told (all_noted (calls N (Some id) (code_seen ops)) old) (λ vs. vs ≡ now) → RoundsLeft N id ops bodies n 0 now
rounds_all N id ops bodies n told old now long is none put =
    let bs = map code_seen bodies in
    let first = there_told (all_noted (calls N (Some id) (code_seen ops)) old) now
    (subst (λ (b : Bool). IsTold b (all_noted (calls N (Some id) (code_seen ops)) old) (λ vs. vs ≡ now)) is put) in
    let start : unknown bs ≡ old = sym (unknown_is bodies) ∙ ap (λ k. replicate k None) (sym long) ∙ sym none in
    let many : length bs ≡ n - 0 = length-map bodies code_seen ∙ sym long ∙ (let e : n ≡ n - 0 = omega arith in e) in
    ap (λ (o : Option Spots). on_some o (found_in (length bs) N bs)) (ap (all_noted (calls N (Some id) (code_seen ops))) start ∙ first)
    ∙ ap (λ k. found_in k N bs now) many

pub rounds_nothing : (N : List Node) (id : ℕ) (ops : List SendOp) (bodies : List (List SendOp)) (told : Bool) (old now : Spots)
    → told ≡ false → old ≡ replicate (length bodies) None
    → IsTold told (all_noted (calls N (Some id) (code_seen ops)) old) (λ vs. vs ≡ now)
    → None ≡ spots N (Some id) (code_seen ops) (map code_seen bodies)
rounds_nothing N id ops bodies told old now is none put =
    let bs = map code_seen bodies in
    let first = absent_told (all_noted (calls N (Some id) (code_seen ops)) old) (λ vs. vs ≡ now)
    (subst (λ (b : Bool). IsTold b (all_noted (calls N (Some id) (code_seen ops)) old) (λ vs. vs ≡ now)) is put) in
    let start : unknown bs ≡ old = sym (unknown_is bodies) ∙ sym none in
    sym (ap (λ (o : Option Spots). on_some o (found_in (length bs) N bs))
    (ap (all_noted (calls N (Some id) (code_seen ops))) start ∙ first))

round_step : (N : List Node) (bs : List Block) (n i : ℕ) (now : Spots) → i < n
    → found_in (n - i) N bs now ≡ on_some (all_noted (calls_of_known N bs now) now) (found_in (n - (i + 1)) N bs)
round_step N bs n i now less = ap (λ k. found_in k N bs now) (one_left n i less)

pub round_more : (N : List Node) (id : ℕ) (ops : List SendOp) (bodies : List (List SendOp)) (n i : ℕ) (now next : Spots) → i < n
    → RoundsLeft N id ops bodies n i now → Some next ≡ all_noted (calls_of_known N (map code_seen bodies) now) now
    → RoundsLeft N id ops bodies n (i + 1) next
round_more N id ops bodies n i now next less left is =
    left ∙ round_step N (map code_seen bodies) n i now less
    ∙ ap (λ (o : Option Spots). on_some o (found_in (n - (i + 1)) N (map code_seen bodies))) (sym is)

pub round_nothing : (N : List Node) (id : ℕ) (ops : List SendOp) (bodies : List (List SendOp)) (n i : ℕ) (now : Spots) → i < n
    → RoundsLeft N id ops bodies n i now → None ≡ all_noted (calls_of_known N (map code_seen bodies) now) now
    → None ≡ spots N (Some id) (code_seen ops) (map code_seen bodies)
round_nothing N id ops bodies n i now less left is =
    sym (left ∙ round_step N (map code_seen bodies) n i now less
    ∙ ap (λ (o : Option Spots). on_some o (found_in (n - (i + 1)) N (map code_seen bodies))) (sym is))

-- a round that adds nothing
pub round_same : (N : List Node) (id : ℕ) (ops : List SendOp) (bodies : List (List SendOp)) (n i : ℕ) (now next : Spots)
    → RoundsLeft N id ops bodies n i now → Some next ≡ all_noted (calls_of_known N (map code_seen bodies) now) now → now ≡ next
    → Some now ≡ spots N (Some id) (code_seen ops) (map code_seen bodies)
round_same N id ops bodies n i now next left is same =
    sym (left ∙ found_stays (n - i) N (map code_seen bodies) now (sym is ∙ ap (λ (l : Spots). Some l) (sym same)))

pub rounds_done : (N : List Node) (id : ℕ) (ops : List SendOp) (bodies : List (List SendOp)) (n i : ℕ) (now : Spots) → n ≤ i
    → RoundsLeft N id ops bodies n i now → Some now ≡ spots N (Some id) (code_seen ops) (map code_seen bodies)
rounds_done N id ops bodies n i now le left =
    let none : n - i ≡ 0 = omega arith in sym (left ∙ ap (λ k. found_in k N (map code_seen bodies) now) none)

-- calls that are the same, noted
pub opened : (a b : List Called) (ts : Spots) → a ≡ b → all_noted a ts ≡ all_noted b ts
opened a b ts e = ap (λ (l : List Called). all_noted l ts) e

-- a call of a place as it is found
pub call_at : (told : Bool) (x : Spot) (k : ℕ) (y : Spot) (ts us : Spots) → x ≡ y → IsTold told (noted (k, x) ts) (λ vs. vs ≡ us)
    → IsTold told (noted (k, y) ts) (λ vs. vs ≡ us)
call_at told x k y ts us e h = subst (λ (s : Spot). IsTold told (noted (k, s) ts) (λ vs. vs ≡ us)) e h

pub body_noted : (N : List Node) (s : Spot) (n : ℕ) (b : Block) (told : Bool) (ts us : Spots) → s ≡ Some n
    → IsTold told (all_noted (calls N s b) ts) (λ vs. vs ≡ us) → IsTold told (all_noted (body_calls N s b) ts) (λ vs. vs ≡ us)
body_noted N s n b told ts us e h =
    subst (λ (l : List Called). IsTold told (all_noted l ts) (λ vs. vs ≡ us)) (sym (body_known N s n b e)) h

pub body_kept : (N : List Node) (s : Spot) (b : Block) (ts : Spots) → s ≡ None
    → IsTold true (all_noted (body_calls N s b) ts) (λ vs. vs ≡ ts)
body_kept N s b ts e = subst (λ (l : List Called). IsTold true (all_noted l ts) (λ vs. vs ≡ ts)) (sym (body_unknown N s b e)) refl

pub known_all : (N : List Node) (bodies all : List (List SendOp)) (known : Spots) (told : Bool) (old new : Spots) → bodies ≡ all
    → IsTold told (all_noted (calls_of_known N (map code_seen bodies) known) old) (λ vs. vs ≡ new)
    → IsTold told (all_noted (calls_of_known N (map code_seen all) known) old) (λ vs. vs ≡ new)
known_all N bodies all known told old new same h =
    subst (λ (l : List (List SendOp)). IsTold told (all_noted (calls_of_known N (map code_seen l) known) old) (λ vs. vs ≡ new)) same h

-- one round over a copy of the nodes
pub round_found : (N : List Node) (bs : List Block) (now copy next : Spots) (told : Bool) → told ≡ true → copy ≡ now
    → IsTold told (all_noted (calls_of_known N bs now) copy) (λ vs. vs ≡ next) → Some next ≡ all_noted (calls_of_known N bs now) now
round_found N bs now copy next told yes_told same h =
    sym (ap (all_noted (calls_of_known N bs now)) (sym same)
    ∙ there_told (all_noted (calls_of_known N bs now) copy) next
    (subst (λ (b : Bool). IsTold b (all_noted (calls_of_known N bs now) copy) (λ vs. vs ≡ next)) yes_told h))

pub round_absent : (N : List Node) (bs : List Block) (now copy next : Spots) (told : Bool) → told ≡ false → copy ≡ now
    → IsTold told (all_noted (calls_of_known N bs now) copy) (λ vs. vs ≡ next) → None ≡ all_noted (calls_of_known N bs now) now
round_absent N bs now copy next told untold same h =
    sym (ap (all_noted (calls_of_known N bs now)) (sym same)
    ∙ absent_told (all_noted (calls_of_known N bs now) copy) (λ vs. vs ≡ next)
    (subst (λ (b : Bool). IsTold b (all_noted (calls_of_known N bs now) copy) (λ vs. vs ≡ next)) untold h))
