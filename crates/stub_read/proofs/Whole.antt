-- A text that begins with the text of a stub is read as its parts, by induction on the codes that calls name.
use Rattle.std.proofs.Common.{◌≡◌, ◌≢◌, ℕ, zero, suc, ◌+◌, ◌≤◌, Bool, true, false, not, ◌==◌, cond, ltb, eqb, List, [], ◌∷◌, ◌++◌, length, take, map, Option, Some, None, Result, Err, option_map, drop, refl, sym, ap, subst, ◌∙◌, append_assoc, arith, codes, length-append}
use Rattle.std.specs.List.{prefix_len, starts_with}
use Rattle.std.proofs.lemmas.Bool.{eqb-false}
use Rattle.std.proofs.lemmas.List.Elements.{All-nil, All-cons}
use Rattle.std.proofs.lemmas.List.{take-append-drop}
use Rattle.std.proofs.lemmas.Slice.Eq.{starts_is}
use Rattle.std.proofs.lemmas.Bool.Decides.{Decides-eqb}
use Rattle.kit_base.specs.Lines.{HasNoEnd}
use Rattle.cast_stub.specs.declared.send.SendOp.{SendOp}
use Rattle.cast_stub.specs.Block.{Block, stop, ensure, ensure_row, align, chunk, row_copy, row_swap, row_wide, each, switch, if_there, call, patch, Cases, no_default, default, case, code_seen}
use Rattle.cast_stub.specs.declared.put.Put.{Put}
use Rattle.stub_print.specs.Words.{numeral, integer, path_word, order_word, words, line, ended}
use Rattle.stub_print.specs.SendText.{put_words, puts_text, block_text, cases_text, subs_text, send_text}
use Rattle.stub_print.proofs.Numerals.{AreDigits, numeral_digits}
use Rattle.stub_read.specs.declared.errors.StubErr.{StubErr}
use Rattle.stub_read.specs.declared.errors.StubErr.TheVariants as faults
use Rattle.stub_read.specs.Reading.{Read, Reader, Fails, then_on, word_at, before, repeat}
use Rattle.stub_read.specs.Words.{parted_at, line_at}
use Rattle.stub_read.specs.Leads.{rest_lead_at, lead_at}
use Rattle.stub_read.specs.Operations.{end_line, ops_at}
use Rattle.stub_read.specs.Stubs.{deepest, NestsWithin, IsSmall, AllNest, AllSmall, IsStub, Begins, BeginsNone, sub_at, subs_at, Parts, parts_at}
use Rattle.stub_read.proofs.Loops.{ends_none, one_more, then_reads}
use Rattle.stub_read.proofs.Leaves.{line_reads, take_first}
use Rattle.stub_read.proofs.PutsRead.{before_reads, line_long}
use Rattle.stub_read.proofs.Lines.{block_long}
use Rattle.stub_read.proofs.OperationsRead.{ops_of, seen_ops, ops_read}
use Rattle.stub_read.proofs.Nesting.{IfRead, Always, Any, any_read, read_then, before_has, many_has, OpsNest, ops_nest, body_nests}
use Rattle.stub_read.proofs.Small.{OpsAreSmall, ops_small}

-- ---- a text and what follows it

words_append : (ws : List (List ℕ)) (t r : List ℕ) → words ws t ++ r ≡ words ws (t ++ r)
words_append [] t r = refl
words_append (w ∷ ws) t r =
    ap (λ z. 32 ∷ z) (append_assoc w (words ws t) r ∙ ap (λ z. w ++ z) (words_append ws t r))

line_append : (w : List ℕ) (ws : List (List ℕ)) (t u r : List ℕ) → t ++ r ≡ u → line w ws t ++ r ≡ line w ws u
line_append w ws t u r e =
    append_assoc w (words ws t) r ∙ ap (λ z. w ++ z) (words_append ws t r ∙ ap (words ws) e)

puts_append : (ps : List Put) (t u r : List ℕ) → t ++ r ≡ u → puts_text ps t ++ r ≡ puts_text ps u
puts_append [] t u r e = e
puts_append (p ∷ ps) t u r e = line_append (codes "at") (put_words p) (puts_text ps t) (puts_text ps u) r (puts_append ps t u r e)

mutual
  block_append : (b : Block) (t u r : List ℕ) → t ++ r ≡ u → block_text b t ++ r ≡ block_text b u
  block_append stop t u r e = e
  block_append (ensure n b) t u r e = line_append (codes "ensure") (numeral n ∷ []) _ (block_text b u) r (block_append b t u r e)
  block_append (ensure_row p n m b) t u r e =
      line_append (codes "ensure_row") (path_word p ∷ numeral n ∷ numeral m ∷ []) _ (block_text b u) r (block_append b t u r e)
  block_append (align a b) t u r e = line_append (codes "align") (numeral a ∷ []) _ (block_text b u) r (block_append b t u r e)
  block_append (chunk s ps b) t u r e =
      line_append (codes "chunk") (numeral s ∷ []) _ (puts_text ps (ended (block_text b u))) r
      (puts_append ps _ (ended (block_text b u)) r (line_append (codes "end") [] _ (block_text b u) r (block_append b t u r e)))
  block_append (row_copy p b) t u r e = line_append (codes "row_copy") (path_word p ∷ []) _ (block_text b u) r (block_append b t u r e)
  block_append (row_swap p b) t u r e = line_append (codes "row_swap") (path_word p ∷ []) _ (block_text b u) r (block_append b t u r e)
  block_append (row_wide p o b) t u r e =
      line_append (codes "row_wide") (path_word p ∷ order_word o ∷ []) _ (block_text b u) r (block_append b t u r e)
  block_append (each p a b) t u r e =
      line_append (codes "each") (path_word p ∷ []) _ (block_text a (ended (block_text b u))) r
      (block_append a _ (ended (block_text b u)) r (line_append (codes "end") [] _ (block_text b u) r (block_append b t u r e)))
  block_append (switch p cs b) t u r e =
      line_append (codes "switch") (path_word p ∷ []) _ (cases_text cs (ended (block_text b u))) r
      (cases_append cs _ (ended (block_text b u)) r (line_append (codes "end") [] _ (block_text b u) r (block_append b t u r e)))
  block_append (if_there p a b) t u r e =
      line_append (codes "some") (path_word p ∷ []) _ (block_text a (ended (block_text b u))) r
      (block_append a _ (ended (block_text b u)) r (line_append (codes "end") [] _ (block_text b u) r (block_append b t u r e)))
  block_append (call k p b) t u r e =
      line_append (codes "call") (numeral k ∷ path_word p ∷ []) _ (block_text b u) r (block_append b t u r e)
  block_append (patch a s o b) t u r e =
      line_append (codes "patch") (numeral a ∷ numeral s ∷ order_word o ∷ []) _ (block_text b u) r (block_append b t u r e)

  cases_append : (cs : Cases) (t u r : List ℕ) → t ++ r ≡ u → cases_text cs t ++ r ≡ cases_text cs u
  cases_append no_default t u r e = e
  cases_append (default b) t u r e = line_append (codes "default") [] _ (block_text b u) r (block_append b t u r e)
  cases_append (case n b cs) t u r e =
      line_append (codes "case") (integer n ∷ []) _ (block_text b (cases_text cs u)) r
      (block_append b _ (cases_text cs u) r (cases_append cs t u r e))

subs_append : (k : ℕ) (bs : List Block) (t u r : List ℕ) → t ++ r ≡ u → subs_text k bs t ++ r ≡ subs_text k bs u
subs_append k [] t u r e = e
subs_append k (b ∷ bs) t u r e =
    line_append (codes "sub") (numeral k ∷ []) _ (block_text b (ended (subs_text (suc k) bs u))) r
    (block_append b _ (ended (subs_text (suc k) bs u)) r
    (line_append (codes "end") [] _ (subs_text (suc k) bs u) r (subs_append (suc k) bs t u r e)))

-- the text of a stub, and then what follows
abbrev pub stub_text : List ℕ → Block → List Block → List ℕ → List ℕ
stub_text n a subs rest = line (codes "send") (n ∷ []) (block_text a (subs_text 0 subs (ended rest)))

pub text_then : (n : List ℕ) (a : Block) (subs : List Block) (rest : List ℕ) → send_text n a subs ++ rest ≡ stub_text n a subs rest
text_then n a subs rest =
    line_append (codes "send") (n ∷ []) _ (block_text a (subs_text 0 subs (ended rest))) rest
    (block_append a _ (subs_text 0 subs (ended rest)) rest
    (subs_append 0 subs _ (ended rest) rest (line_append (codes "end") [] [] rest rest refl)))

-- ---- codes that calls name

no_end_in : (w : List ℕ) → AreDigits w → HasNoEnd w
no_end_in [] h = All-nil (λ x. x ≢ 10)
no_end_in (c ∷ w) h = All-cons (λ x. x ≢ 10) c w (λ e. absurd (omega (arith, h.0, e))) (no_end_in w h.1)

subs_lead_none : (k : ℕ) (bs : List Block) (t : List ℕ) → lead_at (subs_text k bs (ended t)) ≡ None
unfolding rest_lead_at
subs_lead_none k [] t = refl
subs_lead_none k (b ∷ bs) t = refl

code_reads : (b : Block) (t : List ℕ) → NestsWithin deepest b → IsSmall b → lead_at t ≡ None
    → ops_at (suc deepest) (block_text b t) ≡ Some (ops_of b, t)
code_reads b t h s ends = ops_read b deepest t h s ends (length (block_text b t)) (omega arith)

sub_reads : (k : ℕ) (b : Block) (t : List ℕ) → NestsWithin deepest b → IsSmall b
    → sub_at (numeral k ++ 10 ∷ block_text b (ended t)) ≡ Some (ops_of b, t)
sub_reads k b t h s =
    then_reads (line_at (numeral k ++ 10 ∷ block_text b (ended t))) (λ w us. before (ops_at (suc deepest)) end_line us) (numeral k)
    (block_text b (ended t)) (Some (ops_of b, t))
    (line_reads (numeral k) (block_text b (ended t)) (no_end_in (numeral k) (numeral_digits k)))
    (before_reads (ops_at (suc deepest)) end_line (block_text b (ended t)) (ended t) t (ops_of b) (code_reads b (ended t) h s
    (subs_lead_none 0 [] t)) refl)

subs_steps : (bs : List Block) (k : ℕ) (t : List ℕ) (m : ℕ) → AllNest bs → AllSmall bs → length (subs_text k bs (ended t)) ≤ m
    → repeat (word_at (codes "sub ")) (λ u. sub_at) m (subs_text k bs (ended t)) ≡ Some (map ops_of bs, ended t)
subs_steps [] k t m h s l = ends_none (word_at (codes "sub ")) (λ u. sub_at) m (ended t) refl
subs_steps (b ∷ bs) k t zero h s l =
    absurd (omega (arith, line_long (codes "sub") (numeral k ∷ []) (block_text b (ended (subs_text (suc k) bs (ended t))))))
subs_steps (b ∷ bs) k t (suc m) h s l =
    let one = sub_reads k b (subs_text (suc k) bs (ended t)) h.0 s.0 in
    let fits : length (subs_text (suc k) bs (ended t)) ≤ m = omega (
      arith,
      line_long (codes "sub") (numeral k ∷ []) (block_text b (ended (subs_text (suc k) bs (ended t)))),
      block_long b (ended (subs_text (suc k) bs (ended t))),
      line_long (codes "end") [] (subs_text (suc k) bs (ended t)),
    ) in
    one_more (word_at (codes "sub ")) (λ u. sub_at) m (subs_text k (b ∷ bs) (ended t))
    (numeral k ++ 10 ∷ block_text b (ended (subs_text (suc k) bs (ended t)))) (subs_text (suc k) bs (ended t)) (ended t) tt (ops_of b)
    (map ops_of bs) refl one (subs_steps bs (suc k) t m h.1 s.1 fits)

abbrev pub parts_of : List ℕ → List SendOp → List (List SendOp) → Parts
parts_of n a ss = (n, (a, ss))

-- what is read after the name, and after the operations
abbrev after_ops : List ℕ → List SendOp → Reader Parts
after_ops n a ws = then_on (before subs_at end_line ws) (λ ss xs. Some (parts_of n a ss, xs))

abbrev after_name : List ℕ → Reader Parts
after_name n vs = then_on (ops_at (suc deepest) vs) (after_ops n)

pub parts_read : (n : List ℕ) (a : Block) (subs : List Block) (rest : List ℕ) → IsStub n a subs
    → parts_at (stub_text n a subs rest) ≡ Some (parts_of n (ops_of a) (map ops_of subs), rest)
unfolding parts_at
parts_read n a subs rest is =
    let first = line_reads n (block_text a (subs_text 0 subs (ended rest))) is.name-is in
    let code = code_reads a (subs_text 0 subs (ended rest)) is.nests is.small (subs_lead_none 0 subs rest) in
    let others = before_reads subs_at end_line (subs_text 0 subs (ended rest)) (ended rest) rest (map ops_of subs)
    (subs_steps subs 0 rest (length (subs_text 0 subs (ended rest))) is.subs-nest is.subs-small (omega arith)) refl in
    then_reads (line_at (n ++ 10 ∷ block_text a (subs_text 0 subs (ended rest)))) after_name n
    (block_text a (subs_text 0 subs (ended rest))) (Some (parts_of n (ops_of a) (map ops_of subs), rest)) first
    (then_reads (ops_at (suc deepest) (block_text a (subs_text 0 subs (ended rest)))) (after_ops n) (ops_of a) (subs_text 0 subs
    (ended rest))
    (Some (parts_of n (ops_of a) (map ops_of subs), rest)) code
    (then_reads (before subs_at end_line (subs_text 0 subs (ended rest))) (λ ss xs. Some (parts_of n (ops_of a) ss, xs))
    (map ops_of subs) rest
    (Some (parts_of n (ops_of a) (map ops_of subs), rest)) others refl))

-- ---- what is known of the parts of a text

abbrev stays : ℕ → Bool
stays o = not (o == 10)

first_with : (c : ℕ) (t : List ℕ) (b : Bool) → eqb c 10 ≡ b → HasNoEnd (take (prefix_len stays t) t)
    → HasNoEnd (take (cond (not b) (1 + prefix_len stays t) 0) (c ∷ t))
first_with c t true e h = All-nil (λ x. x ≢ 10)
first_with c t false e h =
    let n : 1 + prefix_len stays t ≡ suc (prefix_len stays t) = omega arith in
    subst (λ k. HasNoEnd (take k (c ∷ t))) (sym n) (All-cons (λ x. x ≢ 10) c (take (prefix_len stays t) t) (eqb-false c 10 e) h)

first_line : (t : List ℕ) → HasNoEnd (take (prefix_len stays t) t)
first_line [] = All-nil (λ x. x ≢ 10)
first_line (c ∷ t) = first_with c t (eqb c 10) refl (first_line t)

lines_have : Always HasNoEnd line_at
lines_have t = go (ltb (prefix_len stays t) (length t)) where
  go : (b : Bool) → IfRead HasNoEnd (parted_at t (cond b (Some (prefix_len stays t)) None))
  go true = first_line t
  go false = tt

-- two facts of what is read
both_hold : {A : Type 0} (P Q : A → Type 0) (q : Read A) → IfRead P q → IfRead Q q → IfRead (λ a. P a × Q a) q
both_hold P Q None h k = tt
both_hold P Q (Some x) h k = (h, k)

-- operations that nest within the levels of a text, with the numbers of code
abbrev OpsAreFew : List SendOp → Type 0
OpsAreFew os = NestsWithin deepest (code_seen os) × OpsAreSmall os

codes_have : Always OpsAreFew (ops_at (suc deepest))
codes_have t =
    both_hold (OpsNest deepest) OpsAreSmall (ops_at (suc deepest) t) (ops_nest deepest (body_nests deepest) t) (ops_small (suc deepest) t)

abbrev AllAreFew : List (List SendOp) → Type 0
AllAreFew os = AllNest (map code_seen os) × AllSmall (map code_seen os)

subs_have : Always AllAreFew (before subs_at end_line)
subs_have =
    before_has AllAreFew subs_at end_line
    (many_has OpsAreFew AllAreFew (tt, tt) (λ x xs g i. ((g.0, i.0), (g.1, i.1))) (word_at (codes "sub ")) (λ u. sub_at)
    (λ u t. read_then HasNoEnd OpsAreFew (line_at t) (λ w us. before (ops_at (suc deepest)) end_line us) (lines_have t)
    (λ w g. before_has OpsAreFew (ops_at (suc deepest)) end_line codes_have)))

abbrev PartsAreStub : Parts → Type 0
PartsAreStub x = IsStub x.0 (code_seen x.1.0) (map code_seen x.1.1)

pub parts_have : Always PartsAreStub parts_at
unfolding parts_at
parts_have t =
    read_then Any PartsAreStub (word_at (codes "send ") t) _ (any_read (word_at (codes "send ")) t)
    (λ u g us. read_then HasNoEnd PartsAreStub (line_at us) _ (lines_have us)
    (λ n named vs. read_then OpsAreFew PartsAreStub (ops_at (suc deepest) vs) _ (codes_have vs)
    (λ a few ws. read_then AllAreFew PartsAreStub (before subs_at end_line ws) _ (subs_have ws)
    (λ ss all xs. record { name-is = named; nests = few.0; subs-nest = all.0; small = few.1; subs-small = all.1 }))))

-- ---- what read_stub answers

-- the parts alone
abbrev pub told : Read Parts → Option Parts
told q = option_map (λ x. x.0) q

told_has : (q : Read Parts) (x : Parts) → IfRead PartsAreStub q → told q ≡ Some x → PartsAreStub x
told_has None x h e = absurd cc
told_has (Some y) x h e = let same : y.0 ≡ x = cc in subst PartsAreStub same h

same_parts : (x y : Parts) → Some x ≡ Some y → x ≡ y
same_parts x y e = cc

seen_subs : (subs : List Block) → map code_seen (map ops_of subs) ≡ subs
seen_subs [] = refl
seen_subs (b ∷ subs) = ap (λ x. x ∷ map code_seen (map ops_of subs)) (seen_ops b) ∙ ap (λ xs. b ∷ xs) (seen_subs subs)

-- the text of what is read
abbrev pub text_of : Parts → List ℕ
text_of x = send_text x.0 (code_seen x.1.0) (map code_seen x.1.1)

text_again : (n : List ℕ) (a : Block) (subs : List Block) → text_of (parts_of n (ops_of a) (map ops_of subs)) ≡ send_text n a subs
text_again n a subs =
    ap (λ x. send_text n x (map code_seen (map ops_of subs))) (seen_ops a) ∙ ap (send_text n a) (seen_subs subs)

-- a text that begins with the text of a stub tells its parts
tells : (text n : List ℕ) (a : Block) (subs : List Block) (rest : List ℕ) → IsStub n a subs
    → text ≡ send_text n a subs ++ rest → told (parts_at text) ≡ Some (parts_of n (ops_of a) (map ops_of subs))
tells text n a subs rest is e =
    ap (λ t. told (parts_at t)) (e ∙ text_then n a subs rest) ∙ ap told (parts_read n a subs rest is)

-- a text is the text of a stub that it begins with, and what follows
pub begun : (text n : List ℕ) (a : Block) (subs : List Block) (used : ℕ) → Begins n a subs used text
    → text ≡ send_text n a subs ++ drop used text
begun text n a subs used h = sym (take-append-drop used text) ∙ ap (λ (x : List ℕ). x ++ drop used text) h.is-text

-- a text begins with one stub
pub one_begun : (text n m : List ℕ) (a b : Block) (subs others : List Block) (used also : ℕ) → Begins n a subs used text
    → Begins m b others also text → (n ≡ m) × (a ≡ b) × (subs ≡ others)
one_begun text n m a b subs others used also h k =
    let parts : parts_of n (ops_of a) (map ops_of subs) ≡ parts_of m (ops_of b) (map ops_of others) =
    same_parts (parts_of n (ops_of a) (map ops_of subs)) (parts_of m (ops_of b) (map ops_of others))
    (sym (tells text n a subs (drop used text) h.is-stub (begun text n a subs used h))
    ∙ tells text m b others (drop also text) k.is-stub (begun text m b others also k)) in (
      ap (λ (x : Parts). x.0) parts,
      sym (seen_ops a) ∙ ap (λ (x : Parts). code_seen x.1.0) parts ∙ seen_ops b,
      sym (seen_subs subs) ∙ ap (λ (x : Parts). map code_seen x.1.1) parts ∙ seen_subs others,
    )

pub nothing_read : (text : List ℕ) → told (parts_at text) ≡ None → BeginsNone text
nothing_read text none n a subs rest is e =
    let both_ways : Some (parts_of n (ops_of a) (map ops_of subs)) ≡ None = sym (tells text n a subs rest is e) ∙ none in absurd cc

pub found : (text printed : List ℕ) (x : Parts) (r : Bool) → told (parts_at text) ≡ Some x → printed ≡ text_of x
    → r ≡ starts_with eqb text printed → r ≡ true → Begins x.0 (code_seen x.1.0) (map code_seen x.1.1) (length printed) text
found text printed x r e is starts does =
    let whole : text ≡ printed ++ drop (length printed) text = (starts_is Decides-eqb text printed r starts).0 does in
    record {
      is-stub = told_has (parts_at text) x (parts_have text) e;
      within = omega (arith, ap length whole, length-append printed (drop (length printed) text));
      is-text = ap (take (length printed)) whole ∙ take_first printed (drop (length printed) text) ∙ is;
    }

pub otherwise : (text printed : List ℕ) (x : Parts) (r : Bool) → told (parts_at text) ≡ Some x → printed ≡ text_of x
    → r ≡ starts_with eqb text printed → r ≡ false → BeginsNone text
otherwise text printed x r e is starts fails n a subs rest stub same =
    let parts : x ≡ parts_of n (ops_of a) (map ops_of subs) =
    same_parts x (parts_of n (ops_of a) (map ops_of subs)) (sym e ∙ tells text n a subs rest stub same) in
    let again : printed ≡ send_text n a subs = is ∙ ap text_of parts ∙ text_again n a subs in
    let does : r ≡ true = (starts_is Decides-eqb text printed r starts).1 rest (same ∙ ap (λ w. w ++ rest) (sym again)) in
    absurd cc

-- a text that was refused, where not for memory
pub refused_whole : (text : List ℕ) (e : StubErr) → Fails e (told (parts_at text)) → e ≡ faults.Text → BeginsNone text
refused_whole text faults.Text h is = nothing_read text h
refused_whole text faults.NoMemory h is = absurd cc

pub same_error : {A : Type 0} (e f : StubErr) (r : Result A StubErr) → r ≡ Err e → r ≡ Err f → e ≡ f
same_error e f r h k = cc (h, k)
