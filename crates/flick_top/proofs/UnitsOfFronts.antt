-- A text has a unit that is sound, or a report, and one alone, whatever its front end.
use Rattle.std.proofs.Common.{◌≡◌, ◌⊎◌, inl, inr, ℕ, ◌≤◌, List, [], ◌∷◌, ◌++◌, length, Some, Result, Ok, Err, refl, sym, ap, ◌∙◌, subst, arith}
use Rattle.std.specs.Prelude.{IfOk, codes}
use Rattle.idl_lex.specs.declared.kinds.Front.{Front}
use Rattle.idl_lex.specs.declared.kinds.Front.TheVariants as front
use Rattle.idl_lex.specs.declared.kinds.Token.{Token}
use Rattle.idl_lex.specs.declared.lexing.LexErr.{LexErr}
use Rattle.idl_lex.specs.Lexed.{tokens_after, AreTokens, IsFirstFault}
use Rattle.idl_lex.proofs.Deciding.{decided as text_decided}
use Rattle.idl_lex.proofs.Standing.{same_pieces, same_fault, not_both}
use Rattle.idl_read.specs.Grammar.{Text, mark, ◌&◌}
use Rattle.idl_read.specs.Files.{FailsAt as defs_fail_at}
use Rattle.idl_read.proofs.Grammars.{read_is}
use Rattle.onc_syntax.specs.declared.tree.Def.{Def}
use Rattle.onc_syntax.specs.Derivation.{def, Derives as OncDerives, FailsAt as OncFailsAt}
use Rattle.onc_syntax.proofs.Fronts.{one_tree_only as onc_one_tree, decided as onc_decided}
use Rattle.corba_syntax.specs.declared.definition_tree.Definition.{Definition}
use Rattle.corba_syntax.specs.Derivation.{outermost, Derives as CorbaDerives, FailsAt as CorbaFailsAt}
use Rattle.corba_syntax.proofs.Fronts.{one_tree_only as corba_one_tree, decided as corba_decided}
use Rattle.mig_syntax.specs.declared.tree.Subsystem.{Subsystem}
use Rattle.mig_syntax.specs.Derivation.{statement, Derives as MigDerives, FailsAt as MigFailsAt, Headed}
use Rattle.mig_syntax.specs.StatementReaders.{heading_at}
use Rattle.mig_syntax.proofs.StatementsRead.{heading_is}
use Rattle.mig_syntax.proofs.Fronts.{one_tree_only as mig_one_tree, decided as mig_decided}
use Rattle.aoi.specs.declared.faults.NameErr.{NameErr}
use Rattle.aoi.specs.Plain.{PlainUnit, IsSoundPlain}
use Rattle.aoi.specs.Units.{Parts}
use Rattle.front_onc.specs.Resolved.{resolved as onc_resolved}
use Rattle.front_onc.proofs.Derived.{derived_whole as onc_whole}
use Rattle.front_onc.proofs.Whole.{resolved_sound as onc_sound}
use Rattle.front_corba.specs.Resolved.{resolved as corba_resolved}
use Rattle.front_corba.proofs.Derived.{derived_whole as corba_whole}
use Rattle.front_corba.proofs.Whole.{resolved_sound as corba_sound}
use Rattle.front_mig.specs.Resolved.{resolved as mig_resolved}
use Rattle.front_mig.proofs.Whole.{resolved_sound as mig_sound}
use Rattle.flick_top.specs.declared.report.Report.{Report}
use Rattle.flick_top.specs.declared.report.Report.TheVariants as reports
use Rattle.flick_top.specs.File.{plainly}
use Rattle.flick_top.specs.Fronts.{Read, in_words, Says, TokensSay, UnitOf}

-- what was read is a sound unit, if it is a unit
abbrev pub IsSoundRead : Read → Type 0
IsSoundRead (Ok u) = IsSoundPlain u
IsSoundRead (Err report) = Unit {0}

-- a unit of the text that is sound, or a report
abbrev pub Has : Front → List ℕ → Type 0
Has k text = (read : Read) × UnitOf k text read × IsSoundRead read

-- a unit of the tokens that is sound, or a report
abbrev TokensHave : Front → List Token → Type 0
TokensHave k tokens = (read : Read) × TokensSay k tokens read × IsSoundRead read

-- ---- definitions one after the other fail on one line

same_token : (a b : List Token) (t u : Token) (r s : List Token) → a ++ t ∷ r ≡ b ++ u ∷ s → length a ≡ length b → t ≡ u
same_token [] [] t u r s e l = cc e
same_token [] (y ∷ b) t u r s e l = absurd (cc l)
same_token (x ∷ a) [] t u r s e l = absurd (cc l)
same_token (x ∷ a) (y ∷ b) t u r s e l = same_token a b t u r s (cc e) (cc l)

same_line : {D : Type 0} (S : D → Text) (tokens : List Token) (l m : ℕ) → defs_fail_at S tokens l → defs_fail_at S tokens m → l ≡ m
same_line S tokens l m f g =
    let up : length f.front ≤ length g.front = g.longest f.tree f.front (f.token ∷ f.rest) f.derives f.parts in
    let down : length g.front ≤ length f.front = f.longest g.tree g.front (g.token ∷ g.rest) g.derives g.parts in
    let same : f.token ≡ g.token =
    same_token f.front g.front f.token g.token f.rest g.rest (sym f.parts ∙ g.parts) (omega (arith, up, down)) in
    f.line_is ∙ ap (λ (t : Token). t.line) same ∙ sym g.line_is

-- ---- trees of any front end

abbrev OneTree : (T : Type 0) → (T → List Token → Type 0) → Type 0
OneTree T Derives = (a b : T) (tokens : List Token) → Derives a tokens → Derives b tokens → a ≡ b

abbrev OneLine : (List Token → ℕ → Type 0) → Type 0
OneLine FailsAt = (tokens : List Token) (l m : ℕ) → FailsAt tokens l → FailsAt tokens m → l ≡ m

-- tokens with one tree, or one line where they fail, say one thing
said_once : (T : Type 0) (D : T → List Token → Type 0) (F : List Token → ℕ → Type 0) (resolved : T → Result PlainUnit NameErr) → OneTree T D
    → OneLine F
    → (tokens : List Token) (r s : Read) → Says D F resolved tokens r → Says D F resolved tokens s → r ≡ s
said_once T D F resolved one line tokens r s (inl (a, da, ea)) (inl (b, db, eb)) =
    ea ∙ ap (λ (t : T). in_words (resolved t)) (one a b tokens da db) ∙ sym eb
said_once T D F resolved one line tokens r s (inl (a, da, ea)) (inr (m, none, g, eb)) = absurd (none a da)
said_once T D F resolved one line tokens r s (inr (l, none, f, ea)) (inl (b, db, eb)) = absurd (none b db)
said_once T D F resolved one line tokens r s (inr (l, none, f, ea)) (inr (m, more, g, eb)) =
    ea ∙ ap (λ (n : ℕ). Err (reports.Syntax n)) (line tokens l m f g) ∙ sym eb

words_sound : (x : Result PlainUnit NameErr) → ((u : PlainUnit) → x ≡ Ok u → IsSoundPlain u) → IsSoundRead (in_words x)
words_sound (Err e) f = tt
words_sound (Ok u) f = f u refl

-- ---- files in the ONC RPC language

onc_line : OneLine OncFailsAt
onc_line tokens l m f g = same_line (λ (d : Def). def d & mark (codes ";")) tokens l m f g

onc_have : (tokens : List Token)
    → ((tree : List Def) × OncDerives tree tokens) ⊎
    ((line : ℕ) × ((tree : List Def) → OncDerives tree tokens → ⊥) × OncFailsAt tokens line)
    → TokensHave front.Onc tokens
onc_have tokens (inl (tree, derives)) =
    let sound = words_sound (onc_resolved tree) (λ u is. onc_sound tree u (onc_whole tree tokens derives) is) in
    (in_words (onc_resolved tree), inl (tree, derives, refl), sound)
onc_have tokens (inr (line, none, fails)) = (Err (reports.Syntax line), inr (line, none, fails, refl), tt)

-- ---- CORBA IDL files

corba_line : OneLine CorbaFailsAt
corba_line tokens l m f g = same_line outermost tokens l m f g

corba_have : (tokens : List Token)
    → ((tree : List Definition) × CorbaDerives tree tokens)
    ⊎ ((line : ℕ) × ((tree : List Definition) → CorbaDerives tree tokens → ⊥) × CorbaFailsAt tokens line)
    → TokensHave front.Corba tokens
corba_have tokens (inl (tree, derives)) =
    let sound = words_sound (corba_resolved tree) (λ u is. corba_sound tree u (corba_whole tree tokens derives) is) in
    (in_words (corba_resolved tree), inl (tree, derives, refl), sound)
corba_have tokens (inr (line, none, fails)) = (Err (reports.Syntax line), inr (line, none, fails, refl), tt)

-- ---- MIG files

-- what stands there as a heading is read
headed : (tokens rest : List Token) (h : Headed tokens rest) → heading_at tokens ≡ Some ((h.name, h.base), rest)
headed tokens rest h = ap heading_at h.parts ∙ heading_is.again (h.name, h.base) h.front rest h.spells tt

mig_line : OneLine MigFailsAt
mig_line tokens l m (inl f) (inl g) = f.1 ∙ sym g.1
mig_line tokens l m (inl f) (inr (rest, h, g)) = absurd (f.0 rest h)
mig_line tokens l m (inr (rest, h, f)) (inl g) = absurd (g.0 rest h)
mig_line tokens l m (inr (rest, h, f)) (inr (more, k, g)) =
    let same = read_is (h.name, h.base) (k.name, k.base) rest more (sym (headed tokens rest h) ∙ headed tokens more k) in
    same_line statement more l m (subst (λ z. defs_fail_at statement z l) same.1 f) g

mig_have : (tokens : List Token)
    → ((tree : Subsystem) × MigDerives tree tokens) ⊎
    ((line : ℕ) × (((tree : Subsystem) → MigDerives tree tokens → ⊥) × MigFailsAt tokens line))
    → TokensHave front.Mig tokens
mig_have tokens (inl (tree, derives)) =
    (in_words (mig_resolved tree), inl (tree, derives, refl), words_sound (mig_resolved tree) (mig_sound tree))
mig_have tokens (inr (line, h)) = (Err (reports.Syntax line), inr (line, h.0, h.1, refl), tt)

-- ---- each front end

tokens_once : (k : Front) (tokens : List Token) (r s : Read) → TokensSay k tokens r → TokensSay k tokens s → r ≡ s
tokens_once front.Onc tokens r s p q = said_once (List Def) OncDerives OncFailsAt onc_resolved onc_one_tree onc_line tokens r s p q
tokens_once front.Corba tokens r s p q =
    said_once (List Definition) CorbaDerives CorbaFailsAt corba_resolved corba_one_tree corba_line tokens r s p q
tokens_once front.Mig tokens r s p q = said_once Subsystem MigDerives MigFailsAt mig_resolved mig_one_tree mig_line tokens r s p q

tokens_have : (k : Front) (tokens : List Token) → TokensHave k tokens
tokens_have front.Onc tokens = onc_have tokens (onc_decided tokens)
tokens_have front.Corba tokens = corba_have tokens (corba_decided tokens)
tokens_have front.Mig tokens = mig_have tokens (mig_decided tokens)

-- ---- texts

pub one_unit : (k : Front) (text : List ℕ) (r s : Read) → UnitOf k text r → UnitOf k text s → r ≡ s
one_unit k text r s (inl (a, (ps, first, ta), ra)) (inl (b, (qs, second, tb), sb)) =
    let same : a ≡ b = ta ∙ ap (tokens_after []) (same_pieces k text ps qs first second) ∙ sym tb in
    tokens_once k b r s (subst (λ (t : List Token). TokensSay k t r) same ra) sb
one_unit k text r s (inl (a, (ps, stand, ta), ra)) (inr (f, is, sb)) = absurd (not_both k text ps f stand is)
one_unit k text r s (inr (e, is, ra)) (inl (b, (qs, stand, tb), sb)) = absurd (not_both k text qs e stand is)
one_unit k text r s (inr (e, is, ra)) (inr (f, js, sb)) = ra ∙ ap (λ x. Err (reports.Lex x)) (same_fault k text e f is js) ∙ sym sb

text_has : (k : Front) (text : List ℕ)
    → ((tokens : List Token) × AreTokens k text tokens) ⊎ ((fault : LexErr) × IsFirstFault k text fault)
    → Has k text
text_has k text (inl (tokens, are)) = let h = tokens_have k tokens in (h.0, inl (tokens, are, h.1), h.2)
text_has k text (inr (fault, is)) = (Err (reports.Lex fault), inr (fault, is, refl), tt)

pub unit_has : (k : Front) (text : List ℕ) → Has k text
unit_has k text = text_has k text (text_decided k text)

-- ---- as a clause of calls

-- the unit of a tree that tokens have is what the tokens say
pub tree-says : {T E : Type 0} (Derives : T → List Token → Type 0) (FailsAt : List Token → ℕ → Type 0)
    (resolved : T → Result PlainUnit NameErr) (tokens : List Token) (tree : T) (x : Result (Result Parts Report) E) → Derives tree tokens
    → IfOk x (λ read. plainly read ≡ in_words (resolved tree)) → IfOk x (λ read. Says Derives FailsAt resolved tokens (plainly read))
tree-says Derives FailsAt resolved tokens tree (Ok read) derives is = inl (tree, derives, is)
tree-says Derives FailsAt resolved tokens tree (Err e) derives is = tt
