-- The tokens so far are those of the text so far, by induction on the pieces.
use Rattle.std.proofs.Common.{◌≡◌, ℕ, ◌+◌, ◌-◌, ◌^◌, ◌<◌, ◌≤◌, min, List, [], ◌∷◌, ◌++◌, length, take, drop, Option, None, Result, Ok, Err, Bool, false, cond, ◌==◌, refl, sym, subst, ◌∙◌, ap, append_assoc, length-drop, arith}
use Rattle.std.proofs.lemmas.List.{append-nil, take-append-drop, take_at, drop-drop}
use Rattle.std.proofs.lemmas.List.Sums.{sum_by-append}
use Rattle.std.proofs.Math.Seq.{take-add}
use Rattle.idl_lex.specs.Lines.{line_feeds, line_after}
use Rattle.idl_lex.specs.Pieces.{Piece, octets_of, all_octets, kind_of, imports_on, imports_after, IsPieceOf, Stands, AllStand}
use Rattle.idl_lex.specs.Lexed.{token_on, tokens_after, fault_at, IsFirstFault, Explains}
use Rattle.idl_lex.specs.Reads.{Read, Gives, shown, piece_at}
use Rattle.idl_lex.specs.declared.kinds.Front.{Front}
use Rattle.idl_lex.specs.declared.kinds.Token.{Token}
use Rattle.idl_lex.specs.declared.kinds.TokenKind.{TokenKind}
use Rattle.idl_lex.specs.declared.lexing.LexErr.{LexErr}
use Rattle.idl_lex.specs.declared.lexing.LexErr.TheVariants.{BadOctet, OpenComment, Wide, Directive, NoMemory}
use Rattle.idl_lex.proofs.Standing.{IsRead, piece_is_read, stands_is_read}

-- ---- one more piece

octets_after : (ps : List Piece) (p : Piece) → all_octets (ps ++ p ∷ []) ≡ all_octets ps ++ octets_of p
octets_after [] p = append-nil (octets_of p)
octets_after (q ∷ ps) p = ap (λ z. octets_of q ++ z) (octets_after ps p) ∙ sym (append_assoc (octets_of q) (all_octets ps) (octets_of p))

one_more_stands : (front : Front) (before ps : List Piece) (p : Piece) (after : List ℕ)
    → AllStand front before ps (octets_of p ++ after) → Stands front (before ++ ps) p after
    → AllStand front before (ps ++ p ∷ []) after
one_more_stands front before [] p after a s = (subst (λ z. Stands front z p after) (append-nil before) s, tt)
one_more_stands front before (q ∷ ps) p after a s =
    let same : all_octets ps ++ (octets_of p ++ after) ≡ all_octets (ps ++ p ∷ []) ++ after =
    sym (ap (λ z. z ++ after) (octets_after ps p) ∙ append_assoc (all_octets ps) (octets_of p) after) in (
      subst (λ z. Stands front before q z) same a.0,
      one_more_stands front (before ++ q ∷ []) ps p after a.1
          (subst (λ z. Stands front z p after) (sym (append_assoc before (q ∷ []) ps)) s),
    )

one_more_token : (before ps : List Piece) (p : Piece)
    → tokens_after before (ps ++ p ∷ []) ≡ tokens_after before ps ++ token_on (line_after (all_octets (before ++ ps))) (kind_of p)
one_more_token before [] p =
    append-nil (token_on (line_after (all_octets before)) (kind_of p))
    ∙ ap (λ z. token_on (line_after (all_octets z)) (kind_of p)) (sym (append-nil before))
one_more_token before (q ∷ ps) p =
    let here = token_on (line_after (all_octets before)) (kind_of q) in
    ap (λ z. here ++ z) (one_more_token (before ++ q ∷ []) ps p)
    ∙ ap (λ z.
    here ++ (tokens_after (before ++ q ∷ []) ps ++ token_on (line_after (all_octets z)) (kind_of p)))
    (append_assoc before (q ∷ []) ps)
    ∙ sym (append_assoc here (tokens_after (before ++ q ∷ []) ps) (token_on (line_after (all_octets (before ++ q ∷ ps))) (kind_of p)))

feeds-append : (a b : List ℕ) → line_feeds (a ++ b) ≡ line_feeds a + line_feeds b
feeds-append a b = sum_by-append (λ o. cond (o == 10) 1 0) a b

one_more_imports : (imports : Bool) (ps : List Piece) (p : Piece)
    → imports_after imports (ps ++ p ∷ []) ≡ imports_on (imports_after imports ps) (kind_of p)
one_more_imports imports [] p = refl
one_more_imports imports (q ∷ ps) p = one_more_imports (imports_on imports (kind_of q)) ps p

-- ---- what is shown of a piece

abbrev kind_in : Result (Option TokenKind × ℕ) LexErr → Option TokenKind
kind_in (Ok x) = x.0
kind_in (Err e) = None

abbrev count_in : Result (Option TokenKind × ℕ) LexErr → ℕ
count_in (Ok x) = x.1
count_in (Err e) = 0

record Shown (r : Read) (kind : Option TokenKind) (n : ℕ) : Type 0 where
  p : Piece
  is : r ≡ Ok p
  kind_is : kind_of p ≡ kind
  count_is : length (octets_of p) ≡ n

is_shown : (r : Read) (kind : Option TokenKind) (n : ℕ) → shown r ≡ Ok (kind, n) → Shown r kind n
is_shown (Ok p) kind n e = record { p = p; is = refl; kind_is = ap kind_in e; count_is = ap count_in e }
is_shown (Err f) kind n e = absurd cc

fault_shown : (r : Read) (e : LexErr) → shown r ≡ Err e → r ≡ Err e
fault_shown (Ok p) e h = absurd cc
fault_shown (Err f) e h = let same : f ≡ e = cc in ap Err same

no_fault : (r : Read) (p : Piece) (e : LexErr) → r ≡ Ok p → r ≡ Err e → ⊥
no_fault r p e a b = absurd cc

-- ---- the loop

-- the pieces up to a place, with their tokens, whether the last of these imports, and the line of the place
pub record So (front : Front) (text : List ℕ) (line at : ℕ) (imports : Bool) (tokens : List Token) : Type 0 where
  pub pieces : List Piece
  pub before_is : all_octets pieces ≡ take at text
  pub stand : AllStand front [] pieces (drop at text)
  pub tokens_are : tokens ≡ tokens_after [] pieces
  pub line_is : line ≡ line_after (take at text)
  pub imports_is : imports ≡ imports_after false pieces
  pub within : at ≤ length text

-- a piece at the place is one after the pieces up to there
at_pieces : (front : Front) (text : List ℕ) (line at : ℕ) (imports : Bool) (tokens : List Token)
    (s : So front text line at imports tokens) (p : Piece)
    → IsPieceOf front imports (take at text) p (drop at text)
    → IsPieceOf front (imports_after false s.pieces) (all_octets s.pieces) p (drop at text)
at_pieces front text line at imports tokens s p is =
    subst
    (λ z. IsPieceOf front z (all_octets s.pieces) p (drop at text)) s.imports_is (subst (λ z.
    IsPieceOf front imports z p (drop at text)) (sym s.before_is) is)

-- and the other way round
at_place : (front : Front) (text : List ℕ) (line at : ℕ) (imports : Bool) (tokens : List Token)
    (s : So front text line at imports tokens) (p : Piece)
    → IsPieceOf front (imports_after false s.pieces) (all_octets s.pieces) p (drop at text)
    → IsPieceOf front imports (take at text) p (drop at text)
at_place front text line at imports tokens s p is =
    subst
    (λ z. IsPieceOf front imports z p (drop at text)) s.before_is (subst (λ z.
    IsPieceOf front z (all_octets s.pieces) p (drop at text)) (sym s.imports_is) is)

pub go_on_at : (front : Front) (text : List ℕ) (line at n line' : ℕ) (imports : Bool) (tokens : List Token) (kind : Option TokenKind)
    → So front text line at imports tokens → at < length text
    → shown (piece_at front imports (take at text) (drop at text)) ≡ Ok (kind, n) → n ≤ length (drop at text)
    → line' ≡ min (line + line_feeds (take n (drop at text))) (2 ^ 32 - 1)
    → So front text line' (at + n) (imports_on imports kind) (tokens ++ token_on line kind)
go_on_at front text line at n line' imports tokens kind s lt read fits line_is =
    let rest = drop at text in
    let x = is_shown _ kind n read in
    let one : IsRead front imports (take at text) rest (Ok x.p) =
    subst (λ z. IsRead front imports (take at text) rest z) x.is (piece_is_read front imports (take at text) rest) in
    let octets : take n rest ≡ octets_of x.p = ap (take n) one.0
    ∙ take_at (octets_of x.p) (drop (length (octets_of x.p)) rest) n x.count_is in
    let parts : rest ≡ octets_of x.p ++ drop (at + n) text = one.0
    ∙ ap (λ z. octets_of x.p ++ z) (ap (λ z. drop z rest) x.count_is ∙ drop-drop n at text) in
    record {
      pieces = s.pieces ++ x.p ∷ [];
      before_is = octets_after s.pieces x.p
          ∙ ap (λ z. z ++ octets_of x.p) s.before_is ∙ ap (λ z. take at text ++ z) (sym octets) ∙ sym (take-add at n text);
      stand = one_more_stands front [] s.pieces x.p (drop (at + n) text) (subst (λ z. AllStand front [] s.pieces z) parts s.stand)
          (subst
          (λ z.
          IsPieceOf front (imports_after false s.pieces) (all_octets s.pieces) x.p z) parts
          (at_pieces front text line at imports tokens s x.p one.1));
      tokens_are = ap (λ z. z ++ token_on line kind) s.tokens_are
          ∙ ap (λ z. tokens_after [] s.pieces ++ token_on z kind) (s.line_is ∙ ap line_after (sym s.before_is))
          ∙ ap (λ z. tokens_after [] s.pieces ++ token_on (line_after (all_octets s.pieces)) z) (sym x.kind_is)
          ∙ sym (one_more_token [] s.pieces x.p);
      line_is =
          let count : line_feeds (take (at + n) text) ≡ line_feeds (take at text) + line_feeds (take n rest) =
          ap line_feeds (take-add at n text) ∙ feeds-append (take at text) (take n rest) in
          omega (arith, line_is, s.line_is, count);
      imports_is = ap (λ z. imports_on z kind) s.imports_is ∙ ap (imports_on (imports_after false s.pieces)) (sym x.kind_is)
          ∙ sym (one_more_imports false s.pieces x.p);
      within = omega (arith, fits, lt, length-drop at text);
    }

pub go_on : (front : Front) (text before rest : List ℕ) (line at n line' : ℕ) (imports imports' : Bool)
    (tokens tokens' : List Token) (kind : Option TokenKind)
    → So front text line at imports tokens → at < length text → before ≡ take at text → rest ≡ drop at text
    → shown (piece_at front imports before rest) ≡ Ok (kind, n) → n ≤ length rest
    → line' ≡ min (line + line_feeds (take n rest)) (2 ^ 32 - 1) → imports' ≡ imports_on imports kind
    → tokens' ≡ tokens ++ token_on line kind
    → So front text line' (at + n) imports' tokens'
go_on front text before rest line at n line' imports imports' tokens tokens' kind s lt before_is rest_is read fits line_is imports_is put =
    subst (λ z. So front text line' (at + n) z tokens') (sym imports_is)
    (subst
    (λ z.
    So front text line' (at + n) (imports_on imports kind) z) (sym put) (go_on_at front text line at n line' imports tokens kind s lt
    (subst
    (λ z. shown (piece_at front imports (take at text) z) ≡ Ok (kind, n)) rest_is (subst (λ z.
    shown (piece_at front imports z rest) ≡ Ok (kind, n)) before_is read))
    (subst (λ z. n ≤ length z) rest_is fits)
    (subst (λ z. line' ≡ min (line + line_feeds (take n z)) (2 ^ 32 - 1)) rest_is line_is)))

pub first_fault : (front : Front) (text : List ℕ) (line at : ℕ) (imports : Bool) (tokens : List Token) (e : LexErr)
    → So front text line at imports tokens → at < length text → shown (piece_at front imports (take at text) (drop at text)) ≡ Err e
    → IsFirstFault front text e
first_fault front text line at imports tokens e s lt read =
    let rest = drop at text in
    let is = fault_shown _ e read in
    record {
      pieces = s.pieces;
      rest = rest;
      parts = sym (take-append-drop at text) ∙ ap (λ z. z ++ rest) (sym s.before_is);
      stand = s.stand;
      more = λ none. let l : length rest ≡ 0 = ap length none in omega (arith, l, lt, length-drop at text);
      none = λ p after parts stands.
          let here = subst (λ z. IsPieceOf front (imports_after false s.pieces) (all_octets s.pieces) p z) (sym parts) stands in
          let a = stands_is_read front imports (take at text) rest p (at_place front text line at imports tokens s p here) in
          no_fault _ p e a is;
      cause =
          let why : IsRead front imports (take at text) rest (Err e) =
          subst (λ z. IsRead front imports (take at text) rest z) is (piece_is_read front imports (take at text) rest) in
          why ∙ ap (λ z. fault_at z rest) (sym s.before_is);
    }

explained_at : (front : Front) (text : List ℕ) (line at : ℕ) (imports : Bool) (tokens : List Token) (e : LexErr)
    → So front text line at imports tokens → at < length text
    → Gives (let x : Result (Option TokenKind × ℕ) LexErr = Err e in x)
    (shown (piece_at front imports (take at text) (drop at text)))
    → Explains front text e
explained_at front text line at imports tokens (BadOctet n) s lt read = first_fault front text line at imports tokens (BadOctet n) s lt read
explained_at front text line at imports tokens (OpenComment n) s lt read = first_fault front text line at imports tokens (OpenComment n) s
    lt read
explained_at front text line at imports tokens (Wide n) s lt read = first_fault front text line at imports tokens (Wide n) s lt read
explained_at front text line at imports tokens (Directive n) s lt read = first_fault front text line at imports tokens (Directive n) s lt
    read
explained_at front text line at imports tokens NoMemory s lt read = tt

pub explained : (front : Front) (text before rest : List ℕ) (line at : ℕ) (imports : Bool) (tokens : List Token) (e : LexErr)
    → So front text line at imports tokens → at < length text → before ≡ take at text → rest ≡ drop at text
    → Gives (let x : Result (Option TokenKind × ℕ) LexErr = Err e in x) (shown (piece_at front imports before rest))
    → Explains front text e
explained front text before rest line at imports tokens e s lt before_is rest_is read =
    let P : List ℕ → List ℕ → Type 0 =
    λ b r. Gives (let x : Result (Option TokenKind × ℕ) LexErr = Err e in x) (shown (piece_at front imports b r)) in
    explained_at front text line at imports tokens e s lt (subst (λ z. P (take at text) z) rest_is (subst (λ z. P z rest) before_is read))
