-- What lines tell of code of either direction, from the last to the first, by induction on puts or gets and on codes.
use Rattle.std.proofs.Common.{◌≡◌, ℕ, suc, ℤ, List, [], ◌∷◌, ◌++◌, refl, sym, ap, ◌∙◌, codes}
use Rattle.kit_base.specs.Lines.{HasNoEnd}
use Rattle.cast_stub.proofs.Trees.{Trees}
use Rattle.stub_print.specs.Words.{numeral, integer, path_word, line, ended}
use Rattle.stub_print.proofs.Read.{Line, IsClean, AreClean, rows, rows_line, same_names, clean_numeral, clean_integer, clean_path}
use Rattle.stub_print.proofs.Texts.{Texts}

-- what the lines of one block are so far: operations, bodies of a switch, puts or gets, codes that calls name
pub data Frame (B C P : Type 0) : Type 0 where
  frame : B → C → List P → List B → Frame B C P

-- ---- what lines do to frames

abbrev pub on_top : {F : Type 0} → (F → F) → List F → List F
on_top f [] = []
on_top f (t ∷ fs) = f t ∷ fs

abbrev pub on_next : {F : Type 0} → (F → F → F) → F → List F → List F
on_next f t [] = []
on_next f t (n ∷ fs) = f t n ∷ fs

abbrev pub on_two : {F : Type 0} → (F → F → F) → List F → List F
on_two f [] = []
on_two f (t ∷ fs) = on_next f t fs

abbrev pub with_op : {B C P : Type 0} → (B → B) → Frame B C P → Frame B C P
with_op f (frame b cs ps ss) = frame (f b) cs ps ss

abbrev pub with_part : {B C P : Type 0} → P → Frame B C P → Frame B C P
with_part p (frame b cs ps ss) = frame b cs (p ∷ ps) ss

abbrev pub with_body : {B C P : Type 0} → (B → B → B) → Frame B C P → Frame B C P → Frame B C P
with_body f (frame a as_ ps ss) (frame b bs qs ts) = frame (f a b) bs qs ts

abbrev pub with_parts : {B C P : Type 0} → (List P → B → B) → Frame B C P → Frame B C P → Frame B C P
with_parts f (frame a as_ ps ss) (frame b bs qs ts) = frame (f ps b) bs qs ts

abbrev pub with_cases : {B C P : Type 0} → (C → B → B) → Frame B C P → Frame B C P → Frame B C P
with_cases f (frame a as_ ps ss) (frame b bs qs ts) = frame (f as_ b) bs qs ts

-- bodies of a switch, made of a block and of the bodies after it
abbrev pub as_bodies : {B C P : Type 0} → B → (B → C → C) → Frame B C P → Frame B C P
as_bodies stop f (frame b cs ps ss) = frame stop (f b cs) ps ss

abbrev pub with_sub : {B C P : Type 0} → Frame B C P → Frame B C P → Frame B C P
with_sub (frame a as_ ps ss) (frame b bs qs ts) = frame b bs qs (a ∷ ts)

-- what lines tell, by what each does to frames
abbrev pub read_by : {F : Type 0} → (Line → List F → List F) → List Line → List F
read_by step [] = []
read_by step (l ∷ ls) = step l (read_by step ls)

-- what octets tell
unfoldable pub read : {F : Type 0} → (Line → List F → List F) → List ℕ → List F
read step octets = read_by step (rows octets)

pub read_line : {F : Type 0} (step : Line → List F → List F) (w : List ℕ) (ws : Line) (rest : List ℕ) (fs gs : List F) → IsClean w
    → AreClean ws → read step rest ≡ fs → step (w ∷ ws) fs ≡ gs
    → read step (line w ws rest) ≡ gs
unfolding read
read_line step w ws rest fs gs h k e f = ap (read_by step) (rows_line w ws rest h k) ∙ ap (step (w ∷ ws)) e ∙ f

nothing_read : {F : Type 0} (step : Line → List F → List F) → read step [] ≡ []
unfolding read
nothing_read step = refl

-- ---- lines that code of both directions has

-- what such lines do
pub record Tells (K : Trees) (P : Type 0) (T : Texts K P)
    (step : Line → List (Frame K.Tree K.Bodies P) → List (Frame K.Tree K.Bodies P)) : Type 0 where
  pub clean : (x : P) → AreClean (T.words x)
  pub at-end : (fs : List (Frame K.Tree K.Bodies P)) → step (codes "end" ∷ []) fs ≡ frame K.stop K.no_default [] [] ∷ fs
  pub at-part : (x : P) (b : K.Tree) (cs : K.Bodies) (ps : List P) (ss : List K.Tree) (fs : List (Frame K.Tree K.Bodies P))
      → step (codes "at" ∷ T.words x) (frame b cs ps ss ∷ fs) ≡ frame b cs (x ∷ ps) ss ∷ fs
  pub at-each : (p : List ℕ) (a b : K.Tree) (cs : K.Bodies) (ps : List P) (ss : List K.Tree) (fs : List (Frame K.Tree K.Bodies P))
      → step (codes "each" ∷ path_word p ∷ []) (frame a K.no_default [] [] ∷ frame b cs ps ss ∷ fs)
      ≡ frame (K.each p a b) cs ps ss ∷ fs
  pub at-there : (p : List ℕ) (a b : K.Tree) (cs : K.Bodies) (ps : List P) (ss : List K.Tree) (fs : List (Frame K.Tree K.Bodies P))
      → step (codes "some" ∷ path_word p ∷ []) (frame a K.no_default [] [] ∷ frame b cs ps ss ∷ fs)
      ≡ frame (K.if_there p a b) cs ps ss ∷ fs
  pub at-switch : (p : List ℕ) (bs : K.Bodies) (b : K.Tree) (cs : K.Bodies) (ps : List P) (ss : List K.Tree)
      (fs : List (Frame K.Tree K.Bodies P))
      → step (codes "switch" ∷ path_word p ∷ []) (frame K.stop bs [] [] ∷ frame b cs ps ss ∷ fs)
      ≡ frame (K.switch p bs b) cs ps ss ∷ fs
  pub at-default : (b : K.Tree) (ps : List P) (ss : List K.Tree) (fs : List (Frame K.Tree K.Bodies P))
      → step (codes "default" ∷ []) (frame b K.no_default ps ss ∷ fs) ≡ frame K.stop (K.default b) ps ss ∷ fs
  pub at-case : (n : ℤ) (b : K.Tree) (cs : K.Bodies) (ps : List P) (ss : List K.Tree) (fs : List (Frame K.Tree K.Bodies P))
      → step (codes "case" ∷ integer n ∷ []) (frame b cs ps ss ∷ fs) ≡ frame K.stop (K.case n b cs) ps ss ∷ fs
  pub at-sub : (k : ℕ) (a b : K.Tree) (cs : K.Bodies) (ps : List P) (bs : List K.Tree) (fs : List (Frame K.Tree K.Bodies P))
      → step (codes "sub" ∷ numeral k ∷ []) (frame a K.no_default [] [] ∷ frame b cs ps bs ∷ fs) ≡ frame b cs ps (a ∷ bs) ∷ fs

module _ (K : Trees) (P : Type 0) (T : Texts K P) (step : Line → List (Frame K.Tree K.Bodies P) → List (Frame K.Tree K.Bodies P))
    (tells : Tells K P T step) where
  open K use {Tree, Bodies, stop, each, if_there, switch, no_default, default, case}
  open T use {text, cases, words, parts, subs}

  -- frames of such code
  abbrev pub Frames : Type 0
  Frames = List (Frame Tree Bodies P)

  pub read_end : (rest : List ℕ) (fs : Frames) → read step rest ≡ fs → read step (ended rest) ≡ frame stop no_default [] [] ∷ fs
  read_end rest fs e = read_line step (codes "end") [] rest fs (frame stop no_default [] [] ∷ fs) refl tt e (tells.at-end fs)

  pub read_parts : (ps : List P) (rest : List ℕ) (b : Tree) (cs : Bodies) (ss : List Tree) (fs : Frames)
      → read step rest ≡ frame b cs [] ss ∷ fs
      → read step (parts ps rest) ≡ frame b cs ps ss ∷ fs
  read_parts [] rest b cs ss fs e = ap (read step) (T.parts-none rest) ∙ e
  read_parts (p ∷ ps) rest b cs ss fs e =
      ap (read step) (T.parts-more p ps rest)
      ∙ read_line step (codes "at") (words p) (parts ps rest) (frame b cs ps ss ∷ fs) (frame b cs (p ∷ ps) ss ∷ fs) refl (tells.clean p)
      (read_parts ps rest b cs ss fs e) (tells.at-part p b cs ps ss fs)

  -- a body, whatever follows it
  abbrev pub BodyRead : Tree → Type 0
  BodyRead a = (rest : List ℕ) (fs : Frames) → read step rest ≡ frame stop no_default [] [] ∷ fs
      → read step (text a rest) ≡ frame a no_default [] [] ∷ fs

  -- an operation whose line is followed by what it holds, and by a line that ends this
  read_ended : (w p : List ℕ) (held : List ℕ → List ℕ) (top now : Frame Tree Bodies P) (b : Tree) (rest : List ℕ) (cs : Bodies)
      (ps : List P) (ss : List Tree) (fs : Frames) → IsClean w
      → ((r : List ℕ) (gs : Frames) → read step r ≡ frame stop no_default [] [] ∷ gs → read step (held r) ≡ top ∷ gs)
      → read step (text b rest) ≡ frame b cs ps ss ∷ fs
      → step (w ∷ path_word p ∷ []) (top ∷ frame b cs ps ss ∷ fs) ≡ now ∷ fs
      → read step (line w (path_word p ∷ []) (held (ended (text b rest)))) ≡ now ∷ fs
  read_ended w p held top now b rest cs ps ss fs clean body e at =
      read_line step w (path_word p ∷ []) (held (ended (text b rest))) (top ∷ frame b cs ps ss ∷ fs) (now ∷ fs) clean (clean_path p, tt)
      (body (ended (text b rest)) (frame b cs ps ss ∷ fs) (read_end (text b rest) (frame b cs ps ss ∷ fs) e)) at

  pub read_each : (p : List ℕ) (a b : Tree) (rest : List ℕ) (cs : Bodies) (ps : List P) (ss : List Tree) (fs : Frames) → BodyRead a
      → read step (text b rest) ≡ frame b cs ps ss ∷ fs
      → read step (text (each p a b) rest) ≡ frame (each p a b) cs ps ss ∷ fs
  read_each p a b rest cs ps ss fs body e =
      ap (read step) (T.text-each p a b rest)
      ∙ read_ended (codes "each") p (text a) (frame a no_default [] []) (frame (each p a b) cs ps ss) b rest cs ps ss fs refl body e
      (tells.at-each p a b cs ps ss fs)

  pub read_there : (p : List ℕ) (a b : Tree) (rest : List ℕ) (cs : Bodies) (ps : List P) (ss : List Tree) (fs : Frames) → BodyRead a
      → read step (text b rest) ≡ frame b cs ps ss ∷ fs
      → read step (text (if_there p a b) rest) ≡ frame (if_there p a b) cs ps ss ∷ fs
  read_there p a b rest cs ps ss fs body e =
      ap (read step) (T.text-there p a b rest)
      ∙ read_ended (codes "some") p (text a) (frame a no_default [] []) (frame (if_there p a b) cs ps ss) b rest cs ps ss fs refl body e
      (tells.at-there p a b cs ps ss fs)

  pub read_switch : (p : List ℕ) (bs : Bodies) (b : Tree) (rest : List ℕ) (cs : Bodies) (ps : List P) (ss : List Tree) (fs : Frames)
      → ((r : List ℕ) (gs : Frames) → read step r ≡ frame stop no_default [] [] ∷ gs
      → read step (cases bs r) ≡ frame stop bs [] [] ∷ gs) → read step (text b rest) ≡ frame b cs ps ss ∷ fs
      → read step (text (switch p bs b) rest) ≡ frame (switch p bs b) cs ps ss ∷ fs
  read_switch p bs b rest cs ps ss fs bodies e =
      ap (read step) (T.text-switch p bs b rest)
      ∙ read_ended (codes "switch") p (cases bs) (frame stop bs [] []) (frame (switch p bs b) cs ps ss) b rest cs ps ss fs refl bodies e
      (tells.at-switch p bs b cs ps ss fs)

  pub read_default : (b : Tree) (rest : List ℕ) (ps : List P) (ss : List Tree) (fs : Frames)
      → read step (text b rest) ≡ frame b no_default ps ss ∷ fs
      → read step (cases (default b) rest) ≡ frame stop (default b) ps ss ∷ fs
  read_default b rest ps ss fs e =
      ap (read step) (T.cases-last b rest)
      ∙ read_line step (codes "default") [] (text b rest) (frame b no_default ps ss ∷ fs) (frame stop (default b) ps ss ∷ fs) refl tt e
      (tells.at-default b ps ss fs)

  pub read_case : (n : ℤ) (b : Tree) (cs : Bodies) (rest : List ℕ) (ps : List P) (ss : List Tree) (fs : Frames)
      → read step (text b (cases cs rest)) ≡ frame b cs ps ss ∷ fs
      → read step (cases (case n b cs) rest) ≡ frame stop (case n b cs) ps ss ∷ fs
  read_case n b cs rest ps ss fs e =
      ap (read step) (T.cases-more n b cs rest)
      ∙ read_line step (codes "case") (integer n ∷ []) (text b (cases cs rest)) (frame b cs ps ss ∷ fs)
      (frame stop (case n b cs) ps ss ∷ fs) refl (clean_integer n, tt) e (tells.at-case n b cs ps ss fs)

  -- ---- a whole text

  module _ (block : (b : Tree) (rest : List ℕ) (cs : Bodies) (ps : List P) (ss : List Tree) (fs : Frames)
      → read step rest ≡ frame stop cs ps ss ∷ fs
      → read step (text b rest) ≡ frame b cs ps ss ∷ fs) where
    read_subs : (bs : List Tree) (k : ℕ) (rest : List ℕ) (b : Tree) (cs : Bodies) (ps : List P) (fs : Frames)
        → read step rest ≡ frame b cs ps [] ∷ fs
        → read step (subs k bs rest) ≡ frame b cs ps bs ∷ fs
    read_subs [] k rest b cs ps fs e = ap (read step) (T.subs-none k rest) ∙ e
    read_subs (a ∷ bs) k rest b cs ps fs e =
        let others = read_end (subs (suc k) bs rest) (frame b cs ps bs ∷ fs) (read_subs bs (suc k) rest b cs ps fs e) in
        ap (read step) (T.subs-more k a bs rest)
        ∙ read_line step (codes "sub") (numeral k ∷ []) (text a (ended (subs (suc k) bs rest)))
        (frame a no_default [] [] ∷ frame b cs ps bs ∷ fs) (frame b cs ps (a ∷ bs) ∷ fs) refl (clean_numeral k, tt)
        (block a (ended (subs (suc k) bs rest)) no_default [] [] (frame b cs ps bs ∷ fs) others) (tells.at-sub k a b cs ps bs fs)

    -- the lines after the first
    abbrev pub body : Tree → List Tree → List ℕ
    body a ss = text a (subs 0 ss (ended []))

    read_body : (a : Tree) (ss : List Tree) → read step (body a ss) ≡ frame a no_default [] ss ∷ []
    read_body a ss =
        block a (subs 0 ss (ended [])) no_default [] ss []
        (read_subs ss 0 (ended []) stop no_default [] [] (read_end [] [] (nothing_read step)))

    abbrev top_block : Frames → Tree
    top_block [] = stop
    top_block (frame b cs ps ss ∷ fs) = b

    abbrev top_subs : Frames → List Tree
    top_subs [] = []
    top_subs (frame b cs ps ss ∷ fs) = ss

    pub texts_tell : (n m : List ℕ) (a b : Tree) (ss others : List Tree) → HasNoEnd n → HasNoEnd m
        → n ++ (10 ∷ body a ss) ≡ m ++ (10 ∷ body b others)
        → (n ≡ m) × (a ≡ b) × (ss ≡ others)
    texts_tell n m a b ss others h k e =
        let lines = same_names n m (body a ss) (body b others) h k e in
        let frames = sym (read_body a ss) ∙ ap (read step) lines.1 ∙ read_body b others in
        (lines.0, ap top_block frames, ap top_subs frames)
