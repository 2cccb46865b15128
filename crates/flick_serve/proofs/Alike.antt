-- Files give the same, and lines are answered the same, over bindings of one unit over one back end.
use Rattle.std.proofs.Common.{◌≡◌, inl, inr, ℕ, zero, suc, ◌+◌, ◌<◌, List, [], ◌∷◌, map, length, replicate, Bool, true, false, Result, Ok, Err, Option, Some, None, refl, sym, ap, ◌∙◌, subst}
use Rattle.std.specs.Prelude.{◌&&◌, MatchBool, slice_index_or, if◌then◌else◌}
use Rattle.std.proofs.lemmas.List.{length-map}
use Rattle.kit_base.specs.Limits.{longest_message}
use Rattle.kit_base.specs.Lines.{chomp}
use Rattle.hex.specs.Hex.{decode_of}
use Rattle.hex.specs.declared.error.FromHexError.{FromHexError}
use Rattle.mint.specs.Types.{Ty}
use Rattle.mint.specs.Values.{Val}
use Rattle.wire_def.specs.declared.encoding.Back.{Back}
use Rattle.wire_def.specs.declared.encoding.Back.TheVariants as back
use Rattle.wire_def.specs.declared.fault.HeadErr.{HeadErr}
use Rattle.wire_def.specs.declared.head.Head.{Head}
use Rattle.wire_def.specs.declared.outcome.Refusal.{Refusal}
use Rattle.aoi.specs.Plain.{PlainUnit}
use Rattle.head_kit.specs.declared.call_head.CallHead.{CallHead}
use Rattle.head_kit.specs.declared.call_head.CallTarget.{CallTarget}
use Rattle.head_kit.specs.declared.call_head.CallTarget.TheVariants.{Operation, NoInterface, NoOperation}
use Rattle.head_kit.specs.Calls.{IsBelow}
use Rattle.pres.specs.declared.ops.Op.{Op}
use Rattle.pres.specs.Bindings.{Binding}
use Rattle.pres.specs.Faces.{Face}
use Rattle.pres.specs.Offers.{Offer, offer_at}
use Rattle.serde_json.specs.Data.{Data}
use Rattle.json_shape.specs.declared.errors.RecordErr.{RecordErr}
use Rattle.json_shape.specs.declared.errors.RecordErr.TheVariants as errors
use Rattle.json_shape.specs.Records.{Begun}
use Rattle.json_shape.specs.Replies.{has_head, given_of, reply_of}
use Rattle.flick_engine.specs.declared.errors.MessageErr.{MessageErr}
use Rattle.flick_engine.specs.declared.errors.MessageErr.TheVariants as err
use Rattle.flick_engine.specs.Backs.{Stops}
use Rattle.flick_engine.specs.Received.{Asked, IsShort, ReadCall}
use Rattle.flick_engine.specs.Refusals.{wants_reply, reply_head, NoInterfaceOver, no_operation, bad_body, long_reply, RefusesOver, AnswersFault}
use Rattle.flick_engine.specs.Serving.{gives, names_reply, is_answered, IsRefused, Replies, RefusesCall, AnswersAs, AnswersCall, Serves}
use Rattle.flick_lines.specs.Marshalled.{tree_of}
use Rattle.flick_lines.proofs.Twins.{AreTwins, faces_in, AreSame, ops_alike, first_same, rest_same, none_same, reply_alike, reply_message_alike, of_unit}
use Rattle.flick_lines.proofs.TwinRecords.{AreOne, IsOfFew, replies_alike}
use Rattle.flick_lines.proofs.TwinMessages.{begins_over, begins_below, call_over}
use Rattle.flick_serve.specs.Given.{IsReplyOf, IsInTree, Given, given_at, Adds, Give, lines_of, FileGives}
use Rattle.flick_serve.specs.Served.{or_blank, answer_of, IsOfMessage, IsServed}

-- twins the other way round
pub turned : (b c : Binding) → AreTwins b c → AreTwins c b
turned b c t = record { units = sym t.units; backs = sym t.backs; one = t.other; other = t.one }

-- ---- what files give

either_one : (n : ℕ) (p q : Bool) (x y : Result Begun RecordErr) (e : RecordErr) → p ≡ q → AreOne n x y
    → AreOne n (if p then Err e else x) (if q then Err e else y)
either_one n true true x y e is h = record { same = refl; few = tt }
either_one n true false x y e is h = absurd (cc is)
either_one n false true x y e is h = absurd (cc is)
either_one n false false x y e is h = h

given_alike : (b c : Binding) → AreTwins b c → (j : Data) → AreOne (length b.ops) (given_of b j) (given_of c j)
given_alike b c t j =
    either_one (length b.ops) (has_head b.back j) (has_head c.back j) (reply_of b j) (reply_of c j) errors.Request
    (ap (λ (k : Back). has_head k j) t.backs) (replies_alike b c t j)

short_over : (b c : Binding) → AreTwins b c → (x : Result Begun RecordErr) → IsOfFew (length b.ops) x → (op : ℕ) (v : Val)
    → IsReplyOf b x op v → IsReplyOf c x op v
short_over b c t (Err e) few op v h = h
short_over b c t (Ok r) few op v (is, presents, short) =
    (is, presents, subst (λ (m : List ℕ). IsShort m) (reply_message_alike b c t 0 r.op few r.head v) short)

in_tree_over : (b c : Binding) → AreTwins b c → (j : Option Data) (op : ℕ) (v : Val) → IsInTree b j op v → IsInTree c j op v
in_tree_over b c t None op v h = h
in_tree_over b c t (Some j) op v h =
    let one = given_alike b c t j in
    subst (λ (x : Result Begun RecordErr). IsReplyOf c x op v) one.same (short_over b c t (given_of b j) one.few op v h)

adds_over : (b c : Binding) → AreTwins b c → (g : Given) (line : List ℕ) (more : Given) → Adds b g line more → Adds c g line more
adds_over b c t g [] more h = h
adds_over b c t g (o ∷ os) more (op, v, given, fresh, is) =
    (op, v, in_tree_over b c t (tree_of (o ∷ os)) op v given, fresh, is)

give_over : (b c : Binding) → AreTwins b c → (k : ℕ) (g : Given) (ls : List (List ℕ)) (x : Result Given ℕ) → Give b k g ls x
    → Give c k g ls x
give_over b c t k g [] x h = h
give_over b c t k g (l ∷ ls) x (inl (more, adds, rest)) =
    inl (more, adds_over b c t g (chomp l) more adds, give_over b c t (k + 1) more ls x rest)
give_over b c t k g (l ∷ ls) x (inr (wrong, is)) =
    inr ((λ more adds. wrong more (adds_over c b (turned b c t) g (chomp l) more adds)), is)

-- as many operations
pub many_alike : (b c : Binding) → AreTwins b c → length b.ops ≡ length c.ops
many_alike b c t =
    sym (length-map b.ops (offer_at (faces_in b))) ∙ ap length (ops_alike b c t) ∙ length-map c.ops (offer_at (faces_in c))

pub file_over : (b c : Binding) → AreTwins b c → (text : List ℕ) (x : Result Given ℕ) → FileGives b text x → FileGives c text x
file_over b c t text x h =
    subst (λ n. Give c 1 (replicate n None) (lines_of text) x) (many_alike b c t)
    (give_over b c t 1 (replicate (length b.ops) None) (lines_of text) x h)

-- ---- how messages are answered

fault_same : (k : Back) (m : ℕ) (b c : Binding) → b.unit ≡ c.unit → (o : List ℕ) (e : HeadErr) (x : Option (List ℕ))
    → AnswersFault k m b o e x → AnswersFault k m c o e x
fault_same back.Xdr m b c units o e x h = h
fault_same back.CdrBig m b c units o e x h = subst (λ (u : PlainUnit). AnswersFault back.CdrBig m (of_unit c u) o e x) units h
fault_same back.CdrLittle m b c units o e x h = subst (λ (u : PlainUnit). AnswersFault back.CdrLittle m (of_unit c u) o e x) units h
fault_same back.Mach m b c units o e x h = h

no_interface_same : (k : Back) (b c : Binding) → b.unit ≡ c.unit → (o : List ℕ) (why : Refusal) → NoInterfaceOver k b o why
    → NoInterfaceOver k c o why
no_interface_same back.Xdr b c units o why h = subst (λ (u : PlainUnit). NoInterfaceOver back.Xdr (of_unit c u) o why) units h
no_interface_same back.CdrBig b c units o why h = h
no_interface_same back.CdrLittle b c units o why h = h
no_interface_same back.Mach b c units o why h = h

-- whether an operation has a reply
reply_same : (fs gs : List Face) (os ps : List Op) (n : ℕ) → AreSame fs gs os ps
    → slice_index_or (map (λ (o : Op). o.has_reply) os) n true ≡ slice_index_or (map (λ (o : Op). o.has_reply) ps) n true
reply_same fs gs [] [] n e = refl
reply_same fs gs [] (p ∷ ps) n e = absurd (none_same fs gs p ps e)
reply_same fs gs (o ∷ os) [] n e = absurd (none_same gs fs o os (sym e))
reply_same fs gs (o ∷ os) (p ∷ ps) zero e = ap (λ (x : Offer). x.has_reply) (first_same fs gs o p os ps e)
reply_same fs gs (o ∷ os) (p ∷ ps) (suc n) e = reply_same fs gs os ps n (rest_same fs gs o p os ps e)

module _ (b c : Binding) (t : AreTwins b c) (o : List ℕ) where
  stops_over : (e : HeadErr) → Stops b.back o e → Stops c.back o e
  stops_over e h = subst (λ (k : Back). Stops k o e) t.backs h

  fault_over : (m : ℕ) (e : HeadErr) (x : Option (List ℕ)) → AnswersFault b.back m b o e x → AnswersFault c.back m c o e x
  fault_over m e x h = subst (λ (k : Back). AnswersFault k m c o e x) t.backs (fault_same b.back m b c t.units o e x h)

  named_alike : (n : CallTarget) → names_reply b n ≡ names_reply c n
  named_alike (Operation op) = reply_same (faces_in b) (faces_in c) b.ops c.ops op (ops_alike b c t)
  named_alike NoInterface = refl
  named_alike NoOperation = refl

  answered_alike : (k : CallHead) → is_answered b k ≡ is_answered c k
  answered_alike k =
      ap (λ (e : Back). wants_reply e k.head && names_reply b k.naming) t.backs
      ∙ ap (λ (p : Bool). wants_reply c.back k.head && p) (named_alike k.naming)

  reason_over : (e : MessageErr) (why : Refusal) → IsRefused b o e why → IsRefused c o e why
  reason_over err.NoInterface why h =
      subst (λ (k : Back). NoInterfaceOver k c o why) t.backs (no_interface_same b.back b c t.units o why h)
  reason_over err.NoOperation why h = h ∙ ap no_operation t.backs
  reason_over err.Long why h = h ∙ ap bad_body t.backs
  reason_over (err.Head e) why h = h ∙ ap bad_body t.backs
  reason_over (err.Body f) why h = h ∙ ap bad_body t.backs
  reason_over (err.Trailing at) why h = h ∙ ap bad_body t.backs
  reason_over err.NoMemory why h = h ∙ ap bad_body t.backs

  refuses_over : (m : ℕ) (head : Head) (why : Refusal) (x : Option (List ℕ)) → RefusesOver b.back m o head why x
      → RefusesOver c.back m o head why x
  refuses_over m head why x h = subst (λ (k : Back). RefusesOver k m o head why x) t.backs h

  refused_over : (m : ℕ) (head : Head) (e : MessageErr) (x : Option (List ℕ)) → RefusesCall b m o head e x → RefusesCall c m o head e x
  refused_over m head e x (why, is, refuses) = (why, reason_over e why is, refuses_over m head why x refuses)

  replies_over : (m : ℕ) (head : Head) (op : ℕ) → op < length b.ops → (w : Val) (x : Option (List ℕ)) → Replies b m o head op w x
      → Replies c m o head op w x
  replies_over m head op below w x (inl (short, is)) =
      let same = reply_message_alike b c t m op below head w in
      inl (subst (λ (l : List ℕ). IsShort l) same short, is ∙ ap (λ (l : List ℕ). Some l) same)
  replies_over m head op below w x (inr (long, refuses)) = inr (
    subst (λ (l : List ℕ). longest_message < length l) (reply_message_alike b c t m op below head w) long,
    subst (λ (k : Back). RefusesOver c.back m o head (long_reply k) x) t.backs (refuses_over m head (long_reply b.back) x refuses),
  )

  -- the operation of a request is one of the binding
  read_below : (r : Asked) → ReadCall b o (Ok r) → r.op < length b.ops
  read_below r (k, op, (short, begins, is), (same, head, spells)) =
      let below : op < length b.ops = subst (λ n. IsBelow (length b.ops) n) is (begins_below b c t o k begins) in
      subst (λ n. n < length b.ops) (sym same) below

  module _ (f h : ℕ → Val) (same : (op : ℕ) → op < length b.ops → f op ≡ h op) where
    answers_over : (m : ℕ) (head : Head) (r : Result Asked MessageErr) (x : Option (List ℕ)) → ReadCall b o r
        → AnswersAs b m (gives (λ op request. f op)) o head r x → AnswersAs c m (gives (λ op request. h op)) o head r x
    answers_over m head (Err e) x reads a = refused_over m head e x a
    answers_over m head (Ok r) x reads (w, is, replies) =
        let below = read_below r reads in
        (w, is ∙ same r.op below, replies_over m head r.op below w x replies)

    call_answered : (k : CallHead) (x : Option (List ℕ)) → AnswersCall b (gives (λ op request. f op)) o k x
        → AnswersCall c (gives (λ op request. h op)) o k x
    call_answered k x (r, reads, answers) = (
      r,
      call_over b c t o r reads,
      subst (λ (e : Back). AnswersAs c k.minor (gives (λ op request. h op)) o (reply_head e k.head) r x) t.backs
          (answers_over k.minor (reply_head b.back k.head) r x reads answers),
    )

    matched : (p : Bool) (k : CallHead) (x : Option (List ℕ)) → MatchBool p (AnswersCall b (gives (λ op request. f op)) o k x) (x ≡ None)
        → MatchBool p (AnswersCall c (gives (λ op request. h op)) o k x) (x ≡ None)
    matched true k x a = call_answered k x a
    matched false k x a = a

    serves_over : (m : ℕ) (x : Option (List ℕ)) → Serves b m (gives (λ op request. f op)) o x → Serves c m (gives (λ op request. h op)) o x
    serves_over m x (inl (long, is)) = inl (long, is)
    serves_over m x (inr (inl (short, e, stops, answers))) = inr (inl (short, e, stops_over e stops, fault_over m e x answers))
    serves_over m x (inr (inr (short, k, begins, serves))) = inr (inr (
      short,
      k,
      begins_over b c t o k begins,
      subst (λ (p : Bool). MatchBool p (AnswersCall c (gives (λ op request. h op)) o k x) (x ≡ None)) (answered_alike k)
          (matched (is_answered b k) k x serves),
    ))

-- ---- lines

-- what an operation answers
answer_alike : (b c : Binding) → AreTwins b c → (g : Given) (op : ℕ) → op < length b.ops → answer_of b g op ≡ answer_of c g op
answer_alike b c t g op below = ap (λ (ty : Ty). or_blank ty (given_at g op)) (reply_alike b c t op below)

message_over : (b c : Binding) → AreTwins b c → (m : ℕ) (g : Given) (o : Result (List ℕ) FromHexError) (a : List ℕ)
    → IsOfMessage b m (answer_of b g) o a → IsOfMessage c m (answer_of c g) o a
message_over b c t m g (Err e) a h = h
message_over b c t m g (Ok o) a (x, serves, is) =
    (x, serves_over b c t o (answer_of b g) (answer_of c g) (answer_alike b c t g) m x serves, is)

pub served_over : (b c : Binding) → AreTwins b c → (m : ℕ) (text line a : List ℕ) → IsServed b m text line a → IsServed c m text line a
served_over b c t m text line a (g, file, is) =
    (g, file_over b c t text (Ok g) file, message_over b c t m g (decode_of line) a is)
