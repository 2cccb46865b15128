-- The words have one output over the files, by induction on the input's items.
use Rattle.std.proofs.Common.{◌≡◌, ℕ, List, [], ◌∷◌, ◌++◌, length, Bool, true, false, ◌||◌, Option, Some, None, Result, Ok, Err, refl, sym, ap, ◌∙◌, subst}
use Rattle.std.specs.Prelude.{codes, nat_le, MatchBool, if◌then◌else◌}
use Rattle.hex.specs.Hex.{decode_of, encode_lower}
use Rattle.kit_base.specs.declared.lines.Line.{Line}
use Rattle.kit_base.specs.declared.lines.Line.TheVariants.{Text, Long, End}
use Rattle.kit_base.specs.Limits.{longest_replies, longest_stubs}
use Rattle.wire_def.specs.declared.encoding.Back.{Back}
use Rattle.wire_frames.specs.declared.messages.Part.{Part}
use Rattle.wire_frames.specs.declared.messages.Part.TheVariants as part
use Rattle.stub_codes.specs.declared.stub.Stub.{Stub}
use Rattle.stub_codes.specs.Stubs.{Coded}
use Rattle.flick_lines.specs.declared.verb.Verb.{Verb}
use Rattle.flick_lines.specs.declared.verb.Verb.TheVariants.{Marshal, Unmarshal, Count}
use Rattle.flick_lines.specs.Sent.{Sending, nothing}
use Rattle.flick_lines.specs.Verbs.{IsAnswerTo}
use Rattle.flick_lines.proofs.Alike.{answer_over}
use Rattle.flick_lines.proofs.Twins.{AreTwins}
use Rattle.flick_serve.specs.Given.{Given}
use Rattle.flick_serve.specs.Served.{IsServed}
use Rattle.flick_serve.proofs.Alike.{file_over, served_over}
use Rattle.flick_serve.proofs.Deciding.{given_once}
use Rattle.flick_bridge.specs.Bridged.{Bridging, IsBridging}
use Rattle.flick_check.specs.Checked.{IsChecked, has_refusal}
use Rattle.flick_check.proofs.Deciding.{checked_once}
use Rattle.flick_bridge.proofs.Alike.{AreBridges, bridged_over}
use Rattle.aoi.specs.Plain.{PlainUnit}
use Rattle.flick_engine.specs.declared.wire.Wire.{Wire}
use Rattle.flick_texts.specs.MadeText.{make_text}
use Rattle.flick_texts.specs.Show.{show_text}
use Rattle.flick_texts.specs.Spent.{all_sent}
use Rattle.flick_texts.specs.StubTexts.{stubs_text}
use Rattle.flick_top.specs.declared.command.Action.{Action}
use Rattle.flick_top.specs.declared.command.Action.TheVariants as actions
use Rattle.flick_top.specs.declared.command.Command.{Command}
use Rattle.flick_top.specs.declared.command.Command.TheVariants as commands
use Rattle.flick_top.specs.declared.job.Job.{Job}
use Rattle.flick_top.specs.declared.job.Job.TheVariants as jobs
use Rattle.flick_top.specs.declared.report.Report.{Report}
use Rattle.flick_top.specs.declared.report.Report.TheVariants as reports
use Rattle.flick_top.specs.declared.status.Status.{Status}
use Rattle.flick_top.specs.declared.status.Status.TheVariants as s
use Rattle.flick_top.specs.declared.items.Item.{Item}
use Rattle.flick_top.specs.declared.items.Item.TheVariants as items
use Rattle.flick_top.specs.Answer.{Answer, answer_by, answer_of, engine_in, frame_of, is_refusal, written_of, Answering, IsTextTo, IsLineAnswer, IsPartLine, IsAnswer, answers, refuses, cutting_of}
use Rattle.flick_top.specs.Dispatch.{Files, showing_task, text_before, serving_task, ServesText, ServesFile, ChecksText, ChecksFile, Acts, ActsOver, IsSecond, bridging_task, Bridges, TaskOf, AreAnswered}
use Rattle.flick_top.specs.Command.{command_of, word_at, ChecksStubs, IsOverStubs}
use Rattle.flick_top.specs.File.{Reported, BoundSays, codes_in}
use Rattle.flick_top.specs.Fronts.{Read}
use Rattle.flick_top.specs.Items.{Cutting, by_frames}
use Rattle.flick_top.specs.Laws.{IsOverCodes, ShowsCodes, OneOutput}
use Rattle.flick_top.specs.Status.{number_of}
use Rattle.flick_top.specs.Task.{Task, report_task, answering_task, writing_task, checking_task, usage_task, items_of, Out, out_of}
use Rattle.flick_top.proofs.Determined.{one_part, one_text}
use Rattle.flick_top.proofs.Bridging.{bridging_stands}
use Rattle.flick_top.proofs.FilesSay.{AreAlike, AreReported, bound_says, file_says, reported_alike}
use Rattle.flick_top.proofs.TwinTexts.{before_alike, stubs_alike, made_alike}

-- ---- what the words come to

-- jobs whose texts, cuttings and written octets are the same, over engines that answer alike
pub record AreJobs (j k : Job) : Type 0 where
  pub texts : (octets a : List ℕ) → IsTextTo j octets a → IsTextTo k octets a
  pub twins : AreTwins (engine_in j).binding (engine_in k).binding
  pub minors : (engine_in j).minor ≡ (engine_in k).minor
  pub cuts : cutting_of j ≡ cutting_of k
  pub written : (text : List ℕ) → written_of j text ≡ written_of k text

-- no items, or those of jobs that answer alike
abbrev AreFeeds : Option Job → Option Job → Type 0
AreFeeds None None = Unit {0}
AreFeeds (Some j) (Some k) = AreJobs j k
AreFeeds _ _ = ⊥

-- one text and one end, and items that are answered alike
record AreTasks (t u : Task) : Type 0 where
  pub text : t.text ≡ u.text
  pub status : t.status ≡ u.status
  pub feeds : AreFeeds t.feed u.feed

tasks_by : (t u x y : Task) → t ≡ x → u ≡ y → AreTasks x y → AreTasks t u
tasks_by t u x y p q h = subst (λ (z : Task). AreTasks z u) (sym p) (subst (λ (z : Task). AreTasks x z) (sym q) h)

no_feed : (t u x : Task) → x.feed ≡ None → t ≡ x → u ≡ x → AreTasks t u
no_feed t u x none p q = tasks_by t u x x p q (record { text = refl; status = refl; feeds = rw none tt })

-- a report over any engines
refused_alike : (report : Report) (d e : Coded) (t u : Task) → t ≡ report_task report (Some d) → u ≡ report_task report (Some e)
    → AreTasks t u
refused_alike report d e t u p q =
    tasks_by t u (report_task report (Some d)) (report_task report (Some e)) p q (record { text = refl; status = refl; feeds = tt })

-- servers over such engines with one text
servers_alike : (d e : Coded) → AreTwins d.binding e.binding → d.minor ≡ e.minor → (text : List ℕ)
    → AreJobs (jobs.Serve (record { coded = d; text = text })) (jobs.Serve (record { coded = e; text = text }))
servers_alike d e alike minors text = record {
  texts = λ octets a is. served_over d.binding e.binding alike e.minor text octets a
      (subst (λ (m : ℕ). IsServed d.binding m text octets a) minors is);
  twins = alike;
  minors = minors;
  cuts = refl;
  written = λ octets. refl;
}

given_alike : (d e : Coded) → AreTwins d.binding e.binding → d.minor ≡ e.minor → (text : List ℕ) (x : Result Given ℕ) (t u : Task)
    → t ≡ serving_task d text x → u ≡ serving_task e text x → AreTasks t u
given_alike d e alike minors text (Ok g) t u p q =
    tasks_by t u (serving_task d text (Ok g)) (serving_task e text (Ok g)) p q
    (record { text = refl; status = refl; feeds = servers_alike d e alike minors text })
given_alike d e alike minors text (Err line) t u p q = refused_alike (reports.WrongReply line) d e t u p q

serves_text : (d e : Coded) → AreTwins d.binding e.binding → d.minor ≡ e.minor → (text : List ℕ) (t u : Task) → ServesText d text t
    → ServesText e text u → AreTasks t u
serves_text d e alike minors text t u (x, gives, p) (y, also, q) =
    let same : x ≡ y = given_once e.binding text x y (file_over d.binding e.binding alike text x gives) also in
    given_alike d e alike minors text y t u (p ∙ ap (λ (z : Result Given ℕ). serving_task d text z) same) q

within_serves : (d e : Coded) → AreTwins d.binding e.binding → d.minor ≡ e.minor → (text : List ℕ) (t u : Task) (b : Bool)
    → MatchBool b (ServesText d text t) (t ≡ report_task reports.LargeReplies (Some d))
    → MatchBool b (ServesText e text u) (u ≡ report_task reports.LargeReplies (Some e)) → AreTasks t u
within_serves d e alike minors text t u true p q = serves_text d e alike minors text t u p q
within_serves d e alike minors text t u false p q = refused_alike reports.LargeReplies d e t u p q

serves_file : (d e : Coded) → AreTwins d.binding e.binding → d.minor ≡ e.minor → (content : Option (List ℕ)) (t u : Task)
    → ServesFile d content t → ServesFile e content u → AreTasks t u
serves_file d e alike minors None t u p q = refused_alike reports.NoReplies d e t u p q
serves_file d e alike minors (Some text) t u p q = within_serves d e alike minors text t u (nat_le (length text) longest_replies) p q

-- stubs that are checked by one engine
same_engine : (d e : Coded) → Some d ≡ Some e → d ≡ e
same_engine d e is = cc is

checked_alike : (d e : Coded) (a b : List ℕ) (t u : Task) → a ≡ b → t ≡ checking_task a d → u ≡ checking_task b e → AreTasks t u
checked_alike d e a b t u same p q =
    tasks_by t u (checking_task a d) (checking_task b e) p q
    (record { text = same; status = ap (λ (x : List ℕ). if has_refusal x then s.Refused else s.Done) same; feeds = tt })

checks_text : (d e : Coded) (text : List ℕ) (t u : Task) → t.engine ≡ u.engine → ChecksText d text t → ChecksText e text u → AreTasks t u
checks_text d e text t u one (a, is, p) (b, also, q) =
    let engines : d ≡ e = same_engine d e (sym (ap (λ (z : Task). z.engine) p) ∙ one ∙ ap (λ (z : Task). z.engine) q) in
    checked_alike d e a b t u (checked_once e text a b (subst (λ (c : Coded). IsChecked c text a) engines is) also) p q

within_checks : (d e : Coded) (text : List ℕ) (t u : Task) (b : Bool) → t.engine ≡ u.engine
    → MatchBool b (ChecksText d text t) (t ≡ report_task reports.LargeStubs (Some d))
    → MatchBool b (ChecksText e text u) (u ≡ report_task reports.LargeStubs (Some e)) → AreTasks t u
within_checks d e text t u true one p q = checks_text d e text t u one p q
within_checks d e text t u false one p q = refused_alike reports.LargeStubs d e t u p q

checks_file : (d e : Coded) (content : Option (List ℕ)) (t u : Task) → t.engine ≡ u.engine → ChecksFile d content t
    → ChecksFile e content u → AreTasks t u
checks_file d e None t u one p q = refused_alike reports.NoStubs d e t u p q
checks_file d e (Some text) t u one p q = within_checks d e text t u (nat_le (length text) longest_stubs) one p q

-- bridges between such engines
bridges_alike : (d e x y : Coded) → AreTwins d.binding e.binding → d.minor ≡ e.minor → AreTwins x.binding y.binding → x.minor ≡ y.minor
    → d.binding.unit ≡ x.binding.unit
    → AreJobs (jobs.Bridge (record { from = d; to = x })) (jobs.Bridge (record { from = e; to = y }))
bridges_alike d e x y one first two second units =
    let s : Bridging = record { from = d; to = x } in
    let t : Bridging = record { from = e; to = y } in
    let stands : IsBridging s = record { units = units; reads = one.one; writes = two.one } in
    let other : IsBridging t = record { units = sym one.units ∙ units ∙ two.units; reads = one.other; writes = two.other } in
    let alike : AreBridges s t = record { reads = one; writes = two; minors = second } in
    record {
      texts = λ octets a is. bridged_over s t stands other alike octets a is;
      twins = one;
      minors = first;
      cuts = refl;
      written = λ text. refl;
    }

second_alike : (d e : Coded) (to : Wire) → AreTwins d.binding e.binding → d.minor ≡ e.minor → (x y : Reported) → IsSecond d to x
    → IsSecond e to y → AreReported ⊥ x y → (t u : Task) → t ≡ bridging_task d x → u ≡ bridging_task e y → AreTasks t u
second_alike d e to twins minors (Ok x) (Ok y) p q alike t u is other =
    tasks_by t u (bridging_task d (Ok x)) (bridging_task e (Ok y)) is other
    (record {
      text = refl;
      status = refl;
      feeds = bridges_alike d e x y twins minors alike.twins alike.minors (bridging_stands d to x p);
    })
second_alike d e to twins minors (Ok x) (Err f) p q alike t u is other = absurd alike
second_alike d e to twins minors (Err g) (Ok y) p q alike t u is other = absurd alike
second_alike d e to twins minors (Err g) (Err f) p q alike t u is other =
    refused_alike f d e t u (is ∙ ap (λ (s : Report). report_task s (Some d)) alike) other

bridged_alike : (to : Wire) (r s : Reported) → AreReported ⊥ r s → (t u : Task) → Bridges to r t → Bridges to s u → AreTasks t u
bridged_alike to (Ok d) (Ok e) alike t u (x, p, is) (y, q, other) =
    let there = subst (λ (v : PlainUnit). BoundSays (codes_in x) to (Ok v) x) alike.twins.units p in
    let same = bound_says ⊥ (codes_in x) (codes_in y) (λ none. absurd none) to (Ok e.binding.unit) x y there q in
    second_alike d e to alike.twins alike.minors x y p q same t u is other
bridged_alike to (Ok d) (Err f) alike t u p q = absurd alike
bridged_alike to (Err g) (Ok e) alike t u p q = absurd alike
bridged_alike to (Err g) (Err f) alike t u p q =
    no_feed t u (report_task f None) refl (p ∙ ap (λ (s : Report). report_task s None) alike) q

-- where an action shows the codes, a verb that is `count` does
verb_alike : (v : Verb) (d e : Coded) → AreAlike (IsOverCodes (actions.Answer v)) d e → AreAlike (v ≡ Count) d e
verb_alike v d e alike = record {
  twins = alike.twins;
  minors = alike.minors;
  codes = λ is. alike.codes (subst (λ (w : Verb). IsOverCodes (actions.Answer w)) (sym is) tt);
}

-- a verb that does not show the codes
quiet_over : (v : Verb) → (v ≡ Count → ⊥) → (d e : Coded) → AreTwins d.binding e.binding → d.minor ≡ e.minor → (octets a : List ℕ)
    → IsAnswerTo v d octets a → IsAnswerTo v e octets a
quiet_over v other d e twins minors octets a is = answer_over v d e twins minors (λ count. absurd (other count)) octets a is

-- one verb over engines that answer alike
overs_alike : (v : Verb) (d e : Coded) → AreAlike (v ≡ Count) d e → AreJobs (jobs.Over v d) (jobs.Over v e)
overs_alike v d e alike = record {
  texts = λ octets a is. answer_over v d e alike.twins alike.minors (λ count. alike.codes count) octets a is;
  twins = alike.twins;
  minors = alike.minors;
  cuts = refl;
  written = λ octets. refl;
}

pipes_alike : (d e : Coded) → AreTwins d.binding e.binding → d.minor ≡ e.minor → AreJobs (jobs.Pipe d) (jobs.Pipe e)
pipes_alike d e twins minors = record {
  texts = λ octets a is. quiet_over Marshal (λ count. absurd (cc count)) d e twins minors octets a is;
  twins = twins;
  minors = minors;
  cuts = refl;
  written = λ text. ap (λ (k : Back). frame_of k (decode_of text)) twins.backs;
}

unpipes_alike : (d e : Coded) → AreTwins d.binding e.binding → d.minor ≡ e.minor → AreJobs (jobs.Unpipe d) (jobs.Unpipe e)
unpipes_alike d e twins minors = record {
  texts = λ octets a is. quiet_over Unmarshal (λ count. absurd (cc count)) d e twins minors octets a is;
  twins = twins;
  minors = minors;
  cuts = ap by_frames twins.backs;
  written = λ text. refl;
}

acts_alike : (a : Action) (d e : Coded) → AreAlike (IsOverCodes a) d e → (words : List (List ℕ)) (files : Files) (t u : Task)
    → (IsOverStubs a → t.engine ≡ u.engine) → Acts a d words files t → Acts a e words files u → AreTasks t u
acts_alike (actions.Check stubs) d e alike words files t u one p q =
    checks_file d e (files (word_at words stubs)) t u (one tt) p q
acts_alike (actions.Serve replies) d e alike words files t u one p q =
    serves_file d e alike.twins alike.minors (files (word_at words replies)) t u p q
acts_alike (actions.Answer v) d e alike words files t u one p q =
    tasks_by t u (answering_task (text_before v d) (jobs.Over v d)) (answering_task (text_before v e) (jobs.Over v e)) p q
    (record { text = before_alike v d e (verb_alike v d e alike); status = refl; feeds = overs_alike v d e (verb_alike v d e alike) })
acts_alike actions.Pipe d e alike words files t u one p q =
    tasks_by t u (answering_task [] (jobs.Pipe d)) (answering_task [] (jobs.Pipe e)) p q
    (record { text = refl; status = refl; feeds = pipes_alike d e alike.twins alike.minors })
acts_alike actions.Unpipe d e alike words files t u one p q =
    tasks_by t u (answering_task [] (jobs.Unpipe d)) (answering_task [] (jobs.Unpipe e)) p q
    (record { text = refl; status = refl; feeds = unpipes_alike d e alike.twins alike.minors })
acts_alike actions.Stubs d e alike words files t u one p q =
    tasks_by t u (writing_task (stubs_text d) [] (Some d)) (writing_task (stubs_text e) [] (Some e)) p q
    (record { text = stubs_alike d e alike.twins (alike.codes tt); status = refl; feeds = tt })
acts_alike (actions.Make number many) d e alike words files t u one p q =
    tasks_by t u (writing_task (make_text d.binding d.minor number many) (all_sent d number many) (Some d))
    (writing_task (make_text e.binding e.minor number many) (all_sent e number many) (Some e)) p q
    (record { text = made_alike d.binding e.binding d.minor e.minor alike.twins alike.minors number many; status = refl; feeds = tt })

over_reported : (a : Action) (r s : Reported) → AreReported (IsOverCodes a) r s → (words : List (List ℕ)) (files : Files) (t u : Task)
    → (IsOverStubs a → t.engine ≡ u.engine) → ActsOver a r words files t → ActsOver a s words files u → AreTasks t u
over_reported a (Ok d) (Ok e) same words files t u one p q = acts_alike a d e same words files t u one p q
over_reported a (Ok d) (Err f) same words files t u one p q = absurd same
over_reported a (Err e) (Ok c) same words files t u one p q = absurd same
over_reported a (Err e) (Err f) same words files t u one p q =
    no_feed t u (report_task f None) refl (p ∙ ap (λ (x : Report). report_task x None) same) q

shown_alike : (r : Read) (t u : Task) → t ≡ showing_task r → u ≡ showing_task r → AreTasks t u
shown_alike (Ok v) t u p q = no_feed t u (writing_task (show_text v) [] None) refl p q
shown_alike (Err report) t u p q = no_feed t u (report_task report None) refl p q

over_files : (codes others : List Stub) (command : Option Command) (words : List (List ℕ)) (files : Files) (t u : Task)
    → (ShowsCodes command → codes ≡ others) → (ChecksStubs command → t.engine ≡ u.engine) → TaskOf codes command words files t
    → TaskOf others command words files u → AreTasks t u
over_files codes others None words files t u shown one p q = no_feed t u usage_task refl p q
over_files codes others (Some commands.Help) words files t u shown one p q = no_feed t u (report_task reports.Help None) refl p q
over_files codes others (Some commands.Version) words files t u shown one p q = no_feed t u (report_task reports.Version None) refl p q
over_files codes others (Some (commands.Show front)) words files t u shown one (r, says, p) (s, also, q) =
    let same : r ≡ s = file_says front (files (word_at words 2)) r s says also in
    shown_alike s t u (p ∙ ap (λ (x : Read). showing_task x) same) q
over_files codes others (Some (commands.Over a n)) words files t u shown one (r, mr, p) (s, ms, q) =
    let alike = reported_alike (IsOverCodes a) codes others shown n (files (word_at words n.file)) r s mr ms in
    over_reported a r s alike words files t u one p q
over_files codes others (Some (commands.Bridge n to)) words files t u shown one (r, mr, p) (s, ms, q) =
    bridged_alike to r s (reported_alike ⊥ codes others (λ none. absurd none) n (files (word_at words n.file)) r s mr ms) t u p q

-- ---- what is written

-- one text, and one end by it
record AreShown (a b : Answer) : Type 0 where
  pub octets : a.octets ≡ b.octets
  pub refused : a.refused ≡ b.refused

shown_by : (a b x y : Answer) → a ≡ x → b ≡ y → AreShown x y → AreShown a b
shown_by a b x y p q h =
    subst (λ (z : Answer). AreShown z b) (sym p) (subst (λ (z : Answer). AreShown x z) (sym q) h)

text_shown : (x y : List ℕ) (s t : Sending) → x ≡ y → AreShown (answer_of x s) (answer_of y t)
text_shown x y s t same = record { octets = same; refused = ap is_refusal same }

line_shown : (j k : Job) (line : Line) (a b : Answer) → AreJobs j k → IsLineAnswer j line a → IsLineAnswer k line b → AreShown a b
line_shown j k (Text octets) a b t (x, r, p, sent, is) (y, s, q, also, other) =
    let same : x ≡ y = one_text k octets x y (t.texts octets x p) q in
    shown_by a b (answer_by j x r) (answer_by k y s) is other
    (record { octets = t.written x ∙ ap (written_of k) same; refused = ap is_refusal same })
line_shown j k Long a b t is other =
    shown_by a b (answer_by j (codes "! long") nothing) (answer_by k (codes "! long") nothing) is other
    (record { octets = t.written (codes "! long"); refused = refl })
line_shown j k End a b t is other = shown_by a b b b (is ∙ sym other) refl (record { octets = refl; refused = refl })

part_over : (d e : Coded) → AreTwins d.binding e.binding → d.minor ≡ e.minor → (p : Part) (o : List ℕ) → IsPartLine d p o
    → IsPartLine e p o
part_over d e twins minors (part.Message message) o (text, is, same) =
    (text, quiet_over Unmarshal (λ count. absurd (cc count)) d e twins minors (encode_lower message) text is, same)
part_over d e twins minors (part.Fault fault) o is = is
part_over d e twins minors part.Cut o is = is

item_shown : (j k : Job) (item : Item) (a b : Answer) → AreJobs j k → IsAnswer j item a → IsAnswer k item b → AreShown a b
item_shown j k (items.Line line) a b t is other = line_shown j k line a b t is other
item_shown j k (items.Part p) a b t (x, is, e) (y, also, f) =
    shown_by a b (answer_of x nothing) (answer_of y nothing) e f
    (text_shown x y nothing nothing
    (one_part (engine_in k) p x y (part_over (engine_in j) (engine_in k) t.twins t.minors p x is) also))

-- answers of jobs that answer alike
abbrev AreShownAlike : Answering → Answering → Type 0
AreShownAlike f g = (item : Item) → AreShown (f item) (g item)

answers_alike : (f g : Answering) (items : List Item) → AreShownAlike f g → answers f items ≡ answers g items
answers_alike f g [] h = refl
answers_alike f g (i ∷ items) h =
    ap (λ (x : List ℕ). x ++ answers f items) (h i).octets
    ∙ ap (λ (x : List ℕ). (g i).octets ++ x) (answers_alike f g items h)

refuses_alike : (f g : Answering) (items : List Item) → AreShownAlike f g → refuses f items ≡ refuses g items
refuses_alike f g [] h = refl
refuses_alike f g (i ∷ items) h =
    ap (λ (b : Bool). b || refuses f items) (h i).refused ∙ ap (λ (b : Bool). (g i).refused || b) (refuses_alike f g items h)

-- a text, and what is written after it, where a refusal may be among it
abbrev out_with : List ℕ → Status → List ℕ → Bool → Out
out_with text status octets refused = record { octets = text ++ octets; status = if refused then 1 else number_of status }

items_output : (text : List ℕ) (status : Status) (f g : Answering) (items : List Item) → AreShownAlike f g
    → out_with text status (answers f items) (refuses f items) ≡ out_with text status (answers g items) (refuses g items)
items_output text status f g items alike =
    ap (λ (x : List ℕ). out_with text status x (refuses f items)) (answers_alike f g items alike)
    ∙ ap (λ (b : Bool). out_with text status (answers g items) b) (refuses_alike f g items alike)

-- what a feed writes after a text
abbrev fed : Option Job → List ℕ → Status → Answering → List ℕ → Out
fed feed text status f input = out_with text status (answers f (items_of feed input)) (refuses f (items_of feed input))

feeds_output : (l m : Option Job) (text : List ℕ) (status : Status) (f g : Answering) → AreFeeds l m → AreAnswered l f → AreAnswered m g
    → (input : List ℕ) → fed l text status f input ≡ fed m text status g input
feeds_output None None text status f g e h i input = refl
feeds_output None (Some k) text status f g e h i input = absurd e
feeds_output (Some j) None text status f g e h i input = absurd e
feeds_output (Some j) (Some k) text status f g t h i input =
    ap (λ (c : Cutting). out_with text status (answers f (c.whole input)) (refuses f (c.whole input))) t.cuts
    ∙ items_output text status f g (items_of (Some k) input) (λ item. item_shown j k item (f item) (g item) t (h item) (i item))

tasks_output : (t u : Task) (f g : Answering) → AreTasks t u → AreAnswered t.feed f → AreAnswered u.feed g → (input : List ℕ)
    → out_of t f input ≡ out_of u g input
tasks_output t u f g same h i input =
    ap (λ (x : List ℕ). fed t.feed x t.status f input) same.text
    ∙ ap (λ (x : Status). fed t.feed u.text x f input) same.status
    ∙ feeds_output t.feed u.feed u.text u.status f g same.feeds h i input

pub one_output : OneOutput
one_output codes others words files t u f g shown one p q h i input =
    tasks_output t u f g (over_files codes others (command_of words) words files t u shown one p q) h i input
