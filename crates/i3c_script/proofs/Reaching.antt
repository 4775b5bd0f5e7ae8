-- The steps of a script's commands are a legal run, whatever these commands are.
use Rattle.std.proofs.Common.{◌≡◌, ◌∙◌, ℕ, ◌+◌, Bool, List, [], ◌∷◌, ◌++◌, inl, inr, length, map, Option, None, Some, MatchOption, Result, Ok, Err, MatchResult, ap, append_assoc, append-nil, length-append, refl, subst, sym}
use Rattle.i3c_base.specs.declared.answers.RoundReply.{RoundReply}
use Rattle.i3c_base.specs.declared.device.Setup.{Setup}
use Rattle.i3c_base.specs.declared.identity.Identity.{Identity}
use Rattle.i3c_base.specs.declared.identity.Lvr.{Lvr}
use Rattle.i3c_base.specs.declared.requests.Fixed.{Fixed}
use Rattle.i3c_base.specs.declared.requests.Record.{Record}
use Rattle.i3c_base.specs.declared.requests.Served.{Served}
use Rattle.i3c_base.specs.Cutting.{no_cuts}
use Rattle.i3c_bus.specs.Assigning.{given_reply, last_reply}
use Rattle.i3c_base.specs.State.{Board, State, device_at}
use Rattle.i3c_bus.specs.Readings.{address_of}
use Rattle.i3c_step.specs.declared.events.Event.{Event}
use Rattle.i3c_step.specs.declared.replies.Reply.{Reply}
use Rattle.i3c_step.specs.Runs.{IsLegalRun}
use Rattle.i3c_step.specs.Step.{Step}
use Rattle.i3c_step.proofs.RunLaws.{legal_more, legal_none}
use Rattle.i3c_log_laws.specs.Behind.{behind, counted_from, reply_from}
use Rattle.i3c_log_laws.proofs.Steps.{steps_go_on_alike}
use Rattle.i3c_lines.specs.declared.command.Command.{Command}
use Rattle.i3c_lines.specs.declared.names.Name.{Name}
use Rattle.i3c_lines.specs.declared.names.Names.{Names}
use Rattle.i3c_lines.specs.declared.refusals.Refusal.{Refusal}
use Rattle.i3c_lines.specs.declared.sent.Sent.{Sent}
use Rattle.i3c_lines.specs.Keeping.{NamesSlot, names_kept, slot_meant}
use Rattle.i3c_script.specs.declared.piece.Piece.{Piece}
use Rattle.i3c_script.specs.declared.replies.Subject.{Subject}
use Rattle.i3c_script.specs.declared.settings.Settings.{Settings}
use Rattle.i3c_script.specs.declared.stage.Stage.{Stage}
use Rattle.i3c_script.specs.Asking.{acting_refusal, slot_of_device, slots_named}
use Rattle.i3c_script.specs.Assigning.{Assigns, IsSession, Moves, Rounds}
use Rattle.i3c_script.specs.Leading.{AreLegal, AreLegalBehind, Lead, Obeyed, made}
use Rattle.i3c_script.specs.Making.{Made, acts_as_made, acts_made, assigns_made, command_made, does_made, enters_made, events_of, on_bus_made, one, pieces_made, replies_of, rounds_made, session_made, slot_made}
use Rattle.i3c_script.specs.Obeying.{Acts, AddsLegacy, Answers, AnswersOf, ComesTo, Declares, Does, IsBegun, IsDone, IsRefused, ObeysAt, ObeysBefore, ObeysOn, Relieves, ScriptState, Sets, Starts, declare_refusal, legacy_refusal, main_refusal, script}
use Rattle.i3c_script.specs.Situations.{Situation, Told, told_past}

-- steps, one list behind the other
events_both : (a b : List Made) → events_of (a ++ b) ≡ events_of a ++ events_of b
events_both [] b = refl
events_both (m ∷ a) b = ap (λ events. m.event ∷ events) (events_both a b)

replies_both : (a b : List Made) → replies_of (a ++ b) ≡ replies_of a ++ replies_of b
replies_both [] b = refl
replies_both (m ∷ a) b = ap (λ replies. m.reply ∷ replies) (replies_both a b)

none_more : (steps : List Made) (ran : Situation Told) → AreLegalBehind steps ran → AreLegalBehind (steps ++ []) ran
none_more steps ran r = subst (λ s. AreLegalBehind s ran) (sym (append-nil steps)) r

-- a legal run goes on with a step
step_more : (steps : List Made) (old new : State) (event : Event) (reply : Reply) → AreLegal steps old → Step old event reply new → AreLegal (steps ++ one event reply) new
step_more steps old new event reply (main, board, run) step = (
  main,
  board,
  subst (λ events. IsLegalRun main board events (replies_of (steps ++ one event reply)) new) (sym (events_both steps (one event reply)))
      (subst (λ replies. IsLegalRun main board (events_of steps ++ event ∷ []) replies new) (sym (replies_both steps (one event reply)))
      (legal_more main board (events_of steps) (replies_of steps) old event reply new run step)),
)

-- and so it does where the first records are gone
moves_on : (steps : List Made) (old new : Situation Told) (event : Event) (reply : Reply) → AreLegalBehind steps old → Moves told_past old event reply new → AreLegalBehind (steps ++ one event (reply_from old.settings.forgotten reply)) new
moves_on steps old new event reply (gone, many, legal) m = (
  gone,
  many ∙ sym (ap (λ (settings : Settings). settings.forgotten) m.settings),
  subst (λ count. AreLegal (steps ++ one event (reply_from count reply)) (behind gone new.state)) many
      (step_more steps (behind gone old.state) (behind gone new.state) event (reply_from (length gone) reply) legal (steps_go_on_alike gone old.state new.state event reply m.step)),
)

stays : (steps : List Made) (old new : Situation Told) → AreLegalBehind steps old → new ≡ old → AreLegalBehind (steps ++ []) new
stays steps old new r same = none_more steps new (subst (AreLegalBehind steps) (sym same) r)

-- rounds are steps behind records that are gone
rounds_on : (gone : List Record) (steps : List Made) (old new : State) (answers : List RoundReply) → AreLegal steps (behind gone old) → Rounds old answers new → AreLegal (steps ++ rounds_made answers) (behind gone new)
rounds_on gone steps old new [] legal same = subst (λ s. AreLegal s (behind gone new)) (sym (append-nil steps)) (subst (λ st. AreLegal steps (behind gone st)) (sym same) legal)
rounds_on gone steps old new (answer ∷ later) legal (mid, step, more) =
    subst (λ s. AreLegal s (behind gone new)) (append_assoc steps (one (Event.Round no_cuts) (Reply.Round answer)) (rounds_made later))
    (rounds_on gone (steps ++ one (Event.Round no_cuts) (Reply.Round answer)) mid new later
    (step_more steps (behind gone old) (behind gone mid) (Event.Round no_cuts) (Reply.Round answer) legal (steps_go_on_alike gone old mid (Event.Round no_cuts) (Reply.Round answer) step)) more)

-- a whole session: its opening, its rounds and its end
session_on : (steps : List Made) (old new : Situation Told) (served : Served) (given : List (ℕ × Identity)) (complete : Bool) → AreLegalBehind steps old → IsSession told_past old served given complete new
    → AreLegalBehind (steps ++ session_made old.cuts (counted_from old.settings.forgotten served) given complete) new
session_on steps old new served given complete (gone, many, legal) session =
    let answers = map given_reply given ++ last_reply complete ∷ [] in
    let opening = one (Event.OpenDaa old.cuts) (Reply.Opened (counted_from (length gone) served)) in
    let ending = one Event.EndDaa Reply.Ended in
    let opened = step_more steps (behind gone old.state) (behind gone session.opened) (Event.OpenDaa old.cuts) (Reply.Opened (counted_from (length gone) served)) legal
    (steps_go_on_alike gone old.state session.opened (Event.OpenDaa old.cuts) (Reply.Opened served) session.opens) in
    let played = rounds_on gone (steps ++ opening) session.opened session.last answers opened session.gives in
    let ended = step_more ((steps ++ opening) ++ rounds_made answers) (behind gone session.last) (behind gone new.state) Event.EndDaa Reply.Ended played
    (steps_go_on_alike gone session.last new.state Event.EndDaa Reply.Ended session.ends) in (
      gone,
      many ∙ sym (ap (λ (settings : Settings). settings.forgotten) session.settings),
      subst (λ count. AreLegal (steps ++ session_made old.cuts (counted_from count served) given complete) (behind gone new.state)) many
          (subst (λ s. AreLegal s (behind gone new.state)) (append_assoc (steps ++ opening) (rounds_made answers) ending ∙ append_assoc steps opening (rounds_made answers ++ ending)) ended),
    )

assigns_on : (steps : List Made) (old new : Situation Told) (pieces : List Piece) (refused : Option Refusal) → AreLegalBehind steps old → (h : Assigns told_past old pieces refused new) → AreLegalBehind (steps ++ assigns_made old pieces refused new h) new
assigns_on steps old new pieces refused r (inl (served, given, complete, session, told, why)) = session_on steps old new served given complete r session
assigns_on steps old new pieces refused r (inr (why, m, told, is)) = moves_on steps old new (Event.OpenDaa old.cuts) (Reply.Refused why) r m

in_on : (steps : List Made) (slot : Result ℕ Refusal) (old new : Situation Told) (event : ℕ → Event) (pieces : List Piece) (refused : Option Refusal) → AreLegalBehind steps old
    → (h : MatchResult slot (λ s. Answers told_past old (event s) pieces refused new) (λ why. (new ≡ old) × IsRefused why pieces refused)) → AreLegalBehind (steps ++ slot_made slot old event pieces refused new h) new
in_on steps (Ok slot) old new event pieces refused r (reply, m, told) = moves_on steps old new (event slot) reply r m
in_on steps (Err why) old new event pieces refused r h = stays steps old new r h.0

cut_on : (steps : List Made) (slot : Result ℕ Refusal) (old new : Situation Told) (Cut : ℕ → Situation Told) (pieces : List Piece) (refused : Option Refusal) → ((s : ℕ) → AreLegalBehind steps (Cut s)) → AreLegalBehind steps old
    → MatchResult slot (λ s. (new ≡ Cut s) × IsDone [] pieces refused) (λ why. (new ≡ old) × IsRefused why pieces refused) → AreLegalBehind (steps ++ []) new
cut_on steps (Ok slot) old new Cut pieces refused legal r h = stays steps (Cut slot) new (legal slot) h.0
cut_on steps (Err why) old new Cut pieces refused legal r h = stays steps old new r h.0

-- what frames accept changes no log
sets_on : (steps : List Made) (old new : Situation Told) (kinds : Fixed) (slots : List ℕ) → AreLegalBehind steps old → Sets old kinds slots new → AreLegalBehind (steps ++ []) new
sets_on steps old new kinds slots (gone, many, legal) (settings, set, same) = stays steps (record old { settings = settings }) new (gone, many ∙ sym set.forgotten, legal) same

excepts_on : (steps : List Made) (slots : Result (List ℕ) Refusal) (old new : Situation Told) (kinds : Fixed) (pieces : List Piece) (refused : Option Refusal) → AreLegalBehind steps old
    → MatchResult slots (λ s. Sets old kinds s new × IsDone [] pieces refused) (λ why. (new ≡ old) × IsRefused why pieces refused) → AreLegalBehind (steps ++ []) new
excepts_on steps (Ok slots) old new kinds pieces refused r h = sets_on steps old new kinds slots r h.0
excepts_on steps (Err why) old new kinds pieces refused r h = stays steps old new r h.0

-- records that leave the log are among those that are gone
forgets_on : (steps : List Made) (old new : Situation Told) (last : ℕ) → AreLegalBehind steps old → Relieves old last new → AreLegalBehind (steps ++ []) new
forgets_on steps old new last (gone, many, legal) (settings, st, lets, same) =
    let all : length (gone ++ lets.gone) ≡ settings.forgotten = length-append gone lets.gone ∙ ap (λ (n : ℕ). n + length lets.gone) many ∙ sym lets.counted in
    let whole : gone ++ old.state.records ≡ (gone ++ lets.gone) ++ st.records = ap (λ l. gone ++ l) lets.split ∙ sym (append_assoc gone lets.gone st.records) in
    let log : behind gone old.state ≡ behind (gone ++ lets.gone) st =
    ap (λ (l : List Record). record old.state { records = l }) whole ∙ ap (λ (s : State). record s { records = (gone ++ lets.gone) ++ st.records }) (sym lets.log) in
    stays steps (record old { state = st; settings = settings }) new (gone ++ lets.gone, all, subst (AreLegal steps) log legal) same

-- a line that the active controller sends
acts_on : (steps : List Made) (old new : Situation Told) (sent : Sent) (pieces : List Piece) (refused : Option Refusal) → AreLegalBehind steps old → (h : Acts told_past old sent pieces refused new) → AreLegalBehind (steps ++ acts_made old sent pieces refused new h) new
acts_on steps old new (Sent.Frame frame) pieces refused r (fixed, accepts, (reply, m, told)) = moves_on steps old new _ reply r m
acts_on steps old new (Sent.HandOver to) pieces refused r (reply, m, told) = moves_on steps old new _ reply r m
acts_on steps old new Sent.Open pieces refused r (reply, m, told) = moves_on steps old new _ reply r m
acts_on steps old new Sent.Round pieces refused r (reply, m, told) = moves_on steps old new _ reply r m
acts_on steps old new Sent.End pieces refused r (reply, m, told) = moves_on steps old new _ reply r m
acts_on steps old new Sent.Daa pieces refused r h = assigns_on steps old new pieces refused r h

-- the same of a controller with a name
acts_as_on : (steps : List Made) (why : Option Refusal) (old new : Situation Told) (sent : Sent) (pieces : List Piece) (refused : Option Refusal) → AreLegalBehind steps old
    → (h : MatchOption why (Acts told_past old sent pieces refused new) (λ one. (new ≡ old) × IsRefused one pieces refused)) → AreLegalBehind (steps ++ acts_as_made why old sent pieces refused new h) new
acts_as_on steps None old new sent pieces refused r h = acts_on steps old new sent pieces refused r h
acts_as_on steps (Some why) old new sent pieces refused r h = stays steps old new r h.0

does_on : (steps : List Made) (old new : Situation Told) (names : Names) (command : Command) (pieces : List Piece) (refused : Option Refusal) → AreLegalBehind steps old → (h : Does told_past names_kept old names command pieces refused new) → AreLegalBehind (steps ++ does_made old names command pieces refused new h) new
does_on steps old new names (Command.Frame frame) pieces refused r h = acts_on steps old new (Sent.Frame frame) pieces refused r h
does_on steps old new names (Command.DropOff name) pieces refused r h = in_on steps (slot_meant names_kept names name) old new Event.DropOff pieces refused r h
does_on steps old new names (Command.Raise name byte) pieces refused r h = in_on steps (slot_meant names_kept names name) old new (λ slot. Event.Raise slot byte) pieces refused r h
does_on steps old new names (Command.AskJoin name) pieces refused r h = in_on steps (slot_meant names_kept names name) old new Event.AskJoin pieces refused r h
does_on steps old new names (Command.AskRole name) pieces refused r h = in_on steps (slot_meant names_kept names name) old new Event.AskRole pieces refused r h
does_on steps old new names (Command.HandOver to) pieces refused r h = acts_on steps old new (Sent.HandOver to) pieces refused r h
does_on steps old new names Command.Open pieces refused r h = acts_on steps old new Sent.Open pieces refused r h
does_on steps old new names Command.Round pieces refused r h = acts_on steps old new Sent.Round pieces refused r h
does_on steps old new names Command.End pieces refused r h = acts_on steps old new Sent.End pieces refused r h
does_on steps old new names Command.Daa pieces refused r h = acts_on steps old new Sent.Daa pieces refused r h
does_on steps old new names (Command.As name sent) pieces refused r h = acts_as_on steps (acting_refusal names_kept old.state names name) old new sent pieces refused r h
does_on steps old new names (Command.Policy kinds) pieces refused r h = sets_on steps old new kinds [] r h.0
does_on steps old new names (Command.PolicyBut kinds but) pieces refused r h = excepts_on steps (slots_named (slot_of_device names_kept old.state names) but.items) old new kinds pieces refused r h
does_on steps old new names (Command.Cut name bit) pieces refused r h = cut_on steps (slot_of_device names_kept old.state names name) old new _ pieces refused (λ slot. r) r h
does_on steps old new names Command.Show pieces refused r h = stays steps old new r h.0
does_on steps old new names Command.ShowAll pieces refused r h = stays steps old new r h.0
does_on steps old new names (Command.ShowFrom first) pieces refused r h = stays steps old new r h.0
does_on steps old new names (Command.Forget last) pieces refused r h = forgets_on steps old new last r h.0
does_on steps old new names Command.Symbols pieces refused r h = stays steps old new r h.0
does_on steps old new names (Command.Frames count) pieces refused r h = stays steps old new r h.0
does_on steps old new names (Command.Legacy name address lvr) pieces refused r h = stays steps old new r h.0
does_on steps old new names (Command.Declare address identity) pieces refused r h = stays steps old new r h.0
does_on steps old new names (Command.Main name setup) pieces refused r h = stays steps old new r h.0
does_on steps old new names (Command.Attach name setup) pieces refused r h = absurd h

enters_on : (steps : List Made) (entrance : Result ℕ Refusal) (old new : Situation Told) (names named : Names) (name : Name) (event : ℕ → Event) (pieces : List Piece) (refused : Option Refusal) → AreLegalBehind steps old
    → (h : MatchResult entrance (λ slot. NamesSlot names named name slot × AnswersOf told_past (Subject.Attached name slot) old (event slot) pieces refused new) (λ why. (named ≡ names) × (new ≡ old) × IsRefused why pieces refused))
    → AreLegalBehind (steps ++ enters_made entrance old names named name event pieces refused new h) new
enters_on steps (Ok slot) old new names named name event pieces refused r (given, (reply, m, told)) = moves_on steps old new (event slot) reply r m
enters_on steps (Err why) old new names named name event pieces refused r h = stays steps old new r h.1

obeys_on : (steps : List Made) (old new : Situation Told) (names named : Names) (command : Command) (pieces : List Piece) (refused : Option Refusal) → AreLegalBehind steps old → (h : ObeysOn told_past names_kept old names command pieces refused new named) → AreLegalBehind (steps ++ on_bus_made old names command pieces refused new named h) new
obeys_on steps old new names named (Command.Attach name setup) pieces refused r (entrance, is, h) = enters_on steps entrance old new names named name (λ slot. Event.Attach slot setup) pieces refused r h
obeys_on steps old new names named (Command.Frame frame) pieces refused r (same, h) = does_on steps old new names (Command.Frame frame) pieces refused r h
obeys_on steps old new names named (Command.DropOff name) pieces refused r (same, h) = does_on steps old new names (Command.DropOff name) pieces refused r h
obeys_on steps old new names named (Command.Raise name byte) pieces refused r (same, h) = does_on steps old new names (Command.Raise name byte) pieces refused r h
obeys_on steps old new names named (Command.AskJoin name) pieces refused r (same, h) = does_on steps old new names (Command.AskJoin name) pieces refused r h
obeys_on steps old new names named (Command.AskRole name) pieces refused r (same, h) = does_on steps old new names (Command.AskRole name) pieces refused r h
obeys_on steps old new names named (Command.HandOver to) pieces refused r (same, h) = does_on steps old new names (Command.HandOver to) pieces refused r h
obeys_on steps old new names named Command.Open pieces refused r (same, h) = does_on steps old new names Command.Open pieces refused r h
obeys_on steps old new names named Command.Round pieces refused r (same, h) = does_on steps old new names Command.Round pieces refused r h
obeys_on steps old new names named Command.End pieces refused r (same, h) = does_on steps old new names Command.End pieces refused r h
obeys_on steps old new names named Command.Daa pieces refused r (same, h) = does_on steps old new names Command.Daa pieces refused r h
obeys_on steps old new names named (Command.Policy policy) pieces refused r (same, h) = does_on steps old new names (Command.Policy policy) pieces refused r h
obeys_on steps old new names named (Command.PolicyBut kinds but) pieces refused r (same, h) = does_on steps old new names (Command.PolicyBut kinds but) pieces refused r h
obeys_on steps old new names named (Command.Cut name bit) pieces refused r (same, h) = does_on steps old new names (Command.Cut name bit) pieces refused r h
obeys_on steps old new names named Command.Show pieces refused r (same, h) = does_on steps old new names Command.Show pieces refused r h
obeys_on steps old new names named Command.ShowAll pieces refused r (same, h) = does_on steps old new names Command.ShowAll pieces refused r h
obeys_on steps old new names named (Command.ShowFrom first) pieces refused r (same, h) = does_on steps old new names (Command.ShowFrom first) pieces refused r h
obeys_on steps old new names named (Command.Forget last) pieces refused r (same, h) = does_on steps old new names (Command.Forget last) pieces refused r h
obeys_on steps old new names named Command.Symbols pieces refused r (same, h) = does_on steps old new names Command.Symbols pieces refused r h
obeys_on steps old new names named (Command.Frames count) pieces refused r (same, h) = does_on steps old new names (Command.Frames count) pieces refused r h
obeys_on steps old new names named (Command.As name sent) pieces refused r (same, h) = does_on steps old new names (Command.As name sent) pieces refused r h
obeys_on steps old new names named (Command.Legacy name address lvr) pieces refused r (same, h) = does_on steps old new names (Command.Legacy name address lvr) pieces refused r h
obeys_on steps old new names named (Command.Declare address identity) pieces refused r (same, h) = does_on steps old new names (Command.Declare address identity) pieces refused r h
obeys_on steps old new names named (Command.Main name setup) pieces refused r (same, h) = does_on steps old new names (Command.Main name setup) pieces refused r h

-- before the bus there was no step; where the script has a bus, its steps are a legal run to it with its whole log
abbrev pub IsSound : List Made → Stage → Type 0
IsSound steps (Stage.Before board) = steps ≡ []
IsSound steps (Stage.Running ran) = AreLegalBehind steps ran

before : (steps : List Made) (board : Board) (stage : Stage) → steps ≡ [] → stage ≡ Stage.Before board → IsSound (steps ++ []) stage
before steps board stage none is = subst (IsSound (steps ++ [])) (sym is) (append-nil steps ∙ none)

same_before : (steps : List Made) (board : Board) (names : Names) (new : ScriptState) → steps ≡ [] → new ≡ script (Stage.Before board) names → IsSound (steps ++ []) new.stage
same_before steps board names new none same = before steps board new.stage none (ap (λ (state : ScriptState). state.stage) same)

adds_on : (steps : List Made) (why : Option Refusal) (board : Board) (names : Names) (name : Name) (address : ℕ) (lvr : Lvr) (text pieces : List Piece) (refused : Option Refusal) (new : ScriptState) → steps ≡ []
    → MatchOption why (AddsLegacy board names name address lvr new × IsDone text pieces refused) (λ one. (new ≡ script (Stage.Before board) names) × IsRefused one pieces refused) → IsSound (steps ++ []) new.stage
adds_on steps None board names name address lvr text pieces refused new none h = before steps _ new.stage none h.0.stage
adds_on steps (Some why) board names name address lvr text pieces refused new none h = same_before steps board names new none h.0

declares_on : (steps : List Made) (why : Option Refusal) (board : Board) (names : Names) (address : ℕ) (identity : Identity) (text pieces : List Piece) (refused : Option Refusal) (new : ScriptState) → steps ≡ []
    → MatchOption why (Declares board names address identity new × IsDone text pieces refused) (λ one. (new ≡ script (Stage.Before board) names) × IsRefused one pieces refused) → IsSound (steps ++ []) new.stage
declares_on steps None board names address identity text pieces refused new none h = same_before steps _ names new none h.0
declares_on steps (Some why) board names address identity text pieces refused new none h = same_before steps board names new none h.0

starts_on : (steps : List Made) (why : Option Refusal) (board : Board) (names : Names) (name : Name) (setup : Setup) (text : State → List Piece) (pieces : List Piece) (refused : Option Refusal) (new : ScriptState) → steps ≡ []
    → MatchOption why ((ran : Situation Told) × Starts board names name setup ran new × IsDone (text ran.state) pieces refused) (λ one. (new ≡ script (Stage.Before board) names) × IsRefused one pieces refused) → IsSound (steps ++ []) new.stage
starts_on steps None board names name setup text pieces refused new none (ran, s, told) =
    subst (IsSound (steps ++ [])) (sym s.stage) (subst (λ made. AreLegalBehind made ran) (sym (append-nil steps ∙ none)) ([], sym (ap (λ (settings : Settings). settings.forgotten) s.settings), (setup, board, legal_none setup board ran.state s.start)))
starts_on steps (Some why) board names name setup text pieces refused new none h = same_before steps board names new none h.0

before_on : (steps : List Made) (board : Board) (names : Names) (command : Command) (pieces : List Piece) (refused : Option Refusal) (new : ScriptState) → steps ≡ [] → ObeysBefore board names command pieces refused new → IsSound (steps ++ []) new.stage
before_on steps board names (Command.Legacy name address lvr) pieces refused new none h = adds_on steps (legacy_refusal board names name address) board names name address lvr _ pieces refused new none h
before_on steps board names (Command.Declare address identity) pieces refused new none h = declares_on steps (declare_refusal board address identity) board names address identity (Piece.Declared address ∷ []) pieces refused new none h
before_on steps board names (Command.Main name setup) pieces refused new none h = starts_on steps (main_refusal names name setup.identity.bcr) board names name setup (λ st. Piece.Main name (address_of (device_at st 0)) ∷ []) pieces refused new none h
before_on steps board names (Command.Attach name setup) pieces refused new none h = same_before steps board names new none h.0
before_on steps board names (Command.Frame frame) pieces refused new none h = same_before steps board names new none h.0
before_on steps board names (Command.DropOff name) pieces refused new none h = same_before steps board names new none h.0
before_on steps board names (Command.Raise name byte) pieces refused new none h = same_before steps board names new none h.0
before_on steps board names (Command.AskJoin name) pieces refused new none h = same_before steps board names new none h.0
before_on steps board names (Command.AskRole name) pieces refused new none h = same_before steps board names new none h.0
before_on steps board names (Command.HandOver to) pieces refused new none h = same_before steps board names new none h.0
before_on steps board names Command.Open pieces refused new none h = same_before steps board names new none h.0
before_on steps board names Command.Round pieces refused new none h = same_before steps board names new none h.0
before_on steps board names Command.End pieces refused new none h = same_before steps board names new none h.0
before_on steps board names Command.Daa pieces refused new none h = same_before steps board names new none h.0
before_on steps board names (Command.Policy policy) pieces refused new none h = same_before steps board names new none h.0
before_on steps board names (Command.Cut name bit) pieces refused new none h = same_before steps board names new none h.0
before_on steps board names Command.Show pieces refused new none h = same_before steps board names new none h.0
before_on steps board names Command.ShowAll pieces refused new none h = same_before steps board names new none h.0
before_on steps board names (Command.ShowFrom first) pieces refused new none h = same_before steps board names new none h.0
before_on steps board names (Command.PolicyBut kinds but) pieces refused new none h = same_before steps board names new none h.0
before_on steps board names (Command.Forget last) pieces refused new none h = same_before steps board names new none h.0
before_on steps board names Command.Symbols pieces refused new none h = same_before steps board names new none h.0
before_on steps board names (Command.Frames count) pieces refused new none h = same_before steps board names new none h.0
before_on steps board names (Command.As name sent) pieces refused new none h = same_before steps board names new none h.0

comes_on : (steps : List Made) (stage : Stage) (names : Names) (command : Command) (pieces : List Piece) (refused : Option Refusal) (new : ScriptState) → IsSound steps stage → (h : ComesTo stage names command pieces refused new)
    → IsSound (steps ++ pieces_made stage names command pieces refused new h) new.stage
comes_on steps (Stage.Before board) names command pieces refused new s h = before_on steps board names command pieces refused new s h
comes_on steps (Stage.Running old) names command pieces refused new s (ran, is, h) =
    subst (IsSound (steps ++ on_bus_made old names command pieces refused ran new.names h)) (sym is) (obeys_on steps old ran names new.names command pieces refused s h)

-- a command leads from a sound stage to a sound one
pub at_on : (steps : List Made) (stage : Stage) (names : Names) (command : Command) (said : List ℕ) (refused : Option Refusal) (new : ScriptState) → IsSound steps stage → (h : ObeysAt stage names command said refused new)
    → IsSound (steps ++ command_made stage names command said refused new h) new.stage
at_on steps stage names command said refused new s (pieces, comes, text) = comes_on steps stage names command pieces refused new s comes

leads_on : (steps : List Made) (old : ScriptState) (commands : List Obeyed) (new : ScriptState) → IsSound steps old.stage → (h : Lead old commands new) → IsSound (steps ++ made old commands new h) new.stage
leads_on steps old [] new s same = subst (λ more. IsSound more new.stage) (sym (append-nil steps)) (subst (λ (state : ScriptState). IsSound steps state.stage) (sym same) s)
leads_on steps old (first ∷ rest) new s (mid, obeys, lead) =
    let here = command_made old.stage old.names first.command first.said first.refused mid obeys in
    subst (λ all. IsSound all new.stage) (append_assoc steps here (made mid rest new lead))
    (leads_on (steps ++ here) mid rest new (at_on steps old.stage old.names first.command first.said first.refused mid s obeys) lead)

pub reached : (old : ScriptState) (commands : List Obeyed) (new : ScriptState) (ran : Situation Told) → IsBegun old → (lead : Lead old commands new) → new.stage ≡ Stage.Running ran → AreLegalBehind (made old commands new lead) ran
reached old commands new ran begun lead is =
    subst (IsSound (made old commands new lead)) is (leads_on [] old commands new (subst (IsSound []) (sym begun.stage) refl) lead)
