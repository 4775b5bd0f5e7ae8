-- A line that sets nothing leaves the settings and the names as they are.
use Rattle.std.proofs.Common.{◌≡◌, ◌∙◌, ℕ, zero, suc, Bool, false, [], List, Option, Some, None, Result, Ok, Err, ap, inl, inr, refl, sym}
use Rattle.std.specs.Prelude.{MatchOption, MatchResult}
use Rattle.std.proofs.lemmas.Bool.{false≢true}
use Rattle.i3c_facts.specs.declared.before.Before.{Before}
use Rattle.i3c_lines.specs.declared.command.Command.{Command}
use Rattle.i3c_lines.specs.declared.names.Name.{Name}
use Rattle.i3c_lines.specs.declared.refusals.Refusal.{Refusal}
use Rattle.i3c_lines.specs.declared.sent.Sent.{Sent}
use Rattle.i3c_lines.specs.Keeping.{slot_meant}
use Rattle.i3c_script.specs.declared.past.Unkept.{Unkept}
use Rattle.i3c_script.specs.declared.piece.Piece.{Piece}
use Rattle.i3c_script.specs.Asking.{acting_refusal, slot_of_device}
use Rattle.i3c_script.specs.Assigning.{Assigns}
use Rattle.i3c_script.specs.Obeying.{Acts, Answers, AnswersIn, Does as DoesOn, IsDone, IsRefused, cut_at}
use Rattle.i3c_script.specs.Situations.{Situation}
use Rattle.i3c_script.specs.Unkept.{no_past}
use Rattle.i3c_step.specs.declared.events.Event.{Event}
use Rattle.i3c_scene.specs.declared.named.Named.{Named}
use Rattle.i3c_scene.specs.declared.risk.Risk.{Risk}
use Rattle.i3c_scene.specs.declared.ways.Ways.{Ways}
use Rattle.i3c_scene.specs.Going.{Does, cut_in, on_bus, sends}
use Rattle.i3c_scene.specs.Near.{HasSameSettings, sets_some}
use Rattle.i3c_scene.specs.Scenes.{Seen, known_kept}
use Rattle.i3c_scene.specs.Trying.{RunsIn, cut_as, slot_at_risk}

-- the settings are the same
abbrev Keeps : Situation Unkept → Situation Unkept → Type 0
Keeps old new = new.settings ≡ old.settings

-- in both cases of a result
either : {A : Type 0} {P : Type 0} (r : Result A Refusal) (good : A → Type 0) (bad : Refusal → Type 0) → MatchResult r good bad → ((a : A) → good a → P) → ((why : Refusal) → bad why → P) → P
either (Ok a) good bad h fine fault = fine a h
either (Err why) good bad h fine fault = fault why h

same_kept : (old now new : Situation Unkept) → Keeps old now → new ≡ now → Keeps old new
same_kept old now new settings is = ap (λ (s : Situation Unkept). s.settings) is ∙ settings

answered_in : (old new : Situation Unkept) (names : List Named) (name : Name) (event : ℕ → Event) (pieces : List Piece) (refused : Option Refusal) → AnswersIn no_past known_kept old names name event pieces refused new → Keeps old new
answered_in old new names name event pieces refused h =
    either (slot_meant known_kept names name) (λ slot. Answers no_past old (event slot) pieces refused new) (λ why. (new ≡ old) × IsRefused why pieces refused) h (λ slot a. a.1.settings) (λ why r. same_kept old old new refl r.0)

assigned : (old new : Situation Unkept) (pieces : List Piece) (refused : Option Refusal) → Assigns no_past old pieces refused new → Keeps old new
assigned old new pieces refused (inl (served, given, complete, session, told, why)) = session.settings
assigned old new pieces refused (inr (why, moves, told, is)) = moves.settings

-- a line that the active controller sends keeps them
acts_keep : (old new : Situation Unkept) (sent : Sent) (pieces : List Piece) (refused : Option Refusal) → Acts no_past old sent pieces refused new → Keeps old new
acts_keep old new (Sent.Frame frame) pieces refused (fixed, accepts, answers) = answers.1.settings
acts_keep old new (Sent.HandOver to) pieces refused h = h.1.settings
acts_keep old new Sent.Open pieces refused h = h.1.settings
acts_keep old new Sent.Round pieces refused h = h.1.settings
acts_keep old new Sent.End pieces refused h = h.1.settings
acts_keep old new Sent.Daa pieces refused h = assigned old new pieces refused h

acts_as_keep : (why : Option Refusal) (old new : Situation Unkept) (sent : Sent) (pieces : List Piece) (refused : Option Refusal)
    → MatchOption why (Acts no_past old sent pieces refused new) (λ one. (new ≡ old) × IsRefused one pieces refused) → Keeps old new
acts_as_keep None old new sent pieces refused h = acts_keep old new sent pieces refused h
acts_as_keep (Some why) old new sent pieces refused h = same_kept old old new refl h.0

keeps : (old new : Situation Unkept) (names : List Named) (command : Command) (pieces : List Piece) (refused : Option Refusal) → sets_some (Some command) ≡ false → DoesOn no_past known_kept old names command pieces refused new → Keeps old new
keeps old new names (Command.Frame frame) pieces refused n h = acts_keep old new (Sent.Frame frame) pieces refused h
keeps old new names (Command.Attach name setup) pieces refused n h = absurd h
keeps old new names (Command.DropOff name) pieces refused n h = answered_in old new names name Event.DropOff pieces refused h
keeps old new names (Command.Raise name byte) pieces refused n h = answered_in old new names name (λ slot. Event.Raise slot byte) pieces refused h
keeps old new names (Command.AskJoin name) pieces refused n h = answered_in old new names name Event.AskJoin pieces refused h
keeps old new names (Command.AskRole name) pieces refused n h = answered_in old new names name Event.AskRole pieces refused h
keeps old new names (Command.HandOver to) pieces refused n h = acts_keep old new (Sent.HandOver to) pieces refused h
keeps old new names Command.Open pieces refused n h = acts_keep old new Sent.Open pieces refused h
keeps old new names Command.Round pieces refused n h = acts_keep old new Sent.Round pieces refused h
keeps old new names Command.End pieces refused n h = acts_keep old new Sent.End pieces refused h
keeps old new names Command.Daa pieces refused n h = acts_keep old new Sent.Daa pieces refused h
keeps old new names (Command.As name sent) pieces refused n h = acts_as_keep (acting_refusal known_kept old.state names name) old new sent pieces refused h
keeps old new names (Command.Policy kinds) pieces refused n h = absurd (false≢true (sym n))
keeps old new names (Command.PolicyBut kinds but) pieces refused n h = absurd (false≢true (sym n))
keeps old new names (Command.Cut name bit) pieces refused n h =
    either (slot_of_device known_kept old.state names name) (λ slot. (new ≡ record old { cuts = cut_at old.cuts slot bit }) × IsDone [] pieces refused) (λ why. (new ≡ old) × IsRefused why pieces refused) h
    (λ slot d. same_kept old (record old { cuts = cut_at old.cuts slot bit }) new refl d.0) (λ why r. same_kept old old new refl r.0)
keeps old new names Command.Show pieces refused n h = same_kept old old new refl h.0
keeps old new names Command.ShowAll pieces refused n h = same_kept old old new refl h.0
keeps old new names (Command.ShowFrom first) pieces refused n h = same_kept old old new refl h.0
keeps old new names (Command.Forget last) pieces refused n h = absurd (false≢true (sym n))
keeps old new names Command.Symbols pieces refused n h = same_kept old old new refl h.0
keeps old new names (Command.Frames count) pieces refused n h = same_kept old old new refl h.0
keeps old new names (Command.Legacy name address lvr) pieces refused n h = same_kept old old new refl h.0
keeps old new names (Command.Declare address identity) pieces refused n h = same_kept old old new refl h.0
keeps old new names (Command.Main name setup) pieces refused n h = same_kept old old new refl h.0

does_same : (old new : Seen) (command : Command) (pieces : List Piece) (refused : Option Refusal) → sets_some (Some command) ≡ false → Does old command pieces refused new → HasSameSettings old new
does_same old new (Command.Frame frame) pieces refused n (same, h) = record { settings = keeps (on_bus old) (on_bus new) old.names (Command.Frame frame) pieces refused n h; names = same }
does_same old new (Command.DropOff name) pieces refused n (same, h) = record { settings = keeps (on_bus old) (on_bus new) old.names (Command.DropOff name) pieces refused n h; names = same }
does_same old new (Command.Raise name byte) pieces refused n (same, h) = record { settings = keeps (on_bus old) (on_bus new) old.names (Command.Raise name byte) pieces refused n h; names = same }
does_same old new (Command.AskJoin name) pieces refused n (same, h) = record { settings = keeps (on_bus old) (on_bus new) old.names (Command.AskJoin name) pieces refused n h; names = same }
does_same old new (Command.AskRole name) pieces refused n (same, h) = record { settings = keeps (on_bus old) (on_bus new) old.names (Command.AskRole name) pieces refused n h; names = same }
does_same old new (Command.HandOver to) pieces refused n (same, h) = record { settings = keeps (on_bus old) (on_bus new) old.names (Command.HandOver to) pieces refused n h; names = same }
does_same old new (Command.Open) pieces refused n (same, h) = record { settings = keeps (on_bus old) (on_bus new) old.names (Command.Open) pieces refused n h; names = same }
does_same old new (Command.Round) pieces refused n (same, h) = record { settings = keeps (on_bus old) (on_bus new) old.names (Command.Round) pieces refused n h; names = same }
does_same old new (Command.End) pieces refused n (same, h) = record { settings = keeps (on_bus old) (on_bus new) old.names (Command.End) pieces refused n h; names = same }
does_same old new (Command.Daa) pieces refused n (same, h) = record { settings = keeps (on_bus old) (on_bus new) old.names (Command.Daa) pieces refused n h; names = same }
does_same old new (Command.Policy kinds) pieces refused n (same, h) = record { settings = keeps (on_bus old) (on_bus new) old.names (Command.Policy kinds) pieces refused n h; names = same }
does_same old new (Command.PolicyBut kinds but) pieces refused n (same, h) = record { settings = keeps (on_bus old) (on_bus new) old.names (Command.PolicyBut kinds but) pieces refused n h; names = same }
does_same old new (Command.Cut name bit) pieces refused n (same, h) = record { settings = keeps (on_bus old) (on_bus new) old.names (Command.Cut name bit) pieces refused n h; names = same }
does_same old new (Command.Show) pieces refused n (same, h) = record { settings = keeps (on_bus old) (on_bus new) old.names (Command.Show) pieces refused n h; names = same }
does_same old new (Command.ShowAll) pieces refused n (same, h) = record { settings = keeps (on_bus old) (on_bus new) old.names (Command.ShowAll) pieces refused n h; names = same }
does_same old new (Command.ShowFrom first) pieces refused n (same, h) = record { settings = keeps (on_bus old) (on_bus new) old.names (Command.ShowFrom first) pieces refused n h; names = same }
does_same old new (Command.Forget last) pieces refused n (same, h) = record { settings = keeps (on_bus old) (on_bus new) old.names (Command.Forget last) pieces refused n h; names = same }
does_same old new (Command.Symbols) pieces refused n (same, h) = record { settings = keeps (on_bus old) (on_bus new) old.names (Command.Symbols) pieces refused n h; names = same }
does_same old new (Command.As name sent) pieces refused n (same, h) = record { settings = keeps (on_bus old) (on_bus new) old.names (Command.As name sent) pieces refused n h; names = same }
does_same old new (Command.Frames count) pieces refused n (same, h) = record { settings = keeps (on_bus old) (on_bus new) old.names (Command.Frames count) pieces refused n h; names = same }
does_same old new (Command.Legacy name address lvr) pieces refused n (same, h) = record { settings = keeps (on_bus old) (on_bus new) old.names (Command.Legacy name address lvr) pieces refused n h; names = same }
does_same old new (Command.Declare address identity) pieces refused n (same, h) = record { settings = keeps (on_bus old) (on_bus new) old.names (Command.Declare address identity) pieces refused n h; names = same }
does_same old new (Command.Main name setup) pieces refused n (same, h) = record { settings = keeps (on_bus old) (on_bus new) old.names (Command.Main name setup) pieces refused n h; names = same }
does_same old new (Command.Attach name setup) pieces refused n h = absurd (false≢true (sym n))

cut_in_same : (old : Seen) (slot : Option ℕ) (way : ℕ) → HasSameSettings old (cut_in old slot way)
cut_in_same old None way = record { settings = refl; names = refl }
cut_in_same old (Some s) zero = record { settings = refl; names = refl }
cut_in_same old (Some s) (suc bit) = record { settings = refl; names = refl }

both_same : (old mid new : Seen) → HasSameSettings old mid → HasSameSettings mid new → HasSameSettings old new
both_same old mid new h k = record { settings = k.settings ∙ h.settings; names = k.names ∙ h.names }

cut_as_same : (old : Seen) (sent : Bool) (risk : Risk) (ways : Ways) → HasSameSettings old (cut_as old sent risk ways)
cut_as_same old sent Risk.Nobody ways = record { settings = refl; names = refl }
cut_as_same old sent (Risk.One name) ways = cut_in_same old (slot_at_risk old sent name) ways.one
cut_as_same old sent (Risk.Two one other) ways =
    let first = cut_in old (slot_at_risk old sent one) ways.one in
    both_same old first (cut_in first (slot_at_risk old sent other) ways.other) (cut_in_same old (slot_at_risk old sent one) ways.one) (cut_in_same first (slot_at_risk old sent other) ways.other)

-- so it is in each way
pub run_same : (old new : Seen) (command : Option Command) (risk : Risk) (ways : Ways) (before : Before) → sets_some command ≡ false → RunsIn old command risk ways before new → HasSameSettings old new
run_same old new None risk ways before n h = record { settings = ap (λ (s : Seen). s.settings) h.0; names = ap (λ (s : Seen). s.names) h.0 }
run_same old new (Some command) risk ways before n (pieces, refused, does, came) =
    let cut = cut_as old (sends old.state old.names command) risk ways in
    both_same old cut new (cut_as_same old (sends old.state old.names command) risk ways) (does_same cut new command pieces refused n does)
