-- Cuts behind the last bit of a line's frame lose nobody: the line does what it does without them.
use Rattle.std.proofs.Common.{min, Err, Ok, ◌≡◌, ◌≢◌, ◌∙◌, ◌⊎◌, ℕ, zero, suc, ap, ◌<◌, ◌≤◌, Bool, true, false, not, ◌&&◌, ◌==◌, eq-eqb, is_some, List, [], ◌∷◌, max, Option, None, Some, arith, inl, inr, refl, subst, sym, if◌then◌else◌}
use Rattle.std.specs.Prelude.{MatchOption}
use Rattle.std.proofs.Math.Nat.{le-max_left, le-max_right}
use Rattle.std.proofs.lemmas.Bool.{false≢true}
use Rattle.std.proofs.lemmas.Bool.Decides.{leb_tells, nat_tests}
use Rattle.i3c_base.specs.declared.answers.Answer.{Answer}
use Rattle.i3c_base.specs.declared.datum.Datum.{Datum}
use Rattle.i3c_base.specs.declared.datum.Direction.{Direction}
use Rattle.i3c_base.specs.declared.device.TheConstants.{REGISTERS}
use Rattle.i3c_base.specs.declared.requests.Fixed.{Fixed}
use Rattle.i3c_base.specs.Cutting.{CutList, earlier}
use Rattle.i3c_base.specs.Frames.{get_bits, least_length_from, length_of, told_length, transfer_length}
use Rattle.i3c_base.specs.Serve.{byte_due}
use Rattle.i3c_base.specs.State.{Device, Entry, State, device_at, entry_at, has_address, legacy_target_at}
use Rattle.i3c_step.specs.declared.events.Command.{Command as Frame}
use Rattle.i3c_step.specs.declared.events.Event.{Event}
use Rattle.i3c_step.specs.declared.replies.Refusal.{Refusal as BusRefusal}
use Rattle.i3c_step.specs.declared.replies.Reply.{Reply}
use Rattle.i3c_step.specs.Commands.{event_of}
use Rattle.i3c_step.specs.LateCuts.{bits_after_byte, most_bits, recut}
use Rattle.i3c_step.specs.Step.{Step}
use Rattle.i3c_step.proofs.LateCuts.{and_cut, late_alike}
use Rattle.i3c_step.proofs.LateSteps.{each_alike, recut_same, step_alike}
use Rattle.i3c_lines.specs.declared.command.Command.{Command}
use Rattle.i3c_lines.specs.declared.names.Name.{Name}
use Rattle.i3c_lines.specs.declared.names.Place.{Place}
use Rattle.i3c_lines.specs.declared.refusals.Refusal.{Refusal}
use Rattle.i3c_lines.specs.declared.sent.Sent.{Sent}
use Rattle.i3c_lines.specs.Naming.{slot_named}
use Rattle.i3c_lines.specs.Sending.{has_frame}
use Rattle.i3c_log_laws.specs.Behind.{reply_from}
use Rattle.i3c_script.specs.declared.piece.Piece.{Piece}
use Rattle.i3c_script.specs.Assigning.{Assigns, Moves, cuts_left}
use Rattle.i3c_script.specs.Asking.{acting_in, present_in}
use Rattle.i3c_script.specs.Obeying.{Acts, ActsAs, IsRefused, cut_at}
use Rattle.i3c_script.specs.Telling.{IsTold}
use Rattle.i3c_script.specs.Unkept.{no_past}
use Rattle.i3c_script.proofs.Moving.{all_taken, carries_cuts, one_subject}
use Rattle.i3c_facts.specs.declared.before.Before.{Before}
use Rattle.i3c_explore.specs.declared.ran.Ran.{Ran}
use Rattle.i3c_scene.specs.declared.line.Line.{Line}
use Rattle.i3c_scene.specs.declared.named.Named.{Named}
use Rattle.i3c_scene.specs.declared.risk.Risk.{Risk}
use Rattle.i3c_scene.specs.declared.ways.Ways.{Ways}
use Rattle.i3c_scene.specs.Going.{Does, cut_in, is_acting, on_bus, risked, sends}
use Rattle.i3c_scene.specs.Latest.{last_bit, last_of_frame, last_of_sent, latest, tried_as}
use Rattle.i3c_scene.specs.Pairs.{pair, within}
use Rattle.i3c_scene.specs.Scenes.{Seen, known_kept, place_in, seen}
use Rattle.i3c_scene.specs.Trying.{DoesIn, LineComesTo, LineSteps, Runs, RunsIn, slot_at_risk, ways_of}
use Rattle.i3c_scene.proofs.Pairs.{placed}

-- with a late cut of a device that isn't the active controller, each step of the uncut frame is allowed
step_late : (old : State) (event : Event) (reply : Reply) (new : State) (s bit : ℕ) → s ≢ old.active → most_bits old event < bit → Step old event reply new → Step old (recut (and_cut s bit) event) reply new
step_late old event reply new s bit other late h =
    let same = λ (cuts : CutList). cuts in
    step_alike old event same (and_cut s bit) reply new (each_alike old event same (and_cut s bit) (λ cuts. late_alike old cuts s bit (most_bits old event) other late))
    (subst (λ (e : Event). Step old e reply new) (sym (recut_same event)) h)

-- no datum has more than six bytes
told_at_most : (what : Datum) (entry : Option Entry) → told_length what entry ≤ 6
told_at_most Datum.Pid entry = omega arith
told_at_most Datum.Bcr entry = omega arith
told_at_most Datum.Dcr entry = omega arith
told_at_most Datum.Status entry = omega arith
told_at_most Datum.WriteLength entry = omega arith
told_at_most Datum.ReadLength entry = go (byte_due entry)
  where
    go : (b : Bool) → (if b then 3 else 2) ≤ 6
    go true = omega arith
    go false = omega arith
told_at_most Datum.Speed entry = omega arith
told_at_most Datum.Capabilities entry = omega arith

get_at_most : (what : Datum) (entry : Option Entry) → bits_after_byte (get_bits what entry Answer.NoEnd) ≤ 90
get_at_most what entry = omega (arith, told_at_most what entry)

-- no transfer has more bytes than there are registers
least_at_most : (active : ℕ) (way : Direction) (a s : ℕ) (places : List (Option Device)) → least_length_from active way a s places ≤ REGISTERS
least_at_most active way a s [] = omega arith
least_at_most active way a s (None ∷ places) = least_at_most active way a (suc s) places
least_at_most active way a s (Some d ∷ places) = go (not (s == active) && has_address a d) (length_of way d) (least_length_from active way a (suc s) places) (least_at_most active way a (suc s) places)
  where
    go : (b : Bool) (own rest : ℕ) → rest ≤ REGISTERS → (if b then min own rest else rest) ≤ REGISTERS
    go true own rest l = grind (arith, nat_tests)
    go false own rest l = l

length_at_most : (st : State) (way : Direction) (a : ℕ) → transfer_length st way a ≤ REGISTERS
length_at_most st way a = go (is_some (legacy_target_at st a)) (least_length_from st.active way a 0 st.devices) (least_at_most st.active way a 0 st.devices)
  where
    go : (b : Bool) (least : ℕ) → least ≤ REGISTERS → (if b then REGISTERS else least) ≤ REGISTERS
    go true least l = omega arith
    go false least l = l

-- the same in a frame under the role
frame_late : (old : State) (frame : Frame) (policy : Fixed) (cuts : CutList) (reply : Reply) (new : State) (s bit : ℕ) → s ≢ old.active → last_of_frame old frame < bit
    → Step old (event_of frame policy cuts) reply new → Step old (event_of frame policy (cut_at cuts s bit)) reply new
frame_late old Frame.Serve policy cuts reply new s bit other late h = step_late old (Event.Serve policy cuts) reply new s bit other late h
frame_late old (Frame.Enec None kinds) policy cuts reply new s bit other late h = step_late old (Event.Enec None kinds policy cuts) reply new s bit other late h
frame_late old (Frame.Enec (Some a) kinds) policy cuts reply new s bit other late h = step_late old (Event.Enec (Some a) kinds policy cuts) reply new s bit other late h
frame_late old (Frame.Disec None kinds) policy cuts reply new s bit other late h = step_late old (Event.Disec None kinds policy cuts) reply new s bit other late h
frame_late old (Frame.Disec (Some a) kinds) policy cuts reply new s bit other late h = step_late old (Event.Disec (Some a) kinds policy cuts) reply new s bit other late h
frame_late old Frame.Reset policy cuts reply new s bit other late h = step_late old (Event.Reset policy cuts) reply new s bit other late h
frame_late old Frame.SendList policy cuts reply new s bit other late h = step_late old (Event.SendList policy cuts) reply new s bit other late h
frame_late old (Frame.ReadFrom a) policy cuts reply new s bit other late h =
    let few = length_at_most old Direction.Read a in step_late old (Event.ReadFrom a policy cuts) reply new s bit other (omega (arith, late, few)) h
frame_late old (Frame.WriteTo a bytes) policy cuts reply new s bit other late h = step_late old (Event.WriteTo a bytes policy cuts) reply new s bit other (omega (arith, late)) h
frame_late old (Frame.SetStatic f to) policy cuts reply new s bit other late h = step_late old (Event.SetStatic f to policy cuts) reply new s bit other late h
frame_late old (Frame.SetNew a to) policy cuts reply new s bit other late h = step_late old (Event.SetNew a to policy cuts) reply new s bit other late h
frame_late old (Frame.Get what a) policy cuts reply new s bit other late h =
    let few = get_at_most what (entry_at old a) in step_late old (Event.Get what a policy cuts) reply new s bit other (omega (arith, late, few)) h
frame_late old (Frame.SetLength way most None) policy cuts reply new s bit other late h = step_late old (Event.SetLength way most None policy cuts) reply new s bit other late h
frame_late old (Frame.SetLength way most (Some a)) policy cuts reply new s bit other late h = step_late old (Event.SetLength way most (Some a) policy cuts) reply new s bit other late h

-- a scene with other cuts
abbrev with_cuts : Seen → CutList → Seen
with_cuts old cuts = seen old.state old.settings cuts old.names

-- a step of an event is one of another event with other cuts, if both leave the same cuts
moves_as : (old : Seen) (d : CutList) (e f : Event) (reply : Reply) (new : Seen) → cuts_left e old.cuts ≡ cuts_left f d → (Step old.state e reply new.state → Step old.state f reply new.state)
    → Moves no_past (on_bus old) e reply (on_bus new) → Moves no_past (on_bus (with_cuts old d)) f reply (on_bus new)
moves_as old d e f reply new left step h = record { sent = h.sent; step = step h.step; sends = λ kept. absurd (false≢true kept); settings = h.settings; cuts = h.cuts ∙ left; past = h.past }

frame_left : (frame : Frame) (policy : Fixed) (c d : CutList) → cuts_left (event_of frame policy c) c ≡ cuts_left (event_of frame policy d) d
frame_left frame policy c d = all_taken (event_of frame policy c) c (carries_cuts frame policy c) ∙ sym (all_taken (event_of frame policy d) d (carries_cuts frame policy d))

-- and in a whole session, in which only the opening frame takes the cuts
assigns_late : (old : Seen) (pieces : List Piece) (refused : Option Refusal) (new : Seen) (s bit : ℕ) → s ≢ old.state.active → 18 < bit → Assigns no_past (on_bus old) pieces refused (on_bus new)
    → Assigns no_past (on_bus (with_cuts old (cut_at old.cuts s bit))) pieces refused (on_bus new)
assigns_late old pieces refused new s bit other late (inl (served, given, complete, session, told, is)) = inl (
  served,
  given,
  complete,
  record {
    opened = session.opened;
    last = session.last;
    opens = step_late old.state (Event.OpenDaa old.cuts) (Reply.Opened served) session.opened s bit other late session.opens;
    gives = session.gives;
    ends = session.ends;
    sends = λ kept. absurd (false≢true kept);
    settings = session.settings;
    cuts = session.cuts;
  },
  told,
  is,
)
assigns_late old pieces refused new s bit other late (inr (why, moves, told, is)) = inr (
  why,
  moves_as old (cut_at old.cuts s bit) (Event.OpenDaa old.cuts) (Event.OpenDaa (cut_at old.cuts s bit)) (Reply.Refused why) new refl
      (step_late old.state (Event.OpenDaa old.cuts) (Reply.Refused why) new.state s bit other late) moves,
  told,
  is,
)

-- a line that the active controller sends does the same with a late cut
acts_late : (old : Seen) (sent : Sent) (pieces : List Piece) (refused : Option Refusal) (new : Seen) (s bit : ℕ) → has_frame sent ≡ true → s ≢ old.state.active → last_of_sent old.state sent < bit
    → Acts no_past (on_bus old) sent pieces refused (on_bus new) → Acts no_past (on_bus (with_cuts old (cut_at old.cuts s bit))) sent pieces refused (on_bus new)
acts_late old (Sent.Frame frame) pieces refused new s bit e other late (fixed, accepts, (reply, moves, told)) =
    let cuts = cut_at old.cuts s bit in (
      fixed,
      accepts,
      (
        reply,
        moves_as old cuts (event_of frame fixed old.cuts) (event_of frame fixed cuts) reply new (frame_left frame fixed old.cuts cuts) (frame_late old.state frame fixed old.cuts reply new.state s bit other late) moves,
        subst (λ subject. IsTold subject (reply_from old.settings.forgotten reply) pieces refused) (sym (one_subject frame fixed old.cuts) ∙ one_subject frame fixed cuts) told,
      ),
    )
acts_late old (Sent.HandOver to) pieces refused new s bit e other late (reply, moves, told) = (
  reply,
  moves_as old (cut_at old.cuts s bit) (Event.HandOver to old.cuts) (Event.HandOver to (cut_at old.cuts s bit)) reply new refl
      (step_late old.state (Event.HandOver to old.cuts) reply new.state s bit other late) moves,
  told,
)
acts_late old Sent.Open pieces refused new s bit e other late (reply, moves, told) = (
  reply,
  moves_as old (cut_at old.cuts s bit) (Event.OpenDaa old.cuts) (Event.OpenDaa (cut_at old.cuts s bit)) reply new refl
      (step_late old.state (Event.OpenDaa old.cuts) reply new.state s bit other late) moves,
  told,
)
acts_late old Sent.Round pieces refused new s bit e other late (reply, moves, told) = (
  reply,
  moves_as old (cut_at old.cuts s bit) (Event.Round old.cuts) (Event.Round (cut_at old.cuts s bit)) reply new refl
      (step_late old.state (Event.Round old.cuts) reply new.state s bit other late) moves,
  told,
)
acts_late old Sent.Daa pieces refused new s bit e other late assigns = assigns_late old pieces refused new s bit other late assigns
acts_late old Sent.End pieces refused new s bit e other late acts = absurd cc

both_hold : (one other : Bool) → (one && other) ≡ true → (one ≡ true) × (other ≡ true)
both_hold true true e = (refl, refl)
both_hold true false e = absurd cc
both_hold false other e = absurd cc

-- the active controller's own line isn't refused
acting_unrefused : (st : State) (place : Option Place) → is_acting st place ≡ true → acting_in st (present_in st (slot_named place)) ≡ None
acting_unrefused st None e = absurd cc
acting_unrefused st (Some (Place.Legacy a)) e = absurd cc
acting_unrefused st (Some Place.Gone) e = absurd cc
acting_unrefused st (Some (Place.Slot t)) e = go (is_some (device_at st t)) (t == st.active) refl e
  where
    go : (there same : Bool) → (t == st.active) ≡ same → (there && same) ≡ true → acting_in st (if there then Ok t else Err (Refusal.Bus BusRefusal.NoDevice)) ≡ None
    go true true is h = ap (λ (b : Bool). if b then None else Some Refusal.NotActive) is
    go true false is h = absurd cc
    go false same is h = absurd cc

-- a line of a controller that sends a frame does the same with a late cut
acts_as_late : (old : Seen) (name : Name) (sent : Sent) (pieces : List Piece) (refused : Option Refusal) (new : Seen) (s bit : ℕ) → sends old.state old.names (Command.As name sent) ≡ true → s ≢ old.state.active → last_of_sent old.state sent < bit
    → ActsAs no_past known_kept (on_bus old) old.names name sent pieces refused (on_bus new) → ActsAs no_past known_kept (on_bus (with_cuts old (cut_at old.cuts s bit))) old.names name sent pieces refused (on_bus new)
acts_as_late old name sent pieces refused new s bit e other late acts =
    let (acting, frame) = both_hold (is_acting old.state (place_in old.names name)) (has_frame sent) e in
    let none = acting_unrefused old.state (place_in old.names name) acting in
    let own = on_bus (with_cuts old (cut_at old.cuts s bit)) in
    let can = subst (λ (why : Option Refusal). MatchOption why (Acts no_past (on_bus old) sent pieces refused (on_bus new)) (λ one. (on_bus new ≡ on_bus old) × IsRefused one pieces refused)) none acts in
    subst (λ (why : Option Refusal). MatchOption why (Acts no_past own sent pieces refused (on_bus new)) (λ one. (on_bus new ≡ own) × IsRefused one pieces refused)) (sym none)
    (acts_late old sent pieces refused new s bit frame other late can)

-- a command that sends a frame does the same with a late cut
does_late : (old : Seen) (command : Command) (pieces : List Piece) (refused : Option Refusal) (new : Seen) (s bit : ℕ) → sends old.state old.names command ≡ true → s ≢ old.state.active → last_bit old.state command < bit
    → Does old command pieces refused new → Does (with_cuts old (cut_at old.cuts s bit)) command pieces refused new
does_late old (Command.Frame frame) pieces refused new s bit e other late (same, acts) = (same, acts_late old (Sent.Frame frame) pieces refused new s bit refl other late acts)
does_late old (Command.HandOver to) pieces refused new s bit e other late (same, acts) = (same, acts_late old (Sent.HandOver to) pieces refused new s bit refl other late acts)
does_late old Command.Open pieces refused new s bit e other late (same, acts) = (same, acts_late old Sent.Open pieces refused new s bit refl other late acts)
does_late old Command.Round pieces refused new s bit e other late (same, acts) = (same, acts_late old Sent.Round pieces refused new s bit refl other late acts)
does_late old Command.Daa pieces refused new s bit e other late (same, acts) = (same, acts_late old Sent.Daa pieces refused new s bit refl other late acts)
does_late old (Command.As name sent) pieces refused new s bit e other late (same, acts) = (same, acts_as_late old name sent pieces refused new s bit e other late acts)
does_late old (Command.Attach name setup) pieces refused new s bit e other late does = absurd cc
does_late old (Command.DropOff name) pieces refused new s bit e other late does = absurd cc
does_late old (Command.Raise name byte) pieces refused new s bit e other late does = absurd cc
does_late old (Command.AskJoin name) pieces refused new s bit e other late does = absurd cc
does_late old (Command.AskRole name) pieces refused new s bit e other late does = absurd cc
does_late old Command.End pieces refused new s bit e other late does = absurd cc
does_late old (Command.Policy kinds) pieces refused new s bit e other late does = absurd cc
does_late old (Command.Cut name at) pieces refused new s bit e other late does = absurd cc
does_late old (Command.PolicyBut kinds but) pieces refused new s bit e other late does = absurd cc
does_late old (Command.Forget last) pieces refused new s bit e other late does = absurd cc
does_late old Command.Show pieces refused new s bit e other late does = absurd cc
does_late old Command.ShowAll pieces refused new s bit e other late does = absurd cc
does_late old (Command.ShowFrom first) pieces refused new s bit e other late does = absurd cc
does_late old Command.Symbols pieces refused new s bit e other late does = absurd cc
does_late old (Command.Frames count) pieces refused new s bit e other late does = absurd cc
does_late old (Command.Legacy name address lvr) pieces refused new s bit e other late does = absurd cc
does_late old (Command.Declare address identity) pieces refused new s bit e other late does = absurd cc
does_late old (Command.Main name setup) pieces refused new s bit e other late does = absurd cc

-- a slot that may be cut in a command's frame: the command sends one, its last bit is below `last`, and the slot isn't the active controller's
record MayLose (st : State) (names : List Named) (command : Command) (slot : Option ℕ) (last : ℕ) : Type 0 where
  sent : (s : ℕ) → slot ≡ Some s → sends st names command ≡ true
  other : (s : ℕ) → slot ≡ Some s → s ≢ st.active
  ended : last_bit st command < last

risked_other : (st : State) (place : Option Place) (s : ℕ) → risked st place ≡ Some s → s ≢ st.active
risked_other st None s is = absurd cc
risked_other st (Some (Place.Legacy a)) s is = absurd cc
risked_other st (Some Place.Gone) s is = absurd cc
risked_other st (Some (Place.Slot t)) s is = go (is_some (device_at st t)) (t == st.active) refl is
  where
    go : (there same : Bool) → (t == st.active) ≡ same → (if there && not same then Some t else None) ≡ Some s → s ≢ st.active
    go true true e h = absurd cc
    go false same e h = absurd cc
    go true false e h = λ active.
        let is : t ≡ st.active = cc in
        let both : (t == st.active) ≡ true = eq-eqb t st.active is in absurd cc

slot_sent : (old : Seen) (b : Bool) (name : Name) (s : ℕ) → slot_at_risk old b name ≡ Some s → b ≡ true
slot_sent old true name s is = refl
slot_sent old false name s is = absurd cc

slot_other : (old : Seen) (b : Bool) (name : Name) (s : ℕ) → slot_at_risk old b name ≡ Some s → s ≢ old.state.active
slot_other old true name s is = risked_other old.state (place_in old.names name) s is
slot_other old false name s is = absurd cc

may_lose : (old : Seen) (command : Command) (name : Name) → MayLose old.state old.names command (slot_at_risk old (sends old.state old.names command) name) (suc (last_bit old.state command))
may_lose old command name = record { sent = slot_sent old (sends old.state old.names command) name; other = slot_other old (sends old.state old.names command) name; ended = omega arith }

-- a way covers another, in each scene of this bus and these names: what it does, the other does too
abbrev Covers : State → List Named → Command → Option ℕ → ℕ → ℕ → Type 0
Covers st names command slot tried way = (old : Seen) → old.state ≡ st → old.names ≡ names → (pieces : List Piece) → (refused : Option Refusal) → (new : Seen) → Does (cut_in old slot tried) command pieces refused new → Does (cut_in old slot way) command pieces refused new

-- the way in which nobody is cut covers each way over the last one
late_way : (old : Seen) (command : Command) (slot : Option ℕ) (last way : ℕ) (pieces : List Piece) (refused : Option Refusal) (new : Seen) → MayLose old.state old.names command slot last → last < way
    → Does (cut_in old slot 0) command pieces refused new → Does (cut_in old slot way) command pieces refused new
late_way old command None last way pieces refused new may late does = does
late_way old command (Some s) last zero pieces refused new may late does = does
late_way old command (Some s) last (suc bit) pieces refused new may late does = does_late old command pieces refused new s bit (may.sent s refl) (may.other s refl) (omega (arith, late, may.ended)) does

within_is : (last way : ℕ) → (within last way ≡ way) ⊎ ((within last way ≡ 0) × (last < way))
within_is last way = elim (leb_tells way last) [
  | inl (e, le) ↦ inl (ap (λ (b : Bool). if b then way else 0) e)
  | inr (e, gt) ↦ inr (ap (λ (b : Bool). if b then way else 0) e, gt)
]

within_covers : (st : State) (names : List Named) (command : Command) (slot : Option ℕ) (last way : ℕ) → MayLose st names command slot last → Covers st names command slot (within last way) way
within_covers st names command slot last way may old same known pieces refused new does = elim (within_is last way) [
  | inl is ↦ subst (λ (w : ℕ). Does (cut_in old slot w) command pieces refused new) is does
  | inr (is, late) ↦
      late_way old command slot last way pieces refused new (subst (λ (n : List Named). MayLose old.state n command slot last) (sym known) (subst (λ (at : State). MayLose at names command slot last) (sym same) may)) late (subst (λ (w : ℕ). Does (cut_in old slot w) command pieces refused new) is does)
]

-- the way that is tried for a way of a slot's device; without a slot it is way 0
abbrev tried_for : Option ℕ → ℕ → ℕ → ℕ
tried_for None last way = 0
tried_for (Some s) last way = within last way

tried_covers : (st : State) (names : List Named) (command : Command) (slot : Option ℕ) (last way : ℕ) → MayLose st names command slot last → Covers st names command slot (tried_for slot last way) way
tried_covers st names command None last way may old same known pieces refused new does = does
tried_covers st names command (Some s) last way may old same known pieces refused new does = within_covers st names command (Some s) last way may old same known pieces refused new does

within_last : (last way : ℕ) → within last way ≤ last
within_last last way = elim (leb_tells way last) [
  | inl (e, le) ↦ subst (λ (w : ℕ). w ≤ last) (sym (ap (λ (b : Bool). if b then way else 0) e)) le
  | inr (e, gt) ↦ subst (λ (w : ℕ). w ≤ last) (sym (ap (λ (b : Bool). if b then way else 0) e)) (omega arith)
]

tried_last : (slot : Option ℕ) (last way : ℕ) → tried_for slot last way ≤ (if is_some slot then last else 0)
tried_last None last way = omega arith
tried_last (Some s) last way = within_last last way

-- two cuts come to the same in both orders
earlier_both : (had : Option ℕ) (bit more : ℕ) → earlier (Some (earlier had bit)) more ≡ earlier (Some (earlier had more)) bit
earlier_both None bit more = grind (arith, nat_tests)
earlier_both (Some had) bit more = grind (arith, nat_tests)

cuts_commute : (cuts : CutList) (s t bit more : ℕ) → cut_at (cut_at cuts s bit) t more ≡ cut_at (cut_at cuts t more) s bit
cuts_commute [] s t bit more = refl
cuts_commute (had ∷ cuts) zero zero bit more = ap (λ (b : ℕ). Some b ∷ cuts) (earlier_both had bit more)
cuts_commute (had ∷ cuts) zero (suc t) bit more = refl
cuts_commute (had ∷ cuts) (suc s) zero bit more = refl
cuts_commute (had ∷ cuts) (suc s) (suc t) bit more = ap (λ (rest : CutList). had ∷ rest) (cuts_commute cuts s t bit more)

cut_in_commutes : (old : Seen) (s t : Option ℕ) (way more : ℕ) → cut_in (cut_in old s way) t more ≡ cut_in (cut_in old t more) s way
cut_in_commutes old None t way more = refl
cut_in_commutes old (Some s) None way more = refl
cut_in_commutes old (Some s) (Some t) zero more = refl
cut_in_commutes old (Some s) (Some t) (suc way) zero = refl
cut_in_commutes old (Some s) (Some t) (suc way) (suc more) = ap (λ (cuts : CutList). seen old.state old.settings cuts old.names) (cuts_commute old.cuts s t way more)

-- a cut changes nothing of a bus
cut_keeps : (old : Seen) (slot : Option ℕ) (way : ℕ) → (cut_in old slot way).state ≡ old.state
cut_keeps old None way = refl
cut_keeps old (Some s) zero = refl
cut_keeps old (Some s) (suc way) = refl

-- nor of the names
known_keeps : (old : Seen) (slot : Option ℕ) (way : ℕ) → (cut_in old slot way).names ≡ old.names
known_keeps old None way = refl
known_keeps old (Some s) zero = refl
known_keeps old (Some s) (suc way) = refl

-- two ways cover two others
both_cover : (old : Seen) (command : Command) (first second : Option ℕ) (tried tested one other : ℕ) → Covers old.state old.names command first tried one → Covers old.state old.names command second tested other → (pieces : List Piece) (refused : Option Refusal) (new : Seen)
    → Does (cut_in (cut_in old first tried) second tested) command pieces refused new → Does (cut_in (cut_in old first one) second other) command pieces refused new
both_cover old command first second tried tested one other for_one for_other pieces refused new does =
    let later = for_other (cut_in old first tried) (cut_keeps old first tried) (known_keeps old first tried) pieces refused new does in
    let turned = subst (λ (s : Seen). Does s command pieces refused new) (cut_in_commutes old first second tried other) later in
    let both = for_one (cut_in old second other) (cut_keeps old second other) (known_keeps old second other) pieces refused new turned in
    subst (λ (s : Seen). Does s command pieces refused new) (cut_in_commutes old second first other one) both

-- the ways that are tried for a way do what that does
pub does_tried : (old : Seen) (command : Command) (risk : Risk) (way : ℕ) (pieces : List Piece) (refused : Option Refusal) (new : Seen) → DoesIn old command risk (tried_as old.state risk (Some command) way) pieces refused new → DoesIn old command risk (ways_of risk way) pieces refused new
does_tried old command Risk.Nobody way pieces refused new does = does
does_tried old command (Risk.One name) way pieces refused new does =
    let last = suc (last_bit old.state command) in
    let slot = slot_at_risk old (sends old.state old.names command) name in
    within_covers old.state old.names command slot last way (may_lose old command name) old refl refl pieces refused new does
does_tried old command (Risk.Two name other) way pieces refused new does =
    let ways = pair way in
    let last = suc (last_bit old.state command) in
    let first = slot_at_risk old (sends old.state old.names command) name in
    let second = slot_at_risk old (sends old.state old.names command) other in
    both_cover old command first second (within last ways.one) (within last ways.other) ways.one ways.other
    (within_covers old.state old.names command first last ways.one (may_lose old command name)) (within_covers old.state old.names command second last ways.other (may_lose old command other)) pieces refused new does

runs_tried : (old : Seen) (command : Option Command) (risk : Risk) (before : Before) (new : Seen) (way : ℕ) → RunsIn old command risk (tried_as old.state risk command way) before new → Runs old command risk way before new
runs_tried old None risk before new way runs = runs
runs_tried old (Some command) risk before new way (pieces, refused, does, came) = (pieces, refused, does_tried old command risk way pieces refused new does, came)

-- a way up to the last one covers a way of a command
abbrev IsTriedFor : Seen → Command → Risk → ℕ → ℕ → Type 0
IsTriedFor old command risk way tried = (tried ≤ latest old risk (Some command)) × ((pieces : List Piece) (refused : Option Refusal) (new : Seen) → DoesIn old command risk (ways_of risk tried) pieces refused new → DoesIn old command risk (ways_of risk way) pieces refused new)

pub command_late : (old : Seen) (command : Command) (risk : Risk) (way : ℕ) → (tried : ℕ) × IsTriedFor old command risk way tried
command_late old command Risk.Nobody way = (0, (omega arith, λ pieces refused new does. does))
command_late old command (Risk.One name) way =
    let last = suc (last_bit old.state command) in
    let slot = slot_at_risk old (sends old.state old.names command) name in (
      tried_for slot last way,
      (
        tried_last slot last way,
        λ pieces refused new does. tried_covers old.state old.names command slot last way (may_lose old command name) old refl refl pieces refused new does,
      ),
    )
command_late old command (Risk.Two name other) way =
    let ways = pair way in
    let last = suc (last_bit old.state command) in
    let first = slot_at_risk old (sends old.state old.names command) name in
    let second = slot_at_risk old (sends old.state old.names command) other in
    let one = tried_for first last ways.one in
    let two = tried_for second last ways.other in
    let most = if is_some first then last else 0 in
    let more = if is_some second then last else 0 in
    let fits : one ≤ max most more = omega (arith, tried_last first last ways.one, le-max_left most more) in
    let fits_too : two ≤ max most more = omega (arith, tried_last second last ways.other, le-max_right most more) in
    let (number, le, is) = placed (max most more) one two fits fits_too in (
      number,
      (
        le,
        λ pieces refused new does.
            both_cover old command first second one two ways.one ways.other
            (tried_covers old.state old.names command first last ways.one (may_lose old command name)) (tried_covers old.state old.names command second last ways.other (may_lose old command other)) pieces refused new
            (subst (λ (w : Ways). DoesIn old command (Risk.Two name other) w pieces refused new) is does),
      ),
    )

-- the same of a line: what it comes to
way_tried : (old : Seen) (command : Option Command) (risk : Risk) (way : ℕ) → (tried : ℕ) × (tried ≤ latest old risk command) × ((before : Before) → (new : Seen) → Runs old command risk tried before new → Runs old command risk way before new)
way_tried old None risk way = (0, omega arith, λ before new runs. runs)
way_tried old (Some command) risk way =
    let (tried, (le, leads)) = command_late old command risk way in (tried, le, λ before new (pieces, refused, does, came). (pieces, refused, leads pieces refused new does, came))

-- so each way of a line does what one of those up to the last one does
pub line_late : (old : Seen) (line : Line) (way : ℕ) → (tried : ℕ) × (tried ≤ latest old line.risk line.command) × ((new : Seen) → LineSteps old line tried new → LineSteps old line way new) × (LineComesTo Ran.Held old line tried → LineComesTo Ran.Held old line way)
line_late old line way =
    let (tried, le, leads) = way_tried old line.command line.risk way in
    (tried, le, λ new (before, runs, held). (before, leads before new runs, held), λ (before, new, runs, is). (before, new, leads before new runs, is))

-- a line that ran in the ways that are tried for a way ran in that way
pub runs_as : (old live : Seen) (line : Line) (way : ℕ) (tried : Ways) (before : Before) (new : Seen) → live ≡ old → tried ≡ tried_as old.state line.risk line.command way → RunsIn live line.command line.risk tried before new → Runs old line.command line.risk way before new
runs_as old live line way tried before new same is runs =
    runs_tried old line.command line.risk before new way (subst (λ (s : Seen). RunsIn s line.command line.risk (tried_as old.state line.risk line.command way) before new) same (subst (λ (w : Ways). RunsIn live line.command line.risk w before new) is runs))
