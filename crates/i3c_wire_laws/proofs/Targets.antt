-- Legacy targets keep their addresses, whatever happens on a bus.
use Rattle.std.proofs.Common.{◌≡◌, ◌∙◌, ℕ, List, Option, Some, None, is_some, get_or, inl, inr, ap, refl, sym}
use Rattle.i3c_base.specs.declared.answers.Answer.{Answer}
use Rattle.i3c_base.specs.declared.answers.RoundReply.{RoundReply}
use Rattle.i3c_base.specs.declared.device.LegacyTarget.{LegacyTarget}
use Rattle.i3c_base.specs.declared.requests.Fixed.{Fixed}
use Rattle.i3c_base.specs.declared.requests.Served.{Served}
use Rattle.i3c_base.specs.declared.requests.Served.TheVariants.{Quiet, Recorded, Refused, Torn, Joining, WantsRole}
use Rattle.i3c_base.specs.Cutting.{CutList, Lost}
use Rattle.i3c_base.specs.Frames.{Rekinds, legacy_written, written}
use Rattle.i3c_base.specs.Numbers.{KindSet}
use Rattle.i3c_base.specs.Round.{Rounds}
use Rattle.i3c_base.specs.Serve.{Frame, Serves}
use Rattle.i3c_base.specs.State.{State, legacy_target_at}
use Rattle.i3c_base.proofs.Lookups.{set_at}
use Rattle.i3c_step.specs.declared.events.Event.{Event}
use Rattle.i3c_step.specs.declared.events.Event.TheVariants.{Attach, DropOff, Raise, AskJoin, AskRole, Serve, Enec, Disec, Reset, SendList, ReadFrom, WriteTo, SetStatic, SetNew, Get, SetLength, OpenDaa, Round, EndDaa, HandOver}
use Rattle.i3c_step.specs.declared.replies.Reply.{Reply}
use Rattle.i3c_step.specs.Step.{Acts, Step}
use Rattle.i3c_step.proofs.Handing.{declined, granted}
use Rattle.i3c_step.proofs.Steps.{step_cases}
use Rattle.i3c_step.proofs.Transfers.{gets_keep, lengths_keep, news_keep, reads_keep, statics_keep, writes_keep}

-- the legacy targets have the same addresses
abbrev pub KeepsTargets : State → State → Type 0
KeepsTargets old new = (a : ℕ) → is_some (legacy_target_at new a) ≡ is_some (legacy_target_at old a)

-- a state with the same targets
keeps_same : (old new same : State) → new ≡ same → same.legacy ≡ old.legacy → KeepsTargets old new
keeps_same old new same e h a = ap (λ (st : State). is_some (legacy_target_at st a)) e ∙ ap (λ (targets : List (Option LegacyTarget)). is_some (get_or targets a None)) h

keeps_then : (old mid new : State) → KeepsTargets old mid → KeepsTargets mid new → KeepsTargets old new
keeps_then old mid new h k a = k a ∙ h a

keeps_serves : (st : State) (policy : Fixed) (lost : Lost) (served : Served) (new : State) → Serves st policy lost served new → KeepsTargets st new
keeps_serves st policy lost Quiet new h = keeps_same st new _ h.1 refl
keeps_serves st policy lost Refused new h = keeps_same st new _ h.1 refl
keeps_serves st policy lost Joining new h = keeps_same st new _ h.2 refl
keeps_serves st policy lost (WantsRole a) new h = keeps_same st new _ h.2 refl
keeps_serves st policy lost (Recorded place) new h = keeps_same st new _ h.left refl
keeps_serves st policy lost Torn new h = keeps_same st new _ h.left refl

keeps_rekinds : (to : Option ℕ) (f : KindSet → KindSet) (answer : Answer) (lost : Lost) (mid done : State) → Rekinds to f answer lost mid done → KeepsTargets mid done
keeps_rekinds None f answer lost mid done h = keeps_same mid done _ h.1 refl
keeps_rekinds (Some a) f answer lost mid done h = elim h [
  | inl k ↦ keeps_same mid done _ k.2 refl
  | inr k ↦ keeps_same mid done _ k.2 refl
]

-- a target whose registers are written is still there
still_there : (bytes : List ℕ) (o : Option LegacyTarget) → is_some (legacy_written bytes o) ≡ is_some o
still_there bytes None = refl
still_there bytes (Some target) = refl

keeps_written : (a : ℕ) (bytes : List ℕ) (st : State) → KeepsTargets st (written a bytes st)
keeps_written a bytes st b = elim (set_at st.legacy a b (legacy_written bytes (legacy_target_at st a)) None) [
  | inl e ↦ ap is_some e.1 ∙ (still_there bytes (legacy_target_at st a) ∙ ap (λ c. is_some (legacy_target_at st c)) (sym e.0))
  | inr e ↦ ap is_some e
]

keeps_round : (old : State) (cuts : CutList) (answer : RoundReply) (new : State) → Rounds old cuts answer new → KeepsTargets old new
keeps_round old cuts RoundReply.NoAddress new h = keeps_same old new _ h.1 refl
keeps_round old cuts RoundReply.Done new h = keeps_same old new _ h.2 refl
keeps_round old cuts RoundReply.Nobody new h = keeps_same old new _ h.3 refl
keeps_round old cuts (RoundReply.Assigned a i) new h = keeps_same old new _ h.3 refl

-- a frame keeps what its own part keeps
keeps_frame : (old : State) (policy : Fixed) (cuts : CutList) (served : Served) (rest : ℕ) (Own : Lost → State → State → Type 0) (new : State)
    → ((lost : Lost) (mid done : State) → Own lost mid done → KeepsTargets mid done) → Frame old policy cuts served rest Own new → KeepsTargets old new
keeps_frame old policy cuts served rest Own new own f =
    keeps_then old f.mid new (keeps_serves old policy _ served f.mid f.serves) (keeps_then f.mid f.done new (own _ f.mid f.done f.own) (keeps_same f.done new _ f.left refl))

keeps_acts : (old : State) (event : Event) (reply : Reply) (new : State) → Acts old event reply new → KeepsTargets old new
keeps_acts old (Attach s setup) reply new h = keeps_same old new _ h.1 refl
keeps_acts old (DropOff s) reply new h = keeps_same old new _ h.1 refl
keeps_acts old (Raise s byte) reply new h = keeps_same old new _ h.1 refl
keeps_acts old (AskJoin s) reply new h = keeps_same old new _ h.1 refl
keeps_acts old (AskRole s) reply new h = keeps_same old new _ h.1 refl
keeps_acts old (Serve policy cuts) reply new h = keeps_frame old policy cuts h.0 _ _ new (λ lost mid done e. keeps_same mid done mid e refl) h.2
keeps_acts old (Enec to kinds policy cuts) reply new h = keeps_frame old policy cuts h.0.served _ _ new (keeps_rekinds to _ _) h.2
keeps_acts old (Disec to kinds policy cuts) reply new h = keeps_frame old policy cuts h.0.served _ _ new (keeps_rekinds to _ _) h.2
keeps_acts old (Reset policy cuts) reply new h = keeps_frame old policy cuts h.0 _ _ new (λ lost mid done e. keeps_same mid done _ e refl) h.2
keeps_acts old (SendList policy cuts) reply new h = keeps_frame old policy cuts h.0 _ _ new (λ lost mid done e. keeps_same mid done _ e refl) h.2
keeps_acts old (ReadFrom a policy cuts) reply new h = keeps_frame old policy cuts h.0.served _ _ new (reads_keep KeepsTargets (λ st b. refl) a h.0.answer) h.2
keeps_acts old (WriteTo a bytes policy cuts) reply new h =
    keeps_frame old policy cuts h.0.served _ _ new (writes_keep KeepsTargets a bytes.items (λ st b. refl) (keeps_written a bytes.items) h.0.answer) h.2
keeps_acts old (SetStatic f to policy cuts) reply new h =
    keeps_frame old policy cuts h.0.served _ _ new (statics_keep KeepsTargets f to (λ st b. refl) (λ i st b. refl) h.0.answer) h.2
keeps_acts old (SetNew a to policy cuts) reply new h = keeps_frame old policy cuts h.0.served _ _ new (news_keep KeepsTargets a to (λ st b. refl) (λ st b. refl) h.0.answer) h.2
keeps_acts old (Get what a policy cuts) reply new h = keeps_frame old policy cuts h.0.served _ _ new (gets_keep KeepsTargets (λ st b. refl) what a h.0.answer) h.2
keeps_acts old (SetLength way most to policy cuts) reply new h =
    keeps_frame old policy cuts h.0.served _ _ new (lengths_keep KeepsTargets to way most (λ st b. refl) (λ st b. refl) h.0.answer) h.2
keeps_acts old (OpenDaa cuts) reply new h = keeps_frame old _ cuts h.0 _ _ new (λ lost mid done e. keeps_same mid done _ e refl) h.2
keeps_acts old (HandOver to cuts) reply new h = elim h [
  | inl g ↦ keeps_same old new _ (granted old to cuts reply new g).after refl
  | inr g ↦ keeps_same old new _ (declined old to cuts reply new g).1 refl
]
keeps_acts old (Round cuts) reply new h = keeps_round old cuts h.0 new h.2
keeps_acts old EndDaa reply new h = keeps_same old new _ h.1 refl

-- a step keeps them
pub keeps_step : (old : State) (event : Event) (reply : Reply) (new : State) → Step old event reply new → KeepsTargets old new
keeps_step old event reply new h = step_cases old event reply new h (λ idle e. keeps_same old new old e refl) (λ free acts. keeps_acts old event reply new acts)
