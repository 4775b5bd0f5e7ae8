-- Which replies an event may get that wants no memory.
use Rattle.std.proofs.Common.{◌≡◌, ℕ, Bool, true, false, Option, Some, None, MatchOption, if◌then◌else◌, ◌⊎◌, inl, inr, sym, refl, ap, ◌∙◌}
use Rattle.std.proofs.lemmas.Bool.{false≢true}
use Rattle.std.specs.Prelude.{is_some, is_none, ◌==◌}
use Rattle.i3c_base.specs.declared.device.Setup.{Setup}
use Rattle.i3c_base.specs.Cutting.{CutList}
use Rattle.i3c_base.specs.State.{State, device_at}
use Rattle.i3c_step.specs.declared.events.Event.{Event}
use Rattle.i3c_step.specs.declared.replies.Refusal.{Refusal}
use Rattle.i3c_step.specs.declared.replies.Reply.{Reply}
use Rattle.i3c_step.specs.Serving.{recorded_at}
use Rattle.i3c_step.specs.Step.{Acts, IsShort, Step, checks, first_refusal, may_want_memory}
use Rattle.i3c_shared.specs.Replying.{is_ask_reply, is_attach_reply, is_drop_reply, is_end_reply, is_hand_reply, is_open_reply, is_round_reply}

-- a test of replies that holds of each refusal and of each effect of an event holds of the event's steps
module _ (Is : Reply → Bool) (old : State) (event : Event) (reply : Reply) (new : State) where
  any_refusal : may_want_memory event ≡ false → ((why : Refusal) → Is (Reply.Refused why) ≡ true) → (Acts old event reply new → Is reply ≡ true) → Step old event reply new → Is reply ≡ true
  any_refusal memory refused acts h = go (first_refusal (checks old event)) h
    where
      go : (o : Option Refusal) → MatchOption o (IsShort old event reply new ⊎ Acts old event reply new) (λ why. (reply ≡ Reply.Refused why) × (new ≡ old)) → Is reply ≡ true
      go (Some why) k = ap Is k.0 ∙ refused why
      go None k = elim k [ inl short ↦ absurd (false≢true (sym memory ∙ short.0)) | inr a ↦ acts a ]

pub ask_role_replies : (old : State) (s : ℕ) (reply : Reply) (new : State) → Step old (Event.AskRole s) reply new → is_ask_reply reply ≡ true
ask_role_replies old s reply new h = any_refusal is_ask_reply old (Event.AskRole s) reply new refl (λ why. refl) (λ a. ap is_ask_reply a.0) h

pub ask_join_replies : (old : State) (s : ℕ) (reply : Reply) (new : State) → Step old (Event.AskJoin s) reply new → is_ask_reply reply ≡ true
ask_join_replies old s reply new h = any_refusal is_ask_reply old (Event.AskJoin s) reply new refl (λ why. refl) (λ a. ap is_ask_reply a.0) h

pub open_replies : (old : State) (cuts : CutList) (reply : Reply) (new : State) → Step old (Event.OpenDaa cuts) reply new → is_open_reply reply ≡ true
open_replies old cuts reply new h = any_refusal is_open_reply old (Event.OpenDaa cuts) reply new refl (λ why. refl) (λ a. ap is_open_reply a.1) h

pub round_replies : (old : State) (cuts : CutList) (reply : Reply) (new : State) → Step old (Event.Round cuts) reply new → is_round_reply reply ≡ true
round_replies old cuts reply new h = any_refusal is_round_reply old (Event.Round cuts) reply new refl (λ why. refl) (λ a. ap is_round_reply a.1) h

pub end_replies : (old : State) (reply : Reply) (new : State) → Step old Event.EndDaa reply new → is_end_reply reply ≡ true
end_replies old reply new h = any_refusal is_end_reply old Event.EndDaa reply new refl (λ why. refl) (λ a. ap is_end_reply a.0) h

pub hand_replies : (old : State) (to : ℕ) (cuts : CutList) (reply : Reply) (new : State) → Step old (Event.HandOver to cuts) reply new → is_hand_reply reply ≡ true
hand_replies old to cuts reply new h = any_refusal is_hand_reply old (Event.HandOver to cuts) reply new refl (λ why. refl) acts h
  where
    acts : Acts old (Event.HandOver to cuts) reply new → is_hand_reply reply ≡ true
    acts a = elim a [ inl granted ↦ ap is_hand_reply granted.1 | inr declined ↦ ap is_hand_reply declined.2 ]

pub attach_replies : (old : State) (s : ℕ) (setup : Setup) (reply : Reply) (new : State) → Step old (Event.Attach s setup) reply new → is_attach_reply reply ≡ true
attach_replies old s setup reply new h = go (is_some (device_at old s)) h
  where
    go : (b : Bool) → MatchOption (if b then Some Refusal.SlotTaken else None) (IsShort old (Event.Attach s setup) reply new ⊎ Acts old (Event.Attach s setup) reply new) (λ why. (reply ≡ Reply.Refused why) × (new ≡ old)) → is_attach_reply reply ≡ true
    go true k = ap is_attach_reply k.0
    go false k = elim k [ inl short ↦ absurd (false≢true short.0) | inr a ↦ ap is_attach_reply a.0 ]

pub drop_replies : (old : State) (s : ℕ) (reply : Reply) (new : State) → Step old (Event.DropOff s) reply new → is_drop_reply reply ≡ true
drop_replies old s reply new h = go (is_none (device_at old s)) (s == old.active) h
  where
    go : (b c : Bool) → MatchOption (if b then Some Refusal.NoDevice else (if c then Some Refusal.ActiveStays else None)) (IsShort old (Event.DropOff s) reply new ⊎ Acts old (Event.DropOff s) reply new) (λ why. (reply ≡ Reply.Refused why) × (new ≡ old)) → is_drop_reply reply ≡ true
    go true c k = ap is_drop_reply k.0
    go false true k = ap is_drop_reply k.0
    go false false k = elim k [ inl short ↦ absurd (false≢true short.0) | inr a ↦ ap is_drop_reply a.0 ]

-- a raise appends no record
pub raise_unrecorded : (old : State) (s : ℕ) (byte : Option ℕ) (reply : Reply) (new : State) → Step old (Event.Raise s byte) reply new → recorded_at reply ≡ None
raise_unrecorded old s byte reply new h = go (first_refusal (checks old (Event.Raise s byte))) h
  where
    go : (o : Option Refusal) → MatchOption o (IsShort old (Event.Raise s byte) reply new ⊎ Acts old (Event.Raise s byte) reply new) (λ why. (reply ≡ Reply.Refused why) × (new ≡ old)) → recorded_at reply ≡ None
    go (Some why) k = ap recorded_at k.0
    go None k = elim k [ inl short ↦ absurd (false≢true short.0) | inr a ↦ ap recorded_at a.0 ]
