-- What devices do by themselves leaves a sound bus.
use Rattle.std.proofs.Common.{true, ◌≡◌, ℕ, false, [], ◌∷◌, List, Option, Some, None, Result, Ok, Err, OnOk, OnErr, option_map, is_none, is_some, ◌==◌, sym, refl, ap, ◌∙◌, subst}
use Rattle.std.specs.Prelude.{slice_set}
use Rattle.std.proofs.lemmas.Bool.{true≢false}
use Rattle.i3c_base.specs.declared.device.Setup.{Setup}
use Rattle.i3c_base.specs.declared.refusals.JoinRefusal.{JoinRefusal}
use Rattle.i3c_base.specs.declared.refusals.RoleRefusal.{RoleRefusal}
use Rattle.i3c_base.specs.Local.{attach, drop_off, wishing_join, wishing_role}
use Rattle.i3c_base.specs.State.{Device, State, device_at}
use Rattle.i3c_step.specs.declared.events.Event.{Event}
use Rattle.i3c_step.specs.declared.replies.Refusal.{Refusal}
use Rattle.i3c_step.specs.declared.replies.Reply.{Reply}
use Rattle.i3c_step.specs.Sound.{IsSound}
use Rattle.i3c_step.specs.Step.{first_refusal}
use Rattle.i3c_step.proofs.Acting.{acting}
use Rattle.i3c_step.proofs.Soundness.{sound_role_wishes, sound_step, sound_wishes}

-- the result of a lookup is the value at the place
pub none_there : {A : Type 0} (o : Option A) → is_some o ≡ false → o ≡ None
none_there None h = refl
none_there (Some x) h = absurd (true≢false h)

pub some_there : {A : Type 0} (o : Option A) → is_some o ≡ true → is_none o ≡ false
some_there None h = absurd (true≢false (sym h))
some_there (Some x) h = refl

-- a device that enters an empty slot
pub sound_attached : (s : ℕ) (setup : Setup) (st : State) → device_at st s ≡ None → IsSound st → IsSound (attach s setup st)
sound_attached s setup st empty sound =
    let free : first_refusal ((is_some (device_at st s), Refusal.SlotTaken) ∷ []) ≡ None = ap (λ (o : Option Device). first_refusal ((is_some o, Refusal.SlotTaken) ∷ [])) empty in
    sound_step st (Event.Attach s setup) Reply.Attached (attach s setup st) (acting st (Event.Attach s setup) Reply.Attached (attach s setup st) free (refl, refl)) sound

-- a device that drops off, and isn't the active controller
pub sound_dropped : (s : ℕ) (st : State) → is_none (device_at st s) ≡ false → (s == st.active) ≡ false → IsSound st → IsSound (drop_off s st)
sound_dropped s st there other sound =
    let free : first_refusal ((is_none (device_at st s), Refusal.NoDevice) ∷ (s == st.active, Refusal.ActiveStays) ∷ []) ≡ None =
    ap (λ b. first_refusal ((b, Refusal.NoDevice) ∷ (s == st.active, Refusal.ActiveStays) ∷ [])) there ∙ ap (λ b. first_refusal ((b, Refusal.ActiveStays) ∷ [])) other in
    sound_step st (Event.DropOff s) Reply.Dropped (drop_off s st) (acting st (Event.DropOff s) Reply.Dropped (drop_off s st) free (refl, refl)) sound

-- a device that wishes to join, or mayn't
pub sound_asked : (result : Result (Unit {0}) JoinRefusal) (s : ℕ) (devices : List (Option Device)) (st : State)
    → OnOk result (devices ≡ slice_set st.devices s (option_map wishing_join (device_at st s))) → OnErr result (devices ≡ st.devices) → IsSound st → IsSound (record st { devices = devices })
sound_asked (Ok done) s devices st wishes same sound = subst (λ (ds : List (Option Device)). IsSound (record st { devices = ds })) (sym wishes) (sound_wishes s st sound)
sound_asked (Err why) s devices st wishes same sound = subst (λ (ds : List (Option Device)). IsSound (record st { devices = ds })) (sym same) sound

-- a device that wishes for the role, or mayn't
pub sound_role_asked : (result : Result (Unit {0}) RoleRefusal) (s : ℕ) (devices : List (Option Device)) (st : State)
    → OnOk result (devices ≡ slice_set st.devices s (option_map wishing_role (device_at st s))) → OnErr result (devices ≡ st.devices) → IsSound st → IsSound (record st { devices = devices })
sound_role_asked (Ok done) s devices st wishes same sound = subst (λ (ds : List (Option Device)). IsSound (record st { devices = ds })) (sym wishes) (sound_role_wishes s st sound)
sound_role_asked (Err why) s devices st wishes same sound = subst (λ (ds : List (Option Device)). IsSound (record st { devices = ds })) (sym same) sound
