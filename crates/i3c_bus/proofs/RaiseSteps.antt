-- Raises as steps.
use Rattle.std.proofs.Common.{◌≡◌, ℕ, suc, ◌-◌, ◌^◌, Bool, true, false, ◌||◌, ◌==◌, sym, nat_le, not, List, [], ◌∷◌, length, Option, Some, None, option_map, is_some, is_none, if◌then◌else◌, refl, ap, subst, ◌∙◌, slice_set}
use Rattle.std.proofs.lemmas.Bool.{true≢false}
use Rattle.i3c_base.specs.declared.device.TheConstants.{WAITING}
use Rattle.i3c_base.specs.Covered.{Table}
use Rattle.i3c_base.specs.Local.{raise, with_raise}
use Rattle.i3c_base.specs.Numbers.{can_interrupt, has_byte, same_bool}
use Rattle.i3c_base.specs.State.{Device, State, device_at, raised_at}
use Rattle.i3c_device.specs.Raising.{next_fault, or_uncounted}
use Rattle.i3c_base.specs.declared.refusals.RaiseRefusal.{RaiseRefusal}
use Rattle.i3c_base.specs.Refusing.{is_uncounted, raise_faults, renamed}
use Rattle.i3c_step.specs.declared.events.Event.{Event}
use Rattle.i3c_step.specs.declared.replies.Refusal.TheVariants.{NoDevice, IsActive, NoAddress, NotCapable, ByteMismatch, Masked, Full}
use Rattle.i3c_step.specs.declared.replies.Reply.{Reply}
use Rattle.i3c_step.specs.Replies.{raise_refusal}
use Rattle.i3c_deftgts.specs.declared.entries.Entry.{Entry}
use Rattle.i3c_step.specs.Sound.{IsSound}
use Rattle.i3c_bus.specs.Whole.{IsWhole}
use Rattle.i3c_bus.proofs.Owning.{KeepsList, copied_still, keeps_change}
use Rattle.i3c_step.specs.Step.{Checks, checks, first_refusal}
use Rattle.i3c_step.proofs.Acting.{acting}
use Rattle.i3c_step.proofs.Soundness.{sound_step}

-- the device's tests in their order
fault_table : (a b c e f : Bool) (raised : ℕ) → first_refusal ((a, NoAddress) ∷ (b, NotCapable) ∷ (c, ByteMismatch) ∷ (e, Masked) ∷ (f || nat_le (2 ^ 64 - 1) raised, Full) ∷ [])
    ≡ option_map raise_refusal (or_uncounted (if a then Some RaiseRefusal.NoAddress else
    (if b then Some RaiseRefusal.NotCapable else
    (if c then Some RaiseRefusal.ByteMismatch else
    (if e then Some RaiseRefusal.Masked else
    (if f || false then Some RaiseRefusal.Full else None))))) raised)
fault_table true b c e f raised = refl
fault_table false true c e f raised = refl
fault_table false false true e f raised = refl
fault_table false false false true f raised = refl
fault_table false false false false true raised = refl
fault_table false false false false false raised = go (nat_le (2 ^ 64 - 1) raised)
  where
    go : (g : Bool) → first_refusal ((g, Full) ∷ []) ≡ option_map raise_refusal (if g then Some RaiseRefusal.Full else None)
    go true = refl
    go false = refl

-- a raise that has no fault isn't refused
raise_free : (st : State) (s : ℕ) (byte : Option ℕ) (d : Device) → device_at st s ≡ Some d → (s == st.active) ≡ false → next_fault d byte (raised_at st s) ≡ None
    → first_refusal (checks st (Event.Raise s byte)) ≡ None
raise_free st s byte d there other none =
    ap (λ (o : Option Device). first_refusal (table o (s == st.active))) there
    ∙ (ap (λ (b : Bool). first_refusal (table (Some d) b)) other
    ∙ (fault_table (is_none d.address) (not (can_interrupt d.identity.bcr)) (not (same_bool (has_byte d.identity.bcr) (is_some byte))) (not d.kinds.interrupt) (nat_le WAITING (length d.waiting)) (raised_at st s)
    ∙ ap (λ (o : Option RaiseRefusal). option_map raise_refusal o) none))
  where
    table : Option Device → Bool → Checks
    table o active = (is_none o, NoDevice) ∷ (active, IsActive) ∷ renamed raise_refusal (raise_faults byte (is_uncounted (raised_at st s)) o)

-- the value at a place that holds one
pub given_there : {A : Type 0} (o : Option A) → is_some o ≡ true → (a : A) × (o ≡ Some a)
given_there None h = absurd (true≢false (sym h))
given_there (Some a) h = (a, refl)

-- a bus after a raise is whole
pub whole_raise : (st : State) (table : Table) (list : List Entry) (more : List (Option Device)) (raised : List ℕ) (s before number : ℕ) (byte : Option ℕ) (d : Device)
    → IsWhole st table list → before ≡ raised_at st s → device_at st s ≡ Some d → (s == st.active) ≡ false
    → (number ≡ suc before) × (next_fault d byte before ≡ None)
    → more ≡ slice_set st.devices s (option_map (with_raise (suc before) byte) (device_at st s)) → raised ≡ slice_set st.raised s number
    → IsWhole (record st { devices = more; raised = raised }) table list
whole_raise st table list more raised s before number byte d whole same there other fault is put = record {
  sound = subst IsSound (sym after)
      (sound_step st (Event.Raise s byte) (Reply.Raised (suc (raised_at st s))) (raise s byte st)
      (acting st (Event.Raise s byte) _ (raise s byte st) (raise_free st s byte d there other none) (refl, refl)) whole.sound);
  covered = whole.covered;
  copied = copied_still st _ list (subst (KeepsList st) (sym after) (record {
    given = refl;
    legacy = refl;
    listed = refl;
    own = (keeps_change s (with_raise (suc (raised_at st s)) byte) st (λ d. refl)).own;
  })) whole.copied;
}
  where
    none : next_fault d byte (raised_at st s) ≡ None
    none = subst (λ (k : ℕ). next_fault d byte k ≡ None) same fault.1

    after : record st { devices = more; raised = raised } ≡ raise s byte st
    after =
        (λ k. record st { devices = is k; raised = (put ∙ ap (slice_set st.raised s) fault.0) k })
        ∙ ap (λ (n : ℕ). record st { devices = slice_set st.devices s (option_map (with_raise (suc n) byte) (device_at st s)); raised = slice_set st.raised s (suc n) }) same
