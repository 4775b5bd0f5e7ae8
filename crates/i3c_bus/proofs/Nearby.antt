-- A raise changes one slot at most, and what changed there is put back.
use Rattle.std.proofs.Common.{◌≡◌, ◌∙◌, ℕ, suc, List, ◌++◌, ◌∷◌, [], Option, Some, None, inl, inr, ap, refl, subst, sym, ◌⊎◌}
use Rattle.std.specs.Prelude.{MatchOption, slice_index, slice_index_or, slice_set}
use Rattle.std.proofs.lemmas.List.{set-get_or, set-set}
use Rattle.i3c_base.specs.Covered.{Table, lvrs}
use Rattle.i3c_base.specs.Local.{raise}
use Rattle.i3c_base.specs.State.{Device, State, raised_at}
use Rattle.i3c_deftgts.specs.declared.entries.Entry.{Entry}
use Rattle.i3c_step.specs.declared.events.Event.{Event}
use Rattle.i3c_step.specs.declared.replies.Refusal.{Refusal}
use Rattle.i3c_step.specs.declared.replies.Reply.{Reply}
use Rattle.i3c_step.specs.Sound.{IsSound}
use Rattle.i3c_step.specs.Step.{Acts, IsShort, Step, checks, first_refusal}
use Rattle.i3c_bus.specs.Near.{IsNear}
use Rattle.i3c_bus.specs.Whole.{IsWhole}
use Rattle.i3c_bus.proofs.Owning.{copied_still, keeps_change}

-- the same state
near_same : (s : ℕ) (st : State) → IsNear s st st
near_same s st = record { devices = set-get_or st.devices s None; raised = set-get_or st.raised s 0; rest = refl; own = λ a. refl }

near_raise : (s : ℕ) (byte : Option ℕ) (st : State) → IsNear s st (raise s byte st)
near_raise s byte st = record {
  devices = set-set st.devices s _ _ ∙ set-get_or st.devices s None;
  raised = set-set st.raised s _ _ ∙ set-get_or st.raised s 0;
  rest = refl;
  own = (keeps_change s (λ d. record d { waiting = d.waiting ++ record { number = suc (raised_at st s); byte = byte } ∷ [] }) st (λ d. refl)).own;
}

-- a raise that was answered
pub raised_near : (old new : State) (s : ℕ) (byte : Option ℕ) (reply : Reply) → Step old (Event.Raise s byte) reply new → IsNear s old new
raised_near old new s byte reply h = go (first_refusal (checks old (Event.Raise s byte))) h
  where
    go : (o : Option Refusal) → MatchOption o (IsShort old (Event.Raise s byte) reply new ⊎ Acts old (Event.Raise s byte) reply new) (λ why. (reply ≡ Reply.Refused why) × (new ≡ old)) → IsNear s old new
    go None (inl short) = subst (IsNear s old) (sym short.2) (near_same s old)
    go None (inr acts) = subst (IsNear s old) (sym acts.1) (near_raise s byte old)
    go (Some why) (told, same) = subst (IsNear s old) (sym same) (near_same s old)

-- the slot put back
pub put_back : (st near : State) (slot : ℕ) (devices : List (Option Device)) (raised : List ℕ) (number : ℕ) → IsNear slot st near → devices ≡ slice_set near.devices slot (slice_index_or st.devices slot None)
    → number ≡ slice_index st.raised slot → raised ≡ slice_set near.raised slot number → record near { devices = devices; raised = raised } ≡ st
put_back st near slot devices raised number n put read set =
    (λ k. record (n.rest k) { devices = (put ∙ n.devices) k; raised = (set ∙ (ap (slice_set near.raised slot) read ∙ n.raised)) k })

-- the table and the list cover the state that the bus comes back to
pub whole_back : (st near new : State) (slot : ℕ) (table : Table) (list : List Entry) → IsSound st → IsNear slot st near → new ≡ st → IsWhole near table list → IsWhole new table list
whole_back st near new slot table list sound n same whole = subst (λ (s : State). IsWhole s table list) (sym same) (record {
  sound = sound;
  covered = (whole.covered.0 ∙ given, whole.covered.1 ∙ legacy, whole.covered.2 ∙ listed, whole.covered.3 ∙ ap (λ (s : State). s.declared) n.rest);
  copied = copied_still near st list (record { given = sym given; legacy = sym legacy; listed = sym listed; own = λ a. sym (n.own a) }) whole.copied;
})
  where
    given : near.given ≡ st.given
    given = ap (λ (s : State). s.given) n.rest

    legacy : lvrs near ≡ lvrs st
    legacy = ap lvrs n.rest

    listed : near.listed ≡ st.listed
    listed = ap (λ (s : State). s.listed) n.rest
