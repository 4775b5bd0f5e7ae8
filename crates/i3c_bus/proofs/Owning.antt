-- What leaves the active controller its address and its table leaves its list current.
use Rattle.std.proofs.Common.{◌≡◌, ℕ, Bool, true, false, List, Option, Some, None, Result, Ok, Err, OnOk, OnErr, if◌then◌else◌, is_none, ◌==◌, map, option_map, ap, inl, inr, refl, sym, ◌∙◌, subst, set, slice_set}
use Rattle.std.proofs.lemmas.Bool.{cond-false, eqb-false, ne_eqb}
use Rattle.std.proofs.lemmas.Option.{none-some}
use Rattle.i3c_base.specs.declared.answers.Answer.{Answer}
use Rattle.i3c_base.specs.declared.datum.Direction.{Direction}
use Rattle.i3c_base.specs.Covered.{lvrs}
use Rattle.i3c_base.specs.Cutting.{Lost}
use Rattle.i3c_base.specs.Frames.{Rekinds, active_has, limited, reaches, rekinded, with_length}
use Rattle.i3c_base.specs.Local.{drop_off}
use Rattle.i3c_base.specs.Numbers.{KindSet}
use Rattle.i3c_base.specs.Round.{ended, hears, opened, unhearing}
use Rattle.i3c_base.specs.Serve.{emptied}
use Rattle.i3c_base.specs.State.{Device, State, change, device_at, each, has_address, in_slot, is_the, unkept}
use Rattle.i3c_base.proofs.Lookups.{change_at, drop_off_at, each_at, emptied_at, set_at}
use Rattle.i3c_deftgts.specs.declared.entries.Entry.{Entry}
use Rattle.i3c_deftgts.specs.Entries.{entries_of}
use Rattle.i3c_step.specs.Sound.{HasActive}
use Rattle.i3c_step.proofs.Transfers.{limited_by}
use Rattle.i3c_bus.specs.Whole.{IsCopyOf}

-- the table says the same, and the active controller has the address that it had
pub record KeepsList (old new : State) : Type 0 where
  pub given : new.given ≡ old.given
  pub legacy : lvrs new ≡ lvrs old
  pub listed : new.listed ≡ old.listed
  pub own : (a : ℕ) → active_has new a ≡ active_has old a

-- then what was a copy is one
pub copied_still : (old new : State) (list : List Entry) → KeepsList old new → (old.listed ≡ true → IsCopyOf old list) → new.listed ≡ true → IsCopyOf new list
copied_still old new list keeps copied listed =
    let copy = copied (sym keeps.listed ∙ listed) in (
      (copy.0.0 ∙ ap (map (option_map unkept)) (sym keeps.given), copy.0.1 ∙ sym keeps.legacy),
      (
        copy.1.0,
        keeps.own copy.1.0 ∙ copy.1.1,
        copy.1.2 ∙ (λ t. entries_of (record { given = sym keeps.given t; legacy = sym keeps.legacy t; declared = old.declared; listed = sym keeps.listed t }) copy.1.0),
      ),
      copy.2,
    )

pub same_address : (a : ℕ) (f : Device → Device) (o : Option Device) → ((d : Device) → (f d).address ≡ d.address) → in_slot (has_address a) (option_map f o) ≡ in_slot (has_address a) o
same_address a f None e = refl
same_address a f (Some d) e = ap (is_the a) (e d)

-- a choice between this device and one with its address has its address
pub either_address : (b : Bool) (x d : Device) → x.address ≡ d.address → (if b then x else d).address ≡ d.address
either_address true x d e = e
either_address false x d e = refl

pub keeps_all : (st : State) → KeepsList st st
keeps_all st = record { given = refl; legacy = refl; listed = refl; own = λ a. refl }

pub keeps_each : (f : ℕ → Device → Device) (st : State) → ((s : ℕ) (d : Device) → (f s d).address ≡ d.address) → KeepsList st (each f st)
keeps_each f st e = record {
  given = refl;
  legacy = refl;
  listed = refl;
  own = λ a. ap (in_slot (has_address a)) (each_at f st st.active) ∙ same_address a (f st.active) (device_at st st.active) (e st.active);
}

pub keeps_change : (s : ℕ) (f : Device → Device) (st : State) → ((d : Device) → (f d).address ≡ d.address) → KeepsList st (change s f st)
keeps_change s f st e = record {
  given = refl;
  legacy = refl;
  listed = refl;
  own = λ a. ap (in_slot (has_address a)) (change_at s f st st.active)
      ∙ same_address a (λ d. if st.active == s then f d else d) (device_at st st.active) (λ d. either_address (st.active == s) (f d) d (e d));
}

-- a device that enters an empty slot isn't the active controller
pub keeps_put : (s : ℕ) (d : Device) (st : State) → device_at st s ≡ None → HasActive st → KeepsList st (record st { devices = set st.devices s (Some d) })
keeps_put s d st empty active = record {
  given = refl;
  legacy = refl;
  listed = refl;
  own = λ a. ap (in_slot (has_address a)) (elim (set_at st.devices s st.active (Some d) None) [
    | inl e ↦ absurd (none-some active.0 (sym (ap (λ (k : ℕ). device_at st k) e.0 ∙ empty) ∙ active.2))
    | inr e ↦ e
  ]);
}

pub keeps_dropped : (s : ℕ) (st : State) → (s == st.active) ≡ false → KeepsList st (drop_off s st)
keeps_dropped s st other = record {
  given = refl;
  legacy = refl;
  listed = refl;
  own = λ a. ap (in_slot (has_address a))
      (drop_off_at s st st.active ∙ cond-false (st.active == s) None (device_at st st.active) (ne_eqb st.active s (λ e. eqb-false s st.active other (sym e))));
}

pub keeps_emptied : (lost : Lost) (st : State) → lost st.active ≡ false → KeepsList st (emptied lost st)
keeps_emptied lost st left = record {
  given = refl;
  legacy = refl;
  listed = refl;
  own = λ a. ap (in_slot (has_address a)) (emptied_at lost st st.active ∙ cond-false (lost st.active) None (device_at st st.active) left);
}

-- a device that wishes, or mayn't
pub keeps_asked : {E : Type 0} (result : Result (Unit {0}) E) (s : ℕ) (f : Device → Device) (devices : List (Option Device)) (st : State) → ((d : Device) → (f d).address ≡ d.address)
    → OnOk result (devices ≡ slice_set st.devices s (option_map f (device_at st s))) → OnErr result (devices ≡ st.devices) → KeepsList st (record st { devices = devices })
keeps_asked (Ok done) s f devices st e changed same = subst (λ (ds : List (Option Device)). KeepsList st (record st { devices = ds })) (sym changed) (keeps_change s f st e)
keeps_asked (Err why) s f devices st e changed same = subst (λ (ds : List (Option Device)). KeepsList st (record st { devices = ds })) (sym same) (keeps_all st)

pub keeps_opened : (st : State) → KeepsList st (opened st)
keeps_opened st = record {
  given = refl;
  legacy = refl;
  listed = refl;
  own = (keeps_each (λ s d. hears d) st (λ s d. either_address (is_none d.address) (record d { hearing = true }) d refl)).own;
}

pub keeps_ended : (st : State) → KeepsList st (ended st)
keeps_ended st = record { given = refl; legacy = refl; listed = refl; own = (keeps_each (λ s d. unhearing d) st (λ s d. refl)).own }

keeps_rekinded : (to : Option ℕ) (f : KindSet → KindSet) (st : State) → KeepsList st (rekinded to f st)
keeps_rekinded to f st =
    keeps_each (λ s d. if reaches st to s d then record d { kinds = f d.kinds } else d) st (λ s d. either_address (reaches st to s d) (record d { kinds = f d.kinds }) d refl)

pub keeps_rekinds : (to : Option ℕ) (f : KindSet → KindSet) (answer : Answer) (lost : Lost) (mid done : State) → Rekinds to f answer lost mid done → KeepsList mid done
keeps_rekinds None f answer lost mid done h = subst (KeepsList mid) (sym h.1) (keeps_rekinded None f mid)
keeps_rekinds (Some a) f answer lost mid done h = elim h [
  | inl e ↦ subst (KeepsList mid) (sym e.2) (keeps_rekinded (Some a) f mid)
  | inr e ↦ subst (KeepsList mid) (sym e.2) (keeps_all mid)
]

pub keeps_with_length : (to : Option ℕ) (way : Direction) (most : ℕ) (st : State) → KeepsList st (with_length to way most st)
keeps_with_length to way most st =
    keeps_each (λ s d. if reaches st to s d then limited way most d else d) st
    (λ s d. either_address (reaches st to s d) (limited way most d) d (limited_by (λ (x : Device). x.address ≡ d.address) way most d refl refl))
