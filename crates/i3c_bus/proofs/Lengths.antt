-- Maximum lengths: what leaves them to a transfer, and what is so of a bus whose devices have others.
use Rattle.std.proofs.Common.{◌≡◌, ℕ, suc, Bool, true, false, not, ◌&&◌, ◌==◌, if◌then◌else◌, min, List, [], ◌∷◌, Option, Some, None, is_some, option_map, ap, refl, subst}
use Rattle.i3c_base.specs.declared.answers.Answer.{Answer}
use Rattle.i3c_base.specs.declared.datum.Direction.{Direction}
use Rattle.i3c_base.specs.declared.device.TheConstants.{REGISTERS}
use Rattle.i3c_base.specs.Covered.{Table}
use Rattle.i3c_base.specs.Cutting.{Lost}
use Rattle.i3c_base.specs.Frames.{SetsLength, least_length_from, length_of, limited, reaches, transfer_length, with_length}
use Rattle.i3c_base.specs.Places.{changed_from}
use Rattle.i3c_base.specs.State.{Device, State, each, is_the, legacy_target_at}
use Rattle.i3c_base.proofs.Lookups.{each_from}
use Rattle.i3c_deftgts.specs.declared.entries.Entry.{Entry}
use Rattle.i3c_step.specs.Sound.{IsFitting, IsSound}
use Rattle.i3c_step.proofs.Active.{Present-with_length}
use Rattle.i3c_step.proofs.Addresses.{Addresses-none_new, NoneNew-with_length}
use Rattle.i3c_step.proofs.Follows.{Follows-with_length}
use Rattle.i3c_step.proofs.Holding.{active_follows}
use Rattle.i3c_step.proofs.Transfers.{lengths_keep, limited_by}
use Rattle.i3c_bus.specs.Whole.{IsWhole}
use Rattle.i3c_bus.proofs.Owning.{copied_still, keeps_with_length}

-- a device with both lengths of another
pub same_length : (way : Direction) (e d : Device) → e.most_written ≡ d.most_written → e.most_read ≡ d.most_read → length_of way e ≡ length_of way d
same_length Direction.Write e d w r = w
same_length Direction.Read e d w r = r

-- a change of each device that leaves addresses and lengths leaves the least one at an address
least_each : (f : ℕ → Device → Device) (active : ℕ) (way : Direction) (a s : ℕ) (places : List (Option Device)) → ((t : ℕ) (d : Device) → ((f t d).address ≡ d.address) × (length_of way (f t d) ≡ length_of way d))
    → least_length_from active way a s (changed_from s (λ t place. option_map (f t) place) places) ≡ least_length_from active way a s places
least_each f active way a s [] keeps = refl
least_each f active way a s (None ∷ places) keeps = least_each f active way a (suc s) places keeps
least_each f active way a s (Some d ∷ places) keeps =
    let rest = least_each f active way a (suc s) places keeps in
    λ t. if not (s == active) && is_the a ((keeps s d).0 t) then min ((keeps s d).1 t) (rest t) else rest t

-- a change of each device that leaves addresses and lengths leaves what a transfer may have
pub length_each : (f : ℕ → Device → Device) (st : State) (way : Direction) (a : ℕ) → ((s : ℕ) (d : Device) → ((f s d).address ≡ d.address) × (length_of way (f s d) ≡ length_of way d))
    → transfer_length (each f st) way a ≡ transfer_length st way a
length_each f st way a keeps = ap (λ n. if is_some (legacy_target_at st a) then REGISTERS else n) (least_each f st.active way a 0 st.devices keeps)

-- a choice between a fitting device and another one
fitting_if : (b : Bool) (e d : Device) → IsFitting e → IsFitting d → IsFitting (if b then e else d)
fitting_if true e d x y = x
fitting_if false e d x y = y

-- another maximum length keeps a bus sound
sound_with_length : (to : Option ℕ) (way : Direction) (most : ℕ) (st : State) → IsSound st → IsSound (with_length to way most st)
sound_with_length to way most st sound = record {
  addresses = Addresses-none_new st (with_length to way most st) (NoneNew-with_length to way most st) sound.addresses;
  active = active_follows st (with_length to way most st) (Follows-with_length to way most st) (Present-with_length to way most st st.active (sound.active.0, sound.active.2)) sound.active;
  fitting = λ s d there.
      let x = each_from (λ t e. if reaches st to t e then limited way most e else e) st s d there in
      let fits = sound.fitting s x.0 x.1 in
      subst IsFitting x.2 (fitting_if (reaches st to s x.0) (limited way most x.0) x.0 (limited_by IsFitting way most x.0 fits fits) fits);
}

whole_with_length : (table : Table) (list : List Entry) (to : Option ℕ) (way : Direction) (most : ℕ) (st : State) → IsWhole st table list → IsWhole (with_length to way most st) table list
whole_with_length table list to way most st whole = record {
  sound = sound_with_length to way most st whole.sound;
  covered = whole.covered;
  copied = copied_still st (with_length to way most st) list (keeps_with_length to way most st) whole.copied;
}

pub whole_lengths : (table : Table) (list : List Entry) (to : Option ℕ) (way : Direction) (most : ℕ) (answer : Answer) (lost : Lost) (mid done : State) → SetsLength to way most answer lost mid done
    → IsWhole mid table list → IsWhole done table list
whole_lengths table list to way most answer lost mid done h whole =
    lengths_keep (λ st next. IsWhole st table list → IsWhole next table list) to way most (λ st w. w) (whole_with_length table list to way most) answer lost mid done h whole
