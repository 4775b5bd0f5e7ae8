-- The least maximum length of the devices at an address.
use Rattle.std.proofs.Common.{◌≡◌, ℕ, suc, ◌≤◌, Bool, true, false, not, ◌&&◌, ◌==◌, List, [], ◌∷◌, ◌++◌, length, drop, Option, Some, None, option_map, if◌then◌else◌, refl, ap, ◌∙◌, arith}
use Rattle.std.specs.Prelude.{is_some, min}
use Rattle.std.proofs.lemmas.Bool.{ltb-false}
use Rattle.std.proofs.lemmas.List.{at_drop_all}
use Rattle.i3c_base.specs.declared.datum.Direction.{Direction}
use Rattle.i3c_base.specs.Cutting.{CutList}
use Rattle.i3c_base.specs.Frames.{least_length_from, length_of, transfer_length}
use Rattle.i3c_base.specs.Places.{changed, changed_from}
use Rattle.i3c_base.specs.State.{Device, State, has_address, is_the, legacy_target_at}
use Rattle.i3c_step.specs.declared.replies.Refusal.TheVariants.{SessionOpen, ActiveStays, TooLong, NoAnswer}
use Rattle.i3c_step.specs.Step.{cuts_active, first_refusal, frame_checks, is_no_partner, is_too_long, write_checks}
use Rattle.i3c_step.proofs.Steps.{refusal-none}

module _ (active : ℕ) (way : Direction) (a : ℕ) where
  -- a minimum is no more than either
  if_few : (b : Bool) (n rest : ℕ) → rest ≤ 16 → (if b then min n rest else rest) ≤ 16
  if_few true n rest few = omega (arith, few)
  if_few false n rest few = few

  -- no more than there are registers
  pub least_few : (s : ℕ) (places : List (Option Device)) → least_length_from active way a s places ≤ 16
  least_few s [] = omega arith
  least_few s (None ∷ places) = least_few (suc s) places
  least_few s (Some d ∷ places) = if_few (not (s == active) && has_address a d) (length_of way d) (least_length_from active way a (suc s) places) (least_few (suc s) places)

  -- what is changed in the devices leaves their addresses and their maximum lengths
  module _ (f : ℕ → Device → Device) (addresses : (s : ℕ) (d : Device) → (f s d).address ≡ d.address) (lengths : (s : ℕ) (d : Device) → length_of way (f s d) ≡ length_of way d) where
    pub least_kept : (s : ℕ) (places : List (Option Device)) → least_length_from active way a s (changed_from s (λ t place. option_map (f t) place) places) ≡ least_length_from active way a s places
    least_kept s [] = refl
    least_kept s (None ∷ places) = least_kept (suc s) places
    least_kept s (Some d ∷ places) =
        ap (λ o. if not (s == active) && is_the a o then min (length_of way (f s d)) after else after) (addresses s d)
        ∙ (ap (λ n. if not (s == active) && has_address a d then min n after else after) (lengths s d) ∙ ap (λ n. if not (s == active) && has_address a d then min (length_of way d) n else n) (least_kept (suc s) places))
      where
        after : ℕ
        after = least_length_from active way a (suc s) (changed_from (suc s) (λ t place. option_map (f t) place) places)

-- at most `least` bytes, in the slots so far and in the others
abbrev pub IsLeastSoFar : State → Direction → ℕ → ℕ → ℕ → Type 0
IsLeastSoFar st way a n least = (least ≤ 16) × (min least (least_length_from st.active way a n (drop n st.devices)) ≡ least_length_from st.active way a 0 st.devices)

-- before the first slot, and past the last
pub least_start : (st : State) (way : Direction) (a : ℕ) → IsLeastSoFar st way a 0 16
least_start st way a = (omega arith, (let few = least_few st.active way a 0 st.devices in omega (arith, few)))

pub least_all : (st : State) (way : Direction) (a n least : ℕ) → length st.devices ≤ n → IsLeastSoFar st way a n least → least ≡ least_length_from st.active way a 0 st.devices
least_all st way a n least past h =
    let none : least_length_from st.active way a n (drop n st.devices) ≡ 16 = at_drop_all (least_length_from st.active way a n) st.devices n past in
    let sofar = h.1 in
    omega (arith, h.0, none, sofar)

-- transfers keep their lengths where the devices keep theirs
pub transfer_kept : (way : Direction) (a : ℕ) (f : ℕ → Device → Device) (st new : State) → ((s : ℕ) (d : Device) → (f s d).address ≡ d.address) → ((s : ℕ) (d : Device) → length_of way (f s d) ≡ length_of way d)
    → new.devices ≡ changed (λ t place. option_map (f t) place) st.devices → new.legacy ≡ st.legacy → new.active ≡ st.active → transfer_length new way a ≡ transfer_length st way a
transfer_kept way a f st new addresses lengths devices legacy active =
    ap (λ places. if is_some (legacy_target_at (record new { legacy = places }) a) then 16 else least_length_from new.active way a 0 new.devices) legacy
    ∙ ap (λ n. if is_some (legacy_target_at st a) then 16 else n)
    (ap (λ k. least_length_from k way a 0 new.devices) active ∙ (ap (least_length_from st.active way a 0) devices ∙ least_kept st.active way a f addresses lengths 0 st.devices))

-- a write that isn't refused has at most as many bytes as there are registers
pub write_short : (st : State) (cuts : CutList) (a : ℕ) (bytes : List ℕ) → first_refusal (frame_checks st cuts ++ write_checks st a bytes) ≡ None → length bytes ≤ 16
write_short st cuts a bytes none =
    let idle = refusal-none st.in_session SessionOpen ((cuts_active st cuts, ActiveStays) ∷ write_checks st a bytes) none in
    let stays = refusal-none (cuts_active st cuts) ActiveStays (write_checks st a bytes) idle.1 in
    let fits = refusal-none (is_too_long st a bytes) TooLong ((is_no_partner st a, NoAnswer a) ∷ []) stays.1 in
    let fewer = ltb-false (transfer_length st Direction.Write a) (length bytes) fits.0 in
    let few = if_more (is_some (legacy_target_at st a)) (least_length_from st.active Direction.Write a 0 st.devices) (least_few st.active Direction.Write a 0 st.devices) in
    omega (arith, fewer, few)
  where
    if_more : (b : Bool) (n : ℕ) → n ≤ 16 → (if b then 16 else n) ≤ 16
    if_more true n few = omega arith
    if_more false n few = few
