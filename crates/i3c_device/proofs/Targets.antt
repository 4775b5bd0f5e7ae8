-- The devices that a command reaches, that take SETDASA or that would take the role at an address: the tests of slots against
-- their meaning.
use Rattle.std.proofs.Common.{◌≡◌, ◌≢◌, ℕ, Bool, true, false, ◌==◌, not, ◌&&◌, is_none, Option, Some, None, refl, ap, ◌∙◌}
use Rattle.std.proofs.lemmas.Bool.{and_parts, both_ways, eq-eqb, eqb-true, ne_eqb}
use Rattle.i3c_base.specs.Cutting.{Lost}
use Rattle.i3c_base.specs.State.{Device, IsTargetIn, Population, device_in, has_address, is_the}
use Rattle.i3c_base.specs.Frames.{IsHeardIn, IsWillingIn, SomeUnaddressedLeftIn, reaches_at, takes_static}
use Rattle.i3c_device.specs.Walks.{willing_at}

-- an address that is asked for
address_is : (a : ℕ) (o : Option ℕ) → is_the a o ≡ true → o ≡ Some a
address_is a None e = absurd (both_ways _ refl e)
address_is a (Some b) e = ap Some (eqb-true b a e)

is_address : (a : ℕ) (o : Option ℕ) → o ≡ Some a → is_the a o ≡ true
is_address a o e = ap (is_the a) e ∙ eq-eqb a a refl

and_join : (a b : Bool) → a ≡ true → b ≡ true → (a && b) ≡ true
and_join a b p q = ap (λ x. x && b) p ∙ q

-- a slot other than the active controller's
other_slot : (s active : ℕ) → not (s == active) ≡ true → s ≢ active
other_slot s active h e = both_ways _ (ap not (eq-eqb s active e)) h

slot_other : (s active : ℕ) → s ≢ active → not (s == active) ≡ true
slot_other s active n = ap not (ne_eqb s active n)

-- a device is reached at an address exactly if it is a target there
pub reached_target : (all : Population) (a s : ℕ) (d : Device) → device_in all s ≡ Some d → reaches_at all.active (Some a) s d ≡ true → IsTargetIn all a s d
reached_target all a s d there h =
    let p = and_parts (not (s == all.active)) (has_address a d) h in
    (there, address_is a d.address p.1, other_slot s all.active p.0)

pub target_reached : (all : Population) (a s : ℕ) (d : Device) → IsTargetIn all a s d → reaches_at all.active (Some a) s d ≡ true
target_reached all a s d h = and_join (not (s == all.active)) (has_address a d) (slot_other s all.active h.2) (is_address a d.address h.1)

-- a device of these passes the test of its slot, and isn't lost
abbrev pub SomePasses : (ℕ → Device → Bool) → Lost → Population → Type 0
SomePasses test lost all = (s : ℕ) × (d : Device) × (device_in all s ≡ Some d) × (test s d ≡ true) × (lost s ≡ false)

-- the devices that a command reaches acknowledge it, if they aren't lost
pub passes_heard : (all : Population) (to : Option ℕ) (lost : Lost) → SomePasses (reaches_at all.active to) lost all → IsHeardIn all to lost
passes_heard all None lost h = (h.0, (h.1, h.2), other_slot h.0 all.active h.3, h.4)
passes_heard all (Some a) lost h = (h.0, h.1, reached_target all a h.0 h.1 h.2 h.3, h.4)

pub heard_passes : (all : Population) (to : Option ℕ) (lost : Lost) → IsHeardIn all to lost → SomePasses (reaches_at all.active to) lost all
heard_passes all None lost h = (h.0, h.1.0, h.1.1, slot_other h.0 all.active h.2, h.3)
heard_passes all (Some a) lost h = (h.0, h.1, h.2.0, target_reached all a h.0 h.1 h.2, h.3)

-- a device takes SETDASA at a static address exactly if it has that address and no dynamic one
no_address : (o : Option ℕ) → is_none o ≡ true → o ≡ None
no_address None e = refl
no_address (Some a) e = absurd (both_ways _ refl e)

pub passes_takes : (all : Population) (f : ℕ) (lost : Lost) → SomePasses (takes_static all.active f) lost all → SomeUnaddressedLeftIn all f lost
passes_takes all f lost h =
    let p = and_parts (not (h.0 == all.active)) (is_none h.1.address && is_the f h.1.fixed) h.3 in
    let q = and_parts (is_none h.1.address) (is_the f h.1.fixed) p.1 in
    (h.0, h.1, (h.2, no_address h.1.address q.0, address_is f h.1.fixed q.1, other_slot h.0 all.active p.0), h.4)

pub takes_passes : (all : Population) (f : ℕ) (lost : Lost) → SomeUnaddressedLeftIn all f lost → SomePasses (takes_static all.active f) lost all
takes_passes all f lost h =
    let takes = and_join (not (h.0 == all.active)) (is_none h.1.address && is_the f h.1.fixed) (slot_other h.0 all.active h.2.3)
    (and_join (is_none h.1.address) (is_the f h.1.fixed) (ap is_none h.2.1) (is_address f h.1.fixed h.2.2)) in
    (h.0, h.1, h.2.0, takes, h.3)

-- a device would take the role exactly if it is a willing device there
pub found_willing : (all : Population) (a s : ℕ) → willing_at all.active a s (device_in all s) ≡ true → IsWillingIn all a s
found_willing all a s h = go (device_in all s) refl h
  where
    go : (o : Option Device) → device_in all s ≡ o → willing_at all.active a s o ≡ true → IsWillingIn all a s
    go None e w = absurd (both_ways _ refl w)
    go (Some d) e w = let p = and_parts (reaches_at all.active (Some a) s d) d.willing w in (d, reached_target all a s d e p.0, p.1)

pub willing_found : (all : Population) (a s : ℕ) → IsWillingIn all a s → willing_at all.active a s (device_in all s) ≡ true
willing_found all a s w = ap (willing_at all.active a s) w.1.0 ∙ and_join (reaches_at all.active (Some a) s w.0) w.0.willing (target_reached all a s w.0 w.1) w.2
