-- The devices that hear the command, and the state that it leaves.
use Rattle.std.proofs.Common.{◌≡◌, ℕ, Bool, true, false, List, Option, Some, None, inl, inr, refl, sym, subst}
use Rattle.i3c_base.specs.declared.answers.Answer.{Answer}
use Rattle.i3c_base.specs.declared.datum.Direction.{Direction}
use Rattle.i3c_base.specs.Cutting.{Lost}
use Rattle.i3c_base.specs.Numbers.{KindSet}
use Rattle.i3c_base.specs.State.{Device, HasDevices, State, each_in, with_active}
use Rattle.i3c_base.specs.Frames.{AllLostAt, AllUnaddressedLostAt, AnyAt, AnyUnaddressedAt, Rekinds, SetsLength, SomeLeftAt, SomeLeftIn, SomeUnaddressedLeftAt, SomeUnaddressedLeftIn, rekinded, rekinded_at, with_length, with_length_at}
use Rattle.i3c_base.proofs.Lookups.{each_on, population_is}

-- some of those at the address are left among these devices, and on a bus that has them
pub reached_left : (st : State) (a : ℕ) (lost : Lost) (devices : List (Option Device)) (active : ℕ) → HasDevices st devices active → SomeLeftIn (with_active devices active) a lost → SomeLeftAt st a lost
reached_left st a lost devices active has h = subst (λ all. SomeLeftIn all a lost) (sym (population_is st devices active has)) h

pub left_reached : (st : State) (a : ℕ) (lost : Lost) (devices : List (Option Device)) (active : ℕ) → HasDevices st devices active → SomeLeftAt st a lost → SomeLeftIn (with_active devices active) a lost
left_reached st a lost devices active has h = subst (λ all. SomeLeftIn all a lost) (population_is st devices active has) h

-- it was carried out
pub carried_out : (to : Option ℕ) (f : KindSet → KindSet) (st : State) (lost : Lost) (devices more : List (Option Device)) (active : ℕ) → HasDevices st devices active
    → more ≡ each_in (rekinded_at active to f) devices → ((a : ℕ) → to ≡ Some a → AnyAt st a) → Rekinds to f Answer.Done lost st (record st { devices = more })
carried_out to f st lost devices more active has m any = go to (each_on (λ own. rekinded_at own to f) st devices more active has m) any
  where
    go : (o : Option ℕ) → record st { devices = more } ≡ rekinded o f st → ((a : ℕ) → o ≡ Some a → AnyAt st a) → Rekinds o f Answer.Done lost st (record st { devices = more })
    go None all any = (refl, all)
    go (Some at) all any = inl (refl, any at refl, all)

-- nobody at the address is left
pub all_lost : (st : State) (a : ℕ) (lost : Lost) → ¬ SomeLeftAt st a lost → AllLostAt st a lost
all_lost st a lost none s d h = go (lost s) refl
  where
    go : (b : Bool) → lost s ≡ b → lost s ≡ true
    go true e = e
    go false e = absurd (none (s, d, h, e))

pub unanswered : (to : Option ℕ) (at : ℕ) (f : KindSet → KindSet) (st : State) (lost : Option ℕ → Lost) (devices : List (Option Device)) (active : ℕ) → HasDevices st devices active → to ≡ Some at → ¬ SomeLeftAt st at (lost (Some at))
    → Rekinds to f (Answer.NoAnswer at) (lost to) st (record st { devices = devices })
unanswered to at f st lost devices active has e none =
    subst (λ o. Rekinds o f (Answer.NoAnswer at) (lost o) st (record st { devices = devices })) (sym e)
    (inr (refl, all_lost st at (lost (Some at)) none, λ t. record st { devices = sym has.0 t }))

-- some of those at the address are there
pub left_any : (st : State) (a : ℕ) (lost : Lost) → SomeLeftAt st a lost → AnyAt st a
left_any st a lost h = (h.0, h.1, h.2)

-- the same of those with a static address and no dynamic one
pub takes_left : (st : State) (f : ℕ) (lost : Lost) (devices : List (Option Device)) (active : ℕ) → HasDevices st devices active → SomeUnaddressedLeftIn (with_active devices active) f lost → SomeUnaddressedLeftAt st f lost
takes_left st f lost devices active has h = subst (λ all. SomeUnaddressedLeftIn all f lost) (sym (population_is st devices active has)) h

pub left_takes : (st : State) (f : ℕ) (lost : Lost) (devices : List (Option Device)) (active : ℕ) → HasDevices st devices active → SomeUnaddressedLeftAt st f lost → SomeUnaddressedLeftIn (with_active devices active) f lost
left_takes st f lost devices active has h = subst (λ all. SomeUnaddressedLeftIn all f lost) (population_is st devices active has) h

-- nobody with the static address and no dynamic one is left
pub all_unaddressed_lost : (st : State) (f : ℕ) (lost : Lost) → ¬ SomeUnaddressedLeftAt st f lost → AllUnaddressedLostAt st f lost
all_unaddressed_lost st f lost none s d h = go (lost s) refl
  where
    go : (b : Bool) → lost s ≡ b → lost s ≡ true
    go true e = e
    go false e = absurd (none (s, d, h, e))

-- some of them are there
pub any_unaddressed : (st : State) (f : ℕ) (lost : Lost) → SomeUnaddressedLeftAt st f lost → AnyUnaddressedAt st f
any_unaddressed st f lost h = (h.0, h.1, h.2)

-- a maximum length was set
pub length_set : (to : Option ℕ) (way : Direction) (most : ℕ) (st : State) (lost : Lost) (devices more : List (Option Device)) (active : ℕ) → HasDevices st devices active
    → more ≡ each_in (with_length_at active to way most) devices → ((a : ℕ) → to ≡ Some a → AnyAt st a)
    → SetsLength to way most Answer.Done lost st (record st { devices = more })
length_set to way most st lost devices more active has m any = go to (each_on (λ own. with_length_at own to way most) st devices more active has m) any
  where
    go : (o : Option ℕ) → record st { devices = more } ≡ with_length o way most st → ((a : ℕ) → o ≡ Some a → AnyAt st a) → SetsLength o way most Answer.Done lost st (record st { devices = more })
    go None all any = (refl, all)
    go (Some at) all any = inl (refl, any at refl, all)

pub length_unset : (to : Option ℕ) (at : ℕ) (way : Direction) (most : ℕ) (st : State) (lost : Option ℕ → Lost) (devices : List (Option Device)) (active : ℕ) → HasDevices st devices active → to ≡ Some at
    → ¬ SomeLeftAt st at (lost (Some at)) → SetsLength to way most (Answer.NoAnswer at) (lost to) st (record st { devices = devices })
length_unset to at way most st lost devices active has e none =
    subst (λ o. SetsLength o way most (Answer.NoAnswer at) (lost o) st (record st { devices = devices })) (sym e)
    (inr (refl, all_lost st at (lost (Some at)) none, λ t. record st { devices = sym has.0 t }))
