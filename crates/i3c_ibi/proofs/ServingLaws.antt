-- What serving a first request does to a bus.
use Rattle.std.specs.Prelude.{IfSome}
use Rattle.std.proofs.Common.{◌≡◌, ℕ, ◌+◌, ◌<◌, Bool, true, false, List, length, Option, Some, None, is_some, if◌then◌else◌, inl, inr, sym, refl, ap, subst, ◌∙◌, arith}
use Rattle.std.proofs.lemmas.Bool.{both_ways}
use Rattle.std.proofs.lemmas.Bool.Decides.{nat_tests}
use Rattle.std.proofs.lemmas.Option.{none-some}
use Rattle.i3c_base.specs.declared.range.TheConstants.{SLOTS}
use Rattle.i3c_base.specs.declared.requests.Fixed.{Fixed}
use Rattle.i3c_base.specs.declared.requests.Record.{Record}
use Rattle.i3c_base.specs.declared.requests.Request.{Request}
use Rattle.i3c_base.specs.declared.requests.Request.TheVariants.{Join, Role, Interrupt}
use Rattle.i3c_base.specs.declared.requests.Verdict.{Verdict}
use Rattle.i3c_base.specs.declared.requests.Verdict.TheVariants.{Accept, Refuse}
use Rattle.i3c_base.specs.Cutting.{CutList, Lost, cut_of, is_by, lost_by}
use Rattle.i3c_base.specs.State.{Device, Entry, HasDevices, State, entry_in, population}
use Rattle.i3c_base.specs.Serve.{IsFirst, IsRead, byte_due, drives, each_driver, each_driver_in, given_for, recorded, refuse_all, without, without_front, without_join, without_role, SomeDrives}
use Rattle.i3c_base.proofs.Verdicts.{refuses}
use Rattle.i3c_device.specs.declared.slot_set.SlotSet.{SlotSet}
use Rattle.i3c_device.specs.Sets.{SomeLeft}
use Rattle.i3c_device.specs.Walks.{AreDrivers}
use Rattle.i3c_device.proofs.FirstLaws.{driven_below}
use Rattle.i3c_ibi.specs.declared.serving.Reading.{Reading}
use Rattle.i3c_ibi.specs.declared.serving.Reading.TheVariants.{Quiet, Refused, Joined, WantsRole, Due, Torn}
use Rattle.i3c_ibi.specs.Driving.{HaveBytes, IsByteRead, IsReading}
use Rattle.i3c_ibi.proofs.ReadingLaws.{no_byte}
use Rattle.i3c_ibi.specs.Policies.{Decides, is_known, verdict_in}
use Rattle.i3c_ibi.specs.Serving.{FitsTable, IsServing, served_as}

-- what its drivers leave of an accepted request
left_by : (st : State) (r : Request) (new : List (Option Device)) → new ≡ each_driver_in (population st) r (without r) → record st { devices = new } ≡ each_driver r (without r) st
left_by st r new e = λ k. record st { devices = e k }

-- nothing was left
pub unchanged : (st : State) (old : List (Option Device)) (active : ℕ) → HasDevices st old active → record st { devices = old } ≡ st
unchanged st old active has = λ k. record st { devices = sym has.0 k }

-- a device that is lost early is lost later
lost_later : (rest : ℕ) (cut : Option ℕ) → is_by 9 cut ≡ true → is_by (9 + rest) cut ≡ true
lost_later rest None h = h
lost_later rest (Some bit) h = grind (arith, nat_tests)

left_sooner : (rest : ℕ) (cut : Option ℕ) → is_by (9 + rest) cut ≡ false → is_by 9 cut ≡ false
left_sooner rest cut h = go (is_by 9 cut) refl
  where
    go : (b : Bool) → is_by 9 cut ≡ b → is_by 9 cut ≡ false
    go true e = absurd (both_ways _ h (lost_later rest cut e))
    go false e = e

-- a request that the table knows is accepted by a policy that accepts its kind
known_accept : (b : Bool) → b ≡ true → (if b then Accept else Refuse) ≡ Accept
known_accept b e = ap (λ x. if x then Accept else Refuse) e

-- an accepted join, and an accepted role request
pub join_served : (st : State) (cuts : CutList) (new : List (Option Device)) → IsFirst st Join → new ≡ each_driver_in (population st) Join without_join → IsServing st cuts Joined new
join_served st cuts new first e = record { serves = λ rest. (first, refl, left_by st Join new e); word = refl; first = first; ended = tt; read = tt }

pub role_served : (st : State) (cuts : CutList) (a : ℕ) (new : List (Option Device)) → IsFirst st (Role a) → is_known st.given (Role a) ≡ true
    → new ≡ each_driver_in (population st) (Role a) without_role → IsServing st cuts (WantsRole a) new
role_served st cuts a new first known e =
    record { serves = λ rest. (first, known_accept _ known, left_by st (Role a) new e); word = refl; first = first; ended = tt; read = tt }

-- what was read where there is no byte, and where some driver ended it
read_none : (st : State) (cuts : CutList) (at : ℕ) (r : Record) (h : IsReading st cuts at r) (lost : Lost) → is_some r.byte ≡ false → IsRead st lost (Interrupt at) r.slot h.front r.byte
read_none st cuts at r h lost e = record {
  alone = λ k. no_byte r.byte e ∙ sym (no_byte h.front.byte (sym h.present ∙ e));
  together = λ k v q. absurd (none-some v (sym (no_byte r.byte e) ∙ q));
  present = h.present;
}

read_some : (st : State) (cuts : CutList) (at rest : ℕ) (r : Record) (h : IsReading st cuts at r) → SomeDrives (population st) (Interrupt at) (lost_by cuts 9)
    → IsRead st (lost_by cuts (9 + rest)) (Interrupt at) r.slot h.front r.byte
read_some st cuts at rest r h some = record {
  alone = λ k. h.alone k (ap (lost_by cuts 9) (sym (k some.0 some.1)) ∙ some.2);
  together = λ k. h.together (λ t d. left_sooner rest (cut_of cuts t) (k t d));
  present = h.present;
}

read_of : (st : State) (cuts : CutList) (at rest : ℕ) (r : Record) (h : IsReading st cuts at r) → (is_some r.byte ≡ true → SomeDrives (population st) (Interrupt at) (lost_by cuts 9))
    → IsRead st (lost_by cuts ((if is_some r.byte then 9 else 0) + rest)) (Interrupt at) r.slot h.front r.byte
read_of st cuts at rest r h ended = go (is_some r.byte) refl
  where
    go : (b : Bool) → is_some r.byte ≡ b → IsRead st (lost_by cuts ((if is_some r.byte then 9 else 0) + rest)) (Interrupt at) r.slot h.front r.byte
    go true e = subst (λ b. IsRead st (lost_by cuts ((if b then 9 else 0) + rest)) (Interrupt at) r.slot h.front r.byte) (sym e) (read_some st cuts at rest r h (ended e))
    go false e = read_none st cuts at r h (lost_by cuts ((if is_some r.byte then 9 else 0) + rest)) e

-- an accepted interrupt that is recorded
pub due_served : (st : State) (cuts : CutList) (at : ℕ) (r : Record) (new : List (Option Device)) → FitsTable st → IsFirst st (Interrupt at) → is_known st.given (Interrupt at) ≡ true
    → IsReading st cuts at r → (is_some r.byte ≡ true → SomeDrives (population st) (Interrupt at) (lost_by cuts 9)) → new ≡ each_driver_in (population st) (Interrupt at) without_front → IsServing st cuts (Due r) new
due_served st cuts at r new fits first known h ended e = record {
  serves = λ rest. record {
    at = at;
    slot = r.slot;
    front = h.front;
    byte = r.byte;
    first = first;
    accepted = known_accept _ known;
    lowest = h.lowest;
    fronted = h.fronted;
    read = read_of st cuts at rest r h ended;
    placed = refl;
    left = ap (recorded r) (left_by st (Interrupt at) new e)
        ∙ ap (λ (q : Record). recorded q (each_driver (Interrupt at) without_front st)) (λ k. record { slot = r.slot; number = h.number k; at = h.address k; byte = r.byte });
  };
  word = (at, first, ap (λ b. if b then 9 else 0) (h.present ∙ fits at r.slot h.front h.lowest.0 h.fronted));
  first = subst (λ a. IsFirst st (Interrupt a)) (sym h.address) first;
  ended = λ b. let some = ended b in (some.0, subst (λ a. drives st (Interrupt a) some.0 ≡ true) (sym h.address) some.1, some.2);
  read = subst (λ a. IfSome r.byte (IsByteRead st cuts a)) (sym h.address) h.byte;
}

-- an accepted interrupt whose byte nobody ended
pub torn_served : (st : State) (cuts : CutList) (at byte : ℕ) (r : Record) (new : List (Option Device)) → FitsTable st → IsFirst st (Interrupt at) → is_known st.given (Interrupt at) ≡ true
    → IsReading st cuts at r → r.byte ≡ Some byte → ¬ SomeDrives (population st) (Interrupt at) (lost_by cuts 9) → new ≡ each_driver_in (population st) (Interrupt at) without_front → IsServing st cuts (Torn at byte) new
torn_served st cuts at byte r new fits first known h b none e = record {
  serves = λ rest. record {
    at = at;
    first = first;
    accepted = known_accept _ known;
    due = sym (fits at r.slot h.front h.lowest.0 h.fronted) ∙ (sym h.present ∙ ap is_some b);
    gone = λ s d. lost_later rest (cut_of cuts s) (gone s d (lost_by cuts 9 s) refl);
    left = left_by st (Interrupt at) new e;
  };
  word = refl;
  first = first;
  ended = tt;
  read = subst (λ o. IfSome o (IsByteRead st cuts at)) b h.byte;
}
  where
    gone : (s : ℕ) → drives st (Interrupt at) s ≡ true → (b : Bool) → lost_by cuts 9 s ≡ b → lost_by cuts 9 s ≡ true
    gone s d true l = l
    gone s d false l = absurd (none (s, d, l))

-- the drivers of a bus, as the walks see them
pub seen_drives : (st : State) (r : Request) (lost : Lost) (drivers : SlotSet) → AreDrivers (population st) r drivers → SomeLeft drivers lost → SomeDrives (population st) r lost
seen_drives st r lost drivers are some = (some.0, sym (are some.0 some.1) ∙ some.2, some.3)

pub unseen_drives : (st : State) (r : Request) (lost : Lost) (drivers : SlotSet) → AreDrivers (population st) r drivers → length st.devices ≡ SLOTS → SomeDrives (population st) r lost → SomeLeft drivers lost
unseen_drives st r lost drivers are long some =
    let low : some.0 < SLOTS = driven_below (population st) some.0 r long some.1 in (some.0, low, are some.0 low ∙ some.1, some.2)

pub have_bytes : (st : State) (at : ℕ) (given : List (Option Entry)) → st.given ≡ given → FitsTable st → HaveBytes (population st) at (byte_due (entry_in given at))
have_bytes st at given same fits = subst (λ g. HaveBytes (population st) at (byte_due (entry_in g at))) same (fits at)

-- the first request is turned down
pub refused_served : (st : State) (cuts : CutList) (r : Request) (old : List (Option Device)) (active : ℕ) → HasDevices st old active → IsFirst st r → IsServing st cuts (Refused r) old
refused_served st cuts r old active has first =
    record { serves = λ rest. ((r, first, refuses st r), unchanged st old active has); word = refl; first = first; ended = tt; read = tt }

-- the verdicts that were given
refuses_in : (r : Request) → verdict_in refuse_all r ≡ Refuse
refuses_in Join = refl
refuses_in (Role a) = refl
refuses_in (Interrupt a) = refl

-- a policy that was asked where the table knows the request, and not elsewhere
decided : {P : Type 0} (gives : P → Request → Verdict → P → Type 0) (old new : P) (st : State) (r : Request) (v : Verdict) (fixed : Fixed) → IsFirst st r
    → (is_known st.given r ≡ true → gives old r v new) → (is_known st.given r ≡ false → (v ≡ Refuse) × (new ≡ old)) → v ≡ verdict_in fixed r → Decides gives old new st fixed
decided gives old new st r v fixed first asked unasked e = go (is_known st.given r) refl
  where
    go : (b : Bool) → is_known st.given r ≡ b → Decides gives old new st fixed
    go true known = inr (inl (r, first, known, subst (λ w. gives old r w new) e (asked known)))
    go false unknown = inr (inr (r, first, unknown, (unasked unknown).1))

pub decided_refusal : {P : Type 0} (gives : P → Request → Verdict → P → Type 0) (old new : P) (st : State) (r : Request) (v : Verdict) (given : List (Option Entry)) → IsFirst st r → st.given ≡ given → v ≡ Refuse
    → (is_known given r ≡ true → gives old r v new) → (is_known given r ≡ false → (v ≡ Refuse) × (new ≡ old)) → Decides gives old new st refuse_all
decided_refusal gives old new st r v given first same e asked unasked =
    decided gives old new st r v refuse_all first (λ k. asked (ap (λ g. is_known g r) (sym same) ∙ k)) (λ k. unasked (ap (λ g. is_known g r) (sym same) ∙ k)) (e ∙ sym (refuses_in r))

-- a request that was accepted is known
accept≢refuse : Accept ≡ Refuse → ⊥
accept≢refuse e = cc

pub known_accepted : {P : Type 0} (old new : P) (r : Request) (v : Verdict) (given : List (Option Entry)) → (is_known given r ≡ false → (v ≡ Refuse) × (new ≡ old)) → v ≡ Accept → is_known given r ≡ true
known_accepted old new r v given unasked e = go (is_known given r) refl
  where
    go : (b : Bool) → is_known given r ≡ b → is_known given r ≡ true
    go true known = known
    go false unknown = absurd (accept≢refuse (sym e ∙ (unasked unknown).0))

pub decided_acceptance : {P : Type 0} (gives : P → Request → Verdict → P → Type 0) (old new : P) (st : State) (r : Request) (v : Verdict) (reading : Reading) (given : List (Option Entry)) → IsFirst st r → st.given ≡ given → v ≡ Accept
    → (is_known given r ≡ true → gives old r v new) → (is_known given r ≡ false → (v ≡ Refuse) × (new ≡ old)) → verdict_in (given_for (served_as (length st.records) reading)) r ≡ Accept
    → Decides gives old new st (given_for (served_as (length st.records) reading))
decided_acceptance gives old new st r v reading given first same e asked unasked gave =
    decided gives old new st r v (given_for (served_as (length st.records) reading)) first (λ k. asked (ap (λ g. is_known g r) (sym same) ∙ k)) (λ k. unasked (ap (λ g. is_known g r) (sym same) ∙ k)) (e ∙ sym gave)
