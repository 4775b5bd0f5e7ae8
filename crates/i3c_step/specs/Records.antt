-- How the records of a history came about.
use Rattle.std.specs.Prelude.{◌≡◌, ℕ, true, ◌==◌, ◌⊎◌, List, [], ◌∷◌, ◌++◌, length, map, filter, Option, Some, None, Contains, slice_get, ⊤}
use Rattle.std.specs.List.Sorted.{IsStrictlyIncreasing}
use Rattle.i3c_base.specs.declared.device.Waiting.{Waiting}
use Rattle.i3c_base.specs.declared.requests.Record.{Record}
use Rattle.i3c_base.specs.declared.requests.Request.TheVariants.{Interrupt}
use Rattle.i3c_base.specs.declared.requests.Served.{Served}
use Rattle.i3c_base.specs.Serve.{IsFront, IsLowestDriver, byte_due, drives}
use Rattle.i3c_base.specs.State.{Device, IsPresent, State, device_at, entry_at}
use Rattle.i3c_step.specs.declared.replies.Reply.{Reply}
use Rattle.i3c_step.specs.History.{History, WasRaised, reached}
use Rattle.i3c_step.specs.Serving.{recorded_at, served_of}

-- the raise that a record names
abbrev pub raise_of : Record → Waiting
raise_of r = record { number = r.number; byte = r.byte }

-- an interrupt at the address a is recorded: at this address, of the lowest driver's slot, with the number of its front
pub record RecordsFront (old : State) (a : ℕ) (reply : Reply) (new : State) : Type 0 where
  pub last : Record
  pub appended : new.records ≡ old.records ++ last ∷ []
  pub placed : recorded_at reply ≡ Some (length new.records)
  pub address : last.at ≡ a
  pub lowest : IsLowestDriver old (Interrupt a) last.slot
  pub front : Waiting
  pub fronted : IsFront old last.slot front
  pub number : last.number ≡ front.number

-- an interrupt at the address a is torn: it has a mandatory byte, and each of its drivers was lost in the frame
pub record IsTornOff (old : State) (a : ℕ) (served : Served) (new : State) : Type 0 where
  pub torn : served ≡ Served.Torn
  pub due : byte_due (entry_at old a) ≡ true
  pub gone : (s : ℕ) → drives old (Interrupt a) s ≡ true → ¬ IsPresent new s

-- the interrupt at the address a is recorded, or otherwise torn
abbrev pub IsRecordedOrTorn : State → ℕ → Reply → State → Type 0
IsRecordedOrTorn old a reply new = RecordsFront old a reply new ⊎ ((served : Served) × (served_of reply ≡ Some served) × IsTornOff old a served new)

-- the last record: at its device's address, with the number and byte of a raise of that device's present stay
pub record IsLastRecord (start : State) (earlier : History) (after : State) (place : ℕ) : Type 0 where
  pub last : Record
  pub appended : after.records ≡ (reached start earlier).records ++ last ∷ []
  pub placed : place ≡ length after.records
  pub device : Device
  pub there : device_at (reached start earlier) last.slot ≡ Some device
  pub address : device.address ≡ Some last.at
  pub raised : WasRaised start earlier last.slot (raise_of last)

-- a record of this place was appended, or the records stayed as they were
abbrev pub RecordsAt : Option ℕ → State → History → State → Type 0
RecordsAt None start earlier after = after.records ≡ (reached start earlier).records
RecordsAt (Some place) start earlier after = IsLastRecord start earlier after place

-- at each moment, just as its reply says
abbrev pub RecordsGrow : State → History → Type 0
RecordsGrow start [] = ⊤
RecordsGrow start (m ∷ earlier) = RecordsAt (recorded_at m.reply) start earlier m.after × RecordsGrow start earlier

-- the numbers of a slot's records
abbrev pub numbers_of : ℕ → List Record → List ℕ
numbers_of s records = map (λ (r : Record). r.number) (filter (λ (r : Record). r.slot == s) records)

-- a record holds w of slot s
abbrev pub IsRecordedFor : State → ℕ → Waiting → Type 0
IsRecordedFor st s w = (r : Record) × Contains st.records r × (r.slot ≡ s) × (raise_of r ≡ w)

-- what the records of a history say of its raises
pub record HasFaithfulRecords (start : State) (h : History) : Type 0 where
  -- the records only grow, by one where the reply says so, which is a raise of a present stay
  pub grow : RecordsGrow start h
  -- no two records name one raise
  pub once : (i j : ℕ) (r q : Record) → slice_get (reached start h).records i ≡ Some r → slice_get (reached start h).records j ≡ Some q
      → r.slot ≡ q.slot → r.number ≡ q.number → i ≡ j
  -- a slot's records are in the order of its raises
  pub rise : (s : ℕ) → IsStrictlyIncreasing (numbers_of s (reached start h).records)
  -- each accepted raise of a present device's stay waits or is recorded
  pub complete : (s : ℕ) (d : Device) (w : Waiting) → device_at (reached start h) s ≡ Some d → WasRaised start h s w
      → Contains d.waiting w ⊎ IsRecordedFor (reached start h) s w
