-- How a frame begins: its first request is served, and where it goes on a repeated START and the broadcast header follow.
use Rattle.std.specs.Prelude.{◌≡◌, ℕ, ◌+◌, ◌≤◌, List, [], ◌∷◌, ◌++◌}
use Rattle.i3c_base.specs.declared.requests.Record.{Record}
use Rattle.i3c_base.specs.declared.requests.Served.{Served}
use Rattle.i3c_base.specs.Cutting.{CutList, Lost, lost_by}
use Rattle.i3c_base.specs.State.{State}
use Rattle.i3c_base.specs.Serve.{IsWordBits, Serves, emptied, given_for}
use Rattle.i3c_frame.specs.declared.symbols.Symbol.{Symbol}
use Rattle.i3c_ibi.specs.declared.serving.Reading.{Reading}
use Rattle.i3c_ibi.specs.declared.serving.Reading.TheVariants.{Quiet, Refused, Joined, WantsRole, Due, Torn}
use Rattle.i3c_bus.specs.Wire.{IsBegun, IsOn}

-- the records after a reading: its record is appended, if it has one
abbrev pub kept_in : Reading → List Record → List Record
kept_in (Due r) records = records ++ r ∷ []
kept_in Quiet records = records
kept_in (Refused r) records = records
kept_in Joined records = records
kept_in (WantsRole a) records = records
kept_in (Torn a byte) records = records

-- the first request was served, whatever bits follow the mandatory word
pub record Begins (old : State) (cuts : CutList) (served : Served) (word : ℕ) (new : State) : Type 0 where
  pub sent : IsWordBits old served word
  pub few : word ≤ 9
  pub serves : (rest : ℕ) → Serves old (given_for served) (lost_by cuts (word + rest)) served new

-- the wire up to a frame's own part
abbrev pub IsWay : State → CutList → Served → ℕ → State → List Symbol → Type 0
IsWay old cuts served word new wire =
    (begun : List Symbol) × (on : List Symbol) × IsBegun old cuts served new begun × IsOn old cuts served word on × (wire ≡ begun ++ on)

-- the own part of a frame that ends with this bit, and then the devices that it loses are gone
abbrev pub LeavesBy : CutList → ℕ → (Lost → State → State → Type 0) → State → State → Type 0
LeavesBy cuts last Own mid new = (done : State) × Own (lost_by cuts last) mid done × (new ≡ emptied (lost_by cuts last) done)
