-- One round on the wire. Its bit 0 is the ninth bit of 7E/R, bits 1 to 64 are the identity's, bits 65 to 72 the address byte,
-- and bit 73 is the ninth bit of that. A cut device drives nothing from its bit on.
use Rattle.std.specs.Prelude.{◌≡◌, ℕ, ◌^◌, ◌<◌, List, Option, ⊤}
use Rattle.i3c_base.specs.declared.answers.RoundReply.{RoundReply}
use Rattle.i3c_base.specs.declared.identity.Identity.{Identity}
use Rattle.i3c_base.specs.Cutting.{CutList, counted_from, lost_by}
use Rattle.i3c_base.specs.Numbers.{IsInRange, number_of}
use Rattle.i3c_base.specs.Round.{IsAddressFor, IsContender}
use Rattle.i3c_base.specs.State.{Device, State}
use Rattle.i3c_wires.specs.Contest.{EachBit}
use Rattle.i3c_entdaa.specs.declared.outcome.Round.{Round}
use Rattle.i3c_entdaa.specs.declared.outcome.Round.TheVariants.{NoAddress, Done, Nobody, Assigned}
use Rattle.i3c_entdaa.specs.Hearers.{contenders_from}

-- the 64 bits that are read while all hearers drive their numbers at once: each is the AND of what the hearers drive that
-- have read their own bits so far and aren't cut. The contest's first bit is bit 1 of the round
abbrev pub IsContested : CutList → List (Option Device) → ℕ → Type 0
IsContested cuts devices bits = (bits < 2 ^ 64) × EachBit (counted_from 1 cuts) (contenders_from 0 devices) 64 bits

-- the header is acknowledged, by a hearer that isn't lost by then
abbrev pub IsHeard : State → CutList → Type 0
IsHeard st cuts = (i : Identity) × IsContender st (lost_by cuts 0) i

-- the address byte is acknowledged, by a hearer whose number was read and that isn't lost by then
abbrev pub IsTaken : State → CutList → ℕ → Type 0
IsTaken st cuts bits = (i : Identity) × IsContender st (lost_by cuts 73) i × (number_of i ≡ bits)

-- the address that is sent after these bits: the one kept for the identity that they are, or otherwise the pick
abbrev pub IsSent : State → ℕ → ℕ → Type 0
IsSent st bits a = (i : Identity) × IsInRange i × (number_of i ≡ bits) × IsAddressFor st i a

-- the bits that a round read, the address that it sent, and the identity that these bits give
abbrev pub IsRead : State → CutList → Round → Type 0
IsRead st cuts NoAddress = ⊤
IsRead st cuts Done = ⊤
IsRead st cuts (Nobody bits a) = IsContested cuts st.devices bits × IsSent st bits a
IsRead st cuts (Assigned bits a i) = IsContested cuts st.devices bits × IsSent st bits a × (number_of i ≡ bits)

-- what is acknowledged in a round
abbrev pub IsAcknowledged : State → CutList → Round → Type 0
IsAcknowledged st cuts NoAddress = ⊤
IsAcknowledged st cuts Done = ¬ IsHeard st cuts
IsAcknowledged st cuts (Nobody bits a) = IsHeard st cuts × (¬ IsTaken st cuts bits)
IsAcknowledged st cuts (Assigned bits a i) = IsHeard st cuts × IsTaken st cuts bits

-- the answer of a round
abbrev pub reply_of : Round → RoundReply
reply_of NoAddress = RoundReply.NoAddress
reply_of Done = RoundReply.Done
reply_of (Nobody bits a) = RoundReply.Nobody
reply_of (Assigned bits a i) = RoundReply.Assigned a i
