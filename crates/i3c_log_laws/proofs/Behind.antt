-- Records that are put in front of a log, and how they count.
use Rattle.std.proofs.Common.{◌≡◌, ℕ, suc, ◌+◌, List, [], ◌∷◌, ◌++◌, length, length-append, ap, append_assoc, arith, refl, sym}
use Rattle.i3c_base.specs.declared.requests.Record.{Record}
use Rattle.i3c_base.specs.declared.requests.Served.{Served}
use Rattle.i3c_base.specs.declared.requests.Served.TheVariants.{Quiet, Recorded, Refused, Torn, Joining, WantsRole}
use Rattle.i3c_base.specs.Serve.{header_bits, recorded}
use Rattle.i3c_base.specs.State.{State}
use Rattle.i3c_step.specs.declared.replies.Reply.{Reply}
use Rattle.i3c_log_laws.specs.Behind.{behind, counted_from, reply_from}

-- records in front of others are in front together with them
pub behind_both : (a b : List Record) (st : State) → behind a (behind b st) ≡ behind (a ++ b) st
behind_both a b st = ap (λ (records : List Record). record st { records = records }) (sym (append_assoc a b st.records))

-- a record more goes to the end
pub behind-recorded : (gone : List Record) (r : Record) (st : State) → behind gone (recorded r st) ≡ recorded r (behind gone st)
behind-recorded gone r st = ap (λ (records : List Record). record st { records = records }) (sym (append_assoc gone st.records (r ∷ [])))

-- its place counts those in front
pub placed_behind : (gone records : List Record) (place : ℕ) → place ≡ suc (length records) → place + length gone ≡ suc (length (gone ++ records))
placed_behind gone records place placed = let both = length-append gone records in omega (arith, both, placed)

-- nothing changes where no more records are counted
counted_from_none : (served : Served) → counted_from 0 served ≡ served
counted_from_none (Recorded place) = ap Recorded (omega arith)
counted_from_none Quiet = refl
counted_from_none Refused = refl
counted_from_none Torn = refl
counted_from_none Joining = refl
counted_from_none (WantsRole a) = refl

-- the same of a reply
pub reply_from_none : (reply : Reply) → reply_from 0 reply ≡ reply
reply_from_none (Reply.Served served) = ap Reply.Served (counted_from_none served)
reply_from_none (Reply.Framed framed) = ap (λ (served : Served). Reply.Framed (record framed { served = served })) (counted_from_none framed.served)
reply_from_none (Reply.Opened served) = ap Reply.Opened (counted_from_none served)
reply_from_none (Reply.Handed served) = ap Reply.Handed (counted_from_none served)
reply_from_none (Reply.Refused why) = refl
reply_from_none Reply.OutOfMemory = refl
reply_from_none Reply.Attached = refl
reply_from_none Reply.Dropped = refl
reply_from_none (Reply.Raised number) = refl
reply_from_none Reply.Asked = refl
reply_from_none (Reply.Round answer) = refl
reply_from_none Reply.Ended = refl

-- the header after a request has as many bits
pub header_bits-counted_from : (count : ℕ) (served : Served) → header_bits (counted_from count served) ≡ header_bits served
header_bits-counted_from count (Recorded place) = refl
header_bits-counted_from count Quiet = refl
header_bits-counted_from count Refused = refl
header_bits-counted_from count Torn = refl
header_bits-counted_from count Joining = refl
header_bits-counted_from count (WantsRole a) = refl
