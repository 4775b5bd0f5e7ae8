-- The faults that a linter finds at a header, in the symbols behind it, and over a trace. A linter knows all codes by name.
use Rattle.std.specs.Prelude.{ℕ, zero, suc, ◌+◌, ◌/◌, ◌%◌, ◌==◌, ◌&&◌, ◌||◌, Bool, true, false, not, count_ones, drop, List, [], ◌∷◌, ◌++◌, map, Option, Some, None, option_map, position, Result, Ok, Err, if◌then◌else◌}
use Rattle.std.specs.Option.{option_and_then, option_to_list}
use Rattle.i3c_base.specs.Sets.{is_in}
use Rattle.i3c_base.specs.declared.datum.Datum.{Datum}
use Rattle.i3c_base.specs.declared.datum.Direction.{Direction}
use Rattle.i3c_ccc.specs.declared.codes.Code.{Code}
use Rattle.i3c_ccc.specs.declared.codes.CodeSet.{CodeSet}
use Rattle.i3c_ccc.specs.Codes.{code_among, extended}
use Rattle.i3c_frame.specs.declared.symbols.Symbol.{Symbol}
use Rattle.i3c_monitor.specs.declared.decoded.Decoded.{Decoded}
use Rattle.i3c_monitor.specs.declared.decoded.Direct.{Direct}
use Rattle.i3c_monitor.specs.declared.decoded.Fault.{Fault}
use Rattle.i3c_monitor.specs.declared.header.Header.{Header}
use Rattle.i3c_monitor.specs.declared.header.Mode.{Mode}
use Rattle.i3c_monitor.specs.declared.header.Told.{Told}
use Rattle.i3c_monitor.specs.declared.address_statuses.AddressStatuses.{AddressStatuses}
use Rattle.i3c_monitor.specs.declared.address_statuses.Owner.{Owner}
use Rattle.i3c_monitor.specs.declared.lint_fault.Breach.{Breach}
use Rattle.i3c_monitor.specs.declared.lint_fault.LintFault.{LintFault}
use Rattle.i3c_monitor.specs.AddressStatuses.{dynamic_in, forgotten, learned_of, present, status_of, unless_unread}
use Rattle.i3c_monitor.specs.Told.{told}
use Rattle.i3c_monitor.specs.Trace.{behind, count_behind}

-- a word, with a T bit or of a legacy target
abbrev pub is_word : Symbol → Bool
is_word (Symbol.Word word) = true
is_word (Symbol.LegacyWord byte ack) = true
is_word _ = false

-- a word with a T bit
abbrev pub is_t_word : Symbol → Bool
is_t_word (Symbol.Word word) = true
is_t_word _ = false

-- the first of some symbols passes the test
abbrev pub begins_with : (Symbol → Bool) → List Symbol → Bool
begins_with is [] = false
begins_with is (symbol ∷ rest) = is symbol

-- these symbols are more than a request carries, which is the one byte of an interrupt at most
abbrev pub carries_more : Bool → List Symbol → Bool
carries_more true (Symbol.Word word ∷ rest) = begins_with is_word rest
carries_more read symbols = begins_with is_word symbols

-- a frame's first header is that of a private transfer: a legacy target's, or with more than a request carries
abbrev pub is_transfer : ℕ → Header → List Symbol → Bool
is_transfer legacies header symbols =
    not (header.address == 0x7E) && (is_in legacies header.address || (header.ack && carries_more header.read symbols))

-- the mode of a frame at a header: one that begins with a private transfer is in no command
abbrev pub mode_at : ℕ → Mode → Header → List Symbol → Mode
mode_at legacies Mode.First header symbols = if is_transfer legacies header symbols then Mode.Plain else Mode.First
mode_at legacies mode header symbols = mode

-- what a header tells: after a refusal the rest of the frame is skipped
abbrev pub settled : Result Told Fault → Told
settled (Ok told) = told
settled (Err fault) = record { decoded = Some (Decoded.Refused fault); mode = Mode.Skipped }

-- the same with what was told before
abbrev pub told_at : ℕ → Mode → Header → List Symbol → ℕ → Told
told_at legacies mode header symbols number = settled (told CodeSet.Extended (mode_at legacies mode header symbols) header symbols number)

-- a fault at the symbol of this number
abbrev pub fault_at : ℕ → ℕ → Breach → LintFault
fault_at frame symbol breach = record { frame = frame; symbol = symbol; breach = breach }

-- the same for an optional one
abbrev pub fault_if : Bool → ℕ → ℕ → Breach → Option LintFault
fault_if wrong frame symbol breach = if wrong then Some (fault_at frame symbol breach) else None

-- the dynamic address of a single target to which a header speaks
abbrev pub spoken_to : Decoded → Option ℕ
spoken_to (Decoded.Transfer a read span) = Some a
spoken_to (Decoded.Get what a span) = Some a
spoken_to (Decoded.SetLengthDirect way a bytes) = Some a
spoken_to (Decoded.Single command a byte) = dynamic_in command a
spoken_to _ = None

-- the address has no owner
abbrev pub is_nobodys : Owner → Bool
is_nobodys Owner.Nobody = true
is_nobodys _ = false

-- an answer without a word, or with those of a legacy target, may be one's that the trace doesn't tell of
abbrev pub may_be_legacy : Decoded → List Symbol → Bool
may_be_legacy (Decoded.Transfer a read (Some span)) symbols = not (begins_with is_t_word symbols)
may_be_legacy _ symbols = false

-- no owner was given to this address, in a trace that shows owners
abbrev pub nobody_at : ℕ → AddressStatuses → ℕ → ℕ → Option ℕ → Option LintFault
nobody_at legacies known frame number None = None
nobody_at legacies known frame number (Some a) =
    fault_if (known.shown && (not (is_in legacies a) && is_nobodys (status_of a known).owner)) frame number (Breach.Nobody a)

-- a header speaks to an address that nobody was given
abbrev pub nobody_fault : ℕ → AddressStatuses → ℕ → ℕ → List Symbol → Decoded → Option LintFault
nobody_fault legacies known frame number symbols decoded =
    if may_be_legacy decoded symbols then None else nobody_at legacies known frame number (spoken_to decoded)

-- the symbol since which an owner is silent that got its address in a round: silence of others is no fault
abbrev pub silent_since : Owner → Option ℕ → Option ℕ
silent_since (Owner.Given identity) silent = silent
silent_since _ silent = None

-- the symbol since which the owner of this address is silent
abbrev pub silence_at : AddressStatuses → ℕ → ℕ → Option ℕ → Option LintFault
silence_at known frame number None = None
silence_at known frame number (Some a) =
    option_map (λ since. fault_at frame number (Breach.Silent a since)) (silent_since (status_of a known).owner (status_of a known).silent)

-- an owner answers or asks that was silent before, and wasn't given the address again
abbrev pub silence_fault : AddressStatuses → ℕ → ℕ → Decoded → Option LintFault
silence_fault known frame number decoded = silence_at known frame number (present decoded)

-- an address is another identity's
abbrev pub is_others : ℕ → Owner → Bool
is_others identity (Owner.Given other) = not (other == identity)
is_others identity _ = false

-- a round gives an address that another identity was given
abbrev pub twice_fault : AddressStatuses → ℕ → ℕ → List Symbol → Option LintFault
twice_fault known frame number (Symbol.Identity identity ∷ Symbol.AddressByte byte true ∷ rest) =
    fault_if (is_others identity (status_of (byte / 2) known).owner) frame (number + 2) (Breach.Twice (byte / 2))
twice_fault known frame number _ = None

-- two addresses were given to different identities
abbrev pub are_others : Owner → Owner → Bool
are_others (Owner.Given identity) owner = is_others identity owner
are_others _ owner = false

-- SETNEWDA gives an address that another identity was given
abbrev pub moved_fault : AddressStatuses → ℕ → ℕ → Decoded → Option LintFault
moved_fault known frame number (Decoded.Single Direct.Setnewda a (Some byte)) =
    fault_if (are_others (status_of a known).owner (status_of (byte / 2) known).owner) frame (number + 1) (Breach.Twice (byte / 2))
moved_fault known frame number _ = None

-- nobody acknowledged a header whose answer counts, that is, one other than 7E/W
abbrev pub is_unanswered : Header → Bool
is_unanswered header = not header.ack && not ((header.address == 0x7E) && not header.read)

-- something follows a header that nobody acknowledged
abbrev pub unanswered_fault : ℕ → ℕ → Header → List Symbol → Option LintFault
unanswered_fault frame number header symbols =
    fault_if (is_unanswered header && begins_with (λ symbol. true) symbols) frame (number + 1) Breach.Unanswered

-- the symbols that are looked at further: none of those behind an unanswered header
abbrev pub heeded : Header → List Symbol → List Symbol
heeded header symbols = if is_unanswered header then [] else symbols

-- 7E/R, which heads a round
abbrev pub heads_round : Header → Bool
heads_round header = (header.address == 0x7E) && header.read

-- a symbol may follow a header: words behind any, and what a round has behind 7E/R
abbrev pub belongs : Bool → Symbol → Bool
belongs round (Symbol.Identity identity) = round
belongs round (Symbol.AddressByte byte ack) = round
belongs round symbol = is_word symbol

-- the first symbol that may not
abbrev pub stray_fault : ℕ → ℕ → Header → List Symbol → Option LintFault
stray_fault frame number header symbols =
    option_map (λ n. fault_at frame (number + (n + 1)) Breach.Stray) (position (λ symbol. not (belongs (heads_round header) symbol)) symbols)

-- how many words may follow a code that asks for a datum: a defining byte, where there are several of the kind
abbrev pub defining_bytes : Datum → ℕ
defining_bytes Datum.Status = 1
defining_bytes Datum.Speed = 1
defining_bytes Datum.Capabilities = 1
defining_bytes _ = 0

-- how many words a maximum length takes: two, and of reads a third, which is for interrupts
abbrev pub length_takes : Direction → ℕ
length_takes Direction.Write = 2
length_takes Direction.Read = 3

-- how many words follow a code, unless as many as come
abbrev pub words_taken : Code → Option ℕ
words_taken Code.Enec = Some 1
words_taken Code.Disec = Some 1
words_taken Code.Deftgts = None
words_taken (Code.SetLength way) = Some (length_takes way)
words_taken (Code.Get what) = Some (defining_bytes what)
words_taken (Code.Other byte) = None
words_taken _ = Some 0

-- how many symbols follow 7E/W, its code counted
abbrev pub code_takes : List Symbol → Option ℕ
code_takes (Symbol.Word word ∷ rest) = option_map (λ n. n + 1) (words_taken (code_among extended word.byte))
code_takes _ = None

-- how many follow a header of a command: its byte, a length, or a round's identity and address byte
abbrev pub mode_takes : Mode → Bool → Option ℕ
mode_takes (Mode.Single command) round = Some 1
mode_takes (Mode.Length way) round = Some (length_takes way)
mode_takes Mode.Rounds true = Some 2
mode_takes _ round = None

-- how many symbols a header takes
abbrev pub taken_by : Mode → Header → List Symbol → Option ℕ
taken_by mode header symbols =
    if (header.address == 0x7E) && not header.read then code_takes symbols else mode_takes mode (heads_round header)

-- a word follows the first n symbols
abbrev pub surplus_after : ℕ → ℕ → List Symbol → Option ℕ → Option LintFault
surplus_after frame number symbols None = None
surplus_after frame number symbols (Some n) = fault_if (begins_with is_word (drop n symbols)) frame (number + (n + 1)) Breach.Surplus

-- a word follows all that a header takes
abbrev pub surplus_fault : ℕ → ℕ → Mode → Header → List Symbol → Option LintFault
surplus_fault frame number mode header symbols = surplus_after frame number symbols (taken_by mode header symbols)

-- the number of the first word behind one with a T of 0, if the first symbol has this number
abbrev pub ended_after : Bool → ℕ → List Symbol → Option ℕ
ended_after ended number [] = None
ended_after true number (Symbol.Word word ∷ rest) = Some number
ended_after false number (Symbol.Word word ∷ rest) = ended_after (not word.t) (number + 1) rest
ended_after ended number (symbol ∷ rest) = ended_after false (number + 1) rest

-- a word that is read follows one that was the last
abbrev pub ended_fault : ℕ → ℕ → Header → List Symbol → Option LintFault
ended_fault frame number header symbols =
    if header.read then option_map (λ n. fault_at frame n Breach.Ended) (ended_after false (number + 1) symbols) else None

-- an address byte with a wrong parity bit
abbrev pub is_wrong_address : Symbol → Bool
is_wrong_address (Symbol.AddressByte byte ack) = not ((count_ones (byte / 2) + byte % 2) % 2 == 1)
is_wrong_address _ = false

-- the fault of the first address byte with a wrong parity
abbrev pub parity_fault : ℕ → ℕ → List Symbol → Option LintFault
parity_fault frame number symbols = option_map (λ n. fault_at frame (number + (n + 1)) Breach.Parity) (position is_wrong_address symbols)

-- the faults among these that are there
abbrev pub all_found : List (Option LintFault) → List LintFault
all_found [] = []
all_found (None ∷ rest) = all_found rest
all_found (Some fault ∷ rest) = fault ∷ all_found rest

-- what is looked for at a header of this number, and in the symbols behind it, in the order in which it is told
abbrev pub checks : ℕ → AddressStatuses → Mode → ℕ → ℕ → Header → List Symbol → Option Decoded → List (Option LintFault)
checks legacies known mode frame number header symbols decoded =
    let rest = heeded header symbols in
    option_and_then (nobody_fault legacies known frame number symbols) decoded
    ∷ option_and_then (silence_fault known frame number) decoded
    ∷ unanswered_fault frame number header symbols
    ∷ stray_fault frame number header rest
    ∷ surplus_fault frame number mode header rest
    ∷ ended_fault frame number header rest
    ∷ parity_fault frame number rest
    ∷ twice_fault known frame number rest
    ∷ option_and_then (moved_fault known frame number) decoded
    ∷ []

-- what is found of it
abbrev pub header_faults : ℕ → AddressStatuses → Mode → ℕ → ℕ → Header → List Symbol → Option Decoded → List LintFault
header_faults legacies known mode frame number header symbols decoded = all_found (checks legacies known mode frame number header symbols decoded)

-- what a linter tells: what is decoded, and faults
pub data LintLine : Type 0 where
  Shown : Decoded → LintLine
  Faulty : LintFault → LintLine

-- a frame ends at once, whose START is before these symbols: such a frame couldn't be read
abbrev pub ends_at_once : List Symbol → Bool
ends_at_once (Symbol.Stop ∷ rest) = true
ends_at_once symbols = false

-- what the rest of a trace tells a linter; its first `skip` symbols are behind a header that was told. A frame's faults come
-- at its end
abbrev pub linted : ℕ → Mode → ℕ → ℕ → AddressStatuses → List LintFault → ℕ → List Symbol → List LintLine
linted legacies mode frames before known faults skip [] = []
linted legacies mode frames before known faults (suc skip) (symbol ∷ rest) = linted legacies mode frames (before + 1) known faults skip rest
linted legacies mode frames before known faults zero (Symbol.Start ∷ rest) =
    Shown (Decoded.FrameStart (frames + 1)) ∷ linted legacies Mode.First (frames + 1) (before + 1) (unless_unread (ends_at_once rest) known) faults zero rest
linted legacies mode frames before known faults zero (Symbol.Stop ∷ rest) =
    map Faulty faults ++ linted legacies mode frames (before + 1) known [] zero rest
linted legacies mode frames before known faults zero (Symbol.Header address read ack ∷ rest) =
    let header : Header = record { address = address; read = read; ack = ack } in
    let told : Told = told_at legacies mode header (behind rest) (before + 1) in
    map Shown (option_to_list told.decoded)
    ++ linted legacies told.mode frames (before + 1) (learned_of (before + 1) (behind rest) told.decoded known)
    (faults ++ header_faults legacies known (mode_at legacies mode header (behind rest)) frames (before + 1) header (behind rest) told.decoded)
    (count_behind rest) rest
linted legacies mode frames before known faults zero (symbol ∷ rest) = linted legacies mode frames (before + 1) known faults zero rest

-- what a trace tells a linter
abbrev pub trace_linted : ℕ → List Symbol → List LintLine
trace_linted legacies symbols = linted legacies Mode.Skipped 0 0 forgotten [] 0 symbols
