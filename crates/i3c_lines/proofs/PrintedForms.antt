-- A printed command has its own form.
use Rattle.std.proofs.Common.{◌≡◌, ◌∙◌, ℕ, ◌^◌, ◌<◌, ◌≤◌, Bool, true, false, inl, inr, List, [], ◌∷◌, ◌++◌, Option, Some, None, All, bit_and, codes, length, map, take, ap, arith, refl, sym, subst}
use Rattle.std.proofs.lemmas.List.{take_all}
use Rattle.std.proofs.lemmas.Nat.{and_le_r}
use Rattle.std.specs.Fmt.{decimal}
use Rattle.i3c_base.specs.declared.datum.Datum.{Datum}
use Rattle.i3c_base.specs.declared.datum.Direction.{Direction}
use Rattle.i3c_base.specs.declared.device.Setup.{Setup}
use Rattle.i3c_base.specs.declared.identity.Identity.{Identity}
use Rattle.i3c_base.specs.declared.kinds.Kinds.{Kinds}
use Rattle.i3c_base.specs.declared.requests.Fixed.{Fixed}
use Rattle.i3c_base.specs.declared.requests.Verdict.{Verdict}
use Rattle.i3c_base.specs.declared.requests.Verdict.TheVariants.{Accept, Refuse}
use Rattle.i3c_base.specs.Numbers.{IsInRange}
use Rattle.i3c_step.specs.declared.events.Command.{Command as Frame}
use Rattle.i3c_lines.specs.declared.command.Command.{Command}
use Rattle.i3c_lines.specs.declared.names.Name.{Name}
use Rattle.i3c_lines.specs.declared.sent.Sent.{Sent}
use Rattle.i3c_lines.specs.Forms.{AreAddress, AreAddresses, AreByte, AreCount, AreDeclared, AreDevice, AreKinds, AreLength, ArePlace, AreWritten, IsCommand, IsForm, IsFrameForm, IsSentForm, NameEach, tokens_of, willing_tokens}
use Rattle.i3c_lines.specs.Policies.{IsAlone, IsPolicy, each_kind}
use Rattle.i3c_text.specs.Hex.{byte_text, bytes_text, hex_text}
use Rattle.i3c_lines.specs.Data.{datum_token, length_token}
use Rattle.i3c_lines.specs.Naming.{letters}
use Rattle.i3c_lines.specs.Printing.{AreKnown, FrameHasLine, HasLine, IsWithin, IsNamable, SentHasLine, but_tokens, byte_tokens, command_text, command_tokens, device_tokens, frame_tokens, identity_tokens, sent_tokens, spaced, verdicts_tokens, written_tokens}
use Rattle.i3c_lines.proofs.Meanings.{as_meant}
use Rattle.i3c_lines.proofs.PrintedLines.{Apart, byte_writes, decimal_writes, pairs_are, pairs_length, pid_writes, plain, spaced_length, tokens_spaced, total, place_writes}
use Rattle.i3c_lines.proofs.SplitLaws.{HasNoSpace, hex_no_space, name_no_space, pairs_no_space}

byte_apart : (byte : ℕ) → byte < 256 → HasNoSpace (byte_text byte)
byte_apart byte h = hex_no_space (byte_text byte) (byte_writes byte h).0.1

-- tokens that have a form and are tokens of a line, with at most `most` bytes in all
abbrev Fit : Type 0 → List (List ℕ) → ℕ → Type 0
Fit Form tokens most = Form × Apart tokens × (total tokens ≤ most)

byte_fits : (byte : Option ℕ) → IsWithin 256 byte → Fit (AreByte (byte_tokens byte) byte) (byte_tokens byte) 3
byte_fits None h = (refl, tt, omega arith)
byte_fits (Some byte) h = ((byte_text byte, refl, byte_writes byte h), (byte_apart byte h, tt), omega arith)

address_fits : (to : Option ℕ) → IsWithin 128 to → Fit (AreAddress (byte_tokens to) to) (byte_tokens to) 3
address_fits None h = (refl, tt, omega arith)
address_fits (Some to) h = let small : to < 256 = omega (arith, h) in ((byte_text to, refl, (byte_writes to small, h)), (byte_apart to small, tt), omega arith)

written_fits : (bytes : List ℕ) → length bytes ≤ 17 → All (λ byte. byte < 256) bytes → Fit (AreWritten (written_tokens bytes) bytes) (written_tokens bytes) 35
written_fits [] few all = (inl (refl, refl), tt, omega arith)
written_fits (byte ∷ bytes) few all =
    let pairs = pairs_are (byte ∷ bytes) all in
    let long = pairs_length (byte ∷ bytes) in
    let kept : byte ∷ bytes ≡ take 17 (byte ∷ bytes) = sym (take_all 17 (byte ∷ bytes) few) in (
      inr (bytes_text (byte ∷ bytes), refl, omega (arith, long), pairs.0, kept ∙ ap (take 17) (sym pairs.1)),
      (pairs_no_space (bytes_text (byte ∷ bytes)) pairs.0, tt),
      omega (arith, long, few),
    )

willing_fits : (willing : Bool) → Apart (willing_tokens willing) × (total (willing_tokens willing) ≤ 8)
willing_fits true = (tt, omega arith)
willing_fits false = ((plain (codes "decline") tt, tt), omega arith)

device_fits : (name : Name) (setup : Setup) → IsNamable name → IsInRange setup.identity → Fit (AreDevice (device_tokens name setup) name setup) (device_tokens name setup) 44
device_fits name setup is h =
    let willing = willing_fits setup.willing in
    let pid = pid_writes setup.identity.pid h.0 in
    let bcr = byte_writes setup.identity.bcr.0 h.1 in
    let dcr = byte_writes setup.identity.dcr.0 h.2 in (
      (letters name, hex_text 12 setup.identity.pid, byte_text setup.identity.bcr.0, byte_text setup.identity.dcr.0, refl, (is, refl), (pid, bcr, dcr)),
      (name_no_space (letters name) is, (hex_no_space (hex_text 12 setup.identity.pid) pid.0.1, (byte_apart setup.identity.bcr.0 h.1, (byte_apart setup.identity.dcr.0 h.2, willing.0)))),
      omega (arith, is.1, pid.0.0, willing.1),
    )

declared_fits : (address : ℕ) (identity : Identity) → address < 128 → IsInRange identity → Fit (AreDeclared (byte_text address ∷ identity_tokens identity) address identity) (byte_text address ∷ identity_tokens identity) 22
declared_fits address identity h within =
    let small : address < 256 = omega (arith, h) in
    let pid = pid_writes identity.pid within.0 in
    let bcr = byte_writes identity.bcr.0 within.1 in
    let dcr = byte_writes identity.dcr.0 within.2 in (
      (byte_text address, hex_text 12 identity.pid, byte_text identity.bcr.0, byte_text identity.dcr.0, refl, (byte_writes address small, h), (pid, bcr, dcr)),
      (byte_apart address small, (hex_no_space (hex_text 12 identity.pid) pid.0.1, (byte_apart identity.bcr.0 within.1, (byte_apart identity.dcr.0 within.2, tt)))),
      omega (arith, pid.0.0),
    )

addresses_fit : (at to : ℕ) → at < 128 → to < 128 → Fit (AreAddresses (byte_text at ∷ byte_text to ∷ []) at to) (byte_text at ∷ byte_text to ∷ []) 6
addresses_fit at to h h' =
    let small : at < 256 = omega (arith, h) in
    let small' : to < 256 = omega (arith, h') in
    ((byte_text at, byte_text to, refl, (byte_writes at small, h), (byte_writes to small', h')), (byte_apart at small, (byte_apart to small', tt)), omega arith)

kinds_fit : (to : Option ℕ) (kinds : Kinds) → AreKnown kinds → IsWithin 128 to → Fit (AreKinds (byte_text kinds.0 ∷ byte_tokens to) to kinds) (byte_text kinds.0 ∷ byte_tokens to) 6
kinds_fit to kinds known h =
    let small : kinds.0 < 256 = omega (arith, known, and_le_r kinds.0 11) in
    let is = byte_writes kinds.0 small in
    let at = address_fits to h in (
      (byte_text kinds.0, byte_tokens to, refl, (is.0, known ∙ ap (λ n. bit_and n 11) is.1), at.0),
      (byte_apart kinds.0 small, at.1),
      omega (arith, at.2),
    )

alone_fits : (token : List ℕ) (policy : Fixed) → IsAlone token policy → HasNoSpace token → length token ≤ 5 → Fit (IsPolicy (token ∷ []) policy) (token ∷ []) 17
alone_fits token policy is apart short = (inl (token, refl, is), (apart, tt), omega (arith, short))

all_apart : HasNoSpace (codes "joins") × HasNoSpace (codes "roles") × HasNoSpace (codes "interrupts")
all_apart = (plain (codes "joins") tt, plain (codes "roles") tt, plain (codes "interrupts") tt)

verdicts_fit : (join role interrupt : Verdict) → let policy : Fixed = record { join = join; role = role; interrupt = interrupt } in Fit (IsPolicy (verdicts_tokens join role interrupt) policy) (verdicts_tokens join role interrupt) 17
verdicts_fit Accept Accept Accept = alone_fits (codes "all") (each_kind Accept) (inl (refl, refl)) (plain (codes "all") tt) (omega arith)
verdicts_fit Accept Accept Refuse = (inr (omega arith, (_, inl (refl, refl, refl), (_, inr (inl (refl, refl, refl)), refl))), (all_apart.0, (all_apart.1, tt)), omega arith)
verdicts_fit Accept Refuse Accept = (inr (omega arith, (_, inl (refl, refl, refl), (_, inr (inr (refl, refl, refl)), refl))), (all_apart.0, (all_apart.2, tt)), omega arith)
verdicts_fit Accept Refuse Refuse = (inr (omega arith, (_, inl (refl, refl, refl), refl)), (all_apart.0, tt), omega arith)
verdicts_fit Refuse Accept Accept = (inr (omega arith, (_, inr (inl (refl, refl, refl)), (_, inr (inr (refl, refl, refl)), refl))), (all_apart.1, (all_apart.2, tt)), omega arith)
verdicts_fit Refuse Accept Refuse = (inr (omega arith, (_, inr (inl (refl, refl, refl)), refl)), (all_apart.1, tt), omega arith)
verdicts_fit Refuse Refuse Accept = (inr (omega arith, (_, inr (inr (refl, refl, refl)), refl)), (all_apart.2, tt), omega arith)
verdicts_fit Refuse Refuse Refuse = alone_fits (codes "none") (each_kind Refuse) (inr (refl, refl)) (plain (codes "none") tt) (omega arith)

named_fits : (name : Name) → IsNamable name → Apart (letters name ∷ []) × (total (letters name ∷ []) ≤ 17)
named_fits name is = ((name_no_space (letters name) is, tt), omega (arith, is.1))

datum_fits : (what : Datum) → HasNoSpace (datum_token what) × (length (datum_token what) ≤ 9)
datum_fits Datum.Pid = (plain (codes "getpid") tt, omega arith)
datum_fits Datum.Bcr = (plain (codes "getbcr") tt, omega arith)
datum_fits Datum.Dcr = (plain (codes "getdcr") tt, omega arith)
datum_fits Datum.Status = (plain (codes "getstatus") tt, omega arith)
datum_fits Datum.WriteLength = (plain (codes "getmwl") tt, omega arith)
datum_fits Datum.ReadLength = (plain (codes "getmrl") tt, omega arith)
datum_fits Datum.Speed = (plain (codes "getmxds") tt, omega arith)
datum_fits Datum.Capabilities = (plain (codes "getcaps") tt, omega arith)

lengths_fit : (way : Direction) → HasNoSpace (length_token way) × (length (length_token way) ≤ 6)
lengths_fit Direction.Write = (plain (codes "setmwl") tt, omega arith)
lengths_fit Direction.Read = (plain (codes "setmrl") tt, omega arith)

length_fits : (most : ℕ) (to : Option ℕ) → 0 < most → most ≤ 16 → IsWithin 128 to → Fit (AreLength (decimal most ∷ byte_tokens to) most to) (decimal most ∷ byte_tokens to) 9
length_fits most to some few h =
    let digits = decimal_writes most (omega (arith, few)) in
    let at = address_fits to h in
    ((decimal most, byte_tokens to, refl, ((digits.0, some), few), at.0), (digits.1, at.1), omega (arith, digits.2, at.2))

count_fits : (count : ℕ) → 0 < count → count < 2 ^ 16 → Fit (AreCount (decimal count ∷ []) count) (decimal count ∷ []) 6
count_fits count some few =
    let digits = decimal_writes count (omega (arith, few)) in
    ((decimal count, refl, (digits.0, some)), (digits.1, tt), omega (arith, digits.2))

place_fits : (place : ℕ) → 0 < place → place < 2 ^ 64 → Fit (ArePlace (decimal place ∷ []) place) (decimal place ∷ []) 21
place_fits place some few =
    let digits = place_writes place some few in
    ((decimal place, refl, digits.0), (digits.1, tt), omega (arith, digits.2))

-- names have no spaces
names_apart : (names : List Name) (tokens : List (List ℕ)) (old : List Name) → NameEach tokens old names → Apart tokens
names_apart names [] old are = tt
names_apart names (token ∷ tokens) old (name, is, once, are) = (name_no_space token is.0, names_apart names tokens (old ++ name ∷ []) are)

both_apart : (tokens more : List (List ℕ)) → Apart tokens → Apart more → Apart (tokens ++ more)
both_apart [] more first then = then
both_apart (token ∷ tokens) more first then = (first.0, both_apart tokens more first.1 then)

-- a command's tokens have its form, none has a space, and they are short
abbrev Prints : Command → Type 0
Prints command = Fit (IsForm (command_tokens command) command) (command_tokens command) 257

-- a frame's line is shorter, so that `as NAME` has room in front of it
frame_prints : (frame : Frame) → FrameHasLine frame → Fit (IsFrameForm (frame_tokens frame) frame) (frame_tokens frame) 64
frame_prints Frame.Serve h = (refl, (plain (codes "serve") tt, tt), omega arith)
frame_prints (Frame.Enec to kinds) h = let fit = kinds_fit to kinds h.0 h.1 in ((byte_text kinds.0 ∷ byte_tokens to, refl, fit.0), (plain (codes "enec") tt, fit.1), omega (arith, fit.2))
frame_prints (Frame.Disec to kinds) h = let fit = kinds_fit to kinds h.0 h.1 in ((byte_text kinds.0 ∷ byte_tokens to, refl, fit.0), (plain (codes "disec") tt, fit.1), omega (arith, fit.2))
frame_prints Frame.Reset h = (refl, (plain (codes "reset") tt, tt), omega arith)
frame_prints Frame.SendList h = (refl, (plain (codes "list") tt, tt), omega arith)
frame_prints (Frame.ReadFrom at) h = let small : at < 256 = omega (arith, h) in ((byte_text at, refl, (byte_writes at small, h)), (plain (codes "read") tt, (byte_apart at small, tt)), omega arith)
frame_prints (Frame.WriteTo at bytes) h =
    let small : at < 256 = omega (arith, h.0) in
    let fit = written_fits bytes.items h.1 h.2 in
    ((byte_text at, written_tokens bytes.items, refl, (byte_writes at small, h.0), fit.0), (plain (codes "write") tt, (byte_apart at small, fit.1)), omega (arith, fit.2))
frame_prints (Frame.SetStatic at to) h = let fit = addresses_fit at to h.0 h.1 in ((byte_text at ∷ byte_text to ∷ [], refl, fit.0), (plain (codes "setdasa") tt, fit.1), omega (arith, fit.2))
frame_prints (Frame.SetNew at to) h = let fit = addresses_fit at to h.0 h.1 in ((byte_text at ∷ byte_text to ∷ [], refl, fit.0), (plain (codes "setnewda") tt, fit.1), omega (arith, fit.2))
frame_prints (Frame.Get what at) h =
    let small : at < 256 = omega (arith, h) in
    let fit = datum_fits what in
    ((byte_text at, refl, (byte_writes at small, h)), (fit.0, (byte_apart at small, tt)), omega (arith, fit.1))
frame_prints (Frame.SetLength way most to) h =
    let token = lengths_fit way in
    let fit = length_fits most to h.0 h.1 h.2 in
    ((decimal most ∷ byte_tokens to, refl, fit.0), (token.0, fit.1), omega (arith, token.1, fit.2))

pub sent_prints : (sent : Sent) → SentHasLine sent → Fit (IsSentForm (sent_tokens sent) sent) (sent_tokens sent) 64
sent_prints (Sent.Frame frame) h = frame_prints frame h
sent_prints (Sent.HandOver to) h = let small : to < 256 = omega (arith, h) in ((byte_text to, refl, (byte_writes to small, h)), (plain (codes "handover") tt, (byte_apart to small, tt)), omega arith)
sent_prints Sent.Open h = (refl, (plain (codes "open") tt, tt), omega arith)
sent_prints Sent.Round h = (refl, (plain (codes "round") tt, tt), omega arith)
sent_prints Sent.End h = (refl, (plain (codes "end") tt, tt), omega arith)
sent_prints Sent.Daa h = (refl, (plain (codes "daa") tt, tt), omega arith)

alone_prints : (sent : Sent) → SentHasLine sent → Fit (IsSentForm (sent_tokens sent) sent) (sent_tokens sent) 257
alone_prints sent h = let fit = sent_prints sent h in (fit.0, fit.1, omega (arith, fit.2))

prints : (command : Command) → HasLine command → Prints command
prints (Command.Legacy name address lvr) h =
    let small : address < 256 = omega (arith, h.1) in
    let fit = named_fits name h.0 in (
      (letters name, byte_text address, byte_text lvr.0, refl, (h.0, refl), (byte_writes address small, h.1), byte_writes lvr.0 h.2),
      (plain (codes "legacy") tt, (fit.0.0, (byte_apart address small, (byte_apart lvr.0 h.2, tt)))),
      omega (arith, fit.1),
    )
prints (Command.Declare address identity) h =
    let fit = declared_fits address identity h.0 h.1 in ((byte_text address ∷ identity_tokens identity, refl, fit.0), (plain (codes "declare") tt, fit.1), omega (arith, fit.2))
prints (Command.Main name setup) h = let fit = device_fits name setup h.0 h.1 in ((device_tokens name setup, refl, fit.0), (plain (codes "main") tt, fit.1), omega (arith, fit.2))
prints (Command.Attach name setup) h = let fit = device_fits name setup h.0 h.1 in ((device_tokens name setup, refl, fit.0), (plain (codes "attach") tt, fit.1), omega (arith, fit.2))
prints (Command.DropOff name) h = let fit = named_fits name h in ((letters name, refl, (h, refl)), (plain (codes "drop") tt, fit.0), omega (arith, fit.1))
prints (Command.Raise name byte) h =
    let fit = named_fits name h.0 in
    let rest = byte_fits byte h.1 in
    ((letters name, byte_tokens byte, refl, (h.0, refl), rest.0), (plain (codes "raise") tt, (fit.0.0, rest.1)), omega (arith, fit.1, rest.2))
prints (Command.AskJoin name) h = let fit = named_fits name h in ((letters name, refl, (h, refl)), (plain (codes "ask-join") tt, fit.0), omega (arith, fit.1))
prints (Command.AskRole name) h = let fit = named_fits name h in ((letters name, refl, (h, refl)), (plain (codes "ask-role") tt, fit.0), omega (arith, fit.1))
prints (Command.Frame frame) h = alone_prints (Sent.Frame frame) h
prints (Command.HandOver to) h = alone_prints (Sent.HandOver to) h
prints Command.Open h = alone_prints Sent.Open h
prints Command.Round h = alone_prints Sent.Round h
prints Command.End h = alone_prints Sent.End h
prints Command.Daa h = alone_prints Sent.Daa h
prints (Command.As name sent) h =
    let named = named_fits name h.0 in
    let fit = sent_prints sent h.1 in
    ((letters name, sent_tokens sent, refl, (h.0, refl), fit.0), (plain (codes "as") tt, (named.0.0, fit.1)), omega (arith, named.1, fit.2))
prints (Command.Policy policy) h =
    let fit = verdicts_fit policy.join policy.role policy.interrupt in ((verdicts_tokens policy.join policy.role policy.interrupt, refl, fit.0), (plain (codes "policy") tt, fit.1), omega (arith, fit.2))
prints (Command.PolicyBut kinds but) h =
    let fit = verdicts_fit kinds.join kinds.role kinds.interrupt in
    let tokens = but_tokens kinds but.items in
    let long = spaced_length (codes "policy") tokens in (
      (tokens, refl, (verdicts_tokens kinds.join kinds.role kinds.interrupt, map letters but.items, refl, fit.0, h.0, h.1)),
      (plain (codes "policy") tt, both_apart (verdicts_tokens kinds.join kinds.role kinds.interrupt) (codes "but" ∷ map letters but.items) fit.1 (plain (codes "but") tt, names_apart but.items (map letters but.items) [] h.1.0)),
      omega (arith, long, h.2),
    )
prints (Command.Cut name bit) h =
    let fit = named_fits name h.0 in
    let digits = decimal_writes bit (omega (arith, h.1)) in
    ((letters name, decimal bit, refl, (h.0, refl), digits.0), (plain (codes "cut") tt, (fit.0.0, (digits.1, tt))), omega (arith, fit.1, digits.2))
prints Command.Show h = (refl, (plain (codes "show") tt, tt), omega arith)
prints Command.ShowAll h = (refl, (plain (codes "show") tt, (plain (codes "all") tt, tt)), omega arith)
prints (Command.ShowFrom first) h = let fit = place_fits first h.0 h.1 in ((decimal first ∷ [], refl, fit.0), (plain (codes "show") tt, fit.1), omega (arith, fit.2))
prints (Command.Forget last) h = let fit = place_fits last h.0 h.1 in ((decimal last ∷ [], refl, fit.0), (plain (codes "forget") tt, fit.1), omega (arith, fit.2))
prints Command.Symbols h = (refl, (plain (codes "symbols") tt, tt), omega arith)
prints (Command.Frames count) h = let fit = count_fits count h.0 h.1 in ((decimal count ∷ [], refl, fit.0), (plain (codes "frames") tt, fit.1), omega (arith, fit.2))

-- tokens that are apart are those of their line, and this is short
read_again : (tokens : List (List ℕ)) → Apart tokens → total tokens ≤ 257 → (0 < length tokens) → (tokens_of (spaced tokens) ≡ tokens) × (length (spaced tokens) ≤ 256)
read_again [] apart short some = absurd (omega (arith, some))
read_again (token ∷ tokens) apart short some = let long = spaced_length token tokens in (tokens_spaced token tokens apart.0 apart.1, omega (arith, long, short))

letter : List (List ℕ) → ℕ
letter [] = 0
letter ([] ∷ tokens) = 0
letter ((byte ∷ token) ∷ tokens) = byte

-- no tokens are no command's
no_tokens : (command : Command) → IsForm [] command → ⊥
unfolding letter
no_tokens command form = omega (arith, ap letter (as_meant [] command form))

some_tokens : (tokens : List (List ℕ)) (command : Command) → IsForm tokens command → 0 < length tokens
some_tokens tokens command form = elim tokens as (λ ws. IsForm ws command → 0 < length ws) [ [] ↦ λ none. absurd (no_tokens command none) | token ∷ more ↦ λ _. omega arith ] form

-- a printed command is read as itself
pub printed_is_read : (command : Command) → HasLine command → IsCommand (command_text command) command
printed_is_read command h =
    let fit = prints command h in
    let again = read_again (command_tokens command) fit.1 fit.2 (some_tokens (command_tokens command) command fit.0) in
    (again.1, subst (λ ws. IsForm ws command) (sym again.0) fit.0)
