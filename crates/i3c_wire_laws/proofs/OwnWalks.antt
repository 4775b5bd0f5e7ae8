-- The own parts of frames, from where a code is awaited on; and rounds.
use Rattle.std.proofs.Common.{◌≡◌, ◌∙◌, ℕ, ◌==◌, Bool, true, false, List, [], ◌∷◌, ◌++◌, Option, Some, None, map, is_some, ap, refl, sym}
use Rattle.i3c_base.specs.declared.answers.Answer.{Answer}
use Rattle.i3c_base.specs.declared.datum.Datum.{Datum}
use Rattle.i3c_base.specs.declared.datum.Direction.{Direction}
use Rattle.i3c_base.specs.declared.kinds.Change.{Change}
use Rattle.i3c_base.specs.declared.kinds.Kinds.{Kinds}
use Rattle.i3c_base.specs.Cutting.{CutList}
use Rattle.i3c_base.specs.Sets.{is_in}
use Rattle.i3c_base.specs.State.{State}
use Rattle.i3c_word.specs.declared.Word.{Word}
use Rattle.i3c_word.specs.Parity.{HasOddParity}
use Rattle.i3c_frame.specs.declared.symbols.Symbol.{Symbol}
use Rattle.i3c_frame.specs.declared.symbols.Symbol.TheVariants.{Repeated, Stop, Header, LegacyWord}
use Rattle.i3c_events.specs.Words.{code_byte, length_code_byte}
use Rattle.i3c_events.specs.Wire.{IsKindsWire, IsLengthWire, IsSettingWire}
use Rattle.i3c_handoff.specs.declared.outcome.Offer.{Offer}
use Rattle.i3c_handoff.specs.Wire.{IsOfferWire}
use Rattle.i3c_entdaa.specs.declared.outcome.Round.{Round}
use Rattle.i3c_entdaa.specs.Wire.{IsRoundWire}
use Rattle.i3c_xfer.specs.declared.answers.Get.{Get as Told}
use Rattle.i3c_xfer.specs.declared.answers.Read.{Read}
use Rattle.i3c_xfer.specs.declared.answers.Write.{Write}
use Rattle.i3c_xfer.specs.Wire.{AreWritten, IsAskingWord, IsGetWire, IsReadWire, IsToldWire, IsUnansweredWire, IsWriteWire, IsWrittenWire, IsWrittenWord, answered_wire, read_words, word_of}
use Rattle.i3c_xfer.specs.Transfers.{IsReadAs, IsWrittenBy}
use Rattle.i3c_wave.specs.declared.awaited.Awaited.{Awaited}
use Rattle.i3c_wave.specs.Awaited.{awaited_behind}
use Rattle.i3c_wire_laws.specs.Wires.{AreLegacies, Leads, place_behind}
use Rattle.i3c_wire_laws.proofs.Walks.{TakesWords, behind_header, identity_behind, lead_first, legacy_behind, nothing_behind, read_behind, stop_behind, stop_there, word_next, words_behind, words_stop}

-- a code that is not that of an assignment, a header, words and a STOP
directed : (legacies : ℕ) (code : Word) (a : ℕ) (read ack : Bool) (words : List Word) → (code.byte == 7) ≡ false → is_in legacies a ≡ false
    → Leads legacies (Some Awaited.Code) (Symbol.Word code ∷ Repeated ∷ Header a read ack ∷ map Symbol.Word words ++ Stop ∷ []) None
directed legacies code a read ack words e apart =
    ap (λ b. place_behind legacies (Some (Awaited.Header b)) (Header a read ack ∷ map Symbol.Word words ++ Stop ∷ [])) e
    ∙ words_stop legacies (awaited_behind legacies false a read ack) words (words_behind legacies a read ack apart)

-- a code, a header that nobody acknowledges, and a STOP
unheard : (legacies : ℕ) (code : Word) (a : ℕ) (read : Bool) → (code.byte == 7) ≡ false
    → Leads legacies (Some Awaited.Code) (Symbol.Word code ∷ Repeated ∷ Header a read false ∷ Stop ∷ []) None
unheard legacies code a read e =
    ap (λ b. place_behind legacies (Some (Awaited.Header b)) (Header a read false ∷ Stop ∷ [])) e
    ∙ stop_behind legacies (awaited_behind legacies false a read false) (behind_header legacies a read false)

-- a number that is another code than 07
not_seven : (word : Word) (byte : ℕ) → word.byte ≡ byte → (byte == 7) ≡ false → (word.byte == 7) ≡ false
not_seven word byte e h = ap (λ b. b == 7) e ∙ h

direct_code : (change : Change) (a : ℕ) → (code_byte change (Some a) == 7) ≡ false
direct_code Change.Enable a = refl
direct_code Change.Disable a = refl

-- ENEC and DISEC
kinds_heard : (legacies : ℕ) (change : Change) (a : ℕ) (code byte : Word) (wire : List Symbol) → code.byte ≡ code_byte change (Some a) → is_in legacies a ≡ false
    → wire ≡ Symbol.Word code ∷ Repeated ∷ Header a false true ∷ Symbol.Word byte ∷ Stop ∷ [] → Leads legacies (Some Awaited.Code) wire None
kinds_heard legacies change a code byte wire e apart h =
    ap (place_behind legacies (Some Awaited.Code)) h ∙ directed legacies code a false true (byte ∷ []) (not_seven code _ e (direct_code change a)) apart

pub kinds_lead : (legacies : ℕ) (change : Change) (to : Option ℕ) (kinds : Kinds) (answer : Answer) (wire : List Symbol) → ((a : ℕ) → to ≡ Some a → is_in legacies a ≡ false)
    → IsKindsWire change to kinds answer wire → Leads legacies (Some Awaited.Code) wire None
kinds_lead legacies change None kinds answer wire apart h = ap (place_behind legacies (Some Awaited.Code)) h.4 ∙ words_stop legacies Awaited.Code (h.0 ∷ h.1 ∷ []) tt
kinds_lead legacies change (Some a) kinds (Answer.NoAnswer b) wire apart h =
    ap (place_behind legacies (Some Awaited.Code)) h.2 ∙ unheard legacies h.0 a false (not_seven h.0 _ h.1.0 (direct_code change a))
kinds_lead legacies change (Some a) kinds Answer.Done wire apart h = kinds_heard legacies change a h.0 h.1 wire h.2.0 (apart a refl) h.4
kinds_lead legacies change (Some a) kinds (Answer.Bytes bytes) wire apart h = kinds_heard legacies change a h.0 h.1 wire h.2.0 (apart a refl) h.4
kinds_lead legacies change (Some a) kinds Answer.NoEnd wire apart h = kinds_heard legacies change a h.0 h.1 wire h.2.0 (apart a refl) h.4

-- SETMWL and SETMRL
direct_length_code : (way : Direction) (a : ℕ) → (length_code_byte way (Some a) == 7) ≡ false
direct_length_code Direction.Write a = refl
direct_length_code Direction.Read a = refl

length_heard : (legacies : ℕ) (way : Direction) (a : ℕ) (code upper lower : Word) (wire : List Symbol) → code.byte ≡ length_code_byte way (Some a) → is_in legacies a ≡ false
    → wire ≡ Symbol.Word code ∷ Repeated ∷ Header a false true ∷ Symbol.Word upper ∷ Symbol.Word lower ∷ Stop ∷ [] → Leads legacies (Some Awaited.Code) wire None
length_heard legacies way a code upper lower wire e apart h =
    ap (place_behind legacies (Some Awaited.Code)) h ∙ directed legacies code a false true (upper ∷ lower ∷ []) (not_seven code _ e (direct_length_code way a)) apart

pub length_leads : (legacies : ℕ) (way : Direction) (to : Option ℕ) (most : ℕ) (answer : Answer) (wire : List Symbol) → ((a : ℕ) → to ≡ Some a → is_in legacies a ≡ false)
    → IsLengthWire way to most answer wire → Leads legacies (Some Awaited.Code) wire None
length_leads legacies way None most answer wire apart h = ap (place_behind legacies (Some Awaited.Code)) h.6 ∙ words_stop legacies Awaited.Code (h.0 ∷ h.1 ∷ h.2 ∷ []) tt
length_leads legacies way (Some a) most (Answer.NoAnswer b) wire apart h =
    ap (place_behind legacies (Some Awaited.Code)) h.2 ∙ unheard legacies h.0 a false (not_seven h.0 _ h.1.0 (direct_length_code way a))
length_leads legacies way (Some a) most Answer.Done wire apart h = length_heard legacies way a h.0 h.1 h.2 wire h.3.0 (apart a refl) h.6
length_leads legacies way (Some a) most (Answer.Bytes bytes) wire apart h = length_heard legacies way a h.0 h.1 h.2 wire h.3.0 (apart a refl) h.6
length_leads legacies way (Some a) most Answer.NoEnd wire apart h = length_heard legacies way a h.0 h.1 h.2 wire h.3.0 (apart a refl) h.6

-- SETDASA and SETNEWDA
set_heard : (legacies code a : ℕ) (word byte : Word) (wire : List Symbol) → word.byte ≡ code → (code == 7) ≡ false → is_in legacies a ≡ false
    → wire ≡ Symbol.Word word ∷ Repeated ∷ Header a false true ∷ Symbol.Word byte ∷ Stop ∷ [] → Leads legacies (Some Awaited.Code) wire None
set_heard legacies code a word byte wire e other apart h =
    ap (place_behind legacies (Some Awaited.Code)) h ∙ directed legacies word a false true (byte ∷ []) (not_seven word code e other) apart

pub setting_leads : (legacies code a to : ℕ) (answer : Answer) (wire : List Symbol) → (code == 7) ≡ false → is_in legacies a ≡ false
    → IsSettingWire code a to answer wire → Leads legacies (Some Awaited.Code) wire None
setting_leads legacies code a to (Answer.NoAnswer b) wire other apart h =
    ap (place_behind legacies (Some Awaited.Code)) h.2 ∙ unheard legacies h.0 a false (not_seven h.0 code h.1.0 other)
setting_leads legacies code a to Answer.Done wire other apart h = set_heard legacies code a h.0 h.1 wire h.2.0 other apart h.4
setting_leads legacies code a to (Answer.Bytes bytes) wire other apart h = set_heard legacies code a h.0 h.1 wire h.2.0 other apart h.4
setting_leads legacies code a to Answer.NoEnd wire other apart h = set_heard legacies code a h.0 h.1 wire h.2.0 other apart h.4

-- GETACCCR
answered_offer : (legacies a byte : ℕ) (t : Bool) (code : Word) (wire : List Symbol) → is_in legacies a ≡ false → code.byte ≡ 0x91
    → wire ≡ Symbol.Word code ∷ Repeated ∷ Header a true true ∷ Symbol.Word (record { byte = byte; t = t }) ∷ Stop ∷ [] → Leads legacies (Some Awaited.Code) wire None
answered_offer legacies a byte t code wire apart e h =
    ap (place_behind legacies (Some Awaited.Code)) h ∙ directed legacies code a true true (record { byte = byte; t = t } ∷ []) (not_seven code 0x91 e refl) apart

pub offer_leads : (legacies a : ℕ) (offer : Offer) (wire : List Symbol) → is_in legacies a ≡ false → IsOfferWire a offer wire → Leads legacies (Some Awaited.Code) wire None
offer_leads legacies a Offer.Nobody wire apart h = ap (place_behind legacies (Some Awaited.Code)) h.2 ∙ unheard legacies h.0 a true (not_seven h.0 0x91 h.1.0 refl)
offer_leads legacies a (Offer.Torn byte) wire apart h = answered_offer legacies a byte true h.0 wire apart h.1.0 h.2
offer_leads legacies a (Offer.Taken s) wire apart h = answered_offer legacies a h.0 false h.2.0 wire apart h.2.1.0 h.2.2

-- a transfer that nobody acknowledges
unanswered : (legacies a : ℕ) (read : Bool) (wire : List Symbol) → IsUnansweredWire a read wire → Leads legacies (Some Awaited.Code) wire None
unanswered legacies a read wire h =
    ap (place_behind legacies (Some Awaited.Code)) h ∙ stop_behind legacies (awaited_behind legacies false a read false) (behind_header legacies a read false)

-- a transfer that is acknowledged, by its words
answered : (legacies a : ℕ) (read : Bool) (place : Awaited) (words wire : List Symbol) → awaited_behind legacies false a read true ≡ place
    → Leads legacies (Some place) (words ++ Stop ∷ []) None → wire ≡ answered_wire a read words → Leads legacies (Some Awaited.Code) wire None
answered legacies a read place words wire e lead h =
    ap (place_behind legacies (Some Awaited.Code)) h ∙ (ap (λ p. place_behind legacies (Some p) (words ++ Stop ∷ [])) e ∙ lead)

-- bytes of this side are read as legacy words
abbrev AreLegacyWords : (Bool → ℕ → Symbol) → Type 0
AreLegacyWords word = (ninth : Bool) (byte : ℕ) → word ninth byte ≡ LegacyWord byte ninth

legacy_read : (legacies : ℕ) (side : _) (last : Bool) (bytes : List ℕ) → AreLegacyWords (word_of side) → Leads legacies (Some (Awaited.LegacyWord false)) (read_words side last bytes ++ Stop ∷ []) None
legacy_read legacies side last [] are = refl
legacy_read legacies side last (byte ∷ []) are = ap (λ s. place_behind legacies (Some (Awaited.LegacyWord false)) (s ∷ Stop ∷ [])) (are last byte)
legacy_read legacies side last (byte ∷ next ∷ more) are =
    ap (λ s. place_behind legacies (Some (Awaited.LegacyWord false)) (s ∷ read_words side last (next ∷ more) ++ Stop ∷ [])) (are true byte) ∙ legacy_read legacies side last (next ∷ more) are

-- bytes of this side are read as words with T
abbrev AreWords : (Bool → ℕ → Symbol) → Type 0
AreWords word = (ninth : Bool) (byte : ℕ) → word ninth byte ≡ Symbol.Word (record { byte = byte; t = ninth })

devices_read : (legacies : ℕ) (side : _) (last : Bool) (bytes : List ℕ) → AreWords (word_of side) → Leads legacies (Some (Awaited.Word false)) (read_words side last bytes ++ Stop ∷ []) None
devices_read legacies side last [] are = refl
devices_read legacies side last (byte ∷ []) are = ap (λ s. place_behind legacies (Some (Awaited.Word false)) (s ∷ Stop ∷ [])) (are last byte)
devices_read legacies side last (byte ∷ next ∷ more) are =
    ap (λ s. place_behind legacies (Some (Awaited.Word false)) (s ∷ read_words side last (next ∷ more) ++ Stop ∷ [])) (are true byte) ∙ devices_read legacies side last (next ∷ more) are

legacy_answered : (legacies a : ℕ) (side : _) (bytes : List ℕ) (wire : List Symbol) → wire ≡ answered_wire a true (read_words side false bytes) → is_in legacies a ≡ true
    → AreLegacyWords (word_of side) → Leads legacies (Some Awaited.Code) wire None
legacy_answered legacies a side bytes wire h there are =
    answered legacies a true (Awaited.LegacyWord false) (read_words side false bytes) wire (legacy_behind legacies a true true there) (legacy_read legacies side false bytes are) h

devices_answered : (legacies a : ℕ) (side : _) (last : Bool) (bytes : List ℕ) (wire : List Symbol) → wire ≡ answered_wire a true (read_words side last bytes) → is_in legacies a ≡ false
    → AreWords (word_of side) → Leads legacies (Some Awaited.Code) wire None
devices_answered legacies a side last bytes wire h apart are =
    answered legacies a true (Awaited.Word false) (read_words side last bytes) wire (read_behind legacies a true apart) (devices_read legacies side last bytes are) h

-- a private read
pub read_leads : (legacies : ℕ) (st : State) (a : ℕ) (cuts : CutList) (first : ℕ) (read : Read) (wire : List Symbol) → AreLegacies st.legacy legacies → IsReadAs st a cuts first read
    → IsReadWire a read wire → Leads legacies (Some Awaited.Code) wire None
read_leads legacies st a cuts first Read.Nobody wire are who h = unanswered legacies a true wire h
read_leads legacies st a cuts first (Read.Legacy bytes) wire are who h =
    let there : is_in legacies a ≡ true = are.same a ∙ ap is_some who.1 in
    search (legacy_answered, there, h)
read_leads legacies st a cuts first (Read.Ended bytes) wire are who h =
    let apart : is_in legacies a ≡ false = are.same a ∙ ap is_some who.0 in
    search (devices_answered, apart, h)
read_leads legacies st a cuts first (Read.Torn bytes) wire are who h =
    let apart : is_in legacies a ≡ false = are.same a ∙ ap is_some who.0 in
    search (devices_answered, apart, h)

-- the code of a datum is not that of an assignment
asking_code : (what : Datum) (code : Word) → IsAskingWord what code → (code.byte == 7) ≡ false
asking_code Datum.WriteLength code h = not_seven code _ h.0 refl
asking_code Datum.ReadLength code h = not_seven code _ h.0 refl
asking_code Datum.Pid code h = not_seven code _ h.0 refl
asking_code Datum.Bcr code h = not_seven code _ h.0 refl
asking_code Datum.Dcr code h = not_seven code _ h.0 refl
asking_code Datum.Status code h = not_seven code _ h.0 refl
asking_code Datum.Speed code h = not_seven code _ h.0 refl
asking_code Datum.Capabilities code h = not_seven code _ h.0 refl

-- symbols that begin with a repeated START are allowed behind a code without a list just as without one
behind_code : (legacies : ℕ) (code : Word) (rest told : List Symbol) → (code.byte == 7) ≡ false → told ≡ Repeated ∷ rest → Leads legacies (Some Awaited.Code) told None
    → Leads legacies (Some Awaited.Code) (Symbol.Word code ∷ told) None
behind_code legacies code rest told e is h =
    ap (λ symbols. place_behind legacies (Some Awaited.Code) (Symbol.Word code ∷ symbols)) is
    ∙ (ap (λ b. place_behind legacies (Some (Awaited.Header b)) rest) e ∙ (sym (ap (place_behind legacies (Some Awaited.Code)) is) ∙ h))

told_leads : (legacies : ℕ) (code : Word) (a : ℕ) (get : Told) (told : List Symbol) → (code.byte == 7) ≡ false → is_in legacies a ≡ false → IsToldWire a get told
    → Leads legacies (Some Awaited.Code) (Symbol.Word code ∷ told) None
told_leads legacies code a Told.Nobody told e apart h = behind_code legacies code _ told e h (unanswered legacies a true told h)
told_leads legacies code a (Told.Ended bytes) told e apart h = behind_code legacies code _ told e h (search (devices_answered, apart, h))
told_leads legacies code a (Told.Torn bytes) told e apart h = behind_code legacies code _ told e h (search (devices_answered, apart, h))

-- a datum that is asked for
pub get_leads : (legacies : ℕ) (what : Datum) (a : ℕ) (get : Told) (wire : List Symbol) → is_in legacies a ≡ false → IsGetWire what a get wire
    → Leads legacies (Some Awaited.Code) wire None
get_leads legacies what a get wire apart h =
    ap (place_behind legacies (Some Awaited.Code)) h.4 ∙ told_leads legacies h.0 a get h.1 (asking_code what h.0 h.2) apart h.3

-- bytes that are written to a legacy target
legacy_written : (legacies : ℕ) (side : _) (bytes : List ℕ) (words : List Symbol) → AreWritten side bytes words
    → ((byte : ℕ) (symbol : Symbol) → IsWrittenWord side byte symbol → symbol ≡ LegacyWord byte true) → Leads legacies (Some (Awaited.LegacyWord false)) (words ++ Stop ∷ []) None
legacy_written legacies side [] [] h are = refl
legacy_written legacies side (byte ∷ bytes) (symbol ∷ words) h are =
    ap (λ s. place_behind legacies (Some (Awaited.LegacyWord false)) (s ∷ words ++ Stop ∷ [])) (are byte symbol h.0) ∙ legacy_written legacies side bytes words h.1 are
legacy_written legacies side [] (symbol ∷ words) h are = absurd h
legacy_written legacies side (byte ∷ bytes) [] h are = absurd h

-- a word with odd parity carries the byte
abbrev IsWordOf : ℕ → Symbol → Type 0
IsWordOf byte symbol = (word : Word) × (word.byte ≡ byte) × HasOddParity word × (symbol ≡ Symbol.Word word)

-- a write to devices
devices_written : (legacies : ℕ) (place : Awaited) (side : _) (bytes : List ℕ) (words : List Symbol) → TakesWords place
    → AreWritten side bytes words → ((byte : ℕ) (symbol : Symbol) → IsWrittenWord side byte symbol → IsWordOf byte symbol)
    → Leads legacies (Some place) (words ++ Stop ∷ []) None
devices_written legacies place side [] [] takes h are = stop_there legacies place takes
devices_written legacies place side (byte ∷ bytes) (symbol ∷ words) takes h are =
    let w = are byte symbol h.0 in
    let n = word_next legacies place w.0 takes in
    ap (λ s. place_behind legacies (Some place) (s ∷ words ++ Stop ∷ [])) w.3
    ∙ lead_first legacies (Some place) (Some n.0) None (Symbol.Word w.0) (words ++ Stop ∷ []) n.1 (devices_written legacies n.0 side bytes words n.2 h.1 are)
devices_written legacies place side [] (symbol ∷ words) takes h are = absurd h
devices_written legacies place side (byte ∷ bytes) [] takes h are = absurd h

legacy_wrote : (legacies a : ℕ) (side : _) (bytes : List ℕ) (wire : List Symbol) → IsWrittenWire a side bytes wire → is_in legacies a ≡ true
    → ((byte : ℕ) (symbol : Symbol) → IsWrittenWord side byte symbol → symbol ≡ LegacyWord byte true) → Leads legacies (Some Awaited.Code) wire None
legacy_wrote legacies a side bytes wire h there are =
    answered legacies a false (Awaited.LegacyWord false) h.0 wire (legacy_behind legacies a false true there) (legacy_written legacies side bytes h.0 h.1 are) h.2

devices_wrote : (legacies a : ℕ) (side : _) (bytes : List ℕ) (wire : List Symbol) → IsWrittenWire a side bytes wire → is_in legacies a ≡ false
    → ((byte : ℕ) (symbol : Symbol) → IsWrittenWord side byte symbol → IsWordOf byte symbol) → Leads legacies (Some Awaited.Code) wire None
devices_wrote legacies a side bytes wire h apart are =
    let place = awaited_behind legacies false a false true in
    answered legacies a false place h.0 wire refl (devices_written legacies place side bytes h.0 (words_behind legacies a false true apart) h.1 are) h.2

-- a private write
pub write_leads : (legacies : ℕ) (st : State) (a : ℕ) (bytes : List ℕ) (write : Write) (wire : List Symbol) → AreLegacies st.legacy legacies → IsWrittenBy st a write
    → IsWriteWire a bytes write wire → Leads legacies (Some Awaited.Code) wire None
write_leads legacies st a bytes Write.Nobody wire are who h = unanswered legacies a false wire h
write_leads legacies st a bytes Write.Legacy wire are who h =
    let there : is_in legacies a ≡ true = are.same a ∙ ap is_some who.1 in
    search (legacy_wrote, there, h)
write_leads legacies st a bytes Write.Devices wire are who h =
    let apart : is_in legacies a ≡ false = are.same a ∙ ap is_some who in
    search (devices_wrote, apart, h)

-- a round, from one word of an assignment to the next
pub round_leads : (legacies : ℕ) (round : Round) (wire : List Symbol) → is_in legacies 126 ≡ false → IsRoundWire round wire
    → Leads legacies (Some (Awaited.Word true)) wire (Some (Awaited.Word true))
round_leads legacies Round.NoAddress wire none h = ap (place_behind legacies (Some (Awaited.Word true))) h
round_leads legacies Round.Done wire none h = ap (place_behind legacies (Some (Awaited.Word true))) h ∙ ap (λ p. Some (Some p)) (nothing_behind legacies none)
round_leads legacies (Round.Nobody bits a) wire none h =
    ap (place_behind legacies (Some (Awaited.Word true))) h.2
    ∙ ap (λ p. place_behind legacies (Some p) (Symbol.Identity bits ∷ Symbol.AddressByte h.0 false ∷ [])) (identity_behind legacies none)
round_leads legacies (Round.Assigned bits a i) wire none h =
    ap (place_behind legacies (Some (Awaited.Word true))) h.2
    ∙ ap (λ p. place_behind legacies (Some p) (Symbol.Identity bits ∷ Symbol.AddressByte h.0 true ∷ [])) (identity_behind legacies none)
