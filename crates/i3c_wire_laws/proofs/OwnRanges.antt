-- The numbers in the own parts of frames, and in rounds.
use Rattle.std.proofs.lemmas.List.Elements.{All-head, All-tail}
use Rattle.std.proofs.Common.{◌≡◌, ℕ, ◌*◌, ◌/◌, ◌<◌, ◌≤◌, ◌^◌, Bool, true, false, List, [], ◌∷◌, ◌++◌, All, map, Option, Some, None, arith, refl, sym, subst}
use Rattle.std.specs.Prelude.{⊤}
use Rattle.i3c_base.specs.declared.answers.Answer.{Answer}
use Rattle.i3c_base.specs.declared.datum.Datum.{Datum}
use Rattle.i3c_base.specs.declared.datum.Direction.{Direction}
use Rattle.i3c_base.specs.declared.kinds.Change.{Change}
use Rattle.i3c_base.specs.declared.kinds.Kinds.{Kinds}
use Rattle.i3c_base.specs.Numbers.{kind_set}
use Rattle.i3c_word.specs.declared.Word.{Word}
use Rattle.i3c_word.specs.Parity.{HasOddParity, IsAddressByte, bit_of}
use Rattle.i3c_frame.specs.declared.symbols.Symbol.{Symbol}
use Rattle.i3c_frame.specs.declared.symbols.Symbol.TheVariants.{Repeated, Stop, Header, LegacyWord}
use Rattle.i3c_frame.specs.Texts.{IsInRange}
use Rattle.i3c_events.specs.Words.{code_byte, kinds_byte, length_code_byte}
use Rattle.i3c_events.specs.Wire.{IsKindsWire, IsLengthWire, IsSettingWire}
use Rattle.i3c_handoff.specs.declared.outcome.Offer.{Offer}
use Rattle.i3c_handoff.specs.Wire.{IsOfferWire}
use Rattle.i3c_entdaa.specs.declared.outcome.Round.{Round}
use Rattle.i3c_entdaa.specs.Wire.{IsRoundWire}
use Rattle.i3c_xfer.specs.declared.answers.Get.{Get as Told}
use Rattle.i3c_xfer.specs.declared.answers.Read.{Read}
use Rattle.i3c_xfer.specs.declared.answers.Write.{Write}
use Rattle.i3c_xfer.specs.Wire.{AreWritten, IsAskingWord, IsGetWire, IsReadWire, IsToldWire, IsWriteWire, IsWrittenWire, IsWrittenWord, answered_wire, read_words, word_of}
use Rattle.i3c_wire_laws.specs.Fitting.{IsByte}

-- the numbers of each symbol fit, one by one
abbrev pub AreInRange : List Symbol → Type 0
AreInRange [] = ⊤
AreInRange (symbol ∷ rest) = IsInRange symbol × AreInRange rest

-- the numbers of symbols behind others fit
pub ranges_on : (first rest : List Symbol) → AreInRange first → AreInRange rest → AreInRange (first ++ rest)
ranges_on [] rest h k = k
ranges_on (symbol ∷ first) rest h k = (h.0, ranges_on first rest h.1 k)

-- each number is a byte, one by one
abbrev pub AreBytes : List ℕ → Type 0
AreBytes [] = ⊤
AreBytes (byte ∷ rest) = IsByte byte × AreBytes rest

pub bytes_from : (bytes : List ℕ) → All IsByte bytes → AreBytes bytes
bytes_from [] h = tt
bytes_from (byte ∷ rest) h = (All-head IsByte byte rest h, bytes_from rest (All-tail IsByte byte rest h))

pub bytes_on : (first rest : List ℕ) → AreBytes first → AreBytes rest → AreBytes (first ++ rest)
bytes_on [] rest h k = k
bytes_on (byte ∷ first) rest h k = (h.0, bytes_on first rest h.1 k)

-- words that carry bytes
pub words_fit : (words : List Word) (bytes : List ℕ) → map (λ (word : Word). word.byte) words ≡ bytes → AreBytes bytes → AreInRange (map Symbol.Word words)
words_fit words bytes e h = go words (subst AreBytes (sym e) h)
  where
    go : (words : List Word) → AreBytes (map (λ (word : Word). word.byte) words) → AreInRange (map Symbol.Word words)
    go [] h = tt
    go (word ∷ rest) h = (h.0, go rest h.1)

-- a word of a byte
word_fits : (word : Word) (byte : ℕ) → word.byte ≡ byte → IsByte byte → IsByte word.byte
word_fits word byte e h = subst IsByte (sym e) h

bit_small : (b : Bool) → bit_of b ≤ 1
bit_small true = omega arith
bit_small false = omega arith

kinds_small : (kinds : Kinds) → IsByte (kinds_byte (kind_set kinds))
kinds_small kinds = omega (arith, bit_small (kind_set kinds).interrupt, bit_small (kind_set kinds).role, bit_small (kind_set kinds).join)

code_small : (change : Change) (to : Option ℕ) → IsByte (code_byte change to)
code_small Change.Enable None = omega arith
code_small Change.Disable None = omega arith
code_small Change.Enable (Some a) = omega arith
code_small Change.Disable (Some a) = omega arith

-- ENEC and DISEC
kinds_heard : (change : Change) (a : ℕ) (kinds : Kinds) (code byte : Word) (wire : List Symbol) → a < 128 → code.byte ≡ code_byte change (Some a) → byte.byte ≡ kinds_byte (kind_set kinds)
    → wire ≡ Symbol.Word code ∷ Repeated ∷ Header a false true ∷ Symbol.Word byte ∷ Stop ∷ [] → AreInRange wire
kinds_heard change a kinds code byte wire low e f h =
    subst AreInRange (sym h) (word_fits code _ e (code_small change (Some a)), (tt, (low, (word_fits byte _ f (kinds_small kinds), (tt, tt)))))

pub kinds_fit : (change : Change) (to : Option ℕ) (kinds : Kinds) (answer : Answer) (wire : List Symbol) → ((a : ℕ) → to ≡ Some a → a < 128) → IsKindsWire change to kinds answer wire → AreInRange wire
kinds_fit change None kinds answer wire low h =
    subst AreInRange (sym h.4) (word_fits h.0 _ h.2.0 (code_small change None), (word_fits h.1 _ h.3.0 (kinds_small kinds), (tt, tt)))
kinds_fit change (Some a) kinds (Answer.NoAnswer b) wire low h = subst AreInRange (sym h.2) (word_fits h.0 _ h.1.0 (code_small change (Some a)), (tt, (low a refl, (tt, tt))))
kinds_fit change (Some a) kinds Answer.Done wire low h = kinds_heard change a kinds h.0 h.1 wire (low a refl) h.2.0 h.3.0 h.4
kinds_fit change (Some a) kinds (Answer.Bytes bytes) wire low h = kinds_heard change a kinds h.0 h.1 wire (low a refl) h.2.0 h.3.0 h.4
kinds_fit change (Some a) kinds Answer.NoEnd wire low h = kinds_heard change a kinds h.0 h.1 wire (low a refl) h.2.0 h.3.0 h.4

-- SETMWL and SETMRL
length_code_small : (way : Direction) (to : Option ℕ) → IsByte (length_code_byte way to)
length_code_small Direction.Write None = omega arith
length_code_small Direction.Read None = omega arith
length_code_small Direction.Write (Some a) = omega arith
length_code_small Direction.Read (Some a) = omega arith

length_heard : (way : Direction) (a most : ℕ) (code upper lower : Word) (wire : List Symbol) → a < 128 → IsByte most → code.byte ≡ length_code_byte way (Some a) → upper.byte ≡ 0 → lower.byte ≡ most
    → wire ≡ Symbol.Word code ∷ Repeated ∷ Header a false true ∷ Symbol.Word upper ∷ Symbol.Word lower ∷ Stop ∷ [] → AreInRange wire
length_heard way a most code upper lower wire low small e f g h =
    let high = word_fits upper 0 f (omega arith) in
    subst AreInRange (sym h) (word_fits code _ e (length_code_small way (Some a)), (tt, (low, (high, (word_fits lower most g small, (tt, tt))))))

pub length_fits : (way : Direction) (to : Option ℕ) (most : ℕ) (answer : Answer) (wire : List Symbol) → ((a : ℕ) → to ≡ Some a → a < 128) → IsByte most → IsLengthWire way to most answer wire → AreInRange wire
length_fits way None most answer wire low small h =
    let high = word_fits h.1 0 h.4.0 (omega arith) in
    subst AreInRange (sym h.6) (word_fits h.0 _ h.3.0 (length_code_small way None), (high, (word_fits h.2 most h.5.0 small, (tt, tt))))
length_fits way (Some a) most (Answer.NoAnswer b) wire low small h = subst AreInRange (sym h.2) (word_fits h.0 _ h.1.0 (length_code_small way (Some a)), (tt, (low a refl, (tt, tt))))
length_fits way (Some a) most Answer.Done wire low small h = length_heard way a most h.0 h.1 h.2 wire (low a refl) small h.3.0 h.4.0 h.5.0 h.6
length_fits way (Some a) most (Answer.Bytes bytes) wire low small h = length_heard way a most h.0 h.1 h.2 wire (low a refl) small h.3.0 h.4.0 h.5.0 h.6
length_fits way (Some a) most Answer.NoEnd wire low small h = length_heard way a most h.0 h.1 h.2 wire (low a refl) small h.3.0 h.4.0 h.5.0 h.6

-- SETDASA and SETNEWDA
set_heard : (code a to : ℕ) (word byte : Word) (wire : List Symbol) → IsByte code → a < 128 → to < 128 → word.byte ≡ code → byte.byte ≡ 2 * to
    → wire ≡ Symbol.Word word ∷ Repeated ∷ Header a false true ∷ Symbol.Word byte ∷ Stop ∷ [] → AreInRange wire
set_heard code a to word byte wire small low under e f h =
    let twice : IsByte (2 * to) = omega (arith, under) in
    subst AreInRange (sym h) (word_fits word code e small, (tt, (low, (word_fits byte (2 * to) f twice, (tt, tt)))))

pub setting_fits : (code a to : ℕ) (answer : Answer) (wire : List Symbol) → IsByte code → a < 128 → to < 128 → IsSettingWire code a to answer wire → AreInRange wire
setting_fits code a to (Answer.NoAnswer b) wire small low under h = subst AreInRange (sym h.2) (word_fits h.0 code h.1.0 small, (tt, (low, (tt, tt))))
setting_fits code a to Answer.Done wire small low under h = set_heard code a to h.0 h.1 wire small low under h.2.0 h.3.0 h.4
setting_fits code a to (Answer.Bytes bytes) wire small low under h = set_heard code a to h.0 h.1 wire small low under h.2.0 h.3.0 h.4
setting_fits code a to Answer.NoEnd wire small low under h = set_heard code a to h.0 h.1 wire small low under h.2.0 h.3.0 h.4

address_byte : (a byte : ℕ) → a < 128 → IsAddressByte a byte → IsByte byte
address_byte a byte low h = let e : byte / 2 ≡ a = h.0 in omega (arith, e, low)

-- GETACCCR
offer_heard : (a byte : ℕ) (t : Bool) (code : Word) (wire : List Symbol) → a < 128 → IsByte byte → code.byte ≡ 0x91
    → wire ≡ Symbol.Word code ∷ Repeated ∷ Header a true true ∷ Symbol.Word (record { byte = byte; t = t }) ∷ Stop ∷ [] → AreInRange wire
offer_heard a byte t code wire low small e h = subst AreInRange (sym h) (word_fits code 0x91 e (omega arith), (tt, (low, (small, (tt, tt)))))

pub offer_fits : (a : ℕ) (offer : Offer) (wire : List Symbol) → a < 128 → ((byte : ℕ) → offer ≡ Offer.Torn byte → IsByte byte) → IsOfferWire a offer wire → AreInRange wire
offer_fits a Offer.Nobody wire low torn h = subst AreInRange (sym h.2) (word_fits h.0 0x91 h.1.0 (omega arith), (tt, (low, (tt, tt))))
offer_fits a (Offer.Torn byte) wire low torn h = offer_heard a byte true h.0 wire low (torn byte refl) h.1.0 h.2
offer_fits a (Offer.Taken s) wire low torn h = offer_heard a h.0 false h.2.0 wire low (address_byte a h.0 low h.1) h.2.1.0 h.2.2

-- a transfer's header, words and STOP
transfer_fits : (a : ℕ) (read : Bool) (words wire : List Symbol) → a < 128 → AreInRange words → wire ≡ answered_wire a read words → AreInRange wire
transfer_fits a read words wire low h e = subst AreInRange (sym e) (tt, (low, ranges_on words (Stop ∷ []) h (tt, tt)))

-- a word of this side has its byte alone
abbrev HaveBytes : (Bool → ℕ → Symbol) → Type 0
HaveBytes word = (ninth : Bool) (byte : ℕ) → IsByte byte → IsInRange (word ninth byte)

read_bytes : (side : _) (last : Bool) (bytes : List ℕ) → HaveBytes (word_of side) → AreBytes bytes → AreInRange (read_words side last bytes)
read_bytes side last [] are h = tt
read_bytes side last (byte ∷ []) are h = (are last byte h.0, tt)
read_bytes side last (byte ∷ next ∷ more) are h = (are true byte h.0, read_bytes side last (next ∷ more) are h.1)

read_by : (a : ℕ) (side : _) (last : Bool) (bytes : List ℕ) (wire : List Symbol) → wire ≡ answered_wire a true (read_words side last bytes) → a < 128 → AreBytes bytes
    → HaveBytes (word_of side) → AreInRange wire
read_by a side last bytes wire e low h are = transfer_fits a true (read_words side last bytes) wire low (read_bytes side last bytes are h) e

-- the bytes of a read
abbrev pub BytesOfRead : Read → Type 0
BytesOfRead Read.Nobody = ⊤
BytesOfRead (Read.Legacy bytes) = AreBytes bytes
BytesOfRead (Read.Ended bytes) = AreBytes bytes
BytesOfRead (Read.Torn bytes) = AreBytes bytes

-- a private read
pub read_fits : (a : ℕ) (read : Read) (wire : List Symbol) → a < 128 → BytesOfRead read → IsReadWire a read wire → AreInRange wire
read_fits a Read.Nobody wire low are h = subst AreInRange (sym h) (tt, (low, (tt, tt)))
read_fits a (Read.Legacy bytes) wire low are h = search (read_by, low, are, h)
read_fits a (Read.Ended bytes) wire low are h = search (read_by, low, are, h)
read_fits a (Read.Torn bytes) wire low are h = search (read_by, low, are, h)

-- the code of a datum is a byte
asking_fits : (what : Datum) (code : Word) → IsAskingWord what code → IsByte code.byte
asking_fits Datum.WriteLength code h = word_fits code _ h.0 (omega arith)
asking_fits Datum.ReadLength code h = word_fits code _ h.0 (omega arith)
asking_fits Datum.Pid code h = word_fits code _ h.0 (omega arith)
asking_fits Datum.Bcr code h = word_fits code _ h.0 (omega arith)
asking_fits Datum.Dcr code h = word_fits code _ h.0 (omega arith)
asking_fits Datum.Status code h = word_fits code _ h.0 (omega arith)
asking_fits Datum.Speed code h = word_fits code _ h.0 (omega arith)
asking_fits Datum.Capabilities code h = word_fits code _ h.0 (omega arith)

-- the bytes that are told of a datum
abbrev pub BytesOfGet : Told → Type 0
BytesOfGet Told.Nobody = ⊤
BytesOfGet (Told.Ended bytes) = AreBytes bytes
BytesOfGet (Told.Torn bytes) = AreBytes bytes

told_fits : (a : ℕ) (get : Told) (told : List Symbol) → a < 128 → BytesOfGet get → IsToldWire a get told → AreInRange told
told_fits a Told.Nobody told low are h = subst AreInRange (sym h) (tt, (low, (tt, tt)))
told_fits a (Told.Ended bytes) told low are h = search (read_by, low, are, h)
told_fits a (Told.Torn bytes) told low are h = search (read_by, low, are, h)

-- a datum that is asked for
pub get_fits : (what : Datum) (a : ℕ) (get : Told) (wire : List Symbol) → a < 128 → BytesOfGet get → IsGetWire what a get wire → AreInRange wire
get_fits what a get wire low are h = subst AreInRange (sym h.4) (asking_fits what h.0 h.2, told_fits a get h.1 low are h.3)

-- bytes that are written
written_bytes : (side : _) (bytes : List ℕ) (words : List Symbol) → AreWritten side bytes words → ((byte : ℕ) (symbol : Symbol) → IsByte byte → IsWrittenWord side byte symbol → IsInRange symbol)
    → AreBytes bytes → AreInRange words
written_bytes side [] [] h are small = tt
written_bytes side (byte ∷ bytes) (symbol ∷ words) h are small = (are byte symbol small.0 h.0, written_bytes side bytes words h.1 are small.1)
written_bytes side [] (symbol ∷ words) h are small = absurd h
written_bytes side (byte ∷ bytes) [] h are small = absurd h

legacy_word : (byte : ℕ) (symbol : Symbol) → IsByte byte → symbol ≡ LegacyWord byte true → IsInRange symbol
legacy_word byte symbol small e = subst IsInRange (sym e) small

device_word : (byte : ℕ) (symbol : Symbol) → IsByte byte → (word : Word) × (word.byte ≡ byte) × HasOddParity word × (symbol ≡ Symbol.Word word) → IsInRange symbol
device_word byte symbol small e = subst IsInRange (sym e.3) (word_fits e.0 byte e.1 small)

write_by : (a : ℕ) (side : _) (bytes : List ℕ) (wire : List Symbol) → IsWrittenWire a side bytes wire → a < 128 → AreBytes bytes
    → ((byte : ℕ) (symbol : Symbol) → IsByte byte → IsWrittenWord side byte symbol → IsInRange symbol) → AreInRange wire
write_by a side bytes wire h low small are = transfer_fits a false h.0 wire low (written_bytes side bytes h.0 h.1 are small) h.2

-- a private write
pub write_fits : (a : ℕ) (bytes : List ℕ) (write : Write) (wire : List Symbol) → a < 128 → AreBytes bytes → IsWriteWire a bytes write wire → AreInRange wire
write_fits a bytes Write.Nobody wire low are h = subst AreInRange (sym h) (tt, (low, (tt, tt)))
write_fits a bytes Write.Legacy wire low are h = search (write_by, legacy_word, low, are, h)
write_fits a bytes Write.Devices wire low are h = search (write_by, device_word, low, are, h)

-- the bits that a round read, and the address that it sent
abbrev pub IsSentBy : Round → ℕ → ℕ → Type 0
IsSentBy Round.NoAddress bits a = ⊥
IsSentBy Round.Done bits a = ⊥
IsSentBy (Round.Nobody read sent) bits a = (read ≡ bits) × (sent ≡ a)
IsSentBy (Round.Assigned read sent i) bits a = (read ≡ bits) × (sent ≡ a)

pub round_fits : (round : Round) (wire : List Symbol) → ((bits a : ℕ) → IsSentBy round bits a → (bits < 2 ^ 64) × (a < 128)) → IsRoundWire round wire → AreInRange wire
round_fits Round.NoAddress wire fits h = subst AreInRange (sym h) tt
round_fits Round.Done wire fits h = subst AreInRange (sym h) (tt, (omega arith, tt))
round_fits (Round.Nobody bits a) wire fits h = let f = fits bits a (refl, refl) in subst AreInRange (sym h.2) (tt, (omega arith, (f.0, (address_byte a h.0 f.1 h.1, tt))))
round_fits (Round.Assigned bits a i) wire fits h = let f = fits bits a (refl, refl) in subst AreInRange (sym h.2) (tt, (omega arith, (f.0, (address_byte a h.0 f.1 h.1, tt))))
