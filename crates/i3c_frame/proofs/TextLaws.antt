-- The texts of symbols, by their shapes.
use Rattle.std.proofs.Common.{◌≡◌, ℕ, ◌/◌, ◌%◌, ◌^◌, ◌<◌, ◌≤◌, ◌≢◌, ◌⊎◌, inl, inr, get_or, take, drop, Bool, true, false, List, [], ◌∷◌, ◌++◌, length, arith, refl, ap, sym, ◌∙◌}
use Rattle.std.proofs.lemmas.Bool.Decides.{nat_tests}
use Rattle.std.specs.Fmt.{digit_glyph}
use Rattle.i3c_frame.specs.declared.symbols.Symbol.{Symbol}
use Rattle.i3c_frame.specs.declared.symbols.Symbol.TheVariants.{Start, Repeated, Stop, Header, Word, Identity, AddressByte, LegacyWord}
use Rattle.i3c_frame.specs.Texts.{direction_text, answer_text, t_text, text_of, IsInRange}
use Rattle.i3c_text.specs.Hex.{hex_text}
use Rattle.i3c_text.proofs.DigitLaws.{hex_text_same}

-- how long a symbol's text is
abbrev pub size_of : Symbol → ℕ
size_of Start = 1
size_of Repeated = 2
size_of Stop = 1
size_of (Header address read ack) = 5
size_of (Word word) = 4
size_of (Identity bits) = 17
size_of (AddressByte byte ack) = 4
size_of (LegacyWord byte ack) = 3

length-answer_text : (ack : Bool) → length (answer_text ack) ≡ 1
length-answer_text true = refl
length-answer_text false = refl

length-direction_text : (read ack : Bool) → length (direction_text read ++ answer_text ack) ≡ 3
length-direction_text true ack = omega (arith, length-answer_text ack)
length-direction_text false ack = omega (arith, length-answer_text ack)

length-t_text : (t : Bool) → length (t_text t) ≡ 2
length-t_text true = refl
length-t_text false = refl

pub length-text_of : (symbol : Symbol) → length (text_of symbol) ≡ size_of symbol
unfolding hex_text
length-text_of Start = refl
length-text_of Repeated = refl
length-text_of Stop = refl
length-text_of (Header address read ack) = omega (arith, length-direction_text read ack)
length-text_of (Word word) = omega (arith, length-t_text word.t)
length-text_of (Identity bits) = refl
length-text_of (AddressByte byte ack) = omega (arith, length-answer_text ack)
length-text_of (LegacyWord byte ack) = omega (arith, length-answer_text ack)

-- digits are no marks: `.` and `@`
not_marks : (n : ℕ) → (digit_glyph true (n % 16) ≢ 46) × (digit_glyph true (n % 16) ≢ 64)
not_marks n = let small : n % 16 < 16 = omega arith in (λ e. grind (arith, nat_tests), λ e. grind (arith, nat_tests))

-- a text of another length is another text
wrong_length : {A : Type 0} (symbol : Symbol) (text : List ℕ) → text_of symbol ≡ text → size_of symbol ≢ length text → A
wrong_length symbol text e other = absurd (other (omega (arith, length-text_of symbol, ap length e)))

-- a byte and an answer
pub record IsAnswered (high low mark : ℕ) : Type 0 where
  pub byte : ℕ
  pub ack : Bool
  pub digits : hex_text 2 byte ≡ high ∷ low ∷ []
  pub answer : answer_text ack ≡ mark ∷ []

pub legacy_word_parts : (symbol : Symbol) (high low mark : ℕ) → text_of symbol ≡ high ∷ low ∷ mark ∷ [] → IsAnswered high low mark
unfolding hex_text
legacy_word_parts (LegacyWord byte ack) high low mark e = record { byte = byte; ack = ack; digits = cc; answer = cc }
legacy_word_parts symbol high low mark e = wrong_length symbol _ e (λ same. omega arith)

pub address_byte_parts : (symbol : Symbol) (high low mark : ℕ) → text_of symbol ≡ 64 ∷ high ∷ low ∷ mark ∷ [] → IsAnswered high low mark
unfolding hex_text
address_byte_parts (AddressByte byte ack) high low mark e = record { byte = byte; ack = ack; digits = cc; answer = cc }
address_byte_parts (Word word) high low mark e = absurd ((not_marks (word.byte / 16)).1 (cc))
address_byte_parts symbol high low mark e = wrong_length symbol _ e (λ same. omega arith)

-- a T bit's text begins with a dot
dot_first : (t : Bool) → get_or (t_text t) 0 0 ≡ 46
dot_first true = refl
dot_first false = refl

-- a byte and a T bit
pub record IsByteAndT (high low digit : ℕ) : Type 0 where
  pub byte : ℕ
  pub t : Bool
  pub digits : hex_text 2 byte ≡ high ∷ low ∷ []
  pub t_bit : t_text t ≡ 46 ∷ digit ∷ []

pub word_parts : (symbol : Symbol) (high low digit : ℕ) → text_of symbol ≡ high ∷ low ∷ 46 ∷ digit ∷ [] → IsByteAndT high low digit
unfolding hex_text
word_parts (Word word) high low digit e = record { byte = word.byte; t = word.t; digits = cc; t_bit = cc }
word_parts (AddressByte byte ack) high low digit e = absurd ((not_marks byte).0 (cc))
word_parts symbol high low digit e = wrong_length symbol _ e (λ same. omega arith)

-- an address, a direction and an answer
pub record IsAddressed (high low slash direction mark : ℕ) : Type 0 where
  pub address : ℕ
  pub read : Bool
  pub ack : Bool
  pub range : address < 128
  pub digits : hex_text 2 address ≡ high ∷ low ∷ []
  pub divided : slash ≡ 47
  pub way : direction_text read ≡ 47 ∷ direction ∷ []
  pub answer : answer_text ack ≡ mark ∷ []

pub header_parts : (symbol : Symbol) (high low slash direction mark : ℕ) → IsInRange symbol
    → text_of symbol ≡ high ∷ low ∷ slash ∷ direction ∷ mark ∷ [] → IsAddressed high low slash direction mark
unfolding hex_text
header_parts (Header address true ack) high low slash direction mark range e = record {
  address = address;
  read = true;
  ack = ack;
  range = range;
  digits = cc;
  divided = cc;
  way = cc;
  answer = cc;
}
header_parts (Header address false ack) high low slash direction mark range e = record {
  address = address;
  read = false;
  ack = ack;
  range = range;
  digits = cc;
  divided = cc;
  way = cc;
  answer = cc;
}
header_parts symbol high low slash direction mark range e = wrong_length symbol _ e (λ same. omega arith)

-- one letter is `S` or `P`
pub letter_parts : (symbol : Symbol) (letter : ℕ) → text_of symbol ≡ letter ∷ [] → (letter ≡ 83) ⊎ (letter ≡ 80)
letter_parts Start letter e = inl (cc)
letter_parts Stop letter e = inr (cc)
letter_parts symbol letter e = wrong_length symbol _ e (λ same. omega arith)

-- two letters are `Sr`
pub pair_parts : (symbol : Symbol) (first second : ℕ) → text_of symbol ≡ first ∷ second ∷ [] → (first ≡ 83) × (second ≡ 114)
pair_parts Repeated first second e = (cc, cc)
pair_parts symbol first second e = wrong_length symbol _ e (λ same. omega arith)

-- four letters begin with `@`, or the third is a dot
pub four_parts : (symbol : Symbol) (first second third fourth : ℕ) → text_of symbol ≡ first ∷ second ∷ third ∷ fourth ∷ [] → (first ≡ 64) ⊎ (third ≡ 46)
unfolding hex_text
four_parts (AddressByte byte ack) first second third fourth e = inl (cc)
four_parts (Word word) first second third fourth e = inr (ap (λ text. get_or text 2 0) (sym e) ∙ dot_first word.t)
four_parts symbol first second third fourth e = wrong_length symbol _ e (λ same. omega arith)

-- more than five letters are an identity
pub identity_parts : (symbol : Symbol) (equals : ℕ) (digits : List ℕ) → text_of symbol ≡ equals ∷ digits → 5 ≤ length digits
    → (bits : ℕ) × (equals ≡ 61) × (hex_text 16 bits ≡ digits)
identity_parts (Identity bits) equals digits e long = (bits, cc, ap (drop 1) e)
identity_parts symbol equals digits e long = wrong_length symbol _ e (λ same. omega arith)

answer_same : (a b : Bool) → answer_text a ≡ answer_text b → a ≡ b
answer_same true true e = refl
answer_same false false e = refl
answer_same true false e = absurd (omega (arith, ap (λ text. get_or text 0 0) e))
answer_same false true e = absurd (omega (arith, ap (λ text. get_or text 0 0) e))

t_same : (a b : Bool) → t_text a ≡ t_text b → a ≡ b
t_same true true e = refl
t_same false false e = refl
t_same true false e = absurd (omega (arith, ap (λ text. get_or text 1 0) e))
t_same false true e = absurd (omega (arith, ap (λ text. get_or text 1 0) e))

direction_same : (a b c d : Bool) → direction_text a ++ answer_text c ≡ direction_text b ++ answer_text d → (a ≡ b) × (answer_text c ≡ answer_text d)
direction_same true true c d e = (refl, ap (drop 2) e)
direction_same false false c d e = (refl, ap (drop 2) e)
direction_same true false c d e = absurd (omega (arith, ap (λ text. get_or text 1 0) e))
direction_same false true c d e = absurd (omega (arith, ap (λ text. get_or text 1 0) e))

byte_same : (m n : ℕ) → m < 2 ^ 8 → n < 2 ^ 8 → hex_text 2 m ≡ hex_text 2 n → m ≡ n
byte_same m n small low e = hex_text_same 2 m n (omega arith) (omega arith) e

-- a text is that of one symbol at most
pub text_of_same : (a b : Symbol) → IsInRange a → IsInRange b → text_of a ≡ text_of b → a ≡ b
unfolding hex_text
text_of_same Start Start fit range e = refl
text_of_same Repeated Repeated fit range e = refl
text_of_same Stop Stop fit range e = refl
text_of_same Start Stop fit range e = absurd (omega (arith, ap (λ text. get_or text 0 0) e))
text_of_same Stop Start fit range e = absurd (omega (arith, ap (λ text. get_or text 0 0) e))
text_of_same (Header a r k) (Header b s l) fit range e =
    let address = byte_same a b (omega arith) (omega arith) (ap (take 2) e) in
    let rest = direction_same r s k l (ap (drop 2) e) in
    let ack = answer_same k l rest.1 in λ i. Header (address i) (rest.0 i) (ack i)
text_of_same (Word v) (Word w) fit range e =
    let byte = byte_same v.byte w.byte fit range (ap (take 2) e) in
    let t = t_same v.t w.t (ap (drop 2) e) in λ i. Word (record { byte = byte i; t = t i })
text_of_same (Identity m) (Identity n) fit range e = ap Identity (hex_text_same 16 m n fit range (ap (drop 1) e))
text_of_same (AddressByte a k) (AddressByte b l) fit range e =
    let byte = byte_same a b fit range (ap (λ text. take 2 (drop 1 text)) e) in
    let ack = answer_same k l (ap (drop 3) e) in λ i. AddressByte (byte i) (ack i)
text_of_same (LegacyWord a k) (LegacyWord b l) fit range e =
    let byte = byte_same a b fit range (ap (take 2) e) in
    let ack = answer_same k l (ap (drop 2) e) in λ i. LegacyWord (byte i) (ack i)
text_of_same (Word w) (AddressByte b l) fit range e = absurd ((not_marks (w.byte / 16)).1 (ap (λ text. get_or text 0 0) e))
text_of_same (AddressByte a k) (Word w) fit range e = absurd ((not_marks (w.byte / 16)).1 (sym (ap (λ text. get_or text 0 0) e)))
text_of_same a b fit range e = wrong_length a (text_of b) e (λ same. omega (arith, length-text_of b))
