-- Texts of symbols are parts.
use Rattle.std.proofs.Common.{◌≡◌, ℕ, zero, suc, ◌/◌, ◌%◌, ◌<◌, Bool, true, false, nat_lt, List, [], ◌∷◌, ◌++◌, length, map, All, arith, refl, ap, ◌∙◌, lt-ltb}
use Rattle.std.proofs.lemmas.Bool.Decides.{nat_tests}
use Rattle.std.proofs.lemmas.List.Elements.{All-append, All-cons}
use Rattle.std.proofs.lemmas.List.Splits.{slice_split_at, slice_split_none}
use Rattle.std.specs.Fmt.{digit_glyph}
use Rattle.std.specs.List.{join_with_byte}
use Rattle.i3c_frame.specs.declared.symbols.Symbol.{Symbol}
use Rattle.i3c_frame.specs.declared.symbols.Symbol.TheVariants.{Start, Repeated, Stop, Header, Word, Identity, AddressByte, LegacyWord}
use Rattle.i3c_frame.specs.Parts.{is_separator, parts}
use Rattle.i3c_frame.specs.Texts.{answer_text, direction_text, t_text, text_of}
use Rattle.i3c_text.specs.Hex.{hex_text}
use Rattle.i3c_frame.proofs.TextLaws.{length-text_of, size_of}

-- a text that no separator parts
pub record IsWhole (text : List ℕ) : Type 0 where
  pub all : All (λ byte. is_separator byte ≡ false) text

-- a whole text is its one part
parts-whole : (text : List ℕ) → 0 < length text → IsWhole text → parts text ≡ text ∷ []
unfolding parts
parts-whole text some whole = let long : nat_lt 0 (length text) ≡ true = lt-ltb _ _ some in rw (slice_split_none is_separator text whole.all, long)

-- a whole text before a separator is the first part
pub parts-whole_before : (text : List ℕ) (byte : ℕ) (rest : List ℕ) → 0 < length text → IsWhole text → is_separator byte ≡ true → parts (text ++ byte ∷ rest) ≡ text ∷ parts rest
unfolding parts
parts-whole_before text byte rest some whole here = let long : nat_lt 0 (length text) ≡ true = lt-ltb _ _ some in rw (slice_split_at is_separator text byte rest whole.all here, long)

glyph_whole : (value : ℕ) → value < 16 → is_separator (digit_glyph true value) ≡ false
glyph_whole value small = grind (arith, nat_tests)

nothing : IsWhole []
nothing = record { all = λ k d h. absurd (omega arith) }

mark : {byte : ℕ} {rest : List ℕ} → is_separator byte ≡ false → IsWhole rest → IsWhole (byte ∷ rest)
mark {byte} {rest} here whole = record { all = All-cons (λ byte. is_separator byte ≡ false) byte rest here whole.all }

both : {xs ys : List ℕ} → IsWhole xs → IsWhole ys → IsWhole (xs ++ ys)
both {xs} {ys} first second = record { all = All-append (λ byte. is_separator byte ≡ false) xs ys first.all second.all }

digits_whole : (count n : ℕ) → IsWhole (hex_text count n)
unfolding hex_text
digits_whole zero n = nothing
digits_whole (suc count) n = both (digits_whole count (n / 16)) (mark (glyph_whole (n % 16) (omega arith)) nothing)

answer_whole : (ack : Bool) → IsWhole (answer_text ack)
answer_whole true = mark refl nothing
answer_whole false = mark refl nothing

direction_whole : (read : Bool) → IsWhole (direction_text read)
direction_whole true = mark refl (mark refl nothing)
direction_whole false = mark refl (mark refl nothing)

t_whole : (t : Bool) → IsWhole (t_text t)
t_whole true = mark refl (mark refl nothing)
t_whole false = mark refl (mark refl nothing)

-- no symbol's text has a separator
pub text_whole : (symbol : Symbol) → IsWhole (text_of symbol)
text_whole Start = mark refl nothing
text_whole Repeated = mark refl (mark refl nothing)
text_whole Stop = mark refl nothing
text_whole (Header address read ack) = both (digits_whole 2 address) (both (direction_whole read) (answer_whole ack))
text_whole (Word word) = both (digits_whole 2 word.byte) (t_whole word.t)
text_whole (Identity bits) = mark refl (digits_whole 16 bits)
text_whole (AddressByte byte ack) = mark refl (both (digits_whole 2 byte) (answer_whole ack))
text_whole (LegacyWord byte ack) = both (digits_whole 2 byte) (answer_whole ack)

size_some : (symbol : Symbol) → 0 < size_of symbol
size_some Start = omega arith
size_some symbol = omega arith

-- no symbol's text is empty
pub text_some : (symbol : Symbol) → 0 < length (text_of symbol)
text_some symbol = omega (arith, length-text_of symbol, size_some symbol)

pub printed_parts : (symbols : List Symbol) → parts (join_with_byte 32 (map text_of symbols)) ≡ map text_of symbols
unfolding parts
printed_parts [] = refl
printed_parts (symbol ∷ []) = parts-whole (text_of symbol) (text_some symbol) (text_whole symbol)
printed_parts (symbol ∷ next ∷ rest) =
    parts-whole_before (text_of symbol) 32 _ (text_some symbol) (text_whole symbol) refl ∙ ap (λ tail. text_of symbol ∷ tail) (printed_parts (next ∷ rest))

-- a symbol that is printed before a separator is the first part
pub parts-printed : (symbol : Symbol) (byte : ℕ) (rest : List ℕ) → is_separator byte ≡ true → parts (text_of symbol ++ byte ∷ rest) ≡ text_of symbol ∷ parts rest
parts-printed symbol byte rest here = parts-whole_before (text_of symbol) byte rest (text_some symbol) (text_whole symbol) here
