-- Texts that are appended part by part.
use Rattle.std.proofs.Common.{◌≡◌, ◌∙◌, ℕ, ◌/◌, ◌%◌, ◌<◌, true, List, [], ◌∷◌, ◌++◌, Result, Ok, Err, OnOk, ap, append_assoc, arith, sym}
use Rattle.std.specs.Fmt.{digit_glyph}
use Rattle.i3c_text.specs.Hex.{byte_text, hex_text}

-- a byte has two digits
byte_is : (byte : ℕ) → byte < 256 → byte_text byte ≡ hex_text 2 byte
unfolding hex_text
byte_is byte h =
    let high : byte / 16 ≡ byte / 16 % 16 = omega arith in
    λ i. digit_glyph true (high i) ∷ digit_glyph true (byte % 16) ∷ []

-- a byte, and letters behind it
pub letters_behind : {E : Type 0} (r : Result (Unit {0}) E) (before one new : List ℕ) (byte : ℕ) (words letters : List ℕ) → byte < 256 → words ≡ letters → one ≡ before ++ byte_text byte
    → OnOk r (new ≡ one ++ words) → OnOk r (new ≡ before ++ (hex_text 2 byte ++ letters))
letters_behind (Ok done) before one new byte words letters h are first last =
    last ∙ ap (λ t. t ++ words) first ∙ append_assoc before (byte_text byte) words
    ∙ ap (λ t. before ++ (t ++ words)) (byte_is byte h) ∙ ap (λ t. before ++ (hex_text 2 byte ++ t)) are
letters_behind (Err fault) before one new byte words letters h are first last = last
