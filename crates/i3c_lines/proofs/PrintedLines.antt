-- Commands that are printed, and read again.
use Rattle.std.proofs.Common.{◌≡◌, ◌∙◌, ℕ, zero, suc, ◌+◌, ◌*◌, ◌/◌, ◌%◌, ◌^◌, ◌<◌, ◌≤◌, Bool, true, ◌&&◌, T, not, eqb, List, [], ◌∷◌, ◌++◌, Some, All, length, length-append, ap, append_assoc, arith, refl, sym, subst}
use Rattle.std.proofs.lemmas.List.{append-nil}
use Rattle.std.proofs.lemmas.List.Elements.{All-cons, All-nil}
use Rattle.std.proofs.lemmas.Str.Parse.{digit_from_value}
use Rattle.std.proofs.lemmas.Fmt.{decimal_is_IsNumeral, length-decimal-le}
use lib.Ieee.Fits.{and_r}
use Rattle.std.specs.Fmt.{decimal, digit_glyph}
use Rattle.std.specs.Str.Parse.{AllDigits}
use Rattle.i3c_lines.specs.Forms.{Writes, WritesBit, tokens_of, WritesPlace}
use Rattle.i3c_text.specs.Hex.{byte_text, bytes_text, hex_text}
use Rattle.i3c_text.proofs.DigitLaws.{hex_is, length-hex_text}
use Rattle.i3c_lines.specs.Printing.{behind, spaced}
use Rattle.i3c_lines.specs.Tokens.{AreBytes, IsDecimalDigit, pair_values}
use Rattle.i3c_lines.proofs.LineLaws.{one_token}
use Rattle.i3c_lines.proofs.SplitLaws.{HasNoSpace, joined_tokens}

-- a token is put behind a space
pub behind_space : (old mid new token : List ℕ) → mid ≡ old ++ 32 ∷ [] → new ≡ mid ++ token → new ≡ old ++ behind (token ∷ [])
behind_space old mid new token first then =
    then ∙ ap (λ t. t ++ token) first ∙ append_assoc old (32 ∷ []) token ∙ ap (λ w. old ++ 32 ∷ w) (sym (append-nil token))

behind_more : (tokens more : List (List ℕ)) → behind tokens ++ behind more ≡ behind (tokens ++ more)
behind_more [] more = refl
behind_more (token ∷ tokens) more = ap (λ t. 32 ∷ t) (append_assoc token (behind tokens) (behind more) ∙ ap (λ t. token ++ t) (behind_more tokens more))

-- tokens are put behind others
pub spaced_behind : (old mid new token : List ℕ) (tokens more : List (List ℕ)) → mid ≡ old ++ spaced (token ∷ tokens) → new ≡ mid ++ behind more → new ≡ old ++ spaced (token ∷ (tokens ++ more))
spaced_behind old mid new token tokens more first then =
    then ∙ ap (λ t. t ++ behind more) first ∙ append_assoc old (token ++ behind tokens) (behind more)
    ∙ ap (λ t. old ++ t) (append_assoc token (behind tokens) (behind more) ∙ ap (λ t. token ++ t) (behind_more tokens more))

-- a byte's two digits
pub byte_writes : (byte : ℕ) → byte < 256 → Writes 2 (byte_text byte) byte
unfolding hex_text
byte_writes byte h =
    let high : byte / 16 % 16 ≡ byte / 16 = omega arith in
    let same : hex_text 2 byte ≡ byte_text byte = λ i. digit_glyph true (high i) ∷ digit_glyph true (byte % 16) ∷ [] in
    let is = hex_is 2 byte (omega (arith, h)) in
    subst (λ token. Writes 2 token byte) same ((length-hex_text 2 byte, is.0), sym is.1)

pub pid_writes : (pid : ℕ) → pid < 2 ^ 48 → Writes 12 (hex_text 12 pid) pid
pid_writes pid h = let is = hex_is 12 pid (omega (arith, h)) in ((length-hex_text 12 pid, is.0), sym is.1)

-- the pairs of some bytes
pub pairs_are : (bytes : List ℕ) → All (λ byte. byte < 256) bytes → AreBytes (bytes_text bytes) × (pair_values (bytes_text bytes) ≡ bytes)
pairs_are [] all = (tt, refl)
pairs_are (byte ∷ bytes) all =
    let is = byte_writes byte (all 0 0 (omega arith)) in
    let before = pairs_are bytes (λ k d within. all (suc k) d (omega (arith, within))) in
    ((is.0.1 0 0 (omega arith), is.0.1 1 0 (omega arith), before.0), λ i. sym is.1 i ∷ before.1 i)

pub pairs_length : (bytes : List ℕ) → length (bytes_text bytes) ≡ 2 * length bytes
pairs_length [] = refl
pairs_length (byte ∷ bytes) = let before = pairs_length bytes in omega (arith, before)

-- the digits of a number
decimal_all : (token : List ℕ) → AllDigits 10 token → All IsDecimalDigit token
decimal_all [] all = All-nil IsDecimalDigit
decimal_all (byte ∷ token) all = All-cons IsDecimalDigit byte token (digit_from_value byte all.0) (decimal_all token all.1)

pub decimal_writes : (bit : ℕ) → bit < 65536 → WritesBit (decimal bit) bit × HasNoSpace (decimal bit) × (length (decimal bit) ≤ 5)
decimal_writes bit h =
    let is = decimal_is_IsNumeral bit (omega (arith, h)) in
    let digits = decimal_all (decimal bit) is.0.1 in
    (((is.0.0, digits), sym is.1, h), (λ k within space. let digit : IsDecimalDigit 32 = subst IsDecimalDigit space (digits k 0 within) in omega (arith, digit.0)), length-decimal-le 5 bit (omega arith) (omega (arith, h)) (omega (arith, h)))

pub place_writes : (place : ℕ) → 0 < place → place < 2 ^ 64 → WritesPlace (decimal place) place × HasNoSpace (decimal place) × (length (decimal place) ≤ 20)
place_writes place some h =
    let is = decimal_is_IsNumeral place (omega (arith, h)) in
    let digits = decimal_all (decimal place) is.0.1 in
    (((is.0.0, digits), sym is.1, h, some), (λ k within space. let digit : IsDecimalDigit 32 = subst IsDecimalDigit space (digits k 0 within) in omega (arith, digit.0)), length-decimal-le 20 place (omega arith) (omega (arith, h)) (omega (arith, h)))

-- tokens without spaces
abbrev pub Apart : List (List ℕ) → Type 0
Apart [] = Unit {0}
Apart (token ∷ tokens) = HasNoSpace token × Apart tokens

pub tokens_spaced : (token : List ℕ) (tokens : List (List ℕ)) → HasNoSpace token → Apart tokens → tokens_of (spaced (token ∷ tokens)) ≡ token ∷ tokens
tokens_spaced token [] none apart = ap tokens_of (append-nil token) ∙ one_token token none
tokens_spaced token (next ∷ tokens) none apart = joined_tokens token (Some (spaced (next ∷ tokens))) none ∙ ap (λ ws. token ∷ ws) (tokens_spaced next tokens apart.0 apart.1)

-- how many bytes tokens take, each with a space
abbrev pub total : List (List ℕ) → ℕ
total [] = 0
total (token ∷ tokens) = length token + 1 + total tokens

behind_length : (tokens : List (List ℕ)) → length (behind tokens) ≡ total tokens
behind_length [] = refl
behind_length (token ∷ tokens) = let before = behind_length tokens in omega (arith, before, length-append token (behind tokens))

pub spaced_length : (token : List ℕ) (tokens : List (List ℕ)) → total (token ∷ tokens) ≡ length (spaced (token ∷ tokens)) + 1
spaced_length token tokens = let rest = behind_length tokens in omega (arith, rest, length-append token (behind tokens))

abbrev pub is_plain : List ℕ → Bool
is_plain [] = true
is_plain (byte ∷ token) = not (eqb byte 32) && is_plain token

pub plain : (token : List ℕ) → T (is_plain token) → HasNoSpace token
plain [] t k within space = omega (arith, within)
plain (byte ∷ token) t zero within space = subst (λ b. T (not (eqb b 32) && is_plain token)) space t
plain (byte ∷ token) t (suc k) within space = plain token (and_r (not (eqb byte 32)) _ t) k (omega (arith, within)) space
