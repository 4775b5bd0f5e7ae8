-- What a script's bytes are in XML.
use Rattle.std.proofs.Common.{◌≡◌, ◌∙◌, ◌<◌, ℕ, zero, suc, ◌/◌, ◌%◌, nat_lt, nat_eq, Bool, true, false, ◌&&◌, if◌then◌else◌, List, [], ◌∷◌, arith, refl}
use Rattle.std.specs.Prelude.{codes}
use Rattle.std.specs.Fmt.{digit_glyph}
use Rattle.std.specs.List.{list_all}
use Rattle.std.proofs.lemmas.List.Folds.{list_all-append}
use Rattle.i3c_draw.specs.Escaped.{control_text, escaped, escaped_byte, printed_byte}
use Rattle.i3c_draw.specs.Laws.{is_plain}

-- one of two texts
chosen : (b : Bool) (xs ys : List ℕ) → (b ≡ true → list_all is_plain xs ≡ true) → (b ≡ false → list_all is_plain ys ≡ true) → list_all is_plain (if b then xs else ys) ≡ true
chosen true xs ys first other = first refl
chosen false xs ys first other = other refl

-- a hex digit
glyph : (d : ℕ) → d < 16 → is_plain (digit_glyph true d) ≡ true
glyph zero small = refl
glyph (suc zero) small = refl
glyph (suc (suc zero)) small = refl
glyph (suc (suc (suc zero))) small = refl
glyph (suc (suc (suc (suc zero)))) small = refl
glyph (suc (suc (suc (suc (suc zero))))) small = refl
glyph (suc (suc (suc (suc (suc (suc zero)))))) small = refl
glyph (suc (suc (suc (suc (suc (suc (suc zero))))))) small = refl
glyph (suc (suc (suc (suc (suc (suc (suc (suc zero)))))))) small = refl
glyph (suc (suc (suc (suc (suc (suc (suc (suc (suc zero))))))))) small = refl
glyph (suc (suc (suc (suc (suc (suc (suc (suc (suc (suc zero)))))))))) small = refl
glyph (suc (suc (suc (suc (suc (suc (suc (suc (suc (suc (suc zero))))))))))) small = refl
glyph (suc (suc (suc (suc (suc (suc (suc (suc (suc (suc (suc (suc zero)))))))))))) small = refl
glyph (suc (suc (suc (suc (suc (suc (suc (suc (suc (suc (suc (suc (suc zero))))))))))))) small = refl
glyph (suc (suc (suc (suc (suc (suc (suc (suc (suc (suc (suc (suc (suc (suc zero)))))))))))))) small = refl
glyph (suc (suc (suc (suc (suc (suc (suc (suc (suc (suc (suc (suc (suc (suc (suc zero))))))))))))))) small = refl
glyph (suc (suc (suc (suc (suc (suc (suc (suc (suc (suc (suc (suc (suc (suc (suc (suc d)))))))))))))))) small = absurd (omega (arith, small))

lt_true : (a b : ℕ) → nat_lt a b ≡ true → a < b
lt_true a b e = grind (arith, e)

control : (byte : ℕ) → byte < 32 → list_all is_plain (control_text byte) ≡ true
control byte small =
    let high = glyph (byte / 16) (omega (arith, small)) in
    let low = glyph (byte % 16) (omega arith) in
    λ i. high i && (low i && true)

printed : (byte : ℕ) → nat_lt byte 32 ≡ false → nat_lt 126 byte ≡ false → list_all is_plain (printed_byte byte) ≡ true
printed byte above below =
    chosen (nat_eq byte 38) (codes "&amp;") _ (λ _. refl)
    (λ _. chosen (nat_eq byte 60) (codes "&lt;") _ (λ _. refl)
    (λ less. chosen (nat_eq byte 62) (codes "&gt;") (byte ∷ []) (λ _. refl)
    (λ more. rw (above, below, less, more) refl)))

plain_byte : (byte : ℕ) → list_all is_plain (escaped_byte byte) ≡ true
plain_byte byte =
    chosen (nat_lt byte 32) (control_text byte) (if nat_lt 126 byte then codes "&#xFFFD;" else printed_byte byte) (λ low. control byte (lt_true byte 32 low))
    (λ above. chosen (nat_lt 126 byte) (codes "&#xFFFD;") (printed_byte byte) (λ _. refl) (λ below. printed byte above below))

pub plain_text : (text : List ℕ) → list_all is_plain (escaped text) ≡ true
plain_text [] = refl
plain_text (byte ∷ text) = list_all-append is_plain (escaped_byte byte) (escaped text) ∙ (λ i. plain_byte byte i && plain_text text i)
