-- Codes that take no byte of kinds.
use Rattle.std.proofs.Common.{◌≡◌, ◌≢◌, ◌≤◌, ◌∙◌, ℕ, ◌+◌, ◌%◌, ◌==◌, ◌||◌, false, List, [], ◌∷◌, None, length, get_or, count_ones, arith, refl, ap}
use Rattle.std.proofs.lemmas.Bool.{eq-eqb, ne_eqb}
use Rattle.i3c_word.specs.declared.Word.{Word}
use Rattle.i3c_word.specs.Parity.{bit_of, HasOddParity}
use Rattle.i3c_ccc.specs.declared.codes.Code.{Code}
use Rattle.i3c_ccc.specs.declared.codes.CodeSet.{CodeSet}
use Rattle.i3c_ccc.specs.Codes.{code_among, codes_of}
use Rattle.i3c_ccc.specs.Commands.{IsCommandOf, first_fault, kinds_of, takes_kinds, wanted}

enec_at : (codes : CodeSet) → code_among (codes_of codes) 0x00 ≡ Code.Enec
enec_at CodeSet.Table = refl
enec_at CodeSet.Extended = refl

disec_at : (codes : CodeSet) → code_among (codes_of codes) 0x01 ≡ Code.Disec
disec_at CodeSet.Table = refl
disec_at CodeSet.Extended = refl

pub takes_none : (codes : CodeSet) (byte : ℕ) (code : Code) → code ≡ code_among (codes_of codes) byte → code ≢ Code.Enec → code ≢ Code.Disec
    → takes_kinds byte ≡ false
takes_none codes byte code is not_enec not_disec =
    let n0 : byte ≢ 0x00 = λ e. not_enec (is ∙ ap (code_among (codes_of codes)) e ∙ enec_at codes) in
    let n1 : byte ≢ 0x01 = λ e. not_disec (is ∙ ap (code_among (codes_of codes)) e ∙ disec_at codes) in
    rw (ne_eqb byte 0x00 n0) (rw (ne_eqb byte 0x01 n1) refl)

no_kinds_of : (word : Word) (rest : List Word) → takes_kinds word.byte ≡ false → None ≡ kinds_of (word ∷ rest)
no_kinds_of word [] none = refl
no_kinds_of word (kinds ∷ rest) none = rw none refl

-- the command that words are whose first one's code takes no kinds
pub plain_command : (codes : CodeSet) (words : List Word) (none : Word) (byte : ℕ) (code : Code) → 1 ≤ length words → HasOddParity (get_or words 0 none)
    → byte ≡ (get_or words 0 none).byte → code ≡ code_among (codes_of codes) byte → code ≢ Code.Enec → code ≢ Code.Disec
    → (first_fault 1 (wanted words) words ≡ None) × IsCommandOf (codes_of codes) words (record { code = code; kinds = None })
plain_command codes [] none byte code some odd same is not_enec not_disec = absurd (omega (arith, some))
plain_command codes (word ∷ rest) none byte code some odd same is not_enec not_disec =
    let no_kinds : takes_kinds word.byte ≡ false = takes_none codes word.byte code (is ∙ ap (code_among (codes_of codes)) same) not_enec not_disec in
    (rw no_kinds (rw (eq-eqb ((count_ones word.byte + bit_of word.t) % 2) 1 odd) refl), (is ∙ ap (code_among (codes_of codes)) same, no_kinds_of word rest no_kinds))
