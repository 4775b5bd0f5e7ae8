-- Marks, and why they are no commands.
use Rattle.std.proofs.Common.{◌≡◌, ◌∙◌, ℕ, true, false, cond, eqb, inl, inr, List, [], ◌∷◌, Option, Some, None, ap, arith, codes, length, refl, subst, sym}
use Rattle.std.specs.List.{slice_get}
use Rattle.i3c_facts.specs.declared.marks.Mark.{Mark}
use Rattle.i3c_facts.specs.Forms.{IsMarkForm, IsPlainForm}
use Rattle.i3c_facts.specs.Laws.{MarksAreNoCommands}
use Rattle.i3c_lines.specs.declared.command.Command.{Command}
use Rattle.i3c_lines.specs.Forms.{IsCommand, IsForm, IsSkipped, tokens_of, with_first}
use Rattle.i3c_lines.specs.Parsing.{Reads}
use Rattle.i3c_lines.proofs.Meanings.{as_meant}

abbrev first_of : List (List ℕ) → List ℕ
first_of [] = []
first_of (token ∷ tokens) = token

abbrev letter_of : List ℕ → ℕ
letter_of [] = 0
letter_of (byte ∷ token) = byte

abbrev first_letter : List (List ℕ) → ℕ
first_letter tokens = letter_of (first_of tokens)

no_mark : (first : List ℕ) (rest : List (List ℕ)) → (first ≡ codes "always" → ⊥) → (first ≡ codes "expect" → ⊥) → ((mark : Mark) → IsPlainForm (first ∷ rest) mark → ⊥) → (mark : Mark) → IsMarkForm (first ∷ rest) mark → ⊥
no_mark first rest always expect none Mark.Any e = none Mark.Any e
no_mark first rest always expect none (Mark.Anywhere name) form = none (Mark.Anywhere name) form
no_mark first rest always expect none (Mark.Always facts) (more, e, are) = always (ap first_of e)
no_mark first rest always expect none Mark.Track e = none Mark.Track e
no_mark first rest always expect none Mark.Close e = none Mark.Close e
no_mark first rest always expect none (Mark.Expect facts) (more, e, are) = expect (ap first_of e)

plain_mark : (tokens : List (List ℕ)) (mark : Mark) → IsPlainForm tokens mark → IsMarkForm tokens mark
plain_mark tokens Mark.Any e = e
plain_mark tokens (Mark.Anywhere name) form = form
plain_mark tokens (Mark.Always facts) form = absurd form
plain_mark tokens Mark.Track e = e
plain_mark tokens Mark.Close e = e
plain_mark tokens (Mark.Expect facts) form = absurd form

-- tokens that don't begin with `always` or `expect` are the mark that they are without facts
pub plain_of : (first : List ℕ) (rest : List (List ℕ)) (result : Option Mark) → (first ≡ codes "always" → ⊥) → (first ≡ codes "expect" → ⊥) → Reads IsPlainForm (first ∷ rest) result → Reads IsMarkForm (first ∷ rest) result
plain_of first rest None always expect none = no_mark first rest always expect none
plain_of first rest (Some mark) always expect form = plain_mark (first ∷ rest) mark form

begins : (byte : ℕ) (tokens : List (List ℕ)) → byte ≡ first_letter (with_first byte tokens)
begins byte [] = refl
begins byte (token ∷ tokens) = refl

-- the first byte of a line is that of its first token
first_byte : (line : List ℕ) (letter : ℕ) (token : List ℕ) (rest : List (List ℕ)) → tokens_of line ≡ (letter ∷ token) ∷ rest → slice_get line 0 ≡ Some letter
first_byte [] letter token rest e = absurd (omega (arith, ap (λ ws. length (first_of ws)) e))
first_byte (byte ∷ line) letter token rest e =
    elim (eqb byte 32) as (λ b. cond b ([] ∷ tokens_of line) (with_first byte (tokens_of line)) ≡ (letter ∷ token) ∷ rest → Some byte ≡ Some letter) [
      | true ↦ λ is. absurd (omega (arith, ap (λ ws. length (first_of ws)) is))
      | false ↦ λ is. ap Some (begins byte (tokens_of line) ∙ ap first_letter is)
    ] e

some_same : (one other : ℕ) → Some one ≡ Some other → one ≡ other
some_same one other e = cc

not_skipped : (line : List ℕ) (letter : ℕ) (token : List ℕ) (rest : List (List ℕ)) → tokens_of line ≡ (letter ∷ token) ∷ rest → (letter ≡ 35 → ⊥) → IsSkipped line → ⊥
not_skipped line letter token rest e unlike (short, inl none) = omega (arith, ap (λ ws. length (first_of ws)) (sym e ∙ ap tokens_of none))
not_skipped line letter token rest e unlike (short, inr hash) = unlike (some_same letter 35 (sym (first_byte line letter token rest e) ∙ hash))

-- a line that begins with a token of no command, and not with `#`
apart : (line : List ℕ) (letter : ℕ) (token : List ℕ) (rest : List (List ℕ)) → tokens_of line ≡ (letter ∷ token) ∷ rest → (letter ≡ 35 → ⊥) → ((command : Command) → IsForm ((letter ∷ token) ∷ rest) command → ⊥)
    → ((command : Command) → IsCommand line command → ⊥) × (IsSkipped line → ⊥)
apart line letter token rest e unlike none = (λ command is. none command (subst (λ ws. IsForm ws command) e is.1), not_skipped line letter token rest e unlike)

-- no command begins with the tokens of marks
no_any : (rest : List (List ℕ)) (command : Command) → IsForm (codes "any" ∷ rest) command → ⊥
no_any rest command form = omega (arith, ap first_letter (as_meant (codes "any" ∷ rest) command form))

no_anywhere : (rest : List (List ℕ)) (command : Command) → IsForm (codes "anywhere" ∷ rest) command → ⊥
no_anywhere rest command form = omega (arith, ap first_letter (as_meant (codes "anywhere" ∷ rest) command form))

no_always : (rest : List (List ℕ)) (command : Command) → IsForm (codes "always" ∷ rest) command → ⊥
no_always rest command form = omega (arith, ap first_letter (as_meant (codes "always" ∷ rest) command form))

no_track : (rest : List (List ℕ)) (command : Command) → IsForm (codes "track" ∷ rest) command → ⊥
no_track rest command form = omega (arith, ap first_letter (as_meant (codes "track" ∷ rest) command form))

no_close : (rest : List (List ℕ)) (command : Command) → IsForm (codes "close" ∷ rest) command → ⊥
no_close rest command form = omega (arith, ap first_letter (as_meant (codes "close" ∷ rest) command form))

no_expect : (rest : List (List ℕ)) (command : Command) → IsForm (codes "expect" ∷ rest) command → ⊥
no_expect rest command form = omega (arith, ap first_letter (as_meant (codes "expect" ∷ rest) command form))

pub marks_apart : MarksAreNoCommands
marks_apart line Mark.Any (short, e) = apart line 97 (codes "ny") [] e (λ is. omega (arith, is)) (no_any [])
marks_apart line (Mark.Anywhere name) (short, (token, e, is)) = apart line 97 (codes "nywhere") (token ∷ []) e (λ is. omega (arith, is)) (no_anywhere (token ∷ []))
marks_apart line (Mark.Always facts) (short, (rest, e, are)) = apart line 97 (codes "lways") rest e (λ is. omega (arith, is)) (no_always rest)
marks_apart line Mark.Track (short, e) = apart line 116 (codes "rack") [] e (λ is. omega (arith, is)) (no_track [])
marks_apart line Mark.Close (short, e) = apart line 99 (codes "lose") [] e (λ is. omega (arith, is)) (no_close [])
marks_apart line (Mark.Expect facts) (short, (rest, e, are)) = apart line 101 (codes "xpect") rest e (λ is. omega (arith, is)) (no_expect rest)
