-- A line, and the same in capitals.
use Rattle.std.proofs.Common.{◌≡◌, ◌≢◌, ◌∙◌, ◌⊎◌, ℕ, suc, ◌<◌, ◌≤◌, Bool, true, false, cond, inl, inr, List, [], ◌∷◌, ◌++◌, Some, All, length, map, ap, arith, refl, sym, subst}
use Rattle.std.proofs.lemmas.Bool.Decides.{nat_tests}
use Rattle.std.proofs.lemmas.List.{append-nil}
use Rattle.std.proofs.lemmas.List.Elements.{All-cons}
use Rattle.std.specs.Char.{is_ascii_hexdigit, to_ascii_uppercase}
use Rattle.std.specs.List.{list_all, slice_get}
use Rattle.i3c_lines.specs.declared.command.Command.{Command}
use Rattle.i3c_lines.specs.Capitals.{capital_args, capital_token, capital_tokens, has_name, in_capitals}
use Rattle.i3c_lines.specs.Forms.{HasNoForm, IsCommand, IsForm, IsSkipped, tokens_of}
use Rattle.i3c_lines.specs.Printing.{behind, spaced}
use Rattle.i3c_lines.proofs.LineLaws.{line_is, line_of, some_token}

-- the same bytes, some of them as capitals
abbrev pub Recased : List ℕ → List ℕ → Type 0
Recased [] [] = Unit {0}
Recased [] (other ∷ more) = ⊥
Recased (byte ∷ line) [] = ⊥
Recased (byte ∷ line) (other ∷ more) = ((other ≡ byte) ⊎ (other ≡ to_ascii_uppercase byte)) × Recased line more

same_case : (line : List ℕ) → Recased line line
same_case [] = tt
same_case (byte ∷ line) = (inl refl, same_case line)

both : (one other more rest : List ℕ) → Recased one other → Recased more rest → Recased (one ++ more) (other ++ rest)
both [] [] more rest first then = then
both [] (b ∷ other) more rest first then = absurd first
both (a ∷ one) [] more rest first then = absurd first
both (a ∷ one) (b ∷ other) more rest first then = (first.0, both one other more rest first.1 then)

upper_recased : (token : List ℕ) → Recased token (map to_ascii_uppercase token)
upper_recased [] = tt
upper_recased (byte ∷ token) = (inr refl, upper_recased token)

token_recased : (token : List ℕ) → Recased token (capital_token token)
token_recased token = elim (list_all is_ascii_hexdigit token) as (λ b. Recased token (cond b (map to_ascii_uppercase token) token)) [ true ↦ upper_recased token | false ↦ same_case token ]

tokens_recased : (tokens : List (List ℕ)) → Recased (behind tokens) (behind (map capital_token tokens))
tokens_recased [] = tt
tokens_recased (token ∷ tokens) = (inl refl, both token (capital_token token) (behind tokens) (behind (map capital_token tokens)) (token_recased token) (tokens_recased tokens))

args_recased : (named : Bool) (tokens : List (List ℕ)) → Recased (behind tokens) (behind (capital_args named tokens))
args_recased false tokens = tokens_recased tokens
args_recased true [] = tt
args_recased true (name ∷ tokens) = (inl refl, both name name (behind tokens) (behind (map capital_token tokens)) (same_case name) (tokens_recased tokens))

spaced_line : (token : List ℕ) (tokens : List (List ℕ)) → token ++ behind tokens ≡ line_of (token ∷ tokens)
spaced_line token [] = append-nil token
spaced_line token (next ∷ tokens) = ap (λ l. token ++ 32 ∷ l) (spaced_line next tokens)

-- in capitals a line has the same bytes
pub recased : (line : List ℕ) → Recased line (in_capitals line)
recased line =
    let (first, tokens, e) = some_token line in
    let args = behind (capital_args (has_name first) tokens) in
    let same : first ++ behind tokens ≡ line = spaced_line first tokens ∙ sym (line_is line (first ∷ tokens) e) in
    let capitals : in_capitals line ≡ first ++ args = ap (λ ws. spaced (capital_tokens ws)) e in
    let are : Recased (first ++ behind tokens) (first ++ args) = both first first (behind tokens) args (same_case first) (args_recased (has_name first) tokens) in
    subst (λ l. Recased l (in_capitals line)) same (subst (λ c. Recased (first ++ behind tokens) c) (sym capitals) are)

same_length : (line other : List ℕ) → Recased line other → length other ≡ length line
same_length [] [] are = refl
same_length [] (b ∷ other) are = absurd are
same_length (a ∷ line) [] are = absurd are
same_length (a ∷ line) (b ∷ other) are = ap suc (same_length line other are.1)

pub capitals_length : (line : List ℕ) → length (in_capitals line) ≡ length line
capitals_length line = same_length line (in_capitals line) (recased line)

-- a byte that is no letter is no letter's capital
no_letter : (byte n : ℕ) → n < 65 → to_ascii_uppercase byte ≡ n → byte ≡ n
no_letter byte n low e = grind (arith, nat_tests)

was : (byte other n : ℕ) → n < 65 → (other ≡ byte) ⊎ (other ≡ to_ascii_uppercase byte) → other ≡ n → byte ≡ n
was byte other n low (inl same) is = sym same ∙ is
was byte other n low (inr upper) is = no_letter byte n low (sym upper ∙ is)

no_feeds : (line other : List ℕ) → Recased line other → All (λ byte. byte ≢ 10) line → All (λ byte. byte ≢ 10) other
no_feeds [] [] are none = none
no_feeds [] (b ∷ other) are none = absurd are
no_feeds (a ∷ line) [] are none = absurd are
no_feeds (a ∷ line) (b ∷ other) are none =
    All-cons (λ byte. byte ≢ 10) b other (λ feed. none 0 0 (omega arith) (was a b 10 (omega arith) are.0 feed))
    (no_feeds line other are.1 (λ k d within. none (suc k) d (omega (arith, within))))

pub capitals_have_no_feed : (line : List ℕ) → All (λ byte. byte ≢ 10) line → All (λ byte. byte ≢ 10) (in_capitals line)
capitals_have_no_feed line none = no_feeds line (in_capitals line) (recased line) none

was_skipped : (line other : List ℕ) → Recased line other → (other ≡ []) ⊎ (slice_get other 0 ≡ Some 35) → (line ≡ []) ⊎ (slice_get line 0 ≡ Some 35)
was_skipped [] other are skipped = inl refl
was_skipped (a ∷ line) [] are skipped = absurd are
was_skipped (a ∷ line) (b ∷ other) are (inl none) = absurd cc
was_skipped (a ∷ line) (b ∷ other) are (inr comment) = let is : b ≡ 35 = grind (arith, comment) in inr (ap Some (was a b 35 (omega arith) are.0 is))

-- a line that is too long has no form in capitals either
pub long_capitals : (line : List ℕ) → 256 < length line → HasNoForm (in_capitals line)
long_capitals line long = inl (omega (arith, capitals_length line, long))

-- a line without a command in capitals
pub no_capitals : (line : List ℕ) → length line ≤ 256 → (IsSkipped line → ⊥) → ((command : Command) → IsForm (tokens_of (in_capitals line)) command → ⊥) → HasNoForm (in_capitals line)
no_capitals line short read none = inr (λ skipped. read (short, was_skipped line (in_capitals line) (recased line) skipped.1), λ command is. none command is.1)

pub command_in_capitals : (line : List ℕ) (command : Command) → length line ≤ 256 → IsForm (tokens_of (in_capitals line)) command → IsCommand (in_capitals line) command
command_in_capitals line command short form = (omega (arith, capitals_length line, short), form)
