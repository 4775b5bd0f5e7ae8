-- The commands that are read token by token, by their first tokens.
use Rattle.std.proofs.Common.{◌≡◌, ℕ, Bool, true, false, cond, List, ◌∷◌, Option, Some, None, ap, codes, sym, subst}
use Rattle.i3c_lines.specs.declared.command.Command.{Command}
use Rattle.i3c_lines.specs.Forms.{IsForm}
use Rattle.i3c_lines.specs.Parsing.{Becomes, BecomesOther, IsOther, IsOtherForm}
use Rattle.i3c_lines.proofs.Meanings.{first_of, has_but, meant, meant_is}

-- a command that is read from tokens, where these mean one that is read token by token
pub as_other : (all tokens : List (List ℕ)) (result : Option (Unit {0})) (old new : Command) → all ≡ tokens → IsOther (meant tokens) → Becomes tokens result old new → BecomesOther all result old new
as_other all tokens None old new same other is = (λ command form. is.0 command (subst (λ ws. IsForm ws command) same form.0), is.1)
as_other all tokens (Some done) old new same other is = (subst (λ ws. IsForm ws new) (sym same) is, subst IsOther (meant_is tokens new is) other)

either_is_other : (b : Bool) (one other : Command) → IsOther one → IsOther other → IsOther (cond b one other)
either_is_other true one other first second = first
either_is_other false one other first second = second

-- a policy is read token by token, with exceptions or without
pub policy_is_other : (rest : List (List ℕ)) → IsOther (meant (codes "policy" ∷ rest))
policy_is_other rest = either_is_other (has_but rest) _ _ tt tt

-- the first token of a command that is read token by token is one of twelve
pub no_other : (token : List ℕ) (tokens : List (List ℕ))
    → (token ≡ codes "drop" → ⊥)
    → (token ≡ codes "attach" → ⊥)
    → (token ≡ codes "ask-join" → ⊥)
    → (token ≡ codes "ask-role" → ⊥)
    → (token ≡ codes "handover" → ⊥)
    → (token ≡ codes "cut" → ⊥)
    → (token ≡ codes "policy" → ⊥)
    → (token ≡ codes "legacy" → ⊥)
    → (token ≡ codes "declare" → ⊥)
    → (token ≡ codes "main" → ⊥)
    → (token ≡ codes "frames" → ⊥)
    → (token ≡ codes "forget" → ⊥)
    → (command : Command)
    → IsOtherForm (token ∷ tokens) command
    → ⊥
no_other token tokens drops attaches joins roles offers cuts accepts adds declares begins tells forgets (Command.Legacy name address lvr) form = adds (ap first_of form.0.3)
no_other token tokens drops attaches joins roles offers cuts accepts adds declares begins tells forgets (Command.Declare address identity) form = declares (ap first_of form.0.1)
no_other token tokens drops attaches joins roles offers cuts accepts adds declares begins tells forgets (Command.Main name setup) form = begins (ap first_of form.0.1)
no_other token tokens drops attaches joins roles offers cuts accepts adds declares begins tells forgets (Command.Attach name setup) form = attaches (ap first_of form.0.1)
no_other token tokens drops attaches joins roles offers cuts accepts adds declares begins tells forgets (Command.DropOff name) form = drops (ap first_of form.0.1)
no_other token tokens drops attaches joins roles offers cuts accepts adds declares begins tells forgets (Command.Raise name byte) form = form.1
no_other token tokens drops attaches joins roles offers cuts accepts adds declares begins tells forgets (Command.AskJoin name) form = joins (ap first_of form.0.1)
no_other token tokens drops attaches joins roles offers cuts accepts adds declares begins tells forgets (Command.AskRole name) form = roles (ap first_of form.0.1)
no_other token tokens drops attaches joins roles offers cuts accepts adds declares begins tells forgets (Command.Frame frame) form = form.1
no_other token tokens drops attaches joins roles offers cuts accepts adds declares begins tells forgets (Command.HandOver to) form = offers (ap first_of form.0.1)
no_other token tokens drops attaches joins roles offers cuts accepts adds declares begins tells forgets Command.Open form = form.1
no_other token tokens drops attaches joins roles offers cuts accepts adds declares begins tells forgets Command.Round form = form.1
no_other token tokens drops attaches joins roles offers cuts accepts adds declares begins tells forgets Command.End form = form.1
no_other token tokens drops attaches joins roles offers cuts accepts adds declares begins tells forgets Command.Daa form = form.1
no_other token tokens drops attaches joins roles offers cuts accepts adds declares begins tells forgets (Command.As name sent) form = form.1
no_other token tokens drops attaches joins roles offers cuts accepts adds declares begins tells forgets (Command.Policy policy) form = accepts (ap first_of form.0.1)
no_other token tokens drops attaches joins roles offers cuts accepts adds declares begins tells forgets (Command.PolicyBut kinds but) form = accepts (ap first_of form.0.1)
no_other token tokens drops attaches joins roles offers cuts accepts adds declares begins tells forgets (Command.Cut name bit) form = cuts (ap first_of form.0.2)
no_other token tokens drops attaches joins roles offers cuts accepts adds declares begins tells forgets Command.Show form = form.1
no_other token tokens drops attaches joins roles offers cuts accepts adds declares begins tells forgets Command.ShowAll form = form.1
no_other token tokens drops attaches joins roles offers cuts accepts adds declares begins tells forgets (Command.ShowFrom first) form = form.1
no_other token tokens drops attaches joins roles offers cuts accepts adds declares begins tells forgets (Command.Forget last) form = forgets (ap first_of form.0.1)
no_other token tokens drops attaches joins roles offers cuts accepts adds declares begins tells forgets Command.Symbols form = form.1
no_other token tokens drops attaches joins roles offers cuts accepts adds declares begins tells forgets (Command.Frames count) form = tells (ap first_of form.0.1)
