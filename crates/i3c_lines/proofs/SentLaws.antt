-- Lines that a controller sends, among all lines.
use Rattle.std.proofs.Common.{◌≡◌, ◌∙◌, ℕ, List, [], ◌∷◌, ◌++◌, OnOk, Option, Some, None, Result, Ok, Err, ap, append_assoc, append-nil, arith, codes, refl, sym}
use Rattle.i3c_base.specs.declared.datum.Direction.{Direction}
use Rattle.i3c_step.specs.declared.events.Command.{Command as Frame}
use Rattle.i3c_lines.specs.declared.command.Command.{Command}
use Rattle.i3c_lines.specs.declared.sent.Sent.{Sent}
use Rattle.i3c_lines.specs.Data.{datum_name}
use Rattle.i3c_lines.specs.Forms.{IsForm, IsSentForm, tokens_of}
use Rattle.i3c_lines.specs.Parsing.{Becomes, BecomesOther, BecomesSent, IsOther}
use Rattle.i3c_lines.specs.Printing.{behind, sent_tokens, spaced}
use Rattle.i3c_lines.specs.Sending.{bare}
use Rattle.i3c_lines.proofs.LineLaws.{line_is}
use Rattle.i3c_lines.proofs.Meanings.{letter_of}

-- such a line has the form of its command
form_of : (tokens : List (List ℕ)) (sent : Sent) → IsSentForm tokens sent → IsForm tokens (bare sent)
form_of tokens (Sent.Frame frame) is = is
form_of tokens (Sent.HandOver to) is = is
form_of tokens Sent.Open is = is
form_of tokens Sent.Round is = is
form_of tokens Sent.End is = is
form_of tokens Sent.Daa is = is

-- so where no command was read, no such line was
pub sent_becomes : (tokens : List (List ℕ)) (result : Option (Unit {0})) (old new : Command) → Becomes tokens result old new → BecomesSent tokens result new
sent_becomes tokens None old new (none, same) = λ sent is. none (bare sent) (form_of tokens sent is)
sent_becomes tokens (Some done) old new is = is

begins_with : (byte n : ℕ) (tail token : List ℕ) (rest : List (List ℕ)) → tokens_of (byte ∷ tail) ≡ (n ∷ token) ∷ rest → byte ≡ n
begins_with byte n tail token [] e = ap letter_of (line_is (byte ∷ tail) ((n ∷ token) ∷ []) e)
begins_with byte n tail token (next ∷ more) e = ap letter_of (line_is (byte ∷ tail) ((n ∷ token) ∷ next ∷ more) e)

-- of these lines `handover` alone begins with an `h`, and it is read token by token
other_sent : (tail : List ℕ) (sent : Sent) → IsSentForm (tokens_of (104 ∷ tail)) sent → IsOther (bare sent)
other_sent tail (Sent.Frame Frame.Serve) e = absurd (omega (arith, begins_with 104 115 tail (codes "erve") [] e))
other_sent tail (Sent.Frame (Frame.Enec to kinds)) (rest, e, are) = absurd (omega (arith, begins_with 104 101 tail (codes "nec") rest e))
other_sent tail (Sent.Frame (Frame.Disec to kinds)) (rest, e, are) = absurd (omega (arith, begins_with 104 100 tail (codes "isec") rest e))
other_sent tail (Sent.Frame Frame.Reset) e = absurd (omega (arith, begins_with 104 114 tail (codes "eset") [] e))
other_sent tail (Sent.Frame Frame.SendList) e = absurd (omega (arith, begins_with 104 108 tail (codes "ist") [] e))
other_sent tail (Sent.Frame (Frame.ReadFrom at)) (token, e, is) = absurd (omega (arith, begins_with 104 114 tail (codes "ead") (token ∷ []) e))
other_sent tail (Sent.Frame (Frame.WriteTo at bytes)) (token, rest, e, is, are) = absurd (omega (arith, begins_with 104 119 tail (codes "rite") (token ∷ rest) e))
other_sent tail (Sent.Frame (Frame.SetStatic at to)) (rest, e, are) = absurd (omega (arith, begins_with 104 115 tail (codes "etdasa") rest e))
other_sent tail (Sent.Frame (Frame.SetNew at to)) (rest, e, are) = absurd (omega (arith, begins_with 104 115 tail (codes "etnewda") rest e))
other_sent tail (Sent.Frame (Frame.Get what at)) (token, e, is) = absurd (omega (arith, begins_with 104 103 tail (codes "et" ++ datum_name what) (token ∷ []) e))
other_sent tail (Sent.Frame (Frame.SetLength Direction.Write most to)) (rest, e, are) = absurd (omega (arith, begins_with 104 115 tail (codes "etmwl") rest e))
other_sent tail (Sent.Frame (Frame.SetLength Direction.Read most to)) (rest, e, are) = absurd (omega (arith, begins_with 104 115 tail (codes "etmrl") rest e))
other_sent tail (Sent.HandOver to) is = tt
other_sent tail Sent.Open e = absurd (omega (arith, begins_with 104 111 tail (codes "pen") [] e))
other_sent tail Sent.Round e = absurd (omega (arith, begins_with 104 114 tail (codes "ound") [] e))
other_sent tail Sent.End e = absurd (omega (arith, begins_with 104 101 tail (codes "nd") [] e))
other_sent tail Sent.Daa e = absurd (omega (arith, begins_with 104 100 tail (codes "aa") [] e))

pub other_becomes : (tail : List ℕ) (result : Option (Unit {0})) (old new : Command) → BecomesOther (tokens_of (104 ∷ tail)) result old new → BecomesSent (tokens_of (104 ∷ tail)) result new
other_becomes tail None old new (none, same) = λ sent is. none (bare sent) (form_of (tokens_of (104 ∷ tail)) sent is, other_sent tail sent is)
other_becomes tail (Some done) old new (is, other) = is

-- such a line has a token at least
behind_sent : (sent : Sent) → behind (sent_tokens sent) ≡ 32 ∷ spaced (sent_tokens sent)
behind_sent (Sent.Frame Frame.Serve) = refl
behind_sent (Sent.Frame (Frame.Enec to kinds)) = refl
behind_sent (Sent.Frame (Frame.Disec to kinds)) = refl
behind_sent (Sent.Frame Frame.Reset) = refl
behind_sent (Sent.Frame Frame.SendList) = refl
behind_sent (Sent.Frame (Frame.ReadFrom at)) = refl
behind_sent (Sent.Frame (Frame.WriteTo at bytes)) = refl
behind_sent (Sent.Frame (Frame.SetStatic at to)) = refl
behind_sent (Sent.Frame (Frame.SetNew at to)) = refl
behind_sent (Sent.Frame (Frame.Get what at)) = refl
behind_sent (Sent.Frame (Frame.SetLength way most to)) = refl
behind_sent (Sent.HandOver to) = refl
behind_sent Sent.Open = refl
behind_sent Sent.Round = refl
behind_sent Sent.End = refl
behind_sent Sent.Daa = refl

-- `as NAME` was printed, a space, and such a line
pub as_printed : {E : Type 0} (result : Result (Unit {0}) E) (old named mid new name : List ℕ) (sent : Sent) → named ≡ old ++ spaced (codes "as" ∷ name ∷ []) → mid ≡ named ++ 32 ∷ [] → OnOk result (new ≡ mid ++ spaced (sent_tokens sent))
    → OnOk result (new ≡ old ++ spaced (codes "as" ∷ name ∷ sent_tokens sent))
as_printed (Ok done) old named mid new name sent first then last =
    let line = spaced (sent_tokens sent) in
    last ∙ ap (λ t. t ++ line) then ∙ append_assoc named (32 ∷ []) line ∙ ap (λ t. t ++ 32 ∷ line) first ∙ append_assoc old (spaced (codes "as" ∷ name ∷ [])) (32 ∷ line)
    ∙ ap (λ t. old ++ 97 ∷ 115 ∷ 32 ∷ (t ++ 32 ∷ line)) (append-nil name) ∙ ap (λ t. old ++ 97 ∷ 115 ∷ 32 ∷ (name ++ t)) (sym (behind_sent sent))
as_printed (Err why) old named mid new name sent first then last = tt
