-- The tokens of a line in which its fault lies.
use Rattle.std.proofs.Common.{◌≡◌, ◌∙◌, ℕ, List, [], ◌∷◌, ◌++◌, ap, append_assoc, sym}
use Rattle.i3c_lines.specs.declared.form_faults.FormFault.{FormFault}
use Rattle.i3c_lines.specs.Faults.{IsAmong, IsSo, IsTokenFault}
use Rattle.i3c_lines.specs.Forms.{tokens_of}

-- the next token is one of them
pub next_among : (token : List ℕ) (before after : List (List ℕ)) → before ≡ token ∷ after → IsAmong token before
next_among token before after is = ([], after, is)

-- a token is one of some tokens and others in front of them
pub among_behind : (token : List ℕ) (front before after : List (List ℕ)) → before ≡ front ++ after → IsAmong token after → IsAmong token before
among_behind token front before after is (some, behind, same) =
    (front ++ some, behind, is ∙ ap (λ t. front ++ t) same ∙ sym (append_assoc front some (token ∷ behind)))

-- and so is the fault
pub fault_behind : (first : List ℕ) (front before after : List (List ℕ)) (fault : FormFault) → before ≡ front ++ after → IsTokenFault first after fault → IsTokenFault first before fault
fault_behind first front before after FormFault.TooLong is so = so
fault_behind first front before after FormFault.Mark is so = so
fault_behind first front before after FormFault.Return is so = so
fault_behind first front before after FormFault.Tab is so = so
fault_behind first front before after FormFault.FirstSpace is so = so
fault_behind first front before after FormFault.TwoSpaces is so = among_behind [] front before after is so
fault_behind first front before after FormFault.LastSpace is so = so
fault_behind first front before after (FormFault.Unknown token) is so = so
fault_behind first front before after (FormFault.Missing field) is so = so
fault_behind first front before after (FormFault.Misfit field token) is so = (among_behind token.now front before after is so.0, so.1)
fault_behind first front before after (FormFault.Surplus token) is so = among_behind token.now front before after is so
fault_behind first front before after (FormFault.Repeated token) is so = among_behind token.now front before after is so
fault_behind first front before after FormFault.MissingFact is so = so
fault_behind first front before after (FormFault.NoFact token) is so = (so.0, among_behind token.now front before after is so.1)

-- one more token is in front
pub front_more : (token : List ℕ) (front all before after : List (List ℕ)) → all ≡ front ++ before → before ≡ token ∷ after → all ≡ (front ++ token ∷ []) ++ after
front_more token front all before after is next = is ∙ ap (λ t. front ++ t) next ∙ sym (append_assoc front (token ∷ []) after)

-- a fault of its tokens is a line's
pub line_so : (line first : List ℕ) (rest : List (List ℕ)) (fault : FormFault) → tokens_of line ≡ first ∷ rest → IsTokenFault first rest fault → IsSo line fault
line_so line first rest FormFault.TooLong is so = absurd so
line_so line first rest FormFault.Mark is so = absurd so
line_so line first rest FormFault.Return is so = absurd so
line_so line first rest FormFault.Tab is so = absurd so
line_so line first rest FormFault.FirstSpace is so = absurd so
line_so line first rest FormFault.TwoSpaces is so = (first, rest, is, so)
line_so line first rest FormFault.LastSpace is so = absurd so
line_so line first rest (FormFault.Unknown token) is so = (first, rest, is, so)
line_so line first rest (FormFault.Missing field) is so = (first, rest, is, so)
line_so line first rest (FormFault.Misfit field token) is so = (first, rest, is, so)
line_so line first rest (FormFault.Surplus token) is so = (first, rest, is, so)
line_so line first rest (FormFault.Repeated token) is so = (first, rest, is, so)
line_so line first rest FormFault.MissingFact is so = (first, rest, is, so)
line_so line first rest (FormFault.NoFact token) is so = (first, rest, is, so)
