-- The faults of a mark's tokens are its line's.
use Rattle.std.proofs.Common.{◌≡◌, ◌∙◌, ℕ, List, [], ◌∷◌, ◌++◌, Option, Some, None, MatchOption, ap, codes, inl, inr, subst, sym}
use Rattle.i3c_lines.specs.declared.form_faults.FormFault.{FormFault}
use Rattle.i3c_lines.specs.Faults.{IsFactsWord, IsSo, IsTokenFault}
use Rattle.i3c_lines.specs.Forms.{tokens_of}
use Rattle.i3c_lines.proofs.FaultLaws.{front_more, line_so}
use Rattle.i3c_facts.specs.MarkFaults.{BeginsMark, IsMarkFault, IsMarkWord, IsPlainWord, IsWordFault}

-- the first of some tokens
abbrev first_of : List (List ℕ) → List ℕ
first_of [] = []
first_of (token ∷ tokens) = token

-- a fault of the tokens behind a line's first is the line's
pub of_line : (line first : List ℕ) (rest : List (List ℕ)) (result : Option FormFault) → tokens_of line ≡ first ∷ rest → MatchOption result (IsMarkWord first → ⊥) (λ fault. IsWordFault first rest fault)
    → MatchOption result (BeginsMark line → ⊥) (λ fault. IsMarkFault line fault)
of_line line first rest None is none = λ (one, more, same, word). none (subst IsMarkWord (ap first_of (sym same ∙ is)) word)
of_line line first rest (Some fault) is so = (first, rest, is, so)

-- and what they say of the line is so
pub mark_so : (line : List ℕ) (fault : FormFault) → IsMarkFault line fault → IsSo line fault
mark_so line fault (first, rest, is, (so, of_facts)) = line_so line first rest fault is so

-- a token that is neither `expect` nor `always` begins no facts
pub no_facts : (first : List ℕ) → (first ≡ codes "expect" → ⊥) → (first ≡ codes "always" → ⊥) → IsFactsWord first → ⊥
no_facts first expect always (inl is) = expect is
no_facts first expect always (inr is) = always is

-- one that is none of the other words begins no other mark
pub no_plain : (first : List ℕ) → (first ≡ codes "anywhere" → ⊥) → (first ≡ codes "any" → ⊥) → (first ≡ codes "track" → ⊥) → (first ≡ codes "close" → ⊥) → IsPlainWord first → ⊥
no_plain first anywhere any track close (inl is) = anywhere is
no_plain first anywhere any track close (inr (inl is)) = any is
no_plain first anywhere any track close (inr (inr (inl is))) = track is
no_plain first anywhere any track close (inr (inr (inr is))) = close is

-- one that is none of both begins no mark
pub no_mark : (first : List ℕ) → (IsFactsWord first → ⊥) → (IsPlainWord first → ⊥) → IsMarkWord first → ⊥
no_mark first facts plain (inl is) = facts is
no_mark first facts plain (inr is) = plain is

-- a fault behind a token that begins no facts
pub behind_plain : (first : List ℕ) (rest : List (List ℕ)) (fault : FormFault) → (IsFactsWord first → ⊥) → IsTokenFault first rest fault → IsWordFault first rest fault
behind_plain first rest fault none so = (so, λ is. absurd (none is))

-- one more token was passed over
pub one_passed : (token : List ℕ) (all before after : List (List ℕ)) → ((front : List (List ℕ)) × (all ≡ front ++ before)) → before ≡ token ∷ after → (front : List (List ℕ)) × (all ≡ front ++ after)
one_passed token all before after (front, is) next = (front ++ token ∷ [], front_more token front all before after is next)
