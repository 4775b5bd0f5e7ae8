-- Claims, and the tokens that part them.
use denote.Ref.{Bor}
use Rattle.std.proofs.Common.{◌≡◌, ◌∙◌, ℕ, zero, suc, ◌+◌, ◌-◌, ◌<◌, ◌≤◌, Bool, true, false, List, [], ◌∷◌, ap, arith, codes, drop, get_or, length, refl, sym, take}
use Rattle.std.proofs.lemmas.List.{length-drop, take_all}
use Rattle.std.proofs.lemmas.List.Splits.{slice_split-cons_no, slice_split-cons_yes}
use Rattle.std.specs.Cmp.Lexicographic.{same_text}
use Rattle.std.specs.List.{onto_first}
use Rattle.i3c_facts.specs.declared.facts.Claim.{Claim}
use Rattle.i3c_facts.specs.declared.fact.Fact.{Fact}
use Rattle.i3c_facts.specs.Forms.{AreClaims, IsClaim, IsClaimOf, IsFact, is_or, parts, texts}

no_claim_of : (tokens : List (List ℕ)) → ((fact : Fact) → IsFact tokens fact → ⊥) → ((fact : Fact) → IsClaimOf tokens fact true → ⊥) → (fact : Fact) (negated : Bool) → IsClaimOf tokens fact negated → ⊥
no_claim_of tokens plain contrary fact false form = plain fact form
no_claim_of tokens plain contrary fact true form = contrary fact form

-- tokens that are no fact, nor one behind `not`, are no claim
pub no_claim : (tokens : List (List ℕ)) → ((fact : Fact) → IsFact tokens fact → ⊥) → ((fact : Fact) → IsClaimOf tokens fact true → ⊥) → (claim : Claim) → IsClaim tokens claim → ⊥
no_claim tokens plain contrary claim form = no_claim_of tokens plain contrary claim.fact claim.negated form

pub not_or : (token : List ℕ) → (token ≡ codes "or" → ⊥) → is_or token ≡ false
not_or token unlike = elim (is_or token) as (λ b. is_or token ≡ b → b ≡ false) [ true ↦ λ is. absurd (unlike (same_text token (codes "or") (sym is))) | false ↦ λ _. refl ] refl

-- none of the tokens below an index is `or`
abbrev pub IsNoOrBelow : List (Bor (List ℕ)) → ℕ → Type 0
IsNoOrBelow tokens index = (k : ℕ) → k < index → (token : Bor (List ℕ)) → (get_or tokens k token).now ≡ codes "or" → ⊥

-- without an `or` there is one part
pub one_part : (tokens : List (Bor (List ℕ))) → IsNoOrBelow tokens (length tokens) → parts (texts tokens) ≡ texts tokens ∷ []
one_part [] none = refl
one_part (token ∷ tokens) none =
    slice_split-cons_no is_or token.now (texts tokens) (not_or token.now (none 0 (omega arith) token))
    ∙ ap (onto_first token.now) (one_part tokens (λ k within. none (suc k) (omega (arith, within))))

-- the first `or` ends the first part
pub first_part : (tokens : List (Bor (List ℕ))) (at : ℕ) (token : Bor (List ℕ)) → at < length tokens → (get_or tokens at token).now ≡ codes "or" → IsNoOrBelow tokens at
    → parts (texts tokens) ≡ texts (take at tokens) ∷ parts (texts (drop (at + 1) tokens))
first_part [] at token within is none = absurd (omega (arith, within))
first_part (first ∷ tokens) zero token within is none = slice_split-cons_yes is_or first.now (texts tokens) (ap is_or is)
first_part (first ∷ tokens) (suc at) token within is none =
    let more : suc (at + 1) ≡ suc at + 1 = omega arith in
    slice_split-cons_no is_or first.now (texts tokens) (not_or first.now (none 0 (omega arith) token))
    ∙ ap (onto_first first.now) (first_part tokens at token (omega (arith, within)) is (λ k below. none (suc k) (omega (arith, below))))
    ∙ ap (λ n. texts (take (suc at) (first ∷ tokens)) ∷ parts (texts (drop n (first ∷ tokens)))) more

-- the same of tokens that are cut off
pub first_part_cut : (tokens : List (Bor (List ℕ))) (at : ℕ) (token : Bor (List ℕ)) → at < length tokens → (get_or tokens at token).now ≡ codes "or" → IsNoOrBelow tokens at
    → parts (texts tokens) ≡ texts (take at tokens) ∷ parts (texts (take (length tokens - (at + 1)) (drop (at + 1) tokens)))
first_part_cut tokens at token within is none =
    let rest : length (drop (at + 1) tokens) ≤ length tokens - (at + 1) = omega (arith, length-drop (at + 1) tokens) in
    first_part tokens at token within is none ∙ ap (λ ws. texts (take at tokens) ∷ parts (texts ws)) (sym (take_all (length tokens - (at + 1)) (drop (at + 1) tokens) rest))

-- a first part that is no claim
pub no_claims : (part : List (List ℕ)) (more : List (List (List ℕ))) (claims : List Claim) → ((claim : Claim) → IsClaim part claim → ⊥) → AreClaims (part ∷ more) claims → ⊥
no_claims part more [] none are = are
no_claims part more (claim ∷ claims) none are = none claim are.0
