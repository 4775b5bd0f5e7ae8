-- What a text asks, and which names are given.
use Rattle.std.proofs.Common.{◌≡◌, ◌++◌, ℕ, List, codes, subst, sym}
use Rattle.i3c_facts.specs.declared.facts.Claim.{Claim}
use Rattle.i3c_facts.specs.declared.marks.Mark.{Mark}
use Rattle.i3c_facts.specs.Forms.{IsMark}
use Rattle.i3c_facts.proofs.Meaning.{one_mark}
use Rattle.i3c_tracks.specs.Questions.{AreAsked, AreBehind, AreOfEnds}

-- a text behind which nothing is expected, by its line
pub not_behind : (text line : List ℕ) → line ≡ codes "expect " ++ text → ((mark : Mark) → IsMark line mark → ⊥) → (claims : List Claim) → AreBehind text claims → ⊥
not_behind text line is none claims there = none (Mark.Expect claims) (subst (λ (l : List ℕ). IsMark l (Mark.Expect claims)) (sym is) there)

same_claims : (one other : List Claim) → Mark.Expect one ≡ Mark.Expect other → one ≡ other
same_claims one other is = cc

-- a text whose claims are not all of ends asks nothing
pub not_of_ends : (text : List ℕ) (facts : List Claim) → AreBehind text facts → (AreOfEnds facts → ⊥) → (claims : List Claim) → AreAsked text claims → ⊥
not_of_ends text facts there others claims asked =
    others (subst AreOfEnds (sym (same_claims facts claims (one_mark (codes "expect " ++ text) (Mark.Expect facts) (Mark.Expect claims) there asked.0))) asked.1)
