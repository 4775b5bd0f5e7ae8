-- What comes of a mark, by what is kept.
use Rattle.std.proofs.Common.{◌≡◌, ◌∙◌, ℕ, ◌<◌, List, [], ◌∷◌, ◌++◌, Contains, ap, length, refl, subst, sym}
use Rattle.i3c_every.specs.declared.marks.Taken.{Taken}
use Rattle.i3c_every.specs.declared.marks.Taking.{Taking}
use Rattle.i3c_every.specs.declared.met.Met.{Met}
use Rattle.i3c_every.specs.Taking.{IsTakenAt, Takes}

module _ {S : Type 0} (most : ℕ) (mark : List ℕ) (met : Met S) (old : List (Taken S)) (places : List ℕ) (state : S) (at : places ≡ met.places.items) (in_state : state ≡ met.state) where
  -- a mark that was taken so is known
  pub is_known : (held : List (Taken S)) → held ≡ old → (taken : Taken S) × Contains held taken × IsTakenAt mark places state taken → Takes most mark met old Taking.Known old
  is_known held same (taken, among, (is, stands, stays)) = (refl, (taken, subst (λ l. Contains l taken) same among, (is, stands ∙ at, stays ∙ in_state)))

  -- one that wasn't is new, where there is room
  pub is_new : (held more : List (Taken S)) (taken : Taken S) → held ≡ old → length held < most → IsTakenAt mark met.places.items state taken → more ≡ held ++ taken ∷ [] → Takes most mark met old Taking.New more
  is_new held more taken same few (is, stands, stays) put = (subst (λ l. length l < most) same few, (taken, (is, stands, stays ∙ in_state), put ∙ ap (λ l. l ++ taken ∷ []) same))
