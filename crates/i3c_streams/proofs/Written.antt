-- What several writes in a row append.
use Rattle.std.proofs.Common.{◌≡◌, ◌∙◌, ℕ, zero, suc, ◌+◌, List, [], ◌∷◌, ◌++◌, arith, take, drop, Option, Some, None, ap, subst, sym}
use Rattle.std.proofs.lemmas.List.{append_assoc, take_all}
use Rattle.std.specs.Io.KnownBytes.{Appends, Keeps}

pub appends_both : (a b c : Option (List ℕ)) (first last : List ℕ) → Appends a b first → Appends b c last → Appends a c (first ++ last)
appends_both None b c first last one two = tt
appends_both (Some xs) None c first last one two = absurd one
appends_both (Some xs) (Some ys) None first last one two = absurd two
appends_both (Some xs) (Some ys) (Some zs) first last one two = two ∙ ap (λ bytes. bytes ++ last) one ∙ append_assoc xs first last

pub take_more : (n m : ℕ) (text : List ℕ) → take n text ++ take m (drop n text) ≡ take (n + m) text
take_more zero m text = let e : m ≡ zero + m = omega arith in ap (λ k. take k text) e
take_more (suc n) m [] = take_all m [] (omega arith) ∙ sym (take_all (suc n + m) [] (omega arith))
take_more (suc n) m (x ∷ text) = let e : suc (n + m) ≡ suc n + m = omega arith in ap (λ xs. x ∷ xs) (take_more n m text) ∙ ap (λ k. take k (x ∷ text)) e

-- a text is written in pieces
pub more_written : (a b c : Option (List ℕ)) (text : List ℕ) (n m : ℕ) → Appends a b (take n text) → Appends b c (take m (drop n text)) → Appends a c (take (n + m) text)
more_written a b c text n m one two = subst (Appends a c) (take_more n m text) (appends_both a b c (take n text) (take m (drop n text)) one two)

-- a writer that fails takes nothing
pub still_written : (a b c : Option (List ℕ)) (text : List ℕ) → Appends a b text → Keeps b c → Appends a c text
still_written None b c text one kept = tt
still_written (Some xs) None c text one kept = absurd one
still_written (Some xs) (Some ys) None text one kept = absurd kept
still_written (Some xs) (Some ys) (Some zs) text one kept = kept ∙ one
