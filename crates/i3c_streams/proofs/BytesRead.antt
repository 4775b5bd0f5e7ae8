-- What was read, chunk by chunk.
use Rattle.std.proofs.Common.{◌≡◌, ◌∙◌, ℕ, List, [], ◌∷◌, ◌++◌, Option, Some, None, IfSome, ap, append_assoc, append-nil, subst, sym}
use Rattle.std.specs.Io.KnownBytes.{Consumes, IsAtEnd}

pub none_read : (a : Option (List ℕ)) (items : List ℕ) → items ≡ [] → Consumes a a items
none_read None items none = tt
none_read (Some xs) items none = sym (ap (λ items. items ++ xs) none)

pub more_read : (a b c : Option (List ℕ)) (first piece all : List ℕ) → Consumes a b first → Consumes b c piece → all ≡ first ++ piece → Consumes a c all
more_read None b c first piece all one two is = tt
more_read (Some xs) None c first piece all one two is = absurd one
more_read (Some xs) (Some ys) None first piece all one two is = absurd two
more_read (Some xs) (Some ys) (Some zs) first piece all one two is =
    one ∙ ap (λ bytes. first ++ bytes) two ∙ sym (append_assoc first piece zs) ∙ ap (λ bytes. bytes ++ zs) (sym is)

-- a text that was read to its end was read whole
pub all_read : (a b : Option (List ℕ)) (items : List ℕ) (P : List ℕ → Type 0) → Consumes a b items → IsAtEnd b → P items → IfSome a P
all_read None b items P one end h = tt
all_read (Some xs) None items P one end h = absurd one
all_read (Some xs) (Some ys) items P one end h = subst P (sym (one ∙ ap (λ bytes. items ++ bytes) end ∙ append-nil items)) h

-- the known bytes that are left
pub unread : Option (List ℕ) → List ℕ
unread None = []
unread (Some bytes) = bytes

-- what was read, with what is left and a last feed, is the script
pub script_is : (known left : Option (List ℕ)) (read front rest : List ℕ) → Consumes known left read → read ≡ front ++ rest → IfSome known (λ script. front ++ (rest ++ (unread left ++ 10 ∷ [])) ≡ script ++ 10 ∷ [])
unfolding unread
script_is None left read front rest consumed same = tt
script_is (Some xs) None read front rest consumed same = absurd consumed
script_is (Some xs) (Some ys) read front rest consumed same =
    sym (append_assoc front rest (ys ++ 10 ∷ [])) ∙ ap (λ bytes. bytes ++ (ys ++ 10 ∷ [])) (sym same) ∙ sym (append_assoc read ys (10 ∷ [])) ∙ ap (λ bytes. bytes ++ 10 ∷ []) (sym consumed)

-- the same when nothing is left
pub ended_is : (known left : Option (List ℕ)) (read bytes : List ℕ) → Consumes known left read → IsAtEnd left → read ++ 10 ∷ [] ≡ bytes → IfSome known (λ script. bytes ≡ script ++ 10 ∷ [])
ended_is None left read bytes consumed end same = tt
ended_is (Some xs) None read bytes consumed end same = absurd consumed
ended_is (Some xs) (Some ys) read bytes consumed end same =
    sym same ∙ ap (λ b. b ++ 10 ∷ []) (sym (append-nil read) ∙ ap (λ b. read ++ b) (sym end) ∙ sym consumed)
