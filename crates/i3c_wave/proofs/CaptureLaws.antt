-- What was read of a capture's text, chunk by chunk.
use Rattle.std.specs.Prelude.{⊤}
use Rattle.std.proofs.Common.{◌≡◌, ◌⊎◌, ◌∙◌, ℕ, List, [], ◌∷◌, ◌++◌, Option, Some, None, Ok, Err, Result, IfSome, MatchResult, ap, append_assoc, append-nil, inl, inr, refl, subst, sym}
use Rattle.std.specs.Io.KnownBytes.{Consumes, IsAtEnd}
use Rattle.i3c_base.specs.declared.addresses.Addresses.{Addresses}
use Rattle.i3c_wave.specs.declared.capture_fault.CaptureFault.{CaptureFault}
use Rattle.i3c_wave.specs.declared.captured.Captured.{Captured}
use Rattle.i3c_wave.specs.CaptureTexts.{Closed, Ended, IsFound, Input, IsOfReading, byte_read, bytes_read, closed, goes_on, kept, new_input, text_ended, text_read, word_ended}
use Rattle.i3c_wave.specs.Found.{Found, found_in, with_any}

-- the end of a text, behind its last word
pub closing : (scl sda : List ℕ) (input mid : Input) (result : Result ⊤ CaptureFault) (new : Found) → word_ended scl sda input ≡ Ok mid
    → MatchResult result (λ _. Closed (closed mid.reached) mid.found new) (λ fault. (fault ≡ CaptureFault.Memory) ⊎ (closed mid.reached ≡ Err fault))
    → MatchResult result (λ _. Ended scl sda input new) (λ fault. (fault ≡ CaptureFault.Memory) ⊎ (text_ended scl sda input ≡ Err fault))
closing scl sda input mid (Ok done) new word (taken, outcome, same) = (
  record { reached = taken.reached; word = []; found = with_any taken.reached.dump.scale mid.found taken.event },
  ap (λ outcome. goes_on outcome (λ next. kept next.found (closed next.reached))) word ∙ ap (kept mid.found) outcome,
  sym same,
)
closing scl sda input mid (Err fault) new word (inl memory) = inl memory
closing scl sda input mid (Err fault) new word (inr outcome) =
    inr (ap (λ outcome. goes_on outcome (λ next. kept next.found (closed next.reached))) word ∙ ap (kept mid.found) outcome)

-- a step, and what follows it
on_both : (scl sda : List ℕ) (step : Result Input CaptureFault) (xs ys : List ℕ)
    → ((next : Input) → bytes_read scl sda next (xs ++ ys) ≡ goes_on (bytes_read scl sda next xs) (λ last. bytes_read scl sda last ys))
    → goes_on step (λ next. bytes_read scl sda next (xs ++ ys)) ≡ goes_on (goes_on step (λ next. bytes_read scl sda next xs)) (λ last. bytes_read scl sda last ys)
on_both scl sda (Ok input) xs ys more = more input
on_both scl sda (Err fault) xs ys more = refl

-- some bytes, and then others
pub bytes_both : (scl sda : List ℕ) (xs ys : List ℕ) (input : Input) → bytes_read scl sda input (xs ++ ys) ≡ goes_on (bytes_read scl sda input xs) (λ last. bytes_read scl sda last ys)
bytes_both scl sda [] ys input = refl
bytes_both scl sda (x ∷ xs) ys input = on_both scl sda (byte_read scl sda input x) xs ys (bytes_both scl sda xs ys)

-- where some bytes lead somewhere, more lead on from there
pub bytes_on : (scl sda : List ℕ) (xs ys : List ℕ) (first mid : Input) (outcome : Result Input CaptureFault) → bytes_read scl sda first xs ≡ Ok mid → bytes_read scl sda mid ys ≡ outcome
    → bytes_read scl sda first (xs ++ ys) ≡ outcome
bytes_on scl sda xs ys first mid outcome one two =
    bytes_both scl sda xs ys first ∙ ap (λ step. goes_on step (λ last. bytes_read scl sda last ys)) one ∙ two

pub more_read : (a b c : Option (List ℕ)) (first piece : List ℕ) → Consumes a b first → Consumes b c piece → Consumes a c (first ++ piece)
more_read None b c first piece one two = tt
more_read (Some xs) None c first piece one two = absurd one
more_read (Some xs) (Some ys) None first piece one two = absurd two
more_read (Some xs) (Some ys) (Some zs) first piece one two = one ∙ ap (λ bytes. first ++ bytes) two ∙ sym (append_assoc first piece zs)

-- what was read to the end is all that there was
pub all_read : (a b c : Option (List ℕ)) (items : List ℕ) (P : List ℕ → Type 0) → Consumes a b items → Consumes b c [] → IsAtEnd c → P items → IfSome a P
all_read None b c items P one two end h = tt
all_read (Some xs) None c items P one two end h = absurd one
all_read (Some xs) (Some ys) None items P one two end h = absurd two
all_read (Some xs) (Some ys) (Some zs) items P one two end h = subst P (sym (one ∙ ap (λ bytes. items ++ bytes) (two ∙ end) ∙ append-nil items)) h

-- the result of a text whose first bytes give a fault
fault_on : (legacies : Addresses) (scl sda xs ys : List ℕ) (fault : CaptureFault) → bytes_read scl sda (new_input legacies) xs ≡ Err fault → text_read legacies scl sda (xs ++ ys) ≡ Err fault
fault_on legacies scl sda xs ys fault is =
    ap (λ step. goes_on step (text_ended scl sda)) (bytes_both scl sda xs ys (new_input legacies) ∙ ap (λ step. goes_on step (λ last. bytes_read scl sda last ys)) is)

pub fault_read : (a b : Option (List ℕ)) (legacies : Addresses) (scl sda items : List ℕ) (fault : CaptureFault) → Consumes a b items → bytes_read scl sda (new_input legacies) items ≡ Err fault
    → IfSome a (λ text. text_read legacies scl sda text ≡ Err fault)
fault_read None b legacies scl sda items fault one is = tt
fault_read (Some xs) None legacies scl sda items fault one is = absurd one
fault_read (Some xs) (Some ys) legacies scl sda items fault one is = subst (λ text. text_read legacies scl sda text ≡ Err fault) (sym one) (fault_on legacies scl sda items ys fault is)

-- what is found in a text, all of whose bytes were read
pub ended_with : (legacies : Addresses) (scl sda text : List ℕ) (input : Input) (captured : Captured) → bytes_read scl sda (new_input legacies) text ≡ Ok input → Ended scl sda input (found_in captured)
    → IsFound legacies scl sda text captured
ended_with legacies scl sda text input captured is (last, end, same) = (last, ap (λ step. goes_on step (text_ended scl sda)) is ∙ end, same)

-- the fault of a text at its end
pub ended_by : (legacies : Addresses) (scl sda text : List ℕ) (input : Input) (fault : CaptureFault) → bytes_read scl sda (new_input legacies) text ≡ Ok input → text_ended scl sda input ≡ Err fault
    → text_read legacies scl sda text ≡ Err fault
ended_by legacies scl sda text input fault is end = ap (λ step. goes_on step (text_ended scl sda)) is ∙ end

-- a fault of a chunk
pub chunk_fault : (a b : Option (List ℕ)) (legacies : Addresses) (scl sda items piece : List ℕ) (mid : Input) (fault : CaptureFault) → Consumes a b (items ++ piece)
    → bytes_read scl sda (new_input legacies) items ≡ Ok mid → (fault ≡ CaptureFault.Memory) ⊎ (bytes_read scl sda mid piece ≡ Err fault)
    → IsOfReading fault ⊎ IfSome a (λ text. text_read legacies scl sda text ≡ Err fault)
chunk_fault a b legacies scl sda items piece mid fault one is (inl memory) = inl (inl memory)
chunk_fault a b legacies scl sda items piece mid fault one is (inr next) =
    inr (fault_read a b legacies scl sda (items ++ piece) fault one (bytes_on scl sda items piece (new_input legacies) mid (Err fault) is next))

-- a fault at the end
pub end_fault : (a b c : Option (List ℕ)) (legacies : Addresses) (scl sda items : List ℕ) (mid : Input) (fault : CaptureFault) → Consumes a b items → Consumes b c [] → IsAtEnd c
    → bytes_read scl sda (new_input legacies) items ≡ Ok mid → (fault ≡ CaptureFault.Memory) ⊎ (text_ended scl sda mid ≡ Err fault)
    → IsOfReading fault ⊎ IfSome a (λ text. text_read legacies scl sda text ≡ Err fault)
end_fault a b c legacies scl sda items mid fault one two end is (inl memory) = inl (inl memory)
end_fault a b c legacies scl sda items mid fault one two end is (inr last) =
    inr (all_read a b c items (λ text. text_read legacies scl sda text ≡ Err fault) one two end (ended_by legacies scl sda items mid fault is last))
