-- What goes out of a text: the last of a dump, or the line of a text that is no trace.
use Rattle.std.proofs.Common.{◌≡◌, ◌⊎◌, ◌∙◌, ℕ, List, [], ◌++◌, Option, Some, None, Result, Ok, Err, IfSome, MatchResult, ap, arith, inl, inr, refl, subst, sym}
use Rattle.std.proofs.lemmas.List.{append-nil, take_all}
use Rattle.std.specs.Io.KnownBytes.{Appends, Keeps}
use Rattle.i3c_frame.specs.declared.traces.TraceFault.{TraceFault}
use Rattle.i3c_frame.specs.Parts.{parts}
use Rattle.i3c_frame.specs.Traces.{IsFirstFault}
use Rattle.i3c_streams.specs.declared.faults.ScriptFault.{ScriptFault}
use Rattle.i3c_streams.specs.Faults.{IsLineFault}
use Rattle.i3c_streams.specs.Outcomes.{AppendsSome}
use Rattle.i3c_streams.proofs.Written.{appends_both}
use Rattle.i3c_streams.proofs.WrittenOn.{some_out}
use Rattle.i3c_wave.specs.declared.content.Content.{Content}
use Rattle.i3c_wave.specs.Runs.{GoesOut, fault_line}

-- a prefix of no text is none
none_grown : (old new : Option (List ℕ)) → AppendsSome old new [] → Keeps old new
none_grown None new some = tt
none_grown (Some xs) None some = absurd some.2
none_grown (Some xs) (Some ys) some = some.2 ∙ ap (λ more. xs ++ more) (take_all some.0 [] (omega arith)) ∙ append-nil xs

-- a prefix of the line of the first fault went out
pub prefix_out : (legacies : ℕ) (content : Content) (known old new : Option (List ℕ)) (text : List ℕ) (fault : TraceFault) (stop : ScriptFault) → IfSome known (λ bytes. text ≡ bytes)
    → (fault ≡ TraceFault.OutOfMemory) ⊎ IsFirstFault (parts text) fault → AppendsSome old new (fault_line fault)
    → GoesOut legacies content known old new (Err stop)
prefix_out legacies content known old new text fault stop read (inl lacks) out = inl (none_grown old new (subst (λ fault. AppendsSome old new (fault_line fault)) lacks out))
prefix_out legacies content known old new text fault stop read (inr first) out = inr (fault_line fault, Some fault, record { text = text; read = read; comes = (first, refl) }, out)

-- the last of a text goes out
pub last_out : (a b c : Option (List ℕ)) (first last all : List ℕ) (result : Result (Unit {0}) ScriptFault) → all ≡ first ++ (last ++ []) → Appends a b first
    → MatchResult result (λ _. Appends b c last) (λ fault. (fault ≡ ScriptFault.Write) × AppendsSome b c last)
    → MatchResult result (λ _. Appends a c all) (λ fault. IsLineFault fault × AppendsSome a c all)
last_out a b c first last all (Ok done) is went goes = subst (Appends a c) (sym (is ∙ ap (λ text. first ++ text) (append-nil last))) (appends_both a b c first last went goes)
last_out a b c first last all (Err fault) is went goes = (inr goes.0, subst (AppendsSome a c) (sym is) (some_out a b c first last [] went goes.1))
