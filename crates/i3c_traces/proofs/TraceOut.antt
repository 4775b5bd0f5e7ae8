-- What goes out of a text, be it a trace or not.
use Rattle.std.proofs.Common.{◌≡◌, ◌⊎◌, ℕ, Bool, true, false, All, List, [], map, min, inl, inr, ⊎_elim, Option, Some, None, IfErr, IfSome, IsErr, MatchResult, OnOk, Result, Ok, Err, refl, subst, sym}
use Rattle.std.specs.Io.KnownBytes.{Appends, Keeps}
use Rattle.i3c_ccc.specs.declared.codes.CodeSet.{CodeSet}
use Rattle.i3c_frame.specs.declared.frames.Break.{Break}
use Rattle.i3c_frame.specs.declared.symbols.Symbol.{Symbol}
use Rattle.i3c_frame.specs.declared.traces.TraceFault.{TraceFault}
use Rattle.i3c_frame.specs.Parts.{parts}
use Rattle.i3c_frame.specs.Texts.{IsInRange, text_of}
use Rattle.i3c_frame.specs.Traces.{IsFirstFault, IsTrace}
use Rattle.i3c_wave.specs.declared.captured.FrameMark.{FrameMark}
use Rattle.i3c_monitor.specs.Trace.{trace_told}
use Rattle.i3c_streams.specs.declared.faults.ScriptFault.{ScriptFault}
use Rattle.i3c_streams.specs.declared.tally.Tally.{Tally}
use Rattle.i3c_streams.specs.Outcomes.{AppendsSome}
use Rattle.i3c_streams.specs.Faults.{IsLineFault}
use Rattle.i3c_traces.specs.Symbols.{AreTold, fault_of}
use Rattle.i3c_traces.specs.Traces.{CameTo, Goes, IsTold, ascii, fault_line, refused_in, trace_text}

-- a text that is a trace
pub trace_out : (codes : CodeSet) (old new : Option (List ℕ)) (result : Result Tally ScriptFault) (text : List ℕ) (trace : List Symbol)
    → IsTrace trace → All IsInRange trace → map text_of trace ≡ parts text
    → MatchResult result (λ tally. (tally.refused ≡ min (refused_in [] (trace_told codes trace)) 18446744073709551615) × Appends old new (trace_text codes trace []))
    (λ fault. IsLineFault fault × AppendsSome old new (trace_text codes trace []))
    → Goes (IsTold codes text) old new result
trace_out codes old new (Ok tally) text trace is range same tells =
    (trace_text codes trace [], inl (record { trace = trace; is_trace = is; in_range = range; same = same; told = refl; counted = tells.0 }), tells.1)
trace_out codes old new (Err fault) text trace is range same tells =
    let n = min (refused_in [] (trace_told codes trace)) 18446744073709551615 in
    inr (trace_text codes trace [], n, inl (record { trace = trace; is_trace = is; in_range = range; same = same; told = refl; counted = refl }), tells.1)

-- a text that is none, or for whose symbols there was no memory
pub fault_out : (codes : CodeSet) (old new : Option (List ℕ)) (result : Result Tally ScriptFault) (text : List ℕ) (fault : TraceFault)
    → (fault ≡ TraceFault.OutOfMemory) ⊎ IsFirstFault (parts text) fault
    → MatchResult result (λ tally. (tally.refused ≡ 1) × Appends old new (fault_line fault)) (λ stop. IsLineFault stop × AppendsSome old new (fault_line fault))
    → (fault ≡ TraceFault.OutOfMemory → (result ≡ Err ScriptFault.Memory) × Keeps old new)
    → Goes (IsTold codes text) old new result
fault_out codes old new result text fault (inl lacks) tells memory =
    let ends = memory lacks in subst (Goes (IsTold codes text) old new) (sym ends.0) (inl ends.1)
fault_out codes old new (Ok tally) text fault (inr first) tells memory =
    (fault_line fault, inr (record { fault = fault; first = first; told = refl; counted = tells.0 }), tells.1)
fault_out codes old new (Err stop) text fault (inr first) tells memory =
    inr (fault_line fault, 1, inr (record { fault = fault; first = first; told = refl; counted = refl }), tells.1)

-- symbols that are told without faults
pub told_out : (codes : CodeSet) (symbols : List Symbol) (marks : List FrameMark) (old new : Option (List ℕ)) (result : Result Tally ScriptFault)
    → MatchResult result (λ tally. (tally.refused ≡ min (refused_in marks (trace_told codes symbols)) 18446744073709551615) × Appends old new (trace_text codes symbols marks))
    (λ fault. IsLineFault fault × AppendsSome old new (trace_text codes symbols marks))
    → Goes (AreTold codes symbols None marks) old new result
told_out codes symbols marks old new (Ok tally) tells = (trace_text codes symbols marks, (refl, tells.0), tells.1)
told_out codes symbols marks old new (Err fault) tells =
    inr (trace_text codes symbols marks, min (refused_in marks (trace_told codes symbols)) 18446744073709551615, (refl, refl), tells.1)

-- the line of a fault alone
pub broken_out : (codes : CodeSet) (symbols : List Symbol) (broken : Break) (marks : List FrameMark) (old new : Option (List ℕ)) (result : Result Tally ScriptFault)
    → MatchResult result (λ tally. (tally.refused ≡ 1) × Appends old new (fault_line (fault_of broken)))
    (λ stop. IsLineFault stop × AppendsSome old new (fault_line (fault_of broken)))
    → Goes (AreTold codes symbols (Some broken) marks) old new result
broken_out codes symbols broken marks old new (Ok tally) tells = (fault_line (fault_of broken), (refl, tells.0), tells.1)
broken_out codes symbols broken marks old new (Err stop) tells = inr (fault_line (fault_of broken), 1, (refl, refl), tells.1)

-- what goes out of the lines that there may be goes out of more that there may be
pub goes_as : (May More : List ℕ → ℕ → Type 0) (old new : Option (List ℕ)) (result : Result Tally ScriptFault) → ((lines : List ℕ) (refused : ℕ) → May lines refused → More lines refused)
    → Goes May old new result → Goes More old new result
goes_as May More old new (Ok tally) more out = (out.0, more out.0 tally.refused out.1, out.2)
goes_as May More old new (Err fault) more out = ⊎_elim (λ kept. inl kept) (λ some. inr (some.0, some.1, more some.0 some.1 some.2, some.3)) out

-- what goes out of a text is what goes out of its bytes
pub came_out : (Gives : List ℕ → List ℕ → ℕ → Type 0) (known old new : Option (List ℕ)) (result : Result Tally ScriptFault) (text : List ℕ)
    → IfSome known (λ bytes. text ≡ map ascii bytes) → Goes (Gives text) old new result → Goes (CameTo Gives known) old new result
came_out Gives known old new result text read out = goes_as (Gives text) (CameTo Gives known) old new result (λ lines refused gives. (text, read, gives)) out

-- no line ends with a trace that is too large
IsNotLarge : ScriptFault → Type 0
IsNotLarge ScriptFault.TooLarge = ⊥
IsNotLarge ScriptFault.Memory = Unit {0}
IsNotLarge ScriptFault.Read = Unit {0}
IsNotLarge ScriptFault.Write = Unit {0}

line_fault : (fault : ScriptFault) → IsLineFault fault → IsNotLarge fault
unfolding IsNotLarge
line_fault fault (inl is) = subst IsNotLarge (sym is) tt
line_fault fault (inr is) = subst IsNotLarge (sym is) tt

pub not_large : {A B : Type 0} (result : Result B ScriptFault) → IfErr result IsLineFault → result ≡ Err ScriptFault.TooLarge → A
unfolding IsNotLarge
not_large result ends large = absurd (line_fault ScriptFault.TooLarge (subst (λ result. IfErr result IsLineFault) large ends))

IsLie : Bool → Type 0
IsLie false = Unit {0}
IsLie true = ⊥

-- where nothing could be read
pub err_keeps : (May : List ℕ → ℕ → Type 0) (old new : Option (List ℕ)) (result : Result Tally ScriptFault) → IsErr result → Keeps old new → Goes May old new result
unfolding IsLie
err_keeps May old new (Ok tally) is kept = absurd (subst IsLie is tt)
err_keeps May old new (Err fault) is kept = inl kept

-- a fact that holds whatever the result
pub anyhow : {E A : Type 0} (P : Type 0) (result : Result A E) → P → OnOk result P
anyhow P (Ok x) h = h
anyhow P (Err e) h = tt
