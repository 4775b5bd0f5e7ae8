-- What goes out of a script as a dump, line by line.
use Rattle.std.proofs.Common.{◌≡◌, ◌∙◌, ℕ, List, [], ◌∷◌, ◌++◌, Option, IfSome, Result, Ok, Err, ap, append_assoc, append-nil, inl, inr, refl, subst, sym}
use Rattle.std.specs.Io.KnownBytes.{Appends}
use Rattle.i3c_runner.specs.Expecting.{HasBegun}
use Rattle.i3c_wave.specs.declared.content.Content.{Content}
use Rattle.i3c_wave.specs.declared.wave.Wave.{Wave}
use Rattle.i3c_wave.specs.Dump.{free_bus}
use Rattle.i3c_wave.specs.Scripts.{script_preamble}
use Rattle.i3c_streams.specs.declared.faults.ScriptFault.{ScriptFault}
use Rattle.i3c_streams.specs.declared.tally.Tally.{Tally}
use Rattle.i3c_streams.specs.Outcomes.{AppendsSome, Puts, PutsOrFails, output}
use Rattle.i3c_runner.specs.ScriptSteps.{Progress}
use Rattle.i3c_runner.specs.Viewed.{AreRun, AreSeen, Fails, Shown, ViewedGoes, Views, bytes_of}
use Rattle.i3c_runner.proofs.Gathered.{flush_all, flush_some, puts_both, puts_none, some_puts}
use Rattle.i3c_streams.proofs.WrittenOn.{front_out}
use Rattle.i3c_runner.proofs.ViewRuns.{bytes_more}
use Rattle.i3c_cli.specs.Wavings.{Dumping, FailsLine, GoesLast, IsWaved, WavesLine, WentOut, after_wire, dump_at, script_dump, seen_dump, shown_dump}

-- the dump after lines, one after another
abbrev after_lines : ℕ → Wave → List Shown → Wave
after_lines legacies wave [] = wave
after_lines legacies wave (shown ∷ rest) = after_lines legacies (after_wire legacies wave shown.wire) rest

-- lines, and one more
dump_more : (legacies : ℕ) (wave : Wave) (lines : List Shown) (last : Shown) → shown_dump legacies wave (lines ++ last ∷ []) ≡ shown_dump legacies wave lines ++ seen_dump legacies (after_lines legacies wave lines) last.line last.printed last.wire
dump_more legacies wave [] last = append-nil (seen_dump legacies wave last.line last.printed last.wire)
dump_more legacies wave (shown ∷ rest) last =
    let front = seen_dump legacies wave shown.line shown.printed shown.wire in
    let next = after_wire legacies wave shown.wire in
    ap (λ text. front ++ text) (dump_more legacies next rest last) ∙ sym (append_assoc front (shown_dump legacies next rest) (seen_dump legacies (after_lines legacies next rest) last.line last.printed last.wire))

-- the lines before the last one
run_front : (lines : List Shown) (last : Shown) (from to : Progress) → AreRun from (lines ++ last ∷ []) to → (at : Progress) × AreRun from lines at
run_front [] last from to run = (from, refl)
run_front (first ∷ lines) last from to run = let front = run_front lines last run.0 to run.3 in (front.0, (run.0, run.1, run.2, front.1))

bytes_front : (known : Option (List ℕ)) (lines : List Shown) (last : Shown) (rest : List ℕ) → IfSome known (λ script. bytes_of (lines ++ last ∷ []) ++ rest ≡ script ++ 10 ∷ [])
    → IfSome known (λ script. bytes_of lines ++ ((last.line ++ 10 ∷ []) ++ rest) ≡ script ++ 10 ∷ [])
bytes_front known lines last rest first =
    subst (λ bytes. IfSome known (λ script. bytes ≡ script ++ 10 ∷ [])) (ap (λ bytes. bytes ++ rest) (bytes_more lines last) ∙ append_assoc (bytes_of lines) (last.line ++ 10 ∷ []) rest) first

-- a viewer that writes a dump, seen as the dump
abbrev gives : {V : Type 0} → (V → Dumping) → Views V
gives dumping old line printed wire new = WavesLine (dumping old) line printed wire (dumping new)

abbrev fails : {V : Type 0} → (V → Dumping) → Fails V
fails dumping old line printed wire fault new = FailsLine (dumping old) line printed wire fault (dumping new)

-- what lines put behind that were shown
record Seen (old new : Dumping) (lines : List Shown) : Type 0 where
  legacies : new.legacies ≡ old.legacies
  wave : new.wave ≡ after_lines old.legacies old.wave lines
  puts : Puts old.output new.output (shown_dump old.legacies old.wave lines)

seen_puts : {V : Type 0} (dumping : V → Dumping) (lines : List Shown) (old new : V) → AreSeen (gives dumping) old lines new → Seen (dumping old) (dumping new) lines
seen_puts dumping [] old new same = subst (λ v. Seen (dumping old) (dumping v) []) (sym same) (record { legacies = refl; wave = refl; puts = puts_none (dumping old).output })
seen_puts dumping (shown ∷ rest) old new (mid, (legacies, wave, puts), seen) =
    let a = dumping old in
    let b = dumping mid in
    let c = dumping new in
    let more = seen_puts dumping rest mid new seen in
    let next = after_wire a.legacies a.wave shown.wire in
    record {
      legacies = more.legacies ∙ legacies;
      wave = more.wave ∙ ap (λ n. after_lines n b.wave rest) legacies ∙ ap (λ w. after_lines a.legacies w rest) wave;
      puts = puts_both a.output b.output c.output (seen_dump a.legacies a.wave shown.line shown.printed shown.wire) (shown_dump a.legacies next rest) puts
          (subst (λ w. Puts b.output c.output (shown_dump a.legacies w rest)) wave (subst (λ n. Puts b.output c.output (shown_dump n b.wave rest)) legacies more.puts));
    }

-- the lines that were run, which were put behind, and what goes out last, where a fault ended the run
part_out : (legacies : ℕ) (content : Content) (known a b c : Option (List ℕ)) (text : List ℕ) (fault : ScriptFault) (result : Result Tally ScriptFault) (from to : Progress) (lines : List Shown) (rest : List ℕ) → HasBegun from.state → AreRun from lines to
    → IfSome known (λ script. bytes_of lines ++ rest ≡ script ++ 10 ∷ []) → Puts (output a (script_preamble content)) (output b text) (shown_dump legacies (free_bus content) lines) → GoesLast b c text (Err fault) result → IsWaved legacies content known a c result
part_out legacies content known a b c text fault result from to lines rest begun run first puts last = go fault last where
  part : (stop : ScriptFault) → WentOut stop a c (script_dump legacies content lines) → IsWaved legacies content known a c (Err stop)
  part stop out = inr record { from = from; to = to; lines = lines; rest = rest; begun = begun; run = run; first = first; out = out }

  all : Appends b c text → Appends a c (script_dump legacies content lines)
  all out = let (front, one, e) = flush_all (output a (script_preamble content)) (output b text) c (shown_dump legacies (free_bus content) lines) puts out in subst (Appends a c) (sym (e ∙ append-nil front)) one

  some : AppendsSome b c text → AppendsSome a c (script_dump legacies content lines)
  some out = flush_some (output a (script_preamble content)) (output b text) c (shown_dump legacies (free_bus content) lines) puts out

  kept : c ≡ b → AppendsSome a c (script_dump legacies content lines)
  kept same = subst (AppendsSome a c) (sym puts.2) (subst (λ d. AppendsSome a d (puts.0 ++ text)) (sym same) (front_out a b puts.0 text puts.1))

  go : (stop : ScriptFault) → GoesLast b c text (Err stop) result → IsWaved legacies content known a c result
  go ScriptFault.Write (is, same) = subst (IsWaved legacies content known a c) (sym is) (part ScriptFault.Write (kept same))
  go ScriptFault.Memory (inl (is, out)) = subst (IsWaved legacies content known a c) (sym is) (part ScriptFault.Memory (all out))
  go ScriptFault.Memory (inr (is, out)) = subst (IsWaved legacies content known a c) (sym is) (part ScriptFault.Write (some out))
  go ScriptFault.Read (inl (is, out)) = subst (IsWaved legacies content known a c) (sym is) (part ScriptFault.Read (all out))
  go ScriptFault.Read (inr (is, out)) = subst (IsWaved legacies content known a c) (sym is) (part ScriptFault.Write (some out))
  go ScriptFault.TooLarge (inl (is, out)) = subst (IsWaved legacies content known a c) (sym is) (part ScriptFault.TooLarge (all out))
  go ScriptFault.TooLarge (inr (is, out)) = subst (IsWaved legacies content known a c) (sym is) (part ScriptFault.Write (some out))

-- lines that were put behind the beginning of a dump
from_start : (legacies : ℕ) (content : Content) (a b : Option (List ℕ)) (text : List ℕ) (old new : Dumping) (lines : List Shown) → old ≡ dump_at legacies (free_bus content) a (script_preamble content) → new.output ≡ output b text
    → Puts old.output new.output (shown_dump old.legacies old.wave lines) → Puts (output a (script_preamble content)) (output b text) (shown_dump legacies (free_bus content) lines)
from_start legacies content a b text old new lines start end puts =
    subst (λ o. Puts (output a (script_preamble content)) o (shown_dump legacies (free_bus content) lines)) end (subst (λ d. Puts d.output new.output (shown_dump d.legacies d.wave lines)) start puts)

-- the same with a prefix of a line, after which the writer failed
cut_start : (legacies : ℕ) (content : Content) (a b : Option (List ℕ)) (text : List ℕ) (old mid new : Dumping) (lines : List Shown) (last : Shown) → old ≡ dump_at legacies (free_bus content) a (script_preamble content) → new.output ≡ output b text
    → Seen old mid lines → PutsOrFails mid.output new.output (seen_dump mid.legacies mid.wave last.line last.printed last.wire) (Err ScriptFault.Write) → AppendsSome a b (script_dump legacies content (lines ++ last ∷ []))
cut_start legacies content a b text old mid new lines last start end seen failed =
    let shown = shown_dump old.legacies old.wave lines in
    let line = seen_dump mid.legacies mid.wave last.line last.printed last.wire in
    let both = some_puts old.output mid.output new.output shown line seen.puts failed in
    let same : shown ++ line ≡ shown_dump old.legacies old.wave (lines ++ last ∷ []) =
    ap (λ n. shown ++ seen_dump n mid.wave last.line last.printed last.wire) seen.legacies ∙ ap (λ w. shown ++ seen_dump old.legacies w last.line last.printed last.wire) seen.wave ∙ sym (dump_more old.legacies old.wave lines last) in
    let whole : AppendsSome old.output.out new.output.out (old.output.gathered ++ shown_dump old.legacies old.wave (lines ++ last ∷ [])) = subst (λ t. AppendsSome old.output.out new.output.out (old.output.gathered ++ t)) same both in
    subst (λ o. AppendsSome a o (script_dump legacies content (lines ++ last ∷ []))) (ap (λ o. o.out) end)
    (subst (λ d. AppendsSome d.output.out new.output.out (d.output.gathered ++ shown_dump d.legacies d.wave (lines ++ last ∷ []))) start whole)

-- what goes out of a script whose lines were shown, from the first one on
pub waved_by : {V : Type 0} (old new : V) (dumping : V → Dumping) (legacies : ℕ) (content : Content) (known a b c : Option (List ℕ)) (text : List ℕ) (outcome result : Result Tally ScriptFault)
    → ViewedGoes (gives dumping) (fails dumping) known old new outcome → dumping old ≡ dump_at legacies (free_bus content) a (script_preamble content) → (dumping new).output ≡ output b text
    → GoesLast b c text outcome result → IsWaved legacies content known a c result
waved_by old new dumping legacies content known a b c text (Ok tally) result (from, begun, none, (to, counted, unmet, whole)) start end (inl (is, out)) =
    let lines = whole.lines in
    let puts = from_start legacies content a b text (dumping old) (dumping new) lines start end (seen_puts dumping lines old new whole.seen).puts in
    let (front, one, e) = flush_all (output a (script_preamble content)) (output b text) c (shown_dump legacies (free_bus content) lines) puts out in
    subst (IsWaved legacies content known a c) (sym is)
    (record { from = from; to = to; lines = lines; begun = begun; none = none; counted = counted; unmet = unmet; run = whole.run; all = whole.all; out = subst (Appends a c) (sym (e ∙ append-nil front)) one })
waved_by old new dumping legacies content known a b c text (Ok tally) result (from, begun, none, (to, counted, unmet, whole)) start end (inr (is, out)) =
    let lines = whole.lines in
    let puts = from_start legacies content a b text (dumping old) (dumping new) lines start end (seen_puts dumping lines old new whole.seen).puts in
    subst (IsWaved legacies content known a c) (sym is)
    (inr (record {
      from = from;
      to = to;
      lines = lines;
      rest = [];
      begun = begun;
      run = whole.run;
      first = subst (λ bytes. IfSome known (λ script. bytes ≡ script ++ 10 ∷ [])) (sym (append-nil (bytes_of lines))) whole.all;
      out = flush_some (output a (script_preamble content)) (output b text) c (shown_dump legacies (free_bus content) lines) puts out;
    }))
waved_by old new dumping legacies content known a b c text (Err fault) result (from, begun, none, inl part) start end last =
    part_out legacies content known a b c text fault result from part.to part.lines part.rest begun part.run part.first
    (from_start legacies content a b text (dumping old) (dumping new) part.lines start end (seen_puts dumping part.lines old new part.seen).puts) last
waved_by old new dumping legacies content known a b c text (Err fault) result (from, begun, none, inr to) start end last = failed_out fault to.failed last where
  failed_out : (stop : ScriptFault) → FailsLine (dumping to.mid) to.last.line to.last.printed to.last.wire stop (dumping new) → GoesLast b c text (Err stop) result → IsWaved legacies content known a c result
  failed_out ScriptFault.Memory none last =
      let d = dumping old in
      let seen = seen_puts dumping to.lines old to.mid to.seen in
      let shown = shown_dump d.legacies d.wave to.lines in
      let puts = subst (Puts d.output (dumping new).output) (append-nil shown) (puts_both d.output (dumping to.mid).output (dumping new).output shown [] seen.puts none) in
      let front = run_front to.lines to.last from to.to to.run in
      part_out legacies content known a b c text ScriptFault.Memory result from front.0 to.lines ((to.last.line ++ 10 ∷ []) ++ to.rest) begun front.1 (bytes_front known to.lines to.last to.rest to.first)
      (from_start legacies content a b text d (dumping new) to.lines start end puts) last
  failed_out ScriptFault.Write cut (is, same) =
      let seen = seen_puts dumping to.lines old to.mid to.seen in
      let out = cut_start legacies content a b text (dumping old) (dumping to.mid) (dumping new) to.lines to.last start end seen cut in
      subst (IsWaved legacies content known a c) (sym is)
      (inr (record {
        from = from;
        to = to.to;
        lines = to.lines ++ to.last ∷ [];
        rest = to.rest;
        begun = begun;
        run = to.run;
        first = to.first;
        out = subst (λ d. AppendsSome a d (script_dump legacies content (to.lines ++ to.last ∷ []))) (sym same) out;
      }))
  failed_out ScriptFault.Read none last = absurd none
  failed_out ScriptFault.TooLarge none last = absurd none
