use Rattle.std.proofs.Common.{◌≡◌, ◌++◌, Some, All, length, map}
use Rattle.i3c_frame.specs.declared.traces.FramePosition.TheVariants.{Outside}
use Rattle.i3c_frame.specs.Parts.{parts}
use Rattle.i3c_frame.specs.Texts.{IsInRange, text_of}
use Rattle.i3c_frame.specs.Traces.{place_after}
use Rattle.i3c_frame.proofs.traces.read_trace_bytes.Given as goal

abbrev pub invariant-loop-first : goal.invariant-loop-first
invariant-loop-first l = record {
  whole : parts l.fn.bytes ≡ map text_of l.symbols.items ++ parts l.rest;
  in_range : All IsInRange l.symbols.items;
  leads : place_after Outside l.symbols.items ≡ Some l.place;
}

abbrev pub decreases-loop-first : goal.decreases-loop-first
decreases-loop-first l = length (parts l.rest)
