use Rattle.std.proofs.Common.{◌≡◌, ◌+◌, ◌++◌, [], ◌∷◌, arith, length, map, rules, sym, ◌∙◌, ap, inl, inr, refl, subst}
use Rattle.std.proofs.lemmas.List.Elements.{All-push}
use Rattle.i3c_frame.specs.declared.firsts.First.TheVariants.{Other}
use Rattle.i3c_frame.specs.declared.traces.FramePosition.TheVariants.{Outside}
use Rattle.i3c_frame.specs.declared.traces.TraceFault.TheVariants.{BadSymbol, NoStop}
use Rattle.i3c_frame.specs.Firsts.{BeginsWith, IsFirst}
use Rattle.i3c_frame.specs.Parts.{parts}
use Rattle.i3c_frame.specs.Texts.{IsInRange, text_of}
use Rattle.i3c_frame.specs.Traces.{IsFirstFault, misplaced}
use Rattle.i3c_frame.proofs.TraceLaws.{ends_inside, fault_behind, no_first_fault, place_after-push, texts_same, whole_push}
use Rattle.i3c_frame.proofs.traces.read_trace_bytes.Goals as goal

pub returns-in_default-first : goal.returns-in_default-first
returns-in_default-first c =
    let counted : c.len-number.result ≡ length c.loop-first.symbols.items = omega (arith, c.loop-first.symbols.ok.0) in
    let other : IsFirst c.loop-first.rest.now Other = subst (IsFirst c.loop-first.rest.now) c.in_default-first.is c.in-Some.ensures in
    let first : IsFirstFault (parts c.args.bytes.now) (BadSymbol (c.len-number.result + 1)) =
    fault_behind _ _ other.1 other.0 c.loop-first.symbols.items c.loop-first.place _ c.loop-first.invariant.whole other.2 c.loop-first.invariant.in_range c.loop-first.invariant.leads
    (inl (other.3, ap (λ n. BadSymbol (n + 1)) counted)) in
    record {
      sound = tt;
      range = tt;
      fault = inr first;
      complete = λ symbols range is_trace same. absurd (no_first_fault _ _ first symbols range is_trace same);
    }

pub returns-in_default-after : goal.returns-in_default-after
returns-in_default-after c =
    let counted : c.len-number.result ≡ length c.loop-first.symbols.items = omega (arith, c.loop-first.symbols.ok.0) in
    let symbol = c.in-Symbol.symbol in
    let begins : BeginsWith c.loop-first.rest.now symbol c.in-Symbol.left.now = subst (IsFirst c.loop-first.rest.now) c.in-Symbol.is c.in-Some.ensures in
    let first : IsFirstFault (parts c.args.bytes.now) c.misplaced.result =
    fault_behind _ _ (parts c.in-Symbol.left.now) (text_of symbol) c.loop-first.symbols.items c.loop-first.place _ c.loop-first.invariant.whole begins.1 c.loop-first.invariant.in_range c.loop-first.invariant.leads
    (inr ((symbol, begins.0, refl, sym c.after.ensures ∙ c.in_default-after.is), c.misplaced.ensures ∙ ap (λ n. misplaced c.loop-first.place (n + 1)) counted)) in
    record {
      sound = tt;
      range = tt;
      fault = inr first;
      complete = λ symbols range is_trace same. absurd (no_first_fault _ _ first symbols range is_trace same);
    }

pub loop-first-preserved : goal.loop-first-preserved
loop-first-preserved c =
    let symbol = c.in-Symbol.symbol in
    let items : c.push.new.self.items ≡ c.loop-first.symbols.items ++ symbol ∷ [] = search rules in
    let begins : BeginsWith c.loop-first.rest.now symbol c.in-Symbol.left.now = subst (IsFirst c.loop-first.rest.now) c.in-Symbol.is c.in-Some.ensures in
    record {
      whole = rw items (whole_push _ _ _ _ _ symbol c.loop-first.invariant.whole begins.1 refl);
      in_range = rw items (All-push IsInRange _ _ c.loop-first.invariant.in_range begins.0);
      leads = rw items (place_after-push Outside _ _ c.loop-first.symbols.items _ c.loop-first.invariant.leads (sym c.in-Some-after.ensures));
    }

pub returns-in-Outside-clause-complete : goal.returns-in-Outside-clause-complete
returns-in-Outside-clause-complete c symbols range is_trace same =
    let all : parts c.args.bytes.now ≡ map text_of c.loop-first.symbols.items = search rules in
    texts_same _ _ c.loop-first.invariant.in_range range (sym all ∙ sym same)

pub returns-in-Opened : goal.returns-in-Opened
returns-in-Opened c =
    let first : IsFirstFault (parts c.args.bytes.now) NoStop = record {
      before = c.loop-first.symbols.items;
      rest = [];
      place = c.loop-first.place;
      whole = c.loop-first.invariant.whole ∙ ap (λ rest. map text_of c.loop-first.symbols.items ++ rest) c.in_default-first_of.ensures;
      in_range = c.loop-first.invariant.in_range;
      leads = c.loop-first.invariant.leads;
      faulty = ends_inside _ _ c.in-Opened.is;
    } in
    record {
      sound = tt;
      range = tt;
      fault = inr first;
      complete = λ symbols range is_trace same. absurd (no_first_fault _ _ first symbols range is_trace same);
    }
