-- No key before a place is like the one there, or one is.
use Rattle.std.proofs.Common.{◌<◌, Bool, List, [], ap, arith, false, get_or, length, map, not, sym, true}
use Rattle.std.specs.Global.{Vec}
use Rattle.std.proofs.lemmas.List.{length-map}
use Rattle.i3c_tracks.specs.Groups.{are_alike}
use Rattle.i3c_tracks.proofs.GroupLaws.{alike_at}
use Rattle.i3c_tracks.proofs.KeyLaws.{any_at, any_more}
use Rattle.i3c_tracks.proofs.groups.begins_at.Goals as goal

pub returns-then-eq : goal.returns-then-eq
returns-then-eq c =
    let keys = c.args.keys.now in
    let place = c.args.place in
    let i = c.loop-index.index in
    let before : i < place = c.loop-index-test.true in
    let within : place < length keys = c.requires in
    let lt : i < length keys = omega arith in
    let all = map (λ (key : Vec Bool). key.items) keys in
    let inside : place < length all = omega (arith, length-map keys (λ (key : Vec Bool). key.items)) in
    let alike = alike_at keys i place c.index-keys-index.result c.index-keys-place.result c.as_slice.result.now c.as_slice-in-loop-index.result.now true lt c.index-keys-index.is within c.index-keys-place.is c.as_slice.ensures.value c.as_slice-in-loop-index.ensures.value c.if-eq.ensures in
    sym (ap (λ (b : Bool). not b) (any_at (λ (key : List Bool). are_alike key (get_or all place [])) all i place before inside alike))

pub loop-index-preserved : goal.loop-index-preserved
loop-index-preserved c =
    let keys = c.args.keys.now in
    let place = c.args.place in
    let i = c.loop-index.index in
    let before : i < place = c.loop-index-test.true in
    let within : place < length keys = c.requires in
    let lt : i < length keys = omega arith in
    let all = map (λ (key : Vec Bool). key.items) keys in
    let inside : i < length all = omega (arith, length-map keys (λ (key : Vec Bool). key.items)) in
    let alike = alike_at keys i place c.index-keys-index.result c.index-keys-place.result c.as_slice.result.now c.as_slice-in-loop-index.result.now false lt c.index-keys-index.is within c.index-keys-place.is c.as_slice.ensures.value c.as_slice-in-loop-index.ensures.value c.if-eq.ensures in
    any_more (λ (key : List Bool). are_alike key (get_or all place [])) all i inside alike c.loop-index.invariant
