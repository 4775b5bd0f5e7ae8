-- What goes out, one text behind the other.
use Rattle.std.proofs.Common.{◌≡◌, ◌≤◌, ◌∙◌, ℕ, ◌+◌, List, ◌++◌, length, take, arith, Option, Some, None, ap, append_assoc, length-append, min, refl, subst, sym}
use Rattle.std.proofs.Math.Seq.{take-append-add}
use Rattle.std.proofs.lemmas.List.{take-append-le, take_all}
use Rattle.std.specs.Io.KnownBytes.{Appends, Keeps}
use Rattle.i3c_streams.specs.Outcomes.{AppendsSome}
use Rattle.i3c_streams.proofs.Written.{appends_both}

-- where nothing was written
pub same_out : (a : Option (List ℕ)) → Keeps a a
same_out None = tt
same_out (Some xs) = refl

-- the lines before went out, and of one some
pub some_out : (a b c : Option (List ℕ)) (first line rest : List ℕ) → Appends a b first → AppendsSome b c line → AppendsSome a c (first ++ (line ++ rest))
some_out a b c first line rest all some =
    let n = some.0 in
    let within : length first + n ≤ length (first ++ (line ++ rest)) = omega (arith, some.1, length-append first (line ++ rest), length-append line rest) in
    let cut : take (length first + n) (first ++ (line ++ rest)) ≡ first ++ take n line =
    take-append-add first (line ++ rest) n ∙ ap (λ bytes. first ++ bytes) (take-append-le n line rest some.1) in
    (length first + n, within, subst (Appends a c) (sym cut) (appends_both a b c first (take n line) all some.2))

-- the lines before went out
pub front_out : (a b : Option (List ℕ)) (first rest : List ℕ) → Appends a b first → AppendsSome a b (first ++ rest)
front_out a b first rest all =
    let within : length first ≤ length (first ++ rest) = omega (arith, length-append first rest) in
    let same : take (length first) (first ++ rest) ≡ first =
    take-append-le (length first) first rest (omega arith) ∙ take_all (length first) first (omega arith) in
    (length first, within, subst (Appends a b) (sym same) all)

-- refusals are counted as far as a number goes
pub count_on : (counted more next rest : ℕ) → next ≡ min (counted + more) 18446744073709551615
    → min (counted + (more + rest)) 18446744073709551615 ≡ min (next + rest) 18446744073709551615
count_on counted more next rest is = omega (arith, is)

-- one line more is gathered behind what went out and a text
pub gathered_on : (all first text line more : List ℕ) → all ≡ first ++ (text ++ (line ++ more)) → all ≡ first ++ ((text ++ line) ++ more)
gathered_on all first text line more is = is ∙ ap (λ rest. first ++ rest) (sym (append_assoc text line more))

-- the front of the text goes out too
pub written_on : (all first text front left more : List ℕ) → all ≡ first ++ (text ++ more) → text ≡ front ++ left → all ≡ (first ++ front) ++ (left ++ more)
written_on all first text front left more is cut =
    is ∙ ap (λ text. first ++ (text ++ more)) cut ∙ ap (λ rest. first ++ rest) (append_assoc front left more) ∙ sym (append_assoc first front (left ++ more))
