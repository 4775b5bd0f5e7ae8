-- What is gathered, and goes out behind what went out before.
use Rattle.std.proofs.Common.{◌≡◌, ◌∙◌, ℕ, List, [], ◌++◌, Option, None, Some, ap, append_assoc, append-nil, subst, sym}
use Rattle.std.specs.Io.KnownBytes.{Appends}
use Rattle.i3c_streams.specs.Outcomes.{AppendsSome, Output, Puts, PutsSome, written}
use Rattle.i3c_streams.proofs.WrittenOn.{some_out}
use Rattle.i3c_streams.proofs.Written.{appends_both}

pub nothing_out : (out : Option (List ℕ)) → Appends out out []
nothing_out None = tt
nothing_out (Some xs) = sym (append-nil xs)

-- what is written of some texts, one behind the other
pub some_after : (a b c : Option (List ℕ)) (first text : List ℕ) → Appends a b first → AppendsSome b c text → AppendsSome a c (first ++ text)
some_after a b c first text all some = subst (λ t. AppendsSome a c (first ++ t)) (append-nil text) (some_out a b c first text [] all some)

-- nothing is put behind
pub puts_none : (o : Output) → Puts o o []
puts_none o = ([], nothing_out o.out, append-nil o.gathered)

-- what is left after two texts, where some of each goes out
two_texts : (g first last f1 g1 f2 g2 : List ℕ) → g ++ first ≡ f1 ++ g1 → g1 ++ last ≡ f2 ++ g2 → g ++ (first ++ last) ≡ (f1 ++ f2) ++ g2
two_texts g first last f1 g1 f2 g2 one two =
    sym (append_assoc g first last) ∙ ap (λ t. t ++ last) one ∙ append_assoc f1 g1 last ∙ ap (λ t. f1 ++ t) two ∙ sym (append_assoc f1 f2 g2)

-- two texts are put behind
pub puts_both : (a b c : Output) (first last : List ℕ) → Puts a b first → Puts b c last → Puts a c (first ++ last)
puts_both a b c first last (f1, one, e1) (f2, two, e2) =
    (f1 ++ f2, appends_both a.out b.out c.out f1 f2 one two, two_texts a.gathered first last f1 b.gathered f2 c.gathered e1 e2)

-- a text is put behind, and of another some
pub some_puts : (a b c : Output) (first text : List ℕ) → Puts a b first → PutsSome b c text → PutsSome a c (first ++ text)
some_puts a b c first text (front, one, e) some =
    let all : a.gathered ++ (first ++ text) ≡ front ++ (b.gathered ++ text) =
    sym (append_assoc a.gathered first text) ∙ ap (λ t. t ++ text) e ∙ append_assoc front b.gathered text in
    subst (AppendsSome a.out c.out) (sym all) (some_after a.out b.out c.out front (b.gathered ++ text) one some)

-- what is gathered goes out, or some of it
pub flush_all : (a b : Output) (new : Option (List ℕ)) (text : List ℕ) → Puts a b text → Appends b.out new b.gathered → Puts a (written new) text
flush_all a b new text (front, one, e) all =
    (front ++ b.gathered, appends_both a.out b.out new front b.gathered one all, e ∙ sym (append-nil (front ++ b.gathered)))

pub flush_some : (a b : Output) (new : Option (List ℕ)) (text : List ℕ) → Puts a b text → AppendsSome b.out new b.gathered → PutsSome a (written new) text
flush_some a b new text (front, one, e) some =
    subst (AppendsSome a.out new) (sym e) (some_after a.out b.out new front b.gathered one some)

-- where nothing is gathered before and after, the text went out
pub puts_whole : (a b : Option (List ℕ)) (text : List ℕ) → Puts (written a) (written b) text → Appends a b text
puts_whole a b text (front, one, e) = subst (Appends a b) (sym (e ∙ append-nil front)) one
