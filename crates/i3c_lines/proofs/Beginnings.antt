-- The lines that begin with a letter.
use Rattle.std.proofs.Common.{◌≡◌, ◌∙◌, ◌⊎◌, ℕ, Bool, true, false, cond, eqb, inl, inr, List, [], ◌∷◌, ◌++◌, Option, Some, None, codes, drop, take, ap, arith, refl, sym, subst}
use Rattle.std.specs.List.{slice_get}
use Rattle.std.specs.Str.Parse.{digits_value}
use Rattle.i3c_base.specs.declared.datum.Datum.{Datum}
use Rattle.i3c_base.specs.declared.datum.Direction.{Direction}
use Rattle.i3c_step.specs.declared.events.Command.{Command as Frame}
use Rattle.i3c_lines.specs.declared.command.Command.{Command}
use Rattle.i3c_lines.specs.Data.{datum_token, datum_name}
use Rattle.i3c_lines.specs.Forms.{AreAsked, ArePlace, IsForm, WritesAddress, WritesPlace, tokens_of, with_first}
use Rattle.i3c_lines.specs.Parsing.{Becomes, BecomesOther, IsOther}
use Rattle.i3c_lines.proofs.LineLaws.{line_is, line_of, some_token, token_left}
use Rattle.i3c_lines.proofs.Meanings.{are_same, as_by, as_meant, first_of, hex, datum_of, either, identity_of, kinds_of, length_of, letter_of, meant, meant_is, named, number_of, rest_of, setup_of, shown_by, written_of}

abbrev tail_of : List ℕ → List ℕ
tail_of [] = []
tail_of (byte ∷ line) = line

abbrev first_letter : List (List ℕ) → ℕ
first_letter [] = 0
first_letter (token ∷ tokens) = letter_of token

-- a line that is a token alone
alone : (letter : ℕ) (tail token : List ℕ) → tokens_of (letter ∷ tail) ≡ (letter ∷ token) ∷ [] → tail ≡ token
alone letter tail token e = ap tail_of (line_is (letter ∷ tail) ((letter ∷ token) ∷ []) e)

-- a line that goes on behind its first token
abbrev pub GoesOn : List ℕ → List ℕ → Type 0
GoesOn line token = (rest : List ℕ) × (line ≡ token ++ 32 ∷ rest)

goes_on : (letter : ℕ) (tail token next : List ℕ) (tokens : List (List ℕ)) → tokens_of (letter ∷ tail) ≡ (letter ∷ token) ∷ next ∷ tokens → GoesOn tail token
goes_on letter tail token next tokens e = (line_of (next ∷ tokens), ap tail_of (line_is (letter ∷ tail) ((letter ∷ token) ∷ next ∷ tokens) e))

-- the tokens of a line by its first letter, and what they mean
begun : (letter : ℕ) (tail : List ℕ) (command : Command) → (tokens_of (letter ∷ tail) ≡ with_first letter (tokens_of tail)) → IsForm (tokens_of (letter ∷ tail)) command
    → (token : List ℕ) × (tokens : List (List ℕ)) × (tokens_of (letter ∷ tail) ≡ (letter ∷ token) ∷ tokens) × IsForm ((letter ∷ token) ∷ tokens) (meant ((letter ∷ token) ∷ tokens))
begun letter tail command no_space form =
    let some = some_token tail in
    let tokens : tokens_of (letter ∷ tail) ≡ (letter ∷ some.0) ∷ some.1 = no_space ∙ ap (λ ws. with_first letter ws) some.2 in
    (some.0, some.1, tokens, subst (λ ws. IsForm ws (meant ws)) tokens (as_meant (tokens_of (letter ∷ tail)) command form))

-- the commands of a line that begins with `o`
pub only_open : (tail : List ℕ) (command : Command) → IsForm (tokens_of (111 ∷ tail)) command → tail ≡ codes "pen"
only_open tail command form =
    let (token, tokens, e, here) = begun 111 tail command refl form in
    elim (either (are_same token (codes "pen")) Command.Open Command.Show _ here) [
      | inl is ↦ alone 111 tail (codes "pen") (e ∙ is)
      | inr show ↦ absurd (omega (arith, ap first_letter show))
    ]

-- the commands of a line that begins with `w`
pub only_write : (tail : List ℕ) (command : Command) → IsForm (tokens_of (119 ∷ tail)) command → GoesOn tail (codes "rite")
only_write tail command form =
    let (token, tokens, e, here) = begun 119 tail command refl form in
    elim (either (are_same token (codes "rite")) (Command.Frame (Frame.WriteTo (hex (first_of tokens)) (record { items = written_of (rest_of tokens) }))) Command.Show _ here) [
      | inl is ↦ goes_on 119 tail (codes "rite") is.0 is.1 (e ∙ is.2)
      | inr show ↦ absurd (omega (arith, ap first_letter show))
    ]

-- the commands of a line that begins with `e`
pub only_e : (tail : List ℕ) (command : Command) → IsForm (tokens_of (101 ∷ tail)) command → GoesOn tail (codes "nec") ⊎ (tail ≡ codes "nd")
only_e tail command form =
    let (token, tokens, e, here) = begun 101 tail command refl form in
    elim (either (are_same token (codes "nec")) (Command.Frame (Frame.Enec (number_of (rest_of tokens)) (kinds_of (first_of tokens)))) _ _ here) [
      | inl is ↦ inl (goes_on 101 tail (codes "nec") is.2.0 is.2.1 (e ∙ is.1 ∙ ap (λ ws. codes "enec" ∷ ws) is.2.2))
      | inr other ↦
          elim (either (are_same token (codes "nd")) Command.End Command.Show _ other) [
            | inl is ↦ inr (alone 101 tail (codes "nd") (e ∙ is))
            | inr show ↦ absurd (omega (arith, ap first_letter show))
          ]
    ]

-- the three lines that `show` begins
shown : (token : List ℕ) (tokens : List (List ℕ)) → IsForm (token ∷ tokens) (shown_by tokens)
    → (token ∷ tokens ≡ codes "show" ∷ []) ⊎ (token ∷ tokens ≡ codes "show" ∷ codes "all" ∷ []) ⊎ ((next : List ℕ) × (token ∷ tokens ≡ codes "show" ∷ next ∷ []) × WritesPlace next (digits_value 10 next))
shown token [] e = inl e
shown token (next ∷ tokens) form =
    elim (either (eqb (letter_of next) 97) Command.ShowAll (Command.ShowFrom (digits_value 10 next)) (token ∷ next ∷ tokens) form) [
      | inl is ↦ inr (inl is)
      | inr (rest, e, (one, e', is)) ↦
          let same : next ≡ one = ap (λ ws. first_of (rest_of ws)) e ∙ ap first_of e' in
          inr (inr (one, e ∙ ap (λ ws. codes "show" ∷ ws) e', subst (λ (n : ℕ). WritesPlace one n) (ap (digits_value 10) same) is))
    ]

-- a line behind `show`, if it isn't `all`
pub shown_args : (line : List ℕ) (command : Command) → (line ≡ codes "all" → ⊥) → IsForm (codes "show" ∷ tokens_of line) command → (first : ℕ) × ArePlace (tokens_of line) first
shown_args line command other form =
    elim (shown (codes "show") (tokens_of line) (as_meant (codes "show" ∷ tokens_of line) command form)) [
      | inl none ↦ absurd (token_left line (ap rest_of none))
      | inr (inl all) ↦ absurd (other (line_is line (codes "all" ∷ []) (ap rest_of all)))
      | inr (inr (next, e, is)) ↦ (digits_value 10 next, (next, ap rest_of e, is))
    ]

-- the lines that set a maximum length, or `show`
lengthened : (tail token : List ℕ) (tokens : List (List ℕ)) → tokens_of (115 ∷ tail) ≡ (115 ∷ token) ∷ tokens
    → IsForm ((115 ∷ token) ∷ tokens) (cond (are_same token (codes "etmwl")) (length_of Direction.Write tokens) (cond (are_same token (codes "etmrl")) (length_of Direction.Read tokens) Command.Show))
    → (tail ≡ codes "how") ⊎ GoesOn tail (codes "etmwl") ⊎ GoesOn tail (codes "etmrl")
lengthened tail token tokens e form =
    elim (either (are_same token (codes "etmwl")) (length_of Direction.Write tokens) _ _ form) [
      | inl is ↦ inr (inl (goes_on 115 tail (codes "etmwl") is.2.0 is.2.1 (e ∙ is.1 ∙ ap (λ ws. codes "setmwl" ∷ ws) is.2.2)))
      | inr other ↦
          elim (either (are_same token (codes "etmrl")) (length_of Direction.Read tokens) Command.Show _ other) [
            | inl is ↦ inr (inr (goes_on 115 tail (codes "etmrl") is.2.0 is.2.1 (e ∙ is.1 ∙ ap (λ ws. codes "setmrl" ∷ ws) is.2.2)))
            | inr is ↦ inl (alone 115 tail (codes "how") (e ∙ is))
          ]
    ]

-- the commands of a line that begins with `s`
pub only_s : (tail : List ℕ) (command : Command) → IsForm (tokens_of (115 ∷ tail)) command → (tail ≡ codes "erve") ⊎ (tail ≡ codes "how") ⊎ (tail ≡ codes "ymbols") ⊎ (tail ≡ codes "how all")
    ⊎ GoesOn tail (codes "how") ⊎ GoesOn tail (codes "etdasa") ⊎ GoesOn tail (codes "etnewda") ⊎ GoesOn tail (codes "etmwl") ⊎ GoesOn tail (codes "etmrl")
only_s tail command form =
    let (token, tokens, e, here) = begun 115 tail command refl form in
    elim (either (are_same token (codes "erve")) (Command.Frame Frame.Serve) _ _ here) [
      | inl is ↦ inl (alone 115 tail (codes "erve") (e ∙ is))
      | inr other ↦
          elim (either (are_same token (codes "ymbols")) Command.Symbols _ _ other) [
            | inl is ↦ inr (inr (inl (alone 115 tail (codes "ymbols") (e ∙ is))))
            | inr third ↦
                elim (either (are_same token (codes "how")) (shown_by tokens) _ _ third) [
                  | inl shows ↦
                      elim (shown (115 ∷ token) tokens shows) [
                        | inl is ↦ inr (inl (alone 115 tail (codes "how") (e ∙ is)))
                        | inr (inl is) ↦ inr (inr (inr (inl (ap tail_of (line_is (115 ∷ tail) (codes "show" ∷ codes "all" ∷ []) (e ∙ is))))))
                        | inr (inr is) ↦ inr (inr (inr (inr (inl (goes_on 115 tail (codes "how") is.0 [] (e ∙ is.1))))))
                      ]
                  | inr fourth ↦
                      elim (either (are_same token (codes "etdasa")) (Command.Frame (Frame.SetStatic (hex (first_of tokens)) (hex (first_of (rest_of tokens))))) _ _ fourth) [
                        | inl is ↦ inr (inr (inr (inr (inr (inl (goes_on 115 tail (codes "etdasa") is.2.0 (is.2.1 ∷ []) (e ∙ is.1 ∙ ap (λ ws. codes "setdasa" ∷ ws) is.2.2)))))))
                        | inr fifth ↦
                            elim (either (are_same token (codes "etnewda")) (Command.Frame (Frame.SetNew (hex (first_of tokens)) (hex (first_of (rest_of tokens))))) _ _ fifth) [
                              | inl is ↦ inr (inr (inr (inr (inr (inr (inl (goes_on 115 tail (codes "etnewda") is.2.0 (is.2.1 ∷ []) (e ∙ is.1 ∙ ap (λ ws. codes "setnewda" ∷ ws) is.2.2))))))))
                              | inr sixth ↦
                                  elim (lengthened tail token tokens e sixth) [
                                    | inl show ↦ inr (inl show)
                                    | inr length ↦ inr (inr (inr (inr (inr (inr (inr length))))))
                                  ]
                            ]
                      ]
                ]
          ]
    ]

-- the commands of a line that begins with `r`
pub only_r : (tail : List ℕ) (command : Command) → IsForm (tokens_of (114 ∷ tail)) command
    → GoesOn tail (codes "aise") ⊎ GoesOn tail (codes "ead") ⊎ (tail ≡ codes "eset") ⊎ (tail ≡ codes "ound")
only_r tail command form =
    let (token, tokens, e, here) = begun 114 tail command refl form in
    elim (either (are_same token (codes "aise")) (Command.Raise (named (first_of tokens)) (number_of (rest_of tokens))) _ _ here) [
      | inl is ↦ inl (goes_on 114 tail (codes "aise") is.0 is.1 (e ∙ is.2))
      | inr second ↦
          elim (either (are_same token (codes "ead")) (Command.Frame (Frame.ReadFrom (hex (first_of tokens)))) _ _ second) [
            | inl is ↦ inr (inl (goes_on 114 tail (codes "ead") is.0 [] (e ∙ is.1)))
            | inr third ↦
                elim (either (are_same token (codes "eset")) (Command.Frame Frame.Reset) _ _ third) [
                  | inl is ↦ inr (inr (inl (alone 114 tail (codes "eset") (e ∙ is))))
                  | inr fourth ↦
                      elim (either (are_same token (codes "ound")) Command.Round Command.Show _ fourth) [
                        | inl is ↦ inr (inr (inr (alone 114 tail (codes "ound") (e ∙ is))))
                        | inr show ↦ absurd (omega (arith, ap first_letter show))
                      ]
                ]
          ]
    ]

-- behind `g`: the other letters of `get`, and the tokens of a question
pub only_g : (tail : List ℕ) (command : Command) → IsForm (tokens_of (103 ∷ tail)) command
    → (what : Datum) × (at : ℕ) × (token : List ℕ) × (tokens_of (103 ∷ tail) ≡ datum_token what ∷ token ∷ []) × WritesAddress token at
only_g tail command form =
    let (token, tokens, e, here) = begun 103 tail command refl form in
    elim (either (are_same (take 3 (103 ∷ token)) (codes "get")) (Command.Frame (Frame.Get (datum_of (drop 3 (103 ∷ token))) (hex (first_of tokens)))) Command.Show _ here) [
      | inl is ↦ (datum_of (drop 3 (103 ∷ token)), hex (first_of tokens), is.0, e ∙ is.1, is.2)
      | inr show ↦ absurd (omega (arith, ap first_letter show))
    ]

-- the tokens of a line without its first letters `get`
behind_get : (rest token : List ℕ) (tokens : List (List ℕ)) → tokens_of (103 ∷ 101 ∷ 116 ∷ rest) ≡ (103 ∷ 101 ∷ 116 ∷ token) ∷ tokens → tokens_of rest ≡ token ∷ tokens
behind_get rest token tokens e =
    let some = some_token rest in
    let both : (103 ∷ 101 ∷ 116 ∷ some.0) ∷ some.1 ≡ (103 ∷ 101 ∷ 116 ∷ token) ∷ tokens = ap (λ ws. with_first 103 (with_first 101 (with_first 116 ws))) (sym some.2) ∙ e in
    some.2 ∙ (λ i. drop 3 (first_of (both i)) ∷ rest_of (both i))

-- a question for a datum has `get` in front
pub asks : (tail : List ℕ) (command : Command) → IsForm (tokens_of (103 ∷ tail)) command → (rest : List ℕ) × (tail ≡ codes "et" ++ rest)
asks tail command form = let (what, at, token, e, is) = only_g tail command form in (datum_name what ++ 32 ∷ token, ap tail_of (line_is (103 ∷ tail) _ e))

-- and then the tokens of a question
pub asked_args : (rest : List ℕ) (command : Command) → IsForm (tokens_of (103 ∷ 101 ∷ 116 ∷ rest)) command → (what : Datum) × (at : ℕ) × AreAsked (tokens_of rest) what at
asked_args rest command form = let (what, at, token, e, is) = only_g (101 ∷ 116 ∷ rest) command form in (what, at, (token, behind_get rest (datum_name what) (token ∷ []) e, is))

-- the same, with the command that it is
either_is : (b : Bool) (one other command : Command) (tokens : List (List ℕ)) → cond b one other ≡ command → IsForm tokens (cond b one other) → ((one ≡ command) × IsForm tokens one) ⊎ ((other ≡ command) × IsForm tokens other)
either_is true one other command tokens e form = inl (e, form)
either_is false one other command tokens e form = inr (e, form)

-- the commands of a line that begins with `d`
pub only_d : (tail : List ℕ) (command : Command) → IsForm (tokens_of (100 ∷ tail)) command → GoesOn tail (codes "isec") ⊎ (tail ≡ codes "aa") ⊎ IsOther command
only_d tail command form =
    let (token, tokens, e, here) = begun 100 tail command refl form in
    let is : meant ((100 ∷ token) ∷ tokens) ≡ command = ap meant (sym e) ∙ meant_is (tokens_of (100 ∷ tail)) command form in
    elim (either_is (are_same token (codes "isec")) (Command.Frame (Frame.Disec (number_of (rest_of tokens)) (kinds_of (first_of tokens)))) _ command _ is here) [
      | inl disec ↦ inl (goes_on 100 tail (codes "isec") disec.1.2.0 disec.1.2.1 (e ∙ disec.1.1 ∙ ap (λ ws. codes "disec" ∷ ws) disec.1.2.2))
      | inr second ↦
          elim (either_is (are_same token (codes "aa")) Command.Daa _ command _ second.0 second.1) [
            | inl daa ↦ inr (inl (alone 100 tail (codes "aa") (e ∙ daa.1)))
            | inr third ↦
                elim (either_is (are_same token (codes "rop")) (Command.DropOff (named (first_of tokens))) _ command _ third.0 third.1) [
                  | inl drops ↦ inr (inr (subst IsOther drops.0 tt))
                  | inr fourth ↦
                      elim (either_is (are_same token (codes "eclare")) (Command.Declare (hex (first_of tokens)) (identity_of (rest_of tokens))) Command.Show command _ fourth.0 fourth.1) [
                        | inl declares ↦ inr (inr (subst IsOther declares.0 tt))
                        | inr show ↦ absurd (omega (arith, ap first_letter show.1))
                      ]
                ]
          ]
    ]

-- the commands of a line that begins with `l`
pub only_l : (tail : List ℕ) (command : Command) → IsForm (tokens_of (108 ∷ tail)) command → (tail ≡ codes "ist") ⊎ IsOther command
only_l tail command form =
    let (token, tokens, e, here) = begun 108 tail command refl form in
    let is : meant ((108 ∷ token) ∷ tokens) ≡ command = ap meant (sym e) ∙ meant_is (tokens_of (108 ∷ tail)) command form in
    elim (either_is (are_same token (codes "ist")) (Command.Frame Frame.SendList) _ command _ is here) [
      | inl list ↦ inl (alone 108 tail (codes "ist") (e ∙ list.1))
      | inr second ↦
          elim (either_is (are_same token (codes "egacy")) (Command.Legacy (named (first_of tokens)) (hex (first_of (rest_of tokens))) (record { 0 = hex (first_of (rest_of (rest_of tokens))) })) Command.Show command _ second.0 second.1) [
            | inl legacy ↦ inr (subst IsOther legacy.0 tt)
            | inr show ↦ absurd (omega (arith, ap first_letter show.1))
          ]
    ]

-- the commands of a line that begins with `a`
pub only_a : (tail : List ℕ) (command : Command) → IsForm (tokens_of (97 ∷ tail)) command → GoesOn tail (codes "s") ⊎ IsOther command
only_a tail command form =
    let (token, tokens, e, here) = begun 97 tail command refl form in
    let is : meant ((97 ∷ token) ∷ tokens) ≡ command = ap meant (sym e) ∙ meant_is (tokens_of (97 ∷ tail)) command form in
    elim (either_is (are_same token (codes "s")) (as_by tokens) _ command _ is here) [
      | inl acts ↦ inl (goes_on 97 tail (codes "s") acts.1.0 acts.1.1 (e ∙ acts.1.2))
      | inr second ↦
          elim (either_is (are_same token (codes "ttach")) (Command.Attach (named (first_of tokens)) (setup_of (rest_of tokens))) _ command _ second.0 second.1) [
            | inl attaches ↦ inr (subst IsOther attaches.0 tt)
            | inr third ↦
                elim (either_is (are_same token (codes "sk-join")) (Command.AskJoin (named (first_of tokens))) _ command _ third.0 third.1) [
                  | inl joins ↦ inr (subst IsOther joins.0 tt)
                  | inr fourth ↦
                      elim (either_is (are_same token (codes "sk-role")) (Command.AskRole (named (first_of tokens))) Command.Show command _ fourth.0 fourth.1) [
                        | inl roles ↦ inr (subst IsOther roles.0 tt)
                        | inr show ↦ absurd (omega (arith, ap first_letter show.1))
                      ]
                ]
          ]
    ]

-- a reader of tokens reads a line that only its commands can have
pub becomes_other : (tokens : List (List ℕ)) (result : Option (Unit {0})) (old new : Command) → ((command : Command) → IsForm tokens command → IsOther command) → BecomesOther tokens result old new → Becomes tokens result old new
becomes_other tokens None old new other is = (λ command form. is.0 command (form, other command form), is.1)
becomes_other tokens (Some done) old new other is = is.0

nothing_alone : (command : Command) → IsForm ([] ∷ []) command → ⊥
nothing_alone command form = omega (arith, ap first_letter (as_meant ([] ∷ []) command form))

-- a line that is passed over is no command's
pub skipped_is_none : (line : List ℕ) (command : Command) → (line ≡ []) ⊎ (slice_get line 0 ≡ Some 35) → IsForm (tokens_of line) command → ⊥
skipped_is_none line command (inl empty) form = nothing_alone command (subst (λ l. IsForm (tokens_of l) command) empty form)
skipped_is_none [] command (inr comment) form = nothing_alone command form
skipped_is_none (byte ∷ line) command (inr comment) form =
    let is : byte ≡ 35 = grind (arith, comment) in
    let (token, tokens, e, here) = begun 35 line command refl (subst (λ b. IsForm (tokens_of (b ∷ line)) command) is form) in omega (arith, ap first_letter here)
