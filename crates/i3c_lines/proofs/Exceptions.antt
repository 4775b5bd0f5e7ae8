-- The tokens in front of a policy's `but`, and the names behind it.
use Rattle.std.proofs.Common.{◌≡◌, ◌∙◌, ◌⊎◌, ℕ, ◌+◌, ◌≤◌, Bool, true, false, inl, inr, List, [], ◌∷◌, ◌++◌, Option, Some, None, codes, length, length-append, map, ap, arith, refl, sym, subst}
use Rattle.std.proofs.lemmas.Bool.{true≢false}
use Rattle.std.specs.List.{list_any}
use Rattle.arrayvec.specs.ArrayVec.{ArrayVec}
use Rattle.i3c_base.specs.declared.requests.Fixed.{Fixed}
use Rattle.i3c_base.specs.declared.requests.Verdict.{Verdict}
use Rattle.i3c_base.specs.declared.requests.Verdict.TheVariants.{Accept, Refuse}
use Rattle.i3c_lines.specs.declared.names.Name.{Name}
use Rattle.i3c_lines.specs.Forms.{AreExcepted, IsNamed, IsPolicyBut, NameEach}
use Rattle.i3c_lines.specs.Naming.{is_same, letters}
use Rattle.i3c_lines.specs.Parsing.{AcceptsUntilBut, GoOn, TakesPolicy}
use Rattle.i3c_lines.specs.Policies.{AcceptEach, Accepts, AcceptsSome, IsPolicy, each_kind}
use Rattle.i3c_lines.proofs.Meanings.{accepting_is, first_of, named, names_are, put_but, rest_of, same_name}

is_accept : Verdict → Bool
is_accept Accept = true
is_accept Refuse = false

never_both : Accept ≡ Refuse → ⊥
unfolding is_accept
never_both e = true≢false (ap is_accept e)

-- a policy that turns each request down accepts none
none_accepts : AcceptsSome (each_kind Refuse) → ⊥
none_accepts (inl e) = never_both (sym e)
none_accepts (inr (inl e)) = never_both (sym e)
none_accepts (inr (inr e)) = never_both (sym e)

-- where each request is accepted, no kind is accepted as well
all_accepted : (token : List ℕ) (next : Fixed) → Accepts token (each_kind Accept) next → ⊥
all_accepted token next (inl is) = never_both is.1
all_accepted token next (inr (inl is)) = never_both is.1
all_accepted token next (inr (inr is)) = never_both is.1

-- a token makes one policy of another
one_next : (token : List ℕ) (old one other : Fixed) → Accepts token old one → Accepts token old other → one ≡ other
one_next token old one other first second = sym (accepting_is token old one first) ∙ accepting_is token old other second

one_accepts : (token : List ℕ) (old new : Fixed) → Accepts token old new → AcceptsSome new
one_accepts token old new (inl is) = inl (ap (λ p. p.join) is.2)
one_accepts token old new (inr (inl is)) = inr (inl (ap (λ p. p.role) is.2))
one_accepts token old new (inr (inr is)) = inr (inr (ap (λ p. p.interrupt) is.2))

-- kinds that are named are accepted
some_accept : (token : List ℕ) (tokens : List (List ℕ)) (old next new : Fixed) → Accepts token old next → AcceptEach tokens next new → AcceptsSome new
some_accept token [] old next new is are = subst AcceptsSome (sym are) (one_accepts token old next is)
some_accept token (other ∷ tokens) old next new is (mid, is', are) = some_accept other tokens next mid new is' are

-- a policy that accepts some kind is `all`, or begins with a kind
abbrev Begins : List (List ℕ) → Fixed → Type 0
Begins front kinds = ((front ≡ codes "all" ∷ []) × (kinds ≡ each_kind Accept))
    ⊎ ((token : List ℕ) × (tokens : List (List ℕ)) × (next : Fixed) × (front ≡ token ∷ tokens) × Accepts token (each_kind Refuse) next × AcceptEach tokens next kinds)

begins : (front : List (List ℕ)) (kinds : Fixed) → IsPolicy front kinds → AcceptsSome kinds → Begins front kinds
begins front kinds (inl (token, e, inl is)) some = inl (e ∙ ap (λ w. w ∷ []) is.0, is.1)
begins front kinds (inl (token, e, inr is)) some = absurd (none_accepts (subst AcceptsSome is.1 some))
begins [] kinds (inr are) some = absurd (omega (arith, are.0))
begins (token ∷ tokens) kinds (inr (long, (next, is, are))) some = inr (token, tokens, next, refl, is, are)

-- a token in front of others, in a line with a `but`
first_in : (tokens rest front behind : List (List ℕ)) (token first : List ℕ) (more : List (List ℕ)) → tokens ≡ token ∷ rest → tokens ≡ front ++ codes "but" ∷ behind → front ≡ first ∷ more
    → (first ≡ token) × (rest ≡ more ++ codes "but" ∷ behind)
first_in tokens rest front behind token first more e e' is =
    let both : token ∷ rest ≡ first ∷ (more ++ codes "but" ∷ behind) = sym e ∙ e' ∙ ap (λ ws. ws ++ codes "but" ∷ behind) is in (ap first_of (sym both), ap rest_of both)

-- no tokens have no `but`
pub nothing_but : (tokens front behind : List (List ℕ)) → tokens ≡ [] → tokens ≡ front ++ codes "but" ∷ behind → ⊥
nothing_but tokens front behind none e = omega (arith, ap length (sym none ∙ e), length-append front (codes "but" ∷ behind))

-- a token that is neither `but` nor a kind
pub no_front : (tokens rest : List (List ℕ)) (token : List ℕ) (old : Fixed) → tokens ≡ token ∷ rest → (token ≡ codes "but" → ⊥) → ((next : Fixed) → Accepts token old next → ⊥)
    → (new : Fixed) (front behind : List (List ℕ)) → tokens ≡ front ++ codes "but" ∷ behind → AcceptEach front old new → ⊥
no_front tokens rest token old e other none new [] behind e' are = other (ap first_of (sym e ∙ e'))
no_front tokens rest token old e other none new (first ∷ front) behind e' (next, is, are) = none next (subst (λ w. Accepts w old next) (first_in tokens rest (first ∷ front) behind token first front e e' refl).0 is)

-- a kind in front of others
pub front_more : (tokens rest after : List (List ℕ)) (token : List ℕ) (old next : Fixed) (result : Option Fixed) → tokens ≡ token ∷ rest → (token ≡ codes "but" → ⊥) → Accepts token old next
    → AcceptsUntilBut next rest after result → AcceptsUntilBut old tokens after result
front_more tokens rest after token old next (Some new) e other is (front, e', are) = (token ∷ front, e ∙ ap (λ ws. token ∷ ws) e', (next, is, are))
front_more tokens rest after token old next None e other is none = go
  where
    go : (new : Fixed) (front behind : List (List ℕ)) → tokens ≡ front ++ codes "but" ∷ behind → AcceptEach front old new → ⊥
    go new [] behind e' are = other (ap first_of (sym e ∙ e'))
    go new (first ∷ front) behind e' (mid, is', are) =
        let split = first_in tokens rest (first ∷ front) behind token first front e e' refl in
        let same : mid ≡ next = one_next token old mid next (subst (λ w. Accepts w old mid) split.0 is') is in none new front behind split.1 (subst (λ p. AcceptEach front p new) same are)

-- `all` in front of a `but`
pub all_but : (tokens rest after : List (List ℕ)) (result : Option Fixed) → tokens ≡ codes "all" ∷ rest → AcceptsUntilBut (each_kind Accept) rest after result → TakesPolicy tokens after result
all_but tokens rest after (Some kinds) e ([], e', are) = (codes "all" ∷ [], e ∙ ap (λ ws. codes "all" ∷ ws) e', inl (codes "all", refl, inl (refl, are)), inl (ap (λ p. p.join) are))
all_but tokens rest after (Some kinds) e (token ∷ front, e', (next, is, are)) = absurd (all_accepted token next is)
all_but tokens rest after None e none = go
  where
    no_all : (next : Fixed) → Accepts (codes "all") (each_kind Refuse) next → ⊥
    no_all next (inl is) = omega (arith, ap length is.0)
    no_all next (inr (inl is)) = omega (arith, ap length is.0)
    no_all next (inr (inr is)) = omega (arith, ap length is.0)

    go : (kinds : Fixed) (front behind : List (List ℕ)) → tokens ≡ front ++ codes "but" ∷ behind → IsPolicy front kinds → AcceptsSome kinds → ⊥
    go kinds front behind e' is some =
        elim (begins front kinds is some) [
          | inl all ↦ none (each_kind Accept) [] behind (first_in tokens rest front behind (codes "all") (codes "all") [] e e' all.0).1 refl
          | inr (token, more, next, f, is', are) ↦
              let split = first_in tokens rest front behind (codes "all") token more e e' f in no_all next (subst (λ w. Accepts w (each_kind Refuse) next) split.0 is')
        ]

-- a first token that is neither `all` nor a kind
pub no_kinds : (tokens rest : List (List ℕ)) (first : List ℕ) → tokens ≡ first ∷ rest → (first ≡ codes "all" → ⊥) → ((next : Fixed) → Accepts first (each_kind Refuse) next → ⊥)
    → (kinds : Fixed) (front behind : List (List ℕ)) → tokens ≡ front ++ codes "but" ∷ behind → IsPolicy front kinds → AcceptsSome kinds → ⊥
no_kinds tokens rest first e other none kinds front behind e' is some =
    elim (begins front kinds is some) [
      | inl all ↦ other (sym (first_in tokens rest front behind first (codes "all") [] e e' all.0).0)
      | inr (token, more, next, f, is', are) ↦ none next (subst (λ w. Accepts w (each_kind Refuse) next) (first_in tokens rest front behind first token more e e' f).0 is')
    ]

-- a kind in front of more, and a `but`
pub kinds_but : (tokens rest after : List (List ℕ)) (first : List ℕ) (policy : Fixed) (result : Option Fixed) → tokens ≡ first ∷ rest → (first ≡ codes "all" → ⊥) → Accepts first (each_kind Refuse) policy
    → AcceptsUntilBut policy rest after result → TakesPolicy tokens after result
kinds_but tokens rest after first policy (Some kinds) e other is (front, e', are) =
    (first ∷ front, e ∙ ap (λ ws. first ∷ ws) e', inr (omega arith, (policy, is, are)), some_accept first front (each_kind Refuse) policy kinds is are)
kinds_but tokens rest after first policy None e other is none = go
  where
    go : (kinds : Fixed) (front behind : List (List ℕ)) → tokens ≡ front ++ codes "but" ∷ behind → IsPolicy front kinds → AcceptsSome kinds → ⊥
    go kinds front behind e' is_policy some =
        elim (begins front kinds is_policy some) [
          | inl all ↦ other (sym (first_in tokens rest front behind first (codes "all") [] e e' all.0).0)
          | inr (token, more, next, f, is', are) ↦
              let split = first_in tokens rest front behind first token more e e' f in
              let same : next ≡ policy = one_next first (each_kind Refuse) next policy (subst (λ w. Accepts w (each_kind Refuse) next) split.0 is') is in
              none kinds more behind split.1 (subst (λ p. AcceptEach more p kinds) same are)
        ]

-- the tokens behind the first `but` are determined
pub same_behind : (tokens front behind front' behind' : List (List ℕ)) (kinds kinds' : Fixed) → tokens ≡ front ++ codes "but" ∷ behind → IsPolicy front kinds → tokens ≡ front' ++ codes "but" ∷ behind' → IsPolicy front' kinds'
    → behind ≡ behind'
same_behind tokens front behind front' behind' kinds kinds' e is e' is' = sym (put_but front behind tokens kinds e is).2 ∙ (put_but front' behind' tokens kinds' e' is').2

pub no_names : (tokens front after : List (List ℕ)) (kinds : Fixed) → tokens ≡ front ++ codes "but" ∷ after → IsPolicy front kinds → ((names : ArrayVec Name) → AreExcepted after names.items → ⊥)
    → (other : Fixed) (names : ArrayVec Name) → IsPolicyBut tokens other names.items → ⊥
no_names tokens front after kinds e is none other names (front', behind, e', is', some, are) =
    none names (subst (λ ws. AreExcepted ws names.items) (same_behind tokens front' behind front after other kinds e' is' e is) are)

-- how many names there are
names_long : (tokens : List (List ℕ)) (old new : List Name) → NameEach tokens old new → length new ≡ length old + length (map named tokens)
names_long tokens old new are = ap length (names_are tokens old new are) ∙ length-append old (map named tokens)

pub name_more : (tokens rest : List (List ℕ)) (token : List ℕ) (name : Name) (old mid new : List Name) (result : Option (Unit {0})) → tokens ≡ token ∷ rest → IsNamed token name
    → list_any (λ other. is_same other name) old ≡ false → mid ≡ old ++ name ∷ [] → GoOn rest mid new result → GoOn tokens old new result
name_more tokens rest token name old mid new None e is once put none = λ all are few.
    let (other, is', once', after) = subst (λ ws. NameEach ws old all) e are in
    let same : other ≡ name = same_name other name (is'.1 ∙ sym is.1) in none all (subst (λ ns. NameEach rest ns all) (ap (λ n. old ++ n ∷ []) same ∙ sym put) after) few
name_more tokens rest token name old mid new (Some done) e is once put are = subst (λ ws. NameEach ws old new) (sym e) (name, is, once, subst (λ ns. NameEach rest ns new) put are)

-- a name that was there before
pub named_twice : (tokens rest : List (List ℕ)) (token : List ℕ) (name : Name) (old : List Name) → tokens ≡ token ∷ rest → letters name ≡ token → list_any (λ other. is_same other name) old ≡ true
    → (all : List Name) → NameEach tokens old all → ⊥
named_twice tokens rest token name old e is twice all are =
    let (other, is', once, after) = subst (λ ws. NameEach ws old all) e are in
    let same : other ≡ name = same_name other name (is'.1 ∙ sym is) in true≢false (sym twice ∙ subst (λ n. list_any (λ o. is_same o n) old ≡ false) same once)

-- a name that has no place
pub no_place : (tokens rest : List (List ℕ)) (token : List ℕ) (old : List Name) → tokens ≡ token ∷ rest → 8 ≤ length old → (all : List Name) → NameEach tokens old all → length all ≤ 8 → ⊥
no_place tokens rest token old e full all are few =
    let long = names_long (token ∷ rest) old all (subst (λ ws. NameEach ws old all) e are) in omega (arith, long, full, few)

-- no names at all
pub none_excepted : (tokens : List (List ℕ)) (names : List Name) → length names ≡ 0 → NameEach tokens [] names → (others : List Name) → AreExcepted tokens others → ⊥
none_excepted tokens names none are others is =
    let long = names_long tokens [] names are in
    let long' = names_long tokens [] others is.0 in omega (arith, long, long', none, is.1)
