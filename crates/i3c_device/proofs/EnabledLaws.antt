-- Which kinds of events are enabled in a slot, after all or some were enabled or disabled in some slots.
use Rattle.std.proofs.Common.{◌≡◌, Bool, true, false, not, ◌&&◌, ◌||◌, if◌then◌else◌, refl, ◌∙◌}
use Rattle.i3c_base.specs.Frames.{with_kinds, without_kinds}
use Rattle.i3c_base.specs.Numbers.{KindSet}

-- one kind, in a slot that is one of these or isn't
one_more : (here had more : Bool) → (had || (more && here)) ≡ (if here then had || more else had)
one_more true true more = refl
one_more true false true = refl
one_more true false false = refl
one_more false true more = refl
one_more false false true = refl
one_more false false false = refl

one_less : (here had less : Bool) → (had && not (less && here)) ≡ (if here then had && not less else had)
one_less true true true = refl
one_less true true false = refl
one_less true false less = refl
one_less false true true = refl
one_less false true false = refl
one_less false false less = refl

-- other kinds
pub kinds_anew : (here : Bool) (had own now : KindSet) → now.interrupt ≡ (if here then own.interrupt else had.interrupt) → now.role ≡ (if here then own.role else had.role) → now.join ≡ (if here then own.join else had.join)
    → now ≡ (if here then own else had)
kinds_anew true had own now i r j = λ t. record { interrupt = i t; role = r t; join = j t }
kinds_anew false had own now i r j = λ t. record { interrupt = i t; role = r t; join = j t }

-- these kinds more
pub kinds_more : (here : Bool) (had more now : KindSet) → now.interrupt ≡ (had.interrupt || (more.interrupt && here)) → now.role ≡ (had.role || (more.role && here)) → now.join ≡ (had.join || (more.join && here))
    → now ≡ (if here then with_kinds had more else had)
kinds_more true had more now i r j = λ t. record {
  interrupt = (i ∙ one_more true had.interrupt more.interrupt) t;
  role = (r ∙ one_more true had.role more.role) t;
  join = (j ∙ one_more true had.join more.join) t;
}
kinds_more false had more now i r j = λ t. record {
  interrupt = (i ∙ one_more false had.interrupt more.interrupt) t;
  role = (r ∙ one_more false had.role more.role) t;
  join = (j ∙ one_more false had.join more.join) t;
}

-- without these kinds
pub kinds_less : (here : Bool) (had less now : KindSet) → now.interrupt ≡ (had.interrupt && not (less.interrupt && here)) → now.role ≡ (had.role && not (less.role && here)) → now.join ≡ (had.join && not (less.join && here))
    → now ≡ (if here then without_kinds had less else had)
kinds_less true had less now i r j = λ t. record {
  interrupt = (i ∙ one_less true had.interrupt less.interrupt) t;
  role = (r ∙ one_less true had.role less.role) t;
  join = (j ∙ one_less true had.join less.join) t;
}
kinds_less false had less now i r j = λ t. record {
  interrupt = (i ∙ one_less false had.interrupt less.interrupt) t;
  role = (r ∙ one_less false had.role less.role) t;
  join = (j ∙ one_less false had.join less.join) t;
}
