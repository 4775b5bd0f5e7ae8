-- Without cuts nobody is put in.
use Rattle.std.proofs.Common.{◌≡◌, ℕ, ap, option_copied, subst, sym}
use Rattle.i3c_base.specs.Cutting.{CutList, cut_of, no_cuts}
use Rattle.i3c_base.proofs.CutLaws.{none_uncut}
use Rattle.i3c_wires.specs.Contest.{cuts_in}
use Rattle.i3c_wires.specs.Masks.{is_at, mask_of}
use Rattle.i3c_wires.proofs.MaskLaws.{mask_none}
use Rattle.i3c_wires.proofs.masks.cut_at.Goals as goal

pub returns-in-None : goal.returns-in-None
returns-in-None c =
    let Is : CutList → Type 0 = λ cuts. 0 ≡ mask_of (λ (e : ℕ × ℕ). is_at c.args.bit (cut_of cuts e.0)) c.args.keys.now in
    subst Is (sym (ap (λ o. cuts_in (option_copied o)) c.in-None.is)) (sym (mask_none (λ (e : ℕ × ℕ). is_at c.args.bit (cut_of no_cuts e.0)) c.args.keys.now (λ e. ap (is_at c.args.bit) (none_uncut e.0))))
