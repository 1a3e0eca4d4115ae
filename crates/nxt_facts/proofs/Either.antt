-- One of two tests, the second made only where the first fails.
use Rattle.std.proofs.Common.{◌≡◌, Bool, true, false, ◌||◌, sym, ap, ◌∙◌}

pub first_holds : (a b first either : Bool) → first ≡ a → first ≡ true → either ≡ first → either ≡ (a || b)
first_holds a b first either e holds same = same ∙ holds ∙ sym (ap (λ x. x || b) (sym e ∙ holds))

pub second_tells : (a b first second either : Bool) → first ≡ a → first ≡ false → second ≡ b → either ≡ second → either ≡ (a || b)
second_tells a b first second either e fails f same = same ∙ f ∙ sym (ap (λ x. x || b) (sym e ∙ fails))
