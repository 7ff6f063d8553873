-- `polynom::value_and_derivative` meets its contract. The loop's invariant: the locals are the sums of the coefficients passed, which stand behind those that are left. Assumes nothing.
use Rattle.std.specs.Prelude.{[], ◌∷◌, ◌≡◌, refl}
use Rattle.std.proofs.Common.{rules, ◌∙◌}
use Rattle.std.proofs.lemmas.List.{nil_from_length}
use Rattle.polynom.specs.Polynom.{sums_both, value_and_derivative}
use Rattle.polynom.proofs.TermLaws.{behind}
use Rattle.polynom.proofs.value_and_derivative.Goals as goal

pub returns-in_default : goal.returns-in_default
unfolding value_and_derivative sums_both
returns-in_default c = rw (nil_from_length _ c.in_default.ensures.cases) refl

pub loop-c-init : goal.loop-c-init
unfolding sums_both
loop-c-init c = (c.in-Some.last.now ∷ [], search (rules, c.in-Some.ensures.cases.0), refl)

pub loop-c-preserved : goal.loop-c-preserved
unfolding sums_both
loop-c-preserved c =
    let i = c.loop-c.invariant in
    (c.in-Some-c.c.now ∷ i.0, behind _ _ _ _ _ i.1 c.in-Some-c.ensures.steps, rw i.2 refl)

pub returns : goal.returns
unfolding value_and_derivative
returns c =
    let i = c.loop-c.invariant in
    let e : c.args.a.now ≡ i.0 = i.1 ∙ rw (nil_from_length _ c.in-None.ensures.steps.0) refl in
    rw (e, i.2) refl
