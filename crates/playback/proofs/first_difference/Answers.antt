use Rattle.std.proofs.Common.{rules}
use mathlib.Core.Logic.{inl, inr}
use Rattle.std.proofs.Math.Path.{◌∙◌}
use Rattle.playback.specs.Playback.{first_difference}
use Rattle.playback.proofs.PlaybackLaws.{none_left}
use Rattle.playback.proofs.first_difference.Goals as goal

pub loop-field-init : goal.loop-field-init
unfolding first_difference
loop-field-init c = search rules

pub returns : goal.returns
returns c = elim c.in-None.ensures.steps [
  | inl x ↦ none_left _ _ _ (inl x.1.0) ∙ c.loop-field.invariant
  | inr x ↦ elim x.1 [
    | inl y ↦ none_left _ _ _ (inr (inl y.1.0)) ∙ c.loop-field.invariant
    | inr z ↦ none_left _ _ _ (inr (inr z.1.0)) ∙ c.loop-field.invariant
  ]
]
