-- What can be recorded, in document 02's words. Definitions only.
use Prim.Native.Nat.{ℕ, ◌≤◌}
use Rattle.std.specs.Prelude.{◌⊎◌, ◌≡◌, take}
use Rattle.numerical.specs.Answers.{kind_of, numbers_of}
use Rattle.simple_convergency.specs.Stop.{most_coefficients}
use Rattle.records.specs.declared.Record.{Record}
use Rattle.promises.specs.Searches.{SomeNotFinite, Passes}

-- "a kind other than 0, 1 and 16 to 19" is none
abbrev pub AnswerKind : ℕ → Type 0
AnswerKind n = (n ≡ 0) ⊎ (n ≡ 1) ⊎ ((16 ≤ n) × (n ≤ 19))

-- a call and answer that can be written
pub record Recordable (o : Record) : Type 0 where
  -- of kind 1 or 2
  pub its_record_kind : (o.kind ≡ 1) ⊎ (o.kind ≡ 2)
  -- kind 1 holds one eps, so its tolerances are equal
  pub one_eps_lem : o.kind ≡ 1 → o.tolerances.value ≡ o.tolerances.point
  -- a record holds at most 16 coefficients, as many as it counts
  pub few : o.count ≤ most_coefficients
  -- not "a call that 1 to 5 refuse"
  pub passes : Passes (take o.count o.coefficients) o.method o.tolerances o.limit
  -- no number of the answer is "a double that isn't finite"
  pub all_finite_lem : ¬ SomeNotFinite (numbers_of o.outcome.answer)
  pub its_kind : AnswerKind (kind_of o.outcome.answer)
  -- not "a mark above 2"
  pub its_mark : o.outcome.progress.mark ≤ 2
