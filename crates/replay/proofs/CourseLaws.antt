-- What a block's verdict says of the input; and a value of a verdict's line.
use Rattle.std.specs.Prelude.{ℕ, ◌+◌, ◌-◌, Bool, true, false, cond, List, ◌++◌, ◌≡◌, refl, ltb, length, drop}
use Rattle.std.specs.declared.ops.ControlFlow.{ControlFlow}
use Rattle.std.specs.declared.ops.ControlFlow.TheVariants.{Break, Continue}
use Rattle.std.proofs.Common.{arith, append-nil, ap, sym, ◌∙◌, subst, ltb-true, ltb-false}
use Rattle.std.proofs.Math.Seq.{drop-length}
use Rattle.records.specs.Records.{longest_record}
use Rattle.playback.specs.Playback.{played_from, played_back}
use Rattle.playback.specs.AheadLaws.{shifted, Ahead}
use Rattle.playback.proofs.AheadLaws.{played_shifted, ahead}
use Rattle.playback.specs.declared.Playback.{Playback}
use Rattle.playback.specs.declared.Playback.TheVariants.{Agree, Differs, Refused}
use Rattle.playback.specs.declared.Field.{Field}
use Rattle.line_text.specs.Texts.{Put, hex_field, decimal_field}
use Rattle.replay.specs.VerdictTexts.{is_number, value_text}
use Rattle.replay.specs.Courses.{Within, Room, Fits, course_of, Goes}
use Rattle.replay.specs.declared.Reached.{Reached}
use Rattle.replay.specs.declared.Rest.{Rest}

-- ---- a block

-- a verdict's counts are no larger than the block
pub played_within : (block : List ℕ) {v : Playback} → v ≡ played_back block → Within (length block) v
played_within block {v} e = go v (subst (Ahead 0 0 block) (sym e) (ahead 0 0 block))
  where
    go : (v : Playback) → Ahead 0 0 block v → Within (length block) v
    go (Agree n) (b, h) = omega (arith, b)
    go (Differs n at d) (b, k, h) = (omega (arith, b), omega (arith, k))
    go (Refused k n at) (b, i, j, h, l) = (omega (arith, b), omega (arith, j))

-- they find room
within_fits : (long : ℕ) (reached : Reached) (v : Playback) → Within long v → Room long reached → Fits v reached
within_fits long reached (Agree n) w r = omega (arith, r.0)
within_fits long reached (Differs n at d) w r = (omega (arith, w.0, r.0), omega (arith, w.1, r.1))
within_fits long reached (Refused k n at) w r = (omega (arith, w.0, r.0), omega (arith, w.1, r.1))

module _ (block : List ℕ) (reached : Reached) where
  abbrev before : ℕ
  before = reached.records

  abbrev from : ℕ
  from = reached.offset

  module _ {v : Playback} (e : v ≡ played_back block) where
    shift : played_from before from block ≡ shifted before from v
    shift = played_shifted before from block ∙ ap (shifted before from) (sym e)

    pub played_fits : Room (length block) reached → Fits v reached
    played_fits r = within_fits (length block) reached v (played_within block e) r

    -- no bytes follow
    pub last_goes : {w : Playback} → w ≡ shifted before from v → Goes block true reached (Break w)
    last_goes q = λ u f. ap (λ (t : List ℕ). played_from before from (block ++ t)) (f refl) ∙ ap (played_from before from) (append-nil block) ∙ shift ∙ sym q

  course : (v : Playback) → Ahead before from block (shifted before from v) → Goes block false reached (course_of v (length block) reached)
  course (Agree n) (b, h) = (
    refl,
    omega arith,
    omega arith,
    omega (arith, b),
    refl,
    λ u. h u ∙ ap (λ (t : List ℕ). played_from (before + n) (from + length block) (t ++ u)) (sym (drop-length block)),
  )
  course (Differs n at d) (b, k, h) = λ u f. h u
  course (Refused k n at) (b, i, j, h, l) = go (ltb (length block - at) longest_record) refl
    where
      same : from + at - from ≡ at
      same = omega arith

      go :
          (c : Bool) → ltb (length block - at) longest_record ≡ c →
          Goes block false reached (cond c (Continue (record { at = at; reached = record { records = before + n; offset = from + at } })) (Break (Refused k (before + n) (from + at))))
      go true q = (
        refl,
        omega (arith, j),
        (let z = ltb-true (length block - at) longest_record q in omega (arith, z, j)),
        omega (arith, b),
        refl,
        λ u. h u ∙ ap (λ (m : ℕ). played_from (before + n) (from + at) (drop m block ++ u)) same,
      )
      go false q = λ u f. l (let z = ltb-false (length block - at) longest_record q in let y = same in omega (arith, z, y)) u

  pub course_goes : {v : Playback} {r : ControlFlow Playback Rest} → v ≡ played_back block → r ≡ course_of v (length block) reached → Goes block false reached r
  course_goes {v} e q = subst (Goes block false reached) (sym q) (course v (subst (Ahead before from block) (shift e) (ahead before from block)))

-- ---- the line

module _ (a : List ℕ) (at : ℕ) (field : Field) where
  pub value_hex : {b : Bool} (n after : ℕ) {t : List ℕ} {r : ℕ} → b ≡ is_number field → b ≡ true → Put a at (hex_field n after) t r → Put a at (value_text field n after) t r
  unfolding value_text
  value_hex n after e f p = rw (← e, f) p

  pub value_decimal : {b : Bool} (n after : ℕ) {t : List ℕ} {r : ℕ} → b ≡ is_number field → b ≡ false → Put a at (decimal_field n after) t r → Put a at (value_text field n after) t r
  unfolding value_text
  value_decimal n after e f p = rw (← e, f) p
