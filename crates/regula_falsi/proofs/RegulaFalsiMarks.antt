-- The Illinois search only has marks 0 and 2, since each of its states keeps to what RegulaFalsiWeights says.
use Rattle.std.specs.Prelude.{ℕ, suc, ◌≤◌, Bool, cond, ◌&&◌, List, [], ◌≡◌, T, eqb, Float}
use Rattle.std.proofs.Common.{arith, inr}
use Rattle.std.proofs.Math.Bool.{true, false}
use Rattle.std.proofs.Math.Logic.{inl}
use Rattle.std.proofs.Math.Path.{refl}
use Rattle.std.specs.Float.Ieee.{lt}
use Rattle.std.specs.Float.Ieee.Scale.{finite}
use Rattle.doubles.specs.Doubles.{same_sign}
use Rattle.doubles.specs.Sizes.{at_least}
use Rattle.doubles.proofs.Sizes.{product_tells}
use Rattle.numerical.specs.Tallies.{mark_after}
use Rattle.numerical.specs.declared.Answer.{Answer}
use Rattle.numerical.specs.declared.Sample.{Sample}
use Rattle.simple_convergency.specs.Stop.{least_power, greatest_limit, bad_tolerance, turns_of}
use Rattle.simple_convergency.proofs.StopLaws.{not_found_size}
use Rattle.simple_convergency.specs.declared.StopRule.{StopRule}
use Rattle.searching.specs.Programs.{rising, differ, product_departs, oracle, Event, Prog, Turned}
use Rattle.searching.specs.Histories.{mark_in}
use Rattle.searching.specs.Keeps.{Ends, After}
use Rattle.searching.proofs.Keeps.{ends_done, ends_log, ends_test, ends_stops, ends_value, ends_offered, ends_pulled, ends_bracketed, ends_narrows, ends_searches}
use Rattle.searching.proofs.ReasonLaws.{answered_finite}
use Rattle.regula_falsi.specs.RegulaFalsi.{pair_of, second_at, first_at, ordered, opening, replaced_of, departs, arrived, landed, pulled_in, turn_from, illinois_program}
use Rattle.regula_falsi.specs.RegulaFalsiWeights.{Heavy}
use Rattle.regula_falsi.proofs.RegulaFalsiWeights.{weighs_whole, replaced_heavy, never_departs}
use Rattle.regula_falsi.specs.declared.Illinois.{Illinois}
use Rattle.regula_falsi.specs.RegulaFalsiMarks.{ZeroOrTwo}

-- ---- marks

-- rule 2 may depart, and rule 1 does not
after_pull : (b : Bool) (m : ℕ) → ZeroOrTwo m → ZeroOrTwo (mark_after 2 b m)
unfolding mark_after
after_pull b m z = go (b && eqb m 0)
  where
    go : (c : Bool) → ZeroOrTwo (cond c 2 m)
    go true = inr refl
    go false = z

after_signs : (b : Bool) (m : ℕ) → b ≡ false → ZeroOrTwo m → ZeroOrTwo (mark_after 1 b m)
unfolding mark_after
after_signs b m e z = rw e z

module _ (a : List Float) (stop : StopRule) (good : bad_tolerance stop.tolerances.value ≡ false) (small : stop.limit ≤ greatest_limit) where
  -- a state with n steps left, and the mark of its history
  abbrev Marked : ℕ → Illinois → List Event → Type 0
  Marked n s h = Heavy stop n s × ZeroOrTwo (mark_in h)

  -- ---- the search
  abbrev Post : Answer → List Event → Type 0
  Post x h = ZeroOrTwo (mark_in h)

  abbrev Reaches : ℕ → Prog (Turned Illinois) → List Event → Type 0
  Reaches n g h = Ends (oracle a) (After (Marked n) Post) g h

  -- the opening's product says what the signs do
  signs_agree : (p q : Sample) → T (at_least least_power p.y) → T (at_least least_power q.y) → product_departs p q ≡ false
  unfolding product_departs
  signs_agree p q z w = rw (product_tells p.y q.y least_power least_power (omega arith) z w) (go (same_sign p.y q.y))
    where
      go : (b : Bool) → differ b b ≡ false
      go true = refl
      go false = refl

  marks_second : (p q : Sample) (h : List Event) → T (at_least least_power p.y) → finite q.y ≡ true → ZeroOrTwo (mark_in h) → Reaches (turns_of stop) (second_at stop p q) h
  unfolding second_at mark_in
  marks_second p q h z f m =
      ends_stops stop _ (λ e. ends_done m)
      (λ e.
      let w = not_found_size stop q.y good f e in
      let on = after_signs (product_departs p q) (mark_in h) (signs_agree p q z w) m in
      ends_bracketed _ stop p q (λ s. on)
      (λ s. (
        record {
          left_end = weighs_whole stop small (turns_of stop) p (omega arith) z;
          right_end = weighs_whole stop small (turns_of stop) q (omega arith) w;
          apart = s;
          within = omega arith;
        },
        on,
      )))

  marks_first : (x : Float) (p : Sample) (h : List Event) → finite p.y ≡ true → ZeroOrTwo (mark_in h) → Reaches (turns_of stop) (first_at stop x p) h
  unfolding first_at mark_in
  marks_first x p h f m =
      ends_stops stop _ (λ e. ends_done m)
      (λ e. ends_value x (λ n. m) (λ q v. marks_second p q _ (not_found_size stop p.y good f e) (answered_finite a x q v) m))

  marks_ordered : (x y : Float) → Reaches (turns_of stop) (ordered stop x y) []
  unfolding ordered mark_in
  marks_ordered x y = ends_value x (λ n. inl refl) (λ p v. marks_first y p _ (answered_finite a x p v) (inl refl))

  marks_opening : (from to : Float) → Reaches (turns_of stop) (opening stop from to) []
  unfolding opening rising
  marks_opening from to = ends_test (lt to from) (λ e. marks_ordered to from) (λ e. marks_ordered from to)

  module _ (n : ℕ) (s : Illinois) (b : Heavy stop (suc n) s) where
    marks_arrived : (p : Sample) (h : List Event) → finite p.y ≡ true → ZeroOrTwo (mark_in h) → Reaches n (arrived stop s p) h
    unfolding arrived mark_in
    marks_arrived p h f m =
        ends_stops stop _ (λ e. ends_done m)
        (λ e.
        let z = not_found_size stop p.y good f e in
        ends_log _ (ends_narrows (replaced_of s p) pair_of (replaced_heavy stop small n s p z b, after_signs (departs s p) (mark_in h) (never_departs stop small (suc n) s p z b) m)))

    marks_landed : (x : Float) (h : List Event) → ZeroOrTwo (mark_in h) → Reaches n (landed stop s x) h
    unfolding landed mark_in
    marks_landed x h m = ends_stops stop _ (λ e. ends_done m) (λ e. ends_value x (λ v. m) (λ p v. marks_arrived p _ (answered_finite a x p v) m))

    marks_pulled : (x : Float) (h : List Event) → ZeroOrTwo (mark_in h) → Reaches n (pulled_in stop s x) h
    unfolding pulled_in mark_in
    marks_pulled x h m = ends_pulled (landed stop s) _ _ x (marks_landed _ _ (after_pull _ (mark_in h) m))

    marks_turn : (h : List Event) → ZeroOrTwo (mark_in h) → Reaches n (turn_from stop s) h
    unfolding turn_from mark_in
    marks_turn h m = ends_offered (pulled_in stop s) _ (λ c. m) (λ c. marks_pulled _ _ m)

  -- every Illinois search with a checked rule and finite starts ends with mark 0 or 2
  pub regula_falsi_marks : (from to : Float) → finite from ≡ true → finite to ≡ true → Ends (oracle a) (λ (x : Answer) (h : List Event). ZeroOrTwo (mark_in h)) (illinois_program stop from to) []
  unfolding illinois_program
  regula_falsi_marks from to c d = ends_searches (λ r. turns_of stop) (turn_from stop) Marked Post (marks_opening from to) (λ n s h b. marks_turn n s b.0 h b.1) (λ s h b. b.1)
