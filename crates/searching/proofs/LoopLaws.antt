-- The loop of every method: after n turns the code stands at a state, and what is left of the run gives the whole answer.
use Prim.Native.Nat.{ℕ, suc, ◌+◌, ◌*◌, ◌-◌, ◌≤◌, ◌<◌}
use native.Mathlib.Omega.{arith}
use Rattle.std.proofs.Math.Nat.{sub-zero}
use Rattle.std.specs.Prelude.{List, ◌≡◌, Float}
use Rattle.std.proofs.Math.Path.{refl}
use Rattle.std.proofs.Common.{ap, sym, ◌∙◌}
use Rattle.std.specs.declared.ops.ControlFlow.{ControlFlow}
use Rattle.std.specs.declared.ops.ControlFlow.TheVariants.{Break, Continue}
use Rattle.numerical.specs.Answers.{outcome}
use Rattle.numerical.specs.Tallies.{fresh, Room}
use Rattle.numerical.proofs.TallyLaws.{room_fresh}
use Rattle.numerical.specs.declared.Answer.{Answer}
use Rattle.numerical.specs.declared.Answer.TheVariants.{Refused}
use Rattle.numerical.specs.declared.Outcome.{Outcome}
use Rattle.numerical.specs.declared.Progress.{Progress}
use Rattle.simple_convergency.specs.Stop.{greatest_limit}
use Rattle.searching.specs.Programs.{Prog, Turned, ended, next, run, searches, oracle, play, tallied, answer_of}
use Rattle.searching.proofs.ProgramLaws.{play_bind, run_ended}
use Rattle.searching.specs.Bounds.{Within}
use Rattle.searching.proofs.BoundLaws.{within_room}
use Rattle.searching.specs.Loops.{closed_of, run_of, Ample}
use Rattle.searching.specs.Turns.{seen, viewed}
use Rattle.searching.specs.declared.Turn.{Turn}

-- ---- from an opening to its turns

module _ {S : Type 0} (opening : Prog (Turned S)) (cs : List Float) {r : Turned S × Progress} {q : Progress} (begun : q ≡ fresh) (opened : r ≡ play tallied (oracle cs) opening q) where
  came_to : r ≡ play tallied (oracle cs) opening fresh
  came_to = opened ∙ ap (play tallied (oracle cs) opening) begun

  -- after an opening there is room for all turns
  pub opened_room : Within 3 3 3 opening → Ample r.1
  opened_room small =
      rw (ap (λ (w : Turned S × Progress). w.1) came_to) (within_room (oracle cs) small (omega arith) (omega arith) (omega arith) (omega arith) (room_fresh {k = 5 * greatest_limit + 3} (omega arith) refl))

  -- the turns from where the opening led are the rest of the search
  pub opened_search : (turns : Turned S → ℕ) (turn : S → Prog (Turned S)) {most : ℕ} {w : Outcome} → most ≡ turns r.0 → w ≡ closed_of cs turn most r → w ≡ answer_of cs (searches opening turns turn)
  unfolding answer_of searches closed_of
  opened_search turns turn e k = k ∙ rw (e, play_bind, ← came_to) refl

-- ---- what is left where the opening led

module _ {S : Type 0} (turn : S → Prog (Turned S)) (cs : List Float) (most : ℕ) (t : Turn S) where
  pub closed_end : {a : Answer} → t.leads ≡ Break a → outcome (a, t.progress) ≡ closed_of cs turn most (viewed t)
  unfolding closed_of play
  closed_end e = rw (e, run_ended) refl

  pub closed_state : {s : S} {w : Outcome} → t.leads ≡ Continue s → w ≡ run_of cs turn most s t.progress → w ≡ closed_of cs turn most (viewed t)
  unfolding closed_of run_of
  closed_state e k = k ∙ rw e refl

-- ---- the loop

module _ {S : Type 0} (turn : S → Prog (Turned S)) (cs : List Float) (w : Outcome) where
  -- the loop's invariant, before turn n of at most `most`: w is the whole answer
  pub record Loops (most n : ℕ) (s : S) (p : Progress) : Type 0 where
    pub rest : run_of cs turn (most - n) s p ≡ w
    pub passed : n ≤ most
    pub top : most ≤ greatest_limit
    pub room : Room (3 * (most - n)) p

  pub loops_first : {most : ℕ} {s : S} {p : Progress} → most ≤ greatest_limit → Ample p → w ≡ run_of cs turn most s p → Loops most 0 s p
  loops_first h r e =
      let a = r.steps in let b = r.values in let c = r.derivatives in
      record { rest = rw (e, sub-zero) refl; passed = omega arith; top = h; room = record { steps = omega arith; values = omega arith; derivatives = omega arith } }

  module _ {most n : ℕ} {s : S} {p : Progress} (i : Loops most n s p) where
    pub loops_room : n < most → Room 3 p
    loops_room h =
        let a = i.room.steps in let b = i.room.values in let c = i.room.derivatives in
        record { steps = omega arith; values = omega arith; derivatives = omega arith }

    pub loops_out : most ≤ n → outcome (Refused 8, p) ≡ w
    unfolding run_of run play
    loops_out h = rw none at i.rest
      where
        none : most - n ≡ 0
        none = omega arith

    module _ (t : Turn S) (h : n < most) (f : viewed t ≡ play tallied (oracle cs) (turn s) p) where
      -- what is left after one turn more
      left : outcome (play tallied (oracle cs) (run turn (most - (n + 1)) (seen t.leads)) t.progress) ≡ w
      unfolding run_of run
      left = rw (← f) at (rw (fuel, play_bind) at i.rest)
        where
          fuel : most - n ≡ suc (most - (n + 1))
          fuel = omega arith

      pub loops_next : Within 3 3 3 (turn s) → {s2 : S} → t.leads ≡ Continue s2 → Loops most (n + 1) s2 t.progress
      unfolding run_of
      loops_next small e =
          record {
            rest = rw e at left;
            passed = omega arith;
            top = i.top;
            room = rw (ap (λ (r : Turned S × Progress). r.1) f) (within_room (oracle cs) small (omega arith) (omega arith) (omega arith) (omega arith) i.room);
          }

      pub loops_ended : {a : Answer} → t.leads ≡ Break a → outcome (a, t.progress) ≡ w
      unfolding play
      loops_ended {a} e = rw (e, run_ended) at left

-- ---- where a turn leads is what it stands for: contracts by views determine their results

apart : {S : Type 0} {a : Answer} {s : S} → ◌≡◌ {A = Turned S} (ended a) (next s) → ⊥
apart e = let z : ◌≡◌ {A = ℕ} 0 1 = cc in omega arith

pub seen_once : {S : Type 0} (x y : ControlFlow Answer S) → seen x ≡ seen y → x ≡ y
seen_once (Break a) (Break b) e = cc
seen_once (Break a) (Continue s) e = absurd (apart e)
seen_once (Continue s) (Break b) e = absurd (apart (sym e))
seen_once (Continue s) (Continue t) e = cc
