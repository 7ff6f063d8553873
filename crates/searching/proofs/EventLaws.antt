-- Laws of the events of a history: how a search goes on from event to event, and how it ends.
use Rattle.std.specs.Prelude.{ℕ, ◌≤◌, Bool, ◌&&◌, cond, ◌⊎◌, ◌≡◌, eqb, length, Float}
use native.Mathlib.Omega.{arith}
use Rattle.std.proofs.Math.Bool.{true, false}
use Rattle.std.proofs.Common.{true≢false, inl, inr, ◌∙◌}
use Rattle.std.proofs.lemmas.Bool.{false≢true}
use mathlib.Core.List.{List, [], ◌∷◌}
use Rattle.std.proofs.Math.Path.{refl, ap, sym}
use Rattle.doubles.specs.Doubles.{pulled, outside}
use Rattle.numerical.specs.Tallies.{mark_after}
use Rattle.numerical.specs.declared.Answer.{Answer}
use Rattle.numerical.specs.declared.Interval.{Interval}
use Rattle.numerical.specs.declared.Sample.{Sample}
use Rattle.simple_convergency.specs.declared.StopRule.{StopRule}
use Rattle.std.specs.Prelude.{Option, Some, None}
use Rattle.polynom.specs.declared.ValueAndDerivative.{ValueAndDerivative}
use Rattle.searching.specs.Programs.{Test, found, converged, flat, alike, tested, candidate, ruled, paired, stepped, log, Event, asked, asked_both, noted, Prog, Turned, stops, value_at, both_at, offered, pulled_into, bracketed, narrows_to, Oracle}
use Rattle.searching.specs.Histories.{values_in, steps_in, mark_in}
use Rattle.searching.specs.Brackets.{pairs_in}
use Rattle.searching.specs.Events.{signs_missed, evaluations_in, evaluated_since, Newest, Each, Width, BeforePairs, Traced, Opening, Tracing}
use Rattle.searching.specs.Keeps.{Ends, After}
use Rattle.searching.proofs.Keeps.{ends_log, ends_stops, ends_value, ends_both, ends_offered, ends_pulled, ends_bracketed, ends_narrows}
use Rattle.searching.specs.EventLaws.{plain, Same}

plain_same : (e : Event) (h : List Event) → plain e ≡ true → Same h (e ∷ h)
unfolding pairs_in steps_in signs_missed
plain_same (asked x e) h p = record { pairs = refl; steps = refl; signs = refl }
plain_same (asked_both x e) h p = record { pairs = refl; steps = refl; signs = refl }
plain_same (noted (tested (found s) held)) h p = record { pairs = refl; steps = refl; signs = refl }
plain_same (noted (tested (converged x y) held)) h p = record { pairs = refl; steps = refl; signs = refl }
plain_same (noted (tested (flat y) held)) h p = record { pairs = refl; steps = refl; signs = refl }
plain_same (noted (tested (alike s t) held)) h p = absurd (false≢true p)
plain_same (noted (candidate x)) h p = record { pairs = refl; steps = refl; signs = refl }
plain_same (noted (ruled rule departed)) h p = record { pairs = refl; steps = refl; signs = refl }
plain_same (noted (paired i)) h p = absurd (false≢true p)
plain_same (noted stepped) h p = absurd (false≢true p)

mark_after_lem : (rule : ℕ) (departed : Bool) (mark : ℕ) → (rule ≡ 1) ⊎ (rule ≡ 2) → mark ≤ 2 → mark_after rule departed mark ≤ 2
unfolding mark_after
mark_after_lem rule departed mark r m = go (departed && eqb mark 0)
  where
    go : (c : Bool) → cond c rule mark ≤ 2
    go true = elim r [ inl e ↦ omega (arith, e) | inr e ↦ omega (arith, e) ]
    go false = m

-- where every added rule is 1 or 2, so is the mark, or it is 0
module _ (Follows : Event → List Event → Type 0) (known : (rule : ℕ) (departed : Bool) (h : List Event) → Follows (noted (ruled rule departed)) h → (rule ≡ 1) ⊎ (rule ≡ 2)) where
  pub mark_known : (h : List Event) → Each Follows h → mark_in h ≤ 2
  unfolding mark_in
  mark_known [] l = omega arith
  mark_known (asked x e ∷ h) l = mark_known h l.1
  mark_known (asked_both x e ∷ h) l = mark_known h l.1
  mark_known (noted (tested t held) ∷ h) l = mark_known h l.1
  mark_known (noted (candidate x) ∷ h) l = mark_known h l.1
  mark_known (noted (ruled rule departed) ∷ h) l = mark_after_lem rule departed (mark_in h) (known rule departed h l.0) (mark_known h l.1)
  mark_known (noted (paired i) ∷ h) l = mark_known h l.1
  mark_known (noted stepped ∷ h) l = mark_known h l.1

-- the values counted are the evaluations
pub values_are : (h : List Event) → values_in h ≡ length (evaluations_in h)
unfolding values_in evaluations_in
values_are [] = refl
values_are (asked x e ∷ h) = omega (arith, values_are h)
values_are (asked_both x e ∷ h) = omega (arith, values_are h)
values_are (noted n ∷ h) = values_are h

module _ {Follows : Event → List Event → Type 0} where
  -- ---- before the first pair

  pub opening_none : Opening Follows []
  unfolding pairs_in steps_in signs_missed
  opening_none = record { each = tt; no_pair = refl; no_step = refl; no_signs = refl }

  pub opening_on : {h : List Event} (e : Event) → plain e ≡ true → Follows e h → Opening Follows h → Opening Follows (e ∷ h)
  opening_on {h} e p l o =
      let s = plain_same e h p in
      record { each = (l, o.each); no_pair = s.pairs ∙ o.no_pair; no_step = s.steps ∙ o.no_step; no_signs = s.signs ∙ o.no_signs }

  pub traced_early : {Gives : Float → Float → Float → List Event → Type 0} {answer : Answer} {h : List Event} → BeforePairs answer → Width Gives answer h → Opening Follows h → Traced Follows Gives answer h
  traced_early b w o =
      record {
        ordered = record { each = o.each; width = w };
        with_pairs = λ e. absurd (false≢true (sym o.no_signs ∙ e));
        without = λ e. (o.no_pair, o.no_step, b);
      }

  -- ---- with a pair

  pub tracing_newest : {i : Interval} {h : List Event} → Tracing Follows i h → Newest i h
  tracing_newest t = (t.older, t.newest)

  pub tracing_on : {i : Interval} {h : List Event} (e : Event) → plain e ≡ true → Follows e h → Tracing Follows i h → Tracing Follows i (e ∷ h)
  tracing_on {h = h} e p l t =
      let s = plain_same e h p in
      record { each = (l, t.each); older = t.older; newest = s.pairs ∙ t.newest; count = t.count ∙ sym s.steps; signs = s.signs ∙ t.signs }

  -- a step to the pair j
  pub tracing_next :
      {i : Interval} {h : List Event} (j : Interval) → Follows (noted (paired j)) h → Follows (noted stepped) (noted (paired j) ∷ h) → Tracing Follows i h →
      Tracing Follows j (noted stepped ∷ noted (paired j) ∷ h)
  unfolding pairs_in steps_in signs_missed
  tracing_next {i = i} j p s t =
      record {
        each = (s, (p, t.each));
        older = i ∷ t.older;
        newest = ap (λ (l : List Interval). j ∷ l) t.newest;
        count = omega (arith, t.count);
        signs = t.signs;
      }

  pub traced_end : {Gives : Float → Float → Float → List Event → Type 0} {answer : Answer} {i : Interval} {h : List Event} → Width Gives answer h → Tracing Follows i h → Traced Follows Gives answer h
  traced_end w t =
      record {
        ordered = record { each = t.each; width = w };
        with_pairs = λ e. ap length t.newest ∙ omega (arith, t.count);
        without = λ e. absurd (true≢false (sym t.signs ∙ e));
      }

  -- ---- the words of programs
  module _ {S : Type 0} {o : Oracle} {Inv : S → List Event → Type 0} {Gives : Float → Float → Float → List Event → Type 0} {h : List Event} where
    -- a value is asked for before the first pair: 9, or on with the sample
    pub opening_value :
        {k : Sample → Prog (Turned S)} (x : Float) → ((e : Option Sample) → Follows (asked x e) h) → Opening Follows h →
        ((p : Sample) → Opening Follows (asked x (Some p) ∷ h) → Ends o (After Inv (Traced Follows Gives)) (k p) (asked x (Some p) ∷ h)) →
        Ends o (After Inv (Traced Follows Gives)) (value_at x k) h
    opening_value x l b f = ends_value x (λ n. traced_early (inr refl) tt (opening_on _ refl (l None) b)) (λ p n. f p (opening_on _ refl (l (Some p)) b))

    -- a stop test that is no sign test is made before the first pair
    pub opening_stops :
        {f g : Prog (Turned S)} (stop : StopRule) (t : Test) → ((held : Bool) → plain (noted (tested t held)) ≡ true) → ((held : Bool) → Follows (noted (tested t held)) h) → Opening Follows h →
        (Opening Follows (noted (tested t true) ∷ h) → Ends o (After Inv (Traced Follows Gives)) f (noted (tested t true) ∷ h)) →
        (Opening Follows (noted (tested t false) ∷ h) → Ends o (After Inv (Traced Follows Gives)) g (noted (tested t false) ∷ h)) →
        Ends o (After Inv (Traced Follows Gives)) (stops stop t f g) h
    opening_stops stop t p l b f g = ends_stops stop t (λ e. f (opening_on _ (p true) (l true) b)) (λ e. g (opening_on _ (p false) (l false) b))

    -- the opening sign test: 6, or the first pair
    pub traced_bracketed :
        (stop : StopRule) (i : Interval) (s : S) →
        ((departed : Bool) → Follows (noted (ruled 1 departed)) h) →
        ((departed held : Bool) → Follows (noted (tested (alike i.begin i.end) held)) (noted (ruled 1 departed) ∷ h)) →
        ((departed held : Bool) → Follows (noted (paired i)) (noted (tested (alike i.begin i.end) held) ∷ noted (ruled 1 departed) ∷ h)) →
        Opening Follows h → ((h2 : List Event) → pairs_in h2 ≡ i ∷ [] → evaluated_since h2 ≡ evaluated_since h → Tracing Follows i h2 → Inv s h2) →
        Ends o (After Inv (Traced Follows Gives)) (bracketed stop i.begin i.end s) h
    unfolding pairs_in steps_in signs_missed evaluated_since
    traced_bracketed stop i s r t p b f =
        ends_bracketed s stop i.begin i.end
        (λ e. traced_early (inl refl) tt (record { each = (t _ true, (r _, b.each)); no_pair = b.no_pair; no_step = b.no_step; no_signs = b.no_signs }))
        (λ e. let n : i ∷ pairs_in h ≡ i ∷ [] = ap (λ (l : List Interval). i ∷ l) b.no_pair in
        f _ n refl (record { each = (p _ false, (t _ false, (r _, b.each))); older = []; newest = n; count = sym b.no_step; signs = refl }))

    -- the same with a pair
    module _ {i : Interval} where
      pub tracing_value :
          {k : Sample → Prog (Turned S)} (x : Float) → ((e : Option Sample) → Follows (asked x e) h) → Tracing Follows i h →
          ((p : Sample) → Tracing Follows i (asked x (Some p) ∷ h) → Ends o (After Inv (Traced Follows Gives)) (k p) (asked x (Some p) ∷ h)) →
          Ends o (After Inv (Traced Follows Gives)) (value_at x k) h
      tracing_value x l t f = ends_value x (λ n. traced_end tt (tracing_on _ refl (l None) t)) (λ p n. f p (tracing_on _ refl (l (Some p)) t))

      pub tracing_both :
          {k : ValueAndDerivative → Prog (Turned S)} (x : Float) → ((e : Option ValueAndDerivative) → Follows (asked_both x e) h) → Tracing Follows i h →
          ((v : ValueAndDerivative) → Tracing Follows i (asked_both x (Some v) ∷ h) → Ends o (After Inv (Traced Follows Gives)) (k v) (asked_both x (Some v) ∷ h)) →
          Ends o (After Inv (Traced Follows Gives)) (both_at x k) h
      tracing_both x l t f = ends_both x (λ n. traced_end tt (tracing_on _ refl (l None) t)) (λ v n. f v (tracing_on _ refl (l (Some v)) t))

      pub tracing_stops :
          {f g : Prog (Turned S)} (stop : StopRule) (t : Test) → ((held : Bool) → plain (noted (tested t held)) ≡ true) → ((held : Bool) → Follows (noted (tested t held)) h) → Tracing Follows i h →
          (Tracing Follows i (noted (tested t true) ∷ h) → Ends o (After Inv (Traced Follows Gives)) f (noted (tested t true) ∷ h)) →
          (Tracing Follows i (noted (tested t false) ∷ h) → Ends o (After Inv (Traced Follows Gives)) g (noted (tested t false) ∷ h)) →
          Ends o (After Inv (Traced Follows Gives)) (stops stop t f g) h
      tracing_stops stop t p l b f g = ends_stops stop t (λ e. f (tracing_on _ (p true) (l true) b)) (λ e. g (tracing_on _ (p false) (l false) b))

      -- a candidate is used: 9, or it is pulled into the pair
      pub tracing_candidate :
          (k : Float → Prog (Turned S)) (u v x : Float) → Follows (noted (candidate x)) h → Follows (noted (ruled 2 (outside u v x))) (noted (candidate x) ∷ h) → Tracing Follows i h →
          (Tracing Follows i (noted (ruled 2 (outside u v x)) ∷ noted (candidate x) ∷ h) → Ends o (After Inv (Traced Follows Gives)) (k (pulled u v x)) (noted (ruled 2 (outside u v x)) ∷ noted (candidate x) ∷ h)) →
          Ends o (After Inv (Traced Follows Gives)) (offered x (λ y. pulled_into u v y k)) h
      tracing_candidate k u v x l r t f =
          ends_offered _ x (λ c. traced_end tt (tracing_on _ refl l t)) (λ c. ends_pulled k u v x (f (tracing_on _ refl r (tracing_on _ refl l t))))

      -- rule 1 is applied
      pub tracing_ruled :
          {g : Prog (Turned S)} (departed : Bool) → Follows (noted (ruled 1 departed)) h → Tracing Follows i h →
          (Tracing Follows i (noted (ruled 1 departed) ∷ h) → Ends o (After Inv (Traced Follows Gives)) g (noted (ruled 1 departed) ∷ h)) →
          Ends o (After Inv (Traced Follows Gives)) (log (ruled 1 departed) g) h
      tracing_ruled departed l t f = ends_log _ (f (tracing_on _ refl l t))

      -- the step is completed
      pub tracing_narrows :
          (pair : S → Interval) (s : S) →
          Follows (noted (paired (pair s))) h → Follows (noted stepped) (noted (paired (pair s)) ∷ h) → Tracing Follows i h →
          (Tracing Follows (pair s) (noted stepped ∷ noted (paired (pair s)) ∷ h) → Inv s (noted stepped ∷ noted (paired (pair s)) ∷ h)) →
          Ends o (After Inv (Traced Follows Gives)) (narrows_to pair s) h
      tracing_narrows pair s p n t f = ends_narrows s pair (f (tracing_next (pair s) p n t))
