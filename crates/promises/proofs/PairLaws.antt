-- Between the starts: the pairs, each in the one before it, and the root, by the order of doubles.
use Rattle.std.specs.Prelude.{ℕ, true, List, [], ◌∷◌, ◌≡◌, Float}
use Rattle.std.proofs.Common.{subst}
use Rattle.doubles.specs.Doubles.{order_of}
use Rattle.doubles.specs.Number.{Double}
use Rattle.doubles.specs.Pairs.{Inside, BetweenZ}
use Rattle.doubles.proofs.Pairs.{inside_order}
use Rattle.numerical.specs.declared.Answer.{Answer}
use Rattle.numerical.specs.declared.Answer.TheVariants.{ByValue, ByWidth}
use Rattle.numerical.specs.declared.Interval.{Interval}
use Rattle.searching.proofs.BracketLaws.{ends_fit, newest_backed, newest_in}
use Rattle.searching.specs.Brackets.{pairs_in, Backed, Narrows, no_pair, first_pair, next_pair, Told}
use Rattle.simple_convergency.specs.declared.Tolerances.{Tolerances}
use Rattle.roots.specs.Calls.{all_finite, starts_of, answer}
use Rattle.roots.specs.declared.Method.{Method}
use Rattle.roots.specs.declared.Method.TheVariants.{Brent, RegulaFalsi, Secant, NewtonRaphson, Polynom}
use Rattle.promises.specs.EarlyLaws.{at_once}
use Rattle.promises.proofs.AnswerLaws.{passed}
use Rattle.promises.proofs.EndLaws.{two_doubles, bracket_of}
use Rattle.promises.specs.Searches.{history_of, Held, Bracketed, PairBetween, NestedByOrder}

-- pairs that narrow are nested by the order number, and lie between the starts
module _ {a : List Float} {u v : Float} (du : Double u) (dv : Double v) where
  pair_between : (x y : Float) (i : Interval) → Double x → Double y → Backed a i → Inside x y i.begin.x → Inside x y i.end.x → PairBetween x y i
  pair_between x y i dx dy b p q = ((inside_order x y i.begin.x dx dy b.begin_double).0 p, (inside_order x y i.end.x dx dy b.end_double).0 q)

  first_between : (i : Interval) → Backed a i → Narrows a u v (i ∷ []) → PairBetween u v i
  first_between i b n = let k = ends_fit b in pair_between u v i du dv b (newest_in i.begin.x n k.0.is_inside) (newest_in i.end.x n k.1.is_inside)

  by_order : {l : List Interval} → Narrows a u v l → NestedByOrder u v l
  by_order no_pair = tt
  by_order (first_pair b s) = first_between _ b (first_pair b s)
  by_order (next_pair {i = i} {j = j} b n l) = (
    pair_between u v j du dv b (newest_in j.begin.x l n.one_in) (newest_in j.end.x l n.other_in),
    pair_between i.begin.x i.end.x j (newest_backed l).begin_double (newest_backed l).end_double b n.one_in n.other_in,
    by_order l,
  )

module _ (a : List Float) (m : Method) (tolerances : Tolerances) (limit : ℕ) (z : at_once a m tolerances limit ≡ 0) (d : Held (starts_of m)) (u v : Float) (s : Bracketed m u v) where
  pub pairs_of : Narrows a u v (pairs_in (history_of a m tolerances limit))
  pairs_of = (bracket_of a m tolerances limit z d u v s).narrows

  start_doubles : Double u × Double v
  start_doubles = go m s d (passed a m tolerances limit z).starts_finite
    where
      go : (m : Method) → Bracketed m u v → Held (starts_of m) → all_finite (starts_of m) ≡ true → Double u × Double v
      go (Brent from to) s d e = rw (← s.0, ← s.1) (two_doubles from to d e)
      go (RegulaFalsi from to) s d e = rw (← s.0, ← s.1) (two_doubles from to d e)
      go (Secant first second) s d e = absurd s
      go (NewtonRaphson start) s d e = absurd s
      go (Polynom from to) s d e = rw (← s.0, ← s.1) (two_doubles from to d e)

  between : (root : Float) → Inside u v root × Double root → BetweenZ (order_of u) (order_of v) (order_of root)
  between root t = (inside_order u v root start_doubles.0 start_doubles.1 t.1).0 t.0

  pub root_by_value : (root y : Float) → (answer a m tolerances limit).answer ≡ ByValue root y → BetweenZ (order_of u) (order_of v) (order_of root)
  root_by_value root y e = between root (subst (λ (x : Answer). Told a u v x) e (bracket_of a m tolerances limit z d u v s).told)

  pub root_by_width : (root p q : Float) → (answer a m tolerances limit).answer ≡ ByWidth root p q → BetweenZ (order_of u) (order_of v) (order_of root)
  root_by_width root p q e = between root (subst (λ (x : Answer). Told a u v x) e (bracket_of a m tolerances limit z d u v s).told)

  pub pairs_nested : NestedByOrder u v (pairs_in (history_of a m tolerances limit))
  pairs_nested = by_order start_doubles.0 start_doubles.1 pairs_of
