-- What every state of an Illinois run keeps to, under a rule that was checked: its values and halved weights are never so small that a product of them rounds to zero.
use Rattle.std.specs.Prelude.{ℕ, suc, ◌+◌, ◌≤◌, Bool, true, false, ◌≡◌, T}
use Rattle.std.proofs.Common.{arith, true≢false, sym, ◌∙◌}
use Rattle.std.specs.Bool.{beq}
use Rattle.std.proofs.Math.Path.{refl}
use Rattle.std.specs.Float.{binary64}
use Rattle.std.specs.Float.Ieee.{mul, of_bits}
use Rattle.doubles.specs.Doubles.{above, same_sign}
use Rattle.doubles.specs.Sizes.{at_least}
use Rattle.doubles.proofs.Sizes.{half_size, half_stands, sided, same_sign_is, product_tells}
use Rattle.numerical.specs.declared.Sample.{Sample}
use Rattle.simple_convergency.specs.Stop.{least_power, greatest_limit, turns_of}
use Rattle.simple_convergency.specs.declared.StopRule.{StopRule}
use Rattle.regula_falsi.specs.RegulaFalsi.{whole, halved, right_after, left_after, elsewhere, replaced_of, departs}
use Rattle.regula_falsi.proofs.RegulaFalsiKeeps.{replaced_signs}
use Rattle.regula_falsi.specs.declared.End.{End}
use Rattle.regula_falsi.specs.declared.Edge.{Edge}
use Rattle.regula_falsi.specs.declared.Edge.TheVariants.{EdgeX1, NoEdge, EdgeX2}
use Rattle.regula_falsi.specs.declared.Illinois.{Illinois}
use Rattle.regula_falsi.specs.RegulaFalsiWeights.{Weighs, Heavy}

module _ (stop : StopRule) (small : stop.limit ≤ greatest_limit) where
  few : turns_of stop ≤ greatest_limit
  few = omega (arith, small)

  weighs_on : (n : ℕ) (e : End) → Weighs stop (suc n) e → Weighs stop n e
  weighs_on n e w =
      record { power = w.power; bound = omega (arith, w.bound); size = w.size; side = w.side; weight_side = w.weight_side; value_side = w.value_side }

  pub weighs_whole : (n : ℕ) (p : Sample) → n ≤ turns_of stop → T (at_least least_power p.y) → Weighs stop n (whole p)
  weighs_whole n p l h = let s = sided least_power p.y h in record { power = least_power; bound = omega (arith, l); size = h; side = s.0; weight_side = s.1; value_side = s.1 }

  weighs_half : (n : ℕ) (e : End) → Weighs stop (suc n) e → Weighs stop n (halved e)
  unfolding of_bits
  weighs_half n e w =
      let room : w.power + 1 ≤ 1074 = omega (arith, w.bound, few) in
      record {
        power = w.power + 1;
        bound = omega (arith, w.bound);
        size = half_size e.weight w.power room w.size;
        side = w.side;
        weight_side = half_stands w.side e.weight w.power room w.size w.weight_side;
        value_side = w.value_side;
      }

  right_weighs : (n : ℕ) (edge : Edge) (e : End) → Weighs stop (suc n) e → Weighs stop n (right_after edge e)
  right_weighs n EdgeX1 e w = weighs_half n e w
  right_weighs n NoEdge e w = weighs_on n e w
  right_weighs n EdgeX2 e w = weighs_on n e w

  left_weighs : (n : ℕ) (edge : Edge) (e : End) → Weighs stop (suc n) e → Weighs stop n (left_after edge e)
  left_weighs n EdgeX1 e w = weighs_on n e w
  left_weighs n NoEdge e w = weighs_on n e w
  left_weighs n EdgeX2 e w = weighs_half n e w

  -- the next state weighs too
  pub replaced_heavy : (n : ℕ) (s : Illinois) (p : Sample) → T (at_least least_power p.y) → Heavy stop (suc n) s → Heavy stop n (replaced_of s p)
  unfolding replaced_of
  replaced_heavy n s p z b = go (same_sign p.y s.left.at.y) refl
    where
      near : n ≤ turns_of stop
      near = omega (arith, b.within)

      go : (c : Bool) → same_sign p.y s.left.at.y ≡ c → Heavy stop n (replaced_of s p)
      go true e =
          record {
            left_end = rw e (weighs_whole n p near z);
            right_end = rw e (right_weighs n s.edge s.right b.right_end);
            apart = replaced_signs s p b.apart;
            within = near;
          }
      go false e =
          record {
            left_end = rw e (left_weighs n s.edge s.left b.left_end);
            right_end = rw e (weighs_whole n p near z);
            apart = replaced_signs s p b.apart;
            within = near;
          }

  -- where the sample's sign is not the left end's it is the right one's
  settled : (u l r : Bool) → beq l r ≡ false → elsewhere (beq u l) (beq u l) (beq u r) ≡ false
  settled true true true e = absurd (true≢false e)
  settled true true false e = refl
  settled true false true e = refl
  settled true false false e = absurd (true≢false e)
  settled false true true e = absurd (true≢false e)
  settled false true false e = refl
  settled false false true e = refl
  settled false false false e = absurd (true≢false e)

  -- a product with an end's weight says whether the signs are the same
  weight_tells : (n : ℕ) (e : End) (p : Sample) → Weighs stop n e → T (at_least least_power p.y) → above (mul binary64 p.y e.weight) ≡ same_sign p.y e.at.y
  weight_tells n e p w z =
      let v = sided least_power p.y z in
      product_tells p.y e.weight least_power w.power (omega (arith, w.bound, few)) z w.size
      ∙ same_sign_is v.0 w.side _ _ v.1 w.weight_side
      ∙ sym (same_sign_is v.0 w.side _ _ v.1 w.value_side)

  -- rule 1 never departs
  pub never_departs : (n : ℕ) (s : Illinois) (p : Sample) → T (at_least least_power p.y) → Heavy stop n s → departs s p ≡ false
  unfolding departs
  never_departs n s p z b =
      let v = sided least_power p.y z in
      let l = b.left_end in
      let r = b.right_end in
      rw (
        weight_tells n s.left p l z,
        weight_tells n s.right p r z,
        same_sign_is v.0 l.side _ _ v.1 l.value_side,
        same_sign_is v.0 r.side _ _ v.1 r.value_side,
      )
      (settled v.0 l.side r.side (sym (same_sign_is l.side r.side _ _ l.value_side r.value_side) ∙ b.apart))
