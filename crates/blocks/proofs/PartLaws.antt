-- A part of a block, taken by how many bytes there are, and where it stands once it is moved.
use Rattle.std.specs.Prelude.{ℕ, ◌+◌, ◌-◌, min, List, ◌++◌, ◌≡◌, length, take, drop}
use Rattle.std.specs.List.{copy_within}
use Rattle.std.proofs.Common.{arith, Bool, true, false, ltb, refl, ap, sym, ◌∙◌, take_at, ltb-true, ltb-false}
use Rattle.std.proofs.lemmas.Grind.{common_steps}
use Rattle.std.proofs.lemmas.List.{drop_all, drop-take, length-take}
use Rattle.blocks.specs.Blocks.{part_of}

pub part_moved : (block : List ℕ) (from to : ℕ) {m n : ℕ} {now : List ℕ} → m ≡ min to (length block) → n ≡ m - from → now ≡ copy_within block from (from + n) 0 → now ≡ part_of block from to ++ drop (length (part_of block from to)) block
part_moved block from to d e f = grind (arith, common_steps)

-- what is left of the bytes up to an index, as a part of the block
part_left : (block : List ℕ) (from to : ℕ) → part_of block from to ≡ drop from (take to block)
part_left block from to = go (ltb to from) refl
  where
    go : (b : Bool) → ltb to from ≡ b → part_of block from to ≡ drop from (take to block)
    go true q =
        let h = ltb-true to from q in
        ap (λ (n : ℕ). take n (drop from block)) (let z : to - from ≡ 0 = omega arith in z) ∙ sym (drop_all from (take to block) (let l = length-take to block in omega arith))
    go false q =
        let h = ltb-false to from q in
        sym (ap (λ (n : ℕ). drop from (take n block)) (let z : to ≡ from + (to - from) = omega arith in z) ∙ drop-take from (to - from) block)

-- it stands at the front
pub part_kept : (block : List ℕ) (from to : ℕ) {n : ℕ} {now : List ℕ} → n ≡ length (part_of block from to) → now ≡ part_of block from to ++ drop (length (part_of block from to)) block → take n now ≡ drop from (take to block)
part_kept block from to {n} d e = ap (take n) e ∙ take_at (part_of block from to) (drop (length (part_of block from to)) block) n (sym d) ∙ part_left block from to
