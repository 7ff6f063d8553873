-- What most of the theorems rest on.
use Rattle.std.proofs.Common.{◌≡◌, sym, ◌∙◌}
use Rattle.once.specs.One.{One}

-- a contract that only says what the result is
pub fixed : {K : Type 0} {A Z : K → Type 0} (E : K → Type 0) (d : (k : K) → A k → Z k) → One {E = E} (λ k a x e. x ≡ d k a)
fixed E d k a x y e f p q = p ∙ sym q
