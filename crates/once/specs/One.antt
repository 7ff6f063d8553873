-- The words: what it is that a contract fixes its result, and the last value of a `&mut` parameter.
use Rattle.std.specs.Prelude.{◌≡◌}

-- a contract says of a call's lifetimes, arguments, result and parameters at exit whether it allows them:
-- two results that it allows for the same arguments are one
abbrev pub One : {K : Type 0} {A Z E : K → Type 0} → ((k : K) → A k → Z k → E k → Type 0) → Type 0
One {K} {A} {Z} {E} allows = (k : K) (a : A k) (x y : Z k) (e f : E k) → allows k a x e → allows k a y f → x ≡ y

-- the same of the last value that `read` picks
abbrev pub Last : {K B : Type 0} {A Z E : K → Type 0} → ((k : K) → A k → Z k → E k → Type 0) → ((k : K) → E k → B) → Type 0
Last {K} {B} {A} {Z} {E} allows read = (k : K) (a : A k) (x y : Z k) (e f : E k) → allows k a x e → allows k a y f → read k e ≡ read k f
