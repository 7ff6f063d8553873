-- The verdict over a whole input, read block by block.
use Rattle.std.specs.Prelude.{ℕ, true, false, List, [], ◌∷◌, ◌++◌, ◌≡◌, refl, drop}
use Rattle.std.specs.declared.ops.ControlFlow.TheVariants.{Break, Continue}
use Rattle.std.proofs.lemmas.Bool.{false≢true}
use Rattle.std.proofs.Common.{append_assoc, ap, sym, ◌∙◌}
use Rattle.playback.specs.Playback.{played_from, played_back}
use Rattle.playback.specs.declared.Playback.{Playback}
use Rattle.replay.specs.Courses.{Goes, reached_at}
use Rattle.replay.specs.declared.Reached.{Reached}
use Rattle.replay.specs.declared.Rest.{Rest}

-- the bytes of all blocks
abbrev pub joined : List (List ℕ) → List ℕ
joined [] = []
joined (b ∷ blocks) = b ++ joined blocks

-- the turns of `main` over the blocks that it reads, each by the contract of `played`, the last by that of `close`: what is kept stands before the next block
pub data Replays : List ℕ → Reached → List (List ℕ) → Playback → Type 0 where
  at_end : {kept : List ℕ} {reached : Reached} {v : Playback} → Goes kept true reached (Break v) → Replays kept reached [] v
  ended : {kept b : List ℕ} {blocks : List (List ℕ)} {reached : Reached} {v : Playback} → Goes (kept ++ b) false reached (Break v) → Replays kept reached (b ∷ blocks) v
  onward : {kept b : List ℕ} {blocks : List (List ℕ)} {reached : Reached} {rest : Rest} {v : Playback} → Goes (kept ++ b) false reached (Continue rest) → Replays (drop rest.at (kept ++ b)) rest.reached blocks v → Replays kept reached (b ∷ blocks) v

replays_on : {kept : List ℕ} {reached : Reached} {blocks : List (List ℕ)} {v : Playback} → Replays kept reached blocks v → played_from reached.records reached.offset (kept ++ joined blocks) ≡ v
replays_on (at_end g) = g [] (λ e. refl)
replays_on {reached = reached} (ended {kept = kept} {b = b} {blocks = blocks} g) = ap (played_from reached.records reached.offset) (sym (append_assoc kept b (joined blocks))) ∙ g (joined blocks) (λ e. absurd (false≢true e))
replays_on {reached = reached} (onward {kept = kept} {b = b} {blocks = blocks} (l, w, s, i, j, g) r) = ap (played_from reached.records reached.offset) (sym (append_assoc kept b (joined blocks))) ∙ g (joined blocks) ∙ replays_on r

-- however the input is cut into blocks, the verdict is that of all its bytes
pub input_verdict : (blocks : List (List ℕ)) (v : Playback) → Replays [] (reached_at 0 0) blocks v → v ≡ played_back (joined blocks)
input_verdict blocks v r = sym (replays_on r)
