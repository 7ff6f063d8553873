-- Texts worked out. Assumes nothing.
use Rattle.std.specs.Prelude.{[], ◌∷◌, ◌≡◌, refl, true}
use Rattle.line_text.specs.Texts.{bytes, decimal_text}
use Rattle.record_text.specs.RecordTexts.{hex_bytes, refused_text, line_record}

-- two digits for each byte, in lower case and with a zero in front
digits : (hex_bytes (1 ∷ 18 ∷ 171 ∷ 255 ∷ []) ≡ bytes "0112abff") × (hex_bytes [] ≡ [])
digits = (refl, refl)

refusals : (refused_text 11 ≡ bytes "refused 11\n") × (refused_text 1 ≡ bytes "refused 1\n")
unfolding refused_text decimal_text
refusals = (refl, refl)

too_long : line_record true (bytes "1 2") ≡ bytes "error too long\n"
too_long = refl
