-- Each public function of `roots_c`: its contract allows one result, and one last value of each buffer.
use Rattle.std.specs.Prelude.{ℕ, List, Float}
use Rattle.std.proofs.Common.{sym, ◌∙◌}
use Rattle.roots_c.proofs.roots_search.Reads as roots-search-reads
use Rattle.roots_c.proofs.roots_version.Reads as roots-version-reads
use Rattle.roots_c.proofs.roots_record_write.Reads as roots-record-write-reads
use Rattle.roots_c.proofs.roots_record_read.Reads as roots-record-read-reads
use Rattle.once.specs.One.{One, Last}
use Rattle.once.proofs.Fixed.{fixed}

pub roots_version_once : One roots-version-reads.Learnt
roots_version_once = fixed _ _

-- the kind, then the buffers `numbers` and `tallies`, parameters 7 and 8 counted from 0
pub roots_search_once : One roots-search-reads.Learnt
roots_search_once k a x y e f p q = p.0 ∙ sym q.0

pub roots_search_numbers : Last {B = List Float} roots-search-reads.Learnt (λ k e. e.1.1.1.1.1.1.1.0.now)
roots_search_numbers k a x y e f p q = p.1.0 ∙ sym q.1.0

pub roots_search_tallies : Last {B = List ℕ} roots-search-reads.Learnt (λ k e. e.1.1.1.1.1.1.1.1.0.now)
roots_search_tallies k a x y e f p q = p.1.1 ∙ sym q.1.1

-- the refusal, then the buffers `bytes` and `length`, parameters 11 and 12 counted from 0
pub roots_record_write_once : One roots-record-write-reads.Learnt
roots_record_write_once k a x y e f p q = p.0 ∙ sym q.0

pub roots_record_write_bytes : Last {B = List ℕ} roots-record-write-reads.Learnt (λ k e. e.1.1.1.1.1.1.1.1.1.1.1.0.now)
roots_record_write_bytes k a x y e f p q = p.1.0 ∙ sym q.1.0

pub roots_record_write_length : Last {B = ℕ} roots-record-write-reads.Learnt (λ k e. e.1.1.1.1.1.1.1.1.1.1.1.1.0.now)
roots_record_write_length k a x y e f p q = p.1.1 ∙ sym q.1.1

-- the refusal, then the five buffers, parameters 1 to 5
pub roots_record_read_once : One roots-record-read-reads.Learnt
roots_record_read_once k a x y e f p q = p.0 ∙ sym q.0

pub roots_record_read_coefficients : Last {B = List Float} roots-record-read-reads.Learnt (λ k e. e.1.0.now)
roots_record_read_coefficients k a x y e f p q = p.1.0 ∙ sym q.1.0

pub roots_record_read_points : Last {B = List Float} roots-record-read-reads.Learnt (λ k e. e.1.1.0.now)
roots_record_read_points k a x y e f p q = p.1.1.0 ∙ sym q.1.1.0

pub roots_record_read_numbers : Last {B = List Float} roots-record-read-reads.Learnt (λ k e. e.1.1.1.0.now)
roots_record_read_numbers k a x y e f p q = p.1.1.1.0 ∙ sym q.1.1.1.0

pub roots_record_read_tallies : Last {B = List ℕ} roots-record-read-reads.Learnt (λ k e. e.1.1.1.1.0.now)
roots_record_read_tallies k a x y e f p q = p.1.1.1.1.0 ∙ sym q.1.1.1.1.0

pub roots_record_read_words : Last {B = List ℕ} roots-record-read-reads.Learnt (λ k e. e.1.1.1.1.1.0.now)
roots_record_read_words k a x y e f p q = p.1.1.1.1.1 ∙ sym q.1.1.1.1.1
