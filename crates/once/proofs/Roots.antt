-- Each public function of `roots`: its contract allows one result.
use Rattle.roots.proofs.search.Reads as search-reads
use Rattle.roots.proofs.search_simple.Reads as search-simple-reads
use Rattle.roots.proofs.search_plain.Reads as search-plain-reads
use Rattle.roots.proofs.find_root_brent.Reads as find-root-brent-reads
use Rattle.roots.proofs.find_root_regula_falsi.Reads as find-root-regula-falsi-reads
use Rattle.roots.proofs.find_root_secant.Reads as find-root-secant-reads
use Rattle.roots.proofs.find_root_newton_raphson.Reads as find-root-newton-raphson-reads
use Rattle.roots.proofs.find_root_polynom.Reads as find-root-polynom-reads
use Rattle.roots.proofs.Method.numbered.Reads as numbered-reads
use Rattle.roots.proofs.Method.start_count.Reads as start-count-reads
use Rattle.roots.proofs.Method.number.Reads as number-reads
use Rattle.roots.proofs.Method.starts.Reads as starts-reads
use Rattle.roots.proofs.BadCall.number.Reads as bad-number-reads
use Rattle.once.specs.One.{One}
use Rattle.once.proofs.Fixed.{fixed}

pub search_once : One search-reads.Learnt
search_once = fixed _ _

pub search_simple_once : One search-simple-reads.Learnt
search_simple_once = fixed _ _

pub search_plain_once : One search-plain-reads.Learnt
search_plain_once = fixed _ _

pub find_root_brent_once : One find-root-brent-reads.Learnt
find_root_brent_once = fixed _ _

pub find_root_regula_falsi_once : One find-root-regula-falsi-reads.Learnt
find_root_regula_falsi_once = fixed _ _

pub find_root_secant_once : One find-root-secant-reads.Learnt
find_root_secant_once = fixed _ _

pub find_root_newton_raphson_once : One find-root-newton-raphson-reads.Learnt
find_root_newton_raphson_once = fixed _ _

pub find_root_polynom_once : One find-root-polynom-reads.Learnt
find_root_polynom_once = fixed _ _

pub numbered_once : One numbered-reads.Learnt
numbered_once = fixed _ _

pub start_count_once : One start-count-reads.Learnt
start_count_once = fixed _ _

pub number_once : One number-reads.Learnt
number_once = fixed _ _

pub starts_once : One starts-reads.Learnt
starts_once = fixed _ _

pub bad_number_once : One bad-number-reads.Learnt
bad_number_once = fixed _ _
