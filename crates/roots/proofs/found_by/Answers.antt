use Rattle.roots.proofs.CallLaws.{by_method}
use Rattle.roots.proofs.found_by.Goals as goal

pub returns-in-Brent : goal.returns-in-Brent
returns-in-Brent c = search by_method

pub returns-in-RegulaFalsi : goal.returns-in-RegulaFalsi
returns-in-RegulaFalsi c = search by_method

pub returns-in-Secant : goal.returns-in-Secant
returns-in-Secant c = search by_method

pub returns-in-NewtonRaphson : goal.returns-in-NewtonRaphson
returns-in-NewtonRaphson c = search by_method

pub returns-in-Polynom : goal.returns-in-Polynom
returns-in-Polynom c = search by_method
