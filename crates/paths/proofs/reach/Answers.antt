-- `paths::reach` meets its contract. Assumes nothing.
use native.Mathlib.Omega.{arith}
use Rattle.paths.specs.GrowLaws.{reach_held}
use Rattle.paths.proofs.reach.Goals as goal

pub returns-clause-state : goal.returns-clause-state
returns-clause-state c =
    let a = c.args in
    reach_held a.front a.mask.now a.u.0 a.v.0 a.k.0 c.with.result c.flip.result
    (omega (arith, c.requires.second, c.requires.places)) c.with.ensures c.flip.ensures
