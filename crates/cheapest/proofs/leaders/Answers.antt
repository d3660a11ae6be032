-- `cheapest::leaders` meets its contract. Assumes nothing.
use native.Mathlib.Omega.{arith}
use mathlib.Core.Path.{ap, ◌∙◌}
use mathlib.Core.Bool.{◌||◌}
use lib.Dec.{eqb}
use Rattle.bits.specs.BitLaws.{first_below}
use Rattle.cheapest.specs.LeadLaws.{lead_none, lead_some}
use Rattle.cheapest.proofs.leaders.Goals as goal

pub returns-then-word-eq0 : goal.returns-then-word-eq0
returns-then-word-eq0 c =
    lead_none c.args.word c.args.falling c.if-word-eq0.true

pub with-requires : goal.with-requires
with-requires c =
    omega (arith, first_below 64 c.args.word (omega arith) (omega arith))

pub returns : goal.returns
returns c =
    let a = c.args in
    lead_some a.word a.falling c.lowest.result c.with.result (omega arith) (omega arith) c.lowest.ensures
    (λ k. c.with.ensures k ∙ ap (λ b. b || eqb c.lowest.result k) (c.less.ensures k))
