-- `lists::locate_cost_links` meets its contract: the list is asked the six questions as its frame would be. Assumes nothing.
use Rattle.codec.specs.Numbers.{place_of}
use Rattle.finding.specs.PartLaws.{cost_told}
use Rattle.listed.proofs.ListServiceLaws.{given_located}
use Rattle.lists.proofs.locate_cost_links.Goals as goal

pub locate_cost_held-requires : goal.locate_cost_held-requires
locate_cost_held-requires c = c.accept_links-accepted.ensures.job

pub returns : goal.returns
returns c =
    given_located c.accept_links-accepted.ensures.list c.args.offered.now c.args.edge.0 (place_of c.locate_cost_held.result)
    (cost_told c.args.offered.now (λ i. (c.type_inv.offered i).fits) _ _ _ _ c.locate_cost_held.ensures.located
    c.locate_cost_held.ensures.refused) c.locate_cost_held.ensures.refused
