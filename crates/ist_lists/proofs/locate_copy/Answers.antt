-- `ist_lists::locate_copy` meets its contract: the part's offset and length. Assumes nothing.
use Rattle.listed.proofs.LentLaws.{lent_as, lent_located}
use Rattle.ist_lists.proofs.locate_copy.Goals as goal

pub returns : goal.returns
returns c = λ ys copy.
    let a = c.args in
    lent_located a.stations ys a.answer.now (λ i. (c.type_inv.answer i).fits) a.link _
    (lent_as a.stations ys _ _ copy c.locate_cost_links-cost.ensures)
