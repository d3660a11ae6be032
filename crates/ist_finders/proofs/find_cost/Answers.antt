-- `ist_finders::find_cost` meets its contract: offset and length are those of the part. Assumes nothing.
use Rattle.ist_finders.proofs.find_cost.Goals as goal

pub returns : goal.returns
returns c =
    c.locate_cost-cost.ensures
