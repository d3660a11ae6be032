-- `ist_finders::find_link` meets its contract: offset and length are those of the part. Assumes nothing.
use Rattle.ist_finders.proofs.find_link.Goals as goal

pub returns : goal.returns
returns c =
    c.locate_link-numbers.ensures
