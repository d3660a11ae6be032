-- `labels::label_from` meets its contract. Assumes nothing.
use Rattle.labels.specs.LabelSteps.{labelled_from}
use Rattle.labels.proofs.label_from.Goals as goal

pub returns : goal.returns
returns c =
    let a = c.args in
    let x = c.explore-after in
    let l = c.less in
    labelled_from a.t.0 a.x a.live a.left a.words.now a.links.now a.label.now x.new.words x.new.links
    x.result x.ensures l.result l.ensures c.put_label.new.label c.put_label.ensures
