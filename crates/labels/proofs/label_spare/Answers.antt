-- `labels::label_spare` meets its contract. Assumes nothing.
use mathlib.Core.Path.{sym, ◌∙◌}
use Rattle.labels.specs.LabelSteps.{spare_without, spare_done, spare_labelled}
use Rattle.labels.proofs.label_spare.Goals as goal

pub returns-then-cols-s-ne0 : goal.returns-then-cols-s-ne0
returns-then-cols-s-ne0 c =
    let a = c.args in
    spare_without a.s.0 a.live a.cost.now a.ss.now a.cols.now a.slot.now a.words.now a.links.now a.label.now c.requires.room
    c.if-cols-s-ne0.true

pub returns-then-not-has : goal.returns-then-not-has
returns-then-not-has c =
    let a = c.args in
    let h = c.has in
    spare_done a.s.0 a.live a.cost.now a.ss.now a.cols.now a.slot.now a.words.now a.links.now a.label.now c.requires.room
    c.if-cols-s-ne0.false (sym h.ensures ∙ c.if-not-has.true)

pub returns : goal.returns
returns c =
    let a = c.args in
    let h = c.has in
    let x = c.cost_at-x in
    let w = c.without-left in
    let f = c.label_from in
    spare_labelled a.s.0 a.live a.cost.now a.ss.now a.cols.now a.slot.now a.words.now a.links.now a.label.now c.requires.room
    c.if-cols-s-ne0.false (sym h.ensures ∙ c.if-not-has.false) x.result x.ensures w.result
    w.ensures f.new.words f.new.links f.new.label f.result f.ensures
