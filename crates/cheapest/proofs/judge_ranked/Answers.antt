use Rattle.std.proofs.Common.{ℕ, ◌≡◌, ◌<◌, Bool, arith, refl, sym, ◌∙◌}
use Rattle.std.proofs.lemmas.List.{get_or-take}
use Rattle.loops.specs.Below.{all_below}
use Rattle.loops.specs.TestLaws.{all_miss, all_more}
use Rattle.cheapest.specs.Judge.{link_holds}
use Rattle.cheapest.specs.JudgeLaws.{judged_spare, link_other, link_spare, judge_links}
use Rattle.cheapest.proofs.judge_ranked.Goals as goal
use Rattle.cheapest.proofs.judge_ranked.Goals.{Start, else-is_spare, then-is_spare+else-not-spare_holds}

-- a link holds
abbrev holds : Start → ℕ → Bool
holds s =
    link_holds s.args.ranks.now s.args.end1.now s.args.end2.now s.args.cost.now s.args.mark.now s.args.mask.now

pub loop-e-init : goal.loop-e-init
unfolding all_below
loop-e-init c =
    refl

pub spare_holds-requires : goal.spare_holds-requires
spare_holds-requires c =
    judged_spare _ _ _ _ _ _ _ _ c.requires.judged c.requires.fall_along c.loop-e.e (omega arith)

pub returns-then-not-spare_holds : goal.returns-then-not-spare_holds
returns-then-not-spare_holds c =
    λ nodes same.
    let l = c.loop-e in
    let a = c.args in
    let here : l.e < a.edges = omega arith in
    sym (all_miss a.edges (holds (goal.at.returns-then-not-spare_holds c).Start) l.e here
    (link_spare a.ranks.now a.end1.now a.end2.now a.cost.now a.mark.now a.mask.now l.e (rw get_or-take at c.is_spare.ensures)
    c.if-is_spare.true
    ∙ sym c.spare_holds.ensures ∙ c.if-not-spare_holds.true))
    ∙ judge_links nodes a.edges a.count a.ranks.now a.end1.now a.end2.now a.cost.now a.mark.now a.mask.now c.requires.judged same

pub loop-e-preserved : goal.loop-e-preserved
loop-e-preserved c =
    let l = c.loop-e in
    let a = c.args in
    let here : l.e < a.edges = omega arith in
    all_more l.e (holds (goal.at.loop-e-preserved c).Start) l.invariant (elim c.if-is_spare.branch [
      | then-is_spare+else-not-spare_holds w ↦
          link_spare a.ranks.now a.end1.now a.end2.now a.cost.now a.mark.now a.mask.now l.e (rw get_or-take at c.is_spare.ensures)
          w.if-is_spare.true
          ∙ sym w.spare_holds.ensures ∙ w.if-not-spare_holds.false
      | else-is_spare w ↦
          link_other a.ranks.now a.end1.now a.end2.now a.cost.now a.mark.now a.mask.now l.e (rw get_or-take at c.is_spare.ensures)
          w.if-is_spare.false
    ])

pub returns : goal.returns
returns c =
    λ nodes same.
    let a = c.args in
    let all : c.loop-e.e ≡ a.edges = omega (arith, c.requires.judged.links) in
    sym (rw all at c.loop-e.invariant)
    ∙ judge_links nodes a.edges a.count a.ranks.now a.end1.now a.end2.now a.cost.now a.mark.now a.mask.now c.requires.judged same
