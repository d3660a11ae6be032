-- The counts are asked first, then the links are read. Assumes nothing.
use Rattle.std.proofs.Common.{List, ℕ, ◌≡◌, ◌-◌, length, take, drop, refl, ap, ◌∙◌, length-drop, arith}
use Rattle.std.proofs.Math.Seq.{take_all}
use Rattle.std.proofs.lemmas.Result.{err_from_is_err_and}
use Rattle.frame.specs.Arrays.{columns}
use Rattle.job.specs.Reading.{LinksLoaded, links_loaded}
use Rattle.job.specs.LayoutLaws.{counts_passed, counts_refused, counts_read, links_left, links_read}
use Rattle.job.proofs.load_job.Goals as goal

-- the part lent to the reader of links is the frame behind the two counts
behind_counts : (s : List ℕ) (from : ℕ) → take (length s - from) (drop from s) ≡ drop from s
behind_counts s from = take_all (length s - from) (drop from s) (omega (arith, length-drop from s))

pub returns-in_err-counts-clause-header : goal.returns-in_err-counts-clause-header
returns-in_err-counts-clause-header c =
    let p = err_from_is_err_and c.from_residual.result c.from_residual.ensures.1 in
    rw (p.1, p.2) (counts_refused c.args.frame.now c.in_err-counts.field-0.0 c.in_err-counts.ensures)

pub slice_bounds-part-count : goal.slice_bounds-part-count
slice_bounds-part-count c =
    (counts_passed c.args.frame.now (λ i. (c.type_inv.frame i).fits) c.in_ok-counts.counts c.in_ok-counts.ensures).within

pub slice_bounds-part-start : goal.slice_bounds-part-start
slice_bounds-part-start c =
    (counts_passed c.args.frame.now (λ i. (c.type_inv.frame i).fits) c.in_ok-counts.counts c.in_ok-counts.ensures).within

pub read_links-requires-clause-places : goal.read_links-requires-clause-places
read_links-requires-clause-places c =
    (counts_passed c.args.frame.now (λ i. (c.type_inv.frame i).fits) c.in_ok-counts.counts c.in_ok-counts.ensures).limit

pub read_links-requires-clause-numbers : goal.read_links-requires-clause-numbers
read_links-requires-clause-numbers c =
    let k = c.in_ok-counts.counts in
    let p = counts_passed c.args.frame.now (λ i. (c.type_inv.frame i).fits) k c.in_ok-counts.ensures in
    links_left c.args.frame.now k p _ (behind_counts c.args.frame.now k.behind)

pub returns-clause-header : goal.returns-clause-header
returns-clause-header c =
    let k = c.in_ok-counts.counts in
    counts_read c.args.frame.now k (counts_passed c.args.frame.now (λ i. (c.type_inv.frame i).fits) k c.in_ok-counts.ensures)

pub returns-clause-links : goal.returns-clause-links
returns-clause-links c =
    let k = c.in_ok-counts.counts in
    let p = counts_passed c.args.frame.now (λ i. (c.type_inv.frame i).fits) k c.in_ok-counts.ensures in
    ap (λ (l : LinksLoaded). l.links)
    (c.read_links.ensures ∙ links_read c.args.frame.now k p _ (behind_counts c.args.frame.now k.behind)
    (links_loaded 0 (columns c.args.end1.now c.args.end2.now c.args.cost.now c.args.mark.now)) refl)
