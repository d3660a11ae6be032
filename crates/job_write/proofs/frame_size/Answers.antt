use Rattle.std.proofs.Common.{List, ℕ, ◌≡◌, ◌≤◌, ◌+◌, ◌*◌, length, refl, ap, ◌∙◌, arith}
use mathlib.Core.List.{flat_map}
use Rattle.loops.specs.Loop.{gather}
use Rattle.limits.specs.Limits.{number_bytes}
use Rattle.frame.specs.Job.{bytes_of}
use Rattle.frame.specs.Arrays.{columns}
use Rattle.codec.specs.Numbers.{numbers_at}
use Rattle.codec.specs.ListLaws.{size_short}
use Rattle.job_write.specs.Groups.{group}
use Rattle.job_write.specs.WritingLaws.{groups_size, frame_grouped}
use Rattle.job_write.proofs.frame_size.Goals as goal

-- no group takes more bytes than its numbers may
few_bytes : (size count : ℕ) (ns : List ℕ) → size ≡ length (bytes_of (numbers_at count ns)) → count ≤ 4 → size ≤ 4 * number_bytes
few_bytes size count ns e l = omega (arith, e, size_short ns count)

pub loop-i-init : goal.loop-i-init
unfolding gather flat_map
loop-i-init c = (refl, omega arith)

pub overflow_add-total : goal.overflow_add-total
overflow_add-total c =
    omega (
      arith,
      c.requires,
      few_bytes c.numbers_size-total.result c.group_at-g.result.count c.group_at-g.result.numbers c.numbers_size-total.ensures
          c.group_at-g.ensures.few,
    )

pub loop-i-preserved : goal.loop-i-preserved
loop-i-preserved c =
    let held = columns c.args.end1.now c.args.end2.now c.args.cost.now c.args.mark.now in
    let g = c.group_at-g in (
      omega (
        arith,
        c.numbers_size-total.ensures,
        groups_size (group c.args.nodes c.args.edges held) c.loop-i.i _ g.ensures.listed,
      ),
      omega (arith, few_bytes c.numbers_size-total.result g.result.count g.result.numbers c.numbers_size-total.ensures g.ensures.few),
    )

pub returns : goal.returns
returns c =
    let held = columns c.args.end1.now c.args.end2.now c.args.cost.now c.args.mark.now in
    let all : c.loop-i.i ≡ c.args.edges + 1 = omega arith in
    rw all at c.loop-i.invariant.0 ∙ ap length (frame_grouped c.args.nodes c.args.edges held)
