use Rattle.std.proofs.Common.{ℕ, ◌≡◌, ◌≤◌, length, refl, arith}
use mathlib.Core.List.{flat_map}
use Rattle.limits.specs.Limits.{number_bytes}
use Rattle.loops.specs.Loop.{gather}
use Rattle.number.specs.Number.{encode}
use Rattle.number.proofs.Laws.{encode_size_most}
use Rattle.codec.specs.ListLaws.{size_more, size_short}
use Rattle.codec.proofs.numbers_size.Goals as goal

-- no number takes more bytes than it may
few_bytes : (n x : ℕ) → n ≡ length (encode number_bytes x) → n ≤ number_bytes
few_bytes n x e = omega (arith, e, encode_size_most number_bytes x)

pub loop-i-init : goal.loop-i-init
unfolding gather flat_map
loop-i-init c = refl

pub overflow_add-total : goal.overflow_add-total
overflow_add-total c =
    omega (arith, few_bytes c.size_short-total.result _ c.size_short-total.ensures, size_short c.args.values.now c.loop-i.i)

pub loop-i-preserved : goal.loop-i-preserved
loop-i-preserved c = omega (arith, c.size_short-total.ensures, size_more c.args.values.now c.loop-i.i)
