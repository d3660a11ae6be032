-- Where a number stands it is the one taken, and where none stands nothing is passed over. Assumes nothing.
use Rattle.std.specs.Prelude.{◌≡◌, List, ℕ, Option, Some, None}
use Rattle.std.specs.Option.{unwrap_or}
use Rattle.std.proofs.Common.{sym, ◌∙◌}
use Rattle.limits.specs.Limits.{number_bytes}
use Rattle.leb128.specs.declared.Number.{Number}
use Rattle.leb128.specs.Positions.{read_at}
use Rattle.codec.specs.Numbers.{taken_at}
use Rattle.codec.specs.NumberLaws.{taken_value, taken_refused}
use Rattle.codec.proofs.number_at.Goals as goal

unwrapped :
    (s : List ℕ) (at : ℕ) (o : Option Number) → o ≡ read_at number_bytes s at → unwrap_or o (record { value = 0; next = at }) ≡ taken_at s at
unwrapped s at (Some k) e = sym (taken_value s at k (sym e))
unwrapped s at None e = sym (taken_refused s at (sym e))

pub returns : goal.returns
returns c = c.unwrap_or.ensures ∙ unwrapped c.args.s.now c.args.at _ c.read_short.ensures
