-- The digits that the library makes are those of the definition.
use Rattle.std.proofs.Common.{arith, ◌≡◌, ◌∙◌}
use Rattle.codec.specs.WritingLaws.{put_more}
use Rattle.text.specs.Text.{decimal}
use Rattle.text.proofs.TextLaws.{made_decimal}
use Rattle.text.proofs.put_number.Goals as goal

pub returns : goal.returns
returns c =
    let text : c.as_bytes.result.now ≡ decimal c.args.n
    = c.as_bytes.ensures.value ∙ c.format.ensures.text ∙ made_decimal 19 c.args.n (omega arith) (omega arith) in
    rw (← text) (put_more _ _ _ _ _ _ _ _ c.put-next.ensures c.put.ensures.next c.put.ensures.area)
