-- `replaying::replay_held` meets its contract: the log is heard and the costs written; a refusal writes nothing. Assumes nothing.
use mathlib.Core.Path.{◌≡◌, ap, ◌∙◌}
use mathlib.Core.Option.{some}
use Rattle.std.specs.Prelude.{Ok, Err}
use Rattle.std.proofs.lemmas.Result.{err_from_is_err_and}
use Rattle.std.specs.Option.{ok_or}
use Rattle.limits.specs.declared.Refusal.TheVariants.{Log}
use Rattle.limits.specs.Refusals.{number_of}
use Rattle.limits.specs.ResultLaws.{refusal_nonzero, same_err}
use Rattle.sheet.specs.Reading.{costs_at}
use Rattle.sheet_read.specs.ApplyLaws.{given_some, given_none}
use Rattle.replaying.specs.Replayed.{packets_told}
use Rattle.replaying.specs.ReplayedLaws.{log_replayed_of}
use Rattle.replaying.specs.HeldCounts.{priced_held, countable_held}
use Rattle.replaying.specs.ReplaySteps.{told_refused, replay_six, replay_nine, replay_broken, replay_whole, replay_first, with_outcome, with_told}
use Rattle.replaying.proofs.replay_held.Goals as goal

pub returns-in-Err : goal.returns-in-Err
returns-in-Err c =
    let a = c.args in
    let q = c.in-Err.refusal in
    λ s k.
    log_replayed_of s a.log.now a.area.now k.bytes (λ i. (c.type_inv.log i).fits) (Err q) _
    (replay_six (rw c.in-Err.is at k) a.log.now a.area.now) (told_refused (number_of q) s a.log.now (refusal_nonzero q))

pub until_cheapest-watched-requires : goal.until_cheapest-watched-requires
until_cheapest-watched-requires c =
    let (j, h) = rw c.in-Ok.is at c.requires in
    record { by_index = (_, countable_held h); ranged_costs = priced_held h }

pub returns-in_err-heard : goal.returns-in_err-heard
returns-in_err-heard c =
    let a = c.args in
    let none = c.in_err-heard.ensures.ok_part in
    let nine = same_err _ _ (c.in_err-heard.ensures.value ∙ ap (λ o. ok_or o Log) none) in
    let p = err_from_is_err_and c.from_residual.result c.from_residual.ensures.1 in
    λ s k.
    rw (p.1, p.2, nine)
    (log_replayed_of s a.log.now a.area.now k.bytes (λ i. (c.type_inv.log i).fits) (Err Log) _
    (replay_nine (rw c.in-Ok.is at k) a.log.now a.area.now (rw none at c.until_cheapest-watched.ensures.so_far))
    (told_refused 9 s a.log.now (refusal_nonzero Log)))

pub returns-then-not-hear_rest : goal.returns-then-not-hear_rest
returns-then-not-hear_rest c =
    let a = c.args in
    let rest = c.hear_rest in
    let heard = rw c.in_ok-heard.ensures.ok_part at c.until_cheapest-watched.ensures.so_far in
    λ s k.
    let held = rw c.in-Ok.is at k in
    log_replayed_of s a.log.now a.area.now k.bytes (λ i. (c.type_inv.log i).fits) (Err Log) _
    (replay_nine held a.log.now a.area.now
    (replay_broken held a.log.now a.area.now _ _ heard
    (given_none rest.result (costs_at rest.new.costs) _ c.if-not-hear_rest.true rest.ensures)))
    (told_refused 9 s a.log.now (refusal_nonzero Log))

pub returns-in_err-length : goal.returns-in_err-length
returns-in_err-length c =
    let a = c.args in
    let q = c.in_err-length.field-0.0 in
    let rest = c.hear_rest in
    let xs = rest.new.costs in
    let heard = rw c.in_ok-heard.ensures.ok_part at c.until_cheapest-watched.ensures.so_far in
    let left : some (costs_at xs) ≡ _ = given_some rest.result (costs_at xs) _ c.if-not-hear_rest.false rest.ensures in
    let p = err_from_is_err_and c.from_residual-in_err-length.result c.from_residual-in_err-length.ensures.1 in
    λ s k.
    rw (p.1, p.2)
    (log_replayed_of s a.log.now a.area.now k.bytes (λ i. (c.type_inv.log i).fits) (Err q) _
    (c.in_err-length.ensures ∙ replay_whole (rw c.in-Ok.is at k) a.log.now a.area.now _ _ heard xs left)
    (told_refused (number_of q) s a.log.now (refusal_nonzero q)))

pub returns : goal.returns
returns c =
    let a = c.args in
    let rest = c.hear_rest in
    let xs = rest.new.costs in
    let heard = rw c.in_ok-heard.ensures.ok_part at c.until_cheapest-watched.ensures.so_far in
    let left : some (costs_at xs) ≡ _ = given_some rest.result (costs_at xs) _ c.if-not-hear_rest.false rest.ensures in
    λ s k.
    let held = rw c.in-Ok.is at k in
    log_replayed_of s a.log.now a.area.now k.bytes (λ i. (c.type_inv.log i).fits) _ _
    (with_outcome (Ok c.in_ok-length.length) _ _ a.area.now c.then_some-first.result c.in_ok-length.ensures ∙
    replay_whole held a.log.now a.area.now _ _ heard xs left)
    (with_told (Ok c.in_ok-length.length) c.then_some-first.result s a.log.now
    (ap packets_told c.then_some-first.ensures ∙ replay_first held a.log.now a.area.now _ _ heard xs left))
