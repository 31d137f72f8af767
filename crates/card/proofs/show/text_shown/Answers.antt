use Rattle.std.proofs.Common.{arith, rules}
use Rattle.reply.specs.Texts.{text_in}
use Rattle.card.proofs.Steps.{text_more, text_all}
use Rattle.card.proofs.show.text_shown.Goals as goal

pub loop-number-preserved : goal.loop-number-preserved
loop-number-preserved g c =
    let more = text_more _ _ (text_in c.loop-number.text) _ _ _ c.as_slice-numbers.result.now c.loop-number.number-index c.loop-number-test.true (omega arith) c.block_sent-block.ensures.value c.add.ensures.text c.loop-number.invariant.0 in
    (more.0, omega (arith, more.1, c.loop-number.invariant.1), search rules)

pub returns : goal.returns
returns g c = search (rules, text_all)
