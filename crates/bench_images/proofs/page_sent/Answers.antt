use Rattle.std.proofs.Common.{rules, arith, refl, ◌≡◌, ap, ◌∙◌, set}
use Rattle.words.specs.Spans.{fill}
use Rattle.bench_images.specs.Sent.{word_sent, sent_next, sent_whole}
use Rattle.bench_images.proofs.page_sent.Goals as goal

pub loop-i-init : goal.loop-i-init
unfolding fill
loop-i-init c = refl

pub loop-i-preserved : goal.loop-i-preserved
loop-i-preserved c =
    let w : c.unwrap_or.result ≡ word_sent c.args.received.now c.args.p c.loop-i.i = search rules in
    ap (set c.loop-i.word-items c.loop-i.i) w ∙ sent_next c.args.received.now c.args.p _ _ c.loop-i.invariant

pub returns : goal.returns
returns c = sent_whole c.args.received.now c.args.p _ _ c.loop-i.invariant (omega arith)
