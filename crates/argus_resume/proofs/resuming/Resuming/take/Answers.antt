-- One more line was taken.
use Rattle.std.proofs.{Common.{arith, length-drop, rules}, lemmas.List.take_rest}
use Rattle.argus_resume.specs.JournalText.{journal_text}
use Rattle.argus_resume.proofs.Feeds.{count_more, text_more}
use Rattle.argus_resume.proofs.resuming.Resuming.take.Goals as goal

pub loop-bytes-preserved : goal.loop-bytes-preserved
loop-bytes-preserved c =
    let text = c.args.text.now in
    let from = c.loop-bytes.bytes in
    let some = rw (take_rest text from) at c.in-Ok.ensures.taken.0 in
    let longer = rw (take_rest text from) at c.in-Ok.ensures.taken.1 in
    record {
      within = omega (arith, some.within, length-drop from text, c.loop-bytes-test.true);
      text = text_more (journal_text c.args.self.now) (journal_text c.loop-bytes.self)
          (journal_text c.take_next.new.self) text from c.in-Ok.count c.loop-bytes.invariant.text longer;
      lines = count_more text from c.in-Ok.count c.loop-bytes.lines c.loop-bytes.invariant.lines some.one;
    }

pub returns-in-Err-clause-lines : goal.returns-in-Err-clause-lines
returns-in-Err-clause-lines c = search rules
