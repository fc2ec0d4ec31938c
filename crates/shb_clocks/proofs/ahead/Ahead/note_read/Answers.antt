use Rattle.std.proofs.Common.{sym, ◌∙◌, true≢false}
use Rattle.rapid_text.specs.declared.event.Op.TheVariants.{Read}
use Rattle.event_index.proofs.CallerLemmas.{op_event}
use Rattle.shb_clocks.proofs.AheadLemmas.{LieAhead-unwritten, LieAhead-kept, LieAhead-noted}
use Rattle.shb_clocks.proofs.ahead.Ahead.note_read.Goals as goal

pub returns-then-is_apart : goal.returns-then-is_apart
returns-then-is_apart c =
    let v = op_event c.args.indexed.now.events c.args.event (Read c.args.variable) c.requires.read in
    record {
      ahead = LieAhead-noted c.args.indexed.now _ _ v.1 _ _ c.requires.ahead _ _ _ c.requires.variable v.2 c.index-rivals.ensures c.with_event.ensures;
    }

pub returns-else-is_apart : goal.returns-else-is_apart
returns-else-is_apart c =
    let v = op_event c.args.indexed.now.events c.args.event (Read c.args.variable) c.requires.read in
    record {
      ahead = LieAhead-kept c.args.indexed.now _ _ v.1 _ _ c.requires.ahead _ _ v.2 (sym c.in-Some.ensures.writer)
          (λ apart. true≢false (sym (c.if-is_apart.ensures.1 (rw c.requires.trace apart))));
    }

pub returns-in_default : goal.returns-in_default
returns-in_default c =
    let v = op_event c.args.indexed.now.events c.args.event (Read c.args.variable) c.requires.read in
    record {
      ahead = LieAhead-unwritten c.args.indexed.now _ _ v.1 _ _ c.requires.ahead _ v.2 (sym c.last_writer.ensures.writer ∙ c.in_default.is);
    }
