use Rattle.std.proofs.Common.{◌≡◌, ◌∙◌, ◌<◌, ◌++◌, ◌∷◌, [], sym, ap, subst, length}
use Rattle.inverse_log.specs.declared.entry.Entry.TheVariants.{Proposed}
use Rattle.inverse_log.specs.Log.{Benched, board_of}
use Rattle.inverse_log.proofs.OtherLemmas.{judged_shows, proposed_bench}
use Rattle.inverse_log.proofs.bench.Bench.put_proposal.Goals as goal

pub push-requires : goal.push-requires
push-requires c = judged_shows c.self.inside c.self.invariant c.args.self.now.trace c.args.first c.args.second c.args.events.now c.args.schedule (sym (ap (λ (v : Benched). v.trace) c.self.view_is)) c.requires.judged

pub invariant_of-self-2 : goal.invariant_of-self-2
invariant_of-self-2 c =
    let s = c.self.inside in
    let judged = c.requires.judged in
    let room : length s.log.items < 1000000 = subst (λ (v : Benched). length v.log < 1000000) (sym c.self.view_is) c.requires.room in
    let log : c.add_entry.new.log.items ≡ s.log.items ++ Proposed c.args.client c.args.first c.args.second c.args.events.now ∷ [] = rw (c.in-Ok.ensures.log, c.in-Ok-of.ensures) at c.add_entry.ensures in
    proposed_bench s c.self.invariant c.add_entry.new.log.items c.args.self.now.trace c.args.client c.args.first c.args.second c.args.events.now c.args.schedule c.push.new.self c.add_nothing.new.steps.items
    (sym (ap (λ (v : Benched). v.trace) c.self.view_is)) room judged.2 judged.3 judged.0 judged.1 c.in-Ok-push.ensures.ok (rw (c.in-Ok.ensures.steps) at c.add_nothing.ensures) log c.requires.low c.requires.high

pub returns-clause-number : goal.returns-clause-number
returns-clause-number c = c.len-proposal.ensures ∙ ap length c.self.invariant.kept.board ∙ ap (λ (v : Benched). length (board_of v.trace v.log)) c.self.view_is

pub returns-clause-ok : goal.returns-clause-ok
returns-clause-ok c =
    let s = c.self.inside in
    let log : c.add_entry.new.log.items ≡ s.log.items ++ Proposed c.args.client c.args.first c.args.second c.args.events.now ∷ [] = rw (c.in-Ok.ensures.log, c.in-Ok-of.ensures) at c.add_entry.ensures in
    log ∙ ap (λ (v : Benched). v.log ++ Proposed c.args.client c.args.first c.args.second c.args.events.now ∷ []) c.self.view_is
