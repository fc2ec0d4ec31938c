use Rattle.std.proofs.Common.{◌≡◌, ◌∷◌, ◌∙◌, All, sym, ap, subst}
use Rattle.std.specs.Vec.Iter.{into_iter_items}
use Rattle.calls.proofs.ToldLemmas.{Handing, handing-more, handing-seat, job_more}
use Rattle.calls.proofs.seating.seat_all.Goals as goal

pub loop-script-preserved : goal.loop-script-preserved
loop-script-preserved c =
    let steps : into_iter_items c.loop-script.script-iterator ≡ c.in-Some.script ∷ into_iter_items c.next.new.self = c.in-Some.ensures.steps.0 in
    let takes = c.in-Some-take.ensures.some in
    let pushed = c.in_ok-push.ensures.items in
    let same = c.loop-script.invariant.0 in (
      ap (λ s. s.site) takes.out ∙ same,
      subst (λ l. All (λ job. job.0.site ≡ c.args.seats.now.site) l) (sym pushed) (job_more _ _ _ c.loop-script.invariant.1 (takes.site ∙ same)),
      λ more fresh. subst (λ l. Handing c.args.seats.now.site more c.args.scripts.items l (into_iter_items c.next.new.self) c.take.new.self.rows) (sym pushed)
          (handing-more _ _ _ _ _ _ _ _ _ (subst (λ l. Handing c.args.seats.now.site more c.args.scripts.items c.loop-script.jobs.items l c.loop-script.seats.rows) steps (c.loop-script.invariant.2 more fresh)) takes),
    )

pub returns-in_default-clause-fault : goal.returns-in_default-clause-fault
returns-in_default-clause-fault c more fresh =
    let steps : into_iter_items c.loop-script.script-iterator ≡ c.in-Some.script ∷ into_iter_items c.next.new.self = c.in-Some.ensures.steps.0 in
    absurd (handing-seat _ _ _ _ _ _ _ (subst (λ l. Handing c.args.seats.now.site more c.args.scripts.items c.loop-script.jobs.items l c.loop-script.seats.rows) steps (c.loop-script.invariant.2 more fresh)) c.in_default.ensures.none.1)
