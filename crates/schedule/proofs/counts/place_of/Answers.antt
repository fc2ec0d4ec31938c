use Rattle.std.proofs.Common.{rules}
use Rattle.std.proofs.lemmas.List.Sorted.{answers_always}
use Rattle.schedule.specs.declared.counts.ThreadCount.{ThreadCount}
use Rattle.schedule.proofs.ThreadCounts.{place-searched, gap-searched}
use Rattle.schedule.proofs.counts.place_of.Goals as goal

pub returns-clause-place : goal.returns-clause-place
returns-clause-place c =
    place-searched c.args.counts.now c.requires c.args.thread c.binary_search_by_key.result c.binary_search_by_key.ensures.bound
    (c.binary_search_by_key.ensures.position (λ (e : ThreadCount). e.thread) (answers_always _ _ _ (λ f a r g k. search rules)))

pub returns-clause-gap : goal.returns-clause-gap
returns-clause-gap c =
    gap-searched c.args.counts.now c.requires c.args.thread c.binary_search_by_key.result c.binary_search_by_key.ensures.bound
    (c.binary_search_by_key.ensures.position (λ (e : ThreadCount). e.thread) (answers_always _ _ _ (λ f a r g k. search rules)))
