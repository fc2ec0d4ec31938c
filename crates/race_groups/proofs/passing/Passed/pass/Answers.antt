use Rattle.std.proofs.Common.{◌≡◌, ℕ, ◌+◌, ◌-◌, ◌==◌, ◌≤◌, length, take, drop, count_by, slice_index, ap, ◌∙◌, le_refl, arith}
use Rattle.std.proofs.lemmas.List.{length-take}
use Rattle.std.proofs.lemmas.Option.{slice_get-get_or}
use Rattle.event_index.specs.Lookups.{events_of}
use Rattle.event_index.proofs.CallerLemmas.{place_of-events_of}
use Rattle.race_groups.proofs.PassedLemmas.{IsPassed-moved, passed_few}
use Rattle.race_groups.proofs.passing.Passed.pass.Goals as goal

pub count-requires-clause-room : goal.count-requires-clause-room
count-requires-clause-room c = λ k lt.
    let T = c.args.indexed.now.events in
    let lane = events_of T c.args.thread in
    let e = slice_index lane c.args.at in
    let m = c.args.self.now.upto in
    let here : slice_index c.thread_events.result.now c.args.at ≡ e = ap (λ xs. slice_index xs c.args.at) c.thread_events.ensures.events in
    let from : m ≤ e = c.requires.passed.after_it c.args.at (le_refl c.args.at) c.requires.at in
    let few = passed_few T c.args.numbers.now c.args.thread m k in
    let is = c.requires.passed.counted k lt in
    let low = (place_of-events_of T c.args.thread c.args.at e (slice_get-get_or lane c.args.at 0 c.requires.at)).0 in
    let given = slice_index c.thread_events.result.now c.args.at in
    let size : length (take (given - m) (drop m c.args.numbers.now)) ≤ given - m = omega (arith, length-take (given - m) (drop m c.args.numbers.now)) in
    omega (arith, few, is, from, low, here, size, c.len-len.ensures.well_formed.events)

pub returns-clause-passed : goal.returns-clause-passed
returns-clause-passed c =
    let T = c.args.indexed.now.events in
    let numbers = c.args.numbers.now in
    let self = c.args.self.now in
    let m = self.upto in
    let given = slice_index c.thread_events.result.now c.args.at in
    let here = ap (λ xs. slice_index xs c.args.at) c.thread_events.ensures.events in
    IsPassed-moved T numbers c.args.thread c.args.at self _ c.requires.passed c.requires.len c.requires.at c.count.ensures.len (ap (λ (k : ℕ). k + 1) here)
    (λ k lt.
    c.count.ensures.counted k lt
    ∙ ap (λ (g : ℕ). slice_index self.counts.items k + count_by (λ j. j == k) (take (g - m) (drop m numbers))) here)
