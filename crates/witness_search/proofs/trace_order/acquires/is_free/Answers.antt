use Rattle.std.proofs.Common.{◌≡◌, ◌+◌, ◌-◌, ltb, length, get_or, sym, ◌∙◌, arith, inl, inr}
use Rattle.std.proofs.lemmas.Bool.{cases_lt, lt-ltb, ltb-true, false_from_ne_true}
use Rattle.std.proofs.lemmas.List.Elements.{Contains-get_or}
use Rattle.std.proofs.lemmas.Option.{none-some, same_Some}
use Rattle.event_index.proofs.CallerLemmas.{thread_within}
use Rattle.witness_search.proofs.trace_order.LaneLemmas.{free_first, free_last, held_last, last_top, empty_list}
use Rattle.witness_search.proofs.trace_order.acquires.is_free.Goals as goal

pub returns-then-count-eq0 : goal.returns-then-count-eq0
returns-then-count-eq0 c =
    let T = c.args.indexed.now.events in
    let xs = c.args.events.now in
    sym (free_first T c.len-len.ensures.disciplined c.args.lock c.args.thread c.args.event c.requires.acquires c.requires.of xs c.requires.rising
    c.requires.members (empty_list xs c.if-count-eq0.true))

pub section-requires : goal.section-requires
section-requires c =
    let xs = c.args.events.now in
    let n = length xs - 1 in
    let it = Contains-get_or xs n 0 (omega (arith, c.if-count-eq0.false)) in
    thread_within c.args.indexed.now.events (get_or xs n 0) c.args.thread ((c.requires.members (get_or xs n 0)).0 it).0.1

pub returns-in-None : goal.returns-in-None
returns-in-None c =
    let T = c.args.indexed.now.events in
    let xs = c.args.events.now in
    let n = length xs - 1 in
    let long : n + 1 ≡ length xs = omega (arith, c.if-count-eq0.false) in
    let it = Contains-get_or xs n 0 (omega (arith, long)) in
    sym (held_last T c.len-len.ensures.disciplined c.args.lock c.args.thread c.args.event c.requires.acquires c.requires.of xs c.requires.rising
    c.requires.members (get_or xs n 0) it (last_top xs c.requires.rising n 0 long)
    (λ k ends. absurd (none-some k (c.in-None.ensures.section ∙ ends))))

pub returns-in-Some : goal.returns-in-Some
returns-in-Some c =
    let T = c.args.indexed.now.events in
    let xs = c.args.events.now in
    let n = length xs - 1 in
    let long : n + 1 ≡ length xs = omega (arith, c.if-count-eq0.false) in
    let it = Contains-get_or xs n 0 (omega (arith, long)) in
    let top = last_top xs c.requires.rising n 0 long in
    elim (cases_lt c.in-Some.end c.args.event) [
      | inl lt ↦
          lt-ltb c.in-Some.end c.args.event lt
          ∙ sym (free_last T c.len-len.ensures.disciplined c.args.lock c.args.thread c.args.event c.requires.acquires c.requires.of xs c.requires.rising
          c.requires.members (get_or xs n 0) it top c.in-Some.end (sym c.in-Some.ensures.section) lt)
      | inr late ↦
          false_from_ne_true (ltb c.in-Some.end c.args.event) (λ h. absurd (let lt = ltb-true c.in-Some.end c.args.event h in omega (arith, lt, late)))
          ∙ sym (held_last T c.len-len.ensures.disciplined c.args.lock c.args.thread c.args.event c.requires.acquires c.requires.of xs c.requires.rising
          c.requires.members (get_or xs n 0) it top
          (λ k ends. let one : c.in-Some.end ≡ k = same_Some c.in-Some.end k (c.in-Some.ensures.section ∙ ends) in omega (arith, one, late)))
    ]
