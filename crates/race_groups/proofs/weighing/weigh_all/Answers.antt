use Rattle.std.proofs.Common.{◌≡◌, ◌≢◌, ℕ, ◌<◌, ◌+◌, inl, inr, length, set, slice_index, sym, ap, ◌∙◌, arith, get_or-set_same, get_or-set_other}
use Rattle.std.proofs.lemmas.Bool.{cases_eq, cases_lt}
use Rattle.race_groups.specs.Counting.{weight, weigh}
use Rattle.race_groups.proofs.WeightLemmas.{weight-le}
use Rattle.race_groups.proofs.weighing.weigh_all.Goals as goal
use Rattle.race_groups.proofs.weighing.weigh_all.Goals.{then-thread-later, else-thread-later}

pub weigh_on-requires-clause-room : goal.weigh_on-requires-clause-room
weigh_on-requires-clause-room g c = λ k lt.
    let few = weight-le c.args.classed.indexed.now c.threads-thread-end.ensures.well_formed c.args.classed.numbers.now c.loop-thread.fronts k c.args.left c.requires.left c.loop-thread.invariant.inside in
    omega (arith, few, c.loop-thread.invariant.moved k lt, c.requires.room k (omega (arith, lt, c.loop-thread.auto.sums)))

below_other : (t n : ℕ) → t < n + 1 → t ≢ n → t < n
below_other t n lt ne = elim (cases_lt t n) [ inl less ↦ less | inr not_less ↦ absurd (ne (omega (arith, lt, not_less))) ]

pub loop-thread-preserved : goal.loop-thread-preserved
loop-thread-preserved g c =
    let T = c.args.classed.indexed.now.events in
    let threads = length c.args.classed.indexed.now.threads in
    let end = g.C.Cut.end_of c.args.cut.now c.args.later.event in
    let u = c.args.later.thread in
    let thread = c.loop-thread.thread in
    let fronts = c.loop-thread.fronts in
    let front = c.if-thread-later.fronts in
    let inv = c.loop-thread.invariant in
    let here : thread < length fronts = omega (arith, c.loop-thread-test.true, c.threads-thread-end.ensures.len, inv.fronts_len) in
    elim c.if-thread-later.branch [
      | then-thread-later w ↦
          let to = w.end-to.result in
          let is : front ≡ set fronts thread to = w.fronts-is ∙ w.weigh_on.ensures.fronts in
          let at : slice_index front thread ≡ end thread = ap (λ xs. slice_index xs thread) is ∙ get_or-set_same fronts thread to 0 here ∙ w.end-to.ensures.end in
          let other : (k : ℕ) → k ≢ thread → slice_index front k ≡ slice_index fronts k = λ k ne. ap (λ xs. slice_index xs k) is ∙ get_or-set_other fronts thread k to 0 ne in
          let moved_to : (t : ℕ) → t ≡ thread → slice_index front t ≡ end t = λ t e. ap (slice_index front) e ∙ at ∙ sym (ap end e) in
          record {
            fronts_len = c.if-thread-later.auto.fronts ∙ inv.fronts_len;
            own = other u (λ e. w.if-thread-later.true (sym e)) ∙ inv.own;
            done = λ t lt ne. elim (cases_eq t thread) [ inl e ↦ moved_to t e | inr nt ↦ other t nt ∙ inv.done t (below_other t thread lt nt) ne ];
            behind = λ t lt ne. elim (cases_eq t thread) [
              | inl e ↦ let now = moved_to t e in omega (arith, now)
              | inr nt ↦ let now = other t nt in let old = inv.behind t lt ne in omega (arith, now, old)
            ];
            inside = λ t lt. elim (cases_eq t thread) [
              | inl e ↦ let now = moved_to t e in let fits = c.requires.within t lt in omega (arith, now, fits)
              | inr nt ↦ let now = other t nt in let old = inv.inside t lt in omega (arith, now, old)
            ];
            moved = λ k lt.
                let f = weigh c.args.classed.numbers.now c.args.left k in
                let sums_now = ap (λ xs. slice_index xs k) w.sums-is in
                let fronts_now = ap (λ xs. weight T threads xs f) w.fronts-is in
                let step = w.weigh_on.ensures.moved k (omega (arith, lt, ap length w.sums-is)) in
                let old = inv.moved k (omega (arith, lt, c.if-thread-later.auto.sums)) in
                omega (arith, sums_now, fronts_now, step, old);
          }
      | else-thread-later w ↦
          let other : (k : ℕ) → slice_index front k ≡ slice_index fronts k = λ k. ap (λ xs. slice_index xs k) w.fronts-is in
          record {
            fronts_len = c.if-thread-later.auto.fronts ∙ inv.fronts_len;
            own = other u ∙ inv.own;
            done = λ t lt ne. other t ∙ inv.done t (below_other t thread lt (λ e. ne (e ∙ w.if-thread-later.false))) ne;
            behind = λ t lt ne. let now = other t in let old = inv.behind t lt ne in omega (arith, now, old);
            inside = λ t lt. let now = other t in let old = inv.inside t lt in omega (arith, now, old);
            moved = λ k lt.
                let f = weigh c.args.classed.numbers.now c.args.left k in
                let sums_now = ap (λ xs. slice_index xs k) w.sums-is in
                let fronts_now = ap (λ xs. weight T threads xs f) w.fronts-is in
                let old = inv.moved k (omega (arith, lt, c.if-thread-later.auto.sums)) in
                omega (arith, sums_now, fronts_now, old);
          }
    ]
