use Rattle.std.proofs.Common.{◌≡◌, ℕ, suc, ◌+◌, length, Some, get_or, sym, ap, ◌∙◌, arith}
use Rattle.std.specs.List.{slice_get}
use Rattle.std.proofs.lemmas.Option.{slice_get-get_or}
use Rattle.indexmap.specs.IndexMap.{with_entries, with_value_at}
use Rattle.race_groups.specs.Waiting.{waiting_at, with_more}
use Rattle.race_groups.specs.declared.rows.Sums.{Sums}
use Rattle.race_groups.proofs.SettledLemmas.{can_settle, length-settled, settled, settled-all, settled-at, settled-next, settled-none}
use Rattle.race_groups.proofs.rows.settle.Goals as goal

pub loop-at-init : goal.loop-at-init
loop-at-init c = ap (with_entries c.args.rows.now) (sym (settled-none c.args.waiting.now.cells.items c.args.rows.now.entries))

pub settle_at-requires : goal.settle_at-requires
settle_at-requires c =
    let cells = c.args.waiting.now.cells.items in
    let es = c.args.rows.now.entries in
    let i = c.loop-at.at in
    let is = ap (λ m. m.entries) c.loop-at.invariant in
    record {
      at = omega (arith, ap length is, length-settled cells i es, c.loop-at-test.true, c.len-at-end.ensures.len);
      fits = λ e at.
          let there = sym (settled-at cells i es) ∙ ap (λ xs. slice_get xs i) (sym is) ∙ at in
          can_settle c.args.rows.now c.len-at-end.ensures.unique i e there cells c.requires;
    }

pub loop-at-preserved : goal.loop-at-preserved
loop-at-preserved c =
    let cells = c.args.waiting.now.cells.items in
    let m = c.args.rows.now in
    let es = m.entries in
    let i = c.loop-at.at in
    let d : (ℕ × ℕ) × Sums = ((0, 0), record { all = 0; candidates = 0; ordered = 0; guarded = 0 }) in
    let e = get_or es i d in
    let at : slice_get es i ≡ Some e = slice_get-get_or es i d (omega (arith, c.loop-at-test.true, c.len-at-end.ensures.len)) in
    let is = ap (λ n. n.entries) c.loop-at.invariant in
    let there = ap (λ xs. slice_get xs i) is ∙ settled-at cells i es ∙ at in
    let more = with_more e.1 (waiting_at cells e.0.0 e.0.1) in
    let next : suc i ≡ i + 1 = omega arith in
    c.settle_at.ensures e there ∙ ap (λ n. with_value_at n i more) c.loop-at.invariant ∙ ap (with_entries m) (settled-next cells i es e at) ∙ ap (λ (n : ℕ). with_entries m (settled cells n es)) next

pub returns : goal.returns
returns c =
    let cells = c.args.waiting.now.cells.items in
    let m = c.args.rows.now in
    let all : c.loop-at.at ≡ length m.entries = omega (arith, c.loop-at-test.false, c.len-at-end.ensures.len, c.loop-at.auto.at-end) in
    c.loop-at.invariant ∙ ap (λ (n : ℕ). with_entries m (settled cells n m.entries)) all ∙ ap (with_entries m) (settled-all cells m.entries)
