use Rattle.std.proofs.Common.{rules, Some, None, arith, ap, ◌∙◌, ◌≡◌, [], ◌∷◌}
use Rattle.atomic_table.specs.Table.{rest}
use Rattle.workspace_lock.specs.Places.{holds, mark_of, ticket_in, saw, solo}
use Rattle.workspace_lock.proofs.PlaceLemmas.{passes_from, same_seen, bench_is, passed_is}
use Rattle.workspace_lock.proofs.seat.give_back.Goals as goal
use Rattle.workspace_lock.proofs.seat.give_back.Goals.{then-before-log_len, else-before-log_len}

pub fetch_add-served-requires : goal.fetch_add-served-requires
fetch_add-served-requires c = let m = c.args.place.now.me in let k = mark_of m.0 in let t = ticket_in m.0.stage in let b = c.args.bench in let a = c.log_len.ensures.len in
    let is : c.if-before-log_len.place.me ≡ (solo (saw k b.log) m.0.turns (holds t), (0, None) ∷ []) =
    elim c.if-before-log_len.branch [
      | then-before-log_len w ↦ ap (λ p. p.me) w.place-is ∙ w.publish.ensures.2
      | else-before-log_len w ↦ ap (λ p. p.me) w.place-is ∙ same_seen m k m.0.turns t ((0, None) ∷ []) b.log c.requires.place.2 c.requires.bench.1 (let n = w.if-before-log_len.false in omega arith)
    ] in (search rules, search rules, passes_from _ _ _ _ c.exchange.new.seat.me (saw k b.log) m.0.turns t b (c.exchange.ensures.3 ∙ ap (λ x. (x.0, (0, Some b) ∷ rest x.1)) is) (bench_is _ _ c.requires.bench.2))

pub returns : goal.returns
returns c = let m = c.args.place.now.me in let k = mark_of m.0 in let t = ticket_in m.0.stage in let b = c.args.bench in let a = c.log_len.ensures.len in
    let is : (c.if-before-log_len.place.table_id ≡ c.args.place.now.table_id) × (c.if-before-log_len.place.id ≡ c.args.place.now.id) × (c.if-before-log_len.place.me ≡ (solo (saw k b.log) m.0.turns (holds t), (0, None) ∷ [])) =
    elim c.if-before-log_len.branch [
      | then-before-log_len w ↦ (ap (λ p. p.table_id) w.place-is ∙ w.publish.ensures.0, ap (λ p. p.id) w.place-is ∙ w.publish.ensures.1, ap (λ p. p.me) w.place-is ∙ w.publish.ensures.2)
      | else-before-log_len w ↦ (ap (λ p. p.table_id) w.place-is, ap (λ p. p.id) w.place-is, ap (λ p. p.me) w.place-is ∙ same_seen m k m.0.turns t ((0, None) ∷ []) b.log c.requires.place.2 c.requires.bench.1 (let n = w.if-before-log_len.false in omega arith))
    ] in (
      c.fetch_add-served.ensures.0 ∙ (c.exchange.ensures.0 ∙ is.0),
      c.fetch_add-served.ensures.1 ∙ (c.exchange.ensures.1 ∙ is.1),
      passed_is c.exchange.new.seat.me c.fetch_add-served.new.seat.me (saw k b.log) m.0.turns t _ (c.exchange.ensures.3 ∙ ap (λ x. (x.0, (0, Some b) ∷ rest x.1)) is.2) c.fetch_add-served.ensures.2,
    )
