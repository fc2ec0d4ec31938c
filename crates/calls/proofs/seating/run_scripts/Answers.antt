use Rattle.std.proofs.Common.{◌++◌, ◌+◌, ◌∙◌, replicate, length, None, suc, ap, sym, subst, arith, vec_len}
use Rattle.rapid_text.specs.Recording.{Recording}
use Rattle.workspace_lock.specs.Seating.{Site, fresh_rows}
use Rattle.calls.specs.Jobs.{AnswerJobs, told_text}
use Rattle.calls.specs.Requests.{AreBehind}
use Rattle.calls.specs.Searches.{further_clients}
use Rattle.calls.specs.Told.{fresh_bench}
use Rattle.calls.proofs.ToldLemmas.{told_whole, answer_each, numbered}
use Rattle.calls.proofs.seating.run_scripts.Goals as goal

pub run_beside-requires-clause-rows : goal.run_beside-requires-clause-rows
run_beside-requires-clause-rows g c κs within =
    let opened = c.in_ok-seats.ensures in
    let site = c.in_ok-seats.seats.site in
    let more = further_clients c.args.running.workers in
    let clients = ap (λ n. n + c.clients_beside.result) c.len.ensures ∙ ap (λ n. vec_len c.args.scripts + n) c.clients_beside.ensures.count in
    let handed = c.in_ok-jobs.ensures.jobs more (opened.2 ∙ ap (fresh_rows site 1) clients) in
    let count = length c.in_ok-jobs.jobs.items in
    handed.1 ∙ ap (λ (s : Site). replicate count None ++ fresh_rows s (suc count) more) (sym c.seat_all.ensures.seats)

pub give_all-requires : goal.give_all-requires
give_all-requires g c =
    λ k d below. c.in_ok-told.ensures.site c.in_ok-seats.seats.site c.in_ok-jobs.ensures.site k d below ∙ sym (c.run_beside.ensures.seats ∙ c.seat_all.ensures.seats)

pub returns-clause-told : goal.returns-clause-told
returns-clause-told g c =
    let opened = c.in_ok-seats.ensures in
    let site = c.in_ok-seats.seats.site in
    let workers = c.args.running.workers in
    let more = further_clients workers in
    let clients = ap (λ n. n + c.clients_beside.result) c.len.ensures ∙ ap (λ n. vec_len c.args.scripts + n) c.clients_beside.ensures.count in
    let handed = c.in_ok-jobs.ensures.jobs more (opened.2 ∙ ap (fresh_rows site 1) clients) in
    let told = c.in_ok-told.told.items in
    let jobs = c.in_ok-jobs.jobs.items in
    let shared = c.in_ok-shared.ensures.ok in
    let answers = subst (λ trace. AnswerJobs trace jobs told) shared c.in_ok-told.ensures.told in
    let numbers = numbered _ site 1 jobs told (answer_each _ jobs told answers) handed.0.1 in
    let printed = c.in_ok-give_all.ensures.text in
    let found = c.in_ok-told.ensures.rows in
    let behind = subst (λ (s : Site). AreBehind workers c.args.indexed s (suc (length jobs)) found.0) c.seat_all.ensures.seats
    (subst (λ (trace : Recording). AreBehind workers trace c.seat_all.new.seats.site (suc (length jobs)) found.0) shared found.1) in
    let back = c.in_ok-give_all.ensures.back found.0 numbers (found.2 ∙ ap (λ n. replicate n None ++ found.0) (sym answers.0)) in
    let logged = c.in_ok-append_log.ensures in
    told_whole c.args.indexed c.args.scripts.items workers site jobs told found.0 c.give_all.new.seats logged.0 c.give_all.new.out.items c.append_log.new.out.items
    (opened.0 ∙ ap fresh_bench shared)
    (omega (arith, opened.1, c.len.ensures, c.clients_beside.ensures.count, c.args.scripts.ok.0))
    handed.0
    answers
    printed.0
    (printed.1 ∙ ap (λ l. l ++ told_text told) c.new-out.ensures.items)
    behind
    back
    logged.1
    logged.2
