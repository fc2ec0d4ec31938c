use Rattle.std.proofs.Common.{◌≡◌, ◌+◌, ◌∷◌, ◌++◌, [], false, rules, subst, sym, append-nil, Ok, Some, None, inl, inr}
use Rattle.std.specs.Prelude.{is_err}
use Rattle.script_language.specs.Scripts.{Asked, batch_reading, script_line_reading}
use Rattle.script_language.specs.Simple.{simple_call, AsksLine}
use Rattle.script_language.specs.declared.simple.Found.TheVariants.{Simple as FoundSimple, Batch as FoundBatch}
use Rattle.script_language.proofs.ReadingLemmas.{IsUnderway, batch_reads, is_ok-held, underway-count, underway-more}
use Rattle.script_language.proofs.reading.read_script.Goals as goal

pub overflow_add-line : goal.overflow_add-line
overflow_add-line c =
    let count = underway-count c.args.text.now c.loop-raw.lines _ c.in-Some.raw.now c.loop-raw.line _ c.loop-raw.invariant c.in-Some.ensures.some in
    search rules

pub loop-raw-preserved-in-Ok-None : goal.loop-raw-preserved-in-Ok-None
loop-raw-preserved-in-Ok-None c =
    let reads : script_line_reading c.in-Some.raw.now ≡ Ok None = search rules in
    underway-more c.args.text.now c.loop-raw.lines _ c.in-Some.raw.now c.loop-raw.line _ c.loop-raw.invariant c.in-Some.ensures.some None _ reads (sym (append-nil c.loop-raw.script))

pub loop-raw-preserved : goal.loop-raw-preserved
loop-raw-preserved c =
    let reads : script_line_reading c.in-Some.raw.now ≡ Ok (Some (c.in-Ok-Some.client, c.in-Ok-Some.call)) = search rules in
    let asked : Asked = record { line = c.loop-raw.line + 1; client = c.in-Ok-Some.client; call = c.in-Ok-Some.call } in
    let pushed : c.push-in-Ok-Some.new.self ≡ c.loop-raw.script ++ asked ∷ [] = search rules in
    underway-more c.args.text.now c.loop-raw.lines _ c.in-Some.raw.now c.loop-raw.line _ c.loop-raw.invariant c.in-Some.ensures.some (Some (c.in-Ok-Some.client, c.in-Ok-Some.call)) _ reads pushed

pub loop-raw-preserved-else-is_err : goal.loop-raw-preserved-else-is_err
loop-raw-preserved-else-is_err c =
    let found = c.in-Some-default-Simple in
    let same : found.field-0-1 ≡ FoundSimple found.simple = search rules in
    let asks = subst (λ f. AsksLine found.client f (script_line_reading c.in-Some.raw.now)) same found.ensures.asks in
    let done : is_err c.push_simple.result ≡ false = search rules in
    let held = is_ok-held c.push_simple.result done c.push_simple.ensures in
    let pushed = rw same at held in
    underway-more c.args.text.now c.loop-raw.lines _ c.in-Some.raw.now c.loop-raw.line _ c.loop-raw.invariant c.in-Some.ensures.some (Some (found.client, simple_call found.simple pushed.0)) _ (asks.1 pushed.0) pushed.1

pub loop-raw-preserved-else-is_err-2 : goal.loop-raw-preserved-else-is_err-2
loop-raw-preserved-else-is_err-2 c =
    let found = c.in-Some-default-Batch in
    let same : found.field-0-1 ≡ FoundBatch found.words = search rules in
    let asks = subst (λ f. AsksLine found.client f (script_line_reading c.in-Some.raw.now)) same found.ensures.asks in
    let call = c.in-Ok.call in
    let done : is_err c.push.result ≡ false = search rules in
    let pushed = is_ok-held c.push.result done c.push.ensures in
    let judged = rw same at c.in-Ok.ensures in
    let read : batch_reading found.words ≡ Ok call = elim judged [ inl none ↦ absurd cc | inr is ↦ sym is ] in
    underway-more c.args.text.now c.loop-raw.lines _ c.in-Some.raw.now c.loop-raw.line _ c.loop-raw.invariant c.in-Some.ensures.some (Some (found.client, call)) _ (batch_reads _ found.client found.words call asks read) pushed
