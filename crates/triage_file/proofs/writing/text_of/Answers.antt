use Rattle.std.proofs.Common.{◌≡◌, ◌++◌, IsOk, string_bytes, ap, ◌∙◌, rules}
use Rattle.std.proofs.lemmas.Fmt.{contents_after_writes}
use Rattle.toml_writer.specs.Text.{string_text}
use Rattle.triage_file.proofs.writing.text_of.Goals as goal

pub returns-in-Ok : goal.returns-in-Ok
returns-in-Ok c =
    let ok : IsOk c.write_string.result = search rules in
    let written = c.write_string.ensures c.new-f.ensures.plain ok in
    let same : string_bytes c.into_inner.result ≡ string_text c.as_str.result.now =
    ap string_bytes c.into_inner.ensures ∙ contents_after_writes _ string_bytes (λ w l v t. t) _ (string_text c.as_str.result.now) _ written.wrote ∙ ap (λ l. l ++ string_text c.as_str.result.now) (ap string_bytes c.new-f.ensures.writer ∙ c.in_ok-with_capacity.ensures.bytes) in
    same ∙ ap string_text (c.as_str.ensures.value ∙ c.in_ok-text.ensures.lossy)
