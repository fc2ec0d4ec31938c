use Rattle.std.proofs.Common.{◌||◌, ◌++◌, ◌∙◌, ℕ, false, List, length, slice_index_or, append-nil, ap}
use Rattle.window.specs.Heads.{level_names}
use Rattle.window.specs.Streams.{is_named}
use Rattle.window.specs.Tables.{found_name}
use Rattle.window.proofs.levels.with_found.Goals as goal

pub returns : goal.returns
returns c other =
    let known = level_names c.args.known.now in
    let found = found_name c.args.raw.now.threads (λ t. slice_index_or c.args.found.now t false) (length c.args.raw.now.threads) other in
    c.in_ok-grown.ensures other
    ∙ c.in_ok-note_found.ensures other
    ∙ ap (λ (ns : List (List ℕ)). is_named (known ++ ns) other || found) c.no_names-names.ensures
    ∙ ap (λ (ns : List (List ℕ)). is_named ns other || found) (append-nil known)
