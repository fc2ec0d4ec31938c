use Rattle.std.proofs.Common.{◌≡◌, ◌&&◌, ◌||◌, Bool, true, List, ℕ, bytes_eq, ap, sym, ◌∙◌, rules}
use Rattle.rapid_text.proofs.NameNumbers.{has}
use Rattle.window.specs.Heads.{names_of}
use Rattle.window.proofs.KnownLemmas.{has_noted}
use Rattle.window.proofs.levels.note_if.Goals as goal

pub returns : goal.returns
returns c other =
    let asked : c.args.asked ≡ true = search rules in
    ap (λ (ns : List (List ℕ)). has ns other) c.in_ok-note.ensures
    ∙ has_noted (names_of c.args.names.now) c.args.name.now other
    ∙ sym (ap (λ (b : Bool). has (names_of c.args.names.now) other || (b && bytes_eq other c.args.name.now)) asked)
