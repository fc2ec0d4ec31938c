use Rattle.std.proofs.Common.{◌≡◌, ◌++◌, ◌∷◌, [], List, ℕ, OnOk, codes, subst}
use Rattle.std.specs.List.{concat}
use Rattle.triage_report.proofs.lines.blocks.append_lock.Goals as goal

pub returns : goal.returns
returns c =
    subst (λ (name : List ℕ). OnOk c.append_pieces.result (c.append_pieces.new.out.items ≡ c.args.out.now.items ++ concat (c.args.place.now ∷ codes ": note: holds " ∷ name ∷ codes "\n" ∷ [])))
    c.lock_name.ensures c.append_pieces.ensures.ok
