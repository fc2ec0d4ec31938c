use Rattle.std.proofs.Common.{◌||◌, List, ℕ, Vec, Option, sym, ap, ◌∙◌}
use Rattle.std.specs.declared.alloc.Global.{Global}
use Rattle.deadlock_report.specs.Known.{has_key, is_in, keys_if, pattern_key}
use Rattle.deadlock_report.specs.declared.known.Block.{Block}
use Rattle.deadlock_report.proofs.KnownLemmas.{noted-two}
use Rattle.deadlock_report.proofs.known.note.Goals as goal

pub returns : goal.returns
returns c key =
    let b : Block = c.in-Some.block in
    let old : List (Vec ℕ Global) = c.args.known.now.keys in
    noted-two old c.insert.new.self.keys c.insert-2.new.self.keys c.in_ok-first_key.field-0 c.in_ok-second_key.field-0
    (pattern_key b.hold.now b.request.now b.other_hold.now b.other_request.now)
    (pattern_key b.other_hold.now b.other_request.now b.hold.now b.request.now) c.in_ok-first_key.ensures c.in_ok-second_key.ensures c.in_ok-insert.ensures.keys
    c.in_ok-insert-2.ensures.keys key
    ∙ ap (λ (block : Option Block). is_in (keys_if block) key || has_key old key) (sym c.in-Some.is)
