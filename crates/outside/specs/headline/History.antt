-- A list of calls, each with its client.
use Rattle.std.specs.Prelude.{◌≡◌, ◌≤◌, ℕ, List, [], ◌∷◌, Result}
use Rattle.dependence.specs.Limits.{client_limit}
use Rattle.rapid_text.specs.Recording.{Recording}
use Rattle.inverse_log.specs.declared.entry.Entry.{Entry}
use Rattle.inverse_log.specs.declared.reply.Reply.{Reply}
use Rattle.inverse_log.specs.declared.refusal.Refusal.{Refusal}
use Rattle.inverse_log.specs.Answer.{Called}
use Rattle.outside.specs.declared.headline.driving.Asked.{Asked}

abbrev pub IsClient : Asked → Type 0
IsClient a = (1 ≤ a.client) × (a.client ≤ client_limit)

-- from L the calls lead to M, each answered as its contract promises
abbrev pub Follows : Recording → List Entry → List Asked → List Entry → Type 0
Follows T L [] M = L ≡ M
Follows T L (a ∷ A) M = (r : Result Reply Refusal) × (N : List Entry) × Called T L a.client a.call r N × Follows T N A M
